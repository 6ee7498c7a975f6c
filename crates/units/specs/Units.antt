-- How many bytes so many entries take: 20 bits each, and zero bits fill the last byte, so ⌈5n/2⌉ bytes.
use Rattle.std.specs.Prelude.{ℕ, ◌+◌, ◌*◌, ◌/◌, ◌≤◌, ◌<◌}
use Rattle.std.proofs.Common.{arith}

abbrev pub bytes_of : ℕ → ℕ
bytes_of n = (5 * n + 1) / 2

-- They have room for every bit of the entries, and less than a byte more.
pub bytes_of_least : (n : ℕ) → (20 * n ≤ 8 * bytes_of n) × (8 * bytes_of n < 20 * n + 8)
bytes_of_least n = omega arith

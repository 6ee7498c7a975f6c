-- The numbers of a list two by two: chunk i of two has number 2i and the next (two_of), and number 2i is left after i chunks
-- (left_of).
use Prim.Native.Nat.{ℕ, zero, suc, ◌+◌, ◌*◌, ◌/◌, ◌<◌}
use mathlib.Core.Path.{◌≡◌, ◌∙◌}
use mathlib.Core.List.{List, []}
use native.Mathlib.Nat.{not-suc-le-zero}
use native.Mathlib.Omega.{arith}
use lib.ListN.{length, get_or, drop}
use Rattle.std.specs.Simd.{first_chunks}
use Rattle.std.proofs.lemmas.List.{get_or-take, get_or-drop}

chunk_of : (k i : ℕ) (xs : List ℕ) → i < k
    → (get_or (get_or (first_chunks 2 k xs) i []) 0 0 ≡ get_or xs (2 * i) 0)
    × (get_or (get_or (first_chunks 2 k xs) i []) 1 0 ≡ get_or xs (2 * i + 1) 0)
chunk_of zero i xs l = absurd (not-suc-le-zero l)
chunk_of (suc k) zero xs l = (get_or-take 2 xs 0 0 (omega arith), get_or-take 2 xs 1 0 (omega arith))
chunk_of (suc k) (suc i) xs l =
    let later = chunk_of k i (drop 2 xs) (omega arith) in
    let first : 2 * suc i ≡ 2 + 2 * i = omega arith in
    let second : 2 * suc i + 1 ≡ 2 + (2 * i + 1) = omega arith in
    (later.0 ∙ rw first (get_or-drop 2 xs (2 * i) 0), later.1 ∙ rw second (get_or-drop 2 xs (2 * i + 1) 0))

pub two_of : {twos : List (List ℕ)} (xs : List ℕ) (i : ℕ) → twos ≡ first_chunks 2 (length xs / 2) xs → i < length xs / 2
    → (get_or (get_or twos i []) 0 0 ≡ get_or xs (2 * i) 0) × (get_or (get_or twos i []) 1 0 ≡ get_or xs (2 * i + 1) 0)
two_of xs i are l = rw are (chunk_of (length xs / 2) i xs l)

pub left_of : {left : List ℕ} (xs : List ℕ) (i : ℕ) → left ≡ drop (length xs / 2 * 2) xs → i ≡ length xs / 2 → get_or left 0 0 ≡ get_or xs (2 * i) 0
left_of xs i is all =
    let there : 2 * i ≡ length xs / 2 * 2 + 0 = omega arith in
    rw (is, there) (get_or-drop (length xs / 2 * 2) xs 0 0)

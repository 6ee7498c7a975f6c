-- What is read from a payload as one number, taken apart: the 32 bits of the head (size_parts), the 20 bits of an entry
-- (entry_parts, entry_read, entry_small) and the 40 bits of two (even_entry, odd_entry); and what their few bits allow
-- (few_ranks_in, channel_byte); size_pairs says how many pairs there are.
use Prim.Native.Nat.{ℕ, ◌+◌, ◌*◌, ◌/◌, ◌%◌, ◌≤◌, ◌<◌}
use mathlib.Core.Path.{◌≡◌, ap, ◌∙◌}
use mathlib.Core.List.{List}
use native.Mathlib.Omega.{arith}
use Rattle.units.specs.declared.Size.{Size}
use Rattle.units.specs.Limits.{most_ranks, size_with}
use Rattle.fields.specs.Fields.{field_at}
use Rattle.fields.proofs.Bits.{field_bound, field_left, field_right}
use Rattle.tables.specs.Payload.{signals_in, channels_in, ranks_in, pairs_in, size_in, entry_bit, entry_bits, entry_in}

-- The size z that a payload says: its 4 bits of R hold at most 15, whatever the payload, and its pairs are the payload's.
module _ (p : List ℕ) {z : Size} (is_size : z ≡ size_in p) where
  pub few_ranks_in : z.ranks ≤ most_ranks
  unfolding size_in ranks_in
  few_ranks_in = rw is_size (omega (arith, field_bound p 16 4))

  pub size_pairs : z.pairs.0 ≡ pairs_in p
  unfolding size_in
  size_pairs = ap (λ (s : Size). s.pairs.0) is_size

pub channel_byte : (p : List ℕ) (i : ℕ) → (entry_in p i).channel < 256
unfolding entry_in
channel_byte p i = field_bound p (entry_bit i + 8) 8

-- The 32 bits of the head, read as one number, are its four numbers.
pub size_parts : (p : List ℕ) (x : ℕ) → x ≡ field_at p 0 32 → size_with (x / 16777216) (x / 65536 % 256) (x / 4096 % 16) (x % 4096) ≡ size_in p
unfolding size_in signals_in channels_in ranks_in pairs_in
size_parts p x e =
    rw (
      e,
      field_left p 0 8 24,
      field_left p 0 16 16,
      field_right p 0 8 8,
      field_left p 0 20 12,
      field_right p 0 16 4,
      field_right p 0 20 12,
    )

-- The 20 bits of entry i, read as one number x: its key and its rank.
pub record EntryParts (p : List ℕ) (i x : ℕ) : Type 0 where
  pub signal : x / 16 / 256 ≡ (entry_in p i).signal
  pub channel : x / 16 % 256 ≡ (entry_in p i).channel
  pub rank : x % 16 ≡ (entry_in p i).rank

pub entry_parts : (p : List ℕ) (i x : ℕ) → x ≡ entry_bits p i → EntryParts p i x
unfolding entry_in entry_bits
entry_parts p i x e =
    let at = entry_bit i in
    let key : x / 16 ≡ field_at p at 16 = rw e (field_left p at 16 4) in
    record {
      signal = rw key (field_left p at 8 8);
      channel = rw key (field_right p at 8 8);
      rank = rw e (field_right p at 16 4);
    }

-- Two entries are five bytes, the one with the even index first.
module _ (p : List ℕ) (two : ℕ) {x at : ℕ} (read : x ≡ field_at p (8 * at) 40) (start : at ≡ 4 + 5 * two) where
  from_entry : x ≡ field_at p (entry_bit (2 * two)) 40
  unfolding entry_bit
  from_entry = let bit : 8 * at ≡ 32 + 20 * (2 * two) = omega arith in read ∙ ap (λ k. field_at p k 40) bit

  pub even_entry : x / 1048576 ≡ entry_bits p (2 * two)
  unfolding entry_bits
  even_entry = ap (λ (y : ℕ). y / 1048576) from_entry ∙ field_left p (entry_bit (2 * two)) 20 20

  pub odd_entry : x % 1048576 ≡ entry_bits p (2 * two + 1)
  unfolding entry_bits entry_bit
  odd_entry =
      let bit : entry_bit (2 * two) + 20 ≡ entry_bit (2 * two + 1) = omega arith in
      ap (λ (y : ℕ). y % 1048576) from_entry ∙ field_right p (entry_bit (2 * two)) 20 20 ∙ ap (λ k. field_at p k 20) bit

-- an entry's bits, read as a field, and how large they are
pub entry_read : (p : List ℕ) (i : ℕ) {x at : ℕ} → x ≡ field_at p at 20 → at ≡ 32 + 20 * i → x ≡ entry_bits p i
unfolding entry_bits entry_bit
entry_read p i e start = e ∙ ap (λ k. field_at p k 20) start

pub entry_small : (p : List ℕ) (i : ℕ) {x : ℕ} → x ≡ entry_bits p i → x < 1048576
unfolding entry_bits
entry_small p i e = rw e (field_bound p (entry_bit i) 20)

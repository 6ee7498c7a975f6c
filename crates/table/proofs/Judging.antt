-- Judging the entries: one law for each way through judging one entry by its bits; that this is judging it alone (bits_judged); then
-- what the loop keeps (Judging) and the laws that carry it on (judging_more) and end it (judging_stop, judging_done).
-- Leans on proofs/Tests for what the tests of one entry mean.
use Prim.Native.Nat.{ℕ, zero, suc, ◌+◌, ◌/◌, ◌%◌, ◌≤◌, ◌<◌}
use mathlib.Core.Path.{◌≡◌, refl, ap, sym, ◌∙◌}
use mathlib.Core.Bool.{true, false}
use mathlib.Core.List.{List}
use native.Mathlib.Decide.{ℕ_discrete, dec_lt}
use native.Mathlib.Numerals.{add-one}
use native.Mathlib.Omega.{arith}
use lib.Dec.{ltb}
use borrow.Author.Tests.{lt-ltb, le-ltb}
use Rattle.units.specs.declared.Size.{Size}
use Rattle.units.specs.declared.refusals.Refusal.{Refusal}
use Rattle.units.specs.Limits.{most_ranks}
use Rattle.units.specs.declared.refusals.Refusal.TheVariants.{NotInTable, NotAbove}
use Rattle.tables.specs.Payload.{pairs_in, size_in, entry_bits, entry_in}
use Rattle.tables.proofs.Parts.{channel_byte, size_pairs, entry_parts}
use Rattle.std.specs.Prelude.{Result, Ok, Err}
use Rattle.std.specs.Result.{result_and, IsErrAnd}
use Rattle.table.specs.Checking.{strays, sinks, judged_alone, judged}
use Rattle.table.specs.Judging.{entry_of, key_of, floor_at, judged_bits}
use Rattle.table.proofs.Tests.{in_table_passes, strays_signal, strays_channel, strays_no_rank, strays_rank}
use Rattle.table.proofs.Tests.{above_passes, keys_ascend, keys_sink}

-- ---- one entry by its bits

module _ (z : Size) (floor i bits : ℕ) where
  stray : strays z (entry_of bits) ≡ true → Err (NotInTable i) ≡ judged_bits z floor i bits
  unfolding judged_bits
  stray e = rw e

  pub stray_signal : z.signals ≤ bits / 16 / 256 → Err (NotInTable i) ≡ judged_bits z floor i bits
  stray_signal l = stray (strays_signal z (entry_of bits) l)

  pub stray_channel : z.channels ≤ bits / 16 % 256 → Err (NotInTable i) ≡ judged_bits z floor i bits
  stray_channel l = stray (strays_channel z (entry_of bits) l)

  -- rank 0, which comes round to 15, or a rank above the table's
  pub stray_rank : z.ranks ≤ (bits % 16 + 15) % 16 → Err (NotInTable i) ≡ judged_bits z floor i bits
  stray_rank l = pick (ℕ_discrete (bits % 16) 0)
    where
      pick : Dec (bits % 16 ≡ 0) → Err (NotInTable i) ≡ judged_bits z floor i bits
      pick (yes none) = stray (strays_no_rank z (entry_of bits) none)
      pick (no some) = stray (strays_rank z (entry_of bits) (omega arith))

  module _ (few : z.ranks ≤ most_ranks) (signal : bits / 16 / 256 < z.signals) (channel : bits / 16 % 256 < z.channels)
      (rank : (bits % 16 + 15) % 16 < z.ranks) where
    stays : strays z (entry_of bits) ≡ false
    stays =
        in_table_passes z (entry_of bits)
        (record { signal = signal; channel = channel; some_rank = omega arith; rank = omega arith })

    pub sunk : bits / 16 < floor → Err (NotAbove i) ≡ judged_bits z floor i bits
    unfolding judged_bits
    sunk l = rw (stays, lt-ltb (bits / 16) floor l)

    pub stands : floor ≤ bits / 16 → Ok z ≡ judged_bits z floor i bits
    unfolding judged_bits
    stands l = rw (stays, le-ltb (bits / 16) floor l)

-- ---- which is the entry judged alone

-- Row 9 by keys.

sinks_not : (p : List ℕ) (i : ℕ) → floor_at p i ≤ key_of (entry_in p i) → sinks p i ≡ false
unfolding sinks floor_at
sinks_not p zero l = refl
sinks_not p (suc i) l =
    rw (above_passes (entry_in p i) (entry_in p (suc i)) (keys_ascend (entry_in p i) (entry_in p (suc i)) (channel_byte p (suc i)) (omega arith)))

sinks_so : (p : List ℕ) (i : ℕ) → key_of (entry_in p i) < floor_at p i → sinks p i ≡ true
unfolding sinks floor_at
sinks_so p zero l = absurd (omega arith)
sinks_so p (suc i) l = rw (keys_sink (entry_in p i) (entry_in p (suc i)) (channel_byte p i) (omega arith))

-- The 20 bits of entry i, read as one number x, are its key and then its rank.
entry_key : (p : List ℕ) (i x : ℕ) → x ≡ entry_bits p i → x / 16 ≡ key_of (entry_in p i)
entry_key p i x read = let parts = entry_parts p i x read in omega (arith, parts.signal, parts.channel)

module _ (p : List ℕ) (i : ℕ) {floor x : ℕ} (least : floor ≡ floor_at p i) (read : x ≡ entry_bits p i) where
  is_entry : entry_of x ≡ entry_in p i
  is_entry =
      let parts = entry_parts p i x read in
      λ t. record { signal = parts.signal t; channel = parts.channel t; rank = parts.rank t }

  by_keys : ltb (x / 16) floor ≡ sinks p i
  by_keys = pick (dec_lt (x / 16) floor)
    where
      pick : Dec (x / 16 < floor) → ltb (x / 16) floor ≡ sinks p i
      pick (yes l) = lt-ltb (x / 16) floor l ∙ sym (sinks_so p i (omega (arith, entry_key p i x read)))
      pick (no l) = le-ltb (x / 16) floor (omega arith) ∙ sym (sinks_not p i (omega (arith, entry_key p i x read)))

  pub bits_judged : {z : Size} → z ≡ size_in p → judged_bits z floor i x ≡ judged_alone p i
  unfolding judged_bits judged_alone
  bits_judged is_size = rw (is_size, is_entry, by_keys)

-- ---- all entries

-- A refusal of the first i entries is what any more of them come to.
refused_stands : (p : List ℕ) (i n : ℕ) {r : Refusal} → judged p i ≡ Err r → i ≤ n → judged p n ≡ Err r
unfolding judged
refused_stands p i zero e l = let first : i ≡ 0 = omega arith in rw first at e
refused_stands p i (suc n) {r} e l = pick (ℕ_discrete i (suc n)) (refused_stands p i n e)
  where
    pick : Dec (i ≡ suc n) → (i ≤ n → judged p n ≡ Err r) → result_and (judged p n) (judged_alone p n) ≡ Err r
    pick (yes last) ih = rw last at e
    pick (no earlier) ih = rw (ih (omega arith))

-- After i entries of the table of size z, none of them at fault.
pub record Judging (p : List ℕ) (z : Size) (floor i : ℕ) : Type 0 where
  pub is_size : z ≡ size_in p
  pub within : i ≤ z.pairs.0
  pub good : judged p i ≡ Ok z
  pub least : floor ≡ floor_at p i

pub judging_none : {p : List ℕ} {z : Size} → z ≡ size_in p → Judging p z 0 0
unfolding judged floor_at
judging_none is_size = record { is_size = is_size; within = omega arith; good = sym (ap Ok is_size); least = refl }

pub judging_same : {p : List ℕ} {z : Size} {f g i j : ℕ} → f ≡ g → i ≡ j → Judging p z f i → Judging p z g j
judging_same e e' so_far = rw (e, e') at so_far

module _ {p : List ℕ} {z : Size} {floor i : ℕ} (so_far : Judging p z floor i) where
  counted : z.pairs.0 ≡ pairs_in p
  counted = size_pairs p so_far.is_size

  -- Once all entries are judged, the table is accepted.
  pub judging_done : i ≡ z.pairs.0 → Ok z ≡ judged p (pairs_in p)
  judging_done all = sym (rw (all ∙ counted) at so_far.good)

  -- Entry i, judged by its 20 bits
  module _ (r : Result (Unit {0}) Refusal) {x : ℕ} (by_bits : result_and r (Ok z) ≡ judged_bits z floor i x) (read : x ≡ entry_bits p i) where
    so_now : judged p (suc i) ≡ result_and r (Ok z)
    unfolding judged
    so_now = rw so_far.good (sym (by_bits ∙ bits_judged p i so_far.least read so_far.is_size))

    -- is the first at fault, and `?` hands its refusal on,
    pub judging_stop : {q : Refusal} → r ≡ Err q → i < z.pairs.0 → (handed : Result (Unit {0}) Refusal) → IsErrAnd handed (λ e. e ≡ q)
        → result_and handed (Ok z) ≡ judged p (pairs_in p)
    judging_stop refused more (Ok y) same = absurd same
    judging_stop refused more (Err e) same =
        rw same (sym (refused_stands p (suc i) (pairs_in p) (rw refused at so_now) (omega (arith, counted))))

    -- or is not at fault. Its bits say which key is the least that may come next.
    pub judging_more : {y : Unit {0}} → r ≡ Ok y → i < z.pairs.0 → Judging p z (x / 16 + 1) (i + 1)
    unfolding floor_at
    judging_more passed more =
        rw (add-one i)
        (record {
          is_size = so_far.is_size;
          within = more;
          good = rw passed at so_now;
          least = omega (arith, entry_key p i x read);
        })

-- What acceptance means: checking accepts exactly the payloads to which none of rows 4 to 9 applies. Main results, at the end:
-- accepted_sound, sound_accepted, accepted_size, accepted_limits, and checking_refused (a refusal is never success). Leans on proofs/Tests and proofs/Rows.
use Prim.Native.Nat.{ℕ, zero, suc, ◌≤◌, ◌<◌}
use mathlib.Core.Path.{◌≡◌, refl, sym, ◌∙◌}
use mathlib.Core.Bool.{Bool, true, false, cond, ◌||◌, false≢true}
use mathlib.Core.List.{List}
use native.Mathlib.Nat.{not-suc-le-zero}
use native.Mathlib.Decide.{ℕ_discrete}
use native.Mathlib.Omega.{arith}
use lib.ListN.{length}
use lib.Dec.{eqb, ltb}
use borrow.Author.Tests.{ltb-false, eqb-true, eq-eqb, not-false}
use Rattle.units.specs.declared.Size.{Size}
use Rattle.units.specs.declared.refusals.Refusal.{Refusal}
use Rattle.units.specs.Limits.{Limits, most_signals, most_channels, most_pairs}
use Rattle.units.specs.Refusals.{number_of}
use Rattle.units.specs.declared.refusals.Refusal.TheVariants.{Short, TooLarge, WrongLength, DirtyFill, NotInTable, NotAbove}
use Rattle.tables.specs.Payload.{pairs_in, size_in, entry_bit, entry_in, payload_length, fill_in}
use Rattle.tables.specs.Sound.{Sound}
use Rattle.tables.proofs.Ascending.{InTable}
use Rattle.tables.proofs.Parts.{few_ranks_in}
use Rattle.std.specs.Prelude.{Result, Ok, Err}
use Rattle.std.specs.Result.{result_and}
use Rattle.table.specs.Checking.{outsized, strays, sinks, judged_alone, judged, checked_of}
use Rattle.table.proofs.Tests.{in_table_passes, passed_in_table, above_passes, passed_above}
use Rattle.table.proofs.Rows.{past_row_6}

-- A check that accepts has passed each test on its way.

pub no_refusal {ℓ} : {X : Type ℓ} {T : Type 0} {r : Refusal} {x : T} → Err r ≡ Ok x → X
no_refusal e = let clash : ◌≡◌ {A = ℕ} 0 1 = cc in absurd (omega arith)

passed_by : (t : Bool) (refusal : Refusal) (next : Result Size Refusal) {z : Size} → cond t (Err refusal) next ≡ Ok z
    → (t ≡ false) × (next ≡ Ok z)
passed_by true refusal next e = no_refusal e
passed_by false refusal next e = (refl, e)

passed_through : (t : Bool) (refusal : Refusal) (next : Result Size Refusal) {z : Size} → cond t next (Err refusal) ≡ Ok z
    → (t ≡ true) × (next ≡ Ok z)
passed_through true refusal next e = (refl, e)
passed_through false refusal next e = no_refusal e

neither : (a b : Bool) → (a || b) ≡ false → (a ≡ false) × (b ≡ false)
neither true b e = absurd (false≢true (sym e))
neither false b e = (refl, e)

went_on : (r next : Result Size Refusal) {z : Size} → result_and r next ≡ Ok z → ((y : Size) × (r ≡ Ok y)) × (next ≡ Ok z)
went_on (Err x) next e = no_refusal e
went_on (Ok y) next e = ((y, refl), e)

-- Row 5 does not apply to a table of this size.
fitting : (p : List ℕ) → outsized (size_in p) ≡ false → Limits (size_in p)
unfolding outsized
fitting p passed =
    let z = size_in p in
    let signals = neither (ltb most_signals z.signals) _ passed in
    let others = neither (ltb most_channels z.channels) _ signals.1 in
    record {
      few_signals = ltb-false most_signals z.signals signals.0;
      few_channels = ltb-false most_channels z.channels others.0;
      few_ranks = few_ranks_in p refl;
      few_pairs = ltb-false most_pairs z.pairs.0 others.1;
    }

-- Neither row 8 nor row 9 applies to entry i.
record Faultless (p : List ℕ) (i : ℕ) : Type 0 where
  in_table : InTable (size_in p).signals (size_in p).channels (size_in p).ranks (entry_in p i)
  no_sink : sinks p i ≡ false

module _ (p : List ℕ) (i : ℕ) {z : Size} (e : judged_alone p i ≡ Ok z) where
  faultless_alone : Faultless p i
  unfolding judged_alone
  faultless_alone =
      let row-8 = passed_by (strays (size_in p) (entry_in p i)) (NotInTable i) _ e in
      let row-9 = passed_by (sinks p i) (NotAbove i) _ row-8.1 in
      record { in_table = passed_in_table (size_in p) (entry_in p i) row-8.0; no_sink = row-9.0 }

faultless_all : (p : List ℕ) (n : ℕ) {z : Size} → judged p n ≡ Ok z → (i : ℕ) → i < n → Faultless p i
unfolding judged
faultless_all p zero e i l = absurd (not-suc-le-zero l)
faultless_all p (suc n) {z} e i l = pick (ℕ_discrete i n) (faultless_all p n went.0.1 i)
  where
    went : ((y : Size) × (judged p n ≡ Ok y)) × (judged_alone p n ≡ Ok z)
    went = went_on (judged p n) (judged_alone p n) e

    pick : Dec (i ≡ n) → (i < n → Faultless p i) → Faultless p i
    pick (yes last) earlier = rw last (faultless_alone p n went.1)
    pick (no before) earlier = earlier (omega arith)

-- A sound table's entries pass.

sound_sinks_not : (p : List ℕ) → Sound p → (i : ℕ) → i < pairs_in p → sinks p i ≡ false
unfolding sinks
sound_sinks_not p s zero l = refl
sound_sinks_not p s (suc i) l = rw (above_passes (entry_in p i) (entry_in p (suc i)) (s.ascend i l))

sound_in_table : (p : List ℕ) → Sound p → (i : ℕ) → i < pairs_in p
    → InTable (size_in p).signals (size_in p).channels (size_in p).ranks (entry_in p i)
unfolding size_in
sound_in_table p s i l = record { signal = s.signal i l; channel = s.channel i l; some_rank = s.some_rank i l; rank = s.rank i l }

sound_judged : (p : List ℕ) → Sound p → (n : ℕ) → n ≤ pairs_in p → judged p n ≡ Ok (size_in p)
unfolding judged judged_alone
sound_judged p s zero l = refl
sound_judged p s (suc n) l =
    rw (
      sound_judged p s n (omega arith),
      in_table_passes (size_in p) (entry_in p n) (sound_in_table p s n l),
      sound_sinks_not p s n l,
    )

-- A refusal's number is one of 4 to 9.

abbrev Numbered : Result Size Refusal → Type 0
Numbered (Err r) = (4 ≤ number_of r) × (number_of r ≤ 9)
Numbered (Ok z) = Unit {0}

numbered_either : (t : Bool) (a b : Result Size Refusal) → Numbered a → Numbered b → Numbered (cond t a b)
numbered_either true a b n m = n
numbered_either false a b n m = m

numbered_on : (r next : Result Size Refusal) → Numbered r → Numbered next → Numbered (result_and r next)
numbered_on (Err r) next n m = n
numbered_on (Ok z) next n m = m

numbered_judged : (p : List ℕ) (n : ℕ) → Numbered (judged p n)
unfolding judged judged_alone
numbered_judged p zero = tt
numbered_judged p (suc n) =
    numbered_on (judged p n) (judged_alone p n) (numbered_judged p n)
    (numbered_either (strays (size_in p) (entry_in p n)) _ _ (omega arith, omega arith)
    (numbered_either (sinks p n) _ _ (omega arith, omega arith) tt))

numbered_checked : (p : List ℕ) → Numbered (checked_of p)
unfolding checked_of
numbered_checked p =
    numbered_either (ltb (length p) 4) _ _ (omega arith, omega arith)
    (numbered_either (outsized (size_in p)) _ _ (omega arith, omega arith)
    (numbered_either (eqb (length p) (payload_length (pairs_in p))) _ _
    (numbered_either (eqb (fill_in p) 0) _ _ (numbered_judged p (pairs_in p)) (omega arith, omega arith))
    (omega arith, omega arith)))

-- ---- the main results

-- Checking accepts only a sound table,
pub accepted_sound : (p : List ℕ) {z : Size} → checked_of p ≡ Ok z → Sound p
unfolding checked_of size_in sinks
accepted_sound p e =
    let row-4 = passed_by (ltb (length p) 4) Short _ e in
    let row-5 = passed_by (outsized (size_in p)) TooLarge _ row-4.1 in
    let row-6 = passed_through (eqb (length p) (payload_length (pairs_in p))) WrongLength _ row-5.1 in
    let row-7 = passed_through (eqb (fill_in p) 0) DirtyFill _ row-6.1 in
    let entry = faultless_all p (pairs_in p) row-7.1 in
    record {
      long = ltb-false (length p) 4 row-4.0;
      limits = fitting p row-5.0;
      sized = eqb-true (length p) (payload_length (pairs_in p)) row-6.0;
      filled = eqb-true (fill_in p) 0 row-7.0;
      signal = λ i l. (entry i l).in_table.signal;
      channel = λ i l. (entry i l).in_table.channel;
      some_rank = λ i l. (entry i l).in_table.some_rank;
      rank = λ i l. (entry i l).in_table.rank;
      ascend = λ i l. passed_above (entry_in p i) (entry_in p (suc i)) (not-false _ (entry (suc i) l).no_sink);
    }

-- and accepts every sound table, with the size that its head says.
pub sound_accepted : (p : List ℕ) → Sound p → checked_of p ≡ Ok (size_in p)
unfolding size_in payload_length fill_in entry_bit
sound_accepted p s =
    past_row_6 p s.long refl s.limits.few_signals s.limits.few_channels s.limits.few_pairs
    (omega (arith, s.sized)) (fill_in p) (entry_bit (pairs_in p)) _ refl refl (omega (arith, s.sized))
    ∙ rw (eq-eqb (fill_in p) 0 s.filled) (sound_judged p s (pairs_in p) (omega arith))

-- The size of an accepted table is what its head says, and within the limits.
pub accepted_size : (p : List ℕ) {z : Size} → checked_of p ≡ Ok z → z ≡ size_in p
accepted_size p accepted = let whole : checked_of p ≡ Ok (size_in p) = sound_accepted p (accepted_sound p accepted) in cc

pub accepted_limits : (p : List ℕ) {z : Size} → checked_of p ≡ Ok z → Limits z
accepted_limits p accepted = rw (accepted_size p accepted) (accepted_sound p accepted).limits

-- Where it refuses, the number is one of 4 to 9, and so is never success's.
pub checking_refused : (p : List ℕ) {r : Refusal} → checked_of p ≡ Err r → (4 ≤ number_of r) × (number_of r ≤ 9)
checking_refused p e = rw e at (numbered_checked p)

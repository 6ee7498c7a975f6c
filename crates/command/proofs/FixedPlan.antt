-- Who sends the same places for every table does not meet the promise (fixed_plan_falls_short): where the one signal of a table
-- lists channel c alone, the answer places it there. Leans on proofs/Deciding; what is said of the two commands is computed.
use Prim.Native.Nat.{ℕ, ◌≤◌}
use mathlib.Core.Path.{◌≡◌, refl, ap, sym, ◌∙◌}
use mathlib.Core.List.{List, [], ◌∷◌, ◌++◌}
use native.Mathlib.Decide.{ℕ_discrete}
use native.Mathlib.Nat.{not-suc-le-zero}
use native.Mathlib.Omega.{arith}
use lib.ListN.{length, get_or, drop}
use borrow.Author.Tests.{ne_eqb}
use Rattle.fields.specs.Fields.{bit_at, number, field_at, bits_of, all_bits, bits_in, gathered, packed}
use Rattle.plans.specs.Numbers.{bit, same, under, sum}
use Rattle.plans.specs.Plan.{Table, Places, BestPlan, placed, line}
use Rattle.plans.specs.Tables.{pick, rank_in, table_of}
use Rattle.plans.specs.Rows.{option}
use Rattle.plans.proofs.Ways.{faults, plan_of_faults}
use Rattle.plans.proofs.Rows.{by_computing}
use Rattle.std.specs.Prelude.{Result, Ok}
use Rattle.units.specs.declared.Bytes.{Bytes}
use Rattle.units.specs.declared.refusals.Refusal.{Refusal}
use Rattle.opening.specs.Header.{is_digit, digits_at2, count_at2, counting, counted_in, header_in}
use Rattle.opening.specs.Opening.{from, counted_of, opening_by, opening_of, payload_of}
use Rattle.framing.specs.Framing.{width_of, digits_of, header_of, block_of, header_length, block_length}
use Rattle.tables.specs.Payload.{signals_in, channels_in, ranks_in, pairs_in, size_in, entry_bit, entry_in, entries_to, entries_in, payload_length, fill_in, table_in}
use Rattle.table.specs.Checking.{outsized, strays, sinks, judged_alone, judged, checked_of}
use Rattle.answer.specs.Answer.{row, payload_fields, channel_for, rank_for, answer_fields, answer_of}
use Rattle.work.specs.Work.{NUMBERS}
use Rattle.command.specs.Handling.{reply_length, Handles}
use Rattle.command.specs.Tightness.{listing_only}
use Rattle.command.proofs.Deciding.{accepted, room}

abbrev listing : ℕ → Table
listing c = table_of 1 2 1 (option 0 c 1 ∷ [])

-- A plan that puts the signal elsewhere, or nowhere, has the counts (0).
elsewhere : (c : ℕ) (q : Places) → (q 0 ≡ c → ⊥) → line (listing c) q 0 ≡ 0
unfolding line sum placed same under bit pick rank_in table_of option
elsewhere c q h = rw (ne_eqb c (q 0) (λ e. h (sym e))) (omega arith)

-- What is computed of the command that lists channel c: it is accepted, its table is that one, and where the signal sits on c the
-- counts are (1) and byte 6 of the answer, the first of the places, is c.
record Computed (c : ℕ) : Type 0 where
  opened : opening_of (listing_only c) ≡ from 3 7
  sound : checked_of (payload_of (listing_only c)) ≡ Ok (size_in (payload_of (listing_only c)))
  size : reply_length (size_in (payload_of (listing_only c))) ≡ 8
  table : table_in (payload_of (listing_only c)) ≡ listing c
  plan : faults (listing c) (λ s. c) ≡ 0
  count : line (listing c) (λ s. c) 0 ≡ 1
  told : (rest : List ℕ) → get_or (block_of (answer_of (listing c) (λ s. c)) ++ rest) 6 0 ≡ c

unfoldable computing : Unit {0}
unfolding opening_of opening_by header_in counted_in counting is_digit counted_of digits_at2 count_at2 from payload_of bit_at number field_at signals_in channels_in ranks_in pairs_in entry_bit entry_in entries_to entries_in payload_length fill_in table_in size_in outsized strays sinks judged_alone judged checked_of reply_length block_length header_length width_of digits_of header_of block_of answer_of answer_fields payload_fields row channel_for rank_for packed gathered all_bits bits_of bits_in by_computing
computing = tt

lists_0 : Computed 0
unfolding computing
lists_0 = record { opened = refl; sound = refl; size = refl; table = refl; plan = refl; count = refl; told = λ rest. refl }

lists_1 : Computed 1
unfolding computing
lists_1 = record { opened = refl; sound = refl; size = refl; table = refl; plan = refl; count = refl; told = λ rest. refl }

-- an answer speaks of signal 0 alone
told_of : (c : ℕ) (q : Places) (rest : List ℕ) → get_or (block_of (answer_of (listing c) q) ++ rest) 6 0 ≡ get_or (block_of (answer_of (listing c) (λ s. q 0)) ++ rest) 6 0
unfolding computing
told_of c q rest = refl

module _ {c : ℕ} (k : Computed c) where
  sits : (q : Places) → BestPlan (listing c) q → q 0 ≡ c
  unfolding table_of
  sits q best = go (ℕ_discrete (q 0) c)
    where
      go : Dec (q 0 ≡ c) → q 0 ≡ c
      go (yes e) = e
      go (no h) =
          absurd
          (best.unbeaten (λ s. c) (plan_of_faults (listing c) (λ s. c) k.plan)
          (record { at = 0; inside = omega arith; before = λ j l. absurd (not-suc-le-zero l); less = omega (arith, elsewhere c q h, k.count) }))

  placed_there : {area work : List ℕ} {r : Result Bytes Refusal} {a w : List ℕ} → 8 ≤ length area → NUMBERS ≤ length work
      → Handles (listing_only c) area work r a w → get_or a 6 0 ≡ c
  unfolding from
  placed_there {area} {work} {r} long enough f =
      let z = size_in (payload_of (listing_only c)) in
      let free =
      accepted (listing_only c) (length area) (length work) k.opened refl k.sound refl
      ∙ room (reply_length z) (length area) (length work) (omega (arith, k.size)) enough in
      let done = (f.answered _ free).written in
      let plan = done.to.plan in
      let later = drop (reply_length z) area in
      ap (λ l. get_or l 6 0) done.bytes
      ∙ rw (done.to.bytes, k.table)
      (told_of c plan later
      ∙ ap (λ x. get_or (block_of (answer_of (listing c) (λ s. x)) ++ later) 6 0) (sits plan (rw k.table at done.to.best))
      ∙ k.told later)

-- The two answers differ in the first byte of their places.
pub fixed_plan_falls_short : (area work : List ℕ) → 8 ≤ length area → NUMBERS ≤ length work → (r r' : Result Bytes Refusal) (a a' w w' : List ℕ)
    → Handles (listing_only 0) area work r a w → Handles (listing_only 1) area work r' a' w' → get_or a 6 0 ≡ get_or a' 6 0 → ⊥
fixed_plan_falls_short area work long enough r r' a a' w w' f f' same =
    omega (arith, placed_there lists_0 long enough f, placed_there lists_1 long enough f')

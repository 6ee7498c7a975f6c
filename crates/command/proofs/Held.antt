-- Parts of the work area: what is written from the two parts that are lent is the answer that the area holds (held_answer).
use Prim.Native.Nat.{ℕ, ◌+◌, ◌-◌, ◌≤◌}
use mathlib.Core.Path.{◌≡◌, refl, ◌∙◌}
use mathlib.Core.List.{List, ◌++◌}
use native.Mathlib.Nat.{add-sub_cancel_left}
use native.Mathlib.Omega.{arith}
use lib.ListN.{length, take, drop}
use Rattle.fields.specs.Fields.{packed}
use Rattle.answer.specs.Answer.{answer_length}
use Rattle.answer.specs.Writing.{Answerable, fields_of}
use Rattle.work.specs.Work.{PLACE, COUNT}
use Rattle.work.proofs.Area.{region_length}
use Rattle.command.specs.Inside.{counts_in, places_in, answer_in, Writable}

-- the parts as they are lent, from COUNT up to COUNT + ranks and from PLACE up to PLACE + signals
module _ (signals ranks : ℕ) (w : List ℕ) (h : Writable signals ranks w) where
  abbrev counts : List ℕ
  counts = take (COUNT + ranks - COUNT) (drop COUNT w)

  abbrev places : List ℕ
  places = take (PLACE + signals - PLACE) (drop PLACE w)

  counts_held : counts ≡ counts_in ranks w
  unfolding counts_in
  counts_held = rw (add-sub_cancel_left COUNT ranks) refl

  places_held : places ≡ places_in signals w
  unfolding places_in
  places_held = rw (add-sub_cancel_left PLACE signals) refl

  long : answer_length (length places) (length counts) ≡ answer_length signals ranks
  unfolding counts_in places_in
  long =
      rw (
        counts_held,
        places_held,
        region_length w COUNT ranks (omega (arith, h.enough, h.few_ranks)),
        region_length w PLACE signals (omega (arith, h.enough, h.few_signals)),
      )
      refl

  pub held_answerable : {n : ℕ} → answer_length signals ranks ≤ n → Answerable counts places × (answer_length (length places) (length counts) ≤ n)
  held_answerable room = (rw (counts_held, places_held) h.fits, rw long room)

  pub held_answer : (out : List ℕ) {last : List ℕ} → last ≡ packed (fields_of counts places) ++ drop (answer_length (length places) (length counts)) out
      → last ≡ answer_in signals ranks w ++ drop (answer_length signals ranks) out
  unfolding answer_in
  held_answer out e = e ∙ rw (long, counts_held, places_held) refl

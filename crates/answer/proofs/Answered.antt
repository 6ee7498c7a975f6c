-- What a caller needs who has the counts and places of a plan: they can be written (plan_fits), and what is written is the answer of
-- the table and its plan (plan_fields); both as one law, written_answer. Leans on specs/Writing and proofs/Bytes.
use Prim.Native.Nat.{ℕ, ◌≤◌, ◌<◌}
use mathlib.Core.Path.{◌≡◌, refl, ap}
use mathlib.Core.List.{List}
use native.Mathlib.Omega.{arith}
use borrow.Author.Tests.{lt-ltb, le-ltb}
use Rattle.fields.specs.Fields.{packed}
use Rattle.plans.specs.Plan.{Table, Places, Plan, line}
use Rattle.plans.specs.Order.{filled}
use Rattle.plans.specs.Tables.{pick}
use Rattle.plans.proofs.Sums.{by_under}
use Rattle.units.specs.Limits.{most_signals, most_channels, most_ranks}
use Rattle.answer.specs.Answer.{payload_fields, channel_for, rank_for, place_for, answer_fields, answer_of}
use Rattle.answer.specs.Writing.{Answerable, fields_of, Tells}
use Rattle.answer.proofs.Bytes.{row_ext}
use Rattle.answer.proofs.Reading.{line_most}

-- A place of a plan has 12 bits.
place_most : {T : Table} {p : Places} → Plan T p → T.channels ≤ most_channels → T.ranks ≤ most_ranks
    → (s : ℕ) → s < T.signals → place_for T p s < 4096
unfolding channel_for rank_for pick
place_most {T} {p} P few_channels few_ranks s l =
    by_under (p s) T.channels
    (λ h one. rw (lt-ltb (p s) T.channels h) (omega (arith, P.ranked s l h)))
    (λ h nought. rw (le-ltb (p s) T.channels h) (omega arith))

module _ {T : Table} {p : Places} {counts places : List ℕ} (told : Tells T p counts places) where
  plan_fields : fields_of counts places ≡ answer_fields T p
  unfolding fields_of answer_fields payload_fields
  plan_fields =
      rw (
        told.ranks,
        told.signals,
        row_ext 8 (filled counts) (line T p) T.ranks told.count,
        row_ext 12 (filled places) (place_for T p) T.signals told.place,
      )
      refl

  module _ (P : Plan T p) (few_signals : T.signals ≤ most_signals) (few_channels : T.channels ≤ most_channels)
      (few_ranks : T.ranks ≤ most_ranks) where
    plan_fits : Answerable counts places
    plan_fits =
        record {
          few_ranks = omega (arith, told.ranks);
          few_signals = omega (arith, told.signals);
          counts_fit = record { each = λ i l. let k : i < T.ranks = omega (arith, told.ranks) in omega (arith, told.count i k, line_most T p i) };
          places_fit = record { each = λ s l. let k : s < T.signals = omega (arith, told.signals) in rw (told.place s k) (place_most P few_channels few_ranks s k) };
        }

    -- Counts and places of a plan of a table within the limits can be written, and what is written is the answer.
    pub written_answer : Answerable counts places × (packed (fields_of counts places) ≡ answer_of T p)
    unfolding answer_of
    written_answer = (plan_fits, ap packed plan_fields)

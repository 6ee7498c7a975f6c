-- Which payloads are answers to a payload (AnswerTo), and the counts in them (count_in). Nothing else of the box's promises says
-- what best means.
use Rattle.std.specs.Prelude.{ℕ, ◌+◌, ◌*◌, ◌≡◌, List}
use Rattle.fields.specs.Fields.{field_at}
use Rattle.plans.specs.Plan.{Places, BestPlan}
use Rattle.tables.specs.Payload.{table_in}
use Rattle.answer.specs.Answer.{answer_of}

-- The count of rank i + 1 that an answer's payload says: counts of 8 bits follow the head's 16.
unfoldable pub count_in : List ℕ → ℕ → ℕ
count_in a i = field_at a (16 + 8 * i) 8

-- Payload a is an answer that the box may give to payload p: some best plan of the table makes it.
pub record AnswerTo (p a : List ℕ) : Type 0 where
  pub plan : Places
  pub best : BestPlan (table_in p) plan
  pub bytes : a ≡ answer_of (table_in p) plan

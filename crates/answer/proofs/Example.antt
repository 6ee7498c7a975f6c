-- Document 01's example: the answer to table A, its seven bytes after the header. It leans on the definitions alone.

use mathlib.Core.Path.{◌≡◌, refl}
use mathlib.Core.List.{[], ◌∷◌}
use lib.ListN.{get_or}
use Rattle.fields.specs.Fields.{number, bits_of, all_bits, bits_in, gathered, packed}
use Rattle.plans.specs.Numbers.{bit, same, under, sum}
use Rattle.plans.specs.Plan.{placed, line}
use Rattle.plans.specs.Tables.{pick, rank_in, table_of}
use Rattle.plans.specs.Rows.{option, row_a}
use Rattle.answer.specs.Answer.{row, payload_fields, channel_for, rank_for, answer_fields, answer_of}

-- s0 on c1, s1 on c0
pub answer_a : answer_of (table_of row_a.signals row_a.channels row_a.ranks row_a.entries) (λ s. get_or (1 ∷ 0 ∷ []) s 255)
    ≡ 0x02 ∷ 0x20 ∷ 0x01 ∷ 0x01 ∷ 0x01 ∷ 0x20 ∷ 0x01 ∷ []
unfolding answer_of answer_fields payload_fields row channel_for rank_for packed gathered all_bits bits_of bits_in number bit same under sum placed line pick rank_in table_of option row_a
answer_a = refl

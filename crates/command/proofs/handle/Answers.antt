-- `command::handle` keeps its promise where it answers: the payload is accepted, and both areas suffice. Its refusals need no answer:
-- they come of the rows as specs/Handling has them.
use Rattle.std.proofs.Common.{◌++◌, ◌≡◌, arith, ap, sym, ◌∙◌, drop, length}
use Rattle.std.specs.Prelude.{Ok}
use lib.Seq.{length-take-le}
use Rattle.opening.specs.Opening.{opening_of}
use Rattle.opening.proofs.Ending.{part_payload}
use Rattle.table.specs.Checking.{checked_of}
use Rattle.table.proofs.Acceptance.{accepted_sound, accepted_size}
use Rattle.work.specs.Work.{NUMBERS}
use Rattle.command.specs.Handling.{reply_length}
use Rattle.command.proofs.Solving.{reply_length_lem}
use Rattle.command.proofs.Deciding.{answer_replies, room, accepted}
use Rattle.command.proofs.handle.Goals.{After-framed_length-whole}
use Rattle.command.proofs.handle.Goals as goal

-- what opening and checking found, however their answers are handed on
opened : (c : After-framed_length-whole) → opening_of c.args.block.now ≡ Ok c.in_ok-part.part
opened c = grind arith

found : (c : After-framed_length-whole) → checked_of c.of-payload.result.now ≡ Ok c.in_ok-size.size
found c = grind arith

pub write_answer-requires : goal.write_answer-requires
write_answer-requires c =
    let at = (goal.at.write_answer-requires c).After-framed_length-whole in
    let whole = reply_length_lem c.in_ok-size.size c.length.ensures c.framed_length-whole.ensures in
    let chunk = rw c.in_ok-work.ensures.ok_part at c.first_chunk_mut.ensures.cases in (
      accepted_sound _ (found at),
      accepted_size _ (found at),
      ap length chunk.same ∙ length-take-le NUMBERS c.args.work.now chunk.enough,
      omega (arith, whole),
    )

pub returns : goal.returns
returns c =
    let chunk = rw c.in_ok-work.ensures.ok_part at c.first_chunk_mut.ensures.cases in
    let at = (goal.at.returns c).After-framed_length-whole in
    let payload = c.of-payload.ensures ∙ part_payload _ (sym (opened at)) in
    let whole = reply_length_lem _ c.length.ensures c.framed_length-whole.ensures in
    answer_replies
    (accepted _ _ _ (opened at) payload (found at) whole ∙ room _ _ _ (omega arith) chunk.enough)
    (record {
      written = rw payload at c.write_answer.ensures.0;
      long = whole ∙ ap reply_length (rw payload at (accepted_size _ (found at)));
      zeroed = ap (λ w. w ++ drop NUMBERS c.args.work.now) c.write_answer.ensures.1;
    })

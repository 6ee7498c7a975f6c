-- `command::write_answer` writes the answer: header and payload are its block, by the laws of proofs/Solving, and the parts of the
-- work area that it lends are what the area holds, by the laws of proofs/Held.
use Rattle.std.proofs.Common.{ℕ, ◌≡◌, refl, arith, replicate, ◌∙◌}
use Rattle.std.proofs.lemmas.List.{take_rest}
use lib.ListN.{length-drop}
use Rattle.command.proofs.Held.{held_answerable, held_answer}
use Rattle.command.proofs.Solving.{headable, answer_within, written}
use Rattle.command.proofs.answering.write_answer.Goals as goal

-- as many numbers, each of them zero
zeroes : {m n x : ℕ} → m ≡ n → x ≡ 0 → replicate m x ≡ replicate n 0
zeroes long zero = rw (long, zero) refl

pub put_header-header-requires : goal.put_header-header-requires
put_header-header-requires c = headable c.requires.0 c.requires.1 c.requires.3 c.length.ensures

pub write-requires : goal.write-requires
write-requires c =
    let within = answer_within c.requires.0 c.requires.1 c.requires.3 c.solve.ensures c.put_header-header.ensures c.length.ensures in
    rw (take_rest _ _)
    (held_answerable c.args.size.signals c.args.size.ranks c.solve.new.w c.solve.ensures.writable
    (simp length-drop (omega (arith, within, c.put_header-header.auto.area))))

pub returns : goal.returns
returns c = (
  written c.requires.0 c.requires.1 c.requires.3 c.solve.ensures c.put_header-header.ensures c.length.ensures
      (held_answer c.args.size.signals c.args.size.ranks c.solve.new.w c.solve.ensures.writable _ c.write.ensures),
  c.fill.ensures.after (λ y e. e) ∙ zeroes (c.solve.auto.w ∙ c.requires.2) (omega arith),
)

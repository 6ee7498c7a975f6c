-- `unpack::pass` meets its contract: what `position` answers is the place of the first entry whose signal is another one.
use Rattle.std.proofs.Common.{◌≡◌, ◌/◌, rules, arith, ◌+◌, ◌-◌, ℕ, ap, ◌∙◌, get_or}
use Rattle.std.proofs.lemmas.Iterator.{YieldsList-from_slice, IsFirst-from_position}
use Rattle.work.specs.Work.{at}
use Rattle.work.proofs.Area.{region_length, region_at}
use Rattle.unpack.proofs.Starts.{passed}
use Rattle.unpack.proofs.pass.Goals as goal

pub returns : goal.returns
unfolding at
returns c =
    let first =
    IsFirst-from_position _ _ c.position.result (λ x. x / 256 ≡ c.args.s → ⊥) (λ x. x / 256 ≡ c.args.s) c.position.ensures.ran
    (YieldsList-from_slice _ c.iter.ensures.rest) (λ x q k. search rules) (λ x q k. search rules)
    in
    let all = region_length c.args.w.now (0 + c.args.start) (0 + c.args.pairs - (0 + c.args.start)) (omega arith) in
    rw c.unwrap_or.ensures
    (passed _ _ (omega arith) (omega arith)
    (λ i l. region_at c.args.w.now _ _ i (omega arith) ∙ ap (λ (k : ℕ). get_or c.args.w.now k 0) (omega arith)) c.position.result first)

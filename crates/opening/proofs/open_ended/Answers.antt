-- `opening::open_ended`: what `position` answers is the index of the newline of `ended_of`.
use Rattle.std.proofs.Common.{◌≡◌, ◌+◌, eqb, length, drop, sym, rules, tests, arith, eq-eqb, ne_eqb}
use Rattle.std.proofs.lemmas.Option.{cond_some}
use Rattle.std.proofs.lemmas.Iterator.{YieldsList-from_slice}
use Rattle.std.proofs.lemmas.Iterator.Search.{position_from_yields_List}
use Rattle.std.proofs.lemmas.List.{take_rest}
use Rattle.opening.specs.Opening.{index_of, ended_of, from}
use Rattle.opening.proofs.open_ended.Goals.{In-Some}
use Rattle.opening.proofs.open_ended.Goals as goal

first : (c : In-Some) → index_of 10 (drop 2 c.args.block.now) ≡ c.in-Some.length
unfolding index_of
first c =
    let rest = rw (take_rest c.args.block.now 2) at c.iter.ensures.rest in
    (cond_some _ _ _ (sym (position_from_yields_List (λ x. eqb x 10) _ _ _ c.in-Some.ensures.ran (YieldsList-from_slice _ rest) (λ x b q k. search (rules, tests))))).1

pub returns-in-Some : goal.returns-in-Some
unfolding ended_of from
returns-in-Some c =
    rw (first (goal.at.returns-in-Some c).In-Some, eq-eqb (2 + c.in-Some.length + 1) (length c.args.block.now) (omega arith))

pub returns-in_default : goal.returns-in_default
unfolding ended_of from
returns-in_default c =
    rw (first (goal.at.returns-in_default c).In-Some, ne_eqb (2 + c.in-Some.length + 1) (length c.args.block.now) (λ e. omega arith))

-- `strike::is_clear`: what `all` answers of the marks' region is said of the area (clear_of).
use Rattle.std.proofs.Common.{ℕ, ◌≡◌, rules, tests, arith}
use Rattle.std.proofs.lemmas.Iterator.{YieldsList-from_slice, cases_from_all}
use Rattle.work.specs.Work.{none}
use Rattle.strike.proofs.Strikes.{clear_of}
use Rattle.strike.proofs.is_clear.Goals as goal

pub returns : goal.returns
returns c =
    clear_of c.args.channels c.args.w.now _ (omega arith)
    (cases_from_all _ _ c.all.result (λ (x : ℕ). x ≡ none) (λ (x : ℕ). x ≡ none → ⊥) c.all.ensures.ran (YieldsList-from_slice _ c.iter.ensures.rest)
    (λ x q k. search (rules, tests)) (λ x q k. search (rules, tests)))

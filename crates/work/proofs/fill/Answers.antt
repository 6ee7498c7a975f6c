-- `work::fill` puts the number into the part alone: the part holds so many times x, and the area is what it was around it.
use Rattle.std.proofs.Common.{◌≡◌, rules, replicate}
use Rattle.std.proofs.lemmas.List.{places}
use Rattle.work.specs.Work.{at}
use Rattle.work.proofs.fill.Goals as goal

pub returns : goal.returns
unfolding at
returns c =
    let same : c.fill.new.self ≡ replicate c.args.n c.args.x = search (rules, places) in
    rw same (
    record {
      size = search (rules, places);
      here = λ i l. search (rules, places);
      below = λ k l. search (rules, places);
      behind = λ k l. search (rules, places);
    }
    )

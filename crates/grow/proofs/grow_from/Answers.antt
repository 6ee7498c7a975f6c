-- `grow::grow_from` meets its contract: each way out of the search is a law of proofs/Grown.
use Rattle.std.proofs.Common.{true≢false, sym, refl}
use Rattle.grow.proofs.Grown.{grown_nothing, last_asks, flip_asks, clear_asks, grown_placing}
use Rattle.grow.proofs.grow_from.Goals as goal

pub overflow_sub-reached : goal.overflow_sub-reached
overflow_sub-reached c = (last_asks c.requires.rooted c.search.ensures c.in-Some.is).0

pub get-c-requires : goal.get-c-requires
get-c-requires c = (last_asks c.requires.rooted c.search.ensures c.in-Some.is).1

pub flip-requires : goal.flip-requires
flip-requires c = flip_asks c.requires.rooted c.search.ensures c.in-Some.is c.get-c.ensures.0

pub clear-requires : goal.clear-requires
clear-requires c = clear_asks c.requires.rooted c.search.ensures c.in-Some.is c.get-c.ensures.0 c.flip.ensures

pub returns : goal.returns
returns c = record { each = λ z b. grown_placing b c.search.ensures c.in-Some.is c.get-c.ensures.0 c.flip.ensures c.clear.ensures }

pub returns-in_default : goal.returns-in_default
returns-in_default c =
    record {
      each = λ z b.
          record {
            grown = grown_nothing b c.in_default.ensures refl;
            placed = λ e. absurd (true≢false (sym e));
          };
    }

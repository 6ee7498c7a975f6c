-- What growing promises: the plan grows from every free signal, and nothing more can be reached from one that is left.
use Rattle.std.specs.Prelude.{ℕ, ◌<◌, List}
use Rattle.units.specs.declared.Size.{Size}
use Rattle.work.specs.Work.{at, CHANNEL, SHUT_SIGNAL, SCRATCH, Unchanged}
use Rattle.work.specs.State.{Mates, Along, Keeps, Sealed}

-- Growing the plan from all free signals: lists, shut flags and the table stay; the end is sealed.
pub record Grown (z : Size) (r : ℕ) (v w : List ℕ) : Type 0 where
  pub below : Unchanged 0 CHANNEL w v
  pub shut : Unchanged SHUT_SIGNAL SCRATCH w v
  pub mates : Mates z w
  pub along : Along z w
  pub keeps : Keeps z v w
  pub sealed : Sealed z r w

-- The first n signals are all placed.
pub record Everyone (z : Size) (n : ℕ) (w : List ℕ) : Type 0 where
  pub placed : (s : ℕ) → s < n → at w CHANNEL s < z.channels

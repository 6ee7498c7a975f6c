-- The area lists the ranks of a table as long as the table's part stays (same_ranks). Leans on proofs/Input.
use Prim.Native.Nat.{ℕ, ◌<◌}
use mathlib.Core.List.{List}
use native.Mathlib.Omega.{arith}
use Rattle.units.specs.declared.Size.{Size}
use Rattle.work.specs.Work.{MIDDLE, Unchanged}
use Rattle.work.specs.Input.{Input}
use Rattle.work.specs.Ranks.{Ranks}
use Rattle.work.proofs.Input.{same_listed, same_signal, same_channel, same_rank}

pub same_ranks : {z : Size} {rank : ℕ → ℕ → ℕ} {v w : List ℕ} → Input z v → Unchanged 0 MIDDLE w v → Ranks z rank v → Ranks z rank w
same_ranks {z} {rank} {v} {w} n h r =
    record {
      given = λ e l. let k : e < 3000 = omega (arith, n.limits.few_pairs) in
          rw (same_signal h e k, same_channel h e k, same_rank h e k) (r.given e l);
      listed = λ s c l m k q. same_listed h n.limits.few_pairs (r.listed s c l m k q);
    }

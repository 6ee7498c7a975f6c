-- What a table, a plan, its counts and a best plan are (document 01, "What a best plan is").
use Rattle.std.specs.Prelude.{ℕ, suc, ◌*◌, ◌≤◌, ◌<◌}
use Rattle.plans.specs.Numbers.{same, under, sum}
use Rattle.plans.specs.Order.{Less, Same}

-- A table: how many signals, channels and ranks it has; the rank of a pair, 0 where the table does not list it;
-- and how many signals a channel has room for, 1 for every channel of the base.
pub record Table : Type 0 where
  pub signals : ℕ
  pub channels : ℕ
  pub ranks : ℕ
  pub rank : ℕ → ℕ → ℕ
  pub slots : ℕ → ℕ

-- Where a plan puts the signals: a channel for each, or none, which is any number that is no channel (the answer writes 255).
abbrev pub Places : Type 0
Places = ℕ → ℕ

-- 1 where signal s is placed, 0 where not
unfoldable pub placed : Table → Places → ℕ → ℕ
placed T p s = under (p s) T.channels

-- how many signals sit on channel c
unfoldable pub load : Table → Places → ℕ → ℕ
load T p c = sum T.signals (λ s. same (p s) c)

-- A plan of a table gives each signal at most one channel (p is a function) and each channel at most as many signals as it
-- has slots, and uses only pairs that the table lists: those with a rank from 1 to R.
pub record Plan (T : Table) (p : Places) : Type 0 where
  pub listed : (s : ℕ) → s < T.signals → p s < T.channels → 1 ≤ T.rank s (p s)
  pub ranked : (s : ℕ) → s < T.signals → p s < T.channels → T.rank s (p s) ≤ T.ranks
  pub room : (c : ℕ) → c < T.channels → load T p c ≤ T.slots c

-- The line of a plan: at index i, how many signals it places at rank i + 1.
unfoldable pub line : Table → Places → ℕ → ℕ
line T p i = sum T.signals (λ s. placed T p s * same (T.rank s (p s)) (suc i))

-- how many signals a plan places
unfoldable pub total : Table → Places → ℕ
total T p = sum T.signals (λ s. placed T p s)

-- A best plan: a plan whose counts no plan of the table exceeds.
pub record BestPlan (T : Table) (p : Places) : Type 0 where
  pub plan : Plan T p
  pub unbeaten : (q : Places) → Plan T q → Less T.ranks (line T p) (line T q) → ⊥

-- The best counts: the line of some best plan.
pub record Best (T : Table) (b : ℕ → ℕ) : Type 0 where
  pub places : Places
  pub best : BestPlan T places
  pub counts : Same T.ranks (line T places) b

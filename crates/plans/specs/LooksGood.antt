-- Document 01, "Plans that look good and are not": four ways to choose a plan, and what it is for the chosen one to fall short.
use Rattle.std.specs.Prelude.{ℕ, zero, suc, ◌*◌, ◌≤◌, ◌≡◌, List, [], ◌∷◌, length, eqb, ltb}
use Rattle.plans.specs.Numbers.{sum}
use Rattle.plans.specs.Order.{Less, Same, filled}
use Rattle.plans.specs.Plan.{Table, Places, Plan, BestPlan, load, line, total}
use Rattle.plans.specs.Tables.{pick}
use Rattle.plans.specs.Rows.{Small, table, places_of, unplaced}

-- First come, first served within a rank

-- the lowest of the first n channels that has room and that signal s lists at rank r; no channel where there is none
unfoldable pub lowest : Table → Places → ℕ → ℕ → ℕ → ℕ
lowest T p s r zero = T.channels
lowest T p s r (suc c) =
    pick (ltb (lowest T p s r c) T.channels) (lowest T p s r c)
    (pick (eqb (T.rank s c) r) (pick (ltb (load T p c) (T.slots c)) c T.channels) T.channels)

-- signal s served at rank r: unless it has a channel it takes its lowest, and the others stay
unfoldable pub serve : Table → ℕ → Places → ℕ → Places
serve T r p s t = pick (eqb t s) (pick (ltb (p s) T.channels) (p s) (lowest T p s r T.channels)) (p t)

-- the first n signals served at rank r, one after the other
unfoldable pub served : Table → ℕ → Places → ℕ → Places
served T r p zero = p
served T r p (suc s) = serve T r (served T r p s) s

-- the plan after the first n ranks: at first nobody is placed, then rank 1 is served, then rank 2, and so on
unfoldable pub after_rank : Table → ℕ → Places
after_rank T zero = λ s. T.channels
after_rank T (suc n) = served T (suc n) (after_rank T n) T.signals

unfoldable pub first_come : Table → Places
first_come T = after_rank T T.ranks

-- A largest plan: none places more signals.
pub record Largest (T : Table) (p : Places) : Type 0 where
  pub plan : Plan T p
  pub largest : (q : Places) → Plan T q → total T q ≤ total T p

-- The largest total first, ranks second: a largest plan whose counts no plan of the same total exceeds.
pub record LargestFirst (T : Table) (p : Places) : Type 0 where
  pub first : Largest T p
  pub second : (q : Places) → Plan T q → total T q ≡ total T p → Less T.ranks (line T p) (line T q) → ⊥

-- The score of a line under weights, rank 1 first.
unfoldable pub score : List ℕ → (ℕ → ℕ) → ℕ
score weights f = sum (length weights) (λ i. filled weights i * f i)

-- table B's plan with s0 on c1 and s1 on c0, and table D's with s1 on c0 and s2 on c1
abbrev pub chosen_b : Places
chosen_b = places_of (1 ∷ 0 ∷ [])

abbrev pub chosen_d : Places
chosen_d = places_of (unplaced ∷ 0 ∷ 1 ∷ [])

-- p is a plan of the row's table, with these counts; they are less than the row's, and no best plan has them.
pub record FallsShort (r : Small) (p : Places) (counts : List ℕ) : Type 0 where
  pub plan : Plan (table r) p
  pub has : Same r.ranks (line (table r) p) (filled counts)
  pub lesser : Less r.ranks (filled counts) (filled r.counts)
  pub never : (q : Places) → BestPlan (table r) q → Same r.ranks (line (table r) q) (filled counts) → ⊥

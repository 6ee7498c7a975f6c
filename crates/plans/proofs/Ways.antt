-- Plans of a small table, tried one by one. A test is a number, 0 when it passes; it is summed over all ways to give each
-- signal a channel or none, and a sum that is 0 speaks for every plan.
-- Main results: every_plan, some_plan; plan_of_faults and faults_of_plan, the test for being a plan; agree_plan, agree_line.
-- Leans on Sums.
use Prim.Native.Nat.{ℕ, zero, suc, ◌+◌, ◌-◌, ◌*◌, ◌≤◌, ◌<◌, min}
use mathlib.Core.Path.{◌≡◌, refl, ap, sym, ◌∙◌}
use mathlib.Core.List.{List, [], ◌∷◌}
use native.Mathlib.Nat.{lt_of_not-le, not-suc-le-zero}
use native.Mathlib.Decide.{dec_lt}
use native.Mathlib.Omega.{arith}
use Rattle.plans.specs.Numbers.{same, under, sum}
use Rattle.plans.specs.Plan.{Table, Places, Plan, placed, load, line}
use Rattle.plans.specs.Rows.{Agree, places_of}
use Rattle.plans.proofs.Sums.{same_no, under_no, sum_ext, sum_term, sum_zero, sum_less}

-- Tests that pass with 0

unfoldable pub away : ℕ → ℕ → ℕ
away a b = (a - b) + (b - a)

pub away_zero : (a b : ℕ) → away a b ≡ 0 → a ≡ b
unfolding away
away_zero a b h = omega arith

-- y is asked only where x passes
unfoldable pub given : ℕ → ℕ → ℕ
given zero y = y
given (suc x) y = 0

pub given_zero : (x y : ℕ) → given x y ≡ 0 → x ≡ 0 → y ≡ 0
unfolding given
given_zero zero y h e = h
given_zero (suc x) y h e = absurd (omega arith)

given_passes : (x y : ℕ) → (x ≡ 0 → y ≡ 0) → given x y ≡ 0
unfolding given
given_passes zero y h = h refl
given_passes (suc x) y h = refl

-- Some term of a sum that is not 0 is not 0.
pub sum_some : (f : ℕ → ℕ) (n : ℕ) → 1 ≤ sum n f → (i : ℕ) × (i < n) × (1 ≤ f i)
sum_some f n h = sum_less (λ i. 0) f n (omega (arith, sum_zero (λ i. 0) n (λ i l. refl)))

-- All ways to give n signals one of C channels or none, which is written C

unfoldable pub ways : ℕ → ℕ → (List ℕ → ℕ) → ℕ
ways C zero f = f []
ways C (suc n) f = sum (suc C) (λ c. ways C n (λ l. f (c ∷ l)))

-- the way that p is
way : ℕ → ℕ → Places → List ℕ
way C zero p = []
way C (suc n) p = min (p 0) C ∷ way C n (λ s. p (suc s))

way_at : (C n : ℕ) (p : Places) (s : ℕ) → s < n → places_of (way C n p) s ≡ min (p s) C
unfolding way places_of
way_at C zero p s l = absurd (not-suc-le-zero l)
way_at C (suc n) p zero l = refl
way_at C (suc n) p (suc s) l = way_at C n (λ t. p (suc t)) s (omega arith)

every_way : (C n : ℕ) (f : List ℕ → ℕ) → ways C n f ≡ 0 → (p : Places) → f (way C n p) ≡ 0
unfolding ways way
every_way C zero f h p = h
every_way C (suc n) f h p =
    every_way C n (λ l. f (min (p 0) C ∷ l))
    (omega (arith, sum_term (λ c. ways C n (λ l. f (c ∷ l))) (suc C) (min (p 0) C) (omega arith))) (λ s. p (suc s))

some_way : (C n : ℕ) (f : List ℕ → ℕ) → 1 ≤ ways C n f → (l : List ℕ) × (1 ≤ f l)
unfolding ways
some_way C zero f h = ([], h)
some_way C (suc n) f h =
    let (c, l, k) = sum_some (λ c. ways C n (λ l. f (c ∷ l))) (suc C) h in
    let (m, e) = some_way C n (λ l. f (c ∷ l)) k in
    (c ∷ m, e)

-- Plans that agree

by_agree {ℓ} : {X : Type ℓ} (T : Table) (p q : Places) → Agree T p q → (s : ℕ) → s < T.signals
    → (q s ≡ p s → X) → (T.channels ≤ p s → T.channels ≤ q s → X) → X
by_agree {X = X} T p q a s l on off = go (dec_lt (p s) T.channels) (dec_lt (q s) T.channels)
  where
    go : Dec (p s < T.channels) → Dec (q s < T.channels) → X
    go (yes h) k = on (a.there s l h)
    go (no h) (yes k) = on (a.back s l k)
    go (no h) (no k) = off (omega (arith, lt_of_not-le h)) (omega (arith, lt_of_not-le k))

module _ (T : Table) (p q : Places) (a : Agree T p q) where
  pub agree_line : (i : ℕ) → line T q i ≡ line T p i
  unfolding line placed
  agree_line i =
      sum_ext (λ s. at s (q s)) (λ s. at s (p s)) T.signals
      (λ s l. by_agree T p q a s l (λ e. ap (at s) e) (λ h k. nothing s (q s) k ∙ sym (nothing s (p s) h)))
    where
      at : ℕ → ℕ → ℕ
      at s c = under c T.channels * same (T.rank s c) (suc i)

      nothing : (s c : ℕ) → T.channels ≤ c → at s c ≡ 0
      nothing s c h = rw (under_no c T.channels h) (omega arith)

  agree_load : (c : ℕ) → c < T.channels → load T q c ≡ load T p c
  unfolding load
  agree_load c m =
      sum_ext (λ s. same (q s) c) (λ s. same (p s) c) T.signals
      (λ s l. by_agree T p q a s l (λ e. rw e) (λ h k. same_no (q s) c (omega arith) ∙ sym (same_no (p s) c (omega arith))))

  pub agree_plan : Plan T p → Plan T q
  agree_plan h =
      record {
        listed = λ s l k. rw (a.back s l k) (h.listed s l (rw (a.back s l k) at k));
        ranked = λ s l k. rw (a.back s l k) (h.ranked s l (rw (a.back s l k) at k));
        room = λ c l. rw (agree_load c l) (h.room c l);
      }

way_agrees : (T : Table) (p : Places) → Agree T p (places_of (way T.channels T.signals p))
way_agrees T p =
    record {
      there = λ s l k. omega (arith, way_at T.channels T.signals p s l);
      back = λ s l k. omega (arith, way_at T.channels T.signals p s l);
    }

pub agree_trans : (T : Table) (p q r : Places) → Agree T p q → Agree T q r → Agree T p r
agree_trans T p q r a b =
    record {
      there = λ s l k. let e : q s ≡ p s = a.there s l k in b.there s l (omega arith) ∙ e;
      back = λ s l k. let e : r s ≡ q s = b.back s l k in e ∙ a.back s l (omega arith);
    }

-- agreeing, as a test
unfoldable pub apart : Table → Places → Places → ℕ
apart T p q = sum T.signals (λ s. away (min (p s) T.channels) (min (q s) T.channels))

module _ (T : Table) (p q : Places) where
  pub agree_of_apart : apart T p q ≡ 0 → Agree T p q
  unfolding apart
  agree_of_apart h = record { there = λ s l k. omega (arith, at s l); back = λ s l k. omega (arith, at s l) }
    where
      at : (s : ℕ) → s < T.signals → min (p s) T.channels ≡ min (q s) T.channels
      at s l =
          away_zero (min (p s) T.channels) (min (q s) T.channels)
          (omega (arith, sum_term (λ t. away (min (p t) T.channels) (min (q t) T.channels)) T.signals s l))

  pub apart_of_agree : Agree T p q → apart T p q ≡ 0
  unfolding apart away
  apart_of_agree a =
      sum_zero (λ s. away (min (p s) T.channels) (min (q s) T.channels)) T.signals
      (λ s l. by_agree T p q a s l (λ e. rw e (omega arith)) (λ h k. omega arith))

-- Being a plan, as a test

-- 0 where a rank is one of 1 to R
outside : ℕ → ℕ → ℕ
outside R r = (1 - r) + (r - R)

-- 0 where signal s is not placed, or on a pair that the table lists
unlisted : Table → Places → ℕ → ℕ
unfolding outside
unlisted T p s = given (suc (p s) - T.channels) (outside T.ranks (T.rank s (p s)))

crowded : Table → Places → ℕ → ℕ
crowded T p c = load T p c - T.slots c

unfoldable pub faults : Table → Places → ℕ
unfolding unlisted crowded
faults T p = sum T.signals (unlisted T p) + sum T.channels (crowded T p)

module _ (T : Table) (p : Places) where
  pub plan_of_faults : faults T p ≡ 0 → Plan T p
  unfolding faults unlisted crowded outside
  plan_of_faults h =
      record {
        listed = λ s l k. omega (arith, pair s l k);
        ranked = λ s l k. omega (arith, pair s l k);
        room = λ c l. omega (arith, sum_term (crowded T p) T.channels c l);
      }
    where
      pair : (s : ℕ) → s < T.signals → p s < T.channels → outside T.ranks (T.rank s (p s)) ≡ 0
      pair s l k =
          given_zero (suc (p s) - T.channels) (outside T.ranks (T.rank s (p s)))
          (omega (arith, sum_term (unlisted T p) T.signals s l)) (omega arith)

  pub faults_of_plan : Plan T p → faults T p ≡ 0
  unfolding faults unlisted crowded outside
  faults_of_plan h = omega (arith, sum_zero (unlisted T p) T.signals pairs, sum_zero (crowded T p) T.channels room)
    where
      pairs : (s : ℕ) → s < T.signals → unlisted T p s ≡ 0
      pairs s l =
          given_passes (suc (p s) - T.channels) (outside T.ranks (T.rank s (p s)))
          (λ e. omega (arith, h.listed s l (omega arith), h.ranked s l (omega arith)))

      room : (c : ℕ) → c < T.channels → crowded T p c ≡ 0
      room c l = omega (arith, h.room c l)

-- a test of plans, summed over the ways that are plans
unfoldable pub over_plans : Table → (Places → ℕ) → ℕ
over_plans T f = ways T.channels T.signals (λ l. given (faults T (places_of l)) (f (places_of l)))

-- A test whose sum is 0 passes for every plan, or rather for one that agrees with it.
pub every_plan : (T : Table) (f : Places → ℕ) → over_plans T f ≡ 0 → (p : Places) → Plan T p
    → (q : Places) × Agree T p q × (f q ≡ 0)
unfolding over_plans
every_plan T f h p plan =
    let q : Places = places_of (way T.channels T.signals p) in
    let a : Agree T p q = way_agrees T p in
    let passed : given (faults T q) (f q) ≡ 0 = every_way T.channels T.signals (λ l. given (faults T (places_of l)) (f (places_of l))) h p in
    (q, a, given_zero (faults T q) (f q) passed (faults_of_plan T q (agree_plan T p q a plan)))

-- Some way passes a test that not all fail.
pub some_plan : (T : Table) (f : Places → ℕ) → 1 ≤ ways T.channels T.signals (λ l. 1 - f (places_of l)) → (p : Places) × (f p ≡ 0)
some_plan T f h =
    let (l, e) = some_way T.channels T.signals (λ l. 1 - f (places_of l)) h in
    (places_of l, omega arith)

-- Laws of 0/1 tests and of bounded sums: monotone, additive, exchangeable, split at a point, read off at a point.
-- sum_tight is the one that makes bounds into equations: terms below terms with equal sums are equal terms.
-- Leans on specs/Numbers alone.
use Prim.Native.Nat.{ℕ, zero, suc, ◌+◌, ◌*◌, ◌≤◌, ◌<◌}
use mathlib.Core.Path.{◌≡◌, refl, ap, sym, ◌∙◌}
use native.Mathlib.Nat.{add-suc, add-zero, zero-mul, mul-one, mul-add, add-mul, mul-zero, mul-le-mul_left, eq_of_mul-eq-mul_left, lt_of_not-le, not-suc-le-zero}
use native.Mathlib.Decide.{ℕ_discrete, dec_lt}
use native.Mathlib.Omega.{arith}
use borrow.Author.Tests.{eq-eqb, ne_eqb, lt-ltb, le-ltb}
use Rattle.plans.specs.Numbers.{bit, same, under, sum}

-- Tests

pub same_yes : (a b : ℕ) → a ≡ b → same a b ≡ 1
unfolding same bit
same_yes a b e = ap bit (eq-eqb a b e)

pub same_no : (a b : ℕ) → (a ≡ b → ⊥) → same a b ≡ 0
unfolding same bit
same_no a b h = ap bit (ne_eqb a b h)

pub under_yes : (a b : ℕ) → a < b → under a b ≡ 1
unfolding under bit
under_yes a b h = ap bit (lt-ltb a b h)

pub under_no : (a b : ℕ) → b ≤ a → under a b ≡ 0
unfolding under bit
under_no a b h = ap bit (le-ltb a b h)

-- Either way of a test, with what it is worth.
pub by_same {ℓ} : {X : Type ℓ} (a b : ℕ) → (a ≡ b → same a b ≡ 1 → X) → ((a ≡ b → ⊥) → same a b ≡ 0 → X) → X
by_same {X = X} a b f g = go (ℕ_discrete a b)
  where
    go : Dec (a ≡ b) → X
    go (yes e) = f e (same_yes a b e)
    go (no h) = g h (same_no a b h)

pub by_under {ℓ} : {X : Type ℓ} (a b : ℕ) → (a < b → under a b ≡ 1 → X) → (b ≤ a → under a b ≡ 0 → X) → X
by_under {X = X} a b f g = go (dec_lt a b)
  where
    go : Dec (a < b) → X
    go (yes h) = f h (under_yes a b h)
    go (no h) = let k : b ≤ a = omega (arith, lt_of_not-le h) in g k (under_no a b k)

pub same_bit : (a b : ℕ) → same a b ≤ 1
same_bit a b = by_same a b (λ e h. omega arith) (λ e h. omega arith)

pub under-bit : (a b : ℕ) → under a b ≤ 1
under-bit a b = by_under a b (λ e h. omega arith) (λ e h. omega arith)

pub same_true : (a b : ℕ) → 1 ≤ same a b → a ≡ b
same_true a b h = by_same a b (λ e k. e) (λ e k. absurd (omega (arith, h, k)))

pub under_true : (a b : ℕ) → 1 ≤ under a b → a < b
under_true a b h = by_under a b (λ e k. e) (λ e k. absurd (omega (arith, h, k)))

pub same_comm : (a b : ℕ) → same a b ≡ same b a
same_comm a b = by_same a b (λ e k. k ∙ sym (same_yes b a (sym e))) (λ h k. k ∙ sym (same_no b a (λ e. h (sym e))))

-- Sums

module _ (f g : ℕ → ℕ) where
  pub sum_le : (n : ℕ) → ((i : ℕ) → i < n → f i ≤ g i) → sum n f ≤ sum n g
  unfolding sum
  sum_le zero h = omega arith
  sum_le (suc n) h = omega (arith, sum_le n (λ i l. h i (omega arith)), h n (omega arith))

  pub sum_ext : (n : ℕ) → ((i : ℕ) → i < n → f i ≡ g i) → sum n f ≡ sum n g
  unfolding sum
  sum_ext zero h = refl
  sum_ext (suc n) h = omega (arith, sum_ext n (λ i l. h i (omega arith)), h n (omega arith))

  pub sum_add : (n : ℕ) → sum n (λ i. f i + g i) ≡ sum n f + sum n g
  unfolding sum
  sum_add zero = refl
  sum_add (suc n) = omega (arith, sum_add n)

  -- terms that are at most others, with a sum that is at least theirs, are equal to them
  pub sum_tight : (n : ℕ) → ((i : ℕ) → i < n → f i ≤ g i) → sum n g ≤ sum n f → (i : ℕ) → i < n → f i ≡ g i
  unfolding sum
  sum_tight zero h e i l = absurd (not-suc-le-zero l)
  sum_tight (suc n) h e i l =
      let below : sum n f ≤ sum n g = sum_le n (λ j k. h j (omega arith)) in
      let last : f n ≤ g n = h n (omega arith) in
      pick (ℕ_discrete i n) below last (sum_tight n (λ j k. h j (omega arith)))
    where
      pick : Dec (i ≡ n) → sum n f ≤ sum n g → f n ≤ g n → (sum n g ≤ sum n f → (j : ℕ) → j < n → f j ≡ g j) → f i ≡ g i
      pick (yes p) below last ih = let here : f n ≡ g n = omega arith in rw p here
      pick (no p) below last ih = ih (omega arith) i (omega arith)

module _ (f : ℕ → ℕ) where
  pub sum_zero : (n : ℕ) → ((i : ℕ) → i < n → f i ≡ 0) → sum n f ≡ 0
  unfolding sum
  sum_zero zero h = refl
  sum_zero (suc n) h = omega (arith, sum_zero n (λ i l. h i (omega arith)), h n (omega arith))

  pub sum_term : (n i : ℕ) → i < n → f i ≤ sum n f
  unfolding sum
  sum_term zero i l = absurd (not-suc-le-zero l)
  sum_term (suc n) i l = pick (ℕ_discrete i n) (sum_term n i)
    where
      pick : Dec (i ≡ n) → (i < n → f i ≤ sum n f) → f i ≤ sum n f + f n
      pick (yes p) ih = rw p (omega arith)
      pick (no p) ih = omega (arith, ih (omega arith))

  pub sum_at_most : (n : ℕ) → ((i : ℕ) → i < n → f i ≤ 1) → sum n f ≤ n
  unfolding sum
  sum_at_most zero h = omega arith
  sum_at_most (suc n) h = omega (arith, sum_at_most n (λ i l. h i (omega arith)), h n (omega arith))

  pub sum_scale : (n k : ℕ) → sum n (λ i. k * f i) ≡ k * sum n f
  unfolding sum
  sum_scale zero k = sym (mul-zero k)
  sum_scale (suc n) k = omega (arith, sum_scale n k, mul-add k (sum n f) (f n))

  pub sum_split : (m n : ℕ) → sum (m + n) f ≡ sum m f + sum n (λ i. f (m + i))
  unfolding sum
  sum_split m zero = rw add-zero (sym (add-zero (sum m f)))
  sum_split m (suc n) = rw add-suc (omega (arith, sum_split m n))

pub sum_swap : (f : ℕ → ℕ → ℕ) (n m : ℕ) → sum n (λ i. sum m (λ j. f i j)) ≡ sum m (λ j. sum n (λ i. f i j))
unfolding sum
sum_swap f zero m = sym (sum_zero (λ j. 0) m (λ i l. refl))
sum_swap f (suc n) m = omega (arith, sum_swap f n m, sum_add (λ j. sum n (λ i. f i j)) (λ j. f n j) m)

pub under_suc : (x n : ℕ) → under x (suc n) ≡ under x n + same x n
under_suc x n =
    by_same x n
    (λ e h. omega (arith, under_yes x (suc n) (omega arith), under_no x n (omega arith)))
    (λ e h. by_under x n (λ l k. omega (arith, under_yes x (suc n) (omega arith))) (λ l k. omega (arith, under_no x (suc n) (omega arith))))

-- of all numbers below n only x counts, and only if it is one of them
pub sum_point : (f : ℕ → ℕ) (x n : ℕ) → sum n (λ i. same x i * f i) ≡ under x n * f x
unfolding sum
sum_point f x zero = rw (under_no x 0 (omega arith)) (sym (zero-mul (f x)))
sum_point f x (suc n) =
    let here : same x n * f n ≡ same x n * f x = by_same x n (λ e h. ap (λ (k : ℕ). same x n * f k) (sym e)) (λ e h. rw h (omega (arith, zero-mul (f n), zero-mul (f x)))) in
    omega (arith, sum_point f x n, here, add-mul (under x n) (same x n) (f x), ap (λ (k : ℕ). k * f x) (under_suc x n))

-- Counting and finding

pub same_iff : (a b c d : ℕ) → (a ≡ b → c ≡ d) → (c ≡ d → a ≡ b) → same a b ≡ same c d
same_iff a b c d f g = by_same a b (λ e h. h ∙ sym (same_yes c d (f e))) (λ e h. h ∙ sym (same_no c d (λ k. e (g k))))

-- x is one of the numbers below n, or none of them
pub sum_same : (x n : ℕ) → sum n (λ i. same x i) ≡ under x n
unfolding sum
sum_same x zero = sym (under_no x 0 (omega arith))
sum_same x (suc n) = omega (arith, sum_same x n, under_suc x n)

-- of two sums the smaller has a smaller term
pub sum_less : (f g : ℕ → ℕ) (n : ℕ) → sum n f < sum n g → (i : ℕ) × (i < n) × (f i < g i)
unfolding sum
sum_less f g zero l = absurd (omega arith)
sum_less f g (suc n) l = pick (dec_lt (f n) (g n)) (sum_less f g n)
  where
    pick : Dec (f n < g n) → (sum n f < sum n g → (i : ℕ) × (i < n) × (f i < g i)) → (i : ℕ) × (i < suc n) × (f i < g i)
    pick (yes h) ih = (n, omega arith, h)
    pick (no h) ih = let r : (i : ℕ) × (i < n) × (f i < g i) = ih (omega (arith, lt_of_not-le h)) in (r.0, omega arith, r.2)

-- Weighed sums need their terms compared only where the weight is not 0, and where their totals agree so do those terms.
module _ (k x y : ℕ → ℕ) (n : ℕ) (h : (i : ℕ) → i < n → 1 ≤ k i → x i ≤ y i) where
  weighed_term : (i : ℕ) → i < n → k i * x i ≤ k i * y i
  weighed_term i l = go (dec_lt 0 (k i))
    where
      go : Dec (1 ≤ k i) → k i * x i ≤ k i * y i
      go (yes m) = mul-le-mul_left (k i) (h i l m)
      go (no m) = let z : k i ≡ 0 = omega (arith, lt_of_not-le m) in rw z (omega (arith, zero-mul (x i), zero-mul (y i)))

  pub sum_weighed_le : sum n (λ i. k i * x i) ≤ sum n (λ i. k i * y i)
  sum_weighed_le = sum_le (λ i. k i * x i) (λ i. k i * y i) n weighed_term

  pub sum_weighed_tight : sum n (λ i. k i * y i) ≤ sum n (λ i. k i * x i) → (i : ℕ) → i < n → 1 ≤ k i → x i ≡ y i
  sum_weighed_tight e i l m =
      eq_of_mul-eq-mul_left (k i) m (x i) (y i) (sum_tight (λ i. k i * x i) (λ i. k i * y i) n weighed_term e i l)

pub sum_weighed_ext : (k x y : ℕ → ℕ) (n : ℕ) → ((i : ℕ) → i < n → 1 ≤ k i → x i ≡ y i)
    → sum n (λ i. k i * x i) ≡ sum n (λ i. k i * y i)
sum_weighed_ext k x y n h =
    omega (arith, sum_weighed_le k x y n (λ i l m. omega (arith, h i l m)), sum_weighed_le k y x n (λ i l m. omega (arith, h i l m)))

pub sum_weighed_one : (k : ℕ → ℕ) (n : ℕ) → sum n (λ i. k i * 1) ≡ sum n k
sum_weighed_one k n = sum_ext (λ i. k i * 1) k n (λ i l. mul-one (k i))

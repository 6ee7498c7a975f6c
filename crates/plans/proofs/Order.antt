-- The order of lines is total: two lines are the same, or one is the lesser, and never two of these at once.
-- Main results: compare_lines, Less_irrefl, Less_asym; NotMore is "not the greater", and two lines neither of which is the
-- greater are the same (same_of_not_more), also when they are known only by their sums (cancel).
use Prim.Native.Nat.{ℕ, zero, suc, ◌+◌, ◌≤◌, ◌<◌}
use mathlib.Core.Path.{◌≡◌, sym, ◌∙◌}
use native.Mathlib.Nat.{lt_of_not-le, not-suc-le-zero}
use native.Mathlib.Decide.{ℕ_discrete, dec_lt}
use native.Mathlib.Omega.{arith}
use Rattle.plans.specs.Order.{Less, Same, NotMore, Compared}
use Rattle.plans.specs.Order.Compared.{lesser, equal, greater}

-- below n or at n
pub split_last {ℓ} : {X : Type ℓ} (i n : ℕ) → i < suc n → (i ≡ n → X) → (i < n → X) → X
split_last {X = X} i n h at below = go (ℕ_discrete i n)
  where
    go : Dec (i ≡ n) → X
    go (yes e) = at e
    go (no e) = below (omega arith)

less_more : {n : ℕ} {f g : ℕ → ℕ} → Less n f g → Less (suc n) f g
less_more l = record { at = l.at; inside = omega arith; before = l.before; less = l.less }

less_here : {n : ℕ} {f g : ℕ → ℕ} → Same n f g → f n < g n → Less (suc n) f g
unfolding Same
less_here {n} e l = record { at = n; inside = omega arith; before = e; less = l }

pub same_more : (n : ℕ) (f g : ℕ → ℕ) → Same n f g → f n ≡ g n → Same (suc n) f g
unfolding Same
same_more n f g e here i l = split_last i n l (λ (p : i ≡ n). rw p here) (e i)

-- Two lines over n ranks are the same, or one is the lesser.
pub compare_lines : (n : ℕ) (f g : ℕ → ℕ) → Compared n f g
unfolding Same
compare_lines zero f g = equal (λ i l. absurd (not-suc-le-zero l))
compare_lines (suc n) f g = go (compare_lines n f g)
  where
    pick : Same n f g → Dec (f n < g n) → Dec (g n < f n) → Compared (suc n) f g
    pick e (yes l) h = lesser (less_here e l)
    pick e (no l) (yes h) = greater (less_here {f = g} {g = f} (λ i k. sym (e i k)) h)
    pick e (no l) (no h) = equal (same_more n f g e (omega (arith, lt_of_not-le l, lt_of_not-le h)))

    go : Compared n f g → Compared (suc n) f g
    go (lesser l) = lesser (less_more l)
    go (equal e) = pick e (dec_lt (f n) (g n)) (dec_lt (g n) (f n))
    go (greater l) = greater (less_more l)

pub not_more_of_not_less : (n : ℕ) (f g : ℕ → ℕ) → (Less n g f → ⊥) → NotMore n f g
unfolding NotMore
not_more_of_not_less n f g h i l before = go (dec_lt (g i) (f i))
  where
    go : Dec (g i < f i) → f i ≤ g i
    go (yes k) = absurd (h (record { at = i; inside = l; before = λ j m. sym (before j m); less = k }))
    go (no k) = omega (arith, lt_of_not-le k)

pub not_less_of_not_more : (n : ℕ) (f g : ℕ → ℕ) → NotMore n f g → Less n g f → ⊥
unfolding NotMore
not_less_of_not_more n f g h l = omega (arith, h l.at l.inside (λ j m. sym (l.before j m)), l.less)

pub not_more_of_same : (n : ℕ) (f g : ℕ → ℕ) → Same n f g → NotMore n f g
unfolding NotMore Same
not_more_of_same n f g e i l before = omega (arith, e i l)

pub Less_irrefl : (n : ℕ) (f g : ℕ → ℕ) → Same n f g → Less n f g → ⊥
unfolding Same
Less_irrefl n f g e l = omega (arith, e l.at l.inside, l.less)

-- Cancellation: if a is not more than c, b not more than d, and the two pairs have the same sums, then a is c and b is d.
pub cancel : (n : ℕ) (a b c d : ℕ → ℕ) → NotMore n a c → NotMore n b d → Same n (λ i. a i + b i) (λ i. c i + d i)
    → Same n a c × Same n b d
unfolding NotMore Same
cancel zero a b c d h k e = (λ i l. absurd (not-suc-le-zero l), λ i l. absurd (not-suc-le-zero l))
cancel (suc n) a b c d h k e =
    let less : Same n a c × Same n b d = cancel n a b c d (λ i l. h i (omega arith)) (λ i l. k i (omega arith)) (λ i l. e i (omega arith)) in
    let le : a n ≤ c n = h n (omega arith) less.0 in
    let le' : b n ≤ d n = k n (omega arith) less.1 in
    let sums : a n + b n ≡ c n + d n = e n (omega arith) in
    let here : a n ≡ c n = omega arith in
    let here' : b n ≡ d n = omega arith in
    (same_more n a c less.0 here, same_more n b d less.1 here')

-- neither the greater: the same
pub same_of_not_more : (n : ℕ) (f g : ℕ → ℕ) → NotMore n f g → NotMore n g f → Same n f g
unfolding NotMore Same
same_of_not_more n f g h k = go (compare_lines n f g)
  where
    go : Compared n f g → Same n f g
    go (lesser l) = absurd (not_less_of_not_more n g f k l)
    go (equal e) = e
    go (greater l) = absurd (not_less_of_not_more n f g h l)

-- Of two lines not both are the lesser.
pub Less_asym : (n : ℕ) (f g : ℕ → ℕ) → Less n f g → Less n g f → ⊥
Less_asym n f g l m = go (dec_lt l.at m.at) (dec_lt m.at l.at)
  where
    go : Dec (l.at < m.at) → Dec (m.at < l.at) → ⊥
    go (yes h) k = omega (arith, m.before l.at h, l.less)
    go (no h) (yes k) = omega (arith, l.before m.at k, m.less)
    go (no h) (no k) =
        let e : l.at ≡ m.at = omega (arith, lt_of_not-le h, lt_of_not-le k) in
        let there : g l.at < f l.at = rw e m.less in
        omega (arith, l.less)

pub Less_trans : (n : ℕ) (f g h : ℕ → ℕ) → Less n f g → Less n g h → Less n f h
Less_trans n f g h l m = go (dec_lt l.at m.at) (dec_lt m.at l.at)
  where
    go : Dec (l.at < m.at) → Dec (m.at < l.at) → Less n f h
    go (yes a) b =
        record {
          at = l.at;
          inside = l.inside;
          before = λ j k. l.before j k ∙ m.before j (omega arith);
          less = omega (arith, m.before l.at a, l.less);
        }
    go (no a) (yes b) =
        record {
          at = m.at;
          inside = m.inside;
          before = λ j k. l.before j (omega arith) ∙ m.before j k;
          less = omega (arith, l.before m.at b, m.less);
        }
    go (no a) (no b) =
        let e : l.at ≡ m.at = omega (arith, lt_of_not-le a, lt_of_not-le b) in
        let there : g l.at < h l.at = rw e m.less in
        record {
          at = l.at;
          inside = l.inside;
          before = λ j k. l.before j k ∙ m.before j (omega arith);
          less = omega (arith, l.less);
        }

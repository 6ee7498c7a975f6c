-- How tight the promise of comparing is: two answers that meet it on the same lines are equal (compare_tight), and the order
-- that is returned means what document 01 says, also at zero (order_means).
use Prim.Native.Nat.{ℕ, zero, suc, ◌≤◌, ◌<◌}
use mathlib.Core.Path.{◌≡◌, refl, sym, ◌∙◌}
use mathlib.Core.List.{List}
use mathlib.Core.Logic.{◌↔◌}
use native.Mathlib.Nat.{not-suc-le-zero}
use native.Mathlib.Decide.{dec_le}
use native.Mathlib.Omega.{arith}
use lib.ListN.{length, get_or}
use lib.IntN.{ℤ, pos, negsuc}
use Rattle.plans.specs.Order.{Less, Same, filled, Compared}
use Rattle.plans.specs.Order.Compared.{lesser, equal, greater}
use Rattle.plans.proofs.Order.{compare_lines, split_last, Less_irrefl, Less_asym}
use Rattle.std.specs.Prelude.{Result}
use Rattle.std.specs.declared.cmp.Ordering.{Ordering}
use Rattle.units.specs.declared.refusals.Refusal.{Refusal}
use Rattle.lines.specs.Comparing.{Line, Compares, comparison_order}

-- Whether a list is a line can be decided.

small_or_not : (l : List ℕ) (n : ℕ) → Dec ((i : ℕ) → i < n → get_or l i 0 ≤ 200)
small_or_not l zero = yes (λ i h. absurd (not-suc-le-zero h))
small_or_not l (suc n) = go (small_or_not l n) (dec_le (get_or l n 0) 200)
  where
    go : Dec ((i : ℕ) → i < n → get_or l i 0 ≤ 200) → Dec (get_or l n 0 ≤ 200) → Dec ((i : ℕ) → i < suc n → get_or l i 0 ≤ 200)
    go (no h) k = no (λ all. h (λ i l. all i (omega arith)))
    go (yes h) (no k) = no (λ all. k (all n (omega arith)))
    go (yes h) (yes k) = yes (λ i l. split_last i n l (λ (e : i ≡ n). rw e k) (h i))

line_or_not : (l : List ℕ) → Dec (Line l)
line_or_not l = go (dec_le (length l) 15) (small_or_not l (length l))
  where
    go : Dec (length l ≤ 15) → Dec ((i : ℕ) → i < length l → get_or l i 0 ≤ 200) → Dec (Line l)
    go (no h) k = no (λ n. h n.short)
    go (yes h) (no k) = no (λ n. k n.small)
    go (yes h) (yes k) = yes (record { short = h; small = k })

-- Whatever the two lists are, the promise names one answer.
answer : (a b : List ℕ) → (o : Result Ordering Refusal) × ((r : Result Ordering Refusal) → Compares a b r → r ≡ o)
answer a b = go (line_or_not a) (line_or_not b) (compare_lines 15 (filled a) (filled b))
  where
    go : Dec (Line a) → Dec (Line b) → Compared 15 (filled a) (filled b) → (o : Result Ordering Refusal) × ((r : Result Ordering Refusal) → Compares a b r → r ≡ o)
    go (no h) k c = (_, λ r p. p.refused (λ m n. h m))
    go (yes h) (no k) c = (_, λ r p. p.refused (λ m n. k n))
    go (yes h) (yes k) (lesser l) = (_, λ r p. (p.ordered h k).lesser l)
    go (yes h) (yes k) (equal e) = (_, λ r p. (p.ordered h k).equal e)
    go (yes h) (yes k) (greater l) = (_, λ r p. (p.ordered h k).greater l)

-- Two answers that meet the promise on the same two lists are equal, and so are number, place and order.
pub compare_tight : (a b : List ℕ) (r r' : Result Ordering Refusal) → Compares a b r → Compares a b r' → r ≡ r'
compare_tight a b r r' p p' = (answer a b).1 r p ∙ sym ((answer a b).1 r' p')

-- What the order of two lines means: −1 exactly where the first is the lesser, 0 exactly where they are equal, 1 exactly where
-- it is the greater.
pub record OrderMeans (a b : List ℕ) (o : ℤ) : Type 0 where
  pub minus_one : (o ≡ negsuc 0) ↔ Less 15 (filled a) (filled b)
  pub zero : (o ≡ pos 0) ↔ Same 15 (filled a) (filled b)
  pub one : (o ≡ pos 1) ↔ Less 15 (filled b) (filled a)

pub order_means : (a b : List ℕ) (r : Result Ordering Refusal) → Line a → Line b → Compares a b r → OrderMeans a b (comparison_order r)
unfolding Same
order_means a b r h k p = go (compare_lines 15 (filled a) (filled b))
  where
    go : Compared 15 (filled a) (filled b) → OrderMeans a b (comparison_order r)
    go (lesser l) =
        rw ((p.ordered h k).lesser l)
        (record {
          minus_one = (λ e. l, λ m. refl);
          zero = (λ e. cc, λ e. absurd (Less_irrefl 15 (filled a) (filled b) e l));
          one = (λ e. cc, λ m. absurd (Less_asym 15 (filled a) (filled b) l m));
        })
    go (equal e) =
        rw ((p.ordered h k).equal e)
        (record {
          minus_one = (λ q. cc, λ m. absurd (Less_irrefl 15 (filled a) (filled b) e m));
          zero = (λ q. e, λ m. refl);
          one = (λ q. cc, λ m. absurd (Less_irrefl 15 (filled b) (filled a) (λ j l. sym (e j l)) m));
        })
    go (greater l) =
        rw ((p.ordered h k).greater l)
        (record {
          minus_one = (λ q. cc, λ m. absurd (Less_asym 15 (filled a) (filled b) m l));
          zero = (λ q. cc, λ m. absurd (Less_irrefl 15 (filled b) (filled a) (λ j i. sym (m j i)) l));
          one = (λ q. l, λ m. refl);
        })

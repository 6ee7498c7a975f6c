-- Cutting a table at rank k keeps the first k best counts: what a plan does up to rank k does not depend on what comes after.
-- Main result: cut_best.
-- Leans on Sums and Pick.
use Prim.Native.Nat.{ℕ, suc, ◌*◌, ◌≤◌, ◌<◌}
use mathlib.Core.Path.{◌≡◌, refl, ap, sym, ◌∙◌}
use native.Mathlib.Omega.{arith}
use lib.Dec.{leb}
use Rattle.plans.specs.Numbers.{same}
use Rattle.plans.specs.Order.{Less, Same}
use Rattle.plans.specs.Plan.{Table, Places, Plan, Best, placed, load, line}
use Rattle.plans.specs.Tables.{pick, cut}
use Rattle.plans.proofs.Sums.{sum_ext, sum_le, same_no, under_no}
use Rattle.plans.proofs.Pick.{by_most}

module _ (k : ℕ) (T : Table) where
  -- Up to rank k any places have the same counts in the table and in the cut.
  line-cut : (p : Places) (i : ℕ) → i < k → line (cut k T) p i ≡ line T p i
  unfolding line placed cut
  line-cut p i l = sum_ext _ _ T.signals (λ s h. ap (λ (n : ℕ). placed T p s * n) (at_signal s))
    where
      at_signal : (s : ℕ) → same (pick (leb (T.rank s (p s)) k) (T.rank s (p s)) 0) (suc i) ≡ same (T.rank s (p s)) (suc i)
      at_signal s =
          by_most (T.rank s (p s)) k
          (λ h e. rw e refl)
          (λ h e. rw e (same_no 0 (suc i) (omega arith) ∙ sym (same_no (T.rank s (p s)) (suc i) (omega arith))))

  -- A plan with the pairs of rank above k left out.
  unfoldable kept : Places → Places
  kept p s = pick (leb (T.rank s (p s)) k) (p s) T.channels

  line_kept : (p : Places) (i : ℕ) → i < k → line T (kept p) i ≡ line T p i
  unfolding line placed kept
  line_kept p i l = sum_ext _ _ T.signals (λ s h. at_signal s)
    where
      at_signal : (s : ℕ) → placed T (kept p) s * same (T.rank s (kept p s)) (suc i) ≡ placed T p s * same (T.rank s (p s)) (suc i)
      at_signal s =
          by_most (T.rank s (p s)) k
          (λ h e. rw e refl)
          (λ h e.
          rw (e, under_no T.channels T.channels (omega arith), same_no (T.rank s (p s)) (suc i) (omega arith)) (omega arith))

  plan_kept : (p : Places) → Plan T p → Plan (cut k T) (kept p)
  unfolding cut kept load
  plan_kept p P =
      record {
        listed = λ s h l. (at_signal s h l).0;
        ranked = λ s h l. (at_signal s h l).1;
        room = λ c l.
            let less : load T (kept p) c ≤ load T p c = sum_le _ _ T.signals (λ s h. load_at s c l) in
            omega (arith, P.room c l);
      }
    where
      at_signal : (s : ℕ) → s < T.signals → kept p s < T.channels → (1 ≤ (cut k T).rank s (kept p s)) × ((cut k T).rank s (kept p s) ≤ k)
      at_signal s h =
          by_most (T.rank s (p s)) k
          (λ m e. rw (e (p s) T.channels, e (T.rank s (p s)) 0) (λ l. (P.listed s h l, m)))
          (λ m e. rw e (λ l. absurd (omega arith)))

      load_at : (s c : ℕ) → c < T.channels → same (kept p s) c ≤ same (p s) c
      load_at s c l =
          by_most (T.rank s (p s)) k
          (λ m e. rw e (omega arith))
          (λ m e. rw (e, same_no T.channels c (omega arith)) (omega arith))

  plan_of_cut : (p : Places) → k ≤ T.ranks → Plan (cut k T) p → Plan T p
  unfolding cut load
  plan_of_cut p below P =
      record {
        listed = λ s h l. (at_signal s (P.listed s h l)).0;
        ranked = λ s h l. (at_signal s (P.listed s h l)).1;
        room = P.room;
      }
    where
      at_signal : (s : ℕ) → 1 ≤ (cut k T).rank s (p s) → (1 ≤ T.rank s (p s)) × (T.rank s (p s) ≤ T.ranks)
      at_signal s = by_most (T.rank s (p s)) k (λ m e. rw e (λ l. (l, omega arith))) (λ m e. rw e (λ l. absurd (omega arith)))

-- The first k best counts of a table are the best counts of the table cut at rank k.
pub cut_best : (k : ℕ) (T : Table) (b : ℕ → ℕ) → k ≤ T.ranks → Best T b → Best (cut k T) b
unfolding cut Same
cut_best k T b below B =
    record {
      places = kept k T p;
      best =
          record {
            plan = plan_kept k T p B.best.plan;
            unbeaten = λ q Q l. B.best.unbeaten q (plan_of_cut k T q below Q) (less q l);
          };
      counts = λ i l. line_of i l ∙ B.counts i (omega arith);
    }
  where
    p : Places
    p = B.places

    line_of : (i : ℕ) → i < k → line (cut k T) (kept k T p) i ≡ line T p i
    line_of i l = line-cut k T (kept k T p) i l ∙ line_kept k T p i l

    less : (q : Places) → Less k (line (cut k T) (kept k T p)) (line (cut k T) q) → Less T.ranks (line T p) (line T q)
    less q l =
        record {
          at = l.at;
          inside = omega arith;
          before = λ j h. sym (line_of j (omega arith)) ∙ l.before j h ∙ line-cut k T q j (omega arith);
          less = omega (arith, line_of l.at l.inside, line-cut k T q l.at l.inside, l.less);
        }

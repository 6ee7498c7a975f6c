-- Of two tables side by side the best counts are the sums of the two tables' best counts: a plan of the two together is a
-- plan of each, and the other way round.
-- Main result: beside_best.
-- Leans on Sums, Order and Pick.
use Prim.Native.Nat.{ℕ, suc, ◌+◌, ◌-◌, ◌*◌, ◌≤◌, ◌<◌}
use mathlib.Core.Path.{◌≡◌, refl, ap, ap₂, sym, ◌∙◌, fun_ext}
use native.Mathlib.Nat.{add-sub_cancel_left, lt_of_not-le}
use native.Mathlib.Decide.{dec_lt}
use native.Mathlib.Omega.{arith}
use borrow.Author.Tests.{lt-ltb, le-ltb}
use lib.Dec.{ltb}
use Rattle.plans.specs.Numbers.{same, under}
use Rattle.plans.specs.Order.{Less, Same, NotMore}
use Rattle.plans.specs.Plan.{Table, Places, Plan, Best, placed, load, line}
use Rattle.plans.specs.Tables.{pick, then_from, beside}
use Rattle.plans.proofs.Sums.{by_under, same_iff, sum_ext, sum_zero, sum_split, same_no, under_yes, under_no}
use Rattle.plans.proofs.Order.{not_more_of_not_less, not_less_of_not_more, cancel}
use Rattle.plans.proofs.Pick.{pick_yes, pick_no, by_below}

-- what holds of the numbers below m and of the n numbers from m on holds of those below m + n
by_half : (X : ℕ → Type 0) (m n : ℕ) → ((i : ℕ) → i < m → X i) → ((i : ℕ) → i < n → X (m + i)) → (i : ℕ) → i < m + n → X i
by_half X m n f g i l = go (dec_lt i m)
  where
    go : Dec (i < m) → X i
    go (yes h) = f i h
    go (no h) = let e : i ≡ m + (i - m) = omega (arith, lt_of_not-le h) in rw e (g (i - m) (omega arith))

then_from_first : (m : ℕ) (f g : ℕ → ℕ) (i : ℕ) → i < m → then_from m f g i ≡ f i
unfolding then_from
then_from_first m f g i l = pick_yes _ _ (lt-ltb i m l)

then_from_second : (m : ℕ) (f g : ℕ → ℕ) (i : ℕ) → then_from m f g (m + i) ≡ g i
unfolding then_from
then_from_second m f g i = pick_no _ _ (le-ltb (m + i) m (omega arith)) ∙ ap g (add-sub_cancel_left m i)

-- Place a among C channels and place b among D say the same: both name a channel, and E holds, or neither does.
data Alike (C a D b : ℕ) (E : Type 0) : Type 0 where
  both : a < C → b < D → E → Alike C a D b E
  neither : C ≤ a → D ≤ b → Alike C a D b E

by_alike {ℓ} : {X : Type ℓ} {C a D b : ℕ} {E : Type 0} → Alike C a D b E → (a < C → b < D → E → X) → (C ≤ a → D ≤ b → X) → X
by_alike (both h l e) f g = f h l e
by_alike (neither h l) f g = g h l

-- Place a, of rank r, may be used where there are C channels and R ranks.
record Allowed (R C a r : ℕ) : Type 0 where
  listed : a < C → 1 ≤ r
  ranked : a < C → r ≤ R

module _ {C a D b r q : ℕ} where
  alike_term : (n : ℕ) → Alike C a D b (r ≡ q) → under a C * same r n ≡ under b D * same q n
  alike_term n (both h l e) = rw (under_yes a C h, under_yes b D l, e) refl
  alike_term n (neither h l) = rw (under_no a C h, under_no b D l) (omega arith)

  alike_allowed : (R : ℕ) → Alike C a D b (r ≡ q) → Allowed R C a r → Allowed R D b q
  alike_allowed R (both h l e) A = record { listed = λ m. omega (arith, A.listed h); ranked = λ m. omega (arith, A.ranked h) }
  alike_allowed R (neither h l) A = record { listed = λ m. absurd (omega arith); ranked = λ m. absurd (omega arith) }

  alike_sym : Alike C a D b (r ≡ q) → Alike D b C a (q ≡ r)
  alike_sym A = by_alike A (λ h l e. both l h (sym e)) (λ h l. neither l h)

allowed : (T : Table) (p : Places) → Plan T p → (s : ℕ) → s < T.signals → Allowed T.ranks T.channels (p s) (T.rank s (p s))
allowed T p P s h = record { listed = P.listed s h; ranked = P.ranked s h }

plan_of : (T : Table) (p : Places) → ((s : ℕ) → s < T.signals → Allowed T.ranks T.channels (p s) (T.rank s (p s)))
    → ((c : ℕ) → c < T.channels → load T p c ≤ T.slots c)
    → Plan T p
plan_of T p A room = record { listed = λ s h. (A s h).listed; ranked = λ s h. (A s h).ranked; room = room }

module _ (T U : Table) where
  abbrev S : ℕ
  S = T.signals

  abbrev C : ℕ
  C = T.channels

  abbrev D : ℕ
  D = U.channels

  abbrev TU : Table
  TU = beside T U

  rank_first : (s c : ℕ) → s < S → TU.rank s c ≡ pick (ltb c C) (T.rank s c) 0
  unfolding beside
  rank_first s c l = pick_yes _ _ (lt-ltb s S l)

  rank_second : (s c : ℕ) → TU.rank (S + s) c ≡ pick (ltb c C) 0 (U.rank s (c - C))
  unfolding beside
  rank_second s c = pick_no _ _ (le-ltb (S + s) S (omega arith))
      ∙ ap (λ (n : ℕ). pick (ltb c C) 0 (U.rank n (c - C))) (add-sub_cancel_left S s)

  -- Places w of the two tables together are places p of the first and q of the second.
  record Halves (w p q : Places) : Type 0 where
    first : (s : ℕ) → s < S → Alike (C + D) (w s) C (p s) (w s ≡ p s)
    second : (s : ℕ) → s < U.signals → Alike (C + D) (w (S + s)) D (q s) (w (S + s) ≡ C + q s)

  module _ {w p q : Places} (H : Halves w p q) where
    pair_first : (s : ℕ) → s < S → Alike (C + D) (w s) C (p s) (TU.rank s (w s) ≡ T.rank s (p s))
    pair_first s h =
        by_alike (H.first s h)
        (λ a b e. both a b (rw e (rank_first s (p s) h ∙ pick_yes _ _ (lt-ltb (p s) C b))))
        neither

    pair_second : (s : ℕ) → s < U.signals → Alike (C + D) (w (S + s)) D (q s) (TU.rank (S + s) (w (S + s)) ≡ U.rank s (q s))
    pair_second s h =
        by_alike (H.second s h)
        (λ a b e. both a b (rw e (rank_second s (C + q s) ∙ pick_no _ _ (le-ltb (C + q s) C (omega arith)) ∙ moved_back s)))
        neither
      where
        moved_back : (s : ℕ) → U.rank s (C + q s - C) ≡ U.rank s (q s)
        moved_back s = ap (U.rank s) (add-sub_cancel_left C (q s))

    line_halves : (i : ℕ) → line TU w i ≡ line T p i + line U q i
    unfolding line placed beside
    line_halves i = sum_split _ S U.signals
        ∙ ap₂ ◌+◌
        (sum_ext _ _ S (λ s h. alike_term (suc i) (pair_first s h)))
        (sum_ext _ _ U.signals (λ s h. alike_term (suc i) (pair_second s h)))

    load_first : (c : ℕ) → c < C → load TU w c ≡ load T p c
    unfolding load beside
    load_first c l =
        omega (
          arith,
          sum_split (λ s. same (w s) c) S U.signals,
          sum_ext (λ s. same (w s) c) (λ s. same (p s) c) S here,
          sum_zero (λ s. same (w (S + s)) c) U.signals there,
        )
      where
        here : (s : ℕ) → s < S → same (w s) c ≡ same (p s) c
        here s h = by_alike (H.first s h) (λ a b e. rw e refl) (λ a b. same_iff (w s) c (p s) c (omega arith) (omega arith))

        there : (s : ℕ) → s < U.signals → same (w (S + s)) c ≡ 0
        there s h = by_alike (H.second s h) (λ a b e. same_no (w (S + s)) c (omega arith)) (λ a b. same_no (w (S + s)) c (omega arith))

    load_second : (c : ℕ) → c < D → load TU w (C + c) ≡ load U q c
    unfolding load beside
    load_second c l =
        omega (
          arith,
          sum_split (λ s. same (w s) (C + c)) S U.signals,
          sum_zero (λ s. same (w s) (C + c)) S there,
          sum_ext (λ s. same (w (S + s)) (C + c)) (λ s. same (q s) c) U.signals here,
        )
      where
        here : (s : ℕ) → s < U.signals → same (w (S + s)) (C + c) ≡ same (q s) c
        here s h =
            by_alike (H.second s h)
            (λ a b e. same_iff (w (S + s)) (C + c) (q s) c (omega arith) (omega arith))
            (λ a b. same_iff (w (S + s)) (C + c) (q s) c (omega arith) (omega arith))

        there : (s : ℕ) → s < S → same (w s) (C + c) ≡ 0
        there s h = by_alike (H.first s h) (λ a b e. same_no (w s) (C + c) (omega arith)) (λ a b. same_no (w s) (C + c) (omega arith))

    plan_together : U.ranks ≡ T.ranks → Plan T p → Plan U q → Plan TU w
    unfolding beside
    plan_together ranks P Q =
        plan_of TU w
        (by_half (λ s. Allowed T.ranks (C + D) (w s) (TU.rank s (w s))) S U.signals
        (λ s h. alike_allowed T.ranks (alike_sym (pair_first s h)) (allowed T p P s h))
        (λ s h. alike_allowed T.ranks (alike_sym (pair_second s h)) (rw ranks at (allowed U q Q s h))))
        (by_half (λ c. load TU w c ≤ TU.slots c) C D
        (λ c l. omega (arith, load_first c l, then_from_first C T.slots U.slots c l, P.room c l))
        (λ c l. omega (arith, load_second c l, then_from_second C T.slots U.slots c, Q.room c l)))

    plan_first : Plan TU w → Plan T p
    unfolding beside
    plan_first W =
        plan_of T p
        (λ s h. alike_allowed T.ranks (pair_first s h) (allowed TU w W s (omega arith)))
        (λ c l. omega (arith, load_first c l, then_from_first C T.slots U.slots c l, W.room c (omega arith)))

    plan_second : U.ranks ≡ T.ranks → Plan TU w → Plan U q
    unfolding beside
    plan_second ranks W =
        plan_of U q
        (λ s h. alike_allowed U.ranks (pair_second s h) (rw (← ranks) at (allowed TU w W (S + s) (omega arith))))
        (λ c l. omega (arith, load_second c l, then_from_second C T.slots U.slots c, W.room (C + c) (omega arith)))

  -- Places of the two tables together, from places of each.
  unfoldable joined : Places → Places → Places
  joined p q = then_from S (λ s. pick (ltb (p s) C) (p s) (C + D)) (λ s. C + q s)

  halves_joined : (p q : Places) → Halves (joined p q) p q
  unfolding joined
  halves_joined p q =
      record {
        first = λ s h.
            rw (then_from_first S first (λ t. C + q t) s h)
            (by_below (p s) C (λ l e. rw e (both (omega arith) l refl)) (λ l e. rw e (neither (omega arith) l)));
        second = λ s h.
            rw (then_from_second S first (λ t. C + q t) s)
            (by_under (q s) D (λ l e. both (omega arith) l refl) (λ l e. neither (omega arith) l));
      }
    where
      first : Places
      first t = pick (ltb (p t) C) (p t) (C + D)

  -- A plan of the two tables together uses no pair with an end in each, so it falls into halves.
  unfoldable second_half : Places → Places
  second_half w s = w (S + s) - C

  halves_of_plan : (w : Places) → Plan TU w → Halves w w (second_half w)
  unfolding beside second_half
  halves_of_plan w W =
      record {
        first = λ s h.
            by_below (w s) C
            (λ l e. both (omega arith) l refl)
            (λ l e. neither (unlisted s (omega arith) (rank_first s (w s) h ∙ e (T.rank s (w s)) 0)) l);
        second = λ s h.
            by_below (w (S + s)) C
            (λ l e. absurd (omega (arith, unlisted (S + s) (omega arith) (rank_second s (w (S + s)) ∙ e 0 (U.rank s (w (S + s) - C))))))
            (λ l e. by_under (w (S + s)) (C + D) (λ m k. both m (omega arith) (omega arith)) (λ m k. neither m (omega arith)));
      }
    where
      unlisted : (s : ℕ) → s < S + U.signals → TU.rank s (w s) ≡ 0 → C + D ≤ w s
      unlisted s h e = by_under (w s) (C + D) (λ l k. absurd (omega (arith, W.listed s h l))) (λ l k. l)

-- Neither of two lines more than its bound: their sum is not more than the bounds' sum.
not_more_add : (n : ℕ) (a b c d : ℕ → ℕ) → NotMore n a c → NotMore n b d → NotMore n (λ i. a i + b i) (λ i. c i + d i)
unfolding NotMore Same
not_more_add n a b c d h k i l before =
    let earlier : Same i a c × Same i b d = cancel i a b c d (λ j m. h j (omega arith)) (λ j m. k j (omega arith)) before in
    omega (arith, h i l earlier.0, k i l earlier.1)

-- The best counts of two tables side by side are the sums of their best counts.
pub beside_best : (T U : Table) (a b : ℕ → ℕ) → U.ranks ≡ T.ranks → Best T a → Best U b → Best (beside T U) (λ i. a i + b i)
unfolding beside Same NotMore
beside_best T U a b ranks A B =
    record {
      places = joined T U p q;
      best = record { plan = plan_together T U H ranks A.best.plan B.best.plan; unbeaten = unbeaten };
      counts = λ i l. omega (arith, line_halves T U H i, A.counts i l, B.counts i (omega arith));
    }
  where
    p : Places
    p = A.places

    q : Places
    q = B.places

    H : Halves T U (joined T U p q) p q
    H = halves_joined T U p q

    unbeaten : (w : Places) → Plan (beside T U) w → Less T.ranks (line (beside T U) (joined T U p q)) (line (beside T U) w) → ⊥
    unbeaten w W =
        let w' = second_half T U w in
        let K = halves_of_plan T U w W in
        let first = not_more_of_not_less T.ranks (line T w) (line T p) (A.best.unbeaten w (plan_first T U K W)) in
        let second = not_more_of_not_less U.ranks (line U w') (line U q) (B.best.unbeaten w' (plan_second T U K ranks W)) in
        rw (fun_ext (line_halves T U H), fun_ext (line_halves T U K))
        (not_less_of_not_more T.ranks _ _
        (not_more_add T.ranks (line T w) (line U w') (line T p) (line U q) first (λ i l. second i (omega arith))))

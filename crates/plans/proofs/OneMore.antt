-- One more signal: the best counts do not get lower, and the best total stays or grows by one.
-- The total by exchange: move the new signal to where the larger table's best plan puts it; if that channel was full, move a signal
-- of it that has not moved yet to where that plan puts it, and so on. Only the last channel has one more than before, and had room.
-- Main results: one_more_not_lower, one_more_total.
-- Leans on Sums, Order, Pick and total_of_line.
use Prim.Native.Nat.{ℕ, zero, suc, ◌+◌, ◌*◌, ◌≤◌, ◌<◌}
use mathlib.Core.Path.{◌≡◌, refl, ap, ap₂, sym, ◌∙◌, fun_ext}
use mathlib.Core.Logic.{◌⊎◌, ⊎_elim, inl, inr}
use native.Mathlib.Nat.{add-mul, one-mul, mul-le-mul_right, lt_of_not-le}
use native.Mathlib.Decide.{dec_lt}
use native.Mathlib.Omega.{arith}
use borrow.Author.Tests.{lt-ltb, le-ltb}
use lib.Dec.{ltb}
use Rattle.plans.specs.Numbers.{same, under, sum}
use Rattle.plans.specs.Order.{Less, Same, NotMore}
use Rattle.plans.specs.Plan.{Table, Places, Plan, Best, placed, load, line, total}
use Rattle.plans.specs.Tables.{pick, one_more}
use Rattle.plans.proofs.Sums.{by_same, by_under, same_yes, same_no, same_bit, under_yes, under_no, sum_le, sum_ext, sum_add, sum_at_most, sum_swap, sum_point, sum_same, sum_less}
use Rattle.plans.proofs.Order.{split_last, not_more_of_not_less, cancel}
use Rattle.plans.proofs.Pick.{pick_yes, pick_no, by_below}
use Rattle.plans.proofs.BestCounts.{total_of_line}

-- The places f for the signals of the set x, and g for the others. A set is a 0/1 function.
unfoldable mixed : (ℕ → ℕ) → Places → Places → Places
mixed x f g s = pick (ltb 0 (x s)) (f s) (g s)

sum_at : (t : ℕ) (f : ℕ → ℕ) (n : ℕ) → t < n → sum n (λ s. same t s * f s) ≡ f t
sum_at t f n l = sum_point f t n ∙ rw (under_yes t n l) (one-mul (f t))

-- one more signal in the set
sum_grown : (x : ℕ → ℕ) (t : ℕ) (f : ℕ → ℕ) (n : ℕ) → t < n → sum n (λ s. (x s + same t s) * f s) ≡ sum n (λ s. x s * f s) + f t
sum_grown x t f n l = sum_ext _ _ n (λ s h. add-mul (x s) (same t s) (f s))
    ∙ sum_add _ _ n
    ∙ ap (λ (k : ℕ). sum n (λ s. x s * f s) + k) (sum_at t f n l)

-- Whatever is summed over the signals: mixing f into g puts what the signals of x have by f in place of what they have by g.
sum_mixed : (x : ℕ → ℕ) → ((s : ℕ) → x s ≤ 1) → (f g : Places) (h : ℕ → ℕ → ℕ) (n : ℕ)
    → sum n (λ s. h s (mixed x f g s)) + sum n (λ s. x s * h s (g s)) ≡ sum n (λ s. x s * h s (f s)) + sum n (λ s. h s (g s))
unfolding mixed
sum_mixed x bit f g h n = sym (sum_add _ _ n) ∙ sum_ext _ _ n (λ s l. at_signal s) ∙ sum_add _ _ n
  where
    at_signal : (s : ℕ) → h s (mixed x f g s) + x s * h s (g s) ≡ x s * h s (f s) + h s (g s)
    at_signal s =
        by_below 0 (x s)
        (λ k e. let one : x s ≡ 1 = omega (arith, bit s) in rw (e, one) (omega arith))
        (λ k e. let none : x s ≡ 0 = omega arith in rw (e, none) (omega arith))

plan_mixed : (T : Table) (x : ℕ → ℕ) (f g : Places) → Plan T f → Plan T g
    → ((c : ℕ) → c < T.channels → load T (mixed x f g) c ≤ T.slots c)
    → Plan T (mixed x f g)
unfolding mixed
plan_mixed T x f g F G room =
    record {
      listed = λ s h. by_below 0 (x s) (λ l e. rw e (F.listed s h)) (λ l e. rw e (G.listed s h));
      ranked = λ s h. by_below 0 (x s) (λ l e. rw e (F.ranked s h)) (λ l e. rw e (G.ranked s h));
      room = room;
    }

-- The total of a plan is the sum of its loads.
total_of_loads : (T : Table) (p : Places) → total T p ≡ sum T.channels (load T p)
unfolding total load placed
total_of_loads T p = sum_ext _ _ T.signals (λ s h. sym (sum_same (p s) T.channels))
    ∙ sum_swap (λ s c. same (p s) c) T.signals T.channels

-- What the moves make of two plans, the old of which leaves the signal start out: the old plan with the moves made and the new
-- plan with them taken back.
record Exchange (T : Table) (old new : Places) (start : ℕ) : Type 0 where
  forward : Places
  back : Places
  plan_forward : Plan T forward
  plan_back : Plan T back
  out : T.channels ≤ back start
  lines : (i : ℕ) → line T forward i + line T back i ≡ line T new i + line T old i
  totals : (total T forward ≡ total T old) ⊎ (total T forward ≡ suc (total T old))

module _ (T : Table)
    (old new : Places)
    (O : Plan T old)
    (N : Plan T new)
    (start : ℕ)
    (exists : start < T.signals)
    (free : T.channels ≤ old start) where
  abbrev S : ℕ
  S = T.signals

  abbrev C : ℕ
  C = T.channels

  -- The signals of x, start among them, move from their old places to their new ones; after that each channel has as many of
  -- them as before, and c has one more.
  record Moved (x : ℕ → ℕ) (c : ℕ) : Type 0 where
    bit : (s : ℕ) → x s ≤ 1
    started : 1 ≤ x start
    flow : (d : ℕ) → d < C → sum S (λ s. x s * same (new s) d) ≡ sum S (λ s. x s * same (old s) d) + same c d

  moved_start : Moved (same start) (new start)
  moved_start =
      record {
        bit = same_bit start;
        started = omega (arith, same_yes start start refl);
        flow = λ d l.
            omega (
              arith,
              sum_at start (λ s. same (new s) d) S exists,
              sum_at start (λ s. same (old s) d) S exists,
              same_no (old start) d (omega arith),
            );
      }

  -- a signal on the channel with one more, not moved yet, moves too
  moved_more : (x : ℕ → ℕ) (t : ℕ) → Moved x (old t) → t < S → x t ≡ 0 → Moved (λ s. x s + same t s) (new t)
  moved_more x t M l e =
      record {
        bit = λ s. by_same t s (λ k h. let none : x s ≡ 0 = rw k at e in omega arith) (λ k h. omega (arith, M.bit s));
        started = omega (arith, M.started);
        flow = λ d m. omega (arith, sum_grown x t (λ s. same (new s) d) S l, sum_grown x t (λ s. same (old s) d) S l, M.flow d m);
      }

  -- The moves are over: the channel with one more is none, or had room.
  record Settled : Type 0 where
    set : ℕ → ℕ
    last : ℕ
    moved : Moved set last
    fits : last < C → load T old last < T.slots last

  -- A full channel with one more has a signal that has not moved.
  find : (x : ℕ → ℕ) (c : ℕ) → Moved x c → c < C → T.slots c ≤ load T old c → (t : ℕ) × (t < S) × (x t ≡ 0) × (old t ≡ c)
  unfolding load
  find x c M l full =
      let moved_here : sum S (λ s. x s * same (new s) c) ≤ load T new c =
      sum_le _ _ S (λ s h. omega (arith, mul-le-mul_right (same (new s) c) (M.bit s), one-mul (same (new s) c))) in
      at_term (sum_less (λ s. x s * same (old s) c) (λ s. same (old s) c) S (omega (arith, M.flow c l, same_yes c c refl, N.room c l)))
    where
      at_term : (t : ℕ) × (t < S) × (x t * same (old t) c < same (old t) c) → (t : ℕ) × (t < S) × (x t ≡ 0) × (old t ≡ c)
      at_term r =
          by_same (old r.0) c
          (λ e h. (r.0, r.1, omega (arith, rw h at r.2), e))
          (λ e h. absurd (omega (arith, rw h at r.2)))

  -- The moves are over, or there is one more to make.
  step : (x : ℕ → ℕ) (c : ℕ) → Moved x c
      → ((t : ℕ) → Moved (λ s. x s + same t s) (new t) → sum S (λ s. x s + same t s) ≡ suc (sum S x) → Settled)
      → Settled
  step x c M more =
      by_under c C
      (λ l k. full_or_not l (dec_lt (load T old c) (T.slots c)))
      (λ l k. record { set = x; last = c; moved = M; fits = λ m. absurd (omega arith) })
    where
      move : (t : ℕ) × (t < S) × (x t ≡ 0) × (old t ≡ c) → Settled
      move (t, l, e, k) = more t (moved_more x t (rw k M) l e) (omega (arith, sum_add x (same t) S, sum_same t S, under_yes t S l))

      full_or_not : c < C → Dec (load T old c < T.slots c) → Settled
      full_or_not l (yes h) = record { set = x; last = c; moved = M; fits = λ m. h }
      full_or_not l (no h) = move (find x c M l (omega (arith, lt_of_not-le h)))

  -- The moves come to an end, since each takes a signal that has not moved.
  settle : (fuel : ℕ) (x : ℕ → ℕ) (c : ℕ) → Moved x c → S ≤ fuel + sum S x → Settled
  settle zero x c M enough = step x c M (λ t K e. absurd (omega (arith, sum_at_most (λ s. x s + same t s) S (λ s l. K.bit s))))
  settle (suc fuel) x c M enough = step x c M (λ t K e. settle fuel (λ s. x s + same t s) (new t) K (omega arith))

  exchange_settled : Settled → Exchange T old new start
  unfolding mixed line placed load
  exchange_settled Z =
      record {
        forward = forward;
        back = back;
        plan_forward = plan_mixed T x new old N O λ c l.
            by_same Z.last c
            (λ e h. omega (arith, load_forward c l, rw e at Z.fits l))
            (λ e h. omega (arith, load_forward c l, O.room c l));
        plan_back = plan_mixed T x old new O N (λ c l. omega (arith, load_back c l, N.room c l));
        out = by_below 0 (x start) (λ l e. rw e free) (λ l e. absurd (omega (arith, Z.moved.started)));
        lines = λ i.
            let at : ℕ → ℕ → ℕ = λ s c. under c C * same (T.rank s c) (suc i) in
            omega (arith, sum_mixed x Z.moved.bit new old at S, sum_mixed x Z.moved.bit old new at S);
        totals = by_under Z.last C (λ l e. inr (omega (arith, total_forward))) (λ l e. inl (omega (arith, total_forward)));
      }
    where
      x : ℕ → ℕ
      x = Z.set

      forward : Places
      forward = mixed x new old

      back : Places
      back = mixed x old new

      load_forward : (c : ℕ) → c < C → load T forward c ≡ load T old c + same Z.last c
      load_forward c l = omega (arith, sum_mixed x Z.moved.bit new old (λ s a. same a c) S, Z.moved.flow c l)

      load_back : (c : ℕ) → c < C → load T back c + same Z.last c ≡ load T new c
      load_back c l = omega (arith, sum_mixed x Z.moved.bit old new (λ s a. same a c) S, Z.moved.flow c l)

      total_forward : total T forward ≡ total T old + under Z.last C
      total_forward = total_of_loads T forward
          ∙ sum_ext _ _ C load_forward
          ∙ sum_add (load T old) (same Z.last) C
          ∙ ap₂ ◌+◌ (sym (total_of_loads T old)) (sum_same Z.last C)

  exchange : Exchange T old new start
  exchange = exchange_settled (settle S (same start) (new start) moved_start (omega arith))

-- Places q of a table with one more signal are the places p of the table, and leave the new signal out.
record LeavesOut (T : Table) (p q : Places) : Type 0 where
  agree : (s : ℕ) → s < T.signals → q s ≡ p s
  out : T.channels ≤ q T.signals

module _ (T : Table) (list : ℕ → ℕ) {p q : Places} (L : LeavesOut T p q) where
  rank_without : (s : ℕ) → s < T.signals → (one_more T list).rank s (q s) ≡ T.rank s (p s)
  unfolding one_more
  rank_without s h = pick_yes _ _ (lt-ltb s T.signals h) ∙ ap (T.rank s) (L.agree s h)

  line_without : (i : ℕ) → line (one_more T list) q i ≡ line T p i
  unfolding line placed one_more sum
  line_without i =
      let term : ℕ → ℕ → ℕ = λ a r. under a T.channels * same r (suc i) in
      rw (under_no (q T.signals) T.channels L.out)
      (omega (arith, sum_ext _ _ T.signals (λ s h. ap₂ term (L.agree s h) (rank_without s h))))

  load_without : (c : ℕ) → c < T.channels → load (one_more T list) q c ≡ load T p c
  unfolding load one_more sum
  load_without c l =
      omega (
        arith,
        sum_ext (λ s. same (q s) c) (λ s. same (p s) c) T.signals (λ s h. ap (λ (a : ℕ). same a c) (L.agree s h)),
        same_no (q T.signals) c (omega (arith, L.out)),
      )

  plan_with : Plan T p → Plan (one_more T list) q
  unfolding one_more
  plan_with P =
      record {
        listed = λ s h l. let k = earlier s h l in omega (arith, rank_without s k, P.listed s k (omega (arith, L.agree s k)));
        ranked = λ s h l. let k = earlier s h l in omega (arith, rank_without s k, P.ranked s k (omega (arith, L.agree s k)));
        room = λ c l. omega (arith, load_without c l, P.room c l);
      }
    where
      earlier : (s : ℕ) → s < suc T.signals → q s < T.channels → s < T.signals
      earlier s h l = split_last s T.signals h (λ (e : s ≡ T.signals). absurd (omega (arith, rw e at l, L.out))) (λ k. k)

  plan_without : Plan (one_more T list) q → Plan T p
  unfolding one_more
  plan_without Q =
      record {
        listed = λ s h l. omega (arith, rank_without s h, Q.listed s (omega arith) (omega (arith, L.agree s h)));
        ranked = λ s h l. omega (arith, rank_without s h, Q.ranked s (omega arith) (omega (arith, L.agree s h)));
        room = λ c l. omega (arith, load_without c l, Q.room c l);
      }

unfoldable extended : Table → Places → Places
extended T p s = pick (ltb s T.signals) (p s) T.channels

extended_leaves_out : (T : Table) (p : Places) → LeavesOut T p (extended T p)
unfolding extended
extended_leaves_out T p =
    record {
      agree = λ s h. pick_yes _ _ (lt-ltb s T.signals h);
      out = rw (pick_no (p T.signals) T.channels (le-ltb T.signals T.signals (omega arith))) (omega arith);
    }

module _ (T : Table) (list : ℕ → ℕ) (a b : ℕ → ℕ) (A : Best T a) (B : Best (one_more T list) b) where
  abbrev R : ℕ
  R = T.ranks

  abbrev T' : Table
  T' = one_more T list

  abbrev old : Places
  old = extended T A.places

  abbrev new : Places
  new = B.places

  left_out : LeavesOut T A.places old
  left_out = extended_leaves_out T A.places

  plan_old : Plan T' old
  plan_old = plan_with T list left_out A.best.plan

  counts_old : (i : ℕ) → i < R → line T' old i ≡ a i
  unfolding Same
  counts_old i l = line_without T list left_out i ∙ A.counts i l

  counts_new : (i : ℕ) → i < R → line T' new i ≡ b i
  unfolding Same one_more
  counts_new = B.counts

  not_more_new : (q : Places) → Plan T' q → NotMore R (line T' q) (line T' new)
  unfolding one_more
  not_more_new q Q = not_more_of_not_less R (line T' q) (line T' new) (B.best.unbeaten q Q)

  not_more_old : (q : Places) → LeavesOut T q q → Plan T' q → NotMore R (line T' q) (line T' old)
  not_more_old q L Q =
      rw (fun_ext (line_without T list L), fun_ext (line_without T list left_out))
      (not_more_of_not_less R (line T q) (line T A.places) (A.best.unbeaten q (plan_without T list L Q)))

  -- One more signal does not make the best counts lower.
  pub one_more_not_lower : Less R b a → ⊥
  unfolding NotMore
  one_more_not_lower l =
      let before : (j : ℕ) → j < l.at → line T' old j ≡ line T' new j =
      λ j h. counts_old j (omega arith) ∙ sym (l.before j h) ∙ sym (counts_new j (omega arith)) in
      omega (
        arith,
        not_more_new old plan_old l.at l.inside before,
        counts_old l.at l.inside,
        counts_new l.at l.inside,
        l.less,
      )

  -- One more signal leaves the best total as it is, or adds one to it.
  pub one_more_total : (sum R b ≡ sum R a) ⊎ (sum R b ≡ suc (sum R a))
  unfolding one_more Same
  one_more_total = ⊎_elim (λ e. inl (omega (arith, total_old, total_new))) (λ e. inr (omega (arith, total_old, total_new))) X.totals
    where
      X : Exchange T' old new T.signals
      X = exchange T' old new plan_old B.best.plan T.signals (omega arith) left_out.out

      -- the old plan with the moves made has the larger table's best counts
      forward_best : Same R (line T' X.forward) (line T' new)
      forward_best =
          (cancel R (line T' X.forward) (line T' X.back) (line T' new) (line T' old)
          (not_more_new X.forward X.plan_forward)
          (not_more_old X.back (record { agree = λ s h. refl; out = X.out }) X.plan_back)
          (λ i l. X.lines i)).0

      total_new : sum R b ≡ total T' X.forward
      total_new = sum_ext _ _ R (λ i l. sym (counts_new i l) ∙ sym (forward_best i l)) ∙ sym (total_of_line T' X.forward X.plan_forward)

      total_old : sum R a ≡ total T' old
      total_old = sum_ext _ _ R (λ i l. sym (counts_old i l)) ∙ sym (total_of_line T' old plan_old)

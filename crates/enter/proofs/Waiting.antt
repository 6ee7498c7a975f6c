-- Counting the entries that wait to enter: with entry e about to enter at rank r, those of a signal that still wait
-- (waiting_from) fall by one when e enters (waiting_next), are at first those of rank r or higher (waiting_first), and at last
-- those of a rank above r (waiting_last). Empty lists have room for all (room_first). Leans on plans' sums and work's Input.
use Prim.Native.Nat.{ℕ, suc, ◌+◌, ◌-◌, ◌*◌, ◌≤◌, ◌<◌}
use mathlib.Core.Path.{◌≡◌, refl, sym, ap, ◌∙◌}
use mathlib.Core.List.{List}
use native.Mathlib.Nat.{mul-add, one-mul, zero-mul, mul-le-mul_left, mul_comm}
use native.Mathlib.Omega.{arith}
use Rattle.plans.specs.Numbers.{same, under, sum}
use Rattle.plans.proofs.Sums.{same_yes, same_no, under_yes, under_no, by_same, by_under, under-bit, sum_ext, sum_le, sum_add, sum_point, sum_zero, sum_at_most, sum_split}
use Rattle.units.specs.declared.Size.{Size}
use Rattle.work.specs.Work.{at, START, END, signal_at, rank_at, MIDDLE, Unchanged}
use Rattle.work.specs.Input.{Input}
use Rattle.work.proofs.Input.{start_most, same_signal, same_rank}
use Rattle.enter.specs.Entering.{Room, waiting}

-- What waits is the same where the table's part is.
pub same_waiting : {v w : List ℕ} → Unchanged 0 MIDDLE w v → (z : Size) → z.pairs.0 ≤ 3000 → (n s : ℕ) → waiting z n w s ≡ waiting z n v s
unfolding waiting
same_waiting h z few n s = sum_ext _ _ z.pairs.0 (λ e l. rw (same_signal h e (omega arith), same_rank h e (omega arith)) refl)

-- Whether an entry j of rank k still waits: it has a rank above r, or rank r and stands at e or behind it.
unfoldable pub waits : ℕ → ℕ → ℕ → ℕ → ℕ
waits r e k j = under r k + same k r * under e (suc j)

-- how many entries of signal s still wait
unfoldable pub waiting_from : Size → ℕ → ℕ → List ℕ → ℕ → ℕ
waiting_from z r e w s = sum z.pairs.0 (λ j. same (signal_at w j) s * waits r e (rank_at w j) j)

-- only entries of rank r or higher wait, and those above rank r all do
waits_most : (r e k j : ℕ) → waits r e k j ≤ under r (suc k)
unfolding waits
waits_most r e k j =
    by_same k r
    (λ q h. rw h (omega (arith, one-mul (under e (suc j)), under-bit e (suc j), under_no r k (omega arith), under_yes r (suc k) (omega arith))))
    (λ q h. rw h (by_under r k
    (λ l m. omega (arith, zero-mul (under e (suc j)), under_yes r (suc k) (omega arith)))
    (λ l m. omega (arith, zero-mul (under e (suc j))))))

waits_least : (r e k j : ℕ) → under (suc r) (suc k) ≤ waits r e k j
unfolding waits
waits_least r e k j =
    by_under r k
    (λ l m. omega (arith, under-bit (suc r) (suc k)))
    (λ l m. omega (arith, under_no (suc r) (suc k) (omega arith)))

-- the entry e itself no longer waits when its turn is over
waits_next : (r e next k j : ℕ) → e < next → (e ≡ j → k ≡ r) → waits r next k j + same e j ≤ waits r e k j
unfolding waits
waits_next r e next k j later rank =
    by_same e j
    (λ q h. rw (same_yes k r (rank q)) (omega (arith, one-mul (under next (suc j)), one-mul (under e (suc j)), under_no next (suc j) (omega arith), under_yes e (suc j) (omega arith))))
    (λ q h. omega (arith, mul-le-mul_left (same k r) fewer))
  where
    fewer : under next (suc j) ≤ under e (suc j)
    fewer =
        by_under e (suc j)
        (λ l m. omega (arith, under-bit next (suc j)))
        (λ l m. omega (arith, under_no next (suc j) (omega arith)))

module _ (z : Size) (r e : ℕ) (w : List ℕ) (s : ℕ) where
  pub waiting_first : waiting_from z r e w s ≤ waiting z r w s
  unfolding waiting_from waiting
  waiting_first = sum_le _ _ z.pairs.0 (λ j l. mul-le-mul_left (same (signal_at w j) s) (waits_most r e (rank_at w j) j))

  pub waiting_last : waiting z (suc r) w s ≤ waiting_from z r e w s
  unfolding waiting_from waiting
  waiting_last = sum_le _ _ z.pairs.0 (λ j l. mul-le-mul_left (same (signal_at w j) s) (waits_least r e (rank_at w j) j))

  pub waiting_next : (next : ℕ) → e < z.pairs.0 → e < next → rank_at w e ≡ r
      → waiting_from z r next w s + same (signal_at w e) s ≤ waiting_from z r e w s
  unfolding waiting_from
  waiting_next next l later rank =
      let f : ℕ → ℕ = λ j. same (signal_at w j) s * waits r next (rank_at w j) j in
      let g : ℕ → ℕ = λ j. same e j * same (signal_at w j) s in
      let total : ℕ → ℕ = λ j. same (signal_at w j) s * waits r e (rank_at w j) j in
      omega (
        arith,
        sum_add f g z.pairs.0,
        sum_le (λ j. f j + g j) total z.pairs.0 turn,
        sum_point (λ j. same (signal_at w j) s) e z.pairs.0,
        under_yes e z.pairs.0 l,
        ap (λ (x : ℕ). x * same (signal_at w e) s) (under_yes e z.pairs.0 l),
        one-mul (same (signal_at w e) s),
      )
    where
      turn : (j : ℕ) → j < z.pairs.0
          → same (signal_at w j) s * waits r next (rank_at w j) j + same e j * same (signal_at w j) s ≤ same (signal_at w j) s * waits r e (rank_at w j) j
      turn j m =
          omega (
            arith,
            mul_comm (same e j) (same (signal_at w j) s),
            mul-add (same (signal_at w j) s) (waits r next (rank_at w j) j) (same e j),
            mul-le-mul_left (same (signal_at w j) s) (waits_next r e next (rank_at w j) j later (λ q. ap (rank_at w) (sym q) ∙ rank)),
          )

-- Of the numbers below n only those from a up to a + k count, and each for one at most.
count_between : (f : ℕ → ℕ) (a k m : ℕ) → ((i : ℕ) → i < a → f i ≡ 0) → ((i : ℕ) → f i ≤ 1) → ((i : ℕ) → i < m → f (a + k + i) ≡ 0)
    → sum (a + k + m) f ≤ k
count_between f a k m before each after =
    omega (
      arith,
      sum_split f (a + k) m,
      sum_split f a k,
      sum_zero f a before,
      sum_at_most (λ i. f (a + i)) k (λ i l. each (a + i)),
      sum_zero (λ i. f (a + k + i)) m after,
    )

pub room_first : (z : Size) (w : List ℕ) → Input z w → ((s : ℕ) → s < z.signals → at w END s ≡ at w START s) → Room z 1 w
unfolding waiting
room_first z w n empty = record { enough = λ s l. omega (arith, empty s l, n.ascend s l, fewer s l) }
  where
    counts : ℕ → ℕ → ℕ
    counts s e = same (signal_at w e) s * under 1 (suc (rank_at w e))

    bit : (s e : ℕ) → counts s e ≤ 1
    bit s e =
        by_same (signal_at w e) s
        (λ q h. rw h (omega (arith, one-mul (under 1 (suc (rank_at w e))), under-bit 1 (suc (rank_at w e)))))
        (λ q h. rw h (omega (arith, zero-mul (under 1 (suc (rank_at w e))))))

    other : (s e : ℕ) → (signal_at w e ≡ s → ⊥) → counts s e ≡ 0
    other s e h = rw (same_no (signal_at w e) s h) (zero-mul (under 1 (suc (rank_at w e))))

    fewer : (s : ℕ) → s < z.signals → sum z.pairs.0 (counts s) ≤ at w START (suc s) - at w START s
    fewer s l =
        let a = at w START s in
        let b = at w START (suc s) in
        let end : b ≤ z.pairs.0 = start_most n (suc s) l in
        let all : z.pairs.0 ≡ a + (b - a) + (z.pairs.0 - b) = omega (arith, n.ascend s l) in
        rw all
        (count_between (counts s) a (b - a) (z.pairs.0 - b)
        (λ e m. other s e (λ q. omega (arith, n.after_start e (omega (arith, n.ascend s l)), ap (at w START) q)))
        (bit s)
        (λ i m.
        let e = a + (b - a) + i in
        other s e (λ q. omega (arith, n.before_end e (omega (arith, n.ascend s l)), n.ascend s l, ap (λ (k : ℕ). at w START (suc k)) q))))

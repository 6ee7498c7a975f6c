-- The table in the area: whatever leaves its part alone leaves it (same_input, same_listed), and the rooms of the signals lie one
-- behind the other (start_most, starts_ascend, rooms_apart). Leans on proofs/Area.
use Prim.Native.Nat.{ℕ, zero, suc, ◌+◌, ◌-◌, ◌/◌, ◌%◌, ◌≤◌, ◌<◌}
use mathlib.Core.Path.{◌≡◌, refl, ap, sym, ◌∙◌}
use mathlib.Core.List.{List}
use native.Mathlib.Nat.{lt_of_not-le}
use native.Mathlib.Decide.{dec_lt}
use native.Mathlib.Omega.{arith}
use Rattle.units.specs.declared.Size.{Size}
use Rattle.work.specs.Work.{at, PAIR, LINK, FIRST, START, MIDDLE, signal_at, channel_at, next_at, rank_at, Unchanged}
use Rattle.work.specs.Input.{Input, Listed}
use Rattle.work.proofs.Area.{unchanged_at}

-- The table's part

module _ {v w : List ℕ} (h : Unchanged 0 MIDDLE w v) where
  pub same_start : (s : ℕ) → s ≤ 200 → at w START s ≡ at v START s
  same_start s l = unchanged_at h START s (omega arith) (omega arith)

  pub same_first : (r : ℕ) → r ≤ 15 → at w FIRST r ≡ at v FIRST r
  same_first r l = unchanged_at h FIRST r (omega arith) (omega arith)

  module _ (e : ℕ) (l : e < 3000) where
    pub same_signal : signal_at w e ≡ signal_at v e
    unfolding signal_at
    same_signal = ap (λ (x : ℕ). x / 256) (unchanged_at h PAIR e (omega arith) (omega arith))

    pub same_channel : channel_at w e ≡ channel_at v e
    unfolding channel_at
    same_channel = ap (λ (x : ℕ). x % 256) (unchanged_at h PAIR e (omega arith) (omega arith))

    pub same_rank : rank_at w e ≡ rank_at v e
    unfolding rank_at
    same_rank = ap (λ (x : ℕ). x % 16) (unchanged_at h LINK e (omega arith) (omega arith))

    pub same_next : next_at w e ≡ next_at v e
    unfolding next_at
    same_next = ap (λ (x : ℕ). x / 16) (unchanged_at h LINK e (omega arith) (omega arith))

  -- Whatever leaves the table's part alone leaves it a table's part.
  pub same_input : {z : Size} → Input z v → Input z w
  same_input {z} n =
      record {
        room = omega (arith, h.size, n.room);
        limits = n.limits;
        signal = λ e l. rw (same_signal e (small e l)) (n.signal e l);
        channel = λ e l. rw (same_channel e (small e l)) (n.channel e l);
        ranked = λ e l. rw (same_rank e (small e l)) (n.ranked e l);
        within = λ e l. rw (same_rank e (small e l)) (n.within e l);
        ascend = λ s l. rw (same_start s (signal s l), same_start (suc s) (omega (arith, n.limits.few_signals))) (n.ascend s l);
        last = same_start z.signals n.limits.few_signals ∙ n.last;
        after_start = λ e l. rw (same_signal e (small e l), same_start (signal_at v e) (omega (arith, n.signal e l, n.limits.few_signals))) (n.after_start e l);
        before_end = λ e l. rw (same_signal e (small e l), same_start (suc (signal_at v e)) (omega (arith, n.signal e l, n.limits.few_signals))) (n.before_end e l);
        first_is = λ r l m k.
            let e : at w FIRST r ≡ at v FIRST r = same_first r (omega (arith, n.limits.few_ranks)) in
            rw (e, same_rank (at v FIRST r) (omega (arith, n.limits.few_pairs))) (n.first_is r l m (omega arith));
        first_skips = λ r e l m k j q.
            n.first_skips r e l m k (omega (arith, same_first r (omega (arith, n.limits.few_ranks)))) (sym (same_rank e (small e k)) ∙ q);
        next_later = λ e l. rw (same_next e (small e l)) (n.next_later e l);
        next_is = λ e l m.
            let q : next_at w e ≡ next_at v e = same_next e (small e l) in
            rw (q, same_rank (next_at v e) (omega (arith, n.limits.few_pairs)), same_rank e (small e l)) (n.next_is e l (omega arith));
        next_skips = λ e j l m k i q.
            n.next_skips e j l m (omega (arith, same_next e (small e l))) i (sym (same_rank j (small j i)) ∙ q ∙ same_rank e (small e l));
      }
    where
      small : (e : ℕ) → e < z.pairs.0 → e < 3000
      small e l = omega (arith, n.limits.few_pairs)

      signal : (s : ℕ) → s < z.signals → s ≤ 200
      signal s l = omega (arith, n.limits.few_signals)

  pub same_listed : {z : Size} → z.pairs.0 ≤ 3000 → {s c : ℕ} → Listed z v s c → Listed z w s c
  same_listed few l =
      record {
        entry = l.entry;
        inside = l.inside;
        signal = same_signal l.entry (omega (arith, l.inside)) ∙ l.signal;
        channel = same_channel l.entry (omega (arith, l.inside)) ∙ l.channel;
      }

-- where a signal's entries begin: at most at the number of pairs
pub start_most : {z : Size} {w : List ℕ} → Input z w → (s : ℕ) → s ≤ z.signals → at w START s ≤ z.pairs.0
start_most {z} {w} n s l = go (z.signals - s) s (omega arith)
  where
    go : (k s : ℕ) → s + k ≡ z.signals → at w START s ≤ z.pairs.0
    go zero s e = let q : s ≡ z.signals = omega arith in rw q (omega (arith, n.last))
    go (suc k) s e = omega (arith, go k (suc s) (omega arith), n.ascend s (omega arith))

-- The rooms of the signals lie one behind the other,
pub starts_ascend : {z : Size} {w : List ℕ} → Input z w → (s t : ℕ) → s ≤ t → t ≤ z.signals → at w START s ≤ at w START t
starts_ascend {z} {w} n s t l m = go (t - s) t (omega arith) m
  where
    go : (k t : ℕ) → s + k ≡ t → t ≤ z.signals → at w START s ≤ at w START t
    go zero t e m = let q : s ≡ t = omega arith in rw q (omega arith)
    go (suc k) t e m =
        let q : t ≡ suc (s + k) = omega arith in
        rw q (omega (arith, go k (s + k) refl (omega arith), n.ascend (s + k) (omega arith)))

-- so a position in the room of s is in no other room.
pub rooms_apart : {z : Size} {w : List ℕ} → Input z w → (s t p : ℕ) → s < z.signals → t < z.signals → (s ≡ t → ⊥)
    → at w START s ≤ p → p < at w START (suc s) → at w START t ≤ p → p < at w START (suc t) → ⊥
rooms_apart n s t p l m apart a b c d = go (dec_lt s t)
  where
    go : Dec (s < t) → ⊥
    go (yes h) = omega (arith, starts_ascend n (suc s) t h (omega arith))
    go (no h) = omega (arith, starts_ascend n (suc t) s (omega (arith, lt_of_not-le h)) (omega arith))

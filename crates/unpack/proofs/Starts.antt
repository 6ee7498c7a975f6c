-- Where each signal's entries start: passing over the entries of a signal (passed), and what the loop over the signals keeps
-- (starting_more, starting_done). Leans on work's Area.
use Prim.Native.Nat.{ℕ, ◌+◌, ◌-◌, ◌/◌, ◌≤◌, ◌<◌}
use mathlib.Core.Path.{◌≡◌, ap, sym, ◌∙◌}
use mathlib.Core.List.{List}
use native.Mathlib.Decide.{dec_lt}
use native.Mathlib.Omega.{arith}
use borrow.Author.Count.{below_more}
use lib.ListN.{length, get_or}
use Rattle.std.proofs.Common.{Option, Some, None, unwrap_or}
use Rattle.std.specs.Option.{MatchOption}
use Rattle.std.specs.List.{AllWithin, HoldsAt}
use Rattle.units.specs.Limits.{most_pairs}
use Rattle.work.specs.Work.{at, PAIR, START, signal_at, Unchanged, UnchangedBut, Put}
use Rattle.work.proofs.Area.{put_other, put_below, unchanged_trans, unchanged_at, but_trans, but_put}
use Rattle.unpack.specs.Unpacking.{Filled}
use Rattle.unpack.specs.Inside.{Splits, RunOf, Started}
use Rattle.unpack.specs.Unpacking.Filled.{pair_of, link_of, first_of, start_of}

-- The first of these pairs whose signal is not s: its place, or none.
abbrev pub FirstOther : ℕ → List ℕ → Option ℕ → Type 0
FirstOther s xs first =
    MatchOption first (AllWithin (λ x. x / 256 ≡ s) xs 0 (length xs))
    (λ i. (i < length xs) × HoldsAt (λ x. x / 256 ≡ s → ⊥) xs i × AllWithin (λ x. x / 256 ≡ s) xs 0 i)

-- Passing over the entries of signal s, where xs are the pairs from a on
pub passed : {pairs a : ℕ} {w : List ℕ} (s : ℕ) (xs : List ℕ) → length xs ≡ pairs - a → a ≤ pairs
    → ((i : ℕ) → i < length xs → get_or xs i 0 ≡ at w PAIR (a + i))
    → (first : Option ℕ) → FirstOther s xs first → RunOf pairs w s a (a + unwrap_or first (length xs))
unfolding signal_at
passed {pairs} {a} {w} s xs all from read first found = pick first found
  where
    signal_is : (i : ℕ) → i < length xs → signal_at w (a + i) ≡ get_or xs i 0 / 256
    signal_is i l = ap (λ (y : ℕ). y / 256) (sym (read i l))

    run_to : (n : ℕ) → n ≤ length xs → AllWithin (λ x. x / 256 ≡ s) xs 0 n → (n < length xs → get_or xs n 0 / 256 ≡ s → ⊥) → RunOf pairs w s a (a + n)
    run_to n l same other =
        record {
          from = omega arith;
          most = omega arith;
          each = λ e m k.
              let q : a + (e - a) ≡ e = omega arith in
              rw q at (signal_is (e - a) (omega arith) ∙ same (e - a) 0 (omega arith) (omega arith));
          stop = λ k q. other (omega arith) (sym (signal_is n (omega arith)) ∙ q);
        }

    pick : (r : Option ℕ) → FirstOther s xs r → RunOf pairs w s a (a + unwrap_or r (length xs))
    pick None same = run_to (length xs) (omega arith) same (λ l. absurd (omega arith))
    pick (Some i) h = run_to i (omega arith) h.2 (λ l. h.1 0)

-- Areas that are the same but for some starts are the same but for more.
pub more_starts : {pairs a b : ℕ} {v w : List ℕ} → a ≤ b → UnchangedBut (Filled pairs a) v w → UnchangedBut (Filled pairs b) v w
more_starts {pairs} {a} {b} l h = record { size = h.size; each = λ i other. h.each i (λ k. other (more k)) }
  where
    more : {i : ℕ} → Filled pairs a i → Filled pairs b i
    more (pair_of e m) = pair_of e m
    more (link_of e m) = link_of e m
    more (first_of r m) = first_of r m
    more (start_of s m) = start_of s (omega arith)

-- The starts of the signals before s are put, and s starts at e.
pub record Starting (pairs s e : ℕ) (v w : List ℕ) : Type 0 where
  pub below : Unchanged 0 START w v
  pub others : UnchangedBut (Filled pairs s) w v
  pub starts : (t : ℕ) → t < s → Splits pairs v t (at w START t)
  pub here : Splits pairs v s e

module _ {pairs s e : ℕ} {v w x : List ℕ} (t : Starting pairs s e v w) (p : Put w START s e x) where
  same_table : Unchanged 0 START x v
  same_table = unchanged_trans (put_below p 0 START (omega arith)) t.below

  others_to : UnchangedBut (Filled pairs (s + 1)) x v
  others_to = but_trans (but_put p (start_of s (omega arith))) (more_starts (omega arith) t.others)

  starts_to : (i : ℕ) → i < s + 1 → Splits pairs v i (at x START i)
  starts_to =
      below_more (λ i. Splits pairs v i (at x START i)) s
      (λ i l. rw (put_other p START i (λ q. omega arith)) (t.starts i l))
      (rw p.here t.here)

  -- the entries of s are passed, up to b
  module _ (few : pairs ≤ most_pairs) (rising : (i j : ℕ) → i ≤ j → j < pairs → signal_at v i ≤ signal_at v j) {b : ℕ} (q : RunOf pairs x s e b) where
    same_passed : (i : ℕ) → i < pairs → signal_at x i ≡ signal_at v i
    unfolding signal_at
    same_passed i l = ap (λ (y : ℕ). y / 256) (unchanged_at same_table PAIR i (omega arith) (omega arith))

    before : (i : ℕ) → i < b → signal_at v i < s + 1
    before i l = pick (dec_lt i e)
      where
        pick : Dec (i < e) → signal_at v i < s + 1
        pick (yes h) = omega (arith, t.here.before i h)
        pick (no h) = omega (arith, q.each i (omega arith) l, same_passed i (omega (arith, q.most)))

    behind : (i : ℕ) → b ≤ i → i < pairs → s + 1 ≤ signal_at v i
    behind i l m =
        let other : s ≡ signal_at v b → ⊥ = λ h. q.stop (omega arith) (same_passed b (omega arith) ∙ sym h) in
        omega (arith, rising b i l m, t.here.behind b q.from (omega arith), other)

    pub starting_more : Starting pairs (s + 1) b v x
    starting_more =
        record { below = same_table; others = others_to; starts = starts_to; here = record { most = q.most; before = before; behind = behind } }

pub starting_done : {signals pairs s e : ℕ} {v w x : List ℕ} → s ≡ signals → Starting pairs s e v w → Put w START signals e x → Started signals pairs v x
starting_done last start p = let t = rw last at start in record { below = same_table t p; others = others_to t p; starts = λ s l. starts_to t p s (omega arith) }

-- Unpacking the entries: ranks start without a chain (unchained), and putting an entry before the chain of its rank keeps
-- the chains (chained_none, linked); both write the numbers of entries and ranks alone. Leans on work's Area and on tables'
-- laws of an entry's 20 bits.
use Prim.Native.Nat.{ℕ, suc, ◌+◌, ◌*◌, ◌/◌, ◌%◌, ◌≤◌, ◌<◌}
use mathlib.Core.Path.{◌≡◌, ap, sym, ◌∙◌}
use mathlib.Core.List.{List}
use native.Mathlib.Decide.{ℕ_discrete}
use native.Mathlib.Omega.{arith}
use Rattle.tables.specs.Payload.{entry_bits, entry_in}
use Rattle.tables.proofs.Parts.{entry_parts, entry_small}
use Rattle.units.specs.Limits.{most_pairs}
use Rattle.work.specs.Work.{at, PAIR, LINK, FIRST, signal_at, channel_at, next_at, rank_at, Put, Fills}
use Rattle.work.proofs.Area.{put_other, but_trans, but_put}
use Rattle.unpack.specs.Inside.{EntriesFit, Unchained, Chained, Linkable, Linked}
use Rattle.unpack.specs.Unpacking.Filled.{pair_of, link_of, first_of}

-- Ranks whose first entries are filled have no entry yet.
pub unchained : {pairs n : ℕ} {v w : List ℕ} → EntriesFit pairs v → 16 ≤ n → Fills FIRST n pairs v w → Unchained pairs w
unchained fits all f = record { fits = record { room = omega (arith, f.size, fits.room); few = fits.few }; first = λ r l. f.here r (omega arith) }

-- No entry is chained yet.
pub chained_none : {p : List ℕ} {pairs : ℕ} {w : List ℕ} → Unchained pairs w → Chained p pairs pairs w
chained_none u =
    record {
      fits = u.fits;
      signal = λ e l m. absurd (omega arith);
      channel = λ e l m. absurd (omega arith);
      rank = λ e l m. absurd (omega arith);
      first_from = λ r l. omega (arith, u.first r l);
      first_most = λ r l. omega (arith, u.first r l);
      first_is = λ r l m. absurd (omega (arith, u.first r l));
      first_skips = λ r e l m k q. omega (arith, u.first r l);
      next_later = λ e l m. absurd (omega arith);
      next_is = λ e l m k. absurd (omega arith);
      next_skips = λ e j l m k i h q. omega arith;
    }

pub chained_at : {p : List ℕ} {pairs a b : ℕ} {w : List ℕ} → a ≡ b → Chained p pairs a w → Chained p pairs b w
chained_at e c = rw e at c

-- The entry before those that are chained can be put before them.
pub linkable : {p : List ℕ} {pairs n e x : ℕ} {w : List ℕ} → Chained p pairs n w → e < pairs → x ≡ entry_bits p e → Linkable e x w
linkable {p} {e = e} {x = x} c l read =
    record {
      room = c.fits.room;
      few = omega (arith, c.fits.few);
      bits = entry_small p e read;
      first = omega (arith, c.fits.few, c.first_most (x % 16) (omega arith));
    }

-- What putting it there promises, of one payload
pub link_chained : {p : List ℕ} {pairs n e x : ℕ} {v w : List ℕ} → Linked e x v w → e < pairs → x ≡ entry_bits p e
    → n ≡ e + 1 → Chained p pairs n v → Chained p pairs e w
link_chained {p} {pairs} o l read q c = o.chained p pairs l read (chained_at q c)

-- Entry n, with those behind it chained
module _ {p : List ℕ} {pairs n e x next : ℕ} {w w₁ w₂ w₃ : List ℕ} (c : Chained p pairs e w) (down : suc n ≡ e)
    (more : e ≤ pairs) (read : x ≡ entry_bits p n) (first : next ≡ at w FIRST (x % 16)) (pair : Put w PAIR n (x / 16) w₁)
    (link : Put w₁ LINK n (next * 16 + x % 16) w₂) (head : Put w₂ FIRST (x % 16) n w₃) where
  few : pairs ≤ most_pairs
  few = c.fits.few

  small : x % 16 < 16
  small = omega arith

  -- what lies at n, and which chain starts there
  pair_here : at w₃ PAIR n ≡ x / 16
  pair_here = put_other head PAIR n (λ q. omega arith) ∙ put_other link PAIR n (λ q. omega arith) ∙ pair.here

  link_here : at w₃ LINK n ≡ next * 16 + x % 16
  link_here = put_other head LINK n (λ q. omega arith) ∙ link.here

  rank_here : rank_at w₃ n ≡ x % 16
  unfolding rank_at
  rank_here = omega (arith, link_here)

  next_here : next_at w₃ n ≡ next
  unfolding next_at
  next_here = omega (arith, link_here)

  -- entries behind it, and other chains, are as they were
  module _ (i : ℕ) (from : e ≤ i) (below : i < pairs) where
    pair_behind : at w₃ PAIR i ≡ at w PAIR i
    pair_behind = put_other head PAIR i (λ q. omega arith) ∙ put_other link PAIR i (λ q. omega arith) ∙ put_other pair PAIR i (λ q. omega arith)

    link_behind : at w₃ LINK i ≡ at w LINK i
    link_behind = put_other head LINK i (λ q. omega arith) ∙ put_other link LINK i (λ q. omega arith) ∙ put_other pair LINK i (λ q. omega arith)

    rank_behind : rank_at w₃ i ≡ rank_at w i
    unfolding rank_at
    rank_behind = ap (λ (y : ℕ). y % 16) link_behind

    next_behind : next_at w₃ i ≡ next_at w i
    unfolding next_at
    next_behind = ap (λ (y : ℕ). y / 16) link_behind

    signal_behind : signal_at w₃ i ≡ (entry_in p i).signal
    unfolding signal_at
    signal_behind = ap (λ (y : ℕ). y / 256) pair_behind ∙ c.signal i from below

    channel_behind : channel_at w₃ i ≡ (entry_in p i).channel
    unfolding channel_at
    channel_behind = ap (λ (y : ℕ). y % 256) pair_behind ∙ c.channel i from below

  signal_here : signal_at w₃ n ≡ (entry_in p n).signal
  unfolding signal_at
  signal_here = ap (λ (y : ℕ). y / 256) pair_here ∙ (entry_parts p n x read).signal

  channel_here : channel_at w₃ n ≡ (entry_in p n).channel
  unfolding channel_at
  channel_here = ap (λ (y : ℕ). y % 256) pair_here ∙ (entry_parts p n x read).channel

  first_other_lem : (r : ℕ) → r < 16 → (r ≡ x % 16 → ⊥) → at w₃ FIRST r ≡ at w FIRST r
  first_other_lem r l q = put_other head FIRST r (λ k. q (omega arith)) ∙ put_other link FIRST r (λ k. omega arith) ∙ put_other pair FIRST r (λ k. omega arith)

  -- what holds of n and of every entry behind it
  from_here : (P : ℕ → Type 0) → P n → ((i : ℕ) → e ≤ i → i < pairs → P i) → (i : ℕ) → n ≤ i → i < pairs → P i
  from_here P here behind i l m = pick (ℕ_discrete i n)
    where
      pick : Dec (i ≡ n) → P i
      pick (yes q) = rw q here
      pick (no q) = behind i (omega arith) m

  -- what holds of this rank and of every other
  each_rank : (P : ℕ → Type 0) → P (x % 16) → ((r : ℕ) → r < 16 → (r ≡ x % 16 → ⊥) → P r) → (r : ℕ) → r < 16 → P r
  each_rank P here other r l = pick (ℕ_discrete r (x % 16))
    where
      pick : Dec (r ≡ x % 16) → P r
      pick (yes q) = rw q here
      pick (no q) = other r l q

  chained : Chained p pairs n w₃
  chained =
      record {
        fits = record { room = omega (arith, head.size, link.size, pair.size, c.fits.room); few = few };
        signal = from_here (λ i. signal_at w₃ i ≡ (entry_in p i).signal) signal_here signal_behind;
        channel = from_here (λ i. channel_at w₃ i ≡ (entry_in p i).channel) channel_here channel_behind;
        rank =
            from_here (λ i. rank_at w₃ i ≡ (entry_in p i).rank) (rank_here ∙ (entry_parts p n x read).rank)
            (λ i l m. rank_behind i l m ∙ c.rank i l m);
        first_from =
            each_rank (λ r. n ≤ at w₃ FIRST r) (omega (arith, head.here))
            (λ r l q. omega (arith, first_other_lem r l q, c.first_from r l));
        first_most =
            each_rank (λ r. at w₃ FIRST r ≤ pairs) (omega (arith, head.here))
            (λ r l q. omega (arith, first_other_lem r l q, c.first_most r l));
        first_is =
            each_rank (λ r. at w₃ FIRST r < pairs → rank_at w₃ (at w₃ FIRST r) ≡ r) (λ k. rw head.here rank_here)
            (λ r l q k.
            let same : at w₃ FIRST r ≡ at w FIRST r = first_other_lem r l q in
            let k' : at w FIRST r < pairs = omega arith in
            rw same (rank_behind (at w FIRST r) (c.first_from r l) k' ∙ c.first_is r l k'));
        first_skips = λ r i l. first_skips r l i;
        next_later =
            from_here (λ i. i < next_at w₃ i) (omega (arith, next_here, c.first_from (x % 16) small))
            (λ i l m. omega (arith, next_behind i l m, c.next_later i l m));
        next_is = from_here (λ i. next_at w₃ i < pairs → rank_at w₃ (next_at w₃ i) ≡ rank_at w₃ i) next_is_here next_is_behind;
        next_skips = λ i j l m. next_skips i l m j;
      }
    where
      first_skips : (r : ℕ) → r < 16 → (i : ℕ) → n ≤ i → i < at w₃ FIRST r → rank_at w₃ i ≡ r → ⊥
      first_skips =
          each_rank (λ r. (i : ℕ) → n ≤ i → i < at w₃ FIRST r → rank_at w₃ i ≡ r → ⊥) (λ i m k q. omega (arith, head.here))
          (λ r l q i m k.
          let k' : i < at w FIRST r = omega (arith, first_other_lem r l q) in
          from_here (λ j. j < at w FIRST r → rank_at w₃ j ≡ r → ⊥) (λ h s. q (sym s ∙ rank_here))
          (λ j f b h s. c.first_skips r j l f h (sym (rank_behind j f b) ∙ s))
          i m (omega (arith, c.first_most r l)) k')

      next_is_here : next_at w₃ n < pairs → rank_at w₃ (next_at w₃ n) ≡ rank_at w₃ n
      next_is_here k =
          let same : next_at w₃ n ≡ at w FIRST (x % 16) = next_here ∙ first in
          let k' : at w FIRST (x % 16) < pairs = omega arith in
          rw same (rank_behind (at w FIRST (x % 16)) (c.first_from (x % 16) small) k' ∙ c.first_is (x % 16) small k' ∙ sym rank_here)

      next_is_behind : (i : ℕ) → e ≤ i → i < pairs → next_at w₃ i < pairs → rank_at w₃ (next_at w₃ i) ≡ rank_at w₃ i
      next_is_behind i l m k =
          let same : next_at w₃ i ≡ next_at w i = next_behind i l m in
          let k' : next_at w i < pairs = omega arith in
          rw same (rank_behind (next_at w i) (omega (arith, c.next_later i l m)) k' ∙ c.next_is i l m k' ∙ sym (rank_behind i l m))

      next_skips : (i : ℕ) → n ≤ i → i < pairs → (j : ℕ) → i < j → j < next_at w₃ i → j < pairs → rank_at w₃ j ≡ rank_at w₃ i → ⊥
      next_skips =
          from_here (λ i. (j : ℕ) → i < j → j < next_at w₃ i → j < pairs → rank_at w₃ j ≡ rank_at w₃ i → ⊥)
          (λ j k h b q.
          c.first_skips (x % 16) j small (omega arith) (omega (arith, next_here)) (sym (rank_behind j (omega arith) b) ∙ q ∙ rank_here))
          (λ i l m j k h b q.
          c.next_skips i j l m k (omega (arith, next_behind i l m)) b (sym (rank_behind j (omega arith) b) ∙ q ∙ rank_behind i l m))

-- The three indices written are n's and its rank's, so the chains of every payload whose entry n this is are kept.
pub linked : {n x next : ℕ} {w w₁ w₂ w₃ : List ℕ} → next ≡ at w FIRST (x % 16) → Put w PAIR n (x / 16) w₁
    → Put w₁ LINK n (next * 16 + x % 16) w₂ → Put w₂ FIRST (x % 16) n w₃ → Linked n x w w₃
linked {n} {x} first pair link head =
    record {
      chained = λ p pairs l read c. chained c (omega arith) (omega arith) read first pair link head;
      others = λ pairs l. but_trans (but_put head (first_of (x % 16) (omega arith))) (but_trans (but_put link (link_of n l)) (but_put pair (pair_of n l)));
    }

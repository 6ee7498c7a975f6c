-- The entries of a sound payload, chained and with the starts of their signals, are what unpacking promises: they are in order
-- (chained_rising), and with their starts they are Unpacked (started_unpacked). Leans on work's Area and proofs/Starts.
use Prim.Native.Nat.{ℕ, zero, suc, ◌+◌, ◌-◌, ◌/◌, ◌%◌, ◌≤◌, ◌<◌}
use mathlib.Core.Path.{◌≡◌, refl, ap, sym, ◌∙◌}
use mathlib.Core.List.{List}
use native.Mathlib.Decide.{dec_le, dec_lt}
use native.Mathlib.Omega.{arith}
use Rattle.plans.specs.Tables.{Entry}
use Rattle.tables.specs.Payload.{signals_in, channels_in, ranks_in, pairs_in, size_in, entry_in}
use Rattle.tables.specs.Sound.{Above, Sound}
use Rattle.tables.specs.Sound.Above.{by_signal, by_channel}
use Rattle.tables.proofs.Parts.{size_pairs}
use Rattle.units.specs.declared.Size.{Size}
use Rattle.units.specs.Limits.{Limits}
use Rattle.work.specs.Work.{at, PAIR, LINK, FIRST, signal_at, channel_at, next_at, rank_at, UnchangedBut}
use Rattle.work.specs.Input.{Input}
use Rattle.work.proofs.Area.{unchanged_at, but_trans}
use Rattle.unpack.specs.Unpacking.{Filled, Unpacked}
use Rattle.unpack.specs.Inside.{Chained, SignalsRise, Splits, Started}
use Rattle.unpack.proofs.Starts.{more_starts}

-- Where a signal starts: later signals start later, an entry lies from its own signal's start on and before the next one's, and
-- what no signal reaches starts behind them all.
splits_ascend : {pairs s t x y : ℕ} {w : List ℕ} → Splits pairs w s x → Splits pairs w t y → s ≤ t → x ≤ y
splits_ascend {x = x} {y = y} a b l = pick (dec_le x y)
  where
    pick : Dec (x ≤ y) → x ≤ y
    pick (yes h) = h
    pick (no h) = absurd (omega (arith, a.most, a.before y (omega arith), b.behind y (omega arith) (omega (arith, a.most))))

splits_after : {pairs x : ℕ} {w : List ℕ} (e : ℕ) → Splits pairs w (signal_at w e) x → x ≤ e
splits_after {x = x} e a = pick (dec_le x e)
  where
    pick : Dec (x ≤ e) → x ≤ e
    pick (yes h) = h
    pick (no h) = absurd (omega (arith, a.before e (omega arith)))

splits_before : {pairs x : ℕ} {w : List ℕ} (e : ℕ) → Splits pairs w (suc (signal_at w e)) x → e < pairs → e < x
splits_before {x = x} e a l = pick (dec_lt e x)
  where
    pick : Dec (e < x) → e < x
    pick (yes h) = h
    pick (no h) = absurd (omega (arith, a.behind e (omega arith) l))

splits_all : {pairs s x : ℕ} {w : List ℕ} → Splits pairs w s x → ((e : ℕ) → e < pairs → signal_at w e < s) → x ≡ pairs
splits_all {pairs} {s} {x} a all = pick (dec_lt x pairs)
  where
    pick : Dec (x < pairs) → x ≡ pairs
    pick (yes h) = absurd (omega (arith, a.behind x (omega arith) h, all x h))
    pick (no h) = omega (arith, a.most)

-- The entries of a sound payload never fall by signal,
signals_rise : {p : List ℕ} → Sound p → (i j : ℕ) → i ≤ j → j < pairs_in p → (entry_in p i).signal ≤ (entry_in p j).signal
signals_rise {p} sound i j l m = go (j - i) j (omega arith) m
  where
    step : {e f : Entry} → Above e f → e.signal ≤ f.signal
    step (by_signal h) = omega arith
    step (by_channel h k) = omega arith

    go : (d j : ℕ) → i + d ≡ j → j < pairs_in p → (entry_in p i).signal ≤ (entry_in p j).signal
    go zero j q m = let same : i ≡ j = omega arith in rw same (omega arith)
    go (suc d) j q m =
        let next : j ≡ suc (i + d) = omega arith in
        rw next (omega (arith, go d (i + d) refl (omega arith), step (sound.ascend (i + d) (omega arith))))

-- The size of a sound payload is within the limits.
pub size_limits : {p : List ℕ} {z : Size} → Sound p → z ≡ size_in p → Limits z
size_limits sound is = rw is sound.limits

module _ {p : List ℕ} {z : Size} {pairs : ℕ} {v : List ℕ} (sound : Sound p) (is : z ≡ size_in p) (chain : Chained p pairs 0 v) (all : pairs ≡ z.pairs.0) where
  c : Chained p z.pairs.0 0 v
  c = rw all at chain

  limits : Limits z
  limits = size_limits sound is

  signals_are : z.signals ≡ signals_in p
  unfolding size_in
  signals_are = ap (λ (y : Size). y.signals) is

  channels_are : z.channels ≡ channels_in p
  unfolding size_in
  channels_are = ap (λ (y : Size). y.channels) is

  ranks_are : z.ranks ≡ ranks_in p
  unfolding size_in
  ranks_are = ap (λ (y : Size). y.ranks) is

  in_payload : {e : ℕ} → e < z.pairs.0 → e < pairs_in p
  in_payload l = rw (size_pairs p is) at l

  -- so those that are chained are in order.
  pub chained_rising : SignalsRise z.signals pairs v
  chained_rising =
      rw all
      record {
        fits = c.fits;
        few_signals = limits.few_signals;
        signal = λ e l. omega (arith, c.signal e (omega arith) l, sound.signal e (in_payload l), signals_are);
        rising = λ i j l m.
            omega (arith, c.signal i (omega arith) (omega arith), c.signal j (omega arith) m, signals_rise sound i j l (in_payload m));
      }

  module _ {w : List ℕ} (started : Started z.signals pairs v w) where
    s : Started z.signals z.pairs.0 v w
    s = rw all at started

    same_pair : (e : ℕ) → e < z.pairs.0 → at w PAIR e ≡ at v PAIR e
    same_pair e l = unchanged_at s.below PAIR e (omega arith) (omega (arith, limits.few_pairs))

    same_link : (e : ℕ) → e < z.pairs.0 → at w LINK e ≡ at v LINK e
    same_link e l = unchanged_at s.below LINK e (omega arith) (omega (arith, limits.few_pairs))

    same_first : (r : ℕ) → r < 16 → at w FIRST r ≡ at v FIRST r
    same_first r l = unchanged_at s.below FIRST r (omega arith) (omega arith)

    module _ (e : ℕ) (l : e < z.pairs.0) where
      same_signal : signal_at w e ≡ signal_at v e
      unfolding signal_at
      same_signal = ap (λ (x : ℕ). x / 256) (same_pair e l)

      same_channel : channel_at w e ≡ channel_at v e
      unfolding channel_at
      same_channel = ap (λ (x : ℕ). x % 256) (same_pair e l)

      same_rank : rank_at w e ≡ rank_at v e
      unfolding rank_at
      same_rank = ap (λ (x : ℕ). x % 16) (same_link e l)

      same_next : next_at w e ≡ next_at v e
      unfolding next_at
      same_next = ap (λ (x : ℕ). x / 16) (same_link e l)

    inside : (e : ℕ) → e < z.pairs.0 → signal_at v e < z.signals
    inside e l = chained_rising.signal e (omega arith)

    signal : (e : ℕ) → e < z.pairs.0 → signal_at w e ≡ (entry_in p e).signal
    signal e l = same_signal e l ∙ c.signal e (omega arith) l

    channel : (e : ℕ) → e < z.pairs.0 → channel_at w e ≡ (entry_in p e).channel
    channel e l = same_channel e l ∙ c.channel e (omega arith) l

    rank : (e : ℕ) → e < z.pairs.0 → rank_at w e ≡ (entry_in p e).rank
    rank e l = same_rank e l ∙ c.rank e (omega arith) l

    input : Input z w
    input =
        record {
          room = omega (arith, s.below.size, c.fits.room);
          limits = limits;
          signal = λ e l. rw (same_signal e l) (inside e l);
          channel = λ e l. omega (arith, channel e l, sound.channel e (in_payload l), channels_are);
          ranked = λ e l. omega (arith, rank e l, sound.some_rank e (in_payload l));
          within = λ e l. omega (arith, rank e l, sound.rank e (in_payload l), ranks_are);
          ascend = λ t l. splits_ascend (s.starts t (omega arith)) (s.starts (suc t) l) (omega arith);
          last = splits_all (s.starts z.signals (omega arith)) inside;
          after_start = λ e l. rw (same_signal e l) (splits_after e (s.starts (signal_at v e) (omega (arith, inside e l))));
          before_end = λ e l. rw (same_signal e l) (splits_before e (s.starts (suc (signal_at v e)) (omega (arith, inside e l))) l);
          first_is = λ r l m k.
              let q : at w FIRST r ≡ at v FIRST r = same_first r (omega (arith, limits.few_ranks)) in
              rw (q, same_rank (at v FIRST r) (omega arith)) (c.first_is r (omega (arith, limits.few_ranks)) (omega arith));
          first_skips = λ r e l m k h q.
              let small : r < 16 = omega (arith, limits.few_ranks) in
              c.first_skips r e small (omega arith) (omega (arith, same_first r small)) (sym (same_rank e k) ∙ q);
          next_later = λ e l. rw (same_next e l) (c.next_later e (omega arith) l);
          next_is = λ e l k.
              let q : next_at w e ≡ next_at v e = same_next e l in
              rw (q, same_rank (next_at v e) (omega arith), same_rank e l) (c.next_is e (omega arith) l (omega arith));
          next_skips = λ e j l m k h q.
              c.next_skips e j (omega arith) l m (omega (arith, same_next e l)) h (sym (same_rank j h) ∙ q ∙ same_rank e l);
        }

    pub started_unpacked : {u : List ℕ} → UnchangedBut (Filled pairs 0) v u → Unpacked p z u w
    started_unpacked h =
        record { input = input; signal = signal; channel = channel; rank = rank; others = but_trans s.others (more_starts (omega arith) (rw all at h)) }

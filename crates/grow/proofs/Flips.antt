-- Laws of flipping: what a turn of the recursion asks of the next (turn_asks), and what comes of it where another channel is
-- left empty (flipped_more) and where the root is reached (flipped_last). Of clearing: one mark more is gone
-- (cleared_more). Leans on work's Area and State.
use Prim.Native.Nat.{ℕ, suc, ◌+◌, ◌-◌, ◌≤◌, ◌<◌}
use mathlib.Core.Path.{◌≡◌, ap, sym, ◌∙◌}
use mathlib.Core.Logic.{⊎_elim, inl, inr}
use mathlib.Core.List.{List}
use native.Mathlib.Decide.{ℕ_discrete}
use native.Mathlib.Omega.{arith}
use Rattle.units.specs.declared.Size.{Size}
use Rattle.units.specs.Limits.{most_signals, most_channels}
use Rattle.work.specs.Work.{at, none, CHANNEL, SIGNAL, SHUT_SIGNAL, FROM, QUEUE, MIDDLE, WHOLE, Unchanged, Put}
use Rattle.work.specs.Input.{Input}
use Rattle.work.specs.State.{InList, Lists, Keeps}
use Rattle.work.proofs.Area.{put_other, put_below, put_above, unchanged_trans, unchanged_part, unchanged_at}
use Rattle.work.proofs.Input.{same_input}
use Rattle.work.proofs.State.{same_in_list, same_lists, end_most}
use Rattle.grow.specs.Inside.{Branch, Apart, Path, FlipReady, Flipped, FlipsFor, Cleared}

pub keeps_trans : {z : Size} {u v w : List ℕ} → Keeps z u v → Keeps z v w → Keeps z u w
keeps_trans h k =
    record { placed = λ s m x. k.placed s m (h.placed s m x); taken = λ c m x. k.taken c m (h.taken c m x) }

-- w is v with signal s put on channel c.
record Hung (s c : ℕ) (v w : List ℕ) : Type 0 where
  pub below : Unchanged 0 CHANNEL w v
  pub above : Unchanged SHUT_SIGNAL WHOLE w v
  pub channel : at w CHANNEL s ≡ c
  pub signal : at w SIGNAL c ≡ s
  pub channels : (t : ℕ) → t < most_signals → (t ≡ s → ⊥) → at w CHANNEL t ≡ at v CHANNEL t
  pub signals : (d : ℕ) → d < most_channels → (d ≡ c → ⊥) → at w SIGNAL d ≡ at v SIGNAL d

hung : {s c : ℕ} {u v w : List ℕ} → s < most_signals → c < most_channels → Put u CHANNEL s c v → Put v SIGNAL c s w → Hung s c u w
hung {s} {c} k m p q =
    record {
      below = unchanged_trans (put_below q 0 CHANNEL (omega arith)) (put_below p 0 CHANNEL (omega arith));
      above = unchanged_trans (put_above q SHUT_SIGNAL WHOLE (omega arith)) (put_above p SHUT_SIGNAL WHOLE (omega arith));
      channel = put_other q CHANNEL s (λ e. omega arith) ∙ p.here;
      signal = q.here;
      channels = λ t l h. put_other q CHANNEL t (λ e. omega arith) ∙ put_other p CHANNEL t (λ e. h (omega arith));
      signals = λ d l h. put_other q SIGNAL d (λ e. h (omega arith)) ∙ put_other p SIGNAL d (λ e. omega arith);
    }

hung_in_list : {z : Size} {s c : ℕ} {v w : List ℕ} → Input z v → Lists z v → Hung s c v w
    → (t d : ℕ) → t < z.signals → InList v t d → InList w t d
hung_in_list n l h t d m i = same_in_list h.below t d (omega (arith, n.limits.few_signals)) (end_most n l t m) i

-- Once s sits on c, the mates are inverse to each other apart from the channel that s left.
module _ {z : Size} {s c : ℕ} {v w : List ℕ} (n : Input z v) (l : Lists z v) (a : Apart z c v)
    (empty : (t : ℕ) → t < z.signals → at v CHANNEL t ≡ c → ⊥) (hs : s < z.signals) (hc : c < z.channels)
    (live : InList v s c) (h : Hung s c v w) where
  moved : Apart z (at v CHANNEL s) w
  moved =
      record {
        placed = λ t m x. placed t m x (ℕ_discrete t s);
        back = λ t m x. back t m x (ℕ_discrete t s);
        taken = λ d m o x. taken d m o x (ℕ_discrete d c);
        forth = λ d m o x. forth d m o x (ℕ_discrete d c);
        along = record { live = λ t m x. along t m x (ℕ_discrete t s) };
      }
    where
      channels : (t : ℕ) → t < z.signals → (t ≡ s → ⊥) → at w CHANNEL t ≡ at v CHANNEL t
      channels t m o = h.channels t (omega (arith, n.limits.few_signals)) o

      signals : (d : ℕ) → d < z.channels → (d ≡ c → ⊥) → at w SIGNAL d ≡ at v SIGNAL d
      signals d m o = h.signals d (omega (arith, n.limits.few_channels)) o

      placed : (t : ℕ) → t < z.signals → (at w CHANNEL t ≡ none → ⊥) → Dec (t ≡ s) → at w CHANNEL t < z.channels
      placed t m x (yes e) = rw (e, h.channel) hc
      placed t m x (no o) = rw (channels t m o) (a.placed t m (λ k. x (channels t m o ∙ k)))

      back : (t : ℕ) → t < z.signals → at w CHANNEL t < z.channels → Dec (t ≡ s) → at w SIGNAL (at w CHANNEL t) ≡ t
      back t m x (yes e) = rw (e, h.channel) h.signal
      back t m x (no o) =
          let k : at v CHANNEL t < z.channels = omega (arith, channels t m o) in
          rw (channels t m o) (signals (at v CHANNEL t) k (empty t m) ∙ a.back t m k)

      taken : (d : ℕ) → d < z.channels → (d ≡ at v CHANNEL s → ⊥) → (at w SIGNAL d ≡ none → ⊥) → Dec (d ≡ c) → at w SIGNAL d < z.signals
      taken d m o x (yes e) = rw (e, h.signal) hs
      taken d m o x (no k) = rw (signals d m k) (a.taken d m k (λ y. x (signals d m k ∙ y)))

      forth : (d : ℕ) → d < z.channels → (d ≡ at v CHANNEL s → ⊥) → at w SIGNAL d < z.signals → Dec (d ≡ c) → at w CHANNEL (at w SIGNAL d) ≡ d
      forth d m o x (yes e) = rw (e, h.signal) h.channel
      forth d m o x (no k) =
          let y : at v SIGNAL d < z.signals = omega (arith, signals d m k) in
          let f : at v CHANNEL (at v SIGNAL d) ≡ d = a.forth d m k y in
          rw (signals d m k) (channels (at v SIGNAL d) y (λ (e : at v SIGNAL d ≡ s). o (sym f ∙ ap (at v CHANNEL) e)) ∙ f)

      along : (t : ℕ) → t < z.signals → at w CHANNEL t < z.channels → Dec (t ≡ s) → InList w t (at w CHANNEL t)
      along t m x (yes e) = rw (e, h.channel) (hung_in_list n l h s c hs live)
      along t m x (no o) = rw (channels t m o) (hung_in_list n l h t (at v CHANNEL t) m (a.along.live t m (omega (arith, channels t m o))))

  -- Whoever was placed or taken stays so.
  moved_keeps : Keeps z v w
  moved_keeps =
      record {
        placed = λ t m x. placed t m x (ℕ_discrete t s);
        taken = λ d m x. taken d m x (ℕ_discrete d c);
      }
    where
      placed : (t : ℕ) → t < z.signals → at v CHANNEL t < z.channels → Dec (t ≡ s) → at w CHANNEL t < z.channels
      placed t m x (yes e) = rw (e, h.channel) hc
      placed t m x (no o) = rw (h.channels t (omega (arith, n.limits.few_signals)) o) x

      taken : (d : ℕ) → d < z.channels → at v SIGNAL d < z.signals → Dec (d ≡ c) → at w SIGNAL d < z.signals
      taken d m x (yes e) = rw (e, h.signal) hs
      taken d m x (no o) = rw (h.signals d (omega (arith, n.limits.few_channels)) o) x

-- One turn of the recursion, in the code's own terms: channel c was reached from s, which leaves `before` and is put on c.
pub record Turn (c s before : ℕ) (u w : List ℕ) : Type 0 where
  pub halfway : List ℕ
  pub reached : s ≡ at u FROM c
  pub leaves : before ≡ at u CHANNEL s
  pub sits : Put u CHANNEL s c halfway
  pub holds : Put halfway SIGNAL c s w

pub turn_channel : {z : Size} {u : List ℕ} {root c k : ℕ} → Path z root c k u → c < z.channels
turn_channel path = rw (← path.is) (path.branch.channel path.position (omega arith))

module _ {z : Size} {u : List ℕ} {root c k s : ℕ} (path : Path z root c k u) (reached : s ≡ at u FROM c) where
  pub turn_signal : s < z.signals
  turn_signal = rw (reached, ← path.is) (path.branch.from path.position (omega arith))

  turn_live : InList u s c
  turn_live = rw (reached, ← path.is) (path.branch.live path.position (omega arith))

  turn_parent : (s ≡ root → ⊥) → (i : ℕ) × (i < path.position) × (at u CHANNEL s ≡ at u QUEUE i)
  turn_parent o = ⊎_elim (λ e. absurd (o (is ∙ e))) (λ x. (x.0, x.1, ap (at u CHANNEL) is ∙ x.2)) (path.branch.parent path.position (omega arith))
    where
      is : s ≡ at u FROM (at u QUEUE path.position)
      is = rw path.is reached

module _ {z : Size} {u w : List ℕ} {root c k s before : ℕ} (n : Input z u) (l : Lists z u) (path : Path z root c k u) (short : k ≤ most_channels)
    (t : Turn c s before u w) where
  turn : Hung s c u w
  turn = hung (omega (arith, n.limits.few_signals, turn_signal path t.reached)) (omega (arith, n.limits.few_channels, turn_channel path)) t.sits t.holds

  turn_apart : Apart z (at u CHANNEL s) w
  turn_apart = moved n l path.apart path.empty (turn_signal path t.reached) (turn_channel path) (turn_live path t.reached) turn

  turn_keeps : Keeps z u w
  turn_keeps = moved_keeps n l path.apart path.empty (turn_signal path t.reached) (turn_channel path) (turn_live path t.reached) turn

  turn_queue : (j : ℕ) → j < most_channels → at w QUEUE j ≡ at u QUEUE j
  turn_queue j m = unchanged_at turn.above QUEUE j (omega arith) (omega arith)

  -- Up to the channel that s left no channel was reached from s, so their branch stands as it stood.
  turn_branch : (s ≡ root → ⊥) → (i : ℕ) → i < path.position → at u CHANNEL s ≡ at u QUEUE i → Branch z root (suc i) w
  turn_branch o i m left =
      record {
        channel = λ j y. rw (queue j y) (b.channel j (omega arith));
        distinct = λ a j x y e. b.distinct a j x (omega arith) (sym (queue a (omega arith)) ∙ e ∙ queue j y);
        from = λ j y. rw (from j y) (b.from j (omega arith));
        live = λ j y. rw (from j y, queue j y) (hung_in_list n l turn (at u FROM (at u QUEUE j)) (at u QUEUE j) (b.from j (omega arith)) (b.live j (omega arith)));
        parent = λ j y. rw (from j y) (⊎_elim inl (λ x. inr (x.0, x.1, parent j y x.0 x.1 x.2)) (b.parent j (omega arith)));
      }
    where
      b : Branch z root (suc path.position) u
      b = path.branch

      queue : (j : ℕ) → j < suc i → at w QUEUE j ≡ at u QUEUE j
      queue j y = turn_queue j (omega (arith, path.inside))

      from : (j : ℕ) → j < suc i → at w FROM (at w QUEUE j) ≡ at u FROM (at u QUEUE j)
      from j y = rw (queue j y) (unchanged_at turn.above FROM (at u QUEUE j) (omega arith) (omega (arith, b.channel j (omega arith), n.limits.few_channels)))

      parent : (j : ℕ) → j < suc i → (a : ℕ) → a < j → at u CHANNEL (at u FROM (at u QUEUE j)) ≡ at u QUEUE a
          → at w CHANNEL (at u FROM (at u QUEUE j)) ≡ at w QUEUE a
      parent j y a x e =
          turn.channels (at u FROM (at u QUEUE j)) (omega (arith, b.from j (omega arith), n.limits.few_signals))
          (λ (f : at u FROM (at u QUEUE j) ≡ s). b.distinct a i (omega arith) (omega arith) (sym e ∙ ap (at u CHANNEL) f ∙ left))
          ∙ e ∙ sym (queue a (omega arith))

  module _ (o : s ≡ root → ⊥) where
    turn_before : before < z.channels
    turn_before = let x = turn_parent path t.reached o in rw (t.leaves, x.2) (path.branch.channel x.0 (omega (arith, x.1)))

    path_more : Path z root before (k - 1) w
    path_more =
        record {
          root_signal = path.root_signal;
          root_free = turn.channels root (omega (arith, path.root_signal, n.limits.few_signals)) (λ e. o (sym e)) ∙ path.root_free;
          position = x.0;
          inside = omega (arith, x.1, path.inside);
          is = turn_queue x.0 (omega (arith, x.1, path.inside)) ∙ sym (t.leaves ∙ x.2);
          empty = λ a m e. empty a m e (ℕ_discrete a s);
          apart = rw t.leaves turn_apart;
          branch = turn_branch o x.0 x.1 x.2;
        }
      where
        x : (i : ℕ) × (i < path.position) × (at u CHANNEL s ≡ at u QUEUE i)
        x = turn_parent path t.reached o

        back : (a : ℕ) → a < z.signals → at u CHANNEL a ≡ before → at u SIGNAL before ≡ a
        back a m e = rw (← e) (path.apart.back a m (omega (arith, e, turn_before)))

        empty : (a : ℕ) → a < z.signals → at w CHANNEL a ≡ before → Dec (a ≡ s) → ⊥
        empty a m e (yes f) = path.empty s (turn_signal path t.reached) (sym t.leaves ∙ sym e ∙ ap (at w CHANNEL) f ∙ turn.channel)
        empty a m e (no f) =
            f (sym (back a m (sym (turn.channels a (omega (arith, n.limits.few_signals)) f) ∙ e)) ∙ back s (turn_signal path t.reached) (sym t.leaves))

    turn_input : Input z w
    turn_input = same_input (unchanged_part 0 MIDDLE (omega arith) (omega arith) turn.below) n

    turn_lists : Lists z w
    turn_lists = same_lists n l turn.below

    -- What the recursive call asks, and what comes of it.
    pub turn_asks : FlipReady root before (k - 1) w
    turn_asks = record { size = z; input = turn_input; lists = turn_lists; path = path_more; short = omega arith }

    pub flipped_more : {x : List ℕ} → FlipsFor root before (k - 1) w x → Flipped z root k u x
    flipped_more {x} next =
        let f = next.each z turn_input turn_lists path_more in
        record {
          below = unchanged_trans f.below turn.below;
          above = unchanged_trans f.above turn.above;
          mates = f.mates;
          along = f.along;
          keeps = keeps_trans turn_keeps f.keeps;
          root_placed = f.root_placed;
          free_stays = λ a m r y. f.free_stays a m r (turn.channels a (omega (arith, n.limits.few_signals)) (λ e. placed a e y) ∙ y);
          untouched = λ d m y. f.untouched d m (λ j i e. y j (omega arith) (sym (turn_queue j (omega arith)) ∙ e))
              ∙ turn.signals d (omega (arith, n.limits.few_channels)) (λ e. y path.position path.inside (path.is ∙ sym e));
        }
      where
        placed : (a : ℕ) → a ≡ s → at u CHANNEL a ≡ none → ⊥
        placed a e y = omega (arith, t.leaves, ap (at u CHANNEL) e, y, turn_before, n.limits.few_channels)

  -- At the root no channel is left: it was free.
  pub flipped_last : s ≡ root → Flipped z root k u w
  flipped_last e =
      record {
        below = turn.below;
        above = turn.above;
        mates = record {
          placed = turn_apart.placed;
          back = turn_apart.back;
          taken = λ d m y. turn_apart.taken d m (other d m) y;
          forth = λ d m y. turn_apart.forth d m (other d m) y;
        };
        along = turn_apart.along;
        keeps = turn_keeps;
        root_placed = rw (← e, turn.channel) (turn_channel path);
        free_stays = λ a m r y. turn.channels a (omega (arith, n.limits.few_signals)) (λ f. r (f ∙ e)) ∙ y;
        untouched = λ d m y. turn.signals d (omega (arith, n.limits.few_channels)) (λ f. y path.position path.inside (path.is ∙ sym f));
      }
    where
      other : (d : ℕ) → d < z.channels → d ≡ at u CHANNEL s → ⊥
      other d m f = omega (arith, f, ap (at u CHANNEL) e, path.root_free, n.limits.few_channels)

-- Clearing

module _ {j c : ℕ} {u v : List ℕ} (h : Cleared j u v) (l : j < most_channels) (e : c ≡ at v QUEUE j) where
  -- the queue is as it was, since marks lie below it
  pub cleared_is : c ≡ at u QUEUE j
  cleared_is = e ∙ unchanged_at h.above QUEUE j (omega arith) (omega arith)

  pub cleared_more : {w : List ℕ} → c < most_channels → Put v FROM c none w → Cleared (j + 1) u w
  cleared_more {w} small p =
      record {
        below = unchanged_trans (put_below p 0 FROM (omega arith)) h.below;
        above = unchanged_trans (put_above p QUEUE WHOLE (omega arith)) h.above;
        gone = λ i m. gone i m (ℕ_discrete (at u QUEUE i) c);
        others = λ d m y. put_other p FROM d (λ f. y j (omega arith) (omega (arith, cleared_is))) ∙ h.others d m (λ i k f. y i (omega arith) f);
      }
    where
      gone : (i : ℕ) → i < j + 1 → Dec (at u QUEUE i ≡ c) → at w FROM (at u QUEUE i) ≡ none
      gone i m (yes f) = rw f p.here
      gone i m (no o) = put_other p FROM (at u QUEUE i) (λ f. o (omega arith)) ∙ h.gone i (earlier (ℕ_discrete i j))
        where
          earlier : Dec (i ≡ j) → i < j
          earlier (yes f) = absurd (o (ap (at u QUEUE) f ∙ sym cleared_is))
          earlier (no f) = omega arith

-- Entering one pair: what each way through it leaves (pair_joined, pair_left_out), and what that means
-- for the lists (Steps, by joined_steps and left_out_steps).
-- Leans on work's laws, above all on rooms being apart: storing behind one list touches no other.
use Prim.Native.Nat.{ℕ, suc, ◌+◌, ◌/◌, ◌%◌, ◌≤◌, ◌<◌}
use mathlib.Core.Path.{◌≡◌, refl, sym, ap, ◌∙◌}
use mathlib.Core.Logic.{◌⊎◌, inl, inr, ⊎_elim}
use mathlib.Core.List.{List}
use native.Mathlib.Decide.{ℕ_discrete}
use native.Mathlib.Omega.{arith}
use Rattle.plans.specs.Numbers.{same}
use Rattle.plans.proofs.Sums.{by_same}
use Rattle.units.specs.declared.Size.{Size}
use Rattle.work.specs.Work.{at, PAIR, START, END, LIVE, CHANNEL, SHUT_SIGNAL, SHUT_CHANNEL, MIDDLE, WHOLE, signal_at, channel_at, Unchanged, Put}
use Rattle.work.specs.Input.{Input, Listed}
use Rattle.work.specs.State.{InList, Lists}
use Rattle.work.proofs.Area.{put_other, put_below, put_above, unchanged_refl, unchanged_trans}
use Rattle.work.proofs.Input.{same_start, same_listed, rooms_apart}
use Rattle.work.proofs.State.{end_most}
use Rattle.enter.specs.Inside.{Joined, LeftOut}

-- The two ways through enter_pair, each of which has read the pair of entry e

module _ (v : List ℕ) (e : ℕ) {pair : ℕ} (read : pair ≡ at v PAIR e) where
  pair_signal : signal_at v e ≡ pair / 256
  unfolding signal_at
  pair_signal = ap (λ (x : ℕ). x / 256) (sym read)

  pair_channel : channel_at v e ≡ pair % 256
  unfolding channel_at
  pair_channel = ap (λ (x : ℕ). x % 256) (sym read)

  pub pair_end : {end : ℕ} → end ≡ at v END (pair / 256) → at v END (signal_at v e) < 3000 → end < 3000
  pair_end q room = omega (arith, ap (at v END) pair_signal)

  pub pair_left_out : {x y : ℕ} → x ≡ at v SHUT_SIGNAL (pair / 256) → y ≡ at v SHUT_CHANNEL (pair % 256) → (x + y ≡ 0 → ⊥)
      → LeftOut (signal_at v e) (channel_at v e) v v
  pair_left_out p q shut = rw (pair_signal, pair_channel) (record { shut = λ a b. shut (omega (arith, p, q, a, b)); same = refl })

  pub pair_joined : {x y end : ℕ} {u w : List ℕ} → signal_at v e < 200 → at v END (signal_at v e) < 3000
      → x ≡ at v SHUT_SIGNAL (pair / 256) → y ≡ at v SHUT_CHANNEL (pair % 256) → x + y ≡ 0 → end ≡ at v END (pair / 256)
      → Put v LIVE end (pair % 256) u → Put u END (pair / 256) (end + 1) w → Joined (signal_at v e) (channel_at v e) v w
  pair_joined {end = end} few room p q none-shut r live longer =
      let signal : pair / 256 < 200 = omega (arith, few, pair_signal) in
      let last : end < 3000 = pair_end r room in
      rw (pair_signal, pair_channel)
      (record {
        input = unchanged_trans (put_below longer 0 MIDDLE (omega arith)) (put_below live 0 MIDDLE (omega arith));
        rest = unchanged_trans (put_above longer CHANNEL WHOLE (omega arith)) (put_above live CHANNEL WHOLE (omega arith));
        open_signal = omega (arith, p);
        open_channel = omega (arith, q);
        longer = omega (arith, longer.here);
        last = rw (← r) (put_other longer LIVE end (λ k. omega arith) ∙ live.here);
        other_ends = λ t l h. put_other longer END t (λ k. h (omega arith)) ∙ put_other live END t (λ k. omega arith);
        other_positions = λ i l h. put_other longer LIVE i (λ k. omega arith) ∙ put_other live LIVE i (λ k. h (omega arith));
      })

-- From area w to area u the pair of signal s and channel c, unless one of them is shut, joins the lists; and nothing else does.
pub record Steps (z : Size) (s c : ℕ) (w u : List ℕ) : Type 0 where
  pub input : Unchanged 0 MIDDLE u w
  pub rest : Unchanged CHANNEL WHOLE u w
  pub lists : Lists z u
  pub ends : (t : ℕ) → t < z.signals → at u END t ≤ at w END t + same s t
  pub keeps : (t d : ℕ) → t < z.signals → InList w t d → InList u t d
  pub adds : at w SHUT_SIGNAL s ≡ 0 → at w SHUT_CHANNEL c ≡ 0 → InList u s c
  pub only : (t d : ℕ) → t < z.signals → InList u t d
      → InList w t d ⊎ ((s ≡ t) × (c ≡ d) × (at w SHUT_SIGNAL s ≡ 0) × (at w SHUT_CHANNEL c ≡ 0))

pub left_out_steps : {z : Size} {s c : ℕ} {w u : List ℕ} → Lists z w → LeftOut s c w u → Steps z s c w u
left_out_steps {z} {s} {c} {w} l o =
    rw o.same
    (record {
      input = unchanged_refl 0 MIDDLE w;
      rest = unchanged_refl CHANNEL WHOLE w;
      lists = l;
      ends = λ t m. omega arith;
      keeps = λ t d m i. i;
      adds = λ a b. absurd (o.shut a b);
      only = λ t d m i. inl i;
    })

-- c is put behind the list of s, whose room is not full
module _ {z : Size} {s c : ℕ} {w u : List ℕ} (n : Input z w) (l : Lists z w) (j : Joined s c w u) (signal : s < z.signals)
    (slot : at w END s < at w START (suc s)) (listed : Listed z w s c) where
  start : (t : ℕ) → t ≤ z.signals → at u START t ≡ at w START t
  start t m = same_start j.input t (omega (arith, n.limits.few_signals))

  other_end : (t : ℕ) → t < z.signals → (t ≡ s → ⊥) → at u END t ≡ at w END t
  other_end t m h = j.other_ends t (omega (arith, n.limits.few_signals)) h

  -- the slot lies in no other list
  slot_apart : (t : ℕ) → t < z.signals → (t ≡ s → ⊥) → at w START t ≤ at w END s → at w END s < at w END t → ⊥
  slot_apart t m h a b =
      rooms_apart n s t (at w END s) signal m (λ q. h (sym q)) (l.order s signal) slot a (omega (arith, l.inside t m))

  ends : (t : ℕ) → t < z.signals → at u END t ≡ at w END t + same s t
  ends t m =
      by_same s t
      (λ q h. rw (h, ← q) (omega (arith, j.longer)))
      (λ q h. rw h (omega (arith, other_end t m (λ e. q (sym e)))))

  keeps : (t d : ℕ) → t < z.signals → InList w t d → InList u t d
  keeps t d m i =
      record {
        position = i.position;
        from = rw (start t (omega arith)) i.from;
        below = omega (arith, i.below, ends t m);
        is = j.other_positions i.position (omega (arith, i.below, end_most n l t m)) (λ e. apart e (ℕ_discrete t s)) ∙ i.is;
      }
    where
      apart : i.position ≡ at w END s → Dec (t ≡ s) → ⊥
      apart e (yes q) = omega (arith, i.below, ap (at w END) q)
      apart e (no h) = slot_apart t m h (omega (arith, i.from)) (omega (arith, i.below))

  adds : InList u s c
  adds =
      record {
        position = at w END s;
        from = rw (start s (omega arith)) (l.order s signal);
        below = omega (arith, j.longer);
        is = j.last;
      }

  only : (t d : ℕ) → t < z.signals → InList u t d → InList w t d ⊎ ((s ≡ t) × (c ≡ d))
  only t d m i = go (ℕ_discrete i.position (at w END s)) (ℕ_discrete t s)
    where
      from : at w START t ≤ i.position
      from = omega (arith, start t (omega arith), i.from)

      older : (i.position ≡ at w END s → ⊥) → Dec (t ≡ s) → i.position < at w END t
      older e (yes q) = omega (arith, i.below, j.longer, ap (at w END) q, ap (at u END) q)
      older e (no h) = omega (arith, i.below, other_end t m h)

      go : Dec (i.position ≡ at w END s) → Dec (t ≡ s) → InList w t d ⊎ ((s ≡ t) × (c ≡ d))
      go (yes e) (yes q) = inr (sym q, sym j.last ∙ ap (at u LIVE) (sym e) ∙ i.is)
      go (yes e) (no h) = absurd (slot_apart t m h (omega (arith, from)) (omega (arith, i.below, other_end t m h)))
      go (no e) q =
          let below = older e q in
          inl
          (record {
            position = i.position;
            from = from;
            below = below;
            is = sym (j.other_positions i.position (omega (arith, end_most n l t m)) e) ∙ i.is;
          })

  lists : Lists z u
  lists =
      record {
        order = λ t m. omega (arith, start t (omega arith), ends t m, l.order t m);
        inside = within;
        backed = λ t d m i. same_listed j.input n.limits.few_pairs (back t d m (only t d m i));
      }
    where
      within : (t : ℕ) → t < z.signals → at u END t ≤ at u START (suc t)
      within t m =
          by_same s t
          (λ q h. rw (← q) (omega (arith, j.longer, start (suc s) (omega arith))))
          (λ q h. omega (arith, ends t m, start (suc t) (omega arith), l.inside t m))

      back : (t d : ℕ) → t < z.signals → InList w t d ⊎ ((s ≡ t) × (c ≡ d)) → Listed z w t d
      back t d m (inl i) = l.backed t d m i
      back t d m (inr q) = rw (← q.0, ← q.1) listed

  pub joined_steps : Steps z s c w u
  joined_steps =
      record {
        input = j.input;
        rest = j.rest;
        lists = lists;
        ends = λ t m. omega (arith, ends t m);
        keeps = keeps;
        adds = λ a b. adds;
        only = λ t d m i. ⊎_elim inl (λ q. inr (q.0, q.1, j.open_signal, j.open_channel)) (only t d m i);
      }

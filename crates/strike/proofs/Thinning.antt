-- Thinning a list where it lies: what the loop keeps (Thinning), one law for each way through its body, and that the end of it is
-- Thinned. Leans on work's Area, Input and State.
use Prim.Native.Nat.{ℕ, suc, ◌+◌, ◌≤◌, ◌<◌}
use mathlib.Core.Path.{◌≡◌, ap, sym, ◌∙◌}
use mathlib.Core.Logic.{◌⊎◌, inl, inr, ⊎_elim}
use mathlib.Core.List.{List}
use native.Mathlib.Decide.{dec_le, dec_lt, ℕ_discrete}
use native.Mathlib.Omega.{arith}
use lib.ListN.{length}
use Rattle.units.specs.declared.Size.{Size}
use Rattle.units.specs.Limits.{most_channels, most_pairs}
use Rattle.work.specs.Work.{at, none, NUMBERS, START, END, LIVE, CHANNEL, SHUT_SIGNAL, FROM, MIDDLE, WHOLE, Unchanged, Put}
use Rattle.work.specs.Input.{Input}
use Rattle.work.specs.State.{InList, Lists}
use Rattle.work.proofs.Area.{put_other, put_below, put_above, unchanged_trans, unchanged_sym, unchanged_part, unchanged_at}
use Rattle.work.proofs.Input.{start_most, rooms_apart}
use Rattle.work.proofs.State.{end_most, list_channel}
use Rattle.strike.specs.Inside.{HasList, Untouched, Thinned}

-- Channel c stands in a slot from a up to b.
pub record InSlots (w : List ℕ) (a b c : ℕ) : Type 0 where
  pub position : ℕ
  pub from : a ≤ position
  pub below : position < b
  pub is : at w LIVE position ≡ c

slots_same : {v w : List ℕ} {a b c : ℕ} → Unchanged (LIVE + a) (LIVE + b) w v → InSlots v a b c → InSlots w a b c
slots_same h i =
    record {
      position = i.position;
      from = i.from;
      below = i.below;
      is = unchanged_at h LIVE i.position (omega (arith, i.from)) (omega (arith, i.below)) ∙ i.is;
    }

slots_more : {w : List ℕ} {a b c : ℕ} → InSlots w a b c → InSlots w a (b + 1) c
slots_more i = record { position = i.position; from = i.from; below = omega (arith, i.below); is = i.is }

slots_here : {w : List ℕ} {a b c : ℕ} → a ≤ b → at w LIVE b ≡ c → InSlots w a (b + 1) c
slots_here {b = b} l e = record { position = b; from = l; below = omega arith; is = e }

slots_last : {w : List ℕ} {a b c : ℕ} → InSlots w a (b + 1) c → InSlots w a b c ⊎ (at w LIVE b ≡ c)
slots_last {w} {a} {b} {c} i = pick (ℕ_discrete i.position b)
  where
    pick : Dec (i.position ≡ b) → InSlots w a b c ⊎ (at w LIVE b ≡ c)
    pick (yes e) = inr (rw e at i.is)
    pick (no e) = inl (record { position = i.position; from = i.from; below = omega (arith, i.below); is = i.is })

-- With the slots before k read and those up to `kept` written: these hold exactly the unmarked channels of those.
pub record Thinning (s : ℕ) (v w : List ℕ) (k kept : ℕ) : Type 0 where
  pub start : at v START s ≤ kept
  pub behind : kept ≤ k
  pub end : k ≤ at v END s
  pub below : Unchanged 0 (LIVE + at v START s) w v
  pub above : Unchanged (LIVE + kept) WHOLE w v
  pub only : (c : ℕ) → InSlots w (at v START s) kept c → InSlots v (at v START s) k c
  pub unmarked : (c : ℕ) → InSlots w (at v START s) kept c → at v FROM c ≡ none
  pub found : (c : ℕ) → InSlots v (at v START s) k c → at v FROM c ≡ none → InSlots w (at v START s) kept c

module _ {z : Size} {s : ℕ} {v : List ℕ} (n : Input z v) (l : Lists z v) (h : s < z.signals) {end : ℕ} (ends : end ≡ at v END s) where
  few : at v END s ≤ most_pairs
  few = end_most n l s h

  -- A turn reads channel c, at k.
  module _ {w : List ℕ} {k kept c : ℕ} (t : Thinning s v w k kept) (more : k < end) (read : c ≡ at w LIVE k) where
    old : c ≡ at v LIVE k
    old = read ∙ unchanged_at t.above LIVE k (omega arith) (omega (arith, few))

    pub thinning_channel : c < most_channels
    thinning_channel =
        omega (arith, n.limits.few_channels, list_channel n l s c h (record { position = k; from = omega (arith, t.start); below = omega arith; is = sym old }))

    mark : at w FROM c ≡ at v FROM c
    mark = unchanged_at t.above FROM c (omega (arith, few)) (omega (arith, thinning_channel))

    pub thinning_drop : (at w FROM c ≡ none → ⊥) → Thinning s v w (k + 1) kept
    thinning_drop q =
        record {
          start = t.start;
          behind = omega arith;
          end = omega arith;
          below = t.below;
          above = t.above;
          only = λ d i. slots_more (t.only d i);
          unmarked = t.unmarked;
          found = λ d i u.
              ⊎_elim (λ j. t.found d j u) (λ (e : at v LIVE k ≡ d). absurd (q (mark ∙ ap (at v FROM) (old ∙ e) ∙ u))) (slots_last i);
        }

    pub thinning_keep : {x : List ℕ} → at w FROM c ≡ none → Put w LIVE kept c x → Thinning s v x (k + 1) (kept + 1)
    thinning_keep {x} q p =
        record {
          start = omega arith;
          behind = omega arith;
          end = omega arith;
          below = unchanged_trans (put_below p 0 _ (omega arith)) t.below;
          above = unchanged_trans (put_above p _ _ (omega arith)) (unchanged_part _ _ (omega arith) (omega arith) t.above);
          only = λ d i.
              ⊎_elim (λ j. slots_more (t.only d (back j))) (λ (e : at x LIVE kept ≡ d). slots_here (omega arith) (sym old ∙ sym p.here ∙ e)) (slots_last i);
          unmarked = λ d i.
              ⊎_elim (λ j. t.unmarked d (back j)) (λ (e : at x LIVE kept ≡ d). ap (at v FROM) (sym e ∙ p.here) ∙ sym mark ∙ q) (slots_last i);
          found = λ d i u.
              ⊎_elim (λ j. slots_more (forth (t.found d j u))) (λ (e : at v LIVE k ≡ d). slots_here t.start (p.here ∙ old ∙ e)) (slots_last i);
        }
      where
        slots : Unchanged (LIVE + at v START s) (LIVE + kept) x w
        slots = put_below p _ _ (omega arith)

        forth : {d : ℕ} → InSlots w (at v START s) kept d → InSlots x (at v START s) kept d
        forth i = slots_same slots i

        back : {d : ℕ} → InSlots x (at v START s) kept d → InSlots w (at v START s) kept d
        back i = slots_same (unchanged_sym slots) i

  -- All is read, and the list's end is put.
  module _ {w x : List ℕ} {k kept : ℕ} (t : Thinning s v w k kept) (all : end ≤ k) (p : Put w END s kept x) where
    input : Unchanged 0 MIDDLE x v
    input = unchanged_trans (put_below p 0 MIDDLE (omega arith)) (unchanged_part 0 MIDDLE (omega arith) (omega arith) t.below)

    rest : Unchanged CHANNEL WHOLE x v
    rest =
        unchanged_trans (put_above p CHANNEL WHOLE (omega (arith, h, n.limits.few_signals)))
        (unchanged_part CHANNEL WHOLE (omega (arith, few, t.behind, t.end)) (omega arith) t.above)

    start : at x START s ≡ at v START s
    start = unchanged_at input START s (omega arith) (omega (arith, h, n.limits.few_signals))

    slots : Unchanged (LIVE + at v START s) (LIVE + kept) x w
    slots = put_below p _ _ (omega (arith, few, t.behind, t.end))

    list_slots : {c : ℕ} → InList x s c → InSlots w (at v START s) kept c
    list_slots i =
        slots_same (unchanged_sym slots)
        (record { position = i.position; from = omega (arith, start, i.from); below = omega (arith, p.here, i.below); is = i.is })

    slots_list : {c : ℕ} → InSlots w (at v START s) kept c → InList x s c
    slots_list i =
        let j = slots_same slots i in
        record { position = j.position; from = omega (arith, start, j.from); below = omega (arith, p.here, j.below); is = j.is }

    others : (o : ℕ) → o < z.signals → (o ≡ s → ⊥) → Untouched o v x
    others o m q =
        record {
          flag = unchanged_at rest SHUT_SIGNAL o (omega arith) (omega (arith, n.limits.few_signals));
          end =
              put_other p END o (λ e. q (omega arith))
              ∙ unchanged_at t.above END o (omega (arith, few, t.behind, t.end)) (omega (arith, n.limits.few_signals));
          room = λ j from below.
              let small : j < most_pairs = omega (arith, start_most n (suc o) m, n.limits.few_pairs) in
              put_other p LIVE j (λ e. omega arith) ∙ pick j from below small (dec_lt j (at v START s)) (dec_le kept j);
        }
      where
        pick : (j : ℕ) → at v START o ≤ j → j < at v START (suc o) → j < most_pairs → Dec (j < at v START s) → Dec (kept ≤ j) → at w LIVE j ≡ at v LIVE j
        pick j from below small (yes a) b = unchanged_at t.below LIVE j (omega arith) (omega arith)
        pick j from below small (no a) (yes b) = unchanged_at t.above LIVE j (omega arith) (omega arith)
        pick j from below small (no a) (no b) =
            absurd (rooms_apart n o s j m h q from below (omega arith) (omega (arith, l.inside s h, t.behind, t.end)))

    pub thinning_done : Thinned z s v x
    thinning_done =
        record {
          spared = record { input = input; mates = unchanged_part _ _ (omega arith) (omega arith) rest; marks = unchanged_part _ _ (omega arith) (omega arith) rest };
          others = others;
          less =
              record {
                shorter = omega (arith, p.here);
                order = omega (arith, start, p.here);
                only = λ c i.
                    let j = t.only c (list_slots i) in
                    record { position = j.position; from = j.from; below = omega (arith, j.below); is = j.is };
              };
          unmarked = λ c i. t.unmarked c (list_slots i);
          kept = λ c i u.
              slots_list (t.found c (record { position = i.position; from = i.from; below = omega (arith, i.below); is = i.is }) u);
          flag = unchanged_at rest SHUT_SIGNAL s (omega arith) (omega (arith, h, n.limits.few_signals));
        }

-- What a turn's accesses ask, by the size that the area fits.
module _ {s : ℕ} {v w : List ℕ} {k kept end : ℕ} (h : HasList s v) (ends : end ≡ at v END s) (t : Thinning s v w k kept) (more : k < end) where
  pub slot_bounds : (NUMBERS ≤ length w) × (k < most_pairs) × (kept < most_pairs)
  slot_bounds =
      let few = end_most h.input h.lists s h.inside in
      (omega (arith, h.input.room, t.above.size), omega (arith, few), omega (arith, few, t.behind))

  pub mark_bounds : {c : ℕ} → c ≡ at w LIVE k → (NUMBERS ≤ length w) × (c < most_channels)
  mark_bounds read = (slot_bounds.0, thinning_channel h.input h.lists h.inside ends t more read)

-- What striking gives the rank loop: the failed searches close (closed_of_sealed), so that their cover goes on top of those before
-- (next), and Standing holds of one more rank (standing_struck). Leans on Standing, PlanOfMates and plans' FailedSearch.
use Prim.Native.Nat.{ℕ, suc, ◌+◌, ◌≤◌, ◌<◌}
use mathlib.Core.Path.{◌≡◌, refl, sym, ◌∙◌}
use mathlib.Core.List.{List}
use native.Mathlib.Nat.{lt_of_not-le}
use native.Mathlib.Decide.{dec_lt, ℕ_discrete}
use native.Mathlib.Omega.{arith}
use Rattle.plans.specs.Numbers.{under}
use Rattle.plans.specs.Covers.{Covers, Live, Closed, cover_on, extend, after_search}
use Rattle.plans.proofs.Sums.{under_yes, under_no, under_true, under-bit}
use Rattle.plans.proofs.Counting.{placed_yes, placed_no}
use Rattle.plans.proofs.FailedSearch.{stands_after, certificate_extends, replaced_here, replaced_below, by_replaced}
use Rattle.plans.proofs.Order.{split_last}
use Rattle.units.specs.declared.Size.{Size}
use Rattle.work.specs.Work.{at, none, CHANNEL, SIGNAL, SHUT_SIGNAL, SHUT_CHANNEL, FROM}
use Rattle.work.specs.Input.{Input}
use Rattle.work.specs.State.{InList, Lists, Along, Done, Sealed}
use Rattle.work.specs.Ranks.{table_with, places}
use Rattle.work.proofs.Input.{same_listed, same_start}
use Rattle.work.proofs.State.{same_sits, same_holds, same_mates}
use Rattle.enter.specs.Entering.{Room}
use Rattle.enter.proofs.Waiting.{same_waiting}
use Rattle.strike.specs.Striking.{Covered, Struck}
use Rattle.placer.proofs.Standing.{Standing}
use Rattle.placer.proofs.PlanOfMates.{load_taken}

-- 1 where channel c is marked
unfoldable pub reached : List ℕ → ℕ → ℕ
reached w c = under (at w FROM c) none

-- Whatever the ranks are, striking keeps lists, room and plan in order.
module _ {z : Size} {v w : List ℕ} (n : Input z v) (X : Struck z v w) where
  pub lists_struck : Lists z v → Lists z w
  lists_struck l =
      record {
        order = X.order;
        inside = λ s k. rw (same_start X.input (suc s) (omega (arith, n.limits.few_signals))) (omega (arith, X.shorter s k, l.inside s k));
        backed = λ s c k h. same_listed X.input n.limits.few_pairs (l.backed s c k (X.only s c k h));
      }

  pub room_struck : (m : ℕ) → Room z m v → Room z m w
  room_struck m r =
      record {
        enough = λ s l.
            rw (same_start X.input (suc s) (omega (arith, n.limits.few_signals)), same_waiting X.input z n.limits.few_pairs m s)
            (omega (arith, X.shorter s l, r.enough s l));
      }

  pub along_struck : Along z v → Along z w
  along_struck a =
      record {
        live = λ s l k.
            let e : at w CHANNEL s ≡ at v CHANNEL s = same_sits n X.mates s l in
            rw e (X.kept s (at v CHANNEL s) l (a.live s l (omega arith)) (λ q. q.unmarked));
      }

module _ (z : Size) (rank : ℕ → ℕ → ℕ) (K : Covers) (i : ℕ) (v : List ℕ) (n : Input z v)
    (S : Standing z rank K (suc i) i v) (Q : Sealed z z.signals v) where
  marked : (c : ℕ) → 1 ≤ reached v c → at v FROM c < none
  unfolding reached
  marked c = under_true (at v FROM c) none

  in_list : (s c : ℕ) → Live (table_with z rank) K i s c → InList v s c
  in_list s c h = S.all s c h.signal h.channel h.listed h.ranked h.stands

  pub closed_of_sealed : Closed (table_with z rank) K i (places v) (reached v)
  unfolding reached
  closed_of_sealed =
      record {
        bit = λ c. under-bit (at v FROM c) none;
        onward_free = λ s c h k.
            omega (arith, under_yes (at v FROM c) none ((Q.free s h.signal h.signal (free s h.signal k)).each c (in_list s c h)));
        onward = λ s c h k q.
            let e : at v SIGNAL (at v CHANNEL s) ≡ s = S.mates.back s h.signal k in
            let d : Done v s = rw e at (Q.onward (at v CHANNEL s) k (marked (at v CHANNEL s) q)) in
            omega (arith, under_yes (at v FROM c) none (d.each c (in_list s c h)));
        full = λ c l q. load_taken z rank v n S.mates c l (Q.taken c l (marked c q));
      }
    where
      free : (s : ℕ) → s < z.signals → z.channels ≤ at v CHANNEL s → at v CHANNEL s ≡ none
      free s l k = go (ℕ_discrete (at v CHANNEL s) none)
        where
          go : Dec (at v CHANNEL s ≡ none) → at v CHANNEL s ≡ none
          go (yes e) = e
          go (no e) = absurd (omega (arith, S.mates.placed s l e))

  -- a signal is covered by the cover of this rank just when it sits on an unmarked channel
  covered_or_not : (s : ℕ) → Dec (Covered z v s)
  covered_or_not s = go (dec_lt (at v CHANNEL s) z.channels) (ℕ_discrete (at v FROM (at v CHANNEL s)) none)
    where
      go : Dec (at v CHANNEL s < z.channels) → Dec (at v FROM (at v CHANNEL s) ≡ none) → Dec (Covered z v s)
      go (no h) k = no (λ q. h q.placed)
      go (yes h) (no k) = no (λ q. k q.unmarked)
      go (yes h) (yes k) = yes (record { placed = h; unmarked = k })

  cover : ℕ → ℕ
  cover = cover_on (table_with z rank) (places v) (reached v)

  cover_one : (s : ℕ) → Covered z v s → cover s ≡ 1
  unfolding cover_on reached cover
  cover_one s q =
      let unmarked : under (at v FROM (at v CHANNEL s)) none ≡ 0 = under_no (at v FROM (at v CHANNEL s)) none (omega (arith, q.unmarked)) in
      rw (placed_yes (table_with z rank) (places v) s q.placed, unmarked) refl

  cover_none : (s : ℕ) → s < z.signals → (Covered z v s → ⊥) → cover s ≡ 0
  unfolding cover_on reached cover
  cover_none s l q = go (dec_lt (at v CHANNEL s) z.channels)
    where
      go : Dec (at v CHANNEL s < z.channels) → cover s ≡ 0
      go (no h) = rw (placed_no (table_with z rank) (places v) s (omega (arith, lt_of_not-le h))) (omega arith)
      go (yes h) =
          let differs : at v FROM (at v CHANNEL s) ≡ none → ⊥ = λ e. q (record { placed = h; unmarked = e }) in
          let there : at v FROM (at v CHANNEL s) < none = omega (arith, Q.marks (at v CHANNEL s) h) in
          rw (placed_yes (table_with z rank) (places v) s h, under_yes (at v FROM (at v CHANNEL s)) none there) refl

  -- the cover of this rank put on top of K
  unfoldable pub next : Covers
  next = after_search (table_with z rank) K i (places v) (reached v)

  module _ (w : List ℕ) (X : Struck z v w) where
    -- what is left in a list is covered at most once, and what was covered at most once is left
    once : (s c : ℕ) → s < z.signals → InList w s c → cover s + reached v c ≤ 1
    unfolding reached
    once s c l h = go (covered_or_not s)
      where
        go : Dec (Covered z v s) → cover s + under (at v FROM c) none ≤ 1
        go (yes q) = omega (arith, cover_one s q, under_no (at v FROM c) none (omega (arith, X.struck s c l h q)))
        go (no q) = omega (arith, cover_none s l q, under-bit (at v FROM c) none)

    unmarked : (s c : ℕ) → c < z.channels → cover s + reached v c ≤ 1 → Covered z v s → at v FROM c ≡ none
    unfolding reached
    unmarked s c l h q = go (dec_lt (at v FROM c) none)
      where
        go : Dec (at v FROM c < none) → at v FROM c ≡ none
        go (yes k) = absurd (omega (arith, cover_one s q, under_yes (at v FROM c) none k))
        go (no k) = omega (arith, Q.marks c l, lt_of_not-le k)

    open_now : (s : ℕ) → s < z.signals → at w SHUT_SIGNAL s ≡ 0 → (Covered z v s → ⊥)
    open_now s l e q = omega (arith, X.shut_signal s l q)

    open_then : (c : ℕ) → c < z.channels → at w SHUT_CHANNEL c ≡ 0 → at v FROM c ≡ none
    open_then c l e = go (dec_lt (at v FROM c) none)
      where
        go : Dec (at v FROM c < none) → at v FROM c ≡ none
        go (yes k) = absurd (omega (arith, X.shut_channel c l k))
        go (no k) = omega (arith, Q.marks c l, lt_of_not-le k)

    pub standing_struck : Standing z rank next (suc i) (suc i) w
    unfolding next extend cover reached
    standing_struck =
        record {
          certificate = certificate_extends (table_with z rank) K i (places v) (reached v) closed_of_sealed S.certificate;
          mates = same_mates n X.mates S.mates;
          along = along_struck n X S.along;
          lists = lists_struck n X S.lists;
          entered = λ s c l h. S.entered s c l (X.only s c l h);
          stands = λ s c l h.
              (stands_after (table_with z rank) K i cover (reached v) s c).1 (
                S.stands s c l (X.only s c l h),
                omega (arith, once s c l h, under_yes (rank s c) (suc (suc i)) (omega (arith, S.entered s c l (X.only s c l h)))),
              );
          all = λ s c l m k h st.
              let both = (stands_after (table_with z rank) K i cover (reached v) s c).0 st in
              X.kept s c l (S.all s c l m k h both.0) (unmarked s c m (omega (arith, both.1, under-bit (rank s c) (suc (suc i)))));
          open_signal = λ s l e j k.
              split_last j i k
              (λ (q : j ≡ i). rw q (replaced_here K.on_signal i cover s ∙ cover_none s l (open_now s l e)))
              (λ q. replaced_below K.on_signal i cover s j q ∙ S.open_signal s l (sym (X.open_signal s l (open_now s l e)) ∙ e) j q);
          open_channel = λ c l e j k.
              split_last j i k
              (λ (q : j ≡ i). rw q (replaced_here K.on_channel i (reached v) c ∙ under_no (at v FROM c) none (omega (arith, open_then c l e))))
              (λ q. replaced_below K.on_channel i (reached v) c j q ∙ S.open_channel c l (sym (X.open_channel c l (open_then c l e)) ∙ e) j q);
          never_signal = λ s l k.
              let bare : Covered z v s → ⊥ = λ q. omega (arith, cover_one s q, replaced_here K.on_signal i cover s, k i (omega arith)) in
              X.open_signal s l bare ∙ S.never_signal s l (λ j m. sym (replaced_below K.on_signal i cover s j m) ∙ k j (omega arith));
          never_channel = λ c l k.
              X.open_channel c l (unreached c l (sym (replaced_here K.on_channel i (reached v) c) ∙ k i (omega arith)))
              ∙ S.never_channel c l (λ j m. sym (replaced_below K.on_channel i (reached v) c j m) ∙ k j (omega arith));
          placed = λ j s k l m.
              rw (same_sits n X.mates s l)
              (by_replaced K.on_signal i cover s j k m (was_covered s l) (λ q. S.placed j s q l));
          taken = λ j c k l m.
              rw (same_holds n X.mates c l)
              (by_replaced K.on_channel i (reached v) c j k m (λ q. Q.taken c l (marked c q)) (λ q. S.taken j c q l));
        }
      where
        unreached : (c : ℕ) → c < z.channels → reached v c ≡ 0 → at v FROM c ≡ none
        unreached c l e = go (dec_lt (at v FROM c) none)
          where
            go : Dec (at v FROM c < none) → at v FROM c ≡ none
            go (yes k) = absurd (omega (arith, under_yes (at v FROM c) none k))
            go (no k) = omega (arith, Q.marks c l, lt_of_not-le k)

        was_covered : (s : ℕ) → s < z.signals → 1 ≤ cover s → at v CHANNEL s < z.channels
        was_covered s l h = go (covered_or_not s)
          where
            go : Dec (Covered z v s) → at v CHANNEL s < z.channels
            go (yes q) = q.placed
            go (no q) = absurd (omega (arith, cover_none s l q))

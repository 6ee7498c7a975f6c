-- Reaching channels from a root: what marking one does (Marked), and what a search has reached so far (Reached): nothing yet, or one
-- channel more. v is the area at the search's entry, w the present one. Leans on work's Area and State and on the sums of plans.
use Prim.Native.Nat.{ℕ, zero, suc, ◌+◌, ◌≤◌, ◌<◌}
use mathlib.Core.Path.{◌≡◌, refl, ap, sym, ◌∙◌}
use mathlib.Core.Logic.{◌⊎◌, inl, inr, ⊎_elim}
use mathlib.Core.List.{List}
use native.Mathlib.Nat.{not-suc-le-zero}
use native.Mathlib.Decide.{ℕ_discrete}
use native.Mathlib.Omega.{arith}
use borrow.Author.Count.{below_more}
use Rattle.plans.specs.Numbers.{same, sum}
use Rattle.plans.proofs.Sums.{same_yes, same_no, same_bit, under_yes, sum_ext, sum_add, sum_same, sum_term, sum_at_most}
use Rattle.units.specs.declared.Size.{Size}
use Rattle.units.specs.Limits.{most_signals, most_channels}
use Rattle.work.specs.Work.{at, none, END, CHANNEL, SIGNAL, FROM, QUEUE, SCRATCH, Unchanged, Put}
use Rattle.work.specs.State.{InList}
use Rattle.work.proofs.Area.{put_other, put_below, unchanged_refl, unchanged_sym, unchanged_trans, unchanged_part, unchanged_at}
use Rattle.work.proofs.State.{same_in_list, end_most, list_channel}
use Rattle.grow.specs.Inside.{Begun, Branch, Tree}

-- Marking a channel

-- w' is w with channel c marked as reached from signal s and put into the queue at n.
pub record Marked (w : List ℕ) (s c n : ℕ) (w' : List ℕ) : Type 0 where
  pub below : Unchanged 0 SCRATCH w' w
  pub here : at w' FROM c ≡ s
  pub elsewhere : (d : ℕ) → d < most_channels → (d ≡ c → ⊥) → at w' FROM d ≡ at w FROM d
  pub last : at w' QUEUE n ≡ c
  pub earlier : (j : ℕ) → j < n → at w' QUEUE j ≡ at w QUEUE j

pub marked : {w u w' : List ℕ} {s c n : ℕ} → c < most_channels → Put w FROM c s u → Put u QUEUE n c w' → Marked w s c n w'
marked {c = c} l p q =
    record {
      below = unchanged_trans (put_below q 0 SCRATCH (omega arith)) (put_below p 0 SCRATCH (omega arith));
      here = put_other q FROM c (λ e. omega arith) ∙ p.here;
      elsewhere = λ d m h. put_other q FROM d (λ e. omega arith) ∙ put_other p FROM d (λ e. h (omega arith));
      last = q.here;
      earlier = λ j m. put_other q QUEUE j (λ e. omega arith) ∙ put_other p QUEUE j (λ e. omega arith);
    }

-- how many channels are not marked
unfoldable pub unmarked : Size → List ℕ → ℕ
unmarked z w = sum z.channels (λ c. same (at w FROM c) none)

module _ (z : Size) where
  unmarked_most : (w : List ℕ) → unmarked z w ≤ z.channels
  unfolding unmarked
  unmarked_most w = sum_at_most _ z.channels (λ c l. same_bit (at w FROM c) none)

  unmarked_some : (w : List ℕ) (c : ℕ) → c < z.channels → at w FROM c ≡ none → 1 ≤ unmarked z w
  unfolding unmarked
  unmarked_some w c l e = omega (arith, same_yes (at w FROM c) none e, sum_term (λ d. same (at w FROM d) none) z.channels c l)

  unmarked_less : {w w' : List ℕ} {s c n : ℕ} → Marked w s c n w' → z.channels ≤ most_channels → s < most_signals → c < z.channels → at w FROM c ≡ none
      → suc (unmarked z w') ≡ unmarked z w
  unfolding unmarked
  unmarked_less {w} {w'} {s} {c} m few ls lc e =
      let test : (List ℕ → ℕ → ℕ) = λ u d. same (at u FROM d) none in
      omega (
        arith,
        sum_ext (test w) (λ d. test w' d + same c d) z.channels (λ d l. split d l (ℕ_discrete d c)),
        sum_add (test w') (λ d. same c d) z.channels,
        sum_same c z.channels,
        under_yes c z.channels lc,
      )
    where
      split : (d : ℕ) → d < z.channels → Dec (d ≡ c) → same (at w FROM d) none ≡ same (at w' FROM d) none + same c d
      split d l (yes q) =
          omega
          (arith, same_yes (at w FROM d) none (rw q e), same_no (at w' FROM d) none (λ k. omega (arith, ap (λ (x : ℕ). at w' FROM x) q, m.here)), same_yes c d (sym q))
      split d l (no q) = rw (m.elsewhere d (omega arith) q) (omega (arith, same_no c d (λ k. q (sym k))))

-- The tree

-- What a search has reached so far: a tree of the first n channels of the queue, with room left for every channel not marked yet.
pub record Reached (z : Size) (root : ℕ) (v w : List ℕ) (n : ℕ) : Type 0 where
  pub frame : Unchanged 0 SCRATCH w v
  pub tree : Tree z root n v w
  pub room : n + unmarked z w ≤ z.channels

-- a number that is one of the first n of the queue, or none of them
pub in_queue : (w : List ℕ) (c n : ℕ) → ((j : ℕ) × (j < n) × (at w QUEUE j ≡ c)) ⊎ ((j : ℕ) → j < n → at w QUEUE j ≡ c → ⊥)
in_queue w c zero = inr (λ j l. absurd (not-suc-le-zero l))
in_queue w c (suc n) = pick (ℕ_discrete (at w QUEUE n) c) (in_queue w c n)
  where
    pick : Dec (at w QUEUE n ≡ c) → ((j : ℕ) × (j < n) × (at w QUEUE j ≡ c)) ⊎ ((j : ℕ) → j < n → at w QUEUE j ≡ c → ⊥)
        → ((j : ℕ) × (j < suc n) × (at w QUEUE j ≡ c)) ⊎ ((j : ℕ) → j < suc n → at w QUEUE j ≡ c → ⊥)
    pick (yes e) r = inl (n, omega arith, e)
    pick (no h) (inl r) = inl (r.0, omega arith, r.2)
    pick (no h) (inr r) = inr (λ j l. below_more (λ (i : ℕ). at w QUEUE i ≡ c → ⊥) n r h j (omega arith))

module _ {z : Size} {root : ℕ} {v : List ℕ} (b : Begun z root v) where
  -- what lies below scratch is as it was at the entry
  module _ {w : List ℕ} (f : Unchanged 0 SCRATCH w v) where
    list_now : (s c : ℕ) → s < z.signals → InList v s c → InList w s c
    list_now s c l i =
        same_in_list (unchanged_part 0 CHANNEL (omega arith) (omega arith) f) s c (omega (arith, b.input.limits.few_signals)) (end_most b.input b.lists s l) i

    pub list_entry : (s c : ℕ) → s < z.signals → InList w s c → InList v s c
    list_entry s c l i =
        let end : at w END s ≡ at v END s = unchanged_at f END s (omega arith) (omega (arith, b.input.limits.few_signals)) in
        same_in_list (unchanged_part 0 CHANNEL (omega arith) (omega arith) (unchanged_sym f)) s c (omega (arith, b.input.limits.few_signals)) (omega (arith, end_most b.input b.lists s l)) i

    pub signal_now : (c : ℕ) → c < z.channels → at w SIGNAL c ≡ at v SIGNAL c
    signal_now c l = unchanged_at f SIGNAL c (omega arith) (omega (arith, b.input.limits.few_channels))

    pub channel_now : (s : ℕ) → s < z.signals → at w CHANNEL s ≡ at v CHANNEL s
    channel_now s l = unchanged_at f CHANNEL s (omega arith) (omega (arith, b.input.limits.few_signals))

  pub reached_none : Reached z root v v 0
  reached_none =
      record {
        frame = unchanged_refl 0 SCRATCH v;
        tree = record { branch = nothing; fresh = λ j l. absurd (not-suc-le-zero l); others = λ c l h. refl };
        room = omega (arith, unmarked_most z v);
      }
    where
      nothing : Branch z root 0 v
      nothing =
          record {
            channel = λ j l. absurd (not-suc-le-zero l);
            distinct = λ i j m l. absurd (not-suc-le-zero l);
            from = λ j l. absurd (not-suc-le-zero l);
            live = λ j l. absurd (not-suc-le-zero l);
            parent = λ j l. absurd (not-suc-le-zero l);
          }

  module _ {w : List ℕ} {n : ℕ} (g : Reached z root v w n) where
    -- A channel is in the queue, or its mark is as it was.
    pub by_mark : {X : Type 0} (c : ℕ) → c < z.channels → ((j : ℕ) → j < n → at w QUEUE j ≡ c → X) → (at w FROM c ≡ at v FROM c → X) → X
    by_mark c l f k = ⊎_elim (λ r. f r.0 r.1 r.2) (λ h. k (g.tree.others c l h)) (in_queue w c n)

    pub marks_most : (c : ℕ) → c < z.channels → at w FROM c ≤ none
    marks_most c l =
        by_mark c l
        (λ j m e. omega (arith, ap (λ (x : ℕ). at w FROM x) e, g.tree.branch.from j m, b.input.limits.few_signals))
        (λ e. omega (arith, b.sealed.marks c l))

    pub marks_stay : (c : ℕ) → c < z.channels → at v FROM c < none → at w FROM c < none
    marks_stay c l m =
        by_mark c l
        (λ j k e. absurd (omega (arith, ap (λ (x : ℕ). at v FROM x) e, g.tree.fresh j k)))
        (λ e. omega arith)

    -- an unmarked channel is not in the queue, and there is room for it
    module _ (c : ℕ) (l : c < z.channels) (un : at w FROM c ≡ none) where
      not_queued : (j : ℕ) → j < n → at w QUEUE j ≡ c → ⊥
      not_queued j m e = omega (arith, ap (λ (x : ℕ). at w FROM x) e, g.tree.branch.from j m, b.input.limits.few_signals)

      pub room_left : n < most_channels
      room_left = omega (arith, unmarked_some z w c l un, g.room, b.input.limits.few_channels)

    -- Channel c, unmarked and in the list of s, is marked as reached from s.
    module _ {w' : List ℕ} {s c : ℕ} (l : s < z.signals) (listed : InList v s c) (un : at w FROM c ≡ none) (m : Marked w s c n w') where
      in_table : c < z.channels
      in_table = list_channel b.input b.lists s c l listed

      frame_more : Unchanged 0 SCRATCH w' v
      frame_more = unchanged_trans m.below g.frame

      from_old : (j : ℕ) → j < n → at w' FROM (at w' QUEUE j) ≡ at w FROM (at w QUEUE j)
      from_old j h =
          ap (λ (x : ℕ). at w' FROM x) (m.earlier j h)
          ∙ m.elsewhere (at w QUEUE j) (omega (arith, g.tree.branch.channel j h, b.input.limits.few_channels)) (not_queued c in_table un j h)

      from_new : at w' FROM (at w' QUEUE n) ≡ s
      from_new = ap (λ (x : ℕ). at w' FROM x) m.last ∙ m.here

      pub marks_grow : (d : ℕ) → d < z.channels → at w FROM d < none → at w' FROM d < none
      marks_grow d h q = pick (ℕ_discrete d c)
        where
          pick : Dec (d ≡ c) → at w' FROM d < none
          pick (yes e) = omega (arith, ap (λ (x : ℕ). at w' FROM x) e, m.here, b.input.limits.few_signals)
          pick (no e) = omega (arith, m.elsewhere d (omega (arith, b.input.limits.few_channels)) e)

      -- where s is the root or sits on a channel of the queue, c grows the tree
      module _ (p : (s ≡ root) ⊎ ((i : ℕ) × (i < n) × (at v CHANNEL s ≡ at w QUEUE i))) where
        branch_more : Branch z root (n + 1) w'
        branch_more =
            let t = g.tree.branch in
            record {
              channel = below_more (λ (j : ℕ). at w' QUEUE j < z.channels) n (λ j h. rw (m.earlier j h) (t.channel j h)) (rw m.last in_table);
              distinct = λ i j h k.
                  below_more (λ (x : ℕ). i < x → at w' QUEUE i ≡ at w' QUEUE x → ⊥) n
                  (λ x o q e. t.distinct i x q o (sym (m.earlier i (omega arith)) ∙ e ∙ m.earlier x o))
                  (λ q e. not_queued c in_table un i q (sym (m.earlier i q) ∙ e ∙ m.last)) j k h;
              from = below_more (λ (j : ℕ). at w' FROM (at w' QUEUE j) < z.signals) n (λ j h. rw (from_old j h) (t.from j h)) (rw from_new l);
              live =
                  below_more (λ (j : ℕ). InList w' (at w' FROM (at w' QUEUE j)) (at w' QUEUE j)) n
                  (λ j h. rw (from_old j h, m.earlier j h) (list_now frame_more _ _ (t.from j h) (list_entry g.frame _ _ (t.from j h) (t.live j h))))
                  (rw (from_new, m.last) (list_now frame_more s c l listed));
              parent =
                  below_more (λ (j : ℕ). (at w' FROM (at w' QUEUE j) ≡ root) ⊎ ((i : ℕ) × (i < j) × (at w' CHANNEL (at w' FROM (at w' QUEUE j)) ≡ at w' QUEUE i))) n
                  (λ j h.
                  let x : ℕ = at w FROM (at w QUEUE j) in
                  let still : at w' CHANNEL x ≡ at w CHANNEL x = channel_now frame_more x (t.from j h) ∙ sym (channel_now g.frame x (t.from j h)) in
                  rw (from_old j h) (⊎_elim inl (λ r. inr (r.0, r.1, still ∙ r.2 ∙ sym (m.earlier r.0 (omega (arith, r.1))))) (t.parent j h)))
                  (rw from_new (⊎_elim inl (λ r. inr (r.0, r.1, channel_now frame_more s l ∙ r.2 ∙ sym (m.earlier r.0 r.1))) p));
            }

        tree_more : Tree z root (n + 1) v w'
        tree_more =
            record {
              branch = branch_more;
              fresh =
                  below_more (λ (j : ℕ). at v FROM (at w' QUEUE j) ≡ none) n (λ j h. rw (m.earlier j h) (g.tree.fresh j h))
                  (rw m.last (sym (g.tree.others c in_table (not_queued c in_table un)) ∙ un));
              others = λ d h q.
                  m.elsewhere d (omega (arith, b.input.limits.few_channels)) (λ e. q n (omega arith) (m.last ∙ sym e))
                  ∙ g.tree.others d h (λ j k e. q j (omega arith) (m.earlier j k ∙ e));
            }

        pub reached_more : Reached z root v w' (n + 1)
        reached_more =
            record {
              frame = frame_more;
              tree = tree_more;
              room = omega (arith, unmarked_less z m b.input.limits.few_channels (omega (arith, b.input.limits.few_signals)) in_table un, g.room);
            }

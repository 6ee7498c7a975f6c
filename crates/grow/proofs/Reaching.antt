-- The loops of a search: what holds while signals are taken from the queue (Reaching) and while the list of one is scanned
-- (Scanning), and one law for each way through the two loops, beside the bounds that the code's accesses ask. v is the area at
-- the search's entry, w the present one. Leans on proofs/Tree.
use Prim.Native.Nat.{ℕ, zero, suc, ◌+◌, ◌≤◌, ◌<◌}
use mathlib.Core.Path.{◌≡◌, refl, ap, sym, ◌∙◌}
use mathlib.Core.Logic.{◌⊎◌, inl, inr}
use mathlib.Core.List.{List}
use native.Mathlib.Nat.{not-suc-le-zero, lt_of_not-le}
use native.Mathlib.Decide.{ℕ_discrete, dec_lt}
use native.Mathlib.Omega.{arith}
use borrow.Author.Count.{below_more}
use lib.ListN.{length}
use Rattle.units.specs.declared.Size.{Size}
use Rattle.units.specs.Limits.{most_signals, most_channels, most_pairs}
use Rattle.work.specs.Work.{at, none, START, END, LIVE, CHANNEL, SIGNAL, FROM, QUEUE, NUMBERS, Put}
use Rattle.work.specs.State.{InList, Done, Sealed}
use Rattle.work.proofs.Area.{unchanged_at}
use Rattle.work.proofs.State.{end_most, list_channel}
use Rattle.std.proofs.Common.{Some, None}
use Rattle.grow.specs.Inside.{Begun, SearchReady, Searched}
use Rattle.grow.proofs.Tree.{Marked, marked, Reached, reached_none, reached_more, list_entry, signal_now, channel_now, by_mark, marks_most, marks_stay, marks_grow, room_left}

-- What the list of signal s holds before position k is marked.
pub record Scanned (v w : List ℕ) (s k : ℕ) : Type 0 where
  pub each : (p : ℕ) → at v START s ≤ p → p < k → at w FROM (at v LIVE p) < none

-- What it holds at all is marked.
abbrev Whole : List ℕ → List ℕ → ℕ → Type 0
Whole v w s = Scanned v w s (at v END s)

-- `signal` is to be scanned: the root, or else the signal of the channel before `head` in the queue. The root and the signals of the
-- channels earlier than that are done, and no channel of the queue is free.
pub record Reaching (z : Size) (root : ℕ) (v w : List ℕ) (signal head tail : ℕ) : Type 0 where
  pub reached : Reached z root v w tail
  pub behind : head ≤ tail
  pub inside : signal < z.signals
  pub taken : (j : ℕ) → j < tail → at v SIGNAL (at w QUEUE j) < z.signals
  pub first : head ≡ 0 → signal ≡ root
  pub later : (j : ℕ) → suc j ≡ head → at v SIGNAL (at w QUEUE j) ≡ signal
  pub root_done : 1 ≤ head → Whole v w root
  pub done : (j : ℕ) → suc j < head → Whole v w (at v SIGNAL (at w QUEUE j))

-- Its list is scanned up to position k.
pub record Scanning (z : Size) (root : ℕ) (v w : List ℕ) (signal head tail k end : ℕ) : Type 0 where
  pub reaching : Reaching z root v w signal head tail
  pub from : at v START signal ≤ k
  pub within : k ≤ end
  pub end_is : end ≡ at v END signal
  pub scanned : Scanned v w signal k

-- Both hold for every size that fits the search's beginning: its loops read no size.
pub record ReachingFor (root : ℕ) (v w : List ℕ) (signal head tail : ℕ) : Type 0 where
  pub each : (z : Size) → Begun z root v → Reaching z root v w signal head tail

pub record ScanningFor (root : ℕ) (v w : List ℕ) (signal head tail k end : ℕ) : Type 0 where
  pub each : (z : Size) → Begun z root v → Scanning z root v w signal head tail k end

module _ {z : Size} {root : ℕ} {v : List ℕ} (b : Begun z root v) where
  in_list : (s p : ℕ) → at v START s ≤ p → p < at v END s → InList v s (at v LIVE p)
  in_list s p a e = record { position = p; from = a; below = e; is = refl }

  pub reaching_begins : Reaching z root v v root 0 0
  reaching_begins =
      record {
        reached = reached_none b;
        behind = omega arith;
        inside = b.root_signal;
        taken = λ j l. absurd (not-suc-le-zero l);
        first = λ e. refl;
        later = λ j e. absurd (omega arith);
        root_done = λ l. absurd (omega arith);
        done = λ j l. absurd (not-suc-le-zero l);
      }

  room_of : {w : List ℕ} {n : ℕ} → Reached z root v w n → NUMBERS ≤ length w
  room_of g = omega (arith, g.frame.size, b.input.room)

  few_of : {w : List ℕ} {n : ℕ} → Reached z root v w n → n ≤ most_channels
  few_of g = omega (arith, g.room, b.input.limits.few_channels)

  module _ {w : List ℕ} {signal head tail : ℕ} (r : Reaching z root v w signal head tail) where
    signal_few : signal < most_signals
    signal_few = omega (arith, r.inside, b.input.limits.few_signals)

    pub scanning_begins : {k end : ℕ} → k ≡ at w START signal → end ≡ at w END signal → Scanning z root v w signal head tail k end
    scanning_begins ek ee =
        let still-start : at w START signal ≡ at v START signal = unchanged_at r.reached.frame START signal (omega arith) (omega (arith, signal_few)) in
        let still-end : at w END signal ≡ at v END signal = unchanged_at r.reached.frame END signal (omega arith) (omega (arith, signal_few)) in
        record {
          reaching = r;
          from = omega arith;
          within = omega (arith, b.lists.order signal r.inside);
          end_is = ee ∙ still-end;
          scanned = record { each = λ p a l. absurd (omega arith) };
        }

    parent : (signal ≡ root) ⊎ ((i : ℕ) × (i < tail) × (at v CHANNEL signal ≡ at w QUEUE i))
    parent = go head refl
      where
        go : (h : ℕ) → h ≡ head → (signal ≡ root) ⊎ ((i : ℕ) × (i < tail) × (at v CHANNEL signal ≡ at w QUEUE i))
        go zero e = inl (r.first (sym e))
        go (suc i) e =
            let l : i < tail = omega (arith, r.behind) in
            inr (i, l, ap (λ (x : ℕ). at v CHANNEL x) (sym (r.later i e)) ∙ b.mates.forth (at w QUEUE i) (r.reached.tree.branch.channel i l) (r.taken i l))

  position_bounds : {w : List ℕ} {signal head tail k end : ℕ} → Scanning z root v w signal head tail k end → k < end → (NUMBERS ≤ length w) × (k < most_pairs)
  position_bounds {signal = signal} x l = (room_of x.reaching.reached, omega (arith, x.end_is, end_most b.input b.lists signal x.reaching.inside))

  -- a position of the list that is being scanned
  module _ {w : List ℕ} {signal head tail k end c : ℕ} (x : Scanning z root v w signal head tail k end) (l : k < end) (e : c ≡ at w LIVE k) where
    live_at : c ≡ at v LIVE k
    live_at = e ∙ unchanged_at x.reaching.reached.frame LIVE k (omega arith) (omega (arith, position_bounds x l))

    listed : InList v signal c
    listed = rw live_at (in_list signal k x.from (omega (arith, x.end_is)))

    channel_inside : c < z.channels
    channel_inside = list_channel b.input b.lists signal c x.reaching.inside listed

    channel_bounds : c < most_channels
    channel_bounds = omega (arith, channel_inside, b.input.limits.few_channels)

    scanned_more : {w' : List ℕ} → Scanned v w' signal k → at w' FROM c < none → Scanned v w' signal (k + 1)
    scanned_more {w'} s h =
        record {
          each = λ p a q.
              below_more (λ (p : ℕ). at v START signal ≤ p → at w' FROM (at v LIVE p) < none) k (λ p m a. s.each p a m) (λ a. rw (sym live_at) h) p q a;
        }

    pub scanning_seen : {y : ℕ} → y ≡ at w FROM c → (y ≡ none → ⊥) → Scanning z root v w signal head tail (k + 1) end
    scanning_seen ey h =
        record {
          reaching = x.reaching;
          from = omega (arith, x.from);
          within = omega arith;
          end_is = x.end_is;
          scanned = scanned_more x.scanned (omega (arith, marks_most b x.reaching.reached c channel_inside));
        }

    -- the channel was not marked, and now is
    module _ {u w' : List ℕ} (un : at w FROM c ≡ none) (p : Put w FROM c signal u) (q : Put u QUEUE tail c w') where
      mark : Marked w signal c tail w'
      mark = marked channel_bounds p q

      reached_now : Reached z root v w' (tail + 1)
      reached_now = reached_more b x.reaching.reached x.reaching.inside listed un mark (parent x.reaching)

      stay : (s n : ℕ) → s < z.signals → n ≤ at v END s → Scanned v w s n → Scanned v w' s n
      stay s n h m t =
          record {
            each = λ p a o.
                marks_grow b x.reaching.reached x.reaching.inside listed un mark (at v LIVE p)
                (list_channel b.input b.lists s (at v LIVE p) h (in_list s p a (omega arith)))
                (t.each p a o);
          }

      pub scanning_new : {y : ℕ} → y ≡ at w' SIGNAL c → (y ≡ none → ⊥) → Scanning z root v w' signal head (tail + 1) (k + 1) end
      scanning_new ey h =
          let r = x.reaching in
          let owner : at w' SIGNAL c ≡ at v SIGNAL c = signal_now b reached_now.frame c channel_inside in
          record {
            reaching =
                record {
                  reached = reached_now;
                  behind = omega (arith, r.behind);
                  inside = r.inside;
                  taken =
                      below_more (λ (j : ℕ). at v SIGNAL (at w' QUEUE j) < z.signals) tail (λ j o. rw (mark.earlier j o) (r.taken j o))
                      (rw mark.last (b.mates.taken c channel_inside (λ n. h (ey ∙ owner ∙ n))));
                  first = r.first;
                  later = λ j o. rw (mark.earlier j (omega (arith, r.behind))) (r.later j o);
                  root_done = λ o. stay root (at v END root) b.root_signal (omega arith) (r.root_done o);
                  done = λ j o.
                      let f : j < tail = omega (arith, r.behind) in
                      rw (mark.earlier j f) (stay _ _ (r.taken j f) (omega arith) (r.done j o));
                };
            from = omega (arith, x.from);
            within = omega arith;
            end_is = x.end_is;
            scanned =
                scanned_more (stay signal k r.inside (omega (arith, x.end_is)) x.scanned) (omega (arith, mark.here, r.inside, b.input.limits.few_signals));
          }

      pub search_found : {y : ℕ} → y ≡ at w' SIGNAL c → y ≡ none → Searched z root v w' (Some (tail + 1))
      unfolding Searched
      search_found ey h = (
        reached_now.frame,
        reached_now.tree,
        omega arith,
        few_of reached_now,
        λ j o. let f : j ≡ tail = omega arith in rw (f, mark.last) (sym ey ∙ h),
      )

  -- the whole list is scanned
  module _ {w : List ℕ} {signal head tail k end : ℕ} (x : Scanning z root v w signal head tail k end) (l : end ≤ k) where
    signal_whole : Whole v w signal
    signal_whole = record { each = λ p a o. x.scanned.each p a (omega (arith, x.end_is)) }

    root_whole : Whole v w root
    root_whole = pick (ℕ_discrete head 0)
      where
        pick : Dec (head ≡ 0) → Whole v w root
        pick (yes e) = rw (x.reaching.first e) at signal_whole
        pick (no e) = x.reaching.root_done (omega arith)

    queue_whole : (j : ℕ) → j < head → Whole v w (at v SIGNAL (at w QUEUE j))
    queue_whole j o = pick (dec_lt (suc j) head)
      where
        pick : Dec (suc j < head) → Whole v w (at v SIGNAL (at w QUEUE j))
        pick (yes h) = x.reaching.done j h
        pick (no h) = rw (x.reaching.later j (omega (arith, lt_of_not-le h))) signal_whole

    pub reaching_next : {c s : ℕ} → (head ≡ tail → ⊥) → c ≡ at w QUEUE head → s ≡ at w SIGNAL c → Reaching z root v w s (head + 1) tail
    reaching_next {c} {s} h ec es =
        let r = x.reaching in
        let more : head < tail = omega (arith, r.behind) in
        let next : at v SIGNAL (at w QUEUE head) ≡ s =
        sym (signal_now b r.reached.frame (at w QUEUE head) (r.reached.tree.branch.channel head more)) ∙ ap (λ (n : ℕ). at w SIGNAL n) (sym ec) ∙ sym es in
        record {
          reached = r.reached;
          behind = omega arith;
          inside = omega (arith, next, r.taken head more);
          taken = r.taken;
          first = λ e. absurd (omega arith);
          later = λ j e. let f : j ≡ head = omega arith in rw f next;
          root_done = λ o. root_whole;
          done = λ j o. queue_whole j (omega arith);
        }

    done_now : (s : ℕ) → s < z.signals → Whole v w s → Done w s
    done_now s h t =
        record {
          each = λ c i.
              let o = list_entry b x.reaching.reached.frame s c h i in
              omega (arith, ap (λ (n : ℕ). at w FROM n) o.is, t.each o.position o.from o.below);
        }

    done_still : (s : ℕ) → s < z.signals → Done v s → Done w s
    done_still s h d =
        record {
          each = λ c i.
              let o = list_entry b x.reaching.reached.frame s c h i in
              marks_stay b x.reaching.reached c (list_channel b.input b.lists s c h o) (d.each c o);
        }

    sealed_more : head ≡ tail → Sealed z (suc root) w
    sealed_more q =
        let g = x.reaching.reached in
        record {
          marks = marks_most b g;
          free = λ s h o f. free_done s h o f (ℕ_discrete s root);
          taken = λ c h m.
              rw (signal_now b g.frame c h)
              (by_mark b g c h (λ j o e. rw (sym e) (x.reaching.taken j o)) (λ e. b.sealed.taken c h (omega arith)));
          onward = λ c h m.
              rw (signal_now b g.frame c h)
              (by_mark b g c h
              (λ j o e. rw (sym e) (done_now _ (x.reaching.taken j o) (queue_whole j (omega arith))))
              (λ e. let old : at v FROM c < none = omega arith in done_still _ (b.sealed.taken c h old) (b.sealed.onward c h old)));
        }
      where
        free_done : (s : ℕ) → s < z.signals → s < suc root → at w CHANNEL s ≡ none → Dec (s ≡ root) → Done w s
        free_done s h o f (yes e) = rw e (done_now root b.root_signal root_whole)
        free_done s h o f (no e) =
            done_still s h (b.sealed.free s h (omega arith) (sym (channel_now b x.reaching.reached.frame s h) ∙ f))

    pub search_exhausted : head ≡ tail → Searched z root v w None
    unfolding Searched
    search_exhausted q = (x.reaching.reached.frame, sealed_more q)

-- What the inner loop's accesses ask, by the size that the area fits.
module _ {root : ℕ} {v w : List ℕ} {signal head tail k end : ℕ} (r : SearchReady root v)
    (x : ScanningFor root v w signal head tail k end) (l : k < end) where
  now : Scanning r.size root v w signal head tail k end
  now = x.each r.size r.begun

  pub read_bounds : (NUMBERS ≤ length w) × (k < most_pairs)
  read_bounds = position_bounds r.begun now l

  module _ {c : ℕ} (e : c ≡ at w LIVE k) where
    pub mark_bounds : c < most_channels
    mark_bounds = channel_bounds r.begun now l e

    pub new_bounds : at w FROM c ≡ none → (tail < most_channels) × (signal < most_signals)
    new_bounds un = (room_left r.begun now.reaching.reached c (channel_inside r.begun now l e) un, signal_few r.begun now.reaching)

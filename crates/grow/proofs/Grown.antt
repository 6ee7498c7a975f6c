-- Laws of growing a plan: a search that finds nothing (grown_nothing), one that finds a free channel (last_asks,
-- flip_asks, clear_asks, grown_placing), and the loop over the roots (growing_asks, growing_more, growing_left, growing_placed).
-- Leans on work's State, on Flips and on Tree.
use Prim.Native.Nat.{ℕ, suc, ◌+◌, ◌-◌, ◌≤◌, ◌<◌}
use mathlib.Core.Path.{◌≡◌, ap, sym, ◌∙◌}
use mathlib.Core.Bool.{Bool, true, false}
use mathlib.Core.Logic.{⊎_elim}
use mathlib.Core.List.{List}
use native.Mathlib.Decide.{ℕ_discrete}
use native.Mathlib.Numerals.{add-one}
use native.Mathlib.Omega.{arith}
use borrow.Author.Count.{below_more}
use lib.ListN.{length}
use Rattle.units.specs.declared.Size.{Size}
use Rattle.units.specs.Limits.{most_channels}
use Rattle.work.specs.Work.{at, none, CHANNEL, SIGNAL, SHUT_SIGNAL, SCRATCH, FROM, QUEUE, MIDDLE, Unchanged}
use Rattle.work.specs.Input.{Input}
use Rattle.work.specs.State.{InList, Lists, Mates, Along, Keeps, Done, Sealed}
use Rattle.work.proofs.Area.{unchanged_trans, unchanged_sym, unchanged_part, unchanged_at}
use Rattle.work.proofs.Input.{same_input}
use Rattle.work.proofs.State.{same_in_list, same_lists, same_sits, same_holds, same_mates, same_along, end_most, list_channel}
use Rattle.std.proofs.Common.{Option, Some, None, true≢false}
use Rattle.grow.specs.Inside.{Tree, Searched, SearchesFor, Path, FlipReady, Flipped, FlipsFor, ClearReady, Cleared, Rooted, RootReady, GrownFrom, GrowsFor}
use Rattle.grow.specs.Growing.{Grown, Everyone}
use Rattle.grow.proofs.Flips.{keeps_trans}
use Rattle.grow.proofs.Tree.{in_queue}

keeps_refl : (z : Size) (w : List ℕ) → Keeps z w w
keeps_refl z w = record { placed = λ s m x. x; taken = λ c m x. x }

keeps_same : {z : Size} {v w : List ℕ} → Input z v → Unchanged CHANNEL SHUT_SIGNAL w v → Keeps z v w
keeps_same n h = record { placed = λ s m x. rw (same_sits n h s m) x; taken = λ c m x. rw (same_holds n h c m) x }

-- A signal stays done where its list stays and no mark of the table's channels changes.
same_done : {z : Size} {v w : List ℕ} → Input z v → Lists z v → Unchanged 0 CHANNEL w v → ((c : ℕ) → c < z.channels → at w FROM c ≡ at v FROM c)
    → (s : ℕ) → s < z.signals → Done v s → Done w s
same_done {z} {v} {w} n l h marks s m d = record { each = each }
  where
    each : (c : ℕ) → InList w s c → at w FROM c < none
    each c i =
        let l' : Lists z w = same_lists n l h in
        let n' : Input z w = same_input (unchanged_part 0 MIDDLE (omega arith) (omega arith) h) n in
        let j : InList v s c = same_in_list (unchanged_sym h) s c (omega (arith, n.limits.few_signals)) (end_most n' l' s m) i in
        rw (marks c (list_channel n l s c m j)) (d.each c j)

-- One root: v is the area before the search, w after it, x after the flip, y after the clearing.

module _ {z : Size} {root : ℕ} {v : List ℕ} (b : Rooted z root v) where
  input : Input z v
  input = b.begun.input

  lists : Lists z v
  lists = b.begun.lists

  mated : Mates z v
  mated = b.begun.mates

  sealed : Sealed z root v
  sealed = b.begun.sealed

  pub grown_nothing : {w : List ℕ} {f : Option ℕ} → SearchesFor root v w f → f ≡ None → Grown z (root + 1) v w
  unfolding Searched
  grown_nothing {w} found e =
      let parts : Unchanged 0 SCRATCH w v × Sealed z (suc root) w = rw e at (found.each z b.begun) in
      let mates : Unchanged CHANNEL SHUT_SIGNAL w v = unchanged_part _ _ (omega arith) (omega arith) parts.0 in
      record {
        below = unchanged_part _ _ (omega arith) (omega arith) parts.0;
        shut = unchanged_part _ _ (omega arith) (omega arith) parts.0;
        mates = same_mates input mates mated;
        along = same_along input lists (unchanged_part _ _ (omega arith) (omega arith) parts.0) b.along;
        keeps = keeps_same input mates;
        sealed = rw add-one parts.1;
      }

  -- what reading the last of the queue asks
  pub last_asks : {w : List ℕ} {f : Option ℕ} {k : ℕ} → SearchesFor root v w f → f ≡ Some k → (1 ≤ k) × (QUEUE + (k - 1) < length w)
  unfolding Searched
  last_asks {w} {k = k} found e =
      let parts : Searched z root v w (Some k) = rw e at (found.each z b.begun) in
      (parts.2, omega (arith, input.room, parts.0.size, parts.3))

  module _ {w : List ℕ} {f : Option ℕ} {k : ℕ} (found : SearchesFor root v w f) (e : f ≡ Some k) where
    parts : Unchanged 0 SCRATCH w v × Tree z root k v w × (1 ≤ k) × (k ≤ most_channels) × ((j : ℕ) → suc j ≡ k → at w SIGNAL (at w QUEUE j) ≡ none)
    unfolding Searched
    parts = rw e at (found.each z b.begun)

    frame : (i j : ℕ) → j ≤ SCRATCH → Unchanged i j w v
    frame i j h = unchanged_part i j (omega arith) h parts.0

    searched_input : Input z w
    searched_input = same_input (frame 0 MIDDLE (omega arith)) input

    searched_mates : Mates z w
    searched_mates = same_mates input (frame CHANNEL SHUT_SIGNAL (omega arith)) mated

    searched_lists : Lists z w
    searched_lists = same_lists input lists (frame 0 CHANNEL (omega arith))

    module _ {c : ℕ} (last : c ≡ at w QUEUE (k - 1)) where
      path : Path z root c k w
      path =
          record {
            root_signal = b.begun.root_signal;
            root_free = same_sits input (frame CHANNEL SHUT_SIGNAL (omega arith)) root b.begun.root_signal ∙ b.free;
            position = k - 1;
            inside = omega (arith, parts.2);
            is = sym last;
            empty = λ s h i. omega (arith, input.limits.few_signals, ap (at w SIGNAL) i, searched_mates.back s h (omega (arith, channel)), hollow);
            apart = record {
              placed = searched_mates.placed;
              back = searched_mates.back;
              taken = λ d h o. searched_mates.taken d h;
              forth = λ d h o. searched_mates.forth d h;
              along = same_along input lists (frame 0 SHUT_SIGNAL (omega arith)) b.along;
            };
            branch = rw whole parts.1.branch;
          }
        where
          whole : suc (k - 1) ≡ k
          whole = omega (arith, parts.2)

          channel : c < z.channels
          channel = rw last (parts.1.branch.channel (k - 1) (omega (arith, parts.2)))

          hollow : at w SIGNAL c ≡ none
          hollow = rw last (parts.4 (k - 1) whole)

      -- what the flip asks
      pub flip_asks : FlipReady root c k w
      flip_asks = record { size = z; input = searched_input; lists = searched_lists; path = path; short = parts.3 }

      module _ {x : List ℕ} (flips : FlipsFor root c k w x) where
        flipped : Flipped z root k w x
        flipped = flips.each z searched_input searched_lists path

        flipped_input : Input z x
        flipped_input = same_input (unchanged_part 0 MIDDLE (omega arith) (omega arith) flipped.below) searched_input

        queue : (j : ℕ) → j < k → at x QUEUE j ≡ at w QUEUE j
        queue j h = unchanged_at flipped.above QUEUE j (omega arith) (omega (arith, parts.3))

        -- what the clearing asks
        pub clear_asks : ClearReady k x
        clear_asks = record { room = flipped_input.room; few = parts.3; channel = λ j h. omega (arith, queue j h, parts.1.branch.channel j h, input.limits.few_channels) }

        module _ {y : List ℕ} (cleared : Cleared k x y) where
          below : Unchanged 0 CHANNEL y v
          below = unchanged_trans (unchanged_part _ _ (omega arith) (omega arith) cleared.below) (unchanged_trans flipped.below (frame 0 CHANNEL (omega arith)))

          mates : Unchanged CHANNEL SHUT_SIGNAL y x
          mates = unchanged_part _ _ (omega arith) (omega arith) cleared.below

          keeps : Keeps z v y
          keeps = keeps_trans (keeps_same input (frame CHANNEL SHUT_SIGNAL (omega arith))) (keeps_trans flipped.keeps (keeps_same flipped_input mates))

          -- Every mark is as it was before the search.
          marks : (c : ℕ) → c < z.channels → at y FROM c ≡ at v FROM c
          marks c h = ⊎_elim (λ r. inside r.0 r.1 r.2) outside (in_queue w c k)
            where
              inside : (j : ℕ) → j < k → at w QUEUE j ≡ c → at y FROM c ≡ at v FROM c
              inside j i q =
                  ap (at y FROM) (sym (queue j i ∙ q)) ∙ cleared.gone j i ∙ sym (parts.1.fresh j i) ∙ ap (at v FROM) q

              outside : ((j : ℕ) → j < k → at w QUEUE j ≡ c → ⊥) → at y FROM c ≡ at v FROM c
              outside o =
                  cleared.others c (omega (arith, input.limits.few_channels)) (λ j i q. o j i (sym (queue j i) ∙ q))
                  ∙ unchanged_at flipped.above FROM c (omega arith) (omega (arith, input.limits.few_channels))
                  ∙ parts.1.others c h o

          -- A channel that was marked before the search was not flipped.
          holds : (c : ℕ) → c < z.channels → at v FROM c < none → at y SIGNAL c ≡ at v SIGNAL c
          holds c h i =
              same_holds flipped_input mates c h
              ∙ flipped.untouched c h (λ j q r. omega (arith, parts.1.fresh j q, ap (at v FROM) r))
              ∙ same_holds input (frame CHANNEL SHUT_SIGNAL (omega arith)) c h

          still_sealed : Sealed z (root + 1) y
          still_sealed =
              record {
                marks = λ c h. rw (marks c h) (sealed.marks c h);
                free = λ s h r i. same_done input lists below marks s h (sealed.free s h (earlier s h r i (ℕ_discrete s root)) (was_free s h i (ℕ_discrete (at v CHANNEL s) none)));
                taken = λ c h i. keeps.taken c h (sealed.taken c h (omega (arith, marks c h)));
                onward = λ c h i.
                    let j : at v FROM c < none = omega (arith, marks c h) in
                    rw (holds c h j) (same_done input lists below marks (at v SIGNAL c) (sealed.taken c h j) (sealed.onward c h j));
              }
            where
              earlier : (s : ℕ) → s < z.signals → s < root + 1 → at y CHANNEL s ≡ none → Dec (s ≡ root) → s < root
              earlier s h r i (yes q) =
                  absurd (omega (arith, input.limits.few_channels, flipped.root_placed, ap (at x CHANNEL) q, same_sits flipped_input mates s h))
              earlier s h r i (no q) = omega arith

              was_free : (s : ℕ) → s < z.signals → at y CHANNEL s ≡ none → Dec (at v CHANNEL s ≡ none) → at v CHANNEL s ≡ none
              was_free s h i (yes q) = q
              was_free s h i (no q) = absurd (omega (arith, input.limits.few_channels, keeps.placed s h (mated.placed s h q)))

          grown_free : Grown z (root + 1) v y
          grown_free =
              record {
                below = below;
                shut = unchanged_trans (unchanged_part _ _ (omega arith) (omega arith) cleared.below)
                    (unchanged_trans (unchanged_part _ _ (omega arith) (omega arith) flipped.above) (frame SHUT_SIGNAL SCRATCH (omega arith)));
                mates = same_mates flipped_input mates flipped.mates;
                along = same_along flipped_input (same_lists searched_input searched_lists flipped.below)
                    (unchanged_part _ _ (omega arith) (omega arith) cleared.below) flipped.along;
                keeps = keeps;
                sealed = still_sealed;
              }

          pub grown_placing : {r : Bool} → GrownFrom z root v y r
          grown_placing = record { grown = grown_free; placed = λ e. rw (same_sits flipped_input mates root b.begun.root_signal) flipped.root_placed }

-- All roots

module _ {z : Size} {root : ℕ} {v w : List ℕ} (g : Grown z root v w) where
  -- what growing from a free signal asks
  grown_asks : Input z v → Lists z v → root < z.signals → at w CHANNEL root ≡ none
      → Rooted z root w
  grown_asks n l h free =
      record {
        begun =
            record {
              input = same_input (unchanged_part 0 MIDDLE (omega arith) (omega arith) g.below) n;
              lists = same_lists n l g.below;
              mates = g.mates;
              sealed = g.sealed;
              root_signal = h;
            };
        along = g.along;
        free = free;
      }

  grown_more : {r : ℕ} {x : List ℕ} → Grown z r w x → Grown z r v x
  grown_more h =
      record {
        below = unchanged_trans h.below g.below;
        shut = unchanged_trans h.shut g.shut;
        mates = h.mates;
        along = h.along;
        keeps = keeps_trans g.keeps h.keeps;
        sealed = h.sealed;
      }

  -- a root that is placed needs no search
  grown_placed : (at w CHANNEL root ≡ none → ⊥) → Grown z (root + 1) v w
  grown_placed o =
      record {
        below = g.below;
        shut = g.shut;
        mates = g.mates;
        along = g.along;
        keeps = g.keeps;
        sealed =
            record {
              marks = g.sealed.marks;
              free = λ s h r i. g.sealed.free s h (earlier s r i (ℕ_discrete s root)) i;
              taken = g.sealed.taken;
              onward = g.sealed.onward;
            };
      }
    where
      earlier : (s : ℕ) → s < root + 1 → at w CHANNEL s ≡ none → Dec (s ≡ root) → s < root
      earlier s r i (yes q) = absurd (o (ap (at w CHANNEL) (sym q) ∙ i))
      earlier s r i (no q) = omega arith

-- Whether everyone is placed

everyone_more : {z : Size} {root : ℕ} {w x : List ℕ} → root < z.signals → Keeps z w x → Everyone z root w → at x CHANNEL root < z.channels
    → Everyone z (root + 1) x
everyone_more {root = root} l k all here = record { placed = below_more _ root (λ s m. k.placed s (omega arith) (all.placed s m)) here }

-- The loop over the roots

-- What it begins with,
pub record Growable (z : Size) (v : List ℕ) : Type 0 where
  pub input : Input z v
  pub lists : Lists z v
  pub mates : Mates z v
  pub along : Along z v
  pub sealed : Sealed z 0 v

-- and what holds before each root.
pub record GrownSoFar (z : Size) (root : ℕ) (unplaced : Bool) (v w : List ℕ) : Type 0 where
  pub grown : Grown z root v w
  pub everyone : unplaced ≡ false → Everyone z root w

module _ {z : Size} {root : ℕ} {unplaced : Bool} {v w : List ℕ} (b : Growable z v) (g : GrownSoFar z root unplaced v w) where
  module _ (l : root < z.signals) where
    -- a free root: what growing from it asks, and what comes of it
    module _ (free : at w CHANNEL root ≡ none) where
      rooted : Rooted z root w
      rooted = grown_asks g.grown b.input b.lists l free

      pub growing_asks : RootReady root w
      growing_asks = record { size = z; rooted = rooted }

      pub growing_more : {r : Bool} {x : List ℕ} → GrowsFor root w x r → r ≡ true → GrownSoFar z (root + 1) unplaced v x
      growing_more h here =
          let from = h.each z rooted in
          record {
            grown = grown_more g.grown from.grown;
            everyone = λ e. everyone_more l from.grown.keeps (g.everyone e) (from.placed here);
          }

      pub growing_left : {r : Bool} {x : List ℕ} → GrowsFor root w x r → GrownSoFar z (root + 1) true v x
      growing_left h = record { grown = grown_more g.grown (h.each z rooted).grown; everyone = λ e. absurd (true≢false e) }

    -- a placed one
    pub growing_placed : (at w CHANNEL root ≡ none → ⊥) → GrownSoFar z (root + 1) unplaced v w
    growing_placed o =
        record {
          grown = grown_placed g.grown o;
          everyone = λ e. everyone_more l (keeps_refl z w) (g.everyone e) (g.grown.mates.placed root l o);
        }

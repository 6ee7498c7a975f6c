-- One turn of the rank loop: what the area is between two ranks (After), and that entering, growing and striking carry it on.
-- The promises about the table are kept for every rank function that the area lists where the loop begins.
-- Leans on Standing and the files that carry it on.
use Prim.Native.Nat.{ℕ, suc, ◌+◌, ◌≤◌, ◌<◌}
use mathlib.Core.Path.{◌≡◌, ◌∙◌}
use mathlib.Core.List.{List}
use native.Mathlib.Nat.{not-suc-le-zero}
use native.Mathlib.Omega.{arith}
use Rattle.units.specs.declared.Size.{Size}
use Rattle.work.specs.Work.{at, END, CHANNEL, FROM, MIDDLE, Unchanged}
use Rattle.work.specs.Input.{Input}
use Rattle.work.specs.State.{InList, Lists, Mates, Along, Sealed, Unmarked}
use Rattle.work.specs.Ranks.{Ranks}
use Rattle.work.proofs.Area.{unchanged_at, unchanged_refl, unchanged_trans, unchanged_part}
use Rattle.work.proofs.Input.{same_input, same_start}
use Rattle.work.proofs.State.{same_lists, same_mates}
use Rattle.work.proofs.Ranks.{same_ranks}
use Rattle.enter.specs.Entering.{Room, Prepared, Entered, Quiet}
use Rattle.enter.proofs.Waiting.{same_waiting}
use Rattle.grow.specs.Growing.{Grown, Everyone}
use Rattle.strike.specs.Striking.{Struck}
use Rattle.placer.specs.Placing.{Placed, PlacedFrom}
use Rattle.placer.proofs.Standing.{Standing, Covering, no_covers, standing_prepared}
use Rattle.placer.proofs.StandingStruck.{next, standing_struck, lists_struck, room_struck, along_struck}
use Rattle.placer.proofs.StandingEntered.{entered_mates_region, standing_entered}
use Rattle.placer.proofs.StandingGrown.{standing_grown}
use Rattle.placer.proofs.StandingQuiet.{standing_quiet}
use Rattle.placer.proofs.PlacedAtEnd.{placed_of_all, placed_of_standing}

pub sealed_none : {z : Size} {w : List ℕ} → Unmarked z w → Sealed z 0 w
sealed_none u =
    record {
      marks = λ c l. omega (arith, u.each c l);
      free = λ s l k. absurd (not-suc-le-zero k);
      taken = λ c l k. absurd (omega (arith, u.each c l));
      onward = λ c l k. absurd (omega (arith, u.each c l));
    }

-- Between two ranks: i are done. v is the area where the loop began.
pub record After (z : Size) (i : ℕ) (v w : List ℕ) : Type 0 where
  pub input : Unchanged 0 MIDDLE w v
  pub lists : Lists z w
  pub room : Room z (suc i) w
  pub mates : Mates z w
  pub along : Along z w
  pub unmarked : Unmarked z w
  pub covering : (rank : ℕ → ℕ → ℕ) → Ranks z rank v → Covering z rank i w

pub after_prepared : (z : Size) (u v : List ℕ) → Input z u → Prepared z u v → Room z 1 v → After z 0 v v
after_prepared z u v n p r =
    let S : Standing z (λ s c. 0) no_covers 0 0 v = standing_prepared z (λ s c. 0) u v n p in
    record {
      input = unchanged_refl 0 MIDDLE v;
      lists = S.lists;
      room = r;
      mates = S.mates;
      along = S.along;
      unmarked = record { each = p.unmarked };
      covering = λ rank h. record { covers = no_covers; standing = standing_prepared z rank u v n p };
    }

-- What entering needs, and leaves for growing.
module _ {z : Size} {i : ℕ} {v w x : List ℕ} (n : Input z v) (A : After z i v w) (E : Entered z (suc i) w x) where
  now : Input z w
  now = same_input A.input n

  pub entered_input : Input z x
  entered_input = same_input E.input now

  pub entered_mates : Mates z x
  entered_mates = same_mates now (entered_mates_region E) A.mates

  pub entered_along : Along z x
  entered_along =
      record {
        live = λ s l k.
            let e : at x CHANNEL s ≡ at w CHANNEL s = unchanged_at (entered_mates_region E) CHANNEL s (omega arith) (omega (arith, n.limits.few_signals)) in
            rw e (E.keeps s (at w CHANNEL s) l (A.along.live s l (omega arith)));
      }

  entered_unmarked : Unmarked z x
  entered_unmarked = record { each = λ c l. unchanged_at E.rest FROM c (omega arith) (omega (arith, n.limits.few_channels)) ∙ A.unmarked.each c l }

  pub entered_sealed : Sealed z 0 x
  entered_sealed = sealed_none entered_unmarked

  -- the pairs of the rank are in the lists, and the covers are still those of the ranks before
  entering : (rank : ℕ → ℕ → ℕ) → Ranks z rank v → i < z.ranks → (C : Covering z rank i w) → Standing z rank C.covers (suc i) i x
  entering rank h inside C = standing_entered z rank C.covers i w x now (same_ranks n A.input h) inside C.standing E

  table_entered : Unchanged 0 MIDDLE x v
  table_entered = unchanged_trans E.input A.input

  -- A rank at which no pair entered is done.
  pub after_quiet : ((s c : ℕ) → s < z.signals → InList x s c → InList w s c) → i < z.ranks → After z (suc i) v x
  after_quiet none_new inside =
      record {
        input = table_entered;
        lists = E.lists;
        room = E.room;
        mates = entered_mates;
        along = entered_along;
        unmarked = entered_unmarked;
        covering = λ rank h.
            let C : Covering z rank i w = A.covering rank h in
            standing_quiet z rank C.covers i x entered_input (same_ranks n table_entered h) (entering rank h inside C)
            (λ s c l q. C.standing.entered s c l (none_new s c l q));
      }

  module _ {y : List ℕ} (G : Grown z z.signals x y) where
    table_part : Unchanged 0 MIDDLE y x
    table_part = unchanged_part 0 MIDDLE (omega arith) (omega arith) G.below

    pub grown_input : Input z y
    grown_input = same_input table_part entered_input

    pub grown_lists : Lists z y
    grown_lists = same_lists entered_input E.lists G.below

    grown_room : Room z (suc (suc i)) y
    grown_room =
        record {
          enough = λ s l.
              rw (
                same_start table_part (suc s) (omega (arith, n.limits.few_signals)),
                same_waiting table_part z n.limits.few_pairs (suc (suc i)) s,
                unchanged_at G.below END s (omega arith) (omega (arith, n.limits.few_signals)),
              )
              (E.room.enough s l);
        }

    growing : (rank : ℕ → ℕ → ℕ) → Ranks z rank v → i < z.ranks → (C : Covering z rank i w) → Standing z rank C.covers (suc i) i y
    growing rank h inside C = standing_grown z rank C.covers (suc i) i z.signals x y entered_input (entering rank h inside C) G

    table_grown : Unchanged 0 MIDDLE y v
    table_grown = unchanged_trans table_part table_entered

    -- Where every signal is placed the further ranks change nothing: the plan is placed.
    pub placed_early : ((s : ℕ) → s < z.signals → at y CHANNEL s < z.channels) → i < z.ranks
        → (rank : ℕ → ℕ → ℕ) → Ranks z rank v → Placed z rank y
    placed_early everyone inside rank h =
        let C : Covering z rank i w = A.covering rank h in
        placed_of_all z rank C.covers i y grown_input (same_ranks n table_grown h) inside (growing rank h inside C) everyone

    -- One more rank is done.
    pub after_more : {t : List ℕ} → Struck z y t → i < z.ranks → After z (suc i) v t
    after_more {t} X inside =
        record {
          input = unchanged_trans X.input table_grown;
          lists = lists_struck grown_input X grown_lists;
          room = room_struck grown_input X (suc (suc i)) grown_room;
          mates = same_mates grown_input X.mates G.mates;
          along = along_struck grown_input X G.along;
          unmarked = record { each = X.cleared };
          covering = λ rank h.
              let C : Covering z rank i w = A.covering rank h in
              record {
                covers = next z rank C.covers i y grown_input (growing rank h inside C) G.sealed;
                standing = standing_struck z rank C.covers i y grown_input (growing rank h inside C) G.sealed t X;
              };
        }

-- After the last rank the plan is placed, with its covers.
pub placed_after : (z : Size) (v w : List ℕ) → Input z v → After z z.ranks v w → (rank : ℕ → ℕ → ℕ) → Ranks z rank v → Placed z rank w
placed_after z v w n A rank r =
    let C : Covering z rank z.ranks w = A.covering rank r in
    placed_of_standing z rank C.covers w (same_input A.input n) (same_ranks n A.input r) C.standing

-- In the code's own terms: the ranks before `rank` are done, and the table lies in the area where the loop began.
pub record Before (z : Size) (rank : ℕ) (v w : List ℕ) : Type 0 where
  pub input : Input z v
  pub done : ℕ
  pub is : rank ≡ suc done
  pub most : done ≤ z.ranks
  pub after : After z done v w

module _ {z : Size} {rank : ℕ} {v w : List ℕ} (B : Before z rank v w) where
  more : {x : List ℕ} → rank ≤ z.ranks → After z (suc B.done) v x → Before z (rank + 1) v x
  more inside A = record { input = B.input; done = suc B.done; is = omega (arith, B.is); most = omega (arith, B.is); after = A }

  pub enter_asks : rank ≤ z.ranks → Input z w × Lists z w × Room z rank w × (1 ≤ rank) × (rank ≤ z.ranks)
  enter_asks inside = (same_input B.after.input B.input, B.after.lists, rw B.is B.after.room, omega (arith, B.is), inside)

  module _ {x : List ℕ} (E : Entered z rank w x) where
    entered : Entered z (suc B.done) w x
    entered = rw B.is at E

    pub grow_asks : Input z x × Lists z x × Mates z x × Along z x × Sealed z 0 x
    grow_asks =
        let A = B.after in
        (entered_input B.input A entered, E.lists, entered_mates B.input A entered, entered_along B.input A entered, entered_sealed B.input A entered)

    pub turn_quiet : rank ≤ z.ranks → Quiet z w x → Before z (rank + 1) v x
    turn_quiet inside q = more inside (after_quiet B.input B.after entered q.none_new (omega (arith, B.is)))

    module _ {y : List ℕ} (G : Grown z z.signals x y) where
      pub strike_asks : Input z y × Lists z y × Mates z y
      strike_asks = (grown_input B.input B.after entered G, grown_lists B.input B.after entered G, G.mates)

      pub turn_struck : {t : List ℕ} → rank ≤ z.ranks → Struck z y t → Before z (rank + 1) v t
      turn_struck inside X = more inside (after_more B.input B.after entered G X (omega (arith, B.is)))

      pub turn_everyone : {u : List ℕ} → Input z u → Prepared z u v → rank ≤ z.ranks → Everyone z z.signals y → PlacedFrom z u y
      turn_everyone m p inside all =
          record {
            table = unchanged_trans (table_grown B.input B.after entered G) p.input;
            mates = G.mates;
            placed = λ r h. placed_early B.input B.after entered G all.placed (omega (arith, B.is)) r (same_ranks m p.input h);
          }

-- all ranks are done
pub turned : {z : Size} {rank : ℕ} {u v w : List ℕ} → Input z u → Prepared z u v → Before z rank v w → z.ranks + 1 ≤ rank → PlacedFrom z u w
turned {z} {u = u} {v} {w} m p B all =
    let last : B.done ≡ z.ranks = omega (arith, B.is, B.most) in
    record {
      table = unchanged_trans B.after.input p.input;
      mates = B.after.mates;
      placed = λ r h. placed_after z v w B.input (rw last at B.after) r (same_ranks m p.input h);
    }

-- Lists and mates are carried over where their regions stay (same_in_list, same_lists, same_mates, same_along), and a list holds
-- channels of the table (list_channel). Leans on proofs/Area and proofs/Input.
use Prim.Native.Nat.{ℕ, suc, ◌≤◌, ◌<◌}
use mathlib.Core.Path.{◌≡◌, ◌∙◌}
use mathlib.Core.List.{List}
use native.Mathlib.Omega.{arith}
use Rattle.units.specs.declared.Size.{Size}
use Rattle.work.specs.Work.{at, START, END, LIVE, CHANNEL, SIGNAL, SHUT_SIGNAL, MIDDLE, Unchanged}
use Rattle.work.specs.Input.{Input}
use Rattle.work.specs.State.{InList, Lists, Mates, Along}
use Rattle.work.proofs.Area.{unchanged_sym, unchanged_part, unchanged_at}
use Rattle.work.proofs.Input.{same_start, same_listed, start_most}

-- Lists are the same where everything below the mates is.
pub same_in_list : {v w : List ℕ} → Unchanged 0 CHANNEL w v → (s c : ℕ) → s < 200 → at v END s ≤ 3000 → InList v s c → InList w s c
same_in_list h s c l few i =
    record {
      position = i.position;
      from = rw (unchanged_at h START s (omega arith) (omega arith)) i.from;
      below = rw (unchanged_at h END s (omega arith) (omega arith)) i.below;
      is = unchanged_at h LIVE i.position (omega arith) (omega (arith, i.below)) ∙ i.is;
    }

pub end_most : {z : Size} {w : List ℕ} → Input z w → Lists z w → (s : ℕ) → s < z.signals → at w END s ≤ 3000
end_most n l s h = omega (arith, l.inside s h, start_most n (suc s) h, n.limits.few_pairs)

-- a channel of a list is one of the table's
pub list_channel : {z : Size} {w : List ℕ} → Input z w → Lists z w → (s c : ℕ) → s < z.signals → InList w s c → c < z.channels
list_channel n l s c h i = let b = l.backed s c h i in omega (arith, n.channel b.entry b.inside, b.channel)

-- Lists stay lists where everything below the mates stays.
pub same_lists : {z : Size} {v w : List ℕ} → Input z v → Lists z v → Unchanged 0 CHANNEL w v → Lists z w
same_lists {z} {v} {w} n l h =
    record {
      order = λ s m. rw (start s (omega (arith, n.limits.few_signals)), end s m) (l.order s m);
      inside = λ s m. rw (start (suc s) (omega (arith, n.limits.few_signals)), end s m) (l.inside s m);
      backed = λ s c m i. same_listed table n.limits.few_pairs (l.backed s c m (same_in_list (unchanged_sym h) s c (omega (arith, n.limits.few_signals)) (omega (arith, end s m, end_most n l s m)) i));
    }
  where
    table : Unchanged 0 MIDDLE w v
    table = unchanged_part 0 MIDDLE (omega arith) (omega arith) h

    start : (s : ℕ) → s ≤ 200 → at w START s ≡ at v START s
    start s m = same_start table s m

    end : (s : ℕ) → s < z.signals → at w END s ≡ at v END s
    end s m = unchanged_at h END s (omega arith) (omega (arith, n.limits.few_signals))

-- Mates, and their lists, stay where their regions stay.
module _ {z : Size} {v w : List ℕ} (n : Input z v) (h : Unchanged CHANNEL SHUT_SIGNAL w v) where
  pub same_sits : (s : ℕ) → s < z.signals → at w CHANNEL s ≡ at v CHANNEL s
  same_sits s m = unchanged_at h CHANNEL s (omega arith) (omega (arith, n.limits.few_signals))

  pub same_holds : (c : ℕ) → c < z.channels → at w SIGNAL c ≡ at v SIGNAL c
  same_holds c m = unchanged_at h SIGNAL c (omega arith) (omega (arith, n.limits.few_channels))

  pub same_mates : Mates z v → Mates z w
  same_mates a =
      record {
        placed = λ s m x. rw (same_sits s m) (a.placed s m (λ e. x (same_sits s m ∙ e)));
        back = λ s m x.
            let y : at v CHANNEL s < z.channels = omega (arith, same_sits s m) in
            rw (same_sits s m) (same_holds (at v CHANNEL s) y ∙ a.back s m y);
        taken = λ c m x. rw (same_holds c m) (a.taken c m (λ e. x (same_holds c m ∙ e)));
        forth = λ c m x.
            let y : at v SIGNAL c < z.signals = omega (arith, same_holds c m) in
            rw (same_holds c m) (same_sits (at v SIGNAL c) y ∙ a.forth c m y);
      }

pub same_along : {z : Size} {v w : List ℕ} → Input z v → Lists z v → Unchanged 0 SHUT_SIGNAL w v → Along z v → Along z w
same_along {z} {v} {w} n l h a = record { live = live }
  where
    live : (s : ℕ) → s < z.signals → at w CHANNEL s < z.channels → InList w s (at w CHANNEL s)
    live s m x =
        let e : at w CHANNEL s ≡ at v CHANNEL s = same_sits n (unchanged_part CHANNEL SHUT_SIGNAL (omega arith) (omega arith) h) s m in
        rw e (same_in_list (unchanged_part 0 CHANNEL (omega arith) (omega arith) h) s (at v CHANNEL s) (omega (arith, n.limits.few_signals)) (end_most n l s m) (a.live s m (omega (arith, e))))

-- A failed search gives the next cover. Main results: the cover covers every live pair (closed_covers), so that with it the
-- certificate and the tight plan reach one rank further (certificate_extends, tight_extends); and a plan stays tight when signals
-- are only added (tight_keeps). stands_before and stands_after say what an added cover does to a pair. Leans on Counting.
use Prim.Native.Nat.{ℕ, suc, ◌+◌, ◌*◌, ◌≤◌, ◌<◌}
use mathlib.Core.Path.{◌≡◌, refl, ap, ap₂}
use mathlib.Core.Logic.{◌↔◌}
use native.Mathlib.Nat.{lt_of_not-le}
use native.Mathlib.Decide.{dec_lt}
use native.Mathlib.Omega.{arith}
use borrow.Author.Tests.{eq-eqb, ne_eqb}
use Rattle.plans.specs.Numbers.{under}
use Rattle.plans.specs.Plan.{Table, Places, placed, load}
use Rattle.plans.specs.Tables.{pick}
use Rattle.plans.specs.Covers.{Covers, Stands, Live, Certificate, Tight, Closed, cover_on, replaced, extend, after_search}
use Rattle.plans.proofs.Sums.{by_under, under_yes}
use Rattle.plans.proofs.Order.{split_last}
use Rattle.plans.proofs.Counting.{placed_yes, placed_true}
use Rattle.plans.proofs.Covers.{stands_less}

module _ (f : ℕ → ℕ → ℕ) (i : ℕ) (a : ℕ → ℕ) (x : ℕ) where
  pub replaced_here : replaced f i a i x ≡ a x
  unfolding replaced pick
  replaced_here = rw (eq-eqb i i refl)

  pub replaced_below : (j : ℕ) → j < i → replaced f i a j x ≡ f j x
  unfolding replaced pick
  replaced_below j l = rw (ne_eqb j i (omega arith))

  -- what is covered up to index i is covered by the new cover or by one before it
  pub by_replaced {ℓ} : {X : Type ℓ} (j : ℕ) → j < suc i → 1 ≤ replaced f i a j x
      → (1 ≤ a x → X) → (j < i → 1 ≤ f j x → X) → X
  by_replaced j l k here below =
      split_last j i l
      (λ e. here (rw (e, replaced_here) at k))
      (λ m. below m (omega (arith, replaced_below j m)))

module _ (K : Covers) (i : ℕ) (a b : ℕ → ℕ) (s c : ℕ) where
  cover_here : (extend K i a b).on_signal i s + (extend K i a b).on_channel i c ≡ a s + b c
  unfolding extend
  cover_here = ap₂ ◌+◌ (replaced_here K.on_signal i a s) (replaced_here K.on_channel i b c)

  cover_below : (j : ℕ) → j < i → (extend K i a b).on_signal j s + (extend K i a b).on_channel j c ≡ K.on_signal j s + K.on_channel j c
  unfolding extend
  cover_below j l = ap₂ ◌+◌ (replaced_below K.on_signal i a s j l) (replaced_below K.on_channel i b c j l)

-- What the cover put at index i does to a pair:
module _ (T : Table) (K : Covers) (i : ℕ) (a b : ℕ → ℕ) (s c : ℕ) where
  -- nothing up to that index,
  pub stands_before : (n : ℕ) → n ≤ i → Stands T (extend K i a b) n s c ↔ Stands T K n s c
  stands_before n l = (
    λ h. record { allows = λ j m. omega (arith, h.allows j m, cover_below K i a b s c j (omega arith)) },
    λ h. record { allows = λ j m. omega (arith, h.allows j m, cover_below K i a b s c j (omega arith)) },
  )

  live_before : (n : ℕ) → n ≤ i → Live T (extend K i a b) n s c → Live T K n s c
  live_before n l v =
      record {
        signal = v.signal;
        channel = v.channel;
        listed = v.listed;
        ranked = v.ranked;
        stands = (stands_before n l).0 v.stands;
      }

  -- and after it the pair stands if it did and the new cover allows it.
  pub stands_after : Stands T (extend K i a b) (suc i) s c ↔ (Stands T K i s c × (a s + b c ≤ under (T.rank s c) (suc (suc i))))
  stands_after = (
    λ h. (
      (stands_before i (omega arith)).0 (stands_less T (extend K i a b) i (suc i) s c (omega arith) h),
      omega (arith, h.allows i (omega arith), cover_here K i a b s c),
    ),
    λ h. record {
      allows = λ j l.
          split_last j i l
          (λ e. rw e (omega (arith, h.1, cover_here K i a b s c)))
          (((stands_before i (omega arith)).1 h.0).allows j);
    },
  )

-- A cover at index i that covers every live pair makes a certificate one rank longer.
pub certificate_covers : (T : Table) (K : Covers) (i : ℕ) (a b : ℕ → ℕ) → ((s c : ℕ) → Live T K i s c → 1 ≤ a s + b c)
    → Certificate T K i → Certificate T (extend K i a b) (suc i)
certificate_covers T K i a b all G = record { covered = λ j s c l v. covered j s c l (live_before T K i a b s c j (omega arith) v) }
  where
    covered : (j s c : ℕ) → j < suc i → Live T K j s c → 1 ≤ (extend K i a b).on_signal j s + (extend K i a b).on_channel j c
    covered j s c l v =
        split_last j i l
        (λ e. rw (e, cover_here) (all s c (rw e at v)))
        (λ m. omega (arith, cover_below K i a b s c j m, G.covered j s c m v))

module _ (T : Table) (p : Places) (reached : ℕ → ℕ) (s : ℕ) where
  -- A placed signal is covered just when its channel is not.
  cover_on-placed : reached (p s) ≤ 1 → p s < T.channels → cover_on T p reached s + reached (p s) ≡ 1
  unfolding cover_on
  cover_on-placed l m = omega (arith, placed_yes T p s m, ap (λ (x : ℕ). x * reached (p s)) (placed_yes T p s m))

  cover_on_true : 1 ≤ cover_on T p reached s → p s < T.channels
  unfolding cover_on
  cover_on_true l = placed_true T p s (omega arith)

module _ (T : Table) (K : Covers) (i : ℕ) (p : Places) (reached : ℕ → ℕ) (closed : Closed T K i p reached) where
  pub closed_covers : (s c : ℕ) → Live T K i s c → 1 ≤ cover_on T p reached s + reached c
  closed_covers s c v =
      by_under (p s) T.channels
      (λ m e. go m (dec_lt 0 (reached (p s))))
      (λ m e. omega (arith, closed.onward_free s c v m))
    where
      go : p s < T.channels → Dec (0 < reached (p s)) → 1 ≤ cover_on T p reached s + reached c
      go m (yes r) = omega (arith, closed.onward s c v m r)
      go m (no r) = omega (arith, cover_on-placed T p reached s (closed.bit (p s)) m, lt_of_not-le r)

  pub certificate_extends : Certificate T K i → Certificate T (after_search T K i p reached) (suc i)
  certificate_extends = certificate_covers T K i (cover_on T p reached) reached closed_covers

  pub tight_extends : Tight T K i p → ((s : ℕ) → s < T.signals → p s < T.channels → T.rank s (p s) ≤ suc i)
      → Tight T (after_search T K i p reached) (suc i) p
  unfolding extend
  tight_extends t ranked =
      record {
        stands = λ s l m.
            (stands_after T K i (cover_on T p reached) reached s (p s)).1 (
              t.stands s l m,
              omega (
                arith,
                cover_on-placed T p reached s (closed.bit (p s)) m,
                under_yes (T.rank s (p s)) (suc (suc i)) (omega (arith, ranked s l m)),
              ),
            );
        placed = λ j s l m k. by_replaced K.on_signal i (cover_on T p reached) s j l k (cover_on_true T p reached s) (λ h. t.placed j s h m);
        full = λ j c l m k. by_replaced K.on_channel i reached c j l k (closed.full c m) (λ h. t.full j c h m);
      }

-- A plan whose pairs stand, which places what a tight plan places and loads each channel no less, is tight too.
pub tight_keeps : (T : Table) (K : Covers) (n : ℕ) (p q : Places) → Tight T K n p
    → ((s : ℕ) → s < T.signals → q s < T.channels → Stands T K n s (q s))
    → ((s : ℕ) → s < T.signals → p s < T.channels → q s < T.channels)
    → ((c : ℕ) → c < T.channels → load T p c ≤ load T q c)
    → Tight T K n q
tight_keeps T K n p q t stands placed loads =
    record {
      stands = stands;
      placed = λ i s l m k. placed s m (t.placed i s l m k);
      full = λ i c l m k. omega (arith, t.full i c l m k, loads c m);
    }

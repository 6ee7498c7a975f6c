-- What the rank loop knows. Standing K n i: the pairs of rank at most n have entered, K covers the first i ranks; the mates are one
-- plan along the lists, and the lists are exactly the pairs that have entered and stand after K. Before the first rank it holds of
-- a prepared area (standing_prepared).
use Prim.Native.Nat.{ℕ, ◌≤◌, ◌<◌}
use mathlib.Core.Path.{◌≡◌, ap, sym, ◌∙◌}
use mathlib.Core.List.{List}
use native.Mathlib.Nat.{not-suc-le-zero}
use native.Mathlib.Omega.{arith}
use Rattle.plans.specs.Covers.{Covers, Stands, Certificate}
use Rattle.units.specs.declared.Size.{Size}
use Rattle.work.specs.Work.{at, none, CHANNEL, SIGNAL, SHUT_SIGNAL, SHUT_CHANNEL, SCRATCH, signal_at, rank_at, Unchanged}
use Rattle.work.specs.Input.{Input, Listed}
use Rattle.work.specs.State.{InList, Lists, Mates, Along}
use Rattle.work.specs.Ranks.{table_with, Ranks}
use Rattle.work.proofs.Area.{unchanged_at}
use Rattle.work.proofs.Input.{same_input}
use Rattle.enter.specs.Entering.{Prepared}

pub record Standing (z : Size) (rank : ℕ → ℕ → ℕ) (K : Covers) (n i : ℕ) (w : List ℕ) : Type 0 where
  pub certificate : Certificate (table_with z rank) K i
  pub mates : Mates z w
  pub along : Along z w
  pub lists : Lists z w
  -- the lists are exactly the pairs that have entered and stand
  pub entered : (s c : ℕ) → s < z.signals → InList w s c → rank s c ≤ n
  pub stands : (s c : ℕ) → s < z.signals → InList w s c → Stands (table_with z rank) K i s c
  pub all : (s c : ℕ) → s < z.signals → c < z.channels → 1 ≤ rank s c → rank s c ≤ n → Stands (table_with z rank) K i s c → InList w s c
  -- open is never covered
  pub open_signal : (s : ℕ) → s < z.signals → at w SHUT_SIGNAL s ≡ 0 → (j : ℕ) → j < i → K.on_signal j s ≡ 0
  pub open_channel : (c : ℕ) → c < z.channels → at w SHUT_CHANNEL c ≡ 0 → (j : ℕ) → j < i → K.on_channel j c ≡ 0
  pub never_signal : (s : ℕ) → s < z.signals → ((j : ℕ) → j < i → K.on_signal j s ≡ 0) → at w SHUT_SIGNAL s ≡ 0
  pub never_channel : (c : ℕ) → c < z.channels → ((j : ℕ) → j < i → K.on_channel j c ≡ 0) → at w SHUT_CHANNEL c ≡ 0
  -- what is covered is placed, or taken
  pub placed : (j s : ℕ) → j < i → s < z.signals → 1 ≤ K.on_signal j s → at w CHANNEL s < z.channels
  pub taken : (j c : ℕ) → j < i → c < z.channels → 1 ≤ K.on_channel j c → at w SIGNAL c < z.signals

-- Some covers of the first i ranks stand.
pub record Covering (z : Size) (rank : ℕ → ℕ → ℕ) (i : ℕ) (w : List ℕ) : Type 0 where
  pub covers : Covers
  pub standing : Standing z rank covers i i w

-- Carrying over what did not change

module _ {z : Size} {v w : List ℕ} (n : Input z v) (h : Unchanged SHUT_SIGNAL SCRATCH w v) where
  pub same_shut_signal : (s : ℕ) → s < z.signals → at w SHUT_SIGNAL s ≡ at v SHUT_SIGNAL s
  same_shut_signal s l = unchanged_at h SHUT_SIGNAL s (omega arith) (omega (arith, n.limits.few_signals))

  pub same_shut_channel : (c : ℕ) → c < z.channels → at w SHUT_CHANNEL c ≡ at v SHUT_CHANNEL c
  same_shut_channel c l = unchanged_at h SHUT_CHANNEL c (omega arith) (omega (arith, n.limits.few_channels))

-- A pair of a list is listed by the table, so its rank is one of the ranks.
pub list_rank : {z : Size} {rank : ℕ → ℕ → ℕ} {w : List ℕ} → Input z w → Ranks z rank w → Lists z w
    → (s c : ℕ) → s < z.signals → InList w s c → 1 ≤ rank s c
list_rank {z} {rank} {w} n r l s c h i =
    let b : Listed z w s c = l.backed s c h i in
    let e : rank s c ≡ rank_at w b.entry = sym (ap (λ (x : ℕ). rank x c) b.signal) ∙ sym (ap (rank (signal_at w b.entry)) b.channel) ∙ r.given b.entry b.inside in
    omega (arith, n.ranked b.entry b.inside)

-- none is no channel and no signal
off : {z : Size} {w : List ℕ} {x : ℕ} → Input z w → x ≡ none → x < z.channels → ⊥
off n e l = omega (arith, n.limits.few_channels)

off_signal : {z : Size} {w : List ℕ} {x : ℕ} → Input z w → x ≡ none → x < z.signals → ⊥
off_signal n e l = omega (arith, n.limits.few_signals)

-- Before the first rank

pub no_covers : Covers
no_covers = record { on_signal = λ j s. 0; on_channel = λ j c. 0 }

pub standing_prepared : (z : Size) (rank : ℕ → ℕ → ℕ) (v w : List ℕ) → Input z v → Prepared z v w → Standing z rank no_covers 0 0 w
standing_prepared z rank v w m p =
    let n : Input z w = same_input p.input m in
    let nothing : (s c : ℕ) → s < z.signals → InList w s c → ⊥ = λ s c l i. omega (arith, p.ends s l, i.from, i.below) in
    record {
      certificate = record { covered = λ i s c l h. absurd (not-suc-le-zero l) };
      mates =
          record {
            placed = λ s l k. absurd (k (p.free s l));
            back = λ s l k. absurd (off n (p.free s l) k);
            taken = λ c l k. absurd (k (p.empty c l));
            forth = λ c l k. absurd (off_signal n (p.empty c l) k);
          };
      along = record { live = λ s l k. absurd (off n (p.free s l) k) };
      lists =
          record {
            order = λ s l. omega (arith, p.ends s l);
            inside = λ s l. omega (arith, p.ends s l, n.ascend s l);
            backed = λ s c l i. absurd (nothing s c l i);
          };
      entered = λ s c l i. absurd (nothing s c l i);
      stands = λ s c l i. absurd (nothing s c l i);
      all = λ s c l m k h st. absurd (omega arith);
      open_signal = λ s l e j k. absurd (not-suc-le-zero k);
      open_channel = λ c l e j k. absurd (not-suc-le-zero k);
      never_signal = λ s l k. p.open_signal s l;
      never_channel = λ c l k. p.open_channel c l;
      placed = λ j s k. absurd (not-suc-le-zero k);
      taken = λ j c k. absurd (not-suc-le-zero k);
    }

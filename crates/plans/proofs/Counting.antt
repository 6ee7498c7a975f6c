-- The one counting lemma: charge each placed signal what a cover has on it and on its channel. A plan's charge is at most the
-- cover's weight (charge_at_most), and it is the weight just when every covered signal is placed and every covered channel is
-- full (charge_full, placed_of_charge, full_of_charge). Leans on Sums.
use Prim.Native.Nat.{ℕ, ◌+◌, ◌*◌, ◌≤◌, ◌<◌}
use mathlib.Core.Path.{◌≡◌, sym, ◌∙◌}
use native.Mathlib.Nat.{mul-add, mul_comm}
use native.Mathlib.Omega.{arith}
use Rattle.plans.specs.Numbers.{same, under, sum}
use Rattle.plans.specs.Plan.{Table, Places, Plan, placed, load}
use Rattle.plans.specs.Covers.{weight}
use Rattle.plans.proofs.Sums.{under_yes, under_no, under_true, under-bit}
use Rattle.plans.proofs.Sums.{sum_ext, sum_add, sum_scale, sum_swap, sum_point, sum_weighed_le, sum_weighed_one, sum_weighed_tight}

-- what a cover charges a plan's placed signals
unfoldable pub charge : Table → Places → (ℕ → ℕ) → (ℕ → ℕ) → ℕ
charge T p ks kc = sum T.signals (λ s. placed T p s * (ks s + kc (p s)))

module _ (T : Table) (p : Places) (s : ℕ) where
  pub placed_yes : p s < T.channels → placed T p s ≡ 1
  unfolding placed
  placed_yes = under_yes (p s) T.channels

  pub placed_no : T.channels ≤ p s → placed T p s ≡ 0
  unfolding placed
  placed_no = under_no (p s) T.channels

  pub placed_true : 1 ≤ placed T p s → p s < T.channels
  unfolding placed
  placed_true = under_true (p s) T.channels

  pub placed-bit : placed T p s ≤ 1
  unfolding placed
  placed-bit = under-bit (p s) T.channels

-- The weight and the charge in one form: each signal counts by 1 or by whether it is placed, each channel by its slots or its load.
weight_parts : (T : Table) (ks kc : ℕ → ℕ)
    → weight T ks kc ≡ sum T.signals (λ s. ks s * 1) + sum T.channels (λ c. kc c * T.slots c)
unfolding weight
weight_parts T ks kc = omega (arith, sum_weighed_one ks T.signals)

module _ (T : Table) (p : Places) (ks kc : ℕ → ℕ) where
  -- The signals that sit on channels, counted channel by channel.
  by_channel : sum T.signals (λ s. placed T p s * kc (p s)) ≡ sum T.channels (λ c. kc c * load T p c)
  unfolding placed load
  by_channel =
      sum_ext (λ s. under (p s) T.channels * kc (p s)) (λ s. sum T.channels (there s)) T.signals spread
      ∙ sum_swap there T.signals T.channels
      ∙ sum_ext (λ c. sum T.signals (λ s. there s c)) (λ c. kc c * sum T.signals (λ s. same (p s) c)) T.channels on
    where
      there : ℕ → ℕ → ℕ
      there s c = same (p s) c * kc c

      spread : (s : ℕ) → s < T.signals → under (p s) T.channels * kc (p s) ≡ sum T.channels (there s)
      spread s l = sym (sum_point kc (p s) T.channels)

      on : (c : ℕ) → c < T.channels → sum T.signals (λ s. there s c) ≡ kc c * sum T.signals (λ s. same (p s) c)
      on c l =
          sum_ext (λ s. there s c) (λ s. kc c * same (p s) c) T.signals (λ s m. mul_comm (same (p s) c) (kc c))
          ∙ sum_scale (λ s. same (p s) c) T.signals (kc c)

  charge_parts : charge T p ks kc ≡ sum T.signals (λ s. ks s * placed T p s) + sum T.channels (λ c. kc c * load T p c)
  unfolding charge
  charge_parts =
      sum_ext (λ s. placed T p s * (ks s + kc (p s))) (λ s. ks s * placed T p s + placed T p s * kc (p s)) T.signals each
      ∙ omega (arith, sum_add (λ s. ks s * placed T p s) (λ s. placed T p s * kc (p s)) T.signals, by_channel)
    where
      each : (s : ℕ) → s < T.signals → placed T p s * (ks s + kc (p s)) ≡ ks s * placed T p s + placed T p s * kc (p s)
      each s l = omega (arith, mul-add (placed T p s) (ks s) (kc (p s)), mul_comm (placed T p s) (ks s))

module _ (T : Table) (p : Places) (ks kc : ℕ → ℕ) (P : Plan T p) where
  signals_part : sum T.signals (λ s. ks s * placed T p s) ≤ sum T.signals (λ s. ks s * 1)
  signals_part = sum_weighed_le ks (placed T p) (λ s. 1) T.signals (λ s l k. placed-bit T p s)

  channels_part : sum T.channels (λ c. kc c * load T p c) ≤ sum T.channels (λ c. kc c * T.slots c)
  channels_part = sum_weighed_le kc (load T p) T.slots T.channels (λ c l k. P.room c l)

  pub charge_at_most : charge T p ks kc ≤ weight T ks kc
  charge_at_most = omega (arith, charge_parts T p ks kc, weight_parts T ks kc, signals_part, channels_part)

  pub charge_full : ((s : ℕ) → s < T.signals → 1 ≤ ks s → p s < T.channels)
      → ((c : ℕ) → c < T.channels → 1 ≤ kc c → T.slots c ≤ load T p c)
      → charge T p ks kc ≡ weight T ks kc
  charge_full onto full =
      omega (
        arith,
        charge_at_most,
        charge_parts T p ks kc,
        weight_parts T ks kc,
        sum_weighed_le ks (λ s. 1) (placed T p) T.signals (λ s l k. omega (arith, placed_yes T p s (onto s l k))),
        sum_weighed_le kc T.slots (load T p) T.channels full,
      )

  module _ (reaches : weight T ks kc ≤ charge T p ks kc) where
    pub placed_of_charge : (s : ℕ) → s < T.signals → 1 ≤ ks s → p s < T.channels
    placed_of_charge s l k = placed_true T p s (omega (arith, all s l k))
      where
        all : (s : ℕ) → s < T.signals → 1 ≤ ks s → placed T p s ≡ 1
        all =
            sum_weighed_tight ks (placed T p) (λ s. 1) T.signals (λ s l k. placed-bit T p s)
            (omega (arith, charge_parts T p ks kc, weight_parts T ks kc, channels_part))

    pub full_of_charge : (c : ℕ) → c < T.channels → 1 ≤ kc c → load T p c ≡ T.slots c
    full_of_charge =
        sum_weighed_tight kc (load T p) T.slots T.channels (λ c l k. P.room c l)
        (omega (arith, charge_parts T p ks kc, weight_parts T ks kc, signals_part))

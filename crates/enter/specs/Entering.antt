-- What preparing and entering promise: the area is made ready, and the pairs of one rank become live.
use Rattle.std.specs.Prelude.{ℕ, suc, ◌+◌, ◌*◌, ◌≤◌, ◌<◌, ◌≡◌, ◌⊎◌, List}
use Rattle.plans.specs.Numbers.{same, under, sum}
use Rattle.units.specs.declared.Size.{Size}
use Rattle.work.specs.Work.{at, none, START, MIDDLE, END, CHANNEL, SIGNAL, SHUT_SIGNAL, SHUT_CHANNEL, FROM, WHOLE, signal_at, channel_at, rank_at, Unchanged}
use Rattle.work.specs.State.{InList, Lists}

-- Preparing: empty lists, nobody placed, nothing shut, no marks
pub record Prepared (z : Size) (v w : List ℕ) : Type 0 where
  pub input : Unchanged 0 MIDDLE w v
  pub ends : (s : ℕ) → s < z.signals → at w END s ≡ at w START s
  pub free : (s : ℕ) → s < z.signals → at w CHANNEL s ≡ none
  pub empty : (c : ℕ) → c < z.channels → at w SIGNAL c ≡ none
  pub open_signal : (s : ℕ) → s < z.signals → at w SHUT_SIGNAL s ≡ 0
  pub open_channel : (c : ℕ) → c < z.channels → at w SHUT_CHANNEL c ≡ 0
  pub unmarked : (c : ℕ) → c < z.channels → at w FROM c ≡ none

-- how many entries of signal s have rank n or a higher one
unfoldable pub waiting : Size → ℕ → List ℕ → ℕ → ℕ
waiting z n w s = sum z.pairs.0 (λ e. same (signal_at w e) s * under n (suc (rank_at w e)))

-- Each list has room for the entries of rank n or higher that its signal still has.
pub record Room (z : Size) (n : ℕ) (w : List ℕ) : Type 0 where
  pub enough : (s : ℕ) → s < z.signals → at w END s + waiting z n w s ≤ at w START (suc s)

-- What entering the pairs of rank r does: the lists gain the pairs of that rank neither end of which is shut, and nothing else.
pub record Entered (z : Size) (r : ℕ) (v w : List ℕ) : Type 0 where
  pub input : Unchanged 0 MIDDLE w v
  pub rest : Unchanged CHANNEL WHOLE w v
  pub lists : Lists z w
  pub room : Room z (suc r) w
  pub keeps : (s c : ℕ) → s < z.signals → InList v s c → InList w s c
  pub adds : (e : ℕ) → e < z.pairs.0 → rank_at v e ≡ r → at v SHUT_SIGNAL (signal_at v e) ≡ 0 → at v SHUT_CHANNEL (channel_at v e) ≡ 0
      → InList w (signal_at v e) (channel_at v e)
  pub only : (s c : ℕ) → s < z.signals → InList w s c
      → InList v s c ⊎ ((e : ℕ) × (e < z.pairs.0) × (rank_at v e ≡ r) × (signal_at v e ≡ s) × (channel_at v e ≡ c) × (at v SHUT_SIGNAL s ≡ 0) × (at v SHUT_CHANNEL c ≡ 0))

-- No list gains a channel.
pub record Quiet (z : Size) (v w : List ℕ) : Type 0 where
  pub none_new : (s c : ℕ) → s < z.signals → InList w s c → InList v s c

-- What striking promises: the cover that the failed searches of a rank leave is read off the marks.
use Rattle.std.specs.Prelude.{ℕ, ◌≤◌, ◌<◌, ◌≡◌, List}
use Rattle.units.specs.declared.Size.{Size}
use Rattle.work.specs.Work.{at, none, START, MIDDLE, END, CHANNEL, SHUT_SIGNAL, SHUT_CHANNEL, FROM, Unchanged}
use Rattle.work.specs.State.{InList}

-- Signal s is covered: it sits on a channel that is not marked.
pub record Covered (z : Size) (w : List ℕ) (s : ℕ) : Type 0 where
  pub placed : at w CHANNEL s < z.channels
  pub unmarked : at w FROM (at w CHANNEL s) ≡ none

-- What striking does: covered signals and marked channels are shut, a covered signal's list loses its marked channels, and
-- all marks are gone.
pub record Struck (z : Size) (v w : List ℕ) : Type 0 where
  pub input : Unchanged 0 MIDDLE w v
  pub mates : Unchanged CHANNEL SHUT_SIGNAL w v
  pub cleared : (c : ℕ) → c < z.channels → at w FROM c ≡ none
  pub shut_signal : (s : ℕ) → s < z.signals → Covered z v s → at w SHUT_SIGNAL s ≡ 1
  pub open_signal : (s : ℕ) → s < z.signals → (Covered z v s → ⊥) → at w SHUT_SIGNAL s ≡ at v SHUT_SIGNAL s
  pub shut_channel : (c : ℕ) → c < z.channels → at v FROM c < none → at w SHUT_CHANNEL c ≡ 1
  pub open_channel : (c : ℕ) → c < z.channels → at v FROM c ≡ none → at w SHUT_CHANNEL c ≡ at v SHUT_CHANNEL c
  pub shorter : (s : ℕ) → s < z.signals → at w END s ≤ at v END s
  pub order : (s : ℕ) → s < z.signals → at w START s ≤ at w END s
  pub only : (s c : ℕ) → s < z.signals → InList w s c → InList v s c
  pub struck : (s c : ℕ) → s < z.signals → InList w s c → Covered z v s → at v FROM c ≡ none
  pub kept : (s c : ℕ) → s < z.signals → InList v s c → (Covered z v s → at v FROM c ≡ none) → InList w s c

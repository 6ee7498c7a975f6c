-- Entering, pair by pair.
use Rattle.std.specs.Prelude.{ℕ, suc, ◌<◌, ◌≡◌, Bool, MatchBool, List}
use Rattle.units.specs.Limits.{most_signals, most_pairs}
use Rattle.work.specs.Work.{at, MIDDLE, LIVE, END, CHANNEL, SHUT_SIGNAL, SHUT_CHANNEL, WHOLE, Unchanged}

-- Neither signal s nor channel c is shut, and c is put behind the last channel of the list of s.
pub record Joined (s c : ℕ) (v w : List ℕ) : Type 0 where
  pub input : Unchanged 0 MIDDLE w v
  pub rest : Unchanged CHANNEL WHOLE w v
  pub open_signal : at v SHUT_SIGNAL s ≡ 0
  pub open_channel : at v SHUT_CHANNEL c ≡ 0
  pub longer : at w END s ≡ suc (at v END s)
  pub last : at w LIVE (at v END s) ≡ c
  pub other_ends : (t : ℕ) → t < most_signals → (t ≡ s → ⊥) → at w END t ≡ at v END t
  pub other_positions : (p : ℕ) → p < most_pairs → (p ≡ at v END s → ⊥) → at w LIVE p ≡ at v LIVE p

-- Signal s or channel c is shut, and nothing is changed.
pub record LeftOut (s c : ℕ) (v w : List ℕ) : Type 0 where
  pub shut : at v SHUT_SIGNAL s ≡ 0 → at v SHUT_CHANNEL c ≡ 0 → ⊥
  pub same : w ≡ v

-- One pair entered, or was left out: the flag says which.
abbrev pub EnteredPair : Bool → ℕ → ℕ → List ℕ → List ℕ → Type 0
EnteredPair did s c v w = MatchBool did (Joined s c v w) (LeftOut s c v w)

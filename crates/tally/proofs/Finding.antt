-- Looking for the entry of a pair: it stands where the search is or behind (Ahead), so the search stays among the entries
-- (ahead_inside, ahead_bounds), and where it ends it has found the rank (rank_found).
use Prim.Native.Nat.{ℕ, ◌+◌, ◌*◌, ◌%◌, ◌≤◌, ◌<◌}
use mathlib.Core.Path.{◌≡◌}
use mathlib.Core.List.{List}
use native.Mathlib.Omega.{arith}
use lib.ListN.{length}
use Rattle.units.specs.declared.Size.{Size}
use Rattle.units.specs.Limits.{most_pairs}
use Rattle.work.specs.Work.{at, NUMBERS, PAIR, LINK, START, signal_at, channel_at, rank_at}
use Rattle.work.specs.Input.{Input, Listed}
use Rattle.tally.specs.Inside.{Findable, RankOf}

-- From the first entry on the pair stands at e or behind it.
pub record Ahead (w : List ℕ) (pair first e : ℕ) : Type 0 where
  pub each : (t : ℕ) → first ≤ t → at w PAIR t ≡ pair → e ≤ t

-- the channel of a listed pair is one of the table's
module _ {z : Size} {w : List ℕ} {s c : ℕ} (n : Input z w) (here : Listed z w s c) where
  pub listed_channel : c < 200
  listed_channel = omega (arith, n.channel here.entry here.inside, here.channel, n.limits.few_channels)

module _ {z : Size} {w : List ℕ} {s c first e : ℕ} (n : Input z w) (here : Listed z w s c) (start : first ≡ at w START s)
    (p : Ahead w (256 * s + c) first e) where
  pub ahead_inside : e < z.pairs.0
  unfolding signal_at channel_at
  ahead_inside =
      omega (
        arith,
        here.inside,
        p.each here.entry
            (omega (arith, start, rw here.signal at (n.after_start here.entry here.inside)))
            (omega (arith, here.signal, here.channel)),
      )

  pub rank_found : {r : ℕ} → at w PAIR e ≡ 256 * s + c → r ≡ at w LINK e % 16 → RankOf z w s c r
  unfolding signal_at channel_at rank_at
  rank_found is link =
      let small : c < 200 = listed_channel n here in
      record {
        listed = record { entry = e; inside = ahead_inside; signal = omega arith; channel = omega arith };
        is = link;
      }

-- What stands there can be read.
pub ahead_bounds : {w : List ℕ} {s c first e : ℕ} → Findable w s c → first ≡ at w START s → Ahead w (256 * s + c) first e
    → (NUMBERS ≤ length w) × (e < most_pairs)
ahead_bounds n start p = (n.input.room, omega (arith, n.input.limits.few_pairs, ahead_inside n.input n.listed start p))

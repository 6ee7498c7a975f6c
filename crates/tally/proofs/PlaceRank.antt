-- A place holds its rank (place_rank), which is that of its pair (rank_is), and it stays a place where the table's part stays
-- (same_place).
use Prim.Native.Nat.{ℕ, ◌%◌, ◌≤◌, ◌<◌}
use mathlib.Core.Path.{◌≡◌, refl, sym, ◌∙◌}
use mathlib.Core.List.{List}
use native.Mathlib.Omega.{arith}
use Rattle.units.specs.declared.Size.{Size}
use Rattle.work.specs.Work.{MIDDLE, rank_at, Unchanged}
use Rattle.work.specs.Ranks.{Ranks}
use Rattle.work.proofs.Input.{same_signal, same_channel, same_rank}
use Rattle.tally.specs.Inside.{RankOf, PlaceOf}

pub rank_small : {z : Size} {w : List ℕ} {s c r : ℕ} → RankOf z w s c r → r < 16
unfolding rank_at
rank_small of = omega (arith, of.is)

pub place_rank : {z : Size} {w : List ℕ} {s c x : ℕ} (p : PlaceOf z w s c x) → x % 16 ≡ p.rank
place_rank p = omega (arith, p.is, rank_small p.of)

-- the rank in a place is that of its pair
pub rank_is : {z : Size} {rank : ℕ → ℕ → ℕ} {v : List ℕ} {s c x : ℕ} → Ranks z rank v → (p : PlaceOf z v s c x) → p.rank ≡ rank s c
rank_is R p =
    let l = p.of.listed in
    p.of.is ∙ sym (R.given l.entry l.inside) ∙ rw (l.signal, l.channel) refl

pub same_place : {z : Size} {v w : List ℕ} {s c x : ℕ} → z.pairs.0 ≤ 3000 → Unchanged 0 MIDDLE w v → PlaceOf z v s c x → PlaceOf z w s c x
same_place few h p =
    let l = p.of.listed in
    let small : l.entry < 3000 = omega (arith, l.inside) in
    record {
      rank = p.rank;
      of =
          record {
            listed =
                record {
                  entry = l.entry;
                  inside = l.inside;
                  signal = same_signal h l.entry small ∙ l.signal;
                  channel = same_channel h l.entry small ∙ l.channel;
                };
            is = p.of.is ∙ sym (same_rank h l.entry small);
          };
      is = p.is;
    }

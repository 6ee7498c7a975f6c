-- An unpacked payload's table is the one that is placed: the area lists the payload's own ranks (ranks_unpacked), and the table
-- of these numbers and ranks is the payload's (table_of_size). Leans on tables' laws of entries.
use Prim.Native.Nat.{ℕ, ◌<◌}
use mathlib.Core.Path.{◌≡◌, ap, sym, ◌∙◌}
use mathlib.Core.List.{List}
use Rattle.plans.specs.Tables.{table_of, rank_in}
use Rattle.tables.specs.Payload.{pairs_in, size_in, entry_in, entries_in, table_in}
use Rattle.tables.specs.Sound.{Sound}
use Rattle.tables.proofs.Entries.{rank_in_lem, rank_listed}
use Rattle.tables.proofs.Parts.{size_pairs}
use Rattle.units.specs.declared.Size.{Size}
use Rattle.work.specs.Work.{signal_at, channel_at, rank_at}
use Rattle.work.specs.Input.{Listed}
use Rattle.work.specs.Ranks.{table_with, Ranks}
use Rattle.unpack.specs.Unpacking.{Unpacked}

-- the rank that a payload gives a pair
abbrev pub rank_of : List ℕ → ℕ → ℕ → ℕ
rank_of p = rank_in (entries_in p)

module _ (p : List ℕ) (sound : Sound p) (z : Size) (is_size : z ≡ size_in p) where
  pub table_of_size : table_with z (rank_of p) ≡ table_in p
  unfolding table_in table_of size_in
  table_of_size = ap (λ (y : Size). table_with y (rank_of p)) is_size

  inside : {e : ℕ} → e < z.pairs.0 → e < pairs_in p
  inside l = rw (size_pairs p is_size) at l

  pub ranks_unpacked : {v w : List ℕ} → Unpacked p z v w → Ranks z (rank_of p) w
  ranks_unpacked {w = w} u = record { given = given; listed = λ s c l m some most. listed s c (rank_listed p s c some) }
    where
      given : (e : ℕ) → e < z.pairs.0 → rank_of p (signal_at w e) (channel_at w e) ≡ rank_at w e
      given e l = rw (u.signal e l, u.channel e l) (rank_in_lem p sound e (inside l) ∙ sym (u.rank e l))

      listed : (s c : ℕ) → (i : ℕ) × (i < pairs_in p) × ((entry_in p i).signal ≡ s) × ((entry_in p i).channel ≡ c) × ((entry_in p i).rank ≡ rank_in (entries_in p) s c)
          → Listed z w s c
      listed s c (i, l, es, ec, er) =
          let m : i < z.pairs.0 = rw (size_pairs p is_size) l in
          record { entry = i; inside = m; signal = u.signal i m ∙ es; channel = u.channel i m ∙ ec }

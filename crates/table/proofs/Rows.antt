-- One law for each way through checking a payload: what the tests that led there make of the definitions in specs/Checking.
-- z is the size that was read.
use Prim.Native.Nat.{ℕ, ◌+◌, ◌-◌, ◌*◌, ◌≤◌, ◌<◌}
use mathlib.Core.Path.{◌≡◌, refl, ◌∙◌}
use mathlib.Core.Bool.{true, false, cond, or-true}
use mathlib.Core.List.{List}
use native.Mathlib.Omega.{arith}
use lib.ListN.{length}
use lib.Dec.{eqb}
use borrow.Author.Tests.{lt-ltb, le-ltb, eq-eqb, ne_eqb}
use Rattle.units.specs.Units.{bytes_of}
use Rattle.units.specs.declared.Size.{Size}
use Rattle.units.specs.Limits.{most_signals, most_channels, most_pairs}
use Rattle.units.specs.declared.refusals.Refusal.TheVariants.{Short, TooLarge, WrongLength, DirtyFill}
use Rattle.fields.specs.Fields.{field_at}
use Rattle.tables.specs.Payload.{pairs_in, size_in, entry_bit, payload_length, fill_in}
use Rattle.tables.proofs.Parts.{size_pairs}
use Rattle.std.specs.Prelude.{Err}
use Rattle.table.specs.Checking.{outsized, judged, checked_of}

pub checked_short : (p : List ℕ) → length p < 4 → Err Short ≡ checked_of p
unfolding checked_of
checked_short p l = rw (lt-ltb (length p) 4 l)

-- The payload has a head, and z is what it says.
module _ (p : List ℕ) {z : Size} (long : 4 ≤ length p) (is_size : z ≡ size_in p) where
  refused_size : outsized z ≡ true → Err TooLarge ≡ checked_of p
  unfolding checked_of
  refused_size e = rw (le-ltb (length p) 4 long, rw is_size at e)

  pub many_signals : most_signals < z.signals → Err TooLarge ≡ checked_of p
  unfolding outsized
  many_signals l = refused_size (rw (lt-ltb most_signals z.signals l))

  pub many_channels : most_channels < z.channels → Err TooLarge ≡ checked_of p
  unfolding outsized
  many_channels l = refused_size (simp (lt-ltb most_channels z.channels l, or-true))

  pub many_pairs : most_pairs < z.pairs.0 → Err TooLarge ≡ checked_of p
  unfolding outsized
  many_pairs l = refused_size (simp (lt-ltb most_pairs z.pairs.0 l, or-true))

  -- and no number of it is too large
  module _ (few_signals : z.signals ≤ most_signals) (few_channels : z.channels ≤ most_channels) (few_pairs : z.pairs.0 ≤ most_pairs) where
    fits : outsized z ≡ false
    unfolding outsized
    fits =
        rw (
          le-ltb most_signals z.signals few_signals,
          le-ltb most_channels z.channels few_channels,
          le-ltb most_pairs z.pairs.0 few_pairs,
        )

    counted : z.pairs.0 ≡ pairs_in p
    counted = size_pairs p is_size

    -- what is left to be judged
    past_row_5 : checked_of p
        ≡ cond (eqb (length p) (payload_length (pairs_in p)))
        (cond (eqb (fill_in p) 0) (judged p (pairs_in p)) (Err DirtyFill))
        (Err WrongLength)
    unfolding checked_of
    past_row_5 = rw (le-ltb (length p) 4 long, rw is_size at fits)

    pub wrong_length_lem : (length p ≡ 4 + bytes_of z.pairs.0 → ⊥) → Err WrongLength ≡ checked_of p
    unfolding payload_length
    wrong_length_lem e = rw (past_row_5, ne_eqb (length p) (payload_length (pairs_in p)) (λ sized. e (omega (arith, counted))))

    -- x is what was read from bit `at`, where the entries end, to the payload's end
    module _ (sized : length p ≡ 4 + bytes_of z.pairs.0) (x at w : ℕ) (read : x ≡ field_at p at w)
        (start : at ≡ 32 + 20 * z.pairs.0) (end : at + w ≡ 8 * length p) where
      right_length : length p ≡ payload_length (pairs_in p)
      unfolding payload_length
      right_length = omega (arith, counted)

      is_fill : x ≡ fill_in p
      unfolding fill_in entry_bit
      is_fill =
          let from : at ≡ 32 + 20 * pairs_in p = omega (arith, counted) in
          let width : w ≡ 8 * length p - (32 + 20 * pairs_in p) = omega arith in
          read ∙ rw (from, width)

      -- The fill decides row 7, and then the entries.
      pub past_row_6 : checked_of p ≡ cond (eqb x 0) (judged p (pairs_in p)) (Err DirtyFill)
      past_row_6 = rw (past_row_5, eq-eqb (length p) (payload_length (pairs_in p)) right_length, is_fill) refl

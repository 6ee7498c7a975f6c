-- What the tests of one entry mean. Row 8: an entry is in the table or strays (in_table_passes, passed_in_table). Row 9: entries
-- stand above one another where their keys ascend (above_passes, passed_above, keys_ascend, keys_sink).
use Prim.Native.Nat.{◌≤◌, ◌<◌}
use mathlib.Core.Path.{◌≡◌, refl}
use mathlib.Core.Bool.{Bool, true, false, ◌&&◌, and-false, false≢true}
use native.Mathlib.Nat.{lt_of_not-le}
use native.Mathlib.Decide.{dec_lt, ℕ_discrete}
use native.Mathlib.Omega.{arith}
use lib.Dec.{eqb, ltb}
use borrow.Author.Tests.{ltb-true, leb-true, eqb-true, not-false, lt-ltb, le-ltb, le-leb, lt-leb, eq-eqb, ne_eqb}
use Rattle.units.specs.declared.Size.{Size}
use Rattle.plans.specs.Tables.{Entry}
use Rattle.tables.specs.Sound.{Above}
use Rattle.tables.specs.Sound.Above.{by_signal, by_channel}
use Rattle.tables.proofs.Ascending.{InTable}
use Rattle.table.specs.Checking.{strays, above}
use Rattle.table.specs.Judging.{key_of}

both : (a b : Bool) → (a && b) ≡ true → (a ≡ true) × (b ≡ true)
both true b e = (refl, e)
both false b e = absurd (false≢true e)

module _ (z : Size) (e : Entry) where
  pub in_table_passes : InTable z.signals z.channels z.ranks e → strays z e ≡ false
  unfolding strays
  in_table_passes t =
      rw (
        lt-ltb e.signal z.signals t.signal,
        lt-ltb e.channel z.channels t.channel,
        lt-ltb 0 e.rank t.some_rank,
        le-leb e.rank z.ranks t.rank,
      )

  pub passed_in_table : strays z e ≡ false → InTable z.signals z.channels z.ranks e
  unfolding strays
  passed_in_table passed =
      let signal = both (ltb e.signal z.signals) _ (not-false _ passed) in
      let channel = both (ltb e.channel z.channels) _ signal.1 in
      let rank = both (ltb 0 e.rank) _ channel.1 in
      record {
        signal = ltb-true e.signal z.signals signal.0;
        channel = ltb-true e.channel z.channels channel.0;
        some_rank = ltb-true 0 e.rank rank.0;
        rank = leb-true e.rank z.ranks rank.1;
      }

  -- the four ways to stray
  pub strays_signal : z.signals ≤ e.signal → strays z e ≡ true
  unfolding strays
  strays_signal h = rw (le-ltb e.signal z.signals h)

  pub strays_channel : z.channels ≤ e.channel → strays z e ≡ true
  unfolding strays
  strays_channel h = simp (le-ltb e.channel z.channels h, and-false)

  pub strays_no_rank : e.rank ≡ 0 → strays z e ≡ true
  unfolding strays
  strays_no_rank h = simp (le-ltb 0 e.rank (omega arith), and-false)

  pub strays_rank : z.ranks < e.rank → strays z e ≡ true
  unfolding strays
  strays_rank h = simp (lt-leb e.rank z.ranks h, and-false)

module _ (e f : Entry) where
  pub above_passes : Above e f → above e f ≡ true
  unfolding above
  above_passes (by_signal l) = rw (lt-ltb e.signal f.signal l)
  above_passes (by_channel same l) =
      rw (
        le-ltb e.signal f.signal (omega arith),
        eq-eqb e.signal f.signal same,
        lt-ltb e.channel f.channel l,
      )

  pub passed_above : above e f ≡ true → Above e f
  unfolding above
  passed_above passed = pick (dec_lt e.signal f.signal)
    where
      pick : Dec (e.signal < f.signal) → Above e f
      pick (yes l) = by_signal l
      pick (no l) =
          let rest = rw (le-ltb e.signal f.signal (omega (arith, lt_of_not-le l))) at passed in
          let parts = both (eqb e.signal f.signal) _ rest in
          by_channel (eqb-true e.signal f.signal parts.0) (ltb-true e.channel f.channel parts.1)

  pub keys_ascend : f.channel < 256 → key_of e < key_of f → Above e f
  keys_ascend small l = pick (dec_lt e.signal f.signal)
    where
      pick : Dec (e.signal < f.signal) → Above e f
      pick (yes s) = by_signal s
      pick (no s) = by_channel (omega (arith, lt_of_not-le s)) (omega (arith, lt_of_not-le s))

  pub keys_sink : e.channel < 256 → key_of f ≤ key_of e → above e f ≡ false
  unfolding above
  keys_sink small l = rw (le-ltb e.signal f.signal (omega arith)) (pick (ℕ_discrete e.signal f.signal))
    where
      pick : Dec (e.signal ≡ f.signal) → (eqb e.signal f.signal && ltb e.channel f.channel) ≡ false
      pick (yes s) = rw (le-ltb e.channel f.channel (omega arith)) (and-false (eqb e.signal f.signal))
      pick (no s) = rw (ne_eqb e.signal f.signal s)

-- Tables written out as entries, and the three ways to make one table from others (document 01, "What a best plan is").
use Rattle.std.specs.Prelude.{ℕ, suc, ◌+◌, ◌-◌, Bool, true, false, List, [], ◌∷◌, eqb, ltb, leb}
use Rattle.plans.specs.Plan.{Table}

-- the first value where the test passed, the second where it failed; kept shut, so that a goal shows the test
unfoldable pub pick {ℓ} : {A : Type ℓ} → Bool → A → A → A
pick true a b = a
pick false a b = b

-- An entry: a signal may use a channel, at a rank.
pub record Entry : Type 0 where
  pub signal : ℕ
  pub channel : ℕ
  pub rank : ℕ

-- The rank that a list of entries gives a pair: that of the entry with this signal and channel, 0 where there is none.
unfoldable pub rank_in : List Entry → ℕ → ℕ → ℕ
rank_in [] s c = 0
rank_in (e ∷ es) s c = pick (eqb e.signal s) (pick (eqb e.channel c) e.rank (rank_in es s c)) (rank_in es s c)

-- The table of S signals, C channels, R ranks and these entries, with one slot for every channel.
unfoldable pub table_of : ℕ → ℕ → ℕ → List Entry → Table
table_of S C R es = record { signals = S; channels = C; ranks = R; rank = rank_in es; slots = λ c. 1 }

-- A table cut at rank k keeps its signals, channels and slots, has k ranks, and keeps the pairs of rank at most k.
unfoldable pub cut : ℕ → Table → Table
cut k T =
    record {
      signals = T.signals;
      channels = T.channels;
      ranks = k;
      rank = λ s c. pick (leb (T.rank s c) k) (T.rank s c) 0;
      slots = T.slots;
    }

-- f for the numbers below m, then g, counted from 0 again
unfoldable pub then_from : ℕ → (ℕ → ℕ) → (ℕ → ℕ) → ℕ → ℕ
then_from m f g i = pick (ltb i m) (f i) (g (i - m))

-- Two tables side by side: the sums of their signals and of their channels, and the first one's R. The second one's signal
-- and channel numbers are moved up by the first one's S and C; a pair with an end in each is not listed.
unfoldable pub beside : Table → Table → Table
beside T U =
    record {
      signals = T.signals + U.signals;
      channels = T.channels + U.channels;
      ranks = T.ranks;
      rank = λ s c.
          pick (ltb s T.signals)
          (pick (ltb c T.channels) (T.rank s c) 0)
          (pick (ltb c T.channels) 0 (U.rank (s - T.signals) (c - T.channels)));
      slots = then_from T.channels T.slots U.slots;
    }

-- One more signal, put last: its list gives the new signal's rank for each channel, 0 where it does not name the channel.
unfoldable pub one_more : Table → (ℕ → ℕ) → Table
one_more T list =
    record {
      signals = suc T.signals;
      channels = T.channels;
      ranks = T.ranks;
      rank = λ s c. pick (ltb s T.signals) (T.rank s c) (list c);
      slots = T.slots;
    }

-- Lists of entries: which are tables within the limits (EntriesWithin), which table a payload carries (Carries), and the three ways to
-- make one table from others (document 01, "What a best plan is"), first on lists of entries, then on payloads.
use Rattle.std.specs.Prelude.{ℕ, suc, ◌+◌, ◌≤◌, ◌<◌, ◌≡◌, List, [], ◌∷◌, ◌++◌, map, length, get_or, leb}
use Rattle.units.specs.Limits.{Limits, size_with}
use Rattle.plans.specs.Tables.{Entry, pick}
use Rattle.tables.specs.Payload.{signals_in, channels_in, ranks_in, pairs_in, entries_in, payload_for}
use Rattle.tables.specs.Sound.{Above}

-- entry i of a list; past its end a pair of rank 0
unfoldable pub entry_at : List Entry → ℕ → Entry
entry_at es i = get_or es i (record { signal = 0; channel = 0; rank = 0 })

-- S signals, C channels, R ranks and these entries are a table within document 01's limits.
pub record EntriesWithin (S C R : ℕ) (es : List Entry) : Type 0 where
  pub limits : Limits (size_with S C R (length es))
  pub signal : (i : ℕ) → i < length es → (entry_at es i).signal < S
  pub channel : (i : ℕ) → i < length es → (entry_at es i).channel < C
  pub some_rank : (i : ℕ) → i < length es → 1 ≤ (entry_at es i).rank
  pub rank : (i : ℕ) → i < length es → (entry_at es i).rank ≤ R
  pub ascend : (i : ℕ) → suc i < length es → Above (entry_at es i) (entry_at es (suc i))

-- A payload carries that table: its head holds these numbers, and its entries are these.
pub record Carries (S C R : ℕ) (es : List Entry) (p : List ℕ) : Type 0 where
  pub signals : signals_in p ≡ S
  pub channels : channels_in p ≡ C
  pub ranks : ranks_in p ≡ R
  pub pairs : pairs_in p ≡ length es
  pub entries : entries_in p ≡ es

-- Cut at rank k: the pairs of rank at most k.
unfoldable pub cut_entries : ℕ → List Entry → List Entry
cut_entries k [] = []
cut_entries k (e ∷ es) = pick (leb e.rank k) (e ∷ cut_entries k es) (cut_entries k es)

-- the entry with its signal moved up by S and its channel by C
unfoldable pub moved : ℕ → ℕ → Entry → Entry
moved S C e = record { signal = S + e.signal; channel = C + e.channel; rank = e.rank }

-- Side by side: the entries of a table of S signals and C channels, then those of the second one, moved up.
unfoldable pub beside_entries : ℕ → ℕ → List Entry → List Entry → List Entry
beside_entries S C es fs = es ++ map (moved S C) fs

-- One more signal: the entries, then the new signal's list.
unfoldable pub more_entries : List Entry → List Entry → List Entry
more_entries list es = es ++ list

-- What may be the list of a new signal S in a table of C channels and R ranks; it may be empty.
pub record NewList (S C R : ℕ) (list : List Entry) : Type 0 where
  pub signal : (i : ℕ) → i < length list → (entry_at list i).signal ≡ S
  pub channel : (i : ℕ) → i < length list → (entry_at list i).channel < C
  pub some_rank : (i : ℕ) → i < length list → 1 ≤ (entry_at list i).rank
  pub rank : (i : ℕ) → i < length list → (entry_at list i).rank ≤ R
  pub ascend : (i : ℕ) → suc i < length list → (entry_at list i).channel < (entry_at list (suc i)).channel

-- Payload q carries the table of p cut at rank k; r the tables of p and q side by side; q that of p with one more signal.
unfoldable pub CutOf : ℕ → List ℕ → List ℕ → Type 0
CutOf k p q = Carries (signals_in p) (channels_in p) k (cut_entries k (entries_in p)) q

unfoldable pub BesideOf : List ℕ → List ℕ → List ℕ → Type 0
BesideOf p q r =
    Carries (signals_in p + signals_in q) (channels_in p + channels_in q) (ranks_in p)
    (beside_entries (signals_in p) (channels_in p) (entries_in p) (entries_in q)) r

unfoldable pub MoreOf : List Entry → List ℕ → List ℕ → Type 0
MoreOf list p q = Carries (suc (signals_in p)) (channels_in p) (ranks_in p) (more_entries list (entries_in p)) q

-- The payloads made for those tables.
unfoldable pub cut_payload : ℕ → List ℕ → List ℕ
cut_payload k p = payload_for (signals_in p) (channels_in p) k (cut_entries k (entries_in p))

unfoldable pub beside_payload : List ℕ → List ℕ → List ℕ
beside_payload p q =
    payload_for (signals_in p + signals_in q) (channels_in p + channels_in q) (ranks_in p)
    (beside_entries (signals_in p) (channels_in p) (entries_in p) (entries_in q))

unfoldable pub more_payload : List Entry → List ℕ → List ℕ
more_payload list p = payload_for (suc (signals_in p)) (channels_in p) (ranks_in p) (more_entries list (entries_in p))

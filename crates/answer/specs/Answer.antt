-- The answer's payload (document 01, "The answer"): which fields a plan of a table makes (answer_fields), the bytes that they are
-- packed into (answer_of), and how many these are (answer_length).
use Rattle.std.specs.Prelude.{ℕ, zero, suc, ◌+◌, ◌*◌, ◌/◌, List, [], ◌∷◌, ◌++◌, ltb}
use Rattle.fields.specs.Fields.{Field, packed}
use Rattle.plans.specs.Plan.{Table, Places, line}
use Rattle.plans.specs.Tables.{pick}

abbrev pub field : ℕ → ℕ → Field
field width value = record { width = width; value = value }

-- The head, 16 bits: S, R, and four zero bits.
abbrev pub head_fields : ℕ → ℕ → List Field
head_fields S R = field 8 S ∷ field 4 R ∷ field 4 0 ∷ []

-- n fields of one width, with the values f 0, f 1 and so on.
unfoldable pub row : ℕ → ℕ → (ℕ → ℕ) → List Field
row width zero f = []
row width (suc n) f = row width n f ++ (field width (f n) ∷ [])

-- Head, R counts of 8 bits, S places of 12 bits.
unfoldable pub payload_fields : (S R : ℕ) → (counts places : ℕ → ℕ) → List Field
payload_fields S R counts places = head_fields S R ++ (row 8 R counts ++ row 12 S places)

-- What the answer says of signal s: its channel and its rank, or 255 and 0 where it is not placed.
unfoldable pub channel_for : Table → Places → ℕ → ℕ
channel_for T p s = pick (ltb (p s) T.channels) (p s) 255

unfoldable pub rank_for : Table → Places → ℕ → ℕ
rank_for T p s = pick (ltb (p s) T.channels) (T.rank s (p s)) 0

-- A place: 8 bits for the channel, then 4 for the rank.
abbrev pub place_for : Table → Places → ℕ → ℕ
place_for T p s = 16 * channel_for T p s + rank_for T p s

-- The fields of the answer to a table with a plan; the counts are the plan's line, rank 1 first.
unfoldable pub answer_fields : Table → Places → List Field
answer_fields T p = payload_fields T.signals T.ranks (line T p) (place_for T p)

unfoldable pub answer_of : Table → Places → List ℕ
answer_of T p = packed (answer_fields T p)

-- So many bytes has the payload of an answer with S signals and R ranks: 2 + R + ⌈3S/2⌉.
abbrev pub answer_length : ℕ → ℕ → ℕ
answer_length S R = 2 + R + (3 * S + 1) / 2

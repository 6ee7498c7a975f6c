-- An accepted payload unpacked, placed and tallied is solved (solved), and its answer written behind a header is the block that
-- is promised (written). Leans on the promises of unpack, placer, tally, answer and framing.
use Prim.Native.Nat.{ℕ, ◌+◌, ◌-◌, ◌≤◌}
use mathlib.Core.Path.{◌≡◌, refl, ap, sym, ◌∙◌}
use mathlib.Core.List.{List, ◌++◌}
use native.Mathlib.Omega.{arith}
use lib.ListN.{length, drop, length-append}
use borrow.Author.Tests.{lt-ltb, le-ltb}
use borrow.Rule.Slice.PartMut.{mid_of, put_mid}
use Rattle.units.specs.declared.Size.{Size}
use Rattle.units.specs.Limits.{Limits}
use Rattle.plans.specs.Plan.{Table, Places, Plan}
use Rattle.plans.specs.Tables.{pick}
use Rattle.plans.proofs.Sums.{by_under}
use Rattle.framing.specs.Framing.{longest, header_of, header_length, block_length, block_of, Headable, Heads}
use Rattle.framing.proofs.Framed.{length_header, header_within, block_behind}
use Rattle.tables.specs.Payload.{size_in}
use Rattle.tables.specs.Sound.{Sound}
use Rattle.work.specs.Input.{Input}
use Rattle.work.specs.State.{Mates}
use Rattle.work.specs.Ranks.{table_with, places, Ranks}
use Rattle.work.proofs.Input.{same_input}
use Rattle.work.proofs.Ranks.{same_ranks}
use Rattle.unpack.specs.Unpacking.{Unpacked}
use Rattle.unpack.proofs.Holding.{rank_of, table_of_size, ranks_unpacked}
use Rattle.placer.specs.Placing.{PlacedFrom}
use Rattle.placer.proofs.Best.{placed_from_best}
use Rattle.tally.specs.Tallying.{Placeable, Tallied}
use Rattle.tally.proofs.Placeable.{placeable_plan}
use Rattle.tally.proofs.Regions.{Recorded, recorded}
use Rattle.answer.specs.Answer.{channel_for, rank_for, answer_of, answer_length}
use Rattle.answer.specs.Writing.{Tells}
use Rattle.answer.proofs.Answered.{written_answer}
use Rattle.command.specs.Handling.{reply_length, Written}
use Rattle.command.specs.Inside.{counts_in, places_in, answer_in, Solved}
use Rattle.command.proofs.Answers.{answer_size}

-- the answer's length as the code computes it
pub reply_length_lem : (z : Size) {m n : ℕ} → m ≡ answer_length z.signals z.ranks → n ≡ block_length m → n ≡ reply_length z
unfolding reply_length
reply_length_lem z counts framed = framed ∙ ap block_length counts

-- What a tally records is what an answer tells.
tells : {T : Table} {p : Places} {counts places : List ℕ} → Recorded T p counts places → Tells T p counts places
unfolding channel_for rank_for pick
tells {T} {p} {counts} {places} r =
    record {
      ranks = r.ranks;
      signals = r.signals;
      count = r.count;
      place = λ s l.
          by_under (p s) T.channels
          (λ h one. rw (lt-ltb (p s) T.channels h) (r.placed s l h))
          (λ h nought. rw (le-ltb (p s) T.channels h) (r.unplaced s l h));
    }

-- A header that is in place ends inside its area.
pub header_inside : {m r : ℕ} {area after : List ℕ} → Heads m area r after → r ≤ length after
header_inside {m} {area = area} H =
    omega (arith, H.answer, ap length H.bytes ∙ length-append (header_of m) (drop (header_length m) area), length_header m)

module _ {p : List ℕ} {z : Size} (sound : Sound p) (is_size : z ≡ size_in p) where
  pub limits : Limits z
  limits = rw is_size sound.limits

  module _ {o u v : List ℕ} (U : Unpacked p z o u) (P : PlacedFrom z u v) where
    ranks : Ranks z (rank_of p) u
    ranks = ranks_unpacked p sound z is_size U

    input : Input z v
    input = same_input P.table U.input

    plan : Plan (table_with z (rank_of p)) (places v)
    plan = (P.placed (rank_of p) ranks).plan

    pub tallyable : Input z v × Mates z v × Placeable z v
    tallyable = (input, P.mates, placeable_plan U.input P.table ranks plan)

    pub solved : {w : List ℕ} → Tallied z v w → Solved p z w
    unfolding answer_in counts_in places_in
    solved {w} T =
        let table = table_of_size p sound z is_size in
        let told = tells (recorded input P.mates (same_ranks U.input P.table ranks) T) in
        let answer = written_answer told plan limits.few_signals limits.few_channels limits.few_ranks in
        record {
          writable = record { few_signals = limits.few_signals; few_ranks = limits.few_ranks; enough = omega (arith, T.below.size, input.room); fits = answer.0 };
          to = record { plan = places v; best = rw table at (placed_from_best ranks P); bytes = answer.1 ∙ ap (λ T. answer_of T (places v)) table };
        }

  -- the answer's length counts at most as many bytes as framing takes
  pub framable : answer_length z.signals z.ranks ≤ longest
  framable = omega (arith, limits.few_signals, limits.few_ranks)

  module _ {area : List ℕ} (room : reply_length z ≤ length area) where
    pub headable : {m : ℕ} → m ≡ answer_length z.signals z.ranks → Headable m area
    unfolding reply_length block_length
    headable counts = record { short = rw counts framable; room = rw counts (omega arith) }

    module _ {w : List ℕ} {m r : ℕ} {after : List ℕ} (D : Solved p z w) (H : Heads m area r after)
        (counts : m ≡ answer_length z.signals z.ranks) where
      bytes : List ℕ
      bytes = answer_in z.signals z.ranks w

      long : length bytes ≡ answer_length z.signals z.ranks
      unfolding bytes size_in
      long = answer_size D.to ∙ rw is_size refl

      fits : block_length (length bytes) ≤ length area
      unfolding reply_length
      fits = rw long room

      pub answer_within : r + answer_length z.signals z.ranks ≤ length area
      answer_within = rw long at (header_within bytes area H (counts ∙ sym long) fits)

      pub written : {last : List ℕ}
          → last ≡ answer_in z.signals z.ranks w ++ drop (answer_length z.signals z.ranks) (mid_of r (length after - r) after)
          → Written p area (put_mid r (length after - r) after last)
      unfolding bytes reply_length
      written {last} e =
          record {
            answer = bytes;
            to = D.to;
            bytes =
                block_behind bytes area H (counts ∙ sym long) last (e ∙ rw (sym long) refl)
                ∙ ap (λ n. block_of bytes ++ drop n area) (ap block_length long ∙ ap reply_length is_size);
          }

-- One signal is tallied: where it has no channel (one_unplaced), and where it has one, whose pair is then listed (taken_listed) and
-- whose rank counts (one_placed). Leans on proofs/PlaceRank.
use Prim.Native.Nat.{ℕ, suc, ◌+◌, ◌-◌, ◌*◌, ◌%◌, ◌≤◌, ◌<◌}
use mathlib.Core.Path.{◌≡◌, ◌∙◌}
use mathlib.Core.List.{List}
use native.Mathlib.Omega.{arith}
use Rattle.plans.specs.Numbers.{same}
use Rattle.plans.proofs.Sums.{same_no, by_same}
use Rattle.units.specs.declared.Size.{Size}
use Rattle.work.specs.Work.{at, none, CHANNEL, PLACE, COUNT, WHOLE, Put}
use Rattle.work.specs.Input.{Listed}
use Rattle.work.proofs.Area.{put_other, put_below, unchanged_trans}
use Rattle.tally.specs.Inside.{RankOf, RankFound, PlaceOf, SignalOf, TalliedOne}
use Rattle.tally.proofs.PlaceRank.{place_rank}

module _ {z : Size} {s c : ℕ} {v : List ℕ} (n : SignalOf z s v) (sits : c ≡ at v CHANNEL s) where
  few : s < 200
  few = omega (arith, n.signal, n.input.limits.few_signals)

  pub one_unplaced : {x : ℕ} {w : List ℕ} → c ≡ none → Put v PLACE s x w → x ≡ 16 * none → TalliedOne z s v w
  one_unplaced {x} {w} free p is =
      record {
        below = put_below p 0 WHOLE (omega arith);
        placed = λ k. absurd (omega (arith, n.input.limits.few_channels));
        unplaced = λ k. p.here ∙ is;
        others = λ t k ne. put_other p PLACE t (λ e. ne (omega arith));
        counts = λ i k.
            omega (arith, put_other p COUNT i (λ e. omega (arith, few)), same_no (at w PLACE s % 16) (suc i) (λ e. omega (arith, p.here)));
      }

  -- a signal that sits on a channel has its pair listed
  pub taken_listed : (c ≡ none → ⊥) → Listed z v s c
  taken_listed taken = rw (← sits) at (n.placeable.listed s n.signal (n.mates.placed s n.signal (λ e. taken (sits ∙ e))))

  module _ {r : ℕ} (taken : c ≡ none → ⊥) (found : RankFound v s c r) where
    rank_of_pair : RankOf z v s c r
    rank_of_pair = found.each z n.input (taken_listed taken)

    pair : Listed z v s c
    pair = rank_of_pair.listed

    pub ranked : 1 ≤ r
    unfolding pair
    ranked = omega (arith, rank_of_pair.is, n.input.ranked pair.entry pair.inside)

    pub within : r ≤ z.ranks
    unfolding pair
    within = omega (arith, rank_of_pair.is, n.input.within pair.entry pair.inside)

    module _ {k y : ℕ} {w : List ℕ} (p : Put v PLACE s y w) (count : k ≡ at w COUNT (r - 1)) where
      old_count : (i : ℕ) → at w COUNT i ≡ at v COUNT i
      old_count i = put_other p COUNT i (λ e. omega (arith, few))

      pub count_fits : ((i : ℕ) → i < z.ranks → at v COUNT i ≤ 200) → k ≤ 200
      count_fits small = omega (arith, small (r - 1) (omega (arith, ranked, within)), old_count (r - 1))

      module _ {m : ℕ} {x : List ℕ} (q : Put w COUNT (r - 1) m x) (is : y ≡ 16 * c + r) (up : m ≡ k + 1) where
        place : PlaceOf z v s c (at x PLACE s)
        place = record { rank = r; of = rank_of_pair; is = put_other q PLACE s (λ e. omega (arith, few)) ∙ p.here ∙ is }

        counted : (i : ℕ) → at x COUNT i ≡ at v COUNT i + same r (suc i)
        counted i =
            by_same r (suc i)
            (λ e h.
            let there : r - 1 ≡ i = omega arith in
            omega (arith, rw there at q.here, rw there at count, old_count i))
            (λ e h. omega (arith, put_other q COUNT i (λ d. e (omega (arith, ranked))), old_count i))

        pub one_placed : TalliedOne z s v x
        unfolding place
        one_placed =
            record {
              below = unchanged_trans (put_below q 0 WHOLE (omega arith)) (put_below p 0 WHOLE (omega arith));
              placed = λ m. rw (← sits) place;
              unplaced = λ m. absurd (taken (sits ∙ m));
              others = λ t m ne. put_other q PLACE t (λ e. omega arith) ∙ put_other p PLACE t (λ e. ne (omega arith));
              counts = λ i m. rw (place_rank place) (counted i);
            }

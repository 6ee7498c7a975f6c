-- Bytes written one after the other: a store (spliced_byte), what is written behind what was written (spliced_next), and from the
-- start (spliced_whole). Leans on specs/Writing.
use Prim.Native.Nat.{ℕ, ◌+◌, ◌≤◌, ◌<◌}
use mathlib.Core.Path.{◌≡◌, refl, ap, sym, ◌∙◌}
use mathlib.Core.List.{List, [], ◌∷◌, ◌++◌, append_assoc}
use native.Mathlib.Nat.{zero-add, add-zero}
use native.Mathlib.Numerals.{add-one}
use native.Mathlib.Omega.{arith}
use lib.ListN.{length, take, drop, set, length-set, length-append, take-append-drop}
use lib.Seq.{length-take-le, set_split, take_at, drop_at, drop-drop}
use Rattle.answer.specs.Writing.{Spliced}

pub spliced_none : (start : ℕ) (o : List ℕ) → Spliced start [] o o
spliced_none start o = record { size = refl; is = rw (add-zero start) (sym (take-append-drop start o)) }

pub spliced_byte : (i x : ℕ) (o : List ℕ) → i < length o → Spliced i (x ∷ []) o (set o i x)
spliced_byte i x o l = record { size = length-set o i x; is = set_split o i x l ∙ rw (add-one i) refl }

module _ {start : ℕ} {xs o p : List ℕ} (first : Spliced start xs o p) (within : start + length xs ≤ length o) where
  abbrev front : List ℕ
  front = take start o ++ xs

  length_front : length front ≡ start + length xs
  length_front = length-append (take start o) xs ∙ ap (λ (n : ℕ). n + length xs) (length-take-le start o (omega arith))

  split : p ≡ front ++ drop (start + length xs) o
  split = first.is ∙ sym (append_assoc (take start o) xs (drop (start + length xs) o))

  kept : take (start + length xs) p ≡ front
  kept = rw split (take_at front (drop (start + length xs) o) (start + length xs) length_front)

  behind : drop (start + length xs) p ≡ drop (start + length xs) o
  behind = rw split (drop_at front (drop (start + length xs) o) (start + length xs) length_front)

  further : (ys : List ℕ) → drop (start + length xs + length ys) p ≡ drop (start + length (xs ++ ys)) o
  further ys =
      let more : start + length (xs ++ ys) ≡ start + length xs + length ys = omega (arith, length-append xs ys) in
      rw (more, ← drop-drop (length ys) (start + length xs) p, behind) (drop-drop (length ys) (start + length xs) o)

  pub spliced_next : {ys q : List ℕ} → Spliced (start + length xs) ys p q → Spliced start (xs ++ ys) o q
  spliced_next {ys} next =
      record {
        size = next.size ∙ first.size;
        is =
            next.is
            ∙ rw (kept, further ys, append_assoc xs ys (drop (start + length (xs ++ ys)) o))
            (append_assoc (take start o) xs (ys ++ drop (start + length (xs ++ ys)) o));
      }

pub spliced_whole : {xs o q : List ℕ} → Spliced 0 xs o q → q ≡ xs ++ drop (length xs) o
spliced_whole {xs} {o} s = s.is ∙ rw (zero-add (length xs)) refl

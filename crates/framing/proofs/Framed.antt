-- How long headers and blocks are, and what an area holds where a payload stands behind its header (block_behind, framed).
use Prim.Native.Nat.{ℕ, ◌+◌, ◌-◌, ◌≤◌}
use mathlib.Core.Path.{◌≡◌, refl, ap, sym, ◌∙◌}
use mathlib.Core.List.{List, ◌++◌, append_assoc, append-nil}
use native.Mathlib.Omega.{arith}
use native.Mathlib.Nat.{le_of_eq}
use lib.ListN.{length, take, drop, length-drop, drop_of_length-le, length-append}
use lib.Seq.{take_at, drop_at, drop-drop}
use borrow.Author.Tests.{le-ltb}
use borrow.Rule.Slice.PartMut.{mid_of, put_mid}
use Rattle.std.proofs.Common.{Ok}
use Rattle.std.proofs.lemmas.List.{take_rest}
use Rattle.framing.proofs.Written.{length_digits}
use Rattle.framing.specs.Framing.{longest, width_of, header_of, block_of, header_length, block_length, framing_of, area_after, Frames, Heads}

pub length_header : (n : ℕ) → length (header_of n) ≡ header_length n
unfolding header_of header_length
length_header n = omega (arith, length_digits (width_of n) n)

pub length_block : (p : List ℕ) → length (block_of p) ≡ block_length (length p)
unfolding block_of block_length
length_block p = length-append (header_of (length p)) p ∙ ap (λ (h : ℕ). h + length p) (length_header (length p))

-- what the whole holds when its part from a to its end is back as ys
tail_back : (a : ℕ) (xs ys : List ℕ) → put_mid a (length xs - a) xs ys ≡ take a xs ++ ys
tail_back a xs ys =
    ap (λ (l : List ℕ). take a xs ++ (ys ++ l)) (drop_of_length-le (drop a xs) (le_of_eq (length-drop a xs)))
    ∙ ap (λ (l : List ℕ). take a xs ++ l) (append-nil ys)

-- A header that counts the bytes of b is in place: behind it the area is as it was, and with b there it holds the block of b.
module _ (b area : List ℕ) {m r : ℕ} {after : List ℕ} (w : Heads m area r after) (counts : m ≡ length b) where
  head : Heads (length b) area r after
  head = rw counts at w

  pub header_within : block_length (length b) ≤ length area → r + length b ≤ length area
  unfolding block_length
  header_within room = omega (arith, head.answer)

  header_size : length (header_of (length b)) ≡ r
  header_size = length_header (length b) ∙ sym head.answer

  payload_behind : take r after ++ (b ++ drop (length b) (drop r after)) ≡ block_of b ++ drop (block_length (length b)) area
  unfolding block_of block_length
  payload_behind =
      rw (before, behind, drop-drop (length b) (header_length (length b)) area)
      (sym (append_assoc (header_of (length b)) b (drop (header_length (length b) + length b) area)))
    where
      behind : drop r after ≡ drop (header_length (length b)) area
      behind = rw head.bytes (drop_at (header_of (length b)) (drop (header_length (length b)) area) r header_size)

      before : take r after ≡ header_of (length b)
      before = rw head.bytes (take_at (header_of (length b)) (drop (header_length (length b)) area) r header_size)

  pub block_behind : (last : List ℕ) → last ≡ b ++ drop (length b) (mid_of r (length after - r) after)
      → put_mid r (length after - r) after last ≡ block_of b ++ drop (block_length (length b)) area
  block_behind last e =
      tail_back r after last
      ∙ rw (e, take_rest after r) payload_behind

  pub framed : length b ≤ longest → (whole : ℕ) → whole ≡ block_length (length b) → whole ≤ length area
      → Frames b area (Ok (record { 0 = whole })) (put_mid r (whole - r) after b)
  unfolding framing_of area_after block_length
  framed short whole long fits =
      let count : whole - r ≡ length b = omega (arith, head.answer) in
      record {
        answer = rw (le-ltb longest (length b) short, le-ltb (length area) (block_length (length b)) (omega (arith, long)), long) refl;
        bytes = rw (count, long) payload_behind;
      }

  -- the same where it is told by other terms where the part starts and how long it is
  pub framed_at : length b ≤ longest → (whole : ℕ) → whole ≡ block_length (length b) → whole ≤ length area → (from count : ℕ) → from ≡ r
      → count ≡ length b → Frames b area (Ok (record { 0 = whole })) (put_mid from count after b)
  unfolding block_length
  framed_at short whole long fits from count starts counted =
      let same : count ≡ whole - r = omega (arith, head.answer) in
      rw (starts, same) (framed short whole long fits)

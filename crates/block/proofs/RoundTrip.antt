-- What is framed is read back the same. Main results: the framed block is a definite block that marks the payload, its header
-- counting bytes (framed_definite, header_counts_bytes), so opening it hands the payload back (framed_opens); and no definite
-- block of the payload is shorter (framed_shortest).
-- Leans on Forms, and on the laws of opening and framing.
use Prim.Native.Nat.{ℕ, zero, suc, ◌+◌, ◌/◌, ◌%◌, ◌^◌, ◌≤◌, ◌<◌}
use mathlib.Core.Path.{◌≡◌, refl, ap, sym, ◌∙◌}
use mathlib.Core.Bool.{true}
use mathlib.Core.List.{List, []}
use native.Mathlib.Nat.{pow-suc, pow-zero, pow-le-pow_right}
use native.Mathlib.Omega.{arith}
use lib.ListN.{length, get_or, length-drop}
use lib.Seq.{get_or_at, drop_at}
use Rattle.std.proofs.lemmas.Bool.Decides.{nat_tests}
use Rattle.std.proofs.lemmas.Grind.{common_steps}
use Rattle.opening.specs.Header.{digits_at2, count_at2}
use Rattle.opening.proofs.Digits.{digit_yes, header_inside, count_below}
use Rattle.framing.specs.Framing.{longest, width_of, digits_of, header_of, header_length, block_of, block_length}
use Rattle.framing.proofs.Written.{length_digits}
use Rattle.framing.proofs.Framed.{length_header, length_block}
use Rattle.block.specs.Forms.{DefiniteForm, HandsBack}
use Rattle.block.specs.Forms.Block.{definite}
use Rattle.block.proofs.Forms.{form_opened}

-- How wide a number is: it has from one to four digits, it fits them, and it does not fit fewer.
record Wide (n k : ℕ) : Type 0 where
  some : 1 ≤ k
  few : k ≤ 4
  fits : n < 10 ^ k
  least : (j : ℕ) → 1 ≤ j → n < 10 ^ j → k ≤ j

-- a number that needs more than m digits does not fit j of them for j up to m
more : (n m j : ℕ) → 10 ^ m ≤ n → n < 10 ^ j → m < j
more n m j l h = grind (arith, pow-le-pow_right {n = 10} (omega arith) {i = j} {j = m})

wide : (n : ℕ) → n ≤ longest → Wide n (width_of n)
unfolding width_of
wide n short =
    record {
      some = grind (arith, nat_tests);
      few = grind (arith, nat_tests);
      fits = grind (arith, nat_tests);
      least = λ j l h. grind (arith, nat_tests, more n 1 j, more n 2 j, more n 3 j);
    }

-- Bytes that hold the k digits of n from index 2 on are digits, and are read as n.
read_digits : (s : List ℕ) (k n : ℕ) → n < 10 ^ k → ((j : ℕ) → j < k → get_or s (2 + j) 0 ≡ get_or (digits_of k n) j 0)
    → (digits_at2 s k ≡ true) × (count_at2 s k ≡ n)
unfolding digits_of digits_at2 count_at2
read_digits s zero n l h = (refl, omega (arith, pow-zero 10))
read_digits s (suc k) n l h =
    let size = length_digits k (n / 10) in
    let last : get_or s (2 + k) 0 ≡ 48 + n % 10 = h k (omega arith) ∙ get_or_at (digits_of k (n / 10)) (48 + n % 10) [] 0 k size in
    let less = read_digits s k (n / 10) (omega (arith, pow-suc 10 k)) (λ j m. grind (arith, common_steps, h j)) in
    (rw (less.0, last) (digit_yes (48 + n % 10) (omega arith) (omega arith)), rw (less.1, last) (omega arith))

header_size : (n : ℕ) → length (header_of n) ≡ 2 + width_of n
unfolding header_length
header_size = length_header

module _ (p : List ℕ) (short : length p ≤ longest) where
  w : Wide (length p) (width_of (length p))
  w = wide (length p) short

  digits_there : (j : ℕ) → j < width_of (length p) → get_or (block_of p) (2 + j) 0 ≡ get_or (digits_of (width_of (length p)) (length p)) j 0
  unfolding block_of header_of
  digits_there j l = grind (arith, common_steps, length_digits (width_of (length p)) (length p))

  read : (digits_at2 (block_of p) (width_of (length p)) ≡ true) × (count_at2 (block_of p) (width_of (length p)) ≡ length p)
  read = read_digits (block_of p) (width_of (length p)) (length p) w.fits digits_there

  -- The header of a framed block counts the bytes of its payload.
  pub header_counts_bytes : count_at2 (block_of p) (width_of (length p)) ≡ length p
  header_counts_bytes = read.1

  -- A framed block is a definite block, and marks the payload.
  pub framed_definite : DefiniteForm (block_of p) p
  unfolding block_of header_of
  framed_definite =
      record {
        start = 2 + width_of (length p);
        header =
            record {
              k = width_of (length p);
              some = w.some;
              few = omega (arith, w.few);
              mark = refl;
              form = refl;
              digits = read.0;
              at = refl;
              value = sym read.1;
            };
        rest = drop_at (header_of (length p)) p (2 + width_of (length p)) (header_size (length p));
      }

  -- Opening a framed block succeeds and hands back the payload.
  pub framed_opens : HandsBack (block_of p) p
  framed_opens = form_opened (block_of p) p (definite framed_definite)

  -- No definite block of the payload is shorter.
  pub framed_shortest : (s : List ℕ) → DefiniteForm s p → length (block_of p) ≤ length s
  unfolding block_length header_length
  framed_shortest s f =
      let h = f.header in
      omega (
        arith,
        length_block p,
        sym (length-drop f.start s) ∙ ap length f.rest,
        h.at,
        header_inside s h.k h.some h.digits,
        w.least h.k h.some (omega (arith, h.value, count_below s h.k h.digits)),
      )

-- Writing a header: what each digit put adds (digit_put), and what the area holds in the end (head_written).
-- Leans on specs/Framing.
use Prim.Native.Nat.{ℕ, zero, suc, ◌+◌, ◌-◌, ◌/◌, ◌%◌, ◌≤◌}
use mathlib.Core.Path.{◌≡◌, refl, ap, sym, ◌∙◌}
use mathlib.Core.List.{List, [], ◌∷◌, ◌++◌, append_assoc}
use native.Mathlib.Omega.{arith}
use lib.ListN.{length, take, drop, set, length-append}
use borrow.Rule.Slice.PartMut.{mid_of, put_mid}
use lib.Seq.{length-take-le}
use native.Mathlib.Numerals.{add-one}
use Rattle.std.proofs.lemmas.List.{drop-set}
use Rattle.framing.specs.Framing.{width_of, digits_of, header_of, header_length, Heads}

pub length_digits : (k n : ℕ) → length (digits_of k n) ≡ k
unfolding digits_of
length_digits zero n = refl
length_digits (suc k) n = simp (length-append, length_digits k (n / 10)) (omega arith)

-- With i digits of `left` still to write, its last one goes straight before what stands from i on.
pub digit_put : (now : List ℕ) (i j left : ℕ) → j + 1 ≡ i → i ≤ length now
    → digits_of j (left / 10) ++ drop j (set now j (48 + left % 10)) ≡ digits_of i left ++ drop i now
unfolding digits_of
digit_put now i j left next within =
    let here : drop j (set now j (48 + left % 10)) ≡ (48 + left % 10) ∷ drop (suc j) now = drop-set now j _ (omega arith) ∙ rw add-one refl in
    let count : i ≡ suc j = omega arith in
    rw (count, here) (sym (append_assoc (digits_of j (left / 10)) ((48 + left % 10) ∷ []) (drop (suc j) now)))

pub digits_done : (now : List ℕ) (i left : ℕ) → i ≤ 0 → digits_of i left ++ drop i now ≡ now
unfolding digits_of
digits_done now zero left done = refl
digits_done now (suc i) left done = absurd (omega arith)

-- The area with its first two bytes stored, and the digits behind them, has the header.
pub head_written : (n k : ℕ) → k ≡ width_of n → (area : List ℕ) → 2 + k ≤ length area
    → (let room = set (set area 0 35) 1 (48 + k) in
    Heads n area (2 + k) (put_mid 2 (2 + k - 2) room (digits_of (length (mid_of 2 (2 + k - 2) room)) n)))
unfolding header_length header_of
head_written n k wide [] h = absurd (omega arith)
head_written n k wide (x ∷ []) h = absurd (omega arith)
head_written n k wide (x ∷ y ∷ rest) h =
    let digits : 2 + k - 2 ≡ k = omega arith in
    let size : length (take k rest) ≡ k = length-take-le k rest (omega arith) in
    let two : 2 + k ≡ suc (suc k) = omega arith in
    let behind : drop (2 + k) (x ∷ y ∷ rest) ≡ drop k rest = ap (λ (i : ℕ). drop i (x ∷ y ∷ rest)) two in
    record { answer = rw (← wide) refl; bytes = rw (← wide, digits, size, behind) refl }

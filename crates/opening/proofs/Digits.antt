-- Reading a definite header's count: what the loop over its digits keeps (Counting), and what each way out of it means.
-- Leans on specs/Header.
use Prim.Native.Nat.{ℕ, zero, suc, ◌+◌, ◌-◌, ◌*◌, ◌^◌, ◌≤◌, ◌<◌}
use mathlib.Core.Path.{◌≡◌, refl}
use mathlib.Core.Bool.{true, false}
use mathlib.Core.List.{List}
use native.Mathlib.Nat.{pow-suc, pow-zero, pow-le-pow_right}
use native.Mathlib.Numerals.{add-one}
use native.Mathlib.Omega.{arith}
use lib.ListN.{length, get_or}
use Rattle.std.specs.Prelude.{Ok, Err}
use Rattle.std.proofs.Common.{rules}
use Rattle.std.proofs.lemmas.Bool.{cond_both}
use Rattle.std.proofs.lemmas.Bool.Decides.{nat_tests}
use Rattle.std.proofs.lemmas.Grind.{common_steps}
use Rattle.units.specs.declared.refusals.Refusal.TheVariants.{NoDigit}
use Rattle.opening.specs.Header.{is_digit, digits_at2, count_at2, first_other, counting, counted_in}

-- One digit

pub digit_yes : (b : ℕ) → 48 ≤ b → b ≤ 57 → is_digit b ≡ true
unfolding is_digit
digit_yes b l h = grind (arith, nat_tests)

pub digit_least : (b : ℕ) → is_digit b ≡ true → 48 ≤ b
unfolding is_digit
digit_least b e = grind (arith, nat_tests)

pub digit_most : (b : ℕ) → is_digit b ≡ true → b ≤ 57
unfolding is_digit
digit_most b e = grind (arith, nat_tests)

-- a byte that is not 0 stands in the input, and so does a digit
pub stands : (s : List ℕ) (i : ℕ) → 0 < get_or s i 0 → i < length s
stands s i h = grind (arith, common_steps)

pub digit_stands : (s : List ℕ) (i : ℕ) → is_digit (get_or s i 0) ≡ true → i < length s
digit_stands s i e = stands s i (omega (arith, digit_least (get_or s i 0) e))

-- The digits from index 2 on

module _ (s : List ℕ) where
  -- all of them are digits, and each is
  pub digits_each : (n j : ℕ) → digits_at2 s n ≡ true → j < n → is_digit (get_or s (2 + j) 0) ≡ true
  unfolding digits_at2
  digits_each zero j e l = absurd (omega arith)
  digits_each (suc n) j e l = grind (arith, nat_tests, digits_each n j)

  pub digits_all : (n : ℕ) → ((j : ℕ) → j < n → is_digit (get_or s (2 + j) 0) ≡ true) → digits_at2 s n ≡ true
  unfolding digits_at2
  digits_all zero h = refl
  digits_all (suc n) h = grind (arith, nat_tests, digits_all n (λ j l. h j (omega arith)), h n)

  -- where they are digits, the header lies within the input
  pub header_inside : (k : ℕ) → 1 ≤ k → digits_at2 s k ≡ true → 2 + k ≤ length s
  header_inside zero l e = absurd (omega arith)
  header_inside (suc k) l e = omega (arith, digit_stands s (2 + k) (digits_each (suc k) k e (omega arith)))

  -- every number read from k digits is below 10 ^ k
  pub count_below : (k : ℕ) → digits_at2 s k ≡ true → count_at2 s k < 10 ^ k
  unfolding digits_at2 count_at2 is_digit
  count_below zero e = omega (arith, pow-zero 10)
  count_below (suc k) e = grind (arith, nat_tests, pow-suc 10 k, count_below k)

  -- One byte that is no digit spoils all counts that reach it; and where it is the first, it is the one that is found.
  digits_spoilt : (i k : ℕ) → i < k → is_digit (get_or s (2 + i) 0) ≡ false → digits_at2 s k ≡ false
  unfolding digits_at2
  digits_spoilt i zero l h = absurd (omega arith)
  digits_spoilt i (suc k) l h = grind (arith, nat_tests, digits_spoilt i k)

  first_found : (i k : ℕ) → i < k → digits_at2 s i ≡ true → is_digit (get_or s (2 + i) 0) ≡ false → first_other s k ≡ 2 + i
  unfolding first_other
  first_found i zero l d h = absurd (omega arith)
  first_found i (suc k) l d h = grind (arith, nat_tests, first_found i k, digits_spoilt i k)

  pub counted_spoilt : (i k : ℕ) → i < k → digits_at2 s i ≡ true → is_digit (get_or s (2 + i) 0) ≡ false → counted_in s k ≡ Err (NoDigit (2 + i))
  unfolding counted_in
  counted_spoilt i k l d h = grind (arith, nat_tests, digits_spoilt i k, first_found i k)

  -- j digits, and then the byte that is none
  pub record Spoilt (k i : ℕ) : Type 0 where
    pub j : ℕ
    pub few : j < k
    pub at : i ≡ 2 + j
    pub digits : digits_at2 s j ≡ true
    pub other : is_digit (get_or s (2 + j) 0) ≡ false

  pub first_spoils : (k : ℕ) → digits_at2 s k ≡ false → Spoilt k (first_other s k)
  unfolding first_other digits_at2
  first_spoils zero e = absurd cc
  first_spoils (suc k) e =
      cond_both (digits_at2 s k) (2 + k) (first_other s k) (Spoilt (suc k))
      (λ d. record { j = k; few = omega arith; at = refl; digits = d; other = grind (arith, nat_tests) })
      (λ d. let f = first_spoils k d in record { j = f.j; few = omega (arith, f.few); at = f.at; digits = f.digits; other = f.other })

-- After i of k digits: they are digits, and count is the number they write, which is below 10 ^ i.
pub record Counting (s : List ℕ) (k count i : ℕ) : Type 0 where
  pub within : i ≤ k
  pub digits : digits_at2 s i ≡ true
  pub value : count ≡ count_at2 s i
  pub small : count < 10 ^ i

pub counting_none : (s : List ℕ) (k : ℕ) → Counting s k 0 0
unfolding digits_at2 count_at2
counting_none s k = search rules

pub counting_more : {s : List ℕ} {k count i : ℕ} → Counting s k count i → i < k → is_digit (get_or s (2 + i) 0) ≡ true
    → Counting s k (count * 10 + (get_or s (2 + i) 0 - 48)) (i + 1)
unfolding digits_at2 count_at2 is_digit
counting_more {s} {k} {count} {i} n l digit =
    rw (add-one i) (record { within = omega arith; digits = rw n.digits digit; value = rw (← n.value) refl; small = grind (arith, nat_tests, pow-suc 10 i) })

-- while a ninth digit is to come, the count has room in 64 bits
pub counting_fits : {s : List ℕ} {k count i : ℕ} → Counting s k count i → i ≤ 9 → count < 1000000000
counting_fits {i = i} n h = omega (arith, n.small, pow-le-pow_right {n = 10} (omega arith) {i = i} {j = 9} h)

-- all digits read
pub counted_read : {s : List ℕ} {k count : ℕ} → Counting s k count k → counted_in s k ≡ Ok (counting (2 + k) count)
unfolding counted_in
counted_read n = rw (n.digits, ← n.value)

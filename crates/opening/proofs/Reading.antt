-- What reading a header answers: a law for each way to it (header_unmarked .. header_counted). Main results: the answer tells what is
-- true of the bytes (header_says), and only that answer does (says_header); so a digit is missing at exactly the byte that is named.
-- Leans on Digits.
use Prim.Native.Nat.{ℕ, ◌+◌, ◌-◌, ◌≤◌, ◌<◌}
use mathlib.Core.Path.{◌≡◌, refl, ap, sym, ◌∙◌}
use mathlib.Core.Bool.{Bool, true, false}
use mathlib.Core.List.{List, [], ◌∷◌}
use native.Mathlib.Decide.{ℕ_discrete}
use native.Mathlib.Omega.{arith}
use lib.ListN.{length, get_or}
use Rattle.std.proofs.lemmas.Bool.{cond_both}
use Rattle.std.proofs.lemmas.Bool.Decides.{nat_tests}
use Rattle.std.specs.Prelude.{Result, Ok, Err}
use Rattle.units.specs.declared.refusals.Refusal.{Refusal}
use Rattle.units.specs.declared.refusals.Refusal.TheVariants.{NoMark, NoDigit}
use Rattle.opening.specs.declared.headers.Part.{Part}
use Rattle.opening.specs.declared.headers.Header.{Header}
use Rattle.opening.specs.declared.headers.Header.TheVariants.{OpenEnded, Counted}
use Rattle.opening.specs.Header.{is_digit, digits_at2, count_at2, first_other, counting, counted_in, header_in, Missing, Counts, HeaderSays}
use Rattle.opening.proofs.Digits.{digit_yes, digit_least, digit_most, stands, digit_stands, digits_each, digits_all, header_inside, counted_spoilt, first_spoils, Spoilt}

module _ (s : List ℕ) where
  pub header_unmarked : (get_or s 0 0 ≡ 35 → ⊥) → header_in s ≡ Err NoMark
  unfolding header_in
  header_unmarked h = grind (arith, nat_tests)

  module _ (marked : get_or s 0 0 ≡ 35) where
    pub header_undigited : is_digit (get_or s 1 0) ≡ false → header_in s ≡ Err (NoDigit 1)
    unfolding header_in
    header_undigited h = grind (arith, nat_tests)

    pub header_ended : get_or s 1 0 ≡ 48 → header_in s ≡ Ok OpenEnded
    unfolding header_in is_digit
    header_ended e = grind (arith, nat_tests)

    pub header_counted : is_digit (get_or s 1 0) ≡ true → (get_or s 1 0 ≡ 48 → ⊥) → header_in s ≡ counted_in s (get_or s 1 0 - 48)
    unfolding header_in
    header_counted d h = grind (arith, nat_tests)

    -- From the bytes to what the answer tells

    -- byte 1 is no digit
    undigited_says : is_digit (get_or s 1 0) ≡ false → HeaderSays s (Err (NoDigit 1))
    unfolding HeaderSays
    undigited_says h =
        record {
          mark = marked;
          behind = omega arith;
          needed = omega arith;
          before = λ j l m. absurd (omega arith);
          other = h;
          within = stands s 0 (omega arith);
        }

    -- byte 1 asks for digits
    module _ (digit : is_digit (get_or s 1 0) ≡ true) (some : get_or s 1 0 ≡ 48 → ⊥) where
      k : ℕ
      k = get_or s 1 0 - 48

      spoilt_missing : (i : ℕ) → Spoilt s k i → Missing s i
      unfolding k
      spoilt_missing i f =
          record {
            mark = marked;
            behind = omega (arith, f.at);
            needed = omega (arith, f.at, f.few);
            before = digits;
            other = rw f.at f.other;
            within = omega (arith, f.at, digit_stands s (1 + f.j) (digits (1 + f.j) (omega arith) (omega (arith, f.at))));
          }
        where
          digits : (j : ℕ) → 1 ≤ j → j < i → is_digit (get_or s j 0) ≡ true
          digits j l m = go (ℕ_discrete j 1)
            where
              go : Dec (j ≡ 1) → is_digit (get_or s j 0) ≡ true
              go (yes e) = rw e digit
              go (no e) =
                  let same : j ≡ 2 + (j - 2) = omega arith in
                  rw same (digits_each s f.j (j - 2) f.digits (omega (arith, f.at)))

      counted_says : HeaderSays s (counted_in s k)
      unfolding HeaderSays counted_in counting k
      counted_says =
          cond_both (digits_at2 s k) (Ok (counting (2 + k) (count_at2 s k))) (Err (NoDigit (first_other s k))) (HeaderSays s)
          (λ e. record {
            k = k;
            some = omega (arith, low, some);
            few = omega (arith, high);
            mark = marked;
            form = omega (arith, low);
            digits = e;
            at = refl;
            value = refl;
          })
          (λ e. spoilt_missing (first_other s k) (first_spoils s k e))
        where
          low : 48 ≤ get_or s 1 0
          low = digit_least (get_or s 1 0) digit

          high : get_or s 1 0 ≤ 57
          high = digit_most (get_or s 1 0) digit

  -- What the answer tells is true.
  pub header_says : HeaderSays s (header_in s)
  unfolding HeaderSays k
  header_says = mark (ℕ_discrete (get_or s 0 0) 35)
    where
      digit : (m : get_or s 0 0 ≡ 35) (b : Bool) → is_digit (get_or s 1 0) ≡ b → Dec (get_or s 1 0 ≡ 48) → HeaderSays s (header_in s)
      digit m false d e = rw (header_undigited m d) (undigited_says m d)
      digit m true d (yes e) = rw (header_ended m e) (record { mark = m; form = e })
      digit m true d (no e) = rw (header_counted m d e) (counted_says m d e)

      mark : Dec (get_or s 0 0 ≡ 35) → HeaderSays s (header_in s)
      mark (yes m) = digit m (is_digit (get_or s 1 0)) refl (ℕ_discrete (get_or s 1 0) 48)
      mark (no m) = rw (header_unmarked m) m

  -- From what an answer tells to the answer

  missing_header : (i : ℕ) → Missing s i → header_in s ≡ Err (NoDigit i)
  missing_header i f = go (ℕ_discrete i 1)
    where
      go : Dec (i ≡ 1) → header_in s ≡ Err (NoDigit i)
      go (yes e) = header_undigited f.mark (rw e at f.other) ∙ ap (λ (j : ℕ). Err (NoDigit j)) (sym e)
      go (no e) =
          let first : is_digit (get_or s 1 0) ≡ true = f.before 1 (omega arith) (omega (arith, f.behind)) in
          let same : 2 + (i - 2) ≡ i = omega (arith, f.behind) in
          header_counted f.mark first (λ z. omega (arith, f.needed, f.behind))
          ∙ counted_spoilt s (i - 2) (get_or s 1 0 - 48) (omega (arith, f.needed, f.behind))
          (digits_all s (i - 2) (λ j l. f.before (2 + j) (omega arith) (omega arith)))
          (rw same f.other)
          ∙ ap (λ (j : ℕ). Err (NoDigit j)) same

  pub counts_header : {start n : ℕ} → Counts s start n → header_in s ≡ Ok (counting start n)
  unfolding counted_in
  counts_header {start} {n} f =
      let k : get_or s 1 0 - 48 ≡ f.k = omega (arith, f.form) in
      header_counted f.mark (digit_yes (get_or s 1 0) (omega (arith, f.form)) (omega (arith, f.form, f.few))) (λ z. omega (arith, f.form, f.some))
      ∙ rw (k, f.digits, f.at, f.value) refl

  -- No other answer would be true.
  pub says_header : (h : Result Header Refusal) → HeaderSays s h → header_in s ≡ h
  unfolding HeaderSays counting
  says_header (Err NoMark) f = header_unmarked f
  says_header (Err (NoDigit i)) f = missing_header i f
  says_header (Err other) f = absurd f
  says_header (Ok OpenEnded) f = header_ended f.mark f.form
  says_header (Ok (Counted part)) f = counts_header f

-- How far a header reaches

pub ended_long : (s : List ℕ) → Ok OpenEnded ≡ header_in s → 2 ≤ length s
unfolding HeaderSays
ended_long s e = stands s 1 (omega (arith, (rw (← e) at (header_says s)).form))

pub counted_long : (s : List ℕ) (part : Part) → Ok (Counted part) ≡ header_in s → part.start ≤ length s
unfolding HeaderSays
counted_long s part e =
    let f = rw (← e) at (header_says s) in
    omega (arith, f.at, header_inside s f.k f.some f.digits)

-- Where a digit is missing: `#`, `#x`, `#1a`, and `#9` with eight digits.

missing_alone : header_in (35 ∷ []) ≡ Err (NoDigit 1)
unfolding header_in is_digit
missing_alone = refl

missing_form : header_in (35 ∷ 120 ∷ []) ≡ Err (NoDigit 1)
unfolding header_in is_digit
missing_form = refl

missing_count : header_in (35 ∷ 49 ∷ 97 ∷ []) ≡ Err (NoDigit 2)
unfolding header_in is_digit counted_in digits_at2 first_other
missing_count = refl

missing_ninth : header_in (35 ∷ 57 ∷ 48 ∷ 48 ∷ 48 ∷ 48 ∷ 48 ∷ 48 ∷ 48 ∷ 48 ∷ []) ≡ Err (NoDigit 10)
unfolding header_in is_digit counted_in digits_at2 first_other
missing_ninth = refl

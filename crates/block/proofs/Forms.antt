-- Opening a block yields exactly the bytes that its form marks: what opens is a block of one of the two forms and its payload
-- is what is handed back (opened_form), and every block of either form opens (form_opened).
-- Leans on opening's laws of the header and of how a block must end.
use Prim.Native.Nat.{ℕ, suc, ◌+◌, ◌-◌, ◌<◌}
use mathlib.Core.Path.{◌≡◌, refl, ap, sym, ◌∙◌}
use mathlib.Core.List.{List, [], ◌∷◌, ◌++◌}
use native.Mathlib.Omega.{arith}
use lib.ListN.{length, get_or, take, drop, length-drop, length-take, take-append-drop, drop_of_length-le}
use lib.Seq.{take_all, take_at, get_or-take, drop-cons}
use lib.Dec.{eqb}
use borrow.Author.Tests.{eqb-true, eqb-false}
use Rattle.std.proofs.lemmas.List.Sums.{position_or_len_is, passes_at_first, fails_before_first}
use Rattle.std.specs.Prelude.{Result, Ok, Err}
use Rattle.std.proofs.lemmas.Bool.{cond_both}
use Rattle.std.proofs.lemmas.Bool.Decides.{nat_tests}
use Rattle.std.proofs.lemmas.Grind.{common_steps}
use Rattle.units.specs.declared.refusals.Refusal.{Refusal}
use Rattle.units.specs.declared.refusals.Refusal.TheVariants.{NoMark, NoDigit, WrongEnd}
use Rattle.units.specs.Refusals.{status_of}
use Rattle.opening.specs.declared.headers.Part.{Part}
use Rattle.opening.specs.declared.headers.Header.{Header}
use Rattle.opening.specs.declared.headers.Header.TheVariants.{OpenEnded, Counted}
use Rattle.opening.specs.Header.{OpenHeader, header_in, counting, Counts, HeaderSays}
use Rattle.opening.specs.Opening.{index_of, ended_of, counted_of, opening_by, opening_of, opening_start, opening_length, payload_of, from}
use Rattle.opening.proofs.Digits.{header_inside}
use Rattle.opening.proofs.Reading.{header_says, header_ended, counts_header}
use Rattle.opening.proofs.Ending.{opening_from, counted_ends}
use Rattle.block.specs.Forms.{DefiniteForm, OpenEndedForm, Block, HandsBack}
use Rattle.block.specs.Forms.Block.{definite, open_ended}

-- The first b of a list

index_at : (b : ℕ) (t : List ℕ) → index_of b t < length t → get_or t (index_of b t) 0 ≡ b
unfolding index_of
index_at b t l = eqb-true (get_or t (index_of b t) 0) b (passes_at_first (λ x. eqb x b) t 0 l)

index_before : (b : ℕ) (t : List ℕ) (i : ℕ) → i < index_of b t → get_or t i 0 ≡ b → ⊥
unfolding index_of
index_before b t i l e = eqb-false (get_or t i 0) b (fails_before_first (λ x. eqb x b) t i 0 l) e

index_append : (b : ℕ) (p rest : List ℕ) → ((i : ℕ) → i < length p → get_or p i 0 ≡ b → ⊥) → index_of b (p ++ (b ∷ rest)) ≡ length p
unfolding index_of
index_append b p rest h =
    position_or_len_is (λ x. eqb x b) (p ++ (b ∷ rest)) (length p) 0 (grind (arith, common_steps))
    (λ k l. grind (arith, nat_tests, common_steps, h k)) (λ l. grind (arith, nat_tests, common_steps))

-- What an answer of opening s hands back is a payload that a form marks, if the answer is no refusal.
Marks : (List ℕ → List ℕ → Type 0) → List ℕ → Result Part Refusal → Type 0
Marks Form s o = (status_of o).number ≡ 0 → Form s (take (opening_length o) (drop (opening_start o) s))

-- The open-ended form

-- a list whose first newline is its last element
ended_rest : (t : List ℕ) → index_of 10 t + 1 ≡ length t → t ≡ take (index_of 10 t) t ++ (10 ∷ [])
ended_rest t e =
    let n : ℕ = index_of 10 t in
    sym (take-append-drop n t)
    ∙ ap (λ (l : List ℕ). take n t ++ l)
    (drop-cons t n 0 (omega arith)
    ∙ ap (λ (l : List ℕ). get_or t n 0 ∷ l) (drop_of_length-le t {i = suc n} (omega arith))
    ∙ ap (λ (b : ℕ). b ∷ []) (index_at 10 t (omega arith)))

ended_form : (s : List ℕ) → OpenHeader s → Marks OpenEndedForm s (ended_of s)
unfolding Marks ended_of from
ended_form s header =
    let n = index_of 10 (drop 2 s) in
    cond_both (eqb (2 + n + 1) (length s)) (from 2 n) (Err (WrongEnd 2)) (Marks OpenEndedForm s)
    (λ e z.
    let whole : n + 1 ≡ length (drop 2 s) = omega (arith, length-drop 2 s, eqb-true (2 + n + 1) (length s) e) in
    record {
      header = header;
      rest = ended_rest (drop 2 s) whole;
      plain = λ i l h. index_before 10 (drop 2 s) i (omega (arith, length-take n (drop 2 s))) (sym (get_or-take n (drop 2 s) i 0 (omega (arith, length-take n (drop 2 s)))) ∙ h);
    })
    (λ e z. absurd (omega (arith, z)))

ended_opens : (s p : List ℕ) → OpenEndedForm s p → ended_of s ≡ from 2 (length p)
unfolding ended_of
ended_opens s p f =
    let n : index_of 10 (drop 2 s) ≡ length p = rw f.rest (index_append 10 p [] f.plain) in
    rw n (grind (arith, nat_tests, common_steps, f.rest))

-- The definite form

counted_form : (s : List ℕ) (start n : ℕ) → Counts s start n → Marks DefiniteForm s (counted_of s start n)
unfolding Marks counted_of from
counted_form s start n f =
    cond_both (eqb (start + n) (length s)) (from start n) (Err (WrongEnd start)) (Marks DefiniteForm s)
    (λ e z.
    let size : length (drop start s) ≡ n = omega (arith, length-drop start s, eqb-true (start + n) (length s) e) in
    let whole : take n (drop start s) ≡ drop start s = take_all n (drop start s) (omega arith) in
    record { start = start; header = rw (whole, size) f; rest = sym whole })
    (λ e z. absurd (omega (arith, z)))

definite_opens : (s p : List ℕ) (f : DefiniteForm s p) → opening_of s ≡ from f.start (length p)
unfolding opening_by counting
definite_opens s p f =
    let h = f.header in
    let size : length s - f.start ≡ length p = grind (arith, common_steps, f.rest) in
    opening_from s (header_in s) (Ok (counting f.start (length p))) refl (counts_header s h)
    ∙ counted_ends s f.start (length p) (omega (arith, size, h.at, header_inside s h.k h.some h.digits))

-- Either form

marks_by : (s : List ℕ) (h : Result Header Refusal) → HeaderSays s h → Marks Block s (opening_by s h)
unfolding HeaderSays opening_by Marks
marks_by s (Err NoMark) f z = absurd (omega (arith, z))
marks_by s (Err (NoDigit i)) f z = absurd (omega (arith, z))
marks_by s (Err other) f z = absurd f
marks_by s (Ok OpenEnded) f z = open_ended (ended_form s f z)
marks_by s (Ok (Counted part)) f z = definite (counted_form s part.start part.length.0 f z)

-- Main results

-- What opens is a block of one of the two forms, and what is handed back is its payload.
pub opened_form : (s : List ℕ) → (status_of (opening_of s)).number ≡ 0 → Block s (payload_of s)
unfolding opening_of payload_of Marks
opened_form s = marks_by s (header_in s) (header_says s)

-- Every block of either form opens, and hands back the payload that the form marks.
pub form_opened : (s p : List ℕ) → Block s p → HandsBack s p
unfolding payload_of from opening_by
form_opened s p (definite f) =
    let e : opening_of s ≡ from f.start (length p) = definite_opens s p f in
    record {
      succeeds = ap status_of e;
      payload = rw e (take_all (length p) (drop f.start s) (rw f.rest (omega arith)) ∙ f.rest);
    }
form_opened s p (open_ended f) =
    let e : opening_of s ≡ from 2 (length p) =
    opening_from s (header_in s) (Ok OpenEnded) refl (header_ended s f.header.mark f.header.form) ∙ ended_opens s p f in
    record { succeeds = ap status_of e; payload = rw e (rw f.rest (take_at p (10 ∷ []) (length p) refl)) }

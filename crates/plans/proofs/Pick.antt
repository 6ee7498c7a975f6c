-- The two values of pick, and the two ways of a test that it picks by.
-- Main results: by_below and by_most, for the tests "a is below b" and "a is at most b".
-- Leans on specs/Tables alone.
use Prim.Native.Nat.{ℕ, ◌≤◌, ◌<◌}
use mathlib.Core.Path.{◌≡◌, refl}
use mathlib.Core.Bool.{Bool, true, false}
use borrow.Author.Tests.{ltb-true, ltb-false, leb-true, leb-false}
use lib.Dec.{ltb, leb}
use Rattle.plans.specs.Tables.{pick}

pub pick_yes {ℓ} : {A : Type ℓ} {t : Bool} (x y : A) → t ≡ true → pick t x y ≡ x
unfolding pick
pick_yes x y e = rw e refl

pub pick_no {ℓ} : {A : Type ℓ} {t : Bool} (x y : A) → t ≡ false → pick t x y ≡ y
unfolding pick
pick_no x y e = rw e refl

-- Either way of a test that says P or Q, with what pick makes of it.
by_test {ℓ} : {X : Type ℓ} {P Q : Type 0} (t : Bool) → (t ≡ true → P) → (t ≡ false → Q)
    → (P → ((x y : ℕ) → pick t x y ≡ x) → X)
    → (Q → ((x y : ℕ) → pick t x y ≡ y) → X)
    → X
unfolding pick
by_test true p q f g = f (p refl) (λ x y. refl)
by_test false p q f g = g (q refl) (λ x y. refl)

pub by_below {ℓ} : {X : Type ℓ} (a b : ℕ) → (a < b → ((x y : ℕ) → pick (ltb a b) x y ≡ x) → X)
    → (b ≤ a → ((x y : ℕ) → pick (ltb a b) x y ≡ y) → X)
    → X
by_below a b = by_test (ltb a b) (ltb-true a b) (ltb-false a b)

pub by_most {ℓ} : {X : Type ℓ} (a b : ℕ) → (a ≤ b → ((x y : ℕ) → pick (leb a b) x y ≡ x) → X)
    → (b < a → ((x y : ℕ) → pick (leb a b) x y ≡ y) → X)
    → X
by_most a b = by_test (leb a b) (leb-true a b) (leb-false a b)

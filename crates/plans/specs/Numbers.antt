-- Tests as numbers, 1 for yes and 0 for no, and sums over the numbers below a bound. Everything that is counted is counted with these.
use Rattle.std.specs.Prelude.{ℕ, zero, suc, ◌+◌, Bool, true, false, eqb, ltb}

-- 1 for a test that passed, 0 for one that failed
unfoldable pub bit : Bool → ℕ
bit true = 1
bit false = 0

-- 1 where a and b are the same number, 0 where not
unfoldable pub same : ℕ → ℕ → ℕ
same a b = bit (eqb a b)

-- 1 where a is below b, 0 where not
unfoldable pub under : ℕ → ℕ → ℕ
under a b = bit (ltb a b)

-- f 0 + f 1 + .. + f (n - 1)
unfoldable pub sum : ℕ → (ℕ → ℕ) → ℕ
sum zero f = 0
sum (suc n) f = sum n f + f n

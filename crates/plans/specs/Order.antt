-- The order of two lines of counts. A line is a function: at index i, from 0, the count of rank i + 1.
-- Best plans are defined by this order, and comparing two lines of bytes gives it.
use Rattle.std.specs.Prelude.{ℕ, ◌≤◌, ◌<◌, ◌≡◌, List, get_or}

-- Over n ranks f is the lesser of f and g: it has the smaller count at the first rank where they differ.
pub record Less (n : ℕ) (f g : ℕ → ℕ) : Type 0 where
  pub at : ℕ
  pub inside : at < n
  pub before : (j : ℕ) → j < at → f j ≡ g j
  pub less : f at < g at

-- Over n ranks f and g are the same line.
unfoldable pub Same : ℕ → (ℕ → ℕ) → (ℕ → ℕ) → Type 0
Same n f g = (i : ℕ) → i < n → f i ≡ g i

-- The line that a list of counts holds, filled up with zeros.
abbrev pub filled : List ℕ → ℕ → ℕ
filled l i = get_or l i 0

-- Over n ranks f is not the greater of f and g: wherever they agree on all earlier ranks, f has no larger count.
unfoldable pub NotMore : ℕ → (ℕ → ℕ) → (ℕ → ℕ) → Type 0
NotMore n f g = (i : ℕ) → i < n → ((j : ℕ) → j < i → f j ≡ g j) → f i ≤ g i

-- The three ways two lines can stand to each other over n ranks.
pub data Compared (n : ℕ) (f g : ℕ → ℕ) : Type 0 where
  lesser : Less n f g → Compared n f g
  equal : Same n f g → Compared n f g
  greater : Less n g f → Compared n f g

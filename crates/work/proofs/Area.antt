-- Laws of the work area: what a store does to its own index and to any other (Put, put_other), what a fill and a copy leave as it
-- was (fill_below, copy_below), what agrees where two areas are Unchanged in a range, or are so but at some indices (UnchangedBut),
-- and what a region holds that is cut out (region_at).
use Prim.Native.Nat.{ℕ, ◌+◌, ◌-◌, ◌≤◌, ◌<◌}
use mathlib.Core.Path.{◌≡◌, refl, sym, ◌∙◌}
use mathlib.Core.List.{List}
use native.Mathlib.Decide.{dec_lt}
use native.Mathlib.Omega.{arith}
use lib.ListN.{length, get_or, set, take, drop, length-set, length-drop}
use lib.Seq.{get_or-set_same, get_or-set_other, get_or-take, get_or-drop, length-take-le}
use Rattle.work.specs.Work.{at, Unchanged, UnchangedBut, Put, Fills, Copies}

-- Stores

pub put_set : (w : List ℕ) (off i x : ℕ) → off + i < length w → Put w off i x (set w (off + i) x)
unfolding at
put_set w off i x l =
    record {
      size = length-set w (off + i) x;
      here = get_or-set_same w (off + i) x 0 l;
      others = λ k h. get_or-set_other w (off + i) k x 0 h;
    }

-- the index and the number of a store, by their values
pub put_is : {w v : List ℕ} {a b i j x y : ℕ} → Put w a i x v → a ≡ b → i ≡ j → x ≡ y → Put w b j y v
put_is p e f g = rw (e, f, g) at p

module _ {w v : List ℕ} {off i x : ℕ} (p : Put w off i x v) where
  pub put_other : (other j : ℕ) → (other + j ≡ off + i → ⊥) → at v other j ≡ at w other j
  unfolding at
  put_other other j h = p.others (other + j) h

  -- a store outside a range leaves it the same
  pub put_below : (a b : ℕ) → b ≤ off + i → Unchanged a b v w
  put_below a b h = record { size = p.size; each = λ k l m. p.others k (λ q. omega arith) }

  pub put_above : (a b : ℕ) → off + i < a → Unchanged a b v w
  put_above a b h = record { size = p.size; each = λ k l m. p.others k (λ q. omega arith) }

-- Fills and copies leave a range outside the part the same.

pub fill_below : {off n x : ℕ} {v w : List ℕ} → Fills off n x v w → (a b : ℕ) → b ≤ off → Unchanged a b w v
fill_below f a b h = record { size = f.size; each = λ k l m. f.below k (omega arith) }

pub copy_below : {from to n : ℕ} {v w : List ℕ} → Copies from to n v w → (a b : ℕ) → b ≤ to → Unchanged a b w v
copy_below c a b h = record { size = c.size; each = λ k l m. c.below k (omega arith) }

-- Areas that are the same in a range

pub unchanged_refl : (a b : ℕ) (w : List ℕ) → Unchanged a b w w
unchanged_refl a b w = record { size = refl; each = λ i l m. refl }

pub unchanged_trans : {a b : ℕ} {u v w : List ℕ} → Unchanged a b u v → Unchanged a b v w → Unchanged a b u w
unchanged_trans h k = record { size = h.size ∙ k.size; each = λ i l m. h.each i l m ∙ k.each i l m }

pub unchanged_sym : {a b : ℕ} {v w : List ℕ} → Unchanged a b v w → Unchanged a b w v
unchanged_sym h = record { size = sym h.size; each = λ i l m. sym (h.each i l m) }

-- a part of the range
pub unchanged_part : {a b : ℕ} {v w : List ℕ} (c d : ℕ) → a ≤ c → d ≤ b → Unchanged a b v w → Unchanged c d v w
unchanged_part c d l m h = record { size = h.size; each = λ i k n. h.each i (omega arith) (omega arith) }

pub unchanged_at : {a b : ℕ} {v w : List ℕ} → Unchanged a b v w → (off i : ℕ) → a ≤ off + i → off + i < b → at v off i ≡ at w off i
unfolding at
unchanged_at h off i l m = h.each (off + i) l m

-- Areas that are the same but at some indices

pub but_refl : {P : ℕ → Type 0} (w : List ℕ) → UnchangedBut P w w
but_refl w = record { size = refl; each = λ i h. refl }

pub but_trans : {P : ℕ → Type 0} {u v w : List ℕ} → UnchangedBut P u v → UnchangedBut P v w → UnchangedBut P u w
but_trans h k = record { size = h.size ∙ k.size; each = λ i l. h.each i l ∙ k.each i l }

-- a store at one of the indices
pub but_put : {P : ℕ → Type 0} {w v : List ℕ} {off i x : ℕ} → Put w off i x v → P (off + i) → UnchangedBut P v w
but_put p h = record { size = p.size; each = λ k other. p.others k (λ q. other (rw q h)) }

-- a fill of some of the indices
pub but_fill : {P : ℕ → Type 0} {off n x : ℕ} {v w : List ℕ} → Fills off n x v w → ((i : ℕ) → i < n → P (off + i)) → UnchangedBut P w v
but_fill {P} {off} {n} {x} {v} {w} f h = record { size = f.size; each = λ k other. pick k other (dec_lt k off) (dec_lt k (off + n)) }
  where
    pick : (k : ℕ) → (P k → ⊥) → Dec (k < off) → Dec (k < off + n) → get_or w k 0 ≡ get_or v k 0
    pick k other (yes l) m = f.below k l
    pick k other (no l) (no m) = f.behind k (omega arith)
    pick k other (no l) (yes m) = let q : off + (k - off) ≡ k = omega arith in absurd (other (rw q at (h (k - off) (omega arith))))

-- A region cut out of the area: the n numbers from `off` on

module _ (w : List ℕ) (off n : ℕ) where
  pub region_length : off + n ≤ length w → length (take n (drop off w)) ≡ n
  region_length l = length-take-le n (drop off w) (omega (arith, length-drop off w))

  pub region_at : (i : ℕ) → i < n → get_or (take n (drop off w)) i 0 ≡ at w off i
  unfolding at
  region_at i l = get_or-take n (drop off w) i 0 l ∙ get_or-drop off w i 0

-- What division in place by a polynomial whose leading coefficient has a known inverse asks for and leaves.
--
-- scaling               == the operands where an element is multiplied in place
-- ScaleReady, ScaleDone == from g on the k-th coefficient is multiplied
-- UnitReady, UnitDone   == the division's contract; nothing asks that the element v really is the inverse: what the row rowᵘ then means is UnitDivide's law
use Rattle.std.specs.Prelude.{ℕ, ◌*◌, ◌<◌, ◌≤◌, ◌≡◌, Bool, true, false, List, [], ℤ}
use Rattle.algebra.specs.Vec.{Vec}
use Rattle.algebra.specs.UnitDivided.{rowᵘ}
use Rattle.tower.specs.Levels.{El, Tower, ring}
use Rattle.tower.specs.Writing.{size}
use Rattle.tower.specs.Stands.{Stands}
use Rattle.arithmetic.specs.Walk.{pick}
use Rattle.products.specs.Product.{Worked, work, Elements, Two, two, Inside, ProductReady, ProductDone, Dividing, Outside, RemainderReady}

-- ---- one coefficient
-- the element at h in u, and the one at c in the store
abbrev pub scaling : ℕ → List ℤ → Bool → ℕ → ℕ → Two
scaling i u u-in h c = two i u u-in h [] true c 1

abbrev pub ScaleReady : (i : ℕ) (d z : List ℕ) (p : ℕ) (m : List ℕ) (e : List ℤ) (e-in : Bool) (ea : ℕ) (u : List ℤ) (u-in : Bool) (h : ℕ) (w : List ℤ)
    (c top : ℕ) → Type 0
ScaleReady i d z p m e e-in ea u u-in h w c top = ProductReady i d z p m e e-in ea (scaling i u u-in h c) false w c top

pub record ScaleDone (k g i : ℕ) (d : List ℕ) (p : ℕ) (m : List ℕ) (e : List ℤ) (e-in : Bool) (ea : ℕ) (u : List ℤ) (u-in : Bool) (h : ℕ) (w w' : List ℤ)
    (c top : ℕ) : Type 0 where
  pub low : k < g → w' ≡ w
  pub high : g ≤ k → ProductDone i d p m e e-in ea (scaling i u u-in h c) false false w w' c top

-- ---- the division
pub record UnitReady (i : ℕ) (d z : List ℕ) (p : ℕ) (e : List ℤ) (e-in : Bool) (ea : ℕ) (y : List ℤ) (y_in : Bool) (b g : ℕ) (u : List ℤ) (u-in : Bool) (h : ℕ)
    (w : List ℤ) (a cap top : ℕ) : Type 0 where
  pub dividing : RemainderReady i d z p e e-in ea y y_in b g w a cap top
  pub u_inside : Inside u-in (pick u-in w u) h (size d i) top
  pub u_outside : Outside u-in h (size d i) a (cap * size d i)
  pub v : El p d i
  pub inverse : Stands p d i v (pick u-in w u) h

-- the remainder's coefficients stand from a on, and above them the quotient's
pub record UnitDone (i : ℕ) (d : List ℕ) (p : ℕ) (e : List ℤ) (e-in : Bool) (ea : ℕ) (y : List ℤ) (y_in : Bool) (b g : ℕ) (u : List ℤ) (u-in : Bool) (h : ℕ)
    (w w' : List ℤ) (a cap top : ℕ) : Type 0 where
  pub frame : Worked a (cap * size d i) top (work d i) w w'
  pub done : (p_pos : 0 < p) (t : Tower p d i) (f : ℕ → El p d i) (l : Vec (El p d i) g) (v : El p d i)
      → Dividing p p_pos d i t f g l (pick e-in w e) ea (pick y_in w y) b w a cap → Stands p d i v (pick u-in w u) h
      → Elements p d i cap (rowᵘ (ring p p_pos d i t) g l v cap f) w' a

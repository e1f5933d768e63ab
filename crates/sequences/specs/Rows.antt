-- What the functions on elements and rows of elements in the store ask for and leave. All operands stand in the store below top; the tower may be lent.
--
-- Acting   == a modulus, sizes, the tower of level i, and room above top for a product
-- Between  == two runs of words have no place in common
-- Times..  == the element at c becomes a product
-- Scale..  == each of n elements is multiplied
-- Lose..   == a row loses the product of two rows
-- Divide.. == a row is divided in place by one whose leading coefficient has a known inverse
use Rattle.std.specs.Prelude.{ℕ, ◌+◌, ◌-◌, ◌*◌, ◌^◌, ◌<◌, ◌≤◌, Bool, ◌⊎◌, List, ℤ, length}
use Rattle.algebra.specs.Vec.{Vec, coef}
use Rattle.algebra.specs.UnitDivided.{rowᵘ}
use Rattle.algebra.specs.Windows.{window}
use Rattle.residue.specs.Number.{Modulus}
use Rattle.tower.specs.Levels.{El, Tower, group, ring}
use Rattle.tower.specs.Ready.{Sized, Positive}
use Rattle.tower.specs.Stands.{Stands}
use Rattle.tower.specs.Writing.{size, tower_size}
use Rattle.arithmetic.specs.Walk.{pick}
use Rattle.products.specs.Product.{Worked, work, TowerStands, Elements, Inside, Outside}

-- the tower of level i at ea, and room above top for a product of its elements
pub record Acting (i : ℕ) (d z : List ℕ) (p : ℕ) (e : List ℤ) (e-in : Bool) (ea : ℕ) (w : List ℤ) (top : ℕ) : Type 0 where
  pub modulus : Modulus p
  pub low : i ≤ 4
  pub sized : Sized d z
  pub positive : Positive i d
  pub small : size d i ≤ 2 ^ 30
  pub e_inside : Inside e-in (pick e-in w e) ea (tower_size d i) top
  pub room : top + work d i ≤ length w
  pub p_pos : 0 < p
  pub t : Tower p d i
  pub tower : TowerStands p p_pos d i t (pick e-in w e) ea

-- n words from a on and m words from b on
abbrev pub Between : ℕ → ℕ → ℕ → ℕ → Type 0
Between a n b m = (a + n ≤ b) ⊎ (b + m ≤ a)

-- ---- one product
pub record TimesReady (i : ℕ) (d z : List ℕ) (p : ℕ) (e : List ℤ) (e-in : Bool) (ea a b : ℕ) (w : List ℤ) (c top : ℕ) : Type 0 where
  pub acting : Acting i d z p e e-in ea w top
  pub a_below : a + size d i ≤ top
  pub b_below : b + size d i ≤ top
  pub c_below : c + size d i ≤ top
  pub x : El p d i
  pub y : El p d i
  pub left : Stands p d i x w a
  pub right : Stands p d i y w b

pub record TimesDone (i : ℕ) (d : List ℕ) (p : ℕ) (e : List ℤ) (e-in : Bool) (ea a b : ℕ) (w w' : List ℤ) (c top : ℕ) : Type 0 where
  pub frame : Worked c (size d i) top (work d i) w w'
  pub done : (p_pos : 0 < p) (t : Tower p d i) (x y : El p d i)
      → TowerStands p p_pos d i t (pick e-in w e) ea → Stands p d i x w a → Stands p d i y w b → Stands p d i ((ring p p_pos d i t).◌⊗◌ x y) w' c

-- ---- n elements from c on, each multiplied by the one at u
pub record ScaleRowReady (i n : ℕ) (d z : List ℕ) (p : ℕ) (e : List ℤ) (e-in : Bool) (ea u : ℕ) (w : List ℤ) (c top : ℕ) : Type 0 where
  pub acting : Acting i d z p e e-in ea w top
  pub u_below : u + size d i ≤ top
  pub c_below : c + n * size d i ≤ top
  pub e_outside : Outside e-in ea (tower_size d i) c (n * size d i)
  pub u_outside : Between u (size d i) c (n * size d i)
  pub v : El p d i
  pub f : ℕ → El p d i
  pub unit : Stands p d i v w u
  pub row : Elements p d i n f w c

pub record ScaleRowDone (i n : ℕ) (d : List ℕ) (p : ℕ) (e : List ℤ) (e-in : Bool) (ea u : ℕ) (w w' : List ℤ) (c top : ℕ) : Type 0 where
  pub frame : Worked c (n * size d i) top (work d i) w w'
  pub done : (p_pos : 0 < p) (t : Tower p d i) (v : El p d i) (f : ℕ → El p d i)
      → TowerStands p p_pos d i t (pick e-in w e) ea → Stands p d i v w u → Elements p d i n f w c
      → Elements p d i n (λ k. (ring p p_pos d i t).◌⊗◌ v (f k)) w' c

-- ---- the m + n - 1 elements from c on lose the product of the m from a on and the n from b on
pub record LoseReady (i : ℕ) (d z : List ℕ) (p : ℕ) (e : List ℤ) (e-in : Bool) (ea a m b n : ℕ) (w : List ℤ) (c top : ℕ) : Type 0 where
  pub acting : Acting i d z p e e-in ea w top
  pub some_m : 0 < m
  pub some_n : 0 < n
  pub few : m * size d i ≤ 2 ^ 31
  pub a_below : a + m * size d i ≤ top
  pub b_below : b + n * size d i ≤ top
  pub c_below : c + (m + n - 1) * size d i ≤ top
  pub e_outside : Outside e-in ea (tower_size d i) c ((m + n - 1) * size d i)
  pub a_outside : Between a (m * size d i) c ((m + n - 1) * size d i)
  pub b_outside : Between b (n * size d i) c ((m + n - 1) * size d i)
  pub f : ℕ → El p d i
  pub g : ℕ → El p d i
  pub h : ℕ → El p d i
  pub left : Elements p d i m f w a
  pub right : Elements p d i n g w b
  pub old : Elements p d i (m + n - 1) h w c

pub record LoseDone (i : ℕ) (d : List ℕ) (p : ℕ) (e : List ℤ) (e-in : Bool) (ea a m b n : ℕ) (w w' : List ℤ) (c top : ℕ) : Type 0 where
  pub frame : Worked c ((m + n - 1) * size d i) top (work d i) w w'
  pub done : (p_pos : 0 < p) (t : Tower p d i) (f g h : ℕ → El p d i)
      → TowerStands p p_pos d i t (pick e-in w e) ea → Elements p d i m f w a → Elements p d i n g w b → Elements p d i (m + n - 1) h w c
      → Elements p d i (m + n - 1) (λ k. (group p p_pos d i).◌⊕◌ (h k) ((group p p_pos d i).⊖◌ (window (ring p p_pos d i t) m n f g k))) w' c

-- ---- the cap elements from a on are divided in place by the g from b on under a leading one whose inverse stands at u
pub record DivideReady (i : ℕ) (d z : List ℕ) (p : ℕ) (e : List ℤ) (e-in : Bool) (ea b g u : ℕ) (w : List ℤ) (a cap top : ℕ) : Type 0 where
  pub acting : Acting i d z p e e-in ea w top
  pub fits : g ≤ cap
  pub some : 0 < cap
  pub few : g * size d i ≤ 2 ^ 31
  pub a_below : a + cap * size d i ≤ top
  pub b_below : b + g * size d i ≤ top
  pub u_below : u + size d i ≤ top
  pub e_outside : Outside e-in ea (tower_size d i) a (cap * size d i)
  pub b_outside : Between b (g * size d i) a (cap * size d i)
  pub u_outside : Between u (size d i) a (cap * size d i)
  pub f : ℕ → El p d i
  pub l : Vec (El p d i) g
  pub v : El p d i
  pub dividend : Elements p d i cap f w a
  pub divisor : Elements p d i g (coef (group p acting.p_pos d i).𝟘 g l) w b
  pub unit : Stands p d i v w u

pub record DivideDone (i : ℕ) (d : List ℕ) (p : ℕ) (e : List ℤ) (e-in : Bool) (ea b g u : ℕ) (w w' : List ℤ) (a cap top : ℕ) : Type 0 where
  pub frame : Worked a (cap * size d i) top (work d i) w w'
  pub done : (p_pos : 0 < p) (t : Tower p d i) (f : ℕ → El p d i) (l : Vec (El p d i) g) (v : El p d i)
      → TowerStands p p_pos d i t (pick e-in w e) ea → Elements p d i cap f w a → Elements p d i g (coef (group p p_pos d i).𝟘 g l) w b → Stands p d i v w u
      → Elements p d i cap (rowᵘ (ring p p_pos d i t) g l v cap f) w' a

-- What product and remainder in the store ask for and leave, at any level of any tower.
--
-- Worked c n top m w w' == w' is w but for the n words from c on and the m words from top on
-- work d j              == the words above top that a product at level j uses
-- TowerStands, Elements == the words of a tower, of n elements one behind the other, stand at a place
-- Two                   == n pairs of elements of level i, upwards from a in x and downwards to b in y, each in the store or lent
-- operands o            == those that the code's value names
-- Inside                == n words of an operand: within its list, and below top where it is in the store
-- Given, Pairs          == elements that stand in the operands' words and in the answer's place; what the pairs come to
-- Spread                == the same where the old content's coefficients stand from top on
-- taken, TakenReady     == the pairs that a coefficient loses in a division, and the bounds of their places
-- ProductReady, CoefficientsReady, RemainderReady and .. Done == the contracts
use Rattle.arithmetic.specs.Sources.{lent, stored}
use Rattle.std.specs.Prelude.{ℕ, zero, suc, ◌+◌, ◌-◌, ◌*◌, ◌^◌, ◌<◌, ◌≤◌, ◌≡◌, refl, Bool, true, false, ◌⊎◌, List, [], ℤ, pos, length, get_or, set}
use Rattle.algebra.specs.Vec.{Vec, coef}
use Rattle.algebra.specs.Windows.{first, span}
use Rattle.algebra.specs.Divided.{row}
use Rattle.residue.specs.Number.{Modulus}
use Rattle.tower.specs.Levels.{degree, El, group, Tower, ring}
use Rattle.tower.specs.Writing.{size, tower_size, tower_words}
use Rattle.tower.specs.Form.{seg}
use Rattle.tower.specs.Ready.{Sized, Positive}
use Rattle.tower.specs.Store.{Kept}
use Rattle.tower.specs.Stands.{Stands}
use Rattle.arithmetic.specs.Sum.{gained}
use Rattle.arithmetic.specs.Walk.{pick, place_of}
use Rattle.arithmetic.specs.Places.{wide}
use Rattle.products.specs.declared.Operands.{Operands}
use Rattle.products.specs.Value.{part, value, pairs}

-- ---- frames
pub record Worked (c n top m : ℕ) (w w' : List ℤ) : Type 0 where
  pub long : length w' ≡ length w
  pub below : (k : ℕ) → k < c → get_or w' k (pos 0) ≡ get_or w k (pos 0)
  pub between : (k : ℕ) → c + n ≤ k → k < top → get_or w' k (pos 0) ≡ get_or w k (pos 0)
  pub beyond : (k : ℕ) → top + m ≤ k → get_or w' k (pos 0) ≡ get_or w k (pos 0)

unfoldable pub work : List ℕ → ℕ → ℕ
work d zero = 0
work d (suc j) = wide (degree d j) * size d j + work d j

pub work-zero : (d : List ℕ) → work d 0 ≡ 0
unfolding work
work-zero d = refl

pub work_suc : (d : List ℕ) (j : ℕ) → work d (suc j) ≡ wide (degree d j) * size d j + work d j
unfolding work
work_suc d j = refl

-- ---- what stands
abbrev pub TowerStands : (p : ℕ) (p_pos : 0 < p) (d : List ℕ) (j : ℕ) → Tower p d j → List ℤ → ℕ → Type 0
TowerStands p p_pos d j t w a = seg a (tower_size d j) w ≡ tower_words p p_pos d j t

abbrev pub Elements : (p : ℕ) (d : List ℕ) (i n : ℕ) → (ℕ → El p d i) → List ℤ → ℕ → Type 0
Elements p d i n u w a = (k : ℕ) → k < n → Stands p d i (u k) w (a + k * size d i)

pub record Two : Type 0 where
  pub i : ℕ
  pub x : List ℤ
  pub x_in : Bool
  pub a : ℕ
  pub y : List ℤ
  pub y_in : Bool
  pub b : ℕ
  pub n : ℕ

abbrev pub two : ℕ → List ℤ → Bool → ℕ → List ℤ → Bool → ℕ → ℕ → Two
two i x x_in a y y_in b n = record { i = i; x = x; x_in = x_in; a = a; y = y; y_in = y_in; b = b; n = n }

abbrev pub operands : Operands → Two
operands o = two o.i (lent o.x) (stored o.x) o.x.at (lent o.y) (stored o.y) o.y.at o.n

abbrev pub left : Two → List ℤ → List ℤ
left o w = pick o.x_in w o.x

abbrev pub right : Two → List ℤ → List ℤ
right o w = pick o.y_in w o.y

pub record Inside (within : Bool) (x : List ℤ) (a n top : ℕ) : Type 0 where
  pub inside : a + n ≤ length x
  pub below : within ≡ true → a + n ≤ top

-- the pairs of u and v, and the old content of level j at c, which is zero where it is not kept
pub record Given (p : ℕ) (p_pos : 0 < p) (d : List ℕ) (o : Two) (u v : ℕ → El p d o.i) (j : ℕ) (old : El p d j) (keep : Bool) (w : List ℤ) (c : ℕ) : Type 0 where
  pub lefts : Elements p d o.i o.n u (left o w) o.a
  pub rights : Elements p d o.i o.n v (right o w) o.b
  pub kept : keep ≡ true → Stands p d j old w c
  pub fresh : keep ≡ false → old ≡ (group p p_pos d j).𝟘

-- what the pairs come to at the places m
abbrev pub Pairs : (p : ℕ) (p_pos : 0 < p) (d : List ℕ) (j : ℕ) (t : Tower p d j) (o : Two) (u v : ℕ → El p d o.i) → List ℕ → El p d j
Pairs p p_pos d j t o u v m = value p p_pos d j t (pairs p p_pos d o.i o.n u (λ k. v (o.n - 1 - k))) m

-- ---- product
-- the modulus, the sizes, the operands' places
pub record Operating (d z : List ℕ) (p : ℕ) (o : Two) (w : List ℤ) (top : ℕ) : Type 0 where
  pub modulus : Modulus p
  pub low : o.i ≤ 4
  pub sized : Sized d z
  pub x_inside : Inside o.x_in (left o w) o.a (o.n * size d o.i) top
  pub y_inside : Inside o.y_in (right o w) o.b (o.n * size d o.i) top
  pub few : o.n * size d o.i ≤ 2 ^ 31

pub record ProductReady (j : ℕ) (d z : List ℕ) (p : ℕ) (m : List ℕ) (e : List ℤ) (e-in : Bool) (ea : ℕ) (o : Two) (keep : Bool) (w : List ℤ)
    (c top : ℕ) : Type 0 where
  pub operating : Operating d z p o w top
  pub level : j ≤ o.i
  pub positive : Positive j d
  pub places : length m ≡ 4
  pub reached : (l : ℕ) → j ≤ l → l < o.i → place_of m l + 1 < degree d l + degree d l
  pub e_inside : Inside e-in (pick e-in w e) ea (tower_size d j) top
  pub c_below : c + size d j ≤ top
  pub room : top + work d j ≤ length w
  pub small : size d j ≤ 2 ^ 30
  pub p_pos : 0 < p
  pub t : Tower p d j
  pub u : ℕ → El p d o.i
  pub v : ℕ → El p d o.i
  pub old : El p d j
  pub tower : TowerStands p p_pos d j t (pick e-in w e) ea
  pub given : Given p p_pos d o u v j old keep w c

-- the old content has gained, or lost where neg, what the pairs come to
pub record ProductDone (j : ℕ) (d : List ℕ) (p : ℕ) (m : List ℕ) (e : List ℤ) (e-in : Bool) (ea : ℕ) (o : Two) (neg keep : Bool) (w w' : List ℤ)
    (c top : ℕ) : Type 0 where
  pub frame : Worked c (size d j) top (work d j) w w'
  pub done : (p_pos : 0 < p) (t : Tower p d j) (u v : ℕ → El p d o.i) (old : El p d j)
      → TowerStands p p_pos d j t (pick e-in w e) ea → Given p p_pos d o u v j old keep w c
      → Stands p d j (gained (group p p_pos d j) neg old (Pairs p p_pos d j t o u v m)) w' c

-- ---- the coefficients of level j of a product at level j + 1
-- the pairs of u and v, and from top on the old content's coefficients, which are zero where they are not kept
pub record Spread (p : ℕ) (p_pos : 0 < p) (d : List ℕ) (o : Two) (u v : ℕ → El p d o.i) (j : ℕ) (old : El p d (suc j)) (keep : Bool) (w : List ℤ) (top : ℕ) : Type 0 where
  pub lefts : Elements p d o.i o.n u (left o w) o.a
  pub rights : Elements p d o.i o.n v (right o w) o.b
  pub kept : keep ≡ true → Elements p d j (degree d j) (part p p_pos d j old) w top
  pub fresh : keep ≡ false → old ≡ (group p p_pos d (suc j)).𝟘

pub record CoefficientsReady (j : ℕ) (d z : List ℕ) (p : ℕ) (m : List ℕ) (e : List ℤ) (e-in : Bool) (ea : ℕ) (o : Two) (keep : Bool) (w : List ℤ)
    (top : ℕ) : Type 0 where
  pub operating : Operating d z p o w top
  pub level : suc j ≤ o.i
  pub positive : Positive (suc j) d
  pub places : length m ≡ 4
  pub reached : (l : ℕ) → suc j ≤ l → l < o.i → place_of m l + 1 < degree d l + degree d l
  pub e_inside : Inside e-in (pick e-in w e) ea (tower_size d j) top
  pub room : top + work d (suc j) ≤ length w
  pub small : size d (suc j) ≤ 2 ^ 30
  pub p_pos : 0 < p
  pub t : Tower p d j
  pub u : ℕ → El p d o.i
  pub v : ℕ → El p d o.i
  pub old : El p d (suc j)
  pub tower : TowerStands p p_pos d j t (pick e-in w e) ea
  pub given : Spread p p_pos d o u v j old keep w top

pub record CoefficientsDone (j : ℕ) (d : List ℕ) (p : ℕ) (m : List ℕ) (e : List ℤ) (e-in : Bool) (ea : ℕ) (o : Two) (neg keep : Bool) (w w' : List ℤ)
    (top : ℕ) : Type 0 where
  pub frame : Kept top (work d (suc j)) w w'
  pub done : (p_pos : 0 < p) (t : Tower p d j) (u v : ℕ → El p d o.i) (old : El p d (suc j))
      → TowerStands p p_pos d j t (pick e-in w e) ea → Spread p p_pos d o u v j old keep w top
      → Elements p d j (wide (degree d j)) (λ k. gained (group p p_pos d j) neg (part p p_pos d j old k) (Pairs p p_pos d j t o u v (set m j k))) w' top

-- ---- remainder
-- the tower t, the dividend f of cap coefficients at a, and the g coefficients l of a divisor under its leading 1 at b
pub record Dividing (p : ℕ) (p_pos : 0 < p) (d : List ℕ) (i : ℕ) (t : Tower p d i) (f : ℕ → El p d i) (g : ℕ) (l : Vec (El p d i) g)
    (e : List ℤ) (ea : ℕ) (y : List ℤ) (b : ℕ) (w : List ℤ) (a cap : ℕ) : Type 0 where
  pub tower : TowerStands p p_pos d i t e ea
  pub dividend : Elements p d i cap f w a
  pub divisor : Elements p d i g (coef (group p p_pos d i).𝟘 g l) y b

-- n words of an operand, where it is in the store, are none of the m words from a on
abbrev pub Outside : Bool → ℕ → ℕ → ℕ → ℕ → Type 0
Outside within b n a m = within ≡ true → (b + n ≤ a) ⊎ (a + m ≤ b)

-- the pairs that the k-th of cap coefficients at a loses, of s words each: the divisor's g coefficients at b, and the quotient's, which stand in the store
abbrev pub taken : (k i g cap s : ℕ) (y : List ℤ) (y_in : Bool) (b a : ℕ) → Two
taken k i g cap s y y_in b a = two i y y_in (b + first (cap - g) k * s) [] true (a + (g + first g k) * s) (span g (cap - g) k)

pub record TakenReady (k g cap s b a : ℕ) : Type 0 where
  pub fits : g ≤ cap
  pub one : k < cap
  pub left : b + first (cap - g) k * s < 2 ^ 64
  pub right : a + (g + first g k) * s < 2 ^ 64

pub record RemainderReady (i : ℕ) (d z : List ℕ) (p : ℕ) (e : List ℤ) (e-in : Bool) (ea : ℕ) (y : List ℤ) (y_in : Bool) (b g : ℕ) (w : List ℤ)
    (a cap top : ℕ) : Type 0 where
  pub modulus : Modulus p
  pub low : i ≤ 4
  pub sized : Sized d z
  pub positive : Positive i d
  pub fits : g ≤ cap
  pub some : 0 < cap
  pub few : g * size d i ≤ 2 ^ 31
  pub small : size d i ≤ 2 ^ 30
  pub e_inside : Inside e-in (pick e-in w e) ea (tower_size d i) top
  pub e_outside : Outside e-in ea (tower_size d i) a (cap * size d i)
  pub y_inside : Inside y_in (pick y_in w y) b (g * size d i) top
  pub y_outside : Outside y_in b (g * size d i) a (cap * size d i)
  pub a_below : a + cap * size d i ≤ top
  pub room : top + work d i ≤ length w
  pub p_pos : 0 < p
  pub t : Tower p d i
  pub f : ℕ → El p d i
  pub l : Vec (El p d i) g
  pub given : Dividing p p_pos d i t f g l (pick e-in w e) ea (pick y_in w y) b w a cap

-- the remainder's coefficients stand from a on, and above them the quotient's
pub record RemainderDone (i : ℕ) (d : List ℕ) (p : ℕ) (e : List ℤ) (e-in : Bool) (ea : ℕ) (y : List ℤ) (y_in : Bool) (b g : ℕ) (w w' : List ℤ)
    (a cap top : ℕ) : Type 0 where
  pub frame : Worked a (cap * size d i) top (work d i) w w'
  pub done : (p_pos : 0 < p) (t : Tower p d i) (f : ℕ → El p d i) (l : Vec (El p d i) g)
      → Dividing p p_pos d i t f g l (pick e-in w e) ea (pick y_in w y) b w a cap
      → Elements p d i cap (row (ring p p_pos d i t) g l cap f) w' a

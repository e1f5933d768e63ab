-- What the functions that begin and end an inverse ask for and leave.
--
-- BringReady            == n words of an operand may be copied to c
-- NumberReady, Came₀, NumberDone == the inverse of a number, or its greatest common divisor with p
-- FollowNumberReady, Follows₀, FollowNumberDone == the same of the last of a row's numbers, the inverse and the divisor at places of their own
-- slot                  == the words of one of an inverse's five slots
-- BeginReady, Begun, BeginDone   == the two polynomials, what they carry, and the first one's inverse
-- led_at                 == a polynomial in its slots
-- FinishReady, FinishDone        == n elements, then zeros, then the degree word in front of them
use Rattle.std.specs.Prelude.{ℕ, suc, ◌+◌, ◌-◌, ◌*◌, ◌<◌, ◌≤◌, ◌≡◌, Bool, ◌⊎◌, List, ℤ, pos, length, set, Result, Ok, Err}
use Rattle.algebra.specs.Vec.{coef, trunc, topped, zeroᵛ}
use Rattle.algebra.specs.Zmod.{Residue, to_z}
use Rattle.residue.specs.Number.{Modulus}
use Rattle.residue.specs.Word.{at}
use Rattle.tower.specs.Levels.{degree, El, group, Tower, ring}
use Rattle.tower.specs.Ready.{Sized, Positive}
use Rattle.tower.specs.Stands.{Stands, SlotStands}
use Rattle.tower.specs.Store.{Kept}
use Rattle.tower.specs.Work.{room}
use Rattle.tower.specs.Writing.{size, tower_size}
use Rattle.arithmetic.specs.Walk.{pick}
use Rattle.products.specs.Product.{TowerStands, Elements, Inside, Outside}
use Rattle.products.specs.Value.{part}
use Rattle.euclid.specs.Answer.{Answer, done, shown, long}
use Rattle.euclid.specs.Number.{inverse₀}
use Rattle.sequences.specs.declared.Led.{Led}
use Rattle.sequences.specs.declared.Stop.{Stop}
use Rattle.sequences.specs.declared.Stop.TheVariants.{Factor}
use Rattle.sequences.specs.Numbers.{Held}

-- ---- copies
pub record BringReady (x : List ℤ) (x_in : Bool) (a : ℕ) (w : List ℤ) (c n : ℕ) : Type 0 where
  pub x_inside : a + n ≤ length (pick x_in w x)
  pub c_inside : c + n ≤ length w
  pub apart : Outside x_in a n c n

-- ---- the inverse of a number that is not 0, at c
pub record NumberReady (p : ℕ) (x : List ℤ) (x_in : Bool) (a : ℕ) (w : List ℤ) (c : ℕ) : Type 0 where
  pub modulus : Modulus p
  pub two : 1 < p
  pub number : Held p (pick x_in w x) a
  pub c_inside : c < length w

abbrev pub Came₀ : (p : ℕ) → Answer ℕ (Residue p) → Result (Unit {0}) Stop → List ℤ → List ℤ → ℕ → Type 0
Came₀ p (done u) r w w' c = (r ≡ Ok tt) × (w' ≡ set w c (pos u.0))
Came₀ p (shown h) r w w' c = (r ≡ Err (Factor 0 c)) × (w' ≡ set w c (pos h))
Came₀ p long r w w' c = ⊥

pub record NumberDone (p : ℕ) (x : List ℤ) (x_in : Bool) (a : ℕ) (w w' : List ℤ) (c : ℕ) (r : Result (Unit {0}) Stop) : Type 0 where
  pub frame : Kept c 1 w w'
  pub done : (p_pos : 0 < p) (v : Residue p) → at (pick x_in w x) a ≡ v.0 → ¬ (v ≡ to_z p p_pos 0) → Came₀ p (inverse₀ p p_pos v) r w w' c

-- ---- the inverse of the last of the k numbers at row, which is not 0, at unit; or its greatest common divisor with p above the n numbers of the row
pub record FollowNumberReady (p row n k unit : ℕ) (w : List ℤ) : Type 0 where
  pub modulus : Modulus p
  pub two : 1 < p
  pub some : 0 < k
  pub number : Held p w (row + (k - 1))
  pub unit_inside : unit < length w
  pub free_inside : row + n < length w

-- the inverse stands at unit, or the divisor at free
abbrev pub Follows₀ : (p : ℕ) → Answer ℕ (Residue p) → (k free unit : ℕ) → Result ℕ Stop → List ℤ → List ℤ → Type 0
Follows₀ p (done u) k free unit r w w' = (r ≡ Ok k) × (w' ≡ set w unit (pos u.0))
Follows₀ p (shown h) k free unit r w w' = (r ≡ Err (Factor 0 free)) × (w' ≡ set w free (pos h))
Follows₀ p long k free unit r w w' = ⊥

-- one of the two words has changed
pub record FollowNumberDone (p row n k unit : ℕ) (w w' : List ℤ) (r : Result ℕ Stop) : Type 0 where
  pub frame : Kept unit 1 w w' ⊎ Kept (row + n) 1 w w'
  pub done : (p_pos : 0 < p) (v : Residue p) → at w (row + (k - 1)) ≡ v.0 → ¬ (v ≡ to_z p p_pos 0)
      → Follows₀ p (inverse₀ p p_pos v) k (row + n) unit r w w'

-- ---- the start at level h + 1
-- d_(h+1) + 1 coefficients and a word
abbrev pub slot : List ℕ → ℕ → ℕ
slot d h = room d h (degree d h + 1)

pub record BeginReady (h g s : ℕ) (d z : List ℕ) (e : List ℤ) (e-in : Bool) (ea : ℕ) (x : List ℤ) (x_in : Bool) (a : ℕ) (w : List ℤ) (top : ℕ) : Type 0 where
  pub low : suc h ≤ 4
  pub sized : Sized d z
  pub positive : Positive (suc h) d
  pub degree-is : g ≡ degree d h
  pub size_is : s ≡ size d h
  pub e_inside : Inside e-in (pick e-in w e) ea (tower_size d (suc h)) top
  pub x_inside : Inside x_in (pick x_in w x) a (size d (suc h)) top
  pub space : top + 5 * slot d h ≤ length w

-- the tower's polynomial m, the element v, 0, 1, and the inverse 1 of m's leading coefficient
pub record Begun (p : ℕ) (p_pos : 0 < p) (d : List ℕ) (h : ℕ) (t : Tower p d (suc h)) (v : El p d (suc h)) (w : List ℤ) (top : ℕ) : Type 0 where
  pub monic :
      Elements p d h (suc (degree d h)) (coef (group p p_pos d h).𝟘 (suc (degree d h)) (topped (degree d h) t.1 (ring p p_pos d h t.0).𝟙)) w (top + 1)
  pub given : Elements p d h (degree d h) (part p p_pos d h v) w (top + slot d h + 1)
  pub zeros : Elements p d h (degree d h) (part p p_pos d h (zeroᵛ (group p p_pos d h).𝟘 (degree d h))) w (top + 2 * slot d h + 1)
  pub ones : Elements p d h (degree d h) (part p p_pos d h (ring p p_pos d (suc h) t).𝟙) w (top + 3 * slot d h + 1)
  pub unit : Stands p d h (ring p p_pos d h t.0).𝟙 w (top + 4 * slot d h)

pub record BeginDone (h : ℕ) (d : List ℕ) (e : List ℤ) (e-in : Bool) (ea : ℕ) (x : List ℤ) (x_in : Bool) (a : ℕ) (w w' : List ℤ) (top : ℕ) : Type 0 where
  pub frame : Kept top (5 * slot d h) w w'
  pub done : (p : ℕ) (p_pos : 0 < p) → 1 < p → (t : Tower p d (suc h)) (v : El p d (suc h))
      → TowerStands p p_pos d (suc h) t (pick e-in w e) ea → Stands p d (suc h) v (pick x_in w x) a → Begun p p_pos d h t v w' top

-- n coefficients in the slot at a; what it carries stands two slots on
abbrev pub led_at : (a slot unit n : ℕ) → Led
led_at a slot unit n = record { row = a + 1; carried = a + 2 * slot + 1; unit = unit; count = n }

-- ---- the end: a slot of g coefficients of level h, its degree word before row
pub record FinishReady (h n g s : ℕ) (d z : List ℕ) (w : List ℤ) (row : ℕ) : Type 0 where
  pub low : h ≤ 4
  pub sized : Sized d z
  pub size_is : s ≡ size d h
  pub few : n ≤ g
  pub behind : 0 < row
  pub inside : row + g * size d h ≤ length w

-- the n elements and zeros
pub record FinishDone (h n g : ℕ) (d : List ℕ) (w w' : List ℤ) (row : ℕ) : Type 0 where
  pub frame : Kept (row - 1) (g * size d h + 1) w w'
  pub done : (p : ℕ) (p_pos : 0 < p) (f : ℕ → El p d h) → Elements p d h n f w row
      → SlotStands p d h g (trunc g (coef (group p p_pos d h).𝟘 n (trunc n f))) w' (row - 1)

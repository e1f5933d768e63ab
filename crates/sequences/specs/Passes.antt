-- What the sequence of an inverse at level h + 1 asks for and leaves, from two neighbours f and k on.
--
-- under_of, next_of == where the words of the tower of level h begin; where the words above the five slots begin
-- level_of          == the level below, over which the sequence is taken
-- Clear, Laid       == two runs of words have no place in common; the six places of two neighbours, apart
-- Turning           == two neighbours of the sequence, and that the inverse of v is what the sequence on them comes to
-- Stood             == a polynomial of the sequence stands at its three places
-- Going, Zero       == f and k follow each other, with counts fn and kn; or the remainder was zero, and f is the factor
-- Looping           == what holds wherever a remainder may be taken
-- Figures           == the numbers of a run that are handed on;  Underway, PassesDone == the sequence from there on
-- RemainderReady, RemainderDone == one remainder, and what it carries
-- Settling, Settled, CloseReady, CloseDone == a row scaled and made an element; the end of the sequence
use Rattle.std.specs.Prelude.{ℕ, suc, ◌+◌, ◌-◌, ◌*◌, ◌<◌, ◌≤◌, ◌≡◌, Bool, ◌⊎◌, List, ℤ, length, Result, Ok, Err}
use Rattle.std.proofs.Common.{inr}
use Rattle.algebra.specs.Vec.{Vec, Below, coef}
use Rattle.algebra.specs.UnitDivide.{scaleᵛ}
use Rattle.tower.specs.Levels.{degree, El, group, ring}
use Rattle.tower.specs.Stands.{Stands}
use Rattle.tower.specs.Store.{Kept}
use Rattle.tower.specs.Work.{inverse_work}
use Rattle.tower.specs.Writing.{size, modulus_size}
use Rattle.products.specs.Product.{Elements}
use Rattle.euclid.specs.Answer.{Answer, shown, bind}
use Rattle.euclid.specs.Inverse.{elements, finish, inverse}
use Rattle.euclid.specs.Lazy.{Led, whole, UnitLed, lazy}
use Rattle.euclid.specs.Level.{Level, Mon, beneath}
use Rattle.euclid.specs.Towers.{inv, level}
use Rattle.sequences.specs.declared.Stop.{Stop}
use Rattle.sequences.specs.declared.Stop.TheVariants.{Factor}
use Rattle.sequences.specs.declared.Led.{Led as Place}
use Rattle.sequences.specs.Rows.{Between, ScaleRowReady, ScaleRowDone, LoseReady, LoseDone, DivideReady, DivideDone}
use Rattle.sequences.specs.Starts.{FinishReady, FinishDone}
use Rattle.sequences.specs.Outcomes.{RunReady, RunDone}

-- ---- the numbers
abbrev pub under_of : List ℕ → ℕ → ℕ → ℕ
under_of d h ea = ea + modulus_size d h

abbrev pub next_of : List ℕ → ℕ → ℕ → ℕ
next_of d h top = top + 5 * ((degree d h + 1) * size d h + 1)

-- ---- places
-- n words from a on and m from b on have none in common
pub record Clear (a n b m : ℕ) : Type 0 where
  pub apart : Between a n b m

-- the places of two neighbours f and k: rows of n words behind a word of their own, and s words for each inverse, all from top on and below next
pub record Laid (top next n s fr fc fu kr kc ku : ℕ) : Type 0 where
  pub fr_low : top < fr
  pub fr_high : fr + n ≤ next
  pub fc_low : top < fc
  pub fc_high : fc + n ≤ next
  pub fu_low : top ≤ fu
  pub fu_high : fu + s ≤ next
  pub kr_low : top < kr
  pub kr_high : kr + n ≤ next
  pub kc_low : top < kc
  pub kc_high : kc + n ≤ next
  pub ku_low : top ≤ ku
  pub ku_high : ku + s ≤ next
  pub fr_fc : Clear fr n fc n
  pub fr_fu : Clear fr n fu s
  pub fr_kr : Clear fr n kr n
  pub fr_kc : Clear fr n kc n
  pub fr_ku : Clear fr n ku s
  pub fc_fu : Clear fc n fu s
  pub fc_kr : Clear fc n kr n
  pub fc_kc : Clear fc n kc n
  pub fc_ku : Clear fc n ku s
  pub fu_kr : Clear fu s kr n
  pub fu_kc : Clear fu s kc n
  pub fu_ku : Clear fu s ku s
  pub kr_kc : Clear kr n kc n
  pub kr_ku : Clear kr n ku s
  pub kc_ku : Clear kc n ku s

-- ---- two neighbours of the sequence on the modulus m and v
module _ (L : Level) (g : ℕ) (m v : Vec L.ring.Car g) where
  -- what the sequence on two neighbours, of at most k remainders, leads to
  abbrev after : ℕ → Led L.ring.Car (Vec L.ring.Car g) → Led L.ring.Car (Vec L.ring.Car g) → Answer (L.Shown ⊎ Mon L.ring.Car) (Vec L.ring.Car g)
  after k f k' = bind (lazy (beneath L g m) (elements L g m) k f k') (λ r. finish L g m r.degree r.low r.carried)

  -- f and k follow each other; what they carry has few coefficients
  pub record Turning (f k : Led L.ring.Car (Vec L.ring.Car g)) : Type 0 where
    pub unit_f : UnitLed L.ring f
    pub unit_k : UnitLed L.ring k
    pub falls : k.degree < f.degree
    pub most : f.degree ≤ g
    pub carried_f : Below L.ring.𝟘 (g - f.degree) (coef L.ring.𝟘 g f.carried)
    pub carried_k : Below L.ring.𝟘 (suc g - f.degree) (coef L.ring.𝟘 g k.carried)
    pub comes : inverse L g m v ≡ after (suc k.degree) f k

-- f's coefficients at row, what it carries, and the inverse of its leading coefficient
pub record Stood (p : ℕ) (p_pos : 0 < p) (d : List ℕ) (h : ℕ) (f : Led (El p d h) (Vec (El p d h) (degree d h))) (row carried unit : ℕ) (w : List ℤ) : Type 0 where
  pub coefficients : Elements p d h (suc f.degree) (coef (group p p_pos d h).𝟘 (suc f.degree) (whole f)) w row
  pub carries : Elements p d h (degree d h) (coef (group p p_pos d h).𝟘 (degree d h) f.carried) w carried
  pub inverse : Stands p d h f.unit w unit

module _ {h : ℕ} {d z : List ℕ} {p : ℕ} {e : List ℤ} {e-in : Bool} {ea : ℕ} {x : List ℤ} {x_in : Bool} {a : ℕ} {w₀ : List ℤ} {top : ℕ}
    (r : RunReady (suc h) d z p e e-in ea x x_in a w₀ top) where
  abbrev pub level_of : Level
  level_of = level p r.p_pos d h r.t.0

  -- f and k, and how many coefficients they have
  pub record Going (fr fc fu fn kr kc ku kn : ℕ) (w : List ℤ) : Type 0 where
    pub f : Led (El p d h) (Vec (El p d h) (degree d h))
    pub k : Led (El p d h) (Vec (El p d h) (degree d h))
    pub turning : Turning level_of (degree d h) r.t.1 r.v f k
    pub f_count : fn ≡ suc f.degree
    pub k_count : kn ≡ suc k.degree
    pub f_stands : Stood p r.p_pos d h f fr fc fu w
    pub k_stands : Stood p r.p_pos d h k kr kc ku w

  -- f divides the one before it
  pub record Zero (fr fc fu fn kn : ℕ) (w : List ℤ) : Type 0 where
    pub none : kn ≡ 0
    pub f : Led (El p d h) (Vec (El p d h) (degree d h))
    pub f_count : fn ≡ suc f.degree
    pub above : 1 ≤ f.degree
    pub below : f.degree < degree d h
    pub unit_f : UnitLed (ring p r.p_pos d h r.t.0) f
    pub f_stands : Stood p r.p_pos d h f fr fc fu w
    pub comes : inv p r.p_pos d (suc h) r.t r.v ≡ shown (inr (f.degree, scaleᵛ (ring p r.p_pos d h r.t.0) f.degree f.unit f.low))

-- the store has come from w₀, where the inverse was asked for
pub record Looping (h : ℕ) (d z : List ℕ) (p : ℕ) (e : List ℤ) (e-in : Bool) (ea : ℕ) (x : List ℤ) (x_in : Bool) (a : ℕ) (w₀ : List ℤ) (top : ℕ)
    (fr fc fu fn kr kc ku kn : ℕ) (w : List ℤ) : Type 0 where
  pub ready : RunReady (suc h) d z p e e-in ea x x_in a w₀ top
  pub frame : Kept top (inverse_work d (suc h)) w₀ w
  pub laid : Laid top (next_of d h top) ((degree d h + 1) * size d h) (size d h) fr fc fu kr kc ku
  pub state : Going ready fr fc fu fn kr kc ku kn w ⊎ Zero ready fr fc fu fn kn w

-- ---- the sequence from there on
-- the degree and the size one level down, where the words of its tower begin, and where those above the slots begin
pub record Figures (h : ℕ) (d : List ℕ) (ea top g s under next : ℕ) : Type 0 where
  pub degree-is : g ≡ degree d h
  pub size_is : s ≡ size d h
  pub under-is : under ≡ under_of d h ea
  pub next_is : next ≡ next_of d h top

-- an inverse of some element was asked for, with these numbers, and has come so far
pub record Underway (h g s : ℕ) (d z : List ℕ) (p : ℕ) (e : List ℤ) (e-in : Bool) (under : ℕ) (f k : Place) (w : List ℤ) (next : ℕ) : Type 0 where
  pub ea : ℕ
  pub x : List ℤ
  pub x_in : Bool
  pub a : ℕ
  pub w₀ : List ℤ
  pub top : ℕ
  pub figures : Figures h d ea top g s under next
  pub looping : Looping h d z p e e-in ea x x_in a w₀ top f.row f.carried f.unit f.count k.row k.carried k.unit k.count w

-- whatever it was, it is done
pub record PassesDone (h g s : ℕ) (d z : List ℕ) (p : ℕ) (e : List ℤ) (e-in : Bool) (under : ℕ) (f k : Place) (w w' : List ℤ) (next : ℕ) (r : Result ℕ Stop) : Type 0 where
  pub done : (u : Underway h g s d z p e e-in under f k w next) → RunDone (suc h) d p e e-in u.ea u.x u.x_in u.a u.w₀ w' u.top r

-- ---- the steps, as they ask for what they call
-- f's row is divided by k's, and what f carries loses the quotient times what k carries
pub record RemainderReady (h g s : ℕ) (d z : List ℕ) (p : ℕ) (e : List ℤ) (e-in : Bool) (under : ℕ) (f k : Place) (w : List ℤ) (next : ℕ) : Type 0 where
  pub some : 0 < k.count
  pub fewer : k.count ≤ f.count
  pub most : f.count ≤ g + 1
  pub few : g + 2 ≤ length w
  pub inside : f.row + (k.count - 1) * s ≤ length w
  pub divide : DivideReady h d z p e e-in under k.row (k.count - 1) k.unit w f.row f.count next
  pub lose : (v : List ℤ) → DivideDone h d p e e-in under k.row (k.count - 1) k.unit w v f.row f.count next
      → LoseReady h d z p e e-in under (f.row + (k.count - 1) * s) (f.count - (k.count - 1)) k.carried (g + 2 - f.count) v f.carried next

-- v is the store between the two
pub record RemainderDone (h g s : ℕ) (d : List ℕ) (p : ℕ) (e : List ℤ) (e-in : Bool) (under : ℕ) (f k : Place) (w w' : List ℤ) (next : ℕ) : Type 0 where
  pub v : List ℤ
  pub divided : DivideDone h d p e e-in under k.row (k.count - 1) k.unit w v f.row f.count next
  pub lost : LoseDone h d p e e-in under (f.row + (k.count - 1) * s) (f.count - (k.count - 1)) k.carried (g + 2 - f.count) v w' f.carried next

-- the n coefficients at row are multiplied by the one at unit, and made an element of g coefficients
pub record Settling (h n g s : ℕ) (d z : List ℕ) (p : ℕ) (e : List ℤ) (e-in : Bool) (under unit : ℕ) (w : List ℤ) (row next : ℕ) : Type 0 where
  pub behind : 0 < row
  pub scale : ScaleRowReady h n d z p e e-in under unit w row next
  pub finish : (v : List ℤ) → ScaleRowDone h n d p e e-in under unit w v row next → FinishReady h n g s d z v row

-- v is the store between the two
pub record Settled (h n g : ℕ) (d : List ℕ) (p : ℕ) (e : List ℤ) (e-in : Bool) (under unit : ℕ) (w w' : List ℤ) (row next : ℕ) : Type 0 where
  pub v : List ℤ
  pub scaled : ScaleRowDone h n d p e e-in under unit w v row next
  pub finished : FinishDone h n g d v w' row

-- where k is zero, f is made monic; else what k carries is multiplied by the inverse of k's leading coefficient
pub record CloseReady (h g s : ℕ) (d z : List ℕ) (p : ℕ) (e : List ℤ) (e-in : Bool) (under : ℕ) (f k : Place) (w : List ℤ) (next : ℕ) : Type 0 where
  pub low : h ≤ 4
  pub factor : k.count ≡ 0 → Settling h f.count g s d z p e e-in under f.unit w f.row next
  pub inverse : ¬ (k.count ≡ 0) → Settling h g g s d z p e e-in under k.unit w k.carried next

-- the answer is told by its first word's place
pub record CloseDone (h g : ℕ) (d : List ℕ) (p : ℕ) (e : List ℤ) (e-in : Bool) (under : ℕ) (f k : Place) (w w' : List ℤ) (next : ℕ) (r : Result ℕ Stop) : Type 0 where
  pub factor : k.count ≡ 0 → (r ≡ Err (Factor (suc h) (f.row - 1))) × Settled h f.count g d p e e-in under f.unit w w' f.row next
  pub inverse : ¬ (k.count ≡ 0) → (r ≡ Ok (k.carried - 1)) × Settled h g g d p e e-in under k.unit w w' k.carried next

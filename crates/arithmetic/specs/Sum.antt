-- Sum and difference of elements and slots, as values and as words.
--
-- gained G neg x y  == x + y in the group G, or x - y where neg
-- slot_gained       == the same of polynomials, on as many coefficients as the first has
-- gained_places     == an element above level 0 is gained coefficient by coefficient
-- Gained, RowGained == what the code on an element, and on a slot, leaves in the store;  WordTerms, Terms, RowTerms == what it asks for
-- gained_number     == the same of residues, as numbers
use Rattle.std.specs.Prelude.{ℕ, ◌+◌, ◌-◌, ◌*◌, ◌%◌, ◌<◌, ◌≤◌, ◌≡◌, Bool, true, false, List, [], ◌∷◌, ℤ, pos, length, get_or}
use Rattle.std.proofs.Common.{sym, ap, ap₂, ◌∙◌}
use Rattle.algebra.specs.Ring.{Group, negative_zero}
use Rattle.algebra.specs.Vec.{Vec, coef, trunc, vec_group, negᵛ, coef_inj, coef-trunc, trunc-at, coef_below, coef-add, coef-neg}
use Rattle.tower.specs.Levels.{El, group}
use Rattle.tower.specs.Writing.{size, write, slot, count_of}
use Rattle.algebra.specs.Zmod.{Residue}
use Rattle.residue.specs.Number.{Modulus}
use Rattle.tower.specs.Ready.{Sized}
use Rattle.tower.specs.Store.{Put}
use Rattle.tower.specs.Stands.{Stands, SlotStands}

abbrev pub gained : (G : Group) → Bool → G.Car → G.Car → G.Car
gained G false x y = G.◌⊕◌ x y
gained G true x y = G.◌⊕◌ x (G.⊖◌ y)

-- what is zero gains nothing
pub gained-zero : (G : Group) (neg : Bool) (x : G.Car) → gained G neg x G.𝟘 ≡ x
gained-zero G false x = G.⊕_zero x
gained-zero G true x = ap (λ y. G.◌⊕◌ x y) (negative_zero G) ∙ G.⊕_zero x

-- a polynomial of k coefficients gains one of l: what stands above k is not looked at
abbrev pub slot_gained : (G : Group) → Bool → (k l : ℕ) → Vec G.Car k → Vec G.Car l → Vec G.Car k
slot_gained G neg k l u v = trunc k (λ j. gained G neg (coef G.𝟘 k u j) (coef G.𝟘 l v j))

pub gained-coef : (G : Group) (neg : Bool) (n : ℕ) (u v : Vec G.Car n) (j : ℕ)
    → coef G.𝟘 n (gained (vec_group G n) neg u v) j ≡ gained G neg (coef G.𝟘 n u j) (coef G.𝟘 n v j)
gained-coef G false n u v j = coef-add G n u v j
gained-coef G true n u v j = coef-add G n u (negᵛ G n v) j ∙ ap (λ y. G.◌⊕◌ (coef G.𝟘 n u j) y) (coef-neg G n v j)

pub gained-at : (G : Group) (neg : Bool) (k l : ℕ) (u : Vec G.Car k) (v : Vec G.Car l) (j : ℕ) → j < k
    → coef G.𝟘 k (slot_gained G neg k l u v) j ≡ gained G neg (coef G.𝟘 k u j) (coef G.𝟘 l v j)
gained-at G neg k l u v j h = trunc-at G.𝟘 k _ j h

pub gained_places : (G : Group) (neg : Bool) (n : ℕ) (u v : Vec G.Car n) → gained (vec_group G n) neg u v ≡ slot_gained G neg n n u v
gained_places G neg n u v = coef_inj G.𝟘 n _ _ (λ j. gained-coef G neg n u v j ∙ sym (coef-trunc G.𝟘 n _ low j))
  where
    low : (j : ℕ) → n ≤ j → gained G neg (coef G.𝟘 n u j) (coef G.𝟘 n v j) ≡ G.𝟘
    low j h = ap₂ (gained G neg) (coef_below G.𝟘 n u j h) (coef_below G.𝟘 n v j h) ∙ gained-zero G neg G.𝟘

-- the number that u and v come to
abbrev pub gained_number : Bool → ℕ → ℕ → ℕ → ℕ
gained_number false p u v = (u + v) % p
gained_number true p u v = (u + (p - v)) % p

-- ---- in the store: whatever stood at b in the store w, and at a in the words x
abbrev pub Gained : (p : ℕ) (d : List ℕ) (i : ℕ) → Bool → List ℤ → ℕ → ℕ → List ℤ → List ℤ → Type 0
Gained p d i neg x a b w w' =
    (p_pos : 0 < p) (u v : El p d i) → Stands p d i u w b → Stands p d i v x a → Put b (write p d i (gained (group p p_pos d i) neg u v)) w w'

abbrev pub WordGained : (p : ℕ) → Bool → List ℤ → ℕ → ℕ → List ℤ → List ℤ → Type 0
WordGained p neg x a b w w' =
    (u v : ℕ) → get_or w b (pos 0) ≡ pos u → get_or x a (pos 0) ≡ pos v → Put b (pos (gained_number neg p u v) ∷ []) w w'

abbrev pub RowGained : (p : ℕ) (d : List ℕ) (i k : ℕ) → Bool → List ℤ → ℕ → ℕ → List ℤ → List ℤ → Type 0
RowGained p d i k neg x a b w w' =
    (p_pos : 0 < p) (u : Vec (El p d i) k) (l : ℕ) (v : Vec (El p d i) l)
    → SlotStands p d i k u w b → SlotStands p d i l v x a → Put b (slot p d i k (slot_gained (group p p_pos d i) neg k l u v)) w w'

-- ---- what the code asks for
-- a residue at b in the store, and one at a in the words x
pub record WordTerms (p : ℕ) (x : List ℤ) (a b : ℕ) (w : List ℤ) : Type 0 where
  pub modulus : Modulus p
  pub left : Residue p
  pub left_is : get_or w b (pos 0) ≡ pos left.0
  pub left_inside : b < length w
  pub right : Residue p
  pub right_is : get_or x a (pos 0) ≡ pos right.0
  pub right_inside : a < length x

-- an element of level i at b in the store, and one at a in the words x
pub record Terms (p : ℕ) (d z : List ℕ) (i : ℕ) (x : List ℤ) (a b : ℕ) (w : List ℤ) : Type 0 where
  pub modulus : Modulus p
  pub low : i ≤ 4
  pub sized : Sized d z
  pub left : El p d i
  pub left_stands : Stands p d i left w b
  pub left_inside : b + size d i ≤ length w
  pub right : El p d i
  pub right_stands : Stands p d i right x a
  pub right_inside : a + size d i ≤ length x

-- a slot of k coefficients of level i at b in the store, and one in the words x at a whose degree is below k
pub record RowTerms (p : ℕ) (d z : List ℕ) (i k : ℕ) (x : List ℤ) (a b : ℕ) (w : List ℤ) : Type 0 where
  pub modulus : Modulus p
  pub low : i ≤ 4
  pub sized : Sized d z
  pub left : Vec (El p d i) k
  pub left_stands : SlotStands p d i k left w b
  pub left_inside : b + k * size d i + 1 ≤ length w
  pub coefficients : ℕ
  pub right : Vec (El p d i) coefficients
  pub right_stands : SlotStands p d i coefficients right x a
  pub right_inside : a + coefficients * size d i + 1 ≤ length x
  pub few : count_of (get_or x a (pos 0)) ≤ k

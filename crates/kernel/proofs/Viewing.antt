-- Laws of the tests of two slots and of the leading view.
--
-- and_split, shape-some == both of two tests hold; a coefficient has words;  forms-found == the form of two slots
-- view_first, view_short, view_end == the number, test by test, with the values that the calls gave
-- top_ready                    == a slot in form has the words that its degree word counts
-- ready_a, ready_b             == no number: a and b have the words that their degree words count
use Rattle.kernel.proofs.Order.{then_first, then_next}
use Rattle.kernel.proofs.Shapes.{size-found, length-found, form-found}
use Rattle.kernel.specs.Answers.{number_of}
use Rattle.kernel.specs.Promises.{LeadingShown}
use Rattle.kernel.specs.Calls.{size_of, length_ok, form_ok, tower_number}
use Rattle.kernel.specs.Meaning.{tower_behind}
use Rattle.kernel.specs.Refusals.{unless, and_then}
use Rattle.kernel.specs.Shape.{Known, ShapeOf}
use Rattle.kernel.specs.SlotLaws.{held_few}
use Rattle.kernel.specs.SlotMeaning.{room-count, length_iff}
use Rattle.kernel.specs.Slots.{degree_count}
use Rattle.kernel.specs.ViewMeaning.{Viewed, viewed}
use Rattle.kernel.specs.Views.{view_number}
use Rattle.kernel.specs.declared.refusals.Refusal.{Refusal}
use Rattle.kernel.specs.declared.shape.Shape.{Shape}
use Rattle.residue.specs.Word.{num}
use Rattle.tower.specs.Form.{slot_form}
use Rattle.tower.specs.Limits.{p_ok, degrees_of, slot_length, slot_count}
use Rattle.tower.specs.Lists.{of_true, to_true}
use Rattle.tower.specs.Writing.{size-pos}
use mir.Syntax.{w64}
use mir.Val.{SFits, to_z, of_z}
use mir.ValLaws.{to_z-of_z}
use mathlib.Core.Path.{◌≡◌, refl, sym, ap, ap₂, ◌∙◌, subst₂}
use mathlib.Core.Bool.{Bool, true, false, ◌&&◌}
use mathlib.Core.List.{List, [], ◌∷◌}
use Prim.Native.Nat.{ℕ, ◌*◌, ◌<◌, ◌≤◌}
use native.Mathlib.Nat.{mul-le-mul_right}
use native.Mathlib.Omega.{arith}
use lib.IntN.{ℤ}
use lib.Dec.{T}
use lib.ListN.{length}

-- ---- two slots of allowed lengths have words
pub and_split : (x y : Bool) → (x && y) ≡ true → (x ≡ true) × (y ≡ true)
and_split true y h = (refl, h)
and_split false y h = (h, to_true y (absurd (of_true false h)))

pub shape-some : (s : Shape) → Known s → 0 < s.size
shape-some s k = omega (arith, k.is-size, size-pos s.degrees s.levels)

-- the form of two slots, with the values that the calls gave
pub forms-found : {n : ℤ} {e : List ℤ} {s : Shape} (is : ShapeOf n e s) (p : ℤ) (q : ℕ) → q ≡ num p → (a b : List ℤ) (y : Bool)
    → y ≡ (slot_form q s.degrees s.levels (slot_count s.size (length a)) a && slot_form q s.degrees s.levels (slot_count s.size (length b)) b)
    → (form_ok p n e a && form_ok p n e b) ≡ y
forms-found is p q eq a b y ey = ap₂ ◌&&◌ (form-found is p q eq a _ refl) (form-found is p q eq b _ refl) ∙ sym ey

-- ---- the numbers
module _ (p n : ℤ) (e t a b : List ℤ) where
  abbrev lengths : Bool
  lengths = length_ok n e a && length_ok n e b

  abbrev forms : Bool
  forms = form_ok p n e a && form_ok p n e b

  abbrev rest : Bool → Bool → ℕ
  rest x y = unless x 4 (unless y 5 0)

  -- the tests behind those of the tower
  view-is : view_number p n e t a b ≡ and_then (tower_number p n e t) (rest lengths forms)
  unfolding view_number
  view-is = tower_behind p n e t ((4, λ _. lengths) ∷ (5, λ _. forms) ∷ [])

  -- test by test, with the values that the calls gave
  pub view_first : (r : Refusal) → tower_number p n e t ≡ number_of r → view_number p n e t a b ≡ number_of r
  view_first r h = view-is ∙ then_first _ _ r h

  module _ (h : tower_number p n e t ≡ 0) where
    view-rest : (x y : Bool) → lengths ≡ x → forms ≡ y → view_number p n e t a b ≡ rest x y
    view-rest x y k l = view-is ∙ then_next _ _ _ h (ap₂ rest k l)

    module _ (s : Shape) (is : ShapeOf n e s) where
      lengths_told : (x : Bool) → x ≡ (slot_length s.size (length a) && slot_length s.size (length b)) → lengths ≡ x
      lengths_told x ex = ap₂ ◌&&◌ (length-found is a _ refl) (length-found is b _ refl) ∙ sym ex

      pub view_short : false ≡ (slot_length s.size (length a) && slot_length s.size (length b)) → view_number p n e t a b ≡ 4
      view_short f = view-rest false _ (lengths_told false f) refl

      pub view_end : true ≡ (slot_length s.size (length a) && slot_length s.size (length b)) → (q : ℕ) → q ≡ num p → (y : Bool)
          → y ≡ (slot_form q s.degrees s.levels (slot_count s.size (length a)) a && slot_form q s.degrees s.levels (slot_count s.size (length b)) b)
          → view_number p n e t a b ≡ unless y 5 0
      view_end f q eq y ey = view-rest true y (lengths_told true f) (forms-found is p q eq a b y ey)

-- ---- no number
-- a slot in form has all the coefficients that its degree word counts
module _ (p n : ℤ) (e x : List ℤ) (h : T (p_ok p)) (l : T (length_ok n e x)) (f : T (form_ok p n e x)) where
  pub top_ready : (s : ℕ) → s ≡ size_of n e → (0 < length x) × (degree_count x * s < length x) × (length x ≤ 65536)
  top_ready s es =
      let r = (length_iff n e x).0 l in
      let few : degree_count x ≤ r.count = omega (arith, held_few p n e h x f, room-count (size_of n e) (length x) (size-pos (degrees_of e) (num n)) r) in (
        omega (arith, r.long),
        omega (arith, r.long, ap (λ m. degree_count x * m) es, mul-le-mul_right (size_of n e) few),
        r.short,
      )

module _ (p n : ℤ) (e t a b : List ℤ) where
  module _ (passed : view_number p n e t a b ≡ 0) where
    view_tests : Viewed p n e t a b
    view_tests = viewed p n e t a b passed

    module _ (s : Shape) (is : ShapeOf n e s) where
      pub ready_a : (0 < length a) × (degree_count a * s.size < length a) × (length a ≤ 65536)
      ready_a = top_ready p n e a view_tests.tower.range.modulus view_tests.long_a view_tests.form_a s.size (size-found is)

      pub ready_b : (0 < length b) × (degree_count b * s.size < length b) × (length b ≤ 65536)
      ready_b = top_ready p n e b view_tests.tower.range.modulus view_tests.long_b view_tests.form_b s.size (size-found is)

pub leading-plain : {p n : ℤ} (e t a b w : List ℤ) → SFits w64 p → SFits w64 n
    → LeadingShown (to_z w64 (of_z w64 p)) (to_z w64 (of_z w64 n)) e t a b w → LeadingShown p n e t a b w
leading-plain {p} {n} e t a b w fp fn h = subst₂ (λ x y. LeadingShown x y e t a b w) (to_z-of_z w64 p fp) (to_z-of_z w64 n fn) h

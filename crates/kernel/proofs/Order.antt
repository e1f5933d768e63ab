-- Laws of the calls: from the numbers to what is known after them.
use Rattle.kernel.proofs.Range.{small_of, levels_low}
use Rattle.kernel.specs.Answers.{number_of}
use Rattle.kernel.specs.Calls.{length_ok, form_ok, tower_row, shape_table, base_table, shape_number, base_number, tower_number, slot_number}
use Rattle.kernel.specs.Refusals.{Numbered, first-append, unless, and_then, passed_of}
use Rattle.kernel.specs.declared.refusals.Refusal.{Refusal}
use Rattle.kernel.specs.declared.refusals.Refusal.TheVariants.{BadModulus, BadDegrees, BadTower, BadLength, BadForm, SmallAnswer, SmallWork, NotMonic, OfZero, NoResidue, TooLong}
use Rattle.kernel.specs.SlotMeaning.{slot_is}
use Rattle.residue.specs.Word.{num}
use Rattle.tower.specs.Form.{seg, tower_form}
use Rattle.tower.specs.Limits.{p_ok, degrees_of, levels_ok, degrees_ok}
use Rattle.tower.specs.Lists.{to_true, of_true}
use Rattle.tower.specs.Ready.{Small}
use Rattle.tower.specs.Writing.{size}
use mathlib.Core.Path.{◌≡◌, refl, ap, ap₂, ◌∙◌}
use mathlib.Core.Bool.{Bool, true}
use mathlib.Core.List.{List, [], ◌∷◌}
use Prim.Native.Nat.{ℕ, zero, suc, ◌<◌, ◌≤◌}
use native.Mathlib.Nat.{lt_irrefl}
use native.Mathlib.Omega.{arith}
use lib.IntN.{ℤ}
use lib.Dec.{leb, leb→le}
use lib.ListN.{length}
use lib.Seq.{take_all}

-- ---- a table behind a table, as numbers
pub shape_numbered : (n : ℤ) (e : List ℤ) → Numbered (shape_table n e)
shape_numbered n e = (omega arith, (omega arith, (omega arith, tt)))

pub base_numbered : (p n : ℤ) (e : List ℤ) → Numbered (base_table p n e)
base_numbered p n e = (omega arith, shape_numbered n e)

pub base_is : (p n : ℤ) (e : List ℤ) → base_number p n e ≡ unless (p_ok p) 1 (shape_number n e)
unfolding base_number shape_number
base_is p n e = refl

pub tower-after_base : (p n : ℤ) (e t : List ℤ) → tower_number p n e t ≡ and_then (base_number p n e) (unless (tower_form (num p) (degrees_of e) (num n) t) 3 0)
unfolding tower_number base_number
tower-after_base p n e t = first-append (base_table p n e) (tower_row p n e t ∷ []) (base_numbered p n e)

-- what passed when no number came out
pub record Passed (n : ℤ) (e : List ℤ) : Type 0 where
  pub levels : levels_ok n ≡ true
  pub degrees : degrees_ok (num n) e ≡ true
  pub few : leb (size (degrees_of e) (num n)) 2048 ≡ true

pub shape-passed : (n : ℤ) (e : List ℤ) → shape_number n e ≡ 0 → Passed n e
unfolding shape_number
shape-passed n e h =
    let x = passed_of (shape_table n e) (shape_numbered n e) h in
    record { levels = to_true _ x.0; degrees = to_true _ x.1.0; few = to_true _ x.1.1.0 }

pub passed_small : (n : ℤ) (e : List ℤ) → Passed n e → Small (degrees_of e)
passed_small n e h = small_of (num n) e h.degrees

pub passed_few : (n : ℤ) (e : List ℤ) → Passed n e → size (degrees_of e) (num n) ≤ 2048
passed_few n e h = leb→le (size (degrees_of e) (num n)) 2048 (of_true _ h.few)

pub passed-low : (n : ℤ) (e : List ℤ) → Passed n e → num n ≤ 4
passed-low n e h = levels_low n h.levels

-- ---- a number behind another
pub zero_then : (a b : ℕ) → and_then a b ≡ 0 → a ≡ 0
zero_then zero b h = refl
zero_then (suc a) b h = h

pub then_second : (a b : ℕ) → and_then a b ≡ 0 → b ≡ 0
then_second zero b h = h
then_second (suc a) b h = absurd (lt_irrefl 0 (omega arith))

-- no refusal has the number 0
pub number_some : (r : Refusal) → 0 < number_of r
number_some BadModulus = omega arith
number_some BadDegrees = omega arith
number_some BadTower = omega arith
number_some BadLength = omega arith
number_some BadForm = omega arith
number_some SmallAnswer = omega arith
number_some SmallWork = omega arith
number_some NotMonic = omega arith
number_some OfZero = omega arith
number_some NoResidue = omega arith
number_some TooLong = omega arith

-- a refusal found earlier stays, and else it is the next
pub then_first : (a b : ℕ) (r : Refusal) → a ≡ number_of r → and_then a b ≡ number_of r
then_first zero b r e = absurd (lt_irrefl 0 (omega (arith, number_some r)))
then_first (suc a) b r e = e

pub then_next : (a b k : ℕ) → a ≡ 0 → b ≡ k → and_then a b ≡ k
then_next zero b k e q = q
then_next (suc a) b k e q = absurd (lt_irrefl 0 (omega arith))

module _ (p n : ℤ) (e t : List ℤ) where
  pub tower-first : (r : Refusal) → base_number p n e ≡ number_of r → tower_number p n e t ≡ number_of r
  tower-first r h = tower-after_base p n e t ∙ then_first _ _ _ h

  pub tower-rest : base_number p n e ≡ 0 → (b : Bool) → tower_form (num p) (degrees_of e) (num n) t ≡ b → tower_number p n e t ≡ unless b 3 0
  tower-rest h b k = tower-after_base p n e t ∙ then_next _ _ _ h (ap (λ x. unless x 3 0) k)

  pub slot-first : (a : List ℤ) (r : Refusal) → tower_number p n e t ≡ number_of r → slot_number p n e t a ≡ number_of r
  slot-first a r h = slot_is p n e t a ∙ then_first _ _ _ h

  pub slot-rest : (a : List ℤ) → tower_number p n e t ≡ 0 → (x y : Bool) → length_ok n e a ≡ x → form_ok p n e a ≡ y → slot_number p n e t a ≡ unless x 4 (unless y 5 0)
  slot-rest a h x y k l = slot_is p n e t a ∙ then_next _ _ _ h (ap₂ (λ u v. unless u 4 (unless v 5 0)) k l)

-- the whole list as a part
pub seg_all : (m : ℕ) (a : List ℤ) → length a ≡ m → seg 0 m a ≡ a
seg_all m a h = take_all m a (omega arith)

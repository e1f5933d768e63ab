-- The answers of the public calls as numbers, and what the calls for C promise.
--
-- code                        == 0 for Done, a refusal's number, or 100 and a shown factor's level
-- Plain                       == an answer that document 01 has: Done, a number from 1 to 11, or a level of at most 4
-- refusal-plain, changed_plain == the answer of a call that gives a number of at most 11 is plain
-- TowerCoded, SlotCoded, SumCoded, ProductCoded, DivisionCoded == the kernel's promise of the call, its answer told as a number
-- .. _coded_determined        == two results that a promise allows are equal
-- .. -said-plain              == what the kernel's call answers is plain;  .. -code_tells, that the number tells which answer it is, are in proofs/Codes
use Rattle.std.specs.Prelude.{ℕ, zero, suc, ◌+◌, ◌≤◌, ◌≡◌, Bool, List, ℤ}
use Rattle.std.proofs.Common.{arith, sym, ◌∙◌}
use Rattle.kernel.specs.Refusals.{Said, done, factor, refused, refusal}
use Rattle.kernel.specs.Calls.{tower_number, check_tower, slot_number, check_slot}
use Rattle.kernel.specs.Meaning.{tower_numbers}
use Rattle.kernel.specs.SlotMeaning.{slot_numbers}
use Rattle.kernel.specs.Slots.{changed_by}
use Rattle.kernel.specs.Sums.{sum_number, sum}
use Rattle.kernel.specs.SumMeaning.{sum_numbers}
use Rattle.kernel.specs.Products.{product_number, product}
use Rattle.kernel.specs.ProductMeaning.{product_numbers}
use Rattle.kernel.specs.Divisions.{division_number, division}
use Rattle.kernel.specs.DivisionMeaning.{division_numbers}

abbrev pub code : Said → ℕ
code done = 0
code (factor level) = 100 + level
code (refused number) = number

abbrev pub Plain : Said → Type 0
Plain done = Unit {0}
Plain (factor level) = level ≤ 4
Plain (refused number) = (1 ≤ number) × (number ≤ 11)

-- what a call that gives the number k answers
refusal-plain : (k : ℕ) → k ≤ 11 → Plain (refusal k)
refusal-plain zero l = tt
refusal-plain (suc k) l = (omega arith, l)

changed_plain : {A : Type 0} (k : ℕ) (new old : A) → k ≤ 11 → Plain (changed_by k new old).said
changed_plain zero new old l = tt
changed_plain (suc k) new old l = (omega arith, l)

-- ---- check of a tower: the number
pub record TowerCoded (p n : ℤ) (e t : List ℤ) (r : ℕ) : Type 0 where
  pub answer : r ≡ code (check_tower p n e t)

pub tower_coded_determined : (p n : ℤ) (e t : List ℤ) (r s : ℕ) → TowerCoded p n e t r → TowerCoded p n e t s → r ≡ s
tower_coded_determined p n e t r s h k = h.answer ∙ sym k.answer

pub tower-said-plain : (p n : ℤ) (e t : List ℤ) → Plain (check_tower p n e t)
tower-said-plain p n e t = refusal-plain (tower_number p n e t) (omega (arith, tower_numbers p n e t))

-- ---- check of a slot: the number
pub record SlotCoded (p n : ℤ) (e t a : List ℤ) (r : ℕ) : Type 0 where
  pub answer : r ≡ code (check_slot p n e t a)

pub slot_coded_determined : (p n : ℤ) (e t a : List ℤ) (r s : ℕ) → SlotCoded p n e t a r → SlotCoded p n e t a s → r ≡ s
slot_coded_determined p n e t a r s h k = h.answer ∙ sym k.answer

pub slot-said-plain : (p n : ℤ) (e t a : List ℤ) → Plain (check_slot p n e t a)
slot-said-plain p n e t a = refusal-plain (slot_number p n e t a) (omega (arith, slot_numbers p n e t a))

-- ---- sum, or difference where neg: the number, and a's words afterwards
pub record SumCoded (neg : Bool) (p n : ℤ) (e t a b : List ℤ) (r : ℕ) (a' : List ℤ) : Type 0 where
  pub answer : r ≡ code (sum neg p n e t a b).said
  pub words : a' ≡ (sum neg p n e t a b).words

pub sum_coded_determined : (neg : Bool) (p n : ℤ) (e t a b : List ℤ) (r s : ℕ) (a₁ a₂ : List ℤ)
    → SumCoded neg p n e t a b r a₁ → SumCoded neg p n e t a b s a₂ → (r ≡ s) × (a₁ ≡ a₂)
sum_coded_determined neg p n e t a b r s a₁ a₂ h k = (h.answer ∙ sym k.answer, h.words ∙ sym k.words)

pub sum-said-plain : (neg : Bool) (p n : ℤ) (e t a b : List ℤ) → Plain (sum neg p n e t a b).said
sum-said-plain neg p n e t a b = changed_plain (sum_number p n e t a b) _ _ (omega (arith, sum_numbers p n e t a b))

-- ---- product: the number, and the words of c and of the work store afterwards
pub record ProductCoded (p n : ℤ) (e t a b c v : List ℤ) (r : ℕ) (c' v' : List ℤ) : Type 0 where
  pub answer : r ≡ code (product p n e t a b c v).said
  pub words : c' ≡ (product p n e t a b c v).words.product
  pub work : v' ≡ (product p n e t a b c v).words.work

pub product_coded_determined : (p n : ℤ) (e t a b c v : List ℤ) (r s : ℕ) (c₁ c₂ v₁ v₂ : List ℤ)
    → ProductCoded p n e t a b c v r c₁ v₁ → ProductCoded p n e t a b c v s c₂ v₂ → (r ≡ s) × (c₁ ≡ c₂) × (v₁ ≡ v₂)
product_coded_determined p n e t a b c v r s c₁ c₂ v₁ v₂ h k = (h.answer ∙ sym k.answer, h.words ∙ sym k.words, h.work ∙ sym k.work)

pub product-said-plain : (p n : ℤ) (e t a b c v : List ℤ) → Plain (product p n e t a b c v).said
product-said-plain p n e t a b c v = changed_plain (product_number p n e t a b c v) _ _ (omega (arith, product_numbers p n e t a b c v))

-- ---- division: the number, and the words of a, of q and of the work store afterwards
pub record DivisionCoded (p n : ℤ) (e t a b q v : List ℤ) (r : ℕ) (a' q' v' : List ℤ) : Type 0 where
  pub answer : r ≡ code (division p n e t a b q v).said
  pub remainder : a' ≡ (division p n e t a b q v).words.remainder
  pub quotient : q' ≡ (division p n e t a b q v).words.quotient
  pub work : v' ≡ (division p n e t a b q v).words.work

pub division_coded_determined : (p n : ℤ) (e t a b q v : List ℤ) (r s : ℕ) (a₁ a₂ q₁ q₂ v₁ v₂ : List ℤ)
    → DivisionCoded p n e t a b q v r a₁ q₁ v₁ → DivisionCoded p n e t a b q v s a₂ q₂ v₂ → (r ≡ s) × (a₁ ≡ a₂) × (q₁ ≡ q₂) × (v₁ ≡ v₂)
division_coded_determined p n e t a b q v r s a₁ a₂ q₁ q₂ v₁ v₂ h k =
    (h.answer ∙ sym k.answer, h.remainder ∙ sym k.remainder, h.quotient ∙ sym k.quotient, h.work ∙ sym k.work)

pub division-said-plain : (p n : ℤ) (e t a b q v : List ℤ) → Plain (division p n e t a b q v).said
division-said-plain p n e t a b q v = changed_plain (division_number p n e t a b q v) _ _ (omega (arith, division_numbers p n e t a b q v))

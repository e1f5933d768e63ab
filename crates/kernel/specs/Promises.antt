-- The promises of the public calls, as their contracts cite them, and that each determines what the call gives: two results that it allows are equal.
-- Lists that are lent to be read only cannot change, by their type.
--
-- TowerChecked, SlotChecked, SizesGiven, FractionGiven, LeadingShown, SumGiven, ProductGiven, DivisionGiven, InverseGiven, GcdGiven == the promises
-- .. _determined == two results that a promise allows are equal
-- in_order == the tests of each call stand in the order of their numbers;  numbers_used == which these are
use Rattle.std.specs.Prelude.{ℕ, ◌≡◌, refl, Bool, List, [], ◌∷◌, ℤ, T}
use Rattle.std.proofs.Common.{sym, ◌∙◌}
use Rattle.kernel.specs.declared.Answer.{Answer}
use Rattle.kernel.specs.declared.WorkSizes.{WorkSizes}
use Rattle.kernel.specs.declared.FractionResidue.{FractionResidue}
use Rattle.kernel.specs.Answers.{said, said_inj}
use Rattle.kernel.specs.Refusals.{Table, ordered}
use Rattle.kernel.specs.Calls.{tower_table, check_tower, slot_table, check_slot, work_table, work_sizes, fraction_table, fraction}
use Rattle.kernel.specs.Views.{view_table, leading_part, part_words}
use Rattle.kernel.specs.Sums.{sum_table, sum}
use Rattle.kernel.specs.Products.{product_table, product}
use Rattle.kernel.specs.Divisions.{division_table, division}
use Rattle.kernel.specs.Inverses.{inverse_table, inverse}
use Rattle.kernel.specs.Gcds.{gcd_table, gcd}

pub record TowerChecked (p n : ℤ) (e t : List ℤ) (r : Answer) : Type 0 where
  pub answer : said r ≡ check_tower p n e t

pub tower_determined : (p n : ℤ) (e t : List ℤ) (r s : Answer) → TowerChecked p n e t r → TowerChecked p n e t s → r ≡ s
tower_determined p n e t r s h k = said_inj r s (h.answer ∙ sym k.answer)

pub record SlotChecked (p n : ℤ) (e t a : List ℤ) (r : Answer) : Type 0 where
  pub answer : said r ≡ check_slot p n e t a

pub slot_determined : (p n : ℤ) (e t a : List ℤ) (r s : Answer) → SlotChecked p n e t a r → SlotChecked p n e t a s → r ≡ s
slot_determined p n e t a r s h k = said_inj r s (h.answer ∙ sym k.answer)

pub record SizesGiven (n : ℤ) (e : List ℤ) (a b : ℤ) (r : WorkSizes) : Type 0 where
  pub answer : said r.answer ≡ (work_sizes n e a b).said
  pub product : r.product ≡ (work_sizes n e a b).product
  pub inverse : r.inverse ≡ (work_sizes n e a b).inverse
  pub gcd : r.gcd ≡ (work_sizes n e a b).gcd

pub sizes_determined : (n : ℤ) (e : List ℤ) (a b : ℤ) (r s : WorkSizes) → SizesGiven n e a b r → SizesGiven n e a b s → r ≡ s
sizes_determined n e a b r s h k =
    let answer = said_inj r.answer s.answer (h.answer ∙ sym k.answer) in
    let product = h.product ∙ sym k.product in
    let inverse = h.inverse ∙ sym k.inverse in
    let gcd = h.gcd ∙ sym k.gcd in
    λ i. record { answer = answer i; product = product i; inverse = inverse i; gcd = gcd i }

pub record FractionGiven (p n e : ℤ) (r : FractionResidue) : Type 0 where
  pub answer : said r.answer ≡ (fraction p n e).said
  pub residue : r.residue ≡ (fraction p n e).residue

pub fraction_determined : (p n e : ℤ) (r s : FractionResidue) → FractionGiven p n e r → FractionGiven p n e s → r ≡ s
fraction_determined p n e r s h k =
    let answer = said_inj r.answer s.answer (h.answer ∙ sym k.answer) in
    let residue = h.residue ∙ sym k.residue in
    λ i. record { answer = answer i; residue = residue i }

-- the leading view: the words of the part that is shown, which tells the slot, where the part starts and how many words it has
pub record LeadingShown (p n : ℤ) (e t a b r : List ℤ) : Type 0 where
  pub words : r ≡ part_words (leading_part p n e t a b) a b

pub leading_determined : (p n : ℤ) (e t a b r s : List ℤ) → LeadingShown p n e t a b r → LeadingShown p n e t a b s → r ≡ s
leading_determined p n e t a b r s h k = h.words ∙ sym k.words

-- sum and difference: the answer, and a's words afterwards
pub record SumGiven (neg : Bool) (p n : ℤ) (e t a b : List ℤ) (r : Answer) (a' : List ℤ) : Type 0 where
  pub answer : said r ≡ (sum neg p n e t a b).said
  pub words : a' ≡ (sum neg p n e t a b).words

pub sum_determined : (neg : Bool) (p n : ℤ) (e t a b : List ℤ) (r s : Answer) (u v : List ℤ) → SumGiven neg p n e t a b r u → SumGiven neg p n e t a b s v → (r ≡ s) × (u ≡ v)
sum_determined neg p n e t a b r s u v h k = (said_inj r s (h.answer ∙ sym k.answer), h.words ∙ sym k.words)

-- product: the answer, and the words of c and of the work store afterwards
pub record ProductGiven (p n : ℤ) (e t a b c v : List ℤ) (r : Answer) (c' v' : List ℤ) : Type 0 where
  pub answer : said r ≡ (product p n e t a b c v).said
  pub words : c' ≡ (product p n e t a b c v).words.product
  pub work : v' ≡ (product p n e t a b c v).words.work

pub product_determined : (p n : ℤ) (e t a b c v : List ℤ) (r s : Answer) (c₁ c₂ v₁ v₂ : List ℤ)
    → ProductGiven p n e t a b c v r c₁ v₁ → ProductGiven p n e t a b c v s c₂ v₂ → (r ≡ s) × (c₁ ≡ c₂) × (v₁ ≡ v₂)
product_determined p n e t a b c v r s c₁ c₂ v₁ v₂ h k =
    (said_inj r s (h.answer ∙ sym k.answer), h.words ∙ sym k.words, h.work ∙ sym k.work)

-- division: the answer, and the words of a, of q and of the work store afterwards
pub record DivisionGiven (p n : ℤ) (e t a b q v : List ℤ) (r : Answer) (a' q' v' : List ℤ) : Type 0 where
  pub answer : said r ≡ (division p n e t a b q v).said
  pub remainder : a' ≡ (division p n e t a b q v).words.remainder
  pub quotient : q' ≡ (division p n e t a b q v).words.quotient
  pub work : v' ≡ (division p n e t a b q v).words.work

pub division_determined : (p n : ℤ) (e t a b q v : List ℤ) (r s : Answer) (a₁ a₂ q₁ q₂ v₁ v₂ : List ℤ)
    → DivisionGiven p n e t a b q v r a₁ q₁ v₁ → DivisionGiven p n e t a b q v s a₂ q₂ v₂ → (r ≡ s) × (a₁ ≡ a₂) × (q₁ ≡ q₂) × (v₁ ≡ v₂)
division_determined p n e t a b q v r s a₁ a₂ q₁ q₂ v₁ v₂ h k =
    (said_inj r s (h.answer ∙ sym k.answer), h.remainder ∙ sym k.remainder, h.quotient ∙ sym k.quotient, h.work ∙ sym k.work)

-- inverse: the answer, and the words of u, of the factor buffer and of the work store afterwards
pub record InverseGiven (p n : ℤ) (e t c u f v : List ℤ) (r : Answer) (u' f' v' : List ℤ) : Type 0 where
  pub answer : said r ≡ (inverse p n e t c u f v).said
  pub words : u' ≡ (inverse p n e t c u f v).words.inverse
  pub factor : f' ≡ (inverse p n e t c u f v).words.factor
  pub work : v' ≡ (inverse p n e t c u f v).words.work

pub inverse_determined : (p n : ℤ) (e t c u f v : List ℤ) (r s : Answer) (u₁ u₂ f₁ f₂ v₁ v₂ : List ℤ)
    → InverseGiven p n e t c u f v r u₁ f₁ v₁ → InverseGiven p n e t c u f v s u₂ f₂ v₂ → (r ≡ s) × (u₁ ≡ u₂) × (f₁ ≡ f₂) × (v₁ ≡ v₂)
inverse_determined p n e t c u f v r s u₁ u₂ f₁ f₂ v₁ v₂ h k =
    (said_inj r s (h.answer ∙ sym k.answer), h.words ∙ sym k.words, h.factor ∙ sym k.factor, h.work ∙ sym k.work)

-- GCD: the answer, and the words of g, of the factor buffer and of the work store afterwards
pub record GcdGiven (p n : ℤ) (e t a b g f v : List ℤ) (r : Answer) (g' f' v' : List ℤ) : Type 0 where
  pub answer : said r ≡ (gcd p n e t a b g f v).said
  pub words : g' ≡ (gcd p n e t a b g f v).words.gcd
  pub factor : f' ≡ (gcd p n e t a b g f v).words.factor
  pub work : v' ≡ (gcd p n e t a b g f v).words.work

pub gcd_determined : (p n : ℤ) (e t a b g f v : List ℤ) (r s : Answer) (g₁ g₂ f₁ f₂ v₁ v₂ : List ℤ)
    → GcdGiven p n e t a b g f v r g₁ f₁ v₁ → GcdGiven p n e t a b g f v s g₂ f₂ v₂ → (r ≡ s) × (g₁ ≡ g₂) × (f₁ ≡ f₂) × (v₁ ≡ v₂)
gcd_determined p n e t a b g f v r s g₁ g₂ f₁ f₂ v₁ v₂ h k =
    (said_inj r s (h.answer ∙ sym k.answer), h.words ∙ sym k.words, h.factor ∙ sym k.factor, h.work ∙ sym k.work)

-- "Refusal numbers, tested in this order": so each call's tests stand
pub record InOrder : Type 0 where
  pub tower : (p n : ℤ) (e t : List ℤ) → T (ordered 1 (tower_table p n e t))
  pub slot : (p n : ℤ) (e t a : List ℤ) → T (ordered 1 (slot_table p n e t a))
  pub sizes : (n : ℤ) (e : List ℤ) (a b : ℤ) → T (ordered 1 (work_table n e a b))
  pub fraction : (p e : ℤ) → T (ordered 1 (fraction_table p e))
  pub view : (p n : ℤ) (e t a b : List ℤ) → T (ordered 1 (view_table p n e t a b))
  pub sum : (p n : ℤ) (e t a b : List ℤ) → T (ordered 1 (sum_table p n e t a b))
  pub product : (p n : ℤ) (e t a b c v : List ℤ) → T (ordered 1 (product_table p n e t a b c v))
  pub division : (p n : ℤ) (e t a b q v : List ℤ) → T (ordered 1 (division_table p n e t a b q v))
  pub inverse : (p n : ℤ) (e t c r f v : List ℤ) → T (ordered 1 (inverse_table p n e t c r f v))
  pub gcd : (p n : ℤ) (e t a b g f v : List ℤ) → T (ordered 1 (gcd_table p n e t a b g f v))

pub in_order : InOrder
in_order = record {
  tower = λ p n e t. tt;
  slot = λ p n e t a. tt;
  sizes = λ n e a b. tt;
  fraction = λ p e. tt;
  view = λ p n e t a b. tt;
  sum = λ p n e t a b. tt;
  product = λ p n e t a b c v. tt;
  division = λ p n e t a b q v. tt;
  inverse = λ p n e t c r f v. tt;
  gcd = λ p n e t a b g f v. tt;
}

-- the numbers of a table, in the order of its tests
abbrev pub numbers_of : Table → List ℕ
numbers_of [] = []
numbers_of (row ∷ rows) = row.0 ∷ numbers_of rows

-- "Numbers used: check of a tower 1 to 3; check of a slot and leading view 1 to 5; sum and difference 1 to 6; product 1 to 7; division 1 to 8; inverse 1 to 5,
-- 7, 9, 11; GCD 1 to 7, 11; work sizes 2, 5; fraction 1, 10."; number 2 has three tests, number 10 two, and number 11 none: it would be the remainder sequence's
-- answer
pub record NumbersUsed : Type 0 where
  pub tower : (p n : ℤ) (e t : List ℤ) → numbers_of (tower_table p n e t) ≡ 1 ∷ 2 ∷ 2 ∷ 2 ∷ 3 ∷ []
  pub slot : (p n : ℤ) (e t a : List ℤ) → numbers_of (slot_table p n e t a) ≡ 1 ∷ 2 ∷ 2 ∷ 2 ∷ 3 ∷ 4 ∷ 5 ∷ []
  pub sizes : (n : ℤ) (e : List ℤ) (a b : ℤ) → numbers_of (work_table n e a b) ≡ 2 ∷ 2 ∷ 2 ∷ 5 ∷ []
  pub fraction : (p e : ℤ) → numbers_of (fraction_table p e) ≡ 1 ∷ 10 ∷ 10 ∷ []
  pub view : (p n : ℤ) (e t a b : List ℤ) → numbers_of (view_table p n e t a b) ≡ 1 ∷ 2 ∷ 2 ∷ 2 ∷ 3 ∷ 4 ∷ 5 ∷ []
  pub sum : (p n : ℤ) (e t a b : List ℤ) → numbers_of (sum_table p n e t a b) ≡ 1 ∷ 2 ∷ 2 ∷ 2 ∷ 3 ∷ 4 ∷ 5 ∷ 6 ∷ []
  pub product : (p n : ℤ) (e t a b c v : List ℤ) → numbers_of (product_table p n e t a b c v) ≡ 1 ∷ 2 ∷ 2 ∷ 2 ∷ 3 ∷ 4 ∷ 5 ∷ 6 ∷ 7 ∷ []
  pub division : (p n : ℤ) (e t a b q v : List ℤ) → numbers_of (division_table p n e t a b q v) ≡ 1 ∷ 2 ∷ 2 ∷ 2 ∷ 3 ∷ 4 ∷ 5 ∷ 6 ∷ 7 ∷ 8 ∷ []
  pub inverse : (p n : ℤ) (e t c r f v : List ℤ) → numbers_of (inverse_table p n e t c r f v) ≡ 1 ∷ 2 ∷ 2 ∷ 2 ∷ 3 ∷ 4 ∷ 5 ∷ 7 ∷ 9 ∷ []
  pub gcd : (p n : ℤ) (e t a b g f v : List ℤ) → numbers_of (gcd_table p n e t a b g f v) ≡ 1 ∷ 2 ∷ 2 ∷ 2 ∷ 3 ∷ 4 ∷ 5 ∷ 6 ∷ 7 ∷ []

pub numbers_used : NumbersUsed
numbers_used = record {
  tower = λ p n e t. refl;
  slot = λ p n e t a. refl;
  sizes = λ n e a b. refl;
  fraction = λ p e. refl;
  view = λ p n e t a b. refl;
  sum = λ p n e t a b. refl;
  product = λ p n e t a b c v. refl;
  division = λ p n e t a b q v. refl;
  inverse = λ p n e t c r f v. refl;
  gcd = λ p n e t a b g f v. refl;
}

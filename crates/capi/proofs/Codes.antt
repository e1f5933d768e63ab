-- A number that a call for C gives tells which answer it is.
--
-- code_inj                    == the numbers of two plain answers meet only where the answers are the same;  code_tells == so a number tells which it is
-- tower-code_tells .. gcd-code_tells == the number of each call tells which answer it is
use Rattle.std.specs.Prelude.{ℕ, ◌≡◌, refl, Bool, List, ◌↔◌, ℤ}
use Rattle.std.proofs.Common.{arith, sym, ap, ◌∙◌}
use Rattle.kernel.specs.Refusals.{Said, done, factor, refused}
use Rattle.kernel.specs.Calls.{check_tower, check_slot, work_sizes, fraction}
use Rattle.kernel.specs.Sums.{sum}
use Rattle.kernel.specs.Products.{product}
use Rattle.kernel.specs.Divisions.{division}
use Rattle.kernel.specs.Inverses.{inverse}
use Rattle.kernel.specs.Gcds.{gcd}
use Rattle.capi.specs.Codes.{code, Plain, TowerCoded, tower-said-plain, SlotCoded, slot-said-plain, SumCoded, sum-said-plain}
use Rattle.capi.specs.Codes.{ProductCoded, product-said-plain, DivisionCoded, division-said-plain}
use Rattle.capi.specs.NumberCodes.{SizesCoded, sizes-said-plain, FractionCoded, fraction-said-plain}
use Rattle.capi.specs.SequenceCodes.{InverseCoded, inverse-said-plain, GcdCoded, gcd-said-plain}

pub code_inj : (s r : Said) → Plain s → Plain r → code s ≡ code r → s ≡ r
code_inj done done p q e = refl
code_inj done (factor l) p q e = absurd (omega arith)
code_inj done (refused k) p q e = absurd (omega arith)
code_inj (factor j) done p q e = absurd (omega arith)
code_inj (factor j) (factor l) p q e = ap factor (omega arith)
code_inj (factor j) (refused k) p q e = absurd (omega arith)
code_inj (refused j) done p q e = absurd (omega arith)
code_inj (refused j) (factor l) p q e = absurd (omega arith)
code_inj (refused j) (refused k) p q e = ap refused e

-- a number that is the code of what was said tells it among the plain answers
pub code_tells : (said s : Said) (r : ℕ) → Plain said → Plain s → r ≡ code said → (r ≡ code s) ↔ (said ≡ s)
code_tells said s r p q e = (λ h. code_inj said s p q (sym e ∙ h), λ h. e ∙ ap code h)

pub tower-code_tells : (p n : ℤ) (e t : List ℤ) (r : ℕ) → TowerCoded p n e t r → (s : Said) → Plain s → (r ≡ code s) ↔ (check_tower p n e t ≡ s)
tower-code_tells p n e t r h s q = code_tells _ s r (tower-said-plain p n e t) q h.answer

pub slot-code_tells : (p n : ℤ) (e t a : List ℤ) (r : ℕ) → SlotCoded p n e t a r → (s : Said) → Plain s → (r ≡ code s) ↔ (check_slot p n e t a ≡ s)
slot-code_tells p n e t a r h s q = code_tells _ s r (slot-said-plain p n e t a) q h.answer

pub sum-code_tells : (neg : Bool) (p n : ℤ) (e t a b : List ℤ) (r : ℕ) (a' : List ℤ) → SumCoded neg p n e t a b r a'
    → (s : Said) → Plain s → (r ≡ code s) ↔ ((sum neg p n e t a b).said ≡ s)
sum-code_tells neg p n e t a b r a' h s q = code_tells _ s r (sum-said-plain neg p n e t a b) q h.answer

pub product-code_tells : (p n : ℤ) (e t a b c v : List ℤ) (r : ℕ) (c' v' : List ℤ) → ProductCoded p n e t a b c v r c' v'
    → (s : Said) → Plain s → (r ≡ code s) ↔ ((product p n e t a b c v).said ≡ s)
product-code_tells p n e t a b c v r c' v' h s q = code_tells _ s r (product-said-plain p n e t a b c v) q h.answer

pub division-code_tells : (p n : ℤ) (e t a b q v : List ℤ) (r : ℕ) (a' q' v' : List ℤ) → DivisionCoded p n e t a b q v r a' q' v'
    → (s : Said) → Plain s → (r ≡ code s) ↔ ((division p n e t a b q v).said ≡ s)
division-code_tells p n e t a b q v r a' q' v' h s q₁ = code_tells _ s r (division-said-plain p n e t a b q v) q₁ h.answer

pub sizes-code_tells : (n : ℤ) (e : List ℤ) (a b : ℤ) (w : List ℕ) (r : ℕ) (w' : List ℕ) → SizesCoded n e a b w r w'
    → (s : Said) → Plain s → (r ≡ code s) ↔ ((work_sizes n e a b).said ≡ s)
sizes-code_tells n e a b w r w' h s q = code_tells _ s r (sizes-said-plain n e a b) q h.answer

pub fraction-code_tells : (p n e : ℤ) (u r u' : ℕ) → FractionCoded p n e u r u' → (s : Said) → Plain s → (r ≡ code s) ↔ ((fraction p n e).said ≡ s)
fraction-code_tells p n e u r u' h s q = code_tells _ s r (fraction-said-plain p n e) q h.answer

pub inverse-code_tells : (p n : ℤ) (e t c u f v : List ℤ) (r : ℕ) (u' f' v' : List ℤ) → InverseCoded p n e t c u f v r u' f' v'
    → (s : Said) → Plain s → (r ≡ code s) ↔ ((inverse p n e t c u f v).said ≡ s)
inverse-code_tells p n e t c u f v r u' f' v' h s q = code_tells _ s r (inverse-said-plain p n e t c u f v) q h.answer

pub gcd-code_tells : (p n : ℤ) (e t a b g f v : List ℤ) (r : ℕ) (g' f' v' : List ℤ) → GcdCoded p n e t a b g f v r g' f' v'
    → (s : Said) → Plain s → (r ≡ code s) ↔ ((gcd p n e t a b g f v).said ≡ s)
gcd-code_tells p n e t a b g f v r g' f' v' h s q = code_tells _ s r (gcd-said-plain p n e t a b g f v) q h.answer

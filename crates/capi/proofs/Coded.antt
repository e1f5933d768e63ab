-- Laws of the calls for C.
--
-- level_fits, level-code     == the number of a shown factor fits a word, and is that of its answer
-- tower-answer .. gcd-answer == the answers of the calls are plain
use Rattle.capi.specs.Codes.{code, Plain, tower-said-plain, slot-said-plain, sum-said-plain}
use Rattle.capi.specs.Codes.{product-said-plain, division-said-plain}
use Rattle.capi.specs.SequenceCodes.{inverse-said-plain, gcd-said-plain}
use Rattle.kernel.specs.Answers.{said}
use Rattle.kernel.specs.Promises.{TowerChecked, SlotChecked, SumGiven, ProductGiven, DivisionGiven, InverseGiven, GcdGiven}
use Rattle.kernel.specs.declared.Answer.{Answer}
use Rattle.kernel.specs.declared.Answer.TheVariants.{Factor}
use Prim.Native.Nat.{ℕ, ◌+◌}
use native.Mathlib.Omega.{arith}
use mathlib.Core.Path.{◌≡◌, sym, ap, subst}
use mathlib.Core.Bool.{Bool}
use mathlib.Core.List.{List}
use lib.IntN.{ℤ}
use mir.Syntax.{w64}
use mir.Val.{Fits}

pub level_fits : (a : Answer) (l : ℕ) → a ≡ Factor l → Plain (said a) → Fits w64 (100 + l)
level_fits a l e h = omega (arith, subst (λ x. Plain (said x)) e h)

pub level-code : (a : Answer) (l : ℕ) → a ≡ Factor l → 100 + l ≡ code (said a)
level-code a l e = sym (ap (λ x. code (said x)) e)

pub tower-answer : (p n : ℤ) (e t : List ℤ) (r : Answer) → TowerChecked p n e t r → Plain (said r)
tower-answer p n e t r h = subst Plain (sym h.answer) (tower-said-plain p n e t)

pub slot-answer : (p n : ℤ) (e t a : List ℤ) (r : Answer) → SlotChecked p n e t a r → Plain (said r)
slot-answer p n e t a r h = subst Plain (sym h.answer) (slot-said-plain p n e t a)

pub sum-answer : (neg : Bool) (p n : ℤ) (e t a b : List ℤ) (r : Answer) (a' : List ℤ) → SumGiven neg p n e t a b r a' → Plain (said r)
sum-answer neg p n e t a b r a' h = subst Plain (sym h.answer) (sum-said-plain neg p n e t a b)

pub product-answer : (p n : ℤ) (e t a b c v : List ℤ) (r : Answer) (c' v' : List ℤ) → ProductGiven p n e t a b c v r c' v' → Plain (said r)
product-answer p n e t a b c v r c' v' h = subst Plain (sym h.answer) (product-said-plain p n e t a b c v)

pub division-answer : (p n : ℤ) (e t a b q v : List ℤ) (r : Answer) (a' q' v' : List ℤ) → DivisionGiven p n e t a b q v r a' q' v' → Plain (said r)
division-answer p n e t a b q v r a' q' v' h = subst Plain (sym h.answer) (division-said-plain p n e t a b q v)

pub inverse-answer : (p n : ℤ) (e t c u f v : List ℤ) (r : Answer) (u' f' v' : List ℤ) → InverseGiven p n e t c u f v r u' f' v' → Plain (said r)
inverse-answer p n e t c u f v r u' f' v' h = subst Plain (sym h.answer) (inverse-said-plain p n e t c u f v)

pub gcd-answer : (p n : ℤ) (e t a b g f v : List ℤ) (r : Answer) (g' f' v' : List ℤ) → GcdGiven p n e t a b g f v r g' f' v' → Plain (said r)
gcd-answer p n e t a b g f v r g' f' v' h = subst Plain (sym h.answer) (gcd-said-plain p n e t a b g f v)

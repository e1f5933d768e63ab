-- Laws of the calls for C whose answer holds numbers.
--
-- as_found, as_given            == what a lent place holds afterwards, by the number of the answer
-- sizes-answer, fraction-answer == the answers of the calls are plain
use Rattle.capi.specs.Codes.{code, Plain}
use Rattle.capi.specs.NumberCodes.{written_by, sizes-said-plain, fraction-said-plain}
use Rattle.kernel.specs.Answers.{said}
use Rattle.kernel.specs.Promises.{SizesGiven, FractionGiven}
use Rattle.kernel.specs.Refusals.{Said, done, factor, refused}
use Rattle.kernel.specs.declared.FractionResidue.{FractionResidue}
use Rattle.kernel.specs.declared.WorkSizes.{WorkSizes}
use Prim.Native.Nat.{ℕ, ◌<◌, ◌≤◌}
use native.Mathlib.Omega.{arith}
use mathlib.Core.Path.{◌≡◌, refl, sym, subst}
use mathlib.Core.List.{List}
use lib.IntN.{ℤ}

pub as_found : {A : Type 0} (s : Said) (k : ℕ) (new old : A) → k ≡ code s → 0 < k → old ≡ written_by s new old
as_found done k new old e h = absurd (omega arith)
as_found (factor l) k new old e h = refl
as_found (refused j) k new old e h = refl

pub as_given : {A : Type 0} (s : Said) (k : ℕ) (new old : A) → Plain s → k ≡ code s → k ≤ 0 → new ≡ written_by s new old
as_given done k new old p e h = refl
as_given (factor l) k new old p e h = absurd (omega arith)
as_given (refused j) k new old p e h = absurd (omega (arith, p.0))

pub sizes-answer : (n : ℤ) (e : List ℤ) (a b : ℤ) (r : WorkSizes) → SizesGiven n e a b r → Plain (said r.answer)
sizes-answer n e a b r h = subst Plain (sym h.answer) (sizes-said-plain n e a b)

pub fraction-answer : (p n e : ℤ) (r : FractionResidue) → FractionGiven p n e r → Plain (said r.answer)
fraction-answer p n e r h = subst Plain (sym h.answer) (fraction-said-plain p n e)

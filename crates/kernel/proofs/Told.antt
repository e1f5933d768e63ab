-- What a call learns of a number that it handed on.
use mathlib.Core.Path.{◌≡◌, sym, ap, ◌∙◌, subst, ap₂}
use mathlib.Core.Bool.{Bool}
use mathlib.Core.List.{List}
use Prim.Native.Nat.{ℕ}
use Rattle.std.specs.Prelude.{Result}
use Rattle.std.specs.Result.{IsErrAnd}
use Rattle.std.proofs.lemmas.Result.{err_from_is_err_and}
use Rattle.kernel.specs.Answers.{number_of}
use Rattle.kernel.specs.Shape.{Checked}
use Rattle.kernel.specs.declared.refusals.Refusal.{Refusal}
use Rattle.kernel.specs.declared.shape.Shape.{Shape}
use lib.IntN.{ℤ}
use mir.Syntax.{w64}
use mir.Val.{SFits, to_z, of_z}
use mir.ValLaws.{to_z-of_z}

-- a signed number that went through a call is the same
pub of_word : {A : Type 0} (f : ℤ → A) {x : ℤ} → SFits w64 x → f (to_z w64 (of_z w64 x)) ≡ f x
of_word f {x} h = ap f (to_z-of_z w64 x h)

pub of_words : {A : Type 0} (f : ℤ → ℤ → A) {x y : ℤ} → SFits w64 x → SFits w64 y → f (to_z w64 (of_z w64 x)) (to_z w64 (of_z w64 y)) ≡ f x y
of_words f {x} {y} h k = ap₂ f (to_z-of_z w64 x h) (to_z-of_z w64 y k)

-- a test of a number that went through a call
pub told : (f : ℤ → Bool) {x : ℤ} → SFits w64 x → {r b : Bool} → r ≡ f (to_z w64 (of_z w64 x)) → r ≡ b → f x ≡ b
told f fits er eb = sym (of_word f fits) ∙ sym er ∙ eb

-- what holds of a number that went through a call holds of the number
pub back : (P : ℤ → Type 0) {x : ℤ} → SFits w64 x → P (to_z w64 (of_z w64 x)) → P x
back P {x} h = subst P (to_z-of_z w64 x h)

-- a refusal that `?` hands on is given with its own number
pub handed_on : (m : ℕ) (n : ℤ) (e : List ℤ) (x : Result Shape Refusal) (r : Refusal) → IsErrAnd x (λ y. y ≡ r) → m ≡ number_of r → Checked m n e x
handed_on m n e x r h k = let p = err_from_is_err_and x h in rw (p.1, p.2) k

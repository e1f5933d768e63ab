-- The answer enum, by document 01's kinds and numbers, and the refusals by name.
--
-- said, said_inj      == what an answer says; answers that say the same are the same
-- number_of           == a refusal's number;  number_inj == it tells the refusal
-- answer_of           == the answer of a call by what its body comes to
use Rattle.std.specs.Prelude.{◌≡◌, refl, ℕ, zero, suc, Result, Ok, Err}
use Rattle.std.proofs.Common.{arith, sym, ap, ◌∙◌}
use Rattle.kernel.specs.declared.Answer.{Answer}
use Rattle.kernel.specs.declared.Answer.TheVariants.{Done, Factor, Refused}
use Rattle.kernel.specs.declared.refusals.Refusal.{Refusal}
use Rattle.kernel.specs.declared.refusals.Refusal.TheVariants.{BadModulus, BadDegrees, BadTower, BadLength, BadForm, SmallAnswer, SmallWork, NotMonic, OfZero, NoResidue, TooLong}
use Rattle.kernel.specs.Refusals.{Said, done, factor, refused, bad_modulus, bad_degrees, bad_tower, bad_length, bad_form, small_answer, small_work, not_monic, of_zero, no_residue, too_long}

-- what an answer of the program says
abbrev pub said : Answer → Said
said Done = done
said (Factor level) = factor level
said (Refused number) = refused number

-- two answers that say the same are the same
pub said_inj : (a b : Answer) → said a ≡ said b → a ≡ b
said_inj Done Done e = refl
said_inj Done (Factor l) e = absurd (let z : ◌≡◌ {A = ℕ} 0 1 = cc in omega arith)
said_inj Done (Refused k) e = absurd (let z : ◌≡◌ {A = ℕ} 0 1 = cc in omega arith)
said_inj (Factor j) Done e = absurd (let z : ◌≡◌ {A = ℕ} 0 1 = cc in omega arith)
said_inj (Factor j) (Factor l) e = cc
said_inj (Factor j) (Refused k) e = absurd (let z : ◌≡◌ {A = ℕ} 0 1 = cc in omega arith)
said_inj (Refused j) Done e = absurd (let z : ◌≡◌ {A = ℕ} 0 1 = cc in omega arith)
said_inj (Refused j) (Factor l) e = absurd (let z : ◌≡◌ {A = ℕ} 0 1 = cc in omega arith)
said_inj (Refused j) (Refused k) e = cc

-- a refusal's number in document 01's table
abbrev pub number_of : Refusal → ℕ
number_of BadModulus = bad_modulus
number_of BadDegrees = bad_degrees
number_of BadTower = bad_tower
number_of BadLength = bad_length
number_of BadForm = bad_form
number_of SmallAnswer = small_answer
number_of SmallWork = small_work
number_of NotMonic = not_monic
number_of OfZero = of_zero
number_of NoResidue = no_residue
number_of TooLong = too_long

-- and back
abbrev refusal_of : ℕ → Refusal
refusal_of zero = BadModulus
refusal_of (suc zero) = BadModulus
refusal_of (suc (suc zero)) = BadDegrees
refusal_of (suc (suc (suc zero))) = BadTower
refusal_of (suc (suc (suc (suc zero)))) = BadLength
refusal_of (suc (suc (suc (suc (suc zero))))) = BadForm
refusal_of (suc (suc (suc (suc (suc (suc zero)))))) = SmallAnswer
refusal_of (suc (suc (suc (suc (suc (suc (suc zero))))))) = SmallWork
refusal_of (suc (suc (suc (suc (suc (suc (suc (suc zero)))))))) = NotMonic
refusal_of (suc (suc (suc (suc (suc (suc (suc (suc (suc zero))))))))) = OfZero
refusal_of (suc (suc (suc (suc (suc (suc (suc (suc (suc (suc zero)))))))))) = NoResidue
refusal_of (suc (suc (suc (suc (suc (suc (suc (suc (suc (suc (suc k))))))))))) = TooLong

refusal-number : (r : Refusal) → refusal_of (number_of r) ≡ r
refusal-number BadModulus = refl
refusal-number BadDegrees = refl
refusal-number BadTower = refl
refusal-number BadLength = refl
refusal-number BadForm = refl
refusal-number SmallAnswer = refl
refusal-number SmallWork = refl
refusal-number NotMonic = refl
refusal-number OfZero = refl
refusal-number NoResidue = refl
refusal-number TooLong = refl

pub number_inj : (r s : Refusal) → number_of r ≡ number_of s → r ≡ s
number_inj r s h = sym (refusal-number r) ∙ ap refusal_of h ∙ refusal-number s

-- the answer of a call by what its body comes to
abbrev pub answer_of : Result Answer Refusal → Answer
answer_of (Ok answer) = answer
answer_of (Err refusal) = Refused (number_of refusal)

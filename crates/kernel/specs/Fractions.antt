-- What the parts of the fraction's call give.
--
-- fraction_of == the call's answer and residue by what its body comes to
-- Quotient    == n times the inverse of e modulo p, or number 10;  Divided, Shared == the two cases
use Rattle.std.specs.Prelude.{ℕ, ◌*◌, ◌%◌, ◌≡◌, ℤ, Result, Ok, Err}
use Rattle.residue.specs.Word.{mod_z}
use Rattle.kernel.specs.Answers.{number_of}
use Rattle.kernel.specs.Refusals.{no_residue}
use Rattle.kernel.specs.declared.Answer.TheVariants.{Done, Refused}
use Rattle.kernel.specs.declared.FractionResidue.{FractionResidue}
use Rattle.kernel.specs.declared.refusals.Refusal.{Refusal}
use Rattle.residue.specs.Number.{UnitOf, FactorOf}

-- the residue, or 0 beside a refusal
abbrev pub fraction_of : Result ℕ Refusal → FractionResidue
fraction_of (Ok residue) = record { answer = Done; residue = residue }
fraction_of (Err refusal) = record { answer = Refused (number_of refusal); residue = 0 }

-- u inverts e modulo p, and the residue is n times u
pub record Divided (n : ℤ) (e p residue : ℕ) : Type 0 where
  pub unit : ℕ
  pub inverts : UnitOf p (e % p) unit
  pub is : residue ≡ (mod_z n p * unit) % p

-- h above 1 divides both
pub record Shared (e p : ℕ) : Type 0 where
  pub divisor : ℕ
  pub shared : FactorOf p (e % p) divisor

-- what the quotient of n by e gives
abbrev pub Quotient : ℤ → ℕ → ℕ → Result ℕ Refusal → Type 0
Quotient n e p (Ok residue) = Divided n e p residue
Quotient n e p (Err refusal) = (number_of refusal ≡ no_residue) × Shared e p

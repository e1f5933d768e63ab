-- What the contract of a line settles: one result, the answers of a whole input, and `missing` without a field.
--
-- SameStep, stepped_determined == two results that Stepped allows for a line have the same bytes and states
-- stepped_runs                 == lines answered one after the other print what `run` says
-- Missing, words_missing       == "prints its name and `missing` only": so each operation in every state without words of a, started or not, whatever its p
-- field_missing                == "An operation that lacks field .. prints its name and `missing` only"
use Rattle.std.specs.Prelude.{ℕ, suc, None, List, [], ◌∷◌, ◌++◌, ◌≡◌, refl, ℤ, take}
use Rattle.std.proofs.Common.{sym, ◌∙◌}
use Rattle.std.proofs.Math.Path.{ap₂}
use Rattle.lines.specs.declared.Kept.{Kept}
use Rattle.lines.specs.Kept.{state_of, Sound, Stepped}
use Rattle.lines.specs.Names.{name_gcd, name_div, name_mul, name_inv}
use Rattle.lines.specs.Reading.{gcd, div, mul, inv}
use Rattle.lines.specs.Steps.{State, missing_text, printed, run}

-- ---- one result
-- two results of a line: as many bytes told, the same bytes, and equal states
pub record SameStep (r : Kept) (n : ℕ) (tower a b : List ℤ) (out : List ℕ) (r' : Kept) (n' : ℕ) (tower' a' b' : List ℤ) (out' : List ℕ) : Type 0 where
  pub told : n ≡ n'
  pub bytes : take n out ≡ take n' out'
  pub state : state_of r tower a b ≡ state_of r' tower' a' b'

module _ {text : List ℕ} {number : ℕ} {k : Kept} {tower a b : List ℤ} {out : List ℕ} where
  pub stepped_determined : {r s : Kept} {m n : ℕ} {tower' a' b' tower'' a'' b'' : List ℤ} {out' out'' : List ℕ}
      → Stepped text number k tower a b r m tower' a' b' out out' → Stepped text number k tower a b s n tower'' a'' b'' out out''
      → SameStep r m tower' a' b' out' s n tower'' a'' b'' out''
  stepped_determined x y = record {
    told = x.answer.end ∙ sym y.answer.end;
    bytes = x.answer.stands ∙ sym y.answer.stands;
    state = x.state ∙ sym y.state;
  }

  -- ---- a whole input
  -- the answers to a line and those behind it: the bytes told for the line, and then the answers from what is kept
  pub stepped_runs : {r : Kept} {told : ℕ} {tower' a' b' : List ℤ} {out' : List ℕ} → Stepped text number k tower a b r told tower' a' b' out out'
      → (ls : List (List ℕ)) → run (state_of k tower a b) number (text ∷ ls) ≡ take told out' ++ run (state_of r tower' a' b') (suc number) ls
  unfolding run
  stepped_runs x ls = ap₂ (λ t s. t ++ run s (suc number) ls) (sym x.answer.stands) (sym x.state)

-- ---- without a and without a field
pub record Missing (s : State) (number : ℕ) : Type 0 where
  pub of_gcd : printed s number gcd ≡ missing_text name_gcd
  pub of_div : printed s number div ≡ missing_text name_div
  pub of_mul : printed s number mul ≡ missing_text name_mul
  pub of_inv : printed s number inv ≡ missing_text name_inv

-- a state that holds no words of a, started or not, whatever its p is
pub words_missing : (s : State) → s.a ≡ [] → (number : ℕ) → Missing s number
words_missing s none number = record {
  of_gcd = rw none (refl {a = missing_text name_gcd});
  of_div = rw none (refl {a = missing_text name_div});
  of_mul = rw none (refl {a = missing_text name_mul});
  of_inv = rw none (refl {a = missing_text name_inv});
}

pub field_missing : {k : Kept} → Sound k → k.field ≡ None → (tower a b : List ℤ) (number : ℕ) → Missing (state_of k tower a b) number
field_missing {k} sound off tower a b number =
    words_missing (state_of k tower a b) (rw (sound.none off).0 (refl {a = []})) number

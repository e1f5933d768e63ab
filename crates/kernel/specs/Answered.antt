-- What the calls that run a remainder sequence share: the answer of a sequence as the call's answer, and the words that it leaves.
--
-- answered           == after the tests: what the sequence gives, or the number and the words as found
-- factor_buffer      == the factor buffer with the words of a shown factor
-- level_of, tower_in == the level of the tower whose words are t
use Rattle.std.specs.Prelude.{ℕ, zero, suc, ◌-◌, List, [], ◌∷◌, ◌++◌, ℤ, pos, T, length}
use Rattle.residue.specs.Word.{num}
use Rattle.tower.specs.Form.{copies}
use Rattle.tower.specs.Levels.{Tower}
use Rattle.tower.specs.Limits.{p_ok, p_positive, degrees_of}
use Rattle.tower.specs.Writing.{tower_of}
use Rattle.euclid.specs.Level.{Level}
use Rattle.euclid.specs.Towers.{level}
use Rattle.kernel.specs.Refusals.{refused}
use Rattle.kernel.specs.Slots.{Changed}

-- "Numbers 1 to 10 leave every lent word as found."
abbrev pub answered : {A : Type 0} → ℕ → Changed A → A → Changed A
answered zero new old = new
answered (suc k) new old = record { said = refused (suc k); words = old }

-- "A shown factor at level j lies in the first S_j words of the factor buffer ..; its other words are 0."
abbrev pub factor_buffer : List ℤ → List ℤ → List ℤ
factor_buffer f w = w ++ copies (length f - length w) (pos 0 ∷ [])

-- the tower whose words are t
abbrev pub tower_in : (p n : ℤ) (e t : List ℤ) → T (p_ok p) → Tower (num p) (degrees_of e) (num n)
tower_in p n e t h = tower_of (num p) (p_positive p h) (degrees_of e) (num n) t

-- its topmost level
abbrev pub level_of : (p n : ℤ) (e t : List ℤ) → T (p_ok p) → Level
level_of p n e t h = level (num p) (p_positive p h) (degrees_of e) (num n) (tower_in p n e t h)

-- Inverse of an element c over the tower: the inverse goes into the element r, or a shown factor into the factor buffer f. The work store v is cleared as far
-- as it is needed.
--
-- inverse_table, inverse_number == the tests in the order of their numbers, and the number that they give
-- element_of                    == the element that the words hold
-- inverse_words                 == what the sequence's answer leaves of the lent words
-- inverse                       == what the call gives, and the words of r, of f and of the work store afterwards
use Rattle.std.specs.Prelude.{ℕ, Bool, not, ◌&&◌, List, [], ◌∷◌, ◌++◌, ℤ, T, eqb, leb, length}
use Rattle.algebra.specs.Test.{branch}
use Rattle.residue.specs.Word.{num}
use Rattle.tower.specs.Form.{is_in_form, same, zero_words}
use Rattle.tower.specs.Levels.{El}
use Rattle.tower.specs.Limits.{p_ok, p_positive, degrees_of}
use Rattle.tower.specs.Work.{inverse_work}
use Rattle.tower.specs.Writing.{read, write}
use Rattle.euclid.specs.Answer.{Answer, done as done-with, shown, long}
use Rattle.euclid.specs.Shown.{shown_words}
use Rattle.euclid.specs.Towers.{Shown, shown_level, inv}
use Rattle.kernel.specs.Answered.{answered, factor_buffer, tower_in}
use Rattle.kernel.specs.Calls.{size_of, tower_table}
use Rattle.kernel.specs.Refusals.{done, factor, refused, bad_length, bad_form, small_work, of_zero, too_long, Table, first}
use Rattle.kernel.specs.Slots.{cleared, Changed}

-- "element and factor buffer: exactly S_N"
abbrev pub element_length : ℤ → List ℤ → List ℤ → Bool
element_length n e x = eqb (length x) (size_of n e)

-- c, the answer's element r, the factor buffer f and the work store v over a tower
abbrev pub inverse_table : (p n : ℤ) (e t c r f v : List ℤ) → Table
inverse_table p n e t c r f v =
    tower_table p n e t
    ++ ((bad_length, λ _. element_length n e c && (element_length n e r && element_length n e f))
    ∷ (bad_form, λ _. is_in_form (num p) (degrees_of e) (num n) c)
    ∷ (small_work, λ _. leb (inverse_work (degrees_of e) (num n)) (length v))
    ∷ (of_zero, λ _. not (same c (zero_words (degrees_of e) (num n))))
    ∷ [])

unfoldable pub inverse_number : (p n : ℤ) (e t c r f v : List ℤ) → ℕ
inverse_number p n e t c r f v = first (inverse_table p n e t c r f v)

-- the element whose words are c
abbrev pub element_of : (p n : ℤ) (e c : List ℤ) → T (p_ok p) → El (num p) (degrees_of e) (num n)
element_of p n e c h = read (num p) (p_positive p h) (degrees_of e) (num n) c

-- the words that the call may change: r, the factor buffer and the work store
pub record InverseWords : Type 0 where
  pub inverse : List ℤ
  pub factor : List ℤ
  pub work : List ℤ

-- "if it ends in 1, the inverse is given"; "A shown factor at level j lies in the first S_j words of the factor buffer .. The answer slot keeps its old
-- words. After Done the factor buffer keeps its own."; "After Done, a factor or 11 the needed work words are 0 and those beyond are as before."
abbrev pub inverse_by : (p n : ℤ) (e t r f v : List ℤ) (h : T (p_ok p))
    → Answer (Shown (num p) (degrees_of e) (num n)) (El (num p) (degrees_of e) (num n)) → Changed InverseWords
inverse_by p n e t r f v h (done-with u) = record {
  said = done;
  words = record { inverse = write (num p) (degrees_of e) (num n) u; factor = f; work = cleared (inverse_work (degrees_of e) (num n)) v };
}
inverse_by p n e t r f v h (shown x) = record {
  said = factor (shown_level (num p) (degrees_of e) (num n) x);
  words = record {
    inverse = r;
    factor = factor_buffer f (shown_words (num p) (p_positive p h) (degrees_of e) (num n) (tower_in p n e t h) x);
    work = cleared (inverse_work (degrees_of e) (num n)) v;
  };
}
inverse_by p n e t r f v h long = record {
  said = refused too_long;
  words = record { inverse = r; factor = f; work = cleared (inverse_work (degrees_of e) (num n)) v };
}

-- what is given where every test passes
unfoldable pub inverse_words : (p n : ℤ) (e t c r f v : List ℤ) → Changed InverseWords
inverse_words p n e t c r f v =
    branch (p_ok p)
    (λ h. inverse_by p n e t r f v h (inv (num p) (p_positive p h) (degrees_of e) (num n) (tower_in p n e t h) (element_of p n e c h)))
    (λ _. record { said = done; words = record { inverse = r; factor = f; work = v } })

abbrev pub inverse : (p n : ℤ) (e t c r f v : List ℤ) → Changed InverseWords
inverse p n e t c r f v = answered (inverse_number p n e t c r f v) (inverse_words p n e t c r f v) (record { inverse = r; factor = f; work = v })

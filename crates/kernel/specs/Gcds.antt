-- GCD of two polynomials over the tower's top ring, into a slot g, or a shown factor into the factor buffer f. The work store v is cleared as far as it is
-- needed.
--
-- gcd_room              == the coefficients that the answer's slot needs;  gcd_needed == the work words
-- gcd_table, gcd_number == the tests in the order of their numbers, and the number that they give
-- gcd_words             == what the sequence's answer leaves of the lent words
-- gcd                   == what the call gives, and the words of g, of f and of the work store afterwards
use Rattle.std.specs.Prelude.{ℕ, max, ◌&&◌, List, [], ◌∷◌, ◌++◌, ℤ, T, leb, length}
use Rattle.algebra.specs.Test.{branch}
use Rattle.residue.specs.Word.{num}
use Rattle.tower.specs.Levels.{El}
use Rattle.tower.specs.Limits.{p_ok, p_positive, degrees_of}
use Rattle.tower.specs.Work.{gcd_work}
use Rattle.euclid.specs.Answer.{Answer, done as done-with, shown, long}
use Rattle.euclid.specs.Gcd.{Made, made_coefficients, gcd as gcd-of}
use Rattle.euclid.specs.Shown.{shown_words}
use Rattle.euclid.specs.Towers.{Shown, shown_level}
use Rattle.kernel.specs.Answered.{answered, factor_buffer, tower_in, level_of}
use Rattle.kernel.specs.Calls.{coefficients_of, length_ok, tower_table}
use Rattle.kernel.specs.Inverses.{element_length}
use Rattle.kernel.specs.Refusals.{done, factor, refused, bad_length, small_answer, small_work, too_long, Table, first}
use Rattle.kernel.specs.Slots.{degree_count, polynomial_of, forms_row, top_ring, filled, cleared, Changed}

-- "GCD, max + 1 and at least 1", from one more than the two degrees
abbrev pub gcd_room : ℕ → ℕ → ℕ
gcd_room k l = max 1 (max k l)

-- the work words of a and b
abbrev pub gcd_needed : (n : ℤ) (e a b : List ℤ) → ℕ
gcd_needed n e a b = gcd_work (degrees_of e) (num n) (degree_count a) (degree_count b)

-- the slots a and b, the answer's slot g, the factor buffer f and the work store v over a tower
abbrev pub gcd_table : (p n : ℤ) (e t a b g f v : List ℤ) → Table
gcd_table p n e t a b g f v =
    tower_table p n e t
    ++ ((bad_length, λ _. length_ok n e a && (length_ok n e b && (length_ok n e g && element_length n e f)))
    ∷ forms_row p n e a b
    ∷ (small_answer, λ _. leb (gcd_room (degree_count a) (degree_count b)) (coefficients_of n e g))
    ∷ (small_work, λ _. leb (gcd_needed n e a b) (length v))
    ∷ [])

unfoldable pub gcd_number : (p n : ℤ) (e t a b g f v : List ℤ) → ℕ
gcd_number p n e t a b g f v = first (gcd_table p n e t a b g f v)

-- the words that the call may change: g's slot, the factor buffer and the work store
pub record GcdWords : Type 0 where
  pub gcd : List ℤ
  pub factor : List ℤ
  pub work : List ℤ

-- as for the inverse
abbrev pub gcd_by : (p n : ℤ) (e t a b g f v : List ℤ) (h : T (p_ok p))
    → Answer (Shown (num p) (degrees_of e) (num n)) (Made (El (num p) (degrees_of e) (num n)) (Unit {0})) → Changed GcdWords
gcd_by p n e t a b g f v h (done-with m) = record {
  said = done;
  words = record { gcd = filled p n e g (made_coefficients (top_ring p n e t h) m); factor = f; work = cleared (gcd_needed n e a b) v };
}
gcd_by p n e t a b g f v h (shown x) = record {
  said = factor (shown_level (num p) (degrees_of e) (num n) x);
  words = record {
    gcd = g;
    factor = factor_buffer f (shown_words (num p) (p_positive p h) (degrees_of e) (num n) (tower_in p n e t h) x);
    work = cleared (gcd_needed n e a b) v;
  };
}
gcd_by p n e t a b g f v h long = record {
  said = refused too_long;
  words = record { gcd = g; factor = f; work = cleared (gcd_needed n e a b) v };
}

-- what is given where every test passes
unfoldable pub gcd_words : (p n : ℤ) (e t a b g f v : List ℤ) → Changed GcdWords
gcd_words p n e t a b g f v =
    branch (p_ok p)
    (λ h. (let k = coefficients_of n e a in
    let l = coefficients_of n e b in
    gcd_by p n e t a b g f v h (gcd-of (level_of p n e t h) k (polynomial_of p n e h k a) l (polynomial_of p n e h l b))))
    (λ _. record { said = done; words = record { gcd = g; factor = f; work = v } })

abbrev pub gcd : (p n : ℤ) (e t a b g f v : List ℤ) → Changed GcdWords
gcd p n e t a b g f v = answered (gcd_number p n e t a b g f v) (gcd_words p n e t a b g f v) (record { gcd = g; factor = f; work = v })

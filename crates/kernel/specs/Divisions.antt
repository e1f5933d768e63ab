-- Division by a monic polynomial over the tower's top ring: the remainder replaces a, the quotient goes into a slot q. The work store v is cleared as far as it
-- is needed.
--
-- divisor_degree                  == the divisor's degree;  monic_words, monic_row == the test that the words of its leading coefficient are those of 1
-- division_table, division_number == the tests in the order of their numbers, and the number that they give
-- divisor_of                      == the divisor's coefficients under its leading 1
-- remainder_of, remainder_words   == the remainder's coefficients, and the words of a's slot after Done
-- quotient_of, quotient_words     == the quotient's, and the words of q's slot
-- division                        == what the call gives, and the words of a, of q and of the work store afterwards
use Rattle.std.specs.Prelude.{ℕ, ◌-◌, Bool, ◌&&◌, List, [], ◌∷◌, ◌++◌, ℤ, T, leb}
use Rattle.algebra.specs.Divide.{quotient, remainder}
use Rattle.algebra.specs.Test.{branch}
use Rattle.algebra.specs.Vec.{Vec, coef, trunc}
use Rattle.residue.specs.Word.{num}
use Rattle.tower.specs.Form.{same, one_words}
use Rattle.tower.specs.Levels.{El}
use Rattle.tower.specs.Limits.{p_ok, degrees_of}
use Rattle.tower.specs.Work.{product_work}
use Rattle.kernel.specs.Refusals.{not_monic, Table, first}
use Rattle.kernel.specs.Calls.{size_of, coefficients_of}
use Rattle.kernel.specs.Slots.{quotient_room, degree_count, polynomial_of, coefficients_in, slots_table, top_ring, filled, cleared, Changed, changed_by}
use Rattle.kernel.specs.Views.{top_words}

-- the degree of a divisor that is not zero
abbrev pub divisor_degree : List ℤ → ℕ
divisor_degree b = degree_count b - 1

-- b is not zero, and its leading coefficient is 1: of level i over the degrees d, and of s words
abbrev pub monic_words : List ℕ → ℕ → ℕ → List ℤ → Bool
monic_words d i s b = leb 1 (degree_count b) && same (top_words s b) (one_words d i)

abbrev pub monic_row : ℤ → List ℤ → List ℤ → ℕ × (Unit {0} → Bool)
monic_row n e b = (not_monic, λ _. monic_words (degrees_of e) (num n) (size_of n e) b)

abbrev pub division_table : (p n : ℤ) (e t a b q v : List ℤ) → Table
division_table p n e t a b q v = slots_table p n e t a b q v (quotient_room (degree_count a) (degree_count b)) ++ (monic_row n e b ∷ [])

unfoldable pub division_number : (p n : ℤ) (e t a b q v : List ℤ) → ℕ
division_number p n e t a b q v = first (division_table p n e t a b q v)

-- b without its leading 1
abbrev pub divisor_of : (p n : ℤ) (e b : List ℤ) → T (p_ok p) → Vec (El (num p) (degrees_of e) (num n)) (divisor_degree b)
divisor_of p n e b h = trunc (divisor_degree b) (coefficients_in p n e h b)

module _ (p n : ℤ) (e t a b : List ℤ) (h : T (p_ok p)) where
  -- the remainder of a by b: as many coefficients as the degree of b
  abbrev pub remainder_of : ℕ → El (num p) (degrees_of e) (num n)
  remainder_of =
      let k = coefficients_of n e a in
      let R = top_ring p n e t h in
      coef R.𝟘 (divisor_degree b) (remainder R (divisor_degree b) (divisor_of p n e b h) k (polynomial_of p n e h k a))

  -- the quotient
  abbrev pub quotient_of : ℕ → El (num p) (degrees_of e) (num n)
  quotient_of =
      let k = coefficients_of n e a in
      let R = top_ring p n e t h in
      coef R.𝟘 k (quotient R (divisor_degree b) (divisor_of p n e b h) k (polynomial_of p n e h k a))

unfoldable pub remainder_words : (p n : ℤ) (e t a b : List ℤ) → List ℤ
remainder_words p n e t a b = branch (p_ok p) (λ h. filled p n e a (remainder_of p n e t a b h)) (λ _. a)

unfoldable pub quotient_words : (p n : ℤ) (e t a b q : List ℤ) → List ℤ
quotient_words p n e t a b q = branch (p_ok p) (λ h. filled p n e q (quotient_of p n e t a b h)) (λ _. q)

-- the words that the call may change: a's slot, q's slot and the work store
pub record DivisionWords : Type 0 where
  pub remainder : List ℤ
  pub quotient : List ℤ
  pub work : List ℤ

abbrev pub division : (p n : ℤ) (e t a b q v : List ℤ) → Changed DivisionWords
division p n e t a b q v =
    changed_by (division_number p n e t a b q v)
    (record {
      remainder = remainder_words p n e t a b;
      quotient = quotient_words p n e t a b q;
      work = cleared (product_work (degrees_of e) (num n)) v;
    })
    (record { remainder = a; quotient = q; work = v })

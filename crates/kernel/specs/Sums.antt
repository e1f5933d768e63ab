-- Sum and difference of two polynomials over the tower's top ring; the answer replaces a.
--
-- sum_table, sum_number == the tests in the order of their numbers, and the number that they give
-- sum_of, sum_words     == the sum, and the words of a's slot after Done
-- sum                   == what the two calls give, and a's words afterwards
use Rattle.std.specs.Prelude.{ℕ, Bool, ◌&&◌, List, [], ◌∷◌, ◌++◌, ℤ, T, leb}
use Rattle.algebra.specs.Test.{branch}
use Rattle.algebra.specs.Vec.{Vec}
use Rattle.residue.specs.Word.{num}
use Rattle.tower.specs.Levels.{El, group}
use Rattle.tower.specs.Limits.{p_ok, p_positive, degrees_of}
use Rattle.tower.specs.Writing.{slot}
use Rattle.arithmetic.specs.Sum.{slot_gained}
use Rattle.kernel.specs.Refusals.{small_answer, Table, first}
use Rattle.kernel.specs.Calls.{coefficients_of}
use Rattle.kernel.specs.Slots.{degree_count, polynomial_of, Changed, changed_by}
use Rattle.kernel.specs.Views.{view_table}

-- the tests of the leading view, and: "sum, max(deg a, deg b) + 1 coefficients in a"
abbrev pub sum_table : ℤ → ℤ → List ℤ → List ℤ → List ℤ → List ℤ → Table
sum_table p n e t a b =
    view_table p n e t a b ++ ((small_answer, λ _. leb (degree_count a) (coefficients_of n e a) && leb (degree_count b) (coefficients_of n e a)) ∷ [])

unfoldable pub sum_number : ℤ → ℤ → List ℤ → List ℤ → List ℤ → List ℤ → ℕ
sum_number p n e t a b = first (sum_table p n e t a b)

-- a + b, or a - b where neg, on as many coefficients as a's slot has
abbrev pub sum_of : Bool → (p n : ℤ) (e a : List ℤ) → List ℤ → T (p_ok p) → Vec (El (num p) (degrees_of e) (num n)) (coefficients_of n e a)
sum_of neg p n e a b h =
    slot_gained
    (group (num p) (p_positive p h) (degrees_of e) (num n))
    neg
    (coefficients_of n e a)
    (coefficients_of n e b)
    (polynomial_of p n e h (coefficients_of n e a) a)
    (polynomial_of p n e h (coefficients_of n e b) b)

abbrev pub sum_by : Bool → (p n : ℤ) (e : List ℤ) → List ℤ → List ℤ → T (p_ok p) → List ℤ
sum_by neg p n e a b h = slot (num p) (degrees_of e) (num n) (coefficients_of n e a) (sum_of neg p n e a b h)

unfoldable pub sum_words : Bool → ℤ → ℤ → List ℤ → List ℤ → List ℤ → List ℤ
sum_words neg p n e a b = branch (p_ok p) (sum_by neg p n e a b) (λ _. a)

-- a + b, or a - b where neg
abbrev pub sum : Bool → ℤ → ℤ → List ℤ → List ℤ → List ℤ → List ℤ → Changed (List ℤ)
sum neg p n e t a b = changed_by (sum_number p n e t a b) (sum_words neg p n e a b) a

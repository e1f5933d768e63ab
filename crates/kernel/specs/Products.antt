-- Product of two polynomials over the tower's top ring, into a slot c. The work store v is cleared as far as it is needed.
--
-- product_table, product_number == the tests in the order of their numbers, and the number that they give
-- product_of, product_words     == the product's coefficients, and the words of c's slot after Done
-- product                       == what the call gives, and the words of c and of the work store afterwards
use Rattle.std.specs.Prelude.{ℕ, List, ℤ, T}
use Rattle.algebra.specs.Series.{◌*ˢ◌}
use Rattle.algebra.specs.Test.{branch}
use Rattle.residue.specs.Word.{num}
use Rattle.tower.specs.Levels.{El}
use Rattle.tower.specs.Limits.{p_ok, degrees_of}
use Rattle.tower.specs.Work.{product_work}
use Rattle.kernel.specs.Refusals.{Table, first}
use Rattle.kernel.specs.Slots.{product_room, degree_count, coefficients_in, slots_table, top_ring, filled, cleared, Changed, changed_by}

abbrev pub product_table : (p n : ℤ) (e t a b c v : List ℤ) → Table
product_table p n e t a b c v = slots_table p n e t a b c v (product_room (degree_count a) (degree_count b))

unfoldable pub product_number : (p n : ℤ) (e t a b c v : List ℤ) → ℕ
product_number p n e t a b c v = first (product_table p n e t a b c v)

-- a times b
abbrev pub product_of : (p n : ℤ) (e t a b : List ℤ) → T (p_ok p) → ℕ → El (num p) (degrees_of e) (num n)
product_of p n e t a b h = ◌*ˢ◌ (top_ring p n e t h) (coefficients_in p n e h a) (coefficients_in p n e h b)

unfoldable pub product_words : (p n : ℤ) (e t a b c : List ℤ) → List ℤ
product_words p n e t a b c = branch (p_ok p) (λ h. filled p n e c (product_of p n e t a b h)) (λ _. c)

-- the words that the call may change: c's slot and the work store
pub record ProductWords : Type 0 where
  pub product : List ℤ
  pub work : List ℤ

abbrev pub product : (p n : ℤ) (e t a b c v : List ℤ) → Changed ProductWords
product p n e t a b c v =
    changed_by (product_number p n e t a b c v)
    (record { product = product_words p n e t a b c; work = cleared (product_work (degrees_of e) (num n)) v })
    (record { product = c; work = v })

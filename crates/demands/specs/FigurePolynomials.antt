-- Rows of the table of figures: sum, difference, product and division, beside C4. All is closed by computing.
--
-- Polynomials == the rows;  polynomials == that they hold
use Rattle.std.specs.Prelude.{◌≡◌, refl, [], ◌∷◌, ◌++◌, pos, negsuc}
use Rattle.algebra.specs.Divide.{divide}
use Rattle.algebra.specs.Quotient.{mulᵛ, oneᵛ, residue}
use Rattle.algebra.specs.Series.{◌*ˢ◌}
use Rattle.tower.specs.Writing.{size, read, reads, write, writes, tower_of}
use Rattle.tower.specs.Form.{zero_words, form_over, is_in_form, one_words, modulus_over, tower_form}
use Rattle.tower.specs.Limits.{slot_length}
use Rattle.tower.specs.Work.{product_work}
use Rattle.kernel.specs.Sums.{sum_number, sum_words}
use Rattle.kernel.specs.Products.{product_number, product_words}
use Rattle.kernel.specs.Divisions.{division_number, remainder_words, quotient_words}
use Rattle.demands.specs.FigureWords.{plain, words, left, kept, c_work, a_q_work, plus6, minus6, times6, by6, a7, b7, minus7, by7}

pub record Polynomials : Type 0 where
  -- sums and differences: modulo 6 the leading coefficients cancel; over T7 a - a is the zero slot; b may stand in a longer slot; no room for x in one coefficient
  pub sum_falls : plus6 (plain (1 ∷ 1 ∷ 3 ∷ [])) (plain (1 ∷ 2 ∷ 3 ∷ [])) ≡ left (plain (0 ∷ 3 ∷ 0 ∷ []))
  pub minus_order : minus6 (plain (0 ∷ 1 ∷ [])) (plain (0 ∷ 3 ∷ [])) ≡ left (plain (0 ∷ 4 ∷ []))
  pub minus_same : minus7 b7 b7 ≡ left (negsuc 0 ∷ negsuc 0 ∷ pos 0 ∷ pos 0 ∷ negsuc 0 ∷ pos 0 ∷ pos 0 ∷ [])
  pub sum_longer : plus6 (plain (0 ∷ 5 ∷ [])) (plain (0 ∷ 5 ∷ 0 ∷ [])) ≡ left (plain (0 ∷ 4 ∷ []))
  pub sum_room : plus6 (plain (0 ∷ 5 ∷ [])) (plain (1 ∷ 0 ∷ 1 ∷ [])) ≡ kept 6 (plain (0 ∷ 5 ∷ []))
  -- 4 before 5: a not in form, b without a coefficient
  pub sum_first : plus6 (plain (0 ∷ 6 ∷ [])) (plain (0 ∷ [])) ≡ kept 4 (plain (0 ∷ 6 ∷ []))
  pub sum_form : plus6 (plain (0 ∷ 5 ∷ [])) (plain (0 ∷ 6 ∷ [])) ≡ kept 5 (plain (0 ∷ 5 ∷ []))
  -- "Modulo 6, (2x + 1)(3x + 1) = 5x + 1.": c needs three coefficients all the same; by zero it needs one. Without a tower no work word is needed or cleared
  pub product_falls : times6 (plain (1 ∷ 1 ∷ 2 ∷ [])) (plain (1 ∷ 1 ∷ 3 ∷ [])) (words 4 9) (words 2 9) ≡ left (c_work (plain (1 ∷ 1 ∷ 5 ∷ 0 ∷ [])) (words 2 9))
  pub product_room : times6 (plain (1 ∷ 1 ∷ 2 ∷ [])) (plain (1 ∷ 1 ∷ 3 ∷ [])) (words 3 9) (words 2 9) ≡ kept 6 (c_work (words 3 9) (words 2 9))
  pub product_zero : times6 (negsuc 0 ∷ plain (0 ∷ [])) (plain (1 ∷ 1 ∷ 3 ∷ [])) (words 2 9) [] ≡ left (c_work (negsuc 0 ∷ plain (0 ∷ [])) [])
  pub product_by_zero : times6 (plain (1 ∷ 1 ∷ 3 ∷ [])) (negsuc 0 ∷ plain (0 ∷ [])) (words 2 9) [] ≡ left (c_work (negsuc 0 ∷ plain (0 ∷ [])) [])
  -- 4 looks at c too, before the form of a
  pub product_first : times6 (plain (0 ∷ 6 ∷ [])) (plain (0 ∷ 1 ∷ [])) (words 1 9) [] ≡ kept 4 (c_work (words 1 9) [])
  -- the calculator's division over T7, into a slot of three coefficients: x² + 5 is (x + z)(x + 6z). M(1) = 8 of nine work words are cleared
  pub division_t7 : by7 b7 (words 10 9) (words 9 9)
      ≡ left (a_q_work
      (negsuc 0 ∷ negsuc 0 ∷ pos 0 ∷ pos 0 ∷ negsuc 0 ∷ pos 0 ∷ pos 0 ∷ negsuc 0 ∷ pos 0 ∷ pos 0 ∷ [])
      (plain (1 ∷ 1 ∷ 0 ∷ 1 ∷ 0 ∷ 1 ∷ 0 ∷ []) ++ (negsuc 0 ∷ plain (0 ∷ 0 ∷ [])))
      (words 8 0 ++ words 1 9))
  -- no room for x + z in one coefficient; seven work words; "Taking an element for 1 because its degree word is 0": 2 is not 1
  pub division_room : by7 b7 (words 4 9) (words 9 9) ≡ kept 6 (a_q_work a7 (words 4 9) (words 9 9))
  pub division-work : by7 (plain (1 ∷ 1 ∷ 0 ∷ 6 ∷ 0 ∷ 2 ∷ 0 ∷ [])) (words 7 9) (words 7 9) ≡ kept 7 (a_q_work a7 (words 7 9) (words 7 9))
  pub division_monic : by7 (plain (1 ∷ 1 ∷ 0 ∷ 6 ∷ 0 ∷ 2 ∷ 0 ∷ [])) (words 7 9) (words 8 9) ≡ kept 8 (a_q_work a7 (words 7 9) (words 8 9))
  -- by zero: 8, but 6 where q has not deg a + 2 coefficients
  pub division_zero : by7 (negsuc 0 ∷ negsuc 0 ∷ plain (0 ∷ 0 ∷ [])) (words 13 9) (words 8 9) ≡ kept 8 (a_q_work a7 (words 13 9) (words 8 9))
  pub division_zero_room : by7 (negsuc 0 ∷ negsuc 0 ∷ plain (0 ∷ 0 ∷ [])) (words 10 9) (words 8 9) ≡ kept 6 (a_q_work a7 (words 10 9) (words 8 9))
  -- a dividend below the divisor's degree stays, and the quotient is zero
  pub division_small : by6 (plain (0 ∷ 5 ∷ [])) (plain (2 ∷ 1 ∷ 0 ∷ 1 ∷ [])) (words 2 9) [] ≡ left (a_q_work (plain (0 ∷ 5 ∷ [])) (negsuc 0 ∷ plain (0 ∷ [])) [])

pub polynomials : Polynomials
unfolding size zero_words form_over is_in_form one_words modulus_over tower_form slot_length product_work sum_number sum_words read reads write writes
    product_number product_words division_number remainder_words quotient_words tower_of divide mulᵛ oneᵛ residue ◌*ˢ◌
polynomials = record {
  sum_falls = refl;
  minus_order = refl;
  minus_same = refl;
  sum_longer = refl;
  sum_room = refl;
  sum_first = refl;
  sum_form = refl;
  product_falls = refl;
  product_room = refl;
  product_zero = refl;
  product_by_zero = refl;
  product_first = refl;
  division_t7 = refl;
  division_room = refl;
  division-work = refl;
  division_monic = refl;
  division_zero = refl;
  division_zero_room = refl;
  division_small = refl;
}

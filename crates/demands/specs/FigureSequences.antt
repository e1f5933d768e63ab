-- Rows of the table of figures: inverse and GCD, beside C5 to C10 and C12. All is closed by computing.
--
-- Sequences == the rows;  sequences == that they hold
use Rattle.std.specs.Prelude.{◌≡◌, refl, [], ◌∷◌, ◌++◌, pos, negsuc}
use Rattle.algebra.specs.Divide.{divide}
use Rattle.algebra.specs.Quotient.{mulᵛ, oneᵛ, residue}
use Rattle.algebra.specs.Series.{◌*ˢ◌}
use Rattle.euclid.specs.Gcd.{make, start, gcd_with}
use Rattle.euclid.specs.Inverse.{inverse as inverse-of}
use Rattle.euclid.specs.Number.{rows, inverse₀}
use Rattle.euclid.specs.Sequence.{seq}
use Rattle.euclid.specs.Shown.{shown_words}
use Rattle.tower.specs.Writing.{size, read, reads, write, writes, tower_of}
use Rattle.tower.specs.Form.{zero_words, form_over, is_in_form, one_words, modulus_over, tower_form}
use Rattle.tower.specs.Limits.{slot_length}
use Rattle.tower.specs.Work.{inverse_work, gcd_work}
use Rattle.kernel.specs.Inverses.{inverse_number, inverse_words}
use Rattle.kernel.specs.Gcds.{gcd_number, gcd_words}
use Rattle.demands.specs.FigureWords.{plain, words, left, met, kept, r_f_work, g_f_work, gcd7, a7, b7, none_t7, x_t7, z+3_t7, z+4_t7}
use Rattle.demands.specs.FigureWords.{inverse_t7, gcd_t7, inverse_t62, inverse_t72}

pub record Sequences : Type 0 where
  -- the calculator's case: the GCD of x² + 5 and x + 6z into three coefficients, 10 + 7 + 6 + 20 of 45 work words cleared
  pub calculator_gcd : gcd_t7 a7 b7 (words 10 9) (words 3 8) (words 45 7)
      ≡ left (g_f_work (plain (1 ∷ 1 ∷ 0 ∷ 6 ∷ 0 ∷ 1 ∷ 0 ∷ []) ++ (negsuc 0 ∷ plain (0 ∷ 0 ∷ []))) (words 3 8) (words 43 0 ++ words 2 7))
  pub calculator_inv : inverse_t7 (plain (1 ∷ 3 ∷ 1 ∷ [])) (words 3 9) (words 3 8) (words 20 7) ≡ met 1 (r_f_work (words 3 9) (plain (1 ∷ 3 ∷ 1 ∷ [])) (words 20 0))
  -- both leading coefficients show a factor, and a's is the one shown, even where deg a < deg b: (z + 3)x + 1 and (z + 4)x²
  pub a_first : gcd_t7 z+3_t7 z+4_t7 (words 10 9) (words 3 8) (words 43 7) ≡ met 1 (g_f_work (words 10 9) (plain (1 ∷ 3 ∷ 1 ∷ [])) (words 43 0))
  pub b_first : gcd_t7 z+4_t7 z+3_t7 (words 10 9) (words 3 8) (words 43 7) ≡ met 1 (g_f_work (words 10 9) (plain (1 ∷ 4 ∷ 1 ∷ [])) (words 43 0))
  -- x + 1 and x² + 6, a of the lower degree: x + 1
  pub a_lower : gcd7 (plain (1 ∷ 1 ∷ 1 ∷ [])) (plain (2 ∷ 6 ∷ 0 ∷ 1 ∷ [])) (words 4 9) (words 1 8) (words 9 7)
      ≡ left (g_f_work (plain (1 ∷ 1 ∷ 1 ∷ 0 ∷ [])) (words 1 8) (words 9 0))
  -- two levels: an inverse, and factors at levels 2, 1 and 0: of y, of zy + 1 and of 2y + 1, each in front of zeros
  pub two_levels : inverse_t72 (plain (2 ∷ 1 ∷ 1 ∷ 2 ∷ 1 ∷ 3 ∷ 4 ∷ 1 ∷ 5 ∷ 6 ∷ [])) (words 10 9) (words 10 8) (words 86 7)
      ≡ left (r_f_work (plain (2 ∷ 1 ∷ 3 ∷ 5 ∷ 1 ∷ 1 ∷ 3 ∷ 1 ∷ 0 ∷ 3 ∷ [])) (words 10 8) (words 85 0 ++ words 1 7))
  pub at_two : inverse_t62 (pos 1 ∷ negsuc 0 ∷ plain (0 ∷ 0 ∷ 0 ∷ 1 ∷ 0 ∷ [])) (words 7 9) (words 7 8) (words 70 7)
      ≡ met 2 (r_f_work (words 7 9) (pos 1 ∷ negsuc 0 ∷ plain (0 ∷ 0 ∷ 0 ∷ 1 ∷ 0 ∷ [])) (words 70 0))
  pub at_one : inverse_t62 (plain (1 ∷ 0 ∷ 1 ∷ 0 ∷ 1 ∷ 0 ∷ 1 ∷ [])) (words 7 9) (words 7 8) (words 70 7)
      ≡ met 1 (r_f_work (words 7 9) (plain (1 ∷ 0 ∷ 1 ∷ 0 ∷ 0 ∷ 0 ∷ 0 ∷ [])) (words 70 0))
  pub at_zero : inverse_t62 (plain (1 ∷ 0 ∷ 1 ∷ 0 ∷ 0 ∷ 2 ∷ 0 ∷ [])) (words 7 9) (words 7 8) (words 70 7)
      ≡ met 0 (r_f_work (words 7 9) (plain (2 ∷ 0 ∷ 0 ∷ 0 ∷ 0 ∷ 0 ∷ 0 ∷ [])) (words 70 0))
  -- an inverse: 4 of the element, of the answer and of the factor buffer before 5 of the element; 5 before 7; 7 before 9
  pub inverse-element : inverse_t7 (words 4 9) (words 3 9) (words 3 8) [] ≡ kept 4 (r_f_work (words 3 9) (words 3 8) [])
  pub inverse-answer : inverse_t7 (words 3 9) (words 2 9) (words 3 8) [] ≡ kept 4 (r_f_work (words 2 9) (words 3 8) [])
  pub inverse_buffer : inverse_t7 (words 3 9) (words 3 9) (words 4 8) [] ≡ kept 4 (r_f_work (words 3 9) (words 4 8) [])
  pub inverse_form : inverse_t7 (plain (1 ∷ 6 ∷ 7 ∷ [])) (words 3 9) (words 3 8) (words 19 7) ≡ kept 5 (r_f_work (words 3 9) (words 3 8) (words 19 7))
  pub work_of_inverse : inverse_t7 (negsuc 0 ∷ words 2 0) (words 3 9) (words 3 8) (words 19 7) ≡ kept 7 (r_f_work (words 3 9) (words 3 8) (words 19 7))
  pub inverse_zero : inverse_t7 (negsuc 0 ∷ words 2 0) (words 3 9) (words 3 8) (words 20 7) ≡ kept 9 (r_f_work (words 3 9) (words 3 8) (words 20 7))
  -- a GCD: 4 of g and of the factor buffer before 5 of b, 5 before 6, 6 before 7; the greater degree has to fit, and both polynomials count for the work store
  pub gcd-answer : gcd_t7 x_t7 (words 4 9) (words 3 9) (words 3 8) [] ≡ kept 4 (g_f_work (words 3 9) (words 3 8) [])
  pub gcd_buffer : gcd_t7 x_t7 (words 4 9) (words 4 9) (words 1 8) [] ≡ kept 4 (g_f_work (words 4 9) (words 1 8) [])
  pub gcd_form : gcd_t7 x_t7 (words 4 9) (words 4 9) (words 3 8) [] ≡ kept 5 (g_f_work (words 4 9) (words 3 8) [])
  pub gcd_room : gcd_t7 x_t7 a7 (words 7 9) (words 3 8) (words 42 7) ≡ kept 6 (g_f_work (words 7 9) (words 3 8) (words 42 7))
  pub work_of_gcd : gcd_t7 x_t7 a7 (words 10 9) (words 3 8) (words 42 7) ≡ kept 7 (g_f_work (words 10 9) (words 3 8) (words 42 7))
  pub gcd_zero_work : gcd_t7 none_t7 none_t7 (words 4 9) (words 3 8) (words 27 7) ≡ kept 7 (g_f_work (words 4 9) (words 3 8) (words 27 7))

pub sequences : Sequences
unfolding size zero_words form_over is_in_form one_words modulus_over tower_form slot_length inverse_work gcd_work read reads write writes tower_of
    inverse_number inverse_words gcd_number gcd_words shown_words gcd_with make start inverse-of inverse₀ rows seq divide mulᵛ oneᵛ residue ◌*ˢ◌
sequences = record {
  calculator_gcd = refl;
  calculator_inv = refl;
  a_first = refl;
  b_first = refl;
  a_lower = refl;
  two_levels = refl;
  at_two = refl;
  at_one = refl;
  at_zero = refl;
  inverse-element = refl;
  inverse-answer = refl;
  inverse_buffer = refl;
  inverse_form = refl;
  work_of_inverse = refl;
  inverse_zero = refl;
  gcd-answer = refl;
  gcd_buffer = refl;
  gcd_form = refl;
  gcd_room = refl;
  work_of_gcd = refl;
  gcd_zero_work = refl;
}

-- Rows of the table of figures: the checks of a tower and of a slot, the work sizes and the fraction, beside C1 to C3 and C11. All is closed by computing.
--
-- Checks == the rows;  checks == that they hold
use Rattle.std.specs.Prelude.{ℕ, ◌≡◌, refl, List, [], ◌∷◌, ℤ, pos, negsuc}
use Rattle.euclid.specs.Number.{rows, inverse₀}
use Rattle.tower.specs.Writing.{size}
use Rattle.tower.specs.Form.{zero_words, form_over, is_in_form, one_words, modulus_over, tower_form}
use Rattle.tower.specs.Limits.{slot_length}
use Rattle.tower.specs.Work.{product_work, inverse_work, gcd_work}
use Rattle.kernel.specs.Refusals.{done, refused}
use Rattle.kernel.specs.Calls.{size_of, tower_number, check_tower, slot_number, work_number, work_sizes, fraction_number, fraction_residue, fraction}
use Rattle.demands.specs.FigureWords.{degrees, plain, sizes, no_sizes, residue, no_residue, t7_words, a7, b7, check7, slot7}

pub record Checks : Type 0 where
  -- "For d = (3, 2): S = 1, 4, 9; M(2) = 38, I(2) = 90." and for degrees 2 and 1: 28 + 19 + 18 + 90
  pub s0 : size_of (pos 0) (degrees 3 2) ≡ 1
  pub s1 : size_of (pos 1) (degrees 3 2) ≡ 4
  pub s2 : size_of (pos 2) (degrees 3 2) ≡ 9
  pub work : work_sizes (pos 2) (degrees 3 2) (pos 2) (pos 1) ≡ sizes 38 90 155
  -- degrees from -1 to 255; no level
  pub work_most : work_sizes (pos 2) (degrees 3 2) (negsuc 0) (pos 255) ≡ sizes 38 90 2414
  pub work-low : work_sizes (pos 2) (degrees 3 2) (negsuc 1) (pos 1) ≡ no_sizes 5
  pub work_high : work_sizes (pos 2) (degrees 3 2) (pos 2) (pos 256) ≡ no_sizes 5
  pub work_flat : work_sizes (pos 0) (degrees 0 0) (pos 3) (pos 2) ≡ sizes 0 0 11
  pub work_levels : (e : List ℤ) (a b : ℤ) → work_sizes (pos 5) e a b ≡ no_sizes 2
  -- T7, and what is not a tower: not monic, a word 7, a word too few, a word too many, the degree 1
  pub t7 : check7 t7_words ≡ done
  pub t7_monic : check7 (plain (2 ∷ 5 ∷ 0 ∷ 2 ∷ [])) ≡ refused 3
  pub t7_seven : check7 (plain (2 ∷ 7 ∷ 0 ∷ 1 ∷ [])) ≡ refused 3
  pub t7_short : check7 (plain (2 ∷ 5 ∷ 0 ∷ [])) ≡ refused 3
  pub t7_long : check7 (plain (2 ∷ 5 ∷ 0 ∷ 1 ∷ 0 ∷ [])) ≡ refused 3
  pub t7_degree : check7 (plain (1 ∷ 5 ∷ 1 ∷ 0 ∷ [])) ≡ refused 3
  -- the calculator's a and b over T7; and a with a zero leading coefficient, with a coefficient above its degree, with a zero not in form, and a word too few
  pub slot_a : slot7 a7 ≡ done
  pub slot_b : slot7 b7 ≡ done
  pub slot_lead : slot7 (pos 2 ∷ pos 0 ∷ pos 5 ∷ pos 0 ∷ pos 0 ∷ pos 1 ∷ pos 0 ∷ negsuc 0 ∷ pos 0 ∷ pos 0 ∷ []) ≡ refused 5
  pub slot_above : slot7 (pos 1 ∷ pos 0 ∷ pos 5 ∷ pos 0 ∷ pos 0 ∷ pos 1 ∷ pos 0 ∷ pos 0 ∷ pos 1 ∷ pos 0 ∷ []) ≡ refused 5
  pub slot_zero : slot7 (pos 2 ∷ pos 0 ∷ pos 5 ∷ pos 0 ∷ negsuc 0 ∷ pos 1 ∷ pos 0 ∷ pos 0 ∷ pos 1 ∷ pos 0 ∷ []) ≡ refused 5
  pub slot_short : slot7 (pos 2 ∷ pos 0 ∷ pos 5 ∷ pos 0 ∷ negsuc 0 ∷ pos 0 ∷ pos 0 ∷ pos 0 ∷ pos 1 ∷ []) ≡ refused 4
  pub slot_empty : slot7 [] ≡ refused 4
  pub slot_none : slot7 (negsuc 0 ∷ []) ≡ refused 4
  -- both ends of the signed words, modulo 2,147,483,647, where 2^63 is 2; e from 1 on, and nothing of e where p is out of range
  pub fraction_least : fraction (pos 2147483647) (negsuc 9223372036854775807) (pos 1) ≡ residue 2147483645
  pub fraction_half : fraction (pos 2147483647) (negsuc 9223372036854775807) (pos 2) ≡ residue 2147483646
  pub fraction_most : fraction (pos 2147483647) (pos 9223372036854775807) (pos 1) ≡ residue 1
  pub fraction_below : fraction (pos 2147483647) (pos 1) (pos 9223372036854775807) ≡ residue 1
  pub fraction_shared : fraction (pos 6) (pos 1) (pos 4) ≡ no_residue 10
  pub fraction-zero : (n : ℤ) → fraction (pos 7) n (pos 0) ≡ no_residue 10
  pub fraction_negative : (n : ℤ) (m : ℕ) → fraction (pos 7) n (negsuc m) ≡ no_residue 10
  pub fraction_p : (n e : ℤ) → fraction (pos 2147483648) n e ≡ no_residue 1
  -- p below 0, N of 5 or -1, a degree that is not used and not 0
  pub p_negative : (m : ℕ) (n : ℤ) (e t : List ℤ) → check_tower (negsuc m) n e t ≡ refused 1
  pub five_levels : (e t : List ℤ) → check_tower (pos 7) (pos 5) e t ≡ refused 2
  pub below_zero : (e t : List ℤ) → check_tower (pos 7) (negsuc 0) e t ≡ refused 2
  pub not_used : (t : List ℤ) → check_tower (pos 7) (pos 1) (degrees 2 3) t ≡ refused 2

pub checks : Checks
unfolding size zero_words form_over is_in_form one_words modulus_over tower_form slot_length product_work inverse_work gcd_work
    inverse₀ rows tower_number slot_number work_number fraction_number fraction_residue
checks = record {
  s0 = refl;
  s1 = refl;
  s2 = refl;
  work = refl;
  work_most = refl;
  work-low = refl;
  work_high = refl;
  work_flat = refl;
  work_levels = λ e a b. refl;
  t7 = refl;
  t7_monic = refl;
  t7_seven = refl;
  t7_short = refl;
  t7_long = refl;
  t7_degree = refl;
  slot_a = refl;
  slot_b = refl;
  slot_lead = refl;
  slot_above = refl;
  slot_zero = refl;
  slot_short = refl;
  slot_empty = refl;
  slot_none = refl;
  fraction_least = refl;
  fraction_half = refl;
  fraction_most = refl;
  fraction_below = refl;
  fraction_shared = refl;
  fraction-zero = λ n. refl;
  fraction_negative = λ n m. refl;
  fraction_p = λ n e. refl;
  p_negative = λ m n e t. refl;
  five_levels = λ e t. refl;
  below_zero = λ e t. refl;
  not_used = λ t. refl;
}

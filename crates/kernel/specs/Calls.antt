-- What each public call gives, for every input: the numbers that nobody has looked at, and the lent words. What these definitions stand on is listed in docs/MATHEMATICS.md.
--
-- tower_table, slot_table, work_table == the tests of a call in the order of document 01's numbers;  tower_number .. == the number that they give, 0 for none
-- coefficients_of, length_ok, form_ok == the coefficients of a slot; its length is allowed; it is in form
-- check_tower, check_slot, work_sizes, fraction == what the calls give
use Rattle.std.specs.Prelude.{ℕ, zero, suc, ◌*◌, ◌%◌, Bool, true, false, ◌&&◌, List, [], ◌∷◌, ◌++◌, ℤ, pos, T, length}
use Rattle.std.specs.Int.Signed.{lt_z}
use Rattle.algebra.specs.Test.{branch}
use Rattle.algebra.specs.Zmod.{Residue, to_z}
use Rattle.euclid.specs.Answer.{Answer, done as done-with, shown, long}
use Rattle.euclid.specs.Number.{inverse₀}
use Rattle.tower.specs.Writing.{size, count_of}
use Rattle.residue.specs.Word.{num, mod_z}
use Rattle.tower.specs.Form.{tower_form, slot_form}
use Rattle.tower.specs.Limits.{p_ok, p_positive, levels_ok, degrees_ok, degrees_of, size_ok, slot_length, slot_count, work_degree}
use Rattle.tower.specs.Work.{product_work, inverse_work, gcd_work}
use Rattle.kernel.specs.Refusals.{Said, done, refused, bad_modulus, bad_degrees, bad_tower, bad_length, bad_form, no_residue, Table, first, refusal}

-- ---- p, N, the degrees and the tower's words: numbers 1 to 3, the beginning of every call but the fraction and the work sizes
abbrev pub shape_table : ℤ → List ℤ → Table
shape_table n e =
    (bad_degrees, λ _. levels_ok n)
    ∷ (bad_degrees, λ _. degrees_ok (num n) e)
    ∷ (bad_degrees, λ _. size_ok (degrees_of e) (num n))
    ∷ []

unfoldable pub shape_number : ℤ → List ℤ → ℕ
shape_number n e = first (shape_table n e)

-- p before them
abbrev pub base_table : ℤ → ℤ → List ℤ → Table
base_table p n e = (bad_modulus, λ _. p_ok p) ∷ shape_table n e

unfoldable pub base_number : ℤ → ℤ → List ℤ → ℕ
base_number p n e = first (base_table p n e)

-- the words of the tower
abbrev pub tower_row : ℤ → ℤ → List ℤ → List ℤ → ℕ × (Unit {0} → Bool)
tower_row p n e t = (bad_tower, λ _. tower_form (num p) (degrees_of e) (num n) t)

-- the tests of a tower
abbrev pub tower_table : ℤ → ℤ → List ℤ → List ℤ → Table
tower_table p n e t = base_table p n e ++ (tower_row p n e t ∷ [])

unfoldable pub tower_number : ℤ → ℤ → List ℤ → List ℤ → ℕ
tower_number p n e t = first (tower_table p n e t)

-- "Check of a tower"
abbrev pub check_tower : ℤ → ℤ → List ℤ → List ℤ → Said
check_tower p n e t = refusal (tower_number p n e t)

-- ---- the length of a slot, number 4, and its form, number 5
abbrev pub size_of : ℤ → List ℤ → ℕ
size_of n e = size (degrees_of e) (num n)

-- the coefficients of a slot
abbrev pub coefficients_of : ℤ → List ℤ → List ℤ → ℕ
coefficients_of n e a = slot_count (size_of n e) (length a)

-- its length is allowed
abbrev pub length_ok : ℤ → List ℤ → List ℤ → Bool
length_ok n e a = slot_length (size_of n e) (length a)

-- it is in form
abbrev pub form_ok : ℤ → ℤ → List ℤ → List ℤ → Bool
form_ok p n e a = slot_form (num p) (degrees_of e) (num n) (coefficients_of n e a) a

-- the test of its length
abbrev pub length_row : ℤ → List ℤ → List ℤ → ℕ × (Unit {0} → Bool)
length_row n e a = (bad_length, λ _. length_ok n e a)

-- the test of its form
abbrev pub form_row : ℤ → ℤ → List ℤ → List ℤ → ℕ × (Unit {0} → Bool)
form_row p n e a = (bad_form, λ _. form_ok p n e a)

-- the tests of a tower and of a slot over it
abbrev pub slot_table : ℤ → ℤ → List ℤ → List ℤ → List ℤ → Table
slot_table p n e t a = tower_table p n e t ++ (length_row n e a ∷ form_row p n e a ∷ [])

unfoldable pub slot_number : ℤ → ℤ → List ℤ → List ℤ → List ℤ → ℕ
slot_number p n e t a = first (slot_table p n e t a)

-- "check of a slot"
abbrev pub check_slot : ℤ → ℤ → List ℤ → List ℤ → List ℤ → Said
check_slot p n e t a = refusal (slot_number p n e t a)

-- ---- "the work sizes (from N, the d_i and the degrees of a and b: M(N), I(N) and the GCD's number, by the formulas below)"
pub record Sizes : Type 0 where
  pub said : Said
  pub product : ℕ
  pub inverse : ℕ
  pub gcd : ℕ

-- the two degrees that the work sizes take
abbrev pub degrees_row : ℤ → ℤ → ℕ × (Unit {0} → Bool)
degrees_row a b = (bad_form, λ _. work_degree a && work_degree b)

-- the tests of the work sizes
abbrev pub work_table : ℤ → List ℤ → ℤ → ℤ → Table
work_table n e a b = shape_table n e ++ (degrees_row a b ∷ [])

unfoldable pub work_number : ℤ → List ℤ → ℤ → ℤ → ℕ
work_number n e a b = first (work_table n e a b)

-- the sizes, or zeros beside a number
abbrev pub sizes_by : ℕ → ℕ → ℕ → ℕ → Sizes
sizes_by zero m i g = record { said = done; product = m; inverse = i; gcd = g }
sizes_by (suc k) m i g = record { said = refused (suc k); product = 0; inverse = 0; gcd = 0 }

abbrev pub work_sizes : ℤ → List ℤ → ℤ → ℤ → Sizes
work_sizes n e a b =
    sizes_by (work_number n e a b) (product_work (degrees_of e) (num n)) (inverse_work (degrees_of e) (num n)) (gcd_work (degrees_of e) (num n) (count_of a) (count_of b))

-- ---- "residue of a fraction": "A fraction n/e, both any signed 64-bit numbers, has the residue n times the inverse of e, from 0 to p-1. It is refused when e is
-- not positive or shares a divisor above 1 with p."
pub record Fraction : Type 0 where
  pub said : Said
  pub residue : ℕ

-- the inverse of e modulo p, by the rows of level 0: it shows a divisor above 1 where there is one
abbrev pub inverse_of : (p e : ℤ) → T (p_ok p) → Answer ℕ (Residue (num p))
inverse_of p e h = inverse₀ (num p) (p_positive p h) (to_z (num p) (p_positive p h) (num e))

-- whether an inverse is given
abbrev pub is_given : {F A : Type 0} → Answer F A → Bool
is_given (done-with u) = true
is_given (shown f) = false
is_given long = false

-- n times the inverse that is given, modulo p
abbrev pub times_given : (p : ℕ) → ℤ → Answer ℕ (Residue p) → ℕ
times_given p n (done-with u) = (mod_z n p * u.0) % p
times_given p n (shown h) = 0
times_given p n long = 0

-- the tests of a fraction
abbrev pub fraction_table : ℤ → ℤ → Table
fraction_table p e =
    (bad_modulus, λ _. p_ok p)
    ∷ (no_residue, λ _. lt_z (pos 0) e)
    ∷ (no_residue, λ _. branch (p_ok p) (λ h. is_given (inverse_of p e h)) (λ _. false))
    ∷ []

unfoldable pub fraction_number : ℤ → ℤ → ℕ
fraction_number p e = first (fraction_table p e)

-- n times the inverse of e, modulo p
unfoldable pub fraction_residue : ℤ → ℤ → ℤ → ℕ
fraction_residue p n e = branch (p_ok p) (λ h. times_given (num p) n (inverse_of p e h)) (λ _. 0)

-- the residue, or 0 beside a number
abbrev pub fraction_by : ℕ → ℕ → Fraction
fraction_by zero r = record { said = done; residue = r }
fraction_by (suc k) r = record { said = refused (suc k); residue = 0 }

abbrev pub fraction : ℤ → ℤ → ℤ → Fraction
fraction p n e = fraction_by (fraction_number p e) (fraction_residue p n e)

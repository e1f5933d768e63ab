-- The words and the calls that the rows of document 01's figures are written with.
--
-- degrees, plain, words                == the degrees of a tower; words that are not negative; the same word many times
-- left, met, kept                      == what a call leaves: Done, a factor shown, a refusal
-- c_work, a_q_work, r_f_work, g_f_work == the words that a product, a division, an inverse and a GCD may change
-- powers, t7_words, ..                 == towers, and elements and polynomials over them
use Rattle.std.specs.Prelude.{ℕ, true, false, List, [], ◌∷◌, ◌++◌, ℤ, pos, negsuc}
use Rattle.tower.specs.Form.{copies, zero_words, one_words}
use Rattle.kernel.specs.Refusals.{Said, done, factor, refused}
use Rattle.kernel.specs.Calls.{check_tower, check_slot, Sizes, Fraction}
use Rattle.kernel.specs.Slots.{Changed}
use Rattle.kernel.specs.Sums.{sum}
use Rattle.kernel.specs.Products.{ProductWords, product}
use Rattle.kernel.specs.Divisions.{DivisionWords, division}
use Rattle.kernel.specs.Inverses.{InverseWords, inverse}
use Rattle.kernel.specs.Gcds.{GcdWords, gcd}
use Rattle.kernel.specs.SlotMeaning.{PolynomialOf, slot_of}

-- ---- words
-- d_1 and d_2
abbrev pub degrees : ℕ → ℕ → List ℤ
degrees a b = pos a ∷ pos b ∷ pos 0 ∷ pos 0 ∷ []

-- words that are not negative
abbrev pub plain : List ℕ → List ℤ
plain [] = []
plain (n ∷ l) = pos n ∷ plain l

-- n words k
abbrev pub words : ℕ → ℕ → List ℤ
words n k = copies n (pos k ∷ [])

-- ---- what a call gives
-- what the work sizes and the fraction give, and what they refuse
abbrev pub sizes : ℕ → ℕ → ℕ → Sizes
sizes m i g = record { said = done; product = m; inverse = i; gcd = g }

abbrev pub no_sizes : ℕ → Sizes
no_sizes k = record { said = refused k; product = 0; inverse = 0; gcd = 0 }

abbrev pub residue : ℕ → Fraction
residue r = record { said = done; residue = r }

abbrev pub no_residue : ℕ → Fraction
no_residue k = record { said = refused k; residue = 0 }

-- what a call leaves: Done and the words that it may change, a factor shown at level j and these, or a refusal and these as found
abbrev pub left : {A : Type 0} → A → Changed A
left w = record { said = done; words = w }

abbrev pub met : {A : Type 0} → ℕ → A → Changed A
met j w = record { said = factor j; words = w }

abbrev pub kept : {A : Type 0} → ℕ → A → Changed A
kept k w = record { said = refused k; words = w }

-- the words of c and of the work store; those of a, of q and of the work store
abbrev pub c_work : List ℤ → List ℤ → ProductWords
c_work c v = record { product = c; work = v }

abbrev pub a_q_work : List ℤ → List ℤ → List ℤ → DivisionWords
a_q_work a q v = record { remainder = a; quotient = q; work = v }

-- the words of the inverse or of g, of the factor buffer and of the work store
abbrev pub r_f_work : List ℤ → List ℤ → List ℤ → InverseWords
r_f_work r f v = record { inverse = r; factor = f; work = v }

abbrev pub g_f_work : List ℤ → List ℤ → List ℤ → GcdWords
g_f_work g f v = record { gcd = g; factor = f; work = v }

-- ---- p = 7, d = (64, 31): the tower with m_i = z_i ^ d_i, and the zero slot of k coefficients
abbrev pub d64 : List ℕ
d64 = 64 ∷ 31 ∷ 0 ∷ 0 ∷ []

abbrev pub powers : List ℤ
powers = pos 31 ∷ (copies 31 (zero_words d64 1) ++ (one_words d64 1 ++ (pos 64 ∷ (copies 64 (zero_words d64 0) ++ one_words d64 0))))

abbrev pub zero_slot : ℕ → List ℤ
zero_slot k = negsuc 0 ∷ copies k (zero_words d64 2)

abbrev pub check64 : List ℤ → Said
check64 a = check_slot (pos 7) (pos 2) (degrees 64 31) powers a

abbrev pub slot64 : (k : ℕ) → PolynomialOf (pos 7) (pos 2) (degrees 64 31) k → List ℤ
slot64 k v = slot_of (pos 7) (pos 2) (degrees 64 31) k v

-- ---- p = 5, d = (3, 2), m_2 = y² + z·y + z² + 2, m_1 = z³ + z + 1: (y + z)x + 1 times z²·y + 3
abbrev pub times5 : List ℤ → List ℤ → Changed ProductWords
times5 c v =
    product (pos 5) (pos 2) (degrees 3 2) (plain (2 ∷ 2 ∷ 2 ∷ 0 ∷ 1 ∷ 1 ∷ 0 ∷ 1 ∷ 0 ∷ 0 ∷ 1 ∷ 0 ∷ 0 ∷ 3 ∷ 1 ∷ 1 ∷ 0 ∷ 1 ∷ []))
    (plain (1 ∷ 0 ∷ 0 ∷ 1 ∷ 0 ∷ 0 ∷ []) ++ (negsuc 0 ∷ plain (0 ∷ 0 ∷ 0 ∷ 1 ∷ 1 ∷ 0 ∷ 1 ∷ 0 ∷ 0 ∷ 1 ∷ 0 ∷ 0 ∷ [])))
    (plain (0 ∷ 1 ∷ 0 ∷ 3 ∷ 0 ∷ 0 ∷ 2 ∷ 0 ∷ 0 ∷ 1 ∷ []))
    c v

-- ---- p = 6, N = 0
abbrev pub plus6 : List ℤ → List ℤ → Changed (List ℤ)
plus6 a b = sum false (pos 6) (pos 0) (degrees 0 0) [] a b

abbrev pub minus6 : List ℤ → List ℤ → Changed (List ℤ)
minus6 a b = sum true (pos 6) (pos 0) (degrees 0 0) [] a b

abbrev pub times6 : List ℤ → List ℤ → List ℤ → List ℤ → Changed ProductWords
times6 a b c v = product (pos 6) (pos 0) (degrees 0 0) [] a b c v

abbrev pub by6 : List ℤ → List ℤ → List ℤ → List ℤ → Changed DivisionWords
by6 a b q v = division (pos 6) (pos 0) (degrees 0 0) [] a b q v

abbrev pub inverse6 : List ℤ → List ℤ → List ℤ → List ℤ → Changed InverseWords
inverse6 c r f v = inverse (pos 6) (pos 0) (degrees 0 0) [] c r f v

-- ---- p = 7, N = 0
abbrev pub gcd7 : List ℤ → List ℤ → List ℤ → List ℤ → List ℤ → Changed GcdWords
gcd7 a b g f v = gcd (pos 7) (pos 0) (degrees 0 0) [] a b g f v

-- ---- "T7 is p = 7, m_1 = z² + 5."; the calculator's a and b over it
abbrev pub t7_words : List ℤ
t7_words = plain (2 ∷ 5 ∷ 0 ∷ 1 ∷ [])

abbrev pub a7 : List ℤ
a7 = pos 2 ∷ pos 0 ∷ pos 5 ∷ pos 0 ∷ negsuc 0 ∷ pos 0 ∷ pos 0 ∷ pos 0 ∷ pos 1 ∷ pos 0 ∷ []

abbrev pub b7 : List ℤ
b7 = plain (1 ∷ 1 ∷ 0 ∷ 6 ∷ 0 ∷ 1 ∷ 0 ∷ [])

-- zero in a slot of one coefficient, x, (z + 3)x + 1, (z + 6)x + 1 and (z + 4)x²
abbrev pub none_t7 : List ℤ
none_t7 = negsuc 0 ∷ negsuc 0 ∷ plain (0 ∷ 0 ∷ [])

abbrev pub x_t7 : List ℤ
x_t7 = pos 1 ∷ negsuc 0 ∷ plain (0 ∷ 0 ∷ 0 ∷ 1 ∷ 0 ∷ [])

abbrev pub z+3_t7 : List ℤ
z+3_t7 = plain (1 ∷ 0 ∷ 1 ∷ 0 ∷ 1 ∷ 3 ∷ 1 ∷ [])

abbrev pub z+6_t7 : List ℤ
z+6_t7 = plain (1 ∷ 0 ∷ 1 ∷ 0 ∷ 1 ∷ 6 ∷ 1 ∷ [])

abbrev pub z+4_t7 : List ℤ
z+4_t7 = pos 2 ∷ negsuc 0 ∷ pos 0 ∷ pos 0 ∷ negsuc 0 ∷ plain (0 ∷ 0 ∷ 1 ∷ 4 ∷ 1 ∷ [])

abbrev pub check7 : List ℤ → Said
check7 t = check_tower (pos 7) (pos 1) (degrees 2 0) t

abbrev pub slot7 : List ℤ → Said
slot7 a = check_slot (pos 7) (pos 1) (degrees 2 0) t7_words a

abbrev pub minus7 : List ℤ → List ℤ → Changed (List ℤ)
minus7 a b = sum true (pos 7) (pos 1) (degrees 2 0) t7_words a b

-- a7 divided
abbrev pub by7 : List ℤ → List ℤ → List ℤ → Changed DivisionWords
by7 b q v = division (pos 7) (pos 1) (degrees 2 0) t7_words a7 b q v

abbrev pub inverse_t7 : List ℤ → List ℤ → List ℤ → List ℤ → Changed InverseWords
inverse_t7 c r f v = inverse (pos 7) (pos 1) (degrees 2 0) t7_words c r f v

abbrev pub gcd_t7 : List ℤ → List ℤ → List ℤ → List ℤ → List ℤ → Changed GcdWords
gcd_t7 a b g f v = gcd (pos 7) (pos 1) (degrees 2 0) t7_words a b g f v

-- ---- p = 4, m_1 = z² + z + 1
abbrev pub inverse_t4 : List ℤ → List ℤ → List ℤ → List ℤ → Changed InverseWords
inverse_t4 c r f v = inverse (pos 4) (pos 1) (degrees 2 0) (plain (2 ∷ 1 ∷ 1 ∷ 1 ∷ [])) c r f v

abbrev pub times_t4 : List ℤ → List ℤ → List ℤ → List ℤ → Changed ProductWords
times_t4 a b c v = product (pos 4) (pos 1) (degrees 2 0) (plain (2 ∷ 1 ∷ 1 ∷ 1 ∷ [])) a b c v

-- ---- two levels: p = 6, m_1 = z², m_2 = y², which fall apart; and p = 7, m_1 = z² + 1, m_2 = y³ - (1 + z)y + 2
abbrev pub inverse_t62 : List ℤ → List ℤ → List ℤ → List ℤ → Changed InverseWords
inverse_t62 c r f v =
    inverse (pos 6) (pos 2) (degrees 2 2)
    (pos 2 ∷ negsuc 0 ∷ pos 0 ∷ pos 0 ∷ negsuc 0 ∷ plain (0 ∷ 0 ∷ 0 ∷ 1 ∷ 0 ∷ 2 ∷ 0 ∷ 0 ∷ 1 ∷ []))
    c r f v

abbrev pub inverse_t72 : List ℤ → List ℤ → List ℤ → List ℤ → Changed InverseWords
inverse_t72 c r f v =
    inverse (pos 7) (pos 2) (degrees 2 3)
    (plain (3 ∷ 0 ∷ 2 ∷ 0 ∷ 1 ∷ 6 ∷ 6 ∷ []) ++ (negsuc 0 ∷ plain (0 ∷ 0 ∷ 0 ∷ 1 ∷ 0 ∷ 2 ∷ 1 ∷ 0 ∷ 1 ∷ [])))
    c r f v

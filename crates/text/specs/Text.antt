-- Numbers as text, both ways. Text is a list of bytes.
--
-- is_digit, digits_of     == the digits 0 to 9; the value of digits behind digits of a value
-- magnitude_of, number_of == what text of at most so many digits is as a number
-- ends                    == both ends of the range of numbers, and the first numbers beyond them
-- decimal, word_text      == the digits of a number, no more than it needs; a word, behind a minus where it is negative
-- tab                     == the byte that parts fields
-- same_text               == two texts are the same
use Rattle.std.specs.Prelude.{ℕ, zero, suc, ◌+◌, ◌-◌, ◌*◌, ◌/◌, ◌%◌, ◌^◌, Bool, true, false, cond, ◌&&◌, List, [], ◌∷◌, ◌++◌, ◌≡◌, refl, leb, ltb, eqb, ℤ, pos, negsuc, length, Option, Some, None}

-- ---- text as a number
-- the bytes 48 to 57 are the digits 0 to 9
abbrev pub is_digit : ℕ → Bool
is_digit b = leb 48 b && leb b 57

unfoldable pub digits_of : ℕ → List ℕ → Option ℕ
digits_of n [] = Some n
digits_of n (b ∷ s) = cond (is_digit b) (digits_of (n * 10 + (b - 48)) s) None

-- the value of 1 to `most` digits
unfoldable pub magnitude_of : ℕ → List ℕ → Option ℕ
magnitude_of most s = cond (ltb 0 (length s) && leb (length s) most) (digits_of 0 s) None

-- n below zero
abbrev pub minus_of : ℕ → ℤ
minus_of zero = pos zero
minus_of (suc n) = negsuc n

abbrev pub plain_of : Option ℕ → Option ℤ
plain_of (Some n) = cond (ltb n (2 ^ 63)) (Some (pos n)) None
plain_of None = None

abbrev pub negated_of : Option ℕ → Option ℤ
negated_of (Some n) = cond (leb n (2 ^ 63)) (Some (minus_of n)) None
negated_of None = None

-- the byte 45 is the minus
abbrev pub signed_of : Bool → ℕ → ℕ → List ℕ → Option ℤ
signed_of true most b s = negated_of (magnitude_of most s)
signed_of false most b s = plain_of (magnitude_of most (b ∷ s))

-- an optional minus and 1 to `most` digits, within the signed 64 bits
unfoldable pub number_of : ℕ → List ℕ → Option ℤ
number_of most [] = None
number_of most (b ∷ s) = signed_of (eqb b 45) most b s

-- the digits of (2^63 - 8) / 10, so that 7, 8 and 9 behind them make 2^63 - 1, 2^63 and 2^63 + 1
abbrev pub tenth : List ℕ
tenth = 57 ∷ 50 ∷ 50 ∷ 51 ∷ 51 ∷ 55 ∷ 50 ∷ 48 ∷ 51 ∷ 54 ∷ 56 ∷ 53 ∷ 52 ∷ 55 ∷ 55 ∷ 53 ∷ 56 ∷ 48 ∷ []

-- both ends of the range, and the first numbers beyond them
pub ends :
    (number_of 19 (tenth ++ 55 ∷ []) ≡ Some (pos (2 ^ 63 - 1)))
    × (number_of 19 (tenth ++ 56 ∷ []) ≡ None)
    × (number_of 19 (45 ∷ tenth ++ 56 ∷ []) ≡ Some (negsuc (2 ^ 63 - 1)))
    × (number_of 19 (45 ∷ tenth ++ 57 ∷ []) ≡ None)
unfolding digits_of magnitude_of number_of
ends = (refl, refl, refl, refl)

-- ---- a number as text
-- at most k digits
unfoldable pub decimal_by : ℕ → ℕ → List ℕ
decimal_by zero n = []
decimal_by (suc k) n = cond (ltb n 10) ((48 + n) ∷ []) (decimal_by k (n / 10) ++ ((48 + n % 10) ∷ []))

-- a number below 2^64 has at most 20
abbrev pub decimal : ℕ → List ℕ
decimal n = decimal_by 20 n

abbrev pub word_text : ℤ → List ℕ
word_text (pos n) = decimal n
word_text (negsuc n) = 45 ∷ decimal (suc n)

-- ---- the same text, and what parts texts
-- "fields parted by tabs"
abbrev pub tab : ℕ
tab = 9

abbrev pub same_text : List ℕ → List ℕ → Bool
same_text [] [] = true
same_text [] (b ∷ s) = false
same_text (a ∷ r) [] = false
same_text (a ∷ r) (b ∷ s) = eqb a b && same_text r s

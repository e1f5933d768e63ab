-- The form of words: document 01's sentences about elements, slots and towers as tests on words, without the writing. They take the modulus and the
-- degrees only. That they pass exactly the writings is shown in Unique and TowerUnique.
--
-- seg a n w                == n words of w from a on
-- is_in_form p d i w       == w is an element of level i: "0 to p-1"; "The coefficient at the degree is not zero; all above it are the zero of their own level."
-- slot_form p d i k w      == w is a slot of k coefficients of level i
-- modulus_form, tower_form == w is one tower polynomial; the words of a tower of n levels
-- zero_words, one_words    == the words of 0 and of 1
use Rattle.std.specs.Prelude.{ℕ, zero, suc, ◌+◌, ◌-◌, ◌*◌, ◌≡◌, refl, Bool, true, false, not, ◌&&◌, List, [], ◌∷◌, ◌++◌, ℤ, pos, negsuc, eqb, length, get_or, take, drop}
use Rattle.std.specs.Int.Signed.{lt_z, le_z, non_neg}
use Rattle.algebra.specs.Test.{all_to}
use Rattle.tower.specs.Levels.{degree}
use Rattle.tower.specs.Writing.{size, modulus_size}

abbrev pub eq_z : ℤ → ℤ → Bool
eq_z (pos m) (pos n) = eqb m n
eq_z (pos m) (negsuc n) = false
eq_z (negsuc m) (pos n) = false
eq_z (negsuc m) (negsuc n) = eqb m n

abbrev pub same : List ℤ → List ℤ → Bool
same [] [] = true
same [] (y ∷ ys) = false
same (x ∷ xs) [] = false
same (x ∷ xs) (y ∷ ys) = eq_z x y && same xs ys

abbrev pub implies : Bool → Bool → Bool
implies true b = b
implies false b = true

-- n words from a on
abbrev pub seg : ℕ → ℕ → List ℤ → List ℤ
seg a n w = take n (drop a w)

abbrev pub copies : ℕ → List ℤ → List ℤ
copies zero l = []
copies (suc n) l = l ++ copies n l

-- the zero of level i
unfoldable pub zero_words : List ℕ → ℕ → List ℤ
zero_words d zero = pos 0 ∷ []
zero_words d (suc i) = negsuc 0 ∷ copies (degree d i) (zero_words d i)

-- 0 to p - 1
abbrev pub residue_ok : ℕ → ℤ → Bool
residue_ok p g = non_neg g && lt_z g (pos p)

-- -1 to n - 1
abbrev pub degree_ok : ℕ → ℤ → Bool
degree_ok n g = le_z (negsuc 0) g && lt_z g (pos n)

-- the coefficient at the degree is not zero; all above it are the zero of their own level
abbrev pub coefficient_ok : (List ℤ → Bool) → List ℤ → ℤ → ℕ → List ℤ → Bool
coefficient_ok good z g k b = good b && (implies (eq_z (pos k) g) (not (same b z)) && implies (lt_z g (pos k)) (same b z))

-- a degree word and n elements of s words, each of which is `good`, and whose zero is z
unfoldable pub form_over : ℕ → ℕ → List ℤ → (List ℤ → Bool) → List ℤ → Bool
form_over n s z good w =
    eqb (length w) (n * s + 1)
    && (degree_ok n (get_or w 0 (pos 0)) && all_to n (λ k. coefficient_ok good z (get_or w 0 (pos 0)) k (seg (suc (k * s)) s w)))

-- an element of level i
unfoldable pub is_in_form : ℕ → List ℕ → ℕ → List ℤ → Bool
is_in_form p d zero w = eqb (length w) 1 && residue_ok p (get_or w 0 (pos 0))
is_in_form p d (suc i) w = form_over (degree d i) (size d i) (zero_words d i) (is_in_form p d i) w

pub in_form-zero : (p : ℕ) (d : List ℕ) (w : List ℤ) → is_in_form p d 0 w ≡ (eqb (length w) 1 && residue_ok p (get_or w 0 (pos 0)))
unfolding is_in_form
in_form-zero p d w = refl

pub in_form_suc : (p : ℕ) (d : List ℕ) (i : ℕ) (w : List ℤ) → is_in_form p d (suc i) w ≡ form_over (degree d i) (size d i) (zero_words d i) (is_in_form p d i) w
unfolding is_in_form
in_form_suc p d i w = refl

-- a slot of k coefficients of level i
abbrev pub slot_form : ℕ → List ℕ → ℕ → ℕ → List ℤ → Bool
slot_form p d i k w = form_over k (size d i) (zero_words d i) (is_in_form p d i) w

-- the 1 of level i
unfoldable pub one_words : List ℕ → ℕ → List ℤ
one_words d zero = pos 1 ∷ []
one_words d (suc i) = pos 0 ∷ (one_words d i ++ copies (degree d i - 1) (zero_words d i))

-- a modulus of degree n: a degree word n and n + 1 elements of s words, the last of them 1
unfoldable pub modulus_over : ℕ → ℕ → List ℤ → (List ℤ → Bool) → List ℤ → Bool
modulus_over n s one good w =
    eqb (length w) (n * s + 1 + s)
    && (eq_z (get_or w 0 (pos 0)) (pos n)
    && (all_to (suc n) (λ k. good (seg (suc (k * s)) s w)) && same (seg (suc (n * s)) s w) one))

-- m_(i+1), over level i
abbrev pub modulus_form : ℕ → List ℕ → ℕ → List ℤ → Bool
modulus_form p d i w = modulus_over (degree d i) (size d i) (one_words d i) (is_in_form p d i) w

-- the topmost m first; none for no level
unfoldable pub tower_form : ℕ → List ℕ → ℕ → List ℤ → Bool
tower_form p d zero w = eqb (length w) 0
tower_form p d (suc i) w = modulus_form p d i (take (modulus_size d i) w) && tower_form p d i (drop (modulus_size d i) w)

pub tower_form_suc : (p : ℕ) (d : List ℕ) (i : ℕ) (w : List ℤ) → tower_form p d (suc i) w ≡ (modulus_form p d i (take (modulus_size d i) w) && tower_form p d i (drop (modulus_size d i) w))
unfolding tower_form
tower_form_suc p d i w = refl

-- Words as text, by form: each behind a tab, degree words and residues by what they are.
--
-- degree_at                 == whether a word of an element is a degree word
-- residue_text, degree_text == the text of each
-- form_text                 == the first n words of an element; a slot is printed as an element of one level more
-- element_text, slot_text   == an element; the shortest slot that holds what a slot holds
-- factor_text               == the words of a shown factor
-- DegreeTold, FormReady, FormPut == what the program's functions ask for and give
use Rattle.std.specs.Prelude.{ℕ, zero, suc, ◌+◌, ◌*◌, ◌%◌, ◌≤◌, max, Bool, true, false, List, [], ◌∷◌, ◌++◌, ◌≡◌, ℤ, pos, length, get_or}
use Rattle.tower.specs.Ready.{Sized}
use Rattle.tower.specs.Writing.{size, degree_count}
use Rattle.text.specs.Appending.{Appended}
use Rattle.text.specs.Text.{tab, word_text}

-- the k-th word of an element of level i over the degrees d: its own degree word, or a word of one of its coefficients
unfoldable pub degree_at : List ℕ → ℕ → ℕ → Bool
degree_at d zero k = false
degree_at d (suc i) zero = true
degree_at d (suc i) (suc k) = degree_at d i (k % size d i)

abbrev pub residue_text : ℤ → List ℕ
residue_text w = tab ∷ word_text w

abbrev pub degree_text : ℤ → List ℕ
degree_text w = tab ∷ word_text w

abbrev pub place_text : Bool → ℤ → List ℕ
place_text true w = degree_text w
place_text false w = residue_text w

-- the first n words of x, which has the form of an element of level i
unfoldable pub form_text : List ℕ → ℕ → List ℤ → ℕ → List ℕ
form_text d i x zero = []
form_text d i x (suc n) = form_text d i x n ++ place_text (degree_at d i n) (get_or x n (pos 0))

-- an element of level i
abbrev pub element_text : List ℕ → ℕ → List ℤ → List ℕ
element_text d i x = form_text d i x (size d i)

-- the words of the shortest slot that holds what the slot x holds: up to its degree, and at least one coefficient
abbrev pub shortest : List ℕ → ℕ → List ℤ → ℕ
shortest d i x = 1 + max 1 (degree_count x) * size d i

abbrev pub slot_text : List ℕ → ℕ → List ℤ → List ℕ
slot_text d i x = form_text d (suc i) x (shortest d i x)

-- a factor at level 0 is a number, and is printed as it is
abbrev pub factor_text : List ℕ → ℕ → List ℤ → List ℕ
factor_text d zero x = degree_text (get_or x 0 (pos 0))
factor_text d (suc j) x = element_text d (suc j) x

-- ---- the parts of the program; z holds the sizes of some degrees
pub record DegreeTold (z : List ℕ) (i k : ℕ) (r : Bool) : Type 0 where
  pub is : (d : List ℕ) → Sized d z → r ≡ degree_at d i k

-- a word takes at most 21 bytes
pub record FormReady (i n held : ℕ) (z : List ℕ) (x : List ℤ) (out : List ℕ) : Type 0 where
  pub low : i ≤ 5
  pub inside : n ≤ length x
  pub room : held + 21 * n ≤ length out
  pub d : List ℕ
  pub sized : Sized d z

pub record FormPut (i n held : ℕ) (z : List ℕ) (x : List ℤ) (out out' : List ℕ) (r : ℕ) : Type 0 where
  pub puts : (d : List ℕ) → Sized d z → Appended held (form_text d i x n) out out' r

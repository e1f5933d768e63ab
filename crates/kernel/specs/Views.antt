-- The leading view: "the block of words of the leading coefficient of whichever has the higher degree, of a when they are equal, shown as the part of that lent
-- slot itself. When any of 1 to 5 applies, or both are zero, it is an empty part; this call hands out no number."
--
-- view_table, view_number == the tests in the order of their numbers, and the number that they give
-- Part, leading_part      == a part of a or of b: which slot, where it starts and how many words it has
-- top_words               == the words of a slot's leading coefficient;  part_words == those of a part;  leading_view == those that the call shows
use Rattle.std.specs.Prelude.{ℕ, zero, suc, ◌*◌, Bool, true, false, ◌&&◌, List, [], ◌∷◌, ◌++◌, ℤ, ltb}
use Rattle.tower.specs.Form.{seg}
use Rattle.kernel.specs.Calls.{size_of, length_ok, tower_table}
use Rattle.kernel.specs.Refusals.{bad_length, Table, first}
use Rattle.kernel.specs.Slots.{degree_count, forms_row}

abbrev pub view_table : (p n : ℤ) (e t a b : List ℤ) → Table
view_table p n e t a b = tower_table p n e t ++ ((bad_length, λ _. length_ok n e a && length_ok n e b) ∷ forms_row p n e a b ∷ [])

unfoldable pub view_number : (p n : ℤ) (e t a b : List ℤ) → ℕ
view_number p n e t a b = first (view_table p n e t a b)

-- of b where second, and else of a
pub record Part : Type 0 where
  pub second : Bool
  pub start : ℕ
  pub count : ℕ

-- the leading coefficient, of s words, in a slot whose degree word counts k coefficients: where it starts, and its words; none in zero
abbrev pub top_start : ℕ → ℕ → ℕ
top_start s zero = 0
top_start s (suc k) = suc (k * s)

abbrev pub top_count : ℕ → ℕ → ℕ
top_count s zero = 0
top_count s (suc k) = s

abbrev pub top_part : Bool → ℕ → ℕ → Part
top_part second s k = record { second = second; start = top_start s k; count = top_count s k }

abbrev pub top_words : ℕ → List ℤ → List ℤ
top_words s x = seg (top_start s (degree_count x)) (top_count s (degree_count x)) x

-- b's where it has the higher degree
abbrev pub higher_part : Bool → ℕ → ℕ → ℕ → Part
higher_part true s k l = top_part true s l
higher_part false s k l = top_part false s k

-- empty beside a number
abbrev pub part_by : ℕ → Part → Part
part_by zero part = part
part_by (suc k) part = record { second = false; start = 0; count = 0 }

abbrev pub leading_part : (p n : ℤ) (e t a b : List ℤ) → Part
leading_part p n e t a b =
    part_by (view_number p n e t a b) (higher_part (ltb (degree_count a) (degree_count b)) (size_of n e) (degree_count a) (degree_count b))

abbrev pub part_of : Bool → List ℤ → List ℤ → List ℤ
part_of true a b = b
part_of false a b = a

abbrev pub part_words : Part → List ℤ → List ℤ → List ℤ
part_words part a b = seg part.start part.count (part_of part.second a b)

abbrev pub leading_view : (p n : ℤ) (e t a b : List ℤ) → List ℤ
leading_view p n e t a b = part_words (leading_part p n e t a b) a b

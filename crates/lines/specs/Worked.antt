-- Whole inputs and what is printed for them, computed: the lines of an input, document 01's worked input, and what it says of single lines.
--
-- text            == lines as bytes, a line end behind each
-- Lines, in_lines == how an input falls into lines, and its proof
-- Worked, worked  == inputs with their answers, and the proof
use Rattle.std.specs.Prelude.{ℕ, List, [], ◌∷◌, ◌++◌, ◌≡◌, refl}
use Prim.Native.String.{String}
use Rattle.algebra.specs.Divide.{divide}
use Rattle.algebra.specs.Quotient.{mulᵛ, oneᵛ, residue}
use Rattle.algebra.specs.Series.{◌*ˢ◌}
use Rattle.euclid.specs.Gcd.{make, start, gcd_with}
use Rattle.euclid.specs.Inverse.{inverse as inverse-of}
use Rattle.euclid.specs.Number.{rows, inverse₀}
use Rattle.euclid.specs.Sequence.{seq}
use Rattle.euclid.specs.Shown.{shown_words}
use Rattle.tower.specs.Writing.{size, read, reads, write, writes, tower_of}
use Rattle.tower.specs.Form.{zero_words, form_over, is_in_form, one_words, modulus_over, tower_form}
use Rattle.tower.specs.Limits.{slot_length}
use Rattle.tower.specs.Work.{product_work, inverse_work, gcd_work}
use Rattle.kernel.specs.Calls.{shape_number}
use Rattle.kernel.specs.Products.{product_number, product_words}
use Rattle.kernel.specs.Divisions.{division_number, remainder_words, quotient_words}
use Rattle.kernel.specs.Inverses.{inverse_number, inverse_words}
use Rattle.kernel.specs.Gcds.{gcd_number, gcd_words}
use Rattle.text.specs.Fields.{fields_of, words_from}
use Rattle.text.specs.Text.{number_of, magnitude_of, digits_of, decimal_by}
use Rattle.lines.specs.Names.{line_end}
use Rattle.lines.specs.Printing.{degree_at, form_text}
use Rattle.lines.specs.Reading.{meaning_of}
use Rattle.lines.specs.ReadingFigures.{bytes}
use Rattle.lines.specs.Steps.{lines_of, run, answers}

-- lines as bytes, a line end behind each
abbrev pub text : List String → List ℕ
text [] = []
text (l ∷ ls) = bytes l ++ (line_end ∷ text ls)

-- ---- how an input falls into lines: "a last line needs no line end"
pub record Lines : Type 0 where
  pub empty_input : lines_of (bytes "") ≡ []
  pub one_end : lines_of (bytes "\n") ≡ bytes "" ∷ []
  pub two_ends : lines_of (bytes "\n\n") ≡ bytes "" ∷ bytes "" ∷ []
  pub last_open : lines_of (bytes "inv\ta\nmul") ≡ bytes "inv\ta" ∷ bytes "mul" ∷ []
  pub last_ended : lines_of (bytes "inv\ta\nmul\n") ≡ bytes "inv\ta" ∷ bytes "mul" ∷ []
  pub last_empty : lines_of (bytes "inv\ta\n\n") ≡ bytes "inv\ta" ∷ bytes "" ∷ []

pub in_lines : Lines
unfolding lines_of
in_lines = record { empty_input = refl; one_end = refl; two_ends = refl; last_open = refl; last_ended = refl; last_empty = refl }

-- ---- inputs with their answers
pub record Worked : Type 0 where
  -- document 01's worked input, and its output
  pub document : answers (text ("field\t7" ∷ "ext\t2\t5\t0\t1" ∷ "poly\ta\t2\t0\t5\t0\t-1\t0\t0\t0\t1\t0" ∷ "poly\tb\t1\t1\t0\t6\t0\t1\t0" ∷ "gcd\ta\tb" ∷ "div\ta\tb" ∷ "poly\ta\t1\t3\t1" ∷ "inv\ta" ∷ []))
      ≡ text ("gcd\tok\t1\t1\t0\t6\t0\t1\t0" ∷ "div\tok\t1\t1\t0\t1\t0\t1\t0\trem\t-1\t-1\t0\t0" ∷ "inv\tfactor\t1\t1\t3\t1" ∷ [])
  -- "An operation that lacks field or an operand it needs prints its name and `missing` only"
  pub no_field : answers (text ("gcd\ta\tb" ∷ "div\ta\tb" ∷ "mul\ta\tb" ∷ "inv\ta" ∷ []))
      ≡ text ("gcd\tmissing" ∷ "div\tmissing" ∷ "mul\tmissing" ∷ "inv\tmissing" ∷ [])
  pub only_a : answers (text ("field\t7" ∷ "poly\ta\t5" ∷ "gcd\ta\tb" ∷ "div\ta\tb" ∷ "mul\ta\tb" ∷ "inv\ta" ∷ []))
      ≡ text ("gcd\tmissing" ∷ "div\tmissing" ∷ "mul\tmissing" ∷ "inv\tok\t3" ∷ [])
  pub only_b : answers (text ("field\t7" ∷ "poly\tb\t5" ∷ "gcd\ta\tb" ∷ "div\ta\tb" ∷ "mul\ta\tb" ∷ "inv\ta" ∷ []))
      ≡ text ("gcd\tmissing" ∷ "div\tmissing" ∷ "mul\tmissing" ∷ "inv\tmissing" ∷ [])
  -- "`field` p starts afresh"; `ext` "drops a and b"
  pub afresh : answers (text ("field\t7" ∷ "poly\ta\t5" ∷ "field\t7" ∷ "inv\ta" ∷ [])) ≡ text ("inv\tmissing" ∷ [])
  pub dropped : answers (text ("field\t7" ∷ "poly\ta\t5" ∷ "poly\tb\t0\t5" ∷ "ext\t2\t5\t0\t1" ∷ "gcd\ta\tb" ∷ "inv\ta" ∷ []))
      ≡ text ("gcd\tmissing" ∷ "inv\tmissing" ∷ [])
  -- "`ext` and `poly` .. need a field before them, and a fifth `ext` is unreadable"
  pub before_field : answers (text ("poly\ta\t5" ∷ "poly\tb\t5" ∷ "ext\t2\t5\t0\t1" ∷ "inv\ta" ∷ []))
      ≡ text ("unreadable\t1" ∷ "unreadable\t2" ∷ "unreadable\t3" ∷ "inv\tmissing" ∷ [])
  pub fifth : answers (text ("field\t7" ∷ "ext\t2" ∷ "ext\t2" ∷ "ext\t2" ∷ "ext\t2" ∷ "ext\t2" ∷ [])) ≡ text ("unreadable\t6" ∷ [])
  -- "Other lines, empty ones too, print `unreadable` and their number from 1, and change nothing"
  pub unchanged : answers (text ("field\t7" ∷ "poly\ta\t5" ∷ "" ∷ "poly\ta\t" ∷ "field" ∷ "inv\ta" ∷ []))
      ≡ text ("unreadable\t3" ∷ "unreadable\t4" ∷ "unreadable\t5" ∷ "inv\tok\t3" ∷ [])
  -- "The operands stay as given."
  pub stay : answers (text ("field\t7" ∷ "poly\ta\t1\t6\t1" ∷ "poly\tb\t1\t1\t1" ∷ "div\ta\tb" ∷ "mul\ta\tb" ∷ "gcd\ta\tb" ∷ "div\ta\tb" ∷ []))
      ≡ text ("div\tok\t0\t1\trem\t0\t5" ∷ "mul\tok\t2\t6\t0\t1" ∷ "gcd\tok\t0\t1" ∷ "div\tok\t0\t1\trem\t0\t5" ∷ [])
  -- a factor at level 0, and refusals
  pub at_zero : answers (text ("field\t6" ∷ "poly\ta\t4" ∷ "inv\ta" ∷ [])) ≡ text ("inv\tfactor\t0\t2" ∷ [])
  pub refusals : answers (text ("field\t1" ∷ "poly\ta\t5" ∷ "inv\ta" ∷ "field\t7" ∷ "poly\ta\t0" ∷ "inv\ta" ∷ []))
      ≡ text ("inv\trefused\t1" ∷ "inv\trefused\t9" ∷ [])

pub worked : Worked
unfolding meaning_of fields_of words_from number_of magnitude_of digits_of decimal_by lines_of run degree_at form_text shape_number
    size zero_words form_over is_in_form one_words modulus_over tower_form slot_length product_work inverse_work gcd_work read reads write writes tower_of
    product_number product_words division_number remainder_words quotient_words inverse_number inverse_words gcd_number gcd_words shown_words
    gcd_with make start inverse-of inverse₀ rows seq divide mulᵛ oneᵛ residue ◌*ˢ◌
worked = record {
  document = refl;
  no_field = refl;
  only_a = refl;
  only_b = refl;
  afresh = refl;
  dropped = refl;
  before_field = refl;
  fifth = refl;
  unchanged = refl;
  stay = refl;
  at_zero = refl;
  refusals = refl;
}

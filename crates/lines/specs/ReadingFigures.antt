-- What lines say, computed: document 01's worked case, and lines at the edges of what is readable.
--
-- bytes, says      == a quoted text as bytes, each character one byte; what such a line says
-- ext_ones         == what `ext` and n words say
-- Figures, figures == the table, and its proof
use Rattle.std.specs.Prelude.{ℕ, zero, suc, List, [], ◌∷◌, ◌++◌, ◌≡◌, refl, ℤ, pos, negsuc, replicate}
use Prim.Native.Char.{code}
use Prim.Native.String.{String, [] as empty, ◌∷◌ as ◌then◌}
use Rattle.text.specs.Fields.{fields_of, words_from}
use Rattle.text.specs.Text.{number_of, magnitude_of, digits_of}
use Rattle.lines.specs.Reading.{Meaning, unreadable, field, ext, first, second, gcd, div, mul, inv, meaning_of}

-- a quoted text as bytes
abbrev pub bytes : String → List ℕ
bytes empty = []
bytes (c then s) = code c ∷ bytes s

-- what it says as a line
abbrev pub says : String → Meaning
says s = meaning_of (bytes s)

-- n times a tab and the word 1
abbrev pub ones : ℕ → List ℕ
ones zero = []
ones (suc n) = bytes "\t1" ++ ones n

-- what `ext` and n words say
abbrev pub ext_ones : ℕ → Meaning
ext_ones n = meaning_of (bytes "ext" ++ ones n)

-- words that are not negative
abbrev pub plain : List ℕ → List ℤ
plain [] = []
plain (n ∷ l) = pos n ∷ plain l

pub record Figures : Type 0 where
  -- the worked case, line by line; and mul
  pub worked_1 : says "field\t7" ≡ field (pos 7)
  pub worked_2 : says "ext\t2\t5\t0\t1" ≡ ext (plain (2 ∷ 5 ∷ 0 ∷ 1 ∷ []))
  pub worked_3 : says "poly\ta\t2\t0\t5\t0\t-1\t0\t0\t0\t1\t0" ≡ first (plain (2 ∷ 0 ∷ 5 ∷ 0 ∷ []) ++ (negsuc 0 ∷ plain (0 ∷ 0 ∷ 0 ∷ 1 ∷ 0 ∷ [])))
  pub worked_4 : says "poly\tb\t1\t1\t0\t6\t0\t1\t0" ≡ second (plain (1 ∷ 1 ∷ 0 ∷ 6 ∷ 0 ∷ 1 ∷ 0 ∷ []))
  pub worked_5 : says "gcd\ta\tb" ≡ gcd
  pub worked_6 : says "div\ta\tb" ≡ div
  pub worked_7 : says "poly\ta\t1\t3\t1" ≡ first (plain (1 ∷ 3 ∷ 1 ∷ []))
  pub worked_8 : says "inv\ta" ≡ inv
  pub product : says "mul\ta\tb" ≡ mul
  -- "Other lines, empty ones too"
  pub empty_line : says "" ≡ unreadable
  pub only_tab : says "\t" ≡ unreadable
  pub other_name : says "Field\t7" ≡ unreadable
  pub name_behind_tab : says "\tfield\t7" ≡ unreadable
  pub no_tab : says "field 7" ≡ unreadable
  -- `field` and one number
  pub field_alone : says "field" ≡ unreadable
  pub field_empty : says "field\t" ≡ unreadable
  pub field_two : says "field\t7\t8" ≡ unreadable
  pub field_tab : says "field\t7\t" ≡ unreadable
  -- "`ext` and `poly` carry at least one word"
  pub ext_alone : says "ext" ≡ unreadable
  pub ext_empty : says "ext\t" ≡ unreadable
  pub poly_alone : says "poly\ta" ≡ unreadable
  pub poly_empty : says "poly\tb\t" ≡ unreadable
  pub poly_other : says "poly\tc\t1" ≡ unreadable
  pub poly_tab : says "poly\ta\t1\t" ≡ unreadable
  -- "a and b in that order, or `inv` with a"
  pub gcd_turned : says "gcd\tb\ta" ≡ unreadable
  pub gcd_one : says "gcd\ta" ≡ unreadable
  pub gcd_tab : says "gcd\ta\tb\t" ≡ unreadable
  pub inv_two : says "inv\ta\tb" ≡ unreadable
  pub inv_other : says "inv\tb" ≡ unreadable
  -- "A number is an optional minus and 1 to 10 digits"
  pub ten_digits : says "field\t-9999999999" ≡ field (negsuc 9999999998)
  pub eleven_digits : says "field\t10000000000" ≡ unreadable
  pub eleven_zeros : says "field\t00000000007" ≡ unreadable
  pub minus_zero : says "field\t-0" ≡ field (pos 0)
  pub leading_zeros : says "ext\t007" ≡ ext (plain (7 ∷ []))
  pub minus_alone : says "ext\t-" ≡ unreadable
  pub two_minus : says "ext\t--1" ≡ unreadable
  pub plus : says "ext\t+1" ≡ unreadable
  pub space : says "ext\t 1" ≡ unreadable
  pub return : says "field\t7\r" ≡ unreadable
  -- "carries at most 512 words"
  pub most_words : ext_ones 512 ≡ ext (replicate 512 (pos 1))
  pub too_many_words : ext_ones 513 ≡ unreadable

pub figures : Figures
unfolding meaning_of fields_of words_from number_of magnitude_of digits_of
figures = record {
  worked_1 = refl;
  worked_2 = refl;
  worked_3 = refl;
  worked_4 = refl;
  worked_5 = refl;
  worked_6 = refl;
  worked_7 = refl;
  worked_8 = refl;
  product = refl;
  empty_line = refl;
  only_tab = refl;
  other_name = refl;
  name_behind_tab = refl;
  no_tab = refl;
  field_alone = refl;
  field_empty = refl;
  field_two = refl;
  field_tab = refl;
  ext_alone = refl;
  ext_empty = refl;
  poly_alone = refl;
  poly_empty = refl;
  poly_other = refl;
  poly_tab = refl;
  gcd_turned = refl;
  gcd_one = refl;
  gcd_tab = refl;
  inv_two = refl;
  inv_other = refl;
  ten_digits = refl;
  eleven_digits = refl;
  eleven_zeros = refl;
  minus_zero = refl;
  leading_zeros = refl;
  minus_alone = refl;
  two_minus = refl;
  plus = refl;
  space = refl;
  return = refl;
  most_words = refl;
  too_many_words = refl;
}

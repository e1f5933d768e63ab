-- What a line says by itself, from its bytes.
--
-- Meaning             == what a line says
-- meaning_of          == what the bytes of a line say
-- meant, Carried      == what the program's line says with the words of its store, and how many they are
-- said, Carries       == so where it may be unreadable
-- Says, OperationSaid == what the program's functions give
use Rattle.std.specs.Prelude.{ℕ, ◌≤◌, Bool, true, false, cond, List, [], ◌∷◌, ◌≡◌, leb, ℤ, length, take, Option, Some, None}
use Rattle.text.specs.Fields.{fields_of, most_bytes, most_words, words_of}
use Rattle.text.specs.Text.{same_text}
use Rattle.lines.specs.declared.Line.{Line}
use Rattle.lines.specs.declared.Line.TheVariants.{Field, Ext, First, Second, Gcd, Div, Mul, Inv}
use Rattle.lines.specs.Names.{name_field, name_ext, name_poly, name_a, name_b, name_gcd, name_div, name_mul, name_inv}

-- ---- what a line says
pub data Meaning : Type 0 where
  unreadable : Meaning
  field : ℤ → Meaning
  ext : List ℤ → Meaning
  first : List ℤ → Meaning
  second : List ℤ → Meaning
  gcd : Meaning
  div : Meaning
  mul : Meaning
  inv : Meaning

-- ---- the lines
-- `field` p
abbrev pub field_says : List ℤ → Meaning
field_says [] = unreadable
field_says (p ∷ []) = field p
field_says (p ∷ (x ∷ w)) = unreadable

-- "`ext` and `poly` carry at least one word"
abbrev pub ext_says : List ℤ → Meaning
ext_says [] = unreadable
ext_says (x ∷ w) = ext (x ∷ w)

abbrev pub named_says : Bool → Bool → List ℤ → Meaning
named_says a b [] = unreadable
named_says true b (x ∷ w) = first (x ∷ w)
named_says false true (x ∷ w) = second (x ∷ w)
named_says false false (x ∷ w) = unreadable

-- "`poly`, a or b, and words"
abbrev pub poly_says : List (List ℕ) → Meaning
poly_says [] = unreadable
poly_says (name ∷ fs) = named_says (same_text name name_a) (same_text name name_b) (words_of fs)

-- "`gcd`, `div` or `mul` with a and b in that order, or `inv` with a"
abbrev pub with_two : List ℕ → Meaning
with_two name = cond (same_text name name_gcd) gcd (cond (same_text name name_div) div (cond (same_text name name_mul) mul unreadable))

abbrev pub with_one : List ℕ → Meaning
with_one name = cond (same_text name name_inv) inv unreadable

abbrev pub operation_says : List ℕ → List (List ℕ) → Meaning
operation_says name [] = unreadable
operation_says name (f ∷ []) = cond (same_text f name_a) (with_one name) unreadable
operation_says name (f ∷ (g ∷ [])) = cond (same_text f name_a) (cond (same_text g name_b) (with_two name) unreadable) unreadable
operation_says name (f ∷ (g ∷ (h ∷ fs))) = unreadable

abbrev pub fields_say : List (List ℕ) → Meaning
fields_say [] = unreadable
fields_say (name ∷ fs) =
    cond (same_text name name_field) (field_says (words_of fs))
    (cond (same_text name name_ext) (ext_says (words_of fs)) (cond (same_text name name_poly) (poly_says fs) (operation_says name fs)))

-- "a line has at most 8,192 bytes, its line end (byte 10) not counted"
unfoldable pub meaning_of : List ℕ → Meaning
meaning_of s = cond (leb (length s) most_bytes) (fields_say (fields_of s)) unreadable

-- ---- the program's line, whose words are the first of a store
abbrev pub meant : Line → List ℤ → Meaning
meant (Field p) w = field p
meant (Ext n) w = ext (take n w)
meant (First n) w = first (take n w)
meant (Second n) w = second (take n w)
meant Gcd w = gcd
meant Div w = div
meant Mul w = mul
meant Inv w = inv

-- the words that it carries: at least one and at most 512
abbrev pub Carried : Line → Type 0
Carried (Ext n) = (1 ≤ n) × (n ≤ most_words)
Carried (First n) = (1 ≤ n) × (n ≤ most_words)
Carried (Second n) = (1 ≤ n) × (n ≤ most_words)
Carried (Field p) = Unit {0}
Carried Gcd = Unit {0}
Carried Div = Unit {0}
Carried Mul = Unit {0}
Carried Inv = Unit {0}

-- none where it is unreadable
abbrev pub said : Option Line → List ℤ → Meaning
said None w = unreadable
said (Some line) w = meant line w

abbrev pub Carries : Option Line → Type 0
Carries None = Unit {0}
Carries (Some line) = Carried line

-- ---- the parts of the program
-- a line of the program means this
pub record Says (line : Option Line) (w : List ℤ) (m : Meaning) : Type 0 where
  pub carried : Carries line
  pub means : said line w ≡ m

-- an operation carries no words
pub record OperationSaid (line : Option Line) (name : List ℕ) (fs : List (List ℕ)) : Type 0 where
  pub says : (w : List ℤ) → Says line w (operation_says name fs)

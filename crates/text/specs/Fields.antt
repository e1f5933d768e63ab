-- The fields of a line and the numbers that they are.
--
-- before, fields_of    == the fields, parted at every tab
-- words_from, words_of == the numbers of fields: "carries at most 512 words"
-- fields_at            == the fields from a place on
-- Ends, FirstWords, WordsRead == what the program's functions give
use Rattle.std.specs.Prelude.{ℕ, suc, ◌-◌, ◌<◌, ◌≤◌, cond, List, [], ◌∷◌, ◌++◌, ◌≡◌, ltb, eqb, ℤ, length, take, drop, Option, Some, None}
use Rattle.text.specs.Text.{tab, number_of}

-- ---- fields
-- a byte in front of the first of some texts
abbrev pub before : ℕ → List (List ℕ) → List (List ℕ)
before b [] = (b ∷ []) ∷ []
before b (f ∷ fs) = (b ∷ f) ∷ fs

-- an empty field is a field
unfoldable pub fields_of : List ℕ → List (List ℕ)
fields_of [] = [] ∷ []
fields_of (b ∷ s) = let rest = fields_of s in cond (eqb b tab) ([] ∷ rest) (before b rest)

-- the fields from the place `from` of a line on
abbrev pub fields_at : List ℕ → ℕ → List (List ℕ)
fields_at s from = fields_of (drop from s)

-- ---- words
-- "a line has at most 8,192 bytes, its line end (byte 10) not counted"
abbrev pub most_bytes : ℕ
most_bytes = 8192

-- "a line .. carries at most 512 words"
abbrev pub most_words : ℕ
most_words = 512

-- "A number is an optional minus and 1 to 10 digits"
abbrev pub most_digits : ℕ
most_digits = 10

-- a number more behind those in w, and then the rest
abbrev pub word_then : Option ℤ → List ℤ → (List ℤ → List ℤ) → List ℤ
word_then (Some x) w rest = cond (ltb (length w) most_words) (rest (w ++ (x ∷ []))) []
word_then None w rest = []

-- the numbers of the fields behind those in w; none where a field is no number, or there are too many
unfoldable pub words_from : List ℤ → List (List ℕ) → List ℤ
words_from w [] = w
words_from w (f ∷ fs) = word_then (number_of most_digits f) w (λ more. words_from more fs)

-- all of them
abbrev pub words_of : List (List ℕ) → List ℤ
words_of fs = words_from [] fs

-- ---- the parts of the program
-- the field that begins at `from` ends at r: with the line, or in front of a tab and the other fields
pub record Ends (s : List ℕ) (from r : ℕ) : Type 0 where
  pub low : from ≤ r
  pub high : r ≤ length s
  pub last : r ≡ length s → fields_at s from ≡ drop from s ∷ []
  pub more : r < length s → fields_at s from ≡ take (r - from) (drop from s) ∷ fields_at s (suc r)

-- the words of fields are the first n of a store
pub record FirstWords (w : List ℤ) (n : ℕ) (fs : List (List ℕ)) : Type 0 where
  pub some : 0 < n
  pub few : n ≤ most_words
  pub words : take n w ≡ words_of fs
  pub count : n ≡ length (words_of fs)

-- what was read of fields: their words, or none
abbrev pub WordsRead : List ℤ → Option ℕ → List (List ℕ) → Type 0
WordsRead w (Some n) fs = FirstWords w n fs
WordsRead w None fs = words_of fs ≡ []

-- What is printed, read again: words that are printed by form are the fields of a line, and it is read as these words.
--
-- no_line_end == no line end stands in a printed word
-- form_fields == the fields of words that are printed are their texts
-- form_short  == n words of at most 10 digits take at most 12 times n bytes
-- form_again  == words that are printed, behind `poly` and a, are read as these words
use Rattle.std.specs.Prelude.{◌≡◌, refl, Bool, true, false, ℕ, zero, suc, ◌*◌, ◌≤◌, ℤ, pos, length, get_or, take}
use Rattle.std.proofs.Common.{sym, ap, ap₂, ◌∙◌, ⊎_elim, arith, le-leb, length-append, take-suc, length-take-le}
use mathlib.Core.List.{List, [], ◌∷◌, ◌++◌, map, map-append, append_assoc, append-nil, Memᴰ}
use Rattle.text.specs.Fields.{fields_of, most_bytes, most_words}
use Rattle.text.specs.Text.{tab, word_text}
use Rattle.text.specs.Written.{word_bytes, no_tab, parted, one_field, Short, AllShort, short_text, words_again}
use Rattle.lines.specs.Names.{line_end, name_poly, name_a}
use Rattle.lines.specs.Printing.{place_text, degree_at, form_text}
use Rattle.lines.specs.Reading.{first, named_says, fields_say, meaning_of}

pub no_line_end : (w : ℤ) → Memᴰ line_end (word_text w) → ⊥
no_line_end w m = ⊎_elim (λ e. omega arith) (λ h. omega arith) (word_bytes w line_end m)

-- ---- words that are printed
pub form-none : (d : List ℕ) (i : ℕ) (x : List ℤ) → form_text d i x 0 ≡ []
unfolding form_text
form-none d i x = refl

pub form_more : (d : List ℕ) (i : ℕ) (x : List ℤ) (n : ℕ) → form_text d i x (suc n) ≡ form_text d i x n ++ place_text (degree_at d i n) (get_or x n (pos 0))
unfolding form_text
form_more d i x n = refl

place_is : (t : Bool) (w : ℤ) → place_text t w ≡ tab ∷ word_text w
place_is true w = refl
place_is false w = refl

-- behind s stand the texts of the words
pub form_fields : (d : List ℕ) (i : ℕ) (x : List ℤ) (n : ℕ) (s : List ℕ) → n ≤ length x
    → fields_of (s ++ form_text d i x n) ≡ fields_of s ++ map word_text (take n x)
form_fields d i x zero s h = rw (form-none d i x, append-nil s) (sym (append-nil (fields_of s)))
form_fields d i x (suc n) s h =
    let w = get_or x n (pos 0) in
    ap (λ t. fields_of (s ++ t)) (form_more d i x n ∙ ap (λ t. form_text d i x n ++ t) (place_is (degree_at d i n) w))
    ∙ ap fields_of (sym (append_assoc s (form_text d i x n) (tab ∷ word_text w)))
    ∙ parted (s ++ form_text d i x n) (word_text w)
    ∙ ap₂ ◌++◌ (form_fields d i x n s (omega arith)) (one_field (word_text w) (no_tab w))
    ∙ append_assoc (fields_of s) (map word_text (take n x)) (word_text w ∷ [])
    ∙ ap (λ t. fields_of s ++ t) (sym (map-append word_text (take n x) (w ∷ [])) ∙ ap (map word_text) (sym (take-suc x n (pos 0) h)))

-- ---- and read again
short_parts : (l m : List ℤ) → AllShort (l ++ m) → AllShort l × AllShort m
short_parts [] m h = (tt, h)
short_parts (w ∷ l) m h = let rest = short_parts l m h.1 in ((h.0, rest.0), rest.1)

-- a tab, a minus and 10 digits
place_short : (t : Bool) (w : ℤ) → Short w → length (place_text t w) ≤ 12
place_short t w h = rw (place_is t w) (omega (arith, short_text w h))

form_short : (d : List ℕ) (i : ℕ) (x : List ℤ) (n : ℕ) → n ≤ length x → AllShort (take n x) → length (form_text d i x n) ≤ 12 * n
form_short d i x zero h s = rw (form-none d i x) (omega arith)
form_short d i x (suc n) h s =
    let w = get_or x n (pos 0) in
    let parts = short_parts (take n x) (w ∷ []) (rw (take-suc x n (pos 0) h) at s) in
    let text = place_text (degree_at d i n) w in
    rw (form_more d i x n)
    (omega (arith, length-append (form_text d i x n) text, form_short d i x n (omega arith) parts.0, place_short (degree_at d i n) w parts.1.0))

-- `poly`, a and printed words
abbrev pub poly_line : List ℕ → List ℕ
poly_line text = name_poly ++ (tab ∷ (name_a ++ text))

pub named_first : (b : Bool) (l : List ℤ) → (length l ≡ 0 → ⊥) → named_says true b l ≡ first l
named_first b [] h = absurd (h refl)
named_first b (x ∷ l) h = refl

pub short_line : (s : List ℕ) → length s ≤ most_bytes → meaning_of s ≡ fields_say (fields_of s)
unfolding meaning_of
short_line s h = simp (le-leb (length s) most_bytes h)

poly_fields : fields_of (name_poly ++ (tab ∷ name_a)) ≡ name_poly ∷ (name_a ∷ [])
unfolding fields_of
poly_fields = refl

-- the first n words of x, printed by form, are read as these words
pub form_again : (d : List ℕ) (i : ℕ) (x : List ℤ) (n : ℕ) → n ≤ length x → 1 ≤ n → n ≤ most_words → AllShort (take n x)
    → meaning_of (poly_line (form_text d i x n)) ≡ first (take n x)
form_again d i x n inside some few short =
    let many : length (take n x) ≡ n = length-take-le n x inside in
    short_line (poly_line (form_text d i x n)) (omega (arith, form_short d i x n inside short, length-append name_poly (tab ∷ (name_a ++ form_text d i x n))))
    ∙ ap fields_say (form_fields d i x n (name_poly ++ (tab ∷ name_a)) inside ∙ ap (λ t. t ++ map word_text (take n x)) poly_fields)
    ∙ ap (named_says true false) (words_again (take n x) short (omega arith))
    ∙ named_first false (take n x) (λ z. omega arith)

-- What a line comes to: what is printed, and what is kept.
--
-- State, nothing == what is kept between lines
-- allowed        == a line that what is kept does not allow is unreadable
-- after          == what is kept after a line
-- lent_element, slot_words, lent == the lists that an operation lends
-- printed                == what is printed for a line
-- lines_of, run, answers == the lines of an input, and what is printed for them
use Rattle.std.specs.Prelude.{ℕ, suc, ◌+◌, ◌-◌, ◌*◌, ◌/◌, min, Bool, true, false, cond, ◌&&◌, List, [], ◌∷◌, ◌++◌, eqb, ltb, ℤ, pos, length, get_or, set}
use Rattle.tower.specs.Form.{copies}
use Rattle.kernel.specs.Calls.{size_of, shape_number}
use Rattle.text.specs.Fields.{before}
use Rattle.text.specs.Text.{tab, decimal}
use Rattle.lines.specs.Answers.{gcd_text, div_text, mul_text, inv_text}
use Rattle.lines.specs.Names.{line_end, name_gcd, name_div, name_mul, name_inv, said_missing, name_unreadable}
use Rattle.lines.specs.Reading.{Meaning, unreadable, field, ext, first, second, gcd, div, mul, inv, meaning_of}

-- a field and its p, the levels with their degrees and the tower's words, a and b; a list of no words is none
pub record State : Type 0 where
  pub started : Bool
  pub p : ℤ
  pub levels : ℕ
  pub degrees : List ℤ
  pub tower : List ℤ
  pub a : List ℤ
  pub b : List ℤ

-- "`field` p starts afresh"
abbrev pub fresh : Bool → ℤ → State
fresh started p = record { started = started; p = p; levels = 0; degrees = pos 0 ∷ pos 0 ∷ pos 0 ∷ pos 0 ∷ []; tower = []; a = []; b = [] }

abbrev pub nothing : State
nothing = fresh false (pos 0)

-- ---- which lines are readable
-- "`ext` and `poly` .. need a field before them, and a fifth `ext` is unreadable"
abbrev pub allowed : State → Meaning → Meaning
allowed s (ext w) = cond (s.started && ltb s.levels 4) (ext w) unreadable
allowed s (first w) = cond s.started (first w) unreadable
allowed s (second w) = cond s.started (second w) unreadable
allowed s unreadable = unreadable
allowed s (field p) = field p
allowed s gcd = gcd
allowed s div = div
allowed s mul = mul
allowed s inv = inv

-- ---- what is kept after a line that is readable
-- "`ext` and the words of the next level's polynomial, m_1 first, drops a and b"; "The first word of `ext` is taken as that level's degree". The kernel's tower
-- has the topmost polynomial first.
abbrev pub after : State → Meaning → State
after s (field p) = fresh true p
after s (ext w) = record {
  started = s.started;
  p = s.p;
  levels = suc s.levels;
  degrees = set s.degrees s.levels (get_or w 0 (pos 0));
  tower = w ++ s.tower;
  a = [];
  b = [];
}
after s (first w) = record { started = s.started; p = s.p; levels = s.levels; degrees = s.degrees; tower = s.tower; a = w; b = s.b }
after s (second w) = record { started = s.started; p = s.p; levels = s.levels; degrees = s.degrees; tower = s.tower; a = s.a; b = w }
after s unreadable = s
after s gcd = s
after s div = s
after s mul = s
after s inv = s

-- ---- what an operation lends
-- S_N, where N and the degrees are in range; else the call is refused whatever is lent
abbrev pub lent_element : ℤ → List ℤ → ℕ
lent_element n e = cond (eqb (shape_number n e) 0) (size_of n e) 1

-- "Each answer slot lent is the longest allowed one within 4,096 words"
abbrev pub answer_words : ℕ
answer_words = 4096

abbrev pub slot_words : ℕ → ℕ
slot_words s = 1 + min 256 ((answer_words - 1) / s) * s

-- no element that is allowed has more words
abbrev pub most_element : ℕ
most_element = 2048

-- a list of n words
abbrev pub lent : ℕ → List ℤ
lent n = copies n (pos 0 ∷ [])

-- "the work store has 8,192"
abbrev pub work_words : ℕ
work_words = 8192

-- ---- what is printed
abbrev pub missing_text : List ℕ → List ℕ
missing_text name = name ++ (said_missing ++ (line_end ∷ []))

-- a list is there
abbrev pub there : List ℤ → Bool
there x = ltb 0 (length x)

-- "An operation that lacks field or an operand it needs prints its name and `missing` only": without a field there is no operand
abbrev pub printed : State → ℕ → Meaning → List ℕ
printed s number unreadable = name_unreadable ++ ((tab ∷ decimal number) ++ (line_end ∷ []))
printed s number (field p) = []
printed s number (ext w) = []
printed s number (first w) = []
printed s number (second w) = []
printed s number gcd =
    let n = pos s.levels in
    let l = lent_element n s.degrees in
    cond (there s.a && there s.b)
    (gcd_text s.p n s.degrees s.tower s.a s.b (lent (slot_words l)) (lent l) (lent work_words)) (missing_text name_gcd)
printed s number div =
    let n = pos s.levels in
    cond (there s.a && there s.b)
    (div_text s.p n s.degrees s.tower s.a s.b (lent (slot_words (lent_element n s.degrees))) (lent work_words)) (missing_text name_div)
printed s number mul =
    let n = pos s.levels in
    cond (there s.a && there s.b)
    (mul_text s.p n s.degrees s.tower s.a s.b (lent (slot_words (lent_element n s.degrees))) (lent work_words)) (missing_text name_mul)
printed s number inv =
    let n = pos s.levels in
    let l = lent_element n s.degrees in
    cond (there s.a) (inv_text s.p n s.degrees s.tower s.a (lent l) (lent l) (lent work_words)) (missing_text name_inv)

-- ---- a whole input
-- "a last line needs no line end": what stands behind the last line end is a line unless it is empty
unfoldable pub lines_of : List ℕ → List (List ℕ)
lines_of [] = []
lines_of (b ∷ s) = let rest = lines_of s in cond (eqb b line_end) ([] ∷ rest) (before b rest)

-- the answers to lines, the first of which has a number
unfoldable pub run : State → ℕ → List (List ℕ) → List ℕ
run s number [] = []
run s number (l ∷ ls) = let m = allowed s (meaning_of l) in printed s number m ++ run (after s m) (suc number) ls

-- the answers to an input
abbrev pub answers : List ℕ → List ℕ
answers input = run nothing 1 (lines_of input)

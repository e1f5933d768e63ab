-- What the program keeps between lines, as a state, and what its functions ask for and give.
--
-- state_of, Sound              == what is kept as a state, and what holds of it
-- Begins, Extended, AllowedBy, KeptBy == what is kept at the start, after `ext`, a line where it is allowed, and what is kept after it
-- WordStore .. OutStore == the lengths of the stores
-- RingKept              == what an operation runs over
-- Told, Stepped         == what is printed for a line; a line read and answered
use Rattle.std.specs.Prelude.{ℕ, suc, ◌+◌, ◌*◌, ◌<◌, ◌≤◌, true, Option, Some, None, List, ◌≡◌, ℤ, pos, length, take, drop, set}
use Rattle.std.specs.Option.{is_some}
use Rattle.text.specs.Appending.{Appended}
use Rattle.text.specs.Fields.{most_words}
use Rattle.lines.specs.declared.Kept.{Kept}
use Rattle.lines.specs.declared.Line.{Line}
use Rattle.lines.specs.declared.Ring.{Ring}
use Rattle.lines.specs.declared.Line.TheVariants.{Field, Ext, First, Second, Gcd, Div, Mul, Inv}
use Rattle.lines.specs.Answers.{out_bytes}
use Rattle.lines.specs.Reading.{meaning_of, said, Carries}
use Rattle.lines.specs.Steps.{State, allowed, after, answer_words, most_element, work_words, printed}

-- ---- what the program keeps: the tower's words fill their store from the end, a and b are the first words of theirs
-- the p of a field, and 0 where there is none
abbrev pub modulus_of : Option ℤ → ℤ
modulus_of (Some p) = p
modulus_of None = pos 0

abbrev pub state_of : Kept → (tower a b : List ℤ) → State
state_of k tower a b = record {
  started = is_some k.field;
  p = modulus_of k.field;
  levels = k.levels;
  degrees = k.degrees;
  tower = drop k.tower tower;
  a = take k.a a;
  b = take k.b b;
}

-- the words of the store of a tower, which four lines can fill
abbrev pub tower-words : ℕ
tower-words = 2048

-- "at most 512 words" a line, four levels at most
pub record Sound (k : Kept) : Type 0 where
  pub levels_few : k.levels ≤ 4
  pub tower_inside : k.tower ≤ tower-words
  pub tower_room : tower-words ≤ k.tower + most_words * k.levels
  pub a_inside : k.a ≤ most_words
  pub b_inside : k.b ≤ most_words
  pub degrees_four : length k.degrees ≡ 4
  -- without a field there is no operand
  pub none : k.field ≡ None → (k.a ≡ 0) × (k.b ≡ 0)

-- ---- the parts of the program
-- what is kept before the first line, and after `field` p
pub record Begins (k : Kept) (s : State) : Type 0 where
  pub sound : Sound k
  pub state : (tower a b : List ℤ) → length tower ≡ tower-words → state_of k tower a b ≡ s

-- an `ext` of n words needs a level and room
pub record ExtReady (k : Kept) (n : ℕ) : Type 0 where
  pub sound : Sound k
  pub level : k.levels < 4
  pub few : n ≤ most_words

pub record Extended (k : Kept) (degree : ℤ) (n : ℕ) (r : Kept) : Type 0 where
  pub sound : Sound r
  pub field : r.field ≡ k.field
  pub levels : r.levels ≡ suc k.levels
  pub degrees : r.degrees ≡ set k.degrees k.levels degree
  pub tower : r.tower + n ≡ k.tower
  pub a : r.a ≡ 0
  pub b : r.b ≡ 0

-- a line that is allowed: `ext` has a level left, `poly` has a field
abbrev pub Allowed : Kept → Line → Type 0
Allowed k (Ext n) = k.levels < 4
Allowed k (Field p) = Unit {0}
Allowed k (First n) = is_some k.field ≡ true
Allowed k (Second n) = is_some k.field ≡ true
Allowed k Gcd = Unit {0}
Allowed k Div = Unit {0}
Allowed k Mul = Unit {0}
Allowed k Inv = Unit {0}

-- one that is unreadable is allowed
abbrev pub Allows : Kept → Option Line → Type 0
Allows k None = Unit {0}
Allows k (Some line) = Allowed k line

pub record AllowedBy (line : Option Line) (k : Kept) (r : Option Line) : Type 0 where
  pub carried : Carries line → Carries r
  pub allows : Allows k r
  pub means : (w tower a b : List ℤ) → said r w ≡ allowed (state_of k tower a b) (said line w)

-- ---- the lengths of the stores
abbrev pub WordStore : List ℤ → Type 0
WordStore w = length w ≡ most_words

abbrev pub AnswerStore : List ℤ → Type 0
AnswerStore w = length w ≡ answer_words

abbrev pub FactorStore : List ℤ → Type 0
FactorStore w = length w ≡ most_element

abbrev pub WorkStore : List ℤ → Type 0
WorkStore w = length w ≡ work_words

abbrev pub OutStore : List ℕ → Type 0
OutStore s = out_bytes ≤ length s

-- ---- what is kept after a line
pub record KeepReady (line : Option Line) (k : Kept) (words : List ℤ) : Type 0 where
  pub sound : Sound k
  pub carried : Carries line
  pub allows : Allows k line
  pub words_long : WordStore words

pub record KeptBy (line : Option Line) (k : Kept) (words tower a b : List ℤ) (r : Kept) (tower' a' b' : List ℤ) : Type 0 where
  pub sound : Sound r
  pub state : state_of r tower' a' b' ≡ after (state_of k tower a b) (said line words)

-- ---- a line answered
-- what an operation runs over
pub record RingKept (k : Kept) (tower : List ℤ) (r : Ring) : Type 0 where
  pub p_is : r.p ≡ modulus_of k.field
  pub n_is : r.n ≡ pos k.levels
  pub e_is : r.e ≡ k.degrees
  pub t_is : r.t.now ≡ drop k.tower tower

-- a line is answered, whatever the store of its words holds
pub record Told (line : Option Line) (number : ℕ) (k : Kept) (tower a b : List ℤ) (out out' : List ℕ) (r : ℕ) : Type 0 where
  pub tells : (w : List ℤ) → Appended 0 (printed (state_of k tower a b) number (said line w)) out out' r

-- the line of a number and these bytes: its answer is the first bytes of out, as many as are told, and what is kept after it
pub record Stepped (text : List ℕ) (number : ℕ) (k : Kept) (tower a b : List ℤ) (r : Kept) (told : ℕ) (tower' a' b' : List ℤ) (out out' : List ℕ) : Type 0 where
  pub sound : Sound r
  pub answer : Appended 0 (printed (state_of k tower a b) number (allowed (state_of k tower a b) (meaning_of text))) out out' told
  pub state : state_of r tower' a' b' ≡ after (state_of k tower a b) (allowed (state_of k tower a b) (meaning_of text))

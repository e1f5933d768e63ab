-- What the functions on rows of numbers ask for and leave. A number is an element of level 0 over no degrees: its tower is empty, and nothing above the
-- store is used.
--
-- Held                       == the word at a place is a residue
-- TimesNumbersReady, times_number == a product of two numbers
-- LoseDotReady, lost_number   == a number loses products of pairs of numbers
-- LoseRowReady, lost_pair, LoseRowDone == each of n numbers loses two multiples
-- DivideAtReady, DividedAt == the k-th number of a row that is divided in place: what is left of it, and from g on that times the inverse
-- Numbers..                == the contracts of rows of level 0
use Rattle.std.specs.Prelude.{ℕ, ◌+◌, ◌-◌, ◌*◌, ◌%◌, ◌^◌, ◌<◌, ◌≤◌, ◌≡◌, true, List, [], ◌∷◌, ℤ, pos, length, get_or, set}
use Rattle.algebra.specs.Windows.{first, span}
use Rattle.residue.specs.Number.{Modulus}
use Rattle.residue.specs.Word.{at}
use Rattle.tower.specs.Store.{Kept}
use Rattle.arithmetic.specs.Sum.{gained_number}
use Rattle.arithmetic.specs.Walk.{dot_at, Readable}
use Rattle.sequences.specs.Rows.{Between, ScaleRowReady, ScaleRowDone, LoseReady, LoseDone, DivideReady, DivideDone}

-- a residue
abbrev pub Held : ℕ → List ℤ → ℕ → Type 0
Held p w a = Readable w a × (at w a < p)

-- ---- one product
pub record TimesNumbersReady (p a b : ℕ) (w : List ℤ) (c : ℕ) : Type 0 where
  pub modulus : Modulus p
  pub left : Held p w a
  pub right : Held p w b
  pub inside : c < length w

abbrev pub times_number : (p a b : ℕ) → List ℤ → ℕ
times_number p a b w = (at w a * at w b) % p

-- ---- n pairs, upwards from a and downwards to b
pub record LoseDotReady (p a b n : ℕ) (w : List ℤ) (c : ℕ) : Type 0 where
  pub modulus : Modulus p
  pub few : n < 2 ^ 32
  pub left : (u : ℕ) → u < n → Readable w (a + u * 1)
  pub right : (u : ℕ) → u < n → Readable w (b + u * 1)
  pub old : Held p w c

abbrev pub lost_number : (p a b n : ℕ) → List ℤ → ℕ → ℕ
lost_number p a b n w c = gained_number true p (at w c) (dot_at w w n 1 a b % p)

-- ---- n numbers from c on: q times those from b + 1 on, and r times those from b on
pub record LoseRowReady (p q r b n : ℕ) (w : List ℤ) (c : ℕ) : Type 0 where
  pub modulus : Modulus p
  pub q_narrow : q < 2 ^ 32
  pub r_narrow : r < 2 ^ 32
  pub words : (k : ℕ) → b ≤ k → k ≤ b + n → Readable w k
  pub old : (k : ℕ) → k < n → Held p w (c + k)
  pub apart : Between b (n + 1) c n

-- what the k-th number becomes
abbrev pub lost_pair : (p q r b : ℕ) → List ℤ → (c k : ℕ) → ℕ
lost_pair p q r b w c k = gained_number true p (at w (c + k)) ((q * at w (b + 1 + k) + r * at w (b + k)) % p)

-- all n do, and no other word changes
pub record LoseRowDone (p q r b n : ℕ) (w w' : List ℤ) (c : ℕ) : Type 0 where
  pub frame : Kept c n w w'
  pub lost : (k : ℕ) → k < n → get_or w' (c + k) (pos 0) ≡ pos (lost_pair p q r b w c k)

-- ---- the k-th number of the row from a on
pub record DivideAtReady (k p b g u : ℕ) (w : List ℤ) (a cap : ℕ) : Type 0 where
  pub fits : g ≤ cap
  pub reached : k < cap
  pub a_inside : a + cap ≤ length w
  pub b_inside : b + g ≤ length w
  pub unit : Held p w u
  pub apart : ¬ (u ≡ a + k)
  pub lose : LoseDotReady p (b + first (cap - g) k) (a + g + first g k) (span g (cap - g) k) w (a + k)

-- what those above it leave of it
abbrev pub rested : (k p b g : ℕ) → List ℤ → (a cap : ℕ) → List ℤ
rested k p b g w a cap = set w (a + k) (pos (lost_number p (b + first (cap - g) k) (a + g + first g k) (span g (cap - g) k) w (a + k)))

pub record DividedAt (k p b g u : ℕ) (w w' : List ℤ) (a cap : ℕ) : Type 0 where
  pub low : k < g → w' ≡ rested k p b g w a cap
  pub high : g ≤ k → w' ≡ set (rested k p b g w a cap) (a + k) (pos (times_number p u (a + k) (rested k p b g w a cap)))

-- ---- rows
-- the sizes over no degrees
abbrev pub ones : List ℕ
ones = 1 ∷ 1 ∷ 1 ∷ 1 ∷ 1 ∷ []

abbrev pub ScaleNumbersReady : (n p u : ℕ) → List ℤ → ℕ → Type 0
ScaleNumbersReady n p u w c = ScaleRowReady 0 n [] ones p [] true 0 u w c (length w)

abbrev pub ScaleNumbersDone : (n p u : ℕ) → List ℤ → List ℤ → ℕ → Type 0
ScaleNumbersDone n p u w w' c = ScaleRowDone 0 n [] p [] true 0 u w w' c (length w)

abbrev pub LoseNumbersReady : (p a m b n : ℕ) → List ℤ → ℕ → Type 0
LoseNumbersReady p a m b n w c = LoseReady 0 [] ones p [] true 0 a m b n w c (length w)

abbrev pub LoseNumbersDone : (p a m b n : ℕ) → List ℤ → List ℤ → ℕ → Type 0
LoseNumbersDone p a m b n w w' c = LoseDone 0 [] p [] true 0 a m b n w w' c (length w)

abbrev pub DivideNumbersReady : (p b g u : ℕ) → List ℤ → (a cap : ℕ) → Type 0
DivideNumbersReady p b g u w a cap = DivideReady 0 [] ones p [] true 0 b g u w a cap (length w)

abbrev pub DivideNumbersDone : (p b g u : ℕ) → List ℤ → List ℤ → (a cap : ℕ) → Type 0
DivideNumbersDone p b g u w w' a cap = DivideDone 0 [] p [] true 0 b g u w w' a cap (length w)

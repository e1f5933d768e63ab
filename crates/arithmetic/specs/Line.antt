-- Sums over pairs of elements of level 1, in numbers alone: an element of g coefficients has its degree word and g residues.
--
-- line_at x y g k n a b == what n pairs come to at the place k: `run_at` at level 1 (proofs/LineSums)
-- PlaceReached g k      == a place that two elements of g coefficients reach
-- LineReady             == the residues of n elements in either list, and room for their sum
-- TileReady, TileSums   == n pairs of two residues, `step` words apart: their words, with room for their sums; the sums t have become r
-- none, sum_at          == no sum; the sum at a place of many
-- AllSums g             == the sums of all places where elements of g coefficients meet, by their place
use Rattle.std.specs.Prelude.{ℕ, suc, ◌+◌, ◌*◌, ◌^◌, ◌<◌, ◌≤◌, List, ℤ, get_or}
use Rattle.algebra.specs.Windows.{first, span}
use Rattle.residue.specs.declared.Accumulator.{Accumulator}
use Rattle.residue.specs.Number.{Room, Added}
use Rattle.arithmetic.specs.Places.{wide}
use Rattle.arithmetic.specs.Walk.{dot_at, dots_at, Readable}

-- upwards from a in x, downwards to b in y
abbrev pub line_at : (x y : List ℤ) (g k n a b : ℕ) → ℕ
line_at x y g k n a b = dots_at x y n (suc g) (span g g k) 1 (a + 1 + first g k) (b + 1 + first g k)

abbrev pub PlaceReached : (g k : ℕ) → Type 0
PlaceReached g k = k + 1 < g + g

-- the residues of n elements of g coefficients, one behind the other
abbrev pub LineOf : (g n : ℕ) → List ℤ → ℕ → Type 0
LineOf g n x a = (u : ℕ) → u < n → (v : ℕ) → v < g → Readable x (a + u * suc g + 1 + v)

pub record LineReady (g : ℕ) (x : List ℤ) (a : ℕ) (y : List ℤ) (b n : ℕ) : Type 0 where
  pub left : LineOf g n x a
  pub right : LineOf g n y b
  pub few : n * suc g ≤ 2 ^ 32

-- ---- tiles
abbrev pub none : Accumulator
none = record { lo = 0; hi = 0 }

-- the sum at the place k
abbrev pub sum_at : List Accumulator → ℕ → Accumulator
sum_at r k = get_or r k none

-- two words of each of n elements
abbrev pub TileOf : (n step : ℕ) → List ℤ → ℕ → Type 0
TileOf n step x a = (k : ℕ) → k < n → Readable x (a + k * step) × Readable x (a + k * step + 1)

pub record TileReady (x : List ℤ) (a : ℕ) (y : List ℤ) (b n step : ℕ) (t : List Accumulator) : Type 0 where
  pub left : TileOf n step x a
  pub right : TileOf n step y b
  pub low : Room n (sum_at t 0).lo (sum_at t 0).hi
  pub middle : Room (n * 2) (sum_at t 1).lo (sum_at t 1).hi
  pub high : Room n (sum_at t 2).lo (sum_at t 2).hi

-- at the places 0, 1 and 2 of the product of two by two
pub record TileSums (x y : List ℤ) (n step a b : ℕ) (t r : List Accumulator) : Type 0 where
  pub low : Added n (dot_at x y n step a b) (sum_at t 0).lo (sum_at t 0).hi (sum_at r 0).lo (sum_at r 0).hi
  pub middle : Added (n * 2) (dots_at x y n step 2 1 a b) (sum_at t 1).lo (sum_at t 1).hi (sum_at r 1).lo (sum_at r 1).hi
  pub high : Added n (dot_at x y n step (a + 1) (b + 1)) (sum_at t 2).lo (sum_at t 2).hi (sum_at r 2).lo (sum_at r 2).hi

-- ---- all places
abbrev pub AllSums : (g : ℕ) (x y : List ℤ) (n a b : ℕ) → List Accumulator → Type 0
AllSums g x y n a b r = (k : ℕ) → k < wide g → Added (n * suc g) (line_at x y g k n a b) 0 0 (sum_at r k).lo (sum_at r k).hi

-- What the functions on words ask of their arguments.
--
-- Sized, Small, Degrees == z holds the sizes of the degrees d; degrees of at most 64; n levels of degrees from 1 to 64
-- Positive              == each of the i lowest degrees is at least 1
-- Element, Run, Row, Whole == an element, n elements one after the other, n elements behind a degree word, the words of a tower: where they stand
use Rattle.std.specs.Prelude.{ℕ, ◌+◌, ◌*◌, ◌<◌, ◌≤◌, ◌≡◌, List, ℤ, length, get_or}
use Rattle.tower.specs.Writing.{size, tower_size}

pub record Sized (d z : List ℕ) : Type 0 where
  pub at : (k : ℕ) → k ≤ 4 → get_or z k 0 ≡ size d k

pub record Small (d : List ℕ) : Type 0 where
  pub each : (k : ℕ) → k < 4 → get_or d k 0 ≤ 64

pub record Levels (n : ℕ) (d : List ℕ) : Type 0 where
  pub low : n ≤ 4
  pub small : Small d

pub record Degrees (n : ℕ) (d : List ℕ) : Type 0 where
  pub low : n ≤ 4
  pub small : Small d
  pub some : (k : ℕ) → k < n → 1 ≤ get_or d k 0

pub record Positive (i : ℕ) (d : List ℕ) : Type 0 where
  pub some : (k : ℕ) → k < i → 1 ≤ get_or d k 0

-- an element of level i stands at a
pub record Element (i : ℕ) (d z : List ℕ) (x : List ℤ) (a : ℕ) : Type 0 where
  pub low : i ≤ 4
  pub sized : Sized d z
  pub inside : a + size d i ≤ length x

-- n elements of level i, one after the other, from a on
pub record Run (i n : ℕ) (d z : List ℕ) (x : List ℤ) (a : ℕ) : Type 0 where
  pub low : i ≤ 4
  pub sized : Sized d z
  pub inside : a + n * size d i ≤ length x

-- n elements of level i behind a degree word, at a
pub record Row (i n : ℕ) (d z : List ℕ) (x : List ℤ) (a : ℕ) : Type 0 where
  pub low : i ≤ 4
  pub sized : Sized d z
  pub inside : a + n * size d i + 1 ≤ length x

-- the words of n levels, and no others
pub record Whole (n : ℕ) (d z : List ℕ) (t : List ℤ) : Type 0 where
  pub low : n ≤ 4
  pub sized : Sized d z
  pub long : length t ≡ tower_size d n

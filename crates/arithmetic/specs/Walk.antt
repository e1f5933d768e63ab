-- Sums of products of words. Two lists hold elements of level i; for one place of each level below, what the pairs of residues that meet there come to,
-- as a number.
--
-- total n h             == h 0 + … + h (n - 1);  total_cong == of equal terms
-- dot_at, dots_at       == n pairs of residues, upwards in x and downwards in y, `step` words apart; rows of them, `apart` words apart
-- pair_at d m x y i a b == of one pair of elements of level i, at a in x and at b in y: the number at the places m
-- run_at                == of n pairs of elements
-- Readable, Residues    == a word that may be read as a number below 2^32; all residues of an element of level i
-- DotReady, PairsReady  == what the code asks for: n pairs of residues; n pairs of elements
-- pick in w x           == the store w, or the lent words x
use Rattle.std.specs.Prelude.{ℕ, zero, suc, ◌+◌, ◌-◌, ◌*◌, ◌^◌, ◌<◌, ◌≤◌, ◌≡◌, Bool, true, false, List, ℤ, pos, length, get_or}
use Rattle.std.proofs.Common.{arith, ap₂}
use Rattle.std.proofs.Math.Path.{refl}
use Rattle.algebra.specs.Windows.{first, span}
use Rattle.residue.specs.Number.{Room}
use Rattle.residue.specs.Word.{at, Narrow}
use Rattle.tower.specs.Levels.{degree}
use Rattle.tower.specs.Writing.{size}
use Rattle.tower.specs.Ready.{Sized}

unfoldable pub total : ℕ → (ℕ → ℕ) → ℕ
total zero h = 0
total (suc n) h = total n h + h n

pub total-zero : (h : ℕ → ℕ) → total 0 h ≡ 0
unfolding total
total-zero h = refl

pub total_suc : (n : ℕ) (h : ℕ → ℕ) → total (suc n) h ≡ total n h + h n
unfolding total
total_suc n h = refl

-- equal terms
pub total_cong : (n : ℕ) (h k : ℕ → ℕ) → ((u : ℕ) → u < n → h u ≡ k u) → total n h ≡ total n k
unfolding total
total_cong zero h k e = refl
total_cong (suc n) h k e = ap₂ ◌+◌ (total_cong n h k (λ u l. e u (omega arith))) (e n (omega arith))

-- the place at level l + 1 that m names, the first coefficient of its window, and how many pairs meet there
abbrev pub place_of : List ℕ → ℕ → ℕ
place_of m l = get_or m l 0

abbrev pub first_of : (d m : List ℕ) → ℕ → ℕ
first_of d m l = first (degree d l) (place_of m l)

abbrev pub span_of : (d m : List ℕ) → ℕ → ℕ
span_of d m l = span (degree d l) (degree d l) (place_of m l)

-- n pairs of residues, upwards in x and downwards in y; rows of such pairs
module _ (x y : List ℤ) where
  abbrev pub dot_at : (n step a b : ℕ) → ℕ
  dot_at n step a b = total n (λ u. at x (a + u * step) * at y (b + (n - 1 - u) * step))

  abbrev pub dots_at : (rows apart n step a b : ℕ) → ℕ
  dots_at rows apart n step a b = total rows (λ o. dot_at n step (a + o * apart) (b + (rows - 1 - o) * apart))

module _ (d m : List ℕ) (x y : List ℤ) where
  unfoldable pub pair_at : ℕ → ℕ → ℕ → ℕ
  pair_at zero a b = at x a * at y b
  pair_at (suc i) a b =
      total (span_of d m i) (λ u. pair_at i (a + 1 + (first_of d m i + u) * size d i) (b + 1 + (first_of d m i + (span_of d m i - 1 - u)) * size d i))

  pub pair_at-zero : (a b : ℕ) → pair_at 0 a b ≡ at x a * at y b
  unfolding pair_at
  pair_at-zero a b = refl

  pub pair_at_suc : (i a b : ℕ) → pair_at (suc i) a b
      ≡ total (span_of d m i) (λ u. pair_at i (a + 1 + (first_of d m i + u) * size d i) (b + 1 + (first_of d m i + (span_of d m i - 1 - u)) * size d i))
  unfolding pair_at
  pair_at_suc i a b = refl

  abbrev pub run_at : (i n step a b : ℕ) → ℕ
  run_at i n step a b = total n (λ u. pair_at i (a + u * step) (b + (n - 1 - u) * step))

-- ---- what the code asks for
pub record Readable (x : List ℤ) (a : ℕ) : Type 0 where
  pub inside : a < length x
  pub narrow : Narrow (get_or x a (pos 0))

unfoldable pub Residues : List ℕ → ℕ → List ℤ → ℕ → Type 0
Residues d zero x a = Readable x a
Residues d (suc i) x a = (k : ℕ) → k < degree d i → Residues d i x (a + 1 + k * size d i)

-- the sizes, and a place of every level below i that two polynomials of its degree reach
pub record Places (d z m : List ℕ) (i : ℕ) : Type 0 where
  pub low : i ≤ 4
  pub sized : Sized d z
  pub reached : (l : ℕ) → l < i → place_of m l + 1 < degree d l + degree d l

-- n elements of level i, `step` words apart
abbrev pub Many : (d : List ℕ) (i n step : ℕ) → List ℤ → ℕ → Type 0
Many d i n step x a = (u : ℕ) → u < n → Residues d i x (a + u * step)

-- n pairs of residues
pub record DotReady (x : List ℤ) (a : ℕ) (y : List ℤ) (b n step lo hi : ℕ) : Type 0 where
  pub left : (u : ℕ) → u < n → Readable x (a + u * step)
  pub right : (u : ℕ) → u < n → Readable y (b + u * step)
  pub room : Room n lo hi

-- ---- operands in the store or in lent words
abbrev pub pick : Bool → List ℤ → List ℤ → List ℤ
pick true w x = w
pick false w x = x

-- n pairs of elements of level i, one behind the other, and room for their sum
pub record PairsReady (d z m : List ℕ) (i : ℕ) (x : List ℤ) (a : ℕ) (y : List ℤ) (b n : ℕ) : Type 0 where
  pub places : Places d z m i
  pub left : Many d i n (size d i) x a
  pub right : Many d i n (size d i) y b
  pub few : n * size d i ≤ 2 ^ 32

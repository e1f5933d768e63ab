-- What code on one number modulo p takes and gives: residues below p, the accumulator of two words, and the inverse of a number. The modulus is
-- below 2^32 throughout, so that a product of two residues fits a word. Definitions only; their laws are in proofs/.
--
-- Modulus, Operand, Operands == a modulus; a number, or two, below it
-- Below p v r                == r is v, and below p
-- sum_of lo hi               == what an accumulator of these two words holds
-- Room, Added                == there is room for n folds more; n folds have added a
-- Inverted p c r             == r is the inverse of c modulo p, or the greatest common divisor of the two
use Rattle.std.specs.Prelude.{◌≡◌, ◌↔◌, ℕ, ◌+◌, ◌*◌, ◌%◌, ◌^◌, ◌<◌, ◌≤◌, Result, Ok, Err}
use Rattle.std.specs.Int.{◌∣◌}
use Rattle.residue.specs.declared.Shared.{Shared}

pub record Modulus (p : ℕ) : Type 0 where
  pub positive : 0 < p
  pub narrow : p < 2 ^ 32

pub record Operand (p a : ℕ) : Type 0 where
  pub narrow : p < 2 ^ 32
  pub small : a < p

pub record Operands (p a b : ℕ) : Type 0 where
  pub narrow : p < 2 ^ 32
  pub left : a < p
  pub right : b < p

pub record Below (p v r : ℕ) : Type 0 where
  pub value : r ≡ v
  pub small : r < p

-- lo + hi · 2^32
abbrev pub sum_of : ℕ → ℕ → ℕ
sum_of lo hi = lo + hi * 2 ^ 32

-- A fold adds less than 2^32 to each word, so 2^32 folds from zero fit.
pub record Room (n lo hi : ℕ) : Type 0 where
  pub lo_room : lo + n * 2 ^ 32 ≤ 2 ^ 64
  pub hi_room : hi + n * 2 ^ 32 ≤ 2 ^ 64

-- n folds, of numbers whose sum is a, have led from lo, hi to lo', hi'
pub record Added (n a lo hi lo' hi' : ℕ) : Type 0 where
  pub lo_most : lo' ≤ lo + n * 2 ^ 32
  pub hi_most : hi' ≤ hi + n * 2 ^ 32
  pub value : sum_of lo' hi' ≡ sum_of lo hi + a

pub record UnitOf (p c u : ℕ) : Type 0 where
  pub small : u < p
  pub inverse : (u * c) % p ≡ 1
  pub coprime : (k : ℕ) → k ∣ p → k ∣ c → k ≤ 1

-- h is the greatest common divisor: for c = 0 it is p
pub record FactorOf (p c h : ℕ) : Type 0 where
  pub above : 1 < h
  pub common : (k : ℕ) → (k ∣ h) ↔ ((k ∣ p) × (k ∣ c))

abbrev pub Inverted : (p c : ℕ) → Result ℕ Shared → Type 0
Inverted p c (Ok u) = UnitOf p c u
Inverted p c (Err h) = FactorOf p c h.divisor

-- Signed words as numbers and as residues. Definitions only; their laws are in proofs/.
--
-- num w, at l i == the number that a word, or the i-th word of a list, holds: 0 for a negative one
-- Narrow w      == w is a number below 2^32
-- mod_z n p     == the residue of a whole number
use Rattle.std.specs.Prelude.{◌≡◌, List, ℕ, suc, ◌-◌, ◌%◌, ◌^◌, ◌<◌, ℤ, pos, negsuc, get_or}

abbrev pub num : ℤ → ℕ
num (pos n) = n
num (negsuc n) = 0

abbrev pub at : List ℤ → ℕ → ℕ
at l i = num (get_or l i (pos 0))

pub record Narrow (w : ℤ) : Type 0 where
  pub value : w ≡ pos (num w)
  pub small : num w < 2 ^ 32

abbrev pub mod_z : ℤ → ℕ → ℕ
mod_z (pos n) p = n % p
mod_z (negsuc n) p = (p - suc n % p) % p

-- Division in place by a polynomial whose leading coefficient has a known inverse i: the row that it leaves.
-- (proofs/UnitDivided.antt: how each coefficient of it is made.)
--
-- rowᵘ R g u i cap f       == the row that division in place of f's cap coefficients, by the polynomial with the g coefficients u under that one, leaves:
--                             rowᵘ-low == below g the remainder, rowᵘ_high == from g on the quotient
use Rattle.std.specs.Prelude.{◌≡◌, ℕ, ◌+◌, ◌<◌}
use Rattle.algebra.specs.Ring.{CRing}
use Rattle.algebra.specs.Vec.{Vec, coef, trunc}
use Rattle.algebra.specs.UnitDivide.{quotientᵘ, remainderᵘ}
use Rattle.algebra.specs.Divided.{joined, joined-low, joined_high}

module _ (R : CRing) (g : ℕ) (u : Vec R.Car g) (i : R.Car) where
  open R use {Car, 𝟘}

  -- the remainder's coefficients below g, and from g on the quotient's
  unfoldable pub rowᵘ : (cap : ℕ) (f : ℕ → Car) → ℕ → Car
  rowᵘ cap f k = joined R g (coef 𝟘 cap (quotientᵘ R g u i cap (trunc cap f))) (remainderᵘ R g u i cap (trunc cap f)) k

  -- its two parts
  pub rowᵘ-low : (cap : ℕ) (f : ℕ → Car) (k : ℕ) → k < g → rowᵘ cap f k ≡ coef 𝟘 g (remainderᵘ R g u i cap (trunc cap f)) k
  unfolding rowᵘ
  rowᵘ-low cap f k l = joined-low R g _ _ k l

  pub rowᵘ_high : (cap : ℕ) (f : ℕ → Car) (j : ℕ) → rowᵘ cap f (g + j) ≡ coef 𝟘 cap (quotientᵘ R g u i cap (trunc cap f)) j
  unfolding rowᵘ
  rowᵘ_high cap f j = joined_high R g _ _ j

-- Division in place: the row that it leaves. (proofs/Divided.antt: how each coefficient of it is made, and remainders of sums and products.)
--
-- raised R g q                             == z^g times q
-- joined R g q r                           == the coefficients of r below g, and from g on those of q: joined-low, joined_high
-- row cap f                                == the row that division in place of f's cap coefficients leaves: row_low == below g the remainder,
--                                             row_high == from g on the quotient
use Rattle.std.specs.Prelude.{◌≡◌, refl, ℕ, zero, suc, ◌+◌, ◌<◌}
use Rattle.std.proofs.Math.Path.{ap, ap₂}
use Rattle.std.proofs.Common.{◌∙◌, arith}
use Rattle.algebra.specs.Ring.{CRing, zero-⊕}
use Rattle.algebra.specs.Vec.{Vec, coef, trunc, coef_below}
use Rattle.algebra.specs.Series.{Series, cons}
use Rattle.algebra.specs.Divide.{quotient, remainder}

module _ (R : CRing) where
  open R use {Car, 𝟘, ◌⊕◌, ⊕_zero}

  infixl 65 ◌⊕◌
  -- z^g q
  abbrev pub raised : ℕ → Series R → Series R
  raised zero q = q
  raised (suc g) q = cons R 𝟘 (raised g q)

  -- below g a raised polynomial is zero, and from g on it is the polynomial
  raised-low : (g : ℕ) (q : Series R) (n : ℕ) → n < g → raised g q n ≡ 𝟘
  raised-low zero q n l = absurd (omega arith)
  raised-low (suc g) q zero l = refl
  raised-low (suc g) q (suc n) l = raised-low g q n (omega arith)

  raised_high : (g : ℕ) (q : Series R) (j : ℕ) → raised g q (g + j) ≡ q j
  raised_high zero q j = ap q (omega arith)
  raised_high (suc g) q j =
      let e : suc g + j ≡ suc (g + j) = omega arith in
      ap (raised (suc g) q) e ∙ raised_high g q j

  -- r's coefficients below g, and from g on q's
  unfoldable pub joined : (g : ℕ) → Series R → Vec Car g → ℕ → Car
  joined g q r k = raised g q k ⊕ coef 𝟘 g r k

  pub joined-low : (g : ℕ) (q : Series R) (r : Vec Car g) (k : ℕ) → k < g → joined g q r k ≡ coef 𝟘 g r k
  unfolding joined
  joined-low g q r k l = ap (λ x. x ⊕ coef 𝟘 g r k) (raised-low g q k l) ∙ zero-⊕ R _

  pub joined_high : (g : ℕ) (q : Series R) (r : Vec Car g) (j : ℕ) → joined g q r (g + j) ≡ q j
  unfolding joined
  joined_high g q r j = ap₂ ◌⊕◌ (raised_high g q j) (coef_below 𝟘 g r (g + j) (omega arith)) ∙ ⊕_zero _

module _ (R : CRing) (g : ℕ) (w : Vec R.Car g) where
  open R use {Car, 𝟘}

  abbrev quo : (k : ℕ) → Vec Car k → Series R
  quo k v = coef 𝟘 k (quotient R g w k v)

  -- ---- division in place
  -- the remainder's coefficients below g, and from g on the quotient's: the row that division in place leaves
  unfoldable pub row : (cap : ℕ) (f : ℕ → Car) → ℕ → Car
  row cap f k = joined R g (quo cap (trunc cap f)) (remainder R g w cap (trunc cap f)) k

  -- its two parts
  pub row_low : (cap : ℕ) (f : ℕ → Car) (k : ℕ) → k < g → row cap f k ≡ coef 𝟘 g (remainder R g w cap (trunc cap f)) k
  unfolding row
  row_low cap f k l = joined-low R g _ _ k l

  pub row_high : (cap : ℕ) (f : ℕ → Car) (j : ℕ) → row cap f (g + j) ≡ coef 𝟘 cap (quotient R g w cap (trunc cap f)) j
  unfolding row
  row_high cap f j = joined_high R g _ _ j

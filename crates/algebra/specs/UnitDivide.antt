-- Division by a polynomial whose leading coefficient c has a known inverse i. It is the division by the monic polynomial i times the divisor:
-- the remainder is the same, and the quotient is i times that quotient. (proofs/UnitDivide.antt: that these are right.)
--
-- quotientᵘ, remainderᵘ R d u i k v  == by the polynomial with the d coefficients u under c
-- scaleᵛ, coef-scale                 == a times each coefficient
-- made-monic                         == a polynomial times the inverse of its leading coefficient is monic
use Rattle.std.specs.Prelude.{◌≡◌, ℕ, suc}
use Rattle.std.proofs.Common.{ap, sym, ◌∙◌}
use Rattle.algebra.specs.Ring.{CRing, ⊗-zero}
use Rattle.algebra.specs.Vec.{Vec, coef, mapᵛ, topped, coef-map, map-topped}
use Rattle.algebra.specs.Poly.{crown}
use Rattle.algebra.specs.Divide.{quotient, remainder}

module _ (R : CRing) where
  open R use {Car, 𝟘, 𝟙, ◌⊗◌}

  infixl 70 ◌⊗◌
  -- a times each coefficient
  abbrev pub scaleᵛ : (d : ℕ) → Car → Vec Car d → Vec Car d
  scaleᵛ d a v = mapᵛ (λ x. a ⊗ x) d v

  pub coef-scale : (d : ℕ) (a : Car) (v : Vec Car d) (n : ℕ) → coef 𝟘 d (scaleᵛ d a v) n ≡ a ⊗ coef 𝟘 d v n
  coef-scale d a v n = coef-map (λ x. a ⊗ x) (⊗-zero R a) d v n

  -- a polynomial times the inverse of its leading coefficient is monic
  pub made-monic : (d : ℕ) (u : Vec Car d) (c i : Car) → i ⊗ c ≡ 𝟙 → (n : ℕ) → crown R d (scaleᵛ d i u) n ≡ i ⊗ coef 𝟘 (suc d) (topped d u c) n
  made-monic d u c i h n =
      ap (λ x. coef 𝟘 (suc d) (topped d (scaleᵛ d i u) x) n) (sym h)
      ∙ ap (λ v. coef 𝟘 (suc d) v n) (sym (map-topped (λ x. i ⊗ x) d u c))
      ∙ coef-scale (suc d) i (topped d u c) n

module _ (R : CRing) (d : ℕ) (u : Vec R.Car d) (i : R.Car) where
  open R use {Car}

  abbrev pub remainderᵘ : (k : ℕ) → Vec Car k → Vec Car d
  remainderᵘ k v = remainder R d (scaleᵛ R d i u) k v

  abbrev pub quotientᵘ : (k : ℕ) → Vec Car k → Vec Car k
  quotientᵘ k v = scaleᵛ R k i (quotient R d (scaleᵛ R d i u) k v)

-- Division in place by a polynomial whose leading coefficient has a known inverse i: how each coefficient is made of those above it.
--
-- rowᵘ-rest, rowᵘ-quotient == what those above it leave of a coefficient is, below g, the row's; from g on the row's is i times that
use Rattle.std.specs.Prelude.{◌≡◌, refl, ℕ, ◌+◌, ◌-◌, ◌≤◌, ◌<◌}
use Rattle.std.proofs.Common.{ap, sym, ◌∙◌, arith}
use Rattle.algebra.specs.Ring.{CRing}
use Rattle.algebra.specs.Solve.{◌:*◌, ◌≐◌, solve₃}
use Rattle.algebra.specs.Vec.{Vec, coef}
use Rattle.algebra.specs.UnitDivide.{scaleᵛ, coef-scale}
use Rattle.algebra.specs.Windows.{first, span, sum_cong, window}
use Rattle.algebra.specs.Divided.{row, row_low, row_high}
use Rattle.algebra.proofs.Divided.{row-each}
use Rattle.algebra.specs.UnitDivided.{rowᵘ as row_by, rowᵘ-low, rowᵘ_high}

module _ (R : CRing) (g : ℕ) (u : Vec R.Car g) (i : R.Car) where
  open R use {Car, 𝟘, ◌⊕◌, ◌⊗◌, ⊖◌}

  infixl 65 ◌⊕◌
  infixl 70 ◌⊗◌
  infix 75 ⊖◌
  abbrev rowᵘ : (cap : ℕ) (f : ℕ → Car) → ℕ → Car
  rowᵘ cap f k = row_by R g u i cap f k

  -- the row of the division by the monic polynomial, and what those above it leave of a coefficient
  abbrev monic : (cap : ℕ) (f : ℕ → Car) → ℕ → Car
  monic cap f k = row R g (scaleᵛ R g i u) cap f k

  abbrev rest : (cap : ℕ) (f : ℕ → Car) → ℕ → Car
  rest cap f k = f k ⊕ (⊖ window R g (cap - g) (coef 𝟘 g u) (λ j. rowᵘ cap f (g + j)) k)

  -- the quotient is i times that one's
  quotient_of_lem : (cap : ℕ) (f : ℕ → Car) (j : ℕ) → rowᵘ cap f (g + j) ≡ i ⊗ monic cap f (g + j)
  quotient_of_lem cap f j = rowᵘ_high R g u i cap f j ∙ coef-scale R cap i _ j ∙ ap (λ x. i ⊗ x) (sym (row_high R g (scaleᵛ R g i u) cap f j))

  -- so with u it takes from a coefficient what that one takes with i times u
  rest-is : (cap : ℕ) → g ≤ cap → (f : ℕ → Car) (k : ℕ) → k < cap → rest cap f k ≡ monic cap f k
  rest-is cap fits f k l =
      ap (λ x. f k ⊕ (⊖ x))
      (sum_cong R (span g (cap - g) k) _ _
      (λ n h. met (first (cap - g) k + n) (first g k + (span g (cap - g) k - 1 - n))))
      ∙ sym (row-each R g (scaleᵛ R g i u) cap fits f k l)
    where
      met : (n j : ℕ) → coef 𝟘 g u n ⊗ rowᵘ cap f (g + j) ≡ coef 𝟘 g (scaleᵛ R g i u) n ⊗ monic cap f (g + j)
      met n j =
          ap (λ x. coef 𝟘 g u n ⊗ x) (quotient_of_lem cap f j)
          ∙ solve₃ R (coef 𝟘 g u n) i (monic cap f (g + j)) (λ v i q. v :* (i :* q) ≐ (i :* v) :* q) refl
          ∙ ap (λ x. x ⊗ monic cap f (g + j)) (sym (coef-scale R g i u n))

  -- each coefficient is made of those above it, and from g on it is multiplied by i
  pub rowᵘ-rest : (cap : ℕ) → g ≤ cap → (f : ℕ → Car) (k : ℕ) → k < g
      → rowᵘ cap f k ≡ f k ⊕ (⊖ window R g (cap - g) (coef 𝟘 g u) (λ j. rowᵘ cap f (g + j)) k)
  rowᵘ-rest cap fits f k l = rowᵘ-low R g u i cap f k l ∙ sym (row_low R g (scaleᵛ R g i u) cap f k l) ∙ sym (rest-is cap fits f k (omega arith))

  pub rowᵘ-quotient : (cap : ℕ) → g ≤ cap → (f : ℕ → Car) (k : ℕ) → g ≤ k → k < cap
      → rowᵘ cap f k ≡ i ⊗ (f k ⊕ (⊖ window R g (cap - g) (coef 𝟘 g u) (λ j. rowᵘ cap f (g + j)) k))
  rowᵘ-quotient cap fits f k h l =
      let e : k ≡ g + (k - g) = omega arith in
      ap (rowᵘ cap f) e ∙ quotient_of_lem cap f (k - g) ∙ ap (λ n. i ⊗ monic cap f n) (sym e) ∙ ap (λ x. i ⊗ x) (sym (rest-is cap fits f k l))

-- The mathematical part of document 01's figures C5 to C10 and C12 and of the calculator's case, computed on the definitions.
--
-- figures              == the table of specs/Figures.antt
-- invertible_and_shown == an element that has an inverse, and whose inverse shows a factor
use Rattle.std.specs.Prelude.{◌≡◌, refl, [], ◌∷◌, ℕ}
use Rattle.std.proofs.Common.{ap, inl, lit<, lt_irrefl, arith}
use Rattle.algebra.specs.Series.{◌*ˢ◌}
use Rattle.algebra.specs.Divide.{divide}
use Rattle.algebra.specs.Quotient.{mulᵛ, oneᵛ, residue}
use Rattle.euclid.specs.Sequence.{seq}
use Rattle.euclid.specs.Number.{rows, inverse₀}
use Rattle.euclid.specs.Inverse.{inverse}
use Rattle.euclid.specs.Gcd.{make, start, gcd_with}
use Rattle.euclid.proofs.Towers.{good}
use Rattle.euclid.specs.Demand.{inv_shown}
use Rattle.euclid.specs.Figures.{four, T4, 2z+1, Figures, Misled}

pub figures : Figures
unfolding gcd_with make start inverse inverse₀ rows seq divide mulᵛ oneᵛ residue ◌*ˢ◌
figures = record {
  c5_five = refl;
  c5_four = refl;
  c6 = refl;
  c7 = refl;
  c8 = refl;
  c9 = refl;
  a_first = refl;
  b_first = refl;
  c10_both = refl;
  c10_a_zero = refl;
  c10_b_zero = refl;
  c10_factor = refl;
  c12 = refl;
  c12_own = refl;
  calculator_gcd = refl;
  calculator_quotient = refl;
  calculator_remainder = refl;
  two_levels = refl;
  at_two = refl;
  at_one = refl;
  at_zero = refl;
}

pub invertible_and_shown : Misled
invertible_and_shown = record {
  own_inverse = figures.c12_own;
  yet_shown = figures.c12;
  at_level = refl;
  is_right = inv_shown T4 (good 4 (lit< tt) (2 ∷ []) 1 (tt, (four 1, (four 1, tt)))) 2z+1 not_zero (inl 2) figures.c12;
}
  where
    not_zero : ¬ (2z+1 ≡ T4.ring.𝟘)
    not_zero e = let h : ◌≡◌ {A = ℕ} 1 0 = ap (λ v. v.0.0) e in absurd (lt_irrefl 0 (omega arith))

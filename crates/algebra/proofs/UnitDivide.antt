-- Division by a polynomial whose leading coefficient c has a known inverse i: it exists, computes, and is unique; the quotient's degree.
--
-- dividedᵘ, quotientᵘ-is, remainderᵘ-is, quotientᵘ_below, quotientᵘ-top  == as in Divide
use Rattle.std.specs.Prelude.{◌≡◌, refl, ℕ, suc, ◌+◌}
use Rattle.std.proofs.Common.{ap, ap₂, sym, ◌∙◌}
use Rattle.std.proofs.Math.Path.{fun_ext}
use Rattle.algebra.specs.Ring.{CRing, one-⊗, ⊗-zero}
use Rattle.algebra.specs.Solve.{◌:*◌, ◌≐◌, solve₃, solve₄}
use Rattle.algebra.specs.Vec.{Vec, coef, Below, topped}
use Rattle.algebra.specs.Series.{Series, SeriesRing, scale, const, const-*, const-inverse}
use Rattle.algebra.specs.Poly.{crown, below_scale}
use Rattle.algebra.specs.Divide.{quotient}
use Rattle.algebra.proofs.Divide.{divided, quotient_is, remainder_is, quotient_below, quotient-top}
use Rattle.algebra.specs.UnitDivide.{scaleᵛ, coef-scale, made-monic, remainderᵘ as remainder_by, quotientᵘ as quotient_by}

module _ (R : CRing) (d : ℕ) (u : Vec R.Car d) (i : R.Car) where
  open R use {Car, 𝟘, 𝟙, ◌⊗◌}
  open SeriesRing R use {◌⊕◌ as ◌+ˢ◌, ◌⊗◌ as ◌*ˢ◌}

  infixl 65 ◌+ˢ◌
  infixl 70 ◌⊗◌ ◌*ˢ◌
  abbrev remainderᵘ : (k : ℕ) → Vec Car k → Vec Car d
  remainderᵘ k v = remainder_by R d u i k v

  abbrev quotientᵘ : (k : ℕ) → Vec Car k → Vec Car k
  quotientᵘ k v = quotient_by R d u i k v

  module _ (c : Car) (unit : i ⊗ c ≡ 𝟙) where
    abbrev S : CRing
    S = SeriesRing R

    -- the divisor, and the monic one
    abbrev g : Series R
    g = coef 𝟘 (suc d) (topped d u c)

    abbrev ĝ : Series R
    ĝ = crown R d (scaleᵛ R d i u)

    monic-is : ĝ ≡ const R i *ˢ g
    monic-is = fun_ext (λ n. made-monic R d u c i unit n ∙ sym (const-* R i g n))

    units : const R i *ˢ const R c ≡ S.𝟙
    units = fun_ext (const-inverse R i c unit)

    scale-is : (a : Car) (f : Series R) → scale R a f ≡ const R a *ˢ f
    scale-is a f = fun_ext (λ n. sym (const-* R a f n))

    quotient_scaled : (k : ℕ) (v : Vec Car k) → coef 𝟘 k (quotientᵘ k v) ≡ const R i *ˢ coef 𝟘 k (quotient R d (scaleᵛ R d i u) k v)
    quotient_scaled k v = fun_ext (λ n. coef-scale R k i (quotient R d (scaleᵛ R d i u) k v) n) ∙ scale-is i _

    pub dividedᵘ : (k : ℕ) (v : Vec Car k) → coef 𝟘 k v ≡ coef 𝟘 k (quotientᵘ k v) *ˢ g +ˢ coef 𝟘 d (remainderᵘ k v)
    dividedᵘ k v =
        divided R d (scaleᵛ R d i u) k v
        ∙ ap (λ x. x +ˢ coef 𝟘 d (remainderᵘ k v))
        (ap (λ x. q *ˢ x) monic-is
        ∙ solve₃ S q (const R i) g (λ q i g. q :* (i :* g) ≐ i :* q :* g) refl
        ∙ ap (λ x. x *ˢ g) (sym (quotient_scaled k v)))
      where
        q : Series R
        q = coef 𝟘 k (quotient R d (scaleᵛ R d i u) k v)

    -- whatever writes v as q times the divisor plus r, r of d coefficients, has the quotient and the remainder
    module _ (k : ℕ) (v : Vec Car k) (j : ℕ) (q : Series R) (r : Vec Car d) (b : Below 𝟘 j q) (e : coef 𝟘 k v ≡ q *ˢ g +ˢ coef 𝟘 d r) where
      by-monic : coef 𝟘 k v ≡ scale R c q *ˢ ĝ +ˢ coef 𝟘 d r
      by-monic =
          e ∙ ap (λ x. x +ˢ coef 𝟘 d r)
          (sym (one-⊗ S (q *ˢ g)) ∙ ap (λ x. x *ˢ (q *ˢ g)) (sym units)
          ∙ solve₄ S (const R i) (const R c) q g (λ i c q g. i :* c :* (q :* g) ≐ c :* q :* (i :* g)) refl
          ∙ ap₂ ◌*ˢ◌ (sym (scale-is c q)) (sym monic-is))

      pub remainderᵘ-is : remainderᵘ k v ≡ r
      remainderᵘ-is = remainder_is R d (scaleᵛ R d i u) k v j (scale R c q) r (below_scale R c q b) by-monic

      pub quotientᵘ-is : coef 𝟘 k (quotientᵘ k v) ≡ q
      quotientᵘ-is =
          quotient_scaled k v
          ∙ ap (λ x. const R i *ˢ x) (quotient_is R d (scaleᵛ R d i u) k v j (scale R c q) r (below_scale R c q b) by-monic ∙ scale-is c q)
          ∙ sym (S.⊗_assoc (const R i) (const R c) q)
          ∙ ap (λ x. x *ˢ q) units ∙ one-⊗ S q

  pub quotientᵘ_below : (j k : ℕ) (v : Vec Car k) → Below 𝟘 (j + d) (coef 𝟘 k v) → Below 𝟘 j (coef 𝟘 k (quotientᵘ k v))
  quotientᵘ_below j k v h n l =
      coef-scale R k i (quotient R d (scaleᵛ R d i u) k v) n ∙ ap (λ x. i ⊗ x) (quotient_below R d (scaleᵛ R d i u) j k v h n l) ∙ ⊗-zero R i

  -- the quotient's leading coefficient is the dividend's divided by the divisor's
  pub quotientᵘ-top : (j k : ℕ) (v : Vec Car k) → Below 𝟘 (suc j + d) (coef 𝟘 k v) → coef 𝟘 k (quotientᵘ k v) j ≡ i ⊗ coef 𝟘 k v (j + d)
  quotientᵘ-top j k v h =
      coef-scale R k i (quotient R d (scaleᵛ R d i u) k v) j ∙ ap (λ x. i ⊗ x) (quotient-top R d (scaleᵛ R d i u) j k v h)

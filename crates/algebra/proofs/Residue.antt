-- The residue map R[z] → R[z]/m as a homomorphism of rings: it is onto, and its kernel is exactly the multiples of m.
--
-- residueʰ      == the residue map;  residueʰ-poly: where a bound is known it is the remainder
-- residue_onto, residue_kernel
use Rattle.std.specs.Prelude.{◌≡◌, refl, ◌↔◌, ℕ}
use Rattle.std.proofs.Common.{ap, ap₂, ◌∙◌}
use Rattle.std.proofs.Math.Path.{sym}
use Rattle.std.proofs.Math.Logic.{∥∥₁_elim}
use mathlib.Core.HLevel.{Σ_prop_path, Π_prop}
use Rattle.algebra.specs.Ring.{CRing}
use Rattle.algebra.specs.Vec.{Vec, Vec-set}
use Rattle.algebra.specs.Series.{SeriesRing}
use Rattle.algebra.specs.Poly.{Poly, ◌+ᴾ◌, ◌*ᴾ◌, poly, constᴾ}
use Rattle.algebra.specs.Quotient.{residue, same, residue_1}
use Rattle.algebra.proofs.Quotient.{Quotient, residue_respects, residue-+, residue-*, residue-poly, kernel}
use Rattle.algebra.specs.Divisor.{Dvd}
use Rattle.algebra.specs.PolyRing.{P, P-path, PolyRing, Bounded, unbundle, ↑, each, mon, pol}
use Rattle.algebra.specs.Monic.{dvd_monic_prop}
use Rattle.algebra.specs.Residue.{Hom}

module _ (R : CRing) (d : ℕ) (w : Vec R.Car d) where
  open R use {Car, 𝟘, 𝟙}

  abbrev K : CRing
  K = PolyRing R

  -- a residue of x: that of x with any bound
  abbrev Rest : P R → Type 0
  Rest x = (v : Vec Car d) × ((b : Bounded R x.0) → residue R d w (unbundle R b) ≡ v)

  rest_prop : (x : P R) → IsProp (Rest x)
  rest_prop x r s =
      Σ_prop_path (λ v. Π_prop (λ b. Vec-set R.is_set d _ v))
      (∥∥₁_elim x.1 (Vec-set R.is_set d r.0 s.0) (λ b. sym (r.1 b) ∙ s.1 b))

  rest : (x : P R) → Rest x
  rest x = ∥∥₁_elim x.1 (rest_prop x) (λ b. (residue R d w (unbundle R b), λ c. residue_respects R d w (same R d w refl)))

  pub residueᴷ : P R → Vec R.Car d
  residueᴷ x = (rest x).0

  pub residueᴷ-poly : (p : Poly R) → residueᴷ (↑ R p) ≡ residue R d w p
  unfolding residueᴷ
  residueᴷ-poly p = sym ((rest (↑ R p)).1 (p.bound, p.below))

  -- the residue map keeps sums, products and one
  sums : (x y : P R) → residueᴷ (K.◌⊕◌ x y) ≡ (Quotient R d w).◌⊕◌ (residueᴷ x) (residueᴷ y)
  sums x y =
      each R (λ x. residueᴷ (K.◌⊕◌ x y) ≡ (Quotient R d w).◌⊕◌ (residueᴷ x) (residueᴷ y)) (λ x. Vec-set R.is_set d _ _) (λ p.
      each R (λ y. residueᴷ (K.◌⊕◌ (↑ R p) y) ≡ (Quotient R d w).◌⊕◌ (residueᴷ (↑ R p)) (residueᴷ y)) (λ y. Vec-set R.is_set d _ _) (λ q.
      ap residueᴷ (P-path R (K.◌⊕◌ (↑ R p) (↑ R q)) (↑ R (◌+ᴾ◌ R p q)) (λ n. refl))
      ∙ residueᴷ-poly (◌+ᴾ◌ R p q) ∙ residue-+ R d w p q ∙ ap₂ (Quotient R d w).◌⊕◌ (sym (residueᴷ-poly p)) (sym (residueᴷ-poly q))) y) x

  products : (x y : P R) → residueᴷ (K.◌⊗◌ x y) ≡ (Quotient R d w).◌⊗◌ (residueᴷ x) (residueᴷ y)
  products x y =
      each R (λ x. residueᴷ (K.◌⊗◌ x y) ≡ (Quotient R d w).◌⊗◌ (residueᴷ x) (residueᴷ y)) (λ x. Vec-set R.is_set d _ _) (λ p.
      each R (λ y. residueᴷ (K.◌⊗◌ (↑ R p) y) ≡ (Quotient R d w).◌⊗◌ (residueᴷ (↑ R p)) (residueᴷ y)) (λ y. Vec-set R.is_set d _ _) (λ q.
      ap residueᴷ (P-path R (K.◌⊗◌ (↑ R p) (↑ R q)) (↑ R (◌*ᴾ◌ R p q)) (λ n. refl))
      ∙ residueᴷ-poly (◌*ᴾ◌ R p q) ∙ residue-* R d w p q ∙ ap₂ (Quotient R d w).◌⊗◌ (sym (residueᴷ-poly p)) (sym (residueᴷ-poly q))) y) x

  pub residueʰ : Hom (PolyRing R) (Quotient R d w)
  residueʰ = record { fun = residueᴷ; on_⊕ = sums; on_⊗ = products; on_𝟙 = residueᴷ-poly (constᴾ R 𝟙) ∙ residue_1 R d w }

  pub residueʰ-poly : (p : Poly R) → residueʰ.fun (↑ R p) ≡ residue R d w p
  unfolding residueʰ
  residueʰ-poly p = residueᴷ-poly p

  pub residue_onto : (v : Vec Car d) → residueʰ.fun (pol R d v) ≡ v
  residue_onto v = residueʰ-poly (poly R d v) ∙ residue-poly R d w v

  pub residue_kernel : (x : P R) → (residueʰ.fun x ≡ (Quotient R d w).𝟘) ↔ Dvd (PolyRing R) (mon R d w) x
  residue_kernel x = (
    each R (λ x. residueʰ.fun x ≡ (Quotient R d w).𝟘 → Dvd K (mon R d w) x) (λ x. Π_prop (λ _. dvd_monic_prop R d w x)) there x,
    each R (λ x. Dvd K (mon R d w) x → residueʰ.fun x ≡ (Quotient R d w).𝟘) (λ x. Π_prop (λ _. Vec-set R.is_set d _ _)) back x,
  )
    where
      there : (p : Poly R) → residueʰ.fun (↑ R p) ≡ (Quotient R d w).𝟘 → Dvd K (mon R d w) (↑ R p)
      there p h =
          let k = (kernel R d w p).0 (sym (residueʰ-poly p) ∙ h) in
          record { times = ↑ R k.0; eq = P-path R _ _ (λ n. ap (λ f. f n) (k.1 ∙ (SeriesRing R).⊗_comm _ _)) }

      back : (p : Poly R) → Dvd K (mon R d w) (↑ R p) → residueʰ.fun (↑ R p) ≡ (Quotient R d w).𝟘
      back p h =
          ∥∥₁_elim h.times.1 (Vec-set R.is_set d _ _) (λ b.
          residueʰ-poly p ∙ (kernel R d w p).1 (unbundle R b, ap (λ x. x.0) h.eq ∙ (SeriesRing R).⊗_comm _ _))

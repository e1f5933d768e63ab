-- Monic polynomials as divisors in R[z]: a monic polynomial divides what leaves no remainder and nothing else. R may have zero divisors.
--
-- dvd_remainder                 == a monic polynomial divides exactly what leaves the remainder zero
use Rattle.std.specs.Prelude.{◌≡◌, ◌↔◌, ℕ}
use Rattle.std.proofs.Math.Path.{ap, sym, fun_ext}
use Rattle.std.proofs.Common.{◌∙◌}
use Rattle.std.proofs.Math.Logic.{∥∥₁_elim}
use Rattle.algebra.specs.Ring.{CRing}
use Rattle.algebra.specs.Vec.{Vec, Vec-set, zeroᵛ, coef-zero}
use Rattle.algebra.specs.Series.{SeriesRing}
use Rattle.algebra.specs.Poly.{crown}
use Rattle.algebra.specs.Divide.{remainder, quotient}
use Rattle.algebra.proofs.Divide.{remainder_is}
use Rattle.algebra.specs.Divisor.{Dvd}
use Rattle.algebra.specs.PolyRing.{P-path, PolyRing, pol, mon}
use Rattle.algebra.proofs.PolyRing.{divided-pol}

module _ (R : CRing) where
  open R use {Car, 𝟘, is_set}
  open SeriesRing R use {◌⊕◌ as ◌+ˢ◌, ◌⊗◌ as ◌*ˢ◌}
  open PolyRing R use {◌⊕◌ as ◌+ᴷ◌, ◌⊗◌ as ◌*ᴷ◌}

  infixl 65 ◌+ˢ◌ ◌+ᴷ◌
  infixl 70 ◌*ˢ◌ ◌*ᴷ◌
  abbrev K : CRing
  K = PolyRing R

  abbrev S : CRing
  S = SeriesRing R

  module _ (d : ℕ) (w : Vec Car d) where
    pub dvd_remainder : (n : ℕ) (v : Vec Car n) → Dvd K (mon R d w) (pol R n v) ↔ (remainder R d w n v ≡ zeroᵛ 𝟘 d)
    dvd_remainder n v = (there, back)
      where
        there : Dvd K (mon R d w) (pol R n v) → remainder R d w n v ≡ zeroᵛ 𝟘 d
        there h =
            ∥∥₁_elim h.times.1 (Vec-set is_set d _ _) (λ b.
            remainder_is R d w n v b.0 h.times.0 (zeroᵛ 𝟘 d) b.1
            (ap (λ x. x.0) h.eq ∙ S.⊗_comm _ _ ∙ sym (S.⊕_zero _) ∙ ap (λ f. h.times.0 *ˢ crown R d w +ˢ f) (sym (fun_ext (coef-zero 𝟘 d)))))

        back : remainder R d w n v ≡ zeroᵛ 𝟘 d → Dvd K (mon R d w) (pol R n v)
        back e = record {
          times = pol R n (quotient R d w n v);
          eq = divided-pol R d w n v
              ∙ ap (λ x. pol R n (quotient R d w n v) *ᴷ mon R d w +ᴷ x) (ap (pol R d) e ∙ P-path R _ _ (coef-zero 𝟘 d))
              ∙ K.⊕_zero _ ∙ K.⊗_comm _ _;
        }

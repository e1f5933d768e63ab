-- The residue ring R[z]/m of a monic m of degree d: vectors of d coefficients, added by places, multiplied by the remainder of the product.
-- (proofs/Quotient.antt: that it is a ring.)
--
-- Cong R d w p p' == p and p' differ by a multiple of m: same, cong_refl, cong_sym, cong_trans, cong_+, cong_*
-- residue R d w p == the residue of the polynomial p modulo the monic one with the d coefficients w under its 1
-- mulᵛ, oneᵛ           == the product and the one of the residue ring;  residue_1 == the residue map keeps one
use Rattle.std.specs.Prelude.{◌≡◌, ℕ}
use Rattle.std.proofs.Math.Path.{refl, sym}
use Rattle.std.proofs.Common.{ap, ap₂, ◌∙◌}
use Rattle.algebra.specs.Ring.{CRing}
use Rattle.algebra.specs.Solve.{◌:+◌, ◌:*◌, ◌≐◌, :~◌, c0, solve₂, solve₃, solve₄, solve₅}
use Rattle.algebra.specs.Vec.{Vec, trunc}
use Rattle.algebra.specs.Series.{Series, SeriesRing}
use Rattle.algebra.specs.Poly.{Poly, 0ᴾ, constᴾ, ◌+ᴾ◌, -ᴾ◌, ◌*ᴾ◌, poly, monic, crown}
use Rattle.algebra.specs.Divide.{remainder}

module _ (R : CRing) (d : ℕ) (w : Vec R.Car d) where
  open R use {Car, 𝟙}
  open SeriesRing R use {◌⊕◌ as ◌+ˢ◌, ◌⊗◌ as ◌*ˢ◌, ⊖◌ as -ˢ◌}

  infixl 65 ◌+ˢ◌
  infixl 70 ◌*ˢ◌
  infix 75 -ˢ◌
  abbrev S : CRing
  S = SeriesRing R

  abbrev m : Series R
  m = crown R d w

  -- p and p' differ by a multiple of m
  pub record Cong (p p' : Poly R) : Type 0 where
    pub by : Poly R
    pub eq : p.co ≡ p'.co +ˢ by.co *ˢ m

  pub same : {p p' : Poly R} → p.co ≡ p'.co → Cong p p'
  same {p} {p'} e = record { by = 0ᴾ R; eq = e ∙ solve₂ S p'.co m (λ x m. x ≐ x :+ c0 :* m) refl }

  pub cong_refl : (p : Poly R) → Cong p p
  cong_refl p = same refl

  pub cong_sym : {p p' : Poly R} → Cong p p' → Cong p' p
  cong_sym {p} {p'} h = record {
    by = -ᴾ◌ R h.by;
    eq = solve₃ S p'.co h.by.co m (λ x q m. x ≐ (x :+ q :* m) :+ (:~ q) :* m) refl ∙ ap (λ x. x +ˢ (-ˢ h.by.co) *ˢ m) (sym h.eq);
  }

  pub cong_trans : {p p' p'' : Poly R} → Cong p p' → Cong p' p'' → Cong p p''
  cong_trans {p} {p'} {p''} h k = record {
    by = ◌+ᴾ◌ R h.by k.by;
    eq = h.eq ∙ ap (λ x. x +ˢ h.by.co *ˢ m) k.eq ∙ solve₄ S p''.co h.by.co k.by.co m (λ x q r m. x :+ r :* m :+ q :* m ≐ x :+ (q :+ r) :* m) refl;
  }

  pub cong_+ : {p p' q q' : Poly R} → Cong p p' → Cong q q' → Cong (◌+ᴾ◌ R p q) (◌+ᴾ◌ R p' q')
  cong_+ {p} {p'} {q} {q'} h k = record {
    by = ◌+ᴾ◌ R h.by k.by;
    eq = ap₂ ◌+ˢ◌ h.eq k.eq
        ∙ solve₅ S p'.co q'.co h.by.co k.by.co m (λ x y q r m. (x :+ q :* m) :+ (y :+ r :* m) ≐ (x :+ y) :+ (q :+ r) :* m) refl;
  }

  pub cong_* : {p p' q q' : Poly R} → Cong p p' → Cong q q' → Cong (◌*ᴾ◌ R p q) (◌*ᴾ◌ R p' q')
  cong_* {p} {p'} {q} {q'} h k = record {
    by = ◌+ᴾ◌ R (◌+ᴾ◌ R (◌*ᴾ◌ R h.by q') (◌*ᴾ◌ R p' k.by)) (◌*ᴾ◌ R (◌*ᴾ◌ R h.by k.by) (monic R d w));
    eq = ap₂ ◌*ˢ◌ h.eq k.eq
        ∙ solve₅ S p'.co q'.co h.by.co k.by.co m
        (λ x y q r m. (x :+ q :* m) :* (y :+ r :* m) ≐ x :* y :+ (q :* y :+ x :* r :+ q :* r :* m) :* m) refl;
  }

  -- the residue of a polynomial
  unfoldable pub residue : Poly R → Vec Car d
  residue p = remainder R d w p.bound (trunc p.bound p.co)

  unfoldable pub mulᵛ : Vec Car d → Vec Car d → Vec Car d
  mulᵛ u v = residue (◌*ᴾ◌ R (poly R d u) (poly R d v))

  unfoldable pub oneᵛ : Vec Car d
  oneᵛ = residue (constᴾ R 𝟙)

  pub residue_1 : residue (constᴾ R 𝟙) ≡ oneᵛ
  unfolding oneᵛ
  residue_1 = refl

-- The inverse one level up, as a program follows it that does not scale its polynomials (Lazy): what it starts from, and what is carried.
-- (proofs/LazyInverse.antt: the inverse is what that sequence comes to.)
--
-- elements_linear    == the elements that are carried may be scaled later
-- modulus, modulus-led, element == the two at the start, with the inverses of their leading coefficients: m with 1 and 0 carried; c with 1 carried
-- less-low           == what is carried needs no reduction: where the degrees are low enough, x less q y is so by coefficients;  less_below == its degree
use Rattle.std.specs.Prelude.{◌≡◌, refl, ℕ, suc, ◌+◌, ◌≤◌}
use Rattle.std.proofs.Math.Path.{ap, ap₂, fun_ext}
use Rattle.std.proofs.Common.{sym, ◌∙◌, arith}
use Rattle.algebra.specs.Ring.{CRing, group_of}
use Rattle.algebra.specs.Solve.{◌:-◌, ◌:*◌, ◌≐◌, c0, solve₂, solve₅}
use Rattle.algebra.specs.Vec.{Vec, Below, coef, zeroᵛ, trunc, coef-zero, coef-trunc, coef-add, coef-neg}
use Rattle.algebra.specs.Series.{SeriesRing, const-*}
use Rattle.algebra.specs.Poly.{constᴾ, poly, ◌*ᴾ◌, *_below}
use Rattle.algebra.specs.UnitDivide.{scaleᵛ, coef-scale}
use Rattle.algebra.specs.Quotient.{residue, same}
use Rattle.algebra.proofs.Quotient.{Quotient, residue-is, residue_respects, residue-*, mul-l}
use Rattle.euclid.specs.Level.{Level}
use Rattle.euclid.specs.Inverse.{elements, residue-scale}
use Rattle.euclid.specs.Lazy.{Led, led, UnitLed, Linear, scale-scale}

module _ (L : Level) (d : ℕ) (m : Vec L.ring.Car d) where
  open L.ring use {Car, 𝟘, 𝟙, ◌⊕◌, ⊖◌}
  open SeriesRing L.ring use {◌⊗◌ as ◌*ˢ◌}
  open Quotient L.ring d m use {𝟘 as 0ᵠ, 𝟙 as 1ᵠ, ◌⊕◌ as ◌+ᵠ◌, ◌⊗◌ as ◌*ᵠ◌, ⊖◌ as -ᵠ◌}

  infixl 65 ◌⊕◌ ◌+ᵠ◌
  infixl 70 ◌*ˢ◌ ◌*ᵠ◌
  infix 75 ⊖◌ -ᵠ◌
  abbrev R : CRing
  R = L.ring

  abbrev Q : CRing
  Q = Quotient L.ring d m

  -- ---- what is carried
  -- the residues of a polynomial of n coefficients, and of a constant
  abbrev res : (n : ℕ) → Vec Car n → Vec Car d
  res n q = residue R d m (poly R n q)

  abbrev con : Car → Vec Car d
  con a = residue R d m (constᴾ R a)

  -- the residue of a multiple, and of zero
  res-scale : (n : ℕ) (a : Car) (q : Vec Car n) → res n (scaleᵛ R n a q) ≡ con a *ᵠ res n q
  res-scale n a q =
      residue_respects R d m {p = poly R n (scaleᵛ R n a q)} {p' = ◌*ᴾ◌ R (constᴾ R a) (poly R n q)}
      (same R d m (fun_ext (λ j. coef-scale R n a q j ∙ sym (const-* R a (coef 𝟘 n q) j))))
      ∙ residue-* R d m (constᴾ R a) (poly R n q)

  res-none : (n : ℕ) → res n (zeroᵛ 𝟘 n) ≡ 0ᵠ
  res-none n = residue-is R d m (same R d m (fun_ext (λ j. coef-zero 𝟘 n j ∙ sym (coef-zero 𝟘 d j))))

  -- so a constant may be multiplied in later
  pub elements_linear : Linear L.ring (elements L d m)
  elements_linear = record {
    times_times = scale-scale R d;
    less_scale = λ n q u v x y.
        ap₂ (λ a b. a +ᵠ (-ᵠ b)) (sym (residue-scale L d m u x)) (ap₂ ◌*ᵠ◌ (res-scale n u q) (sym (residue-scale L d m v y)))
        ∙ solve₅ Q (con u) (con v) x (res n q) y (λ u v x q y. u :* x :- (u :* q) :* (v :* y) ≐ u :* (x :- (v :* q) :* y)) refl
        ∙ residue-scale L d m u _ ∙ ap (λ r. scaleᵛ R d u (x +ᵠ (-ᵠ (r *ᵠ y)))) (sym (res-scale n v q));
    less_none = λ n x y. ap (λ r. x +ᵠ (-ᵠ (r *ᵠ y))) (res-none n) ∙ solve₂ Q x y (λ x y. x :- c0 :* y ≐ x) refl;
  }

  -- q is zero from a on and y from b on; where a + b ≤ d + 1 their product is its own residue
  module _ (x : Vec Car d) (k : ℕ) (q : Vec Car k) (y : Vec Car d) (a b : ℕ) (qa : Below 𝟘 a (coef 𝟘 k q)) (yb : Below 𝟘 b (coef 𝟘 d y)) where
    -- so what is left of x is so by coefficients
    pub less-low : a + b ≤ suc d → (n : ℕ) → coef 𝟘 d ((elements L d m).less x k q y) n ≡ coef 𝟘 d x n ⊕ (⊖ (coef 𝟘 k q *ˢ coef 𝟘 d y) n)
    less-low l n =
        coef-add (group_of R) d x (-ᵠ (res k q *ᵠ y)) n
        ∙ ap (λ z. coef 𝟘 d x n ⊕ z) (coef-neg (group_of R) d (res k q *ᵠ y) n ∙ ap (λ z. ⊖ z) (ap (λ v. coef 𝟘 d v n) product ∙ own n))
      where
        own : (n : ℕ) → coef 𝟘 d (trunc d (coef 𝟘 k q *ˢ coef 𝟘 d y)) n ≡ (coef 𝟘 k q *ˢ coef 𝟘 d y) n
        own = coef-trunc 𝟘 d _ (λ n h. *_below R a b n _ _ qa yb (omega arith))

        product : res k q *ᵠ y ≡ trunc d (coef 𝟘 k q *ˢ coef 𝟘 d y)
        product = mul-l R d m (poly R k q) y ∙ residue-is R d m (same R d m (sym (fun_ext own)))

    -- and zero from c on, where x is and a + b ≤ c + 1
    pub less_below : (c : ℕ) → c ≤ d → a + b ≤ suc c → Below 𝟘 c (coef 𝟘 d x) → Below 𝟘 c (coef 𝟘 d ((elements L d m).less x k q y))
    less_below c l h xc n low =
        less-low (omega arith) n ∙ ap₂ (λ s t. s ⊕ (⊖ t)) (xc n low) (*_below R a b n _ _ qa yb (omega arith)) ∙ R.⊕_neg 𝟘

  -- ---- the sequence
  -- the modulus is monic and carries 0, an element with the leading coefficient k, of inverse i, carries 1
  abbrev pub modulus : Led Car (Vec Car d)
  modulus = led d m 𝟙 𝟙 (zeroᵛ 𝟘 d)

  -- 1 is the inverse of 1
  pub modulus-led : UnitLed L.ring modulus
  modulus-led = R.⊗_one 𝟙

  abbrev pub element : (e : ℕ) → Vec Car e → Car → Car → Led Car (Vec Car d)
  element e u k i = led e u k i 1ᵠ

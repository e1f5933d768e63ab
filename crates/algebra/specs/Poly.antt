-- Polynomials over a commutative ring: coefficient functions with a bound. The product's honest degree: below a times below b is below a + b - 1,
-- and its coefficient there is the product of the two at the top, which may be zero.
--
-- Poly R         == a coefficient function that is zero from a given bound on
-- poly R d v     == the polynomial with the d coefficients v
-- monic R d w    == the monic polynomial of degree d with the coefficients w under its leading 1; crown R d w == its coefficient function
-- *_below, *-top == the product's degree
use Rattle.std.specs.Prelude.{◌≡◌, refl, ℕ, zero, suc, ◌+◌, ◌≤◌}
use Rattle.std.proofs.Common.{ap, ap₂, ◌∙◌, arith}
use Rattle.std.proofs.Math.Path.{fun_ext}
use Rattle.algebra.specs.Ring.{CRing, zero-⊕, ⊗-zero, neg-zero}
use Rattle.algebra.specs.Vec.{Vec, coef, Below, below_mono, below_tail, topped, coef_below, topped-top}
use Rattle.algebra.specs.Series.{Series, SeriesRing, tail, cons, const, scale, *ˢ-zero, *ˢ_suc, 0ˢ-*}

module _ (R : CRing) where
  open R use {Car, 𝟘, 𝟙, ◌⊕◌, ◌⊗◌, ⊖◌, ⊕_zero}
  open SeriesRing R use {𝟘 as 0ˢ, 𝟙 as 1ˢ, ◌⊕◌ as ◌+ˢ◌, ◌⊗◌ as ◌*ˢ◌, ⊖◌ as -ˢ◌}

  infixl 65 ◌⊕◌ ◌+ˢ◌ ◌+ᴾ◌
  infixl 70 ◌⊗◌ ◌*ˢ◌ ◌*ᴾ◌
  infix 75 ⊖◌ -ˢ◌ -ᴾ◌
  pub below_all : (f : Series R) → Below 𝟘 0 f → f ≡ 0ˢ
  below_all f p = fun_ext (λ n. p n (omega arith))

  pub below_+ : {k : ℕ} (f g : Series R) → Below 𝟘 k f → Below 𝟘 k g → Below 𝟘 k (f +ˢ g)
  below_+ f g p q n l = ap₂ ◌⊕◌ (p n l) (q n l) ∙ ⊕_zero 𝟘

  pub below_neg : {k : ℕ} (f : Series R) → Below 𝟘 k f → Below 𝟘 k (-ˢ f)
  below_neg f p n l = ap (λ x. ⊖ x) (p n l) ∙ neg-zero R

  pub below_scale : {k : ℕ} (a : Car) (f : Series R) → Below 𝟘 k f → Below 𝟘 k (scale R a f)
  below_scale a f p n l = ap (λ x. a ⊗ x) (p n l) ∙ ⊗-zero R a

  pub below_cons : {k : ℕ} (a : Car) (f : Series R) → Below 𝟘 k f → Below 𝟘 (suc k) (cons R a f)
  below_cons a f p zero l = absurd (omega arith)
  below_cons a f p (suc n) l = p n (omega arith)

  pub *_below : (a b n : ℕ) (f g : Series R) → Below 𝟘 a f → Below 𝟘 b g → a + b ≤ suc n → (f *ˢ g) n ≡ 𝟘
  *_below zero b n f g p q l = rw (below_all f p) (0ˢ-* R g n)
  *_below (suc a) b zero f g p q l = rw (*ˢ-zero R f g, q zero (omega arith)) (⊗-zero R _)
  *_below (suc a) b (suc n) f g p q l =
      rw (*ˢ_suc R f g n, q (suc n) (omega arith), *_below a b n (tail R f) g (below_tail 𝟘 f p) q (omega arith)) (⊕_zero _ ∙ ⊗-zero R _)

  *-top-at : (b n : ℕ) (f g : Series R) → Below 𝟘 1 f → n ≡ b → (f *ˢ g) n ≡ f zero ⊗ g b
  *-top-at zero zero f g p e = *ˢ-zero R f g
  *-top-at (suc b) zero f g p e = absurd (omega arith)
  *-top-at zero (suc n) f g p e = absurd (omega arith)
  *-top-at (suc b) (suc n) f g p e =
      let h : n ≡ b = omega arith in
      rw (← h, *ˢ_suc R f g n, below_all (tail R f) (below_tail 𝟘 f p), 0ˢ-* R g n) (⊕_zero _)

  pub *-top : (a b n : ℕ) (f g : Series R) → Below 𝟘 (suc a) f → Below 𝟘 (suc b) g → n ≡ a + b → (f *ˢ g) n ≡ f a ⊗ g b
  *-top zero b n f g p q e = *-top-at b n f g p (omega arith)
  *-top (suc a) b zero f g p q e = absurd (omega arith)
  *-top (suc a) b (suc n) f g p q e =
      rw (*ˢ_suc R f g n, q (suc n) (omega arith), *-top a b n (tail R f) g (below_tail 𝟘 f p) q (omega arith), ⊗-zero R _) (zero-⊕ R _)

  -- coefficients and a bound
  pub record Poly : Type 0 where
    pub co : Series R
    pub bound : ℕ
    pub below : Below 𝟘 bound co

  abbrev pub 0ᴾ : Poly
  0ᴾ = record { co = 0ˢ; bound = 0; below = λ n l. refl }

  abbrev pub constᴾ : Car → Poly
  constᴾ a = record { co = const R a; bound = 1; below = below_cons a 0ˢ (λ n l. refl) }

  abbrev pub ◌+ᴾ◌ : Poly → Poly → Poly
  p +ᴾ q = record {
    co = p.co +ˢ q.co;
    bound = p.bound + q.bound;
    below = below_+ p.co q.co (below_mono 𝟘 p.co (omega arith) p.below) (below_mono 𝟘 q.co (omega arith) q.below);
  }

  abbrev pub -ᴾ◌ : Poly → Poly
  -ᴾ p = record { co = -ˢ p.co; bound = p.bound; below = below_neg p.co p.below }

  abbrev pub ◌*ᴾ◌ : Poly → Poly → Poly
  p *ᴾ q = record {
    co = p.co *ˢ q.co;
    bound = p.bound + q.bound;
    below = λ n l. *_below p.bound q.bound n p.co q.co p.below q.below (omega arith);
  }

  abbrev pub poly : (d : ℕ) → Vec Car d → Poly
  poly d v = record { co = coef 𝟘 d v; bound = d; below = coef_below 𝟘 d v }

  abbrev pub monic : (d : ℕ) → Vec Car d → Poly
  monic d w = poly (suc d) (topped d w 𝟙)

  abbrev pub crown : (d : ℕ) → Vec Car d → Series R
  crown d w = coef 𝟘 (suc d) (topped d w 𝟙)

  -- a monic factor: the coefficient of the product at the top is that of the other
  pub *-crown-top : (j n : ℕ) (q : Series R) (d : ℕ) (w : Vec Car d) → Below 𝟘 (suc j) q → n ≡ j + d → (q *ˢ crown d w) n ≡ q j
  *-crown-top j n q d w p e = *-top j d n q (crown d w) p (coef_below 𝟘 (suc d) (topped d w 𝟙)) e ∙ ap (λ x. q j ⊗ x) (topped-top 𝟘 d w 𝟙) ∙ R.⊗_one (q j)

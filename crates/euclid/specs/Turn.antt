-- One turn of the sequence as an equation in R[z], and combinations of two polynomials. (proofs/Turn.antt: what the whole sequence keeps.)
--
-- turned_is   == the next divisor is i times (f less q times g)
-- Comb        == g is a combination of a and b: comb_left, comb_right, comb_times, comb_less, comb_scaled
use Rattle.std.specs.Prelude.{◌≡◌, refl, [], ◌∷◌, ℕ}
use Rattle.std.proofs.Common.{ap, ap₂, sym, ◌∙◌}
use Rattle.algebra.specs.Ring.{CRing}
use Rattle.algebra.specs.Solve.{var, c0, c1, ◌:+◌, ◌:-◌, ◌:*◌, ◌≐◌, solve, solve₂}
use Rattle.algebra.specs.Vec.{Vec, coef}
use Rattle.algebra.specs.Series.{const-*}
use Rattle.algebra.specs.Divide.{quotient, remainder}
use Rattle.algebra.specs.UnitDivide.{scaleᵛ, made-monic}
use Rattle.algebra.specs.PolyRing.{P, P-path, PolyRing, pol, mon, con}
use Rattle.algebra.proofs.PolyRing.{remainder-pol}
use Rattle.euclid.specs.Level.{Level}
use Rattle.euclid.specs.Sequence.{Carry, Turned}

module _ (R : CRing) where
  open PolyRing R use {𝟘 as 0ᴷ, 𝟙 as 1ᴷ, ◌⊕◌ as ◌+ᴷ◌, ◌⊗◌ as ◌*ᴷ◌, ⊖◌ as -ᴷ◌}

  infixl 65 ◌+ᴷ◌
  infixl 70 ◌*ᴷ◌
  infix 75 -ᴷ◌
  abbrev Kᴿ : CRing
  Kᴿ = PolyRing R

  -- g is a combination of a and b
  pub record Comb (a b g : P R) : Type 0 where
    pub s : P R
    pub t : P R
    pub eq : g ≡ s *ᴷ a +ᴷ t *ᴷ b

  pub comb_left : (a b : P R) → Comb a b a
  comb_left a b = record { s = 1ᴷ; t = 0ᴷ; eq = solve₂ Kᴿ a b (λ a b. a ≐ c1 :* a :+ c0 :* b) refl }

  pub comb_right : (a b : P R) → Comb a b b
  comb_right a b = record { s = 0ᴷ; t = 1ᴷ; eq = solve₂ Kᴿ a b (λ a b. b ≐ c0 :* a :+ c1 :* b) refl }

  pub comb_times : (a b q f : P R) → Comb a b f → Comb a b (q *ᴷ f)
  comb_times a b q f c = record {
    s = q *ᴷ c.s;
    t = q *ᴷ c.t;
    eq = ap (λ x. q *ᴷ x) c.eq
        ∙ solve Kᴿ (a ∷ b ∷ q ∷ c.s ∷ c.t ∷ []) (var 2 :* (var 3 :* var 0 :+ var 4 :* var 1) ≐ var 2 :* var 3 :* var 0 :+ var 2 :* var 4 :* var 1) refl;
  }

  pub comb_less : (a b f g : P R) → Comb a b f → Comb a b g → Comb a b (f +ᴷ (-ᴷ g))
  comb_less a b f g c d = record {
    s = c.s +ᴷ (-ᴷ d.s);
    t = c.t +ᴷ (-ᴷ d.t);
    eq = ap₂ (λ x y. x +ᴷ (-ᴷ y)) c.eq d.eq
        ∙ solve Kᴿ (a ∷ b ∷ c.s ∷ c.t ∷ d.s ∷ d.t ∷ [])
        ((var 2 :* var 0 :+ var 3 :* var 1) :- (var 4 :* var 0 :+ var 5 :* var 1) ≐ (var 2 :- var 4) :* var 0 :+ (var 3 :- var 5) :* var 1) refl;
  }

  -- combinations of combinations: f of a and b, where a and b are multiples of x and y
  pub comb_scaled : (a b k l x y f : P R) → a ≡ k *ᴷ x → b ≡ l *ᴷ y → Comb a b f → Comb x y f
  comb_scaled a b k l x y f ea eb c = record {
    s = c.s *ᴷ k;
    t = c.t *ᴷ l;
    eq = c.eq ∙ ap₂ (λ u v. c.s *ᴷ u +ᴷ c.t *ᴷ v) ea eb
        ∙ solve Kᴿ (x ∷ y ∷ k ∷ l ∷ c.s ∷ c.t ∷ []) (var 4 :* (var 2 :* var 0) :+ var 5 :* (var 3 :* var 1) ≐ var 4 :* var 2 :* var 0 :+ var 5 :* var 3 :* var 1) refl;
  }

module _ (L : Level) (C : Carry L.ring.Car) where
  open L.ring use {Car, 𝟘, ◌⊗◌}
  open PolyRing L.ring use {◌⊕◌ as ◌+ᴷ◌, ◌⊗◌ as ◌*ᴷ◌, ⊖◌ as -ᴷ◌}

  infixl 65 ◌+ᴷ◌
  infixl 70 ◌⊗◌ ◌*ᴷ◌
  infix 75 -ᴷ◌
  abbrev R : CRing
  R = L.ring

  module _ (n : ℕ) (v : Vec Car n) (d : ℕ) (w : Vec Car d) (e : ℕ) (u : Vec Car e) (c i : Car) (t : Turned L C n v d w e u c i) where
    pub turned_is : mon R e (scaleᵛ R e i u) ≡ con R i *ᴷ (pol R n v +ᴷ (-ᴷ (pol R n (quotient R d w n v) *ᴷ mon R d w)))
    turned_is =
        P-path R _ _ (λ j. made-monic R e u c i t.unit j ∙ ap (λ x. i ⊗ x) (sym (t.rest j)) ∙ sym (const-* R i (coef 𝟘 d (remainder R d w n v)) j))
        ∙ ap (λ x. con R i *ᴷ x) (remainder-pol R d w n v)

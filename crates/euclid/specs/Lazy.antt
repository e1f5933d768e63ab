-- The sequence as a program follows it that does not scale its polynomials: beside each one it keeps the inverse of the leading coefficient, `unit`. The
-- sequence's polynomial is unit times the one that is kept, and so is what it carries. (proofs/Lazy.antt: how the sequence goes on.)
--
-- Led, led, whole, UnitLed      == a polynomial so kept; its coefficients with the leading one; unit is the inverse of that;  unit_times == times unit nothing becomes zero
-- rest, quot R f g              == the remainder and the quotient of f by g as they are kept;  rest_scaled == the sequence's remainder is unit times that one
-- Linear R C                    == what is carried may be scaled later;  nothing_linear
-- lazy k f g                    == the sequence of at most k remainders on unit times f and unit times g;  next == the pair (f, g) becomes (g, next)
-- lazy_null, lazy_never_long    == the remainder is zero; number 11 is not given;  next-led == the next is again kept with its inverse
-- lazy_constant                 == where g is a constant, the answer is 1
-- remainder-scale, quotient-scale, scale_one, scale-scale == of a multiple of the dividend; a vector times 1, and times two constants
use Rattle.std.specs.Prelude.{◌≡◌, refl, ℕ, zero, suc}
use Rattle.std.proofs.Math.Path.{ap, ap₂, fun_ext}
use Rattle.std.proofs.Common.{sym, ◌∙◌, arith}
use Rattle.algebra.specs.Ring.{CRing, one-⊗, ⊗-zero}
use Rattle.algebra.specs.Solve.{◌:*◌, ◌≐◌, solve₃}
use Rattle.algebra.specs.Vec.{Vec, coef, zeroᵛ, topped, coef_below, coef_inj}
use Rattle.algebra.specs.Shape.{lead, Stripped, strip_null}
use Rattle.algebra.specs.Series.{Series, SeriesRing, scale, *ˢ-scale}
use Rattle.algebra.specs.Poly.{crown, below_scale}
use Rattle.algebra.specs.Divide.{quotient, remainder}
use Rattle.algebra.proofs.Divide.{divided, quotient_is, remainder_is}
use Rattle.algebra.specs.UnitDivide.{scaleᵛ, coef-scale, quotientᵘ, remainderᵘ}
use Rattle.euclid.specs.Answer.{Answer, done, long}
use Rattle.euclid.specs.Level.{Level, Good}
use Rattle.euclid.specs.Sequence.{Carry, Ended, ended, seq, seq_null}
use Rattle.euclid.specs.Gcd.{nothing}
use Rattle.euclid.specs.Demand.{inv_done, inv_never_long}

-- ---- vectors times constants, and what they do to a division
module _ (R : CRing) where
  open R use {Car, 𝟘, 𝟙, ◌⊕◌, ◌⊗◌, ⊗_assoc, ⊗_dist}
  open SeriesRing R use {◌⊕◌ as ◌+ˢ◌, ◌⊗◌ as ◌*ˢ◌}

  infixl 65 ◌⊕◌ ◌+ˢ◌
  infixl 70 ◌⊗◌ ◌*ˢ◌
  -- times 1, and times two constants
  pub scale_one : (d : ℕ) (v : Vec Car d) → scaleᵛ R d 𝟙 v ≡ v
  scale_one zero v = refl
  scale_one (suc d) v = λ i. (one-⊗ R v.0 i, scale_one d v.1 i)

  pub scale-scale : (d : ℕ) (a b : Car) (v : Vec Car d) → scaleᵛ R d a (scaleᵛ R d b v) ≡ scaleᵛ R d (a ⊗ b) v
  scale-scale zero a b v = refl
  scale-scale (suc d) a b v = λ i. (sym (⊗_assoc a b v.0) i, scale-scale d a b v.1 i)

  -- a times the dividend, by a monic polynomial: a times the quotient and a times the remainder
  module _ (d : ℕ) (w : Vec Car d) (n : ℕ) (v : Vec Car n) (a : Car) where
    -- the quotient's coefficients
    abbrev q : Series R
    q = coef 𝟘 n (quotient R d w n v)

    -- a v is (a q) times the divisor plus a times the remainder
    scaled : coef 𝟘 n (scaleᵛ R n a v) ≡ scale R a q *ˢ crown R d w +ˢ coef 𝟘 d (scaleᵛ R d a (remainder R d w n v))
    scaled =
        fun_ext (λ j. coef-scale R n a v j ∙ ap (λ f. a ⊗ f j) (divided R d w n v) ∙ ⊗_dist _ _ _
        ∙ ap₂ ◌⊕◌ (sym (*ˢ-scale R a q (crown R d w) j)) (sym (coef-scale R d a (remainder R d w n v) j)))

    pub remainder-scale : remainder R d w n (scaleᵛ R n a v) ≡ scaleᵛ R d a (remainder R d w n v)
    remainder-scale = remainder_is R d w n _ n (scale R a q) _ (below_scale R a q (coef_below 𝟘 n (quotient R d w n v))) scaled

    pub quotient-scale : quotient R d w n (scaleᵛ R n a v) ≡ scaleᵛ R n a (quotient R d w n v)
    quotient-scale =
        coef_inj 𝟘 n _ _ (λ j.
        ap (λ f. f j) (quotient_is R d w n _ n (scale R a q) _ (below_scale R a q (coef_below 𝟘 n (quotient R d w n v))) scaled)
        ∙ sym (coef-scale R n a (quotient R d w n v) j))

-- ---- a polynomial, its leading coefficient and the inverse of that, with what it carries
pub record Led (A X : Type 0) : Type 0 where
  pub degree : ℕ
  pub low : Vec A degree
  pub top : A
  pub unit : A
  pub carried : X

-- of degree d: its coefficients u under c, the inverse i of c, and x carried
abbrev pub led : {A X : Type 0} (d : ℕ) → Vec A d → A → A → X → Led A X
led d u c i x = record { degree = d; low = u; top = c; unit = i; carried = x }

-- its coefficients with the leading one
abbrev pub whole : {A X : Type 0} (f : Led A X) → Vec A (suc f.degree)
whole f = topped f.degree f.low f.top

-- unit is the inverse of the leading coefficient
abbrev pub UnitLed : (R : CRing) {X : Type 0} → Led R.Car X → Type 0
UnitLed R f = R.◌⊗◌ f.unit f.top ≡ R.𝟙

-- the remainder and the quotient of f by g
abbrev pub rest : (R : CRing) {X : Type 0} (f g : Led R.Car X) → Vec R.Car g.degree
rest R f g = remainderᵘ R g.degree g.low g.unit (suc f.degree) (whole f)

abbrev pub quot : (R : CRing) {X : Type 0} (f g : Led R.Car X) → Vec R.Car (suc f.degree)
quot R f g = quotientᵘ R g.degree g.low g.unit (suc f.degree) (whole f)

-- ---- what is carried may be scaled later: u x less (u Q) times (v y) is u times (x less (v Q) times y); a quotient that is zero takes nothing
pub record Linear (R : CRing) (C : Carry R.Car) : Type 0 where
  pub times_times : (a b : R.Car) (x : C.X) → C.times a (C.times b x) ≡ C.times (R.◌⊗◌ a b) x
  pub less_scale : (n : ℕ) (Q : Vec R.Car n) (u v : R.Car) (x y : C.X)
      → C.less (C.times u x) n (scaleᵛ R n u Q) (C.times v y) ≡ C.times u (C.less x n (scaleᵛ R n v Q) y)
  pub less_none : (n : ℕ) (x y : C.X) → C.less x n (zeroᵛ R.𝟘 n) y ≡ x

-- where nothing is carried
pub nothing_linear : (R : CRing) → Linear R (nothing R.Car)
nothing_linear R = record { times_times = λ a b x. refl; less_scale = λ n Q u v x y. refl; less_none = λ n x y. refl }

module _ (R : CRing) where
  open R use {Car, 𝟘, ◌⊗◌}

  infixl 70 ◌⊗◌
  -- a unit times what is not zero is not zero
  pub unit_times : {X : Type 0} (f : Led Car X) → UnitLed R f → (c : Car) → ¬ (c ≡ 𝟘) → ¬ (f.unit ⊗ c ≡ 𝟘)
  unit_times f h c nz z =
      nz (sym (one-⊗ R c) ∙ ap (λ x. x ⊗ c) (sym h) ∙ solve₃ R f.unit f.top c (λ u t c. u :* t :* c ≐ t :* (u :* c)) refl
      ∙ ap (λ x. f.top ⊗ x) z ∙ ⊗-zero R _)

-- ---- the sequence
module _ (L : Level) (C : Carry L.ring.Car) where
  open L use {Shown, inv}
  open L.ring use {Car, 𝟘, ◌⊗◌, ⊗_assoc}
  open C use {X, times, less}

  infixl 70 ◌⊗◌
  abbrev R : CRing
  R = L.ring

  -- at most k remainders, on f times its unit, which carries that times its own, and g likewise
  unfoldable pub lazy : ℕ → Led Car X → Led Car X → Answer Shown (Ended Car X)
  lazy k f g =
      seq L C k (suc f.degree) (scaleᵛ R (suc f.degree) f.unit (whole f)) (times f.unit f.carried)
      g.degree (scaleᵛ R g.degree g.unit g.low) (times g.unit g.carried)

  -- what follows g: the remainder, its leading coefficient c, and i the inverse of f's unit times c
  abbrev pub next : (f g : Led Car X) (e : ℕ) → Vec Car e → Car → Car → Led Car X
  next f g e u c i = led e u c (i ⊗ f.unit) (less f.carried (suc f.degree) (quot R f g) g.carried)

  -- the sequence's remainder is unit times the one that is kept
  pub rest_scaled : (f g : Led Car X) (j : ℕ)
      → coef 𝟘 g.degree (remainder R g.degree (scaleᵛ R g.degree g.unit g.low) (suc f.degree) (scaleᵛ R (suc f.degree) f.unit (whole f))) j
      ≡ f.unit ⊗ coef 𝟘 g.degree (rest R f g) j
  rest_scaled f g j = ap (λ v. coef 𝟘 g.degree v j) (remainder-scale R g.degree _ _ (whole f) f.unit) ∙ coef-scale R g.degree f.unit (rest R f g) j

  -- the remainder is zero: the divisor is the answer
  pub lazy_null : (k : ℕ) (f g : Led Car X) → ((j : ℕ) → coef 𝟘 g.degree (rest R f g) j ≡ 𝟘)
      → lazy (suc k) f g ≡ done (ended g.degree (scaleᵛ R g.degree g.unit g.low) (times g.unit g.carried))
  unfolding lazy
  lazy_null k f g z =
      seq_null L C k _ _ _ _ _ _ (strip_null L.zero_test g.degree _ (λ j. rest_scaled f g j ∙ ap (λ x. f.unit ⊗ x) (z j) ∙ ⊗-zero R _))

  -- so it is where the divisor is a constant, and the answer has no coefficient under its leading 1
  pub lazy_constant : (k : ℕ) (f g : Led Car X) → g.degree ≡ 0 → lazy (suc k) f g ≡ done (ended 0 tt (times g.unit g.carried))
  lazy_constant k f g h =
      lazy_null k f g (λ j. coef_below 𝟘 g.degree (rest R f g) j (omega (arith, h))) ∙ ap done (go g.degree _ h)
    where
      go : (n : ℕ) (v : Vec Car n) → n ≡ 0 → ended n v (times g.unit g.carried) ≡ ended 0 tt (times g.unit g.carried)
      go zero v e = refl
      go (suc n) v e = absurd (omega (arith, e))

  -- or it has the leading coefficient c
  module _ (f g : Led Car X) (uf : UnitLed R f) (e : ℕ) (u : Vec Car e) (c : Car) (st : Stripped 𝟘 g.degree (rest R f g) (lead e u c)) where
    -- unit times c is not zero
    not_zero : ¬ (f.unit ⊗ c ≡ 𝟘)
    not_zero = unit_times R f uf c st.1

    -- it is never number 11
    pub lazy_never_long : Good L → ¬ (inv (f.unit ⊗ c) ≡ long)
    lazy_never_long G = inv_never_long L G (f.unit ⊗ c) not_zero

    -- it is i: the next polynomial is the remainder as it is, with i times unit as its inverse
    pub next-led : Good L → (i : Car) → inv (f.unit ⊗ c) ≡ done i → UnitLed R (next f g e u c i)
    next-led G i h = ⊗_assoc i f.unit c ∙ inv_done L G (f.unit ⊗ c) not_zero i h

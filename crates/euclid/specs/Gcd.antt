-- The GCD's sequence: "make a monic if it is not zero, then b likewise; then, while the second is not zero, the pair (f, g) becomes (g, the remainder of f by
-- g, made monic if not zero). The answer is the first. To make monic is to multiply by the inverse of the leading coefficient."
-- (proofs/Gcd.antt: the answer is the GCD.)
--
-- Made, nil, made  == zero, or a monic polynomial; with what it carries.  val == as an element of R[z];  wrap == a sequence's answer as one
-- made_count, made_coefficients == how many coefficients it has, and these
-- make, start      == to make monic; the sequence on two that are made
-- gcd_with         == the whole of it, with something carried;  gcd == with nothing carried;  gcd-right-zero == where b is zero
-- Gcd R a b g      == demand 3: g is monic, zero exactly when a and b are, a polynomial divides g precisely when it divides a and b
-- Scaled, MadeOf, make_ok == a made monic: of the same degree, and a unit times a
use Rattle.std.specs.Prelude.{◌≡◌, ◌↔◌, ℕ, suc, max}
use Rattle.std.proofs.Math.Path.{refl, ap, sym}
use Rattle.std.proofs.Common.{◌∙◌}
use Rattle.algebra.specs.Ring.{CRing}
use Rattle.algebra.specs.Vec.{Vec, Below, coef, topped, coef_below, topped-top}
use Rattle.algebra.specs.Shape.{Shape, null, lead, strip, Stripped, strip_ok}
use Rattle.algebra.specs.Series.{const-*}
use Rattle.algebra.specs.UnitDivide.{scaleᵛ, made-monic}
use Rattle.algebra.specs.Divisor.{Dvd}
use Rattle.algebra.specs.PolyRing.{P, P-path, PolyRing, pol, mon, con}
use Rattle.euclid.specs.Answer.{Answer, done, bind, bind_done, map, Holds, holds_bind}
use Rattle.euclid.specs.Level.{Level, Good}
use Rattle.euclid.specs.Sequence.{Carry, Ended, seq}

pub data Made (A X : Type 0) : Type 0 where
  nil : X → Made A X
  made : (d : ℕ) → Vec A d → X → Made A X

abbrev pub wrap : {A X : Type 0} → Ended A X → Made A X
wrap r = made r.degree r.low r.carried

-- the coefficients up to the leading one
abbrev pub made_count : {A X : Type 0} → Made A X → ℕ
made_count (nil x) = 0
made_count (made d w x) = suc d

abbrev pub made_coefficients : (R : CRing) {X : Type 0} → Made R.Car X → ℕ → R.Car
made_coefficients R (nil x) = λ j. R.𝟘
made_coefficients R (made d w x) = coef R.𝟘 (suc d) (topped d w R.𝟙)

module _ (R : CRing) where
  open PolyRing R use {𝟘 as 0ᴷ}

  abbrev pub val : {X : Type 0} → Made R.Car X → P R
  val (nil x) = 0ᴷ
  val (made d w x) = mon R d w

  -- "its leading coefficient is 1 unless a and b are both zero, and then it is zero"
  abbrev pub Leads : P R → P R → {X : Type 0} → Made R.Car X → Type 0
  Leads a b (nil x) = (a ≡ 0ᴷ) × (b ≡ 0ᴷ)
  Leads a b (made d w x) = ¬ ((a ≡ 0ᴷ) × (b ≡ 0ᴷ))

  pub record Gcd (a b : P R) {X : Type 0} (g : Made R.Car X) : Type 0 where
    -- "a polynomial over that tower divides it precisely when it divides both a and b"
    pub divisors : (h : P R) → Dvd (PolyRing R) h (val g) ↔ (Dvd (PolyRing R) h a × Dvd (PolyRing R) h b)
    pub leading : Leads a b g

module _ (L : Level) (C : Carry L.ring.Car) where
  open L.ring use {Car, 𝟙}
  open C use {X, times}

  abbrev R : CRing
  R = L.ring

  -- made monic if not zero
  abbrev pub make_from : X → Shape Car → Answer L.Shown (Made Car X)
  make_from x null = done (nil x)
  make_from x (lead e u c) = bind (L.inv c) (λ i. done (made e (scaleᵛ R e i u) (times i x)))

  unfoldable pub make : (k : ℕ) → Vec Car k → X → Answer L.Shown (Made Car X)
  make k a x = make_from x (strip L.is_zero k a)

  -- D is the larger degree: at most D + 2 remainders
  unfoldable pub start : Made Car X → Made Car X → Answer L.Shown (Made Car X)
  start A (nil y) = done A
  start (nil x) (made d w y) = map wrap (seq L C (suc (suc d)) 0 tt x d w y)
  start (made n v x) (made d w y) = map wrap (seq L C (suc (suc (max n d))) (suc n) (topped n v 𝟙) x d w y)

  -- a of k coefficients carries x, b of l coefficients carries y
  unfoldable pub gcd_with : (k : ℕ) → Vec Car k → X → (l : ℕ) → Vec Car l → X → Answer L.Shown (Made Car X)
  gcd_with k a x l b y = bind (make k a x) (λ A. bind (make l b y) (λ B. start A B))

  -- C10: "One zero: the other made monic, or the factor its leading coefficient shows."
  module _ (k : ℕ) (a : Vec Car k) (x : X) (l : ℕ) (b : Vec Car l) (y : X) where
    pub gcd-right-zero : strip L.is_zero l b ≡ null → gcd_with k a x l b y ≡ make k a x
    unfolding gcd_with make start
    gcd-right-zero e = ap (λ s. bind (make k a x) (λ A. bind (make_from y s) (λ B. start A B))) e ∙ bind_done (make k a x)

-- nothing carried
abbrev pub nothing : (A : Type 0) → Carry A
nothing A = record { X = Unit {0}; times = λ a x. tt; less = λ x k q y. tt }

-- the GCD of a with k coefficients and b with l
abbrev pub gcd : (L : Level) (k : ℕ) → Vec L.ring.Car k → (l : ℕ) → Vec L.ring.Car l → Answer L.Shown (Made L.ring.Car (Unit {0}))
gcd L k a l b = gcd_with L (nothing L.ring.Car) k a tt l b tt

-- ---- what is given is the GCD
module _ (L : Level) (C : Carry L.ring.Car) (G : Good L) where
  open L.ring use {Car, 𝟘, 𝟙, ◌⊗◌}
  open C use {X, times}
  open PolyRing L.ring use {𝟘 as 0ᴷ, ◌⊗◌ as ◌*ᴷ◌}

  infixl 70 ◌⊗◌ ◌*ᴷ◌
  abbrev S : CRing
  S = L.ring

  -- a made monic: of the same degree, and a unit times a
  pub record Scaled (k : ℕ) (a : Vec L.ring.Car k) (x : C.X) (d : ℕ) (w : Vec L.ring.Car d) (x' : C.X) : Type 0 where
    pub factor : Car
    pub back : Car
    pub unit : factor ⊗ back ≡ 𝟙
    pub is : mon L.ring d w ≡ con L.ring factor *ᴷ pol L.ring k a
    pub carried : x' ≡ times factor x
    pub below : Below 𝟘 (suc d) (coef 𝟘 k a)
    pub top : ¬ (coef 𝟘 k a d ≡ 𝟘)

  abbrev pub MadeOf : (k : ℕ) → Vec L.ring.Car k → C.X → Made L.ring.Car C.X → Type 0
  MadeOf k a x (nil x') = (pol L.ring k a ≡ 0ᴷ) × (x' ≡ x)
  MadeOf k a x (made d w x') = Scaled k a x d w x'

  pub make_ok : (k : ℕ) (a : Vec L.ring.Car k) (x : C.X) → Holds L.Right (MadeOf k a x) (make L C k a x)
  unfolding make
  make_ok k a x = go (strip L.is_zero k a) (strip_ok L.zero_test k a)
    where
      go : (s : Shape Car) → Stripped 𝟘 k a s → Holds L.Right (MadeOf k a x) (make_from L C x s)
      go null h = (P-path S _ _ h, refl)
      go (lead e u c) h =
          holds_bind L.Right (λ i. i ⊗ c ≡ 𝟙) (MadeOf k a x) (L.inv c) _ (G c h.1) (λ i unit. record {
            factor = i;
            back = c;
            unit = unit;
            is = P-path S _ _ (λ j. made-monic S e u c i unit j ∙ ap (λ y. i ⊗ y) (sym (h.2 j)) ∙ sym (const-* S i (coef 𝟘 k a) j));
            carried = refl;
            below = λ n l. h.2 n ∙ coef_below 𝟘 (suc e) (topped e u c) n l;
            top = λ z. h.1 (sym (topped-top 𝟘 e u c) ∙ sym (h.2 e) ∙ z);
          })

-- The GCD's sequence as a program meets it: one equation for each way it can go, in its order; and what does not depend on how many coefficients are given.
-- (proofs/Steps.antt: the answer's degree.)
--
-- make_null, make-lead, make_shown   == making monic
-- gcd-first, gcd_second, gcd-start   == a first, then b, then the sequence: a factor of a's shows before one of b's
-- make_same, gcd-same                == zeros above the degree change nothing
-- Low                                == of a degree not above D
use Rattle.std.specs.Prelude.{◌≡◌, ℕ, ◌≤◌}
use Rattle.std.proofs.Math.Path.{ap, ap₂}
use Rattle.std.proofs.Common.{◌∙◌}
use Rattle.algebra.specs.Vec.{Vec, coef}
use Rattle.algebra.specs.Shape.{null, lead, strip, strip-same}
use Rattle.algebra.specs.UnitDivide.{scaleᵛ}
use Rattle.euclid.specs.Answer.{done, shown, bind}
use Rattle.euclid.specs.Level.{Level, Good}
use Rattle.euclid.specs.Sequence.{Carry}
use Rattle.euclid.specs.Gcd.{Made, nil, made, make, make_from, start, gcd_with}

module _ (L : Level) (C : Carry L.ring.Car) where
  open L.ring use {Car, 𝟘}
  open C use {X, times}

  module _ (k : ℕ) (a : Vec Car k) (x : X) where
    pub make_null : strip L.is_zero k a ≡ null → make L C k a x ≡ done (nil x)
    unfolding make
    make_null e = ap (make_from L C x) e

    module _ (e : ℕ) (u : Vec Car e) (c : Car) (h : strip L.is_zero k a ≡ lead e u c) where
      pub make-lead : (i : Car) → L.inv c ≡ done i → make L C k a x ≡ done (made e (scaleᵛ L.ring e i u) (times i x))
      unfolding make
      make-lead i g = ap (make_from L C x) h ∙ ap (λ m. bind m (λ i. done (made e (scaleᵛ L.ring e i u) (times i x)))) g

      pub make_shown : (f : L.Shown) → L.inv c ≡ shown f → make L C k a x ≡ shown f
      unfolding make
      make_shown f g = ap (make_from L C x) h ∙ ap (λ m. bind m (λ i. done (made e (scaleᵛ L.ring e i u) (times i x)))) g

  module _ (k : ℕ) (a : Vec Car k) (x : X) (l : ℕ) (b : Vec Car l) (y : X) where
    pub gcd-first : (f : L.Shown) → make L C k a x ≡ shown f → gcd_with L C k a x l b y ≡ shown f
    unfolding gcd_with
    gcd-first f e = ap (λ m. bind m (λ A. bind (make L C l b y) (λ B. start L C A B))) e

    module _ (A : Made Car X) (e : make L C k a x ≡ done A) where
      then : gcd_with L C k a x l b y ≡ bind (make L C l b y) (λ B. start L C A B)
      unfolding gcd_with
      then = ap (λ m. bind m (λ A. bind (make L C l b y) (λ B. start L C A B))) e

      pub gcd_second : (f : L.Shown) → make L C l b y ≡ shown f → gcd_with L C k a x l b y ≡ shown f
      gcd_second f g = then ∙ ap (λ m. bind m (λ B. start L C A B)) g

      pub gcd-start : (B : Made Car X) → make L C l b y ≡ done B → gcd_with L C k a x l b y ≡ start L C A B
      gcd-start B g = then ∙ ap (λ m. bind m (λ B. start L C A B)) g

  pub make_same : (k : ℕ) (a : Vec L.ring.Car k) (l : ℕ) (b : Vec L.ring.Car l) (x : C.X)
      → ((n : ℕ) → coef L.ring.𝟘 k a n ≡ coef L.ring.𝟘 l b n) → make L C k a x ≡ make L C l b x
  unfolding make
  make_same k a l b x h = ap (make_from L C x) (strip-same L.zero_test k a l b h)

  pub gcd-same : (k : ℕ) (a : Vec L.ring.Car k) (k' : ℕ) (a' : Vec L.ring.Car k') (x : C.X) (l : ℕ) (b : Vec L.ring.Car l) (l' : ℕ) (b' : Vec L.ring.Car l') (y : C.X)
      → ((n : ℕ) → coef L.ring.𝟘 k a n ≡ coef L.ring.𝟘 k' a' n) → ((n : ℕ) → coef L.ring.𝟘 l b n ≡ coef L.ring.𝟘 l' b' n)
      → gcd_with L C k a x l b y ≡ gcd_with L C k' a' x l' b' y
  unfolding gcd_with
  gcd-same k a k' a' x l b l' b' y h g =
      ap₂ (λ m n. bind m (λ A. bind n (λ B. start L C A B))) (make_same k a k' a' x h) (make_same l b l' b' y g)

-- ---- the degree
module _ (L : Level) (C : Carry L.ring.Car) (G : Good L) (D : ℕ) where
  open L.ring use {Car}

  abbrev pub Low : Made L.ring.Car C.X → Type 0
  Low (nil x) = Unit {0}
  Low (made d w x) = d ≤ D

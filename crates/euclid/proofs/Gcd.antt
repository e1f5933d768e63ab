-- What the GCD's sequence gives is the GCD.
--
-- gcd-left-zero    == where a is zero, it is b made monic
-- gcd_with_ok      == the answer is such a g as `Gcd` describes, and a combination of a and b; or something shown that is right; and never number 11
use Rattle.std.specs.Prelude.{◌≡◌, ◌↔◌, Bool, true, false, ◌&&◌, ℕ, suc, ◌<◌, max}
use Rattle.std.proofs.Math.Path.{refl, ap, sym}
use Rattle.std.proofs.Common.{◌∙◌, arith}
use Rattle.std.proofs.lemmas.Bool.{false≢true}
use Rattle.algebra.specs.Ring.{CRing, one-⊗}
use Rattle.algebra.specs.Vec.{Vec, zeroᵛ, topped, coef-zero}
use Rattle.algebra.specs.Shape.{Shape, null, lead, strip, strip_null}
use Rattle.algebra.specs.Divide.{divide}
use Rattle.algebra.specs.UnitDivide.{scaleᵛ}
use Rattle.algebra.specs.Divisor.{Dvd, Common, dvd_zero, dvd_unit, iff_trans, iff_sym}
use Rattle.algebra.specs.PolyRing.{P, PolyRing, pol, mon, con, pol_nil, con_unit}
use Rattle.euclid.specs.Answer.{Answer, done, shown, long, bind, map, Holds, holds_bind, holds_map, holds_weaken, holds_both}
use Rattle.euclid.specs.Level.{Level, Good}
use Rattle.euclid.specs.Sequence.{Carry, seq, seq_null}
use Rattle.euclid.specs.Turn.{Comb, comb_left, comb_right, comb_scaled}
use Rattle.euclid.proofs.Turn.{seq_common, seq_comb}
use Rattle.euclid.specs.Gcd.{Made, nil, made, wrap, val, Leads, Gcd, make_from as make_from_by, make as make_by, start as start_by, gcd_with as gcd_with_by, Scaled as ScaledBy, MadeOf as MadeBy, make_ok}

module _ (L : Level) (C : Carry L.ring.Car) where
  open L.ring use {Car, 𝟘}
  open C use {X, times}

  abbrev make_from : X → Shape Car → Answer L.Shown (Made Car X)
  make_from x s = make_from_by L C x s

  abbrev make : (k : ℕ) → Vec Car k → X → Answer L.Shown (Made Car X)
  make k a x = make_by L C k a x

  abbrev start : Made Car X → Made Car X → Answer L.Shown (Made Car X)
  start A B = start_by L C A B

  abbrev gcd_with : (k : ℕ) → Vec Car k → X → (l : ℕ) → Vec Car l → X → Answer L.Shown (Made Car X)
  gcd_with k a x l b y = gcd_with_by L C k a x l b y

  abbrev R : CRing
  R = L.ring

  -- zero and a monic polynomial: its remainder of zero is zero
  start_nil : (x : X) (d : ℕ) (w : Vec Car d) (y : X) → start (nil x) (made d w y) ≡ done (made d w y)
  unfolding start_by divide
  start_nil x d w y = ap (map wrap) (seq_null L C (suc d) 0 tt x d w y (strip_null L.zero_test d (zeroᵛ 𝟘 d) (coef-zero 𝟘 d)))

  -- C10: "One zero: the other made monic, or the factor its leading coefficient shows."
  module _ (k : ℕ) (a : Vec Car k) (x : X) (l : ℕ) (b : Vec Car l) (y : X) where
    pub gcd-left-zero : (e : ℕ) (u : Vec Car e) (c : Car) → strip L.is_zero k a ≡ null → strip L.is_zero l b ≡ lead e u c → gcd_with k a x l b y ≡ make l b y
    unfolding gcd_with_by make_by
    gcd-left-zero e u c ha hb =
        ap (λ s. bind (make_from x s) (λ A. bind (make_from y (strip L.is_zero l b)) (λ B. start A B))) ha
        ∙ ap (λ s. bind (make_from y s) (λ B. start (nil x) B)) hb ∙ either (L.inv c) ∙ sym (ap (make_from y) hb)
      where
        either : (m : Answer L.Shown Car) → bind (bind m (λ i. done (made e (scaleᵛ R e i u) (times i y)))) (λ B. start (nil x) B) ≡ bind m (λ i. done (made e (scaleᵛ R e i u) (times i y)))
        either (done i) = start_nil x e (scaleᵛ R e i u) (times i y)
        either (shown f) = refl
        either long = refl

-- ---- what is given is the GCD
module _ (L : Level) (C : Carry L.ring.Car) (G : Good L) where
  open L.ring use {Car, 𝟙}
  open C use {X}
  open PolyRing L.ring use {𝟘 as 0ᴷ, 𝟙 as 1ᴷ, ◌⊗◌ as ◌*ᴷ◌}

  infixl 70 ◌*ᴷ◌
  abbrev Scaled : (k : ℕ) → Vec L.ring.Car k → C.X → (d : ℕ) → Vec L.ring.Car d → C.X → Type 0
  Scaled k a x d w x' = ScaledBy L C G k a x d w x'

  abbrev MadeOf : (k : ℕ) → Vec L.ring.Car k → C.X → Made L.ring.Car C.X → Type 0
  MadeOf k a x A = MadeBy L C G k a x A

  abbrev K : CRing
  K = PolyRing L.ring

  abbrev S : CRing
  S = L.ring

  -- to be made monic changes no divisors
  made_divisors : (k : ℕ) (a : Vec Car k) (x : X) (A : Made Car X) → MadeOf k a x A → (h : P S) → Dvd K h (pol S k a) ↔ Dvd K h (val S A)
  made_divisors k a x (nil x') m h = rw m.0 (λ d. d, λ d. d)
  made_divisors k a x (made d w x') m h = rw m.is (iff_sym (dvd_unit K (con_unit S m.factor m.back m.unit)))

  -- and makes a multiple
  multiple : (k : ℕ) (a : Vec Car k) (x : X) (A : Made Car X) → MadeOf k a x A → (c : P S) × (val S A ≡ c *ᴷ pol S k a)
  multiple k a x (nil x') m = (1ᴷ, sym m.0 ∙ sym (one-⊗ K (pol S k a)))
  multiple k a x (made d w x') m = (con S m.factor, m.is)

  -- ---- the sequence on two that are made
  abbrev is_nil : Made Car X → Bool
  is_nil (nil x) = true
  is_nil (made d w x) = false

  record Started (A B g : Made Car X) : Type 0 where
    divisors : (h : P S) → Common K h (val S A) (val S B) ↔ Dvd K h (val S g)
    nilness : is_nil g ≡ is_nil A && is_nil B
    combination : Comb S (val S A) (val S B) (val S g)

  common_nil : (h x : P S) → Common K h x 0ᴷ ↔ Dvd K h x
  common_nil h x = (λ c. c.left, λ d. record { left = d; right = dvd_zero K h })

  run_ok : (k n : ℕ) (v : Vec Car n) (x : X) (d : ℕ) (w : Vec Car d) (y : X) (A : Made Car X) → d < k → pol S n v ≡ val S A
      → Holds L.Right (Started A (made d w y)) (map wrap (seq L C k n v x d w y))
  run_ok k n v x d w y A l e =
      holds_map L.Right _ (Started A (made d w y)) (seq L C k n v x d w y) wrap
      (holds_both L.Right _ _ (seq L C k n v x d w y) (seq_common L C G k n v x d w y l)
      (seq_comb L C G k n v x d w y l (pol S n v) (mon S d w) (comb_left S _ _) (comb_right S _ _)))
      (λ r t. record { divisors = λ h. rw e at (t.0 h); nilness = second (is_nil A); combination = rw e at t.1 })
    where
      second : (b : Bool) → false ≡ b && false
      second true = refl
      second false = refl

  start_ok : (A B : Made Car X) → Holds L.Right (Started A B) (start L C A B)
  unfolding start_by
  start_ok (nil x) (nil y) = record { divisors = λ h. common_nil h 0ᴷ; nilness = refl; combination = comb_left S 0ᴷ 0ᴷ }
  start_ok (made n v x) (nil y) = record { divisors = λ h. common_nil h (mon S n v); nilness = refl; combination = comb_left S (mon S n v) 0ᴷ }
  start_ok (nil x) (made d w y) = run_ok (suc (suc d)) 0 tt x d w y (nil x) (omega arith) (pol_nil S tt)
  start_ok (made n v x) (made d w y) = run_ok (suc (suc (max n d))) (suc n) (topped n v 𝟙) x d w y (made n v x) (omega arith) refl

  -- a polynomial that has a coefficient which is not zero is not zero
  not_zero : (k : ℕ) (a : Vec Car k) (x : X) (d : ℕ) (w : Vec Car d) (x' : X) → Scaled k a x d w x' → ¬ (pol S k a ≡ 0ᴷ)
  not_zero k a x d w x' m e = m.top (ap (λ q. q.0 d) e)

  leads : (k : ℕ) (a : Vec Car k) (x : X) (l : ℕ) (b : Vec Car l) (y : X) (A B g : Made Car X) → MadeOf k a x A → MadeOf l b y B
      → is_nil g ≡ is_nil A && is_nil B → Leads S (pol S k a) (pol S l b) g
  leads k a x l b y (nil x') (nil y') (nil z) m n e = (m.0, n.0)
  leads k a x l b y (nil x') (nil y') (made d w z) m n e = absurd (false≢true e)
  leads k a x l b y (nil x') (made j u y') (nil z) m n e = absurd (false≢true (sym e))
  leads k a x l b y (nil x') (made j u y') (made d w z) m n e = λ t. not_zero l b y j u y' n t.1
  leads k a x l b y (made i v x') (nil y') (nil z) m n e = absurd (false≢true (sym e))
  leads k a x l b y (made i v x') (nil y') (made d w z) m n e = λ t. not_zero k a x i v x' m t.0
  leads k a x l b y (made i v x') (made j u y') (nil z) m n e = absurd (false≢true (sym e))
  leads k a x l b y (made i v x') (made j u y') (made d w z) m n e = λ t. not_zero k a x i v x' m t.0

  pub gcd_with_ok : (k : ℕ) (a : Vec L.ring.Car k) (x : C.X) (l : ℕ) (b : Vec L.ring.Car l) (y : C.X)
      → Holds L.Right (λ g. Gcd L.ring (pol L.ring k a) (pol L.ring l b) g × Comb L.ring (pol L.ring k a) (pol L.ring l b) (val L.ring g)) (gcd_with L C k a x l b y)
  unfolding gcd_with_by
  gcd_with_ok k a x l b y =
      holds_bind L.Right (MadeOf k a x) Both (make L C k a x) _ (make_ok L C G k a x) (λ A m.
      holds_bind L.Right (MadeOf l b y) Both (make L C l b y) _ (make_ok L C G l b y) (λ B n.
      holds_weaken L.Right (Started A B) Both (start L C A B) (start_ok A B) (λ g t. (
        record {
          divisors = λ h.
              iff_trans (iff_sym (t.divisors h)) (
                (λ c. ((made_divisors k a x A m h).1 c.left, (made_divisors l b y B n h).1 c.right)),
                (λ c. record { left = (made_divisors k a x A m h).0 c.0; right = (made_divisors l b y B n h).0 c.1 }),
              );
          leading = leads k a x l b y A B g m n t.nilness;
        },
        (let u = multiple k a x A m in
            let v = multiple l b y B n in
            comb_scaled S (val S A) (val S B) u.0 v.0 (pol S k a) (pol S l b) (val S g) u.1 v.1 t.combination),
      ))))
    where
      Both : Made Car X → Type 0
      Both g = Gcd S (pol S k a) (pol S l b) g × Comb S (pol S k a) (pol S l b) (val S g)

-- How the sequence of a program that does not scale its polynomials goes on.
--
-- lazy-next, lazy_shown         == the remainder is not zero: the sequence goes on, or a factor is shown
-- lazy_swap                     == where f has the lower degree, the first turn exchanges the two
-- lazy_fuel                     == how many remainders are allowed changes no answer
-- gcd-lazy                      == the GCD's sequence is this one
use Rattle.std.specs.Prelude.{◌≡◌, ℕ, suc, ◌<◌}
use Rattle.std.proofs.Math.Path.{ap, ap₂}
use Rattle.std.proofs.Common.{sym, ◌∙◌, arith}
use Rattle.algebra.specs.Ring.{CRing, one-⊗, ⊗-zero}
use Rattle.algebra.specs.Vec.{Vec, Below, coef, zeroᵛ, topped, below_mono, coef_below, coef_inj, coef-zero, map-topped}
use Rattle.algebra.specs.Shape.{lead, strip, Stripped, strip-lead}
use Rattle.algebra.specs.Divide.{quotient, remainder}
use Rattle.algebra.proofs.Divide.{remainder_small}
use Rattle.algebra.specs.UnitDivide.{scaleᵛ, coef-scale}
use Rattle.algebra.proofs.UnitDivide.{quotientᵘ_below}
use Rattle.euclid.specs.Answer.{Answer, done, shown, map}
use Rattle.euclid.specs.Level.{Level, Good}
use Rattle.euclid.specs.Sequence.{Carry, Ended, seq}
use Rattle.euclid.proofs.Sequence.{seq-lead, seq_shown, seq_fuel}
use Rattle.euclid.specs.Gcd.{wrap, gcd_with}
use Rattle.euclid.specs.Demand.{inv_done}
use Rattle.euclid.proofs.Demand.{start_any_count}
use Rattle.euclid.specs.Steps.{make-lead, gcd-start}
use Rattle.euclid.specs.Lazy.{scale-scale, quotient-scale, Led, led, whole, UnitLed, rest, quot, Linear, unit_times, lazy as lazy_by, next as next_by, rest_scaled}

module _ (R : CRing) where
  open R use {Car, 𝟘, 𝟙, ◌⊗◌}

  infixl 70 ◌⊗◌
  -- unit times f is monic
  monic-whole : {X : Type 0} (f : Led Car X) → UnitLed R f → topped f.degree (scaleᵛ R f.degree f.unit f.low) 𝟙 ≡ scaleᵛ R (suc f.degree) f.unit (whole f)
  monic-whole f h = ap (topped f.degree _) (sym h) ∙ sym (map-topped (λ x. f.unit ⊗ x) f.degree f.low f.top)

  -- where f has the lower degree, it is its own remainder, and the quotient is zero
  module _ {X : Type 0} (f g : Led Car X) (l : f.degree < g.degree) where
    low_below : Below 𝟘 g.degree (coef 𝟘 (suc f.degree) (whole f))
    low_below = below_mono 𝟘 _ l (coef_below 𝟘 (suc f.degree) (whole f))

    rest_small : (j : ℕ) → coef 𝟘 g.degree (rest R f g) j ≡ coef 𝟘 (suc f.degree) (whole f) j
    rest_small = remainder_small R g.degree _ (suc f.degree) (whole f) low_below

    quot-none : quot R f g ≡ zeroᵛ 𝟘 (suc f.degree)
    quot-none =
        coef_inj 𝟘 (suc f.degree) _ _ (λ j.
        quotientᵘ_below R g.degree g.low g.unit 0 (suc f.degree) (whole f) (below_mono 𝟘 _ (omega arith) low_below) j (omega arith)
        ∙ sym (coef-zero 𝟘 (suc f.degree) j))

-- ---- the sequence
module _ (L : Level) (C : Carry L.ring.Car) where
  open L use {Shown, inv}
  open L.ring use {Car, 𝟘, 𝟙, ◌⊗◌}
  open C use {X, times, less}

  infixl 70 ◌⊗◌
  abbrev lazy : ℕ → Led Car X → Led Car X → Answer Shown (Ended Car X)
  lazy k f g = lazy_by L C k f g

  abbrev next : (f g : Led Car X) (e : ℕ) → Vec Car e → Car → Car → Led Car X
  next f g e u c i = next_by L C f g e u c i

  abbrev R : CRing
  R = L.ring

  -- how many remainders are allowed changes no answer, once they are more than the divisor's degree
  pub lazy_fuel : (k j : ℕ) (f g : Led Car X) → g.degree < k → g.degree < j → lazy k f g ≡ lazy j f g
  unfolding lazy_by
  lazy_fuel k j f g l l' = seq_fuel L C k j _ _ _ _ _ _ l l'

  -- or it has the leading coefficient c
  module _ (f g : Led Car X) (uf : UnitLed R f) (e : ℕ) (u : Vec Car e) (c : Car) (st : Stripped 𝟘 g.degree (rest R f g) (lead e u c)) where
    -- unit times c is not zero
    not_zero : ¬ (f.unit ⊗ c ≡ 𝟘)
    not_zero = unit_times R f uf c st.1

    -- and is the leading coefficient of the sequence's remainder
    shape : strip L.is_zero g.degree
        (remainder R g.degree (scaleᵛ R g.degree g.unit g.low) (suc f.degree) (scaleᵛ R (suc f.degree) f.unit (whole f)))
        ≡ lead e (scaleᵛ R e f.unit u) (f.unit ⊗ c)
    shape =
        strip-lead L.zero_test g.degree _ e _ _ not_zero (λ j.
        rest_scaled L C f g j ∙ ap (λ x. f.unit ⊗ x) (st.2 j) ∙ sym (coef-scale R (suc e) f.unit (topped e u c) j)
        ∙ ap (λ v. coef 𝟘 (suc e) v j) (map-topped (λ x. f.unit ⊗ x) e u c))

    -- the inverse of unit times c shows a factor
    pub lazy_shown : (k : ℕ) (x : Shown) → inv (f.unit ⊗ c) ≡ shown x → lazy (suc k) f g ≡ shown x
    unfolding lazy_by
    lazy_shown k x h = seq_shown L C k _ _ _ _ _ _ e _ _ shape x h

    -- and the sequence goes on with g and that
    pub lazy-next : UnitLed R g → Linear R C → (k : ℕ) (i : Car) → inv (f.unit ⊗ c) ≡ done i → lazy (suc k) f g ≡ lazy k g (next f g e u c i)
    unfolding lazy_by
    lazy-next ug lin k i h =
        seq-lead L C k _ _ _ g.degree ĝ y e _ _ shape i h
        ∙ ap (λ v. seq L C k (suc g.degree) v y e (scaleᵛ R e i (scaleᵛ R e f.unit u)) z) (monic-whole R g ug)
        ∙ ap₂ (λ v x. seq L C k (suc g.degree) (scaleᵛ R (suc g.degree) g.unit (whole g)) y e v x) (scale-scale R e i f.unit u)
        (ap (times i)
        (ap (λ q. less (times f.unit f.carried) (suc f.degree) q y) (quotient-scale R g.degree ĝ (suc f.degree) (whole f) f.unit)
        ∙ lin.less_scale (suc f.degree) (quotient R g.degree ĝ (suc f.degree) (whole f)) f.unit g.unit f.carried g.carried)
        ∙ lin.times_times i f.unit _)
      where
        ĝ : Vec Car g.degree
        ĝ = scaleᵛ R g.degree g.unit g.low

        y : X
        y = times g.unit g.carried

        z : X
        z = times i (less (times f.unit f.carried) (suc f.degree) (quotient R g.degree ĝ (suc f.degree) (scaleᵛ R (suc f.degree) f.unit (whole f))) y)

  -- where f has the lower degree: its remainder is f, and 1 is its own inverse
  pub lazy_swap : (f g : Led Car X) → UnitLed R f → UnitLed R g → f.degree < g.degree → Linear R C → ¬ (𝟙 ≡ 𝟘) → inv 𝟙 ≡ done 𝟙
      → (k : ℕ) → lazy (suc k) f g ≡ lazy k g f
  lazy_swap f g uf ug l lin ne one k =
      lazy-next f g uf f.degree f.low f.top (l, top_not_zero, rest_small R f g l) ug lin k 𝟙 (ap inv uf ∙ one)
      ∙ ap₂ (λ i x. lazy k g (led f.degree f.low f.top i x)) (one-⊗ R f.unit)
      (ap (λ q. less f.carried (suc f.degree) q g.carried) (quot-none R f g l) ∙ lin.less_none (suc f.degree) f.carried g.carried)
    where
      top_not_zero : ¬ (f.top ≡ 𝟘)
      top_not_zero z = ne (sym uf ∙ ap (λ x. f.unit ⊗ x) z ∙ ⊗-zero R _)

  -- ---- the GCD: both are kept as they are, with the inverses of their leading coefficients
  module _ (G : Good L) (k : ℕ) (a : Vec Car k) (x : X) (l : ℕ) (b : Vec Car l) (y : X)
      (e : ℕ) (u : Vec Car e) (c : Car) (sa : Stripped 𝟘 k a (lead e u c)) (e' : ℕ) (u' : Vec Car e') (c' : Car) (sb : Stripped 𝟘 l b (lead e' u' c')) where
    -- the inverses of both are given, a's first: the answer is that of the sequence on the two, of any count above b's degree
    pub gcd-lazy : (i : Car) → inv c ≡ done i → (i' : Car) → inv c' ≡ done i' → (j : ℕ) → e' < j
        → gcd_with L C k a x l b y ≡ map wrap (lazy j (led e u c i x) (led e' u' c' i' y))
    unfolding lazy_by
    gcd-lazy i h i' h' j enough =
        gcd-start L C k a x l b y _ (make-lead L C k a x e u c (strip-lead L.zero_test k a e u c sa.1 sa.2) i h)
        _ (make-lead L C l b y e' u' c' (strip-lead L.zero_test l b e' u' c' sb.1 sb.2) i' h')
        ∙ start_any_count L C j e (scaleᵛ R e i u) (times i x) e' (scaleᵛ R e' i' u') (times i' y) enough
        ∙ ap (λ v. map wrap (seq L C j (suc e) v (times i x) e' (scaleᵛ R e' i' u') (times i' y))) (monic-whole R (led e u c i x) (inv_done L G c sa.1 i h))

-- Monic polynomials as divisors in R[z]: a monic polynomial is no zero divisor, and two monic polynomials that divide each other are equal.
-- R may have zero divisors. (proofs/Monic.antt: a monic polynomial divides what leaves no remainder and nothing else.)
--
-- monic_cancel, dvd_monic_prop  == the quotient by a monic polynomial is unique, so to be divided by it is a proposition
-- monic_antisym                 == two monic polynomials that divide each other are equal
use Rattle.std.specs.Prelude.{◌≡◌, ◌⊎◌, ℕ, suc, ◌+◌, ◌≤◌, ◌<◌}
use Rattle.std.proofs.Math.Path.{refl, ap, sym, fun_ext}
use Rattle.std.proofs.Common.{ap₂, ◌∙◌, inl, inr, arith, eq-or-lt_of_le}
use Rattle.std.proofs.Math.Logic.{∥∥₁_elim}
use mathlib.Core.HLevel.{Σ_prop_path}
use Rattle.algebra.specs.Test.{le_or_lt}
use Rattle.algebra.specs.Ring.{CRing, zero-⊗, one-⊗, eq_of_sub}
use Rattle.algebra.specs.Solve.{◌:-◌, ◌:*◌, ◌≐◌, c1, solve₂}
use Rattle.algebra.specs.Vec.{Vec, Below, topped, below_mono, coef_below, topped-top}
use Rattle.algebra.specs.Series.{Series, SeriesRing}
use Rattle.algebra.specs.Poly.{below_all, below_+, below_neg, constᴾ, Poly, crown}
use Rattle.algebra.specs.Divide.{below_quotient, unique_quotient}
use Rattle.algebra.specs.Divisor.{Dvd}
use Rattle.algebra.specs.PolyRing.{P, P-path, PolyRing, each, ↑, mon}

module _ (R : CRing) where
  open R use {Car, 𝟘, 𝟙, ◌⊕◌, ◌⊗◌, ⊖◌, ⊕_neg, is_set}
  open SeriesRing R use {𝟘 as 0ˢ, 𝟙 as 1ˢ, ◌⊕◌ as ◌+ˢ◌, ◌⊗◌ as ◌*ˢ◌, ⊖◌ as -ˢ◌}
  open PolyRing R use {◌⊗◌ as ◌*ᴷ◌}

  infixl 65 ◌⊕◌ ◌+ˢ◌
  infixl 70 ◌⊗◌ ◌*ˢ◌ ◌*ᴷ◌
  infix 75 ⊖◌ -ˢ◌
  abbrev K : CRing
  K = PolyRing R

  abbrev S : CRing
  S = SeriesRing R

  module _ (d : ℕ) (w : Vec Car d) where
    cancel_bounded : (p q : Poly R) → p.co *ˢ crown R d w ≡ q.co *ˢ crown R d w → p.co ≡ q.co
    cancel_bounded p q e =
        unique_quotient R d w (p.bound + q.bound) p.co q.co 0ˢ 0ˢ
        (below_mono 𝟘 p.co (omega arith) p.below) (below_mono 𝟘 q.co (omega arith) q.below) (λ n l. refl) (λ n l. refl) (ap (λ f. f +ˢ 0ˢ) e)

    pub monic_cancel : (x y : P R) → x *ᴷ mon R d w ≡ y *ᴷ mon R d w → x ≡ y
    monic_cancel x y =
        each R (λ x. x *ᴷ mon R d w ≡ y *ᴷ mon R d w → x ≡ y) (λ x f g. fun_ext (λ e. K.is_set x y (f e) (g e))) (λ p.
        each R (λ y. ↑ R p *ᴷ mon R d w ≡ y *ᴷ mon R d w → ↑ R p ≡ y) (λ y f g. fun_ext (λ e. K.is_set (↑ R p) y (f e) (g e))) (λ q e.
        P-path R (↑ R p) (↑ R q) (λ n. ap (λ f. f n) (cancel_bounded p q (ap (λ z. z.0) e)))) y) x

    pub dvd_monic_prop : (x : P R) → IsProp (Dvd K (mon R d w) x)
    dvd_monic_prop x h k =
        let same = monic_cancel h.times k.times (K.⊗_comm _ _ ∙ sym h.eq ∙ k.eq ∙ K.⊗_comm _ _) in
        let p = Σ_prop_path {B = λ t. x ≡ mon R d w *ᴷ t} (λ t. K.is_set x (mon R d w *ᴷ t)) {u = (h.times, h.eq)} {v = (k.times, k.eq)} same in
        λ i. record { times = (p i).0; eq = (p i).1 }

  -- where 1 = 0 all is equal
  trivial : 𝟙 ≡ 𝟘 → (a b : Car) → a ≡ b
  trivial e a b = zero_of a ∙ sym (zero_of b)
    where
      zero_of : (a : Car) → a ≡ 𝟘
      zero_of a = sym (one-⊗ R a) ∙ ap (λ x. x ⊗ a) e ∙ zero-⊗ R a

  module _ (d : ℕ) (w : Vec Car d) (e : ℕ) (u : Vec Car e) (h : Dvd (PolyRing R) (mon R d w) (mon R e u)) where
    q : Series R
    q = h.times.0

    as_series : crown R e u ≡ q *ˢ crown R d w
    unfolding q
    as_series = ap (λ p. p.0) h.eq ∙ S.⊗_comm _ _

    -- a monic polynomial has no monic multiple of lower degree, unless 1 = 0
    no_lower : e < d → 𝟙 ≡ 𝟘
    unfolding q
    no_lower l = ∥∥₁_elim h.times.1 (is_set 𝟙 𝟘) (λ b.
        let none : q ≡ 0ˢ = below_all R q (below_quotient R d w 0 b.0 q b.1
        (rw (← as_series) (below_mono 𝟘 (crown R e u) (omega arith) (coef_below 𝟘 (suc e) (topped e u 𝟙))))) in
        sym (topped-top 𝟘 e u 𝟙) ∙ ap (λ f. f e) (as_series ∙ ap (λ f. f *ˢ crown R d w) none ∙ zero-⊗ S (crown R d w)))

    -- and of the same degree only itself
    only_itself : d ≡ e → (n : ℕ) → crown R d w n ≡ crown R e u n
    unfolding q
    only_itself same n = ∥∥₁_elim h.times.1 (is_set _ _) (λ b.
        let one : q ≡ 1ˢ = eq_of_sub S q 1ˢ (below_all R _ (below_quotient R d w 0 (suc b.0) (q +ˢ (-ˢ 1ˢ))
        (below_+ R q (-ˢ 1ˢ) (below_mono 𝟘 q (omega arith) b.1) (below_neg R 1ˢ (below_mono 𝟘 1ˢ (omega arith) (constᴾ R 𝟙).below)))
        (rw (← multiple) small))) in
        sym (ap (λ f. f n) (as_series ∙ ap (λ f. f *ˢ crown R d w) one ∙ one-⊗ S (crown R d w))))
      where
        multiple : crown R e u +ˢ (-ˢ crown R d w) ≡ (q +ˢ (-ˢ 1ˢ)) *ˢ crown R d w
        multiple = ap (λ f. f +ˢ (-ˢ crown R d w)) as_series ∙ solve₂ S q (crown R d w) (λ q m. q :* m :- m ≐ (q :- c1) :* m) refl

        at : (n : ℕ) → (d ≡ n) ⊎ (d < n) → (crown R e u +ˢ (-ˢ crown R d w)) n ≡ 𝟘
        at n (inl z) = rw (← z) (ap₂ (λ a b. a ⊕ (⊖ b)) (rw same (topped-top 𝟘 e u 𝟙)) (topped-top 𝟘 d w 𝟙) ∙ ⊕_neg 𝟙)
        at n (inr k) =
            below_+ R (crown R e u) (-ˢ crown R d w) (below_mono 𝟘 (crown R e u) (omega (arith, same)) (coef_below 𝟘 (suc e) (topped e u 𝟙)))
            (below_neg R (crown R d w) (coef_below 𝟘 (suc d) (topped d w 𝟙))) n k

        small : Below 𝟘 (0 + d) (crown R e u +ˢ (-ˢ crown R d w))
        small n l = at n (eq-or-lt_of_le (omega arith))

  pub monic_antisym : (d : ℕ) (w : Vec Car d) (e : ℕ) (u : Vec Car e) → Dvd K (mon R d w) (mon R e u) → Dvd K (mon R e u) (mon R d w) → mon R d w ≡ mon R e u
  monic_antisym d w e u h k = P-path R _ _ (λ n. first n (le_or_lt d e))
    where
      second : (n : ℕ) → (d ≡ e) ⊎ (d < e) → crown R d w n ≡ crown R e u n
      second n (inl same) = only_itself d w e u h same n
      second n (inr l) = trivial (no_lower e u d w k l) _ _

      first : (n : ℕ) → (d ≤ e) ⊎ (e < d) → crown R d w n ≡ crown R e u n
      first n (inl l) = second n (eq-or-lt_of_le l)
      first n (inr l) = trivial (no_lower d w e u h l) _ _

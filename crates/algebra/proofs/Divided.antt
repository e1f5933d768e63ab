-- Remainders of sums, negatives, short polynomials and products, and division in place.
--
-- remainder-add, -neg, _short, -product    == R[z]/m reckoned on any number of coefficients, by the remainder of division by the monic m
-- remainder_cut, quotient_cut              == where the dividend is zero from cap on, its cap lowest coefficients may be divided in its place
-- row-each, row-top                        == each coefficient of the row that division in place leaves is made of those above it; the top one
use Rattle.std.specs.Prelude.{◌≡◌, refl, ℕ, zero, suc, ◌+◌, ◌-◌, ◌≤◌, ◌<◌}
use Rattle.std.proofs.Math.Path.{ap, ap₂, sym, fun_ext}
use Rattle.std.proofs.Common.{◌∙◌, arith}
use Rattle.algebra.specs.Ring.{CRing, group_of, neg-zero}
use Rattle.algebra.specs.Solve.{◌:+◌, ◌:-◌, ◌:*◌, ◌≐◌, :~◌, c0, c1, solve₁, solve₂, solve₃, solve₅}
use Rattle.algebra.specs.Vec.{Vec, coef, Below, trunc, below_mono, coef_below, coef-trunc, trunc-at, addᵛ, negᵛ, coef-add, coef-neg}
use Rattle.algebra.specs.Series.{Series, SeriesRing, tail, *ˢ-zero, *ˢ_suc, *ˢ_comm, 0ˢ-*}
use Rattle.algebra.specs.Poly.{Poly, poly, ◌*ᴾ◌, *_below, below_+, below_neg, crown}
use Rattle.algebra.specs.Divide.{quotient, remainder}
use Rattle.algebra.proofs.Divide.{divided, quotient_is, remainder_is, quotient_below}
use Rattle.algebra.specs.Quotient.{residue, same, mulᵛ}
use Rattle.algebra.proofs.Quotient.{residue_respects, residue-poly}
use Rattle.algebra.specs.Windows.{span, sum-none, window, product_at}
use Rattle.algebra.specs.Divided.{raised as raised_by, joined, row as row_of, row_high}

module _ (R : CRing) where
  open R use {Car, 𝟘, ◌⊕◌, ⊖◌, ⊕_assoc, ⊕_zero}
  open SeriesRing R use {◌⊕◌ as ◌+ˢ◌, ◌⊗◌ as ◌*ˢ◌, ⊖◌ as -ˢ◌}

  infixl 65 ◌⊕◌ ◌+ˢ◌
  infixl 70 ◌*ˢ◌
  infix 75 ⊖◌ -ˢ◌
  abbrev raised : ℕ → Series R → Series R
  raised g q = raised_by R g q

  -- the first k coefficients of a sum, and of a negative
  trunc-add : (k : ℕ) (a b : Series R) (n : ℕ) → coef 𝟘 k (trunc k (a +ˢ b)) n ≡ coef 𝟘 k (trunc k a) n ⊕ coef 𝟘 k (trunc k b) n
  trunc-add zero a b n = sym (⊕_zero 𝟘)
  trunc-add (suc k) a b zero = refl
  trunc-add (suc k) a b (suc n) = trunc-add k (tail R a) (tail R b) n

  trunc-neg : (k : ℕ) (a : Series R) (n : ℕ) → coef 𝟘 k (trunc k (-ˢ a)) n ≡ ⊖ coef 𝟘 k (trunc k a) n
  trunc-neg zero a n = sym (neg-zero R)
  trunc-neg (suc k) a zero = refl
  trunc-neg (suc k) a (suc n) = trunc-neg k (tail R a) n

  -- times a monic polynomial: times what is under its leading 1, and raised
  crown-times : (g : ℕ) (w : Vec Car g) (q : Series R) (n : ℕ) → (crown R g w *ˢ q) n ≡ (coef 𝟘 g w *ˢ q) n ⊕ raised g q n
  crown-times zero w q zero = rw (*ˢ-zero R (crown R zero w) q, 0ˢ-* R q zero) (solve₁ R _ (λ x. c1 :* x ≐ c0 :+ x) refl)
  crown-times zero w q (suc n) = rw (*ˢ_suc R (crown R zero w) q n, 0ˢ-* R q n, 0ˢ-* R q (suc n)) (solve₁ R _ (λ x. c1 :* x :+ c0 ≐ c0 :+ x) refl)
  crown-times (suc g) w q zero = rw (*ˢ-zero R (crown R (suc g) w) q, *ˢ-zero R (coef 𝟘 (suc g) w) q) (sym (⊕_zero _))
  crown-times (suc g) w q (suc n) =
      rw (*ˢ_suc R (crown R (suc g) w) q n, *ˢ_suc R (coef 𝟘 (suc g) w) q n, crown-times g w.1 q n) (sym (⊕_assoc _ _ _))

module _ (R : CRing) (g : ℕ) (w : Vec R.Car g) where
  open R use {Car, 𝟘, ◌⊕◌, ⊖◌, ⊕_assoc, ⊕_zero}
  open SeriesRing R use {◌⊕◌ as ◌+ˢ◌, ◌⊗◌ as ◌*ˢ◌, ⊖◌ as -ˢ◌}

  infixl 65 ◌⊕◌ ◌+ˢ◌
  infixl 70 ◌*ˢ◌
  infix 75 ⊖◌ -ˢ◌
  abbrev row : (cap : ℕ) (f : ℕ → Car) → ℕ → Car
  row cap f k = row_of R g w cap f k

  -- the ring of coefficient functions; the divisor; a quotient's and a remainder's coefficients
  abbrev S : CRing
  S = SeriesRing R

  abbrev m : Series R
  m = crown R g w

  abbrev quo : (k : ℕ) → Vec Car k → Series R
  quo k v = coef 𝟘 k (quotient R g w k v)

  abbrev rem : (k : ℕ) → Vec Car k → Series R
  rem k v = coef 𝟘 g (remainder R g w k v)

  -- of a sum, and of a negative
  pub remainder-add : (k : ℕ) (a b : ℕ → Car)
      → remainder R g w k (trunc k (λ n. a n ⊕ b n)) ≡ addᵛ (group_of R) g (remainder R g w k (trunc k a)) (remainder R g w k (trunc k b))
  remainder-add k a b =
      let u : Vec Car k = trunc k a in
      let v : Vec Car k = trunc k b in
      remainder_is R g w k _ k (quo k u +ˢ quo k v) _ (below_+ R _ _ (coef_below 𝟘 k (quotient R g w k u)) (coef_below 𝟘 k (quotient R g w k v)))
      (fun_ext (trunc-add R k a b)
      ∙ ap₂ ◌+ˢ◌ (divided R g w k u) (divided R g w k v)
      ∙ solve₅ S (quo k u) (rem k u) (quo k v) (rem k v) m (λ q r s t m. (q :* m :+ r) :+ (s :* m :+ t) ≐ (q :+ s) :* m :+ (r :+ t)) refl
      ∙ ap (λ x. (quo k u +ˢ quo k v) *ˢ m +ˢ x) (sym (fun_ext (coef-add (group_of R) g _ _))))

  pub remainder-neg : (k : ℕ) (a : ℕ → Car) → remainder R g w k (trunc k (λ n. ⊖ a n)) ≡ negᵛ (group_of R) g (remainder R g w k (trunc k a))
  remainder-neg k a =
      let u : Vec Car k = trunc k a in
      remainder_is R g w k _ k (-ˢ quo k u) _ (below_neg R _ (coef_below 𝟘 k (quotient R g w k u)))
      (fun_ext (trunc-neg R k a)
      ∙ ap (λ x. -ˢ x) (divided R g w k u)
      ∙ solve₃ S (quo k u) (rem k u) m (λ q r m. :~ (q :* m :+ r) ≐ (:~ q) :* m :+ (:~ r)) refl
      ∙ ap (λ x. (-ˢ quo k u) *ˢ m +ˢ x) (sym (fun_ext (coef-neg (group_of R) g _))))

  -- however many coefficients are divided, if none is left out
  remainder_of : (k : ℕ) (p : Poly R) → Below 𝟘 k p.co → remainder R g w k (trunc k p.co) ≡ residue R g w p
  unfolding residue
  remainder_of k p b = residue_respects R g w {p = record { co = p.co; bound = k; below = b }} {p' = p} (same R g w refl)

  -- of a polynomial of g coefficients
  pub remainder_short : (k : ℕ) (v : Vec Car g) → g ≤ k → remainder R g w k (trunc k (coef 𝟘 g v)) ≡ v
  remainder_short k v l = remainder_of k (poly R g v) (below_mono 𝟘 _ l (coef_below 𝟘 g v)) ∙ residue-poly R g w v

  -- of a product of two of these
  pub remainder-product : (k : ℕ) (u v : Vec Car g) → g + g ≤ suc k → remainder R g w k (trunc k (coef 𝟘 g u *ˢ coef 𝟘 g v)) ≡ mulᵛ R g w u v
  unfolding mulᵛ
  remainder-product k u v l =
      remainder_of k (◌*ᴾ◌ R (poly R g u) (poly R g v)) (λ n h. *_below R g g n _ _ (coef_below 𝟘 g u) (coef_below 𝟘 g v) (omega arith))

  -- of the cap lowest coefficients, where the others are zero
  module _ (cap k : ℕ) (v : Vec Car k) (b : Below 𝟘 cap (coef 𝟘 k v)) where
    cut : coef 𝟘 cap (trunc cap (coef 𝟘 k v)) ≡ quo k v *ˢ m +ˢ rem k v
    cut = fun_ext (coef-trunc 𝟘 cap _ b) ∙ divided R g w k v

    pub remainder_cut : remainder R g w cap (trunc cap (coef 𝟘 k v)) ≡ remainder R g w k v
    remainder_cut = remainder_is R g w cap _ k (quo k v) _ (coef_below 𝟘 k (quotient R g w k v)) cut

    pub quotient_cut : coef 𝟘 cap (quotient R g w cap (trunc cap (coef 𝟘 k v))) ≡ coef 𝟘 k (quotient R g w k v)
    quotient_cut = quotient_is R g w cap _ k (quo k v) _ (coef_below 𝟘 k (quotient R g w k v)) cut

  -- the quotient has no more than cap - g coefficients
  quo_below : (cap : ℕ) → g ≤ cap → (f : ℕ → Car) → Below 𝟘 (cap - g) (quo cap (trunc cap f))
  quo_below cap fits f = quotient_below R g w (cap - g) cap (trunc cap f) (below_mono 𝟘 _ (omega arith) (coef_below 𝟘 cap (trunc cap f)))

  -- what the divisor without its leading 1 takes from a coefficient, and what is left of it
  taken : (cap : ℕ) (f : ℕ → Car) (k : ℕ) → k < cap → f k ≡ (coef 𝟘 g w *ˢ quo cap (trunc cap f)) k ⊕ row cap f k
  unfolding row_of joined
  taken cap f k l =
      sym (trunc-at 𝟘 cap f k l)
      ∙ ap (λ s. s k) (divided R g w cap (trunc cap f))
      ∙ ap (λ x. x ⊕ rem cap (trunc cap f) k) (*ˢ_comm R (quo cap (trunc cap f)) m k ∙ crown-times R g w (quo cap (trunc cap f)) k)
      ∙ ⊕_assoc _ _ _

  -- each coefficient is made of those above it
  pub row-each : (cap : ℕ) → g ≤ cap → (f : ℕ → Car) (k : ℕ) → k < cap
      → row cap f k ≡ f k ⊕ (⊖ window R g (cap - g) (coef 𝟘 g w) (λ j. row cap f (g + j)) k)
  row-each cap fits f k l =
      solve₂ R _ _ (λ t x. x ≐ (t :+ x) :- t) refl
      ∙ ap₂ (λ x t. x ⊕ (⊖ t)) (sym (taken cap f k l))
      (product_at R g (cap - g) (coef 𝟘 g w) (quo cap (trunc cap f)) (coef_below 𝟘 g w) (quo_below cap fits f) k
      ∙ ap (λ q. window R g (cap - g) (coef 𝟘 g w) q k) (sym (fun_ext (row_high R g w cap f))))

  -- the top coefficient has an empty window
  pub row-top : (cap : ℕ) → g ≤ cap → (f : ℕ → Car) (k : ℕ) → suc k ≡ cap → row cap f k ≡ f k
  row-top cap fits f k e =
      row-each cap fits f k (omega arith)
      ∙ ap (λ x. f k ⊕ (⊖ x)) (sum-none R (span g (cap - g) k) _ (λ u l. absurd (omega arith)))
      ∙ ap (λ x. f k ⊕ x) (neg-zero R)
      ∙ ⊕_zero _

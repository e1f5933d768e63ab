-- Division by a polynomial whose leading coefficient is 1: it exists, computes, and is unique; the quotient's degree.
--
-- divided                        == v is quotient times divisor plus remainder
-- quotient_is, remainder_is      == and nothing else is: however a program divides, it finds these
-- quotient_below, quotient-top   == the quotient's degree is the dividend's less d, and the leading coefficients are equal
-- remainder_small                == a dividend below the divisor's degree is its own remainder
use Rattle.std.specs.Prelude.{◌≡◌, refl}
use Rattle.std.proofs.Math.Path.{ap, fun_ext}
use Rattle.std.proofs.Common.{sym, ◌∙◌, arith}
use Prim.Native.Nat.{ℕ, zero, suc, ◌+◌}
use Rattle.algebra.specs.Ring.{CRing}
use Rattle.algebra.specs.Solve.{◌:+◌, ◌:-◌, ◌:*◌, ◌≐◌, c0, c1, solve₁, solve₂, solve₃}
use Rattle.algebra.specs.Vec.{Vec, coef, Below, topped, init, last, below_mono, coef_below, coef_inj, coef-zero, topped_split}
use Rattle.algebra.specs.Series.{Series, SeriesRing, *ˢ-zero, *ˢ_suc, 0ˢ-*}
use Rattle.algebra.specs.Poly.{below_all, below_+, below_neg, crown, *-crown-top}
use Rattle.algebra.specs.Divide.{less as less_by, step as step_by, divide, quotient as quotient_by, remainder as remainder_by, below_quotient, unique_quotient, unique_remainder}

module _ (R : CRing) where
  open R use {Car, 𝟘, ◌⊕◌, ◌⊗◌}

  infixl 65 ◌⊕◌
  infixl 70 ◌⊗◌
  abbrev less : (d : ℕ) → Car → Vec Car d → Vec Car d → Vec Car d
  less d t x w = less_by R d t x w

  less-is : (d : ℕ) (t : Car) (x w : Vec Car d) (n : ℕ) → coef 𝟘 (suc d) (topped d x t) n ≡ t ⊗ crown R d w n ⊕ coef 𝟘 d (less d t x w) n
  less-is zero t x w zero = solve₁ R t (λ t. t ≐ t :* c1 :+ c0) refl
  less-is zero t x w (suc n) = solve₁ R t (λ t. c0 ≐ t :* c0 :+ c0) refl
  less-is (suc d) t x w zero = solve₃ R x.0 t w.0 (λ a t b. a ≐ t :* b :+ (a :- t :* b)) refl
  less-is (suc d) t x w (suc n) = less-is d t x.1 w.1 n

module _ (R : CRing) (d : ℕ) (w : Vec R.Car d) where
  open R use {Car, 𝟘, ◌⊕◌, ◌⊗◌, ⊕_zero}
  open SeriesRing R use {𝟘 as 0ˢ, ◌⊕◌ as ◌+ˢ◌, ◌⊗◌ as ◌*ˢ◌}

  infixl 65 ◌⊕◌ ◌+ˢ◌
  infixl 70 ◌⊗◌ ◌*ˢ◌
  abbrev step : Vec Car (suc d) → Vec Car d
  step s = step_by R d w s

  abbrev quotient : (k : ℕ) → Vec Car k → Vec Car k
  quotient k v = quotient_by R d w k v

  abbrev remainder : (k : ℕ) → Vec Car k → Vec Car d
  remainder k v = remainder_by R d w k v

  abbrev m : Series R
  m = crown R d w

  step_is : (s : Vec Car (suc d)) (n : ℕ) → coef 𝟘 (suc d) s n ≡ last d s ⊗ m n ⊕ coef 𝟘 d (step s) n
  step_is s n = ap (λ v. coef 𝟘 (suc d) v n) (sym (topped_split d s)) ∙ less-is R d (last d s) (init d s) w n

  divided-at : (k : ℕ) (v : Vec Car k) (n : ℕ) → coef 𝟘 k v n ≡ (coef 𝟘 k (quotient k v) *ˢ m) n ⊕ coef 𝟘 d (remainder k v) n
  unfolding divide
  divided-at zero v n = rw (0ˢ-* R m n, coef-zero 𝟘 d n) (sym (⊕_zero 𝟘))
  divided-at (suc k) v zero = rw (*ˢ-zero R _ _) (step_is (v.0, remainder k v.1) zero)
  divided-at (suc k) v (suc n) =
      rw (*ˢ_suc R _ _ n)
      (divided-at k v.1 n
      ∙ ap (λ x. (coef 𝟘 k (quotient k v.1) *ˢ m) n ⊕ x) (step_is (v.0, remainder k v.1) (suc n))
      ∙ solve₃ R _ _ _ (λ x y z. x :+ (y :+ z) ≐ (y :+ x) :+ z) refl)

  pub divided : (k : ℕ) (v : Vec Car k) → coef 𝟘 k v ≡ coef 𝟘 k (quotient k v) *ˢ m +ˢ coef 𝟘 d (remainder k v)
  divided k v = fun_ext (divided-at k v)

  -- whatever writes v as q times the divisor plus r, r of d coefficients, has the quotient and the remainder
  module _ (k : ℕ) (v : Vec Car k) (j : ℕ) (q : Series R) (r : Vec Car d) (b : Below 𝟘 j q) (e : coef 𝟘 k v ≡ q *ˢ m +ˢ coef 𝟘 d r) where
    pub quotient_is : coef 𝟘 k (quotient k v) ≡ q
    quotient_is =
        unique_quotient R d w (k + j) _ q _ _ (below_mono 𝟘 _ (omega arith) (coef_below 𝟘 k (quotient k v))) (below_mono 𝟘 q (omega arith) b)
        (coef_below 𝟘 d (remainder k v)) (coef_below 𝟘 d r) (sym (divided k v) ∙ e)

    pub remainder_is : remainder k v ≡ r
    remainder_is =
        coef_inj 𝟘 d _ _ (λ n. ap (λ f. f n)
        (unique_remainder R d w (k + j) _ q _ _ (below_mono 𝟘 _ (omega arith) (coef_below 𝟘 k (quotient k v))) (below_mono 𝟘 q (omega arith) b)
        (coef_below 𝟘 d (remainder k v)) (coef_below 𝟘 d r) (sym (divided k v) ∙ e)))

  -- a dividend below j + d has a quotient below j
  pub quotient_below : (j k : ℕ) (v : Vec Car k) → Below 𝟘 (j + d) (coef 𝟘 k v) → Below 𝟘 j (coef 𝟘 k (quotient k v))
  quotient_below j k v h =
      below_quotient R d w j k (coef 𝟘 k (quotient k v)) (coef_below 𝟘 k (quotient k v))
      (rw (solve₂ (SeriesRing R) (coef 𝟘 k (quotient k v) *ˢ m) (coef 𝟘 d (remainder k v)) (λ x r. x ≐ (x :+ r) :- r) refl, ← (divided k v))
      (below_+ R _ _ h (below_neg R _ (below_mono 𝟘 _ (omega arith) (coef_below 𝟘 d (remainder k v))))))

  -- and at its degree the quotient has the dividend's leading coefficient
  pub quotient-top : (j k : ℕ) (v : Vec Car k) → Below 𝟘 (suc j + d) (coef 𝟘 k v) → coef 𝟘 k (quotient k v) j ≡ coef 𝟘 k v (j + d)
  quotient-top j k v h =
      sym (*-crown-top R j (j + d) (coef 𝟘 k (quotient k v)) d w (quotient_below (suc j) k v h) refl)
      ∙ sym (⊕_zero _)
      ∙ ap (λ x. (coef 𝟘 k (quotient k v) *ˢ m) (j + d) ⊕ x) (sym (coef_below 𝟘 d (remainder k v) (j + d) (omega arith)))
      ∙ sym (divided-at k v (j + d))

  -- a dividend below the divisor's degree is its own remainder
  pub remainder_small : (k : ℕ) (v : Vec Car k) → Below 𝟘 d (coef 𝟘 k v) → (n : ℕ) → coef 𝟘 d (remainder k v) n ≡ coef 𝟘 k v n
  remainder_small k v h n =
      let none : coef 𝟘 k (quotient k v) ≡ 0ˢ = below_all R _ (quotient_below 0 k v (below_mono 𝟘 _ (omega arith) h)) in
      sym (ap (λ f. f n) (divided k v ∙ ap (λ q. q *ˢ m +ˢ coef 𝟘 d (remainder k v)) none
      ∙ solve₂ (SeriesRing R) m (coef 𝟘 d (remainder k v)) (λ m r. c0 :* m :+ r ≐ r) refl))

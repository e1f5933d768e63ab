-- Division by a polynomial whose leading coefficient is 1, from the top coefficient down: the definition, and that such a quotient and remainder are unique.
-- (proofs/Divide.antt: that the two exist, and compute.)
--
-- quotient, remainder R d w k v  == of the polynomial with the k coefficients v by the monic one of degree d with the coefficients w under its 1
-- less, step                     == x less t times w; one step: the top coefficient leaves, and with it that multiple of the divisor
-- below_quotient                 == what q times the divisor is below, q is below by d less
-- unique_quotient, unique_remainder == two ways to write a series as a bounded multiple of the divisor plus d coefficients are one
use Rattle.std.specs.Prelude.{◌≡◌, refl, ◌⊎◌}
use Rattle.std.proofs.Math.Path.{ap}
use Rattle.std.proofs.Common.{sym, ◌∙◌, inl, inr, arith, eq-or-lt_of_le}
use Prim.Native.Nat.{ℕ, zero, suc, ◌+◌, ◌≤◌, ◌<◌}
use Rattle.algebra.specs.Test.{le_or_lt}
use Rattle.algebra.specs.Ring.{CRing, ⊕_cancel, eq_of_sub}
use Rattle.algebra.specs.Solve.{◌:+◌, ◌:-◌, ◌:*◌, ◌≐◌, solve₄}
use Rattle.algebra.specs.Vec.{Vec, Below, zeroᵛ, zipᵛ, init, last, below_mono}
use Rattle.algebra.specs.Series.{Series, SeriesRing}
use Rattle.algebra.specs.Poly.{below_all, below_+, below_neg, crown, *-crown-top}

module _ (R : CRing) where
  open R use {Car, ◌⊕◌, ◌⊗◌, ⊖◌}

  infixl 65 ◌⊕◌
  infixl 70 ◌⊗◌
  infix 75 ⊖◌
  -- x less t times w
  abbrev pub less : (d : ℕ) → Car → Vec Car d → Vec Car d → Vec Car d
  less d t x w = zipᵛ (λ a b. a ⊕ (⊖ (t ⊗ b))) d x w

module _ (R : CRing) (d : ℕ) (w : Vec R.Car d) where
  open R use {Car, 𝟘}
  open SeriesRing R use {◌⊕◌ as ◌+ˢ◌, ◌⊗◌ as ◌*ˢ◌, ⊖◌ as -ˢ◌}

  infixl 65 ◌+ˢ◌
  infixl 70 ◌*ˢ◌
  infix 75 -ˢ◌
  abbrev m : Series R
  m = crown R d w

  -- of d + 1 coefficients: the top one leaves as a quotient coefficient, and with it that multiple of the divisor
  abbrev pub step : Vec Car (suc d) → Vec Car d
  step s = less R d (last d s) (init d s) w

  unfoldable pub divide : (k : ℕ) → Vec Car k → Vec Car k × Vec Car d
  divide zero v = (tt, zeroᵛ 𝟘 d)
  divide (suc k) v =
      let t : Vec Car k × Vec Car d = divide k v.1 in
      let s : Vec Car (suc d) = (v.0, t.1) in
      ((last d s, t.0), step s)

  abbrev pub quotient : (k : ℕ) → Vec Car k → Vec Car k
  quotient k v = (divide k v).0

  abbrev pub remainder : (k : ℕ) → Vec Car k → Vec Car d
  remainder k v = (divide k v).1

  -- ---- degrees and uniqueness: what q times the divisor is below, q is below by d less
  pub below_quotient : (j k : ℕ) (q : Series R) → Below 𝟘 k q → Below 𝟘 (j + d) (q *ˢ m) → Below 𝟘 j q
  below_quotient j zero q p s = below_mono 𝟘 q (omega arith) p
  below_quotient j (suc k) q p s = go (le_or_lt j k) (λ b. below_quotient j k q b s)
    where
      top : j ≤ k → q k ≡ 𝟘
      top h = sym (*-crown-top R k (k + d) q d w p refl) ∙ s (k + d) (omega arith)

      without : j ≤ k → (n : ℕ) → (k ≡ n) ⊎ (k < n) → q n ≡ 𝟘
      without h n (inl e) = rw (← e) (top h)
      without h n (inr l) = p n l

      go : (j ≤ k) ⊎ (k < j) → (Below 𝟘 k q → Below 𝟘 j q) → Below 𝟘 j q
      go (inl h) again = again (λ n l. without h n (eq-or-lt_of_le l))
      go (inr h) again = below_mono 𝟘 q h p

  module _ (k : ℕ) (q q' r r' : Series R) (p : Below 𝟘 k q) (p' : Below 𝟘 k q') (s : Below 𝟘 d r) (s' : Below 𝟘 d r')
      (e : q *ˢ m +ˢ r ≡ q' *ˢ m +ˢ r') where
    difference : (q +ˢ (-ˢ q')) *ˢ m ≡ r' +ˢ (-ˢ r)
    difference =
        solve₄ (SeriesRing R) q q' r m (λ q q' r m. (q :- q') :* m ≐ (q :* m :+ r) :- q' :* m :- r) refl
        ∙ ap (λ x. x +ˢ (-ˢ (q' *ˢ m)) +ˢ (-ˢ r)) e
        ∙ solve₄ (SeriesRing R) q' r r' m (λ q' r r' m. (q' :* m :+ r') :- q' :* m :- r ≐ r' :- r) refl

    pub unique_quotient : q ≡ q'
    unique_quotient =
        eq_of_sub (SeriesRing R) q q'
        (below_all R _ (below_quotient 0 k (q +ˢ (-ˢ q')) (below_+ R q (-ˢ q') p (below_neg R q' p'))
        (rw difference (below_mono 𝟘 (r' +ˢ (-ˢ r)) (omega arith) (below_+ R r' (-ˢ r) s' (below_neg R r s))))))

    pub unique_remainder : r ≡ r'
    unique_remainder = ⊕_cancel (SeriesRing R) (q *ˢ m) r r' (e ∙ ap (λ x. x *ˢ m +ˢ r') (sym unique_quotient))

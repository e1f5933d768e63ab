-- Laws of the sequence that an inverse takes on the modulus m and v, turn by turn.
--
-- turn-start  == m and v, where the inverse of v's leading coefficient is given
-- quot-low, lost, lost-low, lost_high == the quotient has few coefficients; what is carried next, by coefficients
-- turn-next   == the next pair;  turn_shown == a factor of a level below is shown;  turn-some == number 11 is not met
-- turn_factor == the remainder is zero: of degree 1 or more the divisor is the factor;  turn_done == of degree 0 it carries the inverse
use mathlib.Core.Path.{◌≡◌, refl, ap, ◌∙◌}
use mathlib.Core.Logic.{inl, inr}
use Prim.Native.Nat.{ℕ, zero, suc, ◌-◌, ◌≤◌}
use native.Mathlib.Nat.{lt_irrefl}
use native.Mathlib.Omega.{arith}
use Rattle.algebra.specs.Ring.{CRing}
use Rattle.algebra.specs.Vec.{Vec, Below, coef, below_mono, coef_below, coef-zero, coef-trunc}
use Rattle.algebra.specs.Shape.{lead, Stripped}
use Rattle.algebra.specs.Series.{SeriesRing, const}
use Rattle.algebra.specs.Poly.{constᴾ}
use Rattle.algebra.proofs.Quotient.{one-is}
use Rattle.algebra.specs.UnitDivide.{scaleᵛ}
use Rattle.algebra.proofs.UnitDivide.{quotientᵘ_below}
use Rattle.euclid.specs.Answer.{done, shown, long, bind, lift}
use Rattle.euclid.specs.Level.{Level, Good, beneath, beneath_good}
use Rattle.euclid.specs.Inverse.{elements, finish, inverse}
use Rattle.euclid.specs.Demand.{inv_done}
use Rattle.euclid.specs.Lazy.{Led, led, whole, rest, quot, lazy_null, lazy_never_long, next-led}
use Rattle.euclid.proofs.Lazy.{lazy_fuel, lazy_shown, lazy-next}
use Rattle.euclid.specs.LazyInverse.{elements_linear, less-low, less_below, modulus, modulus-led, element}
use Rattle.euclid.proofs.LazyInverse.{inverse-lazy}
use Rattle.sequences.specs.Passes.{Turning}

module _ (L : Level) (g : ℕ) (m v : Vec L.ring.Car g) where
  open L.ring use {Car, 𝟘, 𝟙, ◌⊕◌, ◌⊗◌, ⊖◌}
  open SeriesRing L.ring use {◌⊗◌ as ◌*ˢ◌}

  infixl 65 ◌⊕◌
  infixl 70 ◌⊗◌ ◌*ˢ◌
  infix 75 ⊖◌
  abbrev R : CRing
  R = L.ring

  -- the modulus carries 0, and v carries 1
  pub turn-start : Good L → (e : ℕ) (u : Vec Car e) (c : Car) → Stripped 𝟘 g v (lead e u c) → (i : Car) → L.inv c ≡ done i → Turning L g m v (modulus L g m) (element L g m e u c i)
  turn-start G e u c st i h = record {
    unit_f = modulus-led L g m;
    unit_k = inv_done L G c st.1 i h;
    falls = st.0;
    most = omega arith;
    carried_f = λ n l. coef-zero 𝟘 g n;
    carried_k = λ n l.
        ap (λ x. coef 𝟘 g x n) (one-is R g m some) ∙ coef-trunc 𝟘 g (const R 𝟙) (below_mono 𝟘 (const R 𝟙) some (constᴾ R 𝟙).below) n
        ∙ (constᴾ R 𝟙).below n (omega arith);
    comes = inverse-lazy L g m v e u c st i h (suc e) (omega arith);
  }
    where
      some : 1 ≤ g
      some = omega (arith, st.0)

  module _ {f k : Led Car (Vec Car g)} (t : Turning L g m v f k) where
    -- the quotient's coefficients
    pub quot-low : Below 𝟘 (suc f.degree - k.degree) (coef 𝟘 (suc f.degree) (quot R f k))
    quot-low =
        quotientᵘ_below R k.degree k.low k.unit (suc f.degree - k.degree) (suc f.degree) (whole f)
        (below_mono 𝟘 _ (omega (arith, t.falls)) (coef_below 𝟘 (suc f.degree) (whole f)))

    -- what is carried next
    abbrev pub lost : Vec Car g
    lost = (elements L g m).less f.carried (suc f.degree) (quot R f k) k.carried

    pub lost-low : 1 ≤ k.degree → (n : ℕ)
        → coef 𝟘 g lost n ≡ coef 𝟘 g f.carried n ⊕ (⊖ (coef 𝟘 (suc f.degree) (quot R f k) *ˢ coef 𝟘 g k.carried) n)
    lost-low some n =
        less-low L g m f.carried (suc f.degree) (quot R f k) k.carried (suc f.degree - k.degree) (suc g - f.degree) quot-low t.carried_k
        (omega (arith, t.falls, t.most)) n

    pub lost_high : 1 ≤ k.degree → Below 𝟘 (suc g - k.degree) (coef 𝟘 g lost)
    lost_high some =
        less_below L g m f.carried (suc f.degree) (quot R f k) k.carried (suc f.degree - k.degree) (suc g - f.degree) quot-low t.carried_k
        (suc g - k.degree) (omega arith) (omega (arith, t.falls, t.most)) (below_mono 𝟘 _ (omega (arith, t.falls)) t.carried_f)

    -- the remainder has the leading coefficient c
    module _ (e : ℕ) (u : Vec Car e) (c : Car) (st : Stripped 𝟘 k.degree (rest R f k) (lead e u c)) (G : Good L) where
      -- it is not zero, times f's unit
      pub turn-some : ¬ (L.inv (f.unit ⊗ c) ≡ long)
      turn-some h = lazy_never_long (beneath L g m) (elements L g m) f k t.unit_f e u c st (beneath_good L g m G) (ap (lift inl) h)

      pub turn_shown : (x : L.Shown) → L.inv (f.unit ⊗ c) ≡ shown x → inverse L g m v ≡ shown (inl x)
      turn_shown x h =
          t.comes ∙ ap (λ s. bind s (λ r. finish L g m r.degree r.low r.carried))
          (lazy_shown (beneath L g m) (elements L g m) f k t.unit_f e u c st k.degree (inl x) (ap (lift inl) h))

      pub turn-next : (i : Car) → L.inv (f.unit ⊗ c) ≡ done i → Turning L g m v k (led e u c (i ⊗ f.unit) lost)
      turn-next i h = record {
        unit_f = t.unit_k;
        unit_k = next-led (beneath L g m) (elements L g m) f k t.unit_f e u c st (beneath_good L g m G) i (ap (lift inl) h);
        falls = st.0;
        most = omega (arith, t.falls, t.most);
        carried_f = below_mono 𝟘 _ (omega (arith, t.falls)) t.carried_k;
        carried_k = lost_high (omega (arith, st.0));
        comes =
            t.comes ∙ ap (λ s. bind s (λ r. finish L g m r.degree r.low r.carried))
            (lazy-next (beneath L g m) (elements L g m) f k t.unit_f e u c st t.unit_k (elements_linear L g m) k.degree i (ap (lift inl) h)
            ∙ lazy_fuel (beneath L g m) (elements L g m) k.degree (suc e) k _ st.0 (omega arith));
      }

    -- the remainder is zero
    module _ (z : (n : ℕ) → coef 𝟘 k.degree (rest R f k) n ≡ 𝟘) where
      ended : inverse L g m v ≡ finish L g m k.degree (scaleᵛ R k.degree k.unit k.low) (scaleᵛ R g k.unit k.carried)
      ended =
          t.comes ∙ ap (λ s. bind s (λ r. finish L g m r.degree r.low r.carried)) (lazy_null (beneath L g m) (elements L g m) k.degree f k z)

      pub turn_factor : 1 ≤ k.degree → inverse L g m v ≡ shown (inr (k.degree, scaleᵛ R k.degree k.unit k.low))
      turn_factor some = ended ∙ above k.degree _ _ some
        where
          above : (e : ℕ) (w : Vec Car e) (x : Vec Car g) → 1 ≤ e → finish L g m e w x ≡ shown (inr (e, w))
          above zero w x l = absurd (lt_irrefl 0 l)
          above (suc e) w x l = refl

    -- nothing but zero is below degree 0
    pub turn_done : k.degree ≡ 0 → inverse L g m v ≡ done (scaleᵛ R g k.unit k.carried)
    turn_done none = ended (λ n. coef_below 𝟘 k.degree (rest R f k) n (omega (arith, none))) ∙ zero_one k.degree _ _ none
      where
        zero_one : (e : ℕ) (w : Vec Car e) (x : Vec Car g) → e ≡ 0 → finish L g m e w x ≡ done x
        zero_one zero w x l = refl
        zero_one (suc e) w x l = absurd (lt_irrefl 0 (omega (arith, l)))

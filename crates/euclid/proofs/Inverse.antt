-- The inverse one level up promises what the level below promises.
--
-- inverse_ok  == u with u c = 1, or a factor that is right
-- above_good  == so the level above is good
use Rattle.std.specs.Prelude.{◌≡◌, refl, ◌⊎◌, ℕ, zero, suc, ◌≤◌, ◌<◌}
use Rattle.std.proofs.Common.{ap, ap₂, ◌∙◌, arith, le_refl}
use Rattle.std.proofs.Math.Path.{sym}
use Rattle.algebra.specs.Ring.{CRing, zero-⊗}
use Rattle.algebra.specs.Solve.{◌:-◌, ◌:*◌, ◌≐◌, solve₅}
use Rattle.algebra.specs.Vec.{Vec, coef, zeroᵛ, topped, coef_inj, coef-zero}
use Rattle.algebra.specs.Shape.{Shape, null, lead, strip, Stripped, strip_ok}
use Rattle.algebra.specs.Series.{const-*}
use Rattle.algebra.specs.Poly.{constᴾ, poly}
use Rattle.algebra.specs.Divide.{quotient}
use Rattle.algebra.specs.UnitDivide.{scaleᵛ, made-monic}
use Rattle.algebra.specs.Quotient.{residue}
use Rattle.algebra.proofs.Quotient.{Quotient}
use Rattle.algebra.specs.Divisor.{Dvd, dvd_refl}
use Rattle.algebra.specs.PolyRing.{P, P-path, PolyRing, pol, mon, con}
use Rattle.algebra.specs.Residue.{on_⊖}
use Rattle.algebra.proofs.Residue.{residueʰ, residueʰ-poly, residue_onto, residue_kernel}
use Rattle.euclid.specs.Answer.{Answer, Holds, holds_bind, holds_weaken, holds_both}
use Rattle.euclid.specs.Level.{Level, Good, Mon, RightAbove, beneath, beneath_good}
use Rattle.euclid.specs.Sequence.{Carry, Ended, ended, Turned, seq}
use Rattle.euclid.proofs.Sequence.{seq_ok}
use Rattle.euclid.specs.Turn.{turned_is}
use Rattle.euclid.proofs.Turn.{seq-degree, seq_common}
use Rattle.euclid.specs.Inverse.{residue-scale, elements as elements_by, finish as finish_by, on_modulus as on_modulus_by, inverse_from as inverse_from_by, inverse as inverse_by, above as above_by}

module _ (L : Level) (d : ℕ) (m : Vec L.ring.Car d) where
  open L.ring use {Car, 𝟘, 𝟙}

  abbrev elements : Carry L.ring.Car
  elements = elements_by L d m

  abbrev finish : (e : ℕ) → Vec Car e → Vec Car d → Answer (L.Shown ⊎ Mon Car) (Vec Car d)
  finish e w x = finish_by L d m e w x

  abbrev on_modulus : (e : ℕ) → Vec Car e → Vec Car d → Answer (L.Shown ⊎ Mon Car) (Ended Car (Vec Car d))
  on_modulus e w y = on_modulus_by L d m e w y

  abbrev inverse_from : Shape Car → Answer (L.Shown ⊎ Mon Car) (Vec Car d)
  inverse_from s = inverse_from_by L d m s

  abbrev inverse : Vec Car d → Answer (L.Shown ⊎ Mon Car) (Vec Car d)
  inverse c = inverse_by L d m c

  abbrev above : Level
  above = above_by L d m

  abbrev R : CRing
  R = L.ring

  abbrev Q : CRing
  Q = Quotient L.ring d m

  module _ (G : Good L) where
    open L.ring use {◌⊗◌}
    open Quotient L.ring d m use {Car as Qᶜ, 𝟘 as 0ᵠ, 𝟙 as 1ᵠ, ◌⊕◌ as ◌+ᵠ◌, ◌⊗◌ as ◌*ᵠ◌, ⊖◌ as -ᵠ◌}
    open PolyRing L.ring use {◌⊗◌ as ◌*ᴷ◌}

    infixl 65 ◌+ᵠ◌
    infixl 70 ◌⊗◌ ◌*ᵠ◌ ◌*ᴷ◌
    infix 75 -ᵠ◌
    abbrev B : Level
    B = beneath L d m

    abbrev GB : Good (beneath L d m)
    GB = beneath_good L d m G

    -- residues of polynomials over the level below
    abbrev res : P R → Qᶜ
    res x = (residueʰ R d m).fun x

    res-con : (a : Car) (x : Qᶜ) → res (con R a) *ᵠ x ≡ scaleᵛ R d a x
    res-con a x = ap (λ y. y *ᵠ x) (residueʰ-poly R d m (constᴾ R a)) ∙ residue-scale L d m a x

    -- one turn, among the residues
    res-turn : (n : ℕ) (v : Vec Car n) (j : ℕ) (w : Vec Car j) (e : ℕ) (u : Vec Car e) (c i : Car) → Turned B (elements) n v j w e u c i
        → res (mon R e (scaleᵛ R e i u)) ≡ res (con R i) *ᵠ (res (pol R n v) +ᵠ (-ᵠ (res (pol R n (quotient R j w n v)) *ᵠ res (mon R j w))))
    res-turn n v j w e u c i t =
        let h = residueʰ R d m in
        ap h.fun (turned_is B (elements) n v j w e u c i t)
        ∙ h.on_⊗ (con R i) _
        ∙ ap (λ y. h.fun (con R i) *ᵠ y)
        (h.on_⊕ (pol R n v) _ ∙ ap (λ y. h.fun (pol R n v) +ᵠ y) (on_⊖ h _ ∙ ap (λ y. -ᵠ y) (h.on_⊗ (pol R n (quotient R j w n v)) (mon R j w))))

    -- each polynomial of the sequence is what it carries times c, modulo m
    module _ (c : Vec L.ring.Car d) where
      abbrev carries : Ended Car Qᶜ → Type 0
      carries r = res (mon R r.degree r.low) ≡ r.carried *ᵠ c

      seq_carried : (k n : ℕ) (v : Vec Car n) (x : Qᶜ) (e : ℕ) (w : Vec Car e) (y : Qᶜ) → e < k → res (pol R n v) ≡ x *ᵠ c → res (mon R e w) ≡ y *ᵠ c
          → Holds (RightAbove R L.Right d m) carries (seq B (elements) k n v x e w y)
      seq_carried k n v x e w y l hx hy =
          seq_ok B (elements) GB (λ n v x e w y. (res (pol R n v) ≡ x *ᵠ c) × (res (mon R e w) ≡ y *ᵠ c))
          carries (λ n v x e w y j z. j.1)
          (λ n v x e w y j e' u k i t. (j.1, res-turn n v e w e' u k i t ∙ step n v x e w y j i)) k n v x e w y l (hx, hy)
        where
          step : (n : ℕ) (v : Vec Car n) (x : Qᶜ) (e : ℕ) (w : Vec Car e) (y : Qᶜ) → (res (pol R n v) ≡ x *ᵠ c) × (res (mon R e w) ≡ y *ᵠ c) → (i : Car)
              → res (con R i) *ᵠ (res (pol R n v) +ᵠ (-ᵠ (res (pol R n (quotient R e w n v)) *ᵠ res (mon R e w))))
              ≡ scaleᵛ R d i (x +ᵠ (-ᵠ (residue R d m (poly R n (quotient R e w n v)) *ᵠ y))) *ᵠ c
          step n v x e w y j i =
              ap₂ (λ a b. res (con R i) *ᵠ (a +ᵠ (-ᵠ (res (pol R n (quotient R e w n v)) *ᵠ b)))) j.0 j.1
              ∙ solve₅ Q (res (con R i)) x (res (pol R n (quotient R e w n v))) y c (λ i x q y c. i :* (x :* c :- q :* (y :* c)) ≐ (i :* (x :- q :* y)) :* c) refl
              ∙ ap (λ z. z *ᵠ c) (res-con i (x +ᵠ (-ᵠ (res (pol R n (quotient R e w n v)) *ᵠ y))))
              ∙ ap (λ q. scaleᵛ R d i (x +ᵠ (-ᵠ (q *ᵠ y))) *ᵠ c) (residueʰ-poly R d m (poly R n (quotient R e w n v)))

    -- the modulus has the residue zero, a monic polynomial of degree 0 the residue one, and c made monic that of i c
    res-modulus : res (mon R d m) ≡ 0ᵠ
    res-modulus = (residue_kernel R d m (mon R d m)).1 (dvd_refl (PolyRing R) (mon R d m))

    res_one : (w : Vec Car zero) → res (mon R zero w) ≡ 1ᵠ
    res_one w = ap res (P-path R (mon R zero w) (PolyRing R).𝟙 (λ n. elim n [ zero ↦ refl | suc n ↦ refl ])) ∙ (residueʰ R d m).on_𝟙

    res-start : (c : Qᶜ) (e : ℕ) (u : Vec Car e) (k i : Car) → i ⊗ k ≡ 𝟙 → ((n : ℕ) → coef 𝟘 d c n ≡ coef 𝟘 (suc e) (topped e u k) n)
        → res (mon R e (scaleᵛ R e i u)) ≡ scaleᵛ R d i 1ᵠ *ᵠ c
    res-start c e u k i h is =
        ap res (P-path R (mon R e (scaleᵛ R e i u)) (con R i *ᴷ pol R d c)
        (λ n. made-monic R e u k i h n ∙ ap (λ x. i ⊗ x) (sym (is n)) ∙ sym (const-* R i (coef 𝟘 d c) n)))
        ∙ (residueʰ R d m).on_⊗ (con R i) (pol R d c)
        ∙ ap₂ ◌*ᵠ◌ (sym (Q.⊗_one _) ∙ res-con i 1ᵠ) (residue_onto R d m c)

    -- what the sequence on m and c, of degree e, comes to
    module _ (c : Vec L.ring.Car d) (e : ℕ) (small : e < d) where
      record Came (r : Ended Car Qᶜ) : Type 0 where
        carried_is : carries c r
        low-degree : r.degree ≤ e
        factor : Dvd (PolyRing R) (mon R r.degree r.low) (mon R d m)

      came_ok : (j : ℕ) (w : Vec Car j) (x : Qᶜ) → Came (ended j w x) → Holds (RightAbove R L.Right d m) (λ u. u *ᵠ c ≡ 1ᵠ) (finish j w x)
      came_ok zero w x k = sym k.carried_is ∙ res_one w
      came_ok (suc j) w x k = let l : suc j ≤ e = k.low-degree in record { above = omega arith; below = omega arith; divides = k.factor }

    inverse-lead : (c : Qᶜ) (e : ℕ) (u : Vec Car e) (k : Car) → Stripped 𝟘 d c (lead e u k)
        → Holds (RightAbove R L.Right d m) (λ u. u *ᵠ c ≡ 1ᵠ) (inverse_from (lead e u k))
    inverse-lead c e u k h =
        holds_bind Ra (λ i. i ⊗ k ≡ 𝟙) Inverse (B.inv k) _ (GB k h.1) (λ i unit.
        holds_bind Ra (Came c e h.0) Inverse (run i) _
        (holds_weaken Ra _ _ (run i)
        (holds_both Ra _ _ (run i)
        (seq_carried c (suc (suc d)) (suc d) (topped d m 𝟙) (zeroᵛ 𝟘 d) e (scaleᵛ R e i u) (scaleᵛ R d i 1ᵠ) enough
        (res-modulus ∙ sym (zero-⊗ Q c)) (res-start c e u k i unit h.2))
        (holds_both Ra _ _ (run i)
        (seq-degree B (elements) GB (suc (suc d)) (suc d) (topped d m 𝟙) (zeroᵛ 𝟘 d) e (scaleᵛ R e i u) (scaleᵛ R d i 1ᵠ) enough e (le_refl e))
        (seq_common B (elements) GB (suc (suc d)) (suc d) (topped d m 𝟙) (zeroᵛ 𝟘 d) e (scaleᵛ R e i u) (scaleᵛ R d i 1ᵠ) enough)))
        (λ r t. record {
          carried_is = t.0;
          low-degree = t.1.0;
          factor = ((t.1.1 (mon R r.degree r.low)).1 (dvd_refl (PolyRing R) _)).left;
        }))
        (λ r k. came_ok c e h.0 r.degree r.low r.carried k))
      where
        Ra : L.Shown ⊎ Mon Car → Type 0
        Ra = RightAbove R L.Right d m

        Inverse : Qᶜ → Type 0
        Inverse u = u *ᵠ c ≡ 1ᵠ

        enough : e < suc (suc d)
        enough = omega (arith, h.0)

        run : Car → Answer (L.Shown ⊎ Mon Car) (Ended Car Qᶜ)
        run i = on_modulus e (scaleᵛ R e i u) (scaleᵛ R d i 1ᵠ)

    pub inverse_ok : (c : Vec L.ring.Car d) → ¬ (c ≡ 0ᵠ) → Holds (RightAbove R L.Right d m) (λ u. u *ᵠ c ≡ 1ᵠ) (inverse c)
    unfolding inverse_by
    inverse_ok c nz = go (strip L.is_zero d c) (strip_ok L.zero_test d c)
      where
        go : (s : Shape Car) → Stripped 𝟘 d c s → Holds (RightAbove R L.Right d m) (λ u. u *ᵠ c ≡ 1ᵠ) (inverse_from s)
        go null h = absurd (nz (coef_inj 𝟘 d c 0ᵠ (λ n. h n ∙ sym (coef-zero 𝟘 d n))))
        go (lead e u k) h = inverse-lead c e u k h

    pub above_good : Good (above)
    above_good = inverse_ok

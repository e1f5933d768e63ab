-- Demand 3 over any level: what a given inverse and a factor shown in its place are; a GCD is determined by its description.
-- (proofs/Demand.antt: what a given GCD is, and that number 11 is never given in its place.)
--
-- of_done, of_shown, of_long == what an answer is, by its kind
-- inv_done, inv_shown, inv_never_long == the three kinds of answer of the inverse;  inv_given == where nothing can be shown, it is given
-- inverse-is   == however it was found, an inverse is the answer wherever one is given
-- gcd_unique   == two polynomials of demand 3's description are equal;  gcd-zero == a GCD is zero exactly when both are
use Rattle.std.specs.Prelude.{◌≡◌, refl, ◌↔◌}
use Rattle.std.proofs.Math.Path.{ap}
use Rattle.std.proofs.Common.{sym, ◌∙◌, subst}
use Rattle.algebra.specs.Ring.{CRing, zero-⊗}
use Rattle.algebra.specs.Vec.{topped-top}
use Rattle.algebra.specs.Divisor.{Dvd, dvd_refl, inv_unique}
use Rattle.algebra.specs.PolyRing.{P, PolyRing, mon}
use Rattle.algebra.specs.Monic.{monic_antisym}
use Rattle.euclid.specs.Answer.{Answer, done, shown, long, Holds, holds_done}
use Rattle.euclid.specs.Level.{Level, Good}
use Rattle.euclid.specs.Gcd.{Made, nil, made, val, Gcd}

-- what an answer is, by its kind
module _ {F A : Type 0} (Q : F → Type 0) (H : A → Type 0) {m : Answer F A} (h : Holds Q H m) where
  pub of_done : (a : A) → m ≡ done a → H a
  of_done a e = subst (Holds Q H) e h

  pub of_shown : (f : F) → m ≡ shown f → Q f
  of_shown f e = subst (Holds Q H) e h

  pub of_long : ¬ (m ≡ long)
  of_long e = subst (Holds Q H) e h

module _ (L : Level) (G : Good L) where
  abbrev R : CRing
  R = L.ring

  module _ (c : L.ring.Car) (nz : ¬ (c ≡ L.ring.𝟘)) where
    abbrev IsInverse : L.ring.Car → Type 0
    IsInverse u = L.ring.◌⊗◌ u c ≡ L.ring.𝟙

    pub inv_done : (u : L.ring.Car) → L.inv c ≡ done u → IsInverse u
    inv_done = of_done L.Right IsInverse (G c nz)

    pub inv_shown : (f : L.Shown) → L.inv c ≡ shown f → L.Right f
    inv_shown = of_shown L.Right IsInverse (G c nz)

    pub inv_never_long : ¬ (L.inv c ≡ long)
    inv_never_long = of_long L.Right IsInverse (G c nz)

    pub inv_given : ((f : L.Shown) → ¬ (L.Right f)) → (u : L.ring.Car) × (L.inv c ≡ done u) × IsInverse u
    inv_given free = holds_done L.Right IsInverse (L.inv c) (G c nz) free

    -- however it was found, an inverse is the answer wherever one is given
    pub inverse-is : (u v : L.ring.Car) → L.inv c ≡ done v → IsInverse u → L.inv c ≡ done u
    inverse-is u v e h = e ∙ ap done (inv_unique R c v u (R.⊗_comm _ _ ∙ inv_done v e) (R.⊗_comm _ _ ∙ h))

-- ---- a GCD is determined by its description
module _ (R : CRing) where
  abbrev K : CRing
  K = PolyRing R

  zero_multiple : (f : P R) → Dvd K K.𝟘 f → f ≡ K.𝟘
  zero_multiple f h = h.eq ∙ zero-⊗ K h.times

  -- two that divide each other, each monic or zero, are equal
  pub made_antisym : {X Y : Type 0} (g : Made R.Car X) (h : Made R.Car Y) → Dvd (PolyRing R) (val R g) (val R h) → Dvd (PolyRing R) (val R h) (val R g) → val R g ≡ val R h
  made_antisym (nil x) h k l = sym (zero_multiple (val R h) k)
  made_antisym (made d w x) (nil y) k l = zero_multiple (mon R d w) l
  made_antisym (made d w x) (made e u y) k l = monic_antisym R d w e u k l

  pub gcd_unique : {X Y : Type 0} (a b : P R) (g : Made R.Car X) (h : Made R.Car Y) → Gcd R a b g → Gcd R a b h → val R g ≡ val R h
  gcd_unique a b g h G H =
      made_antisym g h ((H.divisors (val R g)).1 ((G.divisors (val R g)).0 (dvd_refl K (val R g)))) ((G.divisors (val R h)).1 ((H.divisors (val R h)).0 (dvd_refl K (val R h))))

-- "its leading coefficient is 1 unless a and b are both zero, and then it is zero": it is zero exactly when both are, where 1 is not 0
pub gcd-zero : (R : CRing) → ¬ (R.𝟙 ≡ R.𝟘) → {X : Type 0} (a b : P R) (g : Made R.Car X) → Gcd R a b g
    → (val R g ≡ (PolyRing R).𝟘) ↔ ((a ≡ (PolyRing R).𝟘) × (b ≡ (PolyRing R).𝟘))
gcd-zero R ne a b (nil x) G = (λ _. G.leading, λ _. refl)
gcd-zero R ne a b (made d w x) G = (
  λ e. absurd (ne (sym (topped-top R.𝟘 d w R.𝟙) ∙ ap (λ q. q.0 d) e)),
  λ e. absurd (G.leading e),
)

-- R[z] as a commutative ring: coefficient functions with a bound that merely exists, so that two polynomials are equal when their coefficients are.
-- This is where "divides" is said: h divides f when f is h times some polynomial. (proofs/PolyRing.antt: division with remainder in R[z].)
--
-- P R, PolyRing R  == the polynomials, and their ring;  P-path: equal by coefficients;  each: to show a fact of all, show it of those with a bound
-- pol, mon, con    == the polynomial with given coefficients; the monic one with given coefficients under its 1; a constant
use Rattle.std.specs.Prelude.{◌≡◌, refl, ℕ}
use Rattle.std.proofs.Common.{ap, subst}
use Rattle.std.proofs.Math.Path.{fun_ext}
use Rattle.std.proofs.Math.Logic.{∥∥₁_prop, ∥∥₁_map, ∥∥₁_map₂, ∥∥₁_elim}
use mathlib.Core.HLevel.{Σ_prop_path, Σ_set, prop→set}
use Rattle.algebra.specs.Ring.{CRing}
use Rattle.algebra.specs.Vec.{Vec, Below}
use Rattle.algebra.specs.Series.{Series, SeriesRing, const-inverse}
use Rattle.algebra.specs.Poly.{Poly, 0ᴾ, constᴾ, ◌+ᴾ◌, -ᴾ◌, ◌*ᴾ◌, poly, monic}
use Rattle.algebra.specs.Divisor.{IsUnit}

module _ (R : CRing) where
  open R use {Car, 𝟘, 𝟙, ◌⊗◌}
  open SeriesRing R use {◌⊕◌ as ◌+ˢ◌, ◌⊗◌ as ◌*ˢ◌, ⊖◌ as -ˢ◌}

  infixl 65 ◌+ˢ◌
  infixl 70 ◌⊗◌ ◌*ˢ◌
  infix 75 -ˢ◌
  abbrev S : CRing
  S = SeriesRing R

  abbrev pub Bounded : Series R → Type 0
  Bounded f = (k : ℕ) × Below 𝟘 k f

  abbrev pub P : Type 0
  P = (f : Series R) × ∥ Bounded f ∥₁

  pub P-path : (x y : P) → ((n : ℕ) → x.0 n ≡ y.0 n) → x ≡ y
  P-path x y e = Σ_prop_path (λ f. ∥∥₁_prop) (fun_ext e)

  abbrev pub bounded : (p : Poly R) → Bounded p.co
  bounded p = (p.bound, p.below)

  abbrev pub unbundle : {f : Series R} → Bounded f → Poly R
  unbundle {f} b = record { co = f; bound = b.0; below = b.1 }

  abbrev pub ↑ : Poly R → P
  ↑ p = (p.co, ∣ bounded p ∣₁)

  pub each : (Q : P → Type 0) → ((x : P) → IsProp (Q x)) → ((p : Poly R) → Q (↑ p)) → (x : P) → Q x
  each Q prop h x = ∥∥₁_elim x.1 (prop x) (λ b. subst Q (P-path (↑ (unbundle b)) x (λ n. refl)) (h (unbundle b)))

  abbrev pub PolyRing : CRing
  PolyRing = record {
    Car = P;
    is_set = Σ_set S.is_set (λ f. prop→set ∥∥₁_prop);
    𝟘 = ↑ (0ᴾ R);
    𝟙 = ↑ (constᴾ R 𝟙);
    ◌⊕◌ = λ x y. (x.0 +ˢ y.0, ∥∥₁_map₂ x.1 y.1 (λ a b. bounded (◌+ᴾ◌ R (unbundle a) (unbundle b))));
    ◌⊗◌ = λ x y. (x.0 *ˢ y.0, ∥∥₁_map₂ x.1 y.1 (λ a b. bounded (◌*ᴾ◌ R (unbundle a) (unbundle b))));
    ⊖◌ = λ x. (-ˢ x.0, ∥∥₁_map x.1 (λ a. bounded (-ᴾ◌ R (unbundle a))));
    ⊕_assoc = λ x y z. P-path _ _ (λ n. ap (λ f. f n) (S.⊕_assoc x.0 y.0 z.0));
    ⊕_comm = λ x y. P-path _ _ (λ n. ap (λ f. f n) (S.⊕_comm x.0 y.0));
    ⊕_zero = λ x. P-path _ _ (λ n. ap (λ f. f n) (S.⊕_zero x.0));
    ⊕_neg = λ x. P-path _ _ (λ n. ap (λ f. f n) (S.⊕_neg x.0));
    ⊗_assoc = λ x y z. P-path _ _ (λ n. ap (λ f. f n) (S.⊗_assoc x.0 y.0 z.0));
    ⊗_comm = λ x y. P-path _ _ (λ n. ap (λ f. f n) (S.⊗_comm x.0 y.0));
    ⊗_one = λ x. P-path _ _ (λ n. ap (λ f. f n) (S.⊗_one x.0));
    ⊗_dist = λ x y z. P-path _ _ (λ n. ap (λ f. f n) (S.⊗_dist x.0 y.0 z.0));
  }

  open PolyRing use {𝟘 as 0ᴷ}

  abbrev pub pol : (n : ℕ) → Vec Car n → P
  pol n v = ↑ (poly R n v)

  abbrev pub mon : (d : ℕ) → Vec Car d → P
  mon d w = ↑ (monic R d w)

  abbrev pub con : Car → P
  con a = ↑ (constᴾ R a)

  pub pol_nil : (v : Vec Car 0) → pol 0 v ≡ 0ᴷ
  pol_nil v = P-path _ _ (λ n. refl)

  pub con_unit : (i c : Car) → i ⊗ c ≡ 𝟙 → IsUnit PolyRing (con i)
  con_unit i c h = record { inv = con c; eq = P-path _ _ (const-inverse R i c h) }

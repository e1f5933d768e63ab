-- Vectors of d coefficients, lowest first, and the coefficient functions that they stand for: `coef o d v n` is the coefficient at n, and o from d on.
-- Nothing here knows a product: a vector over a group is added by places (vec_group).
--
-- Vec A d        == d elements of A
-- coef o d v     == the coefficient function of v, o from d on
-- Below o k f    == the coefficient function f is o from k on
-- trunc d f      == the first d coefficients of f
-- zeroᵛ o d      == d times o;  mapᵛ, zipᵛ == by places
-- topped d w c   == the d coefficients w and c above them: with c = 1 a monic polynomial of degree d
-- init, last     == the d coefficients and the one above them, of d + 1
-- allᵛ, zero_vec == every place passes a test; a test for zero tells the zero vector
-- vec_group G d  == the group of vectors of d elements of G
use Rattle.std.specs.Prelude.{◌≡◌, refl, Bool, true, ◌&&◌, ℕ, zero, suc, ◌≤◌, ◌<◌, T}
use Rattle.std.proofs.Common.{ap, sym, ◌∙◌, arith}
use Rattle.std.proofs.Math.Path.{fun_ext}
use mathlib.Core.HLevel.{Σ_set, prop→set, Unit-prop}
use Rattle.algebra.specs.Test.{ZeroTest, both, both_l, both_r}
use Rattle.algebra.specs.Ring.{Group, negative_zero}

abbrev pub Vec : Type 0 → ℕ → Type 0
Vec A zero = Unit {0}
Vec A (suc d) = A × Vec A d

pub Vec-set : {A : Type 0} → IsSet A → (d : ℕ) → IsSet (Vec A d)
Vec-set s zero = prop→set Unit-prop
Vec-set s (suc d) = Σ_set s (λ _. Vec-set s d)

abbrev pub coef : {A : Type 0} → A → (d : ℕ) → Vec A d → ℕ → A
coef o zero v n = o
coef o (suc d) v zero = v.0
coef o (suc d) v (suc n) = coef o d v.1 n

abbrev pub Below : {A : Type 0} → A → ℕ → (ℕ → A) → Type 0
Below o k f = (n : ℕ) → k ≤ n → f n ≡ o

abbrev pub trunc : {A : Type 0} (d : ℕ) → (ℕ → A) → Vec A d
trunc zero f = tt
trunc (suc d) f = (f zero, trunc d (λ n. f (suc n)))

abbrev pub zeroᵛ : {A : Type 0} → A → (d : ℕ) → Vec A d
zeroᵛ o zero = tt
zeroᵛ o (suc d) = (o, zeroᵛ o d)

abbrev pub mapᵛ : {A B : Type 0} → (A → B) → (d : ℕ) → Vec A d → Vec B d
mapᵛ f zero v = tt
mapᵛ f (suc d) v = (f v.0, mapᵛ f d v.1)

abbrev pub zipᵛ : {A B C : Type 0} → (A → B → C) → (d : ℕ) → Vec A d → Vec B d → Vec C d
zipᵛ f zero u v = tt
zipᵛ f (suc d) u v = (f u.0 v.0, zipᵛ f d u.1 v.1)

abbrev pub topped : {A : Type 0} (d : ℕ) → Vec A d → A → Vec A (suc d)
topped zero w c = (c, tt)
topped (suc d) w c = (w.0, topped d w.1 c)

abbrev pub init : {A : Type 0} (d : ℕ) → Vec A (suc d) → Vec A d
init zero v = tt
init (suc d) v = (v.0, init d v.1)

abbrev pub last : {A : Type 0} (d : ℕ) → Vec A (suc d) → A
last zero v = v.0
last (suc d) v = last d v.1

-- every place passes the test
abbrev pub allᵛ : {A : Type 0} → (A → Bool) → (d : ℕ) → Vec A d → Bool
allᵛ z zero v = true
allᵛ z (suc d) v = z v.0 && allᵛ z d v.1

-- ---- coefficients
module _ {A : Type 0} (o : A) where
  pub below_mono : {j k : ℕ} (f : ℕ → A) → j ≤ k → Below o j f → Below o k f
  below_mono f h p n l = p n (omega arith)

  pub below_tail : {k : ℕ} (f : ℕ → A) → Below o (suc k) f → Below o k (λ n. f (suc n))
  below_tail f p n l = p (suc n) (omega arith)

  pub coef_below : (d : ℕ) (v : Vec A d) → Below o d (coef o d v)
  coef_below zero v n l = refl
  coef_below (suc d) v zero l = absurd (omega arith)
  coef_below (suc d) v (suc n) l = coef_below d v.1 n (omega arith)

  pub coef-trunc : (d : ℕ) (f : ℕ → A) → Below o d f → (n : ℕ) → coef o d (trunc d f) n ≡ f n
  coef-trunc zero f p n = sym (p n (omega arith))
  coef-trunc (suc d) f p zero = refl
  coef-trunc (suc d) f p (suc n) = coef-trunc d (λ n. f (suc n)) (below_tail f p) n

  pub trunc-at : (d : ℕ) (f : ℕ → A) (n : ℕ) → n < d → coef o d (trunc d f) n ≡ f n
  trunc-at zero f n h = absurd (omega arith)
  trunc-at (suc d) f zero h = refl
  trunc-at (suc d) f (suc n) h = trunc-at d (λ i. f (suc i)) n (omega arith)

  pub trunc-coef : (d : ℕ) (v : Vec A d) → trunc d (coef o d v) ≡ v
  trunc-coef zero v = refl
  trunc-coef (suc d) v = λ i. (v.0, trunc-coef d v.1 i)

  -- a vector is its coefficients
  pub coef_inj : (d : ℕ) (u v : Vec A d) → ((n : ℕ) → coef o d u n ≡ coef o d v n) → u ≡ v
  coef_inj d u v e = sym (trunc-coef d u) ∙ ap (trunc d) (fun_ext e) ∙ trunc-coef d v

  pub coef-zero : (d n : ℕ) → coef o d (zeroᵛ o d) n ≡ o
  coef-zero zero n = refl
  coef-zero (suc d) zero = refl
  coef-zero (suc d) (suc n) = coef-zero d n

  pub topped-top : (d : ℕ) (w : Vec A d) (c : A) → coef o (suc d) (topped d w c) d ≡ c
  topped-top zero w c = refl
  topped-top (suc d) w c = topped-top d w.1 c

pub coef-map : {A B : Type 0} {o : A} {o' : B} (f : A → B) → f o ≡ o' → (d : ℕ) (v : Vec A d) (n : ℕ) → coef o' d (mapᵛ f d v) n ≡ f (coef o d v n)
coef-map f h zero v n = sym h
coef-map f h (suc d) v zero = refl
coef-map f h (suc d) v (suc n) = coef-map f h d v.1 n

pub coef_zip : {A B C : Type 0} {a : A} {b : B} {c : C} (f : A → B → C) → f a b ≡ c → (d : ℕ) (u : Vec A d) (v : Vec B d) (n : ℕ)
    → coef c d (zipᵛ f d u v) n ≡ f (coef a d u n) (coef b d v n)
coef_zip f h zero u v n = sym h
coef_zip f h (suc d) u v zero = refl
coef_zip f h (suc d) u v (suc n) = coef_zip f h d u.1 v.1 n

pub map-topped : {A B : Type 0} (f : A → B) (d : ℕ) (w : Vec A d) (c : A) → mapᵛ f (suc d) (topped d w c) ≡ topped d (mapᵛ f d w) (f c)
map-topped f zero w c = refl
map-topped f (suc d) w c = λ i. (f w.0, map-topped f d w.1 c i)

pub topped_split : {A : Type 0} (d : ℕ) (v : Vec A (suc d)) → topped d (init d v) (last d v) ≡ v
topped_split zero v = refl
topped_split (suc d) v = λ i. (v.0, topped_split d v.1 i)

-- where the test tells zero, it tells the zero vector
pub zero_vec : {A : Type 0} {o : A} {z : A → Bool} → ZeroTest o z → (d : ℕ) → ZeroTest (zeroᵛ o d) (allᵛ z d)
zero_vec {A} {o} {z} Z d = record { sound = sound d; same = same d }
  where
    sound : (d : ℕ) (v : Vec A d) → T (allᵛ z d v) → v ≡ zeroᵛ o d
    sound zero v h = refl
    sound (suc d) v h = λ i. (Z.sound v.0 (both_l (z v.0) _ h) i, sound d v.1 (both_r (z v.0) _ h) i)

    same : (d : ℕ) → T (allᵛ z d (zeroᵛ o d))
    same zero = tt
    same (suc d) = both (z o) (allᵛ z d (zeroᵛ o d)) Z.same (same d)

-- ---- sums by places
module _ (G : Group) where
  open G use {Car, 𝟘, ◌⊕◌, ⊖◌, ⊕_assoc, ⊕_comm, ⊕_zero, ⊕_neg}

  infixl 65 ◌⊕◌
  infix 75 ⊖◌
  abbrev pub addᵛ : (d : ℕ) → Vec Car d → Vec Car d → Vec Car d
  addᵛ d u v = zipᵛ ◌⊕◌ d u v

  abbrev pub negᵛ : (d : ℕ) → Vec Car d → Vec Car d
  negᵛ d u = mapᵛ ⊖◌ d u

  pub coef-add : (d : ℕ) (u v : Vec Car d) (n : ℕ) → coef 𝟘 d (addᵛ d u v) n ≡ coef 𝟘 d u n ⊕ coef 𝟘 d v n
  coef-add d u v n = coef_zip ◌⊕◌ (⊕_zero 𝟘) d u v n

  pub coef-neg : (d : ℕ) (u : Vec Car d) (n : ℕ) → coef 𝟘 d (negᵛ d u) n ≡ ⊖ coef 𝟘 d u n
  coef-neg d u n = coef-map ⊖◌ (negative_zero G) d u n

  abbrev pub vec_group : ℕ → Group
  vec_group d = record {
    Car = Vec Car d;
    is_set = Vec-set G.is_set d;
    𝟘 = zeroᵛ 𝟘 d;
    ◌⊕◌ = addᵛ d;
    ⊖◌ = negᵛ d;
    ⊕_assoc = λ u v w. coef_inj 𝟘 d _ _ (λ n. simp coef-add (⊕_assoc _ _ _));
    ⊕_comm = λ u v. coef_inj 𝟘 d _ _ (λ n. simp coef-add (⊕_comm _ _));
    ⊕_zero = λ u. coef_inj 𝟘 d _ _ (λ n. simp (coef-add, coef-zero 𝟘) (⊕_zero _));
    ⊕_neg = λ u. coef_inj 𝟘 d _ _ (λ n. simp (coef-add, coef-neg, coef-zero 𝟘) (⊕_neg _));
  }

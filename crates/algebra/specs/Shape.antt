-- The degree of a vector of coefficients, found by a test for zero: the shape of a polynomial is zero, or the coefficients under its leading one, and that one.
--
-- Shape A, null, lead e w c == zero; degree e, coefficients w under the leading c
-- strip z d v               == the shape of the vector v, z being the test for zero;  Stripped, strip_ok: what it says of v
-- count                     == one more than the degree, 0 for zero
-- strip-lead, strip_null    == whatever has those coefficients has that shape: the shape does not depend on how many coefficients are given
use Rattle.std.specs.Prelude.{◌≡◌, refl, Bool, true, false, not, ℕ, zero, suc, ◌<◌, T}
use Rattle.std.proofs.Common.{ap, ap₂, sym, ◌∙◌, arith}
use Rattle.algebra.specs.Test.{ZeroTest, branch, not_zero}
use Rattle.algebra.specs.Vec.{Vec, coef, topped}

pub data Shape (A : Type 0) : Type 0 where
  null : Shape A
  lead : (e : ℕ) → Vec A e → A → Shape A

abbrev pub count : {A : Type 0} → Shape A → ℕ
count null = 0
count (lead e w c) = suc e

module _ {A : Type 0} (z : A → Bool) where
  -- from the top down
  abbrev pub strip_step : A → Shape A → Shape A
  strip_step a null = branch (z a) (λ _. null) (λ _. lead zero tt a)
  strip_step a (lead e w c) = lead (suc e) (a, w) c

  abbrev pub strip : (d : ℕ) → Vec A d → Shape A
  strip zero v = null
  strip (suc d) v = strip_step v.0 (strip d v.1)

-- what a shape says of v, o being zero
module _ {A : Type 0} (o : A) where
  abbrev pub Stripped : (d : ℕ) → Vec A d → Shape A → Type 0
  Stripped d v null = (n : ℕ) → coef o d v n ≡ o
  Stripped d v (lead e w c) = (e < d) × (¬ (c ≡ o)) × ((n : ℕ) → coef o d v n ≡ coef o (suc e) (topped e w c) n)

module _ {A : Type 0} {o : A} {z : A → Bool} (Z : ZeroTest o z) where
  pub strip_ok : (d : ℕ) (v : Vec A d) → Stripped o d v (strip z d v)
  strip_ok zero v = λ n. refl
  strip_ok (suc d) v = go (strip z d v.1) (strip_ok d v.1)
    where
      two : (b : Bool) → (T b → v.0 ≡ o) → (T (not b) → ¬ (v.0 ≡ o)) → ((n : ℕ) → coef o d v.1 n ≡ o)
          → Stripped o (suc d) v (branch b (λ _. null) (λ _. lead zero tt v.0))
      two true y n h = λ k. elim k as (λ k. coef o (suc d) v k ≡ o) [ zero ↦ y tt | suc k ↦ h k ]
      two false y n h =
          (omega arith, n tt, λ k. elim k as (λ k. coef o (suc d) v k ≡ coef o 1 (topped {A = A} 0 tt v.0) k) [ zero ↦ refl | suc k ↦ h k ])

      go : (s : Shape A) → Stripped o d v.1 s → Stripped o (suc d) v (strip_step z v.0 s)
      go null h = two (z v.0) (Z.sound v.0) (not_zero Z v.0) h
      go (lead e w c) h = (omega (arith, h.0), h.1, λ k. elim k as (λ k. coef o (suc d) v k ≡ coef o (suc (suc e)) (topped {A = A} (suc e) (v.0, w) c) k) [ zero ↦ refl | suc k ↦ h.2 k ])

  pub strip_null : (k : ℕ) (a : Vec A k) → ((n : ℕ) → coef o k a n ≡ o) → strip z k a ≡ null
  strip_null zero a h = refl
  strip_null (suc k) a h = ap (strip_step z a.0) (strip_null k a.1 (λ n. h (suc n))) ∙ go (z a.0) (not_zero Z a.0)
    where
      go : (b : Bool) → (T (not b) → ¬ (a.0 ≡ o)) → branch b (λ _. null) (λ _. lead zero tt a.0) ≡ null
      go true h' = refl
      go false h' = absurd (h' tt (h 0))

  -- the same coefficients, the same shape
  pub strip-same : (k : ℕ) (a : Vec A k) (l : ℕ) (b : Vec A l) → ((n : ℕ) → coef o k a n ≡ coef o l b n) → strip z k a ≡ strip z l b
  strip-same zero a l b h = sym (strip_null l b (λ n. sym (h n)))
  strip-same (suc k) a zero b h = strip_null (suc k) a h
  strip-same (suc k) a (suc l) b h = ap₂ (strip_step z) (h 0) (strip-same k a.1 l b.1 (λ n. h (suc n)))

  strip-topped : (e : ℕ) (u : Vec A e) (c : A) → ¬ (c ≡ o) → strip z (suc e) (topped e u c) ≡ lead e u c
  strip-topped zero u c nz = go (z c) (Z.sound c)
    where
      go : (b : Bool) → (T b → c ≡ o) → branch b (λ _. null) (λ _. lead zero tt c) ≡ lead zero u c
      go true h = absurd (nz (h tt))
      go false h = refl
  strip-topped (suc e) u c nz = ap (strip_step z u.0) (strip-topped e u.1 c nz)

  pub strip-lead : (k : ℕ) (a : Vec A k) (e : ℕ) (u : Vec A e) (c : A) → ¬ (c ≡ o) → ((n : ℕ) → coef o k a n ≡ coef o (suc e) (topped e u c) n) → strip z k a ≡ lead e u c
  strip-lead k a e u c nz h = strip-same k a (suc e) (topped e u c) h ∙ strip-topped e u c nz

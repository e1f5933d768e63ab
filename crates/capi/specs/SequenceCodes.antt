-- What the calls for C promise of inverse and GCD, which may show a factor.
--
-- sequence_plain         == an answer is plain: with a number that number, and else Done or a level of at most 4
-- InverseCoded, GcdCoded == the kernel's promise of the call, its answer told as a number
-- .. _coded_determined   == two results that a promise allows are equal
-- .. -said-plain         == what the kernel's call answers is plain;  .. -code_tells, that the number tells which answer it is, are in proofs/Codes
use Rattle.std.specs.Prelude.{ℕ, zero, suc, ◌≤◌, ◌≡◌, refl, List, ◌⊎◌, ℤ}
use Rattle.std.proofs.Common.{arith, sym, ap, ◌∙◌, subst, inl, inr}
use Rattle.kernel.specs.Refusals.{Said, done, factor, refused}
use Rattle.kernel.specs.Inverses.{inverse_number, inverse}
use Rattle.kernel.specs.InverseMeaning.{inverse_numbers, inverse_refused, inverse-kind, inverse-level}
use Rattle.kernel.specs.Gcds.{gcd_number, gcd}
use Rattle.kernel.specs.GcdMeaning.{gcd_numbers, gcd_refused, gcd-kind, gcd-level}
use Rattle.capi.specs.Codes.{code, Plain}

-- the answer s of a call that gives the number k
sequence_plain : (s : Said) (k : ℕ) → k ≤ 11 → ((j : ℕ) → k ≡ suc j → s ≡ refused (suc j)) → (k ≡ 0 → (s ≡ done) ⊎ ((l : ℕ) × (s ≡ factor l)))
    → (k ≡ 0 → (l : ℕ) → s ≡ factor l → l ≤ 4) → Plain s
sequence_plain s zero h numbered kind level = by (kind refl)
  where
    by : (s ≡ done) ⊎ ((l : ℕ) × (s ≡ factor l)) → Plain s
    by (inl q) = subst Plain (sym q) tt
    by (inr x) = subst Plain (sym x.1) (level refl x.0 x.1)
sequence_plain s (suc k) h numbered kind level = subst Plain (sym (numbered k refl)) (omega arith, h)

-- ---- inverse: the number, and the words of u, of the factor buffer and of the work store afterwards
pub record InverseCoded (p n : ℤ) (e t c u f v : List ℤ) (r : ℕ) (u' f' v' : List ℤ) : Type 0 where
  pub answer : r ≡ code (inverse p n e t c u f v).said
  pub words : u' ≡ (inverse p n e t c u f v).words.inverse
  pub factor : f' ≡ (inverse p n e t c u f v).words.factor
  pub work : v' ≡ (inverse p n e t c u f v).words.work

pub inverse_coded_determined : (p n : ℤ) (e t c u f v : List ℤ) (r s : ℕ) (u₁ u₂ f₁ f₂ v₁ v₂ : List ℤ)
    → InverseCoded p n e t c u f v r u₁ f₁ v₁ → InverseCoded p n e t c u f v s u₂ f₂ v₂ → (r ≡ s) × (u₁ ≡ u₂) × (f₁ ≡ f₂) × (v₁ ≡ v₂)
inverse_coded_determined p n e t c u f v r s u₁ u₂ f₁ f₂ v₁ v₂ h k =
    (h.answer ∙ sym k.answer, h.words ∙ sym k.words, h.factor ∙ sym k.factor, h.work ∙ sym k.work)

pub inverse-said-plain : (p n : ℤ) (e t c u f v : List ℤ) → Plain (inverse p n e t c u f v).said
inverse-said-plain p n e t c u f v =
    sequence_plain _ (inverse_number p n e t c u f v) (omega (arith, inverse_numbers p n e t c u f v)) (λ j z. ap (λ x. x.said) (inverse_refused p n e t c u f v j z))
    (inverse-kind p n e t c u f v) (inverse-level p n e t c u f v)

-- ---- GCD: the number, and the words of g, of the factor buffer and of the work store afterwards
pub record GcdCoded (p n : ℤ) (e t a b g f v : List ℤ) (r : ℕ) (g' f' v' : List ℤ) : Type 0 where
  pub answer : r ≡ code (gcd p n e t a b g f v).said
  pub words : g' ≡ (gcd p n e t a b g f v).words.gcd
  pub factor : f' ≡ (gcd p n e t a b g f v).words.factor
  pub work : v' ≡ (gcd p n e t a b g f v).words.work

pub gcd_coded_determined : (p n : ℤ) (e t a b g f v : List ℤ) (r s : ℕ) (g₁ g₂ f₁ f₂ v₁ v₂ : List ℤ)
    → GcdCoded p n e t a b g f v r g₁ f₁ v₁ → GcdCoded p n e t a b g f v s g₂ f₂ v₂ → (r ≡ s) × (g₁ ≡ g₂) × (f₁ ≡ f₂) × (v₁ ≡ v₂)
gcd_coded_determined p n e t a b g f v r s g₁ g₂ f₁ f₂ v₁ v₂ h k =
    (h.answer ∙ sym k.answer, h.words ∙ sym k.words, h.factor ∙ sym k.factor, h.work ∙ sym k.work)

pub gcd-said-plain : (p n : ℤ) (e t a b g f v : List ℤ) → Plain (gcd p n e t a b g f v).said
gcd-said-plain p n e t a b g f v =
    sequence_plain _ (gcd_number p n e t a b g f v) (omega (arith, gcd_numbers p n e t a b g f v)) (λ j z. ap (λ x. x.said) (gcd_refused p n e t a b g f v j z))
    (gcd-kind p n e t a b g f v) (gcd-level p n e t a b g f v)

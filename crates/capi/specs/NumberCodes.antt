-- What the calls for C promise whose answer holds numbers: work sizes and the residue of a fraction. The numbers go to places that are lent for them.
--
-- written_by                == what a lent place holds afterwards: what is given with Done, and what it held beside a number
-- SizesCoded, FractionCoded == the kernel's promise of the call, its answer told as a number
-- .. _coded_determined      == two results that a promise allows are equal
-- .. -said-plain            == what the kernel's call answers is plain;  .. -code_tells, that the number tells which answer it is, are in proofs/Codes
use Rattle.std.specs.Prelude.{ℕ, zero, suc, ◌≤◌, ◌≡◌, List, [], ◌∷◌, ◌⊎◌, ℤ}
use Rattle.std.proofs.Common.{arith, sym, ◌∙◌, inl, inr}
use Rattle.kernel.specs.Refusals.{Said, done, factor, refused}
use Rattle.kernel.specs.Calls.{Sizes, work_number, sizes_by, work_sizes, fraction_number, fraction_by, fraction}
use Rattle.kernel.specs.WorkMeaning.{work_numbers}
use Rattle.kernel.specs.FractionMeaning.{fraction_numbers}
use Rattle.capi.specs.Codes.{code, Plain}

-- "Numbers 1 to 10 leave every lent word as found."
abbrev pub written_by : {A : Type 0} → Said → A → A → A
written_by done new old = new
written_by (factor level) new old = old
written_by (refused number) new old = old

-- ---- work sizes: the number, and the three sizes afterwards, product, inverse and GCD
abbrev pub sizes_in : Sizes → List ℕ
sizes_in s = s.product ∷ s.inverse ∷ s.gcd ∷ []

pub record SizesCoded (n : ℤ) (e : List ℤ) (a b : ℤ) (w : List ℕ) (r : ℕ) (w' : List ℕ) : Type 0 where
  pub answer : r ≡ code (work_sizes n e a b).said
  pub sizes : w' ≡ written_by (work_sizes n e a b).said (sizes_in (work_sizes n e a b)) w

pub sizes_coded_determined : (n : ℤ) (e : List ℤ) (a b : ℤ) (w : List ℕ) (r s : ℕ) (w₁ w₂ : List ℕ)
    → SizesCoded n e a b w r w₁ → SizesCoded n e a b w s w₂ → (r ≡ s) × (w₁ ≡ w₂)
sizes_coded_determined n e a b w r s w₁ w₂ h k = (h.answer ∙ sym k.answer, h.sizes ∙ sym k.sizes)

sizes-plain : (k m i g : ℕ) → k ≤ 11 → Plain (sizes_by k m i g).said
sizes-plain zero m i g l = tt
sizes-plain (suc k) m i g l = (omega arith, l)

pub sizes-said-plain : (n : ℤ) (e : List ℤ) (a b : ℤ) → Plain (work_sizes n e a b).said
sizes-said-plain n e a b = sizes-plain (work_number n e a b) _ _ _ (omega (arith, work_numbers n e a b))

-- ---- residue of a fraction: the number, and the residue afterwards
pub record FractionCoded (p n e : ℤ) (u r u' : ℕ) : Type 0 where
  pub answer : r ≡ code (fraction p n e).said
  pub residue : u' ≡ written_by (fraction p n e).said (fraction p n e).residue u

pub fraction_coded_determined : (p n e : ℤ) (u r s u₁ u₂ : ℕ) → FractionCoded p n e u r u₁ → FractionCoded p n e u s u₂ → (r ≡ s) × (u₁ ≡ u₂)
fraction_coded_determined p n e u r s u₁ u₂ h k = (h.answer ∙ sym k.answer, h.residue ∙ sym k.residue)

fraction-plain : (k r : ℕ) → k ≤ 11 → Plain (fraction_by k r).said
fraction-plain zero r l = tt
fraction-plain (suc k) r l = (omega arith, l)

pub fraction-said-plain : (p n e : ℤ) → Plain (fraction p n e).said
fraction-said-plain p n e = fraction-plain (fraction_number p e) _ (most (fraction_number p e) (fraction_numbers p e))
  where
    most : (k : ℕ) → (k ≡ 0) ⊎ ((k ≡ 1) ⊎ (k ≡ 10)) → k ≤ 11
    most k (inl h) = omega arith
    most k (inr (inl h)) = omega arith
    most k (inr (inr h)) = omega arith

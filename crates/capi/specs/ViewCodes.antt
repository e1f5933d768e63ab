-- What the call for C promises of the leading view: which slot the part is of, where it starts and how many words it has. The call has no number.
--
-- part_code == 0 for an empty part, 1 for a part of a, 2 for one of b
-- ViewCoded == the part that the kernel's definition has, told in three numbers
-- view_coded_determined == two results that the promise allows are equal
-- coded_words, view_coded_words == the words that three numbers name, and that they are those of the kernel's leading view
use Rattle.std.specs.Prelude.{ℕ, zero, suc, ◌≡◌, refl, Bool, true, false, List, [], ℤ}
use Rattle.std.proofs.Common.{sym, ◌∙◌}
use Rattle.tower.specs.Form.{seg}
use Rattle.kernel.specs.Views.{Part, leading_part, part_words, leading_view}

abbrev slot_code : Bool → ℕ → ℕ
slot_code second zero = 0
slot_code false (suc k) = 1
slot_code true (suc k) = 2

abbrev pub part_code : Part → ℕ
part_code part = slot_code part.second part.count

-- the number, and where the part starts and how many words it has; both 0 for an empty part
pub record ViewCoded (p n : ℤ) (e t a b : List ℤ) (r i m : ℕ) : Type 0 where
  pub answer : r ≡ part_code (leading_part p n e t a b)
  pub start : i ≡ (leading_part p n e t a b).start
  pub count : m ≡ (leading_part p n e t a b).count

pub view_coded_determined : (p n : ℤ) (e t a b : List ℤ) (r s i₁ i₂ m₁ m₂ : ℕ)
    → ViewCoded p n e t a b r i₁ m₁ → ViewCoded p n e t a b s i₂ m₂ → (r ≡ s) × (i₁ ≡ i₂) × (m₁ ≡ m₂)
view_coded_determined p n e t a b r s i₁ i₂ m₁ m₂ h k = (h.answer ∙ sym k.answer, h.start ∙ sym k.start, h.count ∙ sym k.count)

-- the words that the three numbers name
abbrev pub coded_words : ℕ → ℕ → ℕ → List ℤ → List ℤ → List ℤ
coded_words zero i m a b = []
coded_words (suc zero) i m a b = seg i m a
coded_words (suc (suc r)) i m a b = seg i m b

pub view_coded_words : (p n : ℤ) (e t a b : List ℤ) (r i m : ℕ) → ViewCoded p n e t a b r i m → coded_words r i m a b ≡ leading_view p n e t a b
view_coded_words p n e t a b r i m h =
    let part = leading_part p n e t a b in
    (λ x. coded_words (h.answer x) (h.start x) (h.count x) a b) ∙ by part.second part.start part.count
  where
    by : (second : Bool) (i m : ℕ) → coded_words (slot_code second m) i m a b ≡ part_words (record { second = second; start = i; count = m }) a b
    by second i zero = refl
    by false i (suc m) = refl
    by true i (suc m) = refl

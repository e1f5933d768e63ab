-- What the lists lent to an operation hold changes nothing of its line: only their lengths matter.
--
-- answer-same == an answer's line is told by what is said, the words after Done and the factor
-- gcd-same, div_same, mul-same, inv-same == the lines of the operations
use Prim.Native.Nat.{ℕ}
use mathlib.Core.List.{List, [], ◌∷◌, ◌++◌}
use mathlib.Core.Path.{◌≡◌, refl, ap, ap₂, ◌∙◌}
use lib.IntN.{ℤ}
use lib.ListN.{length}
use Rattle.residue.specs.Word.{num}
use Rattle.tower.specs.Limits.{degrees_of}
use Rattle.kernel.specs.DivisionMeaning.{division-two_runs}
use Rattle.kernel.specs.GcdMeaning.{gcd-two_runs}
use Rattle.kernel.specs.InverseMeaning.{inverse-two_runs}
use Rattle.kernel.specs.ProductMeaning.{product-two_runs}
use Rattle.kernel.specs.Refusals.{Said, done, factor, refused}
use Rattle.text.specs.Text.{tab, decimal}
use Rattle.lines.specs.Answers.{answer_text, gcd_text, div_text, mul_text, inv_text}
use Rattle.lines.specs.Names.{line_end, name_gcd, name_div, name_mul, name_inv, said_ok, said_rem, said_factor}
use Rattle.lines.specs.Printing.{element_text, slot_text, factor_text}

module _ (name d : List ℕ) {w w' : List ℕ} {f f' : List ℤ} where
  said_same : (s : Said) → (s ≡ done → w ≡ w') → ((l : ℕ) → s ≡ factor l → f ≡ f') → answer_text name d s w f ≡ answer_text name d s w' f'
  said_same done words buffer = ap (λ x. name ++ (said_ok ++ (x ++ (line_end ∷ [])))) (words refl)
  said_same (factor l) words buffer =
      ap (λ x. name ++ (said_factor ++ ((tab ∷ decimal l) ++ (factor_text d l x ++ (line_end ∷ []))))) (buffer l refl)
  said_same (refused k) words buffer = refl

  answer-same : {s s' : Said} → s ≡ s' → (s ≡ done → w ≡ w') → ((l : ℕ) → s ≡ factor l → f ≡ f') → answer_text name d s w f ≡ answer_text name d s' w' f'
  answer-same {s} q words buffer = said_same s words buffer ∙ ap (λ x. answer_text name d x w' f') q

module _ (p n : ℤ) (e t : List ℤ) where
  pub gcd-same : (a b g g' f f' v v' : List ℤ) → length g ≡ length g' → length f ≡ length f' → length v ≡ length v'
      → gcd_text p n e t a b g f v ≡ gcd_text p n e t a b g' f' v'
  gcd-same a b g g' f f' v v' h k l =
      let same = gcd-two_runs p n e t a b g g' f f' v v' h k l in
      answer-same name_gcd (degrees_of e) same.answer (λ q. ap (slot_text (degrees_of e) (num n)) (same.words q)) same.buffer

  pub div_same : (a b q q' v v' : List ℤ) → length q ≡ length q' → length v ≡ length v' → div_text p n e t a b q v ≡ div_text p n e t a b q' v'
  div_same a b q q' v v' h l =
      let same = division-two_runs p n e t a b q q' v v' h l in
      answer-same name_div (degrees_of e) {f = []} {f' = []} same.answer
      (λ x. ap₂ (λ c r. slot_text (degrees_of e) (num n) c ++ (said_rem ++ slot_text (degrees_of e) (num n) r)) (same.quotient x) same.remainder)
      (λ i x. refl)

  pub mul-same : (a b c c' v v' : List ℤ) → length c ≡ length c' → length v ≡ length v' → mul_text p n e t a b c v ≡ mul_text p n e t a b c' v'
  mul-same a b c c' v v' h l =
      let same = product-two_runs p n e t a b c c' v v' h l in
      answer-same name_mul (degrees_of e) {f = []} {f' = []} same.answer (λ q. ap (slot_text (degrees_of e) (num n)) (same.words q)) (λ i x. refl)

  pub inv-same : (a u u' f f' v v' : List ℤ) → length u ≡ length u' → length f ≡ length f' → length v ≡ length v'
      → inv_text p n e t a u f v ≡ inv_text p n e t a u' f' v'
  inv-same a u u' f f' v v' h k l =
      let same = inverse-two_runs p n e t a u u' f f' v v' h k l in
      answer-same name_inv (degrees_of e) same.answer (λ q. ap (element_text (degrees_of e) (num n)) (same.words q)) same.buffer

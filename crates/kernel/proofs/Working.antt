-- Laws of the work sizes.
use mir.Syntax.{w64}
use mir.Val.{SFits, to_z, of_z}
use mir.ValLaws.{to_z-of_z}
use Rattle.algebra.specs.Test.{both_l, both_r}
use Rattle.kernel.proofs.Order.{shape_numbered, Passed, shape-passed, then_first, then_next, zero_then, then_second}
use Rattle.kernel.specs.Answers.{said, number_of}
use Rattle.kernel.specs.Calls.{sizes_by, degrees_row, shape_table, work_number, shape_number}
use Rattle.kernel.specs.Meaning.{shape_in, degrees-two}
use Rattle.kernel.specs.Promises.{SizesGiven}
use Rattle.kernel.specs.Refusals.{first-append, unless, and_then, zero-unless}
use Rattle.residue.specs.Word.{num}
use Rattle.tower.proofs.Laws.{and_false_l, and_false_r}
use Rattle.tower.specs.Writing.{count_of}
use Rattle.tower.specs.Limits.{degrees_of, work_degree}
use Rattle.tower.specs.Lists.{of_true}
use Rattle.tower.specs.Work.{product_work, inverse_work, gcd_work}
use Rattle.kernel.specs.declared.refusals.Refusal.{Refusal}
use Rattle.kernel.specs.declared.WorkSizes.{WorkSizes}
use Rattle.kernel.specs.declared.Answer.TheVariants.{Done}
use mathlib.Core.Path.{refl, subst₃, ◌∙◌, ◌≡◌, sym, ap, ap₂}
use mathlib.Core.Bool.{Bool, true, false, ◌&&◌}
use mathlib.Core.List.{List, [], ◌∷◌}
use Prim.Native.Nat.{ℕ, ◌<◌, ◌≤◌}
use native.Mathlib.Omega.{arith}
use lib.IntN.{ℤ, pos, negsuc}
use lib.Dec.{T, leb→le}
use lib.ListN.{get_or}

-- ---- degrees of at least 2
pub passed_big : (n : ℤ) (e : List ℤ) → Passed n e → (k : ℕ) → k < num n → 2 ≤ get_or (degrees_of e) k 0
passed_big n e h = degrees-two n e (shape_in n e (of_true _ h.levels) (of_true _ h.degrees) (of_true _ h.few))

work-count : (g : ℤ) → T (work_degree g) → count_of g ≤ 256
work-count (pos m) h = let q = leb→le m 255 h in omega arith
work-count (negsuc m) h = omega arith

work-is : (n : ℤ) (e : List ℤ) (a b : ℤ) → work_number n e a b ≡ and_then (shape_number n e) (unless (work_degree a && work_degree b) 5 0)
unfolding work_number shape_number
work-is n e a b = first-append (shape_table n e) (degrees_row a b ∷ []) (shape_numbered n e)

module _ (n : ℤ) (e : List ℤ) (a b : ℤ) where
  pub work-first : (r : Refusal) → shape_number n e ≡ number_of r → work_number n e a b ≡ number_of r
  work-first r h = work-is n e a b ∙ then_first _ _ r h

  -- test by test
  module _ (h : shape_number n e ≡ 0) where
    work-rest : (x : Bool) → (work_degree a && work_degree b) ≡ x → work_number n e a b ≡ unless x 5 0
    work-rest x k = work-is n e a b ∙ then_next _ _ _ h (ap (λ u. unless u 5 0) k)

    pub work_bad_a : work_degree a ≡ false → work_number n e a b ≡ 5
    work_bad_a k = work-rest false (sym (and_false_l (work_degree a) (work_degree b) k))

    pub work_bad_b : work_degree b ≡ false → work_number n e a b ≡ 5
    work_bad_b k = work-rest false (sym (and_false_r (work_degree a) (work_degree b) k))

    pub work_fine : work_degree a ≡ true → work_degree b ≡ true → work_number n e a b ≡ 0
    work_fine k l = work-rest true (ap₂ ◌&&◌ k l)

-- what is known when no number came out
pub record Worked (n : ℤ) (e : List ℤ) (a b : ℤ) : Type 0 where
  pub passed : Passed n e
  pub count_a : count_of a ≤ 256
  pub count_b : count_of b ≤ 256

pub worked : (n : ℤ) (e : List ℤ) (a b : ℤ) → work_number n e a b ≡ 0 → Worked n e a b
worked n e a b h' =
    let h = sym (work-is n e a b) ∙ h' in
    let rest = then_second (shape_number n e) (unless (work_degree a && work_degree b) 5 0) h in
    let t = (zero-unless (work_degree a && work_degree b) 5 0 (omega arith) rest).0 in
    record {
      passed = shape-passed n e (zero_then (shape_number n e) (unless (work_degree a && work_degree b) 5 0) h);
      count_a = work-count a (both_l (work_degree a) (work_degree b) t);
      count_b = work-count b (both_r (work_degree a) (work_degree b) t);
    }

-- ---- what the call gives
module _ (n : ℤ) (e : List ℤ) (a b : ℤ) where
  given : (k : ℕ) → work_number n e a b ≡ k → (r : WorkSizes)
      → (let by = sizes_by k (product_work (degrees_of e) (num n)) (inverse_work (degrees_of e) (num n)) (gcd_work (degrees_of e) (num n) (count_of a) (count_of b)) in
      (said r.answer ≡ by.said) × (r.product ≡ by.product) × (r.inverse ≡ by.inverse) × (r.gcd ≡ by.gcd)) → SizesGiven n e a b r
  given k ek r h =
      let by = λ (j : ℕ). sizes_by j (product_work (degrees_of e) (num n)) (inverse_work (degrees_of e) (num n)) (gcd_work (degrees_of e) (num n) (count_of a) (count_of b)) in
      record {
        answer = h.0 ∙ sym (ap (λ j. (by j).said) ek);
        product = h.1 ∙ sym (ap (λ j. (by j).product) ek);
        inverse = h.2 ∙ sym (ap (λ j. (by j).inverse) ek);
        gcd = h.3 ∙ sym (ap (λ j. (by j).gcd) ek);
      }

  pub sizes_given : work_number n e a b ≡ 0 → (m i g : ℕ) → m ≡ product_work (degrees_of e) (num n) → i ≡ inverse_work (degrees_of e) (num n)
      → g ≡ gcd_work (degrees_of e) (num n) (count_of a) (count_of b) → SizesGiven n e a b (record { answer = Done; product = m; inverse = i; gcd = g })
  sizes_given h m i g em ei eg = given 0 h _ (refl, em, ei, eg)

pub sizes-plain : {n a b : ℤ} (e : List ℤ) (r : WorkSizes) → SFits w64 n → SFits w64 a → SFits w64 b
    → SizesGiven (to_z w64 (of_z w64 n)) e (to_z w64 (of_z w64 a)) (to_z w64 (of_z w64 b)) r → SizesGiven n e a b r
sizes-plain {n} {a} {b} e r fn fa fb h = subst₃ (λ x y z. SizesGiven x e y z r) (to_z-of_z w64 n fn) (to_z-of_z w64 a fa) (to_z-of_z w64 b fb) h

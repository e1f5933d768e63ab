-- What the numbers 0, 2 and 5 say of the work sizes, and what the call gives with them.
--
-- WorkDegree   == a degree from -1 to 255;  WorkMeans == for each number what it says; a number that is not used says ⊥
-- work-says    == a number that is given comes under its condition;  work_given == and under its condition it is given
-- work-answers == the same of what the call says;  work_gives == where no number is given it gives the formulas' three
-- work_numbers == no number above 5 is given
use Prim.Native.Nat.{ℕ, zero, suc, ◌≤◌}
use Rattle.std.specs.Prelude.{◌≡◌, refl, ◌&&◌, ◌⊎◌, ◌↔◌, List, [], ◌∷◌, ℤ, negsuc}
use Rattle.std.proofs.Common.{sym, ap, ◌∙◌, subst, arith, T_not}
use Rattle.std.proofs.Math.Logic.{inl, inr}
use Rattle.std.proofs.Math.Dec.{not_T}
use Rattle.algebra.specs.Test.{both, both_l, both_r}
use Rattle.residue.specs.Word.{num}
use Rattle.tower.specs.Writing.{count_of}
use Rattle.tower.specs.Limits.{levels_ok, degrees_ok, degrees_of, size_ok, work_degree, Between, work-degree_range}
use Rattle.tower.specs.Work.{product_work, inverse_work, gcd_work}
use Rattle.kernel.specs.Refusals.{done, refusal, refusal_inj, first-up_to, Numbered, passed_of, first_of, Applies, first_applies, first-is}
use Rattle.kernel.specs.Meaning.{DegreesIn, shape_in, shape_tests, shape-out}
use Rattle.kernel.specs.Calls.{Sizes, degrees_row, work_table, work_number, sizes_by, work_sizes}

-- "-1 to 255"
abbrev pub WorkDegree : ℤ → Type 0
WorkDegree g = (g ≡ negsuc 0) ⊎ Between 0 255 g

-- 0: all is in range, the degrees of a and b too
pub record WorkHeld (n : ℤ) (e : List ℤ) (a b : ℤ) : Type 0 where
  pub range : DegreesIn n e
  pub a_in : WorkDegree a
  pub b_in : WorkDegree b

-- 5: N and the degrees are in range, but the degree of a or b is not
pub record WorkOut (n : ℤ) (e : List ℤ) (a b : ℤ) : Type 0 where
  pub range : DegreesIn n e
  pub out : WorkDegree a → ¬ WorkDegree b

abbrev pub WorkMeans : ℤ → List ℤ → ℤ → ℤ → ℕ → Type 0
WorkMeans n e a b zero = WorkHeld n e a b
WorkMeans n e a b (suc zero) = ⊥
WorkMeans n e a b (suc (suc zero)) = ¬ DegreesIn n e
WorkMeans n e a b (suc (suc (suc zero))) = ⊥
WorkMeans n e a b (suc (suc (suc (suc zero)))) = ⊥
WorkMeans n e a b (suc (suc (suc (suc (suc zero))))) = WorkOut n e a b
WorkMeans n e a b (suc (suc (suc (suc (suc (suc k)))))) = ⊥

module _ (n : ℤ) (e : List ℤ) (a b : ℤ) where
  numbered : Numbered (work_table n e a b)
  numbered = (omega arith, (omega arith, (omega arith, (omega arith, tt))))

  applied : (k : ℕ) → Applies (work_table n e a b) k → WorkMeans n e a b k
  applied k (inl h) = subst (WorkMeans n e a b) h.1 (λ r. T_not (levels_ok n) h.0 (shape_tests n e r).0)
  applied k (inr (x, inl h)) = subst (WorkMeans n e a b) h.1 (λ r. T_not (degrees_ok (num n) e) h.0 (shape_tests n e r).1.0)
  applied k (inr (x, inr (y, inl h))) = subst (WorkMeans n e a b) h.1 (λ r. T_not (size_ok (degrees_of e) (num n)) h.0 (shape_tests n e r).1.1.0)
  applied k (inr (x, inr (y, inr (z, inl h)))) =
      subst (WorkMeans n e a b) h.1 (record {
        range = shape_in n e x y z;
        out = λ i j. T_not (work_degree a && work_degree b) h.0 (both (work_degree a) (work_degree b) ((work-degree_range a).1 i) ((work-degree_range b).1 j));
      })
  applied k (inr (x, inr (y, inr (z, inr (w, none))))) = absurd none

  pub work-says : (k : ℕ) → work_number n e a b ≡ k → WorkMeans n e a b k
  unfolding work_number
  work-says zero h =
      let x = passed_of (work_table n e a b) numbered h in
      record {
        range = shape_in n e x.0 x.1.0 x.1.1.0;
        a_in = (work-degree_range a).0 (both_l (work_degree a) (work_degree b) x.1.1.1.0);
        b_in = (work-degree_range b).0 (both_r (work_degree a) (work_degree b) x.1.1.1.0);
      }
  work-says (suc k) h = applied (suc k) (first_applies (work_table n e a b) k h)

  pub work_given : (k : ℕ) → WorkMeans n e a b k → work_number n e a b ≡ k
  unfolding work_number
  work_given zero h =
      let s = shape_tests n e h.range in
      let degrees = both (work_degree a) (work_degree b) ((work-degree_range a).1 h.a_in) ((work-degree_range b).1 h.b_in) in
      first_of (work_table n e a b) (s.0, (s.1.0, (s.1.1.0, (degrees, tt))))
  work_given (suc (suc zero)) h = first-is (work_table n e a b) 2 (shape-out n e (degrees_row a b ∷ []) h)
  work_given (suc (suc (suc (suc (suc zero))))) h =
      let s = shape_tests n e h.range in
      let bad =
      not_T (work_degree a && work_degree b)
      (λ t. h.out ((work-degree_range a).0 (both_l (work_degree a) _ t)) ((work-degree_range b).0 (both_r (work_degree a) _ t))) in
      first-is (work_table n e a b) 5 (inr (s.0, inr (s.1.0, inr (s.1.1.0, inl (bad, refl)))))
  work_given (suc zero) h = elim h [ ]
  work_given (suc (suc (suc zero))) h = elim h [ ]
  work_given (suc (suc (suc (suc zero)))) h = elim h [ ]
  work_given (suc (suc (suc (suc (suc (suc _)))))) h = elim h [ ]

  -- ---- what the call says and gives
  said-is : (k m i g : ℕ) → (sizes_by k m i g).said ≡ refusal k
  said-is zero m i g = refl
  said-is (suc k) m i g = refl

  pub work-answers : (k : ℕ) → ((work_sizes n e a b).said ≡ refusal k) ↔ WorkMeans n e a b k
  work-answers k =
      let is = said-is (work_number n e a b) _ _ _ in
      (λ h. work-says k (refusal_inj (work_number n e a b) k (sym is ∙ h)), λ m. is ∙ ap refusal (work_given k m))

  abbrev by : ℕ → Sizes
  by k = sizes_by k (product_work (degrees_of e) (num n)) (inverse_work (degrees_of e) (num n)) (gcd_work (degrees_of e) (num n) (count_of a) (count_of b))

  pub work_gives : WorkHeld n e a b → work_sizes n e a b
      ≡ record {
        said = done;
        product = product_work (degrees_of e) (num n);
        inverse = inverse_work (degrees_of e) (num n);
        gcd = gcd_work (degrees_of e) (num n) (count_of a) (count_of b);
      }
  work_gives h = ap by (work_given 0 h)

  -- no other number is given
  pub work_numbers : work_number n e a b ≤ 5
  unfolding work_number
  work_numbers = first-up_to 5 (work_table n e a b) tt

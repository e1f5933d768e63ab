-- What the numbers 0 to 6 say of sum and difference.
--
-- SumMeans    == for each number what it says; a number that is not used says ⊥
-- sum-says    == a number that is given comes under its condition;  sum_given == and under its condition it is given
-- sum-answers == the same of what the calls say
-- sum-passes  == over a tower, every two polynomials in slots of allowed lengths get no number if the second is zero from the first one's coefficients on
use Rattle.std.specs.Prelude.{ℕ, max, ◌≤◌, ◌≡◌, Bool, ◌&&◌, ◌↔◌, List, [], ◌∷◌, ℤ, T}
use Rattle.std.proofs.Common.{arith, subst, leb→le, le→leb}
use Rattle.std.proofs.Math.Bool.{true}
use Rattle.std.proofs.Math.Dec.{leb}
use Rattle.algebra.specs.Test.{both, both_l, both_r}
use Rattle.algebra.specs.Vec.{Below, coef, coef_below}
use Rattle.residue.specs.Word.{num}
use Rattle.tower.specs.Levels.{El, group}
use Rattle.tower.specs.Limits.{p_positive, degrees_of}
use Rattle.kernel.specs.Calls.{coefficients_of}
use Rattle.kernel.specs.Meaning.{TowerHeld}
use Rattle.kernel.specs.Refusals.{refusal}
use Rattle.kernel.specs.SlotAnswers.{Means, said_means, SlotsMeans, slots_means, Allowed, degree-low, slots_held}
use Rattle.kernel.specs.SlotLaws.{count-slot}
use Rattle.kernel.specs.SlotMeaning.{PolynomialOf, slot_of}
use Rattle.kernel.specs.Slots.{degree_count}
use Rattle.kernel.specs.Sums.{sum_number, sum_words, sum}

-- the slots are a and b; "sum, max(deg a, deg b) + 1 coefficients in a"; there are no numbers above 6
abbrev pub SumMeans : (p n : ℤ) (e t a b : List ℤ) → ℕ → Type 0
SumMeans p n e t a b = SlotsMeans p n e t a b (b ∷ []) a (max (degree_count a) (degree_count b)) (λ _. Unit {0}) (λ _. ⊥) (λ _. ⊥)

module _ (p n : ℤ) (e t a b : List ℤ) where
  room_iff : (x y k : ℕ) → T (leb x k && leb y k) ↔ (max x y ≤ k)
  room_iff x y k = (
    λ t. omega (arith, leb→le x k (both_l (leb x k) _ t), leb→le y k (both_r (leb x k) _ t)),
    λ h. both (leb x k) _ (le→leb x k (omega arith)) (le→leb y k (omega arith)),
  )

  sum_means : Means (sum_number p n e t a b) (SumMeans p n e t a b)
  unfolding sum_number
  sum_means =
      slots_means p n e t a b (b ∷ []) a _ _ _ _ (leb (degree_count a) (coefficients_of n e a) && leb (degree_count b) (coefficients_of n e a)) true true (record {
        room_told = room_iff (degree_count a) (degree_count b) (coefficients_of n e a);
        all_told = λ h. (λ x. tt, λ x. (tt, tt));
        work_told = λ h. (λ x. x, λ x. x);
        monic_told = λ h. (λ x. x.1, λ x. absurd x);
      })

  pub sum-says : (j : ℕ) → sum_number p n e t a b ≡ j → SumMeans p n e t a b j
  sum-says j h = subst (SumMeans p n e t a b) h sum_means.says

  pub sum_given : (j : ℕ) → SumMeans p n e t a b j → sum_number p n e t a b ≡ j
  sum_given = sum_means.only

  pub sum-answers : (neg : Bool) (j : ℕ) → ((sum neg p n e t a b).said ≡ refusal j) ↔ SumMeans p n e t a b j
  sum-answers neg = said_means (sum_words neg p n e a b) a sum_means

-- over a tower, polynomials u and w of k and l coefficients
module _ (p n : ℤ) (e t : List ℤ) (τ : TowerHeld p n e t) (k l : ℕ) (k-in : Allowed n e k) (l-in : Allowed n e l) (u : PolynomialOf p n e k) (w : PolynomialOf p n e l) where
  abbrev o : El (num p) (degrees_of e) (num n)
  o = (group (num p) (p_positive p τ.range.modulus) (degrees_of e) (num n)).𝟘

  pub sum-passes : Below o k (coef o l w) → sum_number p n e t (slot_of p n e k u) (slot_of p n e l w) ≡ 0
  sum-passes low =
      let a = slot_of p n e k u in
      let b = slot_of p n e l w in
      let few : max (degree_count a) (degree_count b) ≤ coefficients_of n e a =
      omega (arith, count-slot p n e τ.range.modulus k u, degree-low p n e t τ k k-in u k (coef_below o k u), degree-low p n e t τ l l-in w k low) in
      sum_given p n e t a b 0 (record { slots = slots_held p n e t τ k l k-in l-in u w a _ few (b ∷ []) (λ x y. (x, y)); more = tt })

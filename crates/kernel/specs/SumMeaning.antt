-- What sum and difference leave in a's slot where no number is given: the whole of the sum.
--
-- sum_numbers      == no number above 6 is given
-- sum-modulus      == where none is given p is in range
-- sum-words        == a's slot afterwards is that of sum_of;  sum_written == the whole of it, in form
-- sum-coefficients == the coefficient that it holds at every place is that of a plus, or minus, that of b
use Rattle.std.specs.Prelude.{ℕ, ◌≤◌, ◌<◌, ◌≡◌, Bool, List, ◌⊎◌, ℤ, T, leb}
use Rattle.std.proofs.Common.{arith, sym, ap₂, ◌∙◌, inl, inr, leb→le}
use Rattle.std.proofs.Math.Path.{ap}
use Rattle.algebra.specs.Ring.{Group}
use Rattle.algebra.specs.Test.{branch_yes, both_l, both_r, le_or_lt}
use Rattle.algebra.specs.Vec.{Vec, coef, coef_below}
use Rattle.arithmetic.specs.Sum.{gained, gained-zero, gained-at, slot_gained}
use Rattle.residue.specs.Word.{num}
use Rattle.tower.specs.Levels.{group}
use Rattle.tower.specs.Limits.{p_ok, p_positive, degrees_of}
use Rattle.tower.specs.Writing.{slot}
use Rattle.kernel.specs.Calls.{coefficients_of, length_ok, form_ok}
use Rattle.kernel.specs.Refusals.{Passed, passed_of, ordered_numbered, first-up_to}
use Rattle.kernel.specs.SlotLaws.{Written, slot_written, slot_holds, held_below}
use Rattle.kernel.specs.Slots.{degree_count, coefficients_in, changed_by}
use Rattle.kernel.specs.Sums.{sum_table, sum_number, sum_of, sum_by, sum_words, sum}

-- nothing is lost: a polynomial that is zero from k on fits k coefficients
gained-whole : (G : Group) (neg : Bool) (k l : ℕ) (u : Vec G.Car k) (v : Vec G.Car l) → ((j : ℕ) → k ≤ j → coef G.𝟘 l v j ≡ G.𝟘)
    → (j : ℕ) → coef G.𝟘 k (slot_gained G neg k l u v) j ≡ gained G neg (coef G.𝟘 k u j) (coef G.𝟘 l v j)
gained-whole G neg k l u v h j = which (le_or_lt k j)
  where
    which : (k ≤ j) ⊎ (j < k) → coef G.𝟘 k (slot_gained G neg k l u v) j ≡ gained G neg (coef G.𝟘 k u j) (coef G.𝟘 l v j)
    which (inr q) = gained-at G neg k l u v j q
    which (inl q) =
        coef_below G.𝟘 k _ j q ∙ sym (ap₂ (gained G neg) (coef_below G.𝟘 k u j q) (h j q) ∙ gained-zero G neg G.𝟘)

-- no number above 6 is given
pub sum_numbers : (p n : ℤ) (e t a b : List ℤ) → sum_number p n e t a b ≤ 6
unfolding sum_number
sum_numbers p n e t a b = first-up_to 6 (sum_table p n e t a b) tt

module _ (p n : ℤ) (e t a b : List ℤ) (h : sum_number p n e t a b ≡ 0) where
  tests : Passed (sum_table p n e t a b)
  unfolding sum_number
  tests = passed_of (sum_table p n e t a b) (ordered_numbered 1 (sum_table p n e t a b) (omega arith) tt) h

  -- p is in range
  pub sum-modulus : T (p_ok p)
  sum-modulus = tests.0

  abbrev pub sum_group : Group
  sum_group = group (num p) (p_positive p sum-modulus) (degrees_of e) (num n)

  -- the words of a's slot afterwards
  pub sum-words : (neg : Bool) → (sum neg p n e t a b).words ≡ slot (num p) (degrees_of e) (num n) (coefficients_of n e a) (sum_of neg p n e a b sum-modulus)
  unfolding sum_words
  sum-words neg = ap (λ k. (changed_by k (sum_words neg p n e a b) a).words) h ∙ branch_yes (p_ok p) (sum_by neg p n e a b) (λ _. a) sum-modulus

  long_a : T (length_ok n e a)
  long_a = both_l (length_ok n e a) _ tests.1.1.1.1.1.0

  pub sum_written : (neg : Bool) → Written p n e a (sum neg p n e t a b).words
  sum_written neg = rw (sum-words neg) (slot_written p n e sum-modulus a _ long_a)

  form_b : T (form_ok p n e b)
  form_b = both_r (form_ok p n e a) _ tests.1.1.1.1.1.1.0

  fits_b : degree_count b ≤ coefficients_of n e a
  fits_b = leb→le (degree_count b) (coefficients_of n e a) (both_r (leb (degree_count a) (coefficients_of n e a)) _ tests.1.1.1.1.1.1.1.0)

  pub sum-coefficients : (neg : Bool) (j : ℕ)
      → coefficients_in p n e sum-modulus (sum neg p n e t a b).words j
      ≡ gained sum_group neg (coefficients_in p n e sum-modulus a j) (coefficients_in p n e sum-modulus b j)
  sum-coefficients neg j =
      ap (λ w. coefficients_in p n e sum-modulus w j) (sum-words neg)
      ∙ slot_holds p n e sum-modulus (coefficients_of n e a) (sum_of neg p n e a b sum-modulus) j
      ∙ gained-whole sum_group neg (coefficients_of n e a) (coefficients_of n e b) _ _ (λ i l. held_below p n e sum-modulus b form_b i (omega (arith, fits_b))) j

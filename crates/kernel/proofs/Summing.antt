-- Laws of sum and difference.
use Rattle.kernel.proofs.Order.{number_some, then_first, then_next, zero_then, then_second, seg_all}
use Rattle.kernel.proofs.Shapes.{size-found}
use Rattle.kernel.proofs.Viewing.{and_split}
use Rattle.kernel.specs.Answers.{number_of}
use Rattle.kernel.specs.Calls.{size_of, coefficients_of, length_ok}
use Rattle.kernel.specs.Slots.{degree_count, changed_by}
use Rattle.kernel.specs.Sums.{sum_number, sum_of, sum_by, sum_words}
use Rattle.kernel.specs.ViewMeaning.{Viewed, viewed}
use Rattle.kernel.specs.Views.{view_table, view_number}
use Rattle.kernel.specs.Refusals.{done, refused, first-append, ordered_numbered, unless, and_then, zero-unless}
use Rattle.kernel.specs.Shape.{ShapeOf}
use Rattle.kernel.specs.declared.shape.Shape.{Shape}
use Rattle.kernel.specs.declared.Answer.{Answer}
use Rattle.kernel.specs.declared.Answer.TheVariants.{Done, Refused}
use Rattle.kernel.specs.declared.refusals.Refusal.{Refusal}
use Rattle.kernel.specs.Promises.{SumGiven}
use Rattle.arithmetic.specs.Sum.{RowGained, RowTerms}
use Rattle.algebra.specs.Test.{branch_yes}
use Rattle.residue.specs.Word.{num}
use Rattle.tower.proofs.Lengths.{length-is}
use Rattle.tower.specs.Limits.{p_ok, p_positive, p_narrow, degrees_of, slot_count}
use Rattle.tower.specs.Lists.{of_true, to_true}
use Rattle.tower.specs.Ready.{Sized}
use Rattle.tower.specs.Stands.{slot_stands}
use Rattle.tower.specs.Store.{Put}
use Rattle.tower.specs.Writing.{unslot, slot_long}
use mir.Syntax.{w64}
use mir.Val.{SFits, to_z, of_z}
use mir.ValLaws.{to_z-of_z}
use mathlib.Core.Path.{◌≡◌, refl, sym, ap, ◌∙◌, subst}
use mathlib.Core.Bool.{Bool, true, ◌&&◌}
use mathlib.Core.List.{List, [], ◌∷◌}
use Prim.Native.Nat.{ℕ, zero, suc, ◌+◌, ◌*◌, ◌<◌, ◌≤◌}
use native.Mathlib.Nat.{lt_irrefl}
use native.Mathlib.Omega.{arith}
use lib.IntN.{ℤ}
use lib.Dec.{T, leb, leb→le}
use lib.ListN.{length}

-- ---- the numbers
module _ (p n : ℤ) (e t a b : List ℤ) where
  abbrev pub room : Bool
  room = leb (degree_count a) (coefficients_of n e a) && leb (degree_count b) (coefficients_of n e a)

  -- the test of the room behind those of the leading view
  sum_is : sum_number p n e t a b ≡ and_then (view_number p n e t a b) (unless room 6 0)
  unfolding sum_number view_number
  sum_is = first-append (view_table p n e t a b) ((6, λ _. room) ∷ []) (ordered_numbered 1 (view_table p n e t a b) (omega arith) tt)

  pub sum_first : (r : Refusal) → view_number p n e t a b ≡ number_of r → sum_number p n e t a b ≡ number_of r
  sum_first r h = sum_is ∙ then_first _ _ r h

  -- with the values that the calls gave
  pub sum_end : view_number p n e t a b ≡ 0 → {s : Shape} → ShapeOf n e s → (k : ℕ) → k ≡ slot_count s.size (length a)
      → (z : Bool) → z ≡ (leb (degree_count a) k && leb (degree_count b) k) → sum_number p n e t a b ≡ unless z 6 0
  sum_end h is k ek z ez =
      let told : z ≡ room = ez ∙ ap (λ m. leb (degree_count a) m && leb (degree_count b) m) (ek ∙ ap (λ m. slot_count m (length a)) (size-found is)) in
      sum_is ∙ then_next _ _ _ h (ap (λ y. unless y 6 0) (sym told))

  -- no number
  pub record Passed : Type 0 where
    pub tests : Viewed p n e t a b
    pub room_pass : room ≡ true

  pub passed : sum_number p n e t a b ≡ 0 → Passed
  passed h =
      let w = sym sum_is ∙ h in record {
        tests = viewed p n e t a b (zero_then (view_number p n e t a b) (unless room 6 0) w);
        room_pass = to_true room (zero-unless room 6 0 (omega arith) (then_second (view_number p n e t a b) (unless room 6 0) w)).0;
      }

-- ---- what is known then: both slots stand, and the sum is the whole of a's slot
module _ (p n : ℤ) (e t a b : List ℤ) (g : Passed p n e t a b) where
  abbrev K : ℕ
  K = coefficients_of n e a

  abbrev L : ℕ
  L = coefficients_of n e b

  abbrev modulus : T (p_ok p)
  modulus = g.tests.tower.range.modulus

  p_pos : 0 < num p
  p_pos = p_positive p modulus

  long : (x : List ℤ) → T (length_ok n e x) → length x ≡ coefficients_of n e x * size_of n e + 1
  long x h = length-is (size_of n e) (length x) (to_true _ h)

  pub sum_terms : (z : List ℕ) → Sized (degrees_of e) z → num n ≤ 4 → RowTerms (num p) (degrees_of e) z (num n) K b 0 0 a
  sum_terms z sized low =
      let rs = and_split (leb (degree_count a) K) (leb (degree_count b) K) g.room_pass in
      record {
        modulus = record { positive = p_pos; narrow = omega (arith, p_narrow p modulus) };
        low = low;
        sized = sized;
        left = unslot (num p) p_pos (degrees_of e) (num n) K a;
        left_stands = slot_stands (num p) p_pos (degrees_of e) (num n) K a g.tests.form_a;
        left_inside = omega (arith, long a g.tests.long_a);
        coefficients = L;
        right = unslot (num p) p_pos (degrees_of e) (num n) L b;
        right_stands = slot_stands (num p) p_pos (degrees_of e) (num n) L b g.tests.form_b;
        right_inside = omega (arith, long b g.tests.long_b);
        few = leb→le (degree_count b) K (of_true _ rs.1);
      }

  pub sum-whole : (neg : Bool) (a' : List ℤ) → RowGained (num p) (degrees_of e) (num n) K neg b 0 0 a a' → a' ≡ sum_words neg p n e a b
  unfolding sum_words p_pos
  sum-whole neg a' h = sym (seg_all _ a' same) ∙ put.here ∙ sym (branch_yes (p_ok p) (sum_by neg p n e a b) (λ _. a) modulus)
    where
      put : Put 0 (sum_by neg p n e a b modulus) a a'
      put =
          h
          p_pos
          (unslot (num p) p_pos (degrees_of e) (num n) K a)
          L
          (unslot (num p) p_pos (degrees_of e) (num n) L b)
          (slot_stands (num p) p_pos (degrees_of e) (num n) K a g.tests.form_a)
          (slot_stands (num p) p_pos (degrees_of e) (num n) L b g.tests.form_b)

      same : length a' ≡ length (sum_by neg p n e a b modulus)
      same = put.kept.long ∙ long a g.tests.long_a ∙ sym (slot_long (num p) (degrees_of e) (num n) K (sum_of neg p n e a b modulus) ∙ omega arith)

-- ---- the call
pub refused_by : {A : Type 0} (k : ℕ) (r : Refusal) (new old : A) → k ≡ number_of r → (refused (number_of r) ≡ (changed_by k new old).said) × (old ≡ (changed_by k new old).words)
refused_by zero r new old e = absurd (lt_irrefl 0 (omega (arith, number_some r)))
refused_by (suc k) r new old e = (ap refused (sym e), refl)

pub done_by : {A : Type 0} (k : ℕ) (new old : A) → k ≡ 0 → (done ≡ (changed_by k new old).said) × (new ≡ (changed_by k new old).words)
done_by zero new old e = (refl, refl)
done_by (suc k) new old e = absurd (lt_irrefl 0 (omega arith))

module _ (neg : Bool) (p n : ℤ) (e t a b : List ℤ) where
  pub sum_refused : (r : Refusal) → sum_number p n e t a b ≡ number_of r → SumGiven neg p n e t a b (Refused (number_of r)) a
  sum_refused r h =
      let q = refused_by (sum_number p n e t a b) r (sum_words neg p n e a b) a h in
      record { answer = q.0; words = q.1 }

  pub sum_done : sum_number p n e t a b ≡ 0 → (a' : List ℤ) → a' ≡ sum_words neg p n e a b → SumGiven neg p n e t a b Done a'
  sum_done h a' ea =
      let q = done_by (sum_number p n e t a b) (sum_words neg p n e a b) a h in
      record { answer = q.0; words = ea ∙ q.1 }

-- ---- the same with the values that the calls gave
module _ (p n : ℤ) (e t a b : List ℤ) (h : sum_number p n e t a b ≡ 0) where
  pub passed-by : Passed p n e t a b
  passed-by = passed p n e t a b h

  pub sum-some : 0 < length a
  sum-some = omega (arith, length-is (size_of n e) (length a) (to_true _ passed-by.tests.long_a))

  module _ (s : Shape) (is : ShapeOf n e s) (q : ℕ) (eq : q ≡ num p) (k : ℕ) (ek : k ≡ slot_count s.size (length a)) where
    count-is : k ≡ coefficients_of n e a
    count-is = ek ∙ ap (λ m. slot_count m (length a)) (size-found is)

    pub call_terms : RowTerms q s.degrees s.sizes s.levels k b 0 0 a
    call_terms =
        let plain = sum_terms p n e t a b passed-by s.sizes (subst (λ d. Sized d s.sizes) is.degrees is.known.sized) (omega (arith, is.levels, is.known.low)) in
        subst (λ x. RowTerms x s.degrees s.sizes s.levels k b 0 0 a) (sym eq)
        (subst (λ d. RowTerms (num p) d s.sizes s.levels k b 0 0 a) (sym is.degrees)
        (subst (λ i. RowTerms (num p) (degrees_of e) s.sizes i k b 0 0 a) (sym is.levels)
        (subst (λ m. RowTerms (num p) (degrees_of e) s.sizes (num n) m b 0 0 a) (sym count-is) plain)))

    pub call_given : (neg : Bool) (a' : List ℤ) → RowGained q s.degrees s.levels k neg b 0 0 a a' → SumGiven neg p n e t a b Done a'
    call_given neg a' g =
        sum_done neg p n e t a b h a'
        (sum-whole p n e t a b passed-by neg a'
        (subst (λ m. RowGained (num p) (degrees_of e) (num n) m neg b 0 0 a a') count-is
        (subst (λ i. RowGained (num p) (degrees_of e) i k neg b 0 0 a a') is.levels
        (subst (λ d. RowGained (num p) d s.levels k neg b 0 0 a a') is.degrees
        (subst (λ x. RowGained x s.degrees s.levels k neg b 0 0 a a') eq g)))))

pub sum-plain : {p n : ℤ} (neg : Bool) (e t a b : List ℤ) (r : Answer) (a' : List ℤ) → SFits w64 p → SFits w64 n
    → SumGiven neg (to_z w64 (of_z w64 p)) (to_z w64 (of_z w64 n)) e t a b r a' → SumGiven neg p n e t a b r a'
sum-plain {p} {n} neg e t a b r a' fp fn h =
    subst (λ x. SumGiven neg x n e t a b r a') (to_z-of_z w64 p fp)
    (subst (λ y. SumGiven neg (to_z w64 (of_z w64 p)) y e t a b r a') (to_z-of_z w64 n fn) h)

-- The three demands, sentence by sentence: each is a theorem about the definitions that the contracts of the public calls cite. A sentence stands above its theorem.
--
-- OneNumber, Settled, Plain, Showing, FirstNumber, first-number == demand 1: on any input one number's condition holds, and the call refuses by that number
-- WordsKept, words-kept == and then no lent word has changed;  empty_part == the leading view shows an empty part;  Over == over the one tower whose words are given
-- RingCalls, ring_calls == demand 2: sum, product, quotient and remainder;  SequenceCalls, sequence_calls == inverse, GCD and factor
-- OneWriting, one_writing == one writing for one polynomial;  FactorDescribed, ThirdDemand, third_demand == demand 3;  GcdHeld is its description of a GCD
use Rattle.std.specs.Prelude.{ℕ, zero, suc, ◌≤◌, ◌≡◌, refl, Bool, true, false, ◌⊎◌, ◌↔◌, List, [], ℤ, T, length, take}
use Rattle.std.proofs.Common.{sym, ap, ◌∙◌, subst}
use Rattle.std.proofs.Math.Dec.{T_prop}
use Rattle.algebra.specs.PolyRing.{P, pol}
use Rattle.algebra.specs.Ring.{CRing}
use Rattle.algebra.specs.Series.{Series, SeriesRing, ◌*ˢ◌}
use Rattle.algebra.specs.Vec.{Below, coef}
use Rattle.arithmetic.specs.Sum.{gained}
use Rattle.residue.specs.Word.{num}
use Rattle.tower.specs.Levels.{group, ring}
use Rattle.tower.specs.Limits.{p_ok, p_positive, degrees_of}
use Rattle.tower.specs.Unique.{Exactly, Holding, writing, one_writing as written_once}
use Rattle.tower.specs.Work.{inverse_work, gcd_work}
use Rattle.tower.specs.Writing.{size}
use Rattle.euclid.specs.Answer.{Answer, done as done-with, shown, long}
use Rattle.euclid.specs.Gcd.{Made, val, gcd as gcd-of}
use Rattle.euclid.specs.Shown.{shown_words, ValueHeld}
use Rattle.euclid.specs.Towers.{Shown, Value, value_of, value_level, shown_level, inv, level, Free}
use Rattle.kernel.specs.Answered.{factor_buffer, tower_in}
use Rattle.kernel.specs.Calls.{coefficients_of, check_tower, tower_number, check_slot, slot_number, work_sizes, work_number, fraction, fraction_number}
use Rattle.kernel.specs.DivisionAnswers.{Monic, DivisionMeans, division-says, division_given, division-answers}
use Rattle.kernel.specs.DivisionMeaning.{division-tower, divisor_below, divisor_monic, division_meaning, remainder_below, only_quotient, only_remainder}
use Rattle.kernel.specs.Divisions.{divisor_degree, division_number, division}
use Rattle.kernel.specs.FractionMeaning.{FractionMeans, fraction-answers, fraction-says, fraction_given}
use Rattle.kernel.specs.GcdAnswers.{GcdMeans, gcd-says, gcd_given, gcd_sequence, gcd_ends, gcd_unrefused, gcd-answers, gcd_never_long, gcd-passes}
use Rattle.kernel.specs.GcdMeaning.{GcdHeld, gcd_tower, gcd_modulus, gcd-kind, gcd_done, gcd_factor, gcd-left, gcd-held, gcd_shown, gcd-free}
use Rattle.kernel.specs.Gcds.{gcd_room, gcd_needed, gcd_number, gcd_by, gcd}
use Rattle.kernel.specs.InverseAnswers.{ElementOf, ElementLong, element_words, zero_of, element-is, InverseMeans, inverse-says, inverse_given}
use Rattle.kernel.specs.InverseAnswers.{inverse_sequence, inverse_ends, inverse_unrefused, inverse-answers, inverse_never_long}
use Rattle.kernel.specs.InverseMeaning.{inverse_tower, inverse-kind, inverse_factor, inverse_shown}
use Rattle.kernel.specs.Inverses.{inverse_number, inverse_by, inverse}
use Rattle.kernel.specs.Meaning.{InRange, TowerOf, words_of, TowerHeld, TowerMeans, tower-says, tower_given, tower-answers, tower-passes}
use Rattle.kernel.specs.ProductAnswers.{ProductMeans, product-says, product_given, product-answers}
use Rattle.kernel.specs.ProductMeaning.{product-tower, product-coefficients}
use Rattle.kernel.specs.Products.{product_number, product}
use Rattle.kernel.specs.Refusals.{Said, done, factor, refused, refusal}
use Rattle.kernel.specs.SequenceLaws.{done_refused, factor_refused, answered-kept, answered-passed}
use Rattle.kernel.specs.SlotAnswers.{SlotLong, Allowed}
use Rattle.kernel.specs.SlotLaws.{tower-is, Written, changed_zero}
use Rattle.kernel.specs.SlotMeaning.{PolynomialOf, slot_of, SlotMeans, slot-says, slot_given, slot-answers}
use Rattle.kernel.specs.Slots.{polynomial_of, coefficients_in, cleared, changed_by}
use Rattle.kernel.specs.SumAnswers.{SumMeans, sum-says, sum_given, sum-answers}
use Rattle.kernel.specs.SumMeaning.{sum-modulus, sum-coefficients}
use Rattle.kernel.specs.Sums.{sum_number, sum}
use Rattle.kernel.specs.ViewMeaning.{ViewMeans, view-says, view_given, part_none}
use Rattle.kernel.specs.Views.{view_number, leading_view}
use Rattle.kernel.specs.WorkMeaning.{WorkMeans, work-says, work_given, work-answers}

-- ==== 1
-- "Every call returns, on any modulus, tower, slot and work store, and nobody has looked at them first.": the contracts ask for nothing, and the check proves that
-- every function ends. "What it cannot do it refuses by the first number that applies in the table of document 01": M is what each number says of an input, 0 that
-- none applies
pub record OneNumber (M : ℕ → Type 0) : Type 0 where
  -- on any input one of them holds
  pub some : (k : ℕ) × M k
  -- and only one: what a number says is also that none before it applies
  pub one : (i j : ℕ) → M i → M j → i ≡ j

-- a call that says `said`, and where it does not refuse P
pub record Settled (said : Said) (P : Type 0) (M : ℕ → Type 0) : Type 0 where
  pub number : OneNumber M
  -- it refuses by that number
  pub refuses : (j : ℕ) → (said ≡ refused (suc j)) ↔ M (suc j)
  pub passes : M 0 → P

-- it gives what is asked
abbrev pub Plain : Said → (ℕ → Type 0) → Type 0
Plain said = Settled said (said ≡ done)

-- or shows a factor
abbrev pub Showing : Said → (ℕ → Type 0) → Type 0
Showing said = Settled said ((said ≡ done) ⊎ ((l : ℕ) × (said ≡ factor l)))

one_number : (k : ℕ) (M : ℕ → Type 0) → ((j : ℕ) → k ≡ j → M j) → ((j : ℕ) → M j → k ≡ j) → OneNumber M
one_number k M says given = record { some = (k, says k refl); one = λ i j x y. sym (given i x) ∙ given j y }

plain : {said : Said} (k : ℕ) (M : ℕ → Type 0) → ((j : ℕ) → k ≡ j → M j) → ((j : ℕ) → M j → k ≡ j) → ((j : ℕ) → (said ≡ refusal j) ↔ M j) → Plain said M
plain k M says given answers = record { number = one_number k M says given; refuses = λ j. answers (suc j); passes = (answers 0).1 }

pub record FirstNumber : Type 0 where
  pub tower : (p n : ℤ) (e t : List ℤ) → Plain (check_tower p n e t) (TowerMeans p n e t)
  pub slot : (p n : ℤ) (e t a : List ℤ) → Plain (check_slot p n e t a) (SlotMeans p n e t a)
  pub sizes : (n : ℤ) (e : List ℤ) (a b : ℤ) → Plain (work_sizes n e a b).said (WorkMeans n e a b)
  pub fraction : (p n e : ℤ) → Plain (fraction p n e).said (FractionMeans p e)
  -- it hands out no number
  pub view : (p n : ℤ) (e t a b : List ℤ) → OneNumber (ViewMeans p n e t a b)
  pub sum : (neg : Bool) (p n : ℤ) (e t a b : List ℤ) → Plain (sum neg p n e t a b).said (SumMeans p n e t a b)
  pub product : (p n : ℤ) (e t a b c v : List ℤ) → Plain (product p n e t a b c v).said (ProductMeans p n e t a b c v)
  pub division : (p n : ℤ) (e t a b q v : List ℤ) → Plain (division p n e t a b q v).said (DivisionMeans p n e t a b q v)
  pub inverse : (p n : ℤ) (e t c r f v : List ℤ) → Showing (inverse p n e t c r f v).said (InverseMeans p n e t c r f v)
  pub gcd : (p n : ℤ) (e t a b g f v : List ℤ) → Showing (gcd p n e t a b g f v).said (GcdMeans p n e t a b g f v)

pub first-number : FirstNumber
first-number = record {
  tower = λ p n e t. plain (tower_number p n e t) _ (tower-says p n e t) (tower_given p n e t) (tower-answers p n e t);
  slot = λ p n e t a. plain (slot_number p n e t a) _ (slot-says p n e t a) (slot_given p n e t a) (slot-answers p n e t a);
  sizes = λ n e a b. plain (work_number n e a b) _ (work-says n e a b) (work_given n e a b) (work-answers n e a b);
  fraction = λ p n e. plain (fraction_number p e) _ (fraction-says p e) (fraction_given p e) (λ j. (let x = fraction-answers p e n j in
      (λ h. fraction-says p e j (x.0 h), λ m. x.1 (fraction_given p e j m))));
  view = λ p n e t a b. one_number (view_number p n e t a b) _ (view-says p n e t a b) (view_given p n e t a b);
  sum = λ neg p n e t a b. plain (sum_number p n e t a b) _ (sum-says p n e t a b) (sum_given p n e t a b) (sum-answers p n e t a b neg);
  product = λ p n e t a b c v. plain (product_number p n e t a b c v) _ (product-says p n e t a b c v) (product_given p n e t a b c v) (product-answers p n e t a b c v);
  division = λ p n e t a b q v.
      plain (division_number p n e t a b q v) _ (division-says p n e t a b q v) (division_given p n e t a b q v) (division-answers p n e t a b q v);
  inverse = λ p n e t c r f v. record {
    number = one_number (inverse_number p n e t c r f v) _ (inverse-says p n e t c r f v) (inverse_given p n e t c r f v);
    refuses = inverse-answers p n e t c r f v;
    passes = λ h. inverse-kind p n e t c r f v (inverse_given p n e t c r f v 0 h);
  };
  gcd = λ p n e t a b g f v. record {
    number = one_number (gcd_number p n e t a b g f v) _ (gcd-says p n e t a b g f v) (gcd_given p n e t a b g f v);
    refuses = gcd-answers p n e t a b g f v;
    passes = λ h. gcd-kind p n e t a b g f v (gcd_given p n e t a b g f v 0 h);
  };
}

-- "and then no lent word has changed, except that number 11 clears its work words": so the definitions have it, but number 11 is never given. The other calls are
-- lent words to read only
pub record WordsKept : Type 0 where
  pub inverse_clears : (p n : ℤ) (e t r f v : List ℤ) (h : T (p_ok p))
      → inverse_by p n e t r f v h long
      ≡ record { said = refused 11; words = record { inverse = r; factor = f; work = cleared (inverse_work (degrees_of e) (num n)) v } }
  pub gcd_clears : (p n : ℤ) (e t a b g f v : List ℤ) (h : T (p_ok p))
      → gcd_by p n e t a b g f v h long ≡ record { said = refused 11; words = record { gcd = g; factor = f; work = cleared (gcd_needed n e a b) v } }
  pub inverse_eleven : (p n : ℤ) (e t c r f v : List ℤ) → ¬ ((inverse p n e t c r f v).said ≡ refused 11)
  pub gcd_eleven : (p n : ℤ) (e t a b g f v : List ℤ) → ¬ ((gcd p n e t a b g f v).said ≡ refused 11)
  pub sum : (neg : Bool) (p n : ℤ) (e t a b : List ℤ) (j : ℕ) → (sum neg p n e t a b).said ≡ refused j → (sum neg p n e t a b).words ≡ a
  pub product : (p n : ℤ) (e t a b c v : List ℤ) (j : ℕ) → (product p n e t a b c v).said ≡ refused j
      → (product p n e t a b c v).words ≡ record { product = c; work = v }
  pub division : (p n : ℤ) (e t a b q v : List ℤ) (j : ℕ) → (division p n e t a b q v).said ≡ refused j
      → (division p n e t a b q v).words ≡ record { remainder = a; quotient = q; work = v }
  pub inverse : (p n : ℤ) (e t c r f v : List ℤ) (j : ℕ) → j ≤ 10 → (inverse p n e t c r f v).said ≡ refused j
      → (inverse p n e t c r f v).words ≡ record { inverse = r; factor = f; work = v }
  pub gcd : (p n : ℤ) (e t a b g f v : List ℤ) (j : ℕ) → j ≤ 10 → (gcd p n e t a b g f v).said ≡ refused j
      → (gcd p n e t a b g f v).words ≡ record { gcd = g; factor = f; work = v }

changed_kept : {A : Type 0} (k : ℕ) (new old : A) (j : ℕ) → (changed_by k new old).said ≡ refused j → (changed_by k new old).words ≡ old
changed_kept zero new old j h = absurd (done_refused j h)
changed_kept (suc k) new old j h = refl

pub words-kept : WordsKept
words-kept = record {
  inverse_clears = λ p n e t r f v h. refl;
  gcd_clears = λ p n e t a b g f v h. refl;
  inverse_eleven = inverse_never_long;
  gcd_eleven = gcd_never_long;
  sum = λ neg p n e t a b. changed_kept (sum_number p n e t a b) _ a;
  product = λ p n e t a b c v. changed_kept (product_number p n e t a b c v) _ _;
  division = λ p n e t a b q v. changed_kept (division_number p n e t a b q v) _ _;
  inverse = λ p n e t c r f v j l. answered-kept _ _ (inverse_number p n e t c r f v) (inverse_unrefused p n e t c r f v) j;
  gcd = λ p n e t a b g f v j l. answered-kept _ _ (gcd_number p n e t a b g f v) (gcd_unrefused p n e t a b g f v) j;
}

-- "The leading view shows an empty part in place of a number."
pub empty_part : (p n : ℤ) (e t a b : List ℤ) (j : ℕ) → ViewMeans p n e t a b (suc j) → leading_view p n e t a b ≡ []
empty_part p n e t a b j h = part_none p n e t a b j (view_given p n e t a b (suc j) h)

-- ==== over a tower: t is the words of exactly one, p is in range, and X holds of it
abbrev pub Over : (p n : ℤ) (e t : List ℤ) → (T (p_ok p) → TowerOf p n e → Type 0) → Type 0
Over p n e t X = (τ : TowerHeld p n e t) × X τ.range.modulus τ.held.this

over : (p n : ℤ) (e t : List ℤ) (X : T (p_ok p) → TowerOf p n e → Type 0) (τ : TowerHeld p n e t)
    → X τ.range.modulus (tower_in p n e t τ.range.modulus) → Over p n e t X
over p n e t X τ x = (τ, subst (X τ.range.modulus) (tower-is p n e t τ) x)

module _ (p n : ℤ) (e : List ℤ) (m : T (p_ok p)) (s : TowerOf p n e) where
  -- R_N
  abbrev pub Top : CRing
  Top = ring (num p) (p_positive p m) (degrees_of e) (num n) s

  -- the coefficients of what a slot holds, and the polynomial
  abbrev pub Coefficients : List ℤ → Series Top
  Coefficients x = coefficients_in p n e m x

  abbrev pub Polynomial : List ℤ → P Top
  Polynomial x = pol Top (coefficients_of n e x) (polynomial_of p n e m (coefficients_of n e x) x)

  -- ==== 2
  -- a = q · b + r, r of a degree below that of b, which is monic; and no other q and r are so
  pub record Divided (a b q r : List ℤ) : Type 0 where
    pub monic : Monic Top (Coefficients b)
    pub is : Coefficients a ≡ (SeriesRing Top).◌⊕◌ ((SeriesRing Top).◌⊗◌ (Coefficients q) (Coefficients b)) (Coefficients r)
    pub low : Below Top.𝟘 monic.degree (Coefficients r)
    pub only : (k : ℕ) (Q R : Series Top) → Below Top.𝟘 k Q → Below Top.𝟘 monic.degree R
        → Coefficients a ≡ (SeriesRing Top).◌⊕◌ ((SeriesRing Top).◌⊗◌ Q (Coefficients b)) R → (Q ≡ Coefficients q) × (R ≡ Coefficients r)

-- "Sum, product, quotient and remainder are those of the residue ring in document 01."
pub record RingCalls : Type 0 where
  pub difference : (p n : ℤ) (e t a b : List ℤ) → (sum true p n e t a b).said ≡ done → Over p n e t (λ m s. ((j : ℕ)
      → Coefficients p n e m s (sum true p n e t a b).words j ≡ (Top p n e m s).◌⊕◌ (Coefficients p n e m s a j) ((Top p n e m s).⊖◌ (Coefficients p n e m s b j))))
  pub sum : (p n : ℤ) (e t a b : List ℤ) → (sum false p n e t a b).said ≡ done → Over p n e t (λ m s. ((j : ℕ)
      → Coefficients p n e m s (sum false p n e t a b).words j ≡ (Top p n e m s).◌⊕◌ (Coefficients p n e m s a j) (Coefficients p n e m s b j)))
  pub product : (p n : ℤ) (e t a b c v : List ℤ) → (product p n e t a b c v).said ≡ done → Over p n e t (λ m s. ((j : ℕ)
      → Coefficients p n e m s (product p n e t a b c v).words.product j ≡ ◌*ˢ◌ (Top p n e m s) (Coefficients p n e m s a) (Coefficients p n e m s b) j))
  pub division : (p n : ℤ) (e t a b q v : List ℤ) → (division p n e t a b q v).said ≡ done
      → Over p n e t (λ m s. Divided p n e m s a b (division p n e t a b q v).words.quotient (division p n e t a b q v).words.remainder)

-- p is in range by one proof
sum_over : (neg : Bool) (p n : ℤ) (e t a b : List ℤ) → (sum neg p n e t a b).said ≡ done → Over p n e t (λ m s. ((j : ℕ)
    → coefficients_in p n e m (sum neg p n e t a b).words j
    ≡ gained (group (num p) (p_positive p m) (degrees_of e) (num n)) neg (coefficients_in p n e m a j) (coefficients_in p n e m b j)))
sum_over neg p n e t a b d =
    let h = changed_zero (sum_number p n e t a b) _ _ d in
    let τ = (sum-says p n e t a b 0 h).slots.tower in (
      τ,
      subst (λ m. ((j : ℕ)
          → coefficients_in p n e m (sum neg p n e t a b).words j
          ≡ gained (group (num p) (p_positive p m) (degrees_of e) (num n)) neg (coefficients_in p n e m a j) (coefficients_in p n e m b j)))
          (T_prop (p_ok p) (sum-modulus p n e t a b h) τ.range.modulus) (sum-coefficients p n e t a b h neg),
    )

pub ring_calls : RingCalls
ring_calls = record {
  difference = sum_over true;
  sum = sum_over false;
  product = λ p n e t a b c v d. (let h = changed_zero (product_number p n e t a b c v) _ _ d in
      over p n e t _ (product-tower p n e t a b c v h) (product-coefficients p n e t a b c v h));
  division = λ p n e t a b q v d. (let h = changed_zero (division_number p n e t a b q v) _ _ d in
      over p n e t (λ m s. Divided p n e m s a b (division p n e t a b q v).words.quotient (division p n e t a b q v).words.remainder)
      (division-tower p n e t a b q v h) (record {
        monic = record { degree = divisor_degree b; lead = divisor_monic p n e t a b q v h; below = divisor_below p n e t a b q v h };
        is = division_meaning p n e t a b q v h;
        low = remainder_below p n e t a b q v h;
        only = λ k Q R lowQ lowR x. (only_quotient p n e t a b q v h k Q R lowQ lowR x, only_remainder p n e t a b q v h k Q R lowQ lowR x);
      }));
}

-- "Inverse and monic GCD, and the factor shown in their place, are those of its remainder sequence."
module _ (p n : ℤ) (e : List ℤ) (m : T (p_ok p)) (s : TowerOf p n e) where
  abbrev F : Type 0
  F = Shown (num p) (degrees_of e) (num n)

  -- x is shown: with its level, in the factor buffer
  pub record ShownBy (x : Shown (num p) (degrees_of e) (num n)) (f : List ℤ) (said : Said) (f' : List ℤ) : Type 0 where
    pub answer : said ≡ factor (shown_level (num p) (degrees_of e) (num n) x)
    pub words : f' ≡ factor_buffer f (shown_words (num p) (p_positive p m) (degrees_of e) (num n) s x)

  -- c holds an element, and the sequence on it gives u, which r holds, or shows x
  pub record InverseRuns (t c r f v : List ℤ) : Type 0 where
    pub element : Exactly (element_words p n e) c
    pub given : (u : ElementOf p n e) → inv (num p) (p_positive p m) (degrees_of e) (num n) s element.this ≡ done-with u
        → ((inverse p n e t c r f v).said ≡ done) × ((inverse p n e t c r f v).words.inverse ≡ element_words p n e u)
    pub shows : (x : F) → inv (num p) (p_positive p m) (degrees_of e) (num n) s element.this ≡ shown x
        → ShownBy x f (inverse p n e t c r f v).said (inverse p n e t c r f v).words.factor
    pub ends : ¬ (inv (num p) (p_positive p m) (degrees_of e) (num n) s element.this ≡ long)

  -- the GCD's sequence on what a and b hold
  abbrev pub gcd_in : (a b : List ℤ) → Answer (Shown (num p) (degrees_of e) (num n)) (Made (ElementOf p n e) (Unit {0}))
  gcd_in a b =
      gcd-of (level (num p) (p_positive p m) (degrees_of e) (num n) s) (coefficients_of n e a) (polynomial_of p n e m (coefficients_of n e a) a)
      (coefficients_of n e b) (polynomial_of p n e m (coefficients_of n e b) b)

  -- it gives w, which g holds, the whole slot written, or shows x
  pub record GcdRuns (t a b g f v : List ℤ) : Type 0 where
    pub given : (w : Made (ElementOf p n e) (Unit {0})) → gcd_in a b ≡ done-with w
        → ((gcd p n e t a b g f v).said ≡ done)
        × (Written p n e g (gcd p n e t a b g f v).words.gcd × (Polynomial p n e m s (gcd p n e t a b g f v).words.gcd ≡ val (Top p n e m s) w))
    pub shows : (x : F) → gcd_in a b ≡ shown x → ShownBy x f (gcd p n e t a b g f v).said (gcd p n e t a b g f v).words.factor
    pub ends : ¬ (gcd_in a b ≡ long)

pub record SequenceCalls : Type 0 where
  pub inverse : (p n : ℤ) (e t c r f v : List ℤ) → InverseMeans p n e t c r f v 0 → Over p n e t (λ m s. InverseRuns p n e m s t c r f v)
  pub gcd : (p n : ℤ) (e t a b g f v : List ℤ) → GcdMeans p n e t a b g f v 0 → Over p n e t (λ m s. GcdRuns p n e m s t a b g f v)

inverse_runs : (p n : ℤ) (e t c r f v : List ℤ) → InverseMeans p n e t c r f v 0 → Over p n e t (λ m s. InverseRuns p n e m s t c r f v)
inverse_runs p n e t c r f v h =
    let m = h.element.tower.range.modulus in
    let x = h.element.held in
    let z = inverse_given p n e t c r f v 0 h in
    let run = inverse_sequence p n e t c r f v z m in
    let same = ap (inv (num p) (p_positive p m) (degrees_of e) (num n) (tower_in p n e t m)) (element-is p n e c m x.this x.holds) in
    over p n e t (λ m s. InverseRuns p n e m s t c r f v) h.element.tower (record {
      element = x;
      given = λ u q. (let is = run ∙ ap (inverse_by p n e t r f v m) (same ∙ q) in (ap (λ y. y.said) is, ap (λ y. y.words.inverse) is));
      shows = λ y q. (let is = run ∙ ap (inverse_by p n e t r f v m) (same ∙ q) in record { answer = ap (λ y. y.said) is; words = ap (λ y. y.words.factor) is });
      ends = λ q. inverse_ends p n e t c r f v h (same ∙ q);
    })

gcd_runs : (p n : ℤ) (e t a b g f v : List ℤ) → GcdMeans p n e t a b g f v 0 → Over p n e t (λ m s. GcdRuns p n e m s t a b g f v)
gcd_runs p n e t a b g f v h =
    let z = gcd_given p n e t a b g f v 0 h in
    let m = gcd_modulus p n e t a b g f v z in
    let run = gcd_sequence p n e t a b g f v z m in
    over p n e t (λ m s. GcdRuns p n e m s t a b g f v) (gcd_tower p n e t a b g f v z) (record {
      given = λ w q. (let left = gcd-left p n e t a b g f v z w q in ((gcd_done p n e t a b g f v z).1 (w, q), (left.written, left.holds)));
      shows = λ y q. (let is = run ∙ ap (gcd_by p n e t a b g f v m) q in record { answer = ap (λ y. y.said) is; words = ap (λ y. y.words.factor) is });
      ends = gcd_ends p n e t a b g f v m;
    })

pub sequence_calls : SequenceCalls
sequence_calls = record { inverse = inverse_runs; gcd = gcd_runs }

-- "Each polynomial that fits has one writing in a slot of given size, and each writing that passes the check is one polynomial."
pub record OneWriting : Type 0 where
  -- f is a polynomial of less than k coefficients
  pub one : (p n : ℤ) (e : List ℤ) (m : T (p_ok p)) (k : ℕ) (f : ℕ → ElementOf p n e) → Below (zero_of p n e m) k f
      → (w : List ℤ) × (Holding (num p) (p_positive p m) (degrees_of e) (num n) k f w
      × ((x : List ℤ) → Holding (num p) (p_positive p m) (degrees_of e) (num n) k f x → x ≡ w))
  pub passes : (p n : ℤ) (e t a : List ℤ) → check_slot p n e t a ≡ done → Exactly (slot_of p n e (coefficients_of n e a)) a

pub one_writing : OneWriting
one_writing = record {
  one = λ p n e m k f low. (let w = writing (num p) (p_positive p m) (degrees_of e) (num n) k f low in
      (_, (w, λ x h. written_once (num p) (p_positive p m) (degrees_of e) (num n) k f x _ h w)));
  passes = λ p n e t a h. ((slot-answers p n e t a 0).0 h).held;
}

-- ==== 3
module _ (p n : ℤ) (e : List ℤ) (m : T (p_ok p)) (s : TowerOf p n e) where
  -- "When a factor is shown instead, it is a monic proper factor of the named tower polynomial, of degree 1 or more, or at level 0 a number between 1 and the modulus
  -- that divides it.": the words of level l of the factor buffer hold it
  pub record FactorDescribed (l : ℕ) (f : List ℤ) : Type 0 where
    pub value : Value (num p) (degrees_of e)
    pub at_level : value_level (num p) (degrees_of e) value ≡ l
    pub held : ValueHeld (num p) (p_positive p m) (degrees_of e) (num n) s value (take (size (degrees_of e) l) f)

  described : (x : Value (num p) (degrees_of e)) (l : ℕ) (f : List ℤ) → value_level (num p) (degrees_of e) x ≡ l
      → ValueHeld (num p) (p_positive p m) (degrees_of e) (num n) s x (take (size (degrees_of e) (value_level (num p) (degrees_of e) x)) f) → FactorDescribed l f
  described x l f q h = record {
    value = x;
    at_level = q;
    held = subst (λ i. ValueHeld (num p) (p_positive p m) (degrees_of e) (num n) s x (take (size (degrees_of e) i) f)) q h;
  }

pub record ThirdDemand : Type 0 where
  -- "When a GCD of a and b is given, its leading coefficient is 1 unless a and b are both zero, and then it is zero; and a polynomial over that tower divides it
  -- precisely when it divides both a and b."
  pub given : (p n : ℤ) (e t a b g f v : List ℤ) → (gcd p n e t a b g f v).said ≡ done → Over p n e t (λ m s.
      GcdHeld (Top p n e m s) (Polynomial p n e m s a) (Polynomial p n e m s b) (Polynomial p n e m s (gcd p n e t a b g f v).words.gcd))
  pub shows : (p n : ℤ) (e t a b g f v : List ℤ) (l : ℕ) → (gcd p n e t a b g f v).said ≡ factor l
      → Over p n e t (λ m s. FactorDescribed p n e m s l (gcd p n e t a b g f v).words.factor)
  -- in place of an inverse too
  pub inverse_shows : (p n : ℤ) (e t c r f v : List ℤ) (l : ℕ) → (inverse p n e t c r f v).said ≡ factor l
      → Over p n e t (λ m s. FactorDescribed p n e m s l (inverse p n e t c r f v).words.factor)
  -- "So where no refusal applies, a modulus and tower without such factors always get their GCD."
  pub free : (p n : ℤ) (e t a b g f v : List ℤ) → GcdMeans p n e t a b g f v 0
      → Over p n e t (λ m s. Free (num p) (p_positive p m) (degrees_of e) (num n) s) → (gcd p n e t a b g f v).said ≡ done
  -- "This holds for every accepted modulus and tower, prime or not.": every modulus, degrees and tower in range are accepted, and every two polynomials over it with
  -- room for the answer and work store enough, by their degrees, get their GCD or are shown a factor: u is zero from i on, w from j on
  pub accepted : (p n : ℤ) (e : List ℤ) (r : InRange p n e) (s : TowerOf p n e) (k l : ℕ) → Allowed n e k → Allowed n e l
      → (u : PolynomialOf p n e k) (w : PolynomialOf p n e l) (g f v : List ℤ) → SlotLong n e g → ElementLong n e f → (i j : ℕ)
      → Below (zero_of p n e r.modulus) i (coef (zero_of p n e r.modulus) k u) → Below (zero_of p n e r.modulus) j (coef (zero_of p n e r.modulus) l w)
      → gcd_room i j ≤ coefficients_of n e g → gcd_work (degrees_of e) (num n) i j ≤ length v
      → ((gcd p n e (words_of p n e r.modulus s) (slot_of p n e k u) (slot_of p n e l w) g f v).said ≡ done)
      ⊎ ((h : ℕ) × ((gcd p n e (words_of p n e r.modulus s) (slot_of p n e k u) (slot_of p n e l w) g f v).said ≡ factor h))

-- Done or a factor is said where no number is given
module _ (p n : ℤ) (e t a b g f v : List ℤ) where
  by_done : (gcd p n e t a b g f v).said ≡ done → gcd_number p n e t a b g f v ≡ 0
  by_done d = answered-passed _ _ (gcd_number p n e t a b g f v) (λ j q. done_refused j (sym d ∙ q))

  by_factor : (l : ℕ) → (gcd p n e t a b g f v).said ≡ factor l → gcd_number p n e t a b g f v ≡ 0
  by_factor l d = answered-passed _ _ (gcd_number p n e t a b g f v) (λ j q. factor_refused l j (sym d ∙ q))

  gcd_described : (gcd p n e t a b g f v).said ≡ done → Over p n e t (λ m s.
      GcdHeld (Top p n e m s) (Polynomial p n e m s a) (Polynomial p n e m s b) (Polynomial p n e m s (gcd p n e t a b g f v).words.gcd))
  gcd_described d = let z = by_done d in over p n e t _ (gcd_tower p n e t a b g f v z) (gcd-held p n e t a b g f v z d)

  gcd_shows : (l : ℕ) → (gcd p n e t a b g f v).said ≡ factor l → Over p n e t (λ m s. FactorDescribed p n e m s l (gcd p n e t a b g f v).words.factor)
  gcd_shows l d =
      let z = by_factor l d in
      let x = (gcd_factor p n e t a b g f v z l).0 d in
      over p n e t (λ m s. FactorDescribed p n e m s l (gcd p n e t a b g f v).words.factor) (gcd_tower p n e t a b g f v z)
      (described p n e _ _ (value_of (num p) (degrees_of e) (num n) x.0) l _ x.2 (gcd_shown p n e t a b g f v z x.0 x.1).lies.held)

  free_given : GcdMeans p n e t a b g f v 0 → Over p n e t (λ m s. Free (num p) (p_positive p m) (degrees_of e) (num n) s) → (gcd p n e t a b g f v).said ≡ done
  free_given h (τ, free) =
      let z = gcd_given p n e t a b g f v 0 h in
      let τ' = gcd_tower p n e t a b g f v z in
      let m = τ.range.modulus in
      let here = subst (Free (num p) (p_positive p m) (degrees_of e) (num n)) (sym (tower-is p n e t τ)) free in
      let there = subst (λ m. Free (num p) (p_positive p m) (degrees_of e) (num n) (tower_in p n e t m)) (T_prop (p_ok p) m τ'.range.modulus) here in
      gcd-free p n e t a b g f v z (subst (Free (num p) (p_positive p τ'.range.modulus) (degrees_of e) (num n)) (tower-is p n e t τ') there)

inverse_shows_factor : (p n : ℤ) (e t c r f v : List ℤ) (l : ℕ) → (inverse p n e t c r f v).said ≡ factor l
    → Over p n e t (λ m s. FactorDescribed p n e m s l (inverse p n e t c r f v).words.factor)
inverse_shows_factor p n e t c r f v l d =
    let z = answered-passed _ _ (inverse_number p n e t c r f v) (λ j q. factor_refused l j (sym d ∙ q)) in
    let x = (inverse_factor p n e t c r f v z l).0 d in
    over p n e t (λ m s. FactorDescribed p n e m s l (inverse p n e t c r f v).words.factor) (inverse_tower p n e t c r f v z)
    (described p n e _ _ (value_of (num p) (degrees_of e) (num n) x.0) l _ x.2 (inverse_shown p n e t c r f v z x.0 x.1).lies.held)

pub third_demand : ThirdDemand
third_demand = record {
  given = gcd_described;
  shows = gcd_shows;
  inverse_shows = inverse_shows_factor;
  free = free_given;
  accepted = λ p n e r s k l k-in l-in u w g f v g-in f-in i j low-u low-w room work. (let t = words_of p n e r.modulus s in
      let τ = tower-says p n e t 0 (tower-passes p n e r s) in
      let one = T_prop (p_ok p) r.modulus τ.range.modulus in
      let low-u' = subst (λ m. Below (zero_of p n e m) i (coef (zero_of p n e m) k u)) one low-u in
      let low-w' = subst (λ m. Below (zero_of p n e m) j (coef (zero_of p n e m) l w)) one low-w in
      gcd-kind p n e t (slot_of p n e k u) (slot_of p n e l w) g f v (gcd-passes p n e t τ k l k-in l-in u w g f v g-in f-in i j low-u' low-w' room work));
}

-- What the leading view shows. The number behind it is given precisely under its condition; the part is empty precisely where a number applies or both polynomials
-- are zero; and else it is the words of the leading coefficient of the one that has the higher degree.
--
-- ViewMeans      == for each number what it says
-- view-says      == a number that is given comes under its condition;  view_given == and under its condition it is given;  view_numbers == none is above 5
-- Viewed, viewed == no number: what the tests have shown
-- part_b, part_a, part_none == which part it is
-- Leading              == where the part starts and ends and what its words are;  view_of_b, view_of_a == which slot it is of
-- SomeNumber, BothZero == a number applies; none, and both are zero;  view_empty == the part is empty precisely then
-- view-some            == a part that is not empty comes without a number;  view_long == the words of the part are as many as it counts
use Rattle.std.specs.Prelude.{ℕ, zero, suc, ◌+◌, ◌-◌, ◌*◌, ◌<◌, ◌≤◌, ◌≡◌, refl, Bool, false, ◌⊎◌, ◌↔◌, List, [], ◌∷◌, ℤ, T, ltb, length}
use Rattle.std.proofs.Common.{lt_irrefl, suc-mul, mul-le-mul_right, sym, ap, ◌∙◌, subst, inl, inr, ltb→lt, lt→ltb}
use native.Mathlib.Omega.{arith}
use Rattle.std.proofs.Math.Bool.{true}
use Rattle.algebra.specs.Test.{le_or_lt}
use Rattle.algebra.specs.Vec.{Below}
use Rattle.residue.specs.Word.{num}
use Rattle.tower.specs.Form.{seg}
use Rattle.tower.specs.Levels.{group}
use Rattle.tower.specs.Limits.{p_ok, p_positive, degrees_of}
use Rattle.tower.specs.Lists.{to_true}
use Rattle.tower.specs.Writing.{size-pos, write, write_long}
use Rattle.kernel.specs.Calls.{size_of, length_ok, form_ok}
use Rattle.kernel.specs.Meaning.{TowerHeld}
use Rattle.kernel.specs.SlotAnswers.{Means, SlotsMeans, slots_means}
use Rattle.kernel.specs.SlotLaws.{held_below, held-top, held_few, held_low, held-words}
use Rattle.kernel.specs.SlotMeaning.{Room, room-count, length_iff, form_iff}
use Rattle.kernel.specs.Slots.{degree_count, coefficients_in}
use Rattle.kernel.specs.Views.{view_number, top_part, higher_part, part_by, leading_part, part_of, part_words, leading_view}

-- the slots are a and b; no coefficients are needed for an answer, and there are no numbers above 5
abbrev pub ViewMeans : (p n : ℤ) (e t a b : List ℤ) → ℕ → Type 0
ViewMeans p n e t a b = SlotsMeans p n e t a b (b ∷ []) a 0 (λ _. Unit {0}) (λ _. ⊥) (λ _. ⊥)

-- zero at every coefficient
abbrev pub Zero : (p n : ℤ) (e : List ℤ) → T (p_ok p) → List ℤ → Type 0
Zero p n e h x = Below (group (num p) (p_positive p h) (degrees_of e) (num n)).𝟘 0 (coefficients_in p n e h x)

module _ (p n : ℤ) (e t a b : List ℤ) where
  view_means : Means (view_number p n e t a b) (ViewMeans p n e t a b)
  unfolding view_number
  view_means = slots_means p n e t a b (b ∷ []) a 0 _ _ _ true true true (record {
    room_told = (λ x. omega arith, λ x. tt);
    all_told = λ h. (λ x. tt, λ x. (tt, tt));
    work_told = λ h. (λ x. x, λ x. x);
    monic_told = λ h. (λ x. x.1, λ x. absurd x);
  })

  pub view-says : (j : ℕ) → view_number p n e t a b ≡ j → ViewMeans p n e t a b j
  view-says j h = subst (ViewMeans p n e t a b) h view_means.says

  pub view_given : (j : ℕ) → ViewMeans p n e t a b j → view_number p n e t a b ≡ j
  view_given = view_means.only

  -- no number above 5 is given
  pub view_numbers : view_number p n e t a b ≤ 5
  view_numbers = used (view_number p n e t a b) view_means.says
    where
      used : (k : ℕ) → ViewMeans p n e t a b k → k ≤ 5
      used zero h = omega arith
      used (suc zero) h = omega arith
      used (suc (suc zero)) h = omega arith
      used (suc (suc (suc zero))) h = omega arith
      used (suc (suc (suc (suc zero)))) h = omega arith
      used (suc (suc (suc (suc (suc zero))))) h = omega arith
      used (suc (suc (suc (suc (suc (suc zero)))))) h = absurd (omega (arith, h.small))
      used (suc (suc (suc (suc (suc (suc (suc zero))))))) h = absurd h.more
      used (suc (suc (suc (suc (suc (suc (suc (suc zero)))))))) h = absurd h.more
      used (suc (suc (suc (suc (suc (suc (suc (suc (suc _))))))))) h = elim h [ ]

  -- ---- no number
  pub record Viewed : Type 0 where
    pub tower : TowerHeld p n e t
    pub long_a : T (length_ok n e a)
    pub long_b : T (length_ok n e b)
    pub form_a : T (form_ok p n e a)
    pub form_b : T (form_ok p n e b)

  pub viewed : view_number p n e t a b ≡ 0 → Viewed
  viewed h =
      let g = (view-says 0 h).slots in
      let m = g.tower.range.modulus in
      record {
        tower = g.tower;
        long_a = (length_iff n e a).1 g.long.0;
        long_b = (length_iff n e b).1 g.long.1;
        form_a = (form_iff p n e m a).1 g.held_a;
        form_b = (form_iff p n e m b).1 g.held_b;
      }

  -- ---- which part
  -- b's where it has the higher degree
  pub part_b : view_number p n e t a b ≡ 0 → degree_count a < degree_count b → leading_part p n e t a b ≡ top_part true (size_of n e) (degree_count b)
  part_b h q =
      let yes = to_true (ltb (degree_count a) (degree_count b)) (lt→ltb (degree_count a) (degree_count b) q) in
      λ i. part_by (h i) (higher_part (yes i) (size_of n e) (degree_count a) (degree_count b))

  -- and else a's
  pub part_a : view_number p n e t a b ≡ 0 → degree_count b ≤ degree_count a → leading_part p n e t a b ≡ top_part false (size_of n e) (degree_count a)
  part_a h q =
      let other = no (ltb (degree_count a) (degree_count b)) (ltb→lt (degree_count a) (degree_count b)) in
      λ i. part_by (h i) (higher_part (other i) (size_of n e) (degree_count a) (degree_count b))
    where
      no : (x : Bool) → (T x → degree_count a < degree_count b) → x ≡ false
      no true l = absurd (lt_irrefl 0 (omega (arith, l tt)))
      no false l = refl

  -- empty beside a number
  pub part_none : (k : ℕ) → view_number p n e t a b ≡ suc k → leading_view p n e t a b ≡ []
  part_none k h = ap (λ j. part_words (part_by j (higher_part (ltb (degree_count a) (degree_count b)) (size_of n e) (degree_count a) (degree_count b))) a b) h

  -- ---- the part where it is not empty: of b where second, and else of a
  pub record Leading (second : Bool) (h : T (p_ok p)) : Type 0 where
    pub which : (leading_part p n e t a b).second ≡ second
    pub degree : ℕ
    -- it starts behind the degree word and the coefficients below it, has the words of one coefficient and lies in the slot
    pub start : (leading_part p n e t a b).start ≡ 1 + degree * size_of n e
    pub count : (leading_part p n e t a b).count ≡ size_of n e
    pub inside : 1 + degree * size_of n e + size_of n e ≤ length (part_of second a b)
    -- what it shows is the coefficient there, which is not zero, and all above it are
    pub words : leading_view p n e t a b ≡ write (num p) (degrees_of e) (num n) (coefficients_in p n e h (part_of second a b) degree)
    pub not_zero : ¬ (coefficients_in p n e h (part_of second a b) degree ≡ (group (num p) (p_positive p h) (degrees_of e) (num n)).𝟘)
    pub above : Below (group (num p) (p_positive p h) (degrees_of e) (num n)).𝟘 (suc degree) (coefficients_in p n e h (part_of second a b))

  leading_of : (second : Bool) (h : T (p_ok p)) → T (length_ok n e (part_of second a b)) → T (form_ok p n e (part_of second a b))
      → leading_part p n e t a b ≡ top_part second (size_of n e) (degree_count (part_of second a b)) → (k : ℕ) → suc k ≡ degree_count (part_of second a b) → Leading second h
  leading_of second h long form part k some = record {
    which = ap (λ w. w.second) is;
    degree = k;
    start = ap (λ w. w.start) is ∙ omega arith;
    count = ap (λ w. w.count) is;
    inside = omega (arith, room.long, suc-mul k (size_of n e), mul-le-mul_right (size_of n e) few);
    words = ap (λ w. part_words w a b) is ∙ shown second ∙ held-words p n e h x form k (omega (arith, held_few p n e h x form));
    not_zero = held-top p n e h x form k some;
    above = λ j l. held_below p n e h x form j (omega arith);
  }
    where
      x : List ℤ
      x = part_of second a b

      is : leading_part p n e t a b ≡ top_part second (size_of n e) (suc k)
      is = part ∙ ap (top_part second (size_of n e)) (sym some)

      room : Room (size_of n e) (length x)
      room = (length_iff n e x).0 long

      few : suc k ≤ room.count
      few = omega (arith, held_few p n e h x form, room-count (size_of n e) (length x) (size-pos (degrees_of e) (num n)) room)

      shown : (z : Bool) → part_words (top_part z (size_of n e) (suc k)) a b ≡ seg (suc (k * size_of n e)) (size_of n e) (part_of z a b)
      shown z = refl

  module _ (none : ViewMeans p n e t a b 0) where
    abbrev m : T (p_ok p)
    m = none.slots.tower.range.modulus

    zero_number : view_number p n e t a b ≡ 0
    zero_number = view_given 0 none

    -- b's leading coefficient where it has the higher degree: a slot in form is zero from its degree word's count on and not zero under it (held_below, held-top),
    -- so the counts compare the degrees
    pub view_of_b : degree_count a < degree_count b → Leading true m
    view_of_b q =
        let g = viewed zero_number in
        leading_of true m g.long_b g.form_b (part_b zero_number q) (degree_count b - 1) (omega arith)

    -- and else a's, if that is not zero
    pub view_of_a : degree_count b ≤ degree_count a → 1 ≤ degree_count a → Leading false m
    view_of_a q some =
        let g = viewed zero_number in
        leading_of false m g.long_a g.form_a (part_a zero_number q) (degree_count a - 1) (omega arith)

  -- ---- the empty part
  -- a number applies
  pub record SomeNumber : Type 0 where
    pub number : ℕ
    pub one : 1 ≤ number
    pub applies : ViewMeans p n e t a b number

  -- none does, and both are zero
  pub record BothZero : Type 0 where
    pub none : ViewMeans p n e t a b 0
    pub zero_a : Zero p n e none.slots.tower.range.modulus a
    pub zero_b : Zero p n e none.slots.tower.range.modulus b

  -- a leading coefficient has words
  leading-some : (second : Bool) (h : T (p_ok p)) → Leading second h → ¬ (leading_view p n e t a b ≡ [])
  leading-some second h l q =
      let words : length (leading_view p n e t a b) ≡ size_of n e = ap length l.words ∙ write_long (num p) (degrees_of e) (num n) _ in
      lt_irrefl 0 (omega (arith, words, ap length q, size-pos (degrees_of e) (num n)))

  pub view_empty : (leading_view p n e t a b ≡ []) ↔ (SomeNumber ⊎ BothZero)
  view_empty = (λ q. which (view_number p n e t a b) refl q, empty)
    where
      zeros : (none : ViewMeans p n e t a b 0) → degree_count a ≡ 0 → degree_count b ≡ 0 → BothZero
      zeros none qa qb =
          let g = viewed (view_given 0 none) in
          let h = none.slots.tower.range.modulus in
          record { none = none; zero_a = λ j l. held_below p n e h a g.form_a j (omega arith); zero_b = λ j l. held_below p n e h b g.form_b j (omega arith) }

      at_zero : ViewMeans p n e t a b 0 → leading_view p n e t a b ≡ [] → (degree_count b ≤ degree_count a) ⊎ (degree_count a < degree_count b)
          → (degree_count a ≤ 0) ⊎ (0 < degree_count a) → BothZero
      at_zero none q (inl l) (inl z) = zeros none (omega arith) (omega arith)
      at_zero none q (inl l) (inr z) = absurd (leading-some false _ (view_of_a none l z) q)
      at_zero none q (inr l) z = absurd (leading-some true _ (view_of_b none l) q)

      which : (k : ℕ) → view_number p n e t a b ≡ k → leading_view p n e t a b ≡ [] → SomeNumber ⊎ BothZero
      which zero h q = inr (at_zero (view-says 0 h) q (le_or_lt (degree_count b) (degree_count a)) (le_or_lt (degree_count a) 0))
      which (suc k) h q = inl (record { number = suc k; one = omega arith; applies = view-says (suc k) h })

      empty : SomeNumber ⊎ BothZero → leading_view p n e t a b ≡ []
      empty (inl x) =
          let one : suc (x.number - 1) ≡ x.number = omega (arith, x.one) in
          part_none (x.number - 1) (view_given x.number x.applies ∙ sym one)
      empty (inr x) =
          let h = view_given 0 x.none in
          let g = viewed h in
          let m = x.none.slots.tower.range.modulus in
          let za : degree_count a ≤ 0 = held_low p n e m a g.form_a 0 x.zero_a in
          let zb : degree_count b ≤ 0 = held_low p n e m b g.form_b 0 x.zero_b in
          let z : degree_count a ≡ 0 = omega arith in
          ap (λ w. part_words w a b) (part_a h (omega arith) ∙ ap (top_part false (size_of n e)) z)

  pub view-some : ¬ (leading_view p n e t a b ≡ []) → view_number p n e t a b ≡ 0
  view-some some = go (view_number p n e t a b) refl
    where
      go : (k : ℕ) → view_number p n e t a b ≡ k → view_number p n e t a b ≡ 0
      go zero h = h
      go (suc k) h = absurd (some (part_none k h))

  -- ---- the words of the part are as many as it counts
  pub view_long : length (leading_view p n e t a b) ≡ (leading_part p n e t a b).count
  view_long = which (view_number p n e t a b) refl
    where
      counted : (second : Bool) (h : T (p_ok p)) → Leading second h → length (leading_view p n e t a b) ≡ (leading_part p n e t a b).count
      counted second h l = ap length l.words ∙ write_long (num p) (degrees_of e) (num n) _ ∙ sym l.count

      at_zero : (h : view_number p n e t a b ≡ 0) → (degree_count b ≤ degree_count a) ⊎ (degree_count a < degree_count b) → (degree_count a ≤ 0) ⊎ (0 < degree_count a)
          → length (leading_view p n e t a b) ≡ (leading_part p n e t a b).count
      at_zero h (inl l) (inl z) =
          let none : degree_count a ≡ 0 = omega arith in
          subst (λ w. length (part_words w a b) ≡ w.count) (sym (part_a h l ∙ ap (top_part false (size_of n e)) none)) refl
      at_zero h (inl l) (inr z) = counted false _ (view_of_a (view-says 0 h) l z)
      at_zero h (inr l) z = counted true _ (view_of_b (view-says 0 h) l)

      which : (k : ℕ) → view_number p n e t a b ≡ k → length (leading_view p n e t a b) ≡ (leading_part p n e t a b).count
      which zero h = at_zero h (le_or_lt (degree_count b) (degree_count a)) (le_or_lt (degree_count a) 0)
      which (suc k) h =
          ap length (part_none k h) ∙ sym (ap (λ j. (part_by j (higher_part (ltb (degree_count a) (degree_count b)) (size_of n e) (degree_count a) (degree_count b))).count) h)

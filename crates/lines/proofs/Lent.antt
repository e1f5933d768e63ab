-- Laws of the lengths of the lists that are lent.
--
-- told_range, told_factor, told_refused == what the work sizes say tells whether N and the degrees are in range
-- degrees_small, levels_low             == what is known then
-- size-lent, one_lent                   == S_N, or 1
-- element-lent                          == it is within the factor's store
-- slot_lent                             == the longest slot is within the answer's store
use Prim.Native.Nat.{ℕ, ◌-◌, ◌*◌, ◌/◌, ◌<◌, ◌≤◌, min}
use mathlib.Core.Bool.{Bool, true, false, cond}
use mathlib.Core.List.{List}
use mathlib.Core.Logic.{inl}
use mathlib.Core.Path.{◌≡◌, refl, sym, ap, ap₂, ◌∙◌, subst}
use native.Mathlib.Nat.{div-mul-le_self, mul-le-mul_right}
use native.Mathlib.Omega.{arith}
use borrow.Author.Tests.{eq-eqb, ne_eqb, eqb-true}
use lib.Dec.{eqb}
use lib.IntN.{ℤ, negsuc}
use lib.ListN.{get_or}
use mir.Syntax.{w64}
use mir.Val.{SFits, to_z, of_z}
use mir.ValLaws.{to_z-of_z}
use Rattle.residue.specs.Word.{num}
use Rattle.tower.specs.Limits.{degrees_of}
use Rattle.tower.specs.Ready.{Sized, Small}
use Rattle.tower.specs.Writing.{size, size-pos}
use Rattle.kernel.proofs.Shapes.{shape_small, shape-low}
use Rattle.kernel.specs.declared.Answer.TheVariants.{Done, Factor, Refused}
use Rattle.kernel.specs.declared.WorkSizes.{WorkSizes}
use Rattle.kernel.specs.Answers.{said}
use Rattle.kernel.specs.Calls.{size_of, shape_table, shape_number}
use Rattle.kernel.specs.Meaning.{DegreesIn, shape_in, shape_tests}
use Rattle.kernel.specs.Promises.{SizesGiven}
use Rattle.kernel.specs.Refusals.{done, Numbered, passed_of, first_of}
use Rattle.kernel.specs.SequenceLaws.{done_factor, done_refused}
use Rattle.kernel.specs.WorkMeaning.{work-answers}
use Rattle.lines.specs.Steps.{lent_element, answer_words, slot_words, most_element}

module _ (n : ℤ) (e : List ℤ) where
  -- ---- N and the degrees are in range precisely where no number is given
  range_zero : DegreesIn n e → shape_number n e ≡ 0
  unfolding shape_number
  range_zero r = first_of (shape_table n e) (shape_tests n e r)

  zero_range : shape_number n e ≡ 0 → DegreesIn n e
  unfolding shape_number
  zero_range h =
      let numbered : Numbered (shape_table n e) = (omega arith, (omega arith, (omega arith, tt))) in
      let x = passed_of (shape_table n e) numbered h in
      shape_in n e x.0 x.1.0 x.1.1.0

  pub degrees_small : DegreesIn n e → Small (degrees_of e)
  degrees_small r = shape_small n e (sym (range_zero r))

  pub levels_low : DegreesIn n e → num n ≤ 4
  levels_low r = shape-low n e (sym (range_zero r))

  -- ---- the work sizes of zero polynomials are given precisely there
  module _ (fits : SFits w64 n) {told : WorkSizes} (asked : SizesGiven (to_z w64 (of_z w64 n)) e (negsuc 0) (negsuc 0) told) where
    given : SizesGiven n e (negsuc 0) (negsuc 0) told
    given = subst (λ x. SizesGiven x e (negsuc 0) (negsuc 0) told) (to_z-of_z w64 n fits) asked

    pub told_range : told.answer ≡ Done → DegreesIn n e
    told_range h = ((work-answers n e (negsuc 0) (negsuc 0) 0).0 (sym given.answer ∙ ap said h)).range

    told_done : DegreesIn n e → said told.answer ≡ done
    told_done r = given.answer ∙ (work-answers n e (negsuc 0) (negsuc 0) 0).1 (record { range = r; a_in = inl refl; b_in = inl refl })

    pub told_factor : {l : ℕ} → told.answer ≡ Factor l → ¬ DegreesIn n e
    told_factor {l} h r = done_factor l (sym (told_done r) ∙ ap said h)

    pub told_refused : {k : ℕ} → told.answer ≡ Refused k → ¬ DegreesIn n e
    told_refused {k} h r = done_refused k (sym (told_done r) ∙ ap said h)

  -- ---- the words of an element
  pub size-lent : {d z : List ℕ} {m s : ℕ} → DegreesIn n e → d ≡ degrees_of e → Sized d z → m ≡ num n → s ≡ get_or z m 0 → s ≡ lent_element n e
  size-lent {d} {z} {m} {s} r ed sized em es =
      let in-range = eq-eqb (shape_number n e) 0 (range_zero r) in
      rw in-range (es ∙ sized.at m (omega (arith, levels_low r, em)) ∙ ap₂ size ed em)

  pub one_lent : ¬ DegreesIn n e → 1 ≡ lent_element n e
  one_lent h = let out = ne_eqb (shape_number n e) 0 (λ q. h (zero_range q)) in rw out refl

  pub element-lent : (0 < lent_element n e) × (lent_element n e ≤ most_element)
  element-lent = go (eqb (shape_number n e) 0) (λ t. eqb-true (shape_number n e) 0 t)
    where
      go : (b : Bool) → (b ≡ true → shape_number n e ≡ 0) → (0 < cond b (size_of n e) 1) × (cond b (size_of n e) 1 ≤ most_element)
      go true z = (omega (arith, size-pos (degrees_of e) (num n)), (zero_range (z refl)).few)
      go false z = (omega arith, omega arith)

-- ---- the words of a slot
module _ (s : ℕ) where
  pub part_fits : (answer_words - 1) / s * s ≤ answer_words - 1
  part_fits = div-mul-le_self (answer_words - 1) s

  pub slot_lent : slot_words s ≤ answer_words
  slot_lent = let few : min 256 ((answer_words - 1) / s) ≤ (answer_words - 1) / s = omega arith in omega (arith, mul-le-mul_right s few, part_fits)

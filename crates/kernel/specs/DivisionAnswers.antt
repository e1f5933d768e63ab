-- What the numbers 0 to 8 say of a division.
--
-- Monic            == a polynomial has 1 at some place and 0 above it;  MonicIn == b holds such a one, over the ring of the tower
-- monic-count      == then that place is the degree that b's degree word tells;  monic-held == it is what number 8 tests
-- DivisionMeans    == for each number what it says; a number that is not used says ⊥
-- division-says    == a number that is given comes under its condition;  division_given == and under its condition it is given
-- division-answers == the same of what the call says
-- division-passes  == over a tower, every two polynomials in slots of allowed lengths, the second monic, get no number if there is room and work store enough
use Rattle.std.specs.Prelude.{ℕ, suc, ◌≤◌, ◌<◌, ◌≡◌, Bool, ◌⊎◌, ◌↔◌, List, [], ◌∷◌, ℤ, T, leb, length}
use Rattle.std.proofs.Common.{arith, sym, ap, ◌∙◌, subst, inl, inr}
use Rattle.algebra.specs.Ring.{CRing}
use Rattle.algebra.specs.Series.{Series}
use Rattle.algebra.specs.Test.{le_or_lt}
use Rattle.algebra.specs.Vec.{Below, coef}
use Rattle.residue.specs.Word.{num}
use Rattle.tower.specs.Levels.{one_not_zero}
use Rattle.tower.specs.Limits.{p_ok, p_positive, degrees_of}
use Rattle.tower.specs.Work.{product_work}
use Rattle.kernel.specs.Calls.{coefficients_of, form_ok}
use Rattle.kernel.specs.DivisionMeaning.{monic_iff}
use Rattle.kernel.specs.Divisions.{divisor_degree, monic_row, division_number, division}
use Rattle.kernel.specs.Meaning.{InRange, TowerHeld, ones}
use Rattle.kernel.specs.Refusals.{refusal}
use Rattle.kernel.specs.SlotAnswers.{le_iff, lt_iff, Means, said_means, SlotLong, WorkLong, WorkShort, SlotsHeld, SlotsMeans, slots_means, Allowed, slot_held}
use Rattle.kernel.specs.SlotAnswers.{degree-low, slots_held}
use Rattle.kernel.specs.SlotLaws.{held_below, held_low, slot_holds}
use Rattle.kernel.specs.SlotMeaning.{PolynomialOf, slot_of, not_iff, form_iff}
use Rattle.kernel.specs.Slots.{degree_count, quotient_room, coefficients_in, top_ring}

-- ---- the divisor
-- 1 at some place, and 0 above it
pub record Monic (R : CRing) (f : Series R) : Type 0 where
  pub degree : ℕ
  pub lead : f degree ≡ R.𝟙
  pub below : Below R.𝟘 (suc degree) f

-- b holds such a one, over the ring of the tower
abbrev pub MonicIn : (p n : ℤ) (e t b : List ℤ) → T (p_ok p) → Type 0
MonicIn p n e t b h = Monic (top_ring p n e t h) (coefficients_in p n e h b)

module _ (p n : ℤ) (e t b : List ℤ) (r : InRange p n e) (f : T (form_ok p n e b)) where
  abbrev h : T (p_ok p)
  h = r.modulus

  pub monic-count : (m : MonicIn p n e t b h) → degree_count b ≡ suc m.degree
  monic-count m = which (le_or_lt (degree_count b) m.degree)
    where
      which : (degree_count b ≤ m.degree) ⊎ (m.degree < degree_count b) → degree_count b ≡ suc m.degree
      which (inl q) = absurd (one_not_zero (num p) (p_positive p h) (degrees_of e) (num n) _ (ones p n e r) (sym m.lead ∙ held_below p n e h b f m.degree q))
      which (inr q) = omega (arith, held_low p n e h b f (suc m.degree) m.below)

  pub monic-held : T ((monic_row n e b).1 tt) ↔ MonicIn p n e t b h
  monic-held = (
    λ x. (let y = (monic_iff p n e t b r f).0 x in
        record { degree = divisor_degree b; lead = y.1; below = λ j l. held_below p n e h b f j (omega (arith, y.0)) }),
    λ m. (let c = monic-count m in
        let d : divisor_degree b ≡ m.degree = omega (arith, c) in
        (monic_iff p n e t b r f).1 (omega (arith, c), ap (coefficients_in p n e h b) d ∙ m.lead)),
  )

-- the slots are a, b and q, and the quotient goes to q; 7: "work store shorter than needed"; 8: "divisor not monic, or zero", a zero divisor being one that is not monic
abbrev pub DivisionMeans : (p n : ℤ) (e t a b q v : List ℤ) → ℕ → Type 0
DivisionMeans p n e t a b q v =
    SlotsMeans p n e t a b (b ∷ q ∷ []) q (quotient_room (degree_count a) (degree_count b))
    (λ h. WorkLong n e v × MonicIn p n e t b h)
    (λ _. WorkShort n e v)
    (λ h. WorkLong n e v × (¬ MonicIn p n e t b h))

module _ (p n : ℤ) (e t a b q v : List ℤ) where
  abbrev room : ℕ
  room = quotient_room (degree_count a) (degree_count b)

  abbrev needed : ℕ
  needed = product_work (degrees_of e) (num n)

  abbrev test : Bool
  test = (monic_row n e b).1 tt

  monic-test : (g : SlotsHeld p n e t a b (b ∷ q ∷ []) q room) → T test ↔ MonicIn p n e t b g.tower.range.modulus
  monic-test g = monic-held p n e t b g.tower.range ((form_iff p n e g.tower.range.modulus b).1 g.held_b)

  division_means : Means (division_number p n e t a b q v) (DivisionMeans p n e t a b q v)
  unfolding division_number
  division_means =
      let work = le_iff needed (length v) in
      slots_means p n e t a b (b ∷ q ∷ []) q _ _ _ _ (leb room (coefficients_of n e q)) (leb needed (length v)) test (record {
        room_told = le_iff room (coefficients_of n e q);
        all_told = λ g. (λ x. (work.0 x.0, (monic-test g).0 x.1), λ x. (work.1 x.0, (monic-test g).1 x.1));
        work_told = λ g. lt_iff needed (length v);
        monic_told = λ g. (let no = not_iff test (monic-test g) in (λ x. (work.0 x.0, no.0 x.1), λ x. (work.1 x.0, no.1 x.1)));
      })

  pub division-says : (j : ℕ) → division_number p n e t a b q v ≡ j → DivisionMeans p n e t a b q v j
  division-says j h = subst (DivisionMeans p n e t a b q v) h division_means.says

  pub division_given : (j : ℕ) → DivisionMeans p n e t a b q v j → division_number p n e t a b q v ≡ j
  division_given = division_means.only

  pub division-answers : (j : ℕ) → ((division p n e t a b q v).said ≡ refusal j) ↔ DivisionMeans p n e t a b q v j
  division-answers = said_means _ _ division_means

-- over a tower, polynomials u and w of k and l coefficients, and any words q and v
module _ (p n : ℤ) (e t : List ℤ) (τ : TowerHeld p n e t) (k l : ℕ) (k-in : Allowed n e k) (l-in : Allowed n e l) (u : PolynomialOf p n e k) (w : PolynomialOf p n e l)
    (q v : List ℤ) (q-in : SlotLong n e q) (work : WorkLong n e v) where
  abbrev R : CRing
  R = top_ring p n e t τ.range.modulus

  pub division-passes : (i : ℕ) → Below R.𝟘 i (coef R.𝟘 k u) → (m : Monic R (coef R.𝟘 l w)) → quotient_room i (suc m.degree) ≤ coefficients_of n e q
      → division_number p n e t (slot_of p n e k u) (slot_of p n e l w) q v ≡ 0
  division-passes i low m enough =
      let h = τ.range.modulus in
      let a = slot_of p n e k u in
      let b = slot_of p n e l w in
      let holds = slot_holds p n e h l w in
      let monic : MonicIn p n e t b h = record { degree = m.degree; lead = holds m.degree ∙ m.lead; below = λ j g. holds j ∙ m.below j g } in
      let form = (form_iff p n e h b).1 (slot_held p n e t τ l l-in w).held in
      let few : quotient_room (degree_count a) (degree_count b) ≤ coefficients_of n e q =
      omega (arith, enough, monic-count p n e t b τ.range form monic, degree-low p n e t τ k k-in u i low) in
      division_given p n e t a b q v 0 (record { slots = slots_held p n e t τ k l k-in l-in u w q _ few (b ∷ q ∷ []) (λ x y. (x, (y, q-in))); more = (work, monic) })

-- What the numbers 0 to 7 say of a GCD, and that number 11 is never given.
--
-- Lent, LentLong == a slot or an element that is lent, and that its length is allowed
-- GcdMeans       == for each number what it says; a number that is not used says ⊥
-- gcd-says       == a number that is given comes under its condition;  gcd_given == and under its condition it is given
-- gcd_sequence   == what is given where no number applies: the sequence's answer;  gcd_ends, gcd_unrefused == which is not number 11
-- gcd_never_long == number 11 is never given;  gcd-answers == what the call refuses tells the number
-- gcd-passes     == over a tower, every two polynomials in slots of allowed lengths get no number if there is room and work store enough
use Rattle.std.specs.Prelude.{ℕ, suc, ◌*◌, ◌<◌, ◌≤◌, ◌≡◌, refl, Bool, ◌↔◌, ℤ, T, leb, length}
use Rattle.std.proofs.Common.{mul-le-mul_right, arith, sym, ap, ◌∙◌, subst}
use Rattle.std.proofs.Math.Bool.{true}
use mathlib.Core.List.{List, [], ◌∷◌}
use Rattle.algebra.specs.Test.{branch_yes}
use Rattle.algebra.specs.Vec.{Below, coef}
use Rattle.residue.specs.Word.{num}
use Rattle.tower.specs.Limits.{p_ok, p_positive, degrees_of}
use Rattle.tower.specs.Work.{gcd_work}
use Rattle.tower.specs.Writing.{size}
use Rattle.euclid.specs.Answer.{Answer, long}
use Rattle.euclid.proofs.Demand.{gcd_never_long as sequence-never-long}
use Rattle.euclid.specs.Gcd.{Made, nothing, gcd as gcd-of}
use Rattle.euclid.specs.Towers.{Shown, shown_level}
use Rattle.euclid.proofs.Towers.{good}
use Rattle.kernel.specs.Answered.{tower_in, level_of}
use Rattle.kernel.specs.Calls.{coefficients_of, length_ok}
use Rattle.kernel.specs.Gcds.{gcd_room, gcd_needed, gcd_number, gcd_by, gcd_words, gcd}
use Rattle.kernel.specs.InverseAnswers.{ElementOf, zero_of, ElementLong, element_iff}
use Rattle.kernel.specs.Inverses.{element_length}
use Rattle.kernel.specs.Meaning.{TowerHeld}
use Rattle.kernel.specs.Refusals.{done, refused, too_long}
use Rattle.kernel.specs.SequenceLaws.{ByAnswer, said_never, answered-new, refused_means}
use Rattle.kernel.specs.SlotAnswers.{Means, Each, OneOf, each, each_iff, not_each, le_iff, lt_iff, SlotLong, LentMeans, lent_means, Allowed, slot_held, degree-low}
use Rattle.kernel.specs.SlotMeaning.{PolynomialOf, slot_of, not_iff, length_iff}
use Rattle.kernel.specs.Slots.{degree_count, polynomial_of}

-- ---- "a slot, element or factor buffer of a length not allowed (element and factor buffer: exactly S_N)"
pub data Lent : Type 0 where
  slot : List ℤ → Lent
  element : List ℤ → Lent

abbrev pub LentLong : ℤ → List ℤ → Lent → Type 0
LentLong n e (slot x) = SlotLong n e x
LentLong n e (element x) = ElementLong n e x

abbrev lent_ok : ℤ → List ℤ → Lent → Bool
lent_ok n e (slot x) = length_ok n e x
lent_ok n e (element x) = element_length n e x

lent_iff : (n : ℤ) (e : List ℤ) (x : Lent) → T (lent_ok n e x) ↔ LentLong n e x
lent_iff n e (slot x) = length_iff n e x
lent_iff n e (element x) = element_iff n e x

module _ (p n : ℤ) (e t a b g f v : List ℤ) where
  -- the slots a, b and g and the factor buffer have allowed lengths, or one has not
  abbrev pub LengthsIn : Type 0
  LengthsIn = Each (LentLong n e) (slot a) (slot b ∷ slot g ∷ element f ∷ [])

  abbrev pub OneLengthOut : Type 0
  OneLengthOut = OneOf (λ x. ¬ LentLong n e x) (slot a) (slot b ∷ slot g ∷ element f ∷ [])

  -- the answer goes to g; 7: "work store shorter than needed"
  abbrev pub GcdMeans : ℕ → Type 0
  GcdMeans =
      LentMeans p n e t a b LengthsIn OneLengthOut g (gcd_room (degree_count a) (degree_count b))
      (λ _. gcd_needed n e a b ≤ length v)
      (λ _. length v < gcd_needed n e a b)
      (λ _. ⊥)

  gcd_means : Means (gcd_number p n e t a b g f v) GcdMeans
  unfolding gcd_number
  gcd_means =
      let room = gcd_room (degree_count a) (degree_count b) in
      let needed = gcd_needed n e a b in
      let others = slot b ∷ slot g ∷ element f ∷ [] in
      lent_means p n e t a b LengthsIn OneLengthOut g room _ _ _ (leb room (coefficients_of n e g)) (leb needed (length v)) true (each (lent_ok n e) (slot a) others)
      (each_iff (lent_ok n e) (LentLong n e) (lent_iff n e) (slot a) others)
      (not_each (lent_ok n e) (λ x. ¬ LentLong n e x) (λ x. not_iff (lent_ok n e x) (lent_iff n e x)) (slot a) others) (record {
        room_told = le_iff room (coefficients_of n e g);
        all_told = λ h. (λ x. (le_iff needed (length v)).0 x.0, λ l. ((le_iff needed (length v)).1 l, tt));
        work_told = λ h. lt_iff needed (length v);
        monic_told = λ h. (λ x. x.1, λ x. absurd x);
      })

  pub gcd-says : (j : ℕ) → gcd_number p n e t a b g f v ≡ j → GcdMeans j
  gcd-says j h = subst GcdMeans h gcd_means.says

  pub gcd_given : (j : ℕ) → GcdMeans j → gcd_number p n e t a b g f v ≡ j
  gcd_given = gcd_means.only

  -- ---- where no number applies, the sequence's answer
  abbrev pub gcd_answer : T (p_ok p) → Answer (Shown (num p) (degrees_of e) (num n)) (Made (ElementOf p n e) (Unit {0}))
  gcd_answer m =
      gcd-of (level_of p n e t m) (coefficients_of n e a) (polynomial_of p n e m (coefficients_of n e a) a)
      (coefficients_of n e b) (polynomial_of p n e m (coefficients_of n e b) b)

  pub gcd-words : (m : T (p_ok p)) → gcd_words p n e t a b g f v ≡ gcd_by p n e t a b g f v m (gcd_answer m)
  unfolding gcd_words
  gcd-words m = branch_yes (p_ok p) (λ m. gcd_by p n e t a b g f v m (gcd_answer m)) (λ _. record { said = done; words = record { gcd = g; factor = f; work = v } }) m

  pub gcd_sequence : gcd_number p n e t a b g f v ≡ 0 → (m : T (p_ok p)) → gcd p n e t a b g f v ≡ gcd_by p n e t a b g f v m (gcd_answer m)
  gcd_sequence z m = answered-new _ _ (gcd_number p n e t a b g f v) z ∙ gcd-words m

  pub gcd_ends : (m : T (p_ok p)) → ¬ (gcd_answer m ≡ long)
  gcd_ends m =
      sequence-never-long (level_of p n e t m) (good (num p) (p_positive p m) (degrees_of e) (num n) (tower_in p n e t m)) (coefficients_of n e a) _ (coefficients_of n e b) _
      (nothing (ElementOf p n e)) tt tt

  pub gcd-by : (m : T (p_ok p)) → ByAnswer (gcd_by p n e t a b g f v m) (shown_level (num p) (degrees_of e) (num n))
  gcd-by m = record { on_done = λ u. refl; on_shown = λ x. refl }

  -- the sequence refuses nothing
  pub gcd_unrefused : gcd_number p n e t a b g f v ≡ 0 → (j : ℕ) → ¬ ((gcd_words p n e t a b g f v).said ≡ refused j)
  gcd_unrefused z j q =
      let m = (gcd-says 0 z).slots.tower.range.modulus in
      said_never _ _ (gcd-by m) (gcd_answer m) (gcd_ends m) j (ap (λ x. x.said) (sym (gcd-words m)) ∙ q)

  -- the same of what the call says: number 11 is no number of the tests
  pub gcd-answers : (j : ℕ) → ((gcd p n e t a b g f v).said ≡ refused (suc j)) ↔ GcdMeans (suc j)
  gcd-answers = refused_means _ _ (gcd_number p n e t a b g f v) gcd_means gcd_unrefused

  pub gcd_never_long : ¬ ((gcd p n e t a b g f v).said ≡ refused too_long)
  gcd_never_long q = (gcd-answers 10).0 q

-- less is needed for lower degrees
work-low : (d : List ℕ) (n i j k l : ℕ) → i ≤ k → j ≤ l → gcd_work d n i j ≤ gcd_work d n k l
unfolding gcd_work
work-low d n i j k l h q =
    let left : i * size d n ≤ k * size d n = mul-le-mul_right (size d n) h in
    let right : j * size d n ≤ l * size d n = mul-le-mul_right (size d n) q in
    omega arith

-- over a tower, polynomials u and w of k and l coefficients, and any words g, f and v
module _ (p n : ℤ) (e t : List ℤ) (τ : TowerHeld p n e t) (k l : ℕ) (k-in : Allowed n e k) (l-in : Allowed n e l) (u : PolynomialOf p n e k) (w : PolynomialOf p n e l)
    (g f v : List ℤ) (g-in : SlotLong n e g) (f-in : ElementLong n e f) where
  abbrev o : ElementOf p n e
  o = zero_of p n e τ.range.modulus

  pub gcd-passes : (i j : ℕ) → Below o i (coef o k u) → Below o j (coef o l w) → gcd_room i j ≤ coefficients_of n e g → gcd_work (degrees_of e) (num n) i j ≤ length v
      → gcd_number p n e t (slot_of p n e k u) (slot_of p n e l w) g f v ≡ 0
  gcd-passes i j low-u low-w room work =
      let a = slot_held p n e t τ k k-in u in
      let b = slot_held p n e t τ l l-in w in
      let low-a = degree-low p n e t τ k k-in u i low-u in
      let low-b = degree-low p n e t τ l l-in w j low-w in
      gcd_given p n e t (slot_of p n e k u) (slot_of p n e l w) g f v 0 (record {
        slots = record { tower = τ; long = (a.room, (b.room, (g-in, f-in))); held_a = a.held; held_b = b.held; room = omega (arith, room, low-a, low-b) };
        more = omega (arith, work, work-low (degrees_of e) (num n) _ _ i j low-a low-b);
      })

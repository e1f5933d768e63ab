-- What the numbers 0 to 7 say of a product.
--
-- ProductMeans    == for each number what it says; a number that is not used says ⊥
-- product-says    == a number that is given comes under its condition;  product_given == and under its condition it is given
-- product-answers == the same of what the call says
-- product-passes  == over a tower, every two polynomials in slots of allowed lengths get no number if there is room and work store enough
use Rattle.std.specs.Prelude.{ℕ, zero, suc, ◌≤◌, ◌≡◌, ◌↔◌, List, [], ◌∷◌, ℤ, leb, length}
use Rattle.std.proofs.Common.{lt_irrefl, arith, subst}
use Rattle.std.proofs.Math.Bool.{true}
use Rattle.algebra.specs.Vec.{Below, coef}
use Rattle.residue.specs.Word.{num}
use Rattle.tower.specs.Levels.{El, group}
use Rattle.tower.specs.Limits.{p_positive, degrees_of}
use Rattle.tower.specs.Work.{product_work}
use Rattle.kernel.specs.Calls.{coefficients_of}
use Rattle.kernel.specs.Meaning.{TowerHeld}
use Rattle.kernel.specs.Products.{product_number, product}
use Rattle.kernel.specs.Refusals.{refusal}
use Rattle.kernel.specs.SlotAnswers.{le_iff, lt_iff, Means, said_means, SlotLong, WorkLong, WorkShort, SlotsMeans, slots_means, Allowed, degree-low, slots_held}
use Rattle.kernel.specs.SlotMeaning.{PolynomialOf, slot_of}
use Rattle.kernel.specs.Slots.{degree_count, product_room}

-- the slots are a, b and c, and the answer goes to c; 7: "work store shorter than needed"
abbrev pub ProductMeans : (p n : ℤ) (e t a b c v : List ℤ) → ℕ → Type 0
ProductMeans p n e t a b c v =
    SlotsMeans p n e t a b (b ∷ c ∷ []) c (product_room (degree_count a) (degree_count b)) (λ _. WorkLong n e v) (λ _. WorkShort n e v) (λ _. ⊥)

module _ (p n : ℤ) (e t a b c v : List ℤ) where
  product_means : Means (product_number p n e t a b c v) (ProductMeans p n e t a b c v)
  unfolding product_number
  product_means =
      let room = product_room (degree_count a) (degree_count b) in
      let needed = product_work (degrees_of e) (num n) in
      slots_means p n e t a b (b ∷ c ∷ []) c _ _ _ _ (leb room (coefficients_of n e c)) (leb needed (length v)) true (record {
        room_told = le_iff room (coefficients_of n e c);
        all_told = λ h. (λ x. (le_iff needed (length v)).0 x.0, λ l. ((le_iff needed (length v)).1 l, tt));
        work_told = λ h. lt_iff needed (length v);
        monic_told = λ h. (λ x. x.1, λ x. absurd x);
      })

  pub product-says : (j : ℕ) → product_number p n e t a b c v ≡ j → ProductMeans p n e t a b c v j
  product-says j h = subst (ProductMeans p n e t a b c v) h product_means.says

  pub product_given : (j : ℕ) → ProductMeans p n e t a b c v j → product_number p n e t a b c v ≡ j
  product_given = product_means.only

  pub product-answers : (j : ℕ) → ((product p n e t a b c v).said ≡ refusal j) ↔ ProductMeans p n e t a b c v j
  product-answers = said_means _ _ product_means

-- less is needed for lower degrees
room-low : (i j k l : ℕ) → i ≤ k → j ≤ l → product_room i j ≤ product_room k l
room-low zero j zero l h q = omega arith
room-low zero j (suc k) zero h q = omega arith
room-low zero j (suc k) (suc l) h q = omega arith
room-low (suc i) j zero l h q = absurd (lt_irrefl 0 (omega arith))
room-low (suc i) zero (suc k) zero h q = omega arith
room-low (suc i) zero (suc k) (suc l) h q = omega arith
room-low (suc i) (suc j) (suc k) zero h q = absurd (lt_irrefl 0 (omega arith))
room-low (suc i) (suc j) (suc k) (suc l) h q = omega arith

-- over a tower, polynomials u and w of k and l coefficients, and any words c and v
module _ (p n : ℤ) (e t : List ℤ) (τ : TowerHeld p n e t) (k l : ℕ) (k-in : Allowed n e k) (l-in : Allowed n e l) (u : PolynomialOf p n e k) (w : PolynomialOf p n e l)
    (c v : List ℤ) (c-in : SlotLong n e c) (work : WorkLong n e v) where
  abbrev o : El (num p) (degrees_of e) (num n)
  o = (group (num p) (p_positive p τ.range.modulus) (degrees_of e) (num n)).𝟘

  pub product-passes : (i j : ℕ) → Below o i (coef o k u) → Below o j (coef o l w) → product_room i j ≤ coefficients_of n e c
      → product_number p n e t (slot_of p n e k u) (slot_of p n e l w) c v ≡ 0
  product-passes i j low-u low-w room =
      let a = slot_of p n e k u in
      let b = slot_of p n e l w in
      let few : product_room (degree_count a) (degree_count b) ≤ coefficients_of n e c =
      omega (arith, room, room-low _ _ i j (degree-low p n e t τ k k-in u i low-u) (degree-low p n e t τ l l-in w j low-w)) in
      product_given p n e t a b c v 0 (record { slots = slots_held p n e t τ k l k-in l-in u w c _ few (b ∷ c ∷ []) (λ x y. (x, (y, c-in))); more = work })

-- What a division leaves where no number is given: the quotient and the remainder, whole, in the slots q and a, and a work store that is cleared as far as it was
-- needed. A and B are the coefficients that a and b held; Q and R those that q and a hold afterwards.
--
-- top-lead       == the leading coefficient of what is not zero stands at its degree
-- monic_iff      == number 8 is kept away precisely where b is not zero and its leading coefficient is 1
-- division_blind == "Contents of answer slots .. and work store are not tested.";  division_numbers == no number above 8 is given
-- division-tower == where no number is given t is the words of exactly one tower, and p is in range;  division-ring == its topmost ring is
--                                    computed in
-- remainder-words, quotient-words == a's slot afterwards is filled with the remainder, q's with the quotient;  .. _written == the whole of each, in form
-- divisor_below, divisor_monic    == B has the degree divisor_degree b, and there the coefficient 1
-- division_meaning                == A = Q · B + R
-- remainder_below                 == R is zero from the degree of B on
-- only_quotient, only_remainder   == no other polynomials are so
-- division-work                   == the work store afterwards
-- DivisionSame                    == what two runs share whose q and work stores have the same lengths;  division-two_runs == that they do
use Rattle.std.specs.Prelude.{ℕ, zero, suc, ◌+◌, ◌-◌, ◌*◌, ◌≤◌, ◌<◌, ◌≡◌, refl, List, [], ◌∷◌, ◌⊎◌, ◌↔◌, ℤ, pos, T, leb, length, get_or}
use Rattle.std.proofs.Common.{lt_irrefl, arith, sym, ap, ◌∙◌, inl, inr, leb→le, le→leb}
use Rattle.std.proofs.Math.Path.{fun_ext}
use Rattle.algebra.specs.Divide.{unique_quotient, unique_remainder}
use Rattle.algebra.proofs.Divide.{divided, quotient_below, remainder_small}
use Rattle.algebra.specs.Poly.{crown}
use Rattle.algebra.specs.Ring.{CRing}
use Rattle.algebra.specs.Series.{Series, SeriesRing}
use Rattle.algebra.specs.Test.{branch_yes, both, both_l, both_r, le_or_lt}
use Rattle.algebra.specs.Vec.{Vec, Below, coef, trunc, topped, below_mono, coef_below, coef-trunc}
use Rattle.residue.specs.Word.{num}
use Rattle.tower.specs.Form.{seg, one_words}
use Rattle.tower.specs.Levels.{ring}
use Rattle.tower.specs.Limits.{p_ok, p_positive, degrees_of}
use Rattle.tower.specs.Lists.{same_sound, same_eq}
use Rattle.tower.specs.Work.{product_work}
use Rattle.kernel.specs.Calls.{size_of, coefficients_of, form_ok}
use Rattle.kernel.specs.Meaning.{InRange, TowerHeld}
use Rattle.kernel.specs.Refusals.{done, refusal, passed_of, ordered_numbered, first-up_to}
use Rattle.kernel.specs.SlotLaws.{Tested, tested, ring-held, Written, held_below, held_few, held_one, slot_written, filled_holds, Cleared, cleared-words}
use Rattle.kernel.specs.SlotLaws.{changed_said, changed_zero, changed_same, filled-same}
use Rattle.kernel.specs.Slots.{quotient_room, degree_count, polynomial_of, coefficients_in, filled, top_ring, Changed}
use Rattle.kernel.specs.Divisions.{divisor_degree, monic_row, division_table, division_number, divisor_of, remainder_of, quotient_of}
use Rattle.kernel.specs.Divisions.{remainder_words, quotient_words, DivisionWords, division}
use Rattle.kernel.specs.Views.{top_start, top_count, top_words}

-- the first d coefficients of f and the next above them
topped-trunc : {A : Type 0} (d : ℕ) (f : ℕ → A) → topped d (trunc d f) (f d) ≡ trunc (suc d) f
topped-trunc zero f = refl
topped-trunc (suc d) f = λ i. (f zero, topped-trunc d (λ n. f (suc n)) i)

-- a polynomial of degree d whose coefficient there is 1
crown-is : (R : CRing) (d : ℕ) (f : Series R) → f d ≡ R.𝟙 → Below R.𝟘 (suc d) f → crown R d (trunc d f) ≡ f
crown-is R d f e b =
    ap (λ c. coef R.𝟘 (suc d) (topped d (trunc d f) c)) (sym e) ∙ ap (coef R.𝟘 (suc d)) (topped-trunc d f) ∙ fun_ext (coef-trunc R.𝟘 (suc d) f b)

-- the leading coefficient of what is not zero stands at its degree
pub top-lead : (s : ℕ) (b : List ℤ) → 1 ≤ degree_count b → top_words s b ≡ seg (suc (divisor_degree b * s)) s b
top-lead s b some = at (degree_count b) some
  where
    at : (k : ℕ) → 1 ≤ k → seg (top_start s k) (top_count s k) b ≡ seg (suc ((k - 1) * s)) s b
    at zero l = absurd (lt_irrefl 0 l)
    at (suc k) l = let q : k ≡ suc k - 1 = omega arith in ap (λ m. seg (suc (m * s)) s b) q

-- number 8: over a tower, of a slot in form
pub monic_iff : (p n : ℤ) (e t b : List ℤ) (r : InRange p n e) (f : T (form_ok p n e b))
    → T ((monic_row n e b).1 tt) ↔ ((1 ≤ degree_count b) × (coefficients_in p n e r.modulus b (divisor_degree b) ≡ (top_ring p n e t r.modulus).𝟙))
monic_iff p n e t b r f = (
  λ h. (let some = leb→le 1 (degree_count b) (both_l (leb 1 (degree_count b)) _ h) in
      (some, (one some).0 (same_sound (top_words (size_of n e) b) (one_words (degrees_of e) (num n)) (both_r (leb 1 (degree_count b)) _ h)))),
  λ h. both (leb 1 (degree_count b)) _ (le→leb 1 (degree_count b) h.0) (same_eq ((one h.0).1 h.1)),
)
  where
    one : 1 ≤ degree_count b
        → (top_words (size_of n e) b ≡ one_words (degrees_of e) (num n)) ↔ (coefficients_in p n e r.modulus b (divisor_degree b) ≡ (top_ring p n e t r.modulus).𝟙)
    one some = rw (top-lead (size_of n e) b some) (held_one p n e t b r f (divisor_degree b) (omega (arith, held_few p n e r.modulus b f)))

-- the number looks at the lengths of q and v only
pub division_blind : (p n : ℤ) (e t a b q q' v v' : List ℤ) → length q ≡ length q' → length v ≡ length v'
    → division_number p n e t a b q v ≡ division_number p n e t a b q' v'
unfolding division_number
division_blind p n e t a b q q' v v' h k = rw (h, k)

-- no number above 8 is given
pub division_numbers : (p n : ℤ) (e t a b q v : List ℤ) → division_number p n e t a b q v ≤ 8
unfolding division_number
division_numbers p n e t a b q v = first-up_to 8 (division_table p n e t a b q v) tt

module _ (p n : ℤ) (e t a b q v : List ℤ) (h : division_number p n e t a b q v ≡ 0) where
  tests : Tested p n e t a b q v (quotient_room (degree_count a) (degree_count b)) (monic_row n e b ∷ [])
  unfolding division_number
  tests =
      tested p n e t a b q v _ (monic_row n e b ∷ [])
      (passed_of (division_table p n e t a b q v) (ordered_numbered 1 (division_table p n e t a b q v) (omega arith) tt) h)

  -- t is the words of exactly one tower, and p is in range
  pub division-tower : TowerHeld p n e t
  division-tower = tests.tower

  abbrev pub division_modulus : T (p_ok p)
  division_modulus = division-tower.range.modulus

  -- R_N
  abbrev pub division_ring : CRing
  division_ring = top_ring p n e t division_modulus

  pub division-ring : division_ring ≡ ring (num p) (p_positive p division_modulus) (degrees_of e) (num n) division-tower.held.this
  division-ring = ring-held p n e t division-tower

  open division_ring use {Car, 𝟘, 𝟙}
  open SeriesRing division_ring use {◌⊕◌ as ◌+ˢ◌, ◌⊗◌ as ◌*ˢ◌}

  infixl 65 ◌+ˢ◌
  infixl 70 ◌*ˢ◌
  -- what a and b held
  abbrev pub A : Series division_ring
  A = coefficients_in p n e division_modulus a

  abbrev pub B : Series division_ring
  B = coefficients_in p n e division_modulus b

  -- what q and a hold afterwards
  abbrev pub Q : Series division_ring
  Q = coefficients_in p n e division_modulus (division p n e t a b q v).words.quotient

  abbrev pub R : Series division_ring
  R = coefficients_in p n e division_modulus (division p n e t a b q v).words.remainder

  -- the words of the two slots
  pub remainder-words : (division p n e t a b q v).words.remainder ≡ filled p n e a (remainder_of p n e t a b division_modulus)
  unfolding remainder_words
  remainder-words = rw h (branch_yes (p_ok p) (λ m. filled p n e a (remainder_of p n e t a b m)) (λ _. a) division_modulus)

  pub quotient-words : (division p n e t a b q v).words.quotient ≡ filled p n e q (quotient_of p n e t a b division_modulus)
  unfolding quotient_words
  quotient-words = rw h (branch_yes (p_ok p) (λ m. filled p n e q (quotient_of p n e t a b m)) (λ _. q) division_modulus)

  pub remainder_written : Written p n e a (division p n e t a b q v).words.remainder
  remainder_written = rw remainder-words (slot_written p n e division_modulus a _ tests.long_a)

  pub quotient_written : Written p n e q (division p n e t a b q v).words.quotient
  quotient_written = rw quotient-words (slot_written p n e division_modulus q _ tests.long_c)

  -- ---- the divisor
  not_zero : 1 ≤ degree_count b
  not_zero = ((monic_iff p n e t b division-tower.range tests.form_b).0 tests.rest.0).0

  pub divisor_below : Below 𝟘 (suc (divisor_degree b)) B
  divisor_below j l = held_below p n e division_modulus b tests.form_b j (omega (arith, not_zero))

  pub divisor_monic : B (divisor_degree b) ≡ 𝟙
  divisor_monic = ((monic_iff p n e t b division-tower.range tests.form_b).0 tests.rest.0).1

  -- its degree and its coefficients under the leading 1; the dividend's coefficients
  abbrev g : ℕ
  g = divisor_degree b

  abbrev w : Vec Car g
  w = divisor_of p n e b division_modulus

  abbrev k : ℕ
  k = coefficients_of n e a

  abbrev u : Vec Car k
  u = polynomial_of p n e division_modulus k a

  divisor_is : crown division_ring g w ≡ B
  divisor_is = crown-is division_ring g B divisor_monic divisor_below

  -- ---- nothing is lost: the quotient fits its room, and the remainder the slot that held the dividend
  quotient_fits : Below 𝟘 (coefficients_of n e q) (quotient_of p n e t a b division_modulus)
  quotient_fits =
      below_mono 𝟘 _ tests.room
      (quotient_below division_ring g w (quotient_room (degree_count a) (degree_count b)) k u
      (λ j l. held_below p n e division_modulus a tests.form_a j (omega (arith, not_zero))))

  remainder_fits : Below 𝟘 k (remainder_of p n e t a b division_modulus)
  remainder_fits j l = which (le_or_lt g k)
    where
      which : (g ≤ k) ⊎ (k < g) → remainder_of p n e t a b division_modulus j ≡ 𝟘
      which (inl s) = coef_below 𝟘 g _ j (omega arith)
      which (inr s) = remainder_small division_ring g w k u (below_mono 𝟘 _ (omega arith) (coef_below 𝟘 k u)) j ∙ coef_below 𝟘 k u j l

  Q-is : Q ≡ quotient_of p n e t a b division_modulus
  Q-is = fun_ext (λ j. ap (λ x. coefficients_in p n e division_modulus x j) quotient-words ∙ filled_holds p n e division_modulus q _ quotient_fits j)

  R-is : R ≡ remainder_of p n e t a b division_modulus
  R-is = fun_ext (λ j. ap (λ x. coefficients_in p n e division_modulus x j) remainder-words ∙ filled_holds p n e division_modulus a _ remainder_fits j)

  -- ---- so the two slots hold the quotient and the remainder
  pub division_meaning : A ≡ Q *ˢ B +ˢ R
  division_meaning = divided division_ring g w k u ∙ λ i. sym Q-is i *ˢ divisor_is i +ˢ sym R-is i

  pub remainder_below : Below 𝟘 (divisor_degree b) R
  remainder_below j l = ap (λ f. f j) R-is ∙ coef_below 𝟘 g _ j l

  -- and no other polynomials, the second below the degree of B, make A so
  module _ (m : ℕ) (Q' R' : Series division_ring) (low : Below 𝟘 m Q') (rest : Below 𝟘 (divisor_degree b) R') (eq : A ≡ Q' *ˢ B +ˢ R') where
    low' : Below 𝟘 (m + k) Q'
    low' = below_mono 𝟘 Q' (omega arith) low

    quotient-low : Below 𝟘 (m + k) Q
    quotient-low j l = ap (λ f. f j) Q-is ∙ coef_below 𝟘 k _ j (omega arith)

    both_are : Q' *ˢ crown division_ring g w +ˢ R' ≡ Q *ˢ crown division_ring g w +ˢ R
    both_are = rw divisor_is (sym eq ∙ division_meaning)

    pub only_quotient : Q' ≡ Q
    only_quotient = unique_quotient division_ring g w (m + k) Q' Q R' R low' quotient-low rest remainder_below both_are

    pub only_remainder : R' ≡ R
    only_remainder = unique_remainder division_ring g w (m + k) Q' Q R' R low' quotient-low rest remainder_below both_are

  pub division-work : Cleared (product_work (degrees_of e) (num n)) v (division p n e t a b q v).words.work
  division-work = rw h (cleared-words (product_work (degrees_of e) (num n)) v tests.work)

-- ---- "The entry contents of the work store change no answer and no other word."; nor do those of q: two runs, with q and q', v and v' of the same lengths
module _ (p n : ℤ) (e t a b q q' v v' : List ℤ) where
  abbrev pub run : Changed DivisionWords
  run = division p n e t a b q v

  abbrev pub run' : Changed DivisionWords
  run' = division p n e t a b q' v'

  pub record DivisionSame : Type 0 where
    -- the answer
    pub answer : run.said ≡ run'.said
    -- the words of a's slot, with a number too
    pub remainder : run.words.remainder ≡ run'.words.remainder
    -- the words of the quotient's slot after Done, whatever q and q' were
    pub quotient : run.said ≡ done → run.words.quotient ≡ run'.words.quotient
    -- and where q and q' were the same, with a number too
    pub kept : q ≡ q' → run.words.quotient ≡ run'.words.quotient
    -- the work words that are needed, after Done
    pub work : run.said ≡ done → (k : ℕ) → k < product_work (degrees_of e) (num n) → get_or run.words.work k (pos 0) ≡ get_or run'.words.work k (pos 0)

  pub division-two_runs : length q ≡ length q' → length v ≡ length v' → DivisionSame
  division-two_runs h l = record {
    answer = changed_said (division_number p n e t a b q v) _ _ ∙ ap refusal number ∙ sym (changed_said (division_number p n e t a b q' v') _ _);
    remainder = changed_same (λ (w : DivisionWords). w.remainder) _ _ _ _ _ _ number refl refl;
    quotient = λ d.
        quotient-words p n e t a b q v (zero_of d)
        ∙ filled-same p n e q q' (quotient_of p n e t a b) _ _ h
        ∙ sym (quotient-words p n e t a b q' v' (sym number ∙ zero_of d));
    kept = λ x. changed_same (λ (w : DivisionWords). w.quotient) _ _ _ _ _ _ number (ap (quotient_words p n e t a b) x) x;
    work = λ d i g. (division-work p n e t a b q v (zero_of d)).below i g ∙ sym ((division-work p n e t a b q' v' (sym number ∙ zero_of d)).below i g);
  }
    where
      number : division_number p n e t a b q v ≡ division_number p n e t a b q' v'
      number = division_blind p n e t a b q q' v v' h l

      zero_of : run.said ≡ done → division_number p n e t a b q v ≡ 0
      zero_of = changed_zero (division_number p n e t a b q v) _ _

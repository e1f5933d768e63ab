-- What the numbers 0 to 5 say of a slot: no number exactly where there is none for the tower, the length is allowed and the words are those of exactly one
-- polynomial; each other number exactly where it is the first whose condition holds.
--
-- PolynomialOf, slot_of == the polynomials of k coefficients over the topmost level, and their words
-- Room s l              == l words are a slot of 1 to 256 coefficients of s words;  room_iff == it is what the test of a length says
-- room-count            == the coefficients are as many as slot_count says
-- length_iff            == the test of a slot's length;  form_iff, none_iff == the test of its form, passed and not passed;  not_iff == any
--                         test not passed;  none_of == any test of form not passed
-- SlotMeans    == for each number what it says; a number that is not used says ⊥
-- slot-says    == a number that is given comes under its condition;  slot_given == and under its condition it is given
-- slot-answers == the same of what the call says
-- slot-passes  == over a tower every polynomial in a slot of an allowed length gets no number;  slot_numbers == no number above 5 is given
use Prim.Native.Nat.{ℕ, zero, suc, ◌+◌, ◌-◌, ◌*◌, ◌/◌, ◌%◌, ◌<◌, ◌≤◌}
use Rattle.std.specs.Prelude.{◌≡◌, refl, Bool, not, ◌↔◌, List, [], ◌∷◌, ℤ, T, leb, eqb, length}
use Rattle.std.proofs.Common.{sym, ap, ◌∙◌, inr, mul-div_cancel, div-add-mod', arith, T_not, leb→le, le→leb, eqb→eq}
use Rattle.std.proofs.Math.Path.{subst}
use Rattle.std.proofs.Math.Logic.{inl}
use Rattle.std.proofs.Math.Nat.{mul-mod_left}
use Rattle.std.proofs.Math.Dec.{not_T}
use Rattle.algebra.specs.Test.{branch, both, both_l, both_r}
use Rattle.algebra.specs.Vec.{Vec}
use Rattle.residue.specs.Word.{num}
use Rattle.tower.specs.Levels.{El}
use Rattle.tower.specs.Writing.{size-pos, slot, slot_long}
use Rattle.tower.specs.Form.{slot_form}
use Rattle.tower.specs.Limits.{p_ok, p_positive, degrees_of, slot_length, slot_count}
use Rattle.tower.specs.Unique.{Exactly, slot_iff, slot-form}
use Rattle.kernel.specs.Refusals.{Table, first, refusal, refusal_inj, and_then, first_of, first-is, first-up_to}
use Rattle.kernel.specs.Calls.{size_of, coefficients_of, length_ok, form_ok, length_row, form_row, tower_number, slot_table, slot_number, check_slot}
use Rattle.kernel.specs.Meaning.{TowerHeld, TowerMeans, tower-says, tower_behind, then_says, then_given}

-- the polynomials of k coefficients over the topmost level, and their words
abbrev pub PolynomialOf : ℤ → ℤ → List ℤ → ℕ → Type 0
PolynomialOf p n e k = Vec (El (num p) (degrees_of e) (num n)) k

abbrev pub slot_of : (p n : ℤ) (e : List ℤ) (k : ℕ) → PolynomialOf p n e k → List ℤ
slot_of p n e k = slot (num p) (degrees_of e) (num n) k

-- ---- a slot's length: "1 + k·S_N words, k from 1 to 256, at most 65,536 words"
pub record Room (s l : ℕ) : Type 0 where
  pub count : ℕ
  pub some : 1 ≤ count
  pub few : count ≤ 256
  pub long : l ≡ 1 + count * s
  pub short : l ≤ 65536

-- the coefficients are counted by the words
pub room-count : (s l : ℕ) → 0 < s → (r : Room s l) → slot_count s l ≡ r.count
room-count s l h r =
    let e : l - 1 ≡ r.count * s = omega (arith, r.long) in
    ap (λ m. m / s) e ∙ mul-div_cancel r.count h

length-room : (s l : ℕ) → T (slot_length s l) → Room s l
unfolding slot_length
length-room s l t =
    let a = both_r (leb 1 l) _ t in
    let b = both_r (eqb ((l - 1) % s) 0) _ a in
    let c = both_r (leb 1 (slot_count s l)) _ b in
    let one = leb→le 1 l (both_l (leb 1 l) _ t) in
    let m = eqb→eq ((l - 1) % s) 0 (both_l (eqb ((l - 1) % s) 0) _ a) in
    record {
      count = slot_count s l;
      some = leb→le 1 (slot_count s l) (both_l (leb 1 (slot_count s l)) _ b);
      few = leb→le (slot_count s l) 256 (both_l (leb (slot_count s l) 256) _ c);
      long = omega (arith, div-add-mod' (l - 1) s);
      short = leb→le l 65536 (both_r (leb (slot_count s l) 256) _ c);
    }

room-length : (s l : ℕ) → 0 < s → Room s l → T (slot_length s l)
unfolding slot_length
room-length s l h r =
    let c = room-count s l h r in
    let e : l - 1 ≡ r.count * s = omega (arith, r.long) in
    let m : (l - 1) % s ≡ 0 = ap (λ x. x % s) e ∙ mul-mod_left r.count s in
    both (leb 1 l) _ (le→leb 1 l (omega (arith, r.long)))
    (both (eqb ((l - 1) % s) 0) _ (subst (λ x. T (eqb x 0)) (sym m) tt)
    (both (leb 1 (slot_count s l)) _ (le→leb 1 (slot_count s l) (omega (arith, r.some)))
    (both (leb (slot_count s l) 256) _ (le→leb (slot_count s l) 256 (omega (arith, r.few))) (le→leb l 65536 r.short))))

pub room_iff : (s l : ℕ) → 0 < s → T (slot_length s l) ↔ Room s l
room_iff s l h = (length-room s l, room-length s l h)

-- ---- what each number says of a slot
-- 0: over a tower, a length that is allowed, and the words of exactly one polynomial
pub record SlotHeld (p n : ℤ) (e t a : List ℤ) : Type 0 where
  pub tower : TowerHeld p n e t
  pub room : Room (size_of n e) (length a)
  pub held : Exactly (slot_of p n e (slot_count (size_of n e) (length a))) a

-- 4: over a tower, a length that is not allowed
pub record LengthOut (p n : ℤ) (e t a : List ℤ) : Type 0 where
  pub tower : TowerHeld p n e t
  pub out : ¬ Room (size_of n e) (length a)

-- 5: over a tower, a length that is allowed, and no polynomial has these words
pub record NoPolynomial (p n : ℤ) (e t a : List ℤ) : Type 0 where
  pub tower : TowerHeld p n e t
  pub room : Room (size_of n e) (length a)
  pub none : (v : PolynomialOf p n e (slot_count (size_of n e) (length a))) → ¬ (slot_of p n e (slot_count (size_of n e) (length a)) v ≡ a)

abbrev pub SlotMeans : ℤ → ℤ → List ℤ → List ℤ → List ℤ → ℕ → Type 0
SlotMeans p n e t a zero = SlotHeld p n e t a
SlotMeans p n e t a (suc zero) = TowerMeans p n e t 1
SlotMeans p n e t a (suc (suc zero)) = TowerMeans p n e t 2
SlotMeans p n e t a (suc (suc (suc zero))) = TowerMeans p n e t 3
SlotMeans p n e t a (suc (suc (suc (suc zero)))) = LengthOut p n e t a
SlotMeans p n e t a (suc (suc (suc (suc (suc zero))))) = NoPolynomial p n e t a
SlotMeans p n e t a (suc (suc (suc (suc (suc (suc k)))))) = ⊥

-- ---- what the two tests of a slot say
-- a test that is not passed
pub not_iff : (b : Bool) {P : Type 0} → T b ↔ P → T (not b) ↔ (¬ P)
not_iff b h = (λ t x. T_not b t (h.1 x), λ none. not_T b (λ t. none (h.0 t)))

-- words that are not in form are those of nothing
pub none_of : {A : Type 0} (f : A → List ℤ) (good : List ℤ → Bool) → ((v : A) → T (good (f v))) → (a : List ℤ) → (T (good a) → Exactly f a)
    → T (not (good a)) ↔ ((v : A) → ¬ (f v ≡ a))
none_of f good all a one = (
  λ t v q. T_not (good a) t (subst (λ w. T (good w)) q (all v)),
  λ none. not_T (good a) (λ g. (let x = one g in none x.this x.holds)),
)

pub length_iff : (n : ℤ) (e a : List ℤ) → T (length_ok n e a) ↔ Room (size_of n e) (length a)
length_iff n e a = room_iff (size_of n e) (length a) (size-pos (degrees_of e) (num n))

module _ (p n : ℤ) (e : List ℤ) (h : T (p_ok p)) (a : List ℤ) where
  abbrev k : ℕ
  k = coefficients_of n e a

  pub form_iff : T (form_ok p n e a) ↔ Exactly (slot_of p n e k) a
  form_iff = slot_iff (num p) (p_positive p h) (degrees_of e) (num n) k a

  pub none_iff : T (not (form_ok p n e a)) ↔ ((v : PolynomialOf p n e k) → ¬ (slot_of p n e k v ≡ a))
  none_iff = none_of (slot_of p n e k) (slot_form (num p) (degrees_of e) (num n) k) (slot-form (num p) (p_positive p h) (degrees_of e) (num n) k) a form_iff.0

module _ (p n : ℤ) (e t a : List ℤ) where
  abbrev pub rows : Table
  rows = length_row n e a ∷ form_row p n e a ∷ []

  pub slot_is : slot_number p n e t a ≡ and_then (tower_number p n e t) (first rows)
  unfolding slot_number
  slot_is = tower_behind p n e t rows

  abbrev M : ℕ → Type 0
  M = SlotMeans p n e t a

  of_rows : TowerHeld p n e t → M (first rows)
  of_rows τ =
      branch (length_ok n e a)
      (λ l. branch (form_ok p n e a)
      (λ f. subst M (sym (first_of rows (l, (f, tt)))) (record { tower = τ; room = (length_iff n e a).0 l; held = (form_iff p n e τ.range.modulus a).0 f }))
      (λ f. subst M (sym (first-is rows 5 (inr (l, inl (f, refl))))) (record {
        tower = τ;
        room = (length_iff n e a).0 l;
        none = (none_iff p n e τ.range.modulus a).0 f;
      })))
      (λ l. subst M (sym (first-is rows 4 (inl (l, refl)))) (record { tower = τ; out = (not_iff (length_ok n e a) (length_iff n e a)).0 l }))

  pub slot-says : (j : ℕ) → slot_number p n e t a ≡ j → SlotMeans p n e t a j
  unfolding slot_number
  slot-says j h = subst M h (then_says p n e t rows M (λ m. m) (λ m. m) (λ m. m) of_rows)

  pub slot_given : (j : ℕ) → SlotMeans p n e t a j → slot_number p n e t a ≡ j
  unfolding slot_number
  slot_given zero h =
      then_given p n e t rows 0 h.tower
      ∙ first_of rows ((length_iff n e a).1 h.room, ((form_iff p n e h.tower.range.modulus a).1 h.held, tt))
  slot_given (suc zero) h = then_given p n e t rows 1 h
  slot_given (suc (suc zero)) h = then_given p n e t rows 2 h
  slot_given (suc (suc (suc zero))) h = then_given p n e t rows 3 h
  slot_given (suc (suc (suc (suc zero)))) h =
      then_given p n e t rows 0 h.tower ∙ first-is rows 4 (inl ((not_iff (length_ok n e a) (length_iff n e a)).1 h.out, refl))
  slot_given (suc (suc (suc (suc (suc zero))))) h =
      then_given p n e t rows 0 h.tower
      ∙ first-is rows 5 (inr ((length_iff n e a).1 h.room, inl ((none_iff p n e h.tower.range.modulus a).1 h.none, refl)))
  slot_given (suc (suc (suc (suc (suc (suc _)))))) h = elim h [ ]

  -- the same of what the call says
  pub slot-answers : (j : ℕ) → (check_slot p n e t a ≡ refusal j) ↔ SlotMeans p n e t a j
  slot-answers j = (λ h. slot-says j (refusal_inj (slot_number p n e t a) j h), λ m. ap refusal (slot_given j m))

-- over a tower with number 0, every polynomial in a slot of an allowed length gets no number
module _ (p n : ℤ) (e t : List ℤ) (h : tower_number p n e t ≡ 0) (k : ℕ) (some : 1 ≤ k) (few : k ≤ 256) (short : 1 + k * size_of n e ≤ 65536) where
  abbrev room_of : (v : PolynomialOf p n e k) → Room (size_of n e) (length (slot_of p n e k v))
  room_of v =
      let l = slot_long (num p) (degrees_of e) (num n) k v in
      record { count = k; some = some; few = few; long = l; short = omega (arith, l) }

  pub slot-passes : (v : PolynomialOf p n e k) → slot_number p n e t (slot_of p n e k v) ≡ 0
  slot-passes v =
      let τ = tower-says p n e t 0 h in
      let w = slot_of p n e k v in
      let c = room-count (size_of n e) (length w) (size-pos (degrees_of e) (num n)) (room_of v) in
      let f = slot-form (num p) (p_positive p τ.range.modulus) (degrees_of e) (num n) k v in
      let held = (form_iff p n e τ.range.modulus w).0 (subst (λ j. T (slot_form (num p) (degrees_of e) (num n) j w)) (sym c) f) in
      slot_given p n e t w 0 (record { tower = τ; room = room_of v; held = held })

-- no other number is given
pub slot_numbers : (p n : ℤ) (e t a : List ℤ) → slot_number p n e t a ≤ 5
unfolding slot_number
slot_numbers p n e t a = first-up_to 5 (slot_table p n e t a) tt

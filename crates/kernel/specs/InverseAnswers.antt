-- What the numbers 0 to 5, 7 and 9 say of an inverse, and that number 11 is never given.
--
-- ElementLong        == "element and factor buffer: exactly S_N";  element_iff == it is what the test of a length says
-- element_words      == the words of an element;  element-is == the element that is read is the one whose words are given;  inverted == what its inverse gives
-- InverseMeans       == for each number what it says; a number that is not used says ⊥
-- inverse-says       == a number that is given comes under its condition;  inverse_given == and under its condition it is given
-- inverse_sequence   == what is given where no number applies: the sequence's answer;  inverse_ends, inverse_unrefused == which is not number 11
-- inverse_never_long == number 11 is never given;  inverse-answers == what the call refuses tells the number
-- inverse-passes     == over a tower, every element that is not zero gets no number if the lengths are S_N and there is work store enough
use Rattle.std.specs.Prelude.{ℕ, zero, suc, ◌<◌, ◌≤◌, ◌≡◌, refl, Bool, true, false, not, ◌↔◌, List, [], ◌∷◌, ◌++◌, ℤ, T, eqb, leb, length}
use Rattle.std.proofs.Common.{sym, ap, ◌∙◌, subst, inl, inr, eqb→eq}
use Rattle.std.proofs.Math.Dec.{eqb_refl}
use Rattle.algebra.specs.Test.{branch, branch_yes}
use Rattle.residue.specs.Word.{num}
use Rattle.tower.specs.Form.{is_in_form, same, zero_words}
use Rattle.tower.specs.Levels.{El, group}
use Rattle.tower.specs.Limits.{p_ok, p_positive, degrees_of}
use Rattle.tower.specs.Lists.{same_sound, same_eq}
use Rattle.tower.specs.Unique.{Exactly, Laws, laws, form_iff}
use Rattle.tower.specs.Work.{inverse_work}
use Rattle.tower.specs.Writing.{write, write_long}
use Rattle.euclid.specs.Answer.{Answer, long}
use Rattle.euclid.specs.Demand.{inv_never_long}
use Rattle.euclid.specs.Towers.{Shown, shown_level, inv, level}
use Rattle.euclid.proofs.Towers.{good}
use Rattle.kernel.specs.Answered.{tower_in}
use Rattle.kernel.specs.Calls.{size_of, tower_table}
use Rattle.kernel.specs.Inverses.{element_length, element_of, inverse_number, inverse_by, inverse_words, inverse}
use Rattle.kernel.specs.Meaning.{TowerHeld, TowerMeans, then_says, then_given}
use Rattle.kernel.specs.Refusals.{done, refused, bad_length, bad_form, small_work, of_zero, too_long, Table, first, first_of, first-is, Applies}
use Rattle.kernel.specs.SequenceLaws.{ByAnswer, said_never, answered-new, refused_means}
use Rattle.kernel.specs.SlotAnswers.{Means, Each, OneOf, each, each_iff, not_each, le_iff, lt_iff}
use Rattle.kernel.specs.SlotMeaning.{not_iff, none_of}

-- ---- an element's words
abbrev pub ElementLong : ℤ → List ℤ → List ℤ → Type 0
ElementLong n e x = length x ≡ size_of n e

pub element_iff : (n : ℤ) (e x : List ℤ) → T (element_length n e x) ↔ ElementLong n e x
element_iff n e x = (eqb→eq (length x) (size_of n e), λ h. subst (λ m. T (eqb m (size_of n e))) (sym h) (eqb_refl (size_of n e)))

-- the elements of the topmost level, and their words
abbrev pub ElementOf : ℤ → ℤ → List ℤ → Type 0
ElementOf p n e = El (num p) (degrees_of e) (num n)

abbrev pub element_words : (p n : ℤ) (e : List ℤ) → ElementOf p n e → List ℤ
element_words p n e = write (num p) (degrees_of e) (num n)

-- what the sequence on an element gives
abbrev pub inverted : (p n : ℤ) (e t : List ℤ) → T (p_ok p) → ElementOf p n e → Answer (Shown (num p) (degrees_of e) (num n)) (ElementOf p n e)
inverted p n e t h = inv (num p) (p_positive p h) (degrees_of e) (num n) (tower_in p n e t h)

abbrev pub zero_of : (p n : ℤ) (e : List ℤ) → T (p_ok p) → ElementOf p n e
zero_of p n e h = (group (num p) (p_positive p h) (degrees_of e) (num n)).𝟘

module _ (p n : ℤ) (e c : List ℤ) (h : T (p_ok p)) where
  abbrev L : Laws (num p) (p_positive p h) (degrees_of e) (num n)
  L = laws (num p) (p_positive p h) (degrees_of e) (num n)

  pub element-is : (x : ElementOf p n e) → element_words p n e x ≡ c → element_of p n e c h ≡ x
  element-is x q = ap (λ w. element_of p n e w h) (sym q) ∙ L.read_write x

  -- it is zero where its words are those of zero
  zero_iff : (x : ElementOf p n e) → element_words p n e x ≡ c → T (same c (zero_words (degrees_of e) (num n))) ↔ (x ≡ zero_of p n e h)
  zero_iff x q = (
    λ t. sym (element-is x q) ∙ element-is (zero_of p n e h) (L.write-zero ∙ sym (same_sound c (zero_words (degrees_of e) (num n)) t)),
    λ z. same_eq (sym q ∙ ap (element_words p n e) z ∙ L.write-zero),
  )

not_not : (b : Bool) → T (not (not b)) ↔ T b
not_not true = (λ t. t, λ t. t)
not_not false = (λ t. t, λ t. t)

-- ---- what each number says
module _ (p n : ℤ) (e t c r f v : List ℤ) where
  -- 4: over a tower, one of the lengths is not S_N
  pub record ElementsOut : Type 0 where
    pub tower : TowerHeld p n e t
    pub out : OneOf (λ x. ¬ ElementLong n e x) c (r ∷ f ∷ [])

  -- 5: the lengths are, and no element has the words of c
  pub record NoElement : Type 0 where
    pub tower : TowerHeld p n e t
    pub long : Each (ElementLong n e) c (r ∷ f ∷ [])
    pub none : (x : ElementOf p n e) → ¬ (element_words p n e x ≡ c)

  -- neither: c holds an element of the ring of the tower
  pub record ElementHeld : Type 0 where
    pub tower : TowerHeld p n e t
    pub long : Each (ElementLong n e) c (r ∷ f ∷ [])
    pub held : Exactly (element_words p n e) c

  -- 7: "work store shorter than needed"
  pub record InverseShort : Type 0 where
    pub element : ElementHeld
    pub short : length v < inverse_work (degrees_of e) (num n)

  -- 9: "inverse of zero"
  pub record InverseOfZero : Type 0 where
    pub element : ElementHeld
    pub work : inverse_work (degrees_of e) (num n) ≤ length v
    pub is_zero : element.held.this ≡ zero_of p n e element.tower.range.modulus

  -- 0: none of these
  pub record InverseHeld : Type 0 where
    pub element : ElementHeld
    pub work : inverse_work (degrees_of e) (num n) ≤ length v
    pub not_zero : ¬ (element.held.this ≡ zero_of p n e element.tower.range.modulus)

  abbrev pub InverseMeans : ℕ → Type 0
  InverseMeans zero = InverseHeld
  InverseMeans (suc zero) = TowerMeans p n e t 1
  InverseMeans (suc (suc zero)) = TowerMeans p n e t 2
  InverseMeans (suc (suc (suc zero))) = TowerMeans p n e t 3
  InverseMeans (suc (suc (suc (suc zero)))) = ElementsOut
  InverseMeans (suc (suc (suc (suc (suc zero))))) = NoElement
  InverseMeans (suc (suc (suc (suc (suc (suc zero)))))) = ⊥
  InverseMeans (suc (suc (suc (suc (suc (suc (suc zero))))))) = InverseShort
  InverseMeans (suc (suc (suc (suc (suc (suc (suc (suc zero)))))))) = ⊥
  InverseMeans (suc (suc (suc (suc (suc (suc (suc (suc (suc zero))))))))) = InverseOfZero
  InverseMeans (suc (suc (suc (suc (suc (suc (suc (suc (suc (suc k)))))))))) = ⊥

  -- ---- the tests
  abbrev lengths : Bool
  lengths = each (element_length n e) c (r ∷ f ∷ [])

  abbrev form : Bool
  form = is_in_form (num p) (degrees_of e) (num n) c

  abbrev work : Bool
  work = leb (inverse_work (degrees_of e) (num n)) (length v)

  abbrev is_zero : Bool
  is_zero = same c (zero_words (degrees_of e) (num n))

  abbrev rows : Table
  rows = (bad_length, λ _. lengths) ∷ (bad_form, λ _. form) ∷ (small_work, λ _. work) ∷ (of_zero, λ _. not is_zero) ∷ []

  long_iff : T lengths ↔ Each (ElementLong n e) c (r ∷ f ∷ [])
  long_iff = each_iff (element_length n e) (ElementLong n e) (element_iff n e) c (r ∷ f ∷ [])

  out_iff : T (not lengths) ↔ OneOf (λ x. ¬ ElementLong n e x) c (r ∷ f ∷ [])
  out_iff = not_each (element_length n e) (λ x. ¬ ElementLong n e x) (λ x. not_iff (element_length n e x) (element_iff n e x)) c (r ∷ f ∷ [])

  held_iff : T (p_ok p) → T form ↔ Exactly (element_words p n e) c
  held_iff m = form_iff (num p) (p_positive p m) (degrees_of e) (num n) c

  none_iff : T (p_ok p) → T (not form) ↔ ((x : ElementOf p n e) → ¬ (element_words p n e x ≡ c))
  none_iff m =
      none_of (element_words p n e) (is_in_form (num p) (degrees_of e) (num n)) (laws (num p) (p_positive p m) (degrees_of e) (num n)).good_write c (held_iff m).0

  work_iff : T work ↔ (inverse_work (degrees_of e) (num n) ≤ length v)
  work_iff = le_iff (inverse_work (degrees_of e) (num n)) (length v)

  short_iff : T (not work) ↔ (length v < inverse_work (degrees_of e) (num n))
  short_iff = lt_iff (inverse_work (degrees_of e) (num n)) (length v)

  is-zero_iff : (h : ElementHeld) → T is_zero ↔ (h.held.this ≡ zero_of p n e h.tower.range.modulus)
  is-zero_iff h = zero_iff p n e c h.tower.range.modulus h.held.this h.held.holds

  of_element : (h : ElementHeld) → T lengths → T form → InverseMeans (first rows)
  of_element h l g =
      branch work
      (λ w. branch (not is_zero)
      (λ z. subst InverseMeans (sym (first_of rows (l, (g, (w, (z, tt)))))) (record { element = h; work = work_iff.0 w; not_zero = (not_iff is_zero (is-zero_iff h)).0 z }))
      (λ z. subst InverseMeans (sym (first-is rows 9 (inr (l, inr (g, inr (w, inl (z, refl)))))))
      (record { element = h; work = work_iff.0 w; is_zero = (is-zero_iff h).0 ((not_not is_zero).0 z) })))
      (λ w. subst InverseMeans (sym (first-is rows 7 (inr (l, inr (g, inl (w, refl)))))) (record { element = h; short = short_iff.0 w }))

  of_rows : TowerHeld p n e t → InverseMeans (first rows)
  of_rows τ =
      let m = τ.range.modulus in
      branch lengths
      (λ l. branch form
      (λ g. of_element (record { tower = τ; long = long_iff.0 l; held = (held_iff m).0 g }) l g)
      (λ g. subst InverseMeans (sym (first-is rows 5 (inr (l, inl (g, refl))))) (record { tower = τ; long = long_iff.0 l; none = (none_iff m).0 g })))
      (λ l. subst InverseMeans (sym (first-is rows 4 (inl (l, refl)))) (record { tower = τ; out = out_iff.0 l }))

  behind : (h : ElementHeld) (j : ℕ) → Applies ((small_work, λ _. work) ∷ (of_zero, λ _. not is_zero) ∷ []) j → first (tower_table p n e t ++ rows) ≡ j
  behind h j x =
      then_given p n e t rows 0 h.tower
      ∙ first-is rows j (inr (long_iff.1 h.long, inr ((held_iff h.tower.range.modulus).1 h.held, x)))

  given : (j : ℕ) → InverseMeans j → first (tower_table p n e t ++ rows) ≡ j
  given zero h =
      let g = h.element in
      let form = (held_iff g.tower.range.modulus).1 g.held in
      then_given p n e t rows 0 g.tower
      ∙ first_of rows (long_iff.1 g.long, (form, (work_iff.1 h.work, ((not_iff is_zero (is-zero_iff g)).1 h.not_zero, tt))))
  given (suc zero) h = then_given p n e t rows 1 h
  given (suc (suc zero)) h = then_given p n e t rows 2 h
  given (suc (suc (suc zero))) h = then_given p n e t rows 3 h
  given (suc (suc (suc (suc zero)))) h = then_given p n e t rows 0 h.tower ∙ first-is rows 4 (inl (out_iff.1 h.out, refl))
  given (suc (suc (suc (suc (suc zero))))) h =
      then_given p n e t rows 0 h.tower ∙ first-is rows 5 (inr (long_iff.1 h.long, inl ((none_iff h.tower.range.modulus).1 h.none, refl)))
  given (suc (suc (suc (suc (suc (suc (suc zero))))))) h = behind h.element 7 (inl (short_iff.1 h.short, refl))
  given (suc (suc (suc (suc (suc (suc (suc (suc (suc zero))))))))) h =
      behind h.element 9 (inr (work_iff.1 h.work, inl ((not_not is_zero).1 ((is-zero_iff h.element).1 h.is_zero), refl)))
  given (suc (suc (suc (suc (suc (suc zero)))))) h = elim h [ ]
  given (suc (suc (suc (suc (suc (suc (suc (suc zero)))))))) h = elim h [ ]
  given (suc (suc (suc (suc (suc (suc (suc (suc (suc (suc _)))))))))) h = elim h [ ]

  inverse_means : Means (inverse_number p n e t c r f v) InverseMeans
  unfolding inverse_number
  inverse_means = record { says = then_says p n e t rows InverseMeans (λ x. x) (λ x. x) (λ x. x) of_rows; only = given }

  pub inverse-says : (j : ℕ) → inverse_number p n e t c r f v ≡ j → InverseMeans j
  inverse-says j h = subst InverseMeans h inverse_means.says

  pub inverse_given : (j : ℕ) → InverseMeans j → inverse_number p n e t c r f v ≡ j
  inverse_given = inverse_means.only

  -- ---- where no number applies, the sequence's answer
  abbrev pub inverse_answer : T (p_ok p) → Answer (Shown (num p) (degrees_of e) (num n)) (ElementOf p n e)
  inverse_answer m = inverted p n e t m (element_of p n e c m)

  pub inverse-words : (m : T (p_ok p)) → inverse_words p n e t c r f v ≡ inverse_by p n e t r f v m (inverse_answer m)
  unfolding inverse_words
  inverse-words m = branch_yes (p_ok p) (λ m. inverse_by p n e t r f v m (inverse_answer m)) (λ _. record { said = done; words = record { inverse = r; factor = f; work = v } }) m

  pub inverse_sequence : inverse_number p n e t c r f v ≡ 0 → (m : T (p_ok p)) → inverse p n e t c r f v ≡ inverse_by p n e t r f v m (inverse_answer m)
  inverse_sequence z m = answered-new _ _ (inverse_number p n e t c r f v) z ∙ inverse-words m

  -- the element that the sequence starts from is not zero
  pub inverse_not_zero : (h : InverseHeld) → ¬ (element_of p n e c h.element.tower.range.modulus ≡ zero_of p n e h.element.tower.range.modulus)
  inverse_not_zero h q = h.not_zero (sym (element-is p n e c h.element.tower.range.modulus h.element.held.this h.element.held.holds) ∙ q)

  pub inverse_ends : (h : InverseHeld) → ¬ (inverse_answer h.element.tower.range.modulus ≡ long)
  inverse_ends h =
      let m = h.element.tower.range.modulus in
      let p_pos = p_positive p m in
      inv_never_long (level (num p) p_pos (degrees_of e) (num n) (tower_in p n e t m)) (good (num p) p_pos (degrees_of e) (num n) (tower_in p n e t m))
      (element_of p n e c m) (inverse_not_zero h)

  pub inverse-by : (m : T (p_ok p)) → ByAnswer (inverse_by p n e t r f v m) (shown_level (num p) (degrees_of e) (num n))
  inverse-by m = record { on_done = λ u. refl; on_shown = λ x. refl }

  -- the sequence refuses nothing
  pub inverse_unrefused : inverse_number p n e t c r f v ≡ 0 → (j : ℕ) → ¬ ((inverse_words p n e t c r f v).said ≡ refused j)
  inverse_unrefused z j q =
      let h = inverse-says 0 z in
      let m = h.element.tower.range.modulus in
      said_never _ _ (inverse-by m) (inverse_answer m) (inverse_ends h) j (ap (λ x. x.said) (sym (inverse-words m)) ∙ q)

  -- the same of what the call says: number 11 is no number of the tests
  pub inverse-answers : (j : ℕ) → ((inverse p n e t c r f v).said ≡ refused (suc j)) ↔ InverseMeans (suc j)
  inverse-answers = refused_means _ _ (inverse_number p n e t c r f v) inverse_means inverse_unrefused

  pub inverse_never_long : ¬ ((inverse p n e t c r f v).said ≡ refused too_long)
  inverse_never_long q = (inverse-answers 10).0 q

-- over a tower, an element x that is not zero, and any words r, f and v
pub inverse-passes : (p n : ℤ) (e t : List ℤ) (τ : TowerHeld p n e t) (x : ElementOf p n e) → ¬ (x ≡ zero_of p n e τ.range.modulus)
    → (r f v : List ℤ) → ElementLong n e r → ElementLong n e f → inverse_work (degrees_of e) (num n) ≤ length v → inverse_number p n e t (element_words p n e x) r f v ≡ 0
inverse-passes p n e t τ x nz r f v long-r long-f enough =
    let m = τ.range.modulus in
    let held = (form_iff (num p) (p_positive p m) (degrees_of e) (num n) (element_words p n e x)).0 ((laws (num p) (p_positive p m) (degrees_of e) (num n)).good_write x) in
    inverse_given p n e t (element_words p n e x) r f v 0 (record {
      element = record { tower = τ; long = (write_long (num p) (degrees_of e) (num n) x, (long-r, long-f)); held = held };
      work = enough;
      not_zero = λ z. nz (held.only x refl ∙ z);
    })

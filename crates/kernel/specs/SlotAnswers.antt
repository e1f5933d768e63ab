-- What the numbers say of the calls on two polynomials a and b, stated once for sum, difference, product, division and GCD. A call adds what else it takes, which
-- slot the answer goes to and the coefficients that it needs there, and what it tests by the numbers above 6. "Refusal numbers, tested in this order": each is
-- tested of all that is lent before the next.
--
-- Means k M   == k is the one number whose condition M holds
-- Each, OneOf == P holds of each of some things, of one of them
-- SlotLong, WorkLong, WorkShort == a slot's length is allowed; the work store is long enough, or not
-- HoldsOne, HoldsNone   == the words of a slot are those of exactly one polynomial, of none
-- LengthsOut, FormsOut, RoomOut == numbers 4, 5 and 6;  LentHeld == none of 1 to 6 applies;  Further == and what a call tests besides
-- LentMeans        == for each number what it says; a number that is not used says ⊥
-- Told, lent_means == what a call's tests say, and that the number which they give is the one that LentMeans holds of
-- SlotsHeld, SlotsMeans, slots_means == the same where all lengths are those of slots
-- said_means == what a call says tells the number;  le_iff, lt_iff == the test of two numbers
-- Allowed    == as many coefficients as a slot may have;  slot_held, degree-low == the words of such a polynomial over a tower;  slots_held ==
--                          those of two
use Rattle.std.specs.Prelude.{ℕ, zero, suc, ◌+◌, ◌*◌, ◌<◌, ◌≤◌, ◌≡◌, refl, Bool, true, false, not, ◌&&◌, ◌⊎◌, ◌↔◌, List, [], ◌∷◌, ◌++◌, ℤ, T, leb, length}
use Rattle.std.proofs.Common.{lt_irrefl, arith, sym, ap, ◌∙◌, subst, inl, inr, ⊎_elim, T_not, leb→le, le→leb}
use Rattle.std.proofs.Math.Dec.{not_T, nleb→lt}
use Rattle.algebra.specs.Test.{branch, both, both_l, both_r, le_or_lt}
use Rattle.algebra.specs.Vec.{Below, coef}
use Rattle.residue.specs.Word.{num}
use Rattle.tower.specs.Levels.{El, group}
use Rattle.tower.specs.Limits.{p_ok, p_positive, degrees_of}
use Rattle.tower.specs.Unique.{Exactly}
use Rattle.tower.specs.Work.{product_work}
use Rattle.kernel.specs.Calls.{size_of, coefficients_of, length_ok, form_ok, tower_table}
use Rattle.kernel.specs.Meaning.{TowerHeld, TowerMeans, tower_given, then_says, then_given}
use Rattle.kernel.specs.Refusals.{bad_length, small_answer, small_work, not_monic, Table, first, refusal, refusal_inj, first_of, Applies, first-is}
use Rattle.kernel.specs.SlotLaws.{slot_holds, held_low, changed_said}
use Rattle.kernel.specs.SlotMeaning.{PolynomialOf, slot_of, Room, not_iff, length_iff, form_iff, none_iff, SlotHeld, slot-says, slot-passes}
use Rattle.kernel.specs.Slots.{degree_count, forms_row, changed_by}

-- ---- a number and its condition
-- k is the one number whose condition holds
pub record Means (k : ℕ) (M : ℕ → Type 0) : Type 0 where
  pub says : M k
  pub only : (j : ℕ) → M j → k ≡ j

-- what the call says tells the number
pub said_means : {A : Type 0} {k : ℕ} {M : ℕ → Type 0} (new old : A) → Means k M → (j : ℕ) → ((changed_by k new old).said ≡ refusal j) ↔ M j
said_means {k} {M} new old m j = (λ h. subst M (refusal_inj k j (sym (changed_said k new old) ∙ h)) m.says, λ x. changed_said k new old ∙ ap refusal (m.only j x))

-- two tests, not both passed
not_both : (a b : Bool) {P Q : Type 0} → T (not a) ↔ P → T (not b) ↔ Q → T (not (a && b)) ↔ (P ⊎ Q)
not_both true b f g = (λ t. inr (g.0 t), ⊎_elim (λ x. absurd (f.1 x)) g.1)
not_both false b f g = (λ t. inl (f.0 t), λ x. tt)

-- two numbers
pub le_iff : (m k : ℕ) → T (leb m k) ↔ (m ≤ k)
le_iff m k = (leb→le m k, le→leb m k)

pub lt_iff : (m k : ℕ) → T (not (leb m k)) ↔ (k < m)
lt_iff m k = (nleb→lt m k, λ q. not_T (leb m k) (λ t. lt_irrefl 0 (omega (arith, leb→le m k t))))

-- ---- some things, of which there is at least one: x and ys
module _ {A : Type 0} where
  -- P holds of each
  abbrev pub Each : (A → Type 0) → A → List A → Type 0
  Each P x [] = P x
  Each P x (y ∷ ys) = P x × Each P y ys

  -- P holds of one
  abbrev pub OneOf : (A → Type 0) → A → List A → Type 0
  OneOf P x [] = P x
  OneOf P x (y ∷ ys) = P x ⊎ OneOf P y ys

  -- a test of each
  abbrev pub each : (A → Bool) → A → List A → Bool
  each f x [] = f x
  each f x (y ∷ ys) = f x && each f y ys

  pub each_iff : (f : A → Bool) (P : A → Type 0) → ((x : A) → T (f x) ↔ P x) → (x : A) (ys : List A) → T (each f x ys) ↔ Each P x ys
  each_iff f P h x [] = h x
  each_iff f P h x (y ∷ ys) =
      let r = each_iff f P h y ys in
      (λ t. ((h x).0 (both_l (f x) _ t), r.0 (both_r (f x) _ t)), λ q. both (f x) _ ((h x).1 q.0) (r.1 q.1))

  -- it does not pass where it does not pass of one
  pub not_each : (f : A → Bool) (Q : A → Type 0) → ((x : A) → T (not (f x)) ↔ Q x) → (x : A) (ys : List A) → T (not (each f x ys)) ↔ OneOf Q x ys
  not_each f Q h x [] = h x
  not_each f Q h x (y ∷ ys) = not_both (f x) (each f y ys) (h x) (not_each f Q h y ys)

-- ---- what each number says
-- x has an allowed length
abbrev pub SlotLong : ℤ → List ℤ → List ℤ → Type 0
SlotLong n e x = Room (size_of n e) (length x)

-- the words of x are those of exactly one polynomial
abbrev pub HoldsOne : ℤ → ℤ → List ℤ → List ℤ → Type 0
HoldsOne p n e x = Exactly (slot_of p n e (coefficients_of n e x)) x

-- of no polynomial
abbrev pub HoldsNone : ℤ → ℤ → List ℤ → List ℤ → Type 0
HoldsNone p n e x = (v : PolynomialOf p n e (coefficients_of n e x)) → ¬ (slot_of p n e (coefficients_of n e x) v ≡ x)

-- the work store has M(N) words, or fewer
abbrev pub WorkLong : ℤ → List ℤ → List ℤ → Type 0
WorkLong n e v = product_work (degrees_of e) (num n) ≤ length v

abbrev pub WorkShort : ℤ → List ℤ → List ℤ → Type 0
WorkShort n e v = length v < product_work (degrees_of e) (num n)

-- the operands a and b; Long says that the lengths of all that is lent are allowed, Out that one is not; the answer needs r coefficients in c
module _ (p n : ℤ) (e t a b : List ℤ) (Long Out : Type 0) (c : List ℤ) (r : ℕ) where
  -- 4: over a tower, one of the lengths is not allowed
  pub record LengthsOut : Type 0 where
    pub tower : TowerHeld p n e t
    pub out : Out

  -- 5: the lengths are allowed, and no polynomial has the words of a, or none those of b
  pub record FormsOut : Type 0 where
    pub tower : TowerHeld p n e t
    pub long : Long
    pub none : HoldsNone p n e a ⊎ HoldsNone p n e b

  -- 6: a and b hold polynomials, and c has too few coefficients
  pub record RoomOut : Type 0 where
    pub tower : TowerHeld p n e t
    pub long : Long
    pub held_a : HoldsOne p n e a
    pub held_b : HoldsOne p n e b
    pub small : coefficients_of n e c < r

  -- none of these: a and b hold polynomials over the ring of the tower, and there is room
  pub record LentHeld : Type 0 where
    pub tower : TowerHeld p n e t
    pub long : Long
    pub held_a : HoldsOne p n e a
    pub held_b : HoldsOne p n e b
    pub room : r ≤ coefficients_of n e c

  -- and P, which may compute modulo p
  pub record Further (P : T (p_ok p) → Type 0) : Type 0 where
    pub slots : LentHeld
    pub more : P slots.tower.range.modulus

  -- for each number what it says: of a call that besides passes where `passes` holds, and tests `seven` and `eight` by these numbers
  abbrev pub LentMeans : (passes seven eight : T (p_ok p) → Type 0) → ℕ → Type 0
  LentMeans passes seven eight zero = Further passes
  LentMeans passes seven eight (suc zero) = TowerMeans p n e t 1
  LentMeans passes seven eight (suc (suc zero)) = TowerMeans p n e t 2
  LentMeans passes seven eight (suc (suc (suc zero))) = TowerMeans p n e t 3
  LentMeans passes seven eight (suc (suc (suc (suc zero)))) = LengthsOut
  LentMeans passes seven eight (suc (suc (suc (suc (suc zero))))) = FormsOut
  LentMeans passes seven eight (suc (suc (suc (suc (suc (suc zero)))))) = RoomOut
  LentMeans passes seven eight (suc (suc (suc (suc (suc (suc (suc zero))))))) = Further seven
  LentMeans passes seven eight (suc (suc (suc (suc (suc (suc (suc (suc zero)))))))) = Further eight
  LentMeans passes seven eight (suc (suc (suc (suc (suc (suc (suc (suc (suc k))))))))) = ⊥

-- where the slots that are lent are a and the others, b among these
module _ (p n : ℤ) (e t a b : List ℤ) (others : List (List ℤ)) (c : List ℤ) (r : ℕ) where
  abbrev pub SlotsHeld : Type 0
  SlotsHeld = LentHeld p n e t a b (Each (SlotLong n e) a others) (OneOf (λ x. ¬ SlotLong n e x) a others) c r

  abbrev pub SlotsMeans : (passes seven eight : T (p_ok p) → Type 0) → ℕ → Type 0
  SlotsMeans = LentMeans p n e t a b (Each (SlotLong n e) a others) (OneOf (λ x. ¬ SlotLong n e x) a others) c r

-- ---- the tests behind those of the tower: of all lengths, of the forms, of the room, by number 7 and by number 8; where a call has no such test it is `true`
abbrev pub lent_rows : (p n : ℤ) (e a b : List ℤ) (lengths room work monic : Bool) → Table
lent_rows p n e a b lengths room work monic =
    (bad_length, λ _. lengths) ∷ forms_row p n e a b ∷ (small_answer, λ _. room) ∷ (small_work, λ _. work) ∷ (not_monic, λ _. monic) ∷ []

module _ (p n : ℤ) (e t a b : List ℤ) (Long Out : Type 0) (c : List ℤ) (r : ℕ) (passes seven eight : T (p_ok p) → Type 0) (room work monic : Bool) where
  abbrev forms : Bool
  forms = form_ok p n e a && form_ok p n e b

  abbrev Held : Type 0
  Held = LentHeld p n e t a b Long Out c r

  abbrev M : ℕ → Type 0
  M = LentMeans p n e t a b Long Out c r passes seven eight

  -- what the tests of a call say
  pub record Told : Type 0 where
    pub room_told : T room ↔ (r ≤ coefficients_of n e c)
    pub all_told : (h : Held) → (T work × T monic) ↔ passes h.tower.range.modulus
    pub work_told : (h : Held) → T (not work) ↔ seven h.tower.range.modulus
    pub monic_told : (h : Held) → (T work × T (not monic)) ↔ eight h.tower.range.modulus

  module _ (lengths : Bool) (long_iff : T lengths ↔ Long) (out_iff : T (not lengths) ↔ Out) (told : Told) where
    abbrev rows : Table
    rows = lent_rows p n e a b lengths room work monic

    forms_iff : T (p_ok p) → T forms ↔ (HoldsOne p n e a × HoldsOne p n e b)
    forms_iff m = each_iff (form_ok p n e) (HoldsOne p n e) (form_iff p n e m) a (b ∷ [])

    none_of_iff : T (p_ok p) → T (not forms) ↔ (HoldsNone p n e a ⊎ HoldsNone p n e b)
    none_of_iff m = not_each (form_ok p n e) (HoldsNone p n e) (none_iff p n e m) a (b ∷ [])

    small_iff : T (not room) ↔ (coefficients_of n e c < r)
    small_iff = (
      λ t. ⊎_elim (λ q. absurd (T_not room t (told.room_told.1 q))) (λ q. q) (le_or_lt r (coefficients_of n e c)),
      λ q. not_T room (λ t. lt_irrefl 0 (omega (arith, told.room_told.0 t))),
    )

    -- no number up to 6
    of_held : (h : Held) → T lengths → T forms → T room → M (first rows)
    of_held h l f s =
        branch work
        (λ w. branch monic
        (λ m. subst M (sym (first_of rows (l, (f, (s, (w, (m, tt))))))) (record { slots = h; more = (told.all_told h).0 (w, m) }))
        (λ m. subst M (sym (first-is rows 8 (inr (l, inr (f, inr (s, inr (w, inl (m, refl)))))))) (record { slots = h; more = (told.monic_told h).0 (w, m) })))
        (λ w. subst M (sym (first-is rows 7 (inr (l, inr (f, inr (s, inl (w, refl))))))) (record { slots = h; more = (told.work_told h).0 w }))

    of_rows : TowerHeld p n e t → M (first rows)
    of_rows τ =
        let both = forms_iff τ.range.modulus in
        branch lengths
        (λ l. branch forms
        (λ f. branch room
        (λ s. of_held (record { tower = τ; long = long_iff.0 l; held_a = (both.0 f).0; held_b = (both.0 f).1; room = told.room_told.0 s }) l f s)
        (λ s. subst M (sym (first-is rows 6 (inr (l, inr (f, inl (s, refl)))))) (record {
          tower = τ;
          long = long_iff.0 l;
          held_a = (both.0 f).0;
          held_b = (both.0 f).1;
          small = small_iff.0 s;
        })))
        (λ f. subst M (sym (first-is rows 5 (inr (l, inl (f, refl))))) (record { tower = τ; long = long_iff.0 l; none = (none_of_iff τ.range.modulus).0 f })))
        (λ l. subst M (sym (first-is rows 4 (inl (l, refl)))) (record { tower = τ; out = out_iff.0 l }))

    -- where the tests up to 6 pass
    held-forms : (h : Held) → T forms
    held-forms h = (forms_iff h.tower.range.modulus).1 (h.held_a, h.held_b)

    behind : (h : Held) (j : ℕ) → Applies ((small_work, λ _. work) ∷ (not_monic, λ _. monic) ∷ []) j → first (tower_table p n e t ++ rows) ≡ j
    behind h j x =
        then_given p n e t rows 0 h.tower ∙ first-is rows j (inr (long_iff.1 h.long, inr (held-forms h, inr (told.room_told.1 h.room, x))))

    given : (j : ℕ) → M j → first (tower_table p n e t ++ rows) ≡ j
    given zero h =
        let g = h.slots in
        let x = (told.all_told g).1 h.more in
        then_given p n e t rows 0 g.tower ∙ first_of rows (long_iff.1 g.long, (held-forms g, (told.room_told.1 g.room, (x.0, (x.1, tt)))))
    given (suc zero) h = then_given p n e t rows 1 h
    given (suc (suc zero)) h = then_given p n e t rows 2 h
    given (suc (suc (suc zero))) h = then_given p n e t rows 3 h
    given (suc (suc (suc (suc zero)))) h = then_given p n e t rows 0 h.tower ∙ first-is rows 4 (inl (out_iff.1 h.out, refl))
    given (suc (suc (suc (suc (suc zero))))) h =
        then_given p n e t rows 0 h.tower
        ∙ first-is rows 5 (inr (long_iff.1 h.long, inl ((none_of_iff h.tower.range.modulus).1 h.none, refl)))
    given (suc (suc (suc (suc (suc (suc zero)))))) h =
        then_given p n e t rows 0 h.tower
        ∙ first-is rows 6 (inr (long_iff.1 h.long, inr ((forms_iff h.tower.range.modulus).1 (h.held_a, h.held_b), inl (small_iff.1 h.small, refl))))
    given (suc (suc (suc (suc (suc (suc (suc zero))))))) h = behind h.slots 7 (inl ((told.work_told h.slots).1 h.more, refl))
    given (suc (suc (suc (suc (suc (suc (suc (suc zero)))))))) h =
        let x = (told.monic_told h.slots).1 h.more in
        behind h.slots 8 (inr (x.0, inl (x.1, refl)))
    given (suc (suc (suc (suc (suc (suc (suc (suc (suc _))))))))) h = elim h [ ]

    pub lent_means : Means (first (tower_table p n e t ++ lent_rows p n e a b lengths room work monic)) M
    lent_means = record { says = then_says p n e t rows M (λ x. x) (λ x. x) (λ x. x) of_rows; only = given }

-- the lengths of slots
pub slots_means : (p n : ℤ) (e t a b : List ℤ) (others : List (List ℤ)) (c : List ℤ) (r : ℕ) (passes seven eight : T (p_ok p) → Type 0) (room work monic : Bool)
    → Told p n e t a b (Each (SlotLong n e) a others) (OneOf (λ x. ¬ SlotLong n e x) a others) c r passes seven eight room work monic
    → Means (first (tower_table p n e t ++ lent_rows p n e a b (each (length_ok n e) a others) room work monic)) (SlotsMeans p n e t a b others c r passes seven eight)
slots_means p n e t a b others c r passes seven eight room work monic told =
    lent_means p n e t a b _ _ c r passes seven eight room work monic (each (length_ok n e) a others)
    (each_iff (length_ok n e) (SlotLong n e) (length_iff n e) a others)
    (not_each (length_ok n e) (λ x. ¬ SlotLong n e x) (λ x. not_iff (length_ok n e x) (length_iff n e x)) a others)
    told

-- ---- every two polynomials pass
-- k coefficients are as many as a slot may have
pub record Allowed (n : ℤ) (e : List ℤ) (k : ℕ) : Type 0 where
  pub some : 1 ≤ k
  pub few : k ≤ 256
  pub short : 1 + k * size_of n e ≤ 65536

module _ (p n : ℤ) (e t : List ℤ) (τ : TowerHeld p n e t) where
  abbrev m : T (p_ok p)
  m = τ.range.modulus

  abbrev o : El (num p) (degrees_of e) (num n)
  o = (group (num p) (p_positive p m) (degrees_of e) (num n)).𝟘

  module _ (k : ℕ) (k-in : Allowed n e k) (u : PolynomialOf p n e k) where
    pub slot_held : SlotHeld p n e t (slot_of p n e k u)
    slot_held = slot-says p n e t (slot_of p n e k u) 0 (slot-passes p n e t (tower_given p n e t 0 τ) k k-in.some k-in.few k-in.short u)

    -- the degree word counts no more than what the polynomial is zero from
    pub degree-low : (i : ℕ) → Below o i (coef o k u) → degree_count (slot_of p n e k u) ≤ i
    degree-low i low =
        held_low p n e m (slot_of p n e k u) ((form_iff p n e m (slot_of p n e k u)).1 slot_held.held) i (λ j l. slot_holds p n e m k u j ∙ low j l)

  -- two of them, the other slots behind them, and room
  abbrev pub slots_held : (k l : ℕ) (k-in : Allowed n e k) (l-in : Allowed n e l) (u : PolynomialOf p n e k) (w : PolynomialOf p n e l) (c : List ℤ) (r : ℕ)
      → r ≤ coefficients_of n e c → (others : List (List ℤ))
      → (SlotLong n e (slot_of p n e k u) → SlotLong n e (slot_of p n e l w) → Each (SlotLong n e) (slot_of p n e k u) others)
      → SlotsHeld p n e t (slot_of p n e k u) (slot_of p n e l w) others c r
  slots_held k l k-in l-in u w c r room others long =
      let a = slot_held k k-in u in
      let b = slot_held l l-in w in
      record { tower = τ; long = long a.room b.room; held_a = a.held; held_b = b.held; room = room }

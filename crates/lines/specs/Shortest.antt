-- What is printed of a slot is the shortest slot that holds the same polynomial, and it can be read again.
--
-- SlotIn        == a slot of a length that is allowed, in form;  SameHeld == two of them hold the same coefficients
-- Least         == a slot that holds what x holds, and none that does has fewer words
-- shortest-slot == "the shortest slot that holds the answer": the words that are printed are one
-- slot-printed  == and they are all that is printed
-- slot_again    == behind `poly` and a they are read as these words
use Rattle.std.specs.Prelude.{ℕ, zero, suc, ◌+◌, ◌*◌, ◌^◌, ◌<◌, ◌≤◌, max, ◌≡◌, List, [], ◌∷◌, ◌++◌, T, ℤ, pos, length, take}
use Rattle.std.proofs.Common.{sym, ap, ap₂, ◌∙◌, subst, zero-mul, suc-mul, mul-le-mul_right, one-add, arith, ltb→lt, length-take-le, get_or-take}
use Rattle.std.proofs.Math.Nat.{le-max_left, le-max_right, max-le}
use Rattle.std.proofs.Math.Seq.{take-append-add}
use Rattle.algebra.specs.Vec.{Vec, Below, coef, trunc, below_mono, coef_below, coef-trunc}
use Rattle.residue.specs.Word.{num}
use Rattle.tower.specs.Coding.{countᵛ, count_low, count_unique}
use Rattle.tower.specs.Form.{slot_form}
use Rattle.tower.specs.Levels.{degree, El, group, zero_test}
use Rattle.tower.specs.Limits.{p_ok, p_positive, p_narrow, degrees_of}
use Rattle.tower.specs.Stands.{slot_stands, count_told}
use Rattle.tower.specs.Unique.{slot-unslot, slot-form}
use Rattle.tower.specs.Writing.{size, size-pos, degree_word, degree_count, writes, write, write_long, write-zero, write_suc, slot, slot_long}
use Rattle.kernel.specs.Calls.{size_of, coefficients_of, length_ok, form_ok}
use Rattle.kernel.specs.Meaning.{InRange, DegreesIn}
use Rattle.kernel.specs.SlotLaws.{held_below, held-top, held_low, held_few, count-slot, slot_holds}
use Rattle.kernel.specs.SlotMeaning.{Room, room_iff, room-count}
use Rattle.kernel.specs.Slots.{polynomial_of, coefficients_in}
use Rattle.text.specs.Fields.{most_words}
use Rattle.text.specs.Written.{Short, AllShort}
use Rattle.lines.specs.Printing.{place_text, degree_at, form_text, shortest, slot_text}
use Rattle.lines.specs.Reading.{first, meaning_of}
use Rattle.lines.specs.Written.{poly_line, form-none, form_more, form_again}

pub record SlotIn (p n : ℤ) (e x : List ℤ) : Type 0 where
  pub long : T (length_ok n e x)
  pub form : T (form_ok p n e x)

abbrev pub SameHeld : (p n : ℤ) (e : List ℤ) → T (p_ok p) → List ℤ → List ℤ → Type 0
SameHeld p n e h x y = (j : ℕ) → coefficients_in p n e h x j ≡ coefficients_in p n e h y j

pub record Least (p n : ℤ) (e : List ℤ) (h : T (p_ok p)) (x y : List ℤ) : Type 0 where
  pub slot : SlotIn p n e y
  pub same : SameHeld p n e h y x
  pub least : (z : List ℤ) → SlotIn p n e z → SameHeld p n e h z x → length y ≤ length z

-- ---- the words of the first m coefficients
writes-first : {A : Type 0} (o : A) (g : A → List ℤ) (s : ℕ) → ((x : A) → length (g x) ≡ s) → (m k : ℕ) → m ≤ k → (v : Vec A k)
    → take (m * s) (writes g k v) ≡ writes g m (trunc m (coef o k v))
unfolding writes
writes-first o g s long zero k h v = rw (zero-mul s)
writes-first o g s long (suc m) zero h v = absurd (omega arith)
writes-first o g s long (suc m) (suc k) h v =
    let q : suc m * s ≡ length (g v.0) + m * s = omega (arith, suc-mul m s, long v.0) in
    rw (q, take-append-add (g v.0) (writes g k v.1) (m * s)) (ap (λ (l : List ℤ). g v.0 ++ l) (writes-first o g s long m k (omega arith) v.1))

-- ---- the slot of a slot's coefficients up to its degree
module _ (p n : ℤ) (e : List ℤ) (h : T (p_ok p)) where
  abbrev d : List ℕ
  d = degrees_of e

  abbrev i : ℕ
  i = num n

  abbrev p_pos : 0 < num p
  p_pos = p_positive p h

  abbrev o : El (num p) d i
  o = (group (num p) p_pos d i).𝟘

  -- what the length of a slot says
  room : (x : List ℤ) → T (length_ok n e x) → Room (size_of n e) (length x)
  room x t = (room_iff (size_of n e) (length x) (size-pos d i)).0 t

  some_coefficient : (x : List ℤ) → T (length_ok n e x) → 1 ≤ coefficients_of n e x
  some_coefficient x t = let r = room x t in omega (arith, room-count (size_of n e) (length x) (size-pos d i) r, r.some)

  slot-length : (x : List ℤ) → T (length_ok n e x) → length x ≡ 1 + coefficients_of n e x * size_of n e
  slot-length x t = let r = room x t in r.long ∙ ap (λ (k : ℕ). 1 + k * size_of n e) (sym (room-count (size_of n e) (length x) (size-pos d i) r))

  module _ (x : List ℤ) (s : SlotIn p n e x) where
    -- the coefficients of x, how many are kept, and these
    abbrev f : ℕ → El (num p) d i
    f = coefficients_in p n e h x

    abbrev kept : ℕ
    kept = max 1 (degree_count x)

    abbrev v : Vec (El (num p) d i) kept
    v = trunc kept f

    abbrev y : List ℤ
    y = slot (num p) d i kept v

    kept_few : kept ≤ coefficients_of n e x
    kept_few = max-le (some_coefficient x s.long) (held_few p n e h x s.form)

    kept_below : Below o kept f
    kept_below = below_mono o f (le-max_right 1 (degree_count x)) (held_below p n e h x s.form)

    kept_same : (j : ℕ) → coef o kept v j ≡ f j
    kept_same j = coef-trunc o kept f kept_below j

    -- its degree word is that of x
    kept-count : countᵛ (zero_test (num p) p_pos d i) kept v ≡ degree_count x
    kept-count = count_unique (zero_test (num p) p_pos d i) kept v (degree_count x) (record {
      top = λ j q z. held-top p n e h x s.form j q (sym (kept_same j) ∙ z);
      rest = λ j l. kept_same j ∙ held_below p n e h x s.form j l;
    })

    x_count : degree_count x ≡ countᵛ (zero_test (num p) p_pos d i) (coefficients_of n e x) (polynomial_of p n e h (coefficients_of n e x) x)
    x_count = count_told (num p) p_pos d i x 0 (coefficients_of n e x) _ (slot_stands (num p) p_pos d i (coefficients_of n e x) x s.form)

    first-words : take (shortest d i x) x ≡ y
    first-words =
        let k = coefficients_of n e x in
        ap₂ take (one-add (kept * size d i)) (sym (slot-unslot (num p) p_pos d i k x s.form))
        ∙ ap₂ (λ (c : ℕ) (l : List ℤ). degree_word c ∷ l) (sym x_count ∙ sym kept-count)
        (writes-first o (write (num p) d i) (size d i) (write_long (num p) d i) kept k kept_few (polynomial_of p n e h k x))

    y-slot : SlotIn p n e y
    y-slot =
        let r = room x s.long in
        let c = room-count (size_of n e) (length x) (size-pos d i) r in
        let l = slot_long (num p) d i kept v in
        record {
          long = (room_iff (size_of n e) (length y) (size-pos d i)).1 (record {
            count = kept;
            some = le-max_left 1 (degree_count x);
            few = omega (arith, kept_few, c, r.few);
            long = l;
            short = omega (arith, l, slot-length x s.long, mul-le-mul_right (size_of n e) kept_few, r.short);
          });
          form = subst (λ (m : ℕ). T (slot_form (num p) d i m y)) (sym (count-slot p n e h kept v)) (slot-form (num p) p_pos d i kept v);
        }

    y_least : Least p n e h x y
    y_least = record {
      slot = y-slot;
      same = λ j. slot_holds p n e h kept v j ∙ kept_same j;
      least = λ z t q.
          (let k = coefficients_of n e z in
          let low = held_low p n e h x s.form k (λ j l. sym (q j) ∙ coef_below o k (polynomial_of p n e h k z) j l) in
          let few : kept ≤ k = max-le (some_coefficient z t.long) low in
          omega (arith, slot_long (num p) d i kept v, slot-length z t.long, mul-le-mul_right (size_of n e) few));
    }

    -- "the shortest slot that holds the answer"
    pub shortest-slot : Least p n e h x (take (shortest d i x) x)
    shortest-slot = subst (Least p n e h x) (sym first-words) y_least

    pub shortest_inside : shortest d i x ≤ length x
    shortest_inside = omega (arith, slot-length x s.long, mul-le-mul_right (size_of n e) kept_few)

-- ---- all that is printed are these words
form-first : (d : List ℕ) (i : ℕ) (x : List ℤ) (m n : ℕ) → n ≤ m → form_text d i x n ≡ form_text d i (take m x) n
form-first d i x m zero h = form-none d i x ∙ sym (form-none d i (take m x))
form-first d i x m (suc n) h =
    form_more d i x n
    ∙ ap₂ (λ (s : List ℕ) (w : ℤ). s ++ place_text (degree_at d i n) w) (form-first d i x m n (omega arith)) (sym (get_or-take m x n (pos 0) h))
    ∙ sym (form_more d i (take m x) n)

pub slot-printed : (d : List ℕ) (i : ℕ) (x : List ℤ) → shortest d i x ≤ length x
    → slot_text d i x ≡ form_text d (suc i) (take (shortest d i x) x) (length (take (shortest d i x) x))
slot-printed d i x h =
    form-first d (suc i) x (shortest d i x) (shortest d i x) (omega arith)
    ∙ ap (form_text d (suc i) (take (shortest d i x) x)) (sym (length-take-le (shortest d i x) x h))

-- ---- they have at most 10 digits
short_append : (l m : List ℤ) → AllShort l → AllShort m → AllShort (l ++ m)
short_append [] m h k = k
short_append (w ∷ l) m h k = (h.0, short_append l m h.1 k)

short_degree : (c : ℕ) → c ≤ 10 ^ 9 → Short (degree_word c)
short_degree zero h = omega arith
short_degree (suc c) h = omega arith

short_writes : {A : Type 0} (g : A → List ℤ) → ((x : A) → AllShort (g x)) → (k : ℕ) (v : Vec A k) → AllShort (writes g k v)
unfolding writes
short_writes g h zero v = tt
short_writes g h (suc k) v = short_append (g v.0) (writes g k v.1) (h v.0) (short_writes g h k v.1)

module _ (p : ℕ) (p_pos : 0 < p) (small : p < 2 ^ 31) (d : List ℕ) where
  short_slot : (n : ℕ) → ((x : El p d n) → AllShort (write p d n x)) → (k : ℕ) → k ≤ 10 ^ 9 → (v : Vec (El p d n) k) → AllShort (slot p d n k v)
  short_slot n each k h v =
      (short_degree (countᵛ (zero_test p p_pos d n) k v) (omega (arith, count_low (zero_test p p_pos d n) k v)), short_writes (write p d n) each k v)

  short_write : (n : ℕ) → ((j : ℕ) → j < n → degree d j ≤ 64) → (x : El p d n) → AllShort (write p d n x)
  short_write zero h x = rw (write-zero p d x) (omega (arith, ltb→lt x.0 p x.1), tt)
  short_write (suc n) h x =
      rw (write_suc p d n x) (short_slot n (short_write n (λ j l. h j (omega arith))) (degree d n) (omega (arith, h n (omega arith))) x)

few_degrees : (n : ℤ) (e : List ℤ) → DegreesIn n e → (j : ℕ) → j < num n → degree (degrees_of e) j ≤ 64
few_degrees n e r zero l = ((r.degrees 0 (omega arith)).0 l).2
few_degrees n e r (suc zero) l = ((r.degrees 1 (omega arith)).0 l).2
few_degrees n e r (suc (suc zero)) l = ((r.degrees 2 (omega arith)).0 l).2
few_degrees n e r (suc (suc (suc zero))) l = ((r.degrees 3 (omega arith)).0 l).2
few_degrees n e r (suc (suc (suc (suc j)))) l = absurd (omega (arith, r.levels.2))

module _ (p n : ℤ) (e x : List ℤ) (r : InRange p n e) (s : SlotIn p n e x) where
  shorts : AllShort (take (shortest (degrees_of e) (num n) x) x)
  shorts =
      let h = r.modulus in
      let few = kept_few p n e h x s in
      let most = room p n e h x s.long in
      let each = short_write (num p) (p_positive p h) (p_narrow p h) (degrees_of e) (num n) (few_degrees n e r.shape) in
      let count = room-count (size_of n e) (length x) (size-pos (degrees_of e) (num n)) most in
      rw (first-words p n e h x s)
      (short_slot (num p) (p_positive p h) (p_narrow p h) (degrees_of e) (num n) each (max 1 (degree_count x)) (omega (arith, few, count, most.few)) _)

  -- a printed slot of at most 512 words, behind `poly` and a, is read as the shortest slot
  pub slot_again : shortest (degrees_of e) (num n) x ≤ most_words
      → meaning_of (poly_line (slot_text (degrees_of e) (num n) x)) ≡ first (take (shortest (degrees_of e) (num n) x) x)
  slot_again few =
      form_again (degrees_of e) (suc (num n)) x (shortest (degrees_of e) (num n) x) (shortest_inside p n e r.modulus x s) (omega arith) few shorts

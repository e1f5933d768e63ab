-- Laws of what the calls on polynomials share: what slots hold before and after, and the work store afterwards.
--
-- Tested, tested      == what is known where a product or a division gets no number: the tests up to 7, and those that follow
-- tower-is, ring-held == the tower, and the ring, are those of the one tower whose words are given
-- held_below, held-top  == a slot in form holds a polynomial that is zero from its degree word's count on, and not zero under it
-- held_low, held_few   == that count is not above what the polynomial is zero from, nor above its coefficients
-- held-words           == the words of a coefficient
-- held_one             == a coefficient is 1 precisely where its words are those of 1
-- Written              == a slot in form, as long as another;  slot_written == so are the words of as many coefficients as the other has
-- slot_holds           == the words of k coefficients hold them;  filled_holds == a slot holds what it is filled with, if that is zero from its coefficients on
-- zeros_long, zeros-at == m words 0
-- Cleared              == m words 0 and the others as before;  cleared-words == so they are after Done;  cleared-same == in two stores alike
-- changed_said         == what a call says is its number;  changed_zero == Done is none
-- changed_same, filled-same == what two runs leave that give one number
use Rattle.std.specs.Prelude.{ℕ, zero, suc, ◌+◌, ◌-◌, ◌*◌, ◌/◌, ◌<◌, ◌≤◌, ◌≡◌, refl, ◌⊎◌, ◌↔◌, List, [], ◌∷◌, ◌++◌, ℤ, pos, T, length, get_or, drop}
use Rattle.std.proofs.Common.{mul-div_cancel, arith, sym, ap, ap₂, ◌∙◌, subst, inl, inr, leb→le, length-append, length-drop, get_or-append-add, get_or-drop}
use Rattle.std.proofs.Math.Dec.{T_prop}
use Rattle.std.proofs.Math.ListN.{get_or-append}
use Rattle.algebra.specs.Test.{both_l, both_r, le_or_lt}
use Rattle.algebra.specs.Vec.{Vec, Below, coef, trunc, coef-trunc}
use Rattle.residue.specs.Word.{num}
use Rattle.tower.specs.Coding.{block_up}
use Rattle.tower.specs.Form.{seg, copies, is_in_form, zero_words, one_words, slot_form}
use Rattle.tower.specs.Levels.{El, group, ring, zero_test}
use Rattle.tower.specs.Limits.{p_ok, p_positive, degrees_of, slot_count}
use Rattle.tower.specs.Lists.{copies_long}
use Rattle.tower.specs.Stands.{slot_stands, degree_told, count_few}
use Rattle.tower.specs.TowerUnique.{write-one, tower_of-words}
use Rattle.tower.specs.Unique.{coding, laws, slot-unslot, unslot-slot, slot-form}
use Rattle.tower.specs.Work.{product_work}
use Rattle.tower.specs.Writing.{size, size-pos, slot, slot_long, write, read, tower_of}
use Rattle.kernel.specs.Calls.{size_of, coefficients_of, length_ok, form_ok, tower_table, tower_number}
use Rattle.kernel.specs.Meaning.{InRange, TowerHeld, ones, tower-says}
use Rattle.kernel.specs.Refusals.{done, refusal, refusal_inj, Table, Passed, first_of}
use Rattle.kernel.specs.SlotMeaning.{room_iff, room-count}
use Rattle.kernel.specs.Slots.{degree_count, polynomial_of, coefficients_in, slots_table, top_ring, filled, cleared, changed_by}

-- ---- what the tests say
pub record Tested (p n : ℤ) (e t a b c v : List ℤ) (r : ℕ) (more : Table) : Type 0 where
  pub tower : TowerHeld p n e t
  pub long_a : T (length_ok n e a)
  pub long_b : T (length_ok n e b)
  pub long_c : T (length_ok n e c)
  pub form_a : T (form_ok p n e a)
  pub form_b : T (form_ok p n e b)
  pub room : r ≤ coefficients_of n e c
  pub work : product_work (degrees_of e) (num n) ≤ length v
  pub rest : Passed more

pub tested : (p n : ℤ) (e t a b c v : List ℤ) (r : ℕ) (more : Table) → Passed (slots_table p n e t a b c v r ++ more) → Tested p n e t a b c v r more
unfolding tower_number
tested p n e t a b c v r more (modulus, (levels, (degrees, (few, (tower, (lengths, (forms, (room, (work, rest))))))))) = record {
  tower = tower-says p n e t 0 (first_of (tower_table p n e t) (modulus, (levels, (degrees, (few, (tower, tt))))));
  long_a = both_l (length_ok n e a) _ lengths;
  long_b = both_l (length_ok n e b) _ (both_r (length_ok n e a) _ lengths);
  long_c = both_r (length_ok n e b) _ (both_r (length_ok n e a) _ lengths);
  form_a = both_l (form_ok p n e a) _ forms;
  form_b = both_r (form_ok p n e a) _ forms;
  room = leb→le r (coefficients_of n e c) room;
  work = leb→le (product_work (degrees_of e) (num n)) (length v) work;
  rest = rest;
}

-- what is computed in is the one tower whose words are t
module _ (p n : ℤ) (e t : List ℤ) (τ : TowerHeld p n e t) where
  abbrev positive : 0 < num p
  positive = p_positive p τ.range.modulus

  pub tower-is : tower_of (num p) positive (degrees_of e) (num n) t ≡ τ.held.this
  tower-is =
      ap (tower_of (num p) positive (degrees_of e) (num n)) (sym τ.held.holds)
      ∙ tower_of-words (num p) positive (degrees_of e) (num n) (ones p n e τ.range) τ.held.this

  -- and its ring
  pub ring-held : top_ring p n e t τ.range.modulus ≡ ring (num p) (p_positive p τ.range.modulus) (degrees_of e) (num n) τ.held.this
  ring-held = ap (ring (num p) positive (degrees_of e) (num n)) tower-is

-- "The whole answer slot is written, the rest of it zeros in form.": x' is in form, and as long as x
abbrev pub Written : ℤ → ℤ → List ℤ → List ℤ → List ℤ → Type 0
Written p n e x x' = (length x' ≡ length x) × T (form_ok p n e x')

-- ---- what slots hold
module _ (p n : ℤ) (e : List ℤ) (h : T (p_ok p)) where
  abbrev d : List ℕ
  d = degrees_of e

  abbrev p_pos : 0 < num p
  p_pos = p_positive p h

  abbrev o : El (num p) d (num n)
  o = (group (num p) p_pos d (num n)).𝟘

  -- ---- a slot in form
  module _ (x : List ℤ) (f : T (form_ok p n e x)) where
    abbrev k : ℕ
    k = coefficients_of n e x

    pub held_below : Below o (degree_count x) (coefficients_in p n e h x)
    held_below = (degree_told (num p) p_pos d (num n) x 0 k _ (slot_stands (num p) p_pos d (num n) k x f)).rest

    pub held-top : (j : ℕ) → suc j ≡ degree_count x → ¬ (coefficients_in p n e h x j ≡ o)
    held-top = (degree_told (num p) p_pos d (num n) x 0 k _ (slot_stands (num p) p_pos d (num n) k x f)).top

    pub held_low : (i : ℕ) → Below o i (coefficients_in p n e h x) → degree_count x ≤ i
    held_low i low = which (le_or_lt (degree_count x) i)
      where
        which : (degree_count x ≤ i) ⊎ (i < degree_count x) → degree_count x ≤ i
        which (inl q) = q
        which (inr q) = absurd (held-top (degree_count x - 1) (omega arith) (low (degree_count x - 1) (omega arith)))

    pub held_few : degree_count x ≤ k
    held_few = count_few (num p) p_pos d (num n) x 0 k _ (slot_stands (num p) p_pos d (num n) k x f)

    -- the words of the coefficient at j
    pub held-words : (j : ℕ) → j < k → seg (suc (j * size_of n e)) (size_of n e) x ≡ write (num p) d (num n) (coefficients_in p n e h x j)
    held-words j l =
        ap (seg (suc (j * size_of n e)) (size_of n e)) (sym (slot-unslot (num p) p_pos d (num n) k x f))
        ∙ block_up (zero_test (num p) p_pos d (num n)) (size d (num n)) (zero_words d (num n)) (is_in_form (num p) d (num n)) (coding (num p) p_pos d (num n)) k
        (polynomial_of p n e h k x) j l

  -- ---- a slot that is written
  module _ (k : ℕ) (v : Vec (El (num p) d (num n)) k) where
    -- a slot of k coefficients has k of them
    pub count-slot : coefficients_of n e (slot (num p) d (num n) k v) ≡ k
    count-slot =
        let l : length (slot (num p) d (num n) k v) - 1 ≡ k * size_of n e = omega (arith, slot_long (num p) d (num n) k v) in
        ap (λ m. m / size_of n e) l ∙ mul-div_cancel k (size-pos d (num n))

    pub slot_holds : (j : ℕ) → coefficients_in p n e h (slot (num p) d (num n) k v) j ≡ coef o k v j
    slot_holds j =
        ap (λ m. coef o m (polynomial_of p n e h m (slot (num p) d (num n) k v)) j) count-slot ∙ ap (λ u. coef o k u j) (unslot-slot (num p) p_pos d (num n) k v)

  pub slot_written : (x : List ℤ) (v : Vec (El (num p) d (num n)) (coefficients_of n e x)) → T (length_ok n e x)
      → Written p n e x (slot (num p) d (num n) (coefficients_of n e x) v)
  slot_written x v t =
      let s = size_of n e in
      let k = coefficients_of n e x in
      let r = (room_iff s (length x) (size-pos d (num n))).0 t in (
        slot_long (num p) d (num n) k v ∙ ap (λ m. 1 + m * s) (room-count s (length x) (size-pos d (num n)) r) ∙ sym r.long,
        subst (λ m. T (slot_form (num p) d (num n) m (slot (num p) d (num n) k v))) (sym (count-slot k v)) (slot-form (num p) p_pos d (num n) k v),
      )

  pub filled_holds : (x : List ℤ) (f : ℕ → El (num p) d (num n)) → Below o (coefficients_of n e x) f → (j : ℕ) → coefficients_in p n e h (filled p n e x f) j ≡ f j
  filled_holds x f b j = slot_holds (coefficients_of n e x) (trunc (coefficients_of n e x) f) j ∙ coef-trunc o (coefficients_of n e x) f b j

-- ---- a coefficient is 1 where its words are those of 1
module _ (p n : ℤ) (e t x : List ℤ) (r : InRange p n e) (f : T (form_ok p n e x)) (j : ℕ) (l : j < coefficients_of n e x) where
  abbrev one : El (num p) (degrees_of e) (num n)
  one = (top_ring p n e t r.modulus).𝟙

  one-words : write (num p) (degrees_of e) (num n) one ≡ one_words (degrees_of e) (num n)
  one-words = write-one (num p) (p_positive p r.modulus) (degrees_of e) (num n) _ (ones p n e r)

  pub held_one : (seg (suc (j * size_of n e)) (size_of n e) x ≡ one_words (degrees_of e) (num n)) ↔ (coefficients_in p n e r.modulus x j ≡ one)
  held_one =
      let words = held-words p n e r.modulus x f j l in
      let L = laws (num p) (p_positive p r.modulus) (degrees_of e) (num n) in (
        λ q. sym (L.read_write _) ∙ ap (read (num p) (p_positive p r.modulus) (degrees_of e) (num n)) (sym words ∙ q ∙ sym one-words) ∙ L.read_write one,
        λ q. words ∙ ap (write (num p) (degrees_of e) (num n)) q ∙ one-words,
      )

-- ---- m words 0
pub zeros_long : (m : ℕ) → length (copies m (pos 0 ∷ [])) ≡ m
zeros_long m = omega (arith, copies_long m 1 (pos 0 ∷ []) refl)

pub zeros-at : (m k : ℕ) → get_or (copies m (pos 0 ∷ [])) k (pos 0) ≡ pos 0
zeros-at zero k = refl
zeros-at (suc m) zero = refl
zeros-at (suc m) (suc k) = zeros-at m k

-- ---- the work store
pub record Cleared (m : ℕ) (v v' : List ℤ) : Type 0 where
  pub long : length v' ≡ length v
  pub below : (k : ℕ) → k < m → get_or v' k (pos 0) ≡ pos 0
  pub above : (k : ℕ) → m ≤ k → get_or v' k (pos 0) ≡ get_or v k (pos 0)

pub cleared-words : (m : ℕ) (v : List ℤ) → m ≤ length v → Cleared m v (cleared m v)
cleared-words m v h = record {
  long = omega (arith, length-append (copies m (pos 0 ∷ [])) (drop m v), many, length-drop m v);
  below = λ k l. get_or-append (copies m (pos 0 ∷ [])) (drop m v) (pos 0) k (omega (arith, many)) ∙ zeros-at m k;
  above = λ k l. (let q : k ≡ length (copies m (pos 0 ∷ [])) + (k - m) = omega (arith, many) in
      let q' : m + (k - m) ≡ k = omega arith in
      ap (λ i. get_or (cleared m v) i (pos 0)) q
      ∙ get_or-append-add (copies m (pos 0 ∷ [])) (drop m v) (k - m) (pos 0)
      ∙ get_or-drop m v (k - m) (pos 0)
      ∙ ap (λ i. get_or v i (pos 0)) q');
}
  where
    many : length (copies m (pos 0 ∷ [])) ≡ m
    many = zeros_long m

-- two of them have the same words where they are cleared
pub cleared-same : (m : ℕ) (v v' : List ℤ) → m ≤ length v → m ≤ length v' → (k : ℕ) → k < m → get_or (cleared m v) k (pos 0) ≡ get_or (cleared m v') k (pos 0)
cleared-same m v v' h h' k l = (cleared-words m v h).below k l ∙ sym ((cleared-words m v' h').below k l)

-- ---- two runs
-- what a call says is its number
pub changed_said : {A : Type 0} (k : ℕ) (new old : A) → (changed_by k new old).said ≡ refusal k
changed_said zero new old = refl
changed_said (suc k) new old = refl

pub changed_zero : {A : Type 0} (k : ℕ) (new old : A) → (changed_by k new old).said ≡ done → k ≡ 0
changed_zero k new old h = refusal_inj k 0 (sym (changed_said k new old) ∙ h)

-- two runs that give one number leave a part f of the words the same, if it is the same after Done and was the same before
pub changed_same : {A B : Type 0} (f : A → B) (k k' : ℕ) (new old new' old' : A) → k ≡ k' → f new ≡ f new' → f old ≡ f old'
    → f (changed_by k new old).words ≡ f (changed_by k' new' old').words
changed_same f k k' new old new' old' q after before = subst (λ j. f (changed_by k new old).words ≡ f (changed_by j new' old').words) q (go k)
  where
    go : (k : ℕ) → f (changed_by k new old).words ≡ f (changed_by k new' old').words
    go zero = after
    go (suc k) = before

-- what a slot is filled with depends on its length alone
pub filled-same : (p n : ℤ) (e c c' : List ℤ) (F : T (p_ok p) → ℕ → El (num p) (degrees_of e) (num n)) (h h' : T (p_ok p)) → length c ≡ length c'
    → filled p n e c (F h) ≡ filled p n e c' (F h')
filled-same p n e c c' F h h' q =
    ap₂ (λ k m. slot (num p) (degrees_of e) (num n) k (trunc k (F m))) (ap (slot_count (size_of n e)) q) (T_prop (p_ok p) h h')

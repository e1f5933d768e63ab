-- Elements and slots that stand in a list of words, at any level: what their first word tells.
--
-- Stands p d i x w a       == the words of x, of level i, stand at a in w
-- SlotStands p d i k v w a == those of a slot of k coefficients of level i
-- zero_told, zero_iff      == the first word is that of a zero precisely when x is zero
-- count_told, degree_told  == the degree word counts the coefficients up to the highest that is not zero;  count_few == at most k
-- slot_of                  == an element of level i + 1 is a slot of d_(i+1) coefficients of level i;  slot_stands == words in form hold a slot
-- zero_long, one_long      == the zero and the one of level i have S_i words;  zero_stands, one_stands == written, they stand there
use Rattle.std.specs.Prelude.{ℕ, zero, suc, ◌+◌, ◌-◌, ◌*◌, ◌<◌, ◌≤◌, ◌≡◌, refl, ◌↔◌, List, ℤ, pos, T, length, get_or}
use Rattle.std.proofs.Common.{sym, ap, ◌∙◌, subst, add-zero, suc-mul, arith, length-append, take_all}
use Rattle.algebra.specs.Vec.{Vec}
use Rattle.tower.specs.Levels.{degree, El, is_zero, group, zero_test, Tower, ring, Ones}
use Rattle.tower.specs.Writing.{size, size-pos, size-zero, size_suc, degree_word, write, read, write_suc, slot, slot_long, unslot, count_of}
use Rattle.tower.specs.Form.{eq_z, same, seg, copies, zero_words, one_words, slot_form}
use Rattle.tower.specs.Lists.{same_sound, same_eq, seg-at, copies_long}
use Rattle.tower.specs.Coding.{countᵛ, Counts, count_low, count_counts}
use Rattle.tower.specs.Heads.{head_of, bool_eq, zero_head}
use Rattle.tower.specs.Ready.{Positive}
use Rattle.tower.specs.Store.{Put, put-seg}
use Rattle.tower.specs.TowerUnique.{write-one}
use Rattle.tower.specs.Unique.{laws, slot-unslot}

abbrev pub Stands : (p : ℕ) (d : List ℕ) (i : ℕ) → El p d i → List ℤ → ℕ → Type 0
Stands p d i x w a = seg a (size d i) w ≡ write p d i x

abbrev pub SlotStands : (p : ℕ) (d : List ℕ) (i k : ℕ) → Vec (El p d i) k → List ℤ → ℕ → Type 0
SlotStands p d i k v w a = seg a (k * size d i + 1) w ≡ slot p d i k v

-- ---- lengths
pub zero_long : (d : List ℕ) (i : ℕ) → length (zero_words d i) ≡ size d i
unfolding zero_words
zero_long d zero = sym (size-zero d)
zero_long d (suc i) = omega (arith, copies_long (degree d i) (size d i) (zero_words d i) (zero_long d i), size_suc d i)

pub one_long : (d : List ℕ) (i : ℕ) → Positive i d → length (one_words d i) ≡ size d i
unfolding one_words
one_long d zero s = sym (size-zero d)
one_long d (suc i) s =
    let some = s.some i (omega arith) in
    let e : suc (degree d i - 1) ≡ degree d i = omega arith in
    let m : size d i + (degree d i - 1) * size d i ≡ degree d i * size d i = omega (arith, suc-mul (degree d i - 1) (size d i), ap (λ n. n * size d i) e) in
    omega (
      arith,
      length-append (one_words d i) (copies (degree d i - 1) (zero_words d i)),
      one_long d i (record { some = λ k l. s.some k (omega arith) }),
      copies_long (degree d i - 1) (size d i) (zero_words d i) (zero_long d i),
      size_suc d i,
    )

-- ---- the first word
first_word : (a n : ℕ) (w l : List ℤ) → 0 < n → seg a n w ≡ l → get_or w a (pos 0) ≡ get_or l 0 (pos 0)
first_word a n w l h e = ap (λ k. get_or w k (pos 0)) (sym (add-zero a)) ∙ sym (seg-at a n 0 w h) ∙ ap (λ x. get_or x 0 (pos 0)) e

count_word : (c : ℕ) → count_of (degree_word c) ≡ c
count_word zero = refl
count_word (suc c) = refl

module _ (p : ℕ) (p_pos : 0 < p) (d : List ℕ) where
  same-zero : (i : ℕ) (x : El p d i) → same (write p d i x) (zero_words d i) ≡ is_zero p d i x
  same-zero i x =
      let L = laws p p_pos d i in
      let Z = zero_test p p_pos d i in
      bool_eq (same (write p d i x) (zero_words d i)) (is_zero p d i x)
      (λ t.
      (let e : write p d i x ≡ write p d i (group p p_pos d i).𝟘 = same_sound (write p d i x) (zero_words d i) t ∙ sym L.write-zero in
      subst (λ y. T (is_zero p d i y)) (sym (sym (L.read_write x) ∙ ap (read p p_pos d i) e ∙ L.read_write (group p p_pos d i).𝟘)) Z.same))
      (λ t. same_eq (ap (write p d i) (Z.sound x t) ∙ L.write-zero))

  module _ (i : ℕ) (w : List ℤ) (a : ℕ) where
    -- the test of the first word is the ring's test for zero
    pub zero_told : (x : El p d i) → Stands p d i x w a → eq_z (get_or w a (pos 0)) (head_of i) ≡ is_zero p d i x
    zero_told x s =
        ap (λ g. eq_z g (head_of i)) (first_word a (size d i) w (write p d i x) (size-pos d i) s)
        ∙ sym (zero_head p d i (write p d i x) ((laws p p_pos d i).good_write x))
        ∙ same-zero i x

    pub zero_iff : (x : El p d i) → Stands p d i x w a → T (eq_z (get_or w a (pos 0)) (head_of i)) ↔ (x ≡ (group p p_pos d i).𝟘)
    zero_iff x s = (
      λ t. (zero_test p p_pos d i).sound x (subst T (zero_told x s) t),
      λ e. subst T (sym (zero_told x s)) (subst (λ y. T (is_zero p d i y)) (sym e) (zero_test p p_pos d i).same),
    )

    -- the count of the degree word is the writing's own, one more than the degree and 0 for zero
    module _ (k : ℕ) (v : Vec (El p d i) k) (s : SlotStands p d i k v w a) where
      pub count_told : count_of (get_or w a (pos 0)) ≡ countᵛ (zero_test p p_pos d i) k v
      count_told = ap count_of (first_word a (k * size d i + 1) w (slot p d i k v) (omega arith) s) ∙ count_word (countᵛ (zero_test p p_pos d i) k v)

      -- the coefficient under it is not zero, and all from it on are
      pub degree_told : Counts (zero_test p p_pos d i) k v (count_of (get_or w a (pos 0)))
      degree_told = subst (Counts (zero_test p p_pos d i) k v) (sym count_told) (count_counts (zero_test p p_pos d i) k v)

      pub count_few : count_of (get_or w a (pos 0)) ≤ k
      count_few = omega (arith, count_told, count_low (zero_test p p_pos d i) k v)

    pub slot_of : (v : El p d (suc i)) → Stands p d (suc i) v w a → SlotStands p d i (degree d i) v w a
    slot_of v s = ap (λ n. seg a n w) (sym (size_suc d i)) ∙ s ∙ write_suc p d i v

    -- the words of zero, once put, are the ring's 0; those of one its 1
    pub zero_stands : (u : List ℤ) → Put a (zero_words d i) u w → Stands p d i (group p p_pos d i).𝟘 w a
    zero_stands u q = put-seg (size d i) (zero_long d i) q ∙ sym (laws p p_pos d i).write-zero

    pub one_stands : (t : Tower p d i) → Ones p p_pos d i → (u : List ℤ) → Put a (one_words d i) u w → Stands p d i (ring p p_pos d i t).𝟙 w a
    one_stands t o u q = put-seg (size d i) (one_long d i (record { some = o.degrees })) q ∙ sym (write-one p p_pos d i t o)

  -- words in form hold a slot from their beginning
  pub slot_stands : (i k : ℕ) (w : List ℤ) → T (slot_form p d i k w) → SlotStands p d i k (unslot p p_pos d i k w) w 0
  slot_stands i k w h =
      let e = slot-unslot p p_pos d i k w h in
      let n : length w ≡ 1 + k * size d i = sym (ap length e) ∙ slot_long p d i k (unslot p p_pos d i k w) in
      take_all (k * size d i + 1) w (omega arith) ∙ sym e

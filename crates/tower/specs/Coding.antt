-- A type kept in words: its writing, its reading and the test that passes exactly the writings. One step up is shown once: it serves the elements of
-- every level and the slots alike.
--
-- Coding == writing, reading, and that they and the test agree
-- up     == vectors of n elements, behind a degree word
use Prim.Native.Nat.{ℕ, zero, suc, ◌+◌, ◌*◌, ◌<◌, ◌≤◌}
use Rattle.std.specs.Prelude.{◌≡◌, Bool, not, ℤ, pos, negsuc, eqb, length, drop, ◌⊎◌}
use Rattle.std.proofs.Math.Path.{refl, sym, ap₂}
use Rattle.std.proofs.Common.{ap, ◌∙◌, subst, zero-mul, lt_irrefl, not-suc-le-zero, arith, T_not, drop-drop, take_all, inl, inr}
use mathlib.Core.List.{List, [], ◌∷◌, ◌++◌, append_assoc}
use Rattle.std.proofs.Math.Nat.{suc-mul}
use Rattle.std.specs.Int.Signed.{lt_z}
use Rattle.std.proofs.Math.Dec.{T, eqb→eq, eqb_refl, not_T}
use Rattle.std.proofs.Math.ListN.{take, length-drop}
use Rattle.std.proofs.Math.Seq.{take_at, drop_at, take-add}
use Rattle.algebra.specs.Test.{ZeroTest, both, both_l, both_r, all_to_use, all_to-make, le_or_lt}
use Rattle.algebra.specs.Vec.{Vec, coef, zeroᵛ, topped, topped-top, coef_below, coef-zero}
use Rattle.algebra.specs.Shape.{Shape, null, lead, count, strip, Stripped, strip_ok, strip_null}
use Rattle.tower.specs.Writing.{degree_word, writes, reads, writes_long, degree_and, behind_degree, count_of}
use Rattle.tower.specs.Form.{eq_z, same, implies, copies, degree_ok, coefficient_ok, form_over}
use Rattle.tower.specs.Lists.{implies_use, implies-make, same_sound, same_eq, degree-is, degree-low, degree-make, at-degree, at_degree', over_degree, over_degree', append_nil}

-- A is kept in s words, its element o as z, and `good` tells which words hold an element
pub record Coding (A : Type 0) (o : A) (s : ℕ) (z : List ℤ) (good : List ℤ → Bool) : Type 0 where
  pub write : A → List ℤ
  pub read : List ℤ → A
  pub long : (x : A) → length (write x) ≡ s
  pub read_write : (x : A) → read (write x) ≡ x
  pub write-zero : write o ≡ z
  pub good_write : (x : A) → T (good (write x))
  pub write_read : (w : List ℤ) → T (good w) → write (read w) ≡ w

-- ---- the degree of a vector, by two facts about its count
module _ {A : Type 0} {o : A} {z : A → Bool} (Z : ZeroTest o z) where
  -- one more than the degree: 0 for the zero vector
  abbrev pub countᵛ : (n : ℕ) → Vec A n → ℕ
  countᵛ n v = count (strip z n v)

  pub record Counts (n : ℕ) (v : Vec A n) (c : ℕ) : Type 0 where
    pub top : (k : ℕ) → suc k ≡ c → ¬ (coef o n v k ≡ o)
    pub rest : (k : ℕ) → c ≤ k → coef o n v k ≡ o

  pub count_low : (n : ℕ) (v : Vec A n) → countᵛ n v ≤ n
  count_low n v = go (strip z n v) (strip_ok Z n v)
    where
      go : (s : Shape A) → Stripped o n v s → count s ≤ n
      go null h = omega arith
      go (lead e w c) h = h.0

  pub count_counts : (n : ℕ) (v : Vec A n) → Counts n v (countᵛ n v)
  count_counts n v = go (strip z n v) (strip_ok Z n v)
    where
      go : (s : Shape A) → Stripped o n v s → Counts n v (count s)
      go null h = record { top = λ k e x. lt_irrefl 0 (omega arith); rest = λ k l. h k }
      go (lead e w c) h = record {
        top = λ k q x. (let z : k ≡ e = omega arith in h.1 (sym (topped-top o e w c) ∙ sym (h.2 e) ∙ ap (coef o n v) (sym z) ∙ x));
        rest = λ k l. h.2 k ∙ coef_below o (suc e) (topped e w c) k l;
      }

  -- the two facts settle the count
  pub count_unique : (n : ℕ) (v : Vec A n) (c : ℕ) → Counts n v c → countᵛ n v ≡ c
  count_unique n v c h = go (strip z n v) (strip_ok Z n v)
    where
      not_above : (e : ℕ) → ¬ (coef o n v e ≡ o) → (c ≤ e) ⊎ (e < c) → e < c
      not_above e nz (inl l) = absurd (nz (h.rest e l))
      not_above e nz (inr l) = l

      null_count : (c : ℕ) → Counts n v c → ((k : ℕ) → coef o n v k ≡ o) → 0 ≡ c
      null_count zero h z = refl
      null_count (suc c) h z = absurd (h.top c refl (z c))

      lead-count : (e : ℕ) → ((k : ℕ) → suc e ≤ k → coef o n v k ≡ o) → (c : ℕ) → Counts n v c → e < c → suc e ≡ c
      lead-count e z zero h l = absurd (lt_irrefl 0 (omega arith))
      lead-count e z (suc c) h l = equal (le_or_lt (suc e) c)
        where
          equal : (suc e ≤ c) ⊎ (c < suc e) → suc e ≡ suc c
          equal (inl q) = absurd (h.top c refl (z c q))
          equal (inr q) = omega arith

      go : (s : Shape A) → Stripped o n v s → count s ≡ c
      go null z = null_count c h z
      go (lead e w b) z =
          lead-count e (λ k l. z.2 k ∙ coef_below o (suc e) (topped e w b) k l) c h
          (not_above e (λ x. z.1 (sym (topped-top o e w b) ∙ sym (z.2 e) ∙ x)) (le_or_lt c e))

  pub count-zero : (n : ℕ) → countᵛ n (zeroᵛ o n) ≡ 0
  count-zero n = ap count (strip_null Z n (zeroᵛ o n) (coef-zero o n))

module _ {A : Type 0} {o : A} {zero? : A → Bool} (Z : ZeroTest o zero?) (s : ℕ) (z : List ℤ) (good : List ℤ → Bool) (C : Coding A o s z good) where
  pub reads-writes : (n : ℕ) (v : Vec A n) (l : List ℤ) → reads C.read s n (writes C.write n v ++ l) ≡ v
  unfolding writes reads
  reads-writes zero v l = refl
  reads-writes (suc n) v l =
      let a : (C.write v.0 ++ writes C.write n v.1) ++ l ≡ C.write v.0 ++ (writes C.write n v.1 ++ l) = append_assoc (C.write v.0) (writes C.write n v.1) l in
      rw (a, take_at (C.write v.0) (writes C.write n v.1 ++ l) s (C.long v.0), drop_at (C.write v.0) (writes C.write n v.1 ++ l) s (C.long v.0))
      (λ i. (C.read_write v.0 i, reads-writes n v.1 l i))

  -- the block at k
  pub block_writes : (n : ℕ) (v : Vec A n) (k : ℕ) (l : List ℤ) → k < n → take s (drop (k * s) (writes C.write n v ++ l)) ≡ C.write (coef o n v k)
  unfolding writes
  block_writes zero v k l q = absurd (not-suc-le-zero q)
  block_writes (suc n) v zero l q =
      rw (zero-mul s, append_assoc (C.write v.0) (writes C.write n v.1) l) (take_at (C.write v.0) (writes C.write n v.1 ++ l) s (C.long v.0))
  block_writes (suc n) v (suc k) l q =
      let e : suc k * s ≡ s + k * s = omega (arith, suc-mul k s) in
      rw (e, append_assoc (C.write v.0) (writes C.write n v.1) l, ← (drop-drop (k * s) s (C.write v.0 ++ (writes C.write n v.1 ++ l))), drop_at (C.write v.0) (writes C.write n v.1 ++ l) s (C.long v.0))
      (block_writes n v.1 k l (omega arith))

  pub writes-zero : (n : ℕ) → writes C.write n (zeroᵛ o n) ≡ copies n z
  unfolding writes
  writes-zero zero = refl
  writes-zero (suc n) = ap₂ ◌++◌ C.write-zero (writes-zero n)

  pub coef-reads : (n : ℕ) (l : List ℤ) (k : ℕ) → k < n → coef o n (reads C.read s n l) k ≡ C.read (take s (drop (k * s) l))
  unfolding reads
  coef-reads zero l k q = absurd (not-suc-le-zero q)
  coef-reads (suc n) l zero q = rw (zero-mul s)
  coef-reads (suc n) l (suc k) q =
      let e : suc k * s ≡ s + k * s = omega (arith, suc-mul k s) in
      rw (e, ← (drop-drop (k * s) s l)) (coef-reads n (drop s l) k (omega arith))

  -- what is read and written again is the words read
  pub writes_front : (n : ℕ) (l : List ℤ) → n * s ≤ length l → ((k : ℕ) → k < n → T (good (take s (drop (k * s) l)))) → writes C.write n (reads C.read s n l) ≡ take (n * s) l
  unfolding writes reads
  writes_front zero l e h = sym (ap (λ m. take m l) (zero-mul s))
  writes_front (suc n) l e h =
      let first : T (good (take s l)) = rw (zero-mul s) at (h 0 (omega arith)) in
      let more : (k : ℕ) → k < n → T (good (take s (drop (k * s) (drop s l)))) =
      λ k q. (let f : suc k * s ≡ s + k * s = omega (arith, suc-mul k s) in rw (drop-drop (k * s) s l) (rw f at (h (suc k) (omega arith)))) in
      let g : suc n * s ≡ s + n * s = omega (arith, suc-mul n s) in
      ap₂ ◌++◌ (C.write_read (take s l) first) (writes_front n (drop s l) (omega (arith, length-drop s l)) more) ∙ sym (ap (λ m. take m l) g ∙ take-add s (n * s) l)

  pub writes_reads : (n : ℕ) (l : List ℤ) → length l ≡ n * s → ((k : ℕ) → k < n → T (good (take s (drop (k * s) l)))) → writes C.write n (reads C.read s n l) ≡ l
  writes_reads n l e h = writes_front n l (omega arith) h ∙ take_all (n * s) l (omega arith)

  -- ---- the level above: a degree word, and the coefficients
  abbrev write_up : (n : ℕ) → Vec A n → List ℤ
  write_up n v = degree_and zero? C.write n v

  abbrev read_up : (n : ℕ) → List ℤ → Vec A n
  read_up n w = behind_degree s C.read n w

  module _ (n : ℕ) where
    pub long_up : (v : Vec A n) → length (write_up n v) ≡ n * s + 1
    long_up v = omega (arith, writes_long C.write s C.long n v)

    pub read-write-up : (v : Vec A n) → read_up n (write_up n v) ≡ v
    read-write-up v = ap (reads C.read s n) (sym (append_nil (writes C.write n v))) ∙ reads-writes n v []

    pub write-zero-up : write_up n (zeroᵛ o n) ≡ negsuc 0 ∷ copies n z
    write-zero-up = ap₂ ◌∷◌ (ap degree_word (count-zero Z n)) (writes-zero n)

    pub block_up : (v : Vec A n) (k : ℕ) → k < n → take s (drop (k * s) (writes C.write n v)) ≡ C.write (coef o n v k)
    block_up v k q = ap (λ t. take s (drop (k * s) t)) (sym (append_nil (writes C.write n v))) ∙ block_writes n v k [] q

    write_same : (x y : A) → C.write x ≡ C.write y → x ≡ y
    write_same x y e = sym (C.read_write x) ∙ ap C.read e ∙ C.read_write y

    coefficient_up : (v : Vec A n) (k : ℕ) → k < n → T (coefficient_ok good z (degree_word (countᵛ Z n v)) k (take s (drop (k * s) (writes C.write n v))))
    coefficient_up v k q =
        let f = count_counts Z n v in
        let c = countᵛ Z n v in
        let x = coef o n v k in
        rw (block_up v k q)
        (both (good (C.write x)) _ (C.good_write x)
        (both (implies (eq_z (pos k) (degree_word c)) (not (same (C.write x) z))) _
        (implies-make (eq_z (pos k) (degree_word c)) _ (λ t. not_T (same (C.write x) z) (λ u. f.top k (at-degree k c t) (write_same x o (same_sound (C.write x) z u ∙ sym C.write-zero)))))
        (implies-make (lt_z (degree_word c) (pos k)) _ (λ t. same_eq (ap C.write (f.rest k (over_degree k c t)) ∙ C.write-zero)))))

    pub good_write-up : (v : Vec A n) → T (form_over n s z good (write_up n v))
    unfolding form_over
    good_write-up v =
        both (eqb (suc (length (writes C.write n v))) (n * s + 1)) _ (subst (λ m. T (eqb m (n * s + 1))) (sym (long_up v)) (eqb_refl (n * s + 1)))
        (both (degree_ok n (degree_word (countᵛ Z n v))) _ (degree-make n (countᵛ Z n v) (count_low Z n v))
        (all_to-make n _ (coefficient_up v)))

    -- from the test to the element
    counts_read : (g : ℤ) (l : List ℤ) → T (degree_ok n g) → ((k : ℕ) → k < n → T (coefficient_ok good z g k (take s (drop (k * s) l)))) → Counts Z n (reads C.read s n l) (count_of g)
    counts_read g l dg h = record { top = tops; rest = λ k e. zeros k e (le_or_lt n k) }
      where
        tops : (k : ℕ) → suc k ≡ count_of g → ¬ (coef o n (reads C.read s n l) k ≡ o)
        tops k e x =
            let low = degree-low n g dg in
            let q : k < n = omega arith in
            let b = take s (drop (k * s) l) in
            let c = h k q in
            let r : C.read b ≡ o = sym (coef-reads n l k q) ∙ x in
            let w : b ≡ z = sym (C.write_read b (both_l (good b) _ c)) ∙ ap C.write r ∙ C.write-zero in
            let t : T (eq_z (pos k) g) = subst (λ y. T (eq_z (pos k) y)) (degree-is n g dg) (at_degree' k (count_of g) e) in
            T_not (same b z) (implies_use (eq_z (pos k) g) _ (both_l (implies (eq_z (pos k) g) (not (same b z))) _ (both_r (good b) _ c)) t) (same_eq w)

        zeros : (k : ℕ) → count_of g ≤ k → (n ≤ k) ⊎ (k < n) → coef o n (reads C.read s n l) k ≡ o
        zeros k e (inl q) = coef_below o n (reads C.read s n l) k q
        zeros k e (inr q) =
            let b = take s (drop (k * s) l) in
            let c = h k q in
            let t : T (lt_z g (pos k)) = subst (λ y. T (lt_z y (pos k))) (degree-is n g dg) (over_degree' k (count_of g) e) in
            let w : b ≡ z = same_sound b z (implies_use (lt_z g (pos k)) _ (both_r (implies (eq_z (pos k) g) (not (same b z))) _ (both_r (good b) _ c)) t) in
            coef-reads n l k q ∙ ap C.read (w ∙ sym C.write-zero) ∙ C.read_write o

    write-read-at : (g : ℤ) (l : List ℤ) → length (g ∷ l) ≡ n * s + 1 → T (degree_ok n g) → ((k : ℕ) → k < n → T (coefficient_ok good z g k (take s (drop (k * s) l)))) → write_up n (read_up n (g ∷ l)) ≡ g ∷ l
    write-read-at g l e dg h =
        ap₂ ◌∷◌
        (ap degree_word (count_unique Z n (reads C.read s n l) (count_of g) (counts_read g l dg h)) ∙ degree-is n g dg)
        (writes_reads n l (omega arith) (λ k q. both_l (good (take s (drop (k * s) l))) _ (h k q)))

    pub write-read-up : (w : List ℤ) → T (form_over n s z good w) → write_up n (read_up n w) ≡ w
    unfolding form_over
    write-read-up [] h = absurd (lt_irrefl 0 (omega (arith, eqb→eq 0 (n * s + 1) (both_l (eqb 0 (n * s + 1)) _ h))))
    write-read-up (g ∷ l) h =
        let u = both_r (eqb (length (g ∷ l)) (n * s + 1)) _ h in
        let dg = both_l (degree_ok n g) _ u in
        write-read-at g l (eqb→eq (length (g ∷ l)) (n * s + 1) (both_l (eqb (length (g ∷ l)) (n * s + 1)) _ h)) dg
        (all_to_use n _ (both_r (degree_ok n g) _ u))

    abbrev pub up : Coding (Vec A n) (zeroᵛ o n) (n * s + 1) (negsuc 0 ∷ copies n z) (form_over n s z good)
    up = record {
      write = write_up n;
      read = read_up n;
      long = long_up;
      read_write = read-write-up;
      write-zero = write-zero-up;
      good_write = good_write-up;
      write_read = write-read-up;
    }

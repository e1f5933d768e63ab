-- The words of a tower: they pass the test precisely when they are the writing of exactly one tower. It needs p ≥ 2 and degrees of at least 1 (`Ones`), so that
-- 1 and 0 differ at every level.
--
-- write-one == the words of 1
-- tower_iff == the test passes exactly the writings;  tower_of-words, words-tower_of == read back, written back
use Rattle.std.specs.Prelude.{◌≡◌, Bool, ◌↔◌, ℤ, eqb, length, drop}
use Rattle.std.proofs.Math.Path.{refl, sym, ap, ap₂, subst}
use Rattle.std.proofs.Common.{◌∙◌, lt_irrefl, not-suc-le-zero, mod-eq_of_lt, sub-one, arith, length-drop}
use mathlib.Core.List.{List, [], ◌∷◌, ◌++◌, append_assoc}
use Prim.Native.Nat.{ℕ, zero, suc, ◌+◌, ◌-◌, ◌*◌, ◌<◌, ◌≤◌}
use Rattle.std.proofs.Math.IntN.{pos}
use Rattle.std.proofs.Math.Dec.{T, eqb→eq, eqb_refl}
use Rattle.std.proofs.Math.ListN.{take, length-append, take-append-drop}
use Rattle.std.proofs.Math.Seq.{take_at, drop_at, take_all}
use Rattle.algebra.specs.Test.{ZeroTest, both, both_l, both_r, all_to, all_to_use, all_to-make}
use Rattle.algebra.specs.Vec.{Vec, coef, trunc, zeroᵛ, topped, coef-zero}
use Rattle.algebra.specs.Series.{const}
use Rattle.algebra.proofs.Quotient.{one-is}
use Rattle.tower.specs.Levels.{degree, El, is_zero, Tower, ring, zero_test, Ones, fewer, one_not_zero}
use Rattle.tower.specs.Writing.{size, size_suc, modulus_size, writes, reads, writes_long, degree_and, behind_degree, write, unslot, tower_words, tower_of}
use Rattle.tower.specs.Form.{eq_z, same, copies, zero_words, is_in_form, one_words, modulus_over, modulus_form, tower_form}
use Rattle.tower.specs.Lists.{eq_z_sound, same_sound, same_eq}
use Rattle.tower.specs.Coding.{Coding, Counts, count_unique, reads-writes, block_writes, writes-zero, writes_front}
use Rattle.tower.specs.Unique.{Exactly, coding}

-- ---- one
trunc-zeros : {A : Type 0} (o : A) (n : ℕ) → trunc n (λ _. o) ≡ zeroᵛ o n
trunc-zeros o zero = refl
trunc-zeros o (suc n) = λ i. (o, trunc-zeros o n i)

module _ {A : Type 0} {o : A} {zero? : A → Bool} (Z : ZeroTest o zero?) (s : ℕ) (z : List ℤ) (good : List ℤ → Bool) (C : Coding A o s z good) (u : A) (one : List ℤ) (w1 : C.write u ≡ one) where
  unit_counts : (n : ℕ) → ¬ (u ≡ o) → Counts Z (suc n) (u, zeroᵛ o n) 1
  unit_counts n ne = record { top = tops; rest = zeros }
    where
      tops : (k : ℕ) → suc k ≡ 1 → ¬ (coef o (suc n) (u, zeroᵛ o n) k ≡ o)
      tops zero e x = ne x
      tops (suc k) e x = lt_irrefl 0 (omega arith)

      zeros : (k : ℕ) → 1 ≤ k → coef o (suc n) (u, zeroᵛ o n) k ≡ o
      zeros zero e = absurd (lt_irrefl 0 (omega arith))
      zeros (suc k) e = coef-zero o n k

  -- the words of one, one level up
  pub write_unit : (n : ℕ) → ¬ (u ≡ o) → degree_and zero? C.write (suc n) (u, zeroᵛ o n) ≡ pos 0 ∷ (one ++ copies n z)
  unfolding writes
  write_unit n ne = rw (count_unique Z (suc n) (u, zeroᵛ o n) 1 (unit_counts n ne), w1, writes-zero Z s z good C n) refl

  -- ---- the words of a polynomial of degree n with the leading coefficient u
  pub modulus_words : (n : ℕ) → Vec A n → List ℤ
  modulus_words n v = pos n ∷ (writes C.write n v ++ one)

  writes-topped : (n : ℕ) (v : Vec A n) → writes C.write (suc n) (topped n v u) ≡ writes C.write n v ++ one
  unfolding writes
  writes-topped zero v = append_nil (C.write u) ∙ w1
    where
      append_nil : (l : List ℤ) → l ++ [] ≡ l
      append_nil [] = refl
      append_nil (x ∷ l) = ap (λ t. x ∷ t) (append_nil l)
  writes-topped (suc n) v = ap (λ l. C.write v.0 ++ l) (writes-topped n v.1) ∙ sym (append_assoc (C.write v.0) (writes C.write n v.1) one)

  pub modulus-is : (n : ℕ) (v : Vec A n) → pos n ∷ writes C.write (suc n) (topped n v u) ≡ modulus_words n v
  unfolding modulus_words
  modulus-is n v = ap (λ l. pos n ∷ l) (writes-topped n v)

  one_long : length one ≡ s
  one_long = ap length (sym w1) ∙ C.long u

  pub modulus_long : (n : ℕ) (v : Vec A n) → length (modulus_words n v) ≡ n * s + 1 + s
  unfolding modulus_words
  modulus_long n v = omega (arith, length-append (writes C.write n v) one, one_long, writes_long C.write s C.long n v)

  pub modulus-read : (n : ℕ) (v : Vec A n) → behind_degree s C.read n (modulus_words n v) ≡ v
  unfolding modulus_words
  modulus-read n v = reads-writes Z s z good C n v one

  pub modulus_good : (n : ℕ) (v : Vec A n) → T (modulus_over n s one good (modulus_words n v))
  unfolding modulus_words modulus_over
  modulus_good n v =
      let l = writes C.write n v ++ one in
      let last : take s (drop (n * s) l) ≡ one =
      ap (take s) (drop_at (writes C.write n v) one (n * s) (writes_long C.write s C.long n v)) ∙ take_all s one (omega (arith, one_long)) in
      both (eqb (suc (length l)) (n * s + 1 + s)) _ (subst (λ m. T (eqb m (n * s + 1 + s))) (sym (modulus_long n v)) (eqb_refl (n * s + 1 + s)))
      (both (eqb n n) _ (eqb_refl n)
      (both (all_to (suc n) (λ k. good (take s (drop (k * s) l)))) _
      (both (all_to n (λ k. good (take s (drop (k * s) l)))) _
      (all_to-make n _ (λ k q. subst (λ b. T (good b)) (sym (block_writes Z s z good C n v k one q)) (C.good_write (coef o n v k))))
      (subst (λ b. T (good b)) (w1 ∙ sym last) (C.good_write u)))
      (same_eq last)))

  modulus-at : (n : ℕ) (l : List ℤ) → length l ≡ n * s + s → ((k : ℕ) → k < n → T (good (take s (drop (k * s) l)))) → T (same (take s (drop (n * s) l)) one)
      → writes C.write n (reads C.read s n l) ++ one ≡ l
  modulus-at n l e h t =
      let b = drop (n * s) l in
      let lb : length b ≤ s = omega (arith, length-drop (n * s) l) in
      let last : b ≡ one = sym (take_all s b lb) ∙ same_sound (take s b) one t in
      ap₂ ◌++◌ (writes_front Z s z good C n l (omega arith) h) (sym last) ∙ take-append-drop (n * s) l

  pub modulus_back : (n : ℕ) (w : List ℤ) → T (modulus_over n s one good w) → modulus_words n (behind_degree s C.read n w) ≡ w
  unfolding modulus_words modulus_over
  modulus_back n [] h = absurd (lt_irrefl 0 (omega (arith, eqb→eq 0 (n * s + 1 + s) (both_l (eqb 0 (n * s + 1 + s)) _ h))))
  modulus_back n (g ∷ l) h =
      let e = eqb→eq (length (g ∷ l)) (n * s + 1 + s) (both_l (eqb (length (g ∷ l)) (n * s + 1 + s)) _ h) in
      let t = both_r (eqb (length (g ∷ l)) (n * s + 1 + s)) _ h in
      let v = both_r (eq_z g (pos n)) _ t in
      let all = all_to (suc n) (λ k. good (take s (drop (k * s) l))) in
      ap₂ ◌∷◌ (sym (eq_z_sound g (pos n) (both_l (eq_z g (pos n)) _ t))) (modulus-at n l (omega arith) (λ k q. all_to_use (suc n) _ (both_l all _ v) k (omega arith)) (both_r all _ v))

module _ (p : ℕ) (p_pos : 0 < p) (d : List ℕ) where
  one-words : (n m : ℕ) (t : Tower p d n) → 1 ≤ m → ¬ ((ring p p_pos d n t).𝟙 ≡ (ring p p_pos d n t).𝟘) → write p d n (ring p p_pos d n t).𝟙 ≡ one_words d n
      → degree_and (is_zero p d n) (write p d n) m (trunc m (const (ring p p_pos d n t) (ring p p_pos d n t).𝟙)) ≡ pos 0 ∷ (one_words d n ++ copies (m - 1) (zero_words d n))
  one-words n zero t h ne e = absurd (not-suc-le-zero h)
  one-words n (suc m) t h ne e =
      let R = ring p p_pos d n t in
      ap (λ v. degree_and (is_zero p d n) (write p d n) (suc m) (R.𝟙, v)) (trunc-zeros R.𝟘 m)
      ∙ write_unit (zero_test p p_pos d n) (size d n) (zero_words d n) (is_in_form p d n) (coding p p_pos d n) R.𝟙 (one_words d n) e m ne
      ∙ ap (λ k. pos 0 ∷ (one_words d n ++ copies k (zero_words d n))) (sym (sub-one (suc m)))

  pub write-one : (n : ℕ) (t : Tower p d n) → Ones p p_pos d n → write p d n (ring p p_pos d n t).𝟙 ≡ one_words d n
  unfolding write one_words
  write-one zero t o = ap (λ m. pos m ∷ []) (mod-eq_of_lt {n = 1} {m = p} o.p_two)
  write-one (suc n) t o =
      let R = ring p p_pos d n t.0 in
      let some = o.degrees n (omega arith) in
      ap (degree_and (is_zero p d n) (write p d n) (degree d n)) (one-is R (degree d n) t.1 some)
      ∙ one-words n (degree d n) t.0 some (one_not_zero p p_pos d n t.0 (fewer p p_pos d n o)) (write-one n t.0 (fewer p p_pos d n o))

  -- ---- the topmost polynomial, and the others
  module _ (n : ℕ) (t : Tower p d n) (o : Ones p p_pos d n) where
    abbrev top : Vec (El p d n) (degree d n) → List ℤ
    top v = modulus_words (zero_test p p_pos d n) (size d n) (zero_words d n) (is_in_form p d n) (coding p p_pos d n) (ring p p_pos d n t).𝟙 (one_words d n) (write-one n t o) (degree d n) v

    pub top-is : (v : Vec (El p d n) (degree d n)) → pos (degree d n) ∷ writes (write p d n) (suc (degree d n)) (topped (degree d n) v (ring p p_pos d n t).𝟙) ≡ top v
    top-is v = modulus-is (zero_test p p_pos d n) (size d n) (zero_words d n) (is_in_form p d n) (coding p p_pos d n) (ring p p_pos d n t).𝟙 (one_words d n) (write-one n t o) (degree d n) v

    top_long : (v : Vec (El p d n) (degree d n)) → length (top v) ≡ modulus_size d n
    top_long v = modulus_long (zero_test p p_pos d n) (size d n) (zero_words d n) (is_in_form p d n) (coding p p_pos d n) (ring p p_pos d n t).𝟙 (one_words d n) (write-one n t o) (degree d n) v ∙ ap (λ m. m + size d n) (sym (size_suc d n))

    top_read : (v : Vec (El p d n) (degree d n)) → unslot p p_pos d n (degree d n) (top v) ≡ v
    top_read v = modulus-read (zero_test p p_pos d n) (size d n) (zero_words d n) (is_in_form p d n) (coding p p_pos d n) (ring p p_pos d n t).𝟙 (one_words d n) (write-one n t o) (degree d n) v

    top_good : (v : Vec (El p d n) (degree d n)) → T (modulus_form p d n (top v))
    top_good v = modulus_good (zero_test p p_pos d n) (size d n) (zero_words d n) (is_in_form p d n) (coding p p_pos d n) (ring p p_pos d n t).𝟙 (one_words d n) (write-one n t o) (degree d n) v

    top_back : (w : List ℤ) → T (modulus_form p d n w) → top (unslot p p_pos d n (degree d n) w) ≡ w
    top_back w h = modulus_back (zero_test p p_pos d n) (size d n) (zero_words d n) (is_in_form p d n) (coding p p_pos d n) (ring p p_pos d n t).𝟙 (one_words d n) (write-one n t o) (degree d n) w h

  pub tower_split : (n : ℕ) (o : Ones p p_pos d (suc n)) (t : Tower p d (suc n)) → tower_words p p_pos d (suc n) t ≡ top n t.0 (fewer p p_pos d n o) t.1 ++ tower_words p p_pos d n t.0
  unfolding tower_words
  tower_split n o t = ap (λ l. l ++ tower_words p p_pos d n t.0) (top-is n t.0 (fewer p p_pos d n o) t.1)

  pub tower_of-words : (n : ℕ) (o : Ones p p_pos d n) (t : Tower p d n) → tower_of p p_pos d n (tower_words p p_pos d n t) ≡ t
  unfolding tower_of
  tower_of-words zero o t = refl
  tower_of-words (suc n) o t =
      let m = top n t.0 (fewer p p_pos d n o) t.1 in
      let l = tower_words p p_pos d n t.0 in
      let e = top_long n t.0 (fewer p p_pos d n o) t.1 in
      rw (tower_split n o t, drop_at m l (modulus_size d n) e, take_at m l (modulus_size d n) e)
      (λ i. (tower_of-words n (fewer p p_pos d n o) t.0 i, top_read n t.0 (fewer p p_pos d n o) t.1 i))

  pub tower_good : (n : ℕ) (o : Ones p p_pos d n) (t : Tower p d n) → T (tower_form p d n (tower_words p p_pos d n t))
  unfolding tower_form
  tower_good zero o t = unfold tower_words in tt
  tower_good (suc n) o t =
      let m = top n t.0 (fewer p p_pos d n o) t.1 in
      let l = tower_words p p_pos d n t.0 in
      let e = top_long n t.0 (fewer p p_pos d n o) t.1 in
      rw (tower_split n o t, drop_at m l (modulus_size d n) e, take_at m l (modulus_size d n) e)
      (both (modulus_form p d n m) _ (top_good n t.0 (fewer p p_pos d n o) t.1) (tower_good n (fewer p p_pos d n o) t.0))

  pub words-tower_of : (n : ℕ) (o : Ones p p_pos d n) (w : List ℤ) → T (tower_form p d n w) → tower_words p p_pos d n (tower_of p p_pos d n w) ≡ w
  unfolding tower_form tower_of
  words-tower_of zero o [] h = unfold tower_words in refl
  words-tower_of zero o (x ∷ w) h = absurd (lt_irrefl 0 (omega (arith, eqb→eq (length (x ∷ w)) 0 h)))
  words-tower_of (suc n) o w h =
      let m = modulus_size d n in
      tower_split n o (tower_of p p_pos d (suc n) w)
      ∙ ap₂ ◌++◌
      (top_back n (tower_of p p_pos d n (drop m w)) (fewer p p_pos d n o) (take m w) (both_l (modulus_form p d n (take m w)) _ h))
      (words-tower_of n (fewer p p_pos d n o) (drop m w) (both_r (modulus_form p d n (take m w)) _ h))
      ∙ take-append-drop m w

  pub tower_iff : (n : ℕ) (o : Ones p p_pos d n) (w : List ℤ) → T (tower_form p d n w) ↔ Exactly (tower_words p p_pos d n) w
  tower_iff n o w = (
    λ h. record { this = tower_of p p_pos d n w; holds = words-tower_of n o w h; only = λ y e. sym (tower_of-words n o y) ∙ ap (tower_of p p_pos d n) e },
    λ e. subst (λ v. T (tower_form p d n v)) e.holds (tower_good n o e.this),
  )

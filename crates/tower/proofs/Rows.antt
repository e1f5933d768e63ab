-- Laws of the walk over a degree word and its elements.
use mathlib.Core.Path.{◌≡◌, refl, sym, ap, ap₂, ◌∙◌}
use mathlib.Core.Bool.{Bool, true, false, ◌&&◌}
use mathlib.Core.List.{List}
use Prim.Native.Nat.{ℕ, zero, suc, ◌+◌, ◌-◌, ◌*◌, ◌<◌, ◌≤◌}
use native.Mathlib.Nat.{lt_irrefl, add-zero}
use native.Mathlib.Numerals.{sub-one}
use native.Mathlib.Omega.{arith}
use lib.IntN.{ℤ, pos}
use lib.Dec.{eqb}
use lib.ListN.{length, get_or}
use borrow.Author.Tests.{eq-eqb}
use Rattle.algebra.specs.Test.{all_to}
use Rattle.tower.proofs.Laws.{and_false_l, and_false_r, and_true_l, all_to_bad, all_to_more, row}
use Rattle.tower.specs.Form.{eq_z, seg, zero_words, residue_ok, degree_ok, coefficient_ok, form_over, is_in_form, in_form-zero, in_form_suc, slot_form}
use Rattle.tower.specs.Heads.{head_of, place_ok, coefficient_head}
use Rattle.tower.specs.Lists.{of_true, seg_long, seg-seg, seg-at}
use Rattle.tower.specs.Writing.{size, size-zero, size_suc, count_of}

pub all_to-same : (n : ℕ) (f g : ℕ → Bool) → ((k : ℕ) → k < n → f k ≡ g k) → all_to n f ≡ all_to n g
all_to-same zero f g h = refl
all_to-same (suc n) f g h = ap₂ ◌&&◌ (all_to-same n f g (λ k l. h k (omega arith))) (h n (omega arith))

-- the test of the coefficient at k, of n elements of level i after the degree word at a
abbrev pub coefficient_at : ℕ → List ℕ → ℕ → List ℤ → ℕ → ℕ → Bool
coefficient_at p d i x a k = coefficient_ok (is_in_form p d i) (zero_words d i) (get_or x a (pos 0)) k (seg (a + 1 + k * size d i) (size d i) x)

module _ (p : ℕ) (d : List ℕ) (i n : ℕ) (x : List ℤ) (a : ℕ) (inside : a + n * size d i + 1 ≤ length x) where
  head_at : get_or (seg a (n * size d i + 1) x) 0 (pos 0) ≡ get_or x a (pos 0)
  head_at = seg-at a (n * size d i + 1) 0 x (omega arith) ∙ ap (λ m. get_or x m (pos 0)) (add-zero a)

  block_at : (k : ℕ) → k < n → seg (suc (k * size d i)) (size d i) (seg a (n * size d i + 1) x) ≡ seg (a + 1 + k * size d i) (size d i) x
  block_at k l =
      let r = row k n (size d i) l in
      let e : a + suc (k * size d i) ≡ a + 1 + k * size d i = omega arith in
      seg-seg a (n * size d i + 1) (suc (k * size d i)) (size d i) x (omega arith) ∙ ap (λ m. seg m (size d i) x) e

  pub row_is : slot_form p d i n (seg a (n * size d i + 1) x) ≡ (degree_ok n (get_or x a (pos 0)) && all_to n (coefficient_at p d i x a))
  unfolding form_over
  row_is =
      let len : eqb (length (seg a (n * size d i + 1) x)) (n * size d i + 1) ≡ true = eq-eqb _ _ (seg_long a (n * size d i + 1) x (omega arith)) in
      sym (and_true_l _ _ len)
      ∙ ap₂ ◌&&◌ (ap (degree_ok n) head_at)
      (all_to-same n _ _ (λ k l. ap₂ (λ g b. coefficient_ok (is_in_form p d i) (zero_words d i) g k b) head_at (block_at k l)))

  pub bad_degree : degree_ok n (get_or x a (pos 0)) ≡ false → false ≡ slot_form p d i n (seg a (n * size d i + 1) x)
  bad_degree h = and_false_l (degree_ok n (get_or x a (pos 0))) (all_to n (coefficient_at p d i x a)) h ∙ sym row_is

  pub finish : degree_ok n (get_or x a (pos 0)) ≡ true → all_to n (coefficient_at p d i x a) ≡ true → true ≡ slot_form p d i n (seg a (n * size d i + 1) x)
  finish h k = sym (row_is ∙ ap₂ ◌&&◌ h k)

  -- one element more, from what the two tests said
  module _ (good : degree_ok n (get_or x a (pos 0)) ≡ true) (k b c : ℕ) (l : k < n) (eb : b ≡ a + 1 + k * size d i) (ec : c ≡ count_of (get_or x a (pos 0))) where
    here : coefficient_at p d i x a k ≡ (is_in_form p d i (seg b (size d i) x) && place_ok c k (eq_z (get_or (seg b (size d i) x) 0 (pos 0)) (head_of i)))
    here = rw (eb, ec) (coefficient_head p d i n k (get_or x a (pos 0)) (seg (a + 1 + k * size d i) (size d i) x) (of_true _ good))

    pub bad_element : (r : Bool) → r ≡ is_in_form p d i (seg b (size d i) x) → r ≡ false → false ≡ slot_form p d i n (seg a (n * size d i + 1) x)
    bad_element r e h =
        and_false_r (degree_ok n (get_or x a (pos 0))) (all_to n (coefficient_at p d i x a)) (sym (all_to_bad n (coefficient_at p d i x a) k l (here ∙ sym (and_false_l (is_in_form p d i (seg b (size d i) x)) _ (sym e ∙ h))))) ∙ sym row_is

    module _ (pos-size : 0 < size d i) (z : Bool) (ez : z ≡ eq_z (get_or x b (pos 0)) (head_of i)) where
      head : place_ok c k (eq_z (get_or (seg b (size d i) x) 0 (pos 0)) (head_of i)) ≡ place_ok c k z
      head = ap (λ g. place_ok c k (eq_z g (head_of i))) (seg-at b (size d i) 0 x pos-size ∙ ap (λ m. get_or x m (pos 0)) (add-zero b)) ∙ ap (place_ok c k) (sym ez)

      pub bad_place : (r : Bool) → r ≡ place_ok c k z → r ≡ false → false ≡ slot_form p d i n (seg a (n * size d i + 1) x)
      bad_place r e h =
          and_false_r (degree_ok n (get_or x a (pos 0))) (all_to n (coefficient_at p d i x a)) (sym (all_to_bad n (coefficient_at p d i x a) k l (here ∙ sym (and_false_r (is_in_form p d i (seg b (size d i) x)) _ (head ∙ sym e ∙ h))))) ∙ sym row_is

      pub next : (r q : Bool) → r ≡ is_in_form p d i (seg b (size d i) x) → r ≡ true → q ≡ place_ok c k z → q ≡ true → all_to k (coefficient_at p d i x a) ≡ true → all_to (k + 1) (coefficient_at p d i x a) ≡ true
      next r q er hr eq hq passed = all_to_more k (coefficient_at p d i x a) passed (here ∙ ap₂ ◌&&◌ (sym er ∙ hr) (head ∙ sym eq ∙ hq))

-- ---- elements
module _ (p : ℕ) (d : List ℕ) (x : List ℤ) (a : ℕ) where
  pub element-low : (i : ℕ) → i ≡ 0 → a + size d i ≤ length x → (r : Bool) → r ≡ residue_ok p (get_or x a (pos 0)) → r ≡ is_in_form p d i (seg a (size d i) x)
  element-low zero e h r q =
      let s = size-zero d in
      let len : eqb (length (seg a (size d 0) x)) 1 ≡ true = eq-eqb _ _ (seg_long a (size d 0) x h ∙ s) in
      q ∙ sym (in_form-zero p d (seg a (size d 0) x) ∙ sym (and_true_l _ _ len) ∙ ap (residue_ok p) (seg-at a (size d 0) 0 x (omega arith) ∙ ap (λ m. get_or x m (pos 0)) (add-zero a)))
  element-low (suc i) e h r q = absurd (lt_irrefl 0 (omega arith))

  pub element-up : (i : ℕ) → (i ≡ 0 → ⊥) → (n : ℕ) → n ≡ get_or d (i - 1) 0 → (r : Bool) → r ≡ slot_form p d (i - 1) n (seg a (n * size d (i - 1) + 1) x) → r ≡ is_in_form p d i (seg a (size d i) x)
  element-up zero ne n en r q = absurd (ne refl)
  element-up (suc i) ne n en r q =
      let q' : r ≡ slot_form p d i (get_or d i 0) (seg a (get_or d i 0 * size d i + 1) x) = rw (en, sub-one (suc i)) at q in
      q' ∙ ap (λ m. slot_form p d i (get_or d i 0) (seg a m x)) (sym (size_suc d i)) ∙ sym (in_form_suc p d i (seg a (size d (suc i)) x))

pub size_down : (d : List ℕ) (i : ℕ) → (i ≡ 0 → ⊥) → size d i ≡ get_or d (i - 1) 0 * size d (i - 1) + 1
size_down d zero h = absurd (h refl)
size_down d (suc i) h = rw (sub-one (suc i)) (size_suc d i)

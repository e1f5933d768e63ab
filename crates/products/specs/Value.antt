-- What sums of products of elements come to, level by level.
--
-- pair p p_pos d i m u v  == the number that the elements u and v of level i give at the places m (Walk's pair_at, of elements in place of words)
-- value p p_pos d j t h m == the element of level j whose unreduced coefficients are the numbers h, at the places m above j and every place below:
--                             each level's row of coefficients is divided by the tower's polynomial
-- value_cong              == numbers that agree wherever the places from j on are those of m have one value
-- value-total             == of a sum it is the sum of the values
-- value-pair, value-pairs == of a pair of elements it is their product in the ring; of pairs of elements the sum of their products
-- remainder-gained        == old content of fewer coefficients may be added before the division or after it
-- part_stands             == the coefficients of an element stand behind its degree word
-- pair-at, residues_of    == words that hold elements give their numbers, and may be read
use Prim.Native.Nat.{ℕ, zero, suc, ◌+◌, ◌-◌, ◌*◌, ◌<◌, ◌≤◌}
use Rattle.std.proofs.Common.{lt_irrefl, arith, sym, ap, ap₂, ◌∙◌, length-set, get_or-set_same, get_or-set_other}
use Rattle.std.specs.Prelude.{◌≡◌, Bool, true, false, List, ℤ, length, get_or, set}
use Rattle.std.proofs.Math.Path.{refl, fun_ext}
use Rattle.algebra.specs.Ring.{CRing, group_of, ⊕_cancel}
use Rattle.algebra.specs.Vec.{Vec, coef, coef_below, trunc, addᵛ, vec_group}
use Rattle.algebra.specs.Series.{◌*ˢ◌}
use Rattle.algebra.specs.Divide.{remainder}
use Rattle.algebra.specs.Windows.{first, span, sum, sum-zero, sum_suc, sum_cong, product_at}
use Rattle.algebra.proofs.Divided.{remainder-add, remainder-neg, remainder_short, remainder-product}
use Rattle.algebra.specs.Zmod.{to_z, to_z-⊕}
use Rattle.residue.specs.Number.{Modulus}
use Rattle.residue.specs.Word.{num}
use Rattle.tower.specs.Levels.{degree, El, group, Tower, ring}
use Rattle.tower.specs.Writing.{size, size-zero, size_suc}
use Rattle.tower.specs.Stands.{Stands, slot_of}
use Rattle.arithmetic.specs.Rows.{behind, word_of, narrow_by, block_inside, run_block}
use Rattle.arithmetic.specs.Places.{wide}
use Rattle.arithmetic.specs.Sum.{gained}
use Rattle.arithmetic.specs.Walk.{total, total-zero, total_suc, total_cong, first_of, span_of, pair_at, pair_at-zero, pair_at_suc, Residues}

module _ (p : ℕ) (p_pos : 0 < p) (d : List ℕ) where
  -- the coefficient of an element of level i + 1
  abbrev pub part : (i : ℕ) → El p d (suc i) → ℕ → El p d i
  part i u k = coef (group p p_pos d i).𝟘 (degree d i) u k

  unfoldable pub pair : (i : ℕ) → List ℕ → El p d i → El p d i → ℕ
  pair zero m u v = u.0 * v.0
  pair (suc i) m u v =
      total (span_of d m i) (λ k. pair i m (part i u (first_of d m i + k)) (part i v (first_of d m i + (span_of d m i - 1 - k))))

  unfoldable pub value : (j : ℕ) → Tower p d j → (List ℕ → ℕ) → List ℕ → El p d j
  value zero t h m = to_z p p_pos (h m)
  value (suc j) t h m =
      remainder (ring p p_pos d j t.0) (degree d j) t.1 (wide (degree d j)) (trunc (wide (degree d j)) (λ k. value j t.0 h (set m j k)))

  -- n pairs
  abbrev pub pairs : (i n : ℕ) (u v : ℕ → El p d i) → List ℕ → ℕ
  pairs i n u v m = total n (λ k. pair i m (u k) (v k))

  -- their laws
  pub pair-zero : (m : List ℕ) (u v : El p d 0) → pair 0 m u v ≡ u.0 * v.0
  unfolding pair
  pair-zero m u v = refl

  pub pair_suc : (i : ℕ) (m : List ℕ) (u v : El p d (suc i)) → pair (suc i) m u v
      ≡ total (span_of d m i) (λ k. pair i m (part i u (first_of d m i + k)) (part i v (first_of d m i + (span_of d m i - 1 - k))))
  unfolding pair
  pair_suc i m u v = refl

  pub value-zero : (t : Tower p d 0) (h : List ℕ → ℕ) (m : List ℕ) → value 0 t h m ≡ to_z p p_pos (h m)
  unfolding value
  value-zero t h m = refl

  pub value_suc : (j : ℕ) (t : Tower p d (suc j)) (h : List ℕ → ℕ) (m : List ℕ) → value (suc j) t h m
      ≡ remainder (ring p p_pos d j t.0) (degree d j) t.1 (wide (degree d j)) (trunc (wide (degree d j)) (λ k. value j t.0 h (set m j k)))
  unfolding value
  value_suc j t h m = refl

  -- a row of coefficients divided by the tower's polynomial
  abbrev reduced : (j : ℕ) → Tower p d (suc j) → (ℕ → El p d j) → El p d (suc j)
  reduced j t f = remainder (ring p p_pos d j t.0) (degree d j) t.1 (wide (degree d j)) (trunc (wide (degree d j)) f)

  -- numbers that agree wherever the places from j on are those of m
  pub value_cong : (j : ℕ) (t : Tower p d j) (h k : List ℕ → ℕ) (m : List ℕ)
      → ((l : List ℕ) → length l ≡ length m → ((n : ℕ) → j ≤ n → get_or l n 0 ≡ get_or m n 0) → h l ≡ k l) → value j t h m ≡ value j t k m
  value_cong zero t h k m e = value-zero t h m ∙ ap (to_z p p_pos) (e m refl (λ n l. refl)) ∙ sym (value-zero t k m)
  value_cong (suc j) t h k m e =
      let each : (c : ℕ) → value j t.0 h (set m j c) ≡ value j t.0 k (set m j c) =
      λ c. value_cong j t.0 h k (set m j c)
      (λ l long same. e l (long ∙ length-set m j c) (λ n q. same n (omega arith) ∙ get_or-set_other m j n c 0 (λ r. lt_irrefl n (omega arith)))) in
      value_suc j t h m ∙ ap (reduced j t) (fun_ext each) ∙ sym (value_suc j t k m)

  -- of sums, and of zeros
  value-add : (j : ℕ) (t : Tower p d j) (h k : List ℕ → ℕ) (m : List ℕ)
      → value j t (λ l. h l + k l) m ≡ (ring p p_pos d j t).◌⊕◌ (value j t h m) (value j t k m)
  value-add zero t h k m =
      value-zero t (λ l. h l + k l) m ∙ to_z-⊕ p p_pos (h m) (k m) ∙ ap₂ (ring p p_pos d 0 t).◌⊕◌ (sym (value-zero t h m)) (sym (value-zero t k m))
  value-add (suc j) t h k m =
      value_suc j t (λ l. h l + k l) m
      ∙ ap (reduced j t) (fun_ext (λ c. value-add j t.0 h k (set m j c)))
      ∙ remainder-add (ring p p_pos d j t.0) (degree d j) t.1 (wide (degree d j)) (λ c. value j t.0 h (set m j c)) (λ c. value j t.0 k (set m j c))
      ∙ ap₂ (ring p p_pos d (suc j) t).◌⊕◌ (sym (value_suc j t h m)) (sym (value_suc j t k m))

  value_none : (j : ℕ) (t : Tower p d j) (m : List ℕ) → value j t (λ l. 0) m ≡ (ring p p_pos d j t).𝟘
  value_none j t m =
      let R = ring p p_pos d j t in
      ⊕_cancel R (value j t (λ l. 0) m) (value j t (λ l. 0) m) R.𝟘 (sym (value-add j t (λ l. 0) (λ l. 0) m) ∙ sym (R.⊕_zero _))

  pub value-total : (j : ℕ) (t : Tower p d j) (n : ℕ) (h : ℕ → List ℕ → ℕ) (m : List ℕ)
      → value j t (λ l. total n (λ k. h k l)) m ≡ sum (ring p p_pos d j t) n (λ k. value j t (h k) m)
  value-total j t zero h m =
      ap (λ f. value j t f m) (fun_ext (λ l. total-zero (λ k. h k l))) ∙ value_none j t m ∙ sym (sum-zero (ring p p_pos d j t) (λ k. value j t (h k) m))
  value-total j t (suc n) h m =
      ap (λ f. value j t f m) (fun_ext (λ l. total_suc n (λ k. h k l)))
      ∙ value-add j t (λ l. total n (λ k. h k l)) (h n) m
      ∙ ap (λ x. (ring p p_pos d j t).◌⊕◌ x (value j t (h n) m)) (value-total j t n h m)
      ∙ sym (sum_suc (ring p p_pos d j t) n (λ k. value j t (h k) m))

  -- of one pair
  pub value-pair : (i : ℕ) (t : Tower p d i) (u v : El p d i) (m : List ℕ) → i ≤ length m → value i t (λ l. pair i l u v) m ≡ (ring p p_pos d i t).◌⊗◌ u v
  value-pair zero t u v m q = value-zero t (λ l. pair 0 l u v) m ∙ ap (to_z p p_pos) (pair-zero m u v)
  value-pair (suc i) t u v m q =
      let R = ring p p_pos d i t.0 in
      let g = degree d i in
      let met : ℕ → ℕ → List ℕ → ℕ = λ k c l. pair i l (part i u (first g k + c)) (part i v (first g k + (span g g k - 1 - c))) in
      let each : (k : ℕ) → value i t.0 (λ l. pair (suc i) l u v) (set m i k) ≡ ◌*ˢ◌ R (part i u) (part i v) k =
      λ k.
      value_cong i t.0 (λ l. pair (suc i) l u v) (λ l. total (span g g k) (λ c. met k c l)) (set m i k)
      (λ l long same. pair_suc i l u v ∙ ap (λ n. total (span g g n) (λ c. met n c l)) (same i (omega arith) ∙ get_or-set_same m i k 0 q))
      ∙ value-total i t.0 (span g g k) (met k) (set m i k)
      ∙ sum_cong R (span g g k) _ _ (λ c l. value-pair i t.0 _ _ (set m i k) (omega (arith, length-set m i k)))
      ∙ sym (product_at R g g (part i u) (part i v) (coef_below R.𝟘 g u) (coef_below R.𝟘 g v) k) in
      value_suc i t (λ l. pair (suc i) l u v) m ∙ ap (reduced i t) (fun_ext each) ∙ remainder-product R g t.1 (wide g) u v (omega arith)

  pub value-pairs : (i : ℕ) (t : Tower p d i) (n : ℕ) (u v : ℕ → El p d i) (m : List ℕ) → i ≤ length m
      → value i t (pairs i n u v) m ≡ sum (ring p p_pos d i t) n (λ k. (ring p p_pos d i t).◌⊗◌ (u k) (v k))
  value-pairs i t n u v m h =
      value-total i t n (λ k l. pair i l (u k) (v k)) m ∙ sum_cong (ring p p_pos d i t) n _ _ (λ k l. value-pair i t (u k) (v k) m h)

  pub part_stands : (i : ℕ) (u : El p d (suc i)) (x : List ℤ) (a : ℕ) → Stands p d (suc i) u x a
      → (k : ℕ) → k < degree d i → Stands p d i (part i u k) x (a + 1 + k * size d i)
  part_stands i u x a s k h =
      run_block p p_pos d i (degree d i) u x (a + 1) (behind p d i (degree d i) u x a (slot_of p p_pos d i x a u s)) k h

  pub pair-at : (i : ℕ) (m : List ℕ) (u v : El p d i) (x : List ℤ) (a : ℕ) (y : List ℤ) (b : ℕ) → Stands p d i u x a → Stands p d i v y b
      → pair_at d m x y i a b ≡ pair i m u v
  pair-at zero m u v x a y b su sv =
      pair_at-zero d m x y a b ∙ ap₂ ◌*◌ (ap num (word_of p d u x a su)) (ap num (word_of p d v y b sv)) ∙ sym (pair-zero m u v)
  pair-at (suc i) m u v x a y b su sv =
      pair_at_suc d m x y i a b
      ∙ total_cong (span_of d m i) _ _
      (λ k q. pair-at i m _ _ x _ y _
      (part_stands i u x a su (first_of d m i + k) (omega arith)) (part_stands i v y b sv (first_of d m i + (span_of d m i - 1 - k)) (omega arith)))
      ∙ sym (pair_suc i m u v)

  pub residues_of : (i : ℕ) (u : El p d i) (x : List ℤ) (a : ℕ) → Modulus p → Stands p d i u x a → a + size d i ≤ length x → Residues d i x a
  unfolding Residues
  residues_of zero u x a h s l = record { inside = omega (arith, size-zero d); narrow = narrow_by p h _ u (word_of p d u x a s) }
  residues_of (suc i) u x a h s l =
      λ k q.
      residues_of i (part i u k) x (a + 1 + k * size d i) h (part_stands i u x a s k q) (omega (arith, size_suc d i, block_inside k (degree d i) (size d i) q))

-- ---- old content
module _ (R : CRing) (g : ℕ) (w : Vec R.Car g) where
  pub remainder-gained : (neg : Bool) (k : ℕ) (old : Vec R.Car g) (h : ℕ → R.Car) → g ≤ k
      → remainder R g w k (trunc k (λ n. gained (group_of R) neg (coef R.𝟘 g old n) (h n)))
      ≡ gained (vec_group (group_of R) g) neg old (remainder R g w k (trunc k h))
  remainder-gained false k old h l =
      remainder-add R g w k (coef R.𝟘 g old) h ∙ ap (λ x. addᵛ (group_of R) g x (remainder R g w k (trunc k h))) (remainder_short R g w k old l)
  remainder-gained true k old h l =
      remainder-add R g w k (coef R.𝟘 g old) (λ n. R.⊖◌ (h n)) ∙ ap₂ (addᵛ (group_of R) g) (remainder_short R g w k old l) (remainder-neg R g w k h)

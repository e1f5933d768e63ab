-- Laws of the walk over a tower's words.
use mathlib.Core.Path.{◌≡◌, refl, sym, ap, ap₂, ◌∙◌}
use mathlib.Core.Bool.{Bool, true, false, ◌&&◌}
use mathlib.Core.List.{List}
use Prim.Native.Nat.{ℕ, zero, suc, ◌+◌, ◌-◌, ◌*◌, ◌^◌, ◌<◌, ◌≤◌}
use native.Mathlib.Nat.{lt_irrefl, add-zero, suc-mul, mul-one, mul-le-mul_left}
use native.Mathlib.Numerals.{add-one, sub-one}
use native.Mathlib.Omega.{arith}
use lib.IntN.{ℤ, pos}
use lib.Dec.{T, eqb, eqb→eq}
use lib.ListN.{length, get_or, take, drop, length-drop, length-append, take-append-drop}
use lib.Seq.{drop-drop, get_or-drop}
use borrow.Author.Tests.{eq-eqb}
use Rattle.algebra.specs.Test.{all_to, both_l, both_r}
use Rattle.tower.proofs.Laws.{and_false_l, and_false_r, and_true_l, all_to_bad, row, row64}
use Rattle.tower.proofs.Rows.{all_to-same}
use Rattle.tower.specs.Form.{eq_z, same, seg, one_words, is_in_form, modulus_over, modulus_form, tower_form, tower_form_suc}
use Rattle.tower.specs.Heads.{one_head, one_head-zero, one_head_suc, one_head_lem}
use Rattle.tower.specs.Lists.{of_true, seg_long, seg-seg, seg-at}
use Rattle.tower.specs.Ready.{Small}
use Rattle.tower.specs.Writing.{size, size-zero, size_suc, modulus_size, tower_size, tower_size_suc, size-pos}

-- ---- the one
module _ (x : List ℤ) (a : ℕ) where
  head_at : get_or (drop a x) 0 (pos 0) ≡ get_or x a (pos 0)
  head_at = get_or-drop a x 0 (pos 0) ∙ ap (λ m. get_or x m (pos 0)) (add-zero a)

  pub one-low : (i : ℕ) → i ≡ 0 → (r : Bool) → r ≡ eq_z (get_or x a (pos 0)) (pos 1) → r ≡ one_head i (drop a x)
  one-low zero e r q = q ∙ sym (one_head-zero (drop a x) ∙ ap (λ g. eq_z g (pos 1)) head_at)
  one-low (suc i) e r q = absurd (lt_irrefl 0 (omega arith))

  one_split : (i : ℕ) → one_head (suc i) (drop a x) ≡ (eq_z (get_or x a (pos 0)) (pos 0) && one_head i (drop (a + 1) x))
  one_split i = one_head_suc i (drop a x) ∙ ap₂ ◌&&◌ (ap (λ g. eq_z g (pos 0)) head_at) (ap (one_head i) (drop-drop 1 a x))

  pub one_bad : (i : ℕ) → (i ≡ 0 → ⊥) → (r : Bool) → r ≡ eq_z (get_or x a (pos 0)) (pos 0) → r ≡ false → false ≡ one_head i (drop a x)
  one_bad zero ne r e h = absurd (ne refl)
  one_bad (suc i) ne r e h = and_false_l (eq_z (get_or x a (pos 0)) (pos 0)) _ (sym e ∙ h) ∙ sym (one_split i)

  pub one_up : (i : ℕ) → (i ≡ 0 → ⊥) → (r q : Bool) → r ≡ eq_z (get_or x a (pos 0)) (pos 0) → r ≡ true → q ≡ one_head (i - 1) (drop (a + 1) x) → q ≡ one_head i (drop a x)
  one_up zero ne r q e h k = absurd (ne refl)
  one_up (suc i) ne r q e h k = (rw (sub-one (suc i)) at k) ∙ and_true_l (eq_z (get_or x a (pos 0)) (pos 0)) _ (sym e ∙ h) ∙ sym (one_split i)

-- ---- a modulus at a
abbrev pub element_at : ℕ → List ℕ → ℕ → List ℤ → ℕ → ℕ → Bool
element_at p d j t a k = is_in_form p d j (seg (a + 1 + k * size d j) (size d j) t)

pub modulus-size : (d : List ℕ) (j : ℕ) → modulus_size d j ≡ get_or d j 0 * size d j + 1 + size d j
modulus-size d j = ap (λ m. m + size d j) (size_suc d j)

module _ (p : ℕ) (d : List ℕ) (j : ℕ) (t : List ℤ) (a : ℕ) (inside : a + modulus_size d j ≤ length t) where
  pub modulus-is : modulus_form p d j (seg a (modulus_size d j) t) ≡ (eq_z (get_or t a (pos 0)) (pos (get_or d j 0)) && (all_to (suc (get_or d j 0)) (element_at p d j t a) && same (seg (a + 1 + get_or d j 0 * size d j) (size d j) t) (one_words d j)))
  unfolding modulus_over
  modulus-is =
      let n = get_or d j 0 in
      let s = size d j in
      let big = modulus-size d j in
      let len : eqb (length (seg a (modulus_size d j) t)) (n * s + 1 + s) ≡ true = eq-eqb _ _ (seg_long a (modulus_size d j) t inside ∙ big) in
      let block : (k : ℕ) → k < suc n → seg (suc (k * s)) s (seg a (modulus_size d j) t) ≡ seg (a + 1 + k * s) s t =
      λ k l. (let r = row k (suc n) s l in let m = suc-mul n s in let e : a + suc (k * s) ≡ a + 1 + k * s = omega arith in
      seg-seg a (modulus_size d j) (suc (k * s)) s t (omega arith) ∙ ap (λ (b : ℕ). seg b s t) e) in
      sym (and_true_l _ _ len)
      ∙ ap₂ ◌&&◌ (ap (λ g. eq_z g (pos n)) (seg-at a (modulus_size d j) 0 t (omega arith) ∙ ap (λ (m : ℕ). get_or t m (pos 0)) (add-zero a)))
      (ap₂ ◌&&◌ (all_to-same (suc n) _ _ (λ k l. ap (is_in_form p d j) (block k l))) (ap (λ b. same b (one_words d j)) (block n (omega arith))))

-- what is left of the tower, from a on
pub record Left (p : ℕ) (d : List ℕ) (n : ℕ) (t : List ℤ) (a i : ℕ) : Type 0 where
  pub fits : a + tower_size d i ≡ length t
  pub same : tower_form p d n t ≡ tower_form p d i (drop a t)

pub left-none : (p : ℕ) (d : List ℕ) (n : ℕ) (t : List ℤ) (a i : ℕ) → i ≤ 0 → Left p d n t a i → true ≡ tower_form p d n t
unfolding tower_form tower_size
left-none p d n t a zero l h =
    let f = h.fits in
    let e : length (drop a t) ≡ 0 = omega (arith, length-drop a t) in
    sym (h.same ∙ eq-eqb (length (drop a t)) 0 e)
left-none p d n t a (suc i) l h = absurd (lt_irrefl 0 (omega arith))

pub tower_over : (d : List ℕ) (i : ℕ) → i ≤ tower_size d i
unfolding tower_size
tower_over d zero = omega arith
tower_over d (suc i) = omega (arith, tower_over d i, size-pos d (suc i), size-pos d i)

-- m_(j+1) stands at a: its degree is m, its coefficients have s words, and there are at least j words behind it
pub record Level (d : List ℕ) (t : List ℤ) (a j m s : ℕ) : Type 0 where
  pub degree : m ≡ get_or d j 0
  pub sized : s ≡ size d j
  pub some : 0 < s
  pub few : m ≤ m * s
  pub fits : a + 1 + m * s + s + j ≤ length t

module _ (p : ℕ) (d : List ℕ) (n : ℕ) (t : List ℤ) (a i j : ℕ) (e : suc j ≡ i) (left : Left p d n t a i) where
  pub inside : a + modulus_size d j + tower_size d j ≡ length t
  inside = let f = left.fits in let q : tower_size d (suc j) ≡ tower_size d i = ap (tower_size d) e in omega (arith, tower_size_suc d j)

  split : tower_form p d n t ≡ (modulus_form p d j (seg a (modulus_size d j) t) && tower_form p d j (drop (a + modulus_size d j) t))
  split =
      left.same ∙ ap (λ m. tower_form p d m (drop a t)) (sym e) ∙ tower_form_suc p d j (drop a t)
      ∙ ap (λ l. modulus_form p d j (seg a (modulus_size d j) t) && tower_form p d j l) (drop-drop (modulus_size d j) a t)

  is : modulus_form p d j (seg a (modulus_size d j) t) ≡ (eq_z (get_or t a (pos 0)) (pos (get_or d j 0)) && (all_to (suc (get_or d j 0)) (element_at p d j t a) && same (seg (a + 1 + get_or d j 0 * size d j) (size d j) t) (one_words d j)))
  is = modulus-is p d j t a (let f = inside in omega arith)

  bad : modulus_form p d j (seg a (modulus_size d j) t) ≡ false → false ≡ tower_form p d n t
  bad h = and_false_l (modulus_form p d j (seg a (modulus_size d j) t)) _ h ∙ sym split

  pub bad_degree : {m : ℕ} (r : Bool) → m ≡ get_or d j 0 → r ≡ eq_z (get_or t a (pos 0)) (pos m) → r ≡ false → false ≡ tower_form p d n t
  bad_degree {m} r em er h = bad (is ∙ sym (and_false_l (eq_z (get_or t a (pos 0)) (pos (get_or d j 0))) _ (ap (λ k. eq_z (get_or t a (pos 0)) (pos k)) (sym em) ∙ sym er ∙ h)))

  pub bad_element : {m s : ℕ} (v : Level d t a j m s) (r : Bool) (k b : ℕ) → k < m + 1 → b ≡ a + 1 + k * s → r ≡ is_in_form p d j (seg b (size d j) t) → r ≡ false
      → false ≡ tower_form p d n t
  bad_element v r k b l es er h =
      let eb : b ≡ a + 1 + k * size d j = rw v.sized at es in
      let f : element_at p d j t a k ≡ false = ap (λ (q : ℕ). is_in_form p d j (seg q (size d j) t)) (sym eb) ∙ sym er ∙ h in
      let g = sym (all_to_bad (suc (get_or d j 0)) (element_at p d j t a) k (omega (arith, v.degree)) f) in
      bad (is ∙ sym (and_false_r (eq_z (get_or t a (pos 0)) (pos (get_or d j 0))) _ (sym (and_false_l (all_to (suc (get_or d j 0)) (element_at p d j t a)) _ g))))

  module _ {m s : ℕ} (v : Level d t a j m s) (k : ℕ) (past : m + 1 ≤ k) (low : k ≤ m + 1) (passed : all_to k (element_at p d j t a) ≡ true)
      (b : ℕ) (es : b ≡ a + 1 + m * s) (r : Bool) (er : r ≡ one_head j (drop b t)) where
    eb : b ≡ a + 1 + get_or d j 0 * size d j
    eb = es ∙ ap₂ (λ (x y : ℕ). a + 1 + x * y) v.degree v.sized

    passed-all : all_to (suc (get_or d j 0)) (element_at p d j t a) ≡ true
    passed-all = let q : k ≡ suc (get_or d j 0) = omega (arith, v.degree) in rw q at passed

    last_one : same (seg b (size d j) t) (one_words d j) ≡ r
    last_one =
        let w = passed-all in
        let f : T (is_in_form p d j (seg b (size d j) t)) = of_true _ (ap (λ (q : ℕ). is_in_form p d j (seg q (size d j) t)) eb ∙ last w) in
        one_head_lem p d j (seg b (size d j) t) (drop (size d j) (drop b t)) f ∙ ap (one_head j) (take-append-drop (size d j) (drop b t)) ∙ sym er
      where
        and_last : (x y : Bool) → (x && y) ≡ true → y ≡ true
        and_last true y h = h
        and_last false y h = let z : ◌≡◌ {A = ℕ} 0 1 = cc in absurd (lt_irrefl 0 (omega arith))

        last : all_to (suc (get_or d j 0)) (element_at p d j t a) ≡ true → element_at p d j t a (get_or d j 0) ≡ true
        last h = and_last (all_to (get_or d j 0) (element_at p d j t a)) _ h

    one_block : same (seg (a + 1 + get_or d j 0 * size d j) (size d j) t) (one_words d j) ≡ r
    one_block = ap (λ (q : ℕ). same (seg q (size d j) t) (one_words d j)) (sym eb) ∙ last_one

    pub bad_one : r ≡ false → false ≡ tower_form p d n t
    bad_one h =
        bad (is ∙ sym (and_false_r (eq_z (get_or t a (pos 0)) (pos (get_or d j 0))) _ (sym (and_false_r (all_to (suc (get_or d j 0)) (element_at p d j t a)) _ (one_block ∙ h)))))

    pub next : (q : Bool) → q ≡ eq_z (get_or t a (pos 0)) (pos m) → q ≡ true → r ≡ true → (a' : ℕ) → a' ≡ a + 1 + (m + 1) * s → Left p d n t a' j
    next q eq hq hr a' es' =
        let ea : a' ≡ a + 1 + (get_or d j 0 + 1) * size d j = es' ∙ ap₂ (λ (x y : ℕ). a + 1 + (x + 1) * y) v.degree v.sized in
        let z : a' ≡ a + modulus_size d j = omega (arith, modulus-size d j, ap (λ (y : ℕ). y * size d j) (add-one (get_or d j 0)), suc-mul (get_or d j 0) (size d j)) in
        let good : modulus_form p d j (seg a (modulus_size d j) t) ≡ true = is ∙ ap₂ ◌&&◌ (ap (λ k. eq_z (get_or t a (pos 0)) (pos k)) (sym v.degree) ∙ sym eq ∙ hq) (ap₂ ◌&&◌ passed-all (one_block ∙ hr)) in
        let f = inside in
        record {
          fits = omega arith;
          same = split ∙ ap (λ x. x && tower_form p d j (drop (a + modulus_size d j) t)) good ∙ ap (λ (y : ℕ). tower_form p d j (drop y t)) (sym z);
        }

pub under : (n s : ℕ) → 0 < s → n ≤ n * s
under n s h = rw (mul-one n) at (mul-le-mul_left n h)

pub level : {p : ℕ} {d : List ℕ} {n : ℕ} {t : List ℤ} {a i j m s : ℕ} → Left p d n t a i → m ≡ get_or d j 0 → s ≡ size d j → suc j ≡ i → Level d t a j m s
level {p} {d} {n} {t} {a} {i} {j} {m} {s} left em es e =
    let some : 0 < s = omega (arith, size-pos d j) in
    let words : m * s ≡ get_or d j 0 * size d j = ap₂ ◌*◌ em es in
    record {
      degree = em;
      sized = es;
      some = some;
      few = under m s some;
      fits = omega (arith, inside p d n t a i j e left, modulus-size d j, tower_over d j);
    }

-- ---- lengths
modulus-length : (n s : ℕ) (one : List ℤ) (good : List ℤ → Bool) (w : List ℤ) → T (modulus_over n s one good w) → length w ≡ n * s + 1 + s
unfolding modulus_over
modulus-length n s one good w h = eqb→eq (length w) (n * s + 1 + s) (both_l (eqb (length w) (n * s + 1 + s)) _ h)

pub tower-length : (p : ℕ) (d : List ℕ) (n : ℕ) (w : List ℤ) → T (tower_form p d n w) → length w ≡ tower_size d n
unfolding tower_form tower_size
tower-length p d zero w h = eqb→eq (length w) 0 h
tower-length p d (suc i) w h =
    let m = modulus_size d i in
    let a = modulus-length (get_or d i 0) (size d i) (one_words d i) (is_in_form p d i) (take m w) (both_l (modulus_form p d i (take m w)) _ h) in
    let b = tower-length p d i (drop m w) (both_r (modulus_form p d i (take m w)) _ h) in
    let e = ap length (take-append-drop m w) in
    omega (arith, length-append (take m w) (drop m w), modulus-size d i)

pub not_tower : (p : ℕ) (d : List ℕ) (n : ℕ) (w : List ℤ) (m : ℕ) → m ≡ tower_size d n → (length w ≡ m → ⊥) → tower_form p d n w ≡ false
not_tower p d n w m em ne = go (tower_form p d n w) refl
  where
    go : (b : Bool) → tower_form p d n w ≡ b → tower_form p d n w ≡ false
    go false e = e
    go true e = absurd (ne (tower-length p d n w (of_true _ e) ∙ sym em))

-- ---- bounds
pub size_bound : (d : List ℕ) → Small d → (k : ℕ) → k ≤ 4 → size d k < 2 ^ 32
size_bound d h k l = go k l
  where
    s1 : size d 1 ≤ 65
    s1 = omega (arith, size_suc d 0, size-zero d, ap (λ (m : ℕ). get_or d 0 0 * m) (size-zero d), h.each 0 (omega arith))

    s2 : size d 2 ≤ 4161
    s2 = omega (arith, size_suc d 1, s1, row64 (get_or d 1 0) (size d 1) (h.each 1 (omega arith)))

    s3 : size d 3 ≤ 266305
    s3 = omega (arith, size_suc d 2, s2, row64 (get_or d 2 0) (size d 2) (h.each 2 (omega arith)))

    s4 : size d 4 ≤ 17043521
    s4 = omega (arith, size_suc d 3, s3, row64 (get_or d 3 0) (size d 3) (h.each 3 (omega arith)))

    go : (k : ℕ) → k ≤ 4 → size d k < 2 ^ 32
    go zero l = omega (arith, size-zero d)
    go (suc zero) l = omega (arith, s1)
    go (suc (suc zero)) l = omega (arith, s2)
    go (suc (suc (suc zero))) l = omega (arith, s3)
    go (suc (suc (suc (suc zero)))) l = omega (arith, s4)
    go (suc (suc (suc (suc (suc k))))) l = absurd (lt_irrefl 0 (omega arith))

pub tower-none : (d : List ℕ) → 0 ≡ tower_size d 0
unfolding tower_size
tower-none d = refl

pub size-next : (d : List ℕ) (i s g u : ℕ) → s ≡ size d i → g ≡ get_or d i 0 → u ≡ g * s + 1 → u ≡ size d (i + 1)
size-next d i s g u es eg eu = eu ∙ ap₂ (λ (x y : ℕ). x * y + 1) eg es ∙ sym (size_suc d i) ∙ ap (size d) (sym (add-one i))

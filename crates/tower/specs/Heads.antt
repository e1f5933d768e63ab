-- Of words in form, the first word tells the zero, and i + 1 words tell the one: so a check is linear in the words.
--
-- head_of, zero_head       == the first word of the zero of level i, and that it tells the zero
-- place_ok, coefficient_head == what the degree asks of the coefficient at k, by counts
-- one_head, one_head_lem       == i words 0 and then 1, and that they tell the one
use Rattle.std.specs.Prelude.{ℕ, zero, suc, ◌+◌, ◌-◌, ◌*◌, ◌<◌, ◌≤◌, ◌≡◌, refl, Bool, true, false, not, ◌&&◌, List, [], ◌∷◌, ◌++◌, ℤ, pos, negsuc, T, eqb, leb, length, get_or, take, drop}
use Rattle.std.proofs.Common.{sym, ap, ap₂, ◌∙◌, subst, append_assoc, suc-mul, zero-mul, lt_irrefl, sub-one, arith, eqb→eq, lt→ltb, length-drop, take-append-drop, drop-drop}
use Rattle.std.specs.Int.Signed.{lt_z, le_z}
use Rattle.std.proofs.Math.Dec.{eqb-suc-zero, eqb-suc-suc, leb-zero}
use Rattle.algebra.specs.Test.{both_l, both_r, all_to_use}
use Rattle.tower.specs.Levels.{degree}
use Rattle.tower.specs.Writing.{size, count_of}
use Rattle.tower.specs.Form.{eq_z, same, implies, copies, zero_words, degree_ok, coefficient_ok, form_over, is_in_form, one_words}
use Rattle.tower.specs.Lists.{implies_use, eq_z_sound, same_sound, same_eq}

pub bool_eq : (x y : Bool) → (T x → T y) → (T y → T x) → x ≡ y
bool_eq true true f g = refl
bool_eq true false f g = absurd (f tt)
bool_eq false true f g = absurd (g tt)
bool_eq false false f g = refl

-- the first word of a zero
abbrev pub head_of : ℕ → ℤ
head_of zero = pos 0
head_of (suc i) = negsuc 0

-- the rule of the degree for the coefficient at k, c one more than the degree, z whether the coefficient is zero
abbrev pub place_ok : ℕ → ℕ → Bool → Bool
place_ok c k z = implies (eqb (suc k) c) (not z) && implies (leb c k) z

pub copies_of : (n s : ℕ) (z l : List ℤ) → length l ≡ n * s → ((k : ℕ) → k < n → take s (drop (k * s) l) ≡ z) → l ≡ copies n z
copies_of zero s z [] e h = refl
copies_of zero s z (x ∷ l) e h = absurd (lt_irrefl 0 (omega (arith, zero-mul s)))
copies_of (suc n) s z l e h =
    let first : take s l ≡ z = rw (zero-mul s) at (h 0 (omega arith)) in
    let more : (k : ℕ) → k < n → take s (drop (k * s) (drop s l)) ≡ z =
    λ k q. (let f : suc k * s ≡ s + k * s = omega (arith, suc-mul k s) in rw (drop-drop (k * s) s l) (rw f at (h (suc k) (omega arith)))) in
    sym (take-append-drop s l) ∙ ap₂ ◌++◌ first (copies_of n s z (drop s l) (omega (arith, length-drop s l, suc-mul n s)) more)

-- a degree word -1 makes all the rest zero
pub none : (n s : ℕ) (z : List ℤ) (good : List ℤ → Bool) (w : List ℤ) → T (form_over n s z good w) → get_or w 0 (pos 0) ≡ negsuc 0 → w ≡ negsuc 0 ∷ copies n z
unfolding form_over
none n s z good [] h e = absurd (lt_irrefl 0 (omega (arith, eqb→eq 0 (n * s + 1) (both_l (eqb 0 (n * s + 1)) _ h))))
none n s z good (g ∷ l) h e =
    let u = both_r (eqb (length (g ∷ l)) (n * s + 1)) _ h in
    let len = eqb→eq (length (g ∷ l)) (n * s + 1) (both_l (eqb (length (g ∷ l)) (n * s + 1)) _ h) in
    let each = all_to_use n (λ k. coefficient_ok good z g k (take s (drop (k * s) l))) (both_r (degree_ok n g) _ u) in
    ap₂ ◌∷◌ e (copies_of n s z l (omega arith)
    (λ k q. same_sound (take s (drop (k * s) l)) z
    (implies_use (lt_z g (pos k)) _
    (both_r (implies (eq_z (pos k) g) (not (same (take s (drop (k * s) l)) z))) _ (both_r (good (take s (drop (k * s) l))) _ (each k q)))
    (subst (λ x. T (lt_z x (pos k))) (sym e) tt))))

one-zero : (w : List ℤ) → length w ≡ 1 → same w (pos 0 ∷ []) ≡ eq_z (get_or w 0 (pos 0)) (pos 0)
one-zero [] h = absurd (lt_irrefl 0 (omega arith))
one-zero (x ∷ []) h = and_true (eq_z x (pos 0))
  where
    and_true : (b : Bool) → (b && true) ≡ b
    and_true true = refl
    and_true false = refl
one-zero (x ∷ y ∷ w) h = absurd (lt_irrefl 0 (omega arith))

pub zero_head : (p : ℕ) (d : List ℕ) (i : ℕ) (w : List ℤ) → T (is_in_form p d i w) → same w (zero_words d i) ≡ eq_z (get_or w 0 (pos 0)) (head_of i)
unfolding is_in_form zero_words
zero_head p d zero w h = one-zero w (eqb→eq (length w) 1 (both_l (eqb (length w) 1) _ h))
zero_head p d (suc i) w h =
    bool_eq (same w (negsuc 0 ∷ copies (degree d i) (zero_words d i))) (eq_z (get_or w 0 (pos 0)) (negsuc 0))
    (λ t. subst (λ v. T (eq_z (get_or v 0 (pos 0)) (negsuc 0))) (sym (same_sound w (negsuc 0 ∷ copies (degree d i) (zero_words d i)) t)) tt)
    (λ t. same_eq (none (degree d i) (size d i) (zero_words d i) (is_in_form p d i) w h (eq_z_sound (get_or w 0 (pos 0)) (negsuc 0) t)))

-- ---- the rule of the degree by numbers
at_count : (n k : ℕ) (g : ℤ) → T (degree_ok n g) → eq_z (pos k) g ≡ eqb (suc k) (count_of g)
at_count n k (pos m) h = sym (eqb-suc-suc k m)
at_count n k (negsuc m) h = sym (eqb-suc-zero k)

over_count : (n k : ℕ) (g : ℤ) → T (degree_ok n g) → lt_z g (pos k) ≡ leb (count_of g) k
over_count n k (pos m) h = refl
over_count n k (negsuc m) h = sym (leb-zero k)

-- a coefficient passes when it is in form and its first word is right for its place
pub coefficient_head : (p : ℕ) (d : List ℕ) (i n k : ℕ) (g : ℤ) (b : List ℤ) → T (degree_ok n g) → coefficient_ok (is_in_form p d i) (zero_words d i) g k b ≡ (is_in_form p d i b && place_ok (count_of g) k (eq_z (get_or b 0 (pos 0)) (head_of i)))
coefficient_head p d i n k g b h = go (is_in_form p d i b) refl
  where
    go : (r : Bool) → is_in_form p d i b ≡ r → coefficient_ok (is_in_form p d i) (zero_words d i) g k b ≡ (is_in_form p d i b && place_ok (count_of g) k (eq_z (get_or b 0 (pos 0)) (head_of i)))
    go false e = rw e refl
    go true e =
        let z = zero_head p d i b (subst T (sym e) tt) in
        rw (e, z, at_count n k g h, over_count n k g h) refl

-- ---- one: i words 0, and 1
unfoldable pub one_head : ℕ → List ℤ → Bool
one_head zero w = eq_z (get_or w 0 (pos 0)) (pos 1)
one_head (suc i) w = eq_z (get_or w 0 (pos 0)) (pos 0) && one_head i (drop 1 w)

pub one_head-zero : (w : List ℤ) → one_head 0 w ≡ eq_z (get_or w 0 (pos 0)) (pos 1)
unfolding one_head
one_head-zero w = refl

pub one_head_suc : (i : ℕ) (w : List ℤ) → one_head (suc i) w ≡ (eq_z (get_or w 0 (pos 0)) (pos 0) && one_head i (drop 1 w))
unfolding one_head
one_head_suc i w = refl

one_has_head : (d : List ℕ) (i : ℕ) (l : List ℤ) → T (one_head i (one_words d i ++ l))
unfolding one_head one_words
one_has_head d zero l = tt
one_has_head d (suc i) l =
    subst (λ v. T (one_head i v)) (sym (append_assoc (one_words d i) (copies (degree d i - 1) (zero_words d i)) l)) (one_has_head d i (copies (degree d i - 1) (zero_words d i) ++ l))

-- a degree word 0 makes all but the first coefficient zero
pub record Single (n s : ℕ) (z : List ℤ) (good : List ℤ → Bool) (l : List ℤ) : Type 0 where
  pub some : 1 ≤ n
  pub first : T (good (take s l))
  pub rest : drop s l ≡ copies (n - 1) z

single : (n s : ℕ) (z : List ℤ) (good : List ℤ → Bool) (g : ℤ) (l : List ℤ) → T (form_over n s z good (g ∷ l)) → g ≡ pos 0 → Single n s z good l
unfolding form_over
single zero s z good g l h e =
    let u = both_r (eqb (length (g ∷ l)) (0 * s + 1)) _ h in
    let v : T (lt_z (pos 0) (pos 0)) = subst (λ x. T (lt_z x (pos 0))) e (both_r (le_z (negsuc 0) g) _ (both_l (degree_ok 0 g) _ u)) in
    absurd v
single (suc n) s z good g l h e =
    let u = both_r (eqb (length (g ∷ l)) (suc n * s + 1)) _ h in
    let len = eqb→eq (length (g ∷ l)) (suc n * s + 1) (both_l (eqb (length (g ∷ l)) (suc n * s + 1)) _ h) in
    let each = all_to_use (suc n) (λ k. coefficient_ok good z g k (take s (drop (k * s) l))) (both_r (degree_ok (suc n) g) _ u) in
    let f : T (good (take s (drop (0 * s) l))) = both_l (good (take s (drop (0 * s) l))) _ (each 0 (omega arith)) in
    record {
      some = omega arith;
      first = rw (zero-mul s) at f;
      rest = copies_of n s z (drop s l) (omega (arith, length-drop s l, suc-mul n s))
          (λ k q.
          (let a : suc k * s ≡ s + k * s = omega (arith, suc-mul k s) in
          let b = take s (drop (suc k * s) l) in
          let c : T (same b z) = implies_use (lt_z g (pos (suc k))) _ (both_r (implies (eq_z (pos (suc k)) g) (not (same b z))) _ (both_r (good b) _ (each (suc k) (omega arith)))) (subst (λ x. T (lt_z x (pos (suc k)))) (sym e) (lt→ltb 0 (suc k) (omega arith))) in
          rw (drop-drop (k * s) s l) (rw a at (same_sound b z c))))
          ∙ ap (λ m. copies m z) (sym (sub-one (suc n)));
    }

form_long : (n s : ℕ) (z : List ℤ) (good : List ℤ → Bool) (w : List ℤ) → T (form_over n s z good w) → length w ≡ n * s + 1
unfolding form_over
form_long n s z good w h = eqb→eq (length w) (n * s + 1) (both_l (eqb (length w) (n * s + 1)) _ h)

head_is-one : (p : ℕ) (d : List ℕ) (i : ℕ) (w l : List ℤ) → T (is_in_form p d i w) → T (one_head i (w ++ l)) → w ≡ one_words d i
unfolding is_in_form one_head one_words
head_is-one p d zero [] l h t = absurd h
head_is-one p d zero (x ∷ []) l h t = ap (λ y. y ∷ []) (eq_z_sound x (pos 1) t)
head_is-one p d zero (x ∷ y ∷ w) l h t = absurd (lt_irrefl 0 (omega (arith, eqb→eq (length (x ∷ y ∷ w)) 1 (both_l (eqb (length (x ∷ y ∷ w)) 1) _ h))))
head_is-one p d (suc i) [] l h t = absurd (lt_irrefl 0 (omega (arith, form_long (degree d i) (size d i) (zero_words d i) (is_in_form p d i) [] h)))
head_is-one p d (suc i) (g ∷ r) l h t =
    let s = size d i in
    let e : g ≡ pos 0 = eq_z_sound g (pos 0) (both_l (eq_z g (pos 0)) _ t) in
    let k = single (degree d i) s (zero_words d i) (is_in_form p d i) g r h e in
    let split : r ++ l ≡ take s r ++ (drop s r ++ l) = ap (λ v. v ++ l) (sym (take-append-drop s r)) ∙ append_assoc (take s r) (drop s r) l in
    ap₂ ◌∷◌ e (sym (take-append-drop s r) ∙ ap₂ ◌++◌ (head_is-one p d i (take s r) (drop s r ++ l) k.first (subst (λ v. T (one_head i v)) split (both_r (eq_z g (pos 0)) _ t))) k.rest)

pub one_head_lem : (p : ℕ) (d : List ℕ) (i : ℕ) (w l : List ℤ) → T (is_in_form p d i w) → same w (one_words d i) ≡ one_head i (w ++ l)
one_head_lem p d i w l h =
    bool_eq (same w (one_words d i)) (one_head i (w ++ l))
    (λ t. subst (λ v. T (one_head i (v ++ l))) (sym (same_sound w (one_words d i) t)) (one_has_head d i l))
    (λ t. same_eq (head_is-one p d i w l h t))

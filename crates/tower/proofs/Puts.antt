-- Laws of what is written into the store: one copy more, one word more; the zero and the one of a level, and that their parts are inside.
use Prim.Native.Nat.{ℕ, zero, suc, ◌+◌, ◌-◌, ◌*◌, ◌<◌}
use mathlib.Core.Path.{◌≡◌, refl, sym, ap, ◌∙◌, subst}
use mathlib.Core.List.{List, [], ◌∷◌, ◌++◌, append_assoc, append-nil}
use native.Mathlib.Nat.{lt_irrefl, suc-mul}
use native.Mathlib.Numerals.{add-one, sub-one}
use native.Mathlib.Omega.{arith}
use lib.IntN.{ℤ, pos, negsuc}
use lib.ListN.{length, get_or, drop, length-drop}
use lib.Seq.{take-suc, get_or-drop}
use Rattle.std.specs.Prelude.{replicate}
use Rattle.tower.specs.Form.{seg, copies, zero_words, one_words}
use Rattle.tower.specs.Lists.{seg_long, copies_long}
use Rattle.tower.specs.Ready.{Element, Positive, Run}
use Rattle.tower.specs.Stands.{one_long}
use Rattle.tower.specs.Store.{Put, put-append}
use Rattle.tower.specs.Writing.{size}
use Rattle.tower.proofs.Laws.{row}
use Rattle.tower.proofs.Rows.{size_down}

copies_more : (n : ℕ) (l : List ℤ) → copies (suc n) l ≡ copies n l ++ l
copies_more zero l = append-nil l
copies_more (suc n) l = ap (λ t. l ++ t) (copies_more n l) ∙ sym (append_assoc l (copies n l) l)

seg_more : (a k : ℕ) (x : List ℤ) → a + k < length x → seg a (suc k) x ≡ seg a k x ++ (get_or x (a + k) (pos 0) ∷ [])
seg_more a k x h = take-suc (drop a x) k (pos 0) (omega (arith, length-drop a x)) ∙ ap (λ g. seg a k x ++ (g ∷ [])) (get_or-drop a x k (pos 0))

-- n copies of one word
pub copies_word : (n : ℕ) (g : ℤ) → copies n (g ∷ []) ≡ replicate n g
copies_word zero g = refl
copies_word (suc n) g = ap (λ t. g ∷ t) (copies_word n g)

-- one copy more of l, behind k of them
pub next-copy : {a b : ℕ} {u v w : List ℤ} (k s : ℕ) (l : List ℤ) → length l ≡ s → b ≡ a + k * s
    → Put a (copies k l) u v → Put b l v w → Put a (copies (k + 1) l) u w
next-copy {a} {b} {u} {v} {w} k s l e h p q =
    subst (λ m. Put a m u w) (sym (copies_more k l) ∙ ap (λ n. copies n l) (sym (add-one k))) (put-append (omega (arith, copies_long k s l e)) p q)

-- one word more of x, behind k of them
pub next_word : {a b : ℕ} {u v w : List ℤ} {g : ℤ} (f k : ℕ) (x : List ℤ) → f + k < length x → b ≡ a + k → g ≡ get_or x (f + k) (pos 0)
    → Put a (seg f k x) u v → Put b (g ∷ []) v w → Put a (seg f (k + 1) x) u w
next_word {a} {b} {u} {v} {w} {g} f k x l h e p q =
    let more : seg f k x ++ (g ∷ []) ≡ seg f (k + 1) x = ap (λ y. seg f k x ++ (y ∷ [])) e ∙ sym (seg_more f k x l) ∙ ap (λ n. seg f n x) (sym (add-one k)) in
    subst (λ m. Put a m u w) more (put-append (omega (arith, seg_long f k x (omega arith))) p q)

-- ---- elements
module _ {i : ℕ} {d z : List ℕ} {x : List ℤ} {a : ℕ} (y : List ℤ) (e : length y ≡ length x) where
  -- the coefficients behind a degree word
  pub all_fit : (i ≡ 0 → ⊥) → Element i d z x a → (n : ℕ) → n ≡ get_or d (i - 1) 0 → Run (i - 1) n d z y (a + 1)
  all_fit ne r n h =
      let m : n * size d (i - 1) ≡ get_or d (i - 1) 0 * size d (i - 1) = ap (λ (k : ℕ). k * size d (i - 1)) h in
      record { low = omega (arith, r.low); sized = r.sized; inside = omega (arith, r.inside, size_down d i ne) }

  -- the first of them, and the rest
  module _ (ne : i ≡ 0 → ⊥) (r : Element i d z x a) (some : Positive i d) where
    pub first_fits : Element (i - 1) d z y (a + 1) × Positive (i - 1) d
    first_fits =
        let q = row 0 (get_or d (i - 1) 0) (size d (i - 1)) (some.some (i - 1) (omega arith)) in (
          record { low = omega (arith, r.low); sized = r.sized; inside = omega (arith, r.inside, size_down d i ne) },
          record { some = λ k l. some.some k (omega arith) },
        )

    pub rest_fit : (n s : ℕ) → n ≡ get_or d (i - 1) 0 → s ≡ get_or z (i - 1) 0 → Run (i - 1) (n - 1) d z y (a + 1 + s)
    rest_fit n s en es =
        let is : s ≡ size d (i - 1) = es ∙ r.sized.at (i - 1) (omega (arith, r.low)) in
        let more = some.some (i - 1) (omega arith) in
        let up : suc (n - 1) ≡ get_or d (i - 1) 0 = omega arith in
        let m = ap (λ (k : ℕ). k * size d (i - 1)) up in
        record { low = omega (arith, r.low); sized = r.sized; inside = omega (arith, r.inside, size_down d i ne, suc-mul (n - 1) (size d (i - 1))) }

-- the zero of level i: one word, or a degree word and the zeros of the level below
pub zero-low : {a : ℕ} {u w : List ℤ} (d : List ℕ) (i : ℕ) → i ≡ 0 → Put a (pos 0 ∷ []) u w → Put a (zero_words d i) u w
unfolding zero_words
zero-low d zero e p = p
zero-low d (suc i) e p = absurd (lt_irrefl 0 (omega arith))

pub zero-up : {a b n : ℕ} {u v w : List ℤ} (d : List ℕ) (i : ℕ) → (i ≡ 0 → ⊥) → b ≡ a + 1 → n ≡ get_or d (i - 1) 0
    → Put a (negsuc 0 ∷ []) u v → Put b (copies n (zero_words d (i - 1))) v w → Put a (zero_words d i) u w
unfolding zero_words
zero-up d zero ne eb en p q = absurd (ne refl)
zero-up {a} {b} {n} {u} {v} {w} d (suc i) ne eb en p q = put-append eb p (rw (en, sub-one (suc i)) at q)

-- the one of level i: one word, or a degree word, the one of the level below and zeros
pub one-low : {a : ℕ} {u w : List ℤ} (d : List ℕ) (i : ℕ) → i ≡ 0 → Put a (pos 1 ∷ []) u w → Put a (one_words d i) u w
unfolding one_words
one-low d zero e p = p
one-low d (suc i) e p = absurd (lt_irrefl 0 (omega arith))

pub one_up : {a b c s n : ℕ} {u v v' w : List ℤ} (d : List ℕ) (i : ℕ) → (i ≡ 0 → ⊥) → Positive i d
    → b ≡ a + 1 → c ≡ b + s → s ≡ size d (i - 1) → n ≡ get_or d (i - 1) 0
    → Put a (pos 0 ∷ []) u v → Put b (one_words d (i - 1)) v v' → Put c (copies (n - 1) (zero_words d (i - 1))) v' w → Put a (one_words d i) u w
unfolding one_words
one_up d zero ne some eb ec es en p q r = absurd (ne refl)
one_up d (suc i) ne some eb ec es en p q r =
    let e = sub-one (suc i) in
    let s = rw e at es in
    let long = one_long d i (record { some = λ k l. some.some k (omega arith) }) in
    put-append eb p (put-append (omega arith) (rw e at q) (rw (en, e) at r))

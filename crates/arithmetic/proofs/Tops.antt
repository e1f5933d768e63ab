-- Laws of the search for the highest coefficient, and of the degree word.
use Prim.Native.Nat.{ℕ, suc, ◌+◌, ◌-◌, ◌*◌, ◌<◌, ◌≤◌}
use native.Mathlib.Nat.{lt_irrefl}
use native.Mathlib.Omega.{arith}
use mathlib.Core.Path.{◌≡◌, refl, sym, ap, ◌∙◌, subst}
use mathlib.Core.Bool.{true, false}
use mathlib.Core.List.{List, [], ◌∷◌}
use lib.IntN.{ℤ, pos}
use lib.Dec.{T}
use lib.ListN.{length, get_or}
use Rattle.algebra.specs.Vec.{Vec, coef, coef_below}
use Rattle.algebra.specs.Test.{le_or_lt}
use Rattle.algebra.specs.Shape.{strip, count}
use mathlib.Core.Logic.{◌↔◌, ◌⊎◌, inl, inr}
use Rattle.tower.specs.Levels.{El, is_zero, group, zero_test}
use Rattle.tower.specs.Writing.{size, degree_word, write, writes, writes_long, write_long, slot}
use Rattle.tower.specs.Form.{eq_z, seg}
use Rattle.tower.specs.Heads.{head_of}
use Rattle.tower.specs.Lists.{of_true}
use Rattle.tower.specs.Coding.{count_unique}
use Rattle.tower.specs.Stands.{zero_iff}
use Rattle.tower.specs.Store.{Put, put-append, kept_refl, kept-seg}
use Rattle.arithmetic.specs.Rows.{RunStands, run_block, Top, Settled}

-- from k on all are zero
abbrev pub ZeroFrom : (i n s : ℕ) → List ℤ → ℕ → ℕ → Type 0
ZeroFrom i n s w a k =
    (p : ℕ) (d : List ℕ) (v : Vec (El p d i) n) (p_pos : 0 < p) → s ≡ size d i → RunStands p d i n v w a → (j : ℕ) → k ≤ j → coef (group p p_pos d i).𝟘 n v j ≡ (group p p_pos d i).𝟘

pub zero-start : (i n s : ℕ) (w : List ℤ) (a : ℕ) → ZeroFrom i n s w a n
zero-start i n s w a p d v p_pos es h j l = coef_below (group p p_pos d i).𝟘 n v j l

module _ (i n s : ℕ) (w : List ℤ) (a k : ℕ) (few : k < n) (b : ℕ) (eb : b ≡ a + k * s) where
  told : (p : ℕ) (d : List ℕ) (v : Vec (El p d i) n) (p_pos : 0 < p) → s ≡ size d i → RunStands p d i n v w a
      → T (eq_z (get_or w b (pos 0)) (head_of i)) ↔ (coef (group p p_pos d i).𝟘 n v k ≡ (group p p_pos d i).𝟘)
  told p d v p_pos es h =
      let at : a + k * size d i ≡ b = ap (λ m. a + k * m) (sym es) ∙ sym eb in
      subst (λ m. T (eq_z (get_or w m (pos 0)) (head_of i)) ↔ (coef (group p p_pos d i).𝟘 n v k ≡ (group p p_pos d i).𝟘)) at
      (zero_iff p p_pos d i w (a + k * size d i) (coef (group p p_pos d i).𝟘 n v k) (run_block p p_pos d i n v w a h k few))

  -- one more
  zero-next : ZeroFrom i n s w a (suc k) → eq_z (get_or w b (pos 0)) (head_of i) ≡ true → ZeroFrom i n s w a k
  zero-next z t p d v p_pos es h j l = which (le_or_lt (suc k) j)
    where
      which : (suc k ≤ j) ⊎ (j < suc k) → coef (group p p_pos d i).𝟘 n v j ≡ (group p p_pos d i).𝟘
      which (inl q) = z p d v p_pos es h j q
      which (inr q) =
          let e : k ≡ j = omega arith in
          subst (λ m. coef (group p p_pos d i).𝟘 n v m ≡ (group p p_pos d i).𝟘) e ((told p d v p_pos es h).0 (of_true _ t))

  top_here : ZeroFrom i n s w a (suc k) → eq_z (get_or w b (pos 0)) (head_of i) ≡ false → Top i n s w a (suc k)
  top_here z t p d v p_pos es h = count_unique (zero_test p p_pos d i) n v (suc k) (record { top = top; rest = λ j l. z p d v p_pos es h j l })
    where
      top : (j : ℕ) → suc j ≡ suc k → ¬ (coef (group p p_pos d i).𝟘 n v j ≡ (group p p_pos d i).𝟘)
      top j e q =
          let f : j ≡ k = omega arith in
          let y = (told p d v p_pos es h).1 (subst (λ m. coef (group p p_pos d i).𝟘 n v m ≡ (group p p_pos d i).𝟘) f q) in
          subst T t y

pub top-none : (i n s : ℕ) (w : List ℤ) (a : ℕ) → ZeroFrom i n s w a 0 → Top i n s w a 0
top-none i n s w a z p d v p_pos es h =
    count_unique (zero_test p p_pos d i) n v 0 (record { top = λ j e q. lt_irrefl 0 (omega arith); rest = λ j l. z p d v p_pos es h j l })

-- ---- going down from k
module _ (i n s : ℕ) (w : List ℤ) (a k b : ℕ) (some : 0 < k) (few : k ≤ n) (eb : b ≡ a + (k - 1) * s) (z : ZeroFrom i n s w a k) where
  pred : suc (k - 1) ≡ k
  pred = omega (arith, some)

  pub top_down : eq_z (get_or w b (pos 0)) (head_of i) ≡ false → Top i n s w a (k - 1 + 1)
  top_down t = subst (Top i n s w a) (omega arith) (top_here i n s w a (k - 1) (omega arith) b eb (subst (ZeroFrom i n s w a) (sym pred) z) t)

  pub zero_down : eq_z (get_or w b (pos 0)) (head_of i) ≡ true → ZeroFrom i n s w a (k - 1)
  zero_down t = zero-next i n s w a (k - 1) (omega arith) b eb (subst (ZeroFrom i n s w a) (sym pred) z) t

-- ---- the degree word
-- the coefficients stand behind it as before
slot_settled : (i n s a : ℕ) (w w' : List ℤ) (r : ℕ) → Top i n s w (a + 1) r → Put a (degree_word r ∷ []) w w'
    → (p : ℕ) (d : List ℕ) (v : Vec (El p d i) n) → 0 < p → s ≡ size d i → RunStands p d i n v w (a + 1) → Put a (slot p d i n v) w w'
slot_settled i n s a w w' r t q p d v p_pos es h = put-append refl head (record { kept = kept_refl (a + 1) (length l) w'; here = same })
  where
    l : List ℤ
    l = writes (write p d i) n v

    head : Put a (degree_word (count (strip (is_zero p d i) n v)) ∷ []) w w'
    head = subst (λ c. Put a (degree_word c ∷ []) w w') (sym (t p d v p_pos es h)) q

    long : length l ≡ n * size d i
    long = writes_long (write p d i) (size d i) (write_long p d i) n v

    same : seg (a + 1) (length l) w' ≡ l
    same = kept-seg (a + 1) (length l) (inr (omega arith)) q.kept ∙ ap (λ m. seg (a + 1) m w) long ∙ h

pub settled : (i n s a : ℕ) (w w' : List ℤ) (r : ℕ) → Top i n s w (a + 1) r → Put a (degree_word r ∷ []) w w' → Settled i n s a w w'
settled i n s a w w' r t q = (q.kept, slot_settled i n s a w w' r t q)

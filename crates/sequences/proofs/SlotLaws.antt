-- Laws of the start of an inverse: five slots above top.
--
-- Slots, begin_slots                 == nothing wraps
-- begin-modulus, -element, -none, -zeros, -one, _unit == what each step asks for, in a store as long as the first
-- begun                              == what stands then
use Prim.Native.Nat.{ℕ, zero, suc, ◌+◌, ◌*◌, ◌<◌, ◌≤◌}
use native.Mathlib.Nat.{mul-le-mul_left, suc-mul}
use native.Mathlib.Omega.{arith}
use mathlib.Core.Path.{◌≡◌, ap, ap₂, sym, ◌∙◌, subst}
use mathlib.Core.Bool.{Bool, true}
use mathlib.Core.Logic.{◌⊎◌, inl, inr}
use mathlib.Core.List.{List, []}
use lib.IntN.{ℤ}
use lib.ListN.{length}
use Rattle.algebra.specs.Vec.{coef, coef-zero, trunc-at, zeroᵛ, topped}
use Rattle.algebra.specs.Series.{const}
use Rattle.algebra.proofs.Quotient.{one-is}
use Rattle.tower.specs.Form.{seg, copies, zero_words, one_words}
use Rattle.tower.specs.Levels.{degree, El, group, Tower, ring, Ones}
use Rattle.tower.specs.Lists.{seg-seg, seg_long, copies_long}
use Rattle.tower.specs.Ready.{Positive, Element, Run}
use Rattle.tower.specs.Stands.{Stands, zero_long, one_long, one_stands}
use Rattle.tower.specs.Store.{Kept, Put, kept_trans, kept-wide, kept-seg, put-kept, put-seg}
use Rattle.tower.specs.Writing.{size, size-pos, size_suc, write, tower_size, tower_size_suc}
use Rattle.arithmetic.specs.Rows.{block_inside}
use Rattle.arithmetic.specs.Walk.{pick}
use Rattle.products.specs.Product.{TowerStands, Elements}
use Rattle.products.specs.Value.{part, part_stands}
use Rattle.products.proofs.Frames.{kept_same, elements_picked, picked_seg, picked_long, zeros_stand}
use Rattle.products.proofs.Towers.{tower-each}
use Rattle.sequences.specs.Starts.{BringReady, slot, BeginReady, BeginDone}

-- an element in words that were copied
copied_stands : (p : ℕ) (d : List ℕ) (i : ℕ) (u : El p d i) (x : List ℤ) (a n : ℕ) {c : ℕ} {w w' : List ℤ} → a + n ≤ length x → Put c (seg a n x) w w'
    → (j : ℕ) → j + size d i ≤ n → Stands p d i u x (a + j) → Stands p d i u w' (c + j)
copied_stands p d i u x a n {c} {w} {w'} inside put j l h =
    sym (seg-seg c n j (size d i) w' l)
    ∙ ap (seg j (size d i)) (put-seg n (seg_long a n x inside) put)
    ∙ seg-seg a n j (size d i) x l
    ∙ h

-- elements outside a frame
run-kept : (p : ℕ) (d : List ℕ) (i n : ℕ) (f : ℕ → El p d i) (a : ℕ) {c m : ℕ} {w w' : List ℤ} → (a + n * size d i ≤ c) ⊎ (c + m ≤ a) → Kept c m w w'
    → Elements p d i n f w a → Elements p d i n f w' a
run-kept p d i n f a {w = w} {w' = w'} far k h = elements_picked p d i n f true w w' [] a (λ q. kept_same a (n * size d i) far k) h

-- the places of the slots, in the numbers of the code
pub record Slots (d : List ℕ) (h g s : ℕ) (w : List ℤ) (top : ℕ) : Type 0 where
  pub whole : (g + 1) * s + 1 ≡ slot d h
  pub many : g ≤ g * s
  pub some : 0 < s
  pub space : top + 5 * slot d h ≤ length w

module _ {h g s : ℕ} {d z : List ℕ} {e : List ℤ} {e-in : Bool} {ea : ℕ} {x : List ℤ} {x_in : Bool} {a : ℕ} {w : List ℤ} {top : ℕ}
    (r : BeginReady h g s d z e e-in ea x x_in a w top) where
  pub begin_slots : Slots d h g s w top
  begin_slots =
      let m : g * 1 ≤ g * s = mul-le-mul_left g (omega (arith, r.size_is, size-pos d h)) in
      record {
        whole = ap₂ (λ x y. (x + 1) * y + 1) r.degree-is r.size_is;
        many = omega arith;
        some = omega (arith, r.size_is, size-pos d h);
        space = r.space;
      }

  -- the source's words
  e-part : (g + 1) * s + 1 ≤ tower_size d (suc h)
  e-part = omega (arith, begin_slots.whole, tower_size_suc d h, size_suc d h)

  x_part : g * s + 1 ≡ size d (suc h)
  x_part = ap₂ (λ x y. x * y + 1) r.degree-is r.size_is ∙ sym (size_suc d h)

  pub begin-modulus : BringReady e e-in (ea + 1) w (top + 1) ((g + 1) * s)
  begin-modulus = record {
    x_inside = omega (arith, e-part, r.e_inside.inside);
    c_inside = omega (arith, begin_slots.whole, r.space);
    apart = λ q. inl (omega (arith, e-part, r.e_inside.below q));
  }

  fewer_positive : Positive h d
  fewer_positive = record { some = λ k l. r.positive.some k (omega arith) }

  -- a later store
  module _ {w₁ : List ℤ} (long : length w₁ ≡ length w) where
    pub begin-element : BringReady x x_in (a + 1) w₁ (top + ((g + 1) * s + 1) + 1) (g * s)
    begin-element = record {
      x_inside = omega (arith, x_part, r.x_inside.inside, picked_long x_in w w₁ x long);
      c_inside = omega (arith, begin_slots.whole, r.space, long);
      apart = λ q. inl (omega (arith, x_part, r.x_inside.below q));
    }

    pub begin-none : Run h g d z w₁ (top + 2 * ((g + 1) * s + 1) + 1)
    begin-none = record { low = omega (arith, r.low); sized = r.sized; inside = omega (arith, ap (λ (y : ℕ). g * y) r.size_is, begin_slots.whole, r.space, long) }

    pub begin-zeros : Run h g d z w₁ (top + 3 * ((g + 1) * s + 1) + 1)
    begin-zeros = record { low = omega (arith, r.low); sized = r.sized; inside = omega (arith, ap (λ (y : ℕ). g * y) r.size_is, begin_slots.whole, r.space, long) }

    pub begin-one : Element h d z w₁ (top + 3 * ((g + 1) * s + 1) + 1) × Positive h d
    begin-one = (record { low = omega (arith, r.low); sized = r.sized; inside = omega (arith, r.size_is, begin_slots.whole, r.space, long) }, fewer_positive)

    pub begin_unit : Element h d z w₁ (top + 4 * ((g + 1) * s + 1)) × Positive h d
    begin_unit = (record { low = omega (arith, r.low); sized = r.sized; inside = omega (arith, r.size_is, begin_slots.whole, r.space, long) }, fewer_positive)

-- ---- what stands then
module _ {h : ℕ} {d z : List ℕ} {e : List ℤ} {e-in : Bool} {ea : ℕ} {x : List ℤ} {x_in : Bool} {a : ℕ} {w : List ℤ} {top : ℕ}
    (r : BeginReady h (degree d h) (size d h) d z e e-in ea x x_in a w top) {w₁ w₂ w₃ w₄ w₅ w₆ : List ℤ}
    (p₁ : Put (top + 1) (seg (ea + 1) ((degree d h + 1) * size d h) (pick e-in w e)) w w₁)
    (p₂ : Put (top + slot d h + 1) (seg (a + 1) (degree d h * size d h) (pick x_in w₁ x)) w₁ w₂)
    (p₃ : Put (top + 2 * slot d h + 1) (copies (degree d h) (zero_words d h)) w₂ w₃) (p₄ : Put (top + 3 * slot d h + 1) (copies (degree d h) (zero_words d h)) w₃ w₄)
    (p₅ : Put (top + 3 * slot d h + 1) (one_words d h) w₄ w₅) (p₆ : Put (top + 4 * slot d h) (one_words d h) w₅ w₆) where
  abbrev g : ℕ
  g = degree d h

  abbrev s : ℕ
  s = size d h

  zeros_long : length (copies g (zero_words d h)) ≡ g * s
  zeros_long = copies_long g s (zero_words d h) (zero_long d h)

  ones_long : length (one_words d h) ≡ s
  ones_long = one_long d h (record { some = λ k l. r.positive.some k (omega arith) })

  k₁ : Kept (top + 1) ((g + 1) * s) w w₁
  k₁ = put-kept ((g + 1) * s) (seg_long (ea + 1) ((g + 1) * s) (pick e-in w e) (begin-modulus r).x_inside) p₁

  k₂ : Kept (top + slot d h + 1) (g * s) w₁ w₂
  k₂ = put-kept (g * s) (seg_long (a + 1) (g * s) (pick x_in w₁ x) (begin-element r k₁.long).x_inside) p₂

  -- from each store to the last
  f₅ : Kept (top + 3 * slot d h + 1) (slot d h + s) w₄ w₆
  f₅ = kept_trans (kept-wide (omega arith) (omega arith) (put-kept s ones_long p₅)) (kept-wide (omega arith) (omega arith) (put-kept s ones_long p₆))

  f₄ : Kept (top + 3 * slot d h + 1) (slot d h + s) w₃ w₆
  f₄ = kept_trans (kept-wide (omega arith) (omega arith) (put-kept (g * s) zeros_long p₄)) f₅

  f₃ : Kept (top + 2 * slot d h + 1) (2 * slot d h + s) w₂ w₆
  f₃ = kept_trans (kept-wide (omega arith) (omega arith) (put-kept (g * s) zeros_long p₃)) (kept-wide (omega arith) (omega arith) f₄)

  f₂ : Kept (top + slot d h + 1) (3 * slot d h + s) w₁ w₆
  f₂ = kept_trans (kept-wide (omega arith) (omega arith) k₂) (kept-wide (omega arith) (omega arith) f₃)

  f₁ : Kept top (5 * slot d h) w w₆
  f₁ = kept_trans (kept-wide (omega arith) (omega arith) k₁) (kept-wide (omega arith) (omega arith) f₂)

  module _ (p : ℕ) (p_pos : 0 < p) (two : 1 < p) (t : Tower p d (suc h)) (v : El p d (suc h)) where
    abbrev o : El p d h
    o = (group p p_pos d h).𝟘

    own : Ones p p_pos d h
    own = record { p_two = two; degrees = λ k l. r.positive.some k (omega arith) }

    modulus_stands : TowerStands p p_pos d (suc h) t (pick e-in w e) ea
        → Elements p d h (suc g) (coef o (suc g) (topped g t.1 (ring p p_pos d h t.0).𝟙)) w₆ (top + 1)
    modulus_stands tower =
        run-kept p d h (suc g) _ (top + 1) (inl (omega (arith, suc-mul g s))) f₂
        (λ n l. copied_stands p d h _ (pick e-in w e) (ea + 1) ((g + 1) * s) (begin-modulus r).x_inside p₁ (n * s)
        (omega (arith, block_inside n (suc g) s l, suc-mul g s)) (tower-each p p_pos d h t (pick e-in w e) ea tower n l))

    element_stands : Stands p d (suc h) v (pick x_in w x) a → Elements p d h g (part p p_pos d h v) w₆ (top + slot d h + 1)
    element_stands st =
        let later : Stands p d (suc h) v (pick x_in w₁ x) a =
        picked_seg x_in a (size d (suc h)) w w₁ x (λ q. kept_same a (size d (suc h)) (inl (omega (arith, r.x_inside.below q))) k₁) ∙ st in
        run-kept p d h g _ (top + slot d h + 1) (inl (omega arith)) f₃
        (λ n l. copied_stands p d h _ (pick x_in w₁ x) (a + 1) (g * s) (begin-element r k₁.long).x_inside p₂ (n * s)
        (block_inside n g s l) (part_stands p p_pos d h v (pick x_in w₁ x) a later n l))

    none_stands : Elements p d h g (part p p_pos d h (zeroᵛ o g)) w₆ (top + 2 * slot d h + 1)
    none_stands =
        run-kept p d h g _ (top + 2 * slot d h + 1) (inl (omega arith)) f₄
        (λ n l. zeros_stand p p_pos d h g w₂ w₃ (top + 2 * slot d h + 1) p₃ n l ∙ ap (write p d h) (sym (coef-zero o g n)))

    one-part : (n : ℕ) → n < g → part p p_pos d h (ring p p_pos d (suc h) t).𝟙 n ≡ const (ring p p_pos d h t.0) (ring p p_pos d h t.0).𝟙 n
    one-part n l =
        ap (λ y. coef o g y n) (one-is (ring p p_pos d h t.0) g t.1 (r.positive.some h (omega arith)))
        ∙ trunc-at o g (const (ring p p_pos d h t.0) (ring p p_pos d h t.0).𝟙) n l

    one_stands_here : (n : ℕ) → n < g → Stands p d h (const (ring p p_pos d h t.0) (ring p p_pos d h t.0).𝟙 n) w₅ (top + 3 * slot d h + 1 + n * s)
    one_stands_here zero l =
        let here : top + 3 * slot d h + 1 ≡ top + 3 * slot d h + 1 + 0 * s = omega arith in
        subst (Stands p d h _ w₅) here (one_stands p p_pos d h w₅ (top + 3 * slot d h + 1) t.0 own w₄ p₅)
    one_stands_here (suc n) l =
        kept-seg (top + 3 * slot d h + 1 + suc n * s) s (inr (omega (arith, suc-mul n s))) (put-kept s ones_long p₅)
        ∙ zeros_stand p p_pos d h g w₃ w₄ (top + 3 * slot d h + 1) p₄ (suc n) l

    ones_stand : Elements p d h g (part p p_pos d h (ring p p_pos d (suc h) t).𝟙) w₆ (top + 3 * slot d h + 1)
    ones_stand =
        run-kept p d h g _ (top + 3 * slot d h + 1) (inl (omega arith)) (put-kept s ones_long p₆)
        (λ n l. one_stands_here n l ∙ ap (write p d h) (sym (one-part n l)))

  canonical : BeginDone h d e e-in ea x x_in a w w₆ top
  canonical = record {
    frame = f₁;
    done = λ p p_pos two t v tower st. record {
      monic = modulus_stands p p_pos two t v tower;
      given = element_stands p p_pos two t v st;
      zeros = none_stands p p_pos two t v;
      ones = ones_stand p p_pos two t v;
      unit = one_stands p p_pos d h w₆ (top + 4 * slot d h) t.0 (own p p_pos two t v) w₅ p₆;
    };
  }

-- in the numbers of the code
pub begun : {h g s : ℕ} {d z : List ℕ} {e : List ℤ} {e-in : Bool} {ea : ℕ} {x : List ℤ} {x_in : Bool} {a : ℕ} {w : List ℤ} {top : ℕ}
    {w₁ w₂ w₃ w₄ w₅ w₆ : List ℤ} → BeginReady h g s d z e e-in ea x x_in a w top
    → Put (top + 1) (seg (ea + 1) ((g + 1) * s) (pick e-in w e)) w w₁
    → Put (top + ((g + 1) * s + 1) + 1) (seg (a + 1) (g * s) (pick x_in w₁ x)) w₁ w₂
    → Put (top + 2 * ((g + 1) * s + 1) + 1) (copies g (zero_words d h)) w₂ w₃ → Put (top + 3 * ((g + 1) * s + 1) + 1) (copies g (zero_words d h)) w₃ w₄
    → Put (top + 3 * ((g + 1) * s + 1) + 1) (one_words d h) w₄ w₅ → Put (top + 4 * ((g + 1) * s + 1)) (one_words d h) w₅ w₆
    → BeginDone h d e e-in ea x x_in a w w₆ top
begun r p₁ p₂ p₃ p₄ p₅ p₆ =
    let eg = r.degree-is in
    let es = r.size_is in
    canonical (rw (eg, es) at r) (rw (eg, es) at p₁) (rw (eg, es) at p₂) (rw (eg, es) at p₃) (rw (eg, es) at p₄) (rw es at (rw eg at p₅)) (rw es at (rw eg at p₆))

-- Laws of elements in the store, at any level.
--
-- between_same              == words outside a row are as before
-- acting_later, tower_later == the tower stands while a row outside it changes;  acting_size == the size that the code reads
-- acting_product            == what a product of operands in the store asks for
-- times_asks, times_done    == one product
-- Rising                    == k elements of a row are made, from the lowest up
-- rising_start, _whole, _below, _ahead, _step, _end == nothing made; what has changed; the next element's place, and its words; one more; all
use Prim.Native.Nat.{ℕ, ◌+◌, ◌*◌, ◌^◌, ◌<◌, ◌≤◌}
use native.Mathlib.Nat.{mul-le-mul_right, lt_irrefl}
use native.Mathlib.Omega.{arith}
use mathlib.Core.Path.{◌≡◌, refl, ap, sym, ◌∙◌, subst}
use mathlib.Core.Bool.{Bool, true, false}
use mathlib.Core.Logic.{◌⊎◌, inl, inr}
use mathlib.Core.List.{List, []}
use lib.Dec.{T}
use lib.IntN.{ℤ}
use lib.ListN.{length, get_or}
use Rattle.algebra.specs.Ring.{zero-⊕}
use Rattle.algebra.specs.Test.{le_or_lt}
use Rattle.algebra.specs.Windows.{sum-zero, sum_suc}
use Rattle.tower.specs.Levels.{El, group, Tower, ring}
use Rattle.tower.specs.Writing.{size, write, tower_size}
use Rattle.tower.specs.Stands.{Stands}
use Rattle.arithmetic.specs.Rows.{block_inside}
use Rattle.arithmetic.specs.Walk.{pick}
use Rattle.products.specs.Value.{value-pairs}
use Rattle.products.specs.Product.{Worked, work, TowerStands, Elements, two, Outside, Given, ProductReady, ProductDone}
use Rattle.products.proofs.Frames.{worked_trans, worked-wide, Same, same-seg, worked_same, picked_seg, inside_kept}
use Rattle.products.proofs.Remainders.{outside_same}
use Rattle.sequences.specs.Rows.{Acting, Between, TimesReady, TimesDone}

-- ---- frames
pub between_same : {c m top n : ℕ} {w w' : List ℤ} (b l : ℕ) → Between b l c m → b + l ≤ top → Worked c m top n w w' → Same b l w w'
between_same b l (inl h) q f = worked_same b l (inl h) f
between_same b l (inr h) q f = worked_same b l (inr (h, q)) f

-- ---- the tower
module _ {i : ℕ} {d z : List ℕ} {p : ℕ} {e : List ℤ} {e-in : Bool} {ea : ℕ} {w₀ : List ℤ} {top : ℕ} (s : Acting i d z p e e-in ea w₀ top) {c l : ℕ}
    (out : Outside e-in ea (tower_size d i) c l) {w : List ℤ} (fr : Worked c l top (work d i) w₀ w) where
  pub tower_later : (p_pos : 0 < p) (t : Tower p d i) → TowerStands p p_pos d i t (pick e-in w₀ e) ea → TowerStands p p_pos d i t (pick e-in w e) ea
  tower_later p_pos t h = picked_seg e-in ea (tower_size d i) w₀ w e (outside_same s.e_inside out fr) ∙ h

  abbrev pub acting_later : Acting i d z p e e-in ea w top
  acting_later = record {
    modulus = s.modulus;
    low = s.low;
    sized = s.sized;
    positive = s.positive;
    small = s.small;
    e_inside = inside_kept e-in w₀ w e fr.long (omega arith) s.e_inside;
    room = omega (arith, s.room, fr.long);
    p_pos = s.p_pos;
    t = s.t;
    tower = tower_later s.p_pos s.t s.tower;
  }

-- the size that the code reads
pub acting_size : {i : ℕ} {d z : List ℕ} {p : ℕ} {e : List ℤ} {e-in : Bool} {ea : ℕ} {w : List ℤ} {top r : ℕ} → Acting i d z p e e-in ea w top → r ≡ get_or z i 0
    → r ≡ size d i
acting_size {i} s h = h ∙ s.sized.at i s.low

-- n pairs in the store
pub acting_product : {i : ℕ} {d z : List ℕ} {p : ℕ} {m : List ℕ} {e : List ℤ} {e-in : Bool} {ea : ℕ} {w : List ℤ} {c top a b n : ℕ} {keep : Bool}
    {u v : ℕ → El p d i} {old : El p d i} → Acting i d z p e e-in ea w top → length m ≡ 4 → a + n * size d i ≤ top → b + n * size d i ≤ top
    → n * size d i ≤ 2 ^ 31 → c + size d i ≤ top → (p_pos : 0 < p) (t : Tower p d i) → TowerStands p p_pos d i t (pick e-in w e) ea
    → Given p p_pos d (two i [] true a [] true b n) u v i old keep w c
    → ProductReady i d z p m e e-in ea (two i [] true a [] true b n) keep w c top
acting_product {u = u} {v = v} {old = old} s em ha hb few hc p_pos t tower h = record {
  operating = record {
    modulus = s.modulus;
    low = s.low;
    sized = s.sized;
    x_inside = record { inside = omega (arith, s.room); below = λ q. ha };
    y_inside = record { inside = omega (arith, s.room); below = λ q. hb };
    few = few;
  };
  level = omega arith;
  positive = s.positive;
  places = em;
  reached = λ l h v. absurd (lt_irrefl 0 (omega arith));
  e_inside = s.e_inside;
  c_below = hc;
  room = s.room;
  small = s.small;
  p_pos = p_pos;
  t = t;
  u = u;
  v = v;
  old = old;
  tower = tower;
  given = h;
}

-- ---- one product
-- one element is a row of one
one-element : (p : ℕ) (d : List ℕ) (i : ℕ) (x : El p d i) (w : List ℤ) (a : ℕ) → Stands p d i x w a → Elements p d i 1 (λ k. x) w a
one-element p d i x w a h k l =
    let none : k ≡ 0 = omega arith in
    let here : a ≡ a + k * size d i = omega (arith, ap (λ (n : ℕ). n * size d i) none) in
    subst (Stands p d i x w) here h

no_old : {A : Type 0} → false ≡ true → A
no_old q = absurd (subst T (sym q) tt)

module _ {i : ℕ} {d z : List ℕ} {p : ℕ} {e : List ℤ} {e-in : Bool} {ea a b : ℕ} {w : List ℤ} {c top : ℕ} (r : TimesReady i d z p e e-in ea a b w c top) where
  pair_given : (p_pos : 0 < p) (x y : El p d i) → Stands p d i x w a → Stands p d i y w b
      → Given p p_pos d (two i [] true a [] true b 1) (λ k. x) (λ k. y) i (group p p_pos d i).𝟘 false w c
  pair_given p_pos x y hx hy = record { lefts = one-element p d i x w a hx; rights = one-element p d i y w b hy; kept = no_old; fresh = λ q. refl }

  pub times_asks : {m : List ℕ} → length m ≡ 4 → ProductReady i d z p m e e-in ea (two i [] true a [] true b 1) false w c top
  times_asks em =
      acting_product r.acting em (omega (arith, r.a_below)) (omega (arith, r.b_below)) (omega (arith, r.acting.small)) r.c_below
      r.acting.p_pos r.acting.t r.acting.tower (pair_given r.acting.p_pos r.x r.y r.left r.right)

  pub times_done : {m : List ℕ} {w' : List ℤ} → length m ≡ 4 → ProductDone i d p m e e-in ea (two i [] true a [] true b 1) false false w w' c top
      → TimesDone i d p e e-in ea a b w w' c top
  times_done {m} em h = record {
    frame = h.frame;
    done = λ p_pos t x y tower hx hy.
        (let R = ring p p_pos d i t in
        let o = R.◌⊗◌ x y in
        h.done p_pos t _ _ R.𝟘 tower (pair_given p_pos x y hx hy)
        ∙ ap (write p d i)
        (zero-⊕ R _
        ∙ value-pairs p p_pos d i t 1 _ _ m (omega (arith, r.acting.low))
        ∙ sum_suc R 0 (λ n. o)
        ∙ ap (λ s. R.◌⊕◌ s o) (sum-zero R (λ n. o))
        ∙ zero-⊕ R o));
  }

-- ---- a row that is made from its lowest element up
-- w₀ is the store before; out has a row for whatever stood there
pub record Rising (i : ℕ) (d : List ℕ) (p : ℕ) (w₀ : List ℤ) (c n top : ℕ) (C : Type 0) (out : C → ℕ → El p d i) (k : ℕ) (w : List ℤ) : Type 0 where
  pub most : k ≤ n
  pub frame : Worked c (k * size d i) top (work d i) w₀ w
  pub made : (x : C) (j : ℕ) → j < k → Stands p d i (out x j) w (c + j * size d i)

module _ {i : ℕ} {d : List ℕ} {p : ℕ} {w₀ : List ℤ} {c n top : ℕ} {C : Type 0} {out : C → ℕ → El p d i} where
  pub rising_start : {k : ℕ} → k ≡ 0 → Rising i d p w₀ c n top C out k w₀
  rising_start ek = record {
    most = omega arith;
    frame = record { long = refl; below = λ k q. refl; between = λ k q r. refl; beyond = λ k q. refl };
    made = λ x j l. absurd (lt_irrefl 0 (omega arith));
  }

  module _ {k : ℕ} {w : List ℤ} (s : Rising i d p w₀ c n top C out k w) where
    pub rising_whole : Worked c (n * size d i) top (work d i) w₀ w
    rising_whole = let l : k * size d i ≤ n * size d i = mul-le-mul_right (size d i) s.most in worked-wide (omega arith) (omega arith) s.frame

    pub rising_end : n ≤ k → (x : C) → Elements p d i n (out x) w c
    rising_end h x j l = s.made x j (omega arith)

    module _ (below : c + n * size d i ≤ top) (here : k < n) where
      pub rising_below : c + k * size d i + size d i ≤ top
      rising_below = omega (arith, below, block_inside k n (size d i) here)

      -- the next element is as before
      pub rising_ahead : Same (c + k * size d i) (size d i) w₀ w
      rising_ahead = worked_same (c + k * size d i) (size d i) (inr (omega arith, rising_below)) s.frame

      pub rising_step : {k' : ℕ} {w' : List ℤ} → k' ≡ k + 1 → Worked (c + k * size d i) (size d i) top (work d i) w w'
          → ((x : C) → Stands p d i (out x k) w' (c + k * size d i)) → Rising i d p w₀ c n top C out k' w'
      rising_step {k'} {w'} ek f h = record {
        most = omega arith;
        frame = worked_trans (worked-wide (omega arith) (omega (arith, more)) s.frame) (worked-wide (omega arith) (omega (arith, more)) f);
        made = λ x j l. made x j l (le_or_lt k j);
      }
        where
          more : k' * size d i ≡ k * size d i + size d i
          more = ap (λ (y : ℕ). y * size d i) ek ∙ omega arith

          made : (x : C) (j : ℕ) → j < k' → (k ≤ j) ⊎ (j < k) → Stands p d i (out x j) w' (c + j * size d i)
          made x j l (inr q) = same-seg (worked_same (c + j * size d i) (size d i) (inl (omega (arith, block_inside j k (size d i) q))) f) ∙ s.made x j q
          made x j l (inl q) =
              let ej : k ≡ j = omega arith in
              subst (λ y. Stands p d i (out x y) w' (c + y * size d i)) ej (h x)

-- Laws of rows of numbers: the division's loop at level 0, and the contracts of level 0 over no degrees and over any.
--
-- met-words                    == the places of a number's pairs;  LosingNumbers, losing_dot, losing_word == one number of a loss is one turn of its loop
-- dividing_asks, dividing_next == one number of a division is one turn of the division of elements
-- stands_over, elements_over   == elements of level 0 are the same over any degrees
-- numbers_acting               == level 0 asks for no tower
-- scale_numbers, lose_numbers, divide_numbers == what rows of level 0 ask for, over no degrees
-- scale-up, lose_up, divide-up     == what they leave, over any
use Prim.Native.Nat.{ℕ, zero, suc, ◌+◌, ◌-◌, ◌*◌, ◌<◌, ◌≤◌}
use native.Mathlib.Nat.{lt_irrefl, add_assoc}
use native.Mathlib.Omega.{arith}
use mathlib.Core.Path.{◌≡◌, refl, ap, ap₂, sym, ◌∙◌, subst}
use mathlib.Core.Bool.{Bool, true}
use mathlib.Core.Logic.{◌⊎◌, inl, inr}
use mathlib.Core.List.{List, [], ◌∷◌}
use lib.IntN.{ℤ, pos}
use lib.ListN.{length, set, get_or}
use Rattle.algebra.specs.Test.{le_or_lt}
use Rattle.algebra.specs.Windows.{first, span}
use Rattle.tower.specs.Levels.{El, Tower}
use Rattle.tower.specs.Writing.{size, size-zero, write-zero, tower_size, tower_words}
use Rattle.tower.specs.Form.{seg}
use Rattle.tower.specs.Ready.{Sized}
use Rattle.tower.specs.Stands.{Stands}
use Rattle.products.specs.Product.{Worked, work, work-zero, TowerStands, Elements, two, ProductReady, ProductDone}
use Rattle.products.specs.Unit.{UnitReady}
use Rattle.products.proofs.Frames.{picked_seg}
use Rattle.products.proofs.Lowests.{single_done}
use Rattle.products.proofs.Remainders.{Counted, outside_same, falling_inside, falling_asks}
use Rattle.products.proofs.Units.{UnitFalling, unit_stood, unit_scale, unit_next}
use Rattle.sequences.specs.Rows.{Acting, Between, ScaleRowReady, ScaleRowDone, LoseReady, LoseDone, DivideReady, DivideDone}
use Rattle.sequences.specs.Numbers.{ones, LoseDotReady, lost_number, DivideAtReady, rested, DividedAt}
use Rattle.sequences.specs.Numbers.{ScaleNumbersReady, ScaleNumbersDone, LoseNumbersReady, LoseNumbersDone, DivideNumbersReady, DivideNumbersDone}
use Rattle.sequences.proofs.RowLoops.{Losing, Met, losing_asks, losing_next}
use Rattle.sequences.proofs.NumberLaws.{held_of, times-single, lose_dot, lost-word}

-- at level 0 a place is counted in words
pub in_words : (d : List ℕ) (x n : ℕ) → x + n ≡ x + n * size d 0
in_words d x n = omega (arith, ap (λ (m : ℕ). n * m) (size-zero d))

-- no level has a place
abbrev pub no_places : List ℕ
no_places = 0 ∷ 0 ∷ 0 ∷ 0 ∷ []

-- ---- a row loses a product
pub met-words : (d : List ℕ) {a m b n c k x y q at : ℕ} → x ≡ a + first n k → y ≡ b + first m k → q ≡ span m n k → at ≡ c + k → Met d 0 a m b n c k x y q at
met-words d {a} {m} {b} {n} {c} {k} ex ey eq ea = record {
  lefts = ex ∙ in_words d a (first n k);
  rights = ey ∙ in_words d b (first m k);
  many = eq;
  here = ea ∙ in_words d c k;
}

-- k numbers have lost theirs
abbrev pub LosingNumbers : (p a m b n : ℕ) (w₀ : List ℤ) (c k : ℕ) → List ℤ → Type 0
LosingNumbers p a m b n w₀ c k w = Losing 0 [] p [] true 0 a m b n w₀ c (length w₀) k w

module _ {p a m b n : ℕ} {w₀ : List ℤ} {c : ℕ} (r : LoseNumbersReady p a m b n w₀ c) {k : ℕ} {w : List ℤ} (s : LosingNumbers p a m b n w₀ c k w) (here : k < m + n - 1)
    {x y q at : ℕ} (l : Met [] 0 a m b n c k x y q at) where
  asks : ProductReady 0 [] ones p no_places [] true 0 (two 0 [] true x [] true y q) true w at (length w₀)
  asks = losing_asks r s here refl l

  pub losing_dot : LoseDotReady p x y q w at
  losing_dot = lose_dot asks

  pub losing_word : {k' : ℕ} {w' : List ℤ} → k' ≡ k + 1 → w' ≡ set w at (pos (lost_number p x y q w at)) → LosingNumbers p a m b n w₀ c k' w'
  losing_word ek h = losing_next r s here {o = no_places} refl l ek (lost-word asks h)

-- ---- the division's loop
module _ {d z : List ℕ} {p : ℕ} {e : List ℤ} {e-in : Bool} {ea : ℕ} {y : List ℤ} {b g : ℕ} {v : List ℤ} {u : ℕ} {w₀ : List ℤ} {a cap top : ℕ}
    (r : UnitReady 0 d z p e e-in ea y true b g v true u w₀ a cap top) {k₁ : ℕ} {w : List ℤ} (some : 0 < k₁)
    (s : UnitFalling 0 d p e e-in ea y true b g v true u w₀ a cap top k₁ w) where
  abbrev k : ℕ
  k = k₁ - 1

  places : Counted d 0 b a g cap k (b + first (cap - g) k) (a + g + first g k) (span g (cap - g) k) (a + k)
  places = record {
    lefts = in_words d b (first (cap - g) k);
    rights = add_assoc a g (first g k) ∙ in_words d a (g + first g k);
    many = refl;
    here = in_words d a k;
  }

  pub dividing_asks : DivideAtReady k p b g u w a cap
  dividing_asks =
      let m = ap (λ (n : ℕ). cap * n) (size-zero d) in
      record {
        fits = r.dividing.fits;
        reached = falling_inside r.dividing some s;
        a_inside = omega (arith, m, r.dividing.a_below, r.dividing.room, s.frame.long);
        b_inside = omega (arith, ap (λ (n : ℕ). g * n) (size-zero d), r.dividing.y_inside.inside, s.frame.long);
        unit =
            held_of p d r.v w u r.dividing.modulus (omega (arith, size-zero d, r.u_inside.inside, s.frame.long))
            (picked_seg true u (size d 0) w₀ w v (outside_same r.u_inside r.u_outside s.frame) ∙ r.inverse);
        apart = λ h. far h (r.u_outside refl);
        lose = lose_dot (falling_asks r.dividing some s {m = no_places} (unit_stood r) refl places refl);
      }
    where
      far : u ≡ a + k → (u + size d 0 ≤ a) ⊎ (a + cap * size d 0 ≤ u) → ⊥
      far h (inl q) = lt_irrefl 0 (omega (arith, size-zero d))
      far h (inr q) = lt_irrefl 0 (omega (arith, ap (λ (n : ℕ). cap * n) (size-zero d), falling_inside r.dividing some s))

  pub dividing_next : {w' : List ℤ} → DividedAt k p b g u w w' a cap → UnitFalling 0 d p e e-in ea y true b g v true u w₀ a cap top k w'
  dividing_next {w'} h =
      unit_next r some s {m = no_places} refl places made
      (record {
        low = h.low;
        high = λ q.
            single_done refl (unit_scale r some s {m = no_places} refl places made)
            (h.high q ∙ ap (λ n. set rest (a + k) (pos n)) (times-single d no_places p v [] u (a + k) rest (a + k)));
      })
    where
      rest : List ℤ
      rest = rested k p b g w a cap

      made : ProductDone 0 d p no_places e e-in ea (two 0 y true (b + first (cap - g) k) [] true (a + g + first g k) (span g (cap - g) k)) true true w rest (a + k) top
      made = lost-word (falling_asks r.dividing some s {m = no_places} (unit_stood r) refl places refl) refl

-- ---- elements of level 0 over other degrees
stands_over : (p : ℕ) (d d' : List ℕ) (u : El p d 0) (w : List ℤ) (a b : ℕ) → a ≡ b → Stands p d 0 u w a → Stands p d' 0 u w b
stands_over p d d' u w a b e h =
    ap₂ (λ k n. seg k n w) (sym e) (size-zero d' ∙ sym (size-zero d)) ∙ h ∙ write-zero p d u ∙ sym (write-zero p d' u)

elements_over : (p : ℕ) (d d' : List ℕ) (n : ℕ) (f : ℕ → El p d 0) (w : List ℤ) (a : ℕ) → Elements p d 0 n f w a → Elements p d' 0 n f w a
elements_over p d d' n f w a h k l =
    stands_over p d d' (f k) w (a + k * size d 0) (a + k * size d' 0) (ap (λ (s : ℕ). a + k * s) (size-zero d ∙ sym (size-zero d'))) (h k l)

same_size : (d : List ℕ) → size d 0 ≡ size [] 0
same_size d = size-zero d ∙ sym (size-zero [])

-- level 0 has no tower
tower-none : (p : ℕ) (p_pos : 0 < p) (d : List ℕ) (t : Tower p d 0) (w : List ℤ) (a : ℕ) → TowerStands p p_pos d 0 t w a
unfolding tower_size tower_words
tower-none p p_pos d t w a = refl

no_tower : (d : List ℕ) → tower_size d 0 ≡ 0
unfolding tower_size
no_tower d = refl

one_word : Sized [] ones
unfolding size
one_word = record { at = each }
  where
    each : (k : ℕ) → k ≤ 4 → get_or ones k 0 ≡ size [] k
    each zero l = refl
    each (suc zero) l = refl
    each (suc (suc zero)) l = refl
    each (suc (suc (suc zero))) l = refl
    each (suc (suc (suc (suc zero)))) l = refl
    each (suc (suc (suc (suc (suc k))))) l = absurd (lt_irrefl 0 (omega arith))

abbrev numbers_acting : {d z : List ℕ} {p : ℕ} {e : List ℤ} {e-in : Bool} {ea : ℕ} {w : List ℤ} {top : ℕ} → Acting 0 d z p e e-in ea w top
    → Acting 0 [] ones p [] true 0 w (length w)
numbers_acting {p = p} {w = w} s = record {
  modulus = s.modulus;
  low = omega arith;
  sized = one_word;
  positive = record { some = λ k l. absurd (lt_irrefl 0 (omega arith)) };
  small = omega (arith, size-zero []);
  e_inside = record { inside = omega (arith, no_tower []); below = λ q. omega (arith, no_tower []) };
  room = omega (arith, work-zero []);
  p_pos = s.p_pos;
  t = s.t;
  tower = tower-none p s.p_pos [] s.t w 0;
}

-- what lies below top lies in the store
module _ (d : List ℕ) (w : List ℤ) {top : ℕ} (room : top + work d 0 ≤ length w) where
  inside_words : (a n : ℕ) → a + n * size d 0 ≤ top → a + n * size [] 0 ≤ length w
  inside_words a n h = omega (arith, ap (λ (s : ℕ). n * s) (same_size d))

  -- a frame of numbers is one of elements of level 0
  worked-up : {w' : List ℤ} (c n : ℕ) → c + n * size d 0 ≤ top → Worked c (n * size [] 0) (length w) (work [] 0) w w' → Worked c (n * size d 0) top (work d 0) w w'
  worked-up {w'} c n h f = record {
    long = f.long;
    below = f.below;
    between = λ k q l. above k (omega (arith, ap (λ (s : ℕ). n * s) (same_size d))) (le_or_lt (length w) k);
    beyond = λ k q. above k (omega (arith, ap (λ (s : ℕ). n * s) (same_size d))) (le_or_lt (length w) k);
  }
    where
      above : (k : ℕ) → c + n * size [] 0 ≤ k → (length w ≤ k) ⊎ (k < length w) → get_or w' k (pos 0) ≡ get_or w k (pos 0)
      above k q (inl l) = f.beyond k (omega (arith, work-zero []))
      above k q (inr l) = f.between k q l

-- ---- each of n numbers is multiplied
module _ {n : ℕ} {d z : List ℕ} {p : ℕ} {e : List ℤ} {e-in : Bool} {ea u : ℕ} {w : List ℤ} {c top : ℕ} where
  pub scale_numbers : {i : ℕ} → i ≡ 0 → ScaleRowReady i n d z p e e-in ea u w c top → ScaleNumbersReady n p u w c
  scale_numbers {i = suc i} ei r = absurd (lt_irrefl 0 (omega arith))
  scale_numbers {i = zero} ei r = record {
    acting = numbers_acting r.acting;
    u_below = omega (arith, same_size d, r.u_below, r.acting.room);
    c_below = inside_words d w r.acting.room c n r.c_below;
    e_outside = λ q. inl (omega (arith, no_tower []));
    u_outside = subst (λ s. Between u s c (n * s)) (same_size d) r.u_outside;
    v = r.v;
    f = r.f;
    unit = stands_over p d [] r.v w u u refl r.unit;
    row = elements_over p d [] n r.f w c r.row;
  }

  pub scale-up : {i : ℕ} {w' : List ℤ} → i ≡ 0 → ScaleRowReady i n d z p e e-in ea u w c top → ScaleNumbersDone n p u w w' c
      → ScaleRowDone i n d p e e-in ea u w w' c top
  scale-up {i = suc i} ei r h = absurd (lt_irrefl 0 (omega arith))
  scale-up {i = zero} {w' = w'} ei r h = record {
    frame = worked-up d w r.acting.room c n r.c_below h.frame;
    done = λ p_pos t v f tower unit row.
        elements_over p [] d n _ w' c
        (h.done p_pos t v f (tower-none p p_pos [] t w 0) (stands_over p d [] v w u u refl unit) (elements_over p d [] n f w c row));
  }

-- ---- a row of numbers loses a product
module _ {d z : List ℕ} {p : ℕ} {e : List ℤ} {e-in : Bool} {ea a m b n : ℕ} {w : List ℤ} {c top : ℕ} where
  pub lose_numbers : {i : ℕ} → i ≡ 0 → LoseReady i d z p e e-in ea a m b n w c top → LoseNumbersReady p a m b n w c
  lose_numbers {i = suc i} ei r = absurd (lt_irrefl 0 (omega arith))
  lose_numbers {i = zero} ei r = record {
    acting = numbers_acting r.acting;
    some_m = r.some_m;
    some_n = r.some_n;
    few = omega (arith, r.few, ap (λ (s : ℕ). m * s) (same_size d));
    a_below = inside_words d w r.acting.room a m r.a_below;
    b_below = inside_words d w r.acting.room b n r.b_below;
    c_below = inside_words d w r.acting.room c (m + n - 1) r.c_below;
    e_outside = λ q. inl (omega (arith, no_tower []));
    a_outside = subst (λ s. Between a (m * s) c ((m + n - 1) * s)) (same_size d) r.a_outside;
    b_outside = subst (λ s. Between b (n * s) c ((m + n - 1) * s)) (same_size d) r.b_outside;
    f = r.f;
    g = r.g;
    h = r.h;
    left = elements_over p d [] m r.f w a r.left;
    right = elements_over p d [] n r.g w b r.right;
    old = elements_over p d [] (m + n - 1) r.h w c r.old;
  }

  pub lose_up : {i : ℕ} {w' : List ℤ} → i ≡ 0 → LoseReady i d z p e e-in ea a m b n w c top → LoseNumbersDone p a m b n w w' c
      → LoseDone i d p e e-in ea a m b n w w' c top
  lose_up {i = suc i} ei r h = absurd (lt_irrefl 0 (omega arith))
  lose_up {i = zero} {w' = w'} ei r h = record {
    frame = worked-up d w r.acting.room c (m + n - 1) r.c_below h.frame;
    done = λ p_pos t f g o tower left right old.
        elements_over p [] d (m + n - 1) _ w' c
        (h.done p_pos t f g o (tower-none p p_pos [] t w 0) (elements_over p d [] m f w a left) (elements_over p d [] n g w b right)
        (elements_over p d [] (m + n - 1) o w c old));
  }

-- ---- a row of numbers is divided
module _ {d z : List ℕ} {p : ℕ} {e : List ℤ} {e-in : Bool} {ea b g u : ℕ} {w : List ℤ} {a cap top : ℕ} where
  pub divide_numbers : {i : ℕ} → i ≡ 0 → DivideReady i d z p e e-in ea b g u w a cap top → DivideNumbersReady p b g u w a cap
  divide_numbers {i = suc i} ei r = absurd (lt_irrefl 0 (omega arith))
  divide_numbers {i = zero} ei r = record {
    acting = numbers_acting r.acting;
    fits = r.fits;
    some = r.some;
    few = omega (arith, r.few, ap (λ (s : ℕ). g * s) (same_size d));
    a_below = inside_words d w r.acting.room a cap r.a_below;
    b_below = inside_words d w r.acting.room b g r.b_below;
    u_below = omega (arith, same_size d, r.u_below, r.acting.room);
    e_outside = λ q. inl (omega (arith, no_tower []));
    b_outside = subst (λ s. Between b (g * s) a (cap * s)) (same_size d) r.b_outside;
    u_outside = subst (λ s. Between u s a (cap * s)) (same_size d) r.u_outside;
    f = r.f;
    l = r.l;
    v = r.v;
    dividend = elements_over p d [] cap r.f w a r.dividend;
    divisor = elements_over p d [] g _ w b r.divisor;
    unit = stands_over p d [] r.v w u u refl r.unit;
  }

  pub divide-up : {i : ℕ} {w' : List ℤ} → i ≡ 0 → DivideReady i d z p e e-in ea b g u w a cap top → DivideNumbersDone p b g u w w' a cap
      → DivideDone i d p e e-in ea b g u w w' a cap top
  divide-up {i = suc i} ei r h = absurd (lt_irrefl 0 (omega arith))
  divide-up {i = zero} {w' = w'} ei r h = record {
    frame = worked-up d w r.acting.room a cap r.a_below h.frame;
    done = λ p_pos t f l v tower dividend divisor unit.
        elements_over p [] d cap _ w' a
        (h.done p_pos t f l v (tower-none p p_pos [] t w 0) (elements_over p d [] cap f w a dividend) (elements_over p d [] g _ w b divisor)
        (stands_over p d [] v w u u refl unit));
  }

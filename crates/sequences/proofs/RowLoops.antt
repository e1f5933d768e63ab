-- Laws of the loops over rows of elements in the store, at any level.
--
-- Scaling; scaling-start, -place, _asks, -next, _end == each of n elements is multiplied
-- Losing; losing_count, _start, _places, _left, _right, _here, _asks, _next, _end == a row loses the product of two rows
-- Met, met                 == the places of an element's pairs, as the code computes them
-- divide_asks, divide_done == a row is divided
use Prim.Native.Nat.{ℕ, ◌+◌, ◌-◌, ◌*◌, ◌<◌, ◌≤◌}
use native.Mathlib.Nat.{mul-le-mul_left, add-mul}
use native.Mathlib.Omega.{arith}
use mathlib.Core.Path.{◌≡◌, refl, ap, ◌∙◌, subst}
use mathlib.Core.Bool.{Bool, true}
use mathlib.Core.List.{List, []}
use lib.Dec.{T}
use lib.IntN.{ℤ}
use lib.ListN.{length}
use Rattle.algebra.specs.Windows.{first, span, span_left, span_right, window}
use Rattle.tower.specs.Levels.{El, group, Tower, ring}
use Rattle.tower.specs.Writing.{size, size-pos, write}
use Rattle.tower.specs.Stands.{Stands}
use Rattle.arithmetic.specs.Sum.{gained}
use Rattle.arithmetic.specs.Walk.{pick}
use Rattle.products.specs.Value.{value-pairs}
use Rattle.products.specs.Product.{TowerStands, Elements, two, Given, ProductReady, ProductDone}
use Rattle.products.specs.Unit.{UnitReady, UnitDone}
use Rattle.products.proofs.Frames.{same-seg, elements_picked, parts_fit, part-is}
use Rattle.sequences.specs.Rows.{TimesReady, TimesDone, ScaleRowReady, ScaleRowDone, LoseReady, LoseDone, DivideReady, DivideDone}
use Rattle.sequences.proofs.RowLaws.{between_same, tower_later, acting_later, acting_product}
use Rattle.sequences.proofs.RowLaws.{Rising, rising_start, rising_whole, rising_below, rising_ahead, rising_step, rising_end}

-- ---- each of n elements is multiplied
-- what stood before, e being the tower's list then
pub record ScaleStood (i n : ℕ) (d : List ℕ) (p : ℕ) (e : List ℤ) (ea u : ℕ) (w : List ℤ) (c : ℕ) : Type 0 where
  pub p_pos : 0 < p
  pub t : Tower p d i
  pub v : El p d i
  pub f : ℕ → El p d i
  pub tower : TowerStands p p_pos d i t e ea
  pub unit : Stands p d i v w u
  pub row : Elements p d i n f w c

-- w₀ is the store before
abbrev pub Scaling : (i n : ℕ) (d : List ℕ) (p : ℕ) (e : List ℤ) (e-in : Bool) (ea u : ℕ) (w₀ : List ℤ) (c top k : ℕ) → List ℤ → Type 0
Scaling i n d p e e-in ea u w₀ c top k w =
    Rising i d p w₀ c n top (ScaleStood i n d p (pick e-in w₀ e) ea u w₀ c) (λ x j. (ring p x.p_pos d i x.t).◌⊗◌ x.v (x.f j)) k w

module _ {i n : ℕ} {d z : List ℕ} {p : ℕ} {e : List ℤ} {e-in : Bool} {ea u : ℕ} {w₀ : List ℤ} {c top : ℕ}
    (r : ScaleRowReady i n d z p e e-in ea u w₀ c top) where
  abbrev Scaled : ℕ → List ℤ → Type 0
  Scaled k w = Scaling i n d p e e-in ea u w₀ c top k w

  pub scaling-start : {k : ℕ} → k ≡ 0 → Scaled k w₀
  scaling-start ek = rising_start ek

  pub scaling_end : {k : ℕ} {w : List ℤ} → n ≤ k → Scaled k w → ScaleRowDone i n d p e e-in ea u w₀ w c top
  scaling_end h s = record {
    frame = rising_whole s;
    done = λ p_pos t v f tower unit row.
        rising_end s h (record { p_pos = p_pos; t = t; v = v; f = f; tower = tower; unit = unit; row = row });
  }

  module _ {k : ℕ} {w : List ℤ} (s : Scaled k w) (here : k < n) where
    scale_unit : (v : El p d i) → Stands p d i v w₀ u → Stands p d i v w u
    scale_unit v h = same-seg (between_same u (size d i) r.u_outside r.u_below (rising_whole s)) ∙ h

    scale-old : (f : ℕ → El p d i) → Elements p d i n f w₀ c → Stands p d i (f k) w (c + k * size d i)
    scale-old f h = same-seg (rising_ahead s r.c_below here) ∙ h k here

    -- of a size that the code has read
    pub scaling-place : {q : ℕ} → q ≡ size d i → c + k * q + 1 ≤ length w₀
    scaling-place eq = rw eq (omega (arith, rising_below s r.c_below here, r.acting.room, size-pos d i))

    module _ {at : ℕ} (ea' : at ≡ c + k * size d i) where
      pub scaling_asks : TimesReady i d z p e e-in ea u at w at top
      scaling_asks = rw ea' (record {
        acting = acting_later r.acting r.e_outside (rising_whole s);
        a_below = r.u_below;
        b_below = rising_below s r.c_below here;
        c_below = rising_below s r.c_below here;
        x = r.v;
        y = r.f k;
        left = scale_unit r.v r.unit;
        right = scale-old r.f r.row;
      })

      pub scaling-next : {k' : ℕ} {w' : List ℤ} → k' ≡ k + 1 → TimesDone i d p e e-in ea u at w w' at top → Scaled k' w'
      scaling-next ek h =
          let done = rw ea' at h in
          rising_step s r.c_below here ek done.frame
          (λ x. done.done x.p_pos x.t x.v (x.f k) (tower_later r.acting r.e_outside (rising_whole s) x.p_pos x.t x.tower)
          (scale_unit x.v x.unit) (scale-old x.f x.row))

-- ---- a row loses the product of two rows
pub record LoseStood (i : ℕ) (d : List ℕ) (p : ℕ) (e : List ℤ) (ea a m b n : ℕ) (w : List ℤ) (c : ℕ) : Type 0 where
  pub p_pos : 0 < p
  pub t : Tower p d i
  pub f : ℕ → El p d i
  pub g : ℕ → El p d i
  pub h : ℕ → El p d i
  pub tower : TowerStands p p_pos d i t e ea
  pub left : Elements p d i m f w a
  pub right : Elements p d i n g w b
  pub old : Elements p d i (m + n - 1) h w c

-- what is left of an element
abbrev pub lost : {i : ℕ} {d : List ℕ} {p : ℕ} {e : List ℤ} {ea a m b n : ℕ} {w : List ℤ} {c : ℕ} → LoseStood i d p e ea a m b n w c → ℕ → El p d i
lost {i} {d} {p} {e} {ea} {a} {m} {b} {n} x k =
    (group p x.p_pos d i).◌⊕◌ (x.h k) ((group p x.p_pos d i).⊖◌ (window (ring p x.p_pos d i x.t) m n x.f x.g k))

-- w₀ is the store before
abbrev pub Losing : (i : ℕ) (d : List ℕ) (p : ℕ) (e : List ℤ) (e-in : Bool) (ea a m b n : ℕ) (w₀ : List ℤ) (c top k : ℕ) → List ℤ → Type 0
Losing i d p e e-in ea a m b n w₀ c top k w =
    Rising i d p w₀ c (m + n - 1) top (LoseStood i d p (pick e-in w₀ e) ea a m b n w₀ c) (λ x j. lost x j) k w

-- the place at of the k-th element, and those of its q pairs: x on, and y on
pub record Met (d : List ℕ) (i a m b n c k x y q at : ℕ) : Type 0 where
  pub lefts : x ≡ a + first n k * size d i
  pub rights : y ≡ b + first m k * size d i
  pub many : q ≡ span m n k
  pub here : at ≡ c + k * size d i

pub met : {d : List ℕ} {i a m b n c k s x x₁ y y₁ q at : ℕ} → s ≡ size d i → x ≡ a + x₁ * s → x₁ ≡ first n k → y ≡ b + y₁ * s → y₁ ≡ first m k
    → q ≡ span m n k → at ≡ c + k * s → Met d i a m b n c k x y q at
met {a = a} {b = b} {c = c} {k = k} {s = s} {x = x} {x₁ = x₁} {y = y} {y₁ = y₁} {at = at} es ex e₁ ey e₂ eq ec = record {
  lefts = part-is x a x₁ s ex e₁ es;
  rights = part-is y b y₁ s ey e₂ es;
  many = eq;
  here = part-is at c k s ec refl es;
}

module _ {i : ℕ} {d z : List ℕ} {p : ℕ} {e : List ℤ} {e-in : Bool} {ea a m b n : ℕ} {w₀ : List ℤ} {c top : ℕ}
    (r : LoseReady i d z p e e-in ea a m b n w₀ c top) where
  abbrev Lost : ℕ → List ℤ → Type 0
  Lost k w = Losing i d p e e-in ea a m b n w₀ c top k w

  -- as many elements as words at least
  pub losing_count : (0 < m) × (m + n ≤ length w₀ + 1)
  losing_count = (r.some_m, omega (arith, mul-le-mul_left (m + n - 1) (size-pos d i), r.c_below, r.acting.room))

  pub losing_start : {k : ℕ} → k ≡ 0 → Lost k w₀
  losing_start ek = rising_start ek

  pub losing_end : {k : ℕ} {w : List ℤ} → m + n - 1 ≤ k → Lost k w → LoseDone i d p e e-in ea a m b n w₀ w c top
  losing_end l s = record {
    frame = rising_whole s;
    done = λ p_pos t f g h tower left right old.
        rising_end s l (record { p_pos = p_pos; t = t; f = f; g = g; h = h; tower = tower; left = left; right = right; old = old });
  }

  module _ {k : ℕ} {w : List ℤ} (s : Lost k w) (here : k < m + n - 1) where
    reached : k + 1 ≤ m + n
    reached = omega arith

    left_fits : first n k * size d i + span m n k * size d i ≤ m * size d i
    left_fits = parts_fit (first n k) (span m n k) m (size d i) (span_left m n k reached)

    right_fits : first m k * size d i + span m n k * size d i ≤ n * size d i
    right_fits = parts_fit (first m k) (span m n k) n (size d i) (span_right m n k reached)

    pub losing_places : (k + 1 ≤ m + n) × (k + 1 ≤ length w₀)
    losing_places = (reached, omega (arith, losing_count.1))

    -- of a size and of first pairs that the code has computed
    pub losing_left : {q f : ℕ} → q ≡ size d i → f ≡ first n k → a + f * q ≤ length w₀
    losing_left eq ef = rw (eq, ef) (omega (arith, left_fits, r.a_below, r.acting.room))

    pub losing_right : {q f : ℕ} → q ≡ size d i → f ≡ first m k → b + f * q ≤ length w₀
    losing_right eq ef = rw (eq, ef) (omega (arith, right_fits, r.b_below, r.acting.room))

    pub losing_here : {q : ℕ} → q ≡ size d i → c + k * q ≤ length w₀
    losing_here eq = rw eq (omega (arith, rising_below s r.c_below here, r.acting.room))

    given_now : (x : LoseStood i d p (pick e-in w₀ e) ea a m b n w₀ c)
        → Given p x.p_pos d (two i [] true (a + first n k * size d i) [] true (b + first m k * size d i) (span m n k)) (λ j. x.f (first n k + j))
        (λ j. x.g (first m k + j)) i (x.h k) true w (c + k * size d i)
    given_now x = record {
      lefts = λ j l.
          let at : a + (first n k + j) * size d i ≡ a + first n k * size d i + j * size d i = omega (arith, add-mul (first n k) j (size d i)) in
          subst (Stands p d i _ w) at
          (elements_picked p d i m x.f true w₀ w e a (λ q. between_same a (m * size d i) r.a_outside r.a_below (rising_whole s)) x.left
          (first n k + j) (omega (arith, span_left m n k reached)));
      rights = λ j l.
          let at : b + (first m k + j) * size d i ≡ b + first m k * size d i + j * size d i = omega (arith, add-mul (first m k) j (size d i)) in
          subst (Stands p d i _ w) at
          (elements_picked p d i n x.g true w₀ w e b (λ q. between_same b (n * size d i) r.b_outside r.b_below (rising_whole s)) x.right
          (first m k + j) (omega (arith, span_right m n k reached)));
      kept = λ q. same-seg (rising_ahead s r.c_below here) ∙ x.old k here;
      fresh = λ q. absurd (subst T q tt);
    }

    module _ {o : List ℕ} {x y q at : ℕ} (em : length o ≡ 4) (l : Met d i a m b n c k x y q at) where
      pub losing_asks : ProductReady i d z p o e e-in ea (two i [] true x [] true y q) true w at top
      losing_asks = rw (l.lefts, l.rights, l.many, l.here)
          (acting_product (acting_later r.acting r.e_outside (rising_whole s)) em (omega (arith, left_fits, r.a_below)) (omega (arith, right_fits, r.b_below))
          (omega (arith, left_fits, r.few)) (rising_below s r.c_below here) r.acting.p_pos r.acting.t
          (tower_later r.acting r.e_outside (rising_whole s) r.acting.p_pos r.acting.t r.acting.tower)
          (given_now (record {
            p_pos = r.acting.p_pos;
            t = r.acting.t;
            f = r.f;
            g = r.g;
            h = r.h;
            tower = r.acting.tower;
            left = r.left;
            right = r.right;
            old = r.old;
          })))

      pub losing_next : {k' : ℕ} {w' : List ℤ} → k' ≡ k + 1 → ProductDone i d p o e e-in ea (two i [] true x [] true y q) true true w w' at top → Lost k' w'
      losing_next ek h =
          let done = rw (l.lefts, l.rights, l.many, l.here) at h in
          rising_step s r.c_below here ek done.frame
          (λ v. done.done v.p_pos v.t _ _ (v.h k) (tower_later r.acting r.e_outside (rising_whole s) v.p_pos v.t v.tower) (given_now v)
          ∙ ap (λ y. write p d i (gained (group p v.p_pos d i) true (v.h k) y))
          (value-pairs p v.p_pos d i v.t (span m n k) _ _ o (omega (arith, r.acting.low))))

-- ---- a row is divided
pub divide_asks : {i : ℕ} {d z : List ℕ} {p : ℕ} {e : List ℤ} {e-in : Bool} {ea b g u : ℕ} {w : List ℤ} {a cap top : ℕ}
    → DivideReady i d z p e e-in ea b g u w a cap top → UnitReady i d z p e e-in ea [] true b g [] true u w a cap top
divide_asks r = record {
  dividing = record {
    modulus = r.acting.modulus;
    low = r.acting.low;
    sized = r.acting.sized;
    positive = r.acting.positive;
    fits = r.fits;
    some = r.some;
    few = r.few;
    small = r.acting.small;
    e_inside = r.acting.e_inside;
    e_outside = r.e_outside;
    y_inside = record { inside = omega (arith, r.b_below, r.acting.room); below = λ q. r.b_below };
    y_outside = λ q. r.b_outside;
    a_below = r.a_below;
    room = r.acting.room;
    p_pos = r.acting.p_pos;
    t = r.acting.t;
    f = r.f;
    l = r.l;
    given = record { tower = r.acting.tower; dividend = r.dividend; divisor = r.divisor };
  };
  u_inside = record { inside = omega (arith, r.u_below, r.acting.room); below = λ q. r.u_below };
  u_outside = λ q. r.u_outside;
  v = r.v;
  inverse = r.unit;
}

pub divide_done : {i : ℕ} {d : List ℕ} {p : ℕ} {e : List ℤ} {e-in : Bool} {ea b g u : ℕ} {w w' : List ℤ} {a cap top : ℕ}
    → UnitDone i d p e e-in ea [] true b g [] true u w w' a cap top → DivideDone i d p e e-in ea b g u w w' a cap top
divide_done h = record {
  frame = h.frame;
  done = λ p_pos t f l v tower dividend divisor unit. h.done p_pos t f l v (record { tower = tower; dividend = dividend; divisor = divisor }) unit;
}

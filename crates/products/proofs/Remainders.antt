-- Laws of the loop of a division in place: from the top down each coefficient becomes that of the divided row.
--
-- Stood                   == the tower, the dividend and the divisor that stood before;  stood_now == those that the contract shows
-- Falling                 == from k on the row `out` stands, which has a coefficient for whatever stood before, and below k the dividend
-- Counted, counted        == the places of a coefficient's pairs, as the code computes them
-- outside_same, tower-now == an operand outside the row is as it was, and so is the tower
-- now-ready, row_below    == what a product with its answer in the row asks for; a coefficient's words lie below top
-- left_of                 == what the row above it leaves of a coefficient
-- falling_start           == at the top;  falling_inside, _places, _left, _right, _here, _asks == one lower: the places computed; what the product asks for
-- falling_rest, _frame, _step, _end == what it leaves of the coefficient; what has changed; the row's next coefficient stands; the bottom
-- RowFalling, row-start, _next, _end == where the row is that of the division by a monic polynomial
use Prim.Native.Nat.{ℕ, suc, ◌+◌, ◌-◌, ◌*◌, ◌^◌, ◌<◌, ◌≤◌}
use native.Mathlib.Nat.{mul-le-mul_left, mul-le-mul_right, suc-mul, add-mul, lt_irrefl}
use native.Mathlib.Omega.{arith}
use mathlib.Core.Path.{◌≡◌, refl, ap, sym, ◌∙◌, subst}
use mathlib.Core.Bool.{Bool, true}
use mathlib.Core.Logic.{◌⊎◌, inl, inr}
use mathlib.Core.List.{List, []}
use lib.IntN.{ℤ}
use lib.Dec.{T}
use lib.ListN.{length}
use Rattle.algebra.specs.Test.{le_or_lt}
use Rattle.algebra.specs.Vec.{Vec, coef}
use Rattle.algebra.specs.Windows.{first, span, window}
use Rattle.algebra.specs.Divided.{row}
use Rattle.algebra.proofs.Divided.{row-each, row-top}
use Rattle.tower.specs.Levels.{El, group, Tower, ring}
use Rattle.tower.specs.Writing.{size, size-pos, write, tower_size}
use Rattle.tower.specs.Stands.{Stands}
use Rattle.arithmetic.specs.Rows.{block_inside}
use Rattle.arithmetic.specs.Sum.{gained}
use Rattle.arithmetic.specs.Walk.{pick}
use Rattle.products.specs.Value.{value-pairs}
use Rattle.products.specs.Product.{Worked, work, TowerStands, Elements, Two, two, Inside, Given, ProductReady, ProductDone, Dividing, Outside}
use Rattle.products.specs.Product.{RemainderReady, RemainderDone}
use Rattle.products.proofs.Frames.{worked_trans, worked-wide, Same, SameIn, same-seg, worked_same, picked_seg, picked_long, inside_kept, elements_picked}
use Rattle.products.proofs.Frames.{parts_fit, part-is}

-- what stood before
pub record Stood (i : ℕ) (d : List ℕ) (p : ℕ) (e : List ℤ) (ea : ℕ) (y : List ℤ) (b g : ℕ) (w : List ℤ) (a cap : ℕ) : Type 0 where
  pub p_pos : 0 < p
  pub t : Tower p d i
  pub f : ℕ → El p d i
  pub l : Vec (El p d i) g
  pub given : Dividing p p_pos d i t f g l e ea y b w a cap

-- w₀ is the store before, e and y are the lists of the tower and of the divisor then
pub record Falling (i : ℕ) (d : List ℕ) (p : ℕ) (e : List ℤ) (ea : ℕ) (y : List ℤ) (b g : ℕ) (w₀ : List ℤ) (a cap top : ℕ)
    (C : Type 0) (stood : C → Stood i d p e ea y b g w₀ a cap) (out : C → ℕ → El p d i) (k : ℕ) (w : List ℤ) : Type 0 where
  pub most : k ≤ cap
  pub frame : Worked a (cap * size d i) top (work d i) w₀ w
  pub high : (c : C) (n : ℕ) → k ≤ n → n < cap → Stands p d i (out c n) w (a + n * size d i)
  pub low : (c : C) (n : ℕ) → n < k → Stands p d i ((stood c).f n) w (a + n * size d i)

-- the k-th coefficient's place c, and those of its n pairs: f on, and q on
pub record Counted (d : List ℕ) (i b a g cap k f q n c : ℕ) : Type 0 where
  pub lefts : f ≡ b + first (cap - g) k * size d i
  pub rights : q ≡ a + (g + first g k) * size d i
  pub many : n ≡ span g (cap - g) k
  pub here : c ≡ a + k * size d i

pub counted : {d : List ℕ} {i b a g cap k s c : ℕ} → s ≡ size d i → c ≡ a + k * s
    → Counted d i b a g cap k (b + first (cap - g) k * s) (a + (g + first g k) * s) (span g (cap - g) k) c
counted {b = b} {a = a} {g = g} {cap = cap} {k = k} {s = s} {c = c} es ec = record {
  lefts = part-is (b + first (cap - g) k * s) b (first (cap - g) k) s refl refl es;
  rights = part-is (a + (g + first g k) * s) a (g + first g k) s refl refl es;
  many = refl;
  here = part-is c a k s ec refl es;
}

-- an operand outside the dividend is as it was
pub outside_same : {within : Bool} {x : List ℤ} {b l a m top n : ℕ} {w w' : List ℤ} → Inside within x b l top → Outside within b l a m
    → Worked a m top n w w' → SameIn within b l w w'
outside_same {b = b} {l = l} {a = a} {m = m} {w = w} {w' = w'} s h f e = go (h e)
  where
    go : (b + l ≤ a) ⊎ (a + m ≤ b) → Same b l w w'
    go (inl q) = worked_same b l (inl q) f
    go (inr q) = worked_same b l (inr (q, s.below e)) f

module _ {i : ℕ} {d z : List ℕ} {p : ℕ} {e : List ℤ} {e-in : Bool} {ea : ℕ} {y : List ℤ} {y_in : Bool} {b g : ℕ} {w₀ : List ℤ} {a cap top : ℕ}
    (r : RemainderReady i d z p e e-in ea y y_in b g w₀ a cap top) where
  abbrev Before : Type 0
  Before = Stood i d p (pick e-in w₀ e) ea (pick y_in w₀ y) b g w₀ a cap

  pub stood_now : Before
  stood_now = record { p_pos = r.p_pos; t = r.t; f = r.f; l = r.l; given = r.given }

  -- ---- a product with its answer in the row, where only the row and words from top on have changed
  module _ {w : List ℤ} (fr : Worked a (cap * size d i) top (work d i) w₀ w) where
    pub tower-now : (s : Before) → TowerStands p s.p_pos d i s.t (pick e-in w e) ea
    tower-now s = picked_seg e-in ea (tower_size d i) w₀ w e (outside_same r.e_inside r.e_outside fr) ∙ s.given.tower

    pub now-ready : {m : List ℕ} {x : List ℤ} {x_in : Bool} {xa : ℕ} {v : List ℤ} {v-in : Bool} {va n c : ℕ} {keep : Bool} {u s : ℕ → El p d i} {old : El p d i}
        (o : Before) → length m ≡ 4 → Inside x_in (pick x_in w x) xa (n * size d i) top → Inside v-in (pick v-in w v) va (n * size d i) top → n * size d i ≤ 2 ^ 31
        → c + size d i ≤ top → Given p o.p_pos d (two i x x_in xa v v-in va n) u s i old keep w c
        → ProductReady i d z p m e e-in ea (two i x x_in xa v v-in va n) keep w c top
    now-ready {u = u} {s = s} {old = old} o em hx hv few below h = record {
      operating = record { modulus = r.modulus; low = r.low; sized = r.sized; x_inside = hx; y_inside = hv; few = few };
      level = omega arith;
      positive = r.positive;
      places = em;
      reached = λ l h v. absurd (lt_irrefl 0 (omega arith));
      e_inside = inside_kept e-in w₀ w e fr.long (omega arith) r.e_inside;
      c_below = below;
      room = omega (arith, r.room, fr.long);
      small = r.small;
      p_pos = o.p_pos;
      t = o.t;
      u = u;
      v = s;
      old = old;
      tower = tower-now o;
      given = h;
    }

  -- the row's coefficients lie below top
  pub row_below : (k : ℕ) → suc k ≤ cap → a + k * size d i + size d i ≤ top
  row_below k h = omega (arith, r.a_below, block_inside k cap (size d i) h)

  abbrev At : {C : Type 0} (stood : C → Before) (out : C → ℕ → El p d i) → ℕ → List ℤ → Type 0
  At {C} stood out k w = Falling i d p (pick e-in w₀ e) ea (pick y_in w₀ y) b g w₀ a cap top C stood out k w

  -- what the row above it leaves of a coefficient
  abbrev pub left_of : Before → (ℕ → El p d i) → ℕ → El p d i
  left_of s out k =
      let R = ring p s.p_pos d i s.t in
      R.◌⊕◌ (s.f k) (R.⊖◌ (window R g (cap - g) (coef R.𝟘 g s.l) (λ j. out (g + j)) k))

  module _ {C : Type 0} {stood : C → Before} {out : C → ℕ → El p d i} where
    pub falling_start : (k : ℕ) → k ≤ cap → ((c : C) (n : ℕ) → k ≤ n → n < cap → (stood c).f n ≡ out c n) → At stood out k w₀
    falling_start k h same = record {
      most = h;
      frame = record { long = refl; below = λ n q. refl; between = λ n q s. refl; beyond = λ n q. refl };
      high = λ c n q m. (stood c).given.dividend n m ∙ ap (write p d i) (same c n q m);
      low = λ c n q. (stood c).given.dividend n (omega arith);
    }

    module _ {k : ℕ} {w : List ℤ} (s : At stood out (suc k) w) where
      abbrev q : ℕ
      q = cap - g

      abbrev n : ℕ
      n = span g q k

      -- the places of the k-th coefficient's pairs
      left_most : first q k + n ≤ g
      left_most = omega (arith, s.most, r.fits)

      right_most : g + (first g k + n) ≤ cap
      right_most = omega (arith, s.most, r.fits)

      left_fits : first q k * size d i + n * size d i ≤ g * size d i
      left_fits = parts_fit (first q k) n g (size d i) left_most

      right_fits : (g + first g k) * size d i + n * size d i ≤ cap * size d i
      right_fits = parts_fit (g + first g k) n cap (size d i) (omega (arith, right_most))

      -- the operands: the divisor's coefficients and the quotient's
      abbrev pairs : Two
      pairs = two i y y_in (b + first q k * size d i) [] true (a + (g + first g k) * size d i) n

      given_now : (c : C)
          → Given p (stood c).p_pos d pairs (λ u. coef (group p (stood c).p_pos d i).𝟘 g (stood c).l (first q k + u)) (λ u. out c (g + (first g k + u))) i
          ((stood c).f k) true w (a + k * size d i)
      given_now c = record {
        lefts = λ u v.
            let at : b + (first q k + u) * size d i ≡ b + first q k * size d i + u * size d i = omega (arith, add-mul (first q k) u (size d i)) in
            subst (Stands p d i _ (pick y_in w y)) at
            (elements_picked p d i g (coef (group p (stood c).p_pos d i).𝟘 g (stood c).l) y_in w₀ w y b
            (outside_same r.y_inside r.y_outside s.frame) (stood c).given.divisor (first q k + u) (omega (arith, left_most)));
        rights = λ u v.
            let at : a + (g + (first g k + u)) * size d i ≡ a + (g + first g k) * size d i + u * size d i =
            omega (arith, add-mul (g + first g k) u (size d i), ap (λ (x : ℕ). x * size d i) (assoc u)) in
            subst (Stands p d i _ w) at (s.high c (g + (first g k + u)) (omega arith) (omega (arith, right_most)));
        kept = λ v. s.low c k (omega arith);
        fresh = λ v. absurd (subst T v tt);
      }
        where
          assoc : (u : ℕ) → g + (first g k + u) ≡ g + first g k + u
          assoc u = omega arith

      falling_product : C → (m : List ℕ) → length m ≡ 4 → ProductReady i d z p m e e-in ea pairs true w (a + k * size d i) top
      falling_product c m em =
          now-ready s.frame (stood c) em
          (record {
            inside = omega (arith, left_fits, r.y_inside.inside, picked_long y_in w₀ w y s.frame.long);
            below = λ v. omega (arith, left_fits, r.y_inside.below v);
          })
          (record { inside = omega (arith, right_fits, r.a_below, r.room, s.frame.long); below = λ v. omega (arith, right_fits, r.a_below) })
          (omega (arith, left_fits, r.few))
          (row_below k s.most)
          (given_now c)

      -- what the product leaves of the coefficient
      rest : {m : List ℕ} {w' : List ℤ} → length m ≡ 4 → ProductDone i d p m e e-in ea pairs true true w w' (a + k * size d i) top
          → (c : C) → Stands p d i (left_of (stood c) (out c) k) w' (a + k * size d i)
      rest {m} em h c =
          h.done (stood c).p_pos (stood c).t _ _ ((stood c).f k) (tower-now s.frame (stood c)) (given_now c)
          ∙ ap (λ x. write p d i (gained (group p (stood c).p_pos d i) true ((stood c).f k) x))
          (value-pairs p (stood c).p_pos d i (stood c).t n _ _ m (omega (arith, r.low)))

      module _ {w' : List ℤ} (h : Worked (a + k * size d i) (size d i) top (work d i) w w') where
        frame_step : Worked a (cap * size d i) top (work d i) w₀ w'
        frame_step = worked_trans s.frame (worked-wide (omega arith) (omega (arith, block_inside k cap (size d i) s.most)) h)

        elsewhere : (u : ℕ) (x : El p d i) → ((suc k ≤ u) × (u < cap)) ⊎ (u < k) → Stands p d i x w (a + u * size d i) → Stands p d i x w' (a + u * size d i)
        elsewhere u x (inl v) st =
            let above : suc k * size d i ≤ u * size d i = mul-le-mul_right (size d i) v.0 in
            let most = block_inside u cap (size d i) v.1 in
            same-seg (worked_same (a + u * size d i) (size d i) (inr (omega (arith, suc-mul k (size d i)), omega (arith, r.a_below))) h) ∙ st
        elsewhere u x (inr v) st =
            let below = block_inside u k (size d i) v in
            same-seg (worked_same (a + u * size d i) (size d i) (inl (omega arith)) h) ∙ st

        one_more : ((c : C) → Stands p d i (out c k) w' (a + k * size d i)) → At stood out k w'
        one_more here = record {
          most = omega (arith, s.most);
          frame = frame_step;
          high = λ c u q o. high c u o (le_or_lt (suc k) u) q;
          low = λ c u o. elsewhere u ((stood c).f u) (inr o) (s.low c u (omega arith));
        }
          where
            high : (c : C) (u : ℕ) → u < cap → (suc k ≤ u) ⊎ (u < suc k) → k ≤ u → Stands p d i (out c u) w' (a + u * size d i)
            high c u o (inl x) q = elsewhere u _ (inl (x, o)) (s.high c u x o)
            high c u o (inr x) q =
                let eu : k ≡ u = omega arith in
                subst (λ n. Stands p d i (out c n) w' (a + n * size d i)) eu (here c)

    -- ---- in the words of the code: k counts down from the coefficient before
    module _ {k₁ : ℕ} {w : List ℤ} (some : 0 < k₁) (s : At stood out k₁ w) where
      abbrev k : ℕ
      k = k₁ - 1

      before : At stood out (suc k) w
      before = subst (λ n. At stood out n w) (omega (arith, some)) s

      pub falling_inside : suc k ≤ cap
      falling_inside = before.most

      pub falling_places : (k + 1 ≤ g + (cap - g)) × (k + 1 ≤ length w₀) × (g + first g k ≤ length w₀)
      falling_places =
          let many = mul-le-mul_left cap (size-pos d i) in (
            omega (arith, s.most, some, r.fits),
            omega (arith, s.most, some, many, r.a_below, r.room),
            omega (arith, right_most before, many, r.a_below, r.room),
          )

      -- of a size and of first pairs that the code has computed
      pub falling_left : {c f : ℕ} → c ≡ size d i → f ≡ first (cap - g) k → b + f * c ≤ length (pick y_in w₀ y)
      falling_left ec ef = rw (ec, ef) (omega (arith, left_fits before, r.y_inside.inside))

      pub falling_right : {c f : ℕ} → c ≡ size d i → f ≡ first g k → a + (g + f) * c ≤ length w₀
      falling_right ec ef = rw (ec, ef) (omega (arith, right_fits before, r.a_below, r.room))

      pub falling_here : {c : ℕ} → c ≡ size d i → a + k * c ≤ length w₀
      falling_here ec = rw ec (omega (arith, row_below k before.most, r.room))

      -- the code's operands
      abbrev taken : (f q n : ℕ) → Two
      taken f q n = two i y y_in f [] true q n

      pub falling_asks : {m : List ℕ} {f q n at : ℕ} {o : Two} → C → length m ≡ 4 → Counted d i b a g cap k f q n at → o ≡ taken f q n
          → ProductReady i d z p m e e-in ea o true w at top
      falling_asks {m} c em l eo = rw (eo, l.lefts, l.rights, l.many, l.here) (falling_product before c m em)

      pub falling_rest : {m : List ℕ} {f q n at : ℕ} {w' : List ℤ} → length m ≡ 4 → Counted d i b a g cap k f q n at
          → ProductDone i d p m e e-in ea (taken f q n) true true w w' at top
          → (Worked (a + k * size d i) (size d i) top (work d i) w w') × ((c : C) → Stands p d i (left_of (stood c) (out c) k) w' (a + k * size d i))
      falling_rest em l h =
          let done = rw (l.lefts, l.rights, l.many, l.here) at h in
          (done.frame, rest before em done)

      pub falling_frame : {w' : List ℤ} → Worked (a + k * size d i) (size d i) top (work d i) w w' → Worked a (cap * size d i) top (work d i) w₀ w'
      falling_frame h = frame_step before h

      pub falling_step : {w' : List ℤ} → Worked (a + k * size d i) (size d i) top (work d i) w w'
          → ((c : C) → Stands p d i (out c k) w' (a + k * size d i)) → At stood out k w'
      falling_step h here = one_more before h here

    pub falling_end : {k : ℕ} {w : List ℤ} → k ≡ 0 → At stood out k w → (c : C) → Elements p d i cap (out c) w a
    falling_end ek s c n q = s.high c n (omega arith) q

-- ---- division by a monic polynomial
-- w₀ is the store before
abbrev pub RowFalling : (i : ℕ) (d : List ℕ) (p : ℕ) (e : List ℤ) (e-in : Bool) (ea : ℕ) (y : List ℤ) (y_in : Bool) (b g : ℕ) (w₀ : List ℤ) (a cap top k : ℕ)
    → List ℤ → Type 0
RowFalling i d p e e-in ea y y_in b g w₀ a cap top k w =
    Falling i d p (pick e-in w₀ e) ea (pick y_in w₀ y) b g w₀ a cap top (Stood i d p (pick e-in w₀ e) ea (pick y_in w₀ y) b g w₀ a cap) (λ c. c)
    (λ c. row (ring p c.p_pos d i c.t) g c.l cap c.f) k w

module _ {i : ℕ} {d z : List ℕ} {p : ℕ} {e : List ℤ} {e-in : Bool} {ea : ℕ} {y : List ℤ} {y_in : Bool} {b g : ℕ} {w₀ : List ℤ} {a cap top : ℕ}
    (r : RemainderReady i d z p e e-in ea y y_in b g w₀ a cap top) where
  pub row-start : {k : ℕ} → k ≡ cap - 1 → RowFalling i d p e e-in ea y y_in b g w₀ a cap top k w₀
  row-start {k} h =
      falling_start r k (omega arith)
      (λ c n q m. sym (row-top (ring p c.p_pos d i c.t) g c.l cap r.fits c.f n (omega (arith, r.some))))

  pub row_next : {k₁ : ℕ} {w : List ℤ} {m : List ℕ} {f q n at : ℕ} {w' : List ℤ} (some : 0 < k₁) → RowFalling i d p e e-in ea y y_in b g w₀ a cap top k₁ w
      → length m ≡ 4 → Counted d i b a g cap (k₁ - 1) f q n at → ProductDone i d p m e e-in ea (two i y y_in f [] true q n) true true w w' at top
      → RowFalling i d p e e-in ea y y_in b g w₀ a cap top (k₁ - 1) w'
  row_next {k₁} some s em l h =
      let left = falling_rest r some s em l h in
      falling_step r some s left.0
      (λ c. left.1 c
      ∙ ap (write p d i) (sym (row-each (ring p c.p_pos d i c.t) g c.l cap r.fits c.f (k₁ - 1) (falling_inside r some s))))

  pub row_end : {k : ℕ} {w : List ℤ} → k ≡ 0 → RowFalling i d p e e-in ea y y_in b g w₀ a cap top k w → RemainderDone i d p e e-in ea y y_in b g w₀ w a cap top
  row_end ek s = record {
    frame = s.frame;
    done = λ p_pos t f l v. falling_end r ek s (record { p_pos = p_pos; t = t; f = f; l = l; given = v });
  }

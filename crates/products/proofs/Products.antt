-- Laws of a product above level 1: its coefficients are made, their row is divided by the tower's polynomial, and what remains is left at c.
--
-- product-coefficients, -remainder, -leave == what the three steps ask for;  product_done == what they leave
-- stands_of_slot                           == a slot of d_(i+1) coefficients is an element of level i + 1
-- product-level, -lower, _places           == the numbers of the code from level 2 on
-- coefficients_asks, remainder_asks, leave_asks, product_leaves == the steps, in the words of the code
use Prim.Native.Nat.{ℕ, suc, ◌+◌, ◌-◌, ◌*◌, ◌^◌, ◌<◌, ◌≤◌}
use native.Mathlib.Nat.{mul-le-mul_left, mul-le-mul_right}
use native.Mathlib.Omega.{arith}
use mathlib.Core.Path.{◌≡◌, refl, ap, sym, ◌∙◌, subst}
use mathlib.Core.Bool.{Bool}
use mathlib.Core.Logic.{inl}
use mathlib.Core.List.{List}
use lib.IntN.{ℤ}
use lib.ListN.{length, get_or, set}
use Rattle.algebra.specs.Vec.{coef, trunc}
use Rattle.algebra.specs.Divide.{remainder}
use Rattle.algebra.specs.Divided.{row_low}
use Rattle.tower.specs.Levels.{degree, El, group, Tower, ring}
use Rattle.tower.specs.Writing.{size, size_suc, size-pos, modulus_size, tower_size, tower_size_suc, write, write_suc}
use Rattle.tower.specs.Form.{seg}
use Rattle.tower.specs.Lists.{seg-seg, seg_long}
use Rattle.tower.specs.Store.{Kept, Put, kept_trans, kept-wide, put-kept, put-seg}
use Rattle.tower.specs.Stands.{Stands, SlotStands}
use Rattle.arithmetic.specs.Places.{wide}
use Rattle.arithmetic.specs.Rows.{block_inside, RunStands, run_of}
use Rattle.arithmetic.specs.Sum.{gained}
use Rattle.arithmetic.specs.Walk.{pick}
use Rattle.products.specs.Value.{part, part_stands, value_suc, remainder-gained}
use Rattle.products.specs.Product.{Worked, work, work_suc, TowerStands, Two, Inside, Given, Spread, Pairs, ProductReady, ProductDone, CoefficientsReady, CoefficientsDone, Dividing, RemainderReady, RemainderDone}
use Rattle.products.specs.Lowest.{LeaveReady, Left}
use Rattle.products.proofs.Frames.{worked_trans, worked-answer, worked-above, worked_kept, inside_kept, operating_kept, elements_picked, below_same, tower-kept, lefts_kept, rights_kept}
use Rattle.products.proofs.Towers.{tower-low, tower-rest}

pub stands_of_slot : (p : ℕ) (d : List ℕ) (i : ℕ) (v : El p d (suc i)) (w : List ℤ) (a : ℕ) → SlotStands p d i (degree d i) v w a → Stands p d (suc i) v w a
stands_of_slot p d i v w a s = ap (λ n. seg a n w) (size_suc d i) ∙ s ∙ sym (write_suc p d i v)

module _ {j : ℕ} {d z : List ℕ} {p : ℕ} {m : List ℕ} {e : List ℤ} {e-in : Bool} {ea : ℕ} {o : Two} {keep : Bool} {w₀ : List ℤ} {c top : ℕ}
    (r : ProductReady (suc j) d z p m e e-in ea o keep w₀ c top) where
  abbrev g : ℕ
  g = degree d j

  abbrev s : ℕ
  s = size d j

  abbrev next : ℕ
  next = top + wide g * s

  -- where the tower's words below this level begin
  abbrev lower : ℕ
  lower = ea + modulus_size d j

  some : 1 ≤ g
  some = r.positive.some j (omega arith)

  -- the row of coefficients, and the slot that remains of it
  row_most : g * s ≤ wide g * s
  row_most = mul-le-mul_right s (omega (arith, some))

  one_most : s ≤ g * s
  one_most = omega (arith, mul-le-mul_right s some)

  lower_inside : (x : List ℤ) (t : ℕ) → Inside e-in x ea (tower_size d (suc j)) t → Inside e-in x lower (tower_size d j) t
  lower_inside x t h = record { inside = omega (arith, h.inside, tower_size_suc d j); below = λ q. omega (arith, h.below q, tower_size_suc d j) }

  low_inside : (x : List ℤ) (t : ℕ) → Inside e-in x ea (tower_size d (suc j)) t → Inside e-in x (ea + 1) (g * s) t
  low_inside x t h = record {
    inside = omega (arith, h.inside, tower_size_suc d j, size_suc d j);
    below = λ q. omega (arith, h.below q, tower_size_suc d j, size_suc d j);
  }

  -- the old content's coefficients are copied to top
  module _ {w₁ : List ℤ} (b : Put top (seg (c + 1) (g * s) w₀) w₀ w₁) where
    long : length (seg (c + 1) (g * s) w₀) ≡ g * s
    long = seg_long (c + 1) (g * s) w₀ (omega (arith, r.c_below, size_suc d j, r.room))

    copied : Kept top (work d (suc j)) w₀ w₁
    copied = kept-wide (omega arith) (omega (arith, row_most, work_suc d j)) (put-kept (g * s) long b)

    spread : (p_pos : 0 < p) (u v : ℕ → El p d o.i) (old : El p d (suc j)) → Given p p_pos d o u v (suc j) old keep w₀ c → Spread p p_pos d o u v j old keep w₁ top
    spread p_pos u v old h = record {
      lefts = lefts_kept r.operating copied u h.lefts;
      rights = rights_kept r.operating copied v h.rights;
      kept = λ q n l.
          let fits = block_inside n g s l in
          sym (seg-seg top (g * s) (n * s) s w₁ fits) ∙ ap (seg (n * s) s) (put-seg (g * s) long b) ∙ seg-seg (c + 1) (g * s) (n * s) s w₀ fits
          ∙ part_stands p p_pos d j old w₀ c (h.kept q) n l;
      fresh = h.fresh;
    }

    tower-now : (p_pos : 0 < p) (t : Tower p d (suc j)) → TowerStands p p_pos d (suc j) t (pick e-in w₀ e) ea → TowerStands p p_pos d (suc j) t (pick e-in w₁ e) ea
    tower-now p_pos t h = tower-kept p p_pos d (suc j) t e-in w₀ w₁ e r.e_inside copied h

    e-now : Inside e-in (pick e-in w₁ e) ea (tower_size d (suc j)) top
    e-now = inside_kept e-in w₀ w₁ e copied.long (omega arith) r.e_inside

    product-coefficients : CoefficientsReady j d z p m e e-in lower o keep w₁ top
    product-coefficients = record {
      operating = operating_kept copied.long (omega arith) r.operating;
      level = r.level;
      positive = r.positive;
      places = r.places;
      reached = r.reached;
      e_inside = lower_inside _ _ e-now;
      room = omega (arith, r.room, copied.long);
      small = r.small;
      p_pos = r.p_pos;
      t = r.t.0;
      u = r.u;
      v = r.v;
      old = r.old;
      tower = tower-rest p r.p_pos d j r.t _ ea (tower-now r.p_pos r.t r.tower);
      given = spread r.p_pos r.u r.v r.old r.given;
    }

    module _ {neg : Bool} {w₂ : List ℤ} (h : CoefficientsDone j d p m e e-in lower o neg keep w₁ w₂ top) where
      both : Kept top (work d (suc j)) w₀ w₂
      both = kept_trans copied h.frame

      -- the coefficients made
      abbrev made : (p_pos : 0 < p) (t : Tower p d (suc j)) (u v : ℕ → El p d o.i) (old : El p d (suc j)) → ℕ → El p d j
      made p_pos t u v old n = gained (group p p_pos d j) neg (part p p_pos d j old n) (Pairs p p_pos d j t.0 o u v (set m j n))

      dividing : (p_pos : 0 < p) (t : Tower p d (suc j)) (u v : ℕ → El p d o.i) (old : El p d (suc j))
          → TowerStands p p_pos d (suc j) t (pick e-in w₀ e) ea → Given p p_pos d o u v (suc j) old keep w₀ c
          → Dividing p p_pos d j t.0 (made p_pos t u v old) g t.1 (pick e-in w₂ e) lower (pick e-in w₂ e) (ea + 1) w₂ top (wide g)
      dividing p_pos t u v old ts gs = record {
        tower = tower-kept p p_pos d j t.0 e-in w₀ w₂ e (lower_inside _ _ r.e_inside) both (tower-rest p p_pos d j t _ ea ts);
        dividend = h.done p_pos t.0 u v old (tower-rest p p_pos d j t _ ea (tower-now p_pos t ts)) (spread p_pos u v old gs);
        divisor =
            elements_picked p d j g (coef (group p p_pos d j).𝟘 g t.1) e-in w₀ w₂ e (ea + 1) (below_same (low_inside _ _ r.e_inside) both)
            (tower-low p p_pos d j t _ ea ts);
      }

      product-remainder : RemainderReady j d z p e e-in lower e e-in (ea + 1) g w₂ top (wide g) next
      product-remainder = record {
        modulus = r.operating.modulus;
        low = omega (arith, r.level, r.operating.low);
        sized = r.operating.sized;
        positive = record { some = λ l q. r.positive.some l (omega arith) };
        fits = omega (arith, some);
        some = omega (arith, some);
        few = omega (arith, r.small, size_suc d j);
        small = omega (arith, r.small, size_suc d j, one_most);
        e_inside = inside_kept e-in w₀ w₂ e both.long (omega arith) (lower_inside _ _ r.e_inside);
        e_outside = λ q. inl ((lower_inside _ _ r.e_inside).below q);
        y_inside = inside_kept e-in w₀ w₂ e both.long (omega arith) (low_inside _ _ r.e_inside);
        y_outside = λ q. inl ((low_inside _ _ r.e_inside).below q);
        a_below = omega arith;
        room = omega (arith, r.room, work_suc d j, both.long);
        p_pos = r.p_pos;
        t = r.t.0;
        f = made r.p_pos r.t r.u r.v r.old;
        l = r.t.1;
        given = dividing r.p_pos r.t r.u r.v r.old r.tower r.given;
      }

      module _ {w₃ : List ℤ} (k : RemainderDone j d p e e-in lower e e-in (ea + 1) g w₂ w₃ top (wide g) next) where
        product-leave : LeaveReady g s w₃ c top
        product-leave = record {
          some = size-pos d j;
          below = omega (arith, r.c_below, size_suc d j);
          inside = omega (arith, r.room, work_suc d j, row_most, both.long, k.frame.long);
        }

        module _ {w₄ : List ℤ} (l : Left j g s w₃ w₄ c top) where
          frame : Worked c (size d (suc j)) top (work d (suc j)) w₀ w₄
          frame =
              worked_trans (worked-above r.c_below both)
              (worked_trans (worked-above r.c_below (worked_kept (omega arith) (omega arith) (omega (arith, work_suc d j)) k.frame))
              (worked-answer r.c_below (subst (λ n. Kept c n w₃ w₄) (sym (size_suc d j)) l.frame)))

          -- what remains of the row is the old content with the pairs' value
          remains : (p_pos : 0 < p) (t : Tower p d (suc j)) (u v : ℕ → El p d o.i) (old : El p d (suc j))
              → remainder (ring p p_pos d j t.0) g t.1 (wide g) (trunc (wide g) (made p_pos t u v old))
              ≡ gained (group p p_pos d (suc j)) neg old (Pairs p p_pos d (suc j) t o u v m)
          remains p_pos t u v old =
              remainder-gained (ring p p_pos d j t.0) g t.1 neg (wide g) old (λ n. Pairs p p_pos d j t.0 o u v (set m j n)) (omega (arith, some))
              ∙ ap (gained (group p p_pos d (suc j)) neg old) (sym (value_suc p p_pos d j t _ m))

          product_done : ProductDone (suc j) d p m e e-in ea o neg keep w₀ w₄ c top
          product_done = record {
            frame = frame;
            done = λ p_pos t u v old ts gs.
                let R = ring p p_pos d j t.0 in
                let f = made p_pos t u v old in
                let x = gained (group p p_pos d (suc j)) neg old (Pairs p p_pos d (suc j) t o u v m) in
                let stands : RunStands p d j g x w₃ top = run_of p p_pos d j g x w₃ top product-leave.inside (λ n q.
                k.done p_pos t.0 f t.1 (dividing p_pos t u v old ts gs) n (omega (arith, some))
                ∙ ap (write p d j) (row_low R g t.1 (wide g) f n q ∙ ap (λ y. coef (group p p_pos d j).𝟘 g y n) (remains p_pos t u v old))) in
                stands_of_slot p d j x w₄ c (l.slot p d x p_pos refl stands);
          }

-- ---- in the words of the code, at level J = j + 1
module _ {J : ℕ} {d z : List ℕ} {p : ℕ} {m : List ℕ} {e : List ℤ} {e-in : Bool} {ea : ℕ} {o : Two} {keep : Bool} {w₀ : List ℤ} {c top : ℕ}
    (high : (2 ≤ J) × ProductReady J d z p m e e-in ea o keep w₀ c top) where
  abbrev j : ℕ
  j = J - 1

  up : J ≡ suc j
  up = omega (arith, high.0)

  ready : ProductReady (suc j) d z p m e e-in ea o keep w₀ c top
  ready = subst (λ n. ProductReady n d z p m e e-in ea o keep w₀ c top) up high.1

  pub product-level : (0 < J) × (J < 5)
  product-level = (omega (arith, high.0), omega (arith, high.1.level, high.1.operating.low))

  module _ {s : ℕ} (es : s ≡ get_or z j 0) where
    one_size : s ≡ size d j
    one_size = es ∙ ready.operating.sized.at j (omega (arith, product-level))

    module _ {a : ℕ} (ez : a ≡ get_or z J 0) where
      -- where the tower's words below begin
      lower-is : ea + a + s ≡ ea + modulus_size d j
      lower-is = omega (arith, ez ∙ ready.operating.sized.at J (omega (arith, product-level)), one_size, ap (size d) up)

      pub product-lower : (ea + a + s ≤ length (pick e-in w₀ e)) × (ea + 1 ≤ length (pick e-in w₀ e))
      product-lower = (
        omega (arith, lower-is, ready.e_inside.inside, tower_size_suc d j),
        omega (arith, ready.e_inside.inside, tower_size_suc d j, size_suc d j),
      )

    module _ {g : ℕ} (eg : g ≡ degree d j) where
      -- what the code computes
      pub product_places : (1 ≤ g) × (g + g < 2 ^ 32) × (top + wide g * s ≤ length w₀) × (g * s ≤ wide g * s) × (c + 1 + g * s ≤ top)
      product_places =
          let one = mul-le-mul_left (degree d j) (size-pos d j) in
          rw (eg, one_size) (
            some ready,
            omega (arith, ready.small, size_suc d j, one),
            omega (arith, ready.room, work_suc d j),
            row_most ready,
            omega (arith, ready.c_below, size_suc d j),
          )

      module _ {a : ℕ} (ez : a ≡ get_or z J 0) {w₁ : List ℤ} (b : Put top (seg (c + 1) (g * s) w₀) w₀ w₁) where
        copy : Put top (seg (c + 1) (degree d j * size d j) w₀) w₀ w₁
        copy = rw (eg, one_size) at b

        pub coefficients_asks : CoefficientsReady j d z p m e e-in (ea + a + s) o keep w₁ top
        coefficients_asks = rw (lower-is ez) (product-coefficients ready copy)

        module _ {neg : Bool} {w₂ : List ℤ} (h : CoefficientsDone j d p m e e-in (ea + a + s) o neg keep w₁ w₂ top) {n x : ℕ} (en : n ≡ wide g) (ex : x ≡ top + n * s) where
          made_of : CoefficientsDone j d p m e e-in (lower ready) o neg keep w₁ w₂ top
          made_of = rw (lower-is ez) at h

          pub remainder_asks : RemainderReady j d z p e e-in (ea + a + s) e e-in (ea + 1) g w₂ top n x
          remainder_asks = rw (lower-is ez, ex, en, eg, one_size) (product-remainder ready copy made_of)

          module _ {w₃ : List ℤ} (k : RemainderDone j d p e e-in (ea + a + s) e e-in (ea + 1) g w₂ w₃ top n x) where
            divided : RemainderDone j d p e e-in (lower ready) e e-in (ea + 1) (degree d j) w₂ w₃ top (wide (degree d j)) (next ready)
            divided = rw (lower-is ez, ex, en, eg, one_size) at k

            pub leave_asks : LeaveReady g s w₃ c top
            leave_asks = rw (eg, one_size) (product-leave ready copy made_of divided)

            pub product_leaves : {w₄ : List ℤ} → Left j g s w₃ w₄ c top → ProductDone J d p m e e-in ea o neg keep w₀ w₄ c top
            product_leaves {w₄} l =
                subst (λ i. ProductDone i d p m e e-in ea o neg keep w₀ w₄ c top) (sym up) (product_done ready copy made_of divided (rw (eg, one_size) at l))

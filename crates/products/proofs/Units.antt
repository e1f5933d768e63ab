-- Laws of the division in place by a polynomial whose leading coefficient has a known inverse.
--
-- UnitStood             == what stood before a division, and the element at the inverse's place;  unit_stood == that which the contract shows
-- UnitFalling           == from k on the row of this division stands, and below k the dividend
-- scale-low, scale_high == a coefficient is left, or multiplied
-- unit_start            == at the top;  unit_scale, unit_next == what the multiplication of the next coefficient asks for, and what it leaves
-- unit_end              == the bottom
use Prim.Native.Nat.{ℕ, suc, ◌+◌, ◌-◌, ◌*◌, ◌<◌, ◌≤◌}
use native.Mathlib.Nat.{lt_irrefl}
use native.Mathlib.Omega.{arith}
use mathlib.Core.Path.{◌≡◌, refl, ap, sym, ◌∙◌, subst}
use mathlib.Core.Bool.{Bool, true, false}
use mathlib.Core.Logic.{◌⊎◌, inl, inr}
use mathlib.Core.List.{List, []}
use lib.IntN.{ℤ}
use lib.Dec.{T}
use lib.ListN.{length}
use Rattle.algebra.specs.Ring.{zero-⊕}
use Rattle.algebra.specs.Test.{le_or_lt}
use Rattle.algebra.specs.Windows.{sum-zero, sum_suc}
use Rattle.algebra.specs.UnitDivided.{rowᵘ}
use Rattle.algebra.proofs.UnitDivided.{rowᵘ-rest, rowᵘ-quotient}
use Rattle.tower.specs.Levels.{El, group, ring}
use Rattle.tower.specs.Writing.{size, write}
use Rattle.tower.specs.Stands.{Stands}
use Rattle.arithmetic.specs.Walk.{pick}
use Rattle.products.specs.Value.{value-pairs}
use Rattle.products.specs.Product.{Worked, work, two, Inside, Given, ProductDone}
use Rattle.products.specs.Unit.{scaling, ScaleReady, ScaleDone, UnitReady, UnitDone}
use Rattle.products.proofs.Frames.{worked_trans, picked_seg, inside_kept}
use Rattle.products.proofs.Remainders.{Stood, stood_now, Falling, Counted, outside_same, tower-now, now-ready, row_below, left_of}
use Rattle.products.proofs.Remainders.{falling_start, falling_inside, falling_rest, falling_frame, falling_step, falling_end}

-- what stood before, u being the inverse's list then
pub record UnitStood (i : ℕ) (d : List ℕ) (p : ℕ) (e : List ℤ) (ea : ℕ) (y : List ℤ) (b g : ℕ) (u : List ℤ) (h : ℕ) (w : List ℤ) (a cap : ℕ) : Type 0 where
  pub stood : Stood i d p e ea y b g w a cap
  pub v : El p d i
  pub inverse : Stands p d i v u h

-- w₀ is the store before
abbrev pub UnitFalling : (i : ℕ) (d : List ℕ) (p : ℕ) (e : List ℤ) (e-in : Bool) (ea : ℕ) (y : List ℤ) (y_in : Bool) (b g : ℕ) (u : List ℤ) (u-in : Bool) (h : ℕ)
    (w₀ : List ℤ) (a cap top k : ℕ) → List ℤ → Type 0
UnitFalling i d p e e-in ea y y_in b g u u-in h w₀ a cap top k w =
    Falling i d p (pick e-in w₀ e) ea (pick y_in w₀ y) b g w₀ a cap top
    (UnitStood i d p (pick e-in w₀ e) ea (pick y_in w₀ y) b g (pick u-in w₀ u) h w₀ a cap) (λ c. c.stood)
    (λ c. rowᵘ (ring p c.stood.p_pos d i c.stood.t) g c.stood.l c.v cap c.stood.f) k w

-- ---- one coefficient
module _ {k g i : ℕ} {d : List ℕ} {p : ℕ} {m : List ℕ} {e : List ℤ} {e-in : Bool} {ea : ℕ} {u : List ℤ} {u-in : Bool} {h : ℕ} {w : List ℤ} {c top : ℕ} where
  pub scale-low : k < g → ScaleDone k g i d p m e e-in ea u u-in h w w c top
  scale-low l = record { low = λ q. refl; high = λ q. absurd (lt_irrefl 0 (omega arith)) }

  pub scale_high : {w' : List ℤ} → g ≤ k → ProductDone i d p m e e-in ea (scaling i u u-in h c) false false w w' c top
      → ScaleDone k g i d p m e e-in ea u u-in h w w' c top
  scale_high l s = record { low = λ q. absurd (lt_irrefl 0 (omega arith)); high = λ q. s }

-- ---- the loop
module _ {i : ℕ} {d z : List ℕ} {p : ℕ} {e : List ℤ} {e-in : Bool} {ea : ℕ} {y : List ℤ} {y_in : Bool} {b g : ℕ} {u : List ℤ} {u-in : Bool} {h : ℕ} {w₀ : List ℤ}
    {a cap top : ℕ} (r : UnitReady i d z p e e-in ea y y_in b g u u-in h w₀ a cap top) where
  abbrev Before : Type 0
  Before = UnitStood i d p (pick e-in w₀ e) ea (pick y_in w₀ y) b g (pick u-in w₀ u) h w₀ a cap

  abbrev At : ℕ → List ℤ → Type 0
  At k w = UnitFalling i d p e e-in ea y y_in b g u u-in h w₀ a cap top k w

  pub unit_stood : Before
  unit_stood = record { stood = stood_now r.dividing; v = r.v; inverse = r.inverse }

  pub unit_start : At cap w₀
  unit_start = falling_start r.dividing cap (omega arith) (λ c n q m. absurd (lt_irrefl 0 (omega arith)))

  -- what the row above it leaves of a coefficient
  abbrev left : Before → ℕ → El p d i
  left c k = left_of r.dividing c.stood (rowᵘ (ring p c.stood.p_pos d i c.stood.t) g c.stood.l c.v cap c.stood.f) k

  -- a coefficient of which this is left, at its place
  module _ {w : List ℤ} (fr : Worked a (cap * size d i) top (work d i) w₀ w) {k : ℕ} (most : suc k ≤ cap)
      (st : (c : Before) → Stands p d i (left c k) w (a + k * size d i)) where
    abbrev at : ℕ
    at = a + k * size d i

    given_now : (c : Before) → Given p c.stood.p_pos d (scaling i u u-in h at) (λ n. c.v) (λ n. left c k) i (group p c.stood.p_pos d i).𝟘 false w at
    given_now c = record {
      lefts = λ n l.
          let en : h ≡ h + n * size d i = only n l h in
          subst (Stands p d i c.v (pick u-in w u)) en
          (picked_seg u-in h (size d i) w₀ w u (outside_same r.u_inside r.u_outside fr) ∙ c.inverse);
      rights = λ n l. subst (Stands p d i (left c k) w) (only n l at) (st c);
      kept = λ q. absurd (subst T (sym q) tt);
      fresh = λ q. refl;
    }
      where
        only : (n : ℕ) → n < 1 → (x : ℕ) → x ≡ x + n * size d i
        only n l x =
            let none : n ≡ 0 = omega arith in
            omega (arith, ap (λ (y : ℕ). y * size d i) none)

    scale-ready : {m : List ℕ} → length m ≡ 4 → ScaleReady i d z p m e e-in ea u u-in h w at top
    scale-ready em =
        let inside : Inside u-in (pick u-in w u) h (size d i) top = inside_kept u-in w₀ w u fr.long (omega arith) r.u_inside in
        let below = row_below r.dividing k most in
        now-ready r.dividing fr unit_stood.stood em
        (record { inside = omega (arith, inside.inside); below = λ q. omega (arith, inside.below q) })
        (record { inside = omega (arith, below, r.dividing.room, fr.long); below = λ q. omega (arith, below) })
        (omega (arith, r.dividing.small))
        below
        (given_now unit_stood)

    -- it is multiplied
    scaled : {m : List ℕ} {w' : List ℤ} → length m ≡ 4 → ProductDone i d p m e e-in ea (scaling i u u-in h at) false false w w' at top
        → (c : Before) → Stands p d i ((ring p c.stood.p_pos d i c.stood.t).◌⊗◌ c.v (left c k)) w' at
    scaled {m} em done c =
        let R = ring p c.stood.p_pos d i c.stood.t in
        let x = R.◌⊗◌ c.v (left c k) in
        done.done c.stood.p_pos c.stood.t _ _ R.𝟘 (tower-now r.dividing fr c.stood) (given_now c)
        ∙ ap (write p d i)
        (zero-⊕ R _
        ∙ value-pairs p c.stood.p_pos d i c.stood.t 1 _ _ m (omega (arith, r.dividing.low))
        ∙ sum_suc R 0 (λ n. x)
        ∙ ap (λ s. R.◌⊕◌ s x) (sum-zero R (λ n. x))
        ∙ zero-⊕ R x)

  module _ {k₁ : ℕ} {w : List ℤ} (some : 0 < k₁) (s : At k₁ w) {m : List ℕ} {f q n at : ℕ} {w₁ : List ℤ} (em : length m ≡ 4)
      (l : Counted d i b a g cap (k₁ - 1) f q n at) (made : ProductDone i d p m e e-in ea (two i y y_in f [] true q n) true true w w₁ at top) where
    abbrev k : ℕ
    k = k₁ - 1

    rest : (Worked (a + k * size d i) (size d i) top (work d i) w w₁) × ((c : Before) → Stands p d i (left c k) w₁ (a + k * size d i))
    rest = falling_rest r.dividing some s em l made

    frame : Worked a (cap * size d i) top (work d i) w₀ w₁
    frame = falling_frame r.dividing some s rest.0

    most : suc k ≤ cap
    most = falling_inside r.dividing some s

    pub unit_scale : ScaleReady i d z p m e e-in ea u u-in h w₁ at top
    unit_scale = rw l.here (scale-ready frame most rest.1 em)

    pub unit_next : {w₂ : List ℤ} → ScaleDone k g i d p m e e-in ea u u-in h w₁ w₂ at top → At k w₂
    unit_next {w₂} done = go (le_or_lt g k)
      where
        go : (g ≤ k) ⊎ (k < g) → At k w₂
        go (inl x) =
            let times = (rw l.here at done).high x in
            falling_step r.dividing some s (worked_trans rest.0 times.frame)
            (λ c. scaled frame most rest.1 em times c
            ∙ ap (write p d i) (sym (rowᵘ-quotient (ring p c.stood.p_pos d i c.stood.t) g c.stood.l c.v cap r.dividing.fits c.stood.f k x most)))
        go (inr x) =
            subst (λ v. At k v) (sym (done.low x))
            (falling_step r.dividing some s rest.0
            (λ c. rest.1 c
            ∙ ap (write p d i) (sym (rowᵘ-rest (ring p c.stood.p_pos d i c.stood.t) g c.stood.l c.v cap r.dividing.fits c.stood.f k x))))

  pub unit_end : {k : ℕ} {w : List ℤ} → k ≡ 0 → At k w → UnitDone i d p e e-in ea y y_in b g u u-in h w₀ w a cap top
  unit_end ek s = record {
    frame = s.frame;
    done = λ p_pos t f l v given inverse.
        falling_end r.dividing ek s (record { stood = record { p_pos = p_pos; t = t; f = f; l = l; given = given }; v = v; inverse = inverse });
  }

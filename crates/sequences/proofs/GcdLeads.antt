-- Laws of the beginning of a GCD: the leading coefficients are inverted.
--
-- stripped_of, shape_of == n coefficients of which the last is not zero, as a shape;  led_of, whole-of == as a polynomial of the sequence
-- led_of_lem, made_of   == such a polynomial stands as one of the sequence; it is made monic by the inverse
-- made_none, made_shown == zero; a factor shown
-- Held                  == the tower and two polynomials stand;  held_swap == the other way round
-- lead_asks             == what the inverse of the first's leading coefficient asks for
-- lead_sited, lead_up, lead-held, lead-inverse == what it leaves as it was
-- lead_given, lead_shown, lead_over == the three outcomes
use Prim.Native.Nat.{ℕ, zero, suc, ◌+◌, ◌-◌, ◌<◌, ◌≤◌}
use native.Mathlib.Nat.{lt_irrefl}
use native.Mathlib.Omega.{arith}
use mathlib.Core.Path.{◌≡◌, refl, ap, sym, ◌∙◌, subst}
use mathlib.Core.Bool.{Bool}
use mathlib.Core.Logic.{◌⊎◌, inl, inr}
use mathlib.Core.List.{List}
use lib.IntN.{ℤ}
use Rattle.algebra.specs.Shape.{null, lead, strip, Stripped, strip_null, strip-lead}
use Rattle.algebra.specs.Test.{le_or_lt}
use Rattle.algebra.specs.UnitDivide.{scaleᵛ}
use Rattle.algebra.specs.Vec.{coef, trunc, topped, trunc-at, coef_below}
use Rattle.tower.specs.Levels.{El, Tower, is_zero, zero_test, group, ring}
use Rattle.tower.specs.Stands.{Stands}
use Rattle.tower.specs.Work.{inverse_work}
use Rattle.tower.specs.Writing.{size, write}
use Rattle.arithmetic.specs.Rows.{block_inside}
use Rattle.arithmetic.specs.Walk.{pick}
use Rattle.products.specs.Product.{Worked, TowerStands}
use Rattle.products.proofs.Frames.{Same}
use Rattle.euclid.specs.Answer.{Answer, done, shown, long}
use Rattle.euclid.specs.Demand.{inv_done, inv_never_long}
use Rattle.euclid.specs.Gcd.{made, make, nothing}
use Rattle.euclid.specs.Lazy.{Led, led}
use Rattle.euclid.specs.Steps.{make-lead, make_shown}
use Rattle.euclid.specs.Towers.{Shown, shown_level, inv, level}
use Rattle.euclid.proofs.Towers.{good}
use Rattle.std.specs.Prelude.{Result, Ok, Err}
use Rattle.sequences.specs.declared.Stop.{Stop}
use Rattle.sequences.specs.declared.Stop.TheVariants.{Factor, Long}
use Rattle.sequences.specs.Outcomes.{Came, FactorStands}
use Rattle.sequences.specs.Gcds.{Sited, Upwards, Polynomial, Inverted, LeadReady, LeadDone, LedStands}
use Rattle.sequences.specs.Passes.{Clear}
use Rattle.sequences.proofs.PlaceLaws.{clear_swap, worked_apart, stands_same, elements_same}
use Rattle.sequences.proofs.GcdPlaces.{sited_less, up-worked, tower-worked}

-- ---- n coefficients, the last of which is not zero
-- the first of them, and the last
trunc-topped : {A : Type 0} (n : ℕ) (a : ℕ → A) → trunc (suc n) a ≡ topped n (trunc n a) (a n)
trunc-topped zero a = refl
trunc-topped (suc n) a = λ i. (a 0, trunc-topped n (λ k. a (suc k)) i)

topped_of : {A : Type 0} (o : A) (n k : ℕ) (a : ℕ → A) → n ≡ suc k → (j : ℕ) → coef o n (trunc n a) j ≡ coef o (suc k) (topped k (trunc k a) (a k)) j
topped_of o n k a e j = ap (λ y. coef o y (trunc y a) j) e ∙ ap (λ v. coef o (suc k) v j) (trunc-topped k a)

module _ (p : ℕ) (p_pos : 0 < p) (d : List ℕ) (i : ℕ) (t : Tower p d i) (n : ℕ) (a : ℕ → El p d i) where
  abbrev o : El p d i
  o = (group p p_pos d i).𝟘

  -- with the inverse u of the last
  abbrev pub led_of : El p d i → Led (El p d i) (Unit {0})
  led_of u = led (n - 1) (trunc (n - 1) a) (a (n - 1)) u tt

  pub made_none : n ≡ 0 → strip (is_zero p d i) n (trunc n a) ≡ null
  made_none e = strip_null (zero_test p p_pos d i) n (trunc n a) (λ j. coef_below o n (trunc n a) j (omega (arith, e)))

  module _ (some : 0 < n) (nz : ¬ (a (n - 1) ≡ (group p p_pos d i).𝟘)) where
    many : n ≡ suc (n - 1)
    many = omega (arith, some)

    pub stripped_of : Stripped (group p p_pos d i).𝟘 n (trunc n a) (lead (n - 1) (trunc (n - 1) a) (a (n - 1)))
    stripped_of = (omega (arith, some), nz, topped_of o n (n - 1) a many)

    pub shape_of : strip (is_zero p d i) n (trunc n a) ≡ lead (n - 1) (trunc (n - 1) a) (a (n - 1))
    shape_of = strip-lead (zero_test p p_pos d i) n (trunc n a) (n - 1) (trunc (n - 1) a) (a (n - 1)) nz (topped_of o n (n - 1) a many)

    pub made_of : (u : El p d i) → inv p p_pos d i t (a (n - 1)) ≡ done u
        → make (level p p_pos d i t) (nothing (El p d i)) n (trunc n a) tt ≡ done (made (n - 1) (scaleᵛ (ring p p_pos d i t) (n - 1) u (trunc (n - 1) a)) tt)
    made_of u h = make-lead (level p p_pos d i t) (nothing (El p d i)) n (trunc n a) tt (n - 1) _ _ shape_of u h

    pub made_shown : (x : Shown p d i) → inv p p_pos d i t (a (n - 1)) ≡ shown x → make (level p p_pos d i t) (nothing (El p d i)) n (trunc n a) tt ≡ shown x
    made_shown x h = make_shown (level p p_pos d i t) (nothing (El p d i)) n (trunc n a) tt (n - 1) _ _ shape_of x h

pub led_of_lem : {p : ℕ} {p_pos : 0 < p} {d : List ℕ} {i : ℕ} {t : Tower p d i} {n : ℕ} {a : ℕ → El p d i} {w : List ℤ} {row unit : ℕ} (some : 0 < n)
    → Polynomial p p_pos d i n a w row → (v : Inverted p p_pos d i t n a w unit) → LedStands p p_pos d i t (led_of p p_pos d i t n a (v.given some).0) row unit n w
led_of_lem {p} {p_pos} {d} {i} {t} {n} {a} some s v =
    let o = (group p p_pos d i).𝟘 in
    let many : n ≡ suc (n - 1) = omega (arith, some) in
    record {
      count = many;
      coefficients = λ j l.
          s.stands j (omega (arith, some, l)) ∙ ap (write p d i) (sym (trunc-at o n a j (omega (arith, some, l))) ∙ topped_of o n (n - 1) a many j);
      inverse = (v.given some).2;
      led = inv_done (level p p_pos d i t) (good p p_pos d i t) (a (n - 1)) (s.leads some) (v.given some).0 (v.given some).1;
    }

-- ---- the inverse of the first's leading coefficient
pub record Held (p : ℕ) (p_pos : 0 < p) (d : List ℕ) (i : ℕ) (t : Tower p d i) (e : List ℤ) (e-in : Bool) (ea fr m gr n : ℕ) (a b : ℕ → El p d i) (w : List ℤ) : Type 0 where
  pub tower : TowerStands p p_pos d i t (pick e-in w e) ea
  pub left : Polynomial p p_pos d i m a w fr
  pub right : Polynomial p p_pos d i n b w gr

pub held_swap : {p : ℕ} {p_pos : 0 < p} {d : List ℕ} {i : ℕ} {t : Tower p d i} {e : List ℤ} {e-in : Bool} {ea fr m gr n : ℕ} {a b : ℕ → El p d i} {w : List ℤ}
    → Held p p_pos d i t e e-in ea fr m gr n a b w → Held p p_pos d i t e e-in ea gr n fr m b a w
held_swap h = record { tower = h.tower; left = h.right; right = h.left }

module _ {i : ℕ} {d z : List ℕ} {p : ℕ} {e : List ℤ} {e-in : Bool} {ea fr fu m gr gu n : ℕ} {w : List ℤ} {top : ℕ} {p_pos : 0 < p} {t : Tower p d i} {a b : ℕ → El p d i}
    (s : Sited i d z p e e-in ea fr fu m gr gu n w top) (q : Held p p_pos d i t e e-in ea fr m gr n a b w) where
  pub lead_asks : LeadReady i d z p e e-in ea fr fu m w top
  lead_asks = record {
    low = s.low;
    sized = s.sized;
    row_below = omega (arith, s.first.row_below, s.room);
    some = λ l.
        let inside = block_inside (m - 1) m (size d i) (omega (arith, l)) in
        record {
          run = record {
            modulus = s.modulus;
            two = s.two;
            low = s.low;
            sized = s.sized;
            positive = s.positive;
            small = s.small;
            e_inside = s.e_inside;
            x_inside = record { inside = omega (arith, inside, s.first.row_below, s.room); below = λ _. omega (arith, inside, s.first.row_below) };
            room = s.room;
            p_pos = p_pos;
            t = t;
            v = a (m - 1);
            tower = q.tower;
            element = q.left.stands (m - 1) (omega (arith, l));
            some = q.left.leads l;
          };
          c_below = s.first.unit_below;
        };
  }

  module _ {v : List ℤ} (r : Result (Unit {0}) Stop) (y : LeadDone i d p e e-in ea fr fu m w v top r) where
    -- only the words of the inverse, and those above top
    frame : Worked fu (size d i) top (inverse_work d i) w v
    frame = go (le_or_lt m 0)
      where
        go : (m ≤ 0) ⊎ (0 < m) → Worked fu (size d i) top (inverse_work d i) w v
        go (inl h) =
            subst (λ x. Worked fu (size d i) top (inverse_work d i) w x) (sym (y.none (omega (arith, h))).1)
            (record { long = refl; below = λ k l. refl; between = λ k l q. refl; beyond = λ k l. refl })
        go (inr h) = (y.some h).frame

    pub lead_sited : Sited i d z p e e-in ea fr fu m gr gu n v top
    lead_sited = sited_less s m v (omega arith) frame.long

    pub lead_up : Upwards i d fr fu gr gu w v top
    lead_up = up-worked i d fr fu gr gu top (inr (omega arith)) s.first.unit_below (omega arith) frame

    same : {b l : ℕ} → Clear b l fu (size d i) → b + l ≤ top → Same b l w v
    same c q = worked_apart c q frame

    pub lead-held : Held p p_pos d i t e e-in ea fr m gr n a b v
    lead-held = record {
      tower = tower-worked p p_pos d i t e e-in w v s.e_inside s.first.e_unit frame q.tower;
      left = record {
        stands = elements_same p d i m a (same (clear_swap (record { apart = s.first.apart })) s.first.row_below) q.left.stands;
        leads = q.left.leads;
      };
      right = record {
        stands = elements_same p d i n b (same (clear_swap (record { apart = s.f_away })) s.second.row_below) q.right.stands;
        leads = q.right.leads;
      };
    }

    pub lead-inverse : Inverted p p_pos d i t n b w gu → Inverted p p_pos d i t n b v gu
    lead-inverse h = record {
      given = λ l.
          let x = h.given l in
          (x.0, x.1, stands_same p d i x.0 (same (clear_swap (record { apart = s.units })) s.second.unit_below) x.2);
    }

    -- ---- the three outcomes
    came : 0 < m → Came p p_pos d i t (inv p p_pos d i t (a (m - 1))) r v fu
    came l = (y.some l).done p_pos t (a (m - 1)) q.tower (q.left.stands (m - 1) (omega (arith, l))) (q.left.leads l)

    -- zero has no leading coefficient
    some-lead : ¬ (r ≡ Ok tt) → 0 < m
    some-lead other = go (le_or_lt m 0)
      where
        go : (m ≤ 0) ⊎ (0 < m) → 0 < m
        go (inl h) = absurd (other (y.none (omega (arith, h))).0)
        go (inr h) = h

    pub lead_given : r ≡ Ok tt → Inverted p p_pos d i t m a v fu
    lead_given er = record { given = λ l. go _ refl (came l) }
      where
        go : (x : Answer (Shown p d i) (El p d i)) → inv p p_pos d i t (a (m - 1)) ≡ x → Came p p_pos d i t x r v fu
            → (u : El p d i) × (inv p p_pos d i t (a (m - 1)) ≡ done u) × Stands p d i u v fu
        go (done u) ex h = (u, ex, h.1)
        go (shown f) ex h = let er' : r ≡ Err (Factor (shown_level p d i f) fu) = h.0 in let bad : ◌≡◌ {A = ℕ} 0 1 = cc in absurd (lt_irrefl 0 (omega arith))
        go long ex h = let er' : r ≡ Err Long = h in let bad : ◌≡◌ {A = ℕ} 0 1 = cc in absurd (lt_irrefl 0 (omega arith))

    pub lead_shown : (l at : ℕ) → r ≡ Err (Factor l at)
        → (0 < m) × ((x : Shown p d i) × (inv p p_pos d i t (a (m - 1)) ≡ shown x) × (l ≡ shown_level p d i x) × (at ≡ fu) × FactorStands p p_pos d i t x v fu)
    lead_shown l at er = (some, go _ refl (came some))
      where
        some : 0 < m
        some = some-lead (λ h. let bad : ◌≡◌ {A = ℕ} 0 1 = cc in lt_irrefl 0 (omega arith))

        go : (x : Answer (Shown p d i) (El p d i)) → inv p p_pos d i t (a (m - 1)) ≡ x → Came p p_pos d i t x r v fu
            → (x : Shown p d i) × (inv p p_pos d i t (a (m - 1)) ≡ shown x) × (l ≡ shown_level p d i x) × (at ≡ fu) × FactorStands p p_pos d i t x v fu
        go (done u) ex h = let er' : r ≡ Ok tt = h.0 in let bad : ◌≡◌ {A = ℕ} 0 1 = cc in absurd (lt_irrefl 0 (omega arith))
        go (shown f) ex h =
            let er' : r ≡ Err (Factor (shown_level p d i f) fu) = h.0 in
            let el : l ≡ shown_level p d i f = cc in
            let here : at ≡ fu = cc in
            (f, ex, el, here, h.1)
        go long ex h = let er' : r ≡ Err Long = h in let bad : ◌≡◌ {A = ℕ} 0 1 = cc in absurd (lt_irrefl 0 (omega arith))

    -- it is never number 11
    pub lead_over : r ≡ Err Long → ⊥
    lead_over er = go _ refl (came some)
      where
        some : 0 < m
        some = some-lead (λ h. let bad : ◌≡◌ {A = ℕ} 0 1 = cc in lt_irrefl 0 (omega arith))

        go : (x : Answer (Shown p d i) (El p d i)) → inv p p_pos d i t (a (m - 1)) ≡ x → Came p p_pos d i t x r v fu → ⊥
        go (done u) ex h = let er' : r ≡ Ok tt = h.0 in let bad : ◌≡◌ {A = ℕ} 0 1 = cc in lt_irrefl 0 (omega arith)
        go (shown f) ex h = let er' : r ≡ Err (Factor (shown_level p d i f) fu) = h.0 in let bad : ◌≡◌ {A = ℕ} 0 1 = cc in lt_irrefl 0 (omega arith)
        go long ex h = inv_never_long (level p p_pos d i t) (good p p_pos d i t) (a (m - 1)) (q.left.leads some) ex

-- Laws of the beginning of an inverse at level h + 1: the two polynomials stand in their slots, and the inverse of the element's leading coefficient is taken.
--
-- Leads, leads    == the element's degree and leading coefficient: its first word tells them
-- begin-reads, begin-ready == what the reading of that word and the filling of the slots ask for
-- begin_counts == the numbers;  begin_asks == what the inverse one level down asks for
-- begin_frame  == what has changed
-- begin_going, begin_shows, begin_over == the loop's beginning; a factor of a level below; number 11 is not met
use Prim.Native.Nat.{ℕ, suc, ◌+◌, ◌-◌, ◌*◌, ◌<◌, ◌≤◌}
use native.Mathlib.Nat.{mul-le-mul_right, suc-mul}
use native.Mathlib.Omega.{arith}
use mathlib.Core.Path.{◌≡◌, ap₂, refl, ap, sym, ◌∙◌, subst}
use mathlib.Core.Bool.{Bool, true}
use mathlib.Core.Logic.{inl}
use mathlib.Core.List.{List, []}
use lib.IntN.{ℤ, pos}
use lib.ListN.{length, get_or}
use Rattle.algebra.specs.Vec.{Vec, zeroᵛ, coef-zero, coef_inj, topped-top}
use Rattle.algebra.specs.Shape.{Shape, null, lead, count, strip, Stripped, strip_ok}
use Rattle.tower.specs.Levels.{degree, El, is_zero, group, zero_test}
use Rattle.tower.specs.Writing.{size, size-pos, write, count_of}
use Rattle.tower.specs.Stands.{Stands, slot_of, count_told}
use Rattle.tower.specs.Store.{Kept, kept_trans, kept-wide}
use Rattle.tower.specs.Work.{inverse_work, inverse_work_suc}
use Rattle.arithmetic.specs.Rows.{block_inside}
use Rattle.arithmetic.specs.Walk.{pick}
use Rattle.products.proofs.Frames.{Same, same-part, worked_kept}
use Rattle.euclid.specs.Demand.{inv_never_long}
use Rattle.euclid.specs.LazyInverse.{modulus, element}
use Rattle.euclid.proofs.LazyInverse.{inverse_shown}
use Rattle.euclid.specs.Towers.{inv}
use Rattle.euclid.proofs.Towers.{good}
use Rattle.std.specs.Prelude.{Result, Ok, Err}
use Rattle.sequences.specs.declared.Stop.{Stop}
use Rattle.sequences.specs.declared.Stop.TheVariants.{Factor, Long}
use Rattle.sequences.specs.Starts.{slot, BeginReady, Begun, BeginDone}
use Rattle.sequences.specs.Outcomes.{RunReady, RunDone, InvertReady, InvertDone, Came, Reached}
use Rattle.sequences.specs.Passes.{under_of, next_of, level_of, Clear, Laid, Looping}
use Rattle.sequences.proofs.AnswerLaws.{came_done, came_factor, came_long}
use Rattle.sequences.proofs.PlaceLaws.{worked_apart, stands_same, elements_same, laid_start}
use Rattle.sequences.proofs.TurnLaws.{turn-start}
use Rattle.sequences.proofs.RunLaws.{run-some, run_room, run_stands, run_acting, run_done, shown_above}

-- an element of degree n - 1, its coefficients u under the leading c
pub record Leads (p : ℕ) (p_pos : 0 < p) (d : List ℕ) (h : ℕ) (v : El p d (suc h)) (n : ℕ) : Type 0 where
  pub e : ℕ
  pub u : Vec (El p d h) e
  pub c : El p d h
  pub shape : Stripped (group p p_pos d h).𝟘 (degree d h) v (lead e u c)
  pub counts : n ≡ suc e

module _ {h : ℕ} {d z : List ℕ} {p : ℕ} {e : List ℤ} {e-in : Bool} {ea : ℕ} {x : List ℤ} {x_in : Bool} {a : ℕ} {w₀ : List ℤ} {top : ℕ}
    (r : RunReady (suc h) d z p e e-in ea x x_in a w₀ top) where
  abbrev g : ℕ
  g = degree d h

  abbrev s : ℕ
  s = size d h

  abbrev o : El p d h
  o = (group p r.p_pos d h).𝟘

  pub begin-ready : BeginReady h g s d z e e-in ea x x_in a w₀ top
  begin-ready = record {
    low = r.low;
    sized = r.sized;
    positive = r.positive;
    degree-is = refl;
    size_is = refl;
    e_inside = r.e_inside;
    x_inside = r.x_inside;
    space = omega (arith, r.room, run_room r);
  }

  pub begin-reads : a < length (pick x_in w₀ x)
  begin-reads = omega (arith, r.x_inside.inside, size-pos d (suc h))

  -- the element is not zero, so it has a leading coefficient
  pub leads : {n : ℕ} → n ≡ count_of (get_or (pick x_in w₀ x) a (pos 0)) → Leads p r.p_pos d h r.v n
  leads {n} en =
      go (strip (is_zero p d h) g r.v) (strip_ok (zero_test p r.p_pos d h) g r.v)
      (en ∙ count_told p r.p_pos d h (pick x_in w₀ x) a g r.v (slot_of p r.p_pos d h (pick x_in w₀ x) a r.v r.element))
    where
      go : (y : Shape (El p d h)) → Stripped o g r.v y → n ≡ count y → Leads p r.p_pos d h r.v n
      go null st q = absurd (r.some (coef_inj o g r.v (zeroᵛ o g) (λ j. st j ∙ sym (coef-zero o g j))))
      go (lead e u c) st q = record { e = e; u = u; c = c; shape = st; counts = q }

  module _ {n : ℕ} (q : Leads p r.p_pos d h r.v n) {w₁ : List ℤ}
      (began : BeginDone h d e e-in ea x x_in a w₀ w₁ top) where
    b : Begun p r.p_pos d h r.t r.v w₁ top
    b = began.done p r.p_pos r.two r.t r.v r.tower r.element

    pub begin_counts : (0 < n) × (n ≤ g)
    begin_counts = (omega (arith, q.counts), omega (arith, q.counts, q.shape.0))

    fra : Kept top (inverse_work d (suc h)) w₀ w₁
    fra = kept-wide (omega arith) (omega (arith, inverse_work_suc d h)) began.frame

    two_fit : s + s ≤ (g + 1) * s
    two_fit = omega (arith, mul-le-mul_right s (run-some r))

    laid : Laid top (next_of d h top) ((g + 1) * s) s (top + 1) (top + 2 * slot d h + 1) (top + 4 * slot d h)
        (top + slot d h + 1) (top + 3 * slot d h + 1) (top + 4 * slot d h + s)
    laid = laid_start top ((g + 1) * s) s two_fit

    leading : Stands p d h q.c w₁ (top + slot d h + 1 + (n - 1) * s)
    leading =
        let last : n - 1 ≡ q.e = omega (arith, q.counts) in
        subst (λ j. Stands p d h q.c w₁ (top + slot d h + 1 + j * s)) (sym last)
        (b.given q.e q.shape.0 ∙ ap (write p d h) (q.shape.2 q.e ∙ topped-top o q.e q.u q.c))

    pub begin_asks : InvertReady h d z p e e-in (under_of d h ea) [] true (top + slot d h + 1 + (n - 1) * s) w₁ (top + 4 * slot d h + s) (next_of d h top)
    begin_asks =
        let y = run_acting r fra in
        let inside = block_inside (n - 1) (g + 1) s (omega (arith, begin_counts)) in
        record {
          run = record {
            modulus = y.modulus;
            two = r.two;
            low = y.low;
            sized = y.sized;
            positive = y.positive;
            small = y.small;
            e_inside = y.e_inside;
            x_inside = record { inside = omega (arith, inside, r.room, fra.long, run_room r); below = λ _. omega (arith, inside) };
            room = omega (arith, r.room, fra.long, run_room r);
            p_pos = r.p_pos;
            t = r.t.0;
            v = q.c;
            tower = run_stands r fra;
            element = leading;
            some = q.shape.1;
          };
          c_below = omega (arith, two_fit);
        }

    module _ {w₂ : List ℤ} (c : Result (Unit {0}) Stop)
        (i : InvertDone h d p e e-in (under_of d h ea) [] true (top + slot d h + 1 + (n - 1) * s) w₁ w₂ (top + 4 * slot d h + s) (next_of d h top) c) where
      pub begin_frame : Kept top (inverse_work d (suc h)) w₀ w₂
      begin_frame = kept_trans fra (worked_kept laid.ku_low laid.ku_high (omega (arith, run_room r)) i.frame)

      came : Came p r.p_pos d h r.t.0 (inv p r.p_pos d h r.t.0 q.c) c w₂ (top + 4 * slot d h + s)
      came = i.done r.p_pos r.t.0 q.c (run_stands r fra) leading q.shape.1

      same : {b n : ℕ} → Clear b n (top + 4 * slot d h + s) s → b + n ≤ next_of d h top → Same b n w₁ w₂
      same y l = worked_apart y l i.frame

      all_same : {b : ℕ} → Same b ((g + 1) * s) w₁ w₂ → Same b (suc g * s) w₁ w₂
      all_same y = same-part (omega arith) (omega (arith, suc-mul g s)) y

      carried_same : {b : ℕ} → Same b ((g + 1) * s) w₁ w₂ → Same b (g * s) w₁ w₂
      carried_same y = same-part (omega arith) (omega arith) y

      pub begin_going : c ≡ Ok tt → Looping h d z p e e-in ea x x_in a w₀ top (top + 1) (top + 2 * slot d h + 1) (top + 4 * slot d h) (g + 1)
          (top + slot d h + 1) (top + 3 * slot d h + 1) (top + 4 * slot d h + s) n w₂
      begin_going ec =
          let k = came_done p r.p_pos d h r.t.0 w₂ (top + 4 * slot d h + s) c ec (inv p r.p_pos d h r.t.0 q.c) came in
          record {
            ready = r;
            frame = begin_frame;
            laid = laid;
            state = inl (record {
              f = modulus (level_of r) g r.t.1;
              k = element (level_of r) g r.t.1 q.e q.u q.c k.0;
              turning = turn-start (level_of r) g r.t.1 r.v (good p r.p_pos d h r.t.0) q.e q.u q.c q.shape k.0 k.1;
              f_count = omega arith;
              k_count = q.counts;
              f_stands = record {
                coefficients = elements_same p d h (suc g) _ (all_same (same laid.fr_ku laid.fr_high)) b.monic;
                carries = elements_same p d h g _ (carried_same (same laid.fc_ku laid.fc_high)) b.zeros;
                inverse = stands_same p d h _ (same laid.fu_ku laid.fu_high) b.unit;
              };
              k_stands = record {
                coefficients = λ m l.
                    elements_same p d h g _ (carried_same (same laid.kr_ku laid.kr_high)) b.given m (omega (arith, q.shape.0))
                    ∙ ap (write p d h) (q.shape.2 m);
                carries = elements_same p d h g _ (carried_same (same laid.kc_ku laid.kc_high)) b.ones;
                inverse = k.2;
              };
            });
          }

      pub begin_shows : (m at : ℕ) → c ≡ Err (Factor m at) → RunDone (suc h) d p e e-in ea x x_in a w₀ w₂ top (Err (Factor m at))
      begin_shows m at ec =
          let k = came_factor p r.p_pos d h r.t.0 w₂ (top + 4 * slot d h + s) c m at ec (inv p r.p_pos d h r.t.0 q.c) came in
          run_done r begin_frame (Err (Factor m at))
          (subst (λ y. Reached p r.p_pos d (suc h) r.t y (Err (Factor m at)) w₂ top)
          (sym (inverse_shown (level_of r) g r.t.1 r.v q.e q.u q.c q.shape k.0 k.1))
          (shown_above r w₂ (Err (Factor m at)) (top + 4 * slot d h + s) k.0 (ap₂ (λ x y. Err (Factor x y)) k.2 k.3)
          laid.ku_low laid.ku_high k.4))

      pub begin_over : c ≡ Err Long → ⊥
      begin_over ec =
          inv_never_long (level_of r) (good p r.p_pos d h r.t.0) q.c q.shape.1
          (came_long p r.p_pos d h r.t.0 w₂ (top + 4 * slot d h + s) c ec (inv p r.p_pos d h r.t.0 q.c) came)

      pub begin_stops : (y : Stop) → c ≡ Err y → RunDone (suc h) d p e e-in ea x x_in a w₀ w₂ top (Err y)
      begin_stops (Factor m at) ec = begin_shows m at ec
      begin_stops Long ec = absurd (begin_over ec)

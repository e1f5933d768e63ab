-- Places of a GCD's two polynomials in the store, and what of it may have changed.
--
-- sited_swap, sited_less == the other way round; fewer coefficients of the first, in a store as long
-- sited_acting           == what the functions on rows ask for
-- up_refl, up_trans, up_swap, up-worked, up_besides == nothing, one change after another, either of the two, a row or an inverse, the end of a turn
-- tower-worked, tower_besides == the tower stands as before
use Prim.Native.Nat.{ℕ, ◌+◌, ◌*◌, ◌<◌, ◌≤◌}
use native.Mathlib.Nat.{mul-le-mul_right}
use native.Mathlib.Omega.{arith}
use mathlib.Core.Path.{◌≡◌, sym, subst, ◌∙◌}
use mathlib.Core.Bool.{Bool}
use mathlib.Core.Logic.{◌⊎◌, inl, inr}
use mathlib.Core.List.{List}
use lib.IntN.{ℤ}
use lib.ListN.{length}
use Rattle.tower.specs.Levels.{Tower}
use Rattle.tower.specs.Store.{kept_refl, kept_trans}
use Rattle.tower.specs.Work.{inverse_work}
use Rattle.tower.specs.Writing.{size, tower_size}
use Rattle.arithmetic.specs.Walk.{pick}
use Rattle.products.specs.Product.{Worked, TowerStands, Inside, Outside}
use Rattle.products.proofs.Frames.{inside_kept, picked_seg, worked_kept}
use Rattle.sequences.specs.Rows.{Acting, Between}
use Rattle.sequences.specs.Outcomes.{Besides}
use Rattle.sequences.specs.Gcds.{Placed, Sited, Upwards}
use Rattle.sequences.specs.Passes.{Clear}
use Rattle.sequences.proofs.PlaceLaws.{clear_swap, apart_in, worked_apart, besides_apart, besides_kept, work≤inverse}

-- ---- runs
between_swap : (a n b m : ℕ) → Between a n b m → Between b m a n
between_swap a n b m h =
    let q : Clear a n b m = record { apart = h } in
    (clear_swap q).apart

-- fewer of the second
between_less : (a n b : ℕ) {m k : ℕ} → k ≤ m → Between a n b m → Between a n b k
between_less a n b {m} {k} l h =
    let q : Clear a n b m = record { apart = h } in
    apart_in a n b k q (omega arith) (omega arith) (omega arith) (omega (arith, l))

placed_less : {i : ℕ} {d : List ℕ} {e-in : Bool} {ea row unit n k top : ℕ} → k ≤ n → Placed i d e-in ea row unit n top → Placed i d e-in ea row unit k top
placed_less {i} {d} {ea = ea} {row = row} {unit = unit} h s =
    let l = mul-le-mul_right (size d i) h in
    record {
      behind = s.behind;
      row_below = omega (arith, l, s.row_below);
      unit_below = s.unit_below;
      few = omega (arith, l, s.few);
      e_row = λ q. between_less ea (tower_size d i) row l (s.e_row q);
      e_unit = s.e_unit;
      apart = between_less unit (size d i) row l s.apart;
    }

module _ {i : ℕ} {d z : List ℕ} {p : ℕ} {e : List ℤ} {e-in : Bool} {ea fr fu m gr gu n : ℕ} {w : List ℤ} {top : ℕ}
    (s : Sited i d z p e e-in ea fr fu m gr gu n w top) where
  pub sited_swap : Sited i d z p e e-in ea gr gu n fr fu m w top
  sited_swap = record {
    modulus = s.modulus;
    two = s.two;
    low = s.low;
    sized = s.sized;
    positive = s.positive;
    small = s.small;
    e_inside = s.e_inside;
    room = s.room;
    first = s.second;
    second = s.first;
    rows = between_swap fr (m * size d i) gr (n * size d i) s.rows;
    units = between_swap fu (size d i) gu (size d i) s.units;
    f_away = s.g_away;
    g_away = s.f_away;
  }

  pub sited_less : (k : ℕ) (v : List ℤ) → k ≤ m → length v ≡ length w → Sited i d z p e e-in ea fr fu k gr gu n v top
  sited_less k v h q =
      let l = mul-le-mul_right (size d i) h in
      record {
        modulus = s.modulus;
        two = s.two;
        low = s.low;
        sized = s.sized;
        positive = s.positive;
        small = s.small;
        e_inside = inside_kept e-in w v e q (omega arith) s.e_inside;
        room = omega (arith, s.room, q);
        first = placed_less h s.first;
        second = s.second;
        rows = between_swap gr (n * size d i) fr (k * size d i) (between_less gr (n * size d i) fr l (between_swap fr (m * size d i) gr (n * size d i) s.rows));
        units = s.units;
        f_away = s.f_away;
        g_away = between_less gu (size d i) fr l s.g_away;
      }

  unfoldable pub sited_acting : (p_pos : 0 < p) (t : Tower p d i) → TowerStands p p_pos d i t (pick e-in w e) ea → Acting i d z p e e-in ea w top
  sited_acting p_pos t tower = record {
    modulus = s.modulus;
    low = s.low;
    sized = s.sized;
    positive = s.positive;
    small = s.small;
    e_inside = s.e_inside;
    room = omega (arith, s.room, work≤inverse d i);
    p_pos = p_pos;
    t = t;
    tower = tower;
  }

-- ---- what has changed
module _ (i : ℕ) (d : List ℕ) (fr fu gr gu top : ℕ) where
  pub up_refl : (w v : List ℤ) → v ≡ w → Upwards i d fr fu gr gu w v top
  up_refl w v q = subst (λ y. Upwards i d fr fu gr gu w y top) (sym q) (λ base a b c e l. kept_refl base _ w)

  pub up_trans : (u v w : List ℤ) → Upwards i d fr fu gr gu u v top → Upwards i d fr fu gr gu v w top → Upwards i d fr fu gr gu u w top
  up_trans u v w f g base a b c e l = kept_trans (f base a b c e l) (g base a b c e l)

  pub up_swap : (v w : List ℤ) → Upwards i d fr fu gr gu v w top → Upwards i d gr gu fr fu v w top
  up_swap v w f base a b c e l = f base c e a b l

  -- a run at or behind one of the first's two places
  pub up-worked : {c n m : ℕ} {v w : List ℤ} → (fr ≤ c) ⊎ (fu ≤ c) → c + n ≤ top → m ≤ inverse_work d i → Worked c n top m v w → Upwards i d fr fu gr gu v w top
  up-worked (inl q) h r f base a b c e l = worked_kept (omega arith) h (omega arith) f
  up-worked (inr q) h r f base a b c e l = worked_kept (omega arith) h (omega arith) f

  pub up_besides : {c n : ℕ} {v w : List ℤ} → fr ≤ c → c + n ≤ top → fu + n ≤ top → Besides c fu n top (inverse_work d i) v w → Upwards i d fr fu gr gu v w top
  up_besides q h r f base a b c e l = besides_kept (omega arith) h b r (omega arith) f

-- ---- the tower
module _ (p : ℕ) (p_pos : 0 < p) (d : List ℕ) (i : ℕ) (t : Tower p d i) (e : List ℤ) (e-in : Bool) {ea top : ℕ} (v w : List ℤ)
    (s : Inside e-in (pick e-in v e) ea (tower_size d i) top) where
  pub tower-worked : {c n m : ℕ} → Outside e-in ea (tower_size d i) c n → Worked c n top m v w → TowerStands p p_pos d i t (pick e-in v e) ea
      → TowerStands p p_pos d i t (pick e-in w e) ea
  tower-worked h f q = picked_seg e-in ea (tower_size d i) v w e (λ y. worked_apart (record { apart = h y }) (s.below y) f) ∙ q

  pub tower_besides : {c b n m : ℕ} → Outside e-in ea (tower_size d i) c n → Outside e-in ea (tower_size d i) b n → Besides c b n top m v w
      → TowerStands p p_pos d i t (pick e-in v e) ea → TowerStands p p_pos d i t (pick e-in w e) ea
  tower_besides h l f q =
      picked_seg e-in ea (tower_size d i) v w e (λ y. besides_apart (record { apart = h y }) (record { apart = l y }) (s.below y) f) ∙ q

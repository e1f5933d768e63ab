-- Laws of one turn of a GCD's sequence: the row of f is divided by k's, and the remainder follows k; or f has the lower degree, and the two change places.
--
-- led-worked              == a polynomial outside a frame stands as before
-- divide_asks, follow_asks == what the two steps of a turn ask for
-- turned_long, turned_up, turned_tower == what has changed
-- turned_next, turned_shows, turned_over == the next pair; a factor; number 11 is not met
use Prim.Native.Nat.{ℕ, suc, ◌+◌, ◌*◌, ◌<◌, ◌≤◌}
use native.Mathlib.Nat.{lt_irrefl, mul-le-mul_right, add-mul}
use native.Mathlib.Omega.{arith}
use mathlib.Core.Path.{◌≡◌, refl, ap, sym, ◌∙◌, subst}
use mathlib.Core.Bool.{Bool}
use mathlib.Core.Logic.{inl, inr}
use mathlib.Core.List.{List}
use lib.IntN.{ℤ}
use lib.ListN.{length}
use Rattle.algebra.specs.Ring.{CRing}
use Rattle.algebra.specs.Vec.{Vec, coef, trunc-coef}
use Rattle.algebra.specs.Shape.{Shape, null, lead, strip, Stripped, strip_ok}
use Rattle.algebra.specs.UnitDivide.{remainderᵘ}
use Rattle.algebra.specs.UnitDivided.{rowᵘ-low}
use Rattle.tower.specs.Levels.{El, Tower, is_zero, group, zero_test, ring}
use Rattle.tower.specs.Stands.{Stands}
use Rattle.tower.specs.Writing.{size, write, tower_size}
use Rattle.arithmetic.specs.Walk.{pick}
use Rattle.products.specs.Product.{TowerStands, Elements, Outside}
use Rattle.products.proofs.Frames.{Same, inside_kept}
use Rattle.products.proofs.Towers.{topped-low}
use Rattle.euclid.specs.Answer.{Answer, done, shown, long, map}
use Rattle.euclid.specs.Gcd.{Made, wrap, nothing}
use Rattle.euclid.specs.Lazy.{Led, led, whole, rest, lazy, nothing_linear, lazy_null, lazy_never_long, next-led}
use Rattle.euclid.proofs.Lazy.{lazy_fuel, lazy_shown, lazy-next}
use Rattle.euclid.specs.Shown.{shown_fits}
use Rattle.euclid.specs.Towers.{Shown, shown_level, inv, level}
use Rattle.euclid.proofs.Towers.{good}
use Rattle.std.specs.Prelude.{Result, Ok, Err}
use Rattle.sequences.specs.declared.Stop.{Stop}
use Rattle.sequences.specs.declared.Stop.TheVariants.{Factor, Long}
use Rattle.sequences.specs.declared.Greatest.{Greatest}
use Rattle.sequences.specs.Rows.{DivideReady, DivideDone}
use Rattle.sequences.specs.Outcomes.{FollowReady, FollowDone, Followed, Follows}
use Rattle.sequences.specs.Gcds.{Sited, Upwards, Finds, LedStands, Sought}
use Rattle.sequences.specs.Passes.{Clear}
use Rattle.sequences.proofs.PlaceLaws.{clear_swap, clear_in, clear_up, apart_in, worked_apart, besides_apart, same_trans}
use Rattle.sequences.proofs.PlaceLaws.{stands_same, elements_same, work≤inverse}
use Rattle.sequences.proofs.GcdPlaces.{sited_acting, up_trans, up-worked, up_besides, tower-worked, tower_besides}

-- ---- what stands
-- a polynomial whose row and inverse are as before
pub led-same : {p : ℕ} {p_pos : 0 < p} {d : List ℕ} {i : ℕ} {t : Tower p d i} {f : Led (El p d i) (Unit {0})} {row unit n : ℕ} {v w : List ℤ}
    → LedStands p p_pos d i t f row unit n v → Same row (n * size d i) v w → Same unit (size d i) v w → LedStands p p_pos d i t f row unit n w
led-same {p} {p_pos} {d} {i} {t} {f} {row} {unit} {n} {v} {w} s r u = record {
  count = s.count;
  coefficients = elements_same p d i (suc f.degree) _ (subst (λ k. Same row (k * size d i) v w) s.count r) s.coefficients;
  inverse = stands_same p d i f.unit u s.inverse;
  led = s.led;
}

-- ---- f is divided by k
module _ {i : ℕ} {d z : List ℕ} {p : ℕ} {e : List ℤ} {e-in : Bool} {ea fr fu gr gu : ℕ} {w : List ℤ} {top : ℕ} {p_pos : 0 < p} {t : Tower p d i}
    {f k : Led (El p d i) (Unit {0})} (s : Sited i d z p e e-in ea fr fu (suc f.degree) gr gu (suc k.degree) w top)
    (tower : TowerStands p p_pos d i t (pick e-in w e) ea)
    (sf : LedStands p p_pos d i t f fr fu (suc f.degree) w) (sk : LedStands p p_pos d i t k gr gu (suc k.degree) w) (fits : k.degree ≤ f.degree) where
  abbrev S : ℕ
  S = size d i

  abbrev o : El p d i
  o = (group p p_pos d i).𝟘

  abbrev R : CRing
  R = ring p p_pos d i t

  -- parts of the two rows
  f-part : (n : ℕ) → n ≤ suc f.degree → n * S ≤ suc f.degree * S
  f-part n h = mul-le-mul_right S h

  k-part : k.degree * S ≤ suc k.degree * S
  k-part = mul-le-mul_right S (omega arith)

  low_stands : Elements p d i k.degree (coef o k.degree k.low) w gr
  low_stands n q = sk.coefficients n (omega arith) ∙ ap (write p d i) (topped-low o k.degree k.low k.top n q)

  row-row : Clear fr (suc f.degree * S) gr (suc k.degree * S)
  row-row = record { apart = s.rows }

  unit_row : Clear gu S fr (suc f.degree * S)
  unit_row = record { apart = s.g_away }

  own : Clear fu S fr (suc f.degree * S)
  own = record { apart = s.first.apart }

  pub divide_asks : DivideReady i d z p e e-in ea gr k.degree gu w fr (suc f.degree) top
  unfolding sited_acting
  divide_asks = record {
    acting = sited_acting s p_pos t tower;
    fits = omega (arith, fits);
    some = omega arith;
    few = omega (arith, k-part, s.second.few);
    a_below = s.first.row_below;
    b_below = omega (arith, k-part, s.second.row_below);
    u_below = s.second.unit_below;
    e_outside = s.first.e_row;
    b_outside =
        apart_in gr (k.degree * S) fr (suc f.degree * S) (clear_swap row-row) (omega arith) (omega (arith, k-part)) (omega arith) (omega arith);
    u_outside = s.g_away;
    f = coef o (suc f.degree) (whole f);
    l = k.low;
    v = k.unit;
    dividend = sf.coefficients;
    divisor = low_stands;
    unit = sk.inverse;
  }

  module _ {w₁ : List ℤ} (divided : DivideDone i d p e e-in ea gr k.degree gu w w₁ fr (suc f.degree) top) where
    tower₁ : TowerStands p p_pos d i t (pick e-in w₁ e) ea
    tower₁ = tower-worked p p_pos d i t e e-in w w₁ s.e_inside s.first.e_row divided.frame tower

    -- the remainder stands in f's row
    rest₁ : Elements p d i k.degree (coef o k.degree (rest R f k)) w₁ fr
    rest₁ n q =
        divided.done p_pos t _ k.low k.unit tower sf.coefficients low_stands sk.inverse n (omega (arith, fits))
        ∙ ap (write p d i) (rowᵘ-low R k.degree k.low k.unit (suc f.degree) _ n q
        ∙ ap (λ y. coef o k.degree (remainderᵘ R k.degree k.low k.unit (suc f.degree) y) n) (trunc-coef o (suc f.degree) (whole f)))

    -- a run that the division leaves alone
    same₁ : {b n : ℕ} → Clear b n fr (suc f.degree * S) → b + n ≤ top → Same b n w w₁
    same₁ c q = worked_apart c q divided.frame

    unit₁ : Stands p d i f.unit w₁ fu
    unit₁ = stands_same p d i f.unit (same₁ own s.first.unit_below) sf.inverse

    -- the remainder's coefficients, and one more
    more : (k.degree + 1) * S ≤ suc f.degree * S
    more = f-part (k.degree + 1) (omega (arith, fits))

    free_part : k.degree * S + S ≤ suc f.degree * S
    free_part = omega (arith, more, add-mul k.degree 1 S)

    -- a part of f's row is none of the tower's
    outside : (b n : ℕ) → fr ≤ b → b + n ≤ fr + suc f.degree * S → Outside e-in ea (tower_size d i) b n
    outside b n h l q =
        apart_in ea (tower_size d i) b n (record { apart = s.first.e_row q }) (omega arith) (omega arith) h l

    pub follow_asks : FollowReady i d z p e e-in ea fr k.degree fu w₁ top
    follow_asks = record {
      modulus = s.modulus;
      two = s.two;
      low = s.low;
      sized = s.sized;
      positive = s.positive;
      small = s.small;
      e_inside = inside_kept e-in w w₁ e divided.frame.long (omega arith) s.e_inside;
      e_row = outside fr ((k.degree + 1) * S) (omega arith) (omega (arith, more));
      e_unit = s.first.e_unit;
      behind = s.first.behind;
      row_below = omega (arith, more, s.first.row_below);
      unit_below = s.first.unit_below;
      apart = apart_in fu S fr ((k.degree + 1) * S) own (omega arith) (omega arith) (omega arith) (omega (arith, more));
      room = omega (arith, s.room, divided.frame.long);
      p_pos = p_pos;
      t = t;
      f = coef o k.degree (rest R f k);
      u = f.unit;
      back = f.top;
      tower = tower₁;
      rest = rest₁;
      inverse = unit₁;
      is_unit = sf.led;
    }

    module _ {w₂ : List ℤ} (c : Result ℕ Stop) (followed : FollowDone i d p e e-in ea fr k.degree fu w₁ w₂ top c) where
      pub turned_long : length w₂ ≡ length w
      turned_long = followed.frame.long ∙ divided.frame.long

      pub turned_up : Upwards i d fr fu gr gu w w₂ top
      turned_up =
          up_trans i d fr fu gr gu top w w₁ w₂ (up-worked i d fr fu gr gu top (inl (omega arith)) s.first.row_below (work≤inverse d i) divided.frame)
          (up_besides i d fr fu gr gu top (omega arith) (omega (arith, free_part, s.first.row_below)) s.first.unit_below followed.frame)

      pub turned_tower : TowerStands p p_pos d i t (pick e-in w₂ e) ea
      turned_tower =
          tower_besides p p_pos d i t e e-in w₁ w₂ follow_asks.e_inside (outside (fr + k.degree * S) S (omega arith) (omega (arith, free_part))) s.first.e_unit
          followed.frame tower₁

      same₂ : {b n : ℕ} → Clear b n fr (suc f.degree * S) → Clear b n fu S → b + n ≤ top → Same b n w w₂
      same₂ c l q =
          same_trans (same₁ c q) (besides_apart (clear_in (omega arith) (omega arith) (omega arith) (omega (arith, free_part)) c) l q followed.frame)

      -- k has not been touched
      k_stands : LedStands p p_pos d i t k gr gu (suc k.degree) w₂
      k_stands =
          led-same sk (same₂ (clear_swap row-row) (clear_swap (record { apart = s.f_away })) s.second.row_below)
          (same₂ unit_row (clear_swap (record { apart = s.units })) s.second.unit_below)

      rest₂ : Elements p d i k.degree (coef o k.degree (rest R f k)) w₂ fr
      rest₂ =
          elements_same p d i k.degree _
          (besides_apart (clear_up (omega arith))
          (clear_in (omega arith) (omega (arith, f-part k.degree (omega (arith, fits)))) (omega arith) (omega arith) (clear_swap own))
          (omega (arith, free_part, s.first.row_below)) followed.frame)
          rest₁

      -- ---- what the remainder is, and what its leading coefficient's inverse is
      abbrev free : ℕ
      free = fr + k.degree * S

      abbrev By : ℕ → Answer (Shown p d i) (El p d i) → Type 0
      By n q = Follows p p_pos d i t f.unit n q c w₂ free fu

      module _ (A : Type 0) (zeros : ((n : ℕ) → coef o k.degree (rest R f k) n ≡ o) → c ≡ Ok 0 → A)
          (on : (n : ℕ) (u : Vec (El p d i) n) (y : El p d i) → Stripped o k.degree (rest R f k) (lead n u y)
          → (q : Answer (Shown p d i) (El p d i)) → inv p p_pos d i t (R.◌⊗◌ f.unit y) ≡ q → By n q → A) where
        by_shape : (y : Shape (El p d i)) → Stripped o k.degree (rest R f k) y → Followed p p_pos d i t f.unit y c w₁ w₂ free fu → A
        by_shape null st q = zeros st q.0
        by_shape (lead n u y) st q = on n u y st _ refl q

        by_cases : A
        by_cases =
            by_shape (strip (is_zero p d i) k.degree (rest R f k)) (strip_ok (zero_test p p_pos d i) k.degree (rest R f k))
            (subst (λ y. Followed p p_pos d i t f.unit (strip (is_zero p d i) k.degree y) c w₁ w₂ free fu) (trunc-coef o k.degree (rest R f k))
            (followed.done p_pos t _ f.unit f.top tower₁ rest₁ unit₁ sf.led))

      -- the sequence on f and k comes to the answer
      module _ {answer : Answer (Shown p d i) (Made (El p d i) (Unit {0}))}
          (comes : answer ≡ map wrap (lazy (level p p_pos d i t) (nothing (El p d i)) (suc k.degree) f k)) where
        pub turned_next : (n : ℕ) → c ≡ Ok n → Sought p p_pos d i t answer gr gu (suc k.degree) fr fu n w₂ × (n ≤ k.degree)
        turned_next n ec = by_cases _ zeros on
          where
            zeros : ((n : ℕ) → coef o k.degree (rest R f k) n ≡ o) → c ≡ Ok 0
                → Sought p p_pos d i t answer gr gu (suc k.degree) fr fu n w₂ × (n ≤ k.degree)
            zeros st q =
                let none : n ≡ 0 = cc in (
                  record {
                    f = k;
                    stands = k_stands;
                    then = inl (record { none = none; comes = comes ∙ ap (map wrap) (lazy_null (level p p_pos d i t) (nothing (El p d i)) k.degree f k st) });
                  },
                  omega (arith, none),
                )

            on : (j : ℕ) (u : Vec (El p d i) j) (y : El p d i) → Stripped o k.degree (rest R f k) (lead j u y) → (q : Answer (Shown p d i) (El p d i))
                → inv p p_pos d i t (R.◌⊗◌ f.unit y) ≡ q → By j q → Sought p p_pos d i t answer gr gu (suc k.degree) fr fu n w₂ × (n ≤ k.degree)
            on j u y st (done x) ex q =
                let eq : c ≡ Ok (suc j) = q.0 in
                let many : n ≡ suc j = cc in (
                  record {
                    f = k;
                    stands = k_stands;
                    then = inr (record {
                      k = led j u y (R.◌⊗◌ x f.unit) tt;
                      stands = record {
                        count = many;
                        coefficients = λ a b. rest₂ a (omega (arith, st.0)) ∙ ap (write p d i) (st.2 a);
                        inverse = q.1;
                        led = next-led (level p p_pos d i t) (nothing (El p d i)) f k sf.led j u y st (good p p_pos d i t) x ex;
                      };
                      comes =
                          comes ∙ ap (map wrap)
                          (lazy-next (level p p_pos d i t) (nothing (El p d i)) f k sf.led j u y st sk.led (nothing_linear R) k.degree x ex
                          ∙ lazy_fuel (level p p_pos d i t) (nothing (El p d i)) k.degree (suc j) k _ st.0 (omega arith));
                    });
                  },
                  omega (arith, many, st.0),
                )
            on j u y st (shown x) ex q = let eq : c ≡ Err (Factor (shown_level p d i x) free) = q.0 in let bad : ◌≡◌ {A = ℕ} 0 1 = cc in absurd (lt_irrefl 0 (omega arith))
            on j u y st long ex q = let eq : c ≡ Err Long = q in let bad : ◌≡◌ {A = ℕ} 0 1 = cc in absurd (lt_irrefl 0 (omega arith))

        -- a factor met ends everything
        pub turned_shows : (l at : ℕ) → c ≡ Err (Factor l at) → Finds p p_pos d i t answer (Err (Factor l at)) w₂ top
        turned_shows l at ec = by_cases _ (λ st q. let bad : ◌≡◌ {A = ℕ} 0 1 = cc in absurd (lt_irrefl 0 (omega arith))) on
          where
            on : (j : ℕ) (u : Vec (El p d i) j) (y : El p d i) → Stripped o k.degree (rest R f k) (lead j u y) → (q : Answer (Shown p d i) (El p d i))
                → inv p p_pos d i t (R.◌⊗◌ f.unit y) ≡ q → By j q → Finds p p_pos d i t answer (Err (Factor l at)) w₂ top
            on j u y st (done x) ex q = let eq : c ≡ Ok (suc j) = q.0 in let bad : ◌≡◌ {A = ℕ} 0 1 = cc in absurd (lt_irrefl 0 (omega arith))
            on j u y st (shown x) ex q =
                let eq : c ≡ Err (Factor (shown_level p d i x) free) = q.0 in
                let same : ◌≡◌ {A = Result Greatest Stop} (Err (Factor l at)) (Err (Factor (shown_level p d i x) free)) = cc in
                subst (λ a. Finds p p_pos d i t a (Err (Factor l at)) w₂ top)
                (sym (comes ∙ ap (map wrap) (lazy_shown (level p p_pos d i t) (nothing (El p d i)) f k sf.led j u y st k.degree x ex)))
                (free, same, omega (arith, free_part, s.first.row_below, shown_fits p p_pos d i (record { p_two = s.two; degrees = s.positive.some }) x), q.1)
            on j u y st long ex q = let eq : c ≡ Err Long = q in let bad : ◌≡◌ {A = ℕ} 0 1 = cc in absurd (lt_irrefl 0 (omega arith))

      pub turned_over : c ≡ Err Long → ⊥
      turned_over ec = by_cases ⊥ (λ st q. let bad : ◌≡◌ {A = ℕ} 0 1 = cc in lt_irrefl 0 (omega arith)) on
        where
          on : (j : ℕ) (u : Vec (El p d i) j) (y : El p d i) → Stripped o k.degree (rest R f k) (lead j u y) → (q : Answer (Shown p d i) (El p d i))
              → inv p p_pos d i t (R.◌⊗◌ f.unit y) ≡ q → By j q → ⊥
          on j u y st (done x) ex q = let eq : c ≡ Ok (suc j) = q.0 in let bad : ◌≡◌ {A = ℕ} 0 1 = cc in lt_irrefl 0 (omega arith)
          on j u y st (shown x) ex q = let eq : c ≡ Err (Factor (shown_level p d i x) free) = q.0 in let bad : ◌≡◌ {A = ℕ} 0 1 = cc in lt_irrefl 0 (omega arith)
          on j u y st long ex q = lazy_never_long (level p p_pos d i t) (nothing (El p d i)) f k sf.led j u y st (good p p_pos d i t) ex

-- Laws of the sequence of a GCD, in the counts of the code: each turn leads from one pair to the next, and what the sequence on that leaves is what is sought.
--
-- Stepped    == the next pair, after a turn
-- turn_asks  == what a turn asks for;  turn_steps, turn_shows, turn_over == what it comes to
-- turns_asks == what a turn of the loop asks for;  turns_fewer == the next second has fewer coefficients
-- turns_next, turns-after == the next pair asks for no more, and its end is the end
-- turns_shows, turns_over == a factor is shown; number 11 is not met
-- turns-ones, turns-one  == the second is a constant: what writing 1 asks for, and leaves
-- turns-monic, turns_end == what making the last one monic asks for, and leaves;  turns_long == the store is as long as before
-- Turning                == what holds wherever the loop's test is reached;  turning_fits, turning_start, turning_left, turning_next, turning_stops
use Prim.Native.Nat.{ℕ, zero, suc, ◌+◌, ◌-◌, ◌*◌, ◌^◌, ◌<◌, ◌≤◌, max}
use native.Mathlib.Nat.{lt_irrefl, mul_comm, mul-le-mul_right}
use native.Mathlib.Omega.{arith}
use mathlib.Core.Path.{◌≡◌, refl, ap, sym, ◌∙◌, subst}
use mathlib.Core.Bool.{Bool}
use mathlib.Core.Logic.{◌⊎◌, inl, inr}
use mathlib.Core.List.{List}
use lib.IntN.{ℤ}
use lib.ListN.{length}
use Rattle.algebra.specs.Test.{le_or_lt}
use Rattle.algebra.specs.UnitDivide.{made-monic}
use Rattle.algebra.specs.Vec.{coef, topped}
use Rattle.tower.specs.Form.{one_words}
use Rattle.tower.specs.Levels.{El, Tower, group, ring, Ones, one_not_zero}
use Rattle.tower.specs.Ready.{Element, Positive}
use Rattle.tower.specs.Stands.{Stands, one_long, one_stands}
use Rattle.tower.specs.Store.{Put, kept-wide, put-kept}
use Rattle.tower.specs.Writing.{size, size-pos, write}
use Rattle.arithmetic.specs.Walk.{pick}
use Rattle.products.specs.Product.{TowerStands, Elements}
use Rattle.euclid.specs.Answer.{Answer, map}
use Rattle.euclid.specs.Gcd.{Made, wrap, nothing}
use Rattle.euclid.specs.Lazy.{Led, whole, nothing_linear, lazy_constant}
use Rattle.euclid.proofs.Lazy.{lazy_fuel, lazy_swap}
use Rattle.euclid.proofs.One.{inv-one}
use Rattle.euclid.specs.Towers.{Shown, level}
use Rattle.std.specs.Prelude.{Result, Ok, Err}
use Rattle.sequences.specs.declared.Stop.{Stop}
use Rattle.sequences.specs.declared.Stop.TheVariants.{Factor, Long}
use Rattle.sequences.specs.declared.Greatest.{Greatest}
use Rattle.sequences.specs.Gcds.{greatest}
use Rattle.sequences.specs.Rows.{DivideReady, DivideDone}
use Rattle.sequences.specs.Outcomes.{FollowReady, FollowDone}
use Rattle.sequences.specs.Gcds.{Sited, Upwards, Finds, MonicReady, MonicDone, TurnReady, TurnedBy, TurnDone, LedStands, Last, Onward, Sought, TurnsReady, TurnsDone}
use Rattle.sequences.proofs.PlaceLaws.{work≤inverse}
use Rattle.sequences.proofs.GcdPlaces.{sited_swap, sited_less, sited_acting, up_refl, up_trans, up_swap, up-worked}
use Rattle.sequences.proofs.GcdTurns.{divide_asks, follow_asks, turned_long, turned_up, turned_tower, turned_next, turned_shows, turned_over}

-- ---- one turn
-- the second and, of j coefficients, what follows it
pub record Stepped (i : ℕ) (d z : List ℕ) (p : ℕ) (e : List ℤ) (e-in : Bool) (ea fr fu gr gu n : ℕ) (p_pos : 0 < p) (t : Tower p d i)
    (answer : Answer (Shown p d i) (Made (El p d i) (Unit {0}))) (j : ℕ) (w v : List ℤ) (top : ℕ) : Type 0 where
  pub fewer : j < n
  pub up : Upwards i d fr fu gr gu w v top
  pub sited : Sited i d z p e e-in ea gr gu n fr fu j v top
  pub tower : TowerStands p p_pos d i t (pick e-in v e) ea
  pub sought : Sought p p_pos d i t answer gr gu n fr fu j v

module _ {i : ℕ} {d z : List ℕ} {p : ℕ} {e : List ℤ} {e-in : Bool} {ea fr fu m gr gu n : ℕ} {w : List ℤ} {top : ℕ} {p_pos : 0 < p} {t : Tower p d i}
    {answer : Answer (Shown p d i) (Made (El p d i) (Unit {0}))} (s : Sited i d z p e e-in ea fr fu m gr gu n w top)
    (tower : TowerStands p p_pos d i t (pick e-in w e) ea) (q : Sought p p_pos d i t answer fr fu m gr gu n w) (some : 0 < n) where
  ones : Ones p p_pos d i
  ones = record { p_two = s.two; degrees = s.positive.some }

  -- there is a second
  onward : Onward p p_pos d i t answer q.f gr gu n w
  onward = go q.then
    where
      go : Last p p_pos d i t answer q.f n ⊎ Onward p p_pos d i t answer q.f gr gu n w → Onward p p_pos d i t answer q.f gr gu n w
      go (inl y) = absurd (lt_irrefl 0 (omega (arith, y.none)))
      go (inr y) = y

  abbrev f : Led (El p d i) (Unit {0})
  f = q.f

  abbrev k : Led (El p d i) (Unit {0})
  k = onward.k

  sf : LedStands p p_pos d i t f fr fu (suc f.degree) w
  sf = record { count = refl; coefficients = q.stands.coefficients; inverse = q.stands.inverse; led = q.stands.led }

  sk : LedStands p p_pos d i t k gr gu (suc k.degree) w
  sk = record { count = refl; coefficients = onward.stands.coefficients; inverse = onward.stands.inverse; led = onward.stands.led }

  f_many : m ≡ suc f.degree
  f_many = q.stands.count

  k_many : n ≡ suc k.degree
  k_many = onward.stands.count

  k-low : n - 1 ≡ k.degree
  k-low = omega (arith, k_many)

  sited' : Sited i d z p e e-in ea fr fu (suc f.degree) gr gu (suc k.degree) w top
  sited' = subst (λ y. Sited i d z p e e-in ea fr fu (suc f.degree) gr gu y w top) k_many (subst (λ y. Sited i d z p e e-in ea fr fu y gr gu n w top) f_many s)

  fits : n ≤ m → k.degree ≤ f.degree
  fits h = omega (arith, f_many, k_many)

  divided' : {v : List ℤ} → DivideDone i d p e e-in ea gr (n - 1) gu w v fr m top → DivideDone i d p e e-in ea gr k.degree gu w v fr (suc f.degree) top
  divided' {v} y =
      subst (λ a. DivideDone i d p e e-in ea gr k.degree gu w v fr a top) f_many (subst (λ a. DivideDone i d p e e-in ea gr a gu w v fr m top) k-low y)

  pub turn_asks : TurnReady i d z p e e-in ea fr fu m gr gu n w top
  turn_asks = record {
    divide = λ h. (
      some,
      subst (λ a. DivideReady i d z p e e-in ea gr (n - 1) gu w fr a top) (sym f_many)
          (subst (λ a. DivideReady i d z p e e-in ea gr a gu w fr (suc f.degree) top) (sym k-low) (divide_asks sited' tower sf sk (fits h))),
    );
    follow = λ h v y. subst (λ a. FollowReady i d z p e e-in ea fr a fu v top) (sym k-low) (follow_asks sited' tower sf sk (fits h) (divided' y));
  }

  module _ {v : List ℤ} (c : Result ℕ Stop) (y : TurnDone i d p e e-in ea fr fu m gr gu n w v top c) where
    followed' : (x : TurnedBy i d p e e-in ea fr fu m gr gu n w v top c) → FollowDone i d p e e-in ea fr k.degree fu x.v v top c
    followed' x = subst (λ a. FollowDone i d p e e-in ea fr a fu x.v v top c) k-low x.followed

    pub turn_steps : (j : ℕ) → c ≡ Ok j → Stepped i d z p e e-in ea fr fu gr gu n p_pos t answer j w v top
    turn_steps j ec = go (le_or_lt n m)
      where
        go : (n ≤ m) ⊎ (m < n) → Stepped i d z p e e-in ea fr fu gr gu n p_pos t answer j w v top
        go (inl h) =
            let x = y.turned h in
            let next = turned_next sited' tower sf sk (fits h) (divided' x.divided) c (followed' x) onward.comes j ec in
            record {
              fewer = omega (arith, next.1, k_many);
              up = turned_up sited' tower sf sk (fits h) (divided' x.divided) c (followed' x);
              sited =
                  sited_swap (sited_less s j v (omega (arith, next.1, k_many, h))
                  (turned_long sited' tower sf sk (fits h) (divided' x.divided) c (followed' x)));
              tower = turned_tower sited' tower sf sk (fits h) (divided' x.divided) c (followed' x);
              sought = subst (λ a. Sought p p_pos d i t answer gr gu a fr fu j v) (sym k_many) next.0;
            }
        go (inr h) =
            let eq : c ≡ Ok m = (y.lower h).0 in
            let ej : j ≡ m = cc in
            let ev : v ≡ w = (y.lower h).1 in
            record {
              fewer = omega (arith, ej, h);
              up = up_refl i d fr fu gr gu top w v ev;
              sited = sited_swap (sited_less s j v (omega (arith, ej)) (rw ev refl));
              tower = subst (λ a. TowerStands p p_pos d i t (pick e-in a e) ea) (sym ev) tower;
              sought = subst (λ a. Sought p p_pos d i t answer gr gu n fr fu j a) (sym ev) (subst (λ a. Sought p p_pos d i t answer gr gu n fr fu a w) (sym ej) changed);
            }
          where
            lower : f.degree < k.degree
            lower = omega (arith, h, f_many, k_many)

            -- f has the lower degree
            changed : Sought p p_pos d i t answer gr gu n fr fu m w
            changed = record {
              f = k;
              stands = onward.stands;
              then = inr (record {
                k = f;
                stands = q.stands;
                comes =
                    onward.comes ∙ ap (map wrap)
                    (lazy_swap (level p p_pos d i t) (nothing (El p d i)) f k sf.led sk.led lower (nothing_linear (ring p p_pos d i t))
                    (one_not_zero p p_pos d i t ones) (inv-one p p_pos d i t ones) k.degree
                    ∙ lazy_fuel (level p p_pos d i t) (nothing (El p d i)) k.degree (suc f.degree) k f lower (omega arith));
              });
            }

    -- a remainder was taken
    taken : (A : Type 0) → ((j : ℕ) → c ≡ Ok j → A) → ((n ≤ m) → A) → A
    taken A next_one h = go (le_or_lt n m)
      where
        go : (n ≤ m) ⊎ (m < n) → A
        go (inl l) = h l
        go (inr l) = next_one m (y.lower l).0

    pub turn_shows : (l at : ℕ) → c ≡ Err (Factor l at) → Finds p p_pos d i t answer (Err (Factor l at)) v top × Upwards i d fr fu gr gu w v top
    turn_shows l at ec = taken _ (λ j en. let bad : ◌≡◌ {A = ℕ} 0 1 = cc in absurd (lt_irrefl 0 (omega arith))) (λ h.
        let x = y.turned h in (
          turned_shows sited' tower sf sk (fits h) (divided' x.divided) c (followed' x) onward.comes l at ec,
          turned_up sited' tower sf sk (fits h) (divided' x.divided) c (followed' x),
        ))

    pub turn_over : c ≡ Err Long → ⊥
    turn_over ec = taken ⊥ (λ j en. let bad : ◌≡◌ {A = ℕ} 0 1 = cc in lt_irrefl 0 (omega arith)) (λ h.
        let x = y.turned h in turned_over sited' tower sf sk (fits h) (divided' x.divided) c (followed' x) ec)

-- ---- the loop
module _ {i : ℕ} {d z : List ℕ} {p : ℕ} {e : List ℤ} {e-in : Bool} {ea fr fu m gr gu n : ℕ} {w : List ℤ} {top : ℕ}
    (r : TurnsReady i d z p e e-in ea fr fu m gr gu n w top) where
  module _ (some : 0 < n) where
    pub turns_asks : TurnReady i d z p e e-in ea fr fu m gr gu n w top
    turns_asks = turn_asks r.sited r.tower r.sought some

    module _ {v : List ℤ} (c : Result ℕ Stop) (y : TurnDone i d p e e-in ea fr fu m gr gu n w v top c) where
      stepped : (j : ℕ) → c ≡ Ok j → Stepped i d z p e e-in ea fr fu gr gu n r.p_pos r.t r.answer j w v top
      stepped j ec = turn_steps r.sited r.tower r.sought some c y j ec

      pub turns_fewer : (j : ℕ) → c ≡ Ok j → j < n
      turns_fewer j ec = (stepped j ec).fewer

      pub turns_next : (j : ℕ) → c ≡ Ok j → TurnsReady i d z p e e-in ea gr gu n fr fu j v top
      turns_next j ec =
          let x = stepped j ec in
          record { sited = x.sited; p_pos = r.p_pos; t = r.t; answer = r.answer; tower = x.tower; sought = x.sought }

      pub turns-after : (j : ℕ) → c ≡ Ok j → (u : List ℤ) (o : Result Greatest Stop) → TurnsDone i d p e e-in ea gr gu n fr fu j v u top o
          → TurnsDone i d p e e-in ea fr fu m gr gu n w u top o
      turns-after j ec u o l = record {
        frame = up_trans i d fr fu gr gu top w v u (stepped j ec).up (up_swap i d gr gu fr fu top v u l.frame);
        done = λ p_pos t answer tower sought.
            let x = turn_steps r.sited tower sought some c y j ec in
            l.done p_pos t answer x.tower x.sought;
      }

      pub turns_shows : (l at : ℕ) → c ≡ Err (Factor l at) → TurnsDone i d p e e-in ea fr fu m gr gu n w v top (Err (Factor l at))
      turns_shows l at ec = record {
        frame = (turn_shows r.sited r.tower r.sought some c y l at ec).1;
        done = λ p_pos t answer tower sought. (turn_shows r.sited tower sought some c y l at ec).0;
      }

      pub turns_over : c ≡ Err Long → ⊥
      turns_over ec = turn_over r.sited r.tower r.sought some c y ec

  -- ---- the second is a constant: the GCD is 1, in its row
  module _ (single : n ≡ 1) where
    row_ends : gr + size d i ≤ top
    row_ends = omega (arith, r.sited.second.row_below, ap (λ a. a * size d i) single)

    pub turns-ones : Element i d z w gr × Positive i d
    turns-ones = (record { low = r.sited.low; sized = r.sited.sized; inside = omega (arith, row_ends, r.sited.room) }, r.sited.positive)

    pub turns-one : {v : List ℤ} → Put gr (one_words d i) w v → TurnsDone i d p e e-in ea fr fu m gr gu n w v top (Ok (greatest gr 1))
    turns-one {v} put = record {
      frame = λ base a b c l h. kept-wide c (omega (arith, row_ends, h)) (put-kept (size d i) (one_long d i r.sited.positive) put);
      done = λ p_pos t answer tower sought.
          let y = onward r.sited tower sought (omega (arith, single)) in
          subst (λ a. Finds p p_pos d i t a (Ok (greatest gr 1)) v top)
          (sym (y.comes ∙ ap (map wrap) (lazy_constant (level p p_pos d i t) (nothing (El p d i)) y.k.degree sought.f y.k (omega (arith, single, y.stands.count)))))
          (gr, refl, omega (arith, row_ends), only p_pos t);
    }
      where
        only : (p_pos : 0 < p) (t : Tower p d i)
            → Elements p d i 1 (coef (group p p_pos d i).𝟘 1 (topped 0 tt (ring p p_pos d i t).𝟙)) v gr
        only p_pos t zero l =
            let here : gr ≡ gr + 0 * size d i = omega arith in
            subst (Stands p d i (ring p p_pos d i t).𝟙 v) here
            (one_stands p p_pos d i v gr t (record { p_two = r.sited.two; degrees = r.sited.positive.some }) w put)
        only p_pos t (suc j) l = absurd (lt_irrefl 0 (omega arith))

  -- ---- the end
  module _ (none : n ≡ 0) where
    -- there is no second
    last : {p_pos : 0 < p} {t : Tower p d i} {answer : Answer (Shown p d i) (Made (El p d i) (Unit {0}))} (q : Sought p p_pos d i t answer fr fu m gr gu n w)
        → Last p p_pos d i t answer q.f n
    last {p_pos} {t} {answer} q = go q.then
      where
        go : Last p p_pos d i t answer q.f n ⊎ Onward p p_pos d i t answer q.f gr gu n w → Last p p_pos d i t answer q.f n
        go (inl y) = y
        go (inr y) = absurd (lt_irrefl 0 (omega (arith, y.stands.count)))

    pub turns-monic : MonicReady i d z p e e-in ea fr fu m w top
    turns-monic =
        let f = r.sought.f in
        let o = (group p r.p_pos d i).𝟘 in
        record {
          some = λ l. record {
            acting = sited_acting r.sited r.p_pos r.t r.tower;
            u_below = r.sited.first.unit_below;
            c_below = r.sited.first.row_below;
            e_outside = r.sited.first.e_row;
            u_outside = r.sited.first.apart;
            v = f.unit;
            f = coef o (suc f.degree) (whole f);
            unit = r.sought.stands.inverse;
            row = λ j h. r.sought.stands.coefficients j (omega (arith, r.sought.stands.count));
          };
        }

    pub turns_end : {v : List ℤ} (o : Greatest) → MonicDone i d p e e-in ea fr fu m w v top o → TurnsDone i d p e e-in ea fr fu m gr gu n w v top (Ok o)
    turns_end {v} o y = record {
      frame = up-worked i d fr fu gr gu top (inl (omega arith)) r.sited.first.row_below (work≤inverse d i) (y.some many).frame;
      done = λ p_pos t answer tower sought.
          let f = sought.f in
          let count = sought.stands.count in
          let eo : o ≡ greatest fr (suc f.degree) = y.here ∙ ap (greatest fr) count in
          subst (λ a. Finds p p_pos d i t a (Ok o) v top) (sym (last sought).comes) (
            fr,
            ap Ok eo,
            omega (arith, r.sited.first.row_below, ap (λ a. a * size d i) count),
            λ j l.
                (y.some many).done p_pos t f.unit (coef (group p p_pos d i).𝟘 (suc f.degree) (whole f)) tower sought.stands.inverse
                (λ a b. sought.stands.coefficients a (omega (arith, count))) j (omega (arith, count))
                ∙ ap (write p d i) (sym (made-monic (ring p p_pos d i t) f.degree f.low f.top f.unit sought.stands.led j)),
          );
    }
      where
        many : 0 < m
        many = omega (arith, r.sought.stands.count)

-- ---- the loop, of which left turns are allowed yet: it began with the first pair in w₀, and the present pair's end is its end
pub record Turning (i : ℕ) (d z : List ℕ) (p : ℕ) (e : List ℤ) (e-in : Bool) (ea fr₀ fu₀ m₀ gr₀ gu₀ n₀ : ℕ) (w₀ : List ℤ)
    (top fr fu m gr gu n left : ℕ) (w : List ℤ) : Type 0 where
  pub ready : TurnsReady i d z p e e-in ea fr fu m gr gu n w top
  pub after : (v : List ℤ) (o : Result Greatest Stop) → TurnsDone i d p e e-in ea fr fu m gr gu n w v top o → TurnsDone i d p e e-in ea fr₀ fu₀ m₀ gr₀ gu₀ n₀ w₀ v top o
  pub few : n < left

module _ {i : ℕ} {d z : List ℕ} {p : ℕ} {e : List ℤ} {e-in : Bool} {ea fr fu m gr gu n : ℕ} {w : List ℤ} {top : ℕ}
    (r : TurnsReady i d z p e e-in ea fr fu m gr gu n w top) where
  -- a row has fewer coefficients than words
  pub turning_fits : max m n + 1 < 2 ^ 32
  turning_fits = omega (arith, words m, words n, r.sited.first.few, r.sited.second.few)
    where
      words : (k : ℕ) → k ≤ k * size d i
      words k = omega (arith, mul-le-mul_right k (size-pos d i), mul_comm (size d i) k)

  pub turning_start : {larger : ℕ} → larger ≡ max m n → Turning i d z p e e-in ea fr fu m gr gu n w top fr fu m gr gu n (larger + 1) w
  turning_start h = record { ready = r; after = λ v o y. y; few = omega (arith, h) }

module _ {i : ℕ} {d z : List ℕ} {p : ℕ} {e : List ℤ} {e-in : Bool} {ea fr₀ fu₀ m₀ gr₀ gu₀ n₀ : ℕ} {w₀ : List ℤ} {top fr fu m gr gu n left : ℕ} {w : List ℤ}
    (s : Turning i d z p e e-in ea fr₀ fu₀ m₀ gr₀ gu₀ n₀ w₀ top fr fu m gr gu n left w) where
  pub turning_left : 0 < left
  turning_left = omega (arith, s.few)

  module _ (some : 0 < n) {v : List ℤ} (c : Result ℕ Stop) (y : TurnDone i d p e e-in ea fr fu m gr gu n w v top c) where
    pub turning_next : (j : ℕ) → c ≡ Ok j → Turning i d z p e e-in ea fr₀ fu₀ m₀ gr₀ gu₀ n₀ w₀ top gr gu n fr fu j (left - 1) v
    turning_next j ec = record {
      ready = turns_next s.ready some c y j ec;
      after = λ u o l. s.after u o (turns-after s.ready some c y j ec u o l);
      few = omega (arith, turns_fewer s.ready some c y j ec, s.few);
    }

    pub turning_stops : (x : Stop) → c ≡ Err x → TurnsDone i d p e e-in ea fr₀ fu₀ m₀ gr₀ gu₀ n₀ w₀ v top (Err x)
    turning_stops (Factor l at) ec = s.after v (Err (Factor l at)) (turns_shows s.ready some c y l at ec)
    turning_stops Long ec = absurd (turns_over s.ready some c y ec)

-- the store is as long as before
pub turns_long : {i : ℕ} {d : List ℕ} {p : ℕ} {e : List ℤ} {e-in : Bool} {ea fr fu m gr gu n : ℕ} {w v : List ℤ} {top : ℕ} {o : Result Greatest Stop}
    → TurnsDone i d p e e-in ea fr fu m gr gu n w v top o → length v ≡ length w
turns_long y = (y.frame 0 (omega arith) (omega arith) (omega arith) (omega arith) (omega arith)).long

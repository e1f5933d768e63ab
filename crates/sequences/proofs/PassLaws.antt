-- The sequence of an inverse at level h + 1 in the words of the code, from two neighbours on.
--
-- pass_asks, pass_follows == what a remainder and its end ask for;  pass_fewer, pass_next, pass_shows, pass_over == what the remainder comes to
-- close_asks, closes      == the end
-- Passing                 == what holds wherever the loop's test is reached
-- passing-..              == the same from there;  passes_fit, passes_long == the numbers fit, and the store is as long as before
use Prim.Native.Nat.{ℕ, suc, ◌+◌, ◌-◌, ◌*◌, ◌<◌, ◌≤◌}
use native.Mathlib.Nat.{lt_irrefl, mul-le-mul_left}
use native.Mathlib.Omega.{arith}
use mathlib.Core.Path.{◌≡◌, sym, ◌∙◌, subst}
use mathlib.Core.Bool.{Bool}
use mathlib.Core.Logic.{◌⊎◌, inl, inr}
use mathlib.Core.List.{List}
use lib.IntN.{ℤ}
use lib.ListN.{length}
use Rattle.algebra.specs.Test.{le_or_lt}
use Rattle.tower.specs.Levels.{degree}
use Rattle.tower.specs.Writing.{size, size-pos}
use Rattle.arithmetic.specs.Rows.{block_inside}
use Rattle.std.specs.Prelude.{Result, Ok, Err}
use Rattle.sequences.specs.declared.Stop.{Stop}
use Rattle.sequences.specs.declared.Stop.TheVariants.{Factor, Long}
use Rattle.sequences.specs.declared.Led.{Led}
use Rattle.sequences.specs.Rows.{ScaleRowDone, LoseDone, DivideDone}
use Rattle.sequences.specs.Starts.{FinishDone}
use Rattle.sequences.specs.Outcomes.{RunDone, FollowReady, FollowDone}
use Rattle.sequences.specs.Passes.{under_of, next_of, Looping, Figures, Underway, PassesDone, RemainderReady, RemainderDone, CloseReady, CloseDone}
use Rattle.sequences.proofs.RunLaws.{run_room}
use Rattle.sequences.proofs.StateLaws.{loop_few, loop_counts, loop_divide, loop_lose, loop_follow, loop_fewer, loop_next, loop_shows, loop_over}
use Rattle.sequences.proofs.EndLaws.{end_factor_asks, end_factor_finish, end_factor, end_inverse_asks, end_inverse-finish, end_inverse}

module _ {h g s : ℕ} {d z : List ℕ} {p : ℕ} {e : List ℤ} {e-in : Bool} {ea : ℕ} {x : List ℤ} {x_in : Bool} {a : ℕ} {w₀ : List ℤ} {top under next : ℕ}
    (q : Figures h d ea top g s under next) (f k : Led) {w : List ℤ}
    (l : Looping h d z p e e-in ea x x_in a w₀ top f.row f.carried f.unit f.count k.row k.carried k.unit k.count w) where
  abbrev eg : g ≡ degree d h
  eg = q.degree-is

  abbrev es : s ≡ size d h
  es = q.size_is

  abbrev eu : under ≡ under_of d h ea
  eu = q.under-is

  abbrev en : next ≡ next_of d h top
  en = q.next_is

  -- the slots lie in the store
  slots_fit : next_of d h top ≤ length w
  slots_fit = omega (arith, l.ready.room, run_room l.ready, l.frame.long)

  pub slots_wide : g + 2 ≤ length w
  slots_wide = rw eg (omega (arith, mul-le-mul_left (degree d h + 1) (size-pos d h), slots_fit))

  -- the level's numbers for the code's
  divided-there : {v : List ℤ} → DivideDone h d p e e-in under k.row (k.count - 1) k.unit w v f.row f.count next
      → DivideDone h d p e e-in (under_of d h ea) k.row (k.count - 1) k.unit w v f.row f.count (next_of d h top)
  divided-there y = rw (eu, en) at y

  scaled_there : {n u c : ℕ} {v : List ℤ} → ScaleRowDone h n d p e e-in under u w v c next → ScaleRowDone h n d p e e-in (under_of d h ea) u w v c (next_of d h top)
  scaled_there y = rw (eu, en) at y

  module _ (more : 1 < k.count) where
    pass_counts : (k.count < f.count) × (f.count ≤ g + 1)
    pass_counts = rw eg (loop_counts l more)

    pub pass_asks : RemainderReady h g s d z p e e-in under f k w next
    pass_asks =
        let row = block_inside (k.count - 1) (degree d h + 1) (size d h) (omega (arith, loop_counts l more)) in
        record {
          some = omega (arith, more);
          fewer = omega (arith, pass_counts);
          most = omega (arith, pass_counts);
          few = slots_wide;
          inside = rw es (omega (arith, row, l.laid.fr_high, slots_fit));
          divide = rw (eu, en) (loop_divide l more);
          lose = λ v y. rw (eu, en, eg, es) (loop_lose l more (divided-there y));
        }

    module _ {w₂ : List ℤ} (m : RemainderDone h g s d p e e-in under f k w w₂ next) where
      lost-there : {v : List ℤ}
          → LoseDone h d p e e-in under (f.row + (k.count - 1) * s) (f.count - (k.count - 1)) k.carried (g + 2 - f.count) v w₂ f.carried next
          → LoseDone h d p e e-in (under_of d h ea) (f.row + (k.count - 1) * size d h) (f.count - (k.count - 1)) k.carried (degree d h + 2 - f.count)
          v w₂ f.carried (next_of d h top)
      lost-there y = rw (eu, en, eg, es) at y

      pub pass_follows : FollowReady h d z p e e-in under f.row (k.count - 1) f.unit w₂ next
      pass_follows = rw (eu, en) (loop_follow l more (divided-there m.divided) (lost-there m.lost))

      module _ {w₃ : List ℤ} (c : Result ℕ Stop) (follow : FollowDone h d p e e-in under f.row (k.count - 1) f.unit w₂ w₃ next c) where
        followed : FollowDone h d p e e-in (under_of d h ea) f.row (k.count - 1) f.unit w₂ w₃ (next_of d h top) c
        followed = rw (eu, en) at follow

        pub pass_fewer : (n : ℕ) → c ≡ Ok n → n < k.count
        pass_fewer = loop_fewer l more (divided-there m.divided) (lost-there m.lost) c followed

        pub pass_next : (n : ℕ) → c ≡ Ok n → Looping h d z p e e-in ea x x_in a w₀ top k.row k.carried k.unit k.count f.row f.carried f.unit n w₃
        pass_next = loop_next l more (divided-there m.divided) (lost-there m.lost) c followed

        pub pass_shows : (i at : ℕ) → c ≡ Err (Factor i at) → RunDone (suc h) d p e e-in ea x x_in a w₀ w₃ top (Err (Factor i at))
        pass_shows = loop_shows l more (divided-there m.divided) (lost-there m.lost) c followed

        pub pass_over : c ≡ Err Long → ⊥
        pass_over = loop_over l more (divided-there m.divided) (lost-there m.lost) c followed

  -- ---- the end
  module _ (last : k.count ≤ 1) where
    carried_there : {v : List ℤ} → ScaleRowDone h g d p e e-in under k.unit w v k.carried next
        → ScaleRowDone h (degree d h) d p e e-in (under_of d h ea) k.unit w v k.carried (next_of d h top)
    carried_there y = rw (eu, en, eg) at y

    pub close_asks : CloseReady h g s d z p e e-in under f k w next
    close_asks = record {
      low = omega (arith, l.ready.low);
      factor = λ none. record {
        behind = omega (arith, l.laid.fr_low);
        scale = rw (eu, en) (end_factor_asks l none);
        finish = λ v y. rw (eg, es) (end_factor_finish l none (scaled_there y));
      };
      inverse = λ some. record {
        behind = omega (arith, l.laid.kc_low);
        scale = rw (eu, en, eg) (end_inverse_asks l some last);
        finish = λ v y. rw (eg, es) (end_inverse-finish l some last (carried_there y));
      };
    }

    module _ {w' : List ℤ} where
      factor_there : {v : List ℤ} → FinishDone h f.count g d v w' f.row → FinishDone h f.count (degree d h) d v w' f.row
      factor_there y = rw eg at y

      inverse-there : {v : List ℤ} → FinishDone h g g d v w' k.carried → FinishDone h (degree d h) (degree d h) d v w' k.carried
      inverse-there y = rw eg at y

      pub closes : (r : Result ℕ Stop) → CloseDone h g d p e e-in under f k w w' next r → RunDone (suc h) d p e e-in ea x x_in a w₀ w' top r
      closes r y = go (le_or_lt 1 k.count)
        where
          Ends : Result ℕ Stop → Type 0
          Ends o = RunDone (suc h) d p e e-in ea x x_in a w₀ w' top o

          go : (1 ≤ k.count) ⊎ (k.count < 1) → RunDone (suc h) d p e e-in ea x x_in a w₀ w' top r
          go (inl c) =
              let some : ¬ (k.count ≡ 0) = λ none. lt_irrefl 0 (omega (arith, c, none)) in
              let m = y.inverse some in
              subst Ends (sym m.0) (end_inverse l some last (carried_there m.1.scaled) (inverse-there m.1.finished))
          go (inr c) =
              let none : k.count ≡ 0 = omega (arith, c) in
              let m = y.factor none in
              subst Ends (sym m.0) (end_factor l none (scaled_there m.1.scaled) (factor_there m.1.finished))

-- ---- the loop
module _ (h g s : ℕ) (d z : List ℕ) (p : ℕ) (e : List ℤ) (e-in : Bool) (under : ℕ) (f₀ k₀ : Led) (w₀ : List ℤ) (next : ℕ) where
  abbrev Before : Type 0
  Before = Underway h g s d z p e e-in under f₀ k₀ w₀ next

  -- left remainders are allowed yet, and whatever inverse was underway has come to f and k
  pub record Passing (f k : Led) (left : ℕ) (w : List ℤ) : Type 0 where
    pub few : k.count ≤ left
    pub on : (u : Before)
        → Looping h d z p e e-in u.ea u.x u.x_in u.a u.w₀ u.top f.row f.carried f.unit f.count k.row k.carried k.unit k.count w

module _ {h g s : ℕ} {d z : List ℕ} {p : ℕ} {e : List ℤ} {e-in : Bool} {under : ℕ} {f₀ k₀ : Led} {w₀ : List ℤ} {next : ℕ}
    (u : Underway h g s d z p e e-in under f₀ k₀ w₀ next) where
  pub passes_fit : g + 2 ≤ length w₀
  passes_fit = slots_wide u.figures f₀ k₀ u.looping

  pub passes_long : {w : List ℤ} {r : Result ℕ Stop} → PassesDone h g s d z p e e-in under f₀ k₀ w₀ w next r → length w ≡ length w₀
  passes_long y = (y.done u).frame.long ∙ sym u.looping.frame.long

  pub passing_start : Passing h g s d z p e e-in under f₀ k₀ w₀ next f₀ k₀ (g + 2) w₀
  passing_start = record { few = omega (arith, loop_few u.looping, u.figures.degree-is); on = λ v. v.looping }

  module _ {f k : Led} {left : ℕ} {w : List ℤ} (l : Passing h g s d z p e e-in under f₀ k₀ w₀ next f k left w) where
    module _ (more : 1 < k.count) where
      pub passing_asks : RemainderReady h g s d z p e e-in under f k w next
      passing_asks = pass_asks u.figures f k (l.on u) more

      module _ {w₂ : List ℤ} (m : RemainderDone h g s d p e e-in under f k w w₂ next) where
        pub passing_follows : FollowReady h d z p e e-in under f.row (k.count - 1) f.unit w₂ next
        passing_follows = pass_follows u.figures f k (l.on u) more m

        module _ {w₃ : List ℤ} (c : Result ℕ Stop) (follow : FollowDone h d p e e-in under f.row (k.count - 1) f.unit w₂ w₃ next c) where
          pub passing_fewer : (n : ℕ) → c ≡ Ok n → n < k.count
          passing_fewer = pass_fewer u.figures f k (l.on u) more m c follow

          pub passing_next : (n : ℕ) → c ≡ Ok n
              → Passing h g s d z p e e-in under f₀ k₀ w₀ next k (record { row = f.row; carried = f.carried; unit = f.unit; count = n }) (left - 1) w₃
          passing_next n ec = record {
            few = omega (arith, passing_fewer n ec, l.few);
            on = λ v. pass_next v.figures f k (l.on v) more m c follow n ec;
          }

          pub passing_stops : (x : Stop) → c ≡ Err x → PassesDone h g s d z p e e-in under f₀ k₀ w₀ w₃ next (Err x)
          passing_stops (Factor i at) ec = record { done = λ v. pass_shows v.figures f k (l.on v) more m c follow i at ec }
          passing_stops Long ec = absurd (pass_over u.figures f k (l.on u) more m c follow ec)

    module _ (last : k.count ≤ 1) where
      pub passing_closes : CloseReady h g s d z p e e-in under f k w next
      passing_closes = close_asks u.figures f k (l.on u) last

      pub passing_ends : {w' : List ℤ} (r : Result ℕ Stop) → CloseDone h g d p e e-in under f k w w' next r
          → PassesDone h g s d z p e e-in under f₀ k₀ w₀ w' next r
      passing_ends r y = record { done = λ v. closes v.figures f k (l.on v) last r y }

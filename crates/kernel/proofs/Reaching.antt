-- Laws of what an inverse gives, from what the sequence came to.
--
-- number-ready, number-some == at level 0: the sequence may run in a word of its own, and r and f have words
-- number-inverse            == what it gives there where it ends;  number-stop, number-stopped == where it stopped
-- ended-ready, ended_given == above level 0: the answer's words may be copied out, and what the call gives then;  work-room == the words to be cleared
use Rattle.kernel.proofs.Inverting.{τ, M, A, r-length, f-length, inverse_done, inverse_shown, inverse_endless, Worked}
use Rattle.kernel.proofs.Inverting.{run-ready, lent-some, work-nothing, number_done, number_level, number_word, number_shown, number_long}
use Rattle.kernel.proofs.Shapes.{size-found, level-size}
use Rattle.kernel.proofs.Showing.{Inverts, Shows, shows_level, shows_few, reached_inverse, reached_divisor, reached_endless}
use Rattle.kernel.specs.Answered.{factor_buffer, tower_in}
use Rattle.kernel.specs.Calls.{size_of}
use Rattle.kernel.specs.Inverses.{inverse_number}
use Rattle.kernel.specs.Meaning.{ones}
use Rattle.kernel.specs.Parts.{NumberReady, NumberGiven, StopReady, StopGiven, EndedReady, EndedGiven}
use Rattle.kernel.specs.Promises.{InverseGiven}
use Rattle.kernel.specs.Shape.{ShapeOf}
use Rattle.kernel.specs.declared.Answer.{Answer as CallAnswer}
use Rattle.kernel.specs.declared.Answer.TheVariants.{Done, Factor, Refused}
use Rattle.kernel.specs.declared.shape.Shape.{Shape}
use Rattle.euclid.specs.Answer.{Answer}
use Rattle.euclid.specs.Towers.{Shown}
use Rattle.sequences.specs.Outcomes.{Above, InvertReady, InvertDone}
use Rattle.sequences.specs.declared.Stop.{Stop}
use Rattle.sequences.specs.declared.Stop.TheVariants.{Factor as FactorOf, Long}
use Rattle.std.specs.Prelude.{Result, Ok, Err}
use Rattle.residue.specs.Word.{num}
use Rattle.tower.specs.Form.{seg, copies}
use Rattle.tower.specs.Levels.{El, Tower}
use Rattle.tower.specs.Limits.{p_positive, degrees_of}
use Rattle.tower.specs.Store.{Put}
use Rattle.tower.specs.Writing.{size, size-zero}
use mathlib.Core.Path.{◌≡◌, refl, sym, ◌∙◌, subst₂, subst₃}
use mathlib.Core.Bool.{false}
use mathlib.Core.List.{List, [], ◌∷◌}
use Prim.Native.Nat.{ℕ, ◌+◌, ◌<◌, ◌≤◌}
use native.Mathlib.Omega.{arith}
use lib.IntN.{ℤ, pos}
use lib.ListN.{length, get_or}

-- ---- level 0
module _ {p n : ℤ} {e t c r f : List ℤ} (h : NumberReady p n e t c r f) (s : Shape) (is : ShapeOf n e s) (q : ℕ) (eq : q ≡ num p) where
  pub number-ready : (w : List ℤ) → length w ≡ 1 → InvertReady 0 s.degrees s.sizes q t false 0 c false 0 w 0 1
  number-ready w one = record {
    run = run-ready p n e t c r f h.v h.passed s is q eq 0 (sym h.level) w 1 (omega (arith, work-nothing s.degrees 0 refl));
    c_below = omega (arith, size-zero s.degrees);
  }

  pub number-some : (0 < length r) × (0 < length f)
  number-some = lent-some p n e t c r f h.v h.passed s is q eq

  -- it has run: w are the words of its store, o what came of it
  module _ (w₀ w : List ℤ) (o : Result (Unit {0}) Stop) (g : InvertDone 0 s.degrees q t false 0 c false 0 w₀ w 0 1 o) where
    level-none : s.levels ≡ 0
    level-none = is.levels ∙ h.level

    pub number-inverse : o ≡ Ok tt → (r' : List ℤ) → Put 0 (seg 0 1 w) r r' → NumberGiven p n e t c r f Done r' f
    number-inverse u r' put = record { given = λ v passed. number_done p n e t c r f v passed s is q eq level-none w₀ w o g u r' put }

    number-fits : length w ≡ 1 → (l at : ℕ) → o ≡ Err (FactorOf l at) → StopReady (FactorOf l at) s w f
    number-fits one l at u =
        let level = number_level p n e t c r f h.v h.passed s is q eq level-none w₀ w o g l at u in
        let word = number_word p n e t c r f h.v h.passed s is q eq level-none w₀ w o g l at u in
        (omega (arith, level), omega (arith, word.0, word.1), omega (arith, word.1, number-some.1))

    -- where it stopped: a factor's word may be shown, and what the call gives then
    pub number-stop : length w ≡ 1 → (stop : Stop) → o ≡ Err stop → StopReady stop s w f
    number-stop one (FactorOf l at) u = number-fits one l at u
    number-stop one Long u = tt

    pub number-stopped : (stop : Stop) → o ≡ Err stop → (k : CallAnswer) (f' : List ℤ) → StopGiven stop s w f k f' → NumberGiven p n e t c r f k r f'
    number-stopped (FactorOf l at) u k f' G =
        record { given = λ v passed. rw G.0 (number_shown p n e t c r f v passed s is q eq level-none w₀ w o g l at u f' G.1) }
    number-stopped Long u k f' G = record { given = λ v passed. rw (G.0, G.1) (number_long p n e t c r f v passed s is q eq level-none w₀ w o g u) }

-- ---- above level 0
module _ {p n : ℤ} {e t c r f v : List ℤ} {passed : inverse_number p n e t c r f v ≡ 0} (R : Worked p n e t c r f v passed) where
  abbrev d : List ℕ
  d = degrees_of e

  abbrev p_pos : 0 < num p
  p_pos = p_positive p (M p n e t c r f v passed)

  abbrev θ : Tower (num p) d (num n)
  θ = tower_in p n e t (M p n e t c r f v passed)

  abbrev X : Answer (Shown (num p) d (num n)) (El (num p) d (num n))
  X = A p n e t c r f v passed

  pub work-room : R.k ≤ length R.w
  work-room = R.clears.0

  module _ (at : ℕ) (u : R.o ≡ Ok at) where
    inverse_reached : Inverts (num p) p_pos d (num n) θ R.w X at × Above d (num n) (size d (num n)) at 0
    inverse_reached = reached_inverse (num p) p_pos d (num n) θ R.w 0 X R.o at R.reached u

    size_here : R.s.size ≡ size_of n e
    size_here = size-found R.is

    run_inside : (at + R.s.size ≤ length R.w) × (0 + R.s.size ≤ length r)
    run_inside = (omega (arith, inverse_reached.1.high, size_here, R.inside), omega (arith, size_here, r-length p n e t c r f v passed))

    run_given : (r' : List ℤ) → Put 0 (seg at R.s.size R.w) r r' → (v' : List ℤ) → Put 0 (copies R.k (pos 0 ∷ [])) R.w v'
        → InverseGiven p n e t c r f v Done r' f v'
    run_given r' put v' clear = inverse_done p n e t c r f v passed R.w v' (R.clears.1 v' clear) at R.s.size inverse_reached.0 size_here r' put

  module _ (l at : ℕ) (u : R.o ≡ Err (FactorOf l at)) where
    divisor_reached : Shows (num p) p_pos d (num n) θ R.w X l at × Above d (num n) (size d l) at 0
    divisor_reached = reached_divisor (num p) p_pos d (num n) θ R.w 0 X R.o l at R.reached u

    run-level : l < 5
    run-level = omega (arith, shows_level (num p) p_pos d (num n) θ R.w l at divisor_reached.0, R.is.levels, R.is.known.low)

    module _ (j : ℕ) (ej : j ≡ get_or R.s.sizes l 0) where
      words_are : j ≡ size d l
      words_are = level-size R.is l (omega (arith, run-level)) j ej

      run_room : (at + j ≤ length R.w) × (j ≤ length f)
      run_room = (
        omega (arith, divisor_reached.1.high, words_are, R.inside),
        omega (
          arith,
          words_are,
          shows_few (num p) p_pos d (num n) θ R.w l at divisor_reached.0 (ones p n e (τ p n e t c r f v passed).range),
          f-length p n e t c r f v passed,
        ),
      )

      run_shown : (f' : List ℤ) → f' ≡ factor_buffer f (seg at j R.w) → (v' : List ℤ) → Put 0 (copies R.k (pos 0 ∷ [])) R.w v'
          → InverseGiven p n e t c r f v (Factor l) r f' v'
      run_shown f' ef v' clear = inverse_shown p n e t c r f v passed R.w v' (R.clears.1 v' clear) l at j divisor_reached.0 words_are f' ef

  run_endless : R.o ≡ Err Long → (v' : List ℤ) → Put 0 (copies R.k (pos 0 ∷ [])) R.w v' → InverseGiven p n e t c r f v (Refused 11) r f v'
  run_endless u v' clear =
      inverse_endless p n e t c r f v passed R.w v' (R.clears.1 v' clear) (reached_endless (num p) p_pos d (num n) θ R.w 0 X R.o R.reached u)

  -- by what it came to: the answer's words may be copied out, and what the call gives then
  ready_by : (o : Result ℕ Stop) → R.o ≡ o → EndedReady o R.s R.w r f
  ready_by (Ok at) u = ((run_inside at u).0, omega (arith, (run_inside at u).1))
  ready_by (Err (FactorOf l at)) u = let room = run_room l at u (get_or R.s.sizes l 0) refl in (run-level l at u, room.0, room.1)
  ready_by (Err Long) u = tt

  given_by : (o : Result ℕ Stop) → R.o ≡ o → (a : CallAnswer) (r' f' : List ℤ) → EndedGiven o R.s R.w r f a r' f'
      → (v' : List ℤ) → Put 0 (copies R.k (pos 0 ∷ [])) R.w v' → InverseGiven p n e t c r f v a r' f' v'
  given_by (Ok at) u a r' f' (ea, put, ef) v' clear = subst₂ (λ x y. InverseGiven p n e t c r f v x r' y v') (sym ea) (sym ef) (run_given at u r' put v' clear)
  given_by (Err (FactorOf l at)) u a r' f' (er, (ea, ef)) v' clear =
      subst₂ (λ x y. InverseGiven p n e t c r f v x y f' v') (sym ea) (sym er) (run_shown l at u (get_or R.s.sizes l 0) refl f' ef v' clear)
  given_by (Err Long) u a r' f' (er, (ea, ef)) v' clear = subst₃ (λ x y z. InverseGiven p n e t c r f v x y z v') (sym ea) (sym er) (sym ef) (run_endless u v' clear)

  pub ended-ready : EndedReady R.o R.s R.w r f
  ended-ready = ready_by R.o refl

  pub ended_given : (a : CallAnswer) (r' f' : List ℤ) → EndedGiven R.o R.s R.w r f a r' f'
      → (v' : List ℤ) → Put 0 (copies R.k (pos 0 ∷ [])) R.w v' → InverseGiven p n e t c r f v a r' f' v'
  ended_given = given_by R.o refl

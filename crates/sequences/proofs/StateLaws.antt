-- Laws of the loop of an inverse at level h + 1, in the counts of the code.
--
-- loop_few, loop_counts == the numbers;  loop_divide, loop_lose, loop_follow == what a turn asks for
-- loop_fewer     == the remainder has fewer coefficients than the divisor
-- loop_next, loop_shows, loop_over == the next turn; a factor of a level below; number 11 is not met
use Prim.Native.Nat.{ℕ, suc, ◌+◌, ◌-◌, ◌*◌, ◌<◌, ◌≤◌}
use native.Mathlib.Nat.{lt_irrefl}
use native.Mathlib.Omega.{arith}
use mathlib.Core.Path.{◌≡◌, ap₂, sym, subst}
use mathlib.Core.Bool.{Bool}
use mathlib.Core.Logic.{◌⊎◌, inl, inr}
use mathlib.Core.List.{List}
use lib.IntN.{ℤ}
use Rattle.algebra.specs.Ring.{CRing}
use Rattle.algebra.specs.Vec.{Vec, coef}
use Rattle.algebra.specs.Shape.{Shape, null, lead, strip, Stripped, strip_ok}
use Rattle.tower.specs.Levels.{degree, El, is_zero, group, zero_test, ring}
use Rattle.tower.specs.Writing.{size}
use Rattle.tower.specs.Store.{Kept}
use Rattle.tower.specs.Work.{inverse_work}
use Rattle.arithmetic.specs.Rows.{block_inside}
use Rattle.euclid.specs.Answer.{Answer}
use Rattle.euclid.specs.Towers.{Shown, inv}
use Rattle.euclid.proofs.Towers.{good}
use Rattle.euclid.specs.Lazy.{Led, rest}
use Rattle.std.specs.Prelude.{Result, Ok, Err}
use Rattle.sequences.specs.declared.Stop.{Stop}
use Rattle.sequences.specs.declared.Stop.TheVariants.{Factor, Long}
use Rattle.sequences.specs.Rows.{DivideReady, DivideDone, LoseReady, LoseDone}
use Rattle.sequences.specs.Outcomes.{RunReady, RunDone, Reached, FollowReady, FollowDone, Followed, Follows}
use Rattle.sequences.specs.Passes.{under_of, next_of, level_of, Stood, Going, Zero, Looping}
use Rattle.sequences.proofs.AnswerLaws.{follows_next, follows_shows, follows_over}
use Rattle.sequences.proofs.PlaceLaws.{laid_swap}
use Rattle.sequences.proofs.TurnLaws.{turn-next, turn_shown, turn-some, turn_factor}
use Rattle.sequences.proofs.RunLaws.{run_done, shown_above}
use Rattle.sequences.proofs.LoopLaws.{turn-divide, turn_lose, turn-follow, turn_frame, turn_followed, turn-keeps, turn_stands}

-- k has no more coefficients than the modulus
pub loop_few : {h : ℕ} {d z : List ℕ} {p : ℕ} {e : List ℤ} {e-in : Bool} {ea : ℕ} {x : List ℤ} {x_in : Bool} {a : ℕ} {w₀ : List ℤ} {top : ℕ}
    {fr fc fu fn kr kc ku kn : ℕ} {w : List ℤ} → Looping h d z p e e-in ea x x_in a w₀ top fr fc fu fn kr kc ku kn w → kn ≤ degree d h + 1
loop_few {h} {d} {fr = fr} {fc = fc} {fu = fu} {fn = fn} {kr = kr} {kc = kc} {ku = ku} {kn = kn} {w = w} s = go s.state
  where
    go : Going s.ready fr fc fu fn kr kc ku kn w ⊎ Zero s.ready fr fc fu fn kn w → kn ≤ degree d h + 1
    go (inl y) = omega (arith, y.k_count, y.turning.falls, y.turning.most)
    go (inr y) = omega (arith, y.none)

module _ {h : ℕ} {d z : List ℕ} {p : ℕ} {e : List ℤ} {e-in : Bool} {ea : ℕ} {x : List ℤ} {x_in : Bool} {a : ℕ} {w₀ : List ℤ} {top : ℕ}
    {fr fc fu fn kr kc ku kn : ℕ} {w : List ℤ} (s : Looping h d z p e e-in ea x x_in a w₀ top fr fc fu fn kr kc ku kn w) (more : 1 < kn) where
  abbrev r : RunReady (suc h) d z p e e-in ea x x_in a w₀ top
  r = s.ready

  -- there is a remainder to take
  go : Going r fr fc fu fn kr kc ku kn w
  go = open_up s.state
    where
      open_up : Going r fr fc fu fn kr kc ku kn w ⊎ Zero r fr fc fu fn kn w → Going r fr fc fu fn kr kc ku kn w
      open_up (inl y) = y
      open_up (inr y) = absurd (lt_irrefl 0 (omega (arith, y.none)))

  abbrev f : Led (El p d h) (Vec (El p d h) (degree d h))
  f = go.f

  abbrev k : Led (El p d h) (Vec (El p d h) (degree d h))
  k = go.k

  some : 1 ≤ k.degree
  some = omega (arith, go.k_count)

  pub loop_counts : (kn < fn) × (fn ≤ degree d h + 1)
  loop_counts = (
    omega (arith, go.f_count, go.k_count, go.turning.falls),
    omega (arith, go.f_count, go.turning.most),
  )

  -- the code's numbers
  k-low : kn - 1 ≡ k.degree
  k-low = omega (arith, go.k_count)

  quots-is : fn - (kn - 1) ≡ suc f.degree - k.degree
  quots-is = omega (arith, go.f_count, go.k_count, loop_counts)

  lows-is : degree d h + 2 - fn ≡ suc (degree d h) - f.degree
  lows-is = omega (arith, go.f_count)

  pub loop_divide : DivideReady h d z p e e-in (under_of d h ea) kr (kn - 1) ku w fr fn (next_of d h top)
  loop_divide = rw (go.f_count, k-low) (turn-divide r go.turning some s.laid s.frame go.f_stands go.k_stands)

  module _ {w₁ : List ℤ} (divided : DivideDone h d p e e-in (under_of d h ea) kr (kn - 1) ku w w₁ fr fn (next_of d h top)) where
    divided' : DivideDone h d p e e-in (under_of d h ea) kr k.degree ku w w₁ fr (suc f.degree) (next_of d h top)
    divided' = rw (go.f_count, k-low) at divided

    pub loop_lose : LoseReady h d z p e e-in (under_of d h ea) (fr + (kn - 1) * size d h) (fn - (kn - 1)) kc (degree d h + 2 - fn) w₁ fc (next_of d h top)
    loop_lose = rw (quots-is, lows-is, k-low) (turn_lose r go.turning some s.laid s.frame go.f_stands go.k_stands divided')

    module _ {w₂ : List ℤ}
        (lose : LoseDone h d p e e-in (under_of d h ea) (fr + (kn - 1) * size d h) (fn - (kn - 1)) kc (degree d h + 2 - fn) w₁ w₂ fc (next_of d h top)) where
      lose' : LoseDone h d p e e-in (under_of d h ea) (fr + k.degree * size d h) (suc f.degree - k.degree) kc (suc (degree d h) - f.degree) w₁ w₂ fc (next_of d h top)
      lose' = rw (quots-is, lows-is, k-low) at lose

      pub loop_follow : FollowReady h d z p e e-in (under_of d h ea) fr (kn - 1) fu w₂ (next_of d h top)
      loop_follow = rw k-low (turn-follow r go.turning some s.laid s.frame go.f_stands go.k_stands divided' lose')

      module _ {w₃ : List ℤ} (c : Result ℕ Stop) (follow : FollowDone h d p e e-in (under_of d h ea) fr (kn - 1) fu w₂ w₃ (next_of d h top) c) where
        follow' : FollowDone h d p e e-in (under_of d h ea) fr k.degree fu w₂ w₃ (next_of d h top) c
        follow' = rw k-low at follow

        loop_frame : Kept top (inverse_work d (suc h)) w₀ w₃
        loop_frame = turn_frame r go.turning some s.laid s.frame go.f_stands go.k_stands divided' lose' c follow'

        -- what the remainder is, and what its leading coefficient's inverse is
        abbrev o : El p d h
        o = (group p r.p_pos d h).𝟘

        abbrev R : CRing
        R = ring p r.p_pos d h r.t.0

        abbrev free : ℕ
        free = fr + k.degree * size d h

        abbrev On : Shape (El p d h) → Type 0
        On y = Followed p r.p_pos d h r.t.0 f.unit y c w₂ w₃ free fu

        abbrev answer : El p d h → Answer (Shown p d h) (El p d h)
        answer y = inv p r.p_pos d h r.t.0 (R.◌⊗◌ f.unit y)

        abbrev By : ℕ → El p d h → Type 0
        By n y = Follows p r.p_pos d h r.t.0 f.unit n (answer y) c w₃ free fu

        kept : Stood p r.p_pos d h k kr kc ku w₃
        kept = turn-keeps r go.turning some s.laid s.frame go.f_stands go.k_stands divided' lose' c follow'

        -- by cases on the remainder
        module _ (A : Type 0) (zeros : ((n : ℕ) → coef o k.degree (rest R f k) n ≡ o) → c ≡ Ok 0 → A)
            (on : (n : ℕ) (u : Vec (El p d h) n) (y : El p d h) → Stripped o k.degree (rest R f k) (lead n u y) → By n y → A) where
          by_shape : (y : Shape (El p d h)) → Stripped o k.degree (rest R f k) y → On y → A
          by_shape null st q = zeros st q.0
          by_shape (lead n u y) st q = on n u y st q

          by_cases : A
          by_cases =
              by_shape (strip (is_zero p d h) k.degree (rest R f k)) (strip_ok (zero_test p r.p_pos d h) k.degree (rest R f k))
              (turn_followed r go.turning some s.laid s.frame go.f_stands go.k_stands divided' lose' c follow')

        -- the remainder has fewer coefficients than k
        pub loop_fewer : (n : ℕ) → c ≡ Ok n → n < kn
        loop_fewer n ec =
            by_cases _ (λ st q. let none : n ≡ 0 = cc in omega (arith, none, more))
            (λ j u y st q.
            let i = follows_next p r.p_pos d h r.t.0 w₃ f.unit j free fu c n ec (answer y) q in
            omega (arith, i.2, st.0, go.k_count))

        pub loop_next : (n : ℕ) → c ≡ Ok n → Looping h d z p e e-in ea x x_in a w₀ top kr kc ku kn fr fc fu n w₃
        loop_next n ec =
            by_cases _
            (λ st q.
            let none : n ≡ 0 = cc in
            record {
              ready = r;
              frame = loop_frame;
              laid = laid_swap s.laid;
              state = inr (record {
                none = none;
                f = k;
                f_count = go.k_count;
                above = some;
                below = omega (arith, go.turning.falls, go.turning.most);
                unit_f = go.turning.unit_k;
                f_stands = kept;
                comes = turn_factor (level_of r) (degree d h) r.t.1 r.v go.turning st some;
              });
            })
            (λ j u y st q.
            let i = follows_next p r.p_pos d h r.t.0 w₃ f.unit j free fu c n ec (answer y) q in
            record {
              ready = r;
              frame = loop_frame;
              laid = laid_swap s.laid;
              state = inl (record {
                f = k;
                k = _;
                turning = turn-next (level_of r) (degree d h) r.t.1 r.v go.turning j u y st (good p r.p_pos d h r.t.0) i.0 i.1;
                f_count = go.k_count;
                k_count = i.2;
                f_stands = kept;
                k_stands = turn_stands r go.turning some s.laid s.frame go.f_stands go.k_stands divided' lose' c follow' j u y i.0 st i.3;
              });
            })

        -- a factor met ends everything above it
        pub loop_shows : (m at : ℕ) → c ≡ Err (Factor m at) → RunDone (suc h) d p e e-in ea x x_in a w₀ w₃ top (Err (Factor m at))
        loop_shows m at ec =
            run_done r loop_frame (Err (Factor m at))
            (by_cases _ (λ st q. let bad : ◌≡◌ {A = ℕ} 0 1 = cc in absurd (lt_irrefl 0 (omega arith)))
            (λ j u y st q.
            let i = follows_shows p r.p_pos d h r.t.0 w₃ f.unit j free fu c m at ec (answer y) q in
            let inside = block_inside k.degree (degree d h + 1) (size d h) (omega (arith, go.turning.falls, go.turning.most)) in
            subst (λ y. Reached p r.p_pos d (suc h) r.t y (Err (Factor m at)) w₃ top)
            (sym (turn_shown (level_of r) (degree d h) r.t.1 r.v go.turning j u y st (good p r.p_pos d h r.t.0) i.0 i.1))
            (shown_above r w₃ (Err (Factor m at)) free i.0 (ap₂ (λ x y. Err (Factor x y)) i.2 i.3) (omega (arith, s.laid.fr_low)) (omega (arith, s.laid.fr_high, inside)) i.4)))

        pub loop_over : c ≡ Err Long → ⊥
        loop_over ec =
            by_cases ⊥ (λ st q. let bad : ◌≡◌ {A = ℕ} 0 1 = cc in lt_irrefl 0 (omega arith))
            (λ j u y st q.
            turn-some (level_of r) (degree d h) r.t.1 r.v go.turning j u y st (good p r.p_pos d h r.t.0)
            (follows_over p r.p_pos d h r.t.0 w₃ f.unit j free fu c ec (answer y) q))

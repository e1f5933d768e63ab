-- The beginning of an inverse above level 0 in the words of the code: I is its level, g the degree and s the size that the code reads one level down.
--
-- Sizes, Slots                      == what the code reads; the five slots end below a bound
-- run-level, run_fits, run-under, run-place == the numbers fit
-- run-reads, run_begins, run-count, run_inverts == what is asked for
-- run-underway, run-passes == the sequence from there on
use Prim.Native.Nat.{ℕ, suc, ◌+◌, ◌-◌, ◌*◌, ◌<◌, ◌≤◌}
use native.Mathlib.Nat.{mul-le-mul_left, mul-le-mul_right}
use native.Mathlib.Omega.{arith}
use mathlib.Core.Path.{◌≡◌, ap, sym, ◌∙◌, subst}
use mathlib.Core.Bool.{Bool, true}
use mathlib.Core.List.{List, []}
use lib.IntN.{ℤ, pos}
use lib.ListN.{length, get_or}
use Rattle.tower.specs.Levels.{degree}
use Rattle.tower.specs.Writing.{size, size-pos, tower_size_suc, count_of}
use Rattle.arithmetic.specs.Rows.{block_inside}
use Rattle.arithmetic.specs.Walk.{pick}
use Rattle.std.specs.Prelude.{Result, Ok, Err}
use Rattle.sequences.specs.declared.Stop.{Stop}
use Rattle.sequences.specs.declared.Led.{Led}
use Rattle.sequences.specs.Starts.{BeginReady, BeginDone, led_at}
use Rattle.sequences.specs.Outcomes.{RunReady, RunDone, InvertReady, InvertDone}
use Rattle.sequences.specs.Passes.{under_of, next_of, Looping, Underway, PassesDone}
use Rattle.sequences.proofs.RunLaws.{run-some, run_room}
use Rattle.sequences.proofs.BeginLaws.{Leads, leads, begin-reads, begin-ready, begin_counts, begin_asks, begin_going, begin_stops}

-- what the code reads of the degrees and sizes
pub record Sizes (I : ℕ) (d z : List ℕ) (g s S : ℕ) : Type 0 where
  pub above : 0 < I
  pub degree-is : g ≡ get_or d (I - 1) 0
  pub size_is : s ≡ get_or z (I - 1) 0
  pub whole_is : S ≡ get_or z I 0

-- the five slots end below a bound
abbrev pub Slots : ℕ → ℕ → ℕ → ℕ → Type 0
Slots g s top bound = (g + 1 ≤ (g + 1) * s) × (s + s ≤ (g + 1) * s) × (top + 5 * ((g + 1) * s + 1) ≤ bound)

module _ {I : ℕ} {d z : List ℕ} {p : ℕ} {e : List ℤ} {e-in : Bool} {ea : ℕ} {x : List ℤ} {x_in : Bool} {a : ℕ} {w₀ : List ℤ} {top : ℕ}
    (high : (0 < I) × RunReady I d z p e e-in ea x x_in a w₀ top) where
  abbrev j : ℕ
  j = I - 1

  up : I ≡ suc j
  up = omega (arith, high.0)

  ready : RunReady (suc j) d z p e e-in ea x x_in a w₀ top
  ready = subst (λ i. RunReady i d z p e e-in ea x x_in a w₀ top) up high.1

  told : {w : List ℤ} (o : Result ℕ Stop) → RunDone (suc j) d p e e-in ea x x_in a w₀ w top o → RunDone I d p e e-in ea x x_in a w₀ w top o
  told {w} o q = subst (λ i. RunDone i d p e e-in ea x x_in a w₀ w top o) (sym up) q

  pub run-level : (0 < I) × (I ≤ 4)
  run-level = (high.0, high.1.low)

  pub run-reads : a < length (pick x_in w₀ x)
  run-reads = begin-reads ready

  module _ {g s S : ℕ} (q : Sizes I d z g s S) where
    abbrev eg : g ≡ degree d j
    eg = q.degree-is

    one_size : s ≡ size d j
    one_size = q.size_is ∙ ready.sized.at j (omega (arith, run-level))

    -- the five slots lie in the store
    pub run_fits : Slots g s top (length w₀)
    run_fits =
        let one = mul-le-mul_left (degree d j + 1) (size-pos d j) in
        let two = mul-le-mul_right (size d j) (run-some ready) in
        rw (eg, one_size) (omega (arith, one), omega (arith, two), omega (arith, ready.room, run_room ready))

    -- where the tower's words of the level below begin
    under-is : ea + S + s ≡ under_of d j ea
    under-is = omega (arith, q.whole_is ∙ ready.sized.at I run-level.1, one_size, ap (size d) up)

    pub run-under : ea + S + s ≤ length (pick e-in w₀ e)
    run-under = omega (arith, under-is, ready.e_inside.inside, tower_size_suc d j)

    pub run_begins : BeginReady j g s d z e e-in ea x x_in a w₀ top
    run_begins = rw (eg, one_size) (begin-ready ready)

    module _ {n : ℕ} (en : n ≡ count_of (get_or (pick x_in w₀ x) a (pos 0))) {w₁ : List ℤ} (began : BeginDone j d e e-in ea x x_in a w₀ w₁ top) where
      at_first : Leads p ready.p_pos d j ready.v n
      at_first = leads ready en

      pub run-count : (0 < n) × (n ≤ g)
      run-count = rw eg (begin_counts ready at_first began)

      -- the two polynomials in their slots
      module _ {f k : Led} (ef : f ≡ led_at top ((g + 1) * s + 1) (top + 4 * ((g + 1) * s + 1)) (g + 1))
          (ek : k ≡ led_at (top + ((g + 1) * s + 1)) ((g + 1) * s + 1) (top + 4 * ((g + 1) * s + 1) + s) n) where
        row_is : k.row ≡ top + ((g + 1) * s + 1) + 1
        row_is = ap (λ y. y.row) ek

        unit_is : k.unit ≡ top + 4 * ((g + 1) * s + 1) + s
        unit_is = ap (λ y. y.unit) ek

        pub run-place : k.row + (n - 1) * s ≤ length w₀
        run-place = omega (arith, row_is, block_inside (n - 1) (g + 1) s (omega (arith, run-count)), run_fits)

        module _ {at : ℕ} (ep : at ≡ k.row + (n - 1) * s) where
          at-is : at ≡ top + ((g + 1) * s + 1) + 1 + (n - 1) * s
          at-is = omega (arith, ep, row_is)

          pub run_inverts : InvertReady j d z p e e-in (ea + S + s) [] true at w₁ k.unit (top + 5 * ((g + 1) * s + 1))
          run_inverts = rw (under-is, unit_is, at-is, eg, one_size) (begin_asks ready at_first began)

          module _ {w₂ : List ℤ} (c : Result (Unit {0}) Stop) (i : InvertDone j d p e e-in (ea + S + s) [] true at w₁ w₂ k.unit (top + 5 * ((g + 1) * s + 1)) c) where
            inverted : InvertDone j d p e e-in (under_of d j ea) [] true (top + ((degree d j + 1) * size d j + 1) + 1 + (n - 1) * size d j) w₁ w₂
                (top + 4 * ((degree d j + 1) * size d j + 1) + size d j) (next_of d j top) c
            inverted = rw (under-is, unit_is, at-is, eg, one_size) at i

            -- at the places that the code computes
            abbrev From : Led → Led → Type 0
            From f k = Looping j d z p e e-in ea x x_in a w₀ top f.row f.carried f.unit f.count k.row k.carried k.unit k.count w₂

            begun : c ≡ Ok tt → From f k
            begun ec =
                let third : top + ((g + 1) * s + 1) + 2 * ((g + 1) * s + 1) + 1 ≡ top + 3 * ((g + 1) * s + 1) + 1 = omega arith in
                subst (λ y. From y k) (sym ef) (subst (From _) (sym ek) (rw (third, eg, one_size) (begin_going ready at_first began c inverted ec)))

            abbrev underway : c ≡ Ok tt
                → Underway j g s d z p e e-in (ea + S + s) f k w₂ (top + 5 * ((g + 1) * s + 1))
            underway ec = record {
              ea = ea;
              x = x;
              x_in = x_in;
              a = a;
              w₀ = w₀;
              top = top;
              figures = record { degree-is = eg; size_is = one_size; under-is = under-is; next_is = rw (eg, one_size) };
              looping = begun ec;
            }

            pub run-underway : c ≡ Ok tt
                → Underway j g s d z p e e-in (ea + S + s) f k w₂ (top + 5 * ((g + 1) * s + 1))
            run-underway = underway

            pub run-passes : {w : List ℤ} (o : Result ℕ Stop) → c ≡ Ok tt
                → PassesDone j g s d z p e e-in (ea + S + s) f k w₂ w
                (top + 5 * ((g + 1) * s + 1)) o
                → RunDone I d p e e-in ea x x_in a w₀ w top o
            run-passes o ec y = told o (y.done (underway ec))

            pub run_stops : (y : Stop) → c ≡ Err y → RunDone I d p e e-in ea x x_in a w₀ w₂ top (Err y)
            run_stops y ec = told _ (begin_stops ready at_first began c inverted y ec)

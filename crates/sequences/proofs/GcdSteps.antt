-- Laws of the steps of a GCD as the code takes them: a leading coefficient's inverse, a polynomial made monic, one turn.
--
-- some_of   == a count that is not 0
-- lead-none == there is no leading coefficient
-- lead_fits, lead-invert, lead-some == its place; what its inverse asks for, and leaves
-- monic-none, monic-some == zero; a polynomial that is not zero
-- turn-lower, turn-taken == the first has fewer coefficients; a remainder is taken
use Prim.Native.Nat.{ℕ, ◌+◌, ◌-◌, ◌*◌, ◌<◌, ◌≤◌}
use native.Mathlib.Nat.{lt_irrefl}
use native.Mathlib.Omega.{arith}
use mathlib.Core.Path.{◌≡◌, refl, ap, sym, ◌∙◌, subst}
use mathlib.Core.Bool.{Bool, true}
use mathlib.Core.List.{List, []}
use lib.IntN.{ℤ}
use lib.ListN.{length, get_or}
use Rattle.tower.specs.Writing.{size}
use Rattle.arithmetic.specs.Rows.{block_inside}
use Rattle.std.specs.Prelude.{Result, Ok}
use Rattle.sequences.specs.declared.Stop.{Stop}
use Rattle.sequences.specs.Gcds.{greatest}
use Rattle.sequences.specs.Rows.{ScaleRowDone, DivideDone}
use Rattle.sequences.specs.Outcomes.{InvertReady, InvertDone, FollowDone}
use Rattle.sequences.specs.Gcds.{LeadReady, LeadDone, MonicDone, TurnDone}

-- a count that is not 0
pub some_of : (n : ℕ) → ¬ (n ≡ 0) → 0 < n
some_of n h = omega (arith, h)

module _ {i : ℕ} {d : List ℕ} {p : ℕ} {e : List ℤ} {e-in : Bool} {ea row unit n : ℕ} {w : List ℤ} {top : ℕ} where
  pub lead-none : n ≡ 0 → LeadDone i d p e e-in ea row unit n w w top (Ok tt)
  lead-none h = record { none = λ _. (refl, refl); some = λ l. absurd (lt_irrefl 0 (omega (arith, h, l))) }

  module _ {z : List ℕ} (r : LeadReady i d z p e e-in ea row unit n w top) (other : ¬ (n ≡ 0)) {s : ℕ} (es : s ≡ get_or z i 0) where
    some : 0 < n
    some = some_of n other

    size_is : s ≡ size d i
    size_is = es ∙ r.sized.at i r.low

    pub lead_fits : (b : ℕ) → length w < b → row + (n - 1) * s < b
    lead_fits b l =
        omega (arith, block_inside (n - 1) n (size d i) (omega (arith, some)), r.row_below, ap (λ k. (n - 1) * k) size_is)

    module _ {at : ℕ} (ea' : at ≡ row + (n - 1) * s) where
      at-is : at ≡ row + (n - 1) * size d i
      at-is = ea' ∙ ap (λ k. row + (n - 1) * k) size_is

      pub lead-invert : InvertReady i d z p e e-in ea [] true at w unit top
      lead-invert = subst (λ k. InvertReady i d z p e e-in ea [] true k w unit top) (sym at-is) (r.some some)

      pub lead-some : {v : List ℤ} (o : Result (Unit {0}) Stop) → InvertDone i d p e e-in ea [] true at w v unit top o → LeadDone i d p e e-in ea row unit n w v top o
      lead-some {v} o h = record {
        none = λ l. absurd (other l);
        some = λ l. subst (λ k. InvertDone i d p e e-in ea [] true k w v unit top o) at-is h;
      }

  pub monic-none : n ≡ 0 → MonicDone i d p e e-in ea row unit n w w top (greatest row 0)
  monic-none h = record { here = ap (greatest row) (sym h); none = λ _. refl; some = λ l. absurd (lt_irrefl 0 (omega (arith, h, l))) }

  pub monic-some : ¬ (n ≡ 0) → {v : List ℤ} → ScaleRowDone i n d p e e-in ea unit w v row top → MonicDone i d p e e-in ea row unit n w v top (greatest row n)
  monic-some other h = record { here = refl; none = λ l. absurd (other l); some = λ _. h }

module _ {i : ℕ} {d : List ℕ} {p : ℕ} {e : List ℤ} {e-in : Bool} {ea fr fu m gr gu n : ℕ} {w : List ℤ} {top : ℕ} where
  pub turn-lower : m < n → TurnDone i d p e e-in ea fr fu m gr gu n w w top (Ok m)
  turn-lower h = record { lower = λ _. (refl, refl); turned = λ l. absurd (lt_irrefl 0 (omega (arith, h, l))) }

  pub turn-taken : n ≤ m → {v u : List ℤ} (c : Result ℕ Stop) → DivideDone i d p e e-in ea gr (n - 1) gu w v fr m top → FollowDone i d p e e-in ea fr (n - 1) fu v u top c
      → TurnDone i d p e e-in ea fr fu m gr gu n w u top c
  turn-taken h {v} c x y = record { lower = λ l. absurd (lt_irrefl 0 (omega (arith, h, l))); turned = λ _. record { v = v; divided = x; followed = y } }

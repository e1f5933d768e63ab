-- The steps of a sequence: what they ask for and leave, from what they call.
--
-- remainder-loses, remainder_done == one remainder, and what it carries
-- close_factor, close-inverse     == the two ends
use Prim.Native.Nat.{ℕ, suc, ◌+◌, ◌-◌, ◌*◌}
use mathlib.Core.Path.{◌≡◌, refl, ap, sym, subst}
use mathlib.Core.Bool.{Bool}
use mathlib.Core.List.{List}
use lib.IntN.{ℤ}
use native.Mathlib.Omega.{arith}
use Rattle.std.specs.Prelude.{Ok, Err}
use Rattle.sequences.specs.declared.Stop.TheVariants.{Factor}
use Rattle.sequences.specs.declared.Led.{Led}
use Rattle.sequences.specs.Rows.{ScaleRowDone, LoseReady, LoseDone, DivideDone}
use Rattle.sequences.specs.Starts.{FinishDone}
use Rattle.sequences.specs.Passes.{RemainderReady, RemainderDone, CloseDone}

module _ {h g s : ℕ} {d : List ℕ} {p : ℕ} {e : List ℤ} {e-in : Bool} {under : ℕ} (f k : Led) {w v : List ℤ} {next at : ℕ}
    (divided : DivideDone h d p e e-in under k.row (k.count - 1) k.unit w v f.row f.count next) (ea : at ≡ f.row + (k.count - 1) * s) where
  pub remainder-loses : {z : List ℕ} → RemainderReady h g s d z p e e-in under f k w next
      → LoseReady h d z p e e-in under at (f.count - (k.count - 1)) k.carried (g + 2 - f.count) v f.carried next
  remainder-loses {z} q = subst (λ y. LoseReady h d z p e e-in under y (f.count - (k.count - 1)) k.carried (g + 2 - f.count) v f.carried next) (sym ea) (q.lose v divided)

  pub remainder_done : {w' : List ℤ} → LoseDone h d p e e-in under at (f.count - (k.count - 1)) k.carried (g + 2 - f.count) v w' f.carried next
      → RemainderDone h g s d p e e-in under f k w w' next
  remainder_done {w'} y = record {
    v = v;
    divided = divided;
    lost = subst (λ y. LoseDone h d p e e-in under y (f.count - (k.count - 1)) k.carried (g + 2 - f.count) v w' f.carried next) ea y;
  }

module _ {h g : ℕ} {d : List ℕ} {p : ℕ} {e : List ℤ} {e-in : Bool} {under : ℕ} (f k : Led) {w v w' : List ℤ} {next : ℕ} where
  pub close_factor : k.count ≡ 0 → ScaleRowDone h f.count d p e e-in under f.unit w v f.row next → FinishDone h f.count g d v w' f.row
      → CloseDone h g d p e e-in under f k w w' next (Err (Factor (h + 1) (f.row - 1)))
  close_factor none scaled finished =
      let up : h + 1 ≡ suc h = omega arith in
      record {
        factor = λ _. (ap (λ y. Err (Factor y (f.row - 1))) up, record { v = v; scaled = scaled; finished = finished });
        inverse = λ some. absurd (some none);
      }

  pub close-inverse : ¬ (k.count ≡ 0) → ScaleRowDone h g d p e e-in under k.unit w v k.carried next → FinishDone h g g d v w' k.carried
      → CloseDone h g d p e e-in under f k w w' next (Ok (k.carried - 1))
  close-inverse some scaled finished = record {
    factor = λ none. absurd (some none);
    inverse = λ _. (refl, record { v = v; scaled = scaled; finished = finished });
  }

-- Laws of level 1 of a product of elements of level 1 with q coefficients whose sums are all made at once.
--
-- once_asks, once_ready == what the sums ask for, and what they are for the coefficients;  once_summed == each of them
use Prim.Native.Nat.{ℕ, ◌<◌}
use native.Mathlib.Omega.{arith}
use mathlib.Core.Path.{◌≡◌, refl, sym, ◌∙◌, ap}
use mathlib.Core.Bool.{Bool, false}
use mathlib.Core.List.{List}
use lib.IntN.{ℤ}
use lib.ListN.{length}
use Rattle.residue.specs.declared.Accumulator.{Accumulator}
use Rattle.tower.specs.Levels.{degree}
use Rattle.arithmetic.specs.Places.{wide}
use Rattle.arithmetic.specs.Line.{LineReady, sum_at, AllSums}
use Rattle.products.specs.Product.{Two, left, right, ProductReady}
use Rattle.products.specs.Lowest.{SummedAt, SumsReady}
use Rattle.products.proofs.Pairings.{line_asks, line_summed}
use Rattle.products.proofs.Lowerings.{lowest-some, lowering_start, lowering_ready}

-- x and y are the lists that the operands stand in
module _ {d z : List ℕ} {p : ℕ} {m : List ℕ} {e : List ℤ} {e-in : Bool} {ea : ℕ} {o : Two} {keep : Bool} {w : List ℤ} {c top g : ℕ} (q : ℕ) {x y : List ℤ}
    (h : ProductReady 1 d z p m e e-in ea o keep w c top) (level : o.i ≡ 1) (low : g ≡ degree d 0) (known : g ≡ q) (ex : x ≡ left o w) (ey : y ≡ right o w) where
  same : q ≡ degree d 0
  same = sym known ∙ low

  some : 0 < wide q
  some = omega (arith, lowest-some h, same)

  pub once_asks : LineReady q x o.a y o.b o.n
  once_asks =
      rw (ex, ey)
      (line_asks d m o w _ level same h.places (lowering_ready h some (lowering_start h {neg = false} refl same) same).pairs).1

  pub once_ready : (s : List Accumulator) → AllSums q x y o.n o.a o.b s → SumsReady (wide q) g d o w s
  once_ready s sums = record {
    level = level;
    lowest = low;
    all = sym (ap wide known);
    sums = rw (known, ← ex, ← ey) sums;
  }

pub once_summed : {n g k : ℕ} {d : List ℕ} (m : List ℕ) {o : Two} {w : List ℤ} {s : List Accumulator} → SumsReady n g d o w s → length m ≡ 4 → k < n
    → SummedAt d m o w k (sum_at s k).lo (sum_at s k).hi
once_summed {n} {g} {k} {d} m {o} {w} {s} h places b = line_summed d m o w k h.level h.lowest places (h.sums k (omega (arith, h.all)))

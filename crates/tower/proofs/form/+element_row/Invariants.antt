use Prim.Native.Nat.{◌+◌, ◌*◌}
use Rattle.algebra.specs.Test.{all_to}
use Rattle.tower.proofs.Rows.{coefficient_at}
use mathlib.Core.Bool.{true}
use mathlib.Core.Path.{◌≡◌}
use Rattle.tower.proofs.form.+element_row.Given as goal

abbrev pub decreases-element : goal.decreases-element
decreases-element l = 2 * l.i

abbrev pub decreases-row : goal.decreases-row
decreases-row l = 2 * l.i + 1

abbrev pub invariant-row-loop-k : goal.invariant-row-loop-k
invariant-row-loop-k l = all_to l.k (coefficient_at l.p l.d l.i l.x l.a) ≡ true

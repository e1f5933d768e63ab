-- `store::zero` and `store::zeros` meet their contracts. The level falls round their cycle; the loop has written k zeros.
use Prim.Native.Nat.{◌+◌, ◌*◌, ◌≤◌}
use Rattle.tower.specs.Form.{copies, zero_words}
use Rattle.tower.specs.Store.{Put}
use Rattle.tower.proofs.store.+zero_zeros.Given as goal

abbrev pub decreases-zero : goal.decreases-zero
decreases-zero l = 2 * l.i

abbrev pub decreases-zeros : goal.decreases-zeros
decreases-zeros l = 2 * l.i + 1

abbrev pub invariant-zeros-loop-k : goal.invariant-zeros-loop-k
invariant-zeros-loop-k l = (l.k ≤ l.n) × Put l.at (copies l.k (zero_words l.d l.i)) l.initial.w l.w

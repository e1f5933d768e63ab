-- `store::copy_in` meets its contract. The loop has written the first k words.
use Rattle.tower.specs.Form.{seg}
use Rattle.tower.specs.Store.{Put}
use Rattle.tower.proofs.store.copy_in.Given as goal

abbrev pub invariant-loop-k : goal.invariant-loop-k
invariant-loop-k l = Put l.to (seg l.from l.k l.x) l.initial.w l.w

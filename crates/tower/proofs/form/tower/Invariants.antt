use Rattle.algebra.specs.Test.{all_to}
use Rattle.tower.proofs.Moduli.{element_at, Left}
use mathlib.Core.Bool.{true}
use mathlib.Core.Path.{◌≡◌}
use Rattle.tower.proofs.form.tower.Given as goal

abbrev pub invariant-loop-k : goal.invariant-loop-k
invariant-loop-k l = (l.ok ≡ true) × (all_to l.k (element_at l.p l.d l.i l.t l.a) ≡ true)

abbrev pub invariant-levels : goal.invariant-levels
invariant-levels l = (l.ok ≡ true) × Left l.p l.d l.n l.t l.a l.i

-- `lines::form::put_form` meets its contract. The invariant: the words passed are printed, and there is room for the others (`Put`). Assumes nothing.
use Rattle.lines.proofs.Places.{Put}
use Rattle.lines.proofs.form.put_form.Given as goal

abbrev pub invariant-loop-k : goal.invariant-loop-k
invariant-loop-k l = Put l.i l.n l.held l.z l.x l.initial.out l.out l.told l.k

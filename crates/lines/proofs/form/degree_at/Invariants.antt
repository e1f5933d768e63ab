-- `lines::form::degree_at` meets its contract. The invariant: the word is a word of an element of a level that is not higher (`Down`). Assumes nothing.
use Rattle.lines.proofs.Places.{Down}
use Rattle.lines.proofs.form.degree_at.Given as goal

abbrev pub invariant-loop-level : goal.invariant-loop-level
invariant-loop-level l = Down l.i l.k l.z l.level l.at

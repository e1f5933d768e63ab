-- `text::fields::field_end` meets its contract. The invariant: no tab stands from `from` up to the place reached (`Passed`). Assumes nothing.
use Rattle.text.proofs.Texts.{Passed}
use Rattle.text.proofs.fields.field_end.Given as goal

abbrev pub invariant-loop-i : goal.invariant-loop-i
invariant-loop-i l = Passed l.text l.from l.i

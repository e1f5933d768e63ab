-- `lines::answers::answer_line` meets its contract, by the kind of the answer. Assumes nothing.
use Rattle.lines.proofs.Slotted.{element_moved, name_three}
use lib.ListN.{length}
use mathlib.Core.Path.{ap, refl}
use native.Mathlib.Omega.{arith}
use Rattle.lines.proofs.answers.answer_line.Goals as goal

pub factor_line-requires : goal.factor_line-requires
factor_line-requires c =
    element_moved (c.requires.shown _ c.in-Factor.is) (omega (arith, ap length c.name.ensures, name_three c.args.given)) refl

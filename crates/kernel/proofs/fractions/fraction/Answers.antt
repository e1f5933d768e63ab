use Rattle.kernel.proofs.Quotients.{e_told, fraction_p, fraction-e, fraction-found, quotient-plain}
use Rattle.kernel.proofs.Told.{of_word, told}
use Rattle.residue.specs.Word.{num}
use Rattle.tower.specs.Limits.{p_ok}
use Rattle.tower.specs.Lists.{of_true}
use mathlib.Core.Bool.{true, false}
use mathlib.Core.Path.{◌∙◌}
use Rattle.kernel.proofs.fractions.fraction.Goals as goal

pub returns-then-not-p_ok : goal.returns-then-not-p_ok
returns-then-not-p_ok c = fraction_p c.args.p c.args.n c.args.e (told p_ok c.ranges.p c.p_ok.ensures c.if-not-p_ok.true)

pub returns-then-e-le0 : goal.returns-then-e-le0
returns-then-e-le0 c =
    fraction-e c.args.p c.args.n c.args.e (told p_ok c.ranges.p c.p_ok.ensures c.if-not-p_ok.false) (e_told c.ranges.e true c.if-e-le0.true)

pub returns : goal.returns
returns c =
    fraction-found c.args.p c.args.n c.args.e (of_true _ (told p_ok c.ranges.p c.p_ok.ensures c.if-not-p_ok.false))
    (e_told c.ranges.e false c.if-e-le0.false) c.quotient.result
    (quotient-plain c.quotient.result c.ranges.n (c.number.ensures ∙ of_word num c.ranges.e) (c.number-2.ensures ∙ of_word num c.ranges.p) c.quotient.ensures)

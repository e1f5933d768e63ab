-- `lines::lengths::element_words` meets its contract: the work sizes tell whether N and the degrees are in range. Assumes nothing.
use Rattle.kernel.proofs.Told.{of_word}
use Rattle.lines.proofs.Lent.{told_range, told_factor, told_refused, degrees_small, levels_low, size-lent, one_lent}
use Rattle.residue.specs.Word.{num}
use Rattle.std.proofs.Common.{⊎_elim}
use mathlib.Core.Path.{◌∙◌}
use native.Mathlib.Omega.{arith}
use Rattle.lines.proofs.lengths.element_words.Goals as goal

pub sizes-requires : goal.sizes-requires
sizes-requires c =
    let n = c.args.n in
    let e = c.args.e in
    let asked = c.work_sizes.ensures.given in
    rw c.degrees.ensures (degrees_small n e (told_range n e c.ranges.n asked c.in-Done.is))

pub size_at-requires : goal.size_at-requires
size_at-requires c =
    let n = c.args.n in
    let e = c.args.e in
    let asked = c.work_sizes.ensures.given in
    let range = told_range n e c.ranges.n asked c.in-Done.is in
    omega (arith, levels_low n e range, c.nat.ensures ∙ of_word num c.ranges.n)

pub returns-in-Done : goal.returns-in-Done
returns-in-Done c =
    let n = c.args.n in
    let e = c.args.e in
    let asked = c.work_sizes.ensures.given in
    let range = told_range n e c.ranges.n asked c.in-Done.is in
    size-lent n e range c.degrees.ensures c.sizes.ensures (c.nat.ensures ∙ of_word num c.ranges.n) c.size_at.ensures

pub returns-in-Factor : goal.returns-in-Factor
returns-in-Factor c =
    let n = c.args.n in
    let e = c.args.e in
    let asked = c.work_sizes.ensures.given in
    one_lent n e
    (⊎_elim (λ (l, h). told_factor n e c.ranges.n asked h) (λ (k, h). told_refused n e c.ranges.n asked h) c.in-Factor.is)

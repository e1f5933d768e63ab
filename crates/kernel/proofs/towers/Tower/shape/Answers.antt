use Rattle.kernel.proofs.Range.{base_p}
use Rattle.kernel.proofs.Shapes.{base-checked}
use Rattle.kernel.proofs.Told.{back, told}
use Rattle.kernel.specs.Calls.{shape_number}
use Rattle.kernel.specs.Shape.{Checked}
use Rattle.std.proofs.Common.{rules}
use Rattle.tower.specs.Limits.{p_ok}
use mir.Syntax.{w64}
use mir.Val.{SFits}
use Rattle.kernel.proofs.towers.Tower.shape.Goals as goal

pub returns-then-not-p_ok : goal.returns-then-not-p_ok
returns-then-not-p_ok c =
    let fits : SFits w64 c.args.self.p = search rules in
    base_p c.args.self.n c.args.self.e c.args.self.p (told p_ok fits c.p_ok.ensures c.if-not-p_ok.true)

pub returns : goal.returns
returns c =
    let x = c.args.self in
    let fits : SFits w64 x.p = search rules in
    let fits-n : SFits w64 x.n = search rules in
    base-checked _ _ _ c.shape_of.result (told p_ok fits c.p_ok.ensures c.if-not-p_ok.false)
    (back (λ n. Checked (shape_number n x.e) n x.e c.shape_of.result) fits-n c.shape_of.ensures)

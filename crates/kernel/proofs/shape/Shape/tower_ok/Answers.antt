use Rattle.tower.proofs.Moduli.{not_tower}
use borrow.Author.Tests.{ne_eqb}
use mathlib.Core.Path.{sym, ◌∙◌}
use Rattle.kernel.proofs.shape.Shape.tower_ok.Goals as goal

pub returns-else-t-tower_size : goal.returns-else-t-tower_size
returns-else-t-tower_size c =
    let x = c.args in
    ne_eqb _ _ c.if-t-tower_size.false
    ∙ sym (not_tower x.p x.self.degrees x.self.levels x.t.now c.tower_size.result c.tower_size.ensures c.if-t-tower_size.false)

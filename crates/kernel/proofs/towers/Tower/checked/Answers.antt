use Rattle.kernel.proofs.Order.{tower-first}
use Rattle.kernel.proofs.Shapes.{tower-answered}
use Rattle.kernel.proofs.Told.{handed_on}
use Rattle.kernel.proofs.towers.Tower.checked.Goals as goal

pub returns-in_err-s : goal.returns-in_err-s
returns-in_err-s c = handed_on _ _ _ _ _ c.from_residual.ensures.1 (tower-first _ _ _ _ _ c.in_err-s.ensures)

pub returns-then-not-tower_ok : goal.returns-then-not-tower_ok
returns-then-not-tower_ok c =
    tower-answered c.in_ok-s.ensures.1 _ _ c.modulus.ensures _ c.in_ok-s.ensures.0 _ c.if-not-tower_ok.ensures

pub returns : goal.returns
returns c =
    (tower-answered c.in_ok-s.ensures.1 _ _ c.modulus.ensures _ c.in_ok-s.ensures.0 _ c.if-not-tower_ok.ensures, c.in_ok-s.ensures.1)

use Rattle.kernel.proofs.Dividing.{division-first, monic-ready, division_end}
use Rattle.kernel.proofs.Told.{handed_on}
use Rattle.kernel.proofs.divisions.division_checked.Goals as goal

pub returns-in_err-s : goal.returns-in_err-s
returns-in_err-s c = handed_on _ _ _ _ _ c.from_residual.ensures.1 (division-first _ _ _ _ _ _ _ _ _ c.in_err-s.ensures)

pub monic-requires : goal.monic-requires
monic-requires c = monic-ready _ _ _ _ _ _ _ _ c.in_ok-s.ensures.0 _ c.in_ok-s.ensures.1 _ c.modulus.ensures

pub returns-then-not-monic : goal.returns-then-not-monic
returns-then-not-monic c = division_end _ _ _ _ _ _ _ _ c.in_ok-s.ensures.0 _ c.in_ok-s.ensures.1 _ c.if-not-monic.ensures

pub returns : goal.returns
returns c = (division_end _ _ _ _ _ _ _ _ c.in_ok-s.ensures.0 _ c.in_ok-s.ensures.1 _ c.if-not-monic.ensures, c.in_ok-s.ensures.1)

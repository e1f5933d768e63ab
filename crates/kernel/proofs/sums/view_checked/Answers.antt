use Rattle.kernel.proofs.Viewing.{view_first, view_short, view_end, shape-some}
use Rattle.kernel.proofs.Told.{handed_on}
use Rattle.kernel.proofs.sums.view_checked.Goals as goal

pub returns-in_err-s : goal.returns-in_err-s
returns-in_err-s c = handed_on _ _ _ _ _ c.from_residual.ensures.1 (view_first _ _ _ _ _ _ _ c.in_err-s.ensures)

pub lengths_ok-requires : goal.lengths_ok-requires
lengths_ok-requires c = shape-some c.in_ok-s.s c.in_ok-s.ensures.1.known

pub returns-then-not-lengths_ok : goal.returns-then-not-lengths_ok
returns-then-not-lengths_ok c =
    view_short _ _ _ _ _ _ c.in_ok-s.ensures.0 _ c.in_ok-s.ensures.1 c.if-not-lengths_ok.ensures

pub returns-then-not-slots_ok : goal.returns-then-not-slots_ok
returns-then-not-slots_ok c =
    view_end _ _ _ _ _ _ c.in_ok-s.ensures.0 _ c.in_ok-s.ensures.1 c.if-not-lengths_ok.ensures _ c.modulus.ensures _ c.if-not-slots_ok.ensures

pub returns : goal.returns
returns c =
    (view_end _ _ _ _ _ _ c.in_ok-s.ensures.0 _ c.in_ok-s.ensures.1 c.if-not-lengths_ok.ensures _ c.modulus.ensures _ c.if-not-slots_ok.ensures, c.in_ok-s.ensures.1)

use Rattle.kernel.proofs.Summing.{sum_first, sum_end}
use Rattle.kernel.proofs.Viewing.{shape-some, ready_a, ready_b}
use Rattle.kernel.proofs.Told.{handed_on}
use Rattle.kernel.proofs.sums.sum_checked.Goals as goal

pub returns-in_err-s : goal.returns-in_err-s
returns-in_err-s c = handed_on _ _ _ _ _ c.from_residual.ensures.1 (sum_first _ _ _ _ _ _ _ c.in_err-s.ensures)

pub coefficients-requires : goal.coefficients-requires
coefficients-requires c =
    (shape-some c.in_ok-s.s c.in_ok-s.ensures.1.known, (ready_a _ _ _ _ _ _ c.in_ok-s.ensures.0 _ c.in_ok-s.ensures.1).0)

pub room_ok-requires : goal.room_ok-requires
room_ok-requires c =
    ((ready_a _ _ _ _ _ _ c.in_ok-s.ensures.0 _ c.in_ok-s.ensures.1).0, (ready_b _ _ _ _ _ _ c.in_ok-s.ensures.0 _ c.in_ok-s.ensures.1).0)

pub returns-then-not-room_ok : goal.returns-then-not-room_ok
returns-then-not-room_ok c =
    sum_end _ _ _ _ _ _ c.in_ok-s.ensures.0 c.in_ok-s.ensures.1 _ c.coefficients.ensures _ c.if-not-room_ok.ensures

pub returns : goal.returns
returns c =
    (sum_end _ _ _ _ _ _ c.in_ok-s.ensures.0 c.in_ok-s.ensures.1 _ c.coefficients.ensures _ c.if-not-room_ok.ensures, c.in_ok-s.ensures.1)

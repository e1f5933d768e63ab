use Rattle.kernel.proofs.Summing.{sum_refused, sum-some, call_terms, call_given}
use Rattle.kernel.proofs.Viewing.{shape-some}
use Rattle.std.proofs.lemmas.Result.{err_from_is_err_and}
use Rattle.kernel.proofs.sums.gained.Goals as goal

pub returns-in_err-s : goal.returns-in_err-s
returns-in_err-s c = let p = err_from_is_err_and c.from_residual.result c.from_residual.ensures.1 in rw (p.1, p.2) (sum_refused _ _ _ _ _ _ _ _ c.in_err-s.ensures)

pub coefficients-k-requires : goal.coefficients-k-requires
coefficients-k-requires c =
    (shape-some c.in_ok-s.s c.in_ok-s.ensures.1.known, sum-some _ _ _ _ _ _ c.in_ok-s.ensures.0)

pub gain_row-requires : goal.gain_row-requires
gain_row-requires c =
    call_terms _ _ _ _ _ _ c.in_ok-s.ensures.0 _ c.in_ok-s.ensures.1 _ c.modulus-p.ensures _ c.coefficients-k.ensures

pub returns : goal.returns
returns c =
    call_given _ _ _ _ _ _ c.in_ok-s.ensures.0 _ c.in_ok-s.ensures.1 _ c.modulus-p.ensures _ c.coefficients-k.ensures _ _ c.gain_row.ensures

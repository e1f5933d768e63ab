use Rattle.kernel.proofs.Dividing.{division_refused, some_a, some-q, store_serves, word_serves, clear_fits, work-cleared, work_untouched, divide-ready, parted_done}
use Rattle.kernel.proofs.Viewing.{shape-some}
use Rattle.std.proofs.lemmas.Result.{err_from_is_err_and}
use mathlib.Core.Path.{refl, sym}
use Rattle.kernel.proofs.divisions.parted.Goals as goal

pub returns-in_err-s : goal.returns-in_err-s
returns-in_err-s c = let p = err_from_is_err_and c.from_residual.result c.from_residual.ensures.1 in rw (p.1, p.2) (division_refused _ _ _ _ _ _ _ _ _ c.in_err-s.ensures)

pub coefficients-k-requires : goal.coefficients-k-requires
coefficients-k-requires c = (shape-some c.in_ok-s.s c.in_ok-s.ensures.1.known, some_a _ _ _ _ _ _ _ _ c.in_ok-s.ensures.0)

pub coefficients-l-requires : goal.coefficients-l-requires
coefficients-l-requires c = (shape-some c.in_ok-s.s c.in_ok-s.ensures.1.known, some-q _ _ _ _ _ _ _ _ c.in_ok-s.ensures.0)

pub divide-requires : goal.divide-requires
divide-requires c =
    divide-ready _ _ _ _ _ _ _ _ c.in_ok-s.ensures.0 _ c.in_ok-s.ensures.1 0 (sym c.if-s-eq0.true) _ c.modulus-p.ensures _ _ c.coefficients-k.ensures
    c.coefficients-l.ensures _ (word_serves c.in_ok-s.s.degrees)

pub returns-then-s-eq0 : goal.returns-then-s-eq0
returns-then-s-eq0 c =
    parted_done _ _ _ _ _ _ _ _ c.in_ok-s.ensures.0 _ c.in_ok-s.ensures.1 0 (sym c.if-s-eq0.true) _ c.modulus-p.ensures _ _ c.coefficients-k.ensures
    c.coefficients-l.ensures _ _ _ _ c.divide.ensures _ (work_untouched _ _ _ _ _ _ _ _ c.in_ok-s.ensures.0 _ c.in_ok-s.ensures.1 c.if-s-eq0.true)

pub divide-requires-2 : goal.divide-requires-2
divide-requires-2 c =
    divide-ready _ _ _ _ _ _ _ _ c.in_ok-s.ensures.0 _ c.in_ok-s.ensures.1 c.in_ok-s.s.levels refl _ c.modulus-p.ensures _ _ c.coefficients-k.ensures
    c.coefficients-l.ensures _ (store_serves _ _ _ _ _ _ _ _ c.in_ok-s.ensures.0 _ c.in_ok-s.ensures.1 c.if-s-eq0.false)

pub clear-requires : goal.clear-requires
clear-requires c =
    clear_fits _ _ _ _ _ _ _ _ c.in_ok-s.ensures.0 _ c.in_ok-s.ensures.1 _ c.product_work.ensures _ c.divide-2.ensures.frame

pub returns : goal.returns
returns c =
    parted_done _ _ _ _ _ _ _ _ c.in_ok-s.ensures.0 _ c.in_ok-s.ensures.1 c.in_ok-s.s.levels refl _ c.modulus-p.ensures _ _ c.coefficients-k.ensures
    c.coefficients-l.ensures _ _ _ _ c.divide-2.ensures _
    (work-cleared _ _ _ _ _ _ _ _ c.in_ok-s.ensures.0 _ c.in_ok-s.ensures.1 _ c.product_work.ensures c.if-s-eq0.false _ _ c.divide-2.ensures.frame c.clear.ensures)

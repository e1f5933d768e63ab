use Rattle.kernel.proofs.Multiplying.{product_refused, product_done, product_tested, product-some, multiply-ready, multiply-whole}
use Rattle.kernel.proofs.Slotting.{work_none, store_fits, cleared-none, clear_room, store_cleared}
use Rattle.kernel.proofs.Viewing.{shape-some}
use Rattle.std.proofs.lemmas.Result.{err_from_is_err_and}
use mathlib.Core.Path.{sym, ◌∙◌}
use native.Mathlib.Omega.{arith}
use Rattle.kernel.proofs.multiplication.multiplied.Goals as goal

pub returns-in_err-s : goal.returns-in_err-s
returns-in_err-s c = let p = err_from_is_err_and c.from_residual.result c.from_residual.ensures.1 in rw (p.1, p.2) (product_refused _ _ _ _ _ _ _ _ _ c.in_err-s.ensures)

pub coefficients-k-requires : goal.coefficients-k-requires
coefficients-k-requires c =
    (shape-some c.in_ok-s.s c.in_ok-s.ensures.1.known, product-some _ _ _ _ _ _ _ _ c.in_ok-s.ensures.0)

pub multiply-requires : goal.multiply-requires
multiply-requires c =
    multiply-ready _ _ _ _ _ _ _ _ c.in_ok-s.ensures.0 _ c.in_ok-s.ensures.1 _ c.modulus-q.ensures _ c.coefficients-k.ensures 0
    (sym c.if-s-eq0.true ∙ c.in_ok-s.ensures.1.levels) _ (omega (arith, work_none c.in_ok-s.s.degrees))

pub returns-then-s-eq0 : goal.returns-then-s-eq0
returns-then-s-eq0 c =
    product_done _ _ _ _ _ _ _ _ c.in_ok-s.ensures.0 _ _
    (multiply-whole _ _ _ _ _ _ _ _ c.in_ok-s.ensures.0 _ c.in_ok-s.ensures.1 _ c.modulus-q.ensures _ c.coefficients-k.ensures 0
    (sym c.if-s-eq0.true ∙ c.in_ok-s.ensures.1.levels) _ _ _ c.multiply.ensures)
    (cleared-none _ _ _ (sym c.in_ok-s.ensures.1.levels ∙ c.if-s-eq0.true))

pub multiply-requires-2 : goal.multiply-requires-2
multiply-requires-2 c =
    multiply-ready _ _ _ _ _ _ _ _ c.in_ok-s.ensures.0 _ c.in_ok-s.ensures.1 _ c.modulus-q.ensures _ c.coefficients-k.ensures c.in_ok-s.s.levels
    c.in_ok-s.ensures.1.levels _
    (store_fits _ _ _ _ _ _ _ _ _ _ (product_tested _ _ _ _ _ _ _ _ c.in_ok-s.ensures.0) _ c.in_ok-s.ensures.1 (omega (arith, c.if-s-eq0.false)))

pub clear-requires : goal.clear-requires
clear-requires c =
    clear_room _ _ _ _ _ _ _ _ _ _ (product_tested _ _ _ _ _ _ _ _ c.in_ok-s.ensures.0) _ c.in_ok-s.ensures.1 _ c.product_work.ensures _ _
    c.multiply-2.ensures.frame

pub returns : goal.returns
returns c =
    product_done _ _ _ _ _ _ _ _ c.in_ok-s.ensures.0 _ _
    (multiply-whole _ _ _ _ _ _ _ _ c.in_ok-s.ensures.0 _ c.in_ok-s.ensures.1 _ c.modulus-q.ensures _ c.coefficients-k.ensures c.in_ok-s.s.levels
    c.in_ok-s.ensures.1.levels _ _ _ c.multiply-2.ensures)
    (store_cleared _ _ _ _ _ _ _ _ _ _ (product_tested _ _ _ _ _ _ _ _ c.in_ok-s.ensures.0) _ c.in_ok-s.ensures.1 _ c.product_work.ensures
    (omega (arith, c.if-s-eq0.false)) _ _ c.multiply-2.ensures.frame c.clear.ensures)

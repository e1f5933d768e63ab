use Rattle.sequences.proofs.GcdLaws.{turns_asks, turns_fewer, turning_fits, turning_next, turning_stops}
use native.Mathlib.Omega.{arith}
use Rattle.std.proofs.lemmas.Result.{err_from_is_err_and}
use Rattle.sequences.proofs.gcd.turns.Goals as goal

pub overflow_add-left : goal.overflow_add-left
overflow_add-left c = omega (arith, turning_fits c.requires, c.max-left.ensures)

pub turn-requires : goal.turn-requires
turn-requires c = turns_asks c.loop-g.invariant.ready (omega (arith, c.loop-g-test.true))

pub loop-g-smaller : goal.loop-g-smaller
loop-g-smaller c =
    turns_fewer c.loop-g.invariant.ready (omega (arith, c.loop-g-test.true)) _ c.turn.ensures _ c.in_ok-count.was

pub loop-g-preserved : goal.loop-g-preserved
loop-g-preserved c =
    turning_next c.loop-g.invariant (omega (arith, c.loop-g-test.true)) _ c.turn.ensures _ c.in_ok-count.was

pub returns-in_err-count : goal.returns-in_err-count
returns-in_err-count c =
    let p = err_from_is_err_and c.from_residual.result c.from_residual.ensures.1 in
    rw (p.1, p.2) (turning_stops c.loop-g.invariant (omega (arith, c.loop-g-test.true)) _ c.turn.ensures _ c.in_err-count.was)

pub returns : goal.returns
returns c =
    c.loop-g.invariant.after _ _ c.end_turns.ensures

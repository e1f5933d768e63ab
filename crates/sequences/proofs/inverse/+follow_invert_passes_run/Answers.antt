use Rattle.arithmetic.specs.Sources.{lent, stored}
use Prim.Native.Nat.{ℕ, ◌^◌, ◌<◌}
use Rattle.arithmetic.specs.Walk.{pick}
use lib.ListN.{length}
use Rattle.sequences.proofs.FollowLaws.{searches, follows_zero, multiplies, inverts, scales, goes_on, stops}
use Rattle.sequences.proofs.FollowNumbers.{numbers_ask, numbers_follow}
use Rattle.sequences.proofs.InvertLaws.{invert-level, copies-inverse, gives_inverse, copies_divisor, gives_divisor}
use Rattle.sequences.proofs.PassLaws.{passes_fit, passing_asks, passing_follows, passing_fewer, passing_next, passing_stops, passing_closes, passing_ends}
use Rattle.sequences.proofs.RunWords.{Sizes, Slots, run_fits, run-reads, run-under, run_begins, run-count, run-place, run_inverts, run-underway, run-passes, run_stops}
use Rattle.sequences.proofs.StartLaws.{number_asks, number_done}
use native.Mathlib.Omega.{arith}
use Rattle.std.proofs.lemmas.Result.{err_from_is_err_and}
use Rattle.std.proofs.Common.{Err, ap, ◌∙◌}
use Rattle.sequences.proofs.inverse.+follow_invert_passes_run.Goals as goal
use Rattle.std.proofs.lemmas.Result.{err_from_is_err_and}
use Rattle.std.proofs.Common.{Err, ap, ◌∙◌}
use Rattle.sequences.proofs.inverse.+follow_invert_passes_run.Goals.{run-After-size_at}

sizes : (t : ℕ) (c : run-After-size_at t)
    → Sizes c.args.i c.args.d c.args.z
    c.degree_at-g.result c.size_at-s.result c.size_at.result
sizes t c = record {
  above = c.requires.0;
  degree-is = c.degree_at-g.ensures;
  size_is = c.size_at-s.ensures;
  whole_is = c.size_at.ensures;
}

slots : (t : ℕ) (c : run-After-size_at t) → Slots c.degree_at-g.result c.size_at-s.result c.args.top (2 ^ 63)
slots t c =
    let fits = run_fits c.requires (sizes t c) in
    (fits.0, fits.1, omega (arith, fits.2, c.well_formed))

pub follow-top_of-k-requires : goal.follow-top_of-k-requires
follow-top_of-k-requires t c =
    searches c.requires c.size_at-s.ensures

pub follow-returns-then-k-eq0 : goal.follow-returns-then-k-eq0
follow-returns-then-k-eq0 t c =
    follows_zero c.requires c.size_at-s.ensures c.top_of-k.ensures c.if-k-eq0.true

pub follow-follow_number-requires : goal.follow-follow_number-requires
follow-follow_number-requires t c =
    numbers_ask c.if-i-eq0.true c.requires c.size_at-s.ensures c.top_of-k.ensures (omega (arith, c.if-k-eq0.false))

pub follow-returns-then-i-eq0 : goal.follow-returns-then-i-eq0
follow-returns-then-i-eq0 t c =
    numbers_follow c.if-i-eq0.true c.requires c.size_at-s.ensures c.top_of-k.ensures (omega (arith, c.if-k-eq0.false)) c.follow_number.result c.follow_number.ensures

pub follow-times-requires : goal.follow-times-requires
follow-times-requires t c =
    multiplies c.requires c.size_at-s.ensures c.top_of-k.ensures (omega (arith, c.if-k-eq0.false)) c.part_at-free.ensures c.part_at.ensures

pub follow-invert-requires : goal.follow-invert-requires
follow-invert-requires t c =
    (omega (arith, c.decreases), inverts c.requires c.size_at-s.ensures c.top_of-k.ensures (omega (arith, c.if-k-eq0.false)) c.part_at-free.ensures c.part_at.ensures c.times.ensures)

pub follow-times-requires-2 : goal.follow-times-requires-2
follow-times-requires-2 t c =
    scales c.requires c.size_at-s.ensures c.top_of-k.ensures (omega (arith, c.if-k-eq0.false)) c.part_at-free.ensures c.part_at.ensures c.times.ensures c.invert.ensures
    c.in_ok-invert.was

pub follow-returns : goal.follow-returns
follow-returns t c =
    goes_on c.requires c.size_at-s.ensures c.top_of-k.ensures (omega (arith, c.if-k-eq0.false)) c.part_at-free.ensures c.part_at.ensures c.times.ensures c.invert.ensures
    c.in_ok-invert.was c.times-2.ensures

pub follow-returns-in_err-invert : goal.follow-returns-in_err-invert
follow-returns-in_err-invert t c =
    let p = err_from_is_err_and c.from_residual.result c.from_residual.ensures.1 in
    rw (p.1, p.2) (stops c.requires c.size_at-s.ensures c.top_of-k.ensures (omega (arith, c.if-k-eq0.false)) c.part_at-free.ensures c.part_at.ensures c.times.ensures c.invert.ensures _
    c.in_err-invert.was)

pub invert-invert_number-requires : goal.invert-invert_number-requires
invert-invert_number-requires t c =
    number_asks c.if-i-eq0.true c.requires

pub invert-returns-then-i-eq0 : goal.invert-returns-then-i-eq0
invert-returns-then-i-eq0 t c =
    number_done c.if-i-eq0.true c.requires c.invert_number.ensures

pub invert-copy-requires : goal.invert-copy-requires
invert-copy-requires t c =
    let q = copies-inverse c.requires c.run.ensures c.in-Ok.is c.size_at.ensures in
    ((q.to, q.from), q.apart)

pub invert-size_at-requires-in-Err-Factor : goal.invert-size_at-requires-in-Err-Factor
invert-size_at-requires-in-Err-Factor t c =
    omega (arith, invert-level c.requires c.run.ensures (c.in-Err-Factor.is ∙ ap Err c.in-Err-Factor.field-0-is))

pub invert-copy-requires-in-Err-Factor : goal.invert-copy-requires-in-Err-Factor
invert-copy-requires-in-Err-Factor t c =
    let q = copies_divisor c.requires c.run.ensures (c.in-Err-Factor.is ∙ ap Err c.in-Err-Factor.field-0-is) c.size_at-in-Err-Factor.ensures in
    ((q.to, q.from), q.apart)

pub invert-returns-in-Ok : goal.invert-returns-in-Ok
invert-returns-in-Ok t c =
    gives_inverse c.requires c.run.ensures c.in-Ok.is c.size_at.ensures c.copy.ensures

pub invert-returns-in-Err-Factor : goal.invert-returns-in-Err-Factor
invert-returns-in-Err-Factor t c =
    gives_divisor c.requires c.run.ensures (c.in-Err-Factor.is ∙ ap Err c.in-Err-Factor.field-0-is) c.size_at-in-Err-Factor.ensures c.copy-in-Err-Factor.ensures

pub passes-overflow_add-left : goal.passes-overflow_add-left
passes-overflow_add-left t c = omega (arith, passes_fit c.requires, c.well_formed)

pub passes-remainder-requires : goal.passes-remainder-requires
passes-remainder-requires t c =
    passing_asks c.requires c.loop-k.invariant c.loop-k-test.true

pub passes-follow-requires : goal.passes-follow-requires
passes-follow-requires t c =
    (omega (arith, c.decreases), passing_follows c.requires c.loop-k.invariant c.loop-k-test.true c.remainder.ensures)

pub passes-loop-k-smaller : goal.passes-loop-k-smaller
passes-loop-k-smaller t c =
    passing_fewer c.requires c.loop-k.invariant c.loop-k-test.true c.remainder.ensures _ c.follow.ensures _ c.in_ok-count.was

pub passes-loop-k-preserved : goal.passes-loop-k-preserved
passes-loop-k-preserved t c =
    passing_next c.requires c.loop-k.invariant c.loop-k-test.true c.remainder.ensures _ c.follow.ensures _ c.in_ok-count.was

pub passes-returns-in_err-count : goal.passes-returns-in_err-count
passes-returns-in_err-count t c =
    let p = err_from_is_err_and c.from_residual.result c.from_residual.ensures.1 in
    rw (p.1, p.2)
    (passing_stops c.requires c.loop-k.invariant c.loop-k-test.true c.remainder.ensures _ c.follow.ensures _ c.in_err-count.was)

pub passes-close-requires : goal.passes-close-requires
passes-close-requires t c =
    passing_closes c.requires c.loop-k.invariant (omega (arith, c.loop-k-test.false))

pub passes-returns : goal.passes-returns
passes-returns t c =
    passing_ends c.requires c.loop-k.invariant (omega (arith, c.loop-k-test.false)) c.close.result c.close.ensures

pub run-overflow_add-under-2 : goal.run-overflow_add-under-2
run-overflow_add-under-2 t c =
    let long : length (pick (stored c.args.e) c.args.w.now (lent c.args.e)) < 2 ^ 63 = grind (arith, c.well_formed) in
    record { fits = omega (arith, run-under c.requires (sizes t (goal.at.run-overflow_add-under-2 t c).After-size_at), long) }

pub run-overflow_add-slot : goal.run-overflow_add-slot
run-overflow_add-slot t c = record { fits = omega (arith, slots t (goal.at.run-overflow_add-slot t c).After-size_at) }

pub run-overflow_mul-slot : goal.run-overflow_mul-slot
run-overflow_mul-slot t c = record { fits = omega (arith, slots t (goal.at.run-overflow_mul-slot t c).After-size_at) }

pub run-overflow_add-slot-2 : goal.run-overflow_add-slot-2
run-overflow_add-slot-2 t c = record { fits = omega (arith, slots t (goal.at.run-overflow_add-slot-2 t c).After-size_at) }

pub run-overflow_mul-next : goal.run-overflow_mul-next
run-overflow_mul-next t c = record { fits = omega (arith, slots t (goal.at.run-overflow_mul-next t c).After-size_at) }

pub run-overflow_add-next : goal.run-overflow_add-next
run-overflow_add-next t c = record { fits = omega (arith, slots t (goal.at.run-overflow_add-next t c).After-size_at) }

pub run-count_in-n-requires : goal.run-count_in-n-requires
run-count_in-n-requires t c = run-reads c.requires

pub run-begin-requires : goal.run-begin-requires
run-begin-requires t c = run_begins c.requires (sizes t (goal.at.run-begin-requires t c).After-size_at)

pub run-overflow_mul-unit : goal.run-overflow_mul-unit
run-overflow_mul-unit t c = record { fits = omega (arith, slots t (goal.at.run-overflow_mul-unit t c).After-size_at) }

pub run-overflow_add-unit : goal.run-overflow_add-unit
run-overflow_add-unit t c = record { fits = omega (arith, slots t (goal.at.run-overflow_add-unit t c).After-size_at) }

pub run-overflow_add-g : goal.run-overflow_add-g
run-overflow_add-g t c = record { fits = omega (arith, slots t (goal.at.run-overflow_add-g t c).After-size_at) }

pub run-in_slot-f-requires : goal.run-in_slot-f-requires
run-in_slot-f-requires t c = omega (arith, slots t (goal.at.run-in_slot-f-requires t c).After-size_at)

pub run-overflow_add-unit-2 : goal.run-overflow_add-unit-2
run-overflow_add-unit-2 t c = record { fits = omega (arith, slots t (goal.at.run-overflow_add-unit-2 t c).After-size_at) }

pub run-overflow_sub-n : goal.run-overflow_sub-n
run-overflow_sub-n t c =
    let sized = sizes t (goal.at.run-overflow_sub-n t c).After-size_at in
    omega (arith, run-count c.requires sized c.count_in-n.ensures c.begin.ensures)

pub run-part_at-requires : goal.run-part_at-requires
run-part_at-requires t c =
    let sized = sizes t (goal.at.run-part_at-requires t c).After-size_at in
    omega (arith, run-place c.requires sized c.count_in-n.ensures c.begin.ensures c.in_slot-f.ensures c.in_slot-k.ensures, c.well_formed)

pub run-invert-requires : goal.run-invert-requires
run-invert-requires t c =
    let sized = sizes t (goal.at.run-invert-requires t c).After-size_at in
    (omega (arith, c.decreases, c.requires.0), run_inverts c.requires sized c.count_in-n.ensures c.begin.ensures c.in_slot-f.ensures c.in_slot-k.ensures c.part_at.ensures)

pub run-passes-requires : goal.run-passes-requires
run-passes-requires t c =
    let sized = sizes t (goal.at.run-passes-requires t c).After-size_at in (
      omega (arith, c.decreases, c.requires.0),
      run-underway c.requires sized c.count_in-n.ensures c.begin.ensures c.in_slot-f.ensures c.in_slot-k.ensures c.part_at.ensures
          c.invert.result c.invert.ensures c.in_ok-invert.was,
    )

pub run-returns : goal.run-returns
run-returns t c =
    let sized = sizes t (goal.at.run-returns t c).After-size_at in
    run-passes c.requires sized c.count_in-n.ensures c.begin.ensures c.in_slot-f.ensures c.in_slot-k.ensures c.part_at.ensures
    c.invert.result c.invert.ensures _ c.in_ok-invert.was c.passes.ensures

pub run-returns-in_err-invert : goal.run-returns-in_err-invert
run-returns-in_err-invert t c =
    let sized = sizes t (goal.at.run-returns-in_err-invert t c).After-size_at in
    let p = err_from_is_err_and c.from_residual.result c.from_residual.ensures.1 in
    rw (p.1, p.2) (run_stops c.requires sized c.count_in-n.ensures c.begin.ensures c.in_slot-f.ensures c.in_slot-k.ensures c.part_at.ensures
    c.invert.result c.invert.ensures _ c.in_err-invert.was)

use Rattle.sequences.proofs.GcdStarts.{gcd_second, gcd_stops_2, gcd-turns, gcd-sought, gcd-monic, gcd_end}
use Rattle.sequences.proofs.GcdSteps.{some_of}
use Rattle.std.proofs.lemmas.Result.{err_from_is_err_and}
use Rattle.sequences.proofs.gcd.gcd_led.Goals as goal

pub lead-requires : goal.lead-requires
lead-requires c = gcd_second c.requires

pub returns-in_err-lead : goal.returns-in_err-lead
returns-in_err-lead c =
    let p = err_from_is_err_and c.from_residual.result c.from_residual.ensures.1 in
    rw (p.1, p.2) (gcd_stops_2 c.requires c.lead.result c.lead.ensures _ c.in_err-lead.was)

pub monic-requires : goal.monic-requires
monic-requires c =
    gcd-monic c.requires c.lead.result c.lead.ensures c.in_ok-lead.was c.if-f-eq0.true

pub returns-then-f-eq0 : goal.returns-then-f-eq0
returns-then-f-eq0 c =
    gcd_end c.requires c.lead.result c.lead.ensures c.in_ok-lead.was c.if-f-eq0.true c.monic.result c.monic.ensures

pub turns-requires : goal.turns-requires
turns-requires c =
    gcd-turns c.requires c.lead.result c.lead.ensures c.in_ok-lead.was (some_of _ c.if-f-eq0.false)

pub returns : goal.returns
returns c =
    gcd-sought c.requires c.lead.result c.lead.ensures c.in_ok-lead.was (some_of _ c.if-f-eq0.false) c.turns.result c.turns.ensures

use Rattle.sequences.proofs.GcdStarts.{gcd-first, gcd_stops, gcd_leads, gcd-after}
use Rattle.std.proofs.lemmas.Result.{err_from_is_err_and}
use Rattle.sequences.proofs.gcd.gcd.Goals as goal

pub lead-requires : goal.lead-requires
lead-requires c = gcd-first c.requires

pub gcd_led-requires : goal.gcd_led-requires
gcd_led-requires c =
    gcd_leads c.requires c.lead.result c.lead.ensures c.in_ok-lead.was

pub returns : goal.returns
returns c =
    gcd-after c.requires c.lead.result c.lead.ensures c.in_ok-lead.was c.gcd_led.result c.gcd_led.ensures

pub returns-in_err-lead : goal.returns-in_err-lead
returns-in_err-lead c =
    let p = err_from_is_err_and c.from_residual.result c.from_residual.ensures.1 in
    rw (p.1, p.2) (gcd_stops c.requires c.lead.result c.lead.ensures _ c.in_err-lead.was)

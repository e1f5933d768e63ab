use Rattle.kernel.proofs.Showing.{shown_buffer}
use Rattle.tower.specs.Form.{seg}
use lib.ListN.{drop, length-take}
use native.Mathlib.Omega.{arith}
use Rattle.kernel.proofs.stops.show.Goals as goal

pub returns : goal.returns
returns c =
    let x = c.args in
    shown_buffer (seg x.at x.n x.v.now) x.f.now _ _ (omega (arith, length-take x.n (drop x.at x.v.now), c.requires.1)) c.clear.ensures c.copy_in.ensures

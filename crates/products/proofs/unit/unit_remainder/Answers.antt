use Rattle.products.proofs.Remainders.{counted, falling_asks}
use Rattle.products.proofs.Units.{unit_stood, unit_scale, unit_next, unit_end}
use mathlib.Core.Path.{refl, ◌∙◌}
use native.Mathlib.Omega.{arith}
use Rattle.products.proofs.unit.unit_remainder.Goals as goal

pub product-requires : goal.product-requires
product-requires c =
    let words = c.size_at-s.ensures ∙ c.requires.dividing.sized.at c.args.i c.requires.dividing.low in
    falling_asks c.requires.dividing c.loop-k-test.true c.loop-k.invariant (unit_stood c.requires) refl (counted words c.part_at-c.ensures)
    c.taken_at-o.ensures

pub scale_at-requires : goal.scale_at-requires
scale_at-requires c =
    let words = c.size_at-s.ensures ∙ c.requires.dividing.sized.at c.args.i c.requires.dividing.low in
    unit_scale c.requires c.loop-k-test.true c.loop-k.invariant refl (counted words c.part_at-c.ensures) (rw c.taken_at-o.ensures at c.product.ensures)

pub loop-k-preserved : goal.loop-k-preserved
loop-k-preserved c =
    let words = c.size_at-s.ensures ∙ c.requires.dividing.sized.at c.args.i c.requires.dividing.low in
    unit_next c.requires c.loop-k-test.true c.loop-k.invariant refl (counted words c.part_at-c.ensures) (rw c.taken_at-o.ensures at c.product.ensures)
    c.scale_at.ensures

pub returns : goal.returns
returns c = unit_end c.requires (omega (arith, c.loop-k-test.false)) c.loop-k.invariant

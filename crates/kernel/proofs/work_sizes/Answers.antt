use Rattle.kernel.proofs.Shapes.{size-found}
use Rattle.kernel.proofs.Working.{worked, sizes_given, sizes-plain}
use Rattle.tower.proofs.Working.{gcd-is}
use Rattle.tower.specs.Work.{product_work, inverse_work, gcd_work}
use mathlib.Core.Path.{ap₂, ◌∙◌}
use native.Mathlib.Omega.{arith}
use Rattle.kernel.proofs.work_sizes.Goals as goal

pub gcd_work-gcd-requires : goal.gcd_work-gcd-requires
gcd_work-gcd-requires c =
    let w = worked _ _ _ _ c.in-Ok.ensures.0 in
    let k = c.in-Ok.ensures.1.known in
    ((omega (arith, w.count_a, c.count.ensures), omega (arith, w.count_b, c.count-2.ensures)), (omega (arith, k.few), c.inverse_work-inverse.ensures.1))

pub returns : goal.returns
returns c =
    let is = c.in-Ok.ensures.1 in
    let inverse = c.inverse_work-inverse.ensures.0 ∙ ap₂ inverse_work is.degrees is.levels in
    record {
      given = sizes-plain c.args.e _ c.ranges.n c.ranges.a c.ranges.b
          (sizes_given _ _ _ _ c.in-Ok.ensures.0 _ _ _ (c.product_work-product.ensures ∙ ap₂ product_work is.degrees is.levels) inverse
          (gcd-is _ _ c.count.result c.count-2.result _ c.inverse_work-inverse.result c.gcd_work-gcd.result (size-found is) inverse c.gcd_work-gcd.ensures
          ∙ ap₂ (gcd_work _ _) c.count.ensures c.count-2.ensures));
    }

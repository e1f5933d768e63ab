use Rattle.std.proofs.Common.{refl}
use Rattle.arithmetic.proofs.Tiles.{tile-start, tile-next}
use Rattle.arithmetic.proofs.lines.tile.Goals as goal

pub loop-k-init : goal.loop-k-init
loop-k-init c = tile-start _ _ _ _ _ _ _

pub loop-k-preserved : goal.loop-k-preserved
loop-k-preserved c =
    tile-next c.loop-k.invariant c.loop-k-test.true refl refl c.product_at.ensures c.product_at-in-loop-k.ensures c.product_at-in-loop-k-2.ensures
    c.product_at-in-loop-k-3.ensures c.fold-low.ensures c.fold-middle.ensures c.fold-middle-in-loop-k.ensures c.fold-high.ensures

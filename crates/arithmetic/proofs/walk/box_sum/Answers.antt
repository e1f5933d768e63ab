-- `arithmetic::walk::box_sum` meets its contract: the longest of three ways is the innermost. Assumes nothing.
use Rattle.arithmetic.proofs.Boxes.{alike_ready, alike_sum, rows_below, rows_across, columns_below}
use Rattle.arithmetic.proofs.walk.box_sum.Goals as goal

pub add-requires : goal.add-requires
add-requires c = alike_ready (rows_below _ _ _ _ _) c.requires

pub returns-then-l-c : goal.returns-then-l-c
returns-then-l-c c = alike_sum (rows_below _ _ _ _ _) c.requires c.add.ensures

pub add-requires-then-run-l : goal.add-requires-then-run-l
add-requires-then-run-l c = alike_ready (rows_across _ _ _ _ _) c.requires

pub returns-then-run-l : goal.returns-then-run-l
returns-then-run-l c = alike_sum (rows_across _ _ _ _ _) c.requires c.add-then-run-l.ensures

pub add-requires-else-run-l : goal.add-requires-else-run-l
add-requires-else-run-l c = alike_ready (columns_below _ _ _ _ _) c.requires

pub returns-else-run-l : goal.returns-else-run-l
returns-else-run-l c = alike_sum (columns_below _ _ _ _ _) c.requires c.add-else-run-l.ensures

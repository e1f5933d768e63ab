-- `arithmetic::lines::tile` meets its contract. The loop has added what the first k pairs come to at the three places. Assumes nothing.
use Rattle.arithmetic.proofs.Tiles.{Tiled}
use Rattle.arithmetic.proofs.lines.tile.Given as goal

abbrev pub invariant-loop-k : goal.invariant-loop-k
invariant-loop-k l = Tiled l.x l.y l.n l.step l.a l.b l.fn.t l.k l.low l.middle l.high

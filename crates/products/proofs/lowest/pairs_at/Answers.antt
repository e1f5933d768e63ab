use Rattle.products.proofs.Pairings.{line_asks, line_summed}
use Rattle.products.specs.Product.{Two, operands}
use Rattle.products.proofs.lowest.pairs_at.Goals as goal

pub line-requires : goal.line-requires
line-requires c =
    let o : Two = operands c.args.o in
    rw (c.words-x.ensures, c.words-y.ensures)
    (line_asks c.args.d c.args.m o c.args.w.now c.args.k c.if-o-eq1.true c.requires.lowest c.requires.places c.requires.pairs)

pub returns-then-o-eq1 : goal.returns-then-o-eq1
returns-then-o-eq1 c =
    let o : Two = operands c.args.o in
    line_summed c.args.d c.args.m o c.args.w.now c.args.k c.if-o-eq1.true c.requires.lowest c.requires.places
    (rw (← c.words-x.ensures, ← c.words-y.ensures) c.line.ensures)

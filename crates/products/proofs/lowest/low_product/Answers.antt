use Rattle.products.proofs.Lowerings.{level-one, lowest_leaves, lowest_done}
use Rattle.products.proofs.Lowests.{single-ready, single_done}
use Rattle.products.proofs.lowest.low_product.Goals as goal

pub single-requires : goal.single-requires
single-requires c =
    single-ready c.if-j-eq0.true c.requires.1

pub returns-then-j-eq0 : goal.returns-then-j-eq0
returns-then-j-eq0 c =
    single_done c.if-j-eq0.true c.requires.1 c.single.ensures

pub leave-requires : goal.leave-requires
leave-requires c =
    let if1 = c.if-j-eq0 in
    lowest_leaves (level-one c.args.j c.requires.0 if1.false) c.requires.1 c.degree_at.ensures c.lowest.ensures

pub returns-else-j-eq0 : goal.returns-else-j-eq0
returns-else-j-eq0 c =
    let if1 = c.if-j-eq0 in
    let degree-at = c.degree_at in
    let lowest = c.lowest in
    lowest_done (level-one c.args.j c.requires.0 if1.false) c.requires.1 degree-at.ensures lowest.ensures c.leave.ensures

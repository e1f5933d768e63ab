use Rattle.products.proofs.AtOnce.{once_asks}
use Rattle.products.proofs.Lowerings.{lowest-some, lowest_few, lowering_ready, lowering_summed, lowering_writes, lowering_next, lowering_end}
use native.Mathlib.Omega.{arith}
use Rattle.products.proofs.lowest.lowest.Goals as goal

pub three-s-requires : goal.three-s-requires
three-s-requires c = once_asks 2 c.requires c.in-1-eq2.is-0 c.degree_at-g.ensures c.in-1-eq2.is-1 c.words.ensures c.words-in-1-eq2.ensures

pub seven-s-requires : goal.seven-s-requires
seven-s-requires c = once_asks 4 c.requires c.in-1-eq4.is-0 c.degree_at-g.ensures c.in-1-eq4.is-1 c.words-in-1-eq4.ensures c.words-in-1-eq4-2.ensures

pub wide_of-k-requires : goal.wide_of-k-requires
wide_of-k-requires c =
    let degree-at = c.degree_at-g in
    (omega (arith, degree-at.ensures, lowest-some c.requires), omega (arith, degree-at.ensures, lowest_few c.requires))

pub pairs_at-s-requires : goal.pairs_at-s-requires
pairs_at-s-requires c =
    let degree-at = c.degree_at-g in
    let loop = c.loop-k in
    let loop-test = c.loop-k-test in
    lowering_ready c.requires loop-test.true loop.invariant degree-at.ensures

pub write_at-requires : goal.write_at-requires
write_at-requires c =
    let degree-at = c.degree_at-g in
    let loop = c.loop-k in
    let loop-test = c.loop-k-test in
    let pairs-at = c.pairs_at-s in
    lowering_writes c.requires loop-test.true loop.invariant degree-at.ensures (lowering_summed c.requires loop-test.true loop.invariant pairs-at.ensures)

pub loop-k-preserved : goal.loop-k-preserved
loop-k-preserved c =
    let degree-at = c.degree_at-g in
    let loop = c.loop-k in
    let loop-test = c.loop-k-test in
    let pairs-at = c.pairs_at-s in
    let write-at = c.write_at in
    lowering_next c.requires loop-test.true loop.invariant degree-at.ensures
    (lowering_summed c.requires loop-test.true loop.invariant pairs-at.ensures) write-at.ensures

pub returns-after-loop-k : goal.returns-after-loop-k
returns-after-loop-k c = lowering_end c.requires (omega (arith, c.loop-k-test.false)) c.loop-k.invariant

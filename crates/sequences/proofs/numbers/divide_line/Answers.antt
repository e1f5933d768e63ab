use Prim.Native.Nat.{◌+◌}
use Rattle.sequences.proofs.LineRows.{quotient-start, quotient-at, quotient-next, quotient-both, quotient-left, quotient-row, quotient_middle, quotient_end}
use mathlib.Core.Path.{refl}
use native.Mathlib.Omega.{arith}
use Rattle.sequences.proofs.numbers.divide_line.Goals as goal

pub divide_at-requires : goal.divide_at-requires
divide_at-requires c = quotient-at c.requires (omega arith) (quotient-start c.requires)

pub divide_at-requires-2 : goal.divide_at-requires-2
divide_at-requires-2 c =
    let high = quotient-next c.requires (omega arith) (quotient-start c.requires) c.divide_at.ensures in
    quotient-at c.requires (omega arith) high

pub returns-then-g-eq0 : goal.returns-then-g-eq0
returns-then-g-eq0 c =
    let top = quotient-both c.requires c.divide_at.ensures c.divide_at-2.ensures in
    quotient_end c.requires c.if-g-eq0.true top

pub get_residue-r-requires : goal.get_residue-r-requires
get_residue-r-requires c =
    let top = quotient-both c.requires c.divide_at.ensures c.divide_at-2.ensures in
    let x = (quotient-left c.requires top (omega arith) (c.args.a + c.args.g + 1) (omega arith) (omega arith)).0 in
    (x.inside, x.narrow)

pub lose_row-requires : goal.lose_row-requires
lose_row-requires c =
    let top = quotient-both c.requires c.divide_at.ensures c.divide_at-2.ensures in
    quotient-row c.requires (omega (arith, c.if-g-eq0.false)) top c.get_residue-q.ensures c.get_residue-r.ensures

pub divide_at-requires-3 : goal.divide_at-requires-3
divide_at-requires-3 c =
    let top = quotient-both c.requires c.divide_at.ensures c.divide_at-2.ensures in
    let middle = quotient_middle c.requires (omega (arith, c.if-g-eq0.false)) top c.get_residue-q.ensures c.get_residue-r.ensures c.lose_row.ensures in
    quotient-at c.requires (omega arith) middle

pub returns : goal.returns
returns c =
    let top = quotient-both c.requires c.divide_at.ensures c.divide_at-2.ensures in
    let middle = quotient_middle c.requires (omega (arith, c.if-g-eq0.false)) top c.get_residue-q.ensures c.get_residue-r.ensures c.lose_row.ensures in
    quotient_end c.requires refl (quotient-next c.requires (omega arith) middle c.divide_at-3.ensures)

use Prim.Native.Nat.{◌+◌}
use Rattle.sequences.proofs.LineRows.{line-low_asks, line_low, line-left, line_row, line_middle, line_high_asks, line_end}
use native.Mathlib.Omega.{arith}
use Rattle.sequences.proofs.numbers.lose_line.Goals as goal

pub lose_dot-requires : goal.lose_dot-requires
lose_dot-requires c = line-low_asks c.requires

pub get_residue-q-requires : goal.get_residue-q-requires
get_residue-q-requires c =
    let x = (line-left c.requires (line_low c.requires c.lose_dot.ensures) c.args.a (omega arith) (omega arith)).0 in
    (x.inside, x.narrow)

pub get_residue-r-requires : goal.get_residue-r-requires
get_residue-r-requires c =
    let x = (line-left c.requires (line_low c.requires c.lose_dot.ensures) (c.args.a + 1) (omega arith) (omega arith)).0 in
    (x.inside, x.narrow)

pub lose_row-requires : goal.lose_row-requires
lose_row-requires c =
    line_row c.requires (line_low c.requires c.lose_dot.ensures) c.get_residue-q.ensures c.get_residue-r.ensures

pub lose_dot-requires-2 : goal.lose_dot-requires-2
lose_dot-requires-2 c =
    let low = line_low c.requires c.lose_dot.ensures in
    line_high_asks c.requires (line_middle c.requires low c.get_residue-q.ensures c.get_residue-r.ensures c.lose_row.ensures)

pub returns : goal.returns
returns c =
    let low = line_low c.requires c.lose_dot.ensures in
    let middle = line_middle c.requires low c.get_residue-q.ensures c.get_residue-r.ensures c.lose_row.ensures in
    line_end c.requires middle c.lose_dot-2.ensures

-- `arithmetic::lines::line` meets its contract. Assumes nothing.
use Rattle.std.proofs.Common.{arith}
use Rattle.arithmetic.proofs.LineSums.{line_inside, line-rows, line_columns, rows-line, columns_line, none-line}
use Rattle.arithmetic.proofs.lines.line.Goals as goal

pub returns-then-n-eq0 : goal.returns-then-n-eq0
returns-then-n-eq0 c = none-line c.args.x.now c.args.y.now c.args.g c.args.k c.args.n c.args.a c.args.b c.if-n-eq0.true

pub overflow_add-xa : goal.overflow_add-xa
overflow_add-xa c =
    let inside = line_inside c.requires.1 c.args.k c.requires.0 (omega (arith, c.if-n-eq0.false)) c.first_of-f.ensures in
    omega (arith, c.well_formed, inside.0)

pub overflow_add-xa-2 : goal.overflow_add-xa-2
overflow_add-xa-2 c =
    let inside = line_inside c.requires.1 c.args.k c.requires.0 (omega (arith, c.if-n-eq0.false)) c.first_of-f.ensures in
    omega (arith, c.well_formed, inside.0)

pub add-requires : goal.add-requires
add-requires c = line-rows c.requires.1 c.args.k c.requires.0 c.first_of-f.ensures c.span_of-c.ensures (omega (arith, c.if-n-eq0.false))

pub returns-then-n-c : goal.returns-then-n-c
returns-then-n-c c = rows-line c.requires.1 c.args.k c.requires.0 c.first_of-f.ensures c.span_of-c.ensures c.add.ensures

pub add-requires-else-n-c : goal.add-requires-else-n-c
add-requires-else-n-c c = line_columns c.requires.1 c.args.k c.requires.0 c.first_of-f.ensures c.span_of-c.ensures (omega (arith, c.if-n-eq0.false))

pub returns-else-n-c : goal.returns-else-n-c
returns-else-n-c c =
    columns_line c.requires.1 c.args.k c.requires.0 c.first_of-f.ensures c.span_of-c.ensures (omega (arith, c.if-n-eq0.false)) c.add-else-n-c.ensures

-- `lines::reading::operation_line` meets its contract, by the law of each operation. Assumes nothing.
use Rattle.lines.proofs.LineSays.{inv-said, one_unsaid, neither_said, gcd-said, div-said, mul-said, two_unsaid}
use mathlib.Core.Path.{sym}
use Rattle.lines.proofs.reading.operation_line.Goals as goal

pub returns-then-same-2 : goal.returns-then-same-2
returns-then-same-2 c = inv-said _ _ (sym c.if-same.ensures) (sym c.if-same-2.ensures)

pub returns-else-same-2 : goal.returns-else-same-2
returns-else-same-2 c = one_unsaid _ _ (sym c.if-same.ensures) (sym c.if-same-2.ensures)

pub returns-then-not-same : goal.returns-then-not-same
returns-then-not-same c = neither_said _ _ (sym c.if-same.ensures) (sym c.if-not-same.ensures)

pub returns-then-same-3 : goal.returns-then-same-3
returns-then-same-3 c = gcd-said _ _ (sym c.if-not-same.ensures) (sym c.if-same-3.ensures)

pub returns-then-same-4 : goal.returns-then-same-4
returns-then-same-4 c = div-said _ _ (sym c.if-not-same.ensures) (sym c.if-same-3.ensures) (sym c.if-same-4.ensures)

pub returns-then-same-5 : goal.returns-then-same-5
returns-then-same-5 c = mul-said _ _ (sym c.if-not-same.ensures) (sym c.if-same-3.ensures) (sym c.if-same-4.ensures) (sym c.if-same-5.ensures)

pub returns-else-same-5 : goal.returns-else-same-5
returns-else-same-5 c = two_unsaid _ _ (sym c.if-not-same.ensures) (sym c.if-same-3.ensures) (sym c.if-same-4.ensures) (sym c.if-same-5.ensures)

-- `lines::reading::read_line` meets its contract, by the law of each name. Assumes nothing.
use Rattle.lines.proofs.LineSays.{too_long, name_alone, after_field, after_ext, after-poly, after_operation}
use borrow.Author.Rules.{rules}
use mathlib.Core.Path.{sym}
use Rattle.lines.proofs.reading.read_line.Goals as goal

pub returns-then-text-gt-MOST_BYTES : goal.returns-then-text-gt-MOST_BYTES
returns-then-text-gt-MOST_BYTES c = too_long _ _ (search rules)

pub returns-then-end-text : goal.returns-then-end-text
returns-then-end-text c = name_alone c.field_end-end.ensures (search rules) _ c.if-end-text.true

pub returns-then-same : goal.returns-then-same
returns-then-same c =
    after_field c.field_end-end.ensures (search rules) (search rules) (sym c.if-same.ensures) c.field_line.ensures

pub returns-then-same-2 : goal.returns-then-same-2
returns-then-same-2 c =
    after_ext c.field_end-end.ensures (search rules) (search rules) (sym c.if-same.ensures) (sym c.if-same-2.ensures) c.ext_line.ensures

pub returns-then-same-3 : goal.returns-then-same-3
returns-then-same-3 c =
    after-poly c.field_end-end.ensures (search rules) (search rules) (sym c.if-same.ensures) (sym c.if-same-2.ensures) (sym c.if-same-3.ensures)
    c.poly_line.ensures

pub returns-else-same-3 : goal.returns-else-same-3
returns-else-same-3 c =
    after_operation c.field_end-end.ensures (search rules) (search rules) (sym c.if-same.ensures) (sym c.if-same-2.ensures) (sym c.if-same-3.ensures)
    c.operation_line.ensures

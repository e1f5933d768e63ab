-- `lines::reading::poly_line` meets its contract, by the laws of a name and of the words behind it. Assumes nothing.
use Rattle.lines.proofs.LineSays.{poly_alone}
use Rattle.lines.proofs.reading.poly_line.Goals as goal

pub returns-then-end-text : goal.returns-then-end-text
returns-then-end-text c = poly_alone c.field_end-end.ensures _ c.if-end-text.true

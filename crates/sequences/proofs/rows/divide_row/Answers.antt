use Rattle.sequences.proofs.NumberRows.{divide_numbers, divide-up}
use Rattle.sequences.proofs.RowLoops.{divide_asks}
use Rattle.sequences.proofs.rows.divide_row.Goals as goal

pub divide_numbers-requires : goal.divide_numbers-requires
divide_numbers-requires c = divide_numbers c.if-i-eq0.true c.requires

pub returns-then-i-eq0 : goal.returns-then-i-eq0
returns-then-i-eq0 c =
    divide-up c.if-i-eq0.true c.requires c.divide_numbers.ensures

pub unit_remainder-requires : goal.unit_remainder-requires
unit_remainder-requires c = divide_asks c.requires

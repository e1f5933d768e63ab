use Rattle.sequences.proofs.NumberLaws.{times_numbers, times-number}
use Rattle.sequences.proofs.RowLaws.{times_asks, times_done}
use mathlib.Core.Path.{refl}
use Rattle.sequences.proofs.rows.times.Goals as goal

pub times_numbers-requires : goal.times_numbers-requires
times_numbers-requires c = times_numbers c.if-i-eq0.true c.requires

pub returns-then-i-eq0 : goal.returns-then-i-eq0
returns-then-i-eq0 c =
    times-number c.if-i-eq0.true c.requires c.times_numbers.ensures

pub product-requires : goal.product-requires
product-requires c = times_asks c.requires refl

pub returns : goal.returns
returns c = times_done c.requires refl c.product.ensures

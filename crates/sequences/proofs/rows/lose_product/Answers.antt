use Rattle.sequences.proofs.NumberRows.{lose_numbers, lose_up}
use Rattle.sequences.proofs.RowLaws.{acting_size}
use Rattle.sequences.proofs.RowLoops.{met, losing_count, losing_places, losing_asks, losing_next, losing_end}
use mathlib.Core.Path.{refl}
use native.Mathlib.Omega.{arith}
use Rattle.sequences.proofs.rows.lose_product.Goals as goal

pub lose_numbers-requires : goal.lose_numbers-requires
lose_numbers-requires c = lose_numbers c.if-i-eq0.true c.requires

pub returns-then-i-eq0 : goal.returns-then-i-eq0
returns-then-i-eq0 c =
    lose_up c.if-i-eq0.true c.requires c.lose_numbers.ensures

pub overflow_add-k-end : goal.overflow_add-k-end
overflow_add-k-end c = record { fits = omega (arith, losing_count c.requires, c.well_formed) }

pub first_of-requires : goal.first_of-requires
first_of-requires c =
    omega (arith, losing_places c.requires c.loop-k.invariant c.loop-k-test.true, c.well_formed)

pub span_of-q-requires : goal.span_of-q-requires
span_of-q-requires c =
    let places = losing_places c.requires c.loop-k.invariant c.loop-k-test.true in
    (omega (arith, places), omega (arith, places, c.well_formed))

pub product-requires : goal.product-requires
product-requires c =
    let words = acting_size c.requires.acting c.size_at-s.ensures in
    let places = met words c.part_at-x.ensures c.first_of.ensures c.part_at-y.ensures c.first_of-in-loop-k.ensures c.span_of-q.ensures c.part_at-at.ensures in
    losing_asks c.requires c.loop-k.invariant c.loop-k-test.true refl places

pub loop-k-preserved : goal.loop-k-preserved
loop-k-preserved c =
    let words = acting_size c.requires.acting c.size_at-s.ensures in
    let places = met words c.part_at-x.ensures c.first_of.ensures c.part_at-y.ensures c.first_of-in-loop-k.ensures c.span_of-q.ensures c.part_at-at.ensures in
    losing_next c.requires c.loop-k.invariant c.loop-k-test.true refl places refl c.product.ensures

pub returns : goal.returns
returns c = losing_end c.requires (omega (arith, c.loop-k-test.false)) c.loop-k.invariant

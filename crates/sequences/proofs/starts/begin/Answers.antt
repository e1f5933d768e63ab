use Rattle.sequences.proofs.SlotLaws.{begin_slots, begin-modulus, begin-element, begun}
use native.Mathlib.Omega.{arith}
use Rattle.sequences.proofs.starts.begin.Goals as goal

pub overflow_add-slot : goal.overflow_add-slot
overflow_add-slot c = record { fits = omega (arith, begin_slots c.requires, c.well_formed) }

pub overflow_add-g : goal.overflow_add-g
overflow_add-g c = record { fits = omega (arith, begin_slots c.requires, c.well_formed) }

pub bring-requires : goal.bring-requires
bring-requires c = begin-modulus c.requires

pub bring-requires-2 : goal.bring-requires-2
bring-requires-2 c = begin-element c.requires c.bring.ensures.kept.long

pub returns : goal.returns
returns c =
    begun c.requires c.bring.ensures c.bring-2.ensures c.zeros.ensures c.zeros-2.ensures c.one.ensures c.one-2.ensures

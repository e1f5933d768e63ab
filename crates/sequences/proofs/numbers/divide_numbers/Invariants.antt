use Rattle.products.proofs.Units.{UnitFalling}
use lib.ListN.{length}
use mathlib.Core.Bool.{true}
use mathlib.Core.List.{[]}
use Rattle.sequences.proofs.numbers.divide_numbers.Given as goal

abbrev pub invariant-loop-k : goal.invariant-loop-k
invariant-loop-k l = UnitFalling 0 [] l.p [] true 0 [] true l.b l.g [] true l.u l.initial.w l.a l.cap (length l.initial.w) l.k l.w

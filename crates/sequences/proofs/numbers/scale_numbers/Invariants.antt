use Rattle.sequences.proofs.RowLoops.{Scaling}
use lib.ListN.{length}
use mathlib.Core.Bool.{true}
use mathlib.Core.List.{[]}
use Rattle.sequences.proofs.numbers.scale_numbers.Given as goal

abbrev pub invariant-loop-k : goal.invariant-loop-k
invariant-loop-k l = Scaling 0 l.n [] l.p [] true 0 l.u l.initial.w l.c (length l.initial.w) l.k l.w

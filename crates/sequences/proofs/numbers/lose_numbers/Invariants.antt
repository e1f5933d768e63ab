use Rattle.sequences.proofs.NumberRows.{LosingNumbers}
use Rattle.sequences.proofs.numbers.lose_numbers.Given as goal

abbrev pub invariant-loop-k : goal.invariant-loop-k
invariant-loop-k l = LosingNumbers l.p l.a l.m l.b l.n l.initial.w l.c l.k l.w

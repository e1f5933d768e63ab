use Prim.Native.Nat.{◌≤◌}
use Rattle.sequences.specs.Numbers.{LoseRowDone}
use Rattle.sequences.proofs.numbers.lose_row.Given as goal

abbrev pub invariant-loop-k : goal.invariant-loop-k
invariant-loop-k l = (l.k ≤ l.n) × LoseRowDone l.p l.q l.r l.b l.k l.initial.w l.w l.c

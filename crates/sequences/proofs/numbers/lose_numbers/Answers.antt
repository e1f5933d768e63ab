use Prim.Native.Nat.{◌+◌}
use Rattle.sequences.proofs.NumberRows.{met-words, losing_dot, losing_word}
use Rattle.sequences.proofs.RowLoops.{losing_end}
use mathlib.Core.List.{[]}
use mathlib.Core.Path.{refl, ap}
use native.Mathlib.Omega.{arith}
use Rattle.sequences.proofs.numbers.lose_numbers.Goals as goal

pub lose_dot-requires : goal.lose_dot-requires
lose_dot-requires c =
    let a = c.args.a in
    let b = c.args.b in
    losing_dot c.requires c.loop-k.invariant c.loop-k-test.true
    (met-words [] (ap (λ x. a + x) c.first_of.ensures) (ap (λ x. b + x) c.first_of-in-loop-k.ensures) c.span_of.ensures refl)

pub loop-k-preserved : goal.loop-k-preserved
loop-k-preserved c =
    let a = c.args.a in
    let b = c.args.b in
    losing_word c.requires c.loop-k.invariant c.loop-k-test.true
    (met-words [] (ap (λ x. a + x) c.first_of.ensures) (ap (λ x. b + x) c.first_of-in-loop-k.ensures) c.span_of.ensures refl) refl c.lose_dot.ensures

pub returns : goal.returns
returns c = losing_end c.requires (omega (arith, c.loop-k-test.false)) c.loop-k.invariant

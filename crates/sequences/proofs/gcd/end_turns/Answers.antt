use Rattle.sequences.proofs.GcdLaws.{turns-one, turns-monic, turns_end}
use native.Mathlib.Omega.{arith}
use Rattle.sequences.proofs.gcd.end_turns.Goals as goal

pub returns-then-g-eq1 : goal.returns-then-g-eq1
returns-then-g-eq1 c = turns-one c.requires.1 c.if-g-eq1.true c.one.ensures

pub monic-requires : goal.monic-requires
monic-requires c =
    turns-monic c.requires.1 (omega (arith, c.requires.0, c.if-g-eq1.false))

pub returns : goal.returns
returns c =
    turns_end c.requires.1 (omega (arith, c.requires.0, c.if-g-eq1.false)) c.monic.result c.monic.ensures

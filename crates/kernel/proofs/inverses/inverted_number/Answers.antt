use Rattle.kernel.proofs.Reaching.{number-ready, number-some, number-inverse, number-stop, number-stopped}
use mathlib.Core.Path.{refl}
use native.Mathlib.Omega.{arith}
use Rattle.kernel.proofs.inverses.inverted_number.Goals as goal

pub invert-requires : goal.invert-requires
invert-requires c = number-ready c.requires.1 _ c.requires.0 _ c.modulus-q.ensures _ refl

pub copy_in-requires : goal.copy_in-requires
copy_in-requires c =
    let some = number-some c.requires.1 _ c.requires.0 _ c.modulus-q.ensures in
    (omega (arith, c.invert.ensures.frame.long), omega (arith, some.0))

pub stopped-requires : goal.stopped-requires
stopped-requires c =
    number-stop c.requires.1 _ c.requires.0 _ c.modulus-q.ensures _ _ c.invert.result c.invert.ensures (omega (arith, c.invert.ensures.frame.long)) _ c.in-Err.is

pub returns-in-Ok : goal.returns-in-Ok
returns-in-Ok c =
    number-inverse c.requires.1 _ c.requires.0 _ c.modulus-q.ensures _ _ c.invert.result c.invert.ensures c.in-Ok.is _ c.copy_in.ensures

pub returns-in-Err : goal.returns-in-Err
returns-in-Err c =
    number-stopped c.requires.1 _ c.requires.0 _ c.modulus-q.ensures _ _ c.invert.result c.invert.ensures _ c.in-Err.is _ _ c.stopped.ensures

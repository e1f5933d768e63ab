-- Laws of what is kept between lines, as a state.
--
-- begun == what is kept before the first line
use mathlib.Core.List.{[], ◌∷◌}
use mathlib.Core.Path.{refl}
use native.Mathlib.Omega.{arith}
use Rattle.std.proofs.Common.{None}
use lib.IntN.{pos}
use lib.ListN.{drop_of_length-le}
use Rattle.lines.specs.Kept.{Begins, tower-words}
use Rattle.lines.specs.Steps.{nothing}

pub begun : Begins (record { field = None; levels = 0; degrees = pos 0 ∷ pos 0 ∷ pos 0 ∷ pos 0 ∷ []; tower = tower-words; a = 0; b = 0 }) nothing
begun = record {
  sound = record {
    levels_few = omega arith;
    tower_inside = omega arith;
    tower_room = omega arith;
    a_inside = omega arith;
    b_inside = omega arith;
    degrees_four = refl;
    none = λ off. (refl, refl);
  };
  state = λ tower a b h. rw (drop_of_length-le tower {i = tower-words} (omega arith)) refl;
}

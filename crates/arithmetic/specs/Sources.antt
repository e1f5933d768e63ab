-- Words to read, of a lent list or of the store.
--
-- stored s == whether the words stand in the store
-- lent s   == the lent list, [] where there is none
use Rattle.std.specs.Prelude.{Bool, List, ℤ, [], is_none}
use Rattle.std.specs.Option.{option_map_or}
use Rattle.arithmetic.specs.declared.places.Source.{Source}

abbrev pub stored : Source → Bool
stored s = is_none s.lent

abbrev pub lent : Source → List ℤ
lent s = option_map_or (λ x. x.now) s.lent []

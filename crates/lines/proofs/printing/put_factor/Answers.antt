-- `lines::printing::put_factor` meets its contract, by the level. Assumes nothing.
use Rattle.lines.proofs.Slotted.{factor_some, factor_room}
use Rattle.lines.proofs.printing.put_factor.Goals as goal

pub word_at-requires : goal.word_at-requires
word_at-requires c = factor_some c.requires

pub put_degree-requires : goal.put_degree-requires
put_degree-requires c = factor_room c.requires

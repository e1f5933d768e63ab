use Rattle.sequences.proofs.StartLaws.{finish-settle, finished}
use Rattle.sequences.proofs.starts.finish.Goals as goal

pub settle-requires : goal.settle-requires
settle-requires c = finish-settle c.requires c.zeros.ensures.kept.long

pub returns : goal.returns
returns c =
    finished c.requires c.part_at.ensures c.zeros.ensures c.settle.ensures

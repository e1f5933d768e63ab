use Rattle.sequences.proofs.StartLaws.{next_done, shows_put, shows_done}
use Rattle.sequences.proofs.starts.follow_number.Goals as goal

pub put-requires-in-Err : goal.put-requires-in-Err
put-requires-in-Err c =
    shows_put c.requires c.get_residue.ensures c.inverse.ensures c.in-Err.is

pub returns-in-Ok : goal.returns-in-Ok
returns-in-Ok c =
    next_done c.requires c.get_residue.ensures c.inverse.ensures c.in-Ok.is c.put.ensures

pub returns-in-Err : goal.returns-in-Err
returns-in-Err c =
    shows_done c.requires c.get_residue.ensures c.inverse.ensures c.in-Err.is c.put-in-Err.ensures

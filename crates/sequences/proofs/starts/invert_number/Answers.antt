use Rattle.sequences.proofs.StartLaws.{unit_done, factor_put, factor_done}
use Rattle.sequences.proofs.starts.invert_number.Goals as goal

pub put-requires-in-Err : goal.put-requires-in-Err
put-requires-in-Err c =
    factor_put c.requires c.residue_in.ensures c.inverse.ensures c.in-Err.is

pub returns-in-Ok : goal.returns-in-Ok
returns-in-Ok c =
    unit_done c.requires c.residue_in.ensures c.inverse.ensures c.in-Ok.is c.put.ensures

pub returns-in-Err : goal.returns-in-Err
returns-in-Err c =
    factor_done c.requires c.residue_in.ensures c.inverse.ensures c.in-Err.is c.put-in-Err.ensures

-- `lines::answers::div` meets its contract: what the call leaves may be printed, and the line is that of its answer. Assumes nothing.
use Rattle.lines.proofs.Done.{div-ready}
use Rattle.lines.proofs.answers.div.Goals as goal

pub answer_line-requires : goal.answer_line-requires
answer_line-requires c =
    let call = c.division-answer.ensures.given in
    let level = c.nat.ensures in
    div-ready call level c.requires.0 c.requires.1

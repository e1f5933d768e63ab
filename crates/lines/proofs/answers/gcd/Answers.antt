-- `lines::answers::gcd` meets its contract: what the call leaves may be printed, and the line is that of its answer. Assumes nothing.
use Rattle.lines.proofs.Done.{gcd-ready}
use Rattle.lines.proofs.answers.gcd.Goals as goal

pub answer_line-requires : goal.answer_line-requires
answer_line-requires c =
    let call = c.gcd-answer.ensures.given in
    let level = c.nat.ensures in
    gcd-ready call level c.requires.0 c.requires.1

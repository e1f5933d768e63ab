-- `lines::answers::mul` meets its contract: what the call leaves may be printed, and the line is that of its answer. Assumes nothing.
use Rattle.lines.proofs.Done.{mul-ready}
use Rattle.lines.proofs.answers.mul.Goals as goal

pub answer_line-requires : goal.answer_line-requires
answer_line-requires c =
    let call = c.product-answer.ensures.given in
    let level = c.nat.ensures in
    mul-ready call level c.requires

use Rattle.kernel.proofs.Viewing.{ready_a, ready_b}
use Rattle.kernel.proofs.views.leading.Goals as goal

pub count_at-requires : goal.count_at-requires
count_at-requires c = (ready_a _ _ _ _ _ _ c.in-Ok.ensures.0 _ c.in-Ok.ensures.1).0

pub count_at-requires-2 : goal.count_at-requires-2
count_at-requires-2 c = (ready_b _ _ _ _ _ _ c.in-Ok.ensures.0 _ c.in-Ok.ensures.1).0

pub leading_words-requires : goal.leading_words-requires
leading_words-requires c = ready_b _ _ _ _ _ _ c.in-Ok.ensures.0 _ c.in-Ok.ensures.1

pub leading_words-requires-else-count_at : goal.leading_words-requires-else-count_at
leading_words-requires-else-count_at c = ready_a _ _ _ _ _ _ c.in-Ok.ensures.0 _ c.in-Ok.ensures.1

use Rattle.tower.proofs.Laws.{sized_of}
use Rattle.tower.proofs.sizes.sizes.Goals as goal

pub returns : goal.returns
returns c =
    sized_of c.args.d _ _ _ _ c.room-a.ensures.0 c.room-b.ensures.0 c.room-c.ensures.0 c.room-e.ensures.0

use Rattle.sequences.proofs.PassSteps.{remainder-loses}
use Rattle.sequences.proofs.inverse.remainder.Goals as goal

pub lose_product-requires : goal.lose_product-requires
lose_product-requires c =
    remainder-loses c.args.f c.args.k c.divide_row.ensures c.part_at-q.ensures c.requires

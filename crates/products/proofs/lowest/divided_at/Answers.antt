use Prim.Native.Nat.{◌+◌}
use Rattle.products.proofs.Dots.{at-dot}
use mathlib.Core.Path.{ap, sym}
use Rattle.products.proofs.lowest.divided_at.Goals as goal

pub dot-requires : goal.dot-requires
dot-requires c =
    at-dot c.requires (ap (λ n. c.args.e.at + 1 + n) c.first_of.ensures) (ap (λ n. c.args.top + c.args.g + n) c.first_of-2.ensures) c.span_of-c.ensures
    (sym c.words.ensures)

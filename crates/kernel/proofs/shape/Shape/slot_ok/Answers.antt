use Prim.Native.Nat.{◌+◌, ◌*◌}
use Rattle.kernel.proofs.Shapes.{size-positive, slot-words, slot_row, slot_whole}
use Rattle.tower.specs.Form.{seg, slot_form}
use Rattle.tower.specs.Ready.{Row}
use Rattle.tower.specs.Writing.{size}
use lib.ListN.{length}
use mathlib.Core.Path.{sym, ap, ◌∙◌, subst}
use native.Mathlib.Omega.{arith}
use Rattle.kernel.proofs.shape.Shape.slot_ok.Goals as goal

pub coefficients-k-requires : goal.coefficients-k-requires
coefficients-k-requires c =
    (size-positive c.args.self c.args.a.now c.requires.0 c.requires.1, omega (arith, slot-words c.args.self (length c.args.a.now) c.requires.1))

pub row-requires : goal.row-requires
row-requires c =
    subst (λ k. Row c.args.self.levels k c.args.self.degrees c.args.self.sizes c.args.a.now 0) (sym c.coefficients-k.ensures)
    (slot_row c.args.self c.args.a.now c.requires.0 c.requires.1)

pub returns : goal.returns
returns c =
    c.row.ensures
    ∙ ap
    (λ k. slot_form c.args.p c.args.self.degrees c.args.self.levels k (seg 0 (k * size c.args.self.degrees c.args.self.levels + 1) c.args.a.now))
    c.coefficients-k.ensures
    ∙ slot_whole c.args.self c.args.a.now c.requires.0 c.requires.1 c.args.p

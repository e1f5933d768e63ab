use Rattle.kernel.proofs.Range.{shape_levels, shape-degrees, shape_fine, shape_big}
use Rattle.kernel.proofs.Shapes.{shape-made}
use Rattle.kernel.proofs.Told.{of_word, told}
use Rattle.residue.specs.Word.{num}
use Rattle.tower.specs.Limits.{levels_ok}
use mathlib.Core.Path.{sym, ◌∙◌}
use Rattle.kernel.proofs.shape.shape_of.Goals as goal

pub returns-then-not-levels_ok : goal.returns-then-not-levels_ok
returns-then-not-levels_ok c =
    shape_levels c.args.n c.args.e (told levels_ok c.ranges.n c.levels_ok.ensures c.if-not-levels_ok.true)

pub returns-then-not-degrees_ok : goal.returns-then-not-degrees_ok
returns-then-not-degrees_ok c =
    shape-degrees c.args.n c.args.e c.nat-levels.result (c.nat-levels.ensures ∙ of_word num c.ranges.n)
    (told levels_ok c.ranges.n c.levels_ok.ensures c.if-not-levels_ok.false) (sym c.degrees_ok.ensures ∙ c.if-not-degrees_ok.true)

pub returns-then-size-gt2048 : goal.returns-then-size-gt2048
returns-then-size-gt2048 c =
    shape_big c.args.n c.args.e c.nat-levels.result c.sizes-z.result c.size_at-size.result (c.nat-levels.ensures ∙ of_word num c.ranges.n)
    (told levels_ok c.ranges.n c.levels_ok.ensures c.if-not-levels_ok.false) (sym c.degrees_ok.ensures ∙ c.if-not-degrees_ok.false)
    (rw c.degrees-d.ensures at c.sizes-z.ensures) c.size_at-size.ensures c.if-size-gt2048.true

pub returns : goal.returns
returns c =
    let none = shape_fine c.args.n c.args.e c.nat-levels.result c.sizes-z.result c.size_at-size.result (c.nat-levels.ensures ∙ of_word num c.ranges.n)
    (told levels_ok c.ranges.n c.levels_ok.ensures c.if-not-levels_ok.false) (sym c.degrees_ok.ensures ∙ c.if-not-degrees_ok.false)
    (rw c.degrees-d.ensures at c.sizes-z.ensures) c.size_at-size.ensures c.if-size-gt2048.false in (
      none,
      shape-made c.args.n c.args.e (sym none) c.nat-levels.result c.degrees-d.result c.sizes-z.result c.size_at-size.result
          (c.nat-levels.ensures ∙ of_word num c.ranges.n) c.degrees-d.ensures c.sizes-z.ensures c.size_at-size.ensures,
    )

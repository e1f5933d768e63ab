use Prim.Native.Nat.{◌+◌}
use Rattle.tower.proofs.Laws.{row as row_fits}
use Rattle.tower.proofs.Moduli.{level, left-none, bad_degree, bad_element, bad_one, next}
use mathlib.Core.Path.{◌∙◌}
use native.Mathlib.Omega.{arith}
use Rattle.tower.proofs.form.tower.Goals as goal

pub degree_is-requires : goal.degree_is-requires
degree_is-requires c =
    let v = level c.levels.invariant.1 c.degree_at-m.ensures (c.size_at-s.ensures ∙ c.requires.sized.at _ (omega (arith, c.requires.low))) (omega arith) in
    (omega (arith, v.fits), omega (arith, v.fits, v.few, c.well_formed))

pub overflow_add-k-end : goal.overflow_add-k-end
overflow_add-k-end c =
    let v = level c.levels.invariant.1 c.degree_at-m.ensures (c.size_at-s.ensures ∙ c.requires.sized.at _ (omega (arith, c.requires.low))) (omega arith) in
    omega (arith, v.fits, v.few, c.well_formed)

pub coefficient_at-requires : goal.coefficient_at-requires
coefficient_at-requires c =
    let v = level c.levels.invariant.1 c.degree_at-m.ensures (c.size_at-s.ensures ∙ c.requires.sized.at _ (omega (arith, c.requires.low))) (omega arith) in
    omega (arith, v.fits, row_fits c.loop-k.k (c.degree_at-m.result + 1) c.size_at-s.result (omega arith), c.well_formed)

pub element-requires : goal.element-requires
element-requires c =
    let v = level c.levels.invariant.1 c.degree_at-m.ensures (c.size_at-s.ensures ∙ c.requires.sized.at _ (omega (arith, c.requires.low))) (omega arith) in
    let q = row_fits c.loop-k.k (c.degree_at-m.result + 1) c.size_at-s.result (omega arith) in
    record { low = omega (arith, c.requires.low); sized = c.requires.sized; inside = omega (arith, v.fits, v.sized, c.coefficient_at.ensures) }

pub coefficient_at-requires-in-levels : goal.coefficient_at-requires-in-levels
coefficient_at-requires-in-levels c =
    let v = level c.levels.invariant.1 c.degree_at-m.ensures (c.size_at-s.ensures ∙ c.requires.sized.at _ (omega (arith, c.requires.low))) (omega arith) in
    omega (arith, v.fits, c.well_formed)

pub one_at-requires : goal.one_at-requires
one_at-requires c =
    let v = level c.levels.invariant.1 c.degree_at-m.ensures (c.size_at-s.ensures ∙ c.requires.sized.at _ (omega (arith, c.requires.low))) (omega arith) in
    omega (arith, v.fits, v.some, c.coefficient_at-in-levels.ensures)

pub coefficient_at-a-requires : goal.coefficient_at-a-requires
coefficient_at-a-requires c =
    let v = level c.levels.invariant.1 c.degree_at-m.ensures (c.size_at-s.ensures ∙ c.requires.sized.at _ (omega (arith, c.requires.low))) (omega arith) in
    omega (arith, v.fits, c.well_formed)

pub levels-preserved : goal.levels-preserved
levels-preserved c =
    let v = level c.levels.invariant.1 c.degree_at-m.ensures (c.size_at-s.ensures ∙ c.requires.sized.at _ (omega (arith, c.requires.low))) (omega arith) in (
      c.loop-k.invariant.0,
      next _ _ _ _ _ _ _ (omega arith) c.levels.invariant.1 v c.loop-k.k c.loop-k-test.false c.loop-k.auto.k-end c.loop-k.invariant.1 _ c.coefficient_at-in-levels.ensures
          c.one_at.result c.one_at.ensures c.degree_is.result c.degree_is.ensures c.if-not-degree_is.false c.if-not-one_at.false _ c.coefficient_at-a.ensures,
    )

pub returns-after-levels : goal.returns-after-levels
returns-after-levels c = c.levels.invariant.0 ∙ left-none _ _ _ _ _ _ (omega arith) c.levels.invariant.1

pub returns-then-not-degree_is : goal.returns-then-not-degree_is
returns-then-not-degree_is c =
    bad_degree _ _ _ _ _ _ _ (omega arith) c.levels.invariant.1 _ c.degree_at-m.ensures c.degree_is.ensures c.if-not-degree_is.true

pub returns-then-not-element : goal.returns-then-not-element
returns-then-not-element c =
    let v = level c.levels.invariant.1 c.degree_at-m.ensures (c.size_at-s.ensures ∙ c.requires.sized.at _ (omega (arith, c.requires.low))) (omega arith) in
    bad_element _ _ _ _ _ _ _ (omega arith) c.levels.invariant.1 v _ _ _ c.loop-k-test.true c.coefficient_at.ensures c.element.ensures c.if-not-element.true

pub returns-then-not-one_at : goal.returns-then-not-one_at
returns-then-not-one_at c =
    let v = level c.levels.invariant.1 c.degree_at-m.ensures (c.size_at-s.ensures ∙ c.requires.sized.at _ (omega (arith, c.requires.low))) (omega arith) in
    bad_one _ _ _ _ _ _ _ (omega arith) c.levels.invariant.1 v c.loop-k.k c.loop-k-test.false c.loop-k.auto.k-end c.loop-k.invariant.1 _ c.coefficient_at-in-levels.ensures
    _ c.one_at.ensures c.if-not-one_at.true

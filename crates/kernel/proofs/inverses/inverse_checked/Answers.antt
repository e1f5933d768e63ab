use Rattle.kernel.proofs.Inverting.{inverse-first, inverse_short, element_inside, inverse_bad, inverse_few, inverse_end}
use Rattle.kernel.proofs.Told.{handed_on}
use Rattle.tower.specs.Writing.{size-pos}
use mathlib.Core.Bool.{true, false}
use native.Mathlib.Omega.{arith}
use Rattle.kernel.proofs.inverses.inverse_checked.Goals as goal

pub returns-in_err-s : goal.returns-in_err-s
returns-in_err-s c = handed_on _ _ _ _ _ c.from_residual.ensures.1 (inverse-first _ _ _ _ _ _ _ _ _ c.in_err-s.ensures)

pub returns-then-not-three_elements : goal.returns-then-not-three_elements
returns-then-not-three_elements c = inverse_short _ _ _ _ _ _ _ _ c.in_ok-s.ensures.0 _ c.in_ok-s.ensures.1 c.if-not-three_elements.ensures

pub returns-then-not-element : goal.returns-then-not-element
returns-then-not-element c =
    inverse_bad _ _ _ _ _ _ _ _ c.in_ok-s.ensures.0 _ c.in_ok-s.ensures.1 c.if-not-three_elements.ensures _ c.modulus.ensures c.if-not-element.ensures

pub returns-then-v-inverse_work : goal.returns-then-v-inverse_work
returns-then-v-inverse_work c =
    inverse_few _ _ _ _ _ _ _ _ c.in_ok-s.ensures.0 _ c.in_ok-s.ensures.1 c.if-not-three_elements.ensures _ c.modulus.ensures c.if-not-element.ensures
    _ c.inverse_work.ensures.0 c.if-v-inverse_work.true

pub is_zero-requires : goal.is_zero-requires
is_zero-requires c =
    omega (
      arith,
      element_inside _ _ _ _ _ c.args.r.now c.args.f.now c.args.v.now c.in_ok-s.ensures.0 _ c.in_ok-s.ensures.1 c.if-not-three_elements.ensures,
      size-pos c.in_ok-s.s.degrees c.in_ok-s.s.levels,
    )

pub returns-then-is_zero : goal.returns-then-is_zero
returns-then-is_zero c =
    inverse_end _ _ _ _ _ _ _ _ c.in_ok-s.ensures.0 _ c.in_ok-s.ensures.1 c.if-not-three_elements.ensures _ c.modulus.ensures c.if-not-element.ensures
    _ c.inverse_work.ensures.0 c.if-v-inverse_work.false true c.if-is_zero.ensures

pub returns : goal.returns
returns c = (
  inverse_end _ _ _ _ _ _ _ _ c.in_ok-s.ensures.0 _ c.in_ok-s.ensures.1 c.if-not-three_elements.ensures _ c.modulus.ensures c.if-not-element.ensures
      _ c.inverse_work.ensures.0 c.if-v-inverse_work.false false c.if-is_zero.ensures,
  c.in_ok-s.ensures.1,
)

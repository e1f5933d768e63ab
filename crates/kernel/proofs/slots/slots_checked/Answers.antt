use Rattle.kernel.proofs.Slotting.{slots_first, slots_short, slots_bad, slots_small, slots_few, slots_end, slots_counts, three-some}
use Rattle.kernel.proofs.Viewing.{shape-some}
use Rattle.kernel.specs.Slots.{room_needed}
use Rattle.kernel.proofs.Told.{handed_on}
use mathlib.Core.Path.{ap₂, ◌∙◌}
use native.Mathlib.Omega.{arith}
use Rattle.kernel.proofs.slots.slots_checked.Goals as goal

pub returns-in_err-s : goal.returns-in_err-s
returns-in_err-s c = handed_on _ _ _ _ _ c.from_residual.ensures.1 (slots_first _ _ _ _ _ _ _ _ _ _ c.in_err-s.ensures)

pub three_lengths_ok-requires : goal.three_lengths_ok-requires
three_lengths_ok-requires c = shape-some c.in_ok-s.s c.in_ok-s.ensures.1.known

pub returns-then-not-three_lengths_ok : goal.returns-then-not-three_lengths_ok
returns-then-not-three_lengths_ok c = slots_short _ _ _ _ _ _ _ _ _ c.in_ok-s.ensures.0 _ c.in_ok-s.ensures.1 c.if-not-three_lengths_ok.ensures

pub returns-then-not-slots_ok : goal.returns-then-not-slots_ok
returns-then-not-slots_ok c =
    slots_bad _ _ _ _ _ _ _ _ _ c.in_ok-s.ensures.0 _ c.in_ok-s.ensures.1 c.if-not-three_lengths_ok.ensures _ c.modulus.ensures c.if-not-slots_ok.ensures

pub coefficients-requires : goal.coefficients-requires
coefficients-requires c =
    (shape-some c.in_ok-s.s c.in_ok-s.ensures.1.known, (three-some _ _ _ _ c.if-not-three_lengths_ok.ensures).2)

pub count_at-requires : goal.count_at-requires
count_at-requires c = (three-some _ _ _ _ c.if-not-three_lengths_ok.ensures).0

pub count_at-requires-2 : goal.count_at-requires-2
count_at-requires-2 c = (three-some _ _ _ _ c.if-not-three_lengths_ok.ensures).1

pub room_needed-requires : goal.room_needed-requires
room_needed-requires c =
    let h = slots_counts c.args.divides _ _ _ _ _ _ _ c.args.v.now c.in_ok-s.ensures.0 _ c.in_ok-s.ensures.1 c.if-not-three_lengths_ok.ensures _ c.modulus.ensures
    c.if-not-slots_ok.ensures in
    (omega (arith, h.0, c.count_at.ensures), omega (arith, h.1, c.count_at-2.ensures))

pub returns-then-coefficients-room_needed : goal.returns-then-coefficients-room_needed
returns-then-coefficients-room_needed c =
    slots_small _ _ _ _ _ _ _ _ _ c.in_ok-s.ensures.0 _ c.in_ok-s.ensures.1 c.if-not-three_lengths_ok.ensures _ c.modulus.ensures c.if-not-slots_ok.ensures
    _ c.coefficients.ensures _ (c.room_needed.ensures ∙ ap₂ (room_needed c.args.divides) c.count_at.ensures c.count_at-2.ensures) c.if-coefficients-room_needed.true

pub returns-then-v-product_work : goal.returns-then-v-product_work
returns-then-v-product_work c =
    slots_few _ _ _ _ _ _ _ _ _ c.in_ok-s.ensures.0 _ c.in_ok-s.ensures.1 c.if-not-three_lengths_ok.ensures _ c.modulus.ensures c.if-not-slots_ok.ensures
    _ c.coefficients.ensures _ (c.room_needed.ensures ∙ ap₂ (room_needed c.args.divides) c.count_at.ensures c.count_at-2.ensures) c.if-coefficients-room_needed.false
    _ c.product_work.ensures c.if-v-product_work.true

pub returns : goal.returns
returns c = (
  slots_end _ _ _ _ _ _ _ _ _ c.in_ok-s.ensures.0 _ c.in_ok-s.ensures.1 c.if-not-three_lengths_ok.ensures _ c.modulus.ensures c.if-not-slots_ok.ensures
      _ c.coefficients.ensures _ (c.room_needed.ensures ∙ ap₂ (room_needed c.args.divides) c.count_at.ensures c.count_at-2.ensures) c.if-coefficients-room_needed.false
      _ c.product_work.ensures c.if-v-product_work.false,
  c.in_ok-s.ensures.1,
)

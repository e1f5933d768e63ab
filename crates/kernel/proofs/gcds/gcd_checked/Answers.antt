use Rattle.kernel.proofs.Seeking.{gcd-first, gcd_short, gcd_odd, gcd_bad, gcd_counts, gcd_small, gcd_few, gcd_end, needed-ready}
use Rattle.kernel.proofs.Slotting.{three-some}
use Rattle.kernel.proofs.Viewing.{shape-some}
use Rattle.kernel.proofs.Told.{handed_on}
use Rattle.kernel.proofs.gcds.gcd_checked.Goals as goal

pub returns-in_err-s : goal.returns-in_err-s
returns-in_err-s c = handed_on _ _ _ _ _ c.from_residual.ensures.1 (gcd-first _ _ _ _ _ _ _ _ _ _ c.in_err-s.ensures)

pub three_lengths_ok-requires : goal.three_lengths_ok-requires
three_lengths_ok-requires c = shape-some c.in_ok-s.s c.in_ok-s.ensures.1.known

pub returns-then-not-three_lengths_ok : goal.returns-then-not-three_lengths_ok
returns-then-not-three_lengths_ok c = gcd_short _ _ _ _ _ _ _ _ _ c.in_ok-s.ensures.0 _ c.in_ok-s.ensures.1 c.if-not-three_lengths_ok.ensures

pub returns-then-f-s : goal.returns-then-f-s
returns-then-f-s c = gcd_odd _ _ _ _ _ _ _ _ _ c.in_ok-s.ensures.0 _ c.in_ok-s.ensures.1 c.if-not-three_lengths_ok.ensures c.if-f-s.true

pub returns-then-not-slots_ok : goal.returns-then-not-slots_ok
returns-then-not-slots_ok c =
    gcd_bad _ _ _ _ _ _ _ _ _ c.in_ok-s.ensures.0 _ c.in_ok-s.ensures.1 c.if-not-three_lengths_ok.ensures c.if-f-s.false _ c.modulus.ensures
    c.if-not-slots_ok.ensures

pub coefficients-requires : goal.coefficients-requires
coefficients-requires c =
    (shape-some c.in_ok-s.s c.in_ok-s.ensures.1.known, (three-some _ _ _ _ c.if-not-three_lengths_ok.ensures).2)

pub count_at-requires : goal.count_at-requires
count_at-requires c = (three-some _ _ _ _ c.if-not-three_lengths_ok.ensures).0

pub count_at-requires-2 : goal.count_at-requires-2
count_at-requires-2 c = (three-some _ _ _ _ c.if-not-three_lengths_ok.ensures).1

pub returns-then-coefficients-gcd_room : goal.returns-then-coefficients-gcd_room
returns-then-coefficients-gcd_room c =
    gcd_small _ _ _ _ _ _ _ _ _ c.in_ok-s.ensures.0 _ c.in_ok-s.ensures.1 c.if-not-three_lengths_ok.ensures c.if-f-s.false _ c.modulus.ensures
    c.if-not-slots_ok.ensures _ _ c.count_at.ensures c.count_at-2.ensures _ c.coefficients.ensures _ c.gcd_room.ensures c.if-coefficients-gcd_room.true

pub gcd_needed-requires : goal.gcd_needed-requires
gcd_needed-requires c =
    let x = c.args in
    let some = three-some _ _ _ _ c.if-not-three_lengths_ok.ensures in
    needed-ready c.in_ok-s.s c.in_ok-s.ensures.1.known _ _ (some.0, some.1)
    (gcd_counts _ _ _ _ _ _ x.g.now x.f.now x.v.now c.in_ok-s.ensures.0 _ c.in_ok-s.ensures.1 c.if-not-three_lengths_ok.ensures c.if-f-s.false _
    c.modulus.ensures c.if-not-slots_ok.ensures)

pub returns-then-v-gcd_needed : goal.returns-then-v-gcd_needed
returns-then-v-gcd_needed c =
    gcd_few _ _ _ _ _ _ _ _ _ c.in_ok-s.ensures.0 _ c.in_ok-s.ensures.1 c.if-not-three_lengths_ok.ensures c.if-f-s.false _ c.modulus.ensures
    c.if-not-slots_ok.ensures _ _ c.count_at.ensures c.count_at-2.ensures _ c.coefficients.ensures _ c.gcd_room.ensures c.if-coefficients-gcd_room.false
    _ c.gcd_needed.ensures c.if-v-gcd_needed.true

pub returns : goal.returns
returns c = (
  gcd_end _ _ _ _ _ _ _ _ _ c.in_ok-s.ensures.0 _ c.in_ok-s.ensures.1 c.if-not-three_lengths_ok.ensures c.if-f-s.false _ c.modulus.ensures
      c.if-not-slots_ok.ensures _ _ c.count_at.ensures c.count_at-2.ensures _ c.coefficients.ensures _ c.gcd_room.ensures c.if-coefficients-gcd_room.false
      _ c.gcd_needed.ensures c.if-v-gcd_needed.false,
  c.in_ok-s.ensures.1,
)

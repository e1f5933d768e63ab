use Rattle.arithmetic.specs.Sources.{lent, stored}
use Rattle.arithmetic.specs.Walk.{pick}
use lib.ListN.{length}
use Prim.Native.Nat.{ℕ, ◌+◌, ◌*◌, ◌^◌, ◌<◌}
use Rattle.arithmetic.specs.Places.{keeps_at, wide}
use Rattle.products.proofs.Fillings.{filling_places, filling_asks, filling_next}
use Rattle.products.proofs.Frames.{part-is}
use Rattle.products.proofs.Products.{product-level, product-lower, product_places, coefficients_asks, remainder_asks, leave_asks, product_leaves}
use Rattle.products.proofs.Remainders.{counted, stood_now, falling_asks, row-start, row_next, row_end}
use Rattle.tower.specs.Writing.{size}
use mathlib.Core.Logic.{inr}
use mathlib.Core.Path.{◌≡◌, refl, ap, ◌∙◌}
use native.Mathlib.Omega.{arith}
use Rattle.products.proofs.product.+coefficients_high_product_product_remainder.Goals as goal

pub coefficients-wide_of-h-requires : goal.coefficients-wide_of-h-requires
coefficients-wide_of-h-requires t c =
    let degree-at = c.degree_at-g in
    (omega (arith, degree-at.ensures, filling_places c.requires), omega (arith, degree-at.ensures, filling_places c.requires))

pub coefficients-part_at-next-requires : goal.coefficients-part_at-next-requires
coefficients-part_at-next-requires t c =
    let degree-at = c.degree_at-g in
    let size-at = c.size_at-s in
    let wide_of = c.wide_of-h in
    let es : size-at.result ≡ size c.args.d c.args.j =
    size-at.ensures ∙ c.requires.operating.sized.at c.args.j (omega (arith, filling_places c.requires)) in
    let end = part-is (c.args.top + wide_of.result * size-at.result) c.args.top wide_of.result size-at.result refl (wide_of.ensures ∙ ap wide degree-at.ensures) es in
    omega (arith, end, filling_places c.requires, c.well_formed)

pub coefficients-product-requires : goal.coefficients-product-requires
coefficients-product-requires t c =
    let degree-at = c.degree_at-g in
    let size-at = c.size_at-s in
    let wide_of = c.wide_of-h in
    let part_at = c.part_at-next in
    let loop = c.loop-k in
    let loop-test = c.loop-k-test in
    let with-place = c.with_place-at in
    let keeps = c.keeps-kept in
    let part-at2 = c.part_at-c in
    let es : size-at.result ≡ size c.args.d c.args.j =
    size-at.ensures ∙ c.requires.operating.sized.at c.args.j (omega (arith, filling_places c.requires)) in (
      omega (arith, c.decreases),
      filling_asks c.requires loop.invariant (omega (arith, loop-test.true, wide_of.ensures, degree-at.ensures))
          with-place.ensures (keeps.ensures ∙ ap (keeps_at c.args.keep loop.k) degree-at.ensures)
          (part-is part-at2.result c.args.top loop.k size-at.result part-at2.ensures refl es)
          (part-is part_at.result c.args.top wide_of.result size-at.result part_at.ensures (wide_of.ensures ∙ ap wide degree-at.ensures) es),
    )

pub coefficients-loop-k-preserved : goal.coefficients-loop-k-preserved
coefficients-loop-k-preserved t c =
    let degree-at = c.degree_at-g in
    let size-at = c.size_at-s in
    let wide_of = c.wide_of-h in
    let part_at = c.part_at-next in
    let loop = c.loop-k in
    let loop-test = c.loop-k-test in
    let with-place = c.with_place-at in
    let keeps = c.keeps-kept in
    let part-at2 = c.part_at-c in
    let product = c.product in
    let es : size-at.result ≡ size c.args.d c.args.j =
    size-at.ensures ∙ c.requires.operating.sized.at c.args.j (omega (arith, filling_places c.requires)) in
    filling_next c.requires loop.invariant (omega (arith, loop-test.true, wide_of.ensures, degree-at.ensures))
    with-place.ensures (keeps.ensures ∙ ap (keeps_at c.args.keep loop.k) degree-at.ensures)
    (part-is part-at2.result c.args.top loop.k size-at.result part-at2.ensures refl es)
    (part-is part_at.result c.args.top wide_of.result size-at.result part_at.ensures (wide_of.ensures ∙ ap wide degree-at.ensures) es) product.ensures _ (omega arith)

pub high_product-wide_of-h-requires : goal.high_product-wide_of-h-requires
high_product-wide_of-h-requires t c =
    let degree-at = c.degree_at-g in
    let size-at = c.size_at-s in
    let places = product_places c.requires size-at.ensures degree-at.ensures in
    (omega (arith, places), omega (arith, places))

pub high_product-part_at-next-requires : goal.high_product-part_at-next-requires
high_product-part_at-next-requires t c =
    let degree-at = c.degree_at-g in
    let size-at = c.size_at-s in
    let wide_of = c.wide_of-h in
    omega (arith, product_places c.requires size-at.ensures degree-at.ensures, ap (λ (x : ℕ). x * size-at.result) wide_of.ensures, c.well_formed)

pub high_product-overflow_add-lower-2 : goal.high_product-overflow_add-lower-2
high_product-overflow_add-lower-2 t c =
    let size-at = c.size_at-s in
    let size-at2 = c.size_at in
    let long : length (pick (stored c.args.e) c.args.w.now (lent c.args.e)) < 2 ^ 63 = grind (arith, c.well_formed) in
    record { fits = omega (arith, product-lower c.requires size-at.ensures size-at2.ensures, long) }

pub high_product-copy-requires : goal.high_product-copy-requires
high_product-copy-requires t c =
    let degree-at = c.degree_at-g in
    let size-at = c.size_at-s in
    let places = product_places c.requires size-at.ensures degree-at.ensures in
    ((omega (arith, places), omega (arith, places)), inr (omega (arith, places)))

pub high_product-coefficients-requires : goal.high_product-coefficients-requires
high_product-coefficients-requires t c =
    let degree-at = c.degree_at-g in
    let size-at = c.size_at-s in
    let size-at2 = c.size_at in
    let copy = c.copy in
    (omega (arith, c.decreases, product-level c.requires), coefficients_asks c.requires size-at.ensures degree-at.ensures size-at2.ensures copy.ensures)

pub high_product-remainder-requires : goal.high_product-remainder-requires
high_product-remainder-requires t c =
    let degree-at = c.degree_at-g in
    let size-at = c.size_at-s in
    let wide_of = c.wide_of-h in
    let part_at = c.part_at-next in
    let size-at2 = c.size_at in
    let copy = c.copy in
    let coefficients = c.coefficients in (
      omega (arith, c.decreases, product-level c.requires),
      remainder_asks c.requires size-at.ensures degree-at.ensures size-at2.ensures copy.ensures
          coefficients.ensures wide_of.ensures part_at.ensures,
    )

pub high_product-leave-requires : goal.high_product-leave-requires
high_product-leave-requires t c =
    let degree-at = c.degree_at-g in
    let size-at = c.size_at-s in
    let wide_of = c.wide_of-h in
    let part_at = c.part_at-next in
    let size-at2 = c.size_at in
    let copy = c.copy in
    let coefficients = c.coefficients in
    let remainder = c.remainder in
    leave_asks c.requires size-at.ensures degree-at.ensures size-at2.ensures copy.ensures
    coefficients.ensures wide_of.ensures part_at.ensures remainder.ensures

pub high_product-returns : goal.high_product-returns
high_product-returns t c =
    let degree-at = c.degree_at-g in
    let size-at = c.size_at-s in
    let wide_of = c.wide_of-h in
    let part_at = c.part_at-next in
    let size-at2 = c.size_at in
    let copy = c.copy in
    let coefficients = c.coefficients in
    let remainder = c.remainder in
    let leave = c.leave in
    product_leaves c.requires size-at.ensures degree-at.ensures size-at2.ensures copy.ensures
    coefficients.ensures wide_of.ensures part_at.ensures remainder.ensures leave.ensures

pub remainder-loop-k-init : goal.remainder-loop-k-init
remainder-loop-k-init t c =
    row-start c.requires refl

pub remainder-product-requires : goal.remainder-product-requires
remainder-product-requires t c =
    let words = c.size_at-s.ensures ∙ c.requires.sized.at c.args.i c.requires.low in (
      omega (arith, c.decreases),
      falling_asks c.requires c.loop-k-test.true c.loop-k.invariant (stood_now c.requires) refl (counted words c.part_at-c.ensures) c.taken_at-o.ensures,
    )

pub remainder-loop-k-preserved : goal.remainder-loop-k-preserved
remainder-loop-k-preserved t c =
    let words = c.size_at-s.ensures ∙ c.requires.sized.at c.args.i c.requires.low in
    row_next c.requires c.loop-k-test.true c.loop-k.invariant refl (counted words c.part_at-c.ensures) (rw c.taken_at-o.ensures at c.product.ensures)

pub remainder-returns : goal.remainder-returns
remainder-returns t c =
    let loop = c.loop-k in
    let loop-test = c.loop-k-test in
    row_end c.requires (omega (arith, loop-test.false)) loop.invariant

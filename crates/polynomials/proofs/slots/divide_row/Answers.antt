use Rattle.polynomials.proofs.Divides.{divide-kept, descending_top, descending_start, descending_below, descending_places, descending_product, descending_place, descending_next, descending_end}
use Rattle.polynomials.proofs.Multiplies.{placed}
use Rattle.tower.specs.Writing.{size}
use mathlib.Core.Path.{◌≡◌, refl, ◌∙◌}
use native.Mathlib.Omega.{arith}
use Rattle.polynomials.proofs.slots.divide_row.Goals as goal

pub copy_in-requires : goal.copy_in-requires
copy_in-requires c =
    let size-at = c.size_at-s in
    let es : size-at.result ≡ size c.args.d c.args.i = size-at.ensures ∙ c.requires.slots.sized.at c.args.i c.requires.slots.low in
    let coefficient-at = c.coefficient_at in
    let coefficient-at2 = c.coefficient_at-2 in
    (omega (arith, coefficient-at.ensures, (descending_top c.requires es refl).0), omega (arith, coefficient-at2.ensures, (descending_top c.requires es refl).1))

pub loop-k-init : goal.loop-k-init
loop-k-init c =
    let size-at = c.size_at-s in
    let es : size-at.result ≡ size c.args.d c.args.i = size-at.ensures ∙ c.requires.slots.sized.at c.args.i c.requires.slots.low in
    let coefficient-at = c.coefficient_at in
    let coefficient-at2 = c.coefficient_at-2 in
    let copy-in = c.copy_in in
    descending_start c.requires es refl coefficient-at.ensures coefficient-at2.ensures copy-in.ensures

pub copy_in-requires-in-loop-k : goal.copy_in-requires-in-loop-k
copy_in-requires-in-loop-k c =
    let size-at = c.size_at-s in
    let es : size-at.result ≡ size c.args.d c.args.i = size-at.ensures ∙ c.requires.slots.sized.at c.args.i c.requires.slots.low in
    let copy-in = c.copy_in in
    let loop = c.loop-k in
    let loop-test = c.loop-k-test in
    let coefficient-at5 = c.coefficient_at-in-loop-k in
    let r = divide-kept copy-in.ensures.kept.long c.requires in
    let f = descending_below r loop-test.true loop.invariant in
    (omega (arith, coefficient-at5.ensures, (descending_places r f es).2), (descending_places r f es).3)

pub product-requires : goal.product-requires
product-requires c =
    let size-at = c.size_at-s in
    let es : size-at.result ≡ size c.args.d c.args.i = size-at.ensures ∙ c.requires.slots.sized.at c.args.i c.requires.slots.low in
    let copy-in = c.copy_in in
    let loop = c.loop-k in
    let loop-test = c.loop-k-test in
    let first_of = c.first_of in
    let coefficient-at3 = c.coefficient_at-x in
    let first-of2 = c.first_of-in-loop-k in
    let coefficient-at4 = c.coefficient_at-y in
    let Span-of = c.span_of-n in
    let coefficient-at5 = c.coefficient_at-in-loop-k in
    let copy-in2 = c.copy_in-in-loop-k in
    let r = divide-kept copy-in.ensures.kept.long c.requires in
    let f = descending_below r loop-test.true loop.invariant in
    let x = placed size-at.result coefficient-at3.ensures first_of.ensures in
    let y = placed size-at.result coefficient-at4.ensures first-of2.ensures in
    descending_product r f es x y Span-of.ensures coefficient-at5.ensures copy-in2.ensures refl

pub place_coefficient-requires : goal.place_coefficient-requires
place_coefficient-requires c =
    let size-at = c.size_at-s in
    let es : size-at.result ≡ size c.args.d c.args.i = size-at.ensures ∙ c.requires.slots.sized.at c.args.i c.requires.slots.low in
    let copy-in = c.copy_in in
    let loop = c.loop-k in
    let loop-test = c.loop-k-test in
    let first_of = c.first_of in
    let coefficient-at3 = c.coefficient_at-x in
    let first-of2 = c.first_of-in-loop-k in
    let coefficient-at4 = c.coefficient_at-y in
    let Span-of = c.span_of-n in
    let coefficient-at5 = c.coefficient_at-in-loop-k in
    let copy-in2 = c.copy_in-in-loop-k in
    let product = c.product in
    let r = divide-kept copy-in.ensures.kept.long c.requires in
    let f = descending_below r loop-test.true loop.invariant in
    let x = placed size-at.result coefficient-at3.ensures first_of.ensures in
    let y = placed size-at.result coefficient-at4.ensures first-of2.ensures in
    descending_place r f es x y Span-of.ensures coefficient-at5.ensures copy-in2.ensures refl product.ensures

pub loop-k-preserved : goal.loop-k-preserved
loop-k-preserved c =
    let size-at = c.size_at-s in
    let es : size-at.result ≡ size c.args.d c.args.i = size-at.ensures ∙ c.requires.slots.sized.at c.args.i c.requires.slots.low in
    let copy-in = c.copy_in in
    let loop = c.loop-k in
    let loop-test = c.loop-k-test in
    let first_of = c.first_of in
    let coefficient-at3 = c.coefficient_at-x in
    let first-of2 = c.first_of-in-loop-k in
    let coefficient-at4 = c.coefficient_at-y in
    let Span-of = c.span_of-n in
    let coefficient-at5 = c.coefficient_at-in-loop-k in
    let copy-in2 = c.copy_in-in-loop-k in
    let product = c.product in
    let place-coefficient = c.place_coefficient in
    let r = divide-kept copy-in.ensures.kept.long c.requires in
    let f = descending_below r loop-test.true loop.invariant in
    let x = placed size-at.result coefficient-at3.ensures first_of.ensures in
    let y = placed size-at.result coefficient-at4.ensures first-of2.ensures in
    descending_next r f es x y Span-of.ensures coefficient-at5.ensures copy-in2.ensures refl product.ensures place-coefficient.ensures

pub returns : goal.returns
returns c =
    let size-at = c.size_at-s in
    let es : size-at.result ≡ size c.args.d c.args.i = size-at.ensures ∙ c.requires.slots.sized.at c.args.i c.requires.slots.low in
    let coefficient-at = c.coefficient_at in
    let coefficient-at2 = c.coefficient_at-2 in
    let copy-in = c.copy_in in
    let loop = c.loop-k in
    let loop-test = c.loop-k-test in
    descending_end c.requires es refl coefficient-at.ensures coefficient-at2.ensures copy-in.ensures (omega (arith, loop-test.false)) loop.invariant

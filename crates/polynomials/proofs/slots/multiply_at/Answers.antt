-- `polynomials::slots::multiply_at` meets its contract. Assumes nothing.
use Rattle.polynomials.proofs.Multiplies.{placed, multiply_places, multiply-product, multiply-at}
use Rattle.tower.specs.Writing.{size}
use mathlib.Core.Path.{◌≡◌, refl, ◌∙◌}
use native.Mathlib.Omega.{arith}
use Rattle.polynomials.proofs.slots.multiply_at.Goals as goal

pub first_of-requires : goal.first_of-requires
first_of-requires c =
    let size-at = c.size_at-s in
    let es : size-at.result ≡ size c.args.d c.args.i = size-at.ensures ∙ c.requires.slots.sized.at c.args.i c.requires.slots.low in
    omega (arith, c.well_formed, (multiply_places c.requires es).5)

pub first_of-requires-2 : goal.first_of-requires-2
first_of-requires-2 c =
    let size-at = c.size_at-s in
    let es : size-at.result ≡ size c.args.d c.args.i = size-at.ensures ∙ c.requires.slots.sized.at c.args.i c.requires.slots.low in
    omega (arith, c.well_formed, (multiply_places c.requires es).5)

pub span_of-n-requires : goal.span_of-n-requires
span_of-n-requires c =
    let size-at = c.size_at-s in
    let es : size-at.result ≡ size c.args.d c.args.i = size-at.ensures ∙ c.requires.slots.sized.at c.args.i c.requires.slots.low in
    ((multiply_places c.requires es).2, omega (arith, c.well_formed, (multiply_places c.requires es).5))

pub product-requires : goal.product-requires
product-requires c =
    let size-at = c.size_at-s in
    let es : size-at.result ≡ size c.args.d c.args.i = size-at.ensures ∙ c.requires.slots.sized.at c.args.i c.requires.slots.low in
    let first_of = c.first_of in
    let coefficient-at = c.coefficient_at-x in
    let first-of2 = c.first_of-2 in
    let coefficient-at2 = c.coefficient_at-y in
    let Span-of = c.span_of-n in
    let x = placed size-at.result coefficient-at.ensures first_of.ensures in
    let y = placed size-at.result coefficient-at2.ensures first-of2.ensures in
    multiply-product c.requires es x y Span-of.ensures refl

pub returns : goal.returns
returns c =
    let size-at = c.size_at-s in
    let es : size-at.result ≡ size c.args.d c.args.i = size-at.ensures ∙ c.requires.slots.sized.at c.args.i c.requires.slots.low in
    let first_of = c.first_of in
    let coefficient-at = c.coefficient_at-x in
    let first-of2 = c.first_of-2 in
    let coefficient-at2 = c.coefficient_at-y in
    let Span-of = c.span_of-n in
    let product = c.product in
    let coefficient-at3 = c.coefficient_at in
    let copy-in = c.copy_in in
    let x = placed size-at.result coefficient-at.ensures first_of.ensures in
    let y = placed size-at.result coefficient-at2.ensures first-of2.ensures in
    multiply-at c.requires es x y Span-of.ensures refl product.ensures coefficient-at3.ensures copy-in.ensures

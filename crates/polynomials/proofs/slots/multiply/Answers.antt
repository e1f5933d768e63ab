use Rattle.polynomials.proofs.Multiplies.{multiply_counts, multiplying_at, multiplying_next, multiplying_end}
use native.Mathlib.Omega.{arith}
use Rattle.polynomials.proofs.slots.multiply.Goals as goal

pub product_count-h-requires : goal.product_count-h-requires
product_count-h-requires c =
    let count_at = c.count_at-ca in
    let count-at2 = c.count_at-cb in
    omega (arith, c.well_formed, count_at.ensures, count-at2.ensures, multiply_counts c.requires)

pub multiply_at-requires : goal.multiply_at-requires
multiply_at-requires c =
    let count_at = c.count_at-ca in
    let count-at2 = c.count_at-cb in
    let product-count = c.product_count-h in
    let loop = c.loop-j in
    let loop-test = c.loop-j-test in
    multiplying_at c.requires count_at.ensures count-at2.ensures product-count.ensures loop-test.true loop.invariant

pub loop-j-preserved : goal.loop-j-preserved
loop-j-preserved c =
    let count_at = c.count_at-ca in
    let count-at2 = c.count_at-cb in
    let product-count = c.product_count-h in
    let loop = c.loop-j in
    let loop-test = c.loop-j-test in
    let multiply-at = c.multiply_at in
    multiplying_next c.requires count_at.ensures count-at2.ensures product-count.ensures loop-test.true loop.invariant multiply-at.ensures

pub returns : goal.returns
returns c =
    let count_at = c.count_at-ca in
    let count-at2 = c.count_at-cb in
    let product-count = c.product_count-h in
    let loop = c.loop-j in
    let loop-test = c.loop-j-test in
    let finish = c.finish in
    multiplying_end c.requires count_at.ensures count-at2.ensures product-count.ensures (omega (arith, loop-test.false)) loop.invariant finish.ensures

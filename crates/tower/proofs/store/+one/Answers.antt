use Prim.Native.Nat.{◌-◌}
use Rattle.tower.proofs.Puts.{first_fits, rest_fit, one-low, one_up}
use Rattle.tower.specs.Writing.{size-pos}
use mathlib.Core.Path.{refl, ◌∙◌}
use native.Mathlib.Omega.{arith}
use Rattle.tower.proofs.store.+one.Goals as goal

pub put_word-requires : goal.put_word-requires
put_word-requires t c = omega (arith, c.requires.0.inside, size-pos c.args.d c.args.i)

pub returns-then-i-eq0 : goal.returns-then-i-eq0
returns-then-i-eq0 t c =
    let if1 = c.if-i-eq0 in
    let put_word = c.put_word in
    one-low c.args.d c.args.i if1.true put_word.ensures

pub put_word-requires-2 : goal.put_word-requires-2
put_word-requires-2 t c =
    omega (arith, c.requires.0.inside, size-pos c.args.d c.args.i)

pub one-requires : goal.one-requires
one-requires t c =
    let if1 = c.if-i-eq0 in
    let put-word2 = c.put_word-2 in
    let up = if1.false in
    (omega (arith, c.decreases), first_fits _ put-word2.ensures.kept.long up c.requires.0 c.requires.1)

pub overflow_add-at-3 : goal.overflow_add-at-3
overflow_add-at-3 t c =
    let if1 = c.if-i-eq0 in
    let degree-at-done = c.degree_at-n in
    let size-at-done = c.size_at-s in
    let up = if1.false in
    let degree-at = degree-at-done in
    let size-at = size-at-done in
    let fit = rest_fit c.args.w.now refl up c.requires.0 c.requires.1 degree-at.result size-at.result degree-at.ensures size-at.ensures in
    omega (arith, fit.inside, c.well_formed)

pub zeros-requires : goal.zeros-requires
zeros-requires t c =
    let if1 = c.if-i-eq0 in
    let degree-at-done = c.degree_at-n in
    let size-at-done = c.size_at-s in
    let put-word2 = c.put_word-2 in
    let one = c.one in
    let up = if1.false in
    let degree-at = degree-at-done in
    let size-at = size-at-done in
    let long = one.ensures.kept.long ∙ put-word2.ensures.kept.long in
    rest_fit _ long up c.requires.0 c.requires.1 degree-at.result size-at.result degree-at.ensures size-at.ensures

pub returns : goal.returns
returns t c =
    let if1 = c.if-i-eq0 in
    let degree-at-done = c.degree_at-n in
    let size-at-done = c.size_at-s in
    let put-word2 = c.put_word-2 in
    let one-done = c.one in
    let zeros = c.zeros in
    let up = if1.false in
    let degree-at = degree-at-done in
    let size-at = size-at-done in
    let put = put-word2 in
    let one = one-done in
    let es = size-at.ensures ∙ c.requires.0.sized.at (c.args.i - 1) (omega (arith, c.requires.0.low)) in
    one_up c.args.d c.args.i up c.requires.1 refl refl es degree-at.ensures put.ensures one.ensures zeros.ensures

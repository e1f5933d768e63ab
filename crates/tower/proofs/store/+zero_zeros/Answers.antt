use Prim.Native.Nat.{ℕ, ◌+◌, ◌*◌}
use Rattle.tower.proofs.Puts.{next-copy, all_fit, zero-low, zero-up}
use Rattle.tower.specs.Form.{zero_words}
use Rattle.tower.specs.Stands.{zero_long}
use Rattle.tower.specs.Writing.{size, size-pos}
use mathlib.Core.Path.{refl, ap, ◌∙◌}
use native.Mathlib.Omega.{arith}
use Rattle.tower.proofs.store.+zero_zeros.Goals as goal

pub zero-put_word-requires : goal.zero-put_word-requires
zero-put_word-requires t c = omega (arith, c.requires.inside, size-pos c.args.d c.args.i)

pub zero-returns-then-i-eq0 : goal.zero-returns-then-i-eq0
zero-returns-then-i-eq0 t c =
    let if1 = c.if-i-eq0 in
    let put_word = c.put_word in
    zero-low c.args.d c.args.i if1.true put_word.ensures

pub zero-put_word-requires-2 : goal.zero-put_word-requires-2
zero-put_word-requires-2 t c = omega (arith, c.requires.inside, size-pos c.args.d c.args.i)

pub zero-zeros-requires : goal.zero-zeros-requires
zero-zeros-requires t c =
    let if1 = c.if-i-eq0 in
    let put-word2 = c.put_word-2 in
    let degree-at-done = c.degree_at in
    let up = if1.false in
    let put = put-word2 in
    let degree-at = degree-at-done in
    (omega (arith, c.decreases), all_fit _ put.ensures.kept.long up c.requires degree-at.result degree-at.ensures)

pub zero-returns : goal.zero-returns
zero-returns t c =
    let if1 = c.if-i-eq0 in
    let put-word2 = c.put_word-2 in
    let degree-at-done = c.degree_at in
    let zeros = c.zeros in
    let up = if1.false in
    let put = put-word2 in
    let degree-at = degree-at-done in
    zero-up c.args.d c.args.i up refl degree-at.ensures put.ensures zeros.ensures

pub zeros-loop-k-preserved : goal.zeros-loop-k-preserved
zeros-loop-k-preserved t c =
    let size-at = c.size_at-s in
    let l = c.loop-k in
    let zero = c.zero in
    let d = c.args.d in
    let i = c.args.i in
    let es = size-at.ensures ∙ c.requires.sized.at i c.requires.low in
    let place = ap (λ (m : ℕ). c.args.at + l.k * m) es in
    (omega arith, next-copy l.k (size d i) (zero_words d i) (zero_long d i) place l.invariant.1 zero.ensures)

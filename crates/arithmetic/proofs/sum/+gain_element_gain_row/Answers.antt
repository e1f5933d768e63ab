use Prim.Native.Nat.{◌+◌, ◌-◌, ◌*◌, ℕ}
use Rattle.arithmetic.proofs.Gains.{word_terms, word-up, terms_up, gained-up, gaining_settles, gaining_terms, gaining_next, gaining_end}
use Rattle.tower.specs.Writing.{size}
use mathlib.Core.Path.{◌≡◌, ap, ◌∙◌}
use native.Mathlib.Omega.{arith}
use Rattle.arithmetic.proofs.sum.+gain_element_gain_row.Goals as goal
use Rattle.arithmetic.proofs.sum.+gain_element_gain_row.Goals.{gain_row-After-size_at-s}

pub gain_element-gain_word-requires : goal.gain_element-gain_word-requires
gain_element-gain_word-requires t c =
    word_terms c.args.p c.args.d c.args.z c.args.i c.args.x.now c.args.a c.args.at c.args.w.now c.if-i-eq0.true c.requires

pub gain_element-returns-then-i-eq0 : goal.gain_element-returns-then-i-eq0
gain_element-returns-then-i-eq0 t c =
    word-up c.args.p c.args.d c.args.i c.args.neg c.args.x.now c.args.a c.args.at c.args.w.now _ c.if-i-eq0.true c.gain_word.ensures

pub gain_element-gain_row-requires : goal.gain_element-gain_row-requires
gain_element-gain_row-requires t c = (
  omega (arith, c.decreases),
  terms_up c.args.p c.args.d c.args.z c.args.i (c.args.i - 1) c.degree_at.result c.args.neg c.args.x.now c.args.a c.args.at c.args.w.now
      (omega (arith, c.if-i-eq0.false)) c.degree_at.ensures c.requires,
)

pub gain_element-returns-else-i-eq0 : goal.gain_element-returns-else-i-eq0
gain_element-returns-else-i-eq0 t c =
    gained-up c.args.p c.args.d c.args.z c.args.i (c.args.i - 1) c.degree_at.result c.args.neg c.args.x.now c.args.a c.args.at c.args.w.now
    (omega (arith, c.if-i-eq0.false)) c.degree_at.ensures _ c.gain_row.ensures

-- the words of an element
sized : {t : ℕ} (c : gain_row-After-size_at-s t) → c.size_at-s.result ≡ size c.args.d c.args.i
sized c = c.size_at-s.ensures ∙ c.requires.sized.at c.args.i c.requires.low

pub gain_row-gain_element-requires : goal.gain_row-gain_element-requires
gain_row-gain_element-requires t c =
    let es = sized (goal.at.gain_row-gain_element-requires t c).After-size_at-s in (
      omega (arith, c.decreases),
      gaining_terms c.requires c.loop-k.invariant (omega (arith, c.loop-k-test.true, c.count_at-c.ensures))
          (c.coefficient_at.ensures ∙ ap (λ (m : ℕ). c.args.a + 1 + c.loop-k.k * m) es)
          (c.coefficient_at-in-loop-k.ensures ∙ ap (λ (m : ℕ). c.args.at + 1 + c.loop-k.k * m) es),
    )

pub gain_row-loop-k-preserved : goal.gain_row-loop-k-preserved
gain_row-loop-k-preserved t c =
    let es = sized (goal.at.gain_row-loop-k-preserved t c).After-size_at-s in
    gaining_next c.requires c.loop-k.invariant (omega (arith, c.loop-k-test.true, c.count_at-c.ensures)) _
    (c.coefficient_at.ensures ∙ ap (λ (m : ℕ). c.args.a + 1 + c.loop-k.k * m) es)
    (c.coefficient_at-in-loop-k.ensures ∙ ap (λ (m : ℕ). c.args.at + 1 + c.loop-k.k * m) es) c.gain_element.ensures

pub gain_row-settle-requires : goal.gain_row-settle-requires
gain_row-settle-requires t c =
    gaining_settles c.requires c.loop-k.invariant (sized (goal.at.gain_row-settle-requires t c).After-size_at-s)

pub gain_row-returns : goal.gain_row-returns
gain_row-returns t c =
    gaining_end c.requires c.loop-k.invariant (omega (arith, c.loop-k-test.false, c.loop-k.auto, c.count_at-c.ensures))
    (sized (goal.at.gain_row-returns t c).After-size_at-s) _ c.settle.ensures

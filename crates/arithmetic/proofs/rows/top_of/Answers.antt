use Rattle.std.proofs.Common.{◌+◌, sym, ◌∙◌, arith, subst}
use Rattle.arithmetic.proofs.Tops.{ZeroFrom, zero-start, top-none, top_down, zero_down}
use Rattle.arithmetic.proofs.rows.top_of.Goals as goal

pub loop-k-init : goal.loop-k-init
loop-k-init c = zero-start c.args.i c.args.n c.args.s c.args.w.now (c.args.at + 1)

pub returns-then-not-is_zero : goal.returns-then-not-is_zero
returns-then-not-is_zero c = (
  top_down c.args.i c.args.n c.args.s c.args.w.now (c.args.at + 1) c.loop-k.k c.coefficient_at.result c.loop-k-test.true (omega (arith, c.loop-k.auto))
      c.coefficient_at.ensures c.loop-k.invariant (sym c.is_zero.ensures ∙ c.if-not-is_zero.true),
  omega (arith, c.loop-k.auto, c.loop-k-test.true),
)

pub loop-k-preserved : goal.loop-k-preserved
loop-k-preserved c =
    zero_down c.args.i c.args.n c.args.s c.args.w.now (c.args.at + 1) c.loop-k.k c.coefficient_at.result c.loop-k-test.true (omega (arith, c.loop-k.auto))
    c.coefficient_at.ensures c.loop-k.invariant (sym c.is_zero.ensures ∙ c.if-not-is_zero.false)

pub returns : goal.returns
returns c = (
  top-none c.args.i c.args.n c.args.s c.args.w.now (c.args.at + 1)
      (subst (ZeroFrom c.args.i c.args.n c.args.s c.args.w.now (c.args.at + 1)) (omega arith) c.loop-k.invariant),
  omega arith,
)

use Rattle.std.proofs.Common.{◌≡◌, sym, ap, ◌∙◌}
use native.Mathlib.Omega.{arith}
use native.Mathlib.Numerals.{add-one}
use Rattle.tower.proofs.Moduli.{size-next, size_bound}
use Rattle.tower.specs.Writing.{size-zero}
use Rattle.tower.proofs.sizes.over_levels.Goals as goal

pub loop-i-init : goal.loop-i-init
loop-i-init g c = (sym (size-zero c.args.d), omega arith, λ sum a. sym a.none)

pub room-s-requires : goal.room-s-requires
room-s-requires g c =
    let v = c.requires.levels in (
      omega (arith, v.small.each c.loop-i.i (omega (arith, v.low)), c.degree_at-g.ensures),
      omega (arith, c.loop-i.invariant.0, size_bound c.args.d v.small c.loop-i.i (omega (arith, v.low))),
    )

pub loop-i-preserved : goal.loop-i-preserved
loop-i-preserved g c =
    let i = c.loop-i.i in
    let r = c.words-r.result in
    let l = c.loop-i.invariant in
    let given = rw (c.degree_at-g.ensures, l.0) at c.words-r.ensures in (
      size-next c.args.d i c.loop-i.s c.degree_at-g.result c.room-s.result l.0 c.degree_at-g.ensures c.room-s.ensures.0,
      omega (arith, l.1, c.requires.few i r c.loop-i-test.true given),
      λ sum a. rw (add-one i) (omega (arith, l.2 sum a, a.more i r c.loop-i-test.true given)),
    )

pub returns-clause-sum : goal.returns-clause-sum
returns-clause-sum g c = λ sum a.
    let all : c.loop-i.i ≡ c.args.n = omega arith in
    c.loop-i.invariant.2 sum a ∙ ap sum all

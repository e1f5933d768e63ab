use Rattle.text.proofs.Texts.{none_passed, one-passed, at-tab, at_end}
use borrow.Author.Rules.{rules}
use native.Mathlib.Omega.{arith}
use mathlib.Core.Path.{◌≡◌}
use lib.ListN.{length}
use Rattle.text.proofs.fields.field_end.Goals as goal

pub loop-i-init : goal.loop-i-init
loop-i-init c = none_passed _ _ c.requires

pub returns-then-text-i-eq9 : goal.returns-then-text-i-eq9
returns-then-text-i-eq9 c = at-tab c.loop-i.invariant (search rules) c.if-text-i-eq9.true

pub loop-i-preserved : goal.loop-i-preserved
loop-i-preserved c = one-passed c.loop-i.invariant (search rules) c.if-text-i-eq9.false

pub returns : goal.returns
returns c =
    let e : c.loop-i.i ≡ length c.args.text.now = omega arith in
    rw e at (at_end c.loop-i.invariant (omega arith))

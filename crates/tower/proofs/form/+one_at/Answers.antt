use Rattle.std.proofs.Common.{rules, true, false, refl, ◌∙◌}
use Rattle.tower.proofs.Moduli.{one-low, one_bad, one_up}
use Rattle.tower.proofs.form.+one_at.Goals as goal

pub returns-then-i-eq0 : goal.returns-then-i-eq0
returns-then-i-eq0 t c = one-low c.args.x.now c.args.a c.args.i c.if-i-eq0.true _ (search rules)

pub returns-then-x-a-eq0 : goal.returns-then-x-a-eq0
returns-then-x-a-eq0 t c =
    one_up c.args.x.now c.args.a c.args.i c.if-i-eq0.false true c.one_at.result (search rules) refl c.one_at.ensures

pub returns-else-x-a-eq0 : goal.returns-else-x-a-eq0
returns-else-x-a-eq0 t c = search rules ∙ one_bad c.args.x.now c.args.a c.args.i c.if-i-eq0.false false (search rules) refl

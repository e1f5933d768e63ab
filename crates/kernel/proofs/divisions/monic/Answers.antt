use Rattle.kernel.proofs.Dividing.{monic-some, monic-one, lead_few, lead_inside}
use Rattle.kernel.proofs.divisions.monic.Goals as goal

pub count_at-c-requires : goal.count_at-c-requires
count_at-c-requires c = monic-some c.args.s c.args.p c.args.b.now c.requires.0 c.requires.1 c.requires.2

pub coefficient_at-requires : goal.coefficient_at-requires
coefficient_at-requires c =
    lead_few c.args.s c.args.p c.args.b.now c.requires.0 c.requires.1 c.requires.2 c.count_at-c.result c.count_at-c.ensures c.if-c-ne0.true

pub one_at-requires : goal.one_at-requires
one_at-requires c =
    lead_inside c.args.s c.args.p c.args.b.now c.requires.0 c.requires.1 c.requires.2 c.count_at-c.result c.count_at-c.ensures c.if-c-ne0.true
    c.coefficient_at.result c.coefficient_at.ensures

pub returns-then-c-ne0 : goal.returns-then-c-ne0
returns-then-c-ne0 c =
    monic-one c.args.s c.args.p c.args.b.now c.requires.0 c.requires.1 c.requires.2 c.count_at-c.result c.count_at-c.ensures c.if-c-ne0.true
    c.coefficient_at.result c.coefficient_at.ensures c.one_at.result c.one_at.ensures

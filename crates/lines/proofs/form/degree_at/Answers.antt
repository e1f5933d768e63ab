use Rattle.lines.proofs.Places.{down_further, own_word, no_degree, some_size}
use borrow.Author.Rules.{rules}
use Rattle.lines.proofs.form.degree_at.Goals as goal

pub returns-then-at-eq0 : goal.returns-then-at-eq0
returns-then-at-eq0 c = own_word _ _ c.loop-level.invariant (search rules) (search rules)

pub nonzero_rem-at : goal.nonzero_rem-at
nonzero_rem-at c = some_size _ c.requires.1.1 _ _ c.loop-level.invariant (search rules) (search rules) _ c.size_at.ensures

pub loop-level-preserved : goal.loop-level-preserved
loop-level-preserved c =
    down_further _ _ c.loop-level.invariant (search rules) (search rules) c.if-at-eq0.false _ c.size_at.ensures

pub returns : goal.returns
returns c = no_degree _ _ c.loop-level.invariant (search rules)

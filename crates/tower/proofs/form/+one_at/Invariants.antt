use Rattle.tower.proofs.form.+one_at.Given as goal

abbrev pub decreases-one_at : goal.decreases-one_at
decreases-one_at l = l.i

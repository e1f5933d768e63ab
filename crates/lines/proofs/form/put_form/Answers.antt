use Rattle.lines.proofs.Places.{put-none, put_more}
use borrow.Author.Rules.{rules}
use mathlib.Core.Path.{refl}
use Rattle.lines.proofs.form.put_form.Goals as goal

pub loop-k-init : goal.loop-k-init
loop-k-init c = put-none c.requires

pub loop-k-preserved : goal.loop-k-preserved
loop-k-preserved c = put_more c.loop-k.invariant (search rules) c.degree_at.ensures refl (search rules) c.put_word-told.ensures

use Rattle.tower.proofs.Puts.{next_word}
use mathlib.Core.Path.{refl, ◌∙◌}
use mir.Syntax.{w64}
use mir.ValLaws.{to_z-of_z}
use native.Mathlib.Omega.{arith}
use Rattle.tower.proofs.store.copy_in.Goals as goal

pub loop-k-preserved : goal.loop-k-preserved
loop-k-preserved c =
    let k = c.loop-k.k in
    let read = c.word_at in
    let word = to_z-of_z w64 read.result (record { sfits = read.type_inv }) ∙ read.ensures in
    next_word c.args.from k c.args.x.now (omega (arith, c.requires.0)) refl word c.loop-k.invariant c.put_word.ensures

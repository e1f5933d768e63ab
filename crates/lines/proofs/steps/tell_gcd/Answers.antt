-- `lines::steps::tell_gcd` meets its contract: the lists that it lends are as long as those that the definition lends. Assumes nothing.
use Rattle.lines.proofs.Operations.{part_long, element_few, gcd_told}
use Rattle.lines.specs.Steps.{most_element}
use Rattle.text.proofs.Appends.{retold}
use borrow.Author.Rules.{rules}
use Rattle.lines.proofs.steps.tell_gcd.Goals as goal

pub slot_words-l-requires : goal.slot_words-l-requires
slot_words-l-requires c = element_few _ _ c.element_words-n.ensures

pub slice_bounds-gcd-end-4 : goal.slice_bounds-gcd-end-4
slice_bounds-gcd-end-4 c = part_long _ _ most_element (search rules) (element_few _ _ c.element_words-n.ensures).1

pub returns : goal.returns
returns c =
    retold
    (gcd_told c.ring_of-ring.ensures (search rules) c.requires.0 c.args.s.now.a c.args.s.now.b (search rules) (search rules) c.if-not-both.ensures
    c.slot_words-l.ensures _ _ _ (search rules) (search rules) (search rules))
    c.gcd.ensures

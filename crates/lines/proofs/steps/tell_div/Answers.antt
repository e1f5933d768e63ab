-- `lines::steps::tell_div` meets its contract: the lists that it lends are as long as those that the definition lends. Assumes nothing.
use Rattle.lines.proofs.Operations.{element_few, div_told}
use Rattle.text.proofs.Appends.{retold}
use borrow.Author.Rules.{rules}
use Rattle.lines.proofs.steps.tell_div.Goals as goal

pub slot_words-l-requires : goal.slot_words-l-requires
slot_words-l-requires c = element_few _ _ c.element_words.ensures

pub returns : goal.returns
returns c =
    retold
    (div_told c.ring_of-ring.ensures (search rules) c.requires.0 c.args.s.now.a c.args.s.now.b (search rules) (search rules) c.if-not-both.ensures
    c.slot_words-l.ensures _ _ (search rules) (search rules))
    c.div.ensures

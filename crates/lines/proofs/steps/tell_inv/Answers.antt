-- `lines::steps::tell_inv` meets its contract: the lists that it lends are as long as those that the definition lends. Assumes nothing.
use Rattle.lines.proofs.Operations.{part_long, part-ready, element_few, inv_told}
use Rattle.lines.specs.Steps.{answer_words, most_element}
use Rattle.text.proofs.Appends.{retold}
use borrow.Author.Rules.{rules}
use mathlib.Core.List.{[]}
use native.Mathlib.Omega.{arith}
use Rattle.lines.proofs.steps.tell_inv.Goals as goal

pub slice_bounds-inv-end-2 : goal.slice_bounds-inv-end-2
slice_bounds-inv-end-2 c = part_long _ _ answer_words (search rules) (omega (arith, (element_few _ _ c.element_words-n.ensures).1))

pub slice_bounds-inv-end-3 : goal.slice_bounds-inv-end-3
slice_bounds-inv-end-3 c = part_long _ _ most_element (search rules) (element_few _ _ c.element_words-n.ensures).1

pub inv-requires : goal.inv-requires
inv-requires c =
    let few = (element_few _ _ c.element_words-n.ensures).1 in
    (part-ready _ _ most_element _ few c.requires.1, part-ready _ _ most_element _ few c.requires.1)

pub returns : goal.returns
returns c =
    retold
    (inv_told c.ring_of-ring.ensures (search rules) c.requires.0 c.args.a.now [] (search rules) c.if-k-eq0.false _ _ _ (search rules) (search rules) (search rules))
    c.inv.ensures

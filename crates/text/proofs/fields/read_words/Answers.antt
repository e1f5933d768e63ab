use Rattle.text.proofs.FieldWords.{none_gathered, one_gathered, no_number, too_many, all_read}
use Rattle.std.proofs.lemmas.Iterator.Splits.{YieldsList-from_slice_split}
use Rattle.text.proofs.Texts.{part_end}
use Rattle.text.specs.Text.{tab}
use borrow.Author.Rules.{rules}
use borrow.Author.Tests.{tests}
use Rattle.std.specs.Prelude.{Some}
use lib.Dec.{eqb}
use mathlib.Core.Path.{sym, ap, ◌∙◌}
use mir.Syntax.{w64}
use mir.ValLaws.{to_z-of_z}
use Rattle.text.proofs.fields.read_words.Goals as goal

pub loop-field-init : goal.loop-field-init
loop-field-init c =
    let it = c.into_iter-field-iterator.ensures.into_iter_gives in
    let s = c.split-field-items.ensures in
    let text = s.rest ∙ part_end c.args.text.now c.args.from in
    none_gathered _ _ (rw it (YieldsList-from_slice_split _ (λ b. eqb b tab) _ text s.done s.closure (λ x b q k. search (rules, tests))))

pub returns-in_err-word : goal.returns-in_err-word
returns-in_err-word c =
    rw c.from_residual.ensures (no_number c.loop-field.invariant c.in-Some.field c.next.new.self c.in-Some.ensures.steps c.number_of.ensures c.in_err-word.was)

pub returns-then-n-ge-MOST_WORDS : goal.returns-then-n-ge-MOST_WORDS
returns-then-n-ge-MOST_WORDS c =
    too_many c.loop-field.invariant c.in-Some.field c.next.new.self c.in-Some.ensures.steps c.number_of.ensures c.in_ok-word.was (search rules) (search rules)

pub loop-field-preserved : goal.loop-field-preserved
loop-field-preserved c =
    one_gathered c.loop-field.invariant c.in-Some.field c.next.new.self c.in-Some.ensures.steps c.number_of.ensures
    (c.in_ok-word.was ∙ ap Some (sym (to_z-of_z w64 c.in_ok-word.word (search rules)))) (search rules) (search rules)

pub returns : goal.returns
returns c = all_read c.loop-field.invariant c.in-None.ensures.steps (search rules)

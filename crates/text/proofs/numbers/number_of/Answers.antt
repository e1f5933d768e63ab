-- `text::numbers::number_of` meets its contract, by the laws for a text with and without a sign. Assumes nothing.
use Rattle.text.proofs.Numerals.{with_sign, no_sign}
use Rattle.std.proofs.lemmas.Slice.Eq.{strip_prefix_is}
use Rattle.std.proofs.lemmas.Bool.Decides.{Decides-eqb}
use Rattle.std.specs.Prelude.{Some, None, [], ◌∷◌}
use mathlib.Core.Path.{◌∙◌}
use Rattle.text.proofs.numbers.number_of.Goals as goal

pub returns-in-Some : goal.returns-in-Some
returns-in-Some c = c.negated.ensures ∙ with_sign _ _ _ (strip_prefix_is Decides-eqb c.args.text.now (45 ∷ []) (Some c.in-Some.digits) c.in-Some.ensures.cases)

pub returns-in-None : goal.returns-in-None
returns-in-None c = c.plain.ensures ∙ no_sign _ _ (strip_prefix_is Decides-eqb c.args.text.now (45 ∷ []) None c.in-None.ensures.cases)

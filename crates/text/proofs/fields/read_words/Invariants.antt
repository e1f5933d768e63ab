-- `text::fields::read_words` meets its contract. The invariant: the first n words are the numbers of the fields passed (`Gathered`). Assumes nothing.
use Rattle.text.proofs.FieldWords.{Gathered}
use Rattle.text.specs.Fields.{fields_at}
use Rattle.text.proofs.fields.read_words.Given as goal

abbrev pub invariant-loop-field : goal.invariant-loop-field
invariant-loop-field l = Gathered goal.iterator-loop-field.next_gives l.field-iterator (fields_at l.text l.from) l.words l.n

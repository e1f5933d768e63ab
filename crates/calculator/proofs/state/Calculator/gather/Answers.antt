-- `calculator::state::Calculator::gather` meets its contract: the byte is set behind the bytes of its line, or the store is full. Assumes nothing.
use Rattle.calculator.proofs.Gathers.{full_stays, byte_behind}
use Rattle.std.proofs.Common.{refl, rules}
use Rattle.calculator.proofs.state.Calculator.gather.Goals as goal

pub returns-then-self-lt-LINE_BYTES : goal.returns-then-self-lt-LINE_BYTES
returns-then-self-lt-LINE_BYTES c =
    let s = c.args.self.now in
    record {
      bytes_are = byte_behind s.bytes s.text c.args.byte (search rules) (search rules);
      kept_is = refl;
      stores_are = refl;
      line_is = refl;
    }

pub returns-else-self-lt-LINE_BYTES : goal.returns-else-self-lt-LINE_BYTES
returns-else-self-lt-LINE_BYTES c =
    let s = c.args.self.now in
    record {
      bytes_are = full_stays s.bytes s.text c.args.byte (search rules) s.bytes_fit (search rules);
      kept_is = refl;
      stores_are = refl;
      line_is = refl;
    }

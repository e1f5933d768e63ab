-- What becomes of a byte of the input: it is gathered behind the bytes of its line, or it ends the line. Assumes nothing.
--
-- line_bytes == the bytes of the store of a line
-- next_line  == the number of the line behind this
-- Gathered   == one byte behind those gathered, of which the first line_bytes are held
-- Ended      == the line that was gathered is answered, and the next is started
-- Fed        == a byte 10 ends the line; any other is gathered
use Rattle.std.specs.Prelude.{◌≡◌, ℕ, ◌+◌, ◌%◌, ◌^◌, [], ◌∷◌, ◌++◌, take}
use Rattle.lines.specs.Kept.{Stepped}
use Rattle.calculator.specs.declared.state.Calculator.{Calculator}

-- LINE_BYTES of src/state.rt
abbrev pub line_bytes : ℕ
line_bytes = 8193

abbrev pub next_line : ℕ → ℕ
next_line n = (n + 1) % 2 ^ 64

-- what is kept stays
pub record Gathered (s : Calculator) (byte : ℕ) (r : Calculator) : Type 0 where
  pub bytes_are : take r.bytes r.text ≡ take line_bytes (take s.bytes s.text ++ (byte ∷ []))
  pub kept_is : r.kept ≡ s.kept
  pub stores_are : r.stores ≡ s.stores
  pub line_is : r.line ≡ s.line

-- as many bytes of out as are told are written
pub record Ended (s r : Calculator) : Type 0 where
  pub told : ℕ
  pub stepped :
      Stepped (take s.bytes s.text) s.line s.kept s.stores.tower s.stores.a s.stores.b r.kept told r.stores.tower r.stores.a r.stores.b s.out r.out
  pub none : r.bytes ≡ 0
  pub line_is : r.line ≡ next_line s.line

pub record Fed (s : Calculator) (byte : ℕ) (r : Calculator) : Type 0 where
  pub ends : byte ≡ 10 → Ended s r
  pub gathers : ¬ (byte ≡ 10) → Gathered s byte r

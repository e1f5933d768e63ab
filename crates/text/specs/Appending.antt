-- Text behind the bytes that a store holds.
--
-- Appended == behind the first `held` bytes of out stands the text, r bytes are held, and the store is as long as before
use Rattle.std.specs.Prelude.{ℕ, ◌+◌, List, ◌++◌, ◌≡◌, length, take}

pub record Appended (held : ℕ) (text out out' : List ℕ) (r : ℕ) : Type 0 where
  pub long : length out' ≡ length out
  pub end : r ≡ held + length text
  pub stands : take r out' ≡ take held out ++ text

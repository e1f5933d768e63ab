-- The shape of a tower: its levels, degrees and sizes, as they go by value once numbers 1 and 2 have not been given.
--
-- Known s       == the sizes are those of the degrees, and the machine has room for them
-- ShapeOf n e s == s is the shape of N and four degrees that are in range
-- Checked k n e r == what tests come to whose number is k: the shape of N and the degrees where it is 0, and else the refusal of that number
use Rattle.std.specs.Prelude.{ℕ, ◌^◌, ◌<◌, ◌≤◌, ◌≡◌, List, ℤ, Result, Ok, Err}
use Rattle.tower.specs.Levels.{degree}
use Rattle.tower.specs.Writing.{size}
use Rattle.residue.specs.Word.{num}
use Rattle.tower.specs.Limits.{degrees_of}
use Rattle.tower.specs.Ready.{Sized, Small}
use Rattle.kernel.specs.Answers.{number_of}
use Rattle.kernel.specs.declared.refusals.Refusal.{Refusal}
use Rattle.kernel.specs.declared.shape.Shape.{Shape}

pub record Known (s : Shape) : Type 0 where
  pub low : s.levels ≤ 4
  pub sized : Sized s.degrees s.sizes
  pub small : Small s.degrees
  pub some : (k : ℕ) → k < s.levels → 1 ≤ degree s.degrees k
  pub is-size : s.size ≡ size s.degrees s.levels
  pub few : s.size < 2 ^ 40

pub record ShapeOf (n : ℤ) (e : List ℤ) (s : Shape) : Type 0 where
  pub levels : s.levels ≡ num n
  pub degrees : s.degrees ≡ degrees_of e
  pub known : Known s

abbrev pub Checked : ℕ → ℤ → List ℤ → Result Shape Refusal → Type 0
Checked k n e (Ok s) = (k ≡ 0) × ShapeOf n e s
Checked k n e (Err refusal) = k ≡ number_of refusal

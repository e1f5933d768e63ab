use Rattle.std.proofs.Common.{◌≡◌, ℕ, ◌*◌, ◌^◌, ◌≤◌}
use Rattle.tower.specs.Work.{AddsUp}
use Rattle.tower.specs.Writing.{size}
use Rattle.tower.proofs.sizes.over_levels.Given as goal

abbrev pub invariant-loop-i : goal.invariant-loop-i
invariant-loop-i g l =
    (l.s ≡ size l.d l.i)
    × (l.r ≤ l.i * 2 ^ 58)
    × ((sum : ℕ → ℕ) → AddsUp (goal.F-post g l.words) l.d l.n sum → l.r ≡ sum l.i)

-- Laws of the length of a slot.
use mathlib.Core.Path.{◌≡◌}
use mathlib.Core.Bool.{true}
use Prim.Native.Nat.{ℕ, ◌+◌, ◌-◌, ◌*◌, ◌%◌}
use native.Mathlib.Nat.{div-add-mod'}
use native.Mathlib.Omega.{arith}
use lib.Dec.{leb, eqb, eqb→eq, leb→le}
use Rattle.algebra.specs.Test.{both_l, both_r}
use Rattle.tower.specs.Limits.{slot_count, slot_length}
use Rattle.tower.specs.Lists.{of_true}

pub length-is : (s l : ℕ) → slot_length s l ≡ true → l ≡ slot_count s l * s + 1
unfolding slot_length
length-is s l h =
    let t = of_true (slot_length s l) h in
    let a = leb→le 1 l (both_l (leb 1 l) _ t) in
    let b = eqb→eq ((l - 1) % s) 0 (both_l (eqb ((l - 1) % s) 0) _ (both_r (leb 1 l) _ t)) in
    omega (arith, div-add-mod' (l - 1) s)

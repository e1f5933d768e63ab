-- Laws of the work sizes.
use mathlib.Core.Path.{◌≡◌, refl, ap₂, ◌∙◌}
use mathlib.Core.List.{List}
use Prim.Native.Nat.{ℕ, ◌+◌, ◌*◌}
use Rattle.tower.specs.Work.{product_work, inverse_work, gcd_work}
use Rattle.tower.specs.Writing.{size}

pub product-none : (d : List ℕ) → 0 ≡ product_work d 0
unfolding product_work
product-none d = refl

pub inverse-none : (d : List ℕ) → 0 ≡ inverse_work d 0
unfolding inverse_work
inverse-none d = refl

pub gcd-is : (d : List ℕ) (n ca cb s i r : ℕ) → s ≡ size d n → i ≡ inverse_work d n → r ≡ ca * s + 1 + (cb * s + 1) + 2 * s + i → r ≡ gcd_work d n ca cb
unfolding gcd_work
gcd-is d n ca cb s i r es ei er = er ∙ ap₂ (λ (x y : ℕ). ca * x + 1 + (cb * x + 1) + 2 * x + y) es ei

-- Laws of the refusal numbers.
use mathlib.Core.Path.{◌≡◌, refl, ap, ◌∙◌}
use mathlib.Core.Bool.{Bool, true, false}
use mathlib.Core.List.{List}
use Prim.Native.Nat.{ℕ, zero, suc, ◌<◌, ◌≤◌}
use native.Mathlib.Nat.{lt_irrefl}
use native.Mathlib.Omega.{arith}
use lib.IntN.{ℤ, pos, negsuc}
use lib.Dec.{T, ltb, leb, leb→le}
use lib.ListN.{get_or}
use borrow.Author.Tests.{le-leb, lt-leb}
use Rattle.algebra.specs.Test.{both_r, all_to_use}
use Rattle.kernel.specs.Calls.{shape_number, base_number}
use Rattle.kernel.specs.Refusals.{unless}
use Rattle.residue.specs.Word.{num}
use Rattle.tower.specs.Limits.{degrees_of, p_ok, levels_ok, degree_in, degrees_ok, levels_range}
use Rattle.tower.specs.Lists.{eq_z_sound, of_true}
use Rattle.tower.specs.Ready.{Small, Sized}
use Rattle.tower.specs.Writing.{size}

in_64 : (b : Bool) (g : ℤ) → T (degree_in b g) → num g ≤ 64
in_64 true (pos m) h = leb→le m 64 (both_r (leb 2 m) _ h)
in_64 true (negsuc m) h = omega arith
in_64 false g h = let e : num g ≡ 0 = ap num (eq_z_sound g (pos 0) h) in omega arith

pub small_of : (n : ℕ) (e : List ℤ) → degrees_ok n e ≡ true → Small (degrees_of e)
small_of n e h = record { each = go }
  where
    one : (k : ℕ) → k < 4 → num (get_or e k (pos 0)) ≤ 64
    one k l = in_64 (ltb k n) (get_or e k (pos 0)) (all_to_use 4 (λ j. degree_in (ltb j n) (get_or e j (pos 0))) (of_true (degrees_ok n e) h) k l)

    go : (k : ℕ) → k < 4 → get_or (degrees_of e) k 0 ≤ 64
    go zero l = one 0 l
    go (suc zero) l = one 1 l
    go (suc (suc zero)) l = one 2 l
    go (suc (suc (suc zero))) l = one 3 l
    go (suc (suc (suc (suc k)))) l = absurd (lt_irrefl 0 (omega arith))

pub levels_low : (n : ℤ) → levels_ok n ≡ true → num n ≤ 4
levels_low n h = ((levels_range n).0 (of_true (levels_ok n) h)).2

module _ (n : ℤ) (e : List ℤ) where
  pub shape_levels : levels_ok n ≡ false → shape_number n e ≡ 2
  unfolding shape_number
  shape_levels h = rw h refl

  pub shape-degrees : (m : ℕ) → m ≡ num n → levels_ok n ≡ true → degrees_ok m e ≡ false → shape_number n e ≡ 2
  unfolding shape_number
  shape-degrees m em h k = rw (h, ← em, k) refl

  shape_size : (b : Bool) → levels_ok n ≡ true → degrees_ok (num n) e ≡ true → leb (size (degrees_of e) (num n)) 2048 ≡ b → shape_number n e ≡ unless b 2 0
  unfolding shape_number
  shape_size b h k l = rw (h, k, l) refl

  module _ (m : ℕ) (z : List ℕ) (s : ℕ) (em : m ≡ num n) (h : levels_ok n ≡ true) (k : degrees_ok m e ≡ true) (sz : Sized (degrees_of e) z) (es : s ≡ get_or z m 0) where
    size-is : s ≡ size (degrees_of e) (num n)
    size-is = es ∙ ap (λ x. get_or z x 0) em ∙ sz.at (num n) (levels_low n h)

    pub shape_fine : s ≤ 2048 → shape_number n e ≡ 0
    shape_fine l = shape_size true h (rw em at k) (le-leb (size (degrees_of e) (num n)) 2048 (omega (arith, size-is)))

    pub shape_big : 2048 < s → shape_number n e ≡ 2
    shape_big l = shape_size false h (rw em at k) (lt-leb (size (degrees_of e) (num n)) 2048 (omega (arith, size-is)))

  pub base_p : (p : ℤ) → p_ok p ≡ false → base_number p n e ≡ 1
  unfolding base_number shape_number
  base_p p h = rw h refl

  pub base_shape : (p : ℤ) (r : ℕ) → p_ok p ≡ true → r ≡ shape_number n e → r ≡ base_number p n e
  unfolding base_number shape_number
  base_shape p r h k = rw h k

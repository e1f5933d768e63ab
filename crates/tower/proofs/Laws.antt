-- Laws of tests and of sizes.
use mathlib.Core.Path.{◌≡◌, refl, sym, ap, ◌∙◌}
use mathlib.Core.Bool.{Bool, true, false, ◌&&◌}
use mathlib.Core.Logic.{⊎_elim}
use mathlib.Core.List.{List, [], ◌∷◌}
use Prim.Native.Nat.{ℕ, zero, suc, ◌+◌, ◌*◌, ◌<◌, ◌≤◌}
use native.Mathlib.Nat.{eq-or-lt_of_le, lt_irrefl, suc-mul, mul-le-mul_right}
use native.Mathlib.Numerals.{add-one}
use native.Mathlib.Omega.{arith}
use lib.ListN.{get_or}
use Rattle.algebra.specs.Test.{all_to}
use Rattle.tower.specs.Ready.{Sized}
use Rattle.tower.specs.Writing.{size, size-zero, size_suc}

pub and_false_l : (a b : Bool) → a ≡ false → false ≡ (a && b)
and_false_l a b h = rw h refl

pub and_false_r : (a b : Bool) → b ≡ false → false ≡ (a && b)
and_false_r true b h = sym h
and_false_r false b h = refl

pub and_true_l : (a b : Bool) → a ≡ true → b ≡ (a && b)
and_true_l a b h = rw h refl

-- ---- a loop over all_to
pub all_to_bad : (n : ℕ) (f : ℕ → Bool) (k : ℕ) → k < n → f k ≡ false → false ≡ all_to n f
all_to_bad zero f k l h = absurd (lt_irrefl 0 (omega arith))
all_to_bad (suc n) f k l h =
    ⊎_elim (λ e. and_false_r (all_to n f) (f n) (ap f (sym e) ∙ h)) (λ q. and_false_l (all_to n f) (f n) (sym (all_to_bad n f k q h))) (eq-or-lt_of_le {n = k} {m = n} (omega arith))

pub all_to_more : (n : ℕ) (f : ℕ → Bool) → all_to n f ≡ true → f n ≡ true → all_to (n + 1) f ≡ true
all_to_more n f h k = rw (add-one n) (sym (and_true_l (all_to n f) (f n) h) ∙ k)

-- ---- sizes
pub row64 : (d s : ℕ) → d ≤ 64 → d * s ≤ 64 * s
row64 d s h = mul-le-mul_right s h

pub row : (k n s : ℕ) → k < n → k * s + s ≤ n * s
row k n s h =
    let e : suc k * s ≤ n * s = mul-le-mul_right s h in
    omega (arith, e, suc-mul k s)

pub sized_of : (d : List ℕ) (a b c e : ℕ) → a ≡ get_or d 0 0 * 1 + 1 → b ≡ get_or d 1 0 * a + 1 → c ≡ get_or d 2 0 * b + 1 → e ≡ get_or d 3 0 * c + 1 → Sized d (1 ∷ a ∷ b ∷ c ∷ e ∷ [])
sized_of d a b c e ha hb hc he = record { at = go }
  where
    s1 : a ≡ size d 1
    s1 = ha ∙ sym (size_suc d 0 ∙ ap (λ m. get_or d 0 0 * m + 1) (size-zero d))

    s2 : b ≡ size d 2
    s2 = hb ∙ sym (size_suc d 1 ∙ ap (λ m. get_or d 1 0 * m + 1) (sym s1))

    s3 : c ≡ size d 3
    s3 = hc ∙ sym (size_suc d 2 ∙ ap (λ m. get_or d 2 0 * m + 1) (sym s2))

    s4 : e ≡ size d 4
    s4 = he ∙ sym (size_suc d 3 ∙ ap (λ m. get_or d 3 0 * m + 1) (sym s3))

    go : (k : ℕ) → k ≤ 4 → get_or (1 ∷ a ∷ b ∷ c ∷ e ∷ []) k 0 ≡ size d k
    go zero h = sym (size-zero d)
    go (suc zero) h = s1
    go (suc (suc zero)) h = s2
    go (suc (suc (suc zero))) h = s3
    go (suc (suc (suc (suc zero)))) h = s4
    go (suc (suc (suc (suc (suc k))))) h = absurd (lt_irrefl 0 (omega arith))

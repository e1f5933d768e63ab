-- Laws of the digits of a number: they are those that `io` gives, and few. Assumes nothing.
--
-- decimal_few            == at most 20 bytes;  below_few == at most 19 of a negative word
-- fewest_few, decimal-is == the fewest digits of `io`: at most 20, and these
use mathlib.Core.Path.{◌≡◌}
use mathlib.Core.Bool.{true}
use mathlib.Core.Logic.{⊎_elim}
use Prim.Native.Nat.{ℕ, zero, suc, ◌+◌, ◌-◌, ◌/◌, ◌%◌, ◌^◌, ◌<◌, ◌≤◌}
use native.Mathlib.Nat.{pow-suc, mod-lt, mod-eq_of_lt, div-lt_iff_lt-mul, le-div_iff_mul-le, one-le-pow, pow-le-pow_right}
use native.Mathlib.Omega.{arith}
use borrow.Author.Tests.{lt-ltb, ltb-true}
use lib.Dec.{lit<}
use lib.IntN.{ℤ, pos, negsuc, nat_abs}
use lib.ListN.{length}
use lib.Signed.{lt_z}
use mir.Syntax.{w64}
use mir.Val.{SFits, to_z, of_z}
use mir.ValLaws.{to_z-of_z}
use Rattle.algebra.specs.Test.{le_or_lt}
use Rattle.io.specs.Digits.{hex_digit_ascii, last_digits, IsDigitCount}
use Rattle.text.specs.Text.{decimal_by, decimal}
use Rattle.text.specs.Written.{digit_alone, digit_behind, few_digits}

-- ---- how many
pub decimal_few : (n : ℕ) → n < 2 ^ 64 → length (decimal n) ≤ 20
decimal_few n h = few_digits 19 n (omega arith)

-- ---- the digits of `io`
digit : (d : ℕ) → d < 10 → hex_digit_ascii d ≡ 48 + d
digit d h = simp (lt-ltb d 10 h)

fewest_by : (m k n : ℕ) → k ≤ m → n < 10 ^ suc k → (0 < k → 10 ^ k ≤ n) → last_digits 10 (suc k) n ≡ decimal_by (suc m) n
fewest_by m zero n l h f =
    let b : n < 10 = omega (arith, h, pow-suc 10 0) in
    rw (digit_alone m n b, mod-eq_of_lt b, digit n b)
fewest_by zero (suc k) n l h f = absurd (omega arith)
fewest_by (suc m) (suc k) n l h f =
    let b : 10 ^ suc k ≤ n = f (omega arith) in
    let t : 10 ≤ n = omega (arith, b, pow-suc 10 k, one-le-pow k 10 (lit< tt)) in
    let r : n / 10 < 10 ^ suc k = (div-lt_iff_lt-mul (lit< tt)).1 (omega (arith, h, pow-suc 10 (suc k))) in
    let s : 10 ^ k ≤ n / 10 = (le-div_iff_mul-le (lit< tt)).1 (omega (arith, b, pow-suc 10 k)) in
    rw (digit_behind (suc m) n t, fewest_by m k (n / 10) (omega arith) r (λ _. s), digit (n % 10) (mod-lt n (lit< tt)))

-- a number below 2^64 needs at most 20
pub fewest_few : (n k : ℕ) → n < 2 ^ 64 → IsDigitCount 10 1 n k → k ≤ 20
fewest_few n k h f = ⊎_elim (λ l. l) (λ l. absurd (past l)) (le_or_lt k 20)
  where
    past : 20 < k → ⊥
    past l = omega (arith, f.2 (omega arith), pow-le-pow_right {n = 10} (lit< tt) {i = 20} {j = k - 1} (omega arith))

pub decimal-is : (n k : ℕ) → n < 2 ^ 64 → IsDigitCount 10 1 n k → last_digits 10 k n ≡ decimal n
decimal-is n zero h f = absurd (omega (arith, f.0))
decimal-is n (suc k) h f =
    let e : suc k - 1 ≡ k = omega arith in
    let l : suc k ≤ 20 = fewest_few n (suc k) h f in
    fewest_by 19 k n (omega arith) f.1 (λ o. rw e at (f.2 (omega arith)))

-- ---- a word by its sign
below_small : (w : ℤ) → SFits w64 w → lt_z w (pos 0) ≡ true → nat_abs w < 10 ^ 19
below_small (pos n) f t = absurd (omega (arith, ltb-true n 0 t))
below_small (negsuc n) f t = omega (arith, f.sfits)

module _ (w : ℤ) (f : SFits w64 w) where
  -- also -2^63 has 19 digits
  pub below_few : lt_z (to_z w64 (of_z w64 w)) (pos 0) ≡ true → length (decimal (nat_abs (to_z w64 (of_z w64 w)))) ≤ 19
  below_few t = rw (to_z-of_z w64 w f) (few_digits 18 (nat_abs w) (below_small w f (rw (to_z-of_z w64 w f) at t)))

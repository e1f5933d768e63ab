-- Work words: document 01's recurrences, and that the product's fit into the inverse's.
--
-- room d i c      == P(c - 1, i): the words of c coefficients of level i and a degree word
-- product_work    == M;  inverse_work == I;  gcd_work == the GCD's number, from one more than the two degrees
-- AddsUp == a sum over the levels of a tower
-- product≤inverse == M(n) ≤ I(n), for any degrees;  inverse_work_grows == what a level needs, those above it have
use Rattle.std.specs.Prelude.{◌≡◌, refl, List, ℕ, zero, suc, ◌+◌, ◌-◌, ◌*◌, ◌<◌, ◌≤◌}
use Rattle.std.proofs.Common.{mul-le-mul_right, arith}
use Rattle.tower.specs.Levels.{degree}
use Rattle.tower.specs.Writing.{size}

-- "P(d, i) = (d + 1)·S_i + 1"
abbrev pub room : List ℕ → ℕ → ℕ → ℕ
room d i c = c * size d i + 1

-- "M(0) = 0, M(N) = 2·P(2·d_N - 2, N-1) + M(N-1)"
unfoldable pub product_work : List ℕ → ℕ → ℕ
product_work d zero = 0
product_work d (suc i) = 2 * room d i (2 * degree d i - 2 + 1) + product_work d i

-- "I(0) = 0, I(N) = 5·P(d_N, N-1) + I(N-1)"
unfoldable pub inverse_work : List ℕ → ℕ → ℕ
inverse_work d zero = 0
inverse_work d (suc i) = 5 * room d i (degree d i + 1) + inverse_work d i

-- "P(deg a, N) + P(deg b, N) + 2·S_N + I(N), a zero polynomial counting as degree -1"
unfoldable pub gcd_work : List ℕ → ℕ → ℕ → ℕ → ℕ
gcd_work d n ca cb = room d n ca + room d n cb + 2 * size d n + inverse_work d n

-- sum adds up what `gives` says of the degree of a level and the size of the elements below it
pub record AddsUp (gives : ℕ → ℕ → ℕ → Type 0) (d : List ℕ) (n : ℕ) (sum : ℕ → ℕ) : Type 0 where
  pub none : sum 0 ≡ 0
  pub more : (i r : ℕ) → i < n → gives (degree d i) (size d i) r → sum (suc i) ≡ r + sum i

pub product_work_suc : (d : List ℕ) (i : ℕ) → product_work d (suc i) ≡ 2 * room d i (2 * degree d i - 2 + 1) + product_work d i
unfolding product_work
product_work_suc d i = refl

pub inverse_work_suc : (d : List ℕ) (i : ℕ) → inverse_work d (suc i) ≡ 5 * room d i (degree d i + 1) + inverse_work d i
unfolding inverse_work
inverse_work_suc d i = refl

pub inverse_work_grows : (d : List ℕ) (i : ℕ) → inverse_work d i ≤ inverse_work d (suc i)
inverse_work_grows d i = omega (arith, inverse_work_suc d i)

-- 2·(2·d - 1) coefficients are fewer than 5·(d + 1), whatever d
step : (g s : ℕ) → 2 * ((2 * g - 2 + 1) * s + 1) ≤ 5 * ((g + 1) * s + 1)
step g s =
    let h : (2 * (2 * g - 2 + 1)) * s ≤ (5 * (g + 1)) * s = mul-le-mul_right s (omega arith) in
    omega arith

pub product≤inverse : (d : List ℕ) (n : ℕ) → product_work d n ≤ inverse_work d n
unfolding product_work inverse_work
product≤inverse d zero = omega arith
product≤inverse d (suc i) = omega (arith, step (degree d i) (size d i), product≤inverse d i)

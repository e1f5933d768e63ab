-- Laws of residues, of words, of the accumulator, and of the rows of the extended Euclid. Assumes nothing.
--
-- minus-none, minus_once             == a number below p is its own residue, and one below 2p after p is taken off once
-- euclid_mod                         == the Euclidean remainder of a word is its residue
-- product_fits                       == a product of two residues fits a word
-- room-start, room-less, room_after  == room for 2^32 folds from zero, for fewer, and for the rest after some
-- added_none, added_more, added_then == no fold adds nothing; a larger count; folds after folds
-- reduced_once, reduced_twice        == the two words modulo p, as one number or with the upper part modulo p first
-- Rows; start, turn, next            == two rows; the first two; what a quotient does; the next two
-- finish_factor, -minus, _plus       == the answer, by the last remainder and the sign of its multiplier
-- inverted_unique                    == an answer is determined
use mathlib.Core.Path.{◌≡◌, refl, sym, ap, ◌∙◌}
use mathlib.Core.Bool.{Bool, true, false, not}
use mathlib.Core.Logic.{◌↔◌, ◌⊎◌, inl, inr}
use Prim.Native.Nat.{ℕ, zero, suc, ◌+◌, ◌-◌, ◌*◌, ◌/◌, ◌%◌, ◌^◌, ◌<◌, ◌≤◌, ◌∣◌}
use native.Mathlib.Omega.{arith}
use lib.IntN.{ℤ, pos, negsuc, nat_abs}
use native.Mathlib.Nat.{le_refl, mod-lt, mod_self, suc-mod, mod-eq_of_lt, add-mod_right, mod-add-mod, add-mul-mod_self_right, div-add-mod'}
use native.Mathlib.Nat.{mul-le-mul, mul-le-mul_right, le-mul_of_pos_right}
use native.Mathlib.Nat.{dvd_refl, dvd-zero, dvd-add, dvd-add_iff_left, dvd-mul_left_of_dvd, dvd_antisymm, eq-one_of_dvd-one}
use Rattle.std.specs.Int.{int_rem_euclid}
use Rattle.algebra.specs.Test.{le_or_lt}
use Rattle.algebra.specs.Zmod.{mul_mod_l, mul_mod_r}
use Rattle.residue.specs.Word.{mod_z}
use Rattle.residue.specs.Number.{Below, sum_of, Room, Added, UnitOf, FactorOf, Inverted}
use Rattle.residue.specs.declared.Shared.{Shared}
use Rattle.std.specs.Prelude.{Result, Ok, Err}

-- ---- residues
pub minus-none : (p n : ℕ) → n < p → Below p (n % p) n
minus-none p n h = record { value = sym (mod-eq_of_lt h); small = h }

pub minus_once : (p n r : ℕ) → n ≡ r + p → r < p → Below p (n % p) r
minus_once p n r e h = record { value = sym (ap (λ k. k % p) e ∙ add-mod_right r p ∙ mod-eq_of_lt h); small = h }

pub product_fits : {a b p : ℕ} → p < 2 ^ 32 → a < p → b < p → a * b < 2 ^ 64
product_fits {a} {b} {p} hp ha hb =
    let s : a ≤ 2 ^ 32 - 1 = omega arith in
    let t : b ≤ 2 ^ 32 - 1 = omega arith in
    omega (arith, mul-le-mul s t)

-- ---- the residue of a word
next_mod : (a p : ℕ) → 0 < p → p - 1 - a % p ≡ (p - suc a % p) % p
next_mod a p h = go (le_or_lt p (suc (a % p)))
  where
    go : (p ≤ suc (a % p)) ⊎ (suc (a % p) < p) → p - 1 - a % p ≡ (p - suc a % p) % p
    go (inl q) =
        let all : suc (a % p) ≡ p = omega (arith, mod-lt a h) in
        let whole : p - 0 ≡ p = omega arith in
        let none : (p - 0) % p ≡ 0 = ap (λ x. x % p) whole ∙ mod_self p in
        rw (suc-mod a p, all, mod_self p) (omega (arith, all, none))
    go (inr q) =
        let small : p - suc (a % p) < p = omega (arith, h) in
        rw (suc-mod a p, mod-eq_of_lt q, mod-eq_of_lt small) (omega arith)

-- what the machine reads back of the remainder
pub euclid_mod : (n : ℤ) (p : ℕ) (r : ℤ) → 0 < p → r ≡ int_rem_euclid n (pos p) → Below p (mod_z n p) (nat_abs r)
euclid_mod (pos n) p r h e = rw e (record { value = refl; small = mod-lt n h })
euclid_mod (negsuc n) p r h e = rw e (record { value = next_mod n p h; small = omega (arith, h) })

-- ---- the accumulator
pub room-start : (n : ℕ) → n ≤ 2 ^ 32 → Room n 0 0
room-start n h = record { lo_room = omega arith; hi_room = omega arith }

pub room-less : (m n lo hi : ℕ) → m ≤ n → Room n lo hi → Room m lo hi
room-less m n lo hi h r = record { lo_room = omega arith; hi_room = omega arith }

pub room_after : (m n k a lo hi lo' hi' : ℕ) → m + n ≤ k → Room k lo hi → Added m a lo hi lo' hi' → Room n lo' hi'
room_after m n k a lo hi lo' hi' h r f = record { lo_room = omega arith; hi_room = omega arith }

pub added_none : (lo hi : ℕ) → Added 0 0 lo hi lo hi
added_none lo hi = record { lo_most = omega arith; hi_most = omega arith; value = omega arith }

pub added_more : (m n a lo hi lo' hi' : ℕ) → m ≤ n → Added m a lo hi lo' hi' → Added n a lo hi lo' hi'
added_more m n a lo hi lo' hi' h f = record { lo_most = omega arith; hi_most = omega arith; value = f.value }

pub added_then : (m n a b lo hi l h lo' hi' : ℕ) → Added m a lo hi l h → Added n b l h lo' hi' → Added (m + n) (a + b) lo hi lo' hi'
added_then m n a b lo hi l h lo' hi' f g = record { lo_most = omega arith; hi_most = omega arith; value = omega arith }

-- the two words as one number
joined : (lo hi : ℕ) → (hi + lo / 2 ^ 32) * 2 ^ 32 + lo % 2 ^ 32 ≡ sum_of lo hi
joined lo hi = omega (arith, div-add-mod' lo (2 ^ 32))

pub reduced_once : (lo hi p : ℕ) → 0 < p → Below p (sum_of lo hi % p) (((hi + lo / 2 ^ 32) * 2 ^ 32 + lo % 2 ^ 32) % p)
reduced_once lo hi p h = record { value = ap (λ k. k % p) (joined lo hi); small = mod-lt _ h }

pub reduced_twice : (lo hi p : ℕ) → 0 < p → Below p (sum_of lo hi % p) (((hi + lo / 2 ^ 32) % p * 2 ^ 32 + lo % 2 ^ 32) % p)
reduced_twice lo hi p h = record {
  value =
      sym (mod-add-mod ((hi + lo / 2 ^ 32) % p * 2 ^ 32) p (lo % 2 ^ 32))
      ∙ ap (λ k. (k + lo % 2 ^ 32) % p) (mul_mod_l (hi + lo / 2 ^ 32) (2 ^ 32) p)
      ∙ mod-add-mod ((hi + lo / 2 ^ 32) * 2 ^ 32) p (lo % 2 ^ 32)
      ∙ ap (λ k. k % p) (joined lo hi);
  small = mod-lt _ h;
}

-- ---- the rows of the extended Euclid on p and c

-- A remainder r is m · c modulo p where its multiplier m counts plus, and -m · c where it counts minus. n says how often p is taken off.
abbrev pub Row : Bool → (p c r m n : ℕ) → Type 0
Row true p c r m n = m * c ≡ r + n * p
Row false p c r m n = r + m * c ≡ n * p

-- m1 counts plus where s is true, and m0 counts the other way. From `cross` no multiplier passes p.
pub record Rows (p c : ℕ) (s : Bool) (r0 r1 m0 m1 : ℕ) : Type 0 where
  pub falls : r1 < r0
  pub most : r0 ≤ p
  pub inside : m0 < p
  pub cross : r0 * m1 + r1 * m0 ≡ p
  pub n0 : ℕ
  pub n1 : ℕ
  pub row0 : Row (not s) p c r0 m0 n0
  pub row1 : Row s p c r1 m1 n1
  pub common : (k : ℕ) → ((k ∣ r0) × (k ∣ r1)) ↔ ((k ∣ p) × (k ∣ c))

pub start : (p c : ℕ) → c < p → Rows p c true p c 0 1
start p c h = record {
  falls = h;
  most = le_refl p;
  inside = omega arith;
  cross = omega arith;
  n0 = 1;
  n1 = 0;
  row0 = omega arith;
  row1 = omega arith;
  common = λ k. (λ d. d, λ d. d);
}

-- the next row is the first less q times the second
row_next : (s : Bool) (p c q r0 r1 r m0 m1 m n0 n1 : ℕ) → r0 ≡ r + q * r1 → m ≡ m0 + q * m1
    → Row (not s) p c r0 m0 n0 → Row s p c r1 m1 n1 → Row (not s) p c r m (n0 + q * n1)
row_next true p c q r0 r1 r m0 m1 m n0 n1 er em a b = omega (arith, ap (λ k. k * c) em, ap (λ k. q * k) b)
row_next false p c q r0 r1 r m0 m1 m n0 n1 er em a b = omega (arith, ap (λ k. k * c) em, ap (λ k. q * k) b)

same_sign : (s : Bool) (p c r m n : ℕ) → Row s p c r m n → Row (not (not s)) p c r m n
same_sign true p c r m n e = e
same_sign false p c r m n e = e

-- what the code computes with a quotient does not wrap
pub record Turn (p q r0 r1 m0 m1 : ℕ) : Type 0 where
  pub most : q * r1 ≤ r0
  pub rest : r0 - q * r1 < r1
  pub inside : m0 + q * m1 ≤ p

pub turn : (p c : ℕ) (s : Bool) (q r0 r1 m0 m1 : ℕ) → 0 < r1 → q ≡ r0 / r1 → Rows p c s r0 r1 m0 m1 → Turn p q r0 r1 m0 m1
turn p c s q r0 r1 m0 m1 h e w =
    let split : q * r1 + r0 % r1 ≡ r0 = ap (λ k. k * r1 + r0 % r1) e ∙ div-add-mod' r0 r1 in
    let most : q * r1 ≤ r0 = omega arith in
    record {
      most = most;
      rest = omega (arith, mod-lt r0 h);
      inside = omega (arith, le-mul_of_pos_right (m0 + q * m1) h, mul-le-mul_right m1 most, w.cross);
    }

common_next : (p c q r0 r1 r : ℕ) → r0 ≡ r + q * r1 → ((k : ℕ) → ((k ∣ r0) × (k ∣ r1)) ↔ ((k ∣ p) × (k ∣ c)))
    → (k : ℕ) → ((k ∣ r1) × (k ∣ r)) ↔ ((k ∣ p) × (k ∣ c))
common_next p c q r0 r1 r e f k = (
  λ d. (f k).0 (rw e (dvd-add k d.1 (dvd-mul_left_of_dvd k d.0 q)), d.0),
  λ d. let g = (f k).1 d in (g.1, (dvd-add_iff_left k (dvd-mul_left_of_dvd k g.1 q)).1 (rw e at g.0)),
)

pub next : (p c : ℕ) (s : Bool) (q r0 r1 m0 m1 : ℕ) → 0 < r1 → q ≡ r0 / r1 → Rows p c s r0 r1 m0 m1
    → Rows p c (not s) r1 (r0 - q * r1) m1 (m0 + q * m1)
next p c s q r0 r1 m0 m1 h e w =
    let t = turn p c s q r0 r1 m0 m1 h e w in
    let split : r0 ≡ r0 - q * r1 + q * r1 = omega (arith, t.most) in
    let two : 2 ≤ r0 = omega (arith, w.falls) in
    record {
      falls = t.rest;
      most = omega (arith, w.falls, w.most);
      inside = omega (arith, mul-le-mul_right m1 two, w.cross, w.inside);
      cross = omega (arith, ap (λ k. k * m1) split, w.cross);
      n0 = w.n1;
      n1 = w.n0 + q * w.n1;
      row0 = same_sign s p c r1 m1 w.n1 w.row1;
      row1 = row_next s p c q r0 r1 (r0 - q * r1) m0 m1 (m0 + q * m1) w.n0 w.n1 split refl w.row0 w.row1;
      common = common_next p c q r0 r1 (r0 - q * r1) split w.common;
    }

-- where a multiplier that counts minus gives 1: it is not 0, and p less it counts plus
some : (p c m n : ℕ) → 1 < p → 1 + m * c ≡ n * p → 0 < m
some p c (suc m) n h e = omega arith
some p c zero zero h e = omega arith
some p c zero (suc n) h e = omega arith

opposite : (p c u m n : ℕ) → u + m ≡ p → 1 + m * c ≡ n * p → u * c + n * p ≡ 1 + c * p
opposite p c u m n h e = omega (arith, ap (λ k. k * c) h)

-- The rows end where the second remainder is 0: the first has exactly the common divisors of p and c.
module _ (p c : ℕ) (s : Bool) (r0 r1 m0 m1 : ℕ) (end : r1 ≡ 0) (w : Rows p c s r0 r1 m0 m1) where
  greatest : (k : ℕ) → (k ∣ r0) ↔ ((k ∣ p) × (k ∣ c))
  greatest k = (λ d. (w.common k).0 (d, rw end (dvd-zero k)), λ d. ((w.common k).1 d).0)

  pub finish_factor : 1 < r0 → FactorOf p c r0
  finish_factor h = record { above = h; common = greatest }

  module _ (above : 1 < p) (small : r0 ≤ 1) where
    one : r0 ≡ 1
    one = omega (arith, w.falls)

    coprime : (k : ℕ) → k ∣ p → k ∣ c → k ≤ 1
    coprime k a b = omega (arith, eq-one_of_dvd-one (rw one at ((greatest k).1 (a, b))))

    unit : (u n l : ℕ) → u < p → u * c + n * p ≡ 1 + l * p → UnitOf p c u
    unit u n l h e = record {
      small = h;
      inverse = sym (add-mul-mod_self_right (u * c) n p) ∙ ap (λ k. k % p) e ∙ add-mul-mod_self_right 1 l p ∙ mod-eq_of_lt above;
      coprime = coprime;
    }

    pub finish-minus : s ≡ true → UnitOf p c (p - m0)
    finish-minus e =
        let a : 1 + m0 * c ≡ w.n0 * p = rw (e, one) at w.row0 in
        let u : p - m0 + m0 ≡ p = omega (arith, w.inside) in
        unit (p - m0) w.n0 c (omega (arith, some p c m0 w.n0 above a)) (opposite p c (p - m0) m0 w.n0 u a)

    pub finish_plus : s ≡ false → UnitOf p c m0
    finish_plus e =
        let a : m0 * c ≡ r0 + w.n0 * p = rw e at w.row0 in
        unit m0 0 w.n0 w.inside (omega arith)

-- ---- an answer is determined
unit_unique : (p c u v : ℕ) → UnitOf p c u → UnitOf p c v → u ≡ v
unit_unique p c u v a b =
    sym (times u v a.small b.inverse) ∙ ap (λ k. k % p) (omega arith) ∙ times v u b.small a.inverse
  where
    times : (x y : ℕ) → x < p → (y * c) % p ≡ 1 → (x * (y * c)) % p ≡ x
    times x y h e = sym (mul_mod_r x (y * c) p) ∙ ap (λ k. (x * k) % p) e ∙ ap (λ k. k % p) (omega arith) ∙ mod-eq_of_lt h

no_both : (p c u h : ℕ) → UnitOf p c u → FactorOf p c h → ⊥
no_both p c u h a b =
    let d = (b.common h).0 (dvd_refl h) in
    omega (arith, a.coprime h d.0 d.1, b.above)

factor_unique : (p c g h : ℕ) → FactorOf p c g → FactorOf p c h → g ≡ h
factor_unique p c g h a b =
    dvd_antisymm ((b.common g).1 ((a.common g).0 (dvd_refl g))) ((a.common h).1 ((b.common h).0 (dvd_refl h)))

pub inverted_unique : (p c : ℕ) (r t : Result ℕ Shared) → Inverted p c r → Inverted p c t → r ≡ t
inverted_unique p c (Ok u) (Ok v) a b = ap Ok (unit_unique p c u v a b)
inverted_unique p c (Ok u) (Err h) a b = absurd (no_both p c u h.divisor a b)
inverted_unique p c (Err h) (Ok u) a b = absurd (no_both p c u h.divisor b a)
inverted_unique p c (Err g) (Err h) a b = ap (λ (k : ℕ). Err (record { divisor = k })) (factor_unique p c g.divisor h.divisor a b)

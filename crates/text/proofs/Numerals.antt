-- Laws of numbers in a text: digits as a loop meets them from the front, and the sign. Assumes nothing.
--
-- too_few_or_many == texts of no digit, and of more than there may be
-- Read; none_read, one_more, all_read, other == what is known of the digits passed, from the first to the last
-- with_sign, no_sign   == a text by its first byte
use mathlib.Core.Path.{◌≡◌, refl, sym, ap, ◌∙◌}
use mathlib.Core.Logic.{◌⊎◌, ⊎_elim}
use mathlib.Core.Bool.{Bool, true, false, cond, ◌&&◌}
use mathlib.Core.List.{List, [], ◌∷◌}
use Prim.Native.Nat.{ℕ, suc, ◌+◌, ◌-◌, ◌*◌, ◌^◌, ◌<◌, ◌≤◌}
use native.Mathlib.Nat.{pow-suc, pow-le-pow_right}
use native.Mathlib.Numerals.{add-one}
use native.Mathlib.Omega.{arith}
use borrow.Author.Tests.{le-ltb, le-leb, lt-leb}
use lib.Dec.{lit<}
use lib.ListN.{length, get_or, drop}
use lib.Seq.{drop-cons, drop-length}
use Rattle.std.specs.Prelude.{Some, None}
use Rattle.text.specs.Text.{is_digit, digits_of, magnitude_of, plain_of, negated_of, number_of}
use Rattle.text.specs.Written.{all_of, without_sign, digits_nil}

and_false : (b : Bool) → (b && false) ≡ false
and_false true = refl
and_false false = refl

-- how many digits there may be
pub too_few_or_many : (most : ℕ) (s : List ℕ) → (length s ≡ 0) ⊎ (most < length s) → None ≡ magnitude_of most s
unfolding magnitude_of
too_few_or_many most s h = ⊎_elim (λ e. simp (le-ltb 0 (length s) (omega arith))) (λ l. simp (lt-leb (length s) most l, and_false)) h

-- one digit more
digit : (b : ℕ) → 48 ≤ b → b ≤ 57 → is_digit b ≡ true
digit b h k = simp (le-leb 48 b h, le-leb b 57 k)

no_digit : (b : ℕ) → (b < 48) ⊎ (57 < b) → is_digit b ≡ false
no_digit b h = ⊎_elim (λ l. simp (lt-leb 48 b l)) (λ l. simp (lt-leb b 57 l, and_false)) h

digits_cons : (n b : ℕ) (s : List ℕ) → digits_of n (b ∷ s) ≡ cond (is_digit b) (digits_of (n * 10 + (b - 48)) s) None
unfolding digits_of
digits_cons n b s = refl

module _ (s : List ℕ) (n i : ℕ) (h : i < length s) where
  at_place : (t : Bool) → is_digit (get_or s i 0) ≡ t → digits_of n (drop i s) ≡ cond t (digits_of (n * 10 + (get_or s i 0 - 48)) (drop (i + 1) s)) None
  at_place t e =
      ap (digits_of n) (drop-cons s i 0 h)
      ∙ digits_cons n (get_or s i 0) (drop (suc i) s)
      ∙ rw (e, add-one)

-- of at most so many digits those before i have been read, with value n
pub record Read (most : ℕ) (s : List ℕ) (n i : ℕ) : Type 0 where
  pub some : 0 < length s
  pub few : length s ≤ most
  pub passed : i ≤ length s
  pub small : n < 10 ^ i
  pub rest : magnitude_of most s ≡ digits_of n (drop i s)

pub none_read : (most : ℕ) (s : List ℕ) → (length s ≡ 0 → ⊥) → length s ≤ most → Read most s 0 0
none_read most s h k =
    record { some = omega arith; few = k; passed = omega arith; small = lit< tt; rest = all_of most s (omega arith) k }

pub under : {most : ℕ} {s : List ℕ} {n i : ℕ} → most ≤ 19 → Read most s n i → i < length s → n < 10 ^ 18
under {most} {s} {n} {i} m r h =
    omega (arith, r.few, r.small, pow-le-pow_right {n = 10} (lit< tt) {i = i} {j = 18} (omega (arith, m, r.few)))

grows : (n i d : ℕ) → n < 10 ^ i → d ≤ 9 → n * 10 + d < 10 ^ (i + 1)
grows n i d h k = rw (add-one, pow-suc) (omega arith)

pub one_more : {most : ℕ} {s : List ℕ} {n i : ℕ} (d : ℕ) → Read most s n i → i < length s → 48 ≤ get_or s i 0 → get_or s i 0 ≤ 57 → d ≡ get_or s i 0 - 48
    → Read most s (n * 10 + d) (i + 1)
one_more {most} {s} {n} {i} d r h l k e =
    record {
      some = r.some;
      few = r.few;
      passed = omega arith;
      small = grows n i d r.small (omega arith);
      rest = r.rest ∙ at_place s n i h true (digit (get_or s i 0) l k) ∙ rw e;
    }

pub other : {most : ℕ} {s : List ℕ} {n i : ℕ} → Read most s n i → i < length s → (get_or s i 0 < 48) ⊎ (57 < get_or s i 0) → None ≡ magnitude_of most s
other {most} {s} {n} {i} r h l = sym (r.rest ∙ at_place s n i h false (no_digit (get_or s i 0) l))

pub all_read : {most : ℕ} {s : List ℕ} {n i : ℕ} → Read most s n i → length s ≤ i → Some n ≡ magnitude_of most s
all_read {most} {s} {n} {i} r h =
    let e : i ≡ length s = omega (arith, r.passed) in
    sym (r.rest ∙ rw (e, drop-length) (digits_nil n))

-- the sign
pub with_sign : (most : ℕ) (s digits : List ℕ) → s ≡ 45 ∷ digits → negated_of (magnitude_of most digits) ≡ number_of most s
unfolding number_of
with_sign most s digits e = rw e

pub no_sign : (most : ℕ) (s : List ℕ) → ((digits : List ℕ) → s ≡ 45 ∷ digits → ⊥) → plain_of (magnitude_of most s) ≡ number_of most s
unfolding magnitude_of number_of
no_sign most [] h = refl
no_sign most (b ∷ s) h = without_sign most (b ∷ s) (omega arith) (λ e. h s (ap (λ (n : ℕ). n ∷ s) e))

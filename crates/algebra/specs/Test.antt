-- Tests that compute: a Bool, with what it means. (A `Dec` would carry a proof that is computed along with the answer.)
--
-- EqTest A     == equality by a test;  test-set == what has one is a set
-- ZeroTest o z == z tells whether an element is o
-- branch       == by cases on a test, with what it says;  branch_yes == of a test that passes
-- both ..      == two tests;  all_to == each number below n;  le_or_lt == two numbers
use Rattle.std.specs.Prelude.{◌≡◌, refl, Bool, true, false, not, ◌&&◌, ◌⊎◌, ℕ, zero, suc, ◌≤◌, ◌<◌, T, leb}
use Rattle.std.proofs.Common.{sym, subst, inl, inr, ⊎_elim, eq-or-lt_of_le, not-suc-le-zero, arith, T_not, leb→le}
use mathlib.Core.HLevel.{hedberg}
use Rattle.std.proofs.Math.Dec.{nleb→lt}

pub record EqTest (A : Type 0) : Type 0 where
  pub eq : A → A → Bool
  pub sound : (a b : A) → T (eq a b) → a ≡ b
  pub same : (a : A) → T (eq a a)

pub record ZeroTest {A : Type 0} (o : A) (z : A → Bool) : Type 0 where
  pub sound : (a : A) → T (z a) → a ≡ o
  pub same : T (z o)

-- by cases on a test, with what it says
abbrev pub branch : {A : Type 0} (b : Bool) → (T b → A) → (T (not b) → A) → A
branch true x y = x tt
branch false x y = y tt

pub branch_yes : {A : Type 0} (b : Bool) (f : T b → A) (g : T (not b) → A) (t : T b) → branch b f g ≡ f t
branch_yes true f g t = refl
branch_yes {A = A} false f g t = elim t [ ]

pub test_complete : {A : Type 0} (E : EqTest A) {a b : A} → a ≡ b → T (E.eq a b)
test_complete E {a} {b} p = subst (λ x. T (E.eq a x)) p (E.same a)

pub differ : {A : Type 0} (E : EqTest A) {a b : A} → T (not (E.eq a b)) → ¬ (a ≡ b)
differ E {a} {b} h p = T_not (E.eq a b) h (test_complete E p)

pub not_zero : {A : Type 0} {o : A} {z : A → Bool} → ZeroTest o z → (a : A) → T (not (z a)) → ¬ (a ≡ o)
not_zero {A} {o} {z} Z a h e = T_not (z a) h (subst (λ x. T (z x)) (sym e) Z.same)

pub test_discrete : {A : Type 0} → EqTest A → Discrete A
test_discrete E a b = branch (E.eq a b) (λ h. yes (E.sound a b h)) (λ h. no (differ E h))

pub test-set : {A : Type 0} → EqTest A → IsSet A
test-set E = hedberg (test_discrete E)

pub both : (a b : Bool) → T a → T b → T (a && b)
both true b h k = k
both false b h k = elim h [ ]

pub both_l : (a b : Bool) → T (a && b) → T a
both_l true b h = tt
both_l false b h = elim h [ ]

pub both_r : (a b : Bool) → T (a && b) → T b
both_r true b h = h
both_r false b h = elim h [ ]

-- each number below n passes f
abbrev pub all_to : ℕ → (ℕ → Bool) → Bool
all_to zero f = true
all_to (suc n) f = all_to n f && f n

pub all_to_use : (n : ℕ) (f : ℕ → Bool) → T (all_to n f) → (k : ℕ) → k < n → T (f k)
all_to_use zero f h k l = absurd (not-suc-le-zero l)
all_to_use (suc n) f h k l =
    ⊎_elim (λ e. subst (λ x. T (f x)) (sym e) (both_r (all_to n f) (f n) h)) (λ q. all_to_use n f (both_l (all_to n f) (f n) h) k q) (eq-or-lt_of_le {n = k} {m = n} (omega arith))

pub all_to-make : (n : ℕ) (f : ℕ → Bool) → ((k : ℕ) → k < n → T (f k)) → T (all_to n f)
all_to-make zero f h = tt
all_to-make (suc n) f h = both (all_to n f) (f n) (all_to-make n f (λ k l. h k (omega arith))) (h n (omega arith))

-- two numbers
pub le_or_lt : (m n : ℕ) → (m ≤ n) ⊎ (n < m)
le_or_lt m n = branch (leb m n) (λ h. inl (leb→le m n h)) (λ h. inr (nleb→lt m n h))

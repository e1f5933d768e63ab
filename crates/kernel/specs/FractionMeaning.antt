-- What the numbers 0, 1 and 10 say of a fraction n/e, and what its residue is.
--
-- Coprime, NoResidue == e is positive and nothing above 1 divides both p and e; or one of these is not so
-- fraction-zero, fraction-one, fraction_ten == each number is given exactly where it is so;  fraction_numbers == no other number is given
-- ResidueOf p n e r == r is below p, and e times r is n modulo p;  mod_z_negative == what n modulo p is below 0
-- fraction-residue  == where no number is given the residue is so;  fraction_only == and nothing else is
-- fraction-answers, fraction_gives == the same of what the call says and gives
-- FractionMeans, fraction-says, fraction_given == for each number what it says, and that it is given precisely then
use Prim.Native.Nat.{ℕ, zero, suc, ◌+◌, ◌-◌, ◌*◌, ◌%◌, ◌≤◌, ◌<◌, ◌∣◌}
use Rattle.std.specs.Prelude.{◌≡◌, Bool, not, ◌↔◌, ◌⊎◌, ℤ, pos, negsuc, ltb}
use Rattle.std.proofs.Math.Path.{refl, sym, ap, subst}
use Rattle.std.proofs.Common.{◌∙◌, lt_irrefl, mod-lt, mod-eq_of_lt, arith, leb→le, le→leb, ltb→lt, nltb→le}
use Rattle.std.proofs.Math.Bool.{true, false}
use Rattle.std.proofs.Math.Logic.{inl, inr}
use Rattle.std.proofs.Math.Nat.{mod_self, mod-add-mod, add-mod-mod, dvd-mod_iff, dvd_refl, le_of_dvd, pos_of_dvd_of_pos}
use Rattle.std.specs.Int.Signed.{lt_z, le_z}
use Rattle.std.proofs.Math.Dec.{T, T_not, not_T}
use Rattle.algebra.specs.Test.{branch, branch_yes}
use Rattle.algebra.specs.Zmod.{Residue, to_z, mul_mod_l, mul_mod_r}
use Rattle.euclid.specs.Answer.{Answer, done as done-with, shown, long}
use Rattle.euclid.specs.Number.{Row, row, row_ok, answer, inverse₀}
use Rattle.residue.specs.Word.{num, mod_z}
use Rattle.tower.specs.Limits.{p_ok, p_positive, Between, modulus_range}
use Rattle.kernel.specs.Refusals.{done, refusal, refusal_inj, Numbered, passed_of, first_of, Applies, first_applies, first-is}
use Rattle.kernel.specs.Calls.{inverse_of, is_given, times_given, fraction_table, fraction_number, fraction_residue, fraction_by, fraction}

-- 0: p is in range, e is positive, and nothing above 1 divides both
pub record Coprime (p e : ℤ) : Type 0 where
  pub modulus : T (p_ok p)
  pub positive : T (lt_z (pos 0) e)
  pub coprime : (k : ℕ) → k ∣ num p → k ∣ num e → k ≤ 1

-- a divisor above 1 of both
pub record Common (p e : ℕ) : Type 0 where
  pub divisor : ℕ
  pub above : 1 < divisor
  pub of_p : divisor ∣ p
  pub of_e : divisor ∣ e

-- 10: "It is refused when e is not positive or shares a divisor above 1 with p."
pub record NoResidue (p e : ℤ) : Type 0 where
  pub modulus : T (p_ok p)
  pub why : T (le_z e (pos 0)) ⊎ Common (num p) (num e)

-- "the residue n times the inverse of e, from 0 to p-1": e times it is n
pub record ResidueOf (p : ℕ) (n : ℤ) (e r : ℕ) : Type 0 where
  pub small : r < p
  pub times : (r * e) % p ≡ mod_z n p

-- a negative number and what it is modulo p: the number's size and its residue come to 0
pub mod_z_negative : (m p : ℕ) → 0 < p → (mod_z (negsuc m) p + suc m) % p ≡ 0
mod_z_negative m p h =
    let small = mod-lt (suc m) h in
    let whole : p - suc m % p + suc m % p ≡ p = omega arith in
    mod-add-mod (p - suc m % p) p (suc m) ∙ sym (add-mod-mod (p - suc m % p) (suc m) p) ∙ ap (λ x. x % p) whole ∙ mod_self p

-- ---- the inverse of e by rows: given exactly where nothing above 1 divides both
abbrev Found : (p e : ℕ) → Answer ℕ (Residue p) → Type 0
Found p e (done-with u) = ((k : ℕ) → k ∣ p → k ∣ e → k ≤ 1) × ((u.0 * e) % p ≡ 1 % p)
Found p e (shown h) = (1 < h) × (h ∣ p) × (h ∣ e)
Found p e long = ⊥

module _ (p : ℕ) (positive : 0 < p) (e : ℕ) where
  abbrev c : Residue p
  c = to_z p positive e

  found : Found p e (inverse₀ p positive c)
  unfolding inverse₀
  found = go (row p positive c) (row_ok p positive c)
    where
      two : (t : ℕ × Residue p) → Row p positive c p c.0 t → (b : Bool) → (T b → 1 < t.0) → (T (not b) → t.0 ≤ 1)
          → Found p e (branch b (λ _. shown t.0) (λ _. done-with t.1))
      two t r true y n =
          let d = (r.greatest t.0).0 (dvd_refl t.0) in
          (y tt, d.0, (dvd-mod_iff t.0 {m = e} d.0).0 d.1)
      two t r false y n =
          let d = (r.greatest t.0).0 (dvd_refl t.0) in
          let one : t.0 ≡ 1 = omega (arith, n tt, pos_of_dvd_of_pos d.0 positive) in
          let first : (k : ℕ) → k ∣ p → k ∣ e → k ≤ 1 =
          λ k kp ke. (let q = le_of_dvd (pos_of_dvd_of_pos d.0 positive) ((r.greatest k).1 (kp, (dvd-mod_iff k {m = e} kp).1 ke)) in omega arith) in
          (first, sym (mul_mod_r t.1.0 e p) ∙ ap (λ x. x.0) (sym r.combined ∙ ap (to_z p positive) one))

      go : (t : ℕ × Residue p) → Row p positive c p c.0 t → Found p e (answer p positive t)
      go t r = two t r (ltb 1 t.0) (ltb→lt 1 t.0) (nltb→le 1 t.0)

-- ---- what is found
module _ (p e : ℕ) where
  given_coprime : (r : Answer ℕ (Residue p)) → Found p e r → T (is_given r) → (k : ℕ) → k ∣ p → k ∣ e → k ≤ 1
  given_coprime (done-with u) f h = f.0
  given_coprime (shown _) f h = elim h [ ]
  given_coprime long f h = elim f [ ]

  coprime_given : (r : Answer ℕ (Residue p)) → Found p e r → ((k : ℕ) → k ∣ p → k ∣ e → k ≤ 1) → T (is_given r)
  coprime_given (done-with u) f h = tt
  coprime_given (shown d) f h = absurd (omega (arith, f.0, h d f.1 f.2))
  coprime_given long f h = elim f [ ]

  common_of : (r : Answer ℕ (Residue p)) → Found p e r → T (not (is_given r)) → Common p e
  common_of (shown d) f h = record { divisor = d; above = f.0; of_p = f.1; of_e = f.2 }
  common_of (done-with _) f h = elim h [ ]
  common_of long f h = elim f [ ]

  mod_z_small : (n : ℤ) → 0 < p → mod_z n p < p
  mod_z_small (pos m) h = mod-lt m h
  mod_z_small (negsuc m) h = mod-lt (p - suc m % p) h

  -- a factor u·e is 1, and may go
  cancel : (a u : ℕ) → a < p → (u * e) % p ≡ 1 % p → (a * (u * e)) % p ≡ a
  cancel a u l h =
      let one : a * 1 ≡ a = omega arith in
      sym (mul_mod_r a (u * e) p) ∙ ap (λ x. (a * x) % p) h ∙ mul_mod_r a 1 p ∙ ap (λ x. x % p) one ∙ mod-eq_of_lt l

  residue-is : (n : ℤ) → 0 < p → (r : Answer ℕ (Residue p)) → Found p e r → T (is_given r) → ResidueOf p n e (times_given p n r)
  residue-is n l (done-with u) f h =
      let m = mod_z n p in
      let swap : m * u.0 * e ≡ m * (u.0 * e) = omega arith in
      record { small = mod-lt (m * u.0) l; times = mul_mod_l (m * u.0) e p ∙ ap (λ x. x % p) swap ∙ cancel m u.0 (mod_z_small n l) f.1 }
  residue-is n l (shown _) f h = elim h [ ]
  residue-is n l long f h = elim f [ ]

  residue_only : (n : ℤ) (r : Answer ℕ (Residue p)) → Found p e r → T (is_given r) → (x : ℕ) → ResidueOf p n e x → x ≡ times_given p n r
  residue_only n (done-with u) f h x k =
      let swap : x * e * u.0 ≡ x * (u.0 * e) = omega arith in
      sym (ap (λ y. (y * u.0) % p) (sym k.times) ∙ mul_mod_l (x * e) u.0 p ∙ ap (λ y. y % p) swap ∙ cancel x u.0 k.small f.1)
  residue_only n (shown _) f h x k = elim h [ ]
  residue_only n long f h x k = elim f [ ]

-- ---- the sign of e
not_above : (e : ℤ) → T (not (lt_z (pos 0) e)) → T (le_z e (pos 0))
not_above (pos m) h = le→leb m 0 (nltb→le 0 m h)
not_above (negsuc m) h = tt

above_not : (e : ℤ) → T (le_z e (pos 0)) → T (not (lt_z (pos 0) e))
above_not (pos m) h = not_T (ltb 0 m) (λ k. lt_irrefl 0 (omega (arith, leb→le m 0 h, ltb→lt 0 m k)))
above_not (negsuc m) h = tt

module _ (p e : ℤ) where
  numbered : Numbered (fraction_table p e)
  numbered = (omega arith, (omega arith, (omega arith, tt)))

  -- the inverse that the third test and the residue ask for, once p is in range
  inverse-found : (m : T (p_ok p)) → Found (num p) (num e) (inverse_of p e m)
  inverse-found m = found (num p) (p_positive p m) (num e)

  coprime_at : (m : T (p_ok p)) → T (is_given (inverse_of p e m)) → (k : ℕ) → k ∣ num p → k ∣ num e → k ≤ 1
  coprime_at m g = given_coprime (num p) (num e) (inverse_of p e m) (inverse-found m) g

  given_at : (m : T (p_ok p)) → ((k : ℕ) → k ∣ num p → k ∣ num e → k ≤ 1) → T (is_given (inverse_of p e m))
  given_at m c = coprime_given (num p) (num e) (inverse_of p e m) (inverse-found m) c

  third : (m : T (p_ok p)) → branch (p_ok p) (λ h. is_given (inverse_of p e h)) (λ _. false) ≡ is_given (inverse_of p e m)
  third m = branch_yes (p_ok p) (λ h. is_given (inverse_of p e h)) (λ _. false) m

  Given : Type 0
  Given = (m : T (p_ok p)) × (T (lt_z (pos 0) e) × T (is_given (inverse_of p e m)))

  passed : fraction_number p e ≡ 0 → Given
  unfolding fraction_number Given
  passed h = let x = passed_of (fraction_table p e) numbered h in (x.0, (x.1.0, subst T (third x.0) x.1.1.0))

  -- 0: p is in range, e is positive, and nothing above 1 divides both
  pub fraction-zero : (fraction_number p e ≡ 0) ↔ Coprime p e
  unfolding fraction_number Given
  fraction-zero = (
    λ h. (let x = passed h in record { modulus = x.0; positive = x.1.0; coprime = coprime_at x.0 x.1.1 }),
    λ c. first_of (fraction_table p e) (c.modulus, (c.positive, (subst T (sym (third c.modulus)) (given_at c.modulus c.coprime), tt))),
  )

  -- 1: p is out of range
  pub fraction-one : (fraction_number p e ≡ 1) ↔ (¬ Between 2 2147483647 p)
  unfolding fraction_number
  fraction-one = (λ h. go (first_applies (fraction_table p e) 0 h), λ m. first-is (fraction_table p e) 1 (inl (not_T (p_ok p) (λ t. m ((modulus_range p).0 t)), refl)))
    where
      go : Applies (fraction_table p e) 1 → ¬ Between 2 2147483647 p
      go (inl x) = λ m. T_not (p_ok p) x.0 ((modulus_range p).1 m)
      go (inr (m, inl x)) = absurd (lt_irrefl 0 (omega (arith, x.1)))
      go (inr (m, inr (q, inl x))) = absurd (lt_irrefl 0 (omega (arith, x.1)))
      go (inr (m, inr (q, inr (g, none)))) = absurd none

  -- 10: p is in range, and e is not positive or shares a divisor above 1 with p
  pub fraction_ten : (fraction_number p e ≡ 10) ↔ NoResidue p e
  unfolding fraction_number
  fraction_ten = (λ h. go (first_applies (fraction_table p e) 9 h), λ x. first-is (fraction_table p e) 10 (back x.modulus x.why))
    where
      go : Applies (fraction_table p e) 10 → NoResidue p e
      go (inl x) = absurd (lt_irrefl 0 (omega (arith, x.1)))
      go (inr (m, inl x)) = record { modulus = m; why = inl (not_above e x.0) }
      go (inr (m, inr (q, inl x))) =
          let shared = common_of (num p) (num e) (inverse_of p e m) (inverse-found m) (subst (λ b. T (not b)) (third m) x.0) in
          record { modulus = m; why = inr shared }
      go (inr (m, inr (q, inr (g, none)))) = absurd none

      back : T (p_ok p) → T (le_z e (pos 0)) ⊎ Common (num p) (num e) → Applies (fraction_table p e) 10
      back m (inl l) = inr (m, inl (above_not e l, refl))
      back m (inr k) =
          let bad = not_T (is_given (inverse_of p e m)) (λ g. lt_irrefl 0 (omega (arith, k.above, coprime_at m g k.divisor k.of_p k.of_e))) in
          branch (lt_z (pos 0) e) (λ q. inr (m, inr (q, inl (subst (λ b. T (not b)) (sym (third m)) bad, refl)))) (λ q. inr (m, inl (q, refl)))

  pub fraction_numbers : (fraction_number p e ≡ 0) ⊎ ((fraction_number p e ≡ 1) ⊎ (fraction_number p e ≡ 10))
  unfolding fraction_number
  fraction_numbers = go (fraction_number p e) refl
    where
      from : (k : ℕ) → Applies (fraction_table p e) k → (k ≡ 1) ⊎ (k ≡ 10)
      from k (inl x) = inl (sym x.1)
      from k (inr (m, inl x)) = inr (sym x.1)
      from k (inr (m, inr (q, inl x))) = inr (sym x.1)
      from k (inr (m, inr (q, inr (g, none)))) = absurd none

      go : (k : ℕ) → fraction_number p e ≡ k → (k ≡ 0) ⊎ ((k ≡ 1) ⊎ (k ≡ 10))
      go zero h = inl refl
      go (suc k) h = inr (from (suc k) (first_applies (fraction_table p e) k h))

  -- ---- the residue
  residue-by : (n : ℤ) (m : T (p_ok p)) → fraction_residue p n e ≡ times_given (num p) n (inverse_of p e m)
  unfolding fraction_residue
  residue-by n m = branch_yes (p_ok p) (λ h. times_given (num p) n (inverse_of p e h)) (λ _. 0) m

  pub fraction-residue : (n : ℤ) → fraction_number p e ≡ 0 → ResidueOf (num p) n (num e) (fraction_residue p n e)
  unfolding Given
  fraction-residue n h =
      let x = passed h in
      let is = residue-is (num p) (num e) n (p_positive p x.0) (inverse_of p e x.0) (inverse-found x.0) x.1.1 in
      subst (ResidueOf (num p) n (num e)) (sym (residue-by n x.0)) is

  pub fraction_only : (n : ℤ) → fraction_number p e ≡ 0 → (r : ℕ) → ResidueOf (num p) n (num e) r → r ≡ fraction_residue p n e
  unfolding Given
  fraction_only n h r k =
      let x = passed h in
      residue_only (num p) (num e) n (inverse_of p e x.0) (inverse-found x.0) x.1.1 r k ∙ sym (residue-by n x.0)

  -- ---- the same of what the call says and gives
  said-is : (k r : ℕ) → (fraction_by k r).said ≡ refusal k
  said-is zero r = refl
  said-is (suc k) r = refl

  residue_given : (k r : ℕ) → k ≡ 0 → (fraction_by k r).residue ≡ r
  residue_given zero r h = refl
  residue_given (suc k) r h = absurd (lt_irrefl 0 (omega arith))

  pub fraction-answers : (n : ℤ) (k : ℕ) → ((fraction p n e).said ≡ refusal k) ↔ (fraction_number p e ≡ k)
  fraction-answers n k =
      let is = said-is (fraction_number p e) (fraction_residue p n e) in
      (λ h. refusal_inj (fraction_number p e) k (sym is ∙ h), λ h. is ∙ ap refusal h)

  pub fraction_gives : (n : ℤ) → (fraction p n e).said ≡ done → ResidueOf (num p) n (num e) (fraction p n e).residue
  fraction_gives n h =
      let none = (fraction-answers n 0).0 h in
      subst (ResidueOf (num p) n (num e)) (sym (residue_given (fraction_number p e) (fraction_residue p n e) none)) (fraction-residue n none)

-- for each number what it says
abbrev pub FractionMeans : ℤ → ℤ → ℕ → Type 0
FractionMeans p e k = ((k ≡ 0) × Coprime p e) ⊎ (((k ≡ 1) × (¬ Between 2 2147483647 p)) ⊎ ((k ≡ 10) × NoResidue p e))

module _ (p e : ℤ) where
  pub fraction-says : (j : ℕ) → fraction_number p e ≡ j → FractionMeans p e j
  fraction-says j h = subst (FractionMeans p e) h (which (fraction_numbers p e))
    where
      which : (fraction_number p e ≡ 0) ⊎ ((fraction_number p e ≡ 1) ⊎ (fraction_number p e ≡ 10)) → FractionMeans p e (fraction_number p e)
      which (inl z) = inl (z, (fraction-zero p e).0 z)
      which (inr (inl z)) = inr (inl (z, (fraction-one p e).0 z))
      which (inr (inr z)) = inr (inr (z, (fraction_ten p e).0 z))

  pub fraction_given : (j : ℕ) → FractionMeans p e j → fraction_number p e ≡ j
  fraction_given j (inl x) = (fraction-zero p e).1 x.1 ∙ sym x.0
  fraction_given j (inr (inl x)) = (fraction-one p e).1 x.1 ∙ sym x.0
  fraction_given j (inr (inr x)) = (fraction_ten p e).1 x.1 ∙ sym x.0

-- Towers of residue rings over Z/p, of any number of levels. R_0 is Z/p; R_(n+1) is R_n[z]/m, m monic over R_n.
--
-- A tower is indexed by the modulus p and the list d of its degrees, d_1 first. The elements of a level, their sum and the test for equality depend on
-- p and d alone; the tower's polynomials enter with the product. Nothing here asks for a degree of at least 2, or for at most four levels.
--
-- degree d n       == d_(n+1), the degree of the polynomial that makes level n + 1 over level n
-- El p d n         == the elements of level n;  is_zero p d n == the test for zero
-- group p pos d n  == their sum;  zero_test == that is_zero tells its zero
-- Tower p d n      == n polynomials: a tower of n + 1 levels is one of n levels and the coefficients, under its leading 1, of a monic polynomial over it
-- ring p pos d n t == R_n;  one_not_zero == for p ≥ 2 and degrees of at least 1 its 1 is not 0
use Rattle.std.specs.Prelude.{ℕ, zero, suc, ◌%◌, ◌<◌, ◌≤◌, ◌≡◌, Bool, List, T, eqb, get_or}
use Rattle.std.proofs.Common.{sym, ap, ◌∙◌, lt_irrefl, not-suc-le-zero, mod-eq_of_lt, arith, eqb→eq}
use Rattle.algebra.specs.Test.{ZeroTest}
use Rattle.algebra.specs.Ring.{GroupOn, Group, bundle, sum_of, Times, CRing, ring_of}
use Rattle.algebra.specs.Vec.{Vec, allᵛ, zeroᵛ, trunc, zero_vec, vec_group}
use Rattle.algebra.specs.Series.{const}
use Rattle.algebra.proofs.Quotient.{residue_times, one-is}
use Rattle.algebra.specs.Zmod.{Residue, residue_path, z_group, z_times}

abbrev pub degree : List ℕ → ℕ → ℕ
degree d n = get_or d n 0

module _ (p : ℕ) (d : List ℕ) where
  abbrev pub El : ℕ → Type 0
  El zero = Residue p
  El (suc n) = Vec (El n) (degree d n)

  abbrev pub is_zero : (n : ℕ) → El n → Bool
  is_zero zero x = eqb x.0 0
  is_zero (suc n) v = allᵛ (is_zero n) (degree d n) v

  abbrev pub Tower : ℕ → Type 0
  Tower zero = Unit {0}
  Tower (suc n) = Tower n × Vec (El n) (degree d n)

module _ (p : ℕ) (pos : 0 < p) (d : List ℕ) where
  abbrev pub sums : (n : ℕ) → GroupOn (El p d n)
  sums zero = sum_of (z_group p pos)
  sums (suc n) = sum_of (vec_group (bundle (El p d n) (sums n)) (degree d n))

  abbrev pub group : ℕ → Group
  group n = bundle (El p d n) (sums n)

  pub zero_test : (n : ℕ) → ZeroTest (group n).𝟘 (is_zero p d n)
  zero_test zero = record {
    sound = λ x h. residue_path p _ _ (eqb→eq x.0 0 h ∙ sym (mod-eq_of_lt pos));
    same = zero_is (0 % p) (mod-eq_of_lt pos);
  }
    where
      zero_is : (m : ℕ) → m ≡ 0 → T (eqb m 0)
      zero_is zero e = tt
      zero_is (suc m) e = absurd (lt_irrefl 0 (omega arith))
  zero_test (suc n) = zero_vec (zero_test n) (degree d n)

  abbrev pub times : (n : ℕ) → Tower p d n → Times (group n)
  times zero t = z_times p pos
  times (suc n) t = residue_times (ring_of (group n) (times n t.0)) (degree d n) t.1

  abbrev pub ring : (n : ℕ) → Tower p d n → CRing
  ring n t = ring_of (group n) (times n t)

  -- ---- 1 is not 0
  -- p is at least 2, and each of the n degrees at least 1
  pub record Ones (n : ℕ) : Type 0 where
    pub p_two : 2 ≤ p
    pub degrees : (k : ℕ) → k < n → 1 ≤ degree d k

  pub fewer : (n : ℕ) → Ones (suc n) → Ones n
  fewer n o = record { p_two = o.p_two; degrees = λ k l. o.degrees k (omega arith) }

  ones-zero : (R : CRing) (n : ℕ) → 1 ≤ n → ¬ (R.𝟙 ≡ R.𝟘) → ¬ (trunc n (const R R.𝟙) ≡ zeroᵛ R.𝟘 n)
  ones-zero R zero h k e = not-suc-le-zero h
  ones-zero R (suc n) h k e = k (ap (λ v. v.0) e)

  pub one_not_zero : (n : ℕ) (t : Tower p d n) → Ones n → ¬ ((ring n t).𝟙 ≡ (ring n t).𝟘)
  one_not_zero zero t o e =
      let h : 1 % p ≡ 0 % p = ap (λ x. x.0) e in
      let two = o.p_two in
      lt_irrefl 0 (omega (arith, mod-eq_of_lt {n = 1} {m = p} two, mod-eq_of_lt {n = 0} {m = p} pos))
  one_not_zero (suc n) t o e =
      let R = ring n t.0 in
      let some = o.degrees n (omega arith) in
      ones-zero R (degree d n) some (one_not_zero n t.0 (fewer n o)) (sym (one-is R (degree d n) t.1 some) ∙ e)

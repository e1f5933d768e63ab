-- Z/p on the numbers below p. Any p ≥ 1 makes a ring (document 01 asks for 2, where 1 and 0 differ). The bound is kept as a passed test, so that
-- closed elements compare by computing.
--
-- Residue p     == a number below p;  to_z p pos n == the residue of n
-- z_group, z_times, Zmod p pos == sum, product, ring
use Rattle.std.specs.Prelude.{◌≡◌, refl, ℕ, ◌+◌, ◌*◌, ◌-◌, ◌/◌, ◌%◌, ◌<◌, T, ltb, eqb}
use Rattle.std.proofs.Common.{ap, sym, ◌∙◌, arith, mod-lt, mod-eq_of_lt, div-add-mod', mul_comm, ltb→lt, lt→ltb, eqb→eq}
use mathlib.Core.HLevel.{Σ_prop_path}
use Rattle.std.proofs.Math.Nat.{mod_self, mod-add-mod, add-mod-mod, add-mod, add-mul-mod_self_right}
use Rattle.std.proofs.Math.Dec.{T_prop, eqb_refl}
use Rattle.algebra.specs.Test.{EqTest, test-set}
use Rattle.algebra.specs.Ring.{Group, Times, CRing, ring_of}

pub mul_mod_l : (a b p : ℕ) → (a % p * b) % p ≡ (a * b) % p
mul_mod_l a b p = sym (add-mul-mod_self_right (a % p * b) (a / p * b) p) ∙ ap (λ x. x % p) split
  where
    split : a % p * b + a / p * b * p ≡ a * b
    split = omega (arith, ap (λ x. x * b) (div-add-mod' a p))

pub mul_mod_r : (a b p : ℕ) → (a * (b % p)) % p ≡ (a * b) % p
mul_mod_r a b p = ap (λ x. x % p) (mul_comm a (b % p)) ∙ mul_mod_l b a p ∙ ap (λ x. x % p) (mul_comm b a)

abbrev pub Residue : ℕ → Type 0
Residue p = (n : ℕ) × T (ltb n p)

pub residue_path : (p : ℕ) (x y : Residue p) → x.0 ≡ y.0 → x ≡ y
residue_path p x y e = Σ_prop_path (λ n. T_prop (ltb n p)) e

abbrev pub Residue-test : (p : ℕ) → EqTest (Residue p)
Residue-test p = record {
  eq = λ x y. eqb x.0 y.0;
  sound = λ x y h. residue_path p x y (eqb→eq x.0 y.0 h);
  same = λ x. eqb_refl x.0;
}

module _ (p : ℕ) (pos : 0 < p) where
  abbrev pub to_z : ℕ → Residue p
  to_z n = (n % p, lt→ltb (n % p) p (mod-lt n pos))

  small : (x : Residue p) → x.0 < p
  small x = ltb→lt x.0 p x.1

  pub mod_own : (x : Residue p) (n : ℕ) → n ≡ x.0 → n % p ≡ x.0
  mod_own x n e = ap (λ k. k % p) e ∙ mod-eq_of_lt (small x)

  pub z_add_assoc : (a b c : ℕ) → ((a + b) % p + c) % p ≡ (a + (b + c) % p) % p
  z_add_assoc a b c = mod-add-mod (a + b) p c ∙ ap (λ x. x % p) (omega arith) ∙ sym (add-mod-mod a (b + c) p)

  pub z_mul_assoc : (a b c : ℕ) → ((a * b) % p * c) % p ≡ (a * ((b * c) % p)) % p
  z_mul_assoc a b c = mul_mod_l (a * b) c p ∙ ap (λ x. x % p) (omega arith) ∙ sym (mul_mod_r a (b * c) p)

  pub z_dist : (a b c : ℕ) → (a * ((b + c) % p)) % p ≡ ((a * b) % p + (a * c) % p) % p
  z_dist a b c = mul_mod_r a (b + c) p ∙ ap (λ x. x % p) (omega arith) ∙ add-mod (a * b) (a * c) p

  pub z_neg : (x : Residue p) → (x.0 + (p - x.0) % p) % p ≡ 0 % p
  z_neg x =
      let h : x.0 < p = small x in
      add-mod-mod x.0 (p - x.0) p ∙ ap (λ k. k % p) (omega arith) ∙ mod_self p ∙ sym (mod-eq_of_lt pos)

  abbrev pub z_group : Group
  z_group = record {
    Car = Residue p;
    is_set = test-set (Residue-test p);
    𝟘 = to_z 0;
    ◌⊕◌ = λ x y. to_z (x.0 + y.0);
    ⊖◌ = λ x. to_z (p - x.0);
    ⊕_assoc = λ x y z. residue_path p _ _ (z_add_assoc x.0 y.0 z.0);
    ⊕_comm = λ x y. residue_path p _ _ (ap (λ k. k % p) (omega arith));
    ⊕_zero = λ x. residue_path p _ _ (add-mod-mod x.0 0 p ∙ mod_own x _ (omega arith));
    ⊕_neg = λ x. residue_path p _ _ (z_neg x);
  }

  abbrev pub z_times : Times z_group
  z_times = record {
    𝟙 = to_z 1;
    ◌⊗◌ = λ x y. to_z (x.0 * y.0);
    ⊗_assoc = λ x y z. residue_path p _ _ (z_mul_assoc x.0 y.0 z.0);
    ⊗_comm = λ x y. residue_path p _ _ (ap (λ k. k % p) (mul_comm x.0 y.0));
    ⊗_one = λ x. residue_path p _ _ (mul_mod_r x.0 1 p ∙ mod_own x _ (omega arith));
    ⊗_dist = λ x y z. residue_path p _ _ (z_dist x.0 y.0 z.0);
  }

  abbrev pub Zmod : CRing
  Zmod = ring_of z_group z_times

  -- the residues of sums and products of numbers
  pub to_z-⊕ : (a b : ℕ) → to_z (a + b) ≡ Zmod.◌⊕◌ (to_z a) (to_z b)
  to_z-⊕ a b = residue_path p _ _ (add-mod a b p)

  pub to_z-⊗ : (a b : ℕ) → to_z (a * b) ≡ Zmod.◌⊗◌ (to_z a) (to_z b)
  to_z-⊗ a b = residue_path p _ _ (sym (mul_mod_l a (b % p) p ∙ mul_mod_r a b p))

  pub to_z_own : (c : Residue p) → to_z c.0 ≡ c
  to_z_own c = residue_path p _ _ (mod_own c c.0 refl)

  pub to_z_p : to_z p ≡ to_z 0
  to_z_p = residue_path p _ _ (mod_self p ∙ sym (mod-eq_of_lt pos))

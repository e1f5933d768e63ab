-- A tower of one level without factors: p = 7 and z² + 1. So "without such factors" in demand 3 is not empty above level 0.
--
-- prime_test, no_factor₀ == a computed test that p has no divisor strictly between 1 and p
-- rootless, no_factor    == a computed test that a quadratic polynomial over Z/p leaves a remainder by every z + a, so that it has no proper monic factor
-- free_7                 == the tower p = 7, z² + 1 is free
use Rattle.std.specs.Prelude.{◌≡◌, Bool, not, [], ◌∷◌, ℕ, zero, suc, ◌-◌, ◌%◌, ◌≤◌, ◌<◌, T, eqb}
use Rattle.std.proofs.Common.{ap, sym, ◌∙◌, subst, arith, T_not, ltb→lt, lit<}
use Rattle.std.proofs.Math.Nat.{mod-eq-zero_of_dvd}
use Rattle.std.proofs.Math.Dec.{eqb_refl}
use Rattle.algebra.specs.Test.{all_to, all_to_use}
use Rattle.algebra.specs.Vec.{Vec, topped}
use Rattle.algebra.specs.Zmod.{Zmod, Residue, to_z, to_z_own}
use Rattle.algebra.specs.Divide.{remainder, divide}
use Rattle.algebra.proofs.Monic.{dvd_remainder}
use Rattle.tower.specs.Levels.{Tower}
use Rattle.euclid.specs.Level.{Mon, Factor, Factor₀}
use Rattle.euclid.specs.Towers.{Free}

-- p leaves a remainder by 2, 3, .., p - 1
abbrev pub prime_test : ℕ → Bool
prime_test p = all_to (p - 2) (λ k. not (eqb (p % suc (suc k)) 0))

pub no_factor₀ : (p : ℕ) → T (prime_test p) → (h : ℕ) → ¬ Factor₀ p h
no_factor₀ p t zero f = let l : 1 < 0 = f.above in absurd (omega arith)
no_factor₀ p t (suc zero) f = let l : 1 < 1 = f.above in absurd (omega arith)
no_factor₀ p t (suc (suc k)) f =
    let l : suc (suc k) < p = f.below in
    T_not (eqb (p % suc (suc k)) 0) (all_to_use (p - 2) (λ k. not (eqb (p % suc (suc k)) 0)) t k (omega arith))
    (subst (λ r. T (eqb r 0)) (sym (mod-eq-zero_of_dvd (suc (suc k)) f.divides)) (eqb_refl 0))

module _ (p : ℕ) (pos : 0 < p) (m : Vec (Residue p) 2) where
  -- what is left of the polynomial by z + a
  abbrev pub left_by : Residue p → ℕ
  left_by a = (remainder (Zmod p pos) 1 (a, tt) 3 (topped 2 m (Zmod p pos).𝟙)).0.0

  abbrev pub rootless : Bool
  rootless = all_to p (λ a. not (eqb (left_by (to_z p pos a)) (Zmod p pos).𝟘.0))

  pub no_factor : T rootless → (f : Mon (Residue p)) → ¬ Factor (Zmod p pos) 2 m f
  no_factor t f h = by-degree f.0 f.1 h
    where
      by-degree : (e : ℕ) (w : Vec (Residue p) e) → ¬ Factor (Zmod p pos) 2 m (e, w)
      by-degree zero w h = let l : 1 ≤ 0 = h.above in absurd (omega arith)
      by-degree (suc zero) w h =
          let a = w.0 in
          let none : left_by a ≡ (Zmod p pos).𝟘.0 = ap (λ v. v.0.0) ((dvd_remainder (Zmod p pos) 1 w 3 (topped 2 m (Zmod p pos).𝟙)).0 h.divides) in
          T_not (eqb (left_by (to_z p pos a.0)) (Zmod p pos).𝟘.0) (all_to_use p _ t a.0 (ltb→lt a.0 p a.1))
          (subst (λ r. T (eqb r (Zmod p pos).𝟘.0)) (sym (ap left_by (to_z_own p pos a) ∙ none)) (eqb_refl (Zmod p pos).𝟘.0))
      by-degree (suc (suc e)) w h = let l : suc (suc e) < 2 = h.below in absurd (omega arith)

-- z² + 1
abbrev pub tower_7 : Tower 7 (2 ∷ []) 1
tower_7 = (tt, (to_z 7 (lit< tt) 1, (to_z 7 (lit< tt) 0, tt)))

pub free_7 : Free 7 (lit< tt) (2 ∷ []) 1 tower_7
unfolding divide
free_7 = (no_factor₀ 7 tt, no_factor 7 (lit< tt) (to_z 7 (lit< tt) 1, (to_z 7 (lit< tt) 0, tt)) tt)

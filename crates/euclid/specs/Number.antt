-- Level 0: "For an inverse of c in R_0: the greatest common divisor h of c and p; if h > 1 the factor h is shown at level 0."
-- By rows of remainder and multiplier, as the extended Euclid on numbers is taught; where h is 1 the multiplier is the inverse.
--
-- rows, row, inverse₀ == the rows from p and c, and the answer
-- row_ok              == the last remainder has exactly the common divisors, and is its multiplier times c
-- inverse₀_ok         == the inverse, or a factor as demand 3 has it
-- done₀, shown₀       == however a program finds them: the inverse is the answer where nothing above 1 divides both, and else the greatest common divisor
-- inverse₀-times      == the inverse of c is that of u c times u, u a unit; and both show the same
use Rattle.std.specs.Prelude.{◌≡◌, refl, Bool, not, ◌↔◌, ◌⊎◌, T, ltb}
use Rattle.std.proofs.Math.Path.{ap, sym}
use Rattle.std.proofs.Common.{ap₂, ◌∙◌, subst, inl, inr, mod-lt, mod-eq_of_lt, div-add-mod', eq-zero-or-pos, nltb→le}
use Rattle.std.proofs.Math.Bool.{true, false}
use Prim.Native.Nat.{ℕ, zero, suc, ◌*◌, ◌/◌, ◌%◌, ◌≤◌, ◌<◌, ◌∣◌}
use native.Mathlib.Omega.{arith}
use Rattle.std.proofs.Math.Nat.{dvd-mod_iff, dvd-mul_left_of_dvd, dvd_refl, dvd-zero, dvd_antisymm, le_of_dvd, pos_of_dvd_of_pos}
use Rattle.std.proofs.Math.Dec.{ltb→lt}
use Rattle.algebra.specs.Test.{branch}
use Rattle.algebra.specs.Ring.{CRing, zero-⊗, one-⊗}
use Rattle.algebra.specs.Solve.{◌:+◌, ◌:-◌, ◌:*◌, ◌≐◌, solve₃, solve₄}
use Rattle.algebra.specs.Zmod.{Zmod, to_z, residue_path, to_z-⊕, to_z-⊗, to_z_own, to_z_p}
use Rattle.algebra.specs.Divisor.{iff_trans, inv_unique}
use Rattle.euclid.specs.Answer.{Answer, done, shown, map, Holds}
use Rattle.euclid.specs.Level.{Factor₀}

module _ (p : ℕ) (pos : 0 < p) where
  open Zmod p pos use {Car, 𝟘, 𝟙, ◌⊕◌, ◌⊗◌, ⊖◌}

  infixl 65 ◌⊕◌
  infixl 70 ◌⊗◌
  infix 75 ⊖◌
  abbrev Z : CRing
  Z = Zmod p pos

  -- at most k rows
  unfoldable pub rows : ℕ → ℕ → Car → ℕ → Car → ℕ × Car
  rows zero r x s y = (r, x)
  rows (suc k) r x zero y = (r, x)
  rows (suc k) r x (suc s) y = rows k (suc s) y (r % suc s) (x ⊕ (⊖ (to_z p pos (r / suc s) ⊗ y)))

  -- what the rows come to
  pub record Row (c : Car) (r₀ s₀ : ℕ) (t : ℕ × Car) : Type 0 where
    pub combined : to_z p pos t.0 ≡ t.1 ⊗ c
    pub greatest : (h : ℕ) → (h ∣ t.0) ↔ ((h ∣ r₀) × (h ∣ s₀))

  rest_combined : (c : Car) (r : ℕ) (x : Car) (s : ℕ) (y : Car) → to_z p pos r ≡ x ⊗ c → to_z p pos (suc s) ≡ y ⊗ c
      → to_z p pos (r % suc s) ≡ (x ⊕ (⊖ (to_z p pos (r / suc s) ⊗ y))) ⊗ c
  rest_combined c r x s y e f =
      solve₃ Z (to_z p pos r') q (to_z p pos (suc s)) (λ r q s. r ≐ (q :* s :+ r) :- q :* s) refl
      ∙ ap₂ (λ a b. a ⊕ (⊖ (q ⊗ b))) (sym split ∙ e) f
      ∙ solve₄ Z x q y c (λ x q y c. x :* c :- q :* (y :* c) ≐ (x :- q :* y) :* c) refl
    where
      q : Car
      q = to_z p pos (r / suc s)

      r' : ℕ
      r' = r % suc s

      split : to_z p pos r ≡ q ⊗ to_z p pos (suc s) ⊕ to_z p pos r'
      split = ap (to_z p pos) (sym (div-add-mod' r (suc s))) ∙ to_z-⊕ p pos (r / suc s * suc s) r' ∙ ap (λ z. z ⊕ to_z p pos r') (to_z-⊗ p pos (r / suc s) (suc s))

  rest_small : (r s k : ℕ) → suc s < suc k → r % suc s < k
  rest_small r s k l = let m : r % suc s < suc s = mod-lt r (omega arith) in omega arith

  row_step : (c : Car) (k r s : ℕ) (t : ℕ × Car) → Row c (suc s) (r % suc s) t → Row c r (suc s) t
  row_step c k r s t w = record {
    combined = w.combined;
    greatest = λ h. iff_trans (w.greatest h) ((λ d. ((dvd-mod_iff h {m = r} d.0).0 d.1, d.0)), (λ d. (d.1, (dvd-mod_iff h {m = r} d.1).1 d.0)));
  }

  pub rows_ok : (c : Car) (k r : ℕ) (x : Car) (s : ℕ) (y : Car) → s < k → to_z p pos r ≡ x ⊗ c → to_z p pos s ≡ y ⊗ c → Row c r s (rows k r x s y)
  unfolding rows
  rows_ok c zero r x s y l e f = absurd (omega arith)
  rows_ok c (suc k) r x zero y l e f = record { combined = e; greatest = λ h. (λ d. (d, dvd-zero h), λ d. d.0) }
  rows_ok c (suc k) r x (suc s) y l e f =
      row_step c k r s _ (rows_ok c k (suc s) y (r % suc s) (x ⊕ (⊖ (to_z p pos (r / suc s) ⊗ y))) (rest_small r s k l) f (rest_combined c r x s y e f))

  abbrev pub row : Car → ℕ × Car
  row c = rows p p 𝟘 c.0 𝟙

  pub row_ok : (c : Car) → Row c p c.0 (row c)
  row_ok c =
      let small : c.0 < p = ltb→lt c.0 p c.1 in
      rows_ok c p p 𝟘 c.0 𝟙 small (to_z_p p pos ∙ sym (zero-⊗ Z c)) (to_z_own p pos c ∙ sym (one-⊗ Z c))

  abbrev pub answer : ℕ × Car → Answer ℕ Car
  answer t = branch (ltb 1 t.0) (λ _. shown t.0) (λ _. done t.1)

  unfoldable pub inverse₀ : Car → Answer ℕ Car
  inverse₀ c = answer (row c)

  pub inverse₀_ok : (c : Car) → ¬ (c ≡ 𝟘) → Holds (Factor₀ p) (λ i. i ⊗ c ≡ 𝟙) (inverse₀ c)
  unfolding inverse₀
  inverse₀_ok c nz = go (row c) (row_ok c)
    where
      small_c : c.0 < p
      small_c = ltb→lt c.0 p c.1

      positive : (c.0 ≡ 0) ⊎ (0 < c.0) → 0 < c.0
      positive (inl e) = absurd (nz (residue_path p c 𝟘 (e ∙ sym (mod-eq_of_lt pos))))
      positive (inr l) = l

      c_pos : 0 < c.0
      c_pos = positive (eq-zero-or-pos c.0)

      h_divides : (t : ℕ × Car) → Row c p c.0 t → (t.0 ∣ p) × (t.0 ∣ c.0)
      h_divides t w = (w.greatest t.0).0 (dvd_refl t.0)

      two : (t : ℕ × Car) → Row c p c.0 t → (b : Bool) → (T b → 1 < t.0) → (T (not b) → t.0 ≤ 1)
          → Holds (Factor₀ p) (λ i. i ⊗ c ≡ 𝟙) (branch b (λ _. shown t.0) (λ _. done t.1))
      two t w true y n = record { above = y tt; below = omega (arith, small_c, le_of_dvd c_pos (h_divides t w).1); divides = (h_divides t w).0 }
      two t w false y n =
          let small : t.0 ≤ 1 = n tt in
          let h-pos : 0 < t.0 = pos_of_dvd_of_pos (h_divides t w).0 pos in
          let one : t.0 ≡ 1 = omega arith in
          sym w.combined ∙ ap (to_z p pos) one

      go : (t : ℕ × Car) → Row c p c.0 t → Holds (Factor₀ p) (λ i. i ⊗ c ≡ 𝟙) (answer t)
      go t w = two t w (ltb 1 t.0) (ltb→lt 1 t.0) (nltb→le 1 t.0)

  -- ---- without the rows
  pub shown₀ : (c : Car) (h : ℕ) → ((k : ℕ) → (k ∣ h) ↔ ((k ∣ p) × (k ∣ c.0))) → 1 < h → inverse₀ c ≡ shown h
  unfolding inverse₀
  shown₀ c h g l = go (row c) (same (row c) (row_ok c))
    where
      same : (t : ℕ × Car) → Row c p c.0 t → t.0 ≡ h
      same t r = dvd_antisymm ((g t.0).1 ((r.greatest t.0).0 (dvd_refl t.0))) ((r.greatest h).1 ((g h).0 (dvd_refl h)))

      two : (t : ℕ × Car) → t.0 ≡ h → (b : Bool) → (T (not b) → t.0 ≤ 1) → branch {A = Answer ℕ Car} b (λ _. shown t.0) (λ _. done t.1) ≡ shown h
      two t e true n = ap shown e
      two t e false n = absurd (omega (arith, n tt, e, l))

      go : (t : ℕ × Car) → t.0 ≡ h → answer t ≡ shown h
      go t e = two t e (ltb 1 t.0) (nltb→le 1 t.0)

  pub done₀ : (c u : Car) → ((k : ℕ) → k ∣ p → k ∣ c.0 → k ≤ 1) → u ⊗ c ≡ 𝟙 → ¬ (c ≡ 𝟘) → inverse₀ c ≡ done u
  unfolding inverse₀
  done₀ c u coprime h nz = go (row c) (row_ok c) (inverse₀_ok c nz)
    where
      two : (t : ℕ × Car) → Row c p c.0 t → (b : Bool) → (T b → 1 < t.0)
          → Holds (Factor₀ p) (λ i. i ⊗ c ≡ 𝟙) (branch {A = Answer ℕ Car} b (λ _. shown t.0) (λ _. done t.1))
          → branch {A = Answer ℕ Car} b (λ _. shown t.0) (λ _. done t.1) ≡ done u
      two t r true y k =
          let d = (r.greatest t.0).0 (dvd_refl t.0) in
          absurd (omega (arith, y tt, coprime t.0 d.0 d.1))
      two t r false y k = ap done (inv_unique Z c t.1 u (Z.⊗_comm c t.1 ∙ k) (Z.⊗_comm c u ∙ h))

      go : (t : ℕ × Car) → Row c p c.0 t → Holds (Factor₀ p) (λ i. i ⊗ c ≡ 𝟙) (answer t) → answer t ≡ done u
      go t r k = two t r (ltb 1 t.0) (ltb→lt 1 t.0) k

  -- ---- times a unit u
  -- a common divisor of p and c divides v c
  common_times : (v c : Car) (k : ℕ) → k ∣ p → k ∣ c.0 → k ∣ (v ⊗ c).0
  common_times v c k h d = (dvd-mod_iff k {m = v.0 * c.0} h).1 (dvd-mul_left_of_dvd k d v.0)

  module _ (u back c : Car) (unit : u ⊗ back ≡ 𝟙) (nz : ¬ (c ≡ 𝟘)) where
    -- back u c is c
    back_again : back ⊗ (u ⊗ c) ≡ c
    back_again = solve₃ Z back u c (λ b u c. b :* (u :* c) ≐ u :* b :* c) refl ∙ ap (λ x. x ⊗ c) unit ∙ one-⊗ Z c

    -- so u c and c have the same divisors in common with p
    same_common : (k : ℕ) → ((k ∣ p) × (k ∣ (u ⊗ c).0)) ↔ ((k ∣ p) × (k ∣ c.0))
    same_common k = (
      λ d. (d.0, subst (λ x. k ∣ x.0) back_again (common_times back (u ⊗ c) k d.0 d.1)),
      λ d. (d.0, common_times u c k d.0 d.1),
    )

    pub inverse₀-times : inverse₀ c ≡ map (λ j. j ⊗ u) (inverse₀ (u ⊗ c))
    unfolding inverse₀
    inverse₀-times = go (row (u ⊗ c)) (row_ok (u ⊗ c))
      where
        two : (t : ℕ × Car) → Row (u ⊗ c) p (u ⊗ c).0 t → (b : Bool) → (T b → 1 < t.0) → (T (not b) → t.0 ≤ 1)
            → inverse₀ c ≡ map (λ j. j ⊗ u) (branch {A = Answer ℕ Car} b (λ _. shown t.0) (λ _. done t.1))
        two t r true y n = shown₀ c t.0 (λ k. iff_trans (r.greatest k) (same_common k)) (y tt)
        two t r false y n =
            let small : t.0 ≤ 1 = n tt in
            let some : 0 < t.0 = pos_of_dvd_of_pos ((r.greatest t.0).0 (dvd_refl t.0)).0 pos in
            let one : t.0 ≡ 1 = omega arith in
            done₀ c (t.1 ⊗ u) (λ k d e. omega (arith, small, le_of_dvd some ((r.greatest k).1 ((same_common k).1 (d, e)))))
            (Z.⊗_assoc t.1 u c ∙ sym r.combined ∙ ap (to_z p pos) one) nz

        go : (t : ℕ × Car) → Row (u ⊗ c) p (u ⊗ c).0 t → inverse₀ c ≡ map (λ j. j ⊗ u) (answer t)
        go t r = two t r (ltb 1 t.0) (ltb→lt 1 t.0) (nltb→le 1 t.0)

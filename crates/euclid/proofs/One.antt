-- 1 is its own inverse at every level, and shows no factor, where 1 is not 0.
--
-- inverse-one  == one level up, where the level below has it so
-- inv-one      == at every level of every tower with p ≥ 2 and degrees of at least 1
use Rattle.std.specs.Prelude.{◌≡◌, refl, List, ℕ, zero, suc, ◌≤◌, ◌<◌}
use Rattle.std.proofs.Common.{ap, ◌∙◌, arith, mod-eq_of_lt}
use Rattle.std.proofs.Math.Nat.{le_of_dvd}
use Rattle.algebra.specs.Ring.{CRing}
use Rattle.algebra.specs.Vec.{Vec, below_mono, coef, coef-trunc}
use Rattle.algebra.specs.Shape.{lead, Stripped}
use Rattle.algebra.specs.Series.{const}
use Rattle.algebra.specs.Poly.{constᴾ}
use Rattle.algebra.proofs.Quotient.{Quotient, one-is}
use Rattle.tower.specs.Levels.{degree, Tower, ring, Ones, fewer, one_not_zero}
use Rattle.euclid.specs.Answer.{done, bind}
use Rattle.euclid.specs.Level.{Level, beneath}
use Rattle.euclid.specs.Number.{done₀}
use Rattle.euclid.specs.Inverse.{elements, finish, inverse}
use Rattle.euclid.specs.Towers.{inv, level}
use Rattle.euclid.specs.Lazy.{lazy_null, scale_one}
use Rattle.euclid.specs.LazyInverse.{modulus, element}
use Rattle.euclid.proofs.LazyInverse.{inverse-lazy}

module _ (L : Level) (d : ℕ) (m : Vec L.ring.Car d) (some : 1 ≤ d) (ne : ¬ (L.ring.𝟙 ≡ L.ring.𝟘)) where
  open L.ring use {𝟘, 𝟙}

  abbrev R : CRing
  R = L.ring

  abbrev Q : CRing
  Q = Quotient L.ring d m

  -- the one of the ring has degree 0 and the leading coefficient 1
  one_stripped : Stripped 𝟘 d Q.𝟙 (lead 0 tt 𝟙)
  one_stripped = (
    some,
    ne,
    λ n. ap (λ v. coef 𝟘 d v n) (one-is R d m some) ∙ coef-trunc 𝟘 d (const R 𝟙) (below_mono 𝟘 (const R 𝟙) some (constᴾ R 𝟙).below) n
        ∙ elim n [ zero ↦ refl | suc n ↦ refl ],
  )

  -- the remainder of the modulus by 1 is zero: the sequence ends in 1, which carries 1
  pub inverse-one : L.inv 𝟙 ≡ done 𝟙 → inverse L d m Q.𝟙 ≡ done Q.𝟙
  inverse-one h =
      inverse-lazy L d m Q.𝟙 0 tt 𝟙 one_stripped 𝟙 h 1 (omega arith)
      ∙ ap (λ s. bind s (λ r. finish L d m r.degree r.low r.carried))
      (lazy_null (beneath L d m) (elements L d m) 0 (modulus L d m) (element L d m 0 tt 𝟙 𝟙) (λ j. refl))
      ∙ ap done (scale_one R d Q.𝟙)

module _ (p : ℕ) (pos : 0 < p) (d : List ℕ) where
  -- 1 is its own inverse at every level: at level 0 since nothing above 1 divides 1
  pub inv-one : (n : ℕ) (t : Tower p d n) → Ones p pos d n → inv p pos d n t (ring p pos d n t).𝟙 ≡ done (ring p pos d n t).𝟙
  inv-one zero t o =
      let R = ring p pos d zero t in
      done₀ p pos R.𝟙 R.𝟙 (λ k _ h. le_of_dvd (omega arith) (rw (mod-eq_of_lt {n = 1} {m = p} o.p_two) at h)) (R.⊗_one R.𝟙) (one_not_zero p pos d zero t o)
  inv-one (suc n) t o =
      let below = fewer p pos d n o in
      inverse-one (level p pos d n t.0) (degree d n) t.1 (o.degrees n (omega arith)) (one_not_zero p pos d n t.0 below) (inv-one n t.0 below)

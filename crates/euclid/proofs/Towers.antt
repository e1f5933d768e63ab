-- Each level of every tower keeps its promise: demand 3 for it.
--
-- good               == the promise of the level
-- gcd_of_free, inverse_of_free == a modulus and tower without factors get their GCD and their inverses
use Rattle.std.specs.Prelude.{◌≡◌, List, ℕ, zero, suc, ◌<◌}
use Rattle.std.proofs.Common.{inl, inr}
use Rattle.algebra.specs.Vec.{Vec}
use Rattle.algebra.specs.PolyRing.{pol}
use Rattle.tower.specs.Levels.{degree, El, Tower, group, ring}
use Rattle.euclid.specs.Answer.{Answer, done}
use Rattle.euclid.specs.Level.{Level, Good}
use Rattle.euclid.specs.Number.{inverse₀_ok}
use Rattle.euclid.proofs.Inverse.{above_good}
use Rattle.euclid.specs.Gcd.{Made, Gcd, gcd, nothing}
use Rattle.euclid.specs.Demand.{inv_given}
use Rattle.euclid.proofs.Demand.{gcd_given}
use Rattle.euclid.specs.Towers.{Shown, Right as Right_by, inv as inv_by, level as level_by, Free as FreeOf}

module _ (p : ℕ) (pos : 0 < p) (d : List ℕ) where
  abbrev Right : (n : ℕ) → Tower p d n → Shown p d n → Type 0
  Right n t f = Right_by p pos d n t f

  abbrev inv : (n : ℕ) → Tower p d n → El p d n → Answer (Shown p d n) (El p d n)
  inv n t c = inv_by p pos d n t c

  abbrev level : (n : ℕ) → Tower p d n → Level
  level n t = level_by p pos d n t

  abbrev Free : (n : ℕ) → Tower p d n → Type 0
  Free n t = FreeOf p pos d n t

  pub good : (n : ℕ) (t : Tower p d n) → Good (level n t)
  good zero t = inverse₀_ok p pos
  good (suc n) t = above_good (level n t.0) (degree d n) t.1 (good n t.0)

  free_shows_nothing : (n : ℕ) (t : Tower p d n) → Free n t → (f : Shown p d n) → ¬ Right n t f
  free_shows_nothing zero t h f = h f
  free_shows_nothing (suc n) t h (inl f) = free_shows_nothing n t.0 h.0 f
  free_shows_nothing (suc n) t h (inr f) = h.1 f

  -- "a modulus and tower without such factors always get their GCD"
  pub gcd_of_free : (n : ℕ) (t : Tower p d n) → Free n t → (k : ℕ) (a : Vec (El p d n) k) (l : ℕ) (b : Vec (El p d n) l)
      → (g : Made (El p d n) (Unit {0})) × (gcd (level n t) k a l b ≡ done g) × Gcd (ring p pos d n t) (pol (ring p pos d n t) k a) (pol (ring p pos d n t) l b) g
  gcd_of_free n t f k a l b = gcd_given (level n t) (good n t) k a l b (nothing (El p d n)) tt tt (free_shows_nothing n t f)

  pub inverse_of_free : (n : ℕ) (t : Tower p d n) → Free n t → (c : El p d n) → ¬ (c ≡ (group p pos d n).𝟘)
      → (u : El p d n) × (inv n t c ≡ done u) × ((ring p pos d n t).◌⊗◌ u c ≡ (ring p pos d n t).𝟙)
  inverse_of_free n t f c nz = inv_given (level n t) (good n t) c nz (free_shows_nothing n t f)

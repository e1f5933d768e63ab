-- What the sequences need of a level, any level: its ring, the test for zero, what may be shown there in place of an answer, when that is right,
-- and the partial inverse.
--
-- Level          == these
-- Good L         == what the inverse of a level promises: u with u c = 1, or something shown that is right, and never number 11
-- Mon A          == a monic polynomial: its degree, and the coefficients under its leading 1
-- Factor R d m f == demand 3's factor: f is monic, of degree 1 to d - 1, and divides the monic polynomial of degree d with the coefficients m;
--                    Factor₀ p h == the same at level 0
-- beneath         == a level as the one above it sees it: more may be shown
use Rattle.std.specs.Prelude.{◌≡◌, ◌⊎◌, ℕ, ◌≤◌, ◌<◌, Bool}
use Rattle.std.proofs.Common.{inl, inr}
use Rattle.std.specs.Int.{◌∣◌}
use Rattle.algebra.specs.Test.{ZeroTest}
use Rattle.algebra.specs.Ring.{CRing}
use Rattle.algebra.specs.Vec.{Vec}
use Rattle.algebra.specs.Divisor.{Dvd}
use Rattle.algebra.specs.PolyRing.{PolyRing, mon}
use Rattle.euclid.specs.Answer.{Answer, lift, Holds, holds_lift}

pub record Level : Type 1 where
  pub ring : CRing
  pub is_zero : ring.Car → Bool
  pub zero_test : ZeroTest ring.𝟘 is_zero
  pub Shown : Type 0
  pub Right : Shown → Type 0
  pub inv : ring.Car → Answer Shown ring.Car

abbrev pub Good : Level → Type 0
Good L = (c : L.ring.Car) → ¬ (c ≡ L.ring.𝟘) → Holds L.Right (λ u. L.ring.◌⊗◌ u c ≡ L.ring.𝟙) (L.inv c)

abbrev pub Mon : Type 0 → Type 0
Mon A = (e : ℕ) × Vec A e

pub record Factor (R : CRing) (d : ℕ) (m : Vec R.Car d) (f : Mon R.Car) : Type 0 where
  pub above : 1 ≤ f.0
  pub below : f.0 < d
  pub divides : Dvd (PolyRing R) (mon R f.0 f.1) (mon R d m)

-- at level 0 "a number between 1 and the modulus that divides it"
pub record Factor₀ (p h : ℕ) : Type 0 where
  pub above : 1 < h
  pub below : h < p
  pub divides : h ∣ p

-- ---- one level up more may be shown: what the level below shows, and a factor of the polynomial between them
abbrev pub RightAbove : (R : CRing) {F : Type 0} → (F → Type 0) → (d : ℕ) → Vec R.Car d → F ⊎ Mon R.Car → Type 0
RightAbove R Q d m (inl f) = Q f
RightAbove R Q d m (inr f) = Factor R d m f

-- the same level, for a sequence that the level above takes on it: "A factor met at a lower level ends everything above it."
module _ (L : Level) (d : ℕ) (m : Vec L.ring.Car d) where
  abbrev pub beneath : Level
  beneath = record {
    ring = L.ring;
    is_zero = L.is_zero;
    zero_test = L.zero_test;
    Shown = L.Shown ⊎ Mon L.ring.Car;
    Right = RightAbove L.ring L.Right d m;
    inv = λ c. lift inl (L.inv c);
  }

  pub beneath_good : Good L → Good beneath
  beneath_good G c h = holds_lift L.Right (λ u. L.ring.◌⊗◌ u c ≡ L.ring.𝟙) (RightAbove L.ring L.Right d m) inl (L.inv c) (G c h) (λ f r. r)

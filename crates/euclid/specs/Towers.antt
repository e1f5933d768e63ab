-- The sequences at every level of every tower: what may be shown, the inverse, the level of document 01's towers as one of `Level`, and demand 3's factors.
-- (proofs/Towers.antt: that each level keeps its promise.)
--
-- Shown p d n        == what may be shown at level n;  value_of, shown_level == the number or polynomial, and its level
-- Right              == that it is right: demand 3's factor;  right-value == the same by its level: a factor of the polynomial of that level
-- inv, level         == the inverse at level n, and the whole level
-- Free               == a modulus and tower without such factors
use Rattle.std.specs.Prelude.{◌⊎◌, List, ℕ, zero, suc, ◌<◌}
use Rattle.std.proofs.Common.{inl, inr}
use Rattle.tower.specs.Levels.{degree, El, is_zero, Tower, zero_test, ring}
use Rattle.euclid.specs.Answer.{Answer}
use Rattle.euclid.specs.Level.{Level, Mon, Factor, Factor₀, RightAbove}
use Rattle.euclid.specs.Number.{inverse₀}
use Rattle.euclid.specs.Inverse.{inverse}

module _ (p : ℕ) (d : List ℕ) where
  -- what may be shown at level n: what the levels below show, and a factor of the topmost polynomial
  abbrev pub Shown : ℕ → Type 0
  Shown zero = ℕ
  Shown (suc n) = Shown n ⊎ Mon (El p d n)

  -- a shown factor: a number, at level 0, or a monic polynomial over level j, at level j + 1
  abbrev pub Value : Type 0
  Value = ℕ ⊎ ((j : ℕ) × Mon (El p d j))

  abbrev pub value_of : (n : ℕ) → Shown n → Value
  value_of zero h = inl h
  value_of (suc n) (inl f) = value_of n f
  value_of (suc n) (inr g) = inr (n, g)

  abbrev pub value_level : Value → ℕ
  value_level (inl h) = 0
  value_level (inr v) = suc v.0

  abbrev pub shown_level : (n : ℕ) → Shown n → ℕ
  shown_level n f = value_level (value_of n f)

module _ (p : ℕ) (pos : 0 < p) (d : List ℕ) where
  abbrev pub Right : (n : ℕ) → Tower p d n → Shown p d n → Type 0
  Right zero t = Factor₀ p
  Right (suc n) t = RightAbove (ring p pos d n t.0) (Right n t.0) (degree d n) t.1

  abbrev pub level_with : (n : ℕ) (t : Tower p d n) → (El p d n → Answer (Shown p d n) (El p d n)) → Level
  level_with n t f = record { ring = ring p pos d n t; is_zero = is_zero p d n; zero_test = zero_test p pos d n; Shown = Shown p d n; Right = Right n t; inv = f }

  abbrev pub inv : (n : ℕ) → Tower p d n → El p d n → Answer (Shown p d n) (El p d n)
  inv zero t = inverse₀ p pos
  inv (suc n) t = inverse (level_with n t.0 (inv n t.0)) (degree d n) t.1

  abbrev pub level : (n : ℕ) → Tower p d n → Level
  level n t = level_with n t (inv n t)

  -- ---- demand 3: "it is a monic proper factor of the named tower polynomial, of degree 1 or more, or at level 0 a number between 1 and the modulus that
  -- divides it". The tower polynomial of level j + 1 of t is the last of the tower of its first j + 1 levels.
  pub data First : (n : ℕ) → Tower p d n → (j : ℕ) → Tower p d j → Type 0 where
    whole : {n : ℕ} {t : Tower p d n} → First n t n t
    lower : {n : ℕ} {t : Tower p d (suc n)} {j : ℕ} {s : Tower p d j} → First n t.0 j s → First (suc n) t j s

  -- m_(j+1) of t, with the tower under it
  pub record FactorOf (n : ℕ) (t : Tower p d n) (j : ℕ) (g : Mon (El p d j)) : Type 0 where
    pub levels : Tower p d (suc j)
    pub first : First n t (suc j) levels
    pub factor : Factor (ring p pos d j levels.0) (degree d j) levels.1 g

  abbrev pub RightValue : (n : ℕ) → Tower p d n → Value p d → Type 0
  RightValue n t (inl h) = Factor₀ p h
  RightValue n t (inr v) = FactorOf n t v.0 v.1

  lift-value : (n : ℕ) (t : Tower p d (suc n)) (v : Value p d) → RightValue n t.0 v → RightValue (suc n) t v
  lift-value n t (inl h) r = r
  lift-value n t (inr v) r = record { levels = r.levels; first = lower r.first; factor = r.factor }

  pub right-value : (n : ℕ) (t : Tower p d n) (f : Shown p d n) → Right n t f → RightValue n t (value_of p d n f)
  right-value zero t h r = r
  right-value (suc n) t (inl f) r = lift-value n t (value_of p d n f) (right-value n t.0 f r)
  right-value (suc n) t (inr g) r = record { levels = t; first = whole; factor = r }

  -- p has no divisor strictly between 1 and p, and no m_i a monic factor of a degree from 1 to d_i - 1
  abbrev pub Free : (n : ℕ) → Tower p d n → Type 0
  Free zero t = (h : ℕ) → ¬ Factor₀ p h
  Free (suc n) t = Free n t.0 × ((f : Mon (El p d n)) → ¬ Factor (ring p pos d n t.0) (degree d n) t.1 f)

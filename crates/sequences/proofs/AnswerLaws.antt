-- What an outcome says of an answer: each of the code's results belongs to one of the three answers.
--
-- came_done, came_factor, came_long, came_stops == of an inverse whose answer stands at c
-- reached_inverse, reached_divisor, reached_endless == of one whose place is told
-- follows_next, follows_shows, follows_over == of a turn's end
-- level-low                                 == a factor's level is not above the one where it is shown
use Prim.Native.Nat.{ℕ, zero, suc, ◌<◌, ◌≤◌}
use native.Mathlib.Nat.{lt_irrefl}
use native.Mathlib.Omega.{arith}
use mathlib.Core.Path.{◌≡◌, refl, ap}
use mathlib.Core.Logic.{inl, inr}
use mathlib.Core.List.{List}
use lib.IntN.{ℤ}
use Rattle.tower.specs.Levels.{El, Tower, ring}
use Rattle.tower.specs.Stands.{Stands}
use Rattle.tower.specs.Writing.{size}
use Rattle.euclid.specs.Answer.{Answer, done, shown, long}
use Rattle.euclid.specs.Towers.{Shown, shown_level}
use Rattle.std.specs.Prelude.{Result, Ok, Err}
use Rattle.sequences.specs.declared.Stop.{Stop}
use Rattle.sequences.specs.declared.Stop.TheVariants.{Factor, Long}
use Rattle.sequences.specs.Outcomes.{FactorStands, Came, Above, Reached, Follows}

-- why there is no answer, of a turn
abbrev told : Result (Unit {0}) Stop → Result ℕ Stop
told (Ok y) = Ok 0
told (Err y) = Err y

pub level-low : (p : ℕ) (d : List ℕ) (n : ℕ) (f : Shown p d n) → shown_level p d n f ≤ n
level-low p d zero h = omega arith
level-low p d (suc n) (inl f) = omega (arith, level-low p d n f)
level-low p d (suc n) (inr f) = omega arith

module _ (p : ℕ) (p_pos : 0 < p) (d : List ℕ) (i : ℕ) (t : Tower p d i) (w : List ℤ) where
  abbrev A : Type 0
  A = Answer (Shown p d i) (El p d i)

  -- ---- at c
  module _ (c : ℕ) (o : Result (Unit {0}) Stop) where
    pub came_done : o ≡ Ok tt → (q : A) → Came p p_pos d i t q o w c → (u : El p d i) × (q ≡ done u) × Stands p d i u w c
    came_done e (done u) k = (u, refl, k.1)
    came_done e (shown f) k = let h : o ≡ Err (Factor (shown_level p d i f) c) = k.0 in let bad : ◌≡◌ {A = ℕ} 0 1 = cc in absurd (lt_irrefl 0 (omega arith))
    came_done e long k = let h : o ≡ Err Long = k in let bad : ◌≡◌ {A = ℕ} 0 1 = cc in absurd (lt_irrefl 0 (omega arith))

    pub came_factor : (l at : ℕ) → o ≡ Err (Factor l at) → (q : A) → Came p p_pos d i t q o w c
        → (f : Shown p d i) × (q ≡ shown f) × (l ≡ shown_level p d i f) × (at ≡ c) × FactorStands p p_pos d i t f w c
    came_factor l at e (done u) k = let h : o ≡ Ok tt = k.0 in let bad : ◌≡◌ {A = ℕ} 0 1 = cc in absurd (lt_irrefl 0 (omega arith))
    came_factor l at e (shown f) k =
        let h : o ≡ Err (Factor (shown_level p d i f) c) = k.0 in
        let level : l ≡ shown_level p d i f = cc in
        let same : at ≡ c = cc in
        (f, refl, level, same, k.1)
    came_factor l at e long k = let h : o ≡ Err Long = k in let bad : ◌≡◌ {A = ℕ} 0 1 = cc in absurd (lt_irrefl 0 (omega arith))

    pub came_long : o ≡ Err Long → (q : A) → Came p p_pos d i t q o w c → q ≡ long
    came_long e (done u) k = let h : o ≡ Ok tt = k.0 in let bad : ◌≡◌ {A = ℕ} 0 1 = cc in absurd (lt_irrefl 0 (omega arith))
    came_long e (shown f) k = let h : o ≡ Err (Factor (shown_level p d i f) c) = k.0 in let bad : ◌≡◌ {A = ℕ} 0 1 = cc in absurd (lt_irrefl 0 (omega arith))
    came_long e long k = refl

  -- why there is none is why the turn has no end
  module _ (u : El p d i) (g c unit : ℕ) (x : Stop) where
    pub came_stops : (q : A) → Came p p_pos d i t q (Err x) w c → Follows p p_pos d i t u g q (Err x) w c unit
    came_stops (done j) k = let h : ◌≡◌ {A = Result (Unit {0}) Stop} (Err x) (Ok tt) = k.0 in let bad : ◌≡◌ {A = ℕ} 0 1 = cc in absurd (lt_irrefl 0 (omega arith))
    came_stops (shown f) k = (ap told k.0, k.1)
    came_stops long k = ap told k

  -- ---- at a place that is told
  module _ (top : ℕ) (o : Result ℕ Stop) where
    pub reached_inverse : (at : ℕ) → o ≡ Ok at → (q : A) → Reached p p_pos d i t q o w top
        → (u : El p d i) × (q ≡ done u) × (m : ℕ) × (at ≡ m) × Above d i (size d i) m top × Stands p d i u w m
    reached_inverse at e (done u) k =
        let h : o ≡ Ok k.0 = k.1 in
        let same : at ≡ k.0 = cc in
        (u, refl, k.0, same, k.2, k.3)
    reached_inverse at e (shown f) k = let h : o ≡ Err (Factor (shown_level p d i f) k.0) = k.1 in let bad : ◌≡◌ {A = ℕ} 0 1 = cc in absurd (lt_irrefl 0 (omega arith))
    reached_inverse at e long k = let h : o ≡ Err Long = k in let bad : ◌≡◌ {A = ℕ} 0 1 = cc in absurd (lt_irrefl 0 (omega arith))

    pub reached_divisor : (l at : ℕ) → o ≡ Err (Factor l at) → (q : A) → Reached p p_pos d i t q o w top
        → (f : Shown p d i) × (q ≡ shown f) × (l ≡ shown_level p d i f) × (m : ℕ) × (at ≡ m) × Above d i (size d (shown_level p d i f)) m top × FactorStands p p_pos d i t f w m
    reached_divisor l at e (done u) k = let h : o ≡ Ok k.0 = k.1 in let bad : ◌≡◌ {A = ℕ} 0 1 = cc in absurd (lt_irrefl 0 (omega arith))
    reached_divisor l at e (shown f) k =
        let h : o ≡ Err (Factor (shown_level p d i f) k.0) = k.1 in
        let same : at ≡ k.0 = cc in
        let level : l ≡ shown_level p d i f = cc in
        (f, refl, level, k.0, same, k.2, k.3)
    reached_divisor l at e long k = let h : o ≡ Err Long = k in let bad : ◌≡◌ {A = ℕ} 0 1 = cc in absurd (lt_irrefl 0 (omega arith))

    pub reached_endless : o ≡ Err Long → (q : A) → Reached p p_pos d i t q o w top → q ≡ long
    reached_endless e (done u) k = let h : o ≡ Ok k.0 = k.1 in let bad : ◌≡◌ {A = ℕ} 0 1 = cc in absurd (lt_irrefl 0 (omega arith))
    reached_endless e (shown f) k = let h : o ≡ Err (Factor (shown_level p d i f) k.0) = k.1 in let bad : ◌≡◌ {A = ℕ} 0 1 = cc in absurd (lt_irrefl 0 (omega arith))
    reached_endless e long k = refl

  -- ---- of a turn
  module _ (u : El p d i) (g free unit : ℕ) (o : Result ℕ Stop) where
    pub follows_next : (n : ℕ) → o ≡ Ok n → (q : A) → Follows p p_pos d i t u g q o w free unit
        → (j : El p d i) × (q ≡ done j) × (n ≡ suc g) × Stands p d i ((ring p p_pos d i t).◌⊗◌ j u) w unit
    follows_next n e (done j) k = let h : o ≡ Ok (suc g) = k.0 in let same : n ≡ suc g = cc in (j, refl, same, k.1)
    follows_next n e (shown f) k = let h : o ≡ Err (Factor (shown_level p d i f) free) = k.0 in let bad : ◌≡◌ {A = ℕ} 0 1 = cc in absurd (lt_irrefl 0 (omega arith))
    follows_next n e long k = let h : o ≡ Err Long = k in let bad : ◌≡◌ {A = ℕ} 0 1 = cc in absurd (lt_irrefl 0 (omega arith))

    pub follows_shows : (l at : ℕ) → o ≡ Err (Factor l at) → (q : A) → Follows p p_pos d i t u g q o w free unit
        → (f : Shown p d i) × (q ≡ shown f) × (l ≡ shown_level p d i f) × (at ≡ free) × FactorStands p p_pos d i t f w free
    follows_shows l at e (done j) k = let h : o ≡ Ok (suc g) = k.0 in let bad : ◌≡◌ {A = ℕ} 0 1 = cc in absurd (lt_irrefl 0 (omega arith))
    follows_shows l at e (shown f) k =
        let h : o ≡ Err (Factor (shown_level p d i f) free) = k.0 in
        let level : l ≡ shown_level p d i f = cc in
        let same : at ≡ free = cc in
        (f, refl, level, same, k.1)
    follows_shows l at e long k = let h : o ≡ Err Long = k in let bad : ◌≡◌ {A = ℕ} 0 1 = cc in absurd (lt_irrefl 0 (omega arith))

    pub follows_over : o ≡ Err Long → (q : A) → Follows p p_pos d i t u g q o w free unit → q ≡ long
    follows_over e (done j) k = let h : o ≡ Ok (suc g) = k.0 in let bad : ◌≡◌ {A = ℕ} 0 1 = cc in absurd (lt_irrefl 0 (omega arith))
    follows_over e (shown f) k = let h : o ≡ Err (Factor (shown_level p d i f) free) = k.0 in let bad : ◌≡◌ {A = ℕ} 0 1 = cc in absurd (lt_irrefl 0 (omega arith))
    follows_over e long k = refl

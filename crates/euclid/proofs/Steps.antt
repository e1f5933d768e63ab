-- The degree of the GCD's sequence's answer.
--
-- gcd-low                            == the answer's degree is at most the larger of the two
use Rattle.std.specs.Prelude.{◌⊎◌, ℕ, suc, ◌≤◌, ◌<◌, max}
use Rattle.std.proofs.Common.{inl, inr, arith}
use Rattle.algebra.specs.Test.{le_or_lt}
use Rattle.algebra.specs.Vec.{Vec, Below, coef, topped}
use Rattle.euclid.specs.Answer.{Holds, holds_bind, holds_map}
use Rattle.euclid.specs.Level.{Level, Good}
use Rattle.euclid.specs.Sequence.{Carry, seq}
use Rattle.euclid.proofs.Turn.{seq-degree}
use Rattle.euclid.specs.Gcd.{Made, nil, made, wrap, make, start, gcd_with, MadeOf, make_ok}
use Rattle.euclid.specs.Steps.{Low as Low_by}

-- ---- the degree
module _ (L : Level) (C : Carry L.ring.Car) (G : Good L) (D : ℕ) where
  open L.ring use {Car, 𝟘, 𝟙}

  abbrev Low : Made L.ring.Car C.X → Type 0
  Low A = Low_by L C G D A

  made-low : (k : ℕ) (a : Vec Car k) (x : C.X) (A : Made Car C.X) → Below 𝟘 (suc D) (coef 𝟘 k a) → MadeOf L C G k a x A → Low A
  made-low k a x (nil y) b m = tt
  made-low k a x (made d w y) b m = cases (le_or_lt d D)
    where
      cases : (d ≤ D) ⊎ (D < d) → d ≤ D
      cases (inl h) = h
      cases (inr h) = absurd (m.top (b d h))

  start-low : (A B : Made Car C.X) → Low A → Low B → Holds L.Right Low (start L C A B)
  unfolding start
  start-low A (nil y) l m = l
  start-low (nil x) (made d w y) l m =
      holds_map L.Right (λ r. r.degree ≤ D) Low (seq L C (suc (suc d)) 0 tt x d w y) wrap
      (seq-degree L C G (suc (suc d)) 0 tt x d w y (omega arith) D m) (λ r h. h)
  start-low (made n v x) (made d w y) l m =
      holds_map L.Right (λ r. r.degree ≤ D) Low (seq L C (suc (suc (max n d))) (suc n) (topped n v 𝟙) x d w y) wrap
      (seq-degree L C G (suc (suc (max n d))) (suc n) (topped n v 𝟙) x d w y (omega arith) D m) (λ r h. h)

  pub gcd-low : (k : ℕ) (a : Vec L.ring.Car k) (x : C.X) (l : ℕ) (b : Vec L.ring.Car l) (y : C.X)
      → Below L.ring.𝟘 (suc D) (coef L.ring.𝟘 k a) → Below L.ring.𝟘 (suc D) (coef L.ring.𝟘 l b) → Holds L.Right Low (gcd_with L C k a x l b y)
  unfolding gcd_with
  gcd-low k a x l b y ha hb =
      holds_bind L.Right (MadeOf L C G k a x) Low (make L C k a x) _ (make_ok L C G k a x) (λ A m.
      holds_bind L.Right (MadeOf L C G l b y) Low (make L C l b y) _ (make_ok L C G l b y) (λ B n.
      start-low A B (made-low k a x A ha m) (made-low l b y B hb n)))

-- The remainder sequence: "while the second is not zero, the pair (f, g) becomes (g, the remainder of f by g, made monic if not zero)".
-- Over any level. Something may be carried beside each polynomial: nothing for the GCD, an element for an inverse, a pair for cofactors.
-- (proofs/Sequence.antt: what it keeps, and the ways in which a turn can go.)
--
-- Carry == what is carried, and what happens to it
-- seq   == the sequence, with at most so many remainders;  turn == the rest of it, once the remainder is there;  seq_suc == one turn and the rest
-- Turned         == one turn: the next divisor is the remainder times i, and of lower degree
-- seq_null       == where the remainder is zero, the divisor is the answer
use Rattle.std.specs.Prelude.{◌≡◌, ℕ, zero, suc, ◌<◌}
use Rattle.std.proofs.Math.Path.{refl, ap}
use Rattle.std.proofs.Common.{◌∙◌}
use Rattle.algebra.specs.Ring.{CRing}
use Rattle.algebra.specs.Vec.{Vec, coef, topped}
use Rattle.algebra.specs.Shape.{Shape, null, lead, strip}
use Rattle.algebra.specs.Divide.{quotient, remainder, divide}
use Rattle.algebra.specs.UnitDivide.{scaleᵛ}
use Rattle.euclid.specs.Answer.{Answer, done, long, bind}
use Rattle.euclid.specs.Level.{Level}

-- what is carried: to be multiplied by a constant, and to lose q times what the divisor carries, q a quotient of k coefficients
pub record Carry (A : Type 0) : Type 1 where
  pub X : Type 0
  pub times : A → X → X
  pub less : X → (k : ℕ) → Vec A k → X → X

-- a monic polynomial, its degree and the coefficients under its leading 1, with what it carries
pub record Ended (A X : Type 0) : Type 0 where
  pub degree : ℕ
  pub low : Vec A degree
  pub carried : X

abbrev pub ended : {A X : Type 0} (d : ℕ) → Vec A d → X → Ended A X
ended d w x = record { degree = d; low = w; carried = x }

module _ (L : Level) (C : Carry L.ring.Car) where
  open L use {Shown, inv}
  open L.ring use {Car, 𝟘, 𝟙, ◌⊗◌}
  open C use {X, times, less}

  infixl 70 ◌⊗◌
  abbrev R : CRing
  R = L.ring

  -- the rest of a sequence, from any pair
  abbrev Rest : Type 0
  Rest = (n : ℕ) → Vec Car n → X → (d : ℕ) → Vec Car d → X → Answer Shown (Ended Car X)

  -- the remainder is zero, and the divisor is the answer; or it is made monic, and on with it
  abbrev pub turn : Rest → (d : ℕ) → Vec Car d → X → X → Shape Car → Answer Shown (Ended Car X)
  turn again d w y z null = done (ended d w y)
  turn again d w y z (lead e u c) = bind (inv c) (λ i. again (suc d) (topped d w 𝟙) y e (scaleᵛ R e i u) (times i z))

  -- at most k remainders: f has n coefficients v and carries x, g is monic of degree d and carries y
  unfoldable pub seq : ℕ → (n : ℕ) → Vec Car n → X → (d : ℕ) → Vec Car d → X → Answer Shown (Ended Car X)
  seq zero n v x d w y = long
  seq (suc k) n v x d w y =
      let t : Vec Car n × Vec Car d = divide R d w n v in
      turn (seq k) d w y (less x n t.0 y) (strip L.is_zero d t.1)

  pub seq_suc : (k n : ℕ) (v : Vec Car n) (x : X) (d : ℕ) (w : Vec Car d) (y : X)
      → seq (suc k) n v x d w y ≡ turn (seq k) d w y (less x n (quotient R d w n v) y) (strip L.is_zero d (remainder R d w n v))
  unfolding seq
  seq_suc k n v x d w y = refl

  -- ---- what the sequence keeps. One turn: the next divisor is the remainder times i, and of lower degree
  pub record Turned (n : ℕ) (v : Vec Car n) (d : ℕ) (w : Vec Car d) (e : ℕ) (u : Vec Car e) (c i : Car) : Type 0 where
    pub small : e < d
    pub unit : i ⊗ c ≡ 𝟙
    pub rest : (j : ℕ) → coef 𝟘 d (remainder R d w n v) j ≡ coef 𝟘 (suc e) (topped e u c) j

  -- ---- one equation for each way in which a turn can go
  module _ (k n : ℕ) (v : Vec Car n) (x : X) (d : ℕ) (w : Vec Car d) (y : X) where
    -- the remainder is zero
    pub seq_null : strip L.is_zero d (remainder R d w n v) ≡ null → seq (suc k) n v x d w y ≡ done (ended d w y)
    seq_null e = seq_suc k n v x d w y ∙ ap (turn (seq k) d w y (less x n (quotient R d w n v) y)) e

-- What the remainder sequence keeps, and the ways in which a turn can go.
--
-- seq_ok         == what the start has, each turn keeps, and follows at the end, holds of the answer: every theorem of the sequence is an instance
-- seq-lead, seq_shown == a turn whose remainder is not zero: the sequence goes on, or a factor is shown (seq_null of specs/Sequence.antt: it is zero)
-- seq_fuel       == how many remainders are allowed changes no answer, once they are more than the divisor's degree
use Rattle.std.specs.Prelude.{◌≡◌, ℕ, zero, suc, ◌<◌}
use Rattle.std.proofs.Math.Path.{refl, ap}
use Rattle.std.proofs.Common.{◌∙◌, arith}
use Rattle.algebra.specs.Ring.{CRing}
use Rattle.algebra.specs.Vec.{Vec, coef, topped}
use Rattle.algebra.specs.Shape.{Shape, null, lead, strip, Stripped, strip_ok}
use Rattle.algebra.specs.Divide.{quotient, remainder}
use Rattle.algebra.specs.UnitDivide.{scaleᵛ}
use Rattle.euclid.specs.Answer.{Answer, done, shown, long, bind, Holds, holds_bind}
use Rattle.euclid.specs.Level.{Level, Good}
use Rattle.euclid.specs.Sequence.{Carry, Ended, ended, turn as turn_by, seq as seq_by, seq_suc, Turned as Turn}

module _ (L : Level) (C : Carry L.ring.Car) where
  open L use {Shown, Right, inv}
  open L.ring use {Car, 𝟘, 𝟙, ◌⊗◌}
  open C use {X, times, less}

  infixl 70 ◌⊗◌
  -- the rest of a sequence, from any pair
  abbrev Rest : Type 0
  Rest = (n : ℕ) → Vec Car n → X → (d : ℕ) → Vec Car d → X → Answer Shown (Ended Car X)

  abbrev turn : Rest → (d : ℕ) → Vec Car d → X → X → Shape Car → Answer Shown (Ended Car X)
  turn again d w y z s = turn_by L C again d w y z s

  abbrev seq : ℕ → (n : ℕ) → Vec Car n → X → (d : ℕ) → Vec Car d → X → Answer Shown (Ended Car X)
  seq k n v x d w y = seq_by L C k n v x d w y

  abbrev Turned : (n : ℕ) → Vec Car n → (d : ℕ) → Vec Car d → (e : ℕ) → Vec Car e → (c i : Car) → Type 0
  Turned n v d w e u c i = Turn L C n v d w e u c i

  abbrev R : CRing
  R = L.ring

  -- J is what the start has and each turn keeps, Post what follows from it when the remainder is zero; number 11 is not met
  module _ (G : Good L)
      (J : (n : ℕ) → Vec Car n → X → (d : ℕ) → Vec Car d → X → Type 0) (Post : Ended Car X → Type 0)
      (last : (n : ℕ) (v : Vec Car n) (x : X) (d : ℕ) (w : Vec Car d) (y : X) → J n v x d w y
      → ((j : ℕ) → coef 𝟘 d (remainder R d w n v) j ≡ 𝟘) → Post (ended d w y))
      (next : (n : ℕ) (v : Vec Car n) (x : X) (d : ℕ) (w : Vec Car d) (y : X) → J n v x d w y
      → (e : ℕ) (u : Vec Car e) (c i : Car) → Turned n v d w e u c i
      → J (suc d) (topped d w 𝟙) y e (scaleᵛ R e i u) (times i (less x n (quotient R d w n v) y))) where
    turn_ok : (again : Rest) (k : ℕ)
        → ((n : ℕ) (v : Vec Car n) (x : X) (d : ℕ) (w : Vec Car d) (y : X) → d < k → J n v x d w y → Holds Right Post (again n v x d w y))
        → (n : ℕ) (v : Vec Car n) (x : X) (d : ℕ) (w : Vec Car d) (y : X) → d < suc k → J n v x d w y
        → (s : Shape Car) → Stripped 𝟘 d (remainder R d w n v) s
        → Holds Right Post (turn again d w y (less x n (quotient R d w n v) y) s)
    turn_ok again k ih n v x d w y l j null h = last n v x d w y j h
    turn_ok again k ih n v x d w y l j (lead e u c) h =
        let small : e < d = h.0 in
        holds_bind Right (λ i. i ⊗ c ≡ 𝟙) Post (inv c) _ (G c h.1)
        (λ i unit. ih _ _ _ _ _ _ (omega arith) (next n v x d w y j e u c i (record { small = small; unit = unit; rest = h.2 })))

    pub seq_ok : (k n : ℕ) (v : Vec Car n) (x : X) (d : ℕ) (w : Vec Car d) (y : X) → d < k → J n v x d w y → Holds Right Post (seq k n v x d w y)
    seq_ok zero n v x d w y l j = absurd (omega arith)
    seq_ok (suc k) n v x d w y l j =
        rw (seq_suc L C k n v x d w y) (turn_ok (seq k) k (seq_ok k) n v x d w y l j (strip L.is_zero d (remainder R d w n v)) (strip_ok L.zero_test d (remainder R d w n v)))

  -- ---- one equation for each way in which a turn can go
  module _ (k n : ℕ) (v : Vec Car n) (x : X) (d : ℕ) (w : Vec Car d) (y : X) where
    module _ (e : ℕ) (u : Vec Car e) (c : Car) (h : strip L.is_zero d (remainder R d w n v) ≡ lead e u c) where
      on : Car → Answer Shown (Ended Car X)
      on i = seq k (suc d) (topped d w 𝟙) y e (scaleᵛ R e i u) (times i (less x n (quotient R d w n v) y))

      seq-turn : seq (suc k) n v x d w y ≡ bind (inv c) on
      unfolding on
      seq-turn = seq_suc L C k n v x d w y ∙ ap (turn (seq k) d w y (less x n (quotient R d w n v) y)) h

      -- it is made monic, and the sequence goes on
      pub seq-lead : (i : Car) → inv c ≡ done i
          → seq (suc k) n v x d w y ≡ seq k (suc d) (topped d w 𝟙) y e (scaleᵛ R e i u) (times i (less x n (quotient R d w n v) y))
      unfolding on
      seq-lead i g = seq-turn ∙ ap (λ m. bind m on) g

      -- or its leading coefficient shows a factor
      pub seq_shown : (f : Shown) → inv c ≡ shown f → seq (suc k) n v x d w y ≡ shown f
      seq_shown f g = seq-turn ∙ ap (λ m. bind m on) g

  -- ---- the count of remainders
  bind-same : {A B : Type 0} (m : Answer Shown A) (f g : A → Answer Shown B) → ((a : A) → f a ≡ g a) → bind m f ≡ bind m g
  bind-same (done a) f g h = h a
  bind-same (shown e) f g h = refl
  bind-same long f g h = refl

  turn-same : (d : ℕ) (w : Vec Car d) (v : Vec Car d) (y z : X) (s : Shape Car) → Stripped 𝟘 d v s → (again again' : Rest)
      → ((n : ℕ) (v : Vec Car n) (x : X) (e : ℕ) (u : Vec Car e) (y : X) → e < d → again n v x e u y ≡ again' n v x e u y)
      → turn again d w y z s ≡ turn again' d w y z s
  turn-same d w v y z null st again again' h = refl
  turn-same d w v y z (lead e u c) st again again' h =
      bind-same (inv c) _ _ (λ i. h (suc d) (topped d w 𝟙) y e (scaleᵛ R e i u) (times i z) st.0)

  pub seq_fuel : (k j n : ℕ) (v : Vec Car n) (x : X) (d : ℕ) (w : Vec Car d) (y : X) → d < k → d < j → seq k n v x d w y ≡ seq j n v x d w y
  seq_fuel zero j n v x d w y l l' = absurd (omega arith)
  seq_fuel (suc k) zero n v x d w y l l' = absurd (omega arith)
  seq_fuel (suc k) (suc j) n v x d w y l l' =
      rw (seq_suc L C k n v x d w y, seq_suc L C j n v x d w y)
      (turn-same d w (remainder R d w n v) y (less x n (quotient R d w n v) y) (strip L.is_zero d (remainder R d w n v)) (strip_ok L.zero_test d (remainder R d w n v)) (seq k) (seq j)
      (λ n v x e u y small. seq_fuel k j n v x e u y (omega arith) (omega arith)))

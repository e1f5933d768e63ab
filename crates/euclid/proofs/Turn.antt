-- What the whole sequence keeps: the degree falls, the common divisors and the combinations stay.
--
-- seq-degree  == the answer's degree is at most the divisor's at the start
-- seq_common  == the common divisors of the two at the start are the divisors of the answer
-- seq_comb    == the answer is a combination of what the two at the start are combinations of
-- seq_never_long == with more remainders allowed than the divisor's degree, number 11 is not given
use Rattle.std.specs.Prelude.{◌≡◌, ◌↔◌, ℕ, suc, ◌≤◌, ◌<◌}
use Rattle.std.proofs.Common.{subst, arith}
use Rattle.algebra.specs.Ring.{CRing}
use Rattle.algebra.specs.Vec.{Vec, coef, topped}
use Rattle.algebra.specs.Divide.{quotient, remainder}
use Rattle.algebra.specs.UnitDivide.{scaleᵛ}
use Rattle.algebra.specs.Divisor.{Dvd, Common, dvd_zero, common_step, common_unit, iff_trans}
use Rattle.algebra.specs.PolyRing.{P, P-path, PolyRing, pol, mon, con, con_unit}
use Rattle.algebra.proofs.PolyRing.{remainder-pol}
use Rattle.euclid.specs.Answer.{long, Holds}
use Rattle.euclid.specs.Level.{Level, Good}
use Rattle.euclid.specs.Sequence.{Carry, Ended, ended, Turned, seq}
use Rattle.euclid.proofs.Sequence.{seq_ok}
use Rattle.euclid.specs.Turn.{Comb, comb_times, comb_less, turned_is}

module _ (L : Level) (C : Carry L.ring.Car) where
  open L.ring use {Car, 𝟘, 𝟙}
  open C use {X, times, less}
  open PolyRing L.ring use {𝟘 as 0ᴷ}

  abbrev R : CRing
  R = L.ring

  abbrev K : CRing
  K = PolyRing L.ring

  module _ (n : ℕ) (v : Vec Car n) (d : ℕ) (w : Vec Car d) (e : ℕ) (u : Vec Car e) (c i : Car) (t : Turned L C n v d w e u c i) where
    turned_common : (h : P R) → Common K h (pol R n v) (mon R d w) ↔ Common K h (mon R d w) (mon R e (scaleᵛ R e i u))
    turned_common h =
        rw (turned_is L C n v d w e u c i t)
        (iff_trans (common_step K h (pol R n v) (mon R d w) (pol R n (quotient R d w n v)))
        (common_unit K h (mon R d w) _ (con R i) (con_unit R i c t.unit)))

  module _ (G : Good L) (k n : ℕ) (v : Vec Car n) (x : X) (d : ℕ) (w : Vec Car d) (y : X) (enough : d < k) where
    pub seq-degree : (D : ℕ) → d ≤ D → Holds L.Right (λ r. r.degree ≤ D) (seq L C k n v x d w y)
    seq-degree D h =
        seq_ok L C G (λ n v x d w y. d ≤ D) (λ r. r.degree ≤ D)
        (λ n v x d w y j z. j) (λ n v x d w y j e u c i t. let s : e < d = t.small in omega arith) k n v x d w y enough h

    pub seq_common : Holds L.Right (λ r. (h : P R) → Common K h (pol R n v) (mon R d w) ↔ Dvd K h (mon R r.degree r.low)) (seq L C k n v x d w y)
    seq_common = seq_ok L C G J Post last next k n v x d w y enough (λ h. (λ c. c, λ c. c))
      where
        A : P R
        A = pol R n v

        B : P R
        B = mon R d w

        J : (n : ℕ) → Vec Car n → X → (d : ℕ) → Vec Car d → X → Type 0
        J n' v' x' d' w' y' = (h : P R) → Common K h A B ↔ Common K h (pol R n' v') (mon R d' w')

        Post : Ended Car X → Type 0
        Post r = (h : P R) → Common K h A B ↔ Dvd K h (mon R r.degree r.low)

        last : (n : ℕ) (v : Vec Car n) (x : X) (d : ℕ) (w : Vec Car d) (y : X) → J n v x d w y
            → ((j : ℕ) → coef 𝟘 d (remainder R d w n v) j ≡ 𝟘) → Post (ended d w y)
        last n v x d w y j z h =
            iff_trans (j h) (iff_trans (common_step K h (pol R n v) (mon R d w) (pol R n (quotient R d w n v)))
            (rw (← (remainder-pol R d w n v), zero) ((λ c. c.left), (λ c. record { left = c; right = dvd_zero K h }))))
          where
            zero : pol R d (remainder R d w n v) ≡ 0ᴷ
            zero = P-path R _ _ z

        next : (n : ℕ) (v : Vec Car n) (x : X) (d : ℕ) (w : Vec Car d) (y : X) → J n v x d w y
            → (e : ℕ) (u : Vec Car e) (c i : Car) → Turned L C n v d w e u c i
            → J (suc d) (topped d w 𝟙) y e (scaleᵛ R e i u) (times i (less x n (quotient R d w n v) y))
        next n v x d w y j e u c i t h = iff_trans (j h) (turned_common n v d w e u c i t h)

    pub seq_comb : (a b : P R) → Comb R a b (pol R n v) → Comb R a b (mon R d w)
        → Holds L.Right (λ r. Comb R a b (mon R r.degree r.low)) (seq L C k n v x d w y)
    seq_comb a b f g =
        seq_ok L C G (λ n v x d w y. Comb R a b (pol R n v) × Comb R a b (mon R d w)) (λ r. Comb R a b (mon R r.degree r.low))
        (λ n v x d w y j z. j.1)
        (λ n v x d w y j e u c i t. (
          j.1,
          rw (turned_is L C n v d w e u c i t)
              (comb_times R a b (con R i) _ (comb_less R a b (pol R n v) _ j.0 (comb_times R a b (pol R n (quotient R d w n v)) (mon R d w) j.1))),
        ))
        k n v x d w y enough (f, g)

    pub seq_never_long : ¬ (seq L C k n v x d w y ≡ long)
    seq_never_long e = subst (Holds L.Right (λ r. r.degree ≤ d)) e (seq-degree d (omega arith))

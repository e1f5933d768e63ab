-- Division with remainder in R[z].
--
-- divided-pol      == a polynomial is the quotient times the monic divisor plus the remainder
-- remainder-pol    == the remainder, as an equation in R[z]
use Rattle.std.specs.Prelude.{◌≡◌, refl, ℕ}
use Rattle.std.proofs.Common.{ap, sym, ◌∙◌}
use Rattle.algebra.specs.Ring.{CRing}
use Rattle.algebra.specs.Solve.{◌:+◌, ◌:-◌, ◌≐◌, solve₂}
use Rattle.algebra.specs.Vec.{Vec}
use Rattle.algebra.specs.Divide.{quotient, remainder}
use Rattle.algebra.proofs.Divide.{divided}
use Rattle.algebra.specs.PolyRing.{P, P-path, PolyRing, pol as pol_by, mon as mon_by}

module _ (R : CRing) where
  open R use {Car}

  abbrev pol : (n : ℕ) → Vec Car n → P R
  pol n v = pol_by R n v

  abbrev mon : (d : ℕ) → Vec Car d → P R
  mon d w = mon_by R d w

  open PolyRing R use {◌⊕◌ as ◌+ᴷ◌, ◌⊗◌ as ◌*ᴷ◌, ⊖◌ as -ᴷ◌}

  infixl 65 ◌+ᴷ◌
  infixl 70 ◌*ᴷ◌
  infix 75 -ᴷ◌
  module _ (d : ℕ) (w : Vec Car d) (n : ℕ) (v : Vec Car n) where
    pub divided-pol : pol n v ≡ pol n (quotient R d w n v) *ᴷ mon d w +ᴷ pol d (remainder R d w n v)
    divided-pol = P-path R _ _ (λ j. ap (λ f. f j) (divided R d w n v))

    pub remainder-pol : pol d (remainder R d w n v) ≡ pol n v +ᴷ (-ᴷ (pol n (quotient R d w n v) *ᴷ mon d w))
    remainder-pol =
        solve₂ (PolyRing R) (pol n (quotient R d w n v) *ᴷ mon d w) (pol d (remainder R d w n v)) (λ a r. r ≐ (a :+ r) :- a) refl
        ∙ ap (λ x. x +ᴷ (-ᴷ (pol n (quotient R d w n v) *ᴷ mon d w))) (sym divided-pol)

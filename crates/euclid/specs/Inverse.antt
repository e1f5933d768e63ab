-- The inverse one level up: "For c in R_i: the same sequence on m_i and c over R_(i-1), c made monic first. If it ends in a polynomial of degree 1 or more,
-- this is shown as a factor at level i; if it ends in 1, the inverse is given." (proofs/Inverse.antt: that this is so.)
--
-- elements    == carried beside each polynomial f of the sequence: an element x with f = x c modulo m;  residue-scale == a constant times an element
-- inverse     == the inverse in the residue ring of a level by m;  on_modulus, finish, inverse_from == its sequence, the end of it, and from c's shape on
-- above       == the level above
use Rattle.std.specs.Prelude.{◌≡◌, ◌⊎◌, ℕ, zero, suc}
use Rattle.std.proofs.Common.{◌∙◌, inr}
use Rattle.std.proofs.Math.Path.{sym}
use Rattle.algebra.specs.Ring.{CRing}
use Rattle.algebra.specs.Vec.{Vec, allᵛ, zero_vec, coef, zeroᵛ, topped}
use Rattle.algebra.specs.Shape.{Shape, null, lead, strip}
use Rattle.algebra.specs.Series.{const-*}
use Rattle.algebra.specs.Poly.{constᴾ, poly}
use Rattle.algebra.specs.UnitDivide.{scaleᵛ, coef-scale}
use Rattle.algebra.specs.Quotient.{residue, same}
use Rattle.algebra.proofs.Quotient.{Quotient, residue-is, mul-l}
use Rattle.euclid.specs.Answer.{Answer, done, shown, bind}
use Rattle.euclid.specs.Level.{Level, Mon, RightAbove, beneath}
use Rattle.euclid.specs.Sequence.{Carry, Ended, seq}

module _ (L : Level) (d : ℕ) (m : Vec L.ring.Car d) where
  open L.ring use {Car, 𝟘, 𝟙}

  abbrev R : CRing
  R = L.ring

  abbrev Q : CRing
  Q = Quotient L.ring d m

  -- the residue of a constant times an element
  pub residue-scale : (a : Car) (x : Vec Car d) → Q.◌⊗◌ (residue R d m (constᴾ R a)) x ≡ scaleᵛ R d a x
  residue-scale a x =
      mul-l R d m (constᴾ R a) x ∙ residue-is R d m (same R d m (λ i n. (const-* R a (coef 𝟘 d x) n ∙ sym (coef-scale R d a x n)) i))

  abbrev pub elements : Carry L.ring.Car
  elements = record {
    X = Vec Car d;
    times = scaleᵛ R d;
    less = λ x k q y. Q.◌⊕◌ x (Q.⊖◌ (Q.◌⊗◌ (residue R d m (poly R k q)) y));
  }

  -- of degree 1 or more: a factor; else it is 1, and what it carries is the inverse
  abbrev pub finish : (e : ℕ) → Vec Car e → Vec Car d → Answer (L.Shown ⊎ Mon Car) (Vec Car d)
  finish zero w x = done x
  finish (suc e) w x = shown (inr (suc e, w))

  -- the sequence on m, which carries 0, and a monic polynomial of degree e, which carries y: at most D + 2 remainders, D = d
  abbrev pub on_modulus : (e : ℕ) → Vec Car e → Vec Car d → Answer (L.Shown ⊎ Mon Car) (Ended Car (Vec Car d))
  on_modulus e w y = seq (beneath L d m) elements (suc (suc d)) (suc d) (topped d m 𝟙) (zeroᵛ 𝟘 d) e w y

  abbrev pub inverse_from : Shape Car → Answer (L.Shown ⊎ Mon Car) (Vec Car d)
  inverse_from null = shown (inr (d, m))
  inverse_from (lead e u k) =
      bind ((beneath L d m).inv k) (λ i.
      bind (on_modulus e (scaleᵛ R e i u) (scaleᵛ R d i Q.𝟙)) (λ r.
      finish r.degree r.low r.carried))

  unfoldable pub inverse : Vec Car d → Answer (L.Shown ⊎ Mon Car) (Vec Car d)
  inverse c = inverse_from (strip L.is_zero d c)

  abbrev pub above : Level
  above = record {
    ring = Q;
    is_zero = allᵛ L.is_zero d;
    zero_test = zero_vec L.zero_test d;
    Shown = L.Shown ⊎ Mon Car;
    Right = RightAbove R L.Right d m;
    inv = inverse;
  }

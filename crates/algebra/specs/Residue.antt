-- Homomorphisms of rings. (proofs/Residue.antt: the residue map R[z] → R[z]/m is one.)
--
-- Hom A B       == a homomorphism of rings;  on_𝟘, on_⊖: zero goes to zero, negatives to negatives
use Rattle.std.specs.Prelude.{◌≡◌}
use Rattle.std.proofs.Common.{ap, ◌∙◌}
use Rattle.std.proofs.Math.Path.{sym}
use Rattle.algebra.specs.Ring.{CRing, ⊕_cancel, neg_unique}

pub record Hom (A B : CRing) : Type 0 where
  pub fun : A.Car → B.Car
  pub on_⊕ : (a b : A.Car) → fun (A.◌⊕◌ a b) ≡ B.◌⊕◌ (fun a) (fun b)
  pub on_⊗ : (a b : A.Car) → fun (A.◌⊗◌ a b) ≡ B.◌⊗◌ (fun a) (fun b)
  pub on_𝟙 : fun A.𝟙 ≡ B.𝟙

pub on_𝟘 : {A B : CRing} (h : Hom A B) → h.fun A.𝟘 ≡ B.𝟘
on_𝟘 {A} {B} h =
    ⊕_cancel B (h.fun A.𝟘) (h.fun A.𝟘) B.𝟘 (sym (h.on_⊕ A.𝟘 A.𝟘) ∙ ap h.fun (A.⊕_zero A.𝟘) ∙ sym (B.⊕_zero _))

pub on_⊖ : {A B : CRing} (h : Hom A B) (a : A.Car) → h.fun (A.⊖◌ a) ≡ B.⊖◌ (h.fun a)
on_⊖ {A} {B} h a = neg_unique B (h.fun a) (h.fun (A.⊖◌ a)) (sym (h.on_⊕ a (A.⊖◌ a)) ∙ ap h.fun (A.⊕_neg a) ∙ on_𝟘 h)

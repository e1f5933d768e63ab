-- The inverse one level up, as a program follows it that does not scale its polynomials (Lazy): the sequence on the modulus and c, both as they are.
--
-- inverse_shown      == the inverse of c's leading coefficient shows a factor: so does c's
-- inverse-lazy       == else the inverse is what the sequence on the two comes to
use Rattle.std.specs.Prelude.{◌≡◌, ℕ, suc, ◌<◌}
use Rattle.std.proofs.Math.Path.{ap, ap₂}
use Rattle.std.proofs.Common.{sym, ◌∙◌, inl}
use Rattle.algebra.specs.Ring.{CRing}
use Rattle.algebra.specs.Vec.{Vec, zeroᵛ, topped}
use Rattle.algebra.specs.Shape.{lead, Stripped, strip-lead}
use Rattle.algebra.specs.UnitDivide.{scaleᵛ}
use Rattle.algebra.proofs.Quotient.{Quotient}
use Rattle.euclid.specs.Answer.{Answer, done, shown, bind, lift}
use Rattle.euclid.specs.Level.{Level, beneath}
use Rattle.euclid.specs.Sequence.{seq}
use Rattle.euclid.specs.Inverse.{elements, finish, on_modulus, inverse, inverse_from}
use Rattle.euclid.proofs.Demand.{inverse_any_count}
use Rattle.euclid.specs.Lazy.{Led, lazy, scale_one}
use Rattle.euclid.specs.LazyInverse.{modulus as modulus_by, element as element_by}

module _ (L : Level) (d : ℕ) (m : Vec L.ring.Car d) where
  open L.ring use {Car, 𝟘, 𝟙}
  open Quotient L.ring d m use {𝟙 as 1ᵠ}

  abbrev modulus : Led Car (Vec Car d)
  modulus = modulus_by L d m

  abbrev element : (e : ℕ) → Vec Car e → Car → Car → Led Car (Vec Car d)
  element e u k i = element_by L d m e u k i

  abbrev R : CRing
  R = L.ring

  module _ (c : Vec Car d) (e : ℕ) (u : Vec Car e) (k : Car) (st : Stripped 𝟘 d c (lead e u k)) where
    -- what the inverse of k leads to
    after : Answer L.Shown Car → Answer (beneath L d m).Shown (Vec Car d)
    after a = bind (lift inl a) (λ i. bind (on_modulus L d m e (scaleᵛ R e i u) (scaleᵛ R d i 1ᵠ)) (λ r. finish L d m r.degree r.low r.carried))

    -- c is not zero, so this is what its inverse is
    opened : inverse L d m c ≡ after (L.inv k)
    unfolding inverse after
    opened = ap (inverse_from L d m) (strip-lead L.zero_test d c e u k st.1 st.2)

    -- it shows a factor
    pub inverse_shown : (f : L.Shown) → L.inv k ≡ shown f → inverse L d m c ≡ shown (inl f)
    unfolding after
    inverse_shown f h = opened ∙ ap after h

    -- or it is i, and the answer is that of the sequence on the two, of any count above c's degree
    pub inverse-lazy : (i : Car) → L.inv k ≡ done i → (j : ℕ) → e < j
        → inverse L d m c ≡ bind (lazy (beneath L d m) (elements L d m) j modulus (element e u k i)) (λ r. finish L d m r.degree r.low r.carried)
    unfolding after lazy
    inverse-lazy i h j enough =
        opened ∙ ap after h
        ∙ ap (λ s. bind s (λ r. finish L d m r.degree r.low r.carried))
        (inverse_any_count L d m j e (scaleᵛ R e i u) (scaleᵛ R d i 1ᵠ) st.0 enough
        ∙ ap₂ (λ v x. seq (beneath L d m) (elements L d m) j (suc d) v x e (scaleᵛ R e i u) (scaleᵛ R d i 1ᵠ))
        (sym (scale_one R (suc d) (topped d m 𝟙))) (sym (scale_one R d (zeroᵛ 𝟘 d))))

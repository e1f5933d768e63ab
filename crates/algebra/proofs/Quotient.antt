-- The residue ring R[z]/m of a monic m of degree d: its laws, and the ring.
--
-- residue-is           == what differs from p by a multiple of m, and has d coefficients, is its residue
-- residue-+, -*, ..    == the residue map keeps sums and products; residue-poly: it is onto; kernel: it is zero exactly on the multiples of m
-- mul-l, mul-r         == a residue in a product may be taken later
-- residue_times, Quotient == the product, and the ring;  one-is == its one is 1 and zeros, for d ≥ 1
use Rattle.std.specs.Prelude.{◌≡◌, ◌↔◌, ℕ, ◌≤◌}
use Rattle.std.proofs.Math.Path.{refl, sym, fun_ext}
use Rattle.std.proofs.Common.{ap, ◌∙◌}
use Rattle.algebra.specs.Ring.{Group, Times, CRing, ring_of, group_of, zero-⊕}
use Rattle.algebra.specs.Solve.{◌:+◌, ◌:*◌, ◌≐◌, solve₃}
use Rattle.algebra.specs.Vec.{Vec, coef, below_mono, trunc, zeroᵛ, coef-trunc, coef-zero, addᵛ, coef-add, vec_group}
use Rattle.algebra.specs.Series.{Series, SeriesRing, const}
use Rattle.algebra.specs.Poly.{Poly, 0ᴾ, constᴾ, ◌+ᴾ◌, ◌*ᴾ◌, poly, crown}
use Rattle.algebra.specs.Divide.{quotient}
use Rattle.algebra.proofs.Divide.{divided, remainder_is}
use Rattle.algebra.specs.Quotient.{Cong as Congruent, same as same_by, cong_refl as refl_by, cong_sym as sym_by, cong_trans as trans_by, cong_+ as sum_by, cong_* as product_by, residue as residue_by, mulᵛ as mul_by, oneᵛ as one_by}

module _ (R : CRing) (d : ℕ) (w : Vec R.Car d) where
  open R use {Car, 𝟘, 𝟙}
  open SeriesRing R use {◌⊕◌ as ◌+ˢ◌, ◌⊗◌ as ◌*ˢ◌}

  infixl 65 ◌+ˢ◌
  infixl 70 ◌*ˢ◌
  abbrev Cong : (p p' : Poly R) → Type 0
  Cong p p' = Congruent R d w p p'

  abbrev same : {p p' : Poly R} → p.co ≡ p'.co → Cong p p'
  same {p} {p'} e = same_by R d w {p = p} {p' = p'} e

  abbrev cong_refl : (p : Poly R) → Cong p p
  cong_refl p = refl_by R d w p

  abbrev cong_sym : {p p' : Poly R} → Cong p p' → Cong p' p
  cong_sym {p} {p'} h = sym_by R d w {p = p} {p' = p'} h

  abbrev cong_trans : {p p' p'' : Poly R} → Cong p p' → Cong p' p'' → Cong p p''
  cong_trans {p} {p'} {p''} h k = trans_by R d w {p = p} {p' = p'} {p'' = p''} h k

  abbrev cong_+ : {p p' q q' : Poly R} → Cong p p' → Cong q q' → Cong (◌+ᴾ◌ R p q) (◌+ᴾ◌ R p' q')
  cong_+ {p} {p'} {q} {q'} h k = sum_by R d w {p = p} {p' = p'} {q = q} {q' = q'} h k

  abbrev cong_* : {p p' q q' : Poly R} → Cong p p' → Cong q q' → Cong (◌*ᴾ◌ R p q) (◌*ᴾ◌ R p' q')
  cong_* {p} {p'} {q} {q'} h k = product_by R d w {p = p} {p' = p'} {q = q} {q' = q'} h k

  abbrev residue : Poly R → Vec Car d
  residue p = residue_by R d w p

  abbrev mulᵛ : Vec Car d → Vec Car d → Vec Car d
  mulᵛ u v = mul_by R d w u v

  abbrev oneᵛ : Vec Car d
  oneᵛ = one_by R d w

  abbrev S : CRing
  S = SeriesRing R

  abbrev m : Series R
  m = crown R d w

  abbrev G : Group
  G = group_of R

  own : (p : Poly R) → coef 𝟘 p.bound (trunc p.bound p.co) ≡ p.co
  own p = fun_ext (coef-trunc 𝟘 p.bound p.co p.below)

  pub residue-is : {p : Poly R} {v : Vec Car d} → Cong p (poly R d v) → residue p ≡ v
  unfolding residue_by
  residue-is {p} {v} h =
      remainder_is R d w p.bound (trunc p.bound p.co) h.by.bound h.by.co v h.by.below
      (own p ∙ h.eq ∙ solve₃ S (coef 𝟘 d v) h.by.co m (λ x q m. x :+ q :* m ≐ q :* m :+ x) refl)

  pub residue_cong : (p : Poly R) → Cong p (poly R d (residue p))
  unfolding residue_by
  residue_cong p = record {
    by = poly R p.bound (quotient R d w p.bound (trunc p.bound p.co));
    eq = sym (own p) ∙ divided R d w p.bound (trunc p.bound p.co)
        ∙ solve₃ S (coef 𝟘 d (residue p)) (coef 𝟘 p.bound (quotient R d w p.bound (trunc p.bound p.co))) m (λ x q m. q :* m :+ x ≐ x :+ q :* m) refl;
  }

  pub residue_respects : {p p' : Poly R} → Cong p p' → residue p ≡ residue p'
  residue_respects {p} {p'} h = residue-is (cong_trans h (residue_cong p'))

  -- the residue map is a homomorphism
  pub residue-* : (p q : Poly R) → residue (◌*ᴾ◌ R p q) ≡ mulᵛ (residue p) (residue q)
  unfolding mul_by
  residue-* p q = residue_respects (cong_* (residue_cong p) (residue_cong q))

  pub residue-+ : (p q : Poly R) → residue (◌+ᴾ◌ R p q) ≡ addᵛ G d (residue p) (residue q)
  residue-+ p q =
      residue-is (cong_trans (cong_+ (residue_cong p) (residue_cong q)) (same (sym (fun_ext (coef-add G d (residue p) (residue q))))))

  pub residue_0 : residue (0ᴾ R) ≡ zeroᵛ 𝟘 d
  residue_0 = residue-is (same (sym (fun_ext (coef-zero 𝟘 d))))

  -- onto
  pub residue-poly : (v : Vec Car d) → residue (poly R d v) ≡ v
  residue-poly v = residue-is (cong_refl _)

  -- its kernel is the multiples of m
  pub kernel : (p : Poly R) → (residue p ≡ zeroᵛ 𝟘 d) ↔ ((q : Poly R) × (p.co ≡ q.co *ˢ m))
  kernel p = (there, back)
    where
      there : residue p ≡ zeroᵛ 𝟘 d → (q : Poly R) × (p.co ≡ q.co *ˢ m)
      there h =
          let c = residue_cong p in
          (c.by, c.eq ∙ ap (λ v. coef 𝟘 d v +ˢ c.by.co *ˢ m) h ∙ ap (λ x. x +ˢ c.by.co *ˢ m) (fun_ext (coef-zero 𝟘 d)) ∙ zero-⊕ S _)

      back : ((q : Poly R) × (p.co ≡ q.co *ˢ m)) → residue p ≡ zeroᵛ 𝟘 d
      back t =
          residue_respects {p = p} {p' = 0ᴾ R} (record { by = t.0; eq = t.1 ∙ sym (zero-⊕ S _) }) ∙ residue_0

  -- a residue in a product may be taken later
  pub mul-l : (p : Poly R) (w : Vec Car d) → mulᵛ (residue p) w ≡ residue (◌*ᴾ◌ R p (poly R d w))
  unfolding mul_by
  mul-l p w = residue_respects (cong_* (cong_sym (residue_cong p)) (cong_refl _))

  pub mul-r : (u : Vec Car d) (p : Poly R) → mulᵛ u (residue p) ≡ residue (◌*ᴾ◌ R (poly R d u) p)
  unfolding mul_by
  mul-r u p = residue_respects (cong_* (cong_refl _) (cong_sym (residue_cong p)))

  pub mul_assoc : (u v w : Vec Car d) → mulᵛ (mulᵛ u v) w ≡ mulᵛ u (mulᵛ v w)
  unfolding mul_by
  mul_assoc u v w =
      mul-l (◌*ᴾ◌ R (poly R d u) (poly R d v)) w
      ∙ residue_respects (same (S.⊗_assoc (coef 𝟘 d u) (coef 𝟘 d v) (coef 𝟘 d w)))
      ∙ sym (mul-r u (◌*ᴾ◌ R (poly R d v) (poly R d w)))

  pub mul_comm : (u v : Vec Car d) → mulᵛ u v ≡ mulᵛ v u
  unfolding mul_by
  mul_comm u v = residue_respects (same (S.⊗_comm (coef 𝟘 d u) (coef 𝟘 d v)))

  pub mul-one : (u : Vec Car d) → mulᵛ u oneᵛ ≡ u
  unfolding one_by
  mul-one u = mul-r u (constᴾ R 𝟙) ∙ residue-is (same (S.⊗_one (coef 𝟘 d u)))

  pub mul_dist : (u v w : Vec Car d) → mulᵛ u (addᵛ G d v w) ≡ addᵛ G d (mulᵛ u v) (mulᵛ u w)
  unfolding mul_by
  mul_dist u v w =
      residue_respects (same (ap (λ x. coef 𝟘 d u *ˢ x) (fun_ext (coef-add G d v w)) ∙ S.⊗_dist (coef 𝟘 d u) (coef 𝟘 d v) (coef 𝟘 d w)))
      ∙ residue-+ (◌*ᴾ◌ R (poly R d u) (poly R d v)) (◌*ᴾ◌ R (poly R d u) (poly R d w))

  -- for d ≥ 1 the one of the ring is 1 and zeros
  pub one-is : 1 ≤ d → oneᵛ ≡ trunc d (const R 𝟙)
  unfolding one_by
  one-is l = residue-is (same (sym (fun_ext (coef-trunc 𝟘 d (const R 𝟙) (below_mono 𝟘 (const R 𝟙) l (constᴾ R 𝟙).below)))))

  -- the product on the group of vectors, and the ring
  abbrev pub residue_times : Times (vec_group (group_of R) d)
  residue_times = record {
    𝟙 = oneᵛ;
    ◌⊗◌ = mulᵛ;
    ⊗_assoc = mul_assoc;
    ⊗_comm = mul_comm;
    ⊗_one = mul-one;
    ⊗_dist = mul_dist;
  }

  abbrev pub Quotient : CRing
  Quotient = ring_of (vec_group (group_of R) d) residue_times

-- Divisors and units of a commutative ring, zero divisors allowed: what a step of Euclid's algorithm keeps.
--
-- Dvd a b, IsUnit a, Common x f g  == a divides b; a has an inverse; x divides f and g
-- dvd_refl, dvd_zero, dvd_+, dvd_neg, dvd_l == what divides two elements divides their sum, negatives and multiples
-- inv_unique  == an element has at most one inverse
-- common_step == f and g have the divisors of g and f less a multiple of g;  common_unit == a unit changes no divisors
use Rattle.std.specs.Prelude.{◌≡◌, refl, ◌↔◌}
use Rattle.std.proofs.Common.{ap, ap₂, sym, ◌∙◌}
use Rattle.algebra.specs.Ring.{CRing}
use Rattle.algebra.specs.Solve.{◌:+◌, ◌:-◌, ◌:*◌, ◌≐◌, :~◌, c0, solve₁, solve₂, solve₃}

pub iff_trans : {A B C : Type 0} → A ↔ B → B ↔ C → A ↔ C
iff_trans f g = (λ a. g.0 (f.0 a), λ c. f.1 (g.1 c))

pub iff_sym : {A B : Type 0} → A ↔ B → B ↔ A
iff_sym f = (f.1, f.0)

module _ (R : CRing) where
  open R use {Car, 𝟘, 𝟙, ◌⊕◌, ◌⊗◌, ⊖◌, ⊕_assoc, ⊕_comm, ⊕_zero, ⊕_neg, ⊗_assoc, ⊗_comm, ⊗_one, ⊗_dist}

  infixl 65 ◌⊕◌
  infixl 70 ◌⊗◌
  infix 75 ⊖◌
  pub record Dvd (a b : Car) : Type 0 where
    pub times : Car
    pub eq : b ≡ a ⊗ times

  pub record IsUnit (a : Car) : Type 0 where
    pub inv : Car
    pub eq : a ⊗ inv ≡ 𝟙

  pub dvd_refl : (a : Car) → Dvd a a
  dvd_refl a = record { times = 𝟙; eq = sym (⊗_one a) }

  pub dvd_zero : (a : Car) → Dvd a 𝟘
  dvd_zero a = record { times = 𝟘; eq = solve₁ R a (λ a. c0 ≐ a :* c0) refl }

  pub dvd_+ : {x a b : Car} → Dvd x a → Dvd x b → Dvd x (a ⊕ b)
  dvd_+ h k = record { times = h.times ⊕ k.times; eq = ap₂ ◌⊕◌ h.eq k.eq ∙ sym (⊗_dist _ _ _) }

  pub dvd_neg : {x a : Car} → Dvd x a → Dvd x (⊖ a)
  dvd_neg {x} h = record { times = ⊖ h.times; eq = ap (λ x. ⊖ x) h.eq ∙ solve₂ R x h.times (λ x c. :~ (x :* c) ≐ x :* (:~ c)) refl }

  pub dvd_l : {x a : Car} (b : Car) → Dvd x a → Dvd x (b ⊗ a)
  dvd_l {x} b h = record { times = b ⊗ h.times; eq = ap (λ y. b ⊗ y) h.eq ∙ solve₃ R b x h.times (λ b x c. b :* (x :* c) ≐ x :* (b :* c)) refl }

  -- an inverse is unique
  pub inv_unique : (a b c : Car) → a ⊗ b ≡ 𝟙 → a ⊗ c ≡ 𝟙 → b ≡ c
  inv_unique a b c h k =
      sym (⊗_one b) ∙ ap (λ x. b ⊗ x) (sym k) ∙ solve₃ R a b c (λ a b c. b :* (a :* c) ≐ (a :* b) :* c) refl
      ∙ ap (λ x. x ⊗ c) h ∙ ⊗_comm _ _ ∙ ⊗_one c

  -- a unit changes no divisors
  pub dvd_unit : {u x a : Car} → IsUnit u → Dvd x (u ⊗ a) ↔ Dvd x a
  dvd_unit {u} {x} {a} h = (there, dvd_l u)
    where
      there : Dvd x (u ⊗ a) → Dvd x a
      there k = record {
        times = h.inv ⊗ k.times;
        eq = sym (⊗_one a) ∙ ap (λ y. a ⊗ y) (sym h.eq) ∙ solve₃ R a u h.inv (λ a u w. a :* (u :* w) ≐ w :* (u :* a)) refl
            ∙ ap (λ y. h.inv ⊗ y) k.eq ∙ solve₃ R h.inv x k.times (λ w x c. w :* (x :* c) ≐ x :* (w :* c)) refl;
      }

  pub record Common (x f g : Car) : Type 0 where
    pub left : Dvd x f
    pub right : Dvd x g

  -- a step of Euclid's algorithm keeps the common divisors
  pub common_step : (x f g q : Car) → Common x f g ↔ Common x g (f ⊕ (⊖ (q ⊗ g)))
  common_step x f g q = (there, back)
    where
      there : Common x f g → Common x g (f ⊕ (⊖ (q ⊗ g)))
      there h = record { left = h.right; right = dvd_+ h.left (dvd_neg (dvd_l q h.right)) }

      back : Common x g (f ⊕ (⊖ (q ⊗ g))) → Common x f g
      back h = record {
        left = rw (solve₃ R f q g (λ f q g. f ≐ (f :- q :* g) :+ q :* g) refl) (dvd_+ h.right (dvd_l q h.left));
        right = h.left;
      }

  pub common_unit : (x f g u : Car) → IsUnit u → Common x f g ↔ Common x f (u ⊗ g)
  common_unit x f g u h =
      (λ c. record { left = c.left; right = (dvd_unit h).1 c.right }, λ c. record { left = c.left; right = (dvd_unit h).0 c.right })

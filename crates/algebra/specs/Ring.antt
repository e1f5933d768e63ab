-- Commutative rings, as a sum (an abelian group) and a product on it, and the laws that the ring solver rests on.
--
-- GroupOn A == zero, sum and negative on the type A;  Group == a type with these;  bundle, sum_of == from one to the other and back
-- Times G == a product on the group G that makes it a commutative ring
-- CRing   == a commutative ring; ring_of G T puts one together, group_of R takes its sum
--
-- The two halves are kept apart because an element of a tower, its sum and its writing know nothing of the tower's polynomials: these enter with
-- the product alone.
use Rattle.std.specs.Prelude.{◌≡◌}
use Rattle.std.proofs.Common.{ap, ap₂, sym, ◌∙◌}

pub record GroupOn (A : Type 0) : Type 0 where
  infixl 65 ◌⊕◌
  infix 75 ⊖◌
  pub is_set : IsSet A
  pub 𝟘 : A
  pub ◌⊕◌ : A → A → A
  pub ⊖◌ : A → A
  pub ⊕_assoc : (a b c : A) → (a ⊕ b) ⊕ c ≡ a ⊕ (b ⊕ c)
  pub ⊕_comm : (a b : A) → a ⊕ b ≡ b ⊕ a
  pub ⊕_zero : (a : A) → a ⊕ 𝟘 ≡ a
  pub ⊕_neg : (a : A) → a ⊕ (⊖ a) ≡ 𝟘

pub record Group : Type 1 where
  infixl 65 ◌⊕◌
  infix 75 ⊖◌
  pub Car : Type 0
  pub is_set : IsSet Car
  pub 𝟘 : Car
  pub ◌⊕◌ : Car → Car → Car
  pub ⊖◌ : Car → Car
  pub ⊕_assoc : (a b c : Car) → (a ⊕ b) ⊕ c ≡ a ⊕ (b ⊕ c)
  pub ⊕_comm : (a b : Car) → a ⊕ b ≡ b ⊕ a
  pub ⊕_zero : (a : Car) → a ⊕ 𝟘 ≡ a
  pub ⊕_neg : (a : Car) → a ⊕ (⊖ a) ≡ 𝟘

pub record Times (G : Group) : Type 0 where
  infixl 70 ◌⊗◌
  pub 𝟙 : G.Car
  pub ◌⊗◌ : G.Car → G.Car → G.Car
  pub ⊗_assoc : (a b c : G.Car) → (a ⊗ b) ⊗ c ≡ a ⊗ (b ⊗ c)
  pub ⊗_comm : (a b : G.Car) → a ⊗ b ≡ b ⊗ a
  pub ⊗_one : (a : G.Car) → a ⊗ 𝟙 ≡ a
  pub ⊗_dist : (a b c : G.Car) → a ⊗ (G.◌⊕◌ b c) ≡ G.◌⊕◌ (a ⊗ b) (a ⊗ c)

pub record CRing : Type 1 where
  infixl 65 ◌⊕◌
  infixl 70 ◌⊗◌
  infix 75 ⊖◌
  pub Car : Type 0
  pub is_set : IsSet Car
  pub 𝟘 : Car
  pub 𝟙 : Car
  pub ◌⊕◌ : Car → Car → Car
  pub ◌⊗◌ : Car → Car → Car
  pub ⊖◌ : Car → Car
  pub ⊕_assoc : (a b c : Car) → (a ⊕ b) ⊕ c ≡ a ⊕ (b ⊕ c)
  pub ⊕_comm : (a b : Car) → a ⊕ b ≡ b ⊕ a
  pub ⊕_zero : (a : Car) → a ⊕ 𝟘 ≡ a
  pub ⊕_neg : (a : Car) → a ⊕ (⊖ a) ≡ 𝟘
  pub ⊗_assoc : (a b c : Car) → (a ⊗ b) ⊗ c ≡ a ⊗ (b ⊗ c)
  pub ⊗_comm : (a b : Car) → a ⊗ b ≡ b ⊗ a
  pub ⊗_one : (a : Car) → a ⊗ 𝟙 ≡ a
  pub ⊗_dist : (a b c : Car) → a ⊗ (b ⊕ c) ≡ a ⊗ b ⊕ a ⊗ c

abbrev pub bundle : (A : Type 0) → GroupOn A → Group
bundle A G = record {
  Car = A;
  is_set = G.is_set;
  𝟘 = G.𝟘;
  ◌⊕◌ = G.◌⊕◌;
  ⊖◌ = G.⊖◌;
  ⊕_assoc = G.⊕_assoc;
  ⊕_comm = G.⊕_comm;
  ⊕_zero = G.⊕_zero;
  ⊕_neg = G.⊕_neg;
}

abbrev pub sum_of : (G : Group) → GroupOn G.Car
sum_of G = record {
  is_set = G.is_set;
  𝟘 = G.𝟘;
  ◌⊕◌ = G.◌⊕◌;
  ⊖◌ = G.⊖◌;
  ⊕_assoc = G.⊕_assoc;
  ⊕_comm = G.⊕_comm;
  ⊕_zero = G.⊕_zero;
  ⊕_neg = G.⊕_neg;
}

abbrev pub ring_of : (G : Group) → Times G → CRing
ring_of G T = record {
  Car = G.Car;
  is_set = G.is_set;
  𝟘 = G.𝟘;
  𝟙 = T.𝟙;
  ◌⊕◌ = G.◌⊕◌;
  ◌⊗◌ = T.◌⊗◌;
  ⊖◌ = G.⊖◌;
  ⊕_assoc = G.⊕_assoc;
  ⊕_comm = G.⊕_comm;
  ⊕_zero = G.⊕_zero;
  ⊕_neg = G.⊕_neg;
  ⊗_assoc = T.⊗_assoc;
  ⊗_comm = T.⊗_comm;
  ⊗_one = T.⊗_one;
  ⊗_dist = T.⊗_dist;
}

abbrev pub group_of : CRing → Group
group_of R = record {
  Car = R.Car;
  is_set = R.is_set;
  𝟘 = R.𝟘;
  ◌⊕◌ = R.◌⊕◌;
  ⊖◌ = R.⊖◌;
  ⊕_assoc = R.⊕_assoc;
  ⊕_comm = R.⊕_comm;
  ⊕_zero = R.⊕_zero;
  ⊕_neg = R.⊕_neg;
}

pub negative_zero : (G : Group) → G.⊖◌ G.𝟘 ≡ G.𝟘
negative_zero G = sym (G.⊕_zero (G.⊖◌ G.𝟘)) ∙ G.⊕_comm (G.⊖◌ G.𝟘) G.𝟘 ∙ G.⊕_neg G.𝟘

module _ (R : CRing) where
  open R use {Car, 𝟘, 𝟙, ◌⊕◌, ◌⊗◌, ⊖◌, ⊕_assoc, ⊕_comm, ⊕_zero, ⊕_neg, ⊗_assoc, ⊗_comm, ⊗_one, ⊗_dist}

  infixl 65 ◌⊕◌
  infixl 70 ◌⊗◌
  infix 75 ⊖◌
  pub zero-⊕ : (a : Car) → 𝟘 ⊕ a ≡ a
  zero-⊕ a = ⊕_comm 𝟘 a ∙ ⊕_zero a

  pub neg-⊕ : (a : Car) → (⊖ a) ⊕ a ≡ 𝟘
  neg-⊕ a = ⊕_comm (⊖ a) a ∙ ⊕_neg a

  pub one-⊗ : (a : Car) → 𝟙 ⊗ a ≡ a
  one-⊗ a = ⊗_comm 𝟙 a ∙ ⊗_one a

  pub ⊗_dist_r : (a b c : Car) → (a ⊕ b) ⊗ c ≡ a ⊗ c ⊕ b ⊗ c
  ⊗_dist_r a b c = ⊗_comm (a ⊕ b) c ∙ ⊗_dist c a b ∙ ap₂ ◌⊕◌ (⊗_comm c a) (⊗_comm c b)

  pub ⊕-left : (a b c : Car) → a ⊕ (b ⊕ c) ≡ b ⊕ (a ⊕ c)
  ⊕-left a b c = rw (← (⊕_assoc a b c), ⊕_comm a b, ⊕_assoc b a c)

  pub ⊗-left : (a b c : Car) → a ⊗ (b ⊗ c) ≡ b ⊗ (a ⊗ c)
  ⊗-left a b c = rw (← (⊗_assoc a b c), ⊗_comm a b, ⊗_assoc b a c)

  -- a ⊕ (⊖ a ⊕ b) ≡ b, both ways round
  pub ⊕_cancel_neg : (a b : Car) → a ⊕ ((⊖ a) ⊕ b) ≡ b
  ⊕_cancel_neg a b = rw (← (⊕_assoc a (⊖ a) b), ⊕_neg, zero-⊕)

  pub neg_cancel_⊕ : (a b : Car) → (⊖ a) ⊕ (a ⊕ b) ≡ b
  neg_cancel_⊕ a b = rw (← (⊕_assoc (⊖ a) a b), neg-⊕, zero-⊕)

  -- what adds to zero is the negative
  pub neg_unique : (a b : Car) → a ⊕ b ≡ 𝟘 → b ≡ ⊖ a
  neg_unique a b h = sym (neg_cancel_⊕ a b) ∙ ap (λ x. (⊖ a) ⊕ x) h ∙ ⊕_zero (⊖ a)

  pub ⊕_cancel : (a b c : Car) → a ⊕ b ≡ a ⊕ c → b ≡ c
  ⊕_cancel a b c h = sym (neg_cancel_⊕ a b) ∙ ap (λ x. (⊖ a) ⊕ x) h ∙ neg_cancel_⊕ a c

  pub ⊗-zero : (a : Car) → a ⊗ 𝟘 ≡ 𝟘
  ⊗-zero a = ⊕_cancel (a ⊗ 𝟘) (a ⊗ 𝟘) 𝟘 (sym (⊗_dist a 𝟘 𝟘) ∙ ap (λ x. a ⊗ x) (⊕_zero 𝟘) ∙ sym (⊕_zero (a ⊗ 𝟘)))

  pub zero-⊗ : (a : Car) → 𝟘 ⊗ a ≡ 𝟘
  zero-⊗ a = ⊗_comm 𝟘 a ∙ ⊗-zero a

  pub neg-zero : ⊖ 𝟘 ≡ 𝟘
  neg-zero = negative_zero (group_of R)

  pub neg-neg : (a : Car) → ⊖ (⊖ a) ≡ a
  neg-neg a = sym (neg_unique (⊖ a) a (neg-⊕ a))

  pub neg_sum : (a b : Car) → ⊖ (a ⊕ b) ≡ (⊖ a) ⊕ (⊖ b)
  neg_sum a b = sym (neg_unique (a ⊕ b) ((⊖ a) ⊕ (⊖ b)) (rw (⊕_assoc a b ((⊖ a) ⊕ (⊖ b)), ⊕-left b (⊖ a) (⊖ b), ⊕_neg b, ⊕_zero, ⊕_neg)))

  pub neg-⊗ : (a b : Car) → (⊖ a) ⊗ b ≡ ⊖ (a ⊗ b)
  neg-⊗ a b = neg_unique (a ⊗ b) ((⊖ a) ⊗ b) (sym (⊗_dist_r a (⊖ a) b) ∙ ap (λ x. x ⊗ b) (⊕_neg a) ∙ zero-⊗ b)

  pub ⊗-neg : (a b : Car) → a ⊗ (⊖ b) ≡ ⊖ (a ⊗ b)
  ⊗-neg a b = ⊗_comm a (⊖ b) ∙ neg-⊗ b a ∙ ap (λ x. ⊖ x) (⊗_comm b a)

  pub eq_of_sub : (a b : Car) → a ⊕ (⊖ b) ≡ 𝟘 → a ≡ b
  eq_of_sub a b h = sym (⊕_zero a) ∙ ap (λ x. a ⊕ x) (sym (neg-⊕ b)) ∙ sym (⊕_assoc a (⊖ b) b) ∙ ap (λ x. x ⊕ b) h ∙ zero-⊕ b

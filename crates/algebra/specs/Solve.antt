-- A commutative-ring solver by computation: an expression over variables is brought to a sorted list of signed monomials,
-- and two expressions with the same list have the same value in every commutative ring.
--
-- Ex, ◌:+◌, ◌:*◌, :~◌, ◌:-◌, c0, c1, var == expressions;  ◌≐◌ == an equation between two
-- solve₃ R a b c (λ a b c. l ≐ r) refl   == the identity l = r at the values a, b, c; and so for one to five values;  solve == for a list of values
use Rattle.std.specs.Prelude.{◌≡◌, Bool, not, ◌&&◌, ℕ, zero, suc, ◌+◌, ◌^◌, T, leb, ltb, eqb}
use Rattle.std.proofs.Math.Path.{refl, sym}
use Rattle.std.proofs.Common.{ap, ap₂, ◌∙◌, eqb→eq}
use Rattle.std.proofs.Math.Bool.{true, false}
use mathlib.Core.List.{List, [], ◌∷◌}
use Rattle.algebra.specs.Test.{both_l, both_r}
use Rattle.algebra.specs.Ring.{CRing, zero-⊕, one-⊗, ⊗_dist_r, ⊕-left, ⊗-left, ⊕_cancel_neg, neg_cancel_⊕, ⊗-zero, zero-⊗, neg-zero, neg-neg, neg_sum, neg-⊗, ⊗-neg}

infixl 65 ◌:+◌ ◌:-◌
infixl 70 ◌:*◌
infix 75 :~◌
infix 10 ◌≐◌
-- expressions
pub data Ex : Type 0 where
  var : ℕ → Ex
  c0 : Ex
  c1 : Ex
  ◌:+◌ : Ex → Ex → Ex
  ◌:*◌ : Ex → Ex → Ex
  :~◌ : Ex → Ex

abbrev pub ◌:-◌ : Ex → Ex → Ex
a :- b = a :+ (:~ b)

-- an equation between two expressions
pub record Eqn : Type 0 where
  pub lhs : Ex
  pub rhs : Ex

abbrev pub ◌≐◌ : Ex → Ex → Eqn
a ≐ b = record { lhs = a; rhs = b }

-- a monomial: the sorted list of its variables; a term: a sign (true: plus), a number to sort by, and a monomial
abbrev pub Mon : Type 0
Mon = List ℕ

pub data Term : Type 0 where
  term : Bool → ℕ → Mon → Term

abbrev pub pick : {A : Type 0} → Bool → A → A → A
pick true x y = x
pick false x y = y

pick-both : {A : Type 0} (P : A → Type 0) (b : Bool) {x y : A} → (T b → P x) → P y → P (pick b x y)
pick-both P true h k = h tt
pick-both P false h k = k

abbrev pub ins_var : ℕ → Mon → Mon
ins_var i [] = i ∷ []
ins_var i (j ∷ m) = let r : Mon = j ∷ ins_var i m in pick (leb i j) (i ∷ j ∷ m) r

abbrev pub mul_mon : Mon → Mon → Mon
mul_mon [] n = n
mul_mon (i ∷ m) n = ins_var i (mul_mon m n)

abbrev pub eq_mon : Mon → Mon → Bool
eq_mon [] [] = true
eq_mon [] (j ∷ n) = false
eq_mon (i ∷ m) [] = false
eq_mon (i ∷ m) (j ∷ n) = eqb i j && eq_mon m n

abbrev pub opposite : Bool → Bool → Bool
opposite true b = not b
opposite false b = b

abbrev pub cancels : Term → Term → Bool
cancels (term s k m) (term t l n) = let e : Bool = eq_mon m n in let f : Bool = eqb k l && e in opposite s t && f

abbrev pub lt_term : Term → Term → Bool
lt_term (term s k m) (term t l n) = ltb k l

abbrev pub mul_term : Term → Term → Term
mul_term (term s k m) (term t l n) = term (not (opposite s t)) (k + l) (mul_mon m n)

abbrev pub neg_term : Term → Term
neg_term (term s k m) = term (not s) k m

-- the normal form
abbrev pub Nf : Type 0
Nf = List Term

abbrev pub add_term : Term → Nf → Nf
add_term t [] = t ∷ []
add_term t (u ∷ p) =
    let r : Nf = u ∷ add_term t p in
    let s : Nf = pick (cancels t u) p r in
    pick (lt_term t u) (t ∷ u ∷ p) s

abbrev pub add_nf : Nf → Nf → Nf
add_nf [] q = q
add_nf (t ∷ p) q = add_term t (add_nf p q)

abbrev pub scale_nf : Term → Nf → Nf
scale_nf t [] = []
scale_nf t (u ∷ q) = add_term (mul_term t u) (scale_nf t q)

abbrev pub mul_nf : Nf → Nf → Nf
mul_nf [] q = []
mul_nf (t ∷ p) q = add_nf (scale_nf t q) (mul_nf p q)

abbrev pub neg_nf : Nf → Nf
neg_nf [] = []
neg_nf (t ∷ p) = neg_term t ∷ neg_nf p

abbrev pub norm : Ex → Nf
norm (var i) = term true (256 ^ i) (i ∷ []) ∷ []
norm c0 = []
norm c1 = term true 0 [] ∷ []
norm (a :+ b) = add_nf (norm a) (norm b)
norm (a :* b) = mul_nf (norm a) (norm b)
norm (:~ a) = neg_nf (norm a)

abbrev pub Same : Eqn → Type 0
Same q = norm q.lhs ≡ norm q.rhs

-- the tests' meaning
eq_mon_sound : (m n : Mon) → T (eq_mon m n) → m ≡ n
eq_mon_sound [] [] h = refl
eq_mon_sound (i ∷ m) (j ∷ n) h =
    ap₂ ◌∷◌ (eqb→eq i j (both_l (eqb i j) (eq_mon m n) h)) (eq_mon_sound m n (both_r (eqb i j) (eq_mon m n) h))
eq_mon_sound [] (j ∷ n) h = elim h [ ]
eq_mon_sound (i ∷ m) [] h = elim h [ ]

module _ (R : CRing) where
  open R use {Car, 𝟘, 𝟙, ◌⊕◌, ◌⊗◌, ⊖◌, ⊕_assoc, ⊕_comm, ⊕_zero, ⊕_neg, ⊗_assoc, ⊗_comm, ⊗_one, ⊗_dist}

  infixl 65 ◌⊕◌
  infixl 70 ◌⊗◌
  infix 75 ⊖◌
  -- variables' values: a list, and 𝟘 past its end
  abbrev pub value : List Car → ℕ → Car
  value [] i = 𝟘
  value (a ∷ ρ) zero = a
  value (a ∷ ρ) (suc i) = value ρ i

  abbrev pub eval : List Car → Ex → Car
  eval ρ (var i) = value ρ i
  eval ρ c0 = 𝟘
  eval ρ c1 = 𝟙
  eval ρ (a :+ b) = eval ρ a ⊕ eval ρ b
  eval ρ (a :* b) = eval ρ a ⊗ eval ρ b
  eval ρ (:~ a) = ⊖ eval ρ a

  abbrev pub Holds : List Car → Eqn → Type 0
  Holds ρ q = eval ρ q.lhs ≡ eval ρ q.rhs

  module _ (ρ : List Car) where
    ev_m : Mon → Car
    ev_m [] = 𝟙
    ev_m (i ∷ m) = value ρ i ⊗ ev_m m

    ev_t : Term → Car
    ev_t (term true k m) = ev_m m
    ev_t (term false k m) = ⊖ ev_m m

    ev_n : Nf → Car
    ev_n [] = 𝟘
    ev_n (t ∷ p) = ev_t t ⊕ ev_n p

    ins_var_ok : (i : ℕ) (m : Mon) → ev_m (ins_var i m) ≡ value ρ i ⊗ ev_m m
    unfolding ev_m
    ins_var_ok i [] = refl
    ins_var_ok i (j ∷ m) =
        pick-both (λ z. ev_m z ≡ value ρ i ⊗ (value ρ j ⊗ ev_m m)) (leb i j) (λ _. refl) (rw (ins_var_ok i m) (⊗-left R _ _ _))

    mul_mon_ok : (m n : Mon) → ev_m (mul_mon m n) ≡ ev_m m ⊗ ev_m n
    unfolding ev_m
    mul_mon_ok [] n = sym (one-⊗ R _)
    mul_mon_ok (i ∷ m) n = rw (ins_var_ok i (mul_mon m n), mul_mon_ok m n) (sym (⊗_assoc _ _ _))

    cancels_ok : (t u : Term) → T (cancels t u) → (x : Car) → ev_t t ⊕ (ev_t u ⊕ x) ≡ x
    unfolding ev_t
    cancels_ok (term true k m) (term false l n) h x = rw (eq_mon_sound m n (both_r (eqb k l) (eq_mon m n) h)) (⊕_cancel_neg R _ _)
    cancels_ok (term false k m) (term true l n) h x = rw (eq_mon_sound m n (both_r (eqb k l) (eq_mon m n) h)) (neg_cancel_⊕ R _ _)
    cancels_ok (term false k m) (term false l n) h x = elim h [ ]
    cancels_ok (term true k m) (term true l n) h x = elim h [ ]

    mul_term_ok : (t u : Term) → ev_t (mul_term t u) ≡ ev_t t ⊗ ev_t u
    unfolding ev_t
    mul_term_ok (term true k m) (term true l n) = mul_mon_ok m n
    mul_term_ok (term true k m) (term false l n) = rw (mul_mon_ok m n) (sym (⊗-neg R _ _))
    mul_term_ok (term false k m) (term true l n) = rw (mul_mon_ok m n) (sym (neg-⊗ R _ _))
    mul_term_ok (term false k m) (term false l n) = rw (mul_mon_ok m n, neg-⊗ R, ⊗-neg R, neg-neg R)

    neg_term_ok : (t : Term) → ev_t (neg_term t) ≡ ⊖ ev_t t
    unfolding ev_t
    neg_term_ok (term true k m) = refl
    neg_term_ok (term false k m) = sym (neg-neg R _)

    add_term_ok : (t : Term) (p : Nf) → ev_n (add_term t p) ≡ ev_t t ⊕ ev_n p
    unfolding ev_n
    add_term_ok t [] = refl
    add_term_ok t (u ∷ p) =
        pick-both (λ z. ev_n z ≡ ev_t t ⊕ (ev_t u ⊕ ev_n p)) (lt_term t u) (λ _. refl)
        (pick-both (λ z. ev_n z ≡ ev_t t ⊕ (ev_t u ⊕ ev_n p)) (cancels t u) (λ h. sym (cancels_ok t u h _)) (rw (add_term_ok t p) (⊕-left R _ _ _)))

    add_nf_ok : (p q : Nf) → ev_n (add_nf p q) ≡ ev_n p ⊕ ev_n q
    unfolding ev_n
    add_nf_ok [] q = sym (zero-⊕ R _)
    add_nf_ok (t ∷ p) q = rw (add_term_ok t (add_nf p q), add_nf_ok p q) (sym (⊕_assoc _ _ _))

    scale_nf_ok : (t : Term) (q : Nf) → ev_n (scale_nf t q) ≡ ev_t t ⊗ ev_n q
    unfolding ev_n
    scale_nf_ok t [] = sym (⊗-zero R _)
    scale_nf_ok t (u ∷ q) = rw (add_term_ok (mul_term t u) (scale_nf t q), mul_term_ok t u, scale_nf_ok t q) (sym (⊗_dist _ _ _))

    mul_nf_ok : (p q : Nf) → ev_n (mul_nf p q) ≡ ev_n p ⊗ ev_n q
    unfolding ev_n
    mul_nf_ok [] q = sym (zero-⊗ R _)
    mul_nf_ok (t ∷ p) q = rw (add_nf_ok (scale_nf t q) (mul_nf p q), scale_nf_ok t q, mul_nf_ok p q) (sym (⊗_dist_r R _ _ _))

    neg_nf_ok : (p : Nf) → ev_n (neg_nf p) ≡ ⊖ ev_n p
    unfolding ev_n
    neg_nf_ok [] = sym (neg-zero R)
    neg_nf_ok (t ∷ p) = rw (neg_term_ok t, neg_nf_ok p) (sym (neg_sum R _ _))

    norm_ok : (e : Ex) → ev_n (norm e) ≡ eval ρ e
    unfolding ev_n ev_t ev_m
    norm_ok (var i) = ⊕_zero _ ∙ ⊗_one _
    norm_ok c0 = refl
    norm_ok c1 = ⊕_zero _
    norm_ok (a :+ b) = rw (add_nf_ok (norm a) (norm b), norm_ok a, norm_ok b)
    norm_ok (a :* b) = rw (mul_nf_ok (norm a) (norm b), norm_ok a, norm_ok b)
    norm_ok (:~ a) = rw (neg_nf_ok (norm a), norm_ok a)

    pub solve : (q : Eqn) → Same q → Holds ρ q
    solve q h = sym (norm_ok q.lhs) ∙ ap ev_n h ∙ norm_ok q.rhs

  -- The same with named variables: an equation between expressions is a function of its variables, and is used at values.
  -- `solve₃ R a b c (λ a b c. a :* (b :+ c) ≐ a :* b :+ a :* c) refl : a ⊗ (b ⊕ c) ≡ a ⊗ b ⊕ a ⊗ c`
  pub solve₁ : (a : Car) (f : Ex → Eqn) → Same (f (var 0)) → Holds (a ∷ []) (f (var 0))
  solve₁ a f h = solve (a ∷ []) (f (var 0)) h

  pub solve₂ : (a b : Car) (f : Ex → Ex → Eqn) → Same (f (var 0) (var 1)) → Holds (a ∷ b ∷ []) (f (var 0) (var 1))
  solve₂ a b f h = solve (a ∷ b ∷ []) (f (var 0) (var 1)) h

  pub solve₃ : (a b c : Car) (f : Ex → Ex → Ex → Eqn) → Same (f (var 0) (var 1) (var 2)) → Holds (a ∷ b ∷ c ∷ []) (f (var 0) (var 1) (var 2))
  solve₃ a b c f h = solve (a ∷ b ∷ c ∷ []) (f (var 0) (var 1) (var 2)) h

  pub solve₄ : (a b c d : Car) (f : Ex → Ex → Ex → Ex → Eqn) → Same (f (var 0) (var 1) (var 2) (var 3))
      → Holds (a ∷ b ∷ c ∷ d ∷ []) (f (var 0) (var 1) (var 2) (var 3))
  solve₄ a b c d f h = solve (a ∷ b ∷ c ∷ d ∷ []) (f (var 0) (var 1) (var 2) (var 3)) h

  pub solve₅ : (a b c d e : Car) (f : Ex → Ex → Ex → Ex → Ex → Eqn) → Same (f (var 0) (var 1) (var 2) (var 3) (var 4))
      → Holds (a ∷ b ∷ c ∷ d ∷ e ∷ []) (f (var 0) (var 1) (var 2) (var 3) (var 4))
  solve₅ a b c d e f h = solve (a ∷ b ∷ c ∷ d ∷ e ∷ []) (f (var 0) (var 1) (var 2) (var 3) (var 4)) h

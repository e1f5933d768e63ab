-- Finite sums in a commutative ring, and a product's coefficients as sums over windows of places.
--
-- first n k, span m n k  == the k-th coefficient of a product of factors with m and n coefficients pairs `span m n k` coefficients: those of the first
--                           from `first n k` on upwards with those of the second down to `first m k`
-- sum R n h          == h 0 + .. + h (n - 1);  sum_split, sum-⊕, sum-neg, sum_swap == of two stretches, of sums, of negatives, in two orders
-- window R m n f g k == that sum of products;  product_at == it is the product's k-th coefficient, for every k
-- window-neg         == of a second factor's negative
use Rattle.std.specs.Prelude.{◌≡◌}
use Rattle.std.proofs.Math.Path.{refl, ap, ap₂, sym}
use Rattle.std.proofs.Common.{◌∙◌, arith, add-zero, add-suc}
use Prim.Native.Nat.{ℕ, zero, suc, ◌+◌, ◌-◌, ◌≤◌, ◌<◌}
use Rattle.algebra.specs.Ring.{CRing, zero-⊕, ⊗-zero, zero-⊗, neg-zero, neg_sum, ⊗-neg}
use Rattle.algebra.specs.Solve.{◌:+◌, ◌≐◌, solve₄}
use Rattle.algebra.specs.Vec.{Below}
use Rattle.algebra.specs.Series.{Series, tail, ◌*ˢ◌, *ˢ-zero, *ˢ_suc'}

-- the first place of the one factor whose partner lies among the n coefficients of the other
abbrev pub first : ℕ → ℕ → ℕ
first n k = k + 1 - n

-- how many places count
abbrev pub span : ℕ → ℕ → ℕ → ℕ
span m n k = k + 1 - first n k - first m k

-- where the one factor's place is a + u, the other's place is counted from the top
partner : (a b k u : ℕ) → u < k + 1 - a - b → k - (a + u) ≡ b + (k + 1 - a - b - 1 - u)
partner a b k u l = omega arith

-- the pairs lie within both factors
pub span_left : (m n k : ℕ) → k + 1 ≤ m + n → first n k + span m n k ≤ m
span_left m n k h = omega arith

pub span_right : (m n k : ℕ) → k + 1 ≤ m + n → first m k + span m n k ≤ n
span_right m n k h = omega arith

module _ (R : CRing) where
  open R use {Car, 𝟘, ◌⊕◌, ◌⊗◌, ⊖◌, ⊕_assoc, ⊕_zero}

  infixl 65 ◌⊕◌
  infixl 70 ◌⊗◌
  infix 75 ⊖◌
  -- h 0 + .. + h (n - 1)
  unfoldable pub sum : ℕ → (ℕ → Car) → Car
  sum zero h = 𝟘
  sum (suc n) h = sum n h ⊕ h n

  -- its two laws
  pub sum-zero : (h : ℕ → Car) → sum zero h ≡ 𝟘
  unfolding sum
  sum-zero h = refl

  pub sum_suc : (n : ℕ) (h : ℕ → Car) → sum (suc n) h ≡ sum n h ⊕ h n
  unfolding sum
  sum_suc n h = refl

  -- equal terms
  pub sum_cong : (n : ℕ) (h k : ℕ → Car) → ((u : ℕ) → u < n → h u ≡ k u) → sum n h ≡ sum n k
  unfolding sum
  sum_cong zero h k e = refl
  sum_cong (suc n) h k e = ap₂ ◌⊕◌ (sum_cong n h k (λ u l. e u (omega arith))) (e n (omega arith))

  -- terms that are zero
  pub sum-none : (n : ℕ) (h : ℕ → Car) → ((u : ℕ) → u < n → h u ≡ 𝟘) → sum n h ≡ 𝟘
  unfolding sum
  sum-none zero h e = refl
  sum-none (suc n) h e = ap₂ ◌⊕◌ (sum-none n h (λ u l. e u (omega arith))) (e n (omega arith)) ∙ ⊕_zero 𝟘

  -- a first and a second stretch
  pub sum_split : (a b : ℕ) (h : ℕ → Car) → sum (a + b) h ≡ sum a h ⊕ sum b (λ u. h (a + u))
  unfolding sum
  sum_split a zero h = ap (λ n. sum n h) (add-zero a) ∙ sym (⊕_zero _)
  sum_split a (suc b) h = ap (λ n. sum n h) (add-suc a b) ∙ ap (λ x. x ⊕ h (a + b)) (sum_split a b h) ∙ ⊕_assoc _ _ _

  -- of sums, and of negatives
  pub sum-⊕ : (n : ℕ) (h k : ℕ → Car) → sum n (λ u. h u ⊕ k u) ≡ sum n h ⊕ sum n k
  unfolding sum
  sum-⊕ zero h k = sym (⊕_zero 𝟘)
  sum-⊕ (suc n) h k = ap (λ x. x ⊕ (h n ⊕ k n)) (sum-⊕ n h k) ∙ solve₄ R _ _ _ _ (λ a b x y. (a :+ b) :+ (x :+ y) ≐ (a :+ x) :+ (b :+ y)) refl

  pub sum-neg : (n : ℕ) (h : ℕ → Car) → sum n (λ u. ⊖ h u) ≡ ⊖ sum n h
  unfolding sum
  sum-neg zero h = sym (neg-zero R)
  sum-neg (suc n) h = ap (λ x. x ⊕ (⊖ h n)) (sum-neg n h) ∙ sym (neg_sum R _ _)

  -- by rows and by columns
  pub sum_swap : (m n : ℕ) (h : ℕ → ℕ → Car) → sum m (λ a. sum n (λ b. h a b)) ≡ sum n (λ b. sum m (λ a. h a b))
  unfolding sum
  sum_swap zero n h = sym (sum-none n (λ b. 𝟘) (λ u l. refl))
  sum_swap (suc m) n h = ap (λ x. x ⊕ sum n (λ b. h m b)) (sum_swap m n h) ∙ sym (sum-⊕ n (λ b. sum m (λ a. h a b)) (λ b. h m b))

  -- only the n terms from a on count
  sum_middle : (m a n : ℕ) (h : ℕ → Car) → a + n ≤ m → ((u : ℕ) → u < a → h u ≡ 𝟘) → ((u : ℕ) → a + n ≤ u → u < m → h u ≡ 𝟘)
      → sum m h ≡ sum n (λ u. h (a + u))
  sum_middle m a n h l low high =
      let e : m ≡ a + (n + (m - (a + n))) = omega arith in
      ap (λ k. sum k h) e
      ∙ sum_split a (n + (m - (a + n))) h
      ∙ ap₂ ◌⊕◌ (sum-none a h low) (sum_split n (m - (a + n)) (λ u. h (a + u)))
      ∙ zero-⊕ R _
      ∙ ap (λ x. sum n (λ u. h (a + u)) ⊕ x) (sum-none (m - (a + n)) _ (λ u k. high (a + (n + u)) (omega arith) (omega arith)))
      ∙ ⊕_zero _

  -- the k-th coefficient of a product, over all places up to k
  product-sum : (f g : Series R) (k : ℕ) → ◌*ˢ◌ R f g k ≡ sum (suc k) (λ u. f u ⊗ g (k - u))
  unfolding sum
  product-sum f g zero = *ˢ-zero R f g ∙ sym (zero-⊕ R _)
  product-sum f g (suc k) =
      *ˢ_suc' R f g k
      ∙ ap₂ ◌⊕◌ (product-sum f (tail R g) k ∙ sum_cong (suc k) _ _ (λ u l. ap (λ i. f u ⊗ g i) (omega arith))) (ap (λ i. f (suc k) ⊗ g i) (omega arith))

  -- and over those that count where f has m coefficients and g has n
  abbrev pub window : (m n : ℕ) (f g : ℕ → Car) → ℕ → Car
  window m n f g k = sum (span m n k) (λ u. f (first n k + u) ⊗ g (first m k + (span m n k - 1 - u)))

  -- what f and g hold from m and n on is not looked at: it is the product's coefficient where they are zero there
  pub product_at : (m n : ℕ) (f g : Series R) → Below 𝟘 m f → Below 𝟘 n g → (k : ℕ) → ◌*ˢ◌ R f g k ≡ window m n f g k
  product_at m n f g p q k =
      product-sum f g k
      ∙ sum_middle (suc k) (first n k) (span m n k) (λ u. f u ⊗ g (k - u)) (omega arith)
      (λ u l. ap (λ x. f u ⊗ x) (q (k - u) (omega arith)) ∙ ⊗-zero R _)
      (λ u l s. ap (λ x. x ⊗ g (k - u)) (p u (omega arith)) ∙ zero-⊗ R _)
      ∙ sum_cong (span m n k) _ _ (λ u l. ap (λ i. f (first n k + u) ⊗ g i) (partner (first n k) (first m k) k u l))

  -- of a negative
  pub window-neg : (m n : ℕ) (f g : ℕ → Car) (k : ℕ) → window m n f (λ j. ⊖ g j) k ≡ ⊖ window m n f g k
  window-neg m n f g k = sum_cong (span m n k) _ _ (λ u l. ⊗-neg R _ _) ∙ sum-neg (span m n k) _

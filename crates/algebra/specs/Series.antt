-- Coefficient functions over a commutative ring: R[[z]], again a commutative ring.
--
-- Series R, SeriesRing R  == the functions, and their ring;  ◌*ˢ◌ == the product, by its first factor's lowest coefficient
-- tail, cons, const, scale == without the lowest coefficient; with one more; a constant; a constant times f
-- const-*, const-inverse  == a constant times f; two constants whose product is 1
use Rattle.std.specs.Prelude.{◌≡◌, ℕ, zero, suc}
use Rattle.std.proofs.Math.Path.{refl, fun_ext}
use Rattle.std.proofs.Common.{sym, ◌∙◌}
use mathlib.Core.HLevel.{Π_set}
use Rattle.algebra.specs.Ring.{CRing, one-⊗, ⊗_dist_r, ⊗-zero, zero-⊗}
use Rattle.algebra.specs.Solve.{◌:+◌, ◌:*◌, ◌≐◌, solve₃, solve₄, solve₅}

module _ (R : CRing) where
  open R use {Car, 𝟘, 𝟙, ◌⊕◌, ◌⊗◌, ⊖◌, ⊕_assoc, ⊕_comm, ⊕_zero, ⊕_neg, ⊗_assoc, ⊗_comm, ⊗_one, ⊗_dist}

  infixl 65 ◌⊕◌ ◌+ˢ◌
  infixl 70 ◌⊗◌ ◌*ˢ◌
  infix 75 ⊖◌ -ˢ◌
  abbrev pub Series : Type 0
  Series = ℕ → Car

  abbrev pub tail : Series → Series
  tail f n = f (suc n)

  -- a + z f
  abbrev pub cons : Car → Series → Series
  cons a f zero = a
  cons a f (suc n) = f n

  abbrev pub 0ˢ : Series
  0ˢ n = 𝟘

  abbrev pub const : Car → Series
  const a = cons a 0ˢ

  abbrev pub 1ˢ : Series
  1ˢ = const 𝟙

  abbrev pub ◌+ˢ◌ : Series → Series → Series
  (f +ˢ g) n = f n ⊕ g n

  abbrev pub -ˢ◌ : Series → Series
  (-ˢ f) n = ⊖ f n

  abbrev pub scale : Car → Series → Series
  scale a f n = a ⊗ f n

  unfoldable pub ◌*ˢ◌ : Series → Series → Series
  (f *ˢ g) zero = f zero ⊗ g zero
  (f *ˢ g) (suc n) = f zero ⊗ g (suc n) ⊕ (tail f *ˢ g) n

  pub *ˢ-zero : (f g : Series) → (f *ˢ g) zero ≡ f zero ⊗ g zero
  unfolding ◌*ˢ◌
  *ˢ-zero f g = refl

  pub *ˢ_suc : (f g : Series) (n : ℕ) → (f *ˢ g) (suc n) ≡ f zero ⊗ g (suc n) ⊕ (tail f *ˢ g) n
  unfolding ◌*ˢ◌
  *ˢ_suc f g n = refl

  pub *ˢ_dist : (f g h : Series) (n : ℕ) → (f *ˢ (g +ˢ h)) n ≡ (f *ˢ g) n ⊕ (f *ˢ h) n
  *ˢ_dist f g h zero = simp *ˢ-zero (⊗_dist _ _ _)
  *ˢ_dist f g h (suc n) =
      simp (*ˢ_suc, *ˢ_dist (tail f) g h n) (solve₅ R _ _ _ _ _ (λ a b c x y. a :* (b :+ c) :+ (x :+ y) ≐ (a :* b :+ x) :+ (a :* c :+ y)) refl)

  pub *ˢ_dist_r : (f g h : Series) (n : ℕ) → ((f +ˢ g) *ˢ h) n ≡ (f *ˢ h) n ⊕ (g *ˢ h) n
  *ˢ_dist_r f g h zero = simp *ˢ-zero (⊗_dist_r R _ _ _)
  *ˢ_dist_r f g h (suc n) =
      simp (*ˢ_suc, *ˢ_dist_r (tail f) (tail g) h n) (solve₅ R _ _ _ _ _ (λ a b c x y. (a :+ b) :* c :+ (x :+ y) ≐ (a :* c :+ x) :+ (b :* c :+ y)) refl)

  pub *ˢ-scale : (a : Car) (f g : Series) (n : ℕ) → (scale a f *ˢ g) n ≡ a ⊗ (f *ˢ g) n
  *ˢ-scale a f g zero = simp *ˢ-zero (⊗_assoc _ _ _)
  *ˢ-scale a f g (suc n) =
      simp (*ˢ_suc, *ˢ-scale a (tail f) g n) (solve₄ R _ _ _ _ (λ a b c x. (a :* b) :* c :+ a :* x ≐ a :* (b :* c :+ x)) refl)

  pub 0ˢ-* : (g : Series) (n : ℕ) → (0ˢ *ˢ g) n ≡ 𝟘
  0ˢ-* g zero = simp (*ˢ-zero, zero-⊗ R)
  0ˢ-* g (suc n) = simp (*ˢ_suc, 0ˢ-* g n, zero-⊗ R, ⊕_zero)

  pub const-* : (a : Car) (g : Series) (n : ℕ) → (const a *ˢ g) n ≡ a ⊗ g n
  const-* a g zero = *ˢ-zero _ _
  const-* a g (suc n) = simp (*ˢ_suc, 0ˢ-* g n, ⊕_zero)

  pub const-inverse : (i c : Car) → i ⊗ c ≡ 𝟙 → (n : ℕ) → (const i *ˢ const c) n ≡ 1ˢ n
  const-inverse i c h zero = const-* i (const c) zero ∙ h
  const-inverse i c h (suc n) = const-* i (const c) (suc n) ∙ ⊗-zero R i

  -- tail (f g) = f₀ tail g + tail f g
  pub tail-* : (f g : Series) → tail (f *ˢ g) ≡ scale (f zero) (tail g) +ˢ (tail f *ˢ g)
  tail-* f g = fun_ext (*ˢ_suc f g)

  pub *ˢ_assoc : (f g h : Series) (n : ℕ) → ((f *ˢ g) *ˢ h) n ≡ (f *ˢ (g *ˢ h)) n
  *ˢ_assoc f g h zero = simp *ˢ-zero (⊗_assoc _ _ _)
  *ˢ_assoc f g h (suc n) =
      simp (*ˢ_suc, *ˢ-zero, tail-* f g, *ˢ_dist_r (scale (f zero) (tail g)) (tail f *ˢ g) h n, *ˢ-scale (f zero) (tail g) h n, *ˢ_assoc (tail f) g h n)
      (solve₅ R _ _ _ _ _ (λ a b c x y. a :* b :* c :+ (a :* x :+ y) ≐ a :* (b :* c :+ x) :+ y) refl)

  -- the last product first: the recursion from the other side
  pub *ˢ_suc' : (f g : Series) (n : ℕ) → (f *ˢ g) (suc n) ≡ (f *ˢ tail g) n ⊕ f (suc n) ⊗ g zero
  *ˢ_suc' f g zero = rw (*ˢ_suc f g zero, *ˢ-zero (tail f) g, *ˢ-zero f (tail g))
  *ˢ_suc' f g (suc n) = rw (*ˢ_suc f g (suc n), *ˢ_suc f (tail g) n, *ˢ_suc' (tail f) g n) (sym (⊕_assoc _ _ _))

  pub *ˢ_comm : (f g : Series) (n : ℕ) → (f *ˢ g) n ≡ (g *ˢ f) n
  *ˢ_comm f g zero = simp *ˢ-zero (⊗_comm _ _)
  *ˢ_comm f g (suc n) =
      rw (*ˢ_suc f g n, *ˢ_suc' g f n, *ˢ_comm (tail f) g n) (solve₃ R _ _ _ (λ a b x. a :* b :+ x ≐ x :+ b :* a) refl)

  abbrev pub SeriesRing : CRing
  SeriesRing = record {
    Car = Series;
    is_set = Π_set (λ _. R.is_set);
    𝟘 = 0ˢ;
    𝟙 = 1ˢ;
    ◌⊕◌ = ◌+ˢ◌;
    ◌⊗◌ = ◌*ˢ◌;
    ⊖◌ = -ˢ◌;
    ⊕_assoc = λ f g h. fun_ext (λ n. ⊕_assoc (f n) (g n) (h n));
    ⊕_comm = λ f g. fun_ext (λ n. ⊕_comm (f n) (g n));
    ⊕_zero = λ f. fun_ext (λ n. ⊕_zero (f n));
    ⊕_neg = λ f. fun_ext (λ n. ⊕_neg (f n));
    ⊗_assoc = λ f g h. fun_ext (*ˢ_assoc f g h);
    ⊗_comm = λ f g. fun_ext (*ˢ_comm f g);
    ⊗_one = λ f. fun_ext (λ n. *ˢ_comm f 1ˢ n ∙ const-* 𝟙 f n ∙ one-⊗ R (f n));
    ⊗_dist = λ f g h. fun_ext (*ˢ_dist f g h);
  }

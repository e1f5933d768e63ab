-- Document 01's limits, as tests on numbers that nobody has looked at. No theorem about levels, words or sums asks for one of them; the sizes' arithmetic
-- asks for degrees of at most 64 and at most 256 coefficients, so that nothing overflows.
--
-- p_ok                       == number 1;  p_two, p_positive, p_narrow == what it says of p
-- levels_ok, degrees_ok, size_ok == number 2;  size_few, few_size == what size_ok says;  degrees_of == the four degrees as numbers
-- slot_length, slot_count == number 4 for a slot, and its coefficients
-- work_degree             == number 5 for the work sizes
-- Between l m w           == the word w is a number from l to m;  DegreeIn n k g == the degree of level k + 1 of n levels is in range
-- modulus_range, levels_range, degrees_range, work-degree_range == what the tests say
use Rattle.std.specs.Prelude.{ℕ, ◌-◌, ◌/◌, ◌%◌, ◌^◌, ◌<◌, ◌≤◌, ◌≡◌, refl, Bool, true, false, not, ◌&&◌, List, [], ◌∷◌, ◌⊎◌, ◌↔◌, ℤ, pos, negsuc, T, ltb, leb, eqb, get_or}
use Rattle.std.proofs.Common.{lt_irrefl, arith, sym, ap, subst, inl, inr, leb→le, le→leb, ltb→lt, nltb→le}
use Rattle.std.specs.Int.Signed.{le_z}
use Rattle.algebra.specs.Test.{all_to, all_to_use, all_to-make, both, both_l, both_r}
use Rattle.tower.specs.Writing.{size}
use Rattle.residue.specs.Word.{num}
use Rattle.tower.specs.Form.{eq_z}
use Rattle.tower.specs.Lists.{eq_z_sound}

-- "The modulus p is a number from 2 to 2,147,483,647."
abbrev pub p_ok : ℤ → Bool
p_ok p = le_z (pos 2) p && le_z p (pos 2147483647)

pub p_two : (p : ℤ) → T (p_ok p) → 2 ≤ num p
p_two (pos m) h = leb→le 2 m (both_l (leb 2 m) _ h)
p_two (negsuc _) h = elim h [ ]

pub p_positive : (p : ℤ) → T (p_ok p) → 0 < num p
p_positive p h = omega (arith, p_two p h)

pub p_narrow : (p : ℤ) → T (p_ok p) → num p < 2 ^ 31
p_narrow (pos m) h = omega (arith, leb→le m 2147483647 (both_r (leb 2 m) _ h))
p_narrow (negsuc _) h = elim h [ ]

-- "A tower has N levels, 0 to 4."
abbrev pub levels_ok : ℤ → Bool
levels_ok n = le_z (pos 0) n && le_z n (pos 4)

-- "d_1 to d_N are each 2 to 64, the others are 0"
abbrev pub degree_in : Bool → ℤ → Bool
degree_in true g = le_z (pos 2) g && le_z g (pos 64)
degree_in false g = eq_z g (pos 0)

abbrev pub degrees_ok : ℕ → List ℤ → Bool
degrees_ok n e = all_to 4 (λ k. degree_in (ltb k n) (get_or e k (pos 0)))

-- d_1 to d_4 as numbers
abbrev pub degrees_of : List ℤ → List ℕ
degrees_of e = num (get_or e 0 (pos 0)) ∷ num (get_or e 1 (pos 0)) ∷ num (get_or e 2 (pos 0)) ∷ num (get_or e 3 (pos 0)) ∷ []

-- "S_N is at most 2,048"
abbrev pub size_ok : List ℕ → ℕ → Bool
size_ok d n = leb (size d n) 2048

pub size_few : (d : List ℕ) (n : ℕ) → T (size_ok d n) → size d n ≤ 2048
size_few d n h = leb→le (size d n) 2048 h

pub few_size : (d : List ℕ) (n : ℕ) → size d n ≤ 2048 → T (size_ok d n)
few_size d n h = le→leb (size d n) 2048 h

-- "A polynomial slot of k coefficients has 1 + k·S_N words, k from 1 to 256, at most 65,536 words": the k of l words, s words a coefficient
abbrev pub slot_count : ℕ → ℕ → ℕ
slot_count s l = (l - 1) / s

unfoldable pub slot_length : ℕ → ℕ → Bool
slot_length s l = leb 1 l && (eqb ((l - 1) % s) 0 && (leb 1 (slot_count s l) && (leb (slot_count s l) 256 && leb l 65536)))

-- "for work sizes, a degree outside -1 to 255"
abbrev pub work_degree : ℤ → Bool
work_degree g = le_z (negsuc 0) g && le_z g (pos 255)

-- ---- what the tests say, in the order of numbers
-- the word w is a number from l to m
abbrev pub Between : ℕ → ℕ → ℤ → Type 0
Between l m w = (w ≡ pos (num w)) × (l ≤ num w) × (num w ≤ m)

-- a negative word is no number
negative : (k : ℕ) → ¬ (negsuc k ≡ pos 0)
negative k q = subst (λ w. T (le_z (pos 0) w)) (sym q) tt

between_iff : (l m : ℕ) (w : ℤ) → T (le_z (pos l) w && le_z w (pos m)) ↔ Between l m w
between_iff l m (pos k) = (
  λ t. (refl, leb→le l k (both_l (leb l k) _ t), leb→le k m (both_r (leb l k) _ t)),
  λ b. both (leb l k) _ (le→leb l k b.1) (le→leb k m b.2),
)
between_iff l m (negsuc k) = (λ t. absurd t, λ b. absurd (negative k b.0))

pub modulus_range : (p : ℤ) → T (p_ok p) ↔ Between 2 2147483647 p
modulus_range = between_iff 2 2147483647

pub levels_range : (n : ℤ) → T (levels_ok n) ↔ Between 0 4 n
levels_range = between_iff 0 4

-- the degree g of level k + 1, of n levels
abbrev pub DegreeIn : ℕ → ℕ → ℤ → Type 0
DegreeIn n k g = (k < n → Between 2 64 g) × (n ≤ k → g ≡ pos 0)

degree_range : (n k : ℕ) (g : ℤ) → T (degree_in (ltb k n) g) ↔ DegreeIn n k g
degree_range n k g = by (ltb k n) (ltb→lt k n) (nltb→le k n)
  where
    by : (b : Bool) → (T b → k < n) → (T (not b) → n ≤ k) → T (degree_in b g) ↔ DegreeIn n k g
    by true used unused = (
      λ t. (λ l. (between_iff 2 64 g).0 t, λ l. absurd (lt_irrefl 0 (omega (arith, used tt)))),
      λ d. (between_iff 2 64 g).1 (d.0 (used tt)),
    )
    by false used unused = (
      λ t. (λ l. absurd (lt_irrefl 0 (omega (arith, unused tt))), λ l. eq_z_sound g (pos 0) t),
      λ d. subst (λ w. T (eq_z w (pos 0))) (sym (d.1 (unused tt))) tt,
    )

pub degrees_range : (n : ℕ) (e : List ℤ) → T (degrees_ok n e) ↔ ((k : ℕ) → k < 4 → DegreeIn n k (get_or e k (pos 0)))
degrees_range n e = (
  λ t k l. (degree_range n k (get_or e k (pos 0))).0 (all_to_use 4 (λ j. degree_in (ltb j n) (get_or e j (pos 0))) t k l),
  λ h. all_to-make 4 (λ j. degree_in (ltb j n) (get_or e j (pos 0))) (λ k l. (degree_range n k (get_or e k (pos 0))).1 (h k l)),
)

pub work-degree_range : (g : ℤ) → T (work_degree g) ↔ ((g ≡ negsuc 0) ⊎ Between 0 255 g)
work-degree_range (pos k) = (λ t. inr (refl, omega arith, leb→le k 255 t), back)
  where
    back : (pos k ≡ negsuc 0) ⊎ Between 0 255 (pos k) → T (work_degree (pos k))
    back (inl q) = subst (λ w. T (work_degree w)) (sym q) tt
    back (inr b) = le→leb k 255 b.2
work-degree_range (negsuc k) = (λ t. (let z : k ≡ 0 = omega (arith, leb→le k 0 (both_l (leb k 0) _ t)) in inl (ap negsuc z)), back)
  where
    back : (negsuc k ≡ negsuc 0) ⊎ Between 0 255 (negsuc k) → T (work_degree (negsuc k))
    back (inl q) = subst (λ w. T (work_degree w)) (sym q) tt
    back (inr b) = absurd (negative k b.0)

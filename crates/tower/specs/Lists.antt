-- Laws of the tests on words, of degree words and of parts of lists.
use Rattle.std.specs.Prelude.{ℕ, zero, suc, ◌+◌, ◌*◌, ◌<◌, ◌≤◌, ◌≡◌, refl, Bool, true, false, List, [], ◌∷◌, ◌++◌, ℤ, pos, negsuc, T, eqb, leb, length, get_or, take, drop}
use Rattle.std.proofs.Common.{sym, ap, ◌∙◌, subst, suc-mul, zero-mul, lt_irrefl, not-suc-le-zero, arith, eqb→eq, ltb→lt, lt→ltb, leb→le, length-append, length-take, length-drop, drop-drop, take-take, get_or-take, get_or-drop}
use Rattle.std.specs.Int.Signed.{lt_z}
use Rattle.std.proofs.Math.Dec.{eqb_refl}
use Rattle.algebra.specs.Test.{both, both_l, both_r}
use Rattle.tower.specs.Writing.{degree_word, count_of}
use Rattle.tower.specs.Form.{eq_z, same, implies, seg, copies, degree_ok}

pub implies_use : (a b : Bool) → T (implies a b) → T a → T b
implies_use true b h k = h
implies_use false b h k = elim k [ ]

pub implies-make : (a b : Bool) → (T a → T b) → T (implies a b)
implies-make true b f = f tt
implies-make false b f = tt

pub to_true : (b : Bool) → T b → b ≡ true
to_true true h = refl
to_true false h = elim h [ ]

pub of_true : (b : Bool) → b ≡ true → T b
of_true true h = tt
of_true false h = let e : ◌≡◌ {A = ℕ} 0 1 = cc in absurd (lt_irrefl 0 (omega arith))

pub eq_z_sound : (a b : ℤ) → T (eq_z a b) → a ≡ b
eq_z_sound (pos m) (pos n) h = ap pos (eqb→eq m n h)
eq_z_sound (negsuc m) (negsuc n) h = ap negsuc (eqb→eq m n h)
eq_z_sound (pos m) (negsuc n) h = elim h [ ]
eq_z_sound (negsuc m) (pos n) h = elim h [ ]

pub eq_z_refl : (a : ℤ) → T (eq_z a a)
eq_z_refl (pos m) = eqb_refl m
eq_z_refl (negsuc m) = eqb_refl m

pub same_sound : (a b : List ℤ) → T (same a b) → a ≡ b
same_sound [] [] h = refl
same_sound (x ∷ a) (y ∷ b) h =
    let u = eq_z_sound x y (both_l (eq_z x y) _ h) in
    let v = same_sound a b (both_r (eq_z x y) _ h) in
    λ i. u i ∷ v i
same_sound [] (y ∷ b) h = elim h [ ]
same_sound (x ∷ a) [] h = elim h [ ]

pub same_refl : (a : List ℤ) → T (same a a)
same_refl [] = tt
same_refl (x ∷ a) = both (eq_z x x) _ (eq_z_refl x) (same_refl a)

pub same_eq : {a b : List ℤ} → a ≡ b → T (same a b)
same_eq {a} {b} e = subst (λ x. T (same a x)) e (same_refl a)

-- ---- degree words
pub degree-is : (n : ℕ) (g : ℤ) → T (degree_ok n g) → degree_word (count_of g) ≡ g
degree-is n (pos m) h = refl
degree-is n (negsuc zero) h = refl
degree-is n (negsuc (suc m)) h = absurd (not-suc-le-zero (leb→le (suc m) 0 (both_l (leb (suc m) 0) _ h)))

pub degree-low : (n : ℕ) (g : ℤ) → T (degree_ok n g) → count_of g ≤ n
degree-low n (pos m) h = ltb→lt m n h
degree-low n (negsuc zero) h = omega arith
degree-low n (negsuc (suc m)) h = absurd (not-suc-le-zero (leb→le (suc m) 0 (both_l (leb (suc m) 0) _ h)))

pub degree-make : (n c : ℕ) → c ≤ n → T (degree_ok n (degree_word c))
degree-make n zero h = tt
degree-make n (suc m) h = lt→ltb m n h

pub at-degree : (k c : ℕ) → T (eq_z (pos k) (degree_word c)) → suc k ≡ c
at-degree k (suc m) h = ap suc (eqb→eq k m h)
at-degree k zero h = elim h [ ]

pub at_degree' : (k c : ℕ) → suc k ≡ c → T (eq_z (pos k) (degree_word c))
at_degree' k zero e = absurd (lt_irrefl 0 (omega arith))
at_degree' k (suc m) e = let q : k ≡ m = omega arith in subst (λ x. T (eqb k x)) q (eqb_refl k)

pub over_degree : (k c : ℕ) → T (lt_z (degree_word c) (pos k)) → c ≤ k
over_degree k zero h = omega arith
over_degree k (suc m) h = ltb→lt m k h

pub over_degree' : (k c : ℕ) → c ≤ k → T (lt_z (degree_word c) (pos k))
over_degree' k zero h = tt
over_degree' k (suc m) h = lt→ltb m k h

-- ---- parts
pub seg_long : (a n : ℕ) (w : List ℤ) → a + n ≤ length w → length (seg a n w) ≡ n
seg_long a n w h = simp (length-take, length-drop) (omega arith)

take-drop : (b m n : ℕ) (l : List ℤ) → b + m ≤ n → take m (drop b (take n l)) ≡ take m (drop b l)
take-drop zero m n l h = take-take m n l (omega arith)
take-drop (suc b) m zero l h = absurd (lt_irrefl 0 (omega arith))
take-drop (suc b) m (suc n) [] h = refl
take-drop (suc b) m (suc n) (x ∷ l) h = take-drop b m n l (omega arith)

-- a part of a part
pub seg-seg : (a n b m : ℕ) (w : List ℤ) → b + m ≤ n → seg b m (seg a n w) ≡ seg (a + b) m w
seg-seg a n b m w h = take-drop b m n (drop a w) h ∙ ap (take m) (drop-drop b a w)

pub seg-at : (a n j : ℕ) (w : List ℤ) → j < n → get_or (seg a n w) j (pos 0) ≡ get_or w (a + j) (pos 0)
seg-at a n j w h = get_or-take n (drop a w) j (pos 0) h ∙ get_or-drop a w j (pos 0)

pub append_nil : (l : List ℤ) → l ++ [] ≡ l
append_nil [] = refl
append_nil (x ∷ l) = ap (λ t. x ∷ t) (append_nil l)

pub copies_long : (n s : ℕ) (l : List ℤ) → length l ≡ s → length (copies n l) ≡ n * s
copies_long zero s l h = sym (zero-mul s)
copies_long (suc n) s l h = omega (arith, length-append l (copies n l), copies_long n s l h, suc-mul n s)

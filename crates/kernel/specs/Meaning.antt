-- What the numbers 0 to 3 say of a tower: no number exactly where p, N and the degrees are in range and the words are those of exactly one tower; each other
-- number exactly where it is the first whose condition holds.
--
-- DegreesIn n e     == N and the degrees are in range;  InRange p n e == and p;  ones == then 1 and 0 differ at every level
-- TowerOf, words_of == the towers that they allow, and their words
-- TowerMeans        == for each number what it says; a number that is not used says ⊥
-- shape_in, shape_tests == the tests of N and the degrees, passed;  degrees-two == the degrees in use are at least 2
-- shape-out     == N and the degrees out of range give number 2
-- tower-says    == a number that is given comes under its condition;  tower_given == and under its condition it is given
-- tower-answers == the same of what the call says
-- tower_behind  == the number where other tests stand behind those of a tower;  then_says, then_given == what it says
-- tower-passes  == the words of every tower in range get no number;  tower_numbers == no number above 3 is given
use Prim.Native.Nat.{ℕ, zero, suc, ◌<◌, ◌≤◌}
use Rattle.std.specs.Prelude.{◌≡◌, refl, not, ◌↔◌, List, [], ◌∷◌, ◌++◌, ℤ, pos, T, get_or}
use Rattle.std.proofs.Common.{sym, ap, ◌∙◌, subst, lt_irrefl, arith, T_not}
use Rattle.std.proofs.Math.Logic.{inl, inr}
use Rattle.std.proofs.Math.Dec.{not_T}
use Rattle.algebra.specs.Test.{branch}
use Rattle.residue.specs.Word.{num}
use Rattle.tower.specs.Levels.{Tower, Ones}
use Rattle.tower.specs.Writing.{size, tower_words}
use Rattle.tower.specs.Form.{tower_form}
use Rattle.tower.specs.Limits.{p_ok, p_two, p_positive, levels_ok, degrees_ok, degrees_of, size_ok, size_few, few_size}
use Rattle.tower.specs.Limits.{Between, DegreeIn, modulus_range, levels_range, degrees_range}
use Rattle.tower.specs.Unique.{Exactly}
use Rattle.tower.specs.TowerUnique.{tower_iff, tower_good}
use Rattle.kernel.specs.Refusals.{refusal, refusal_inj, Table, first, and_then, first-append, first-up_to}
use Rattle.kernel.specs.Refusals.{Numbered, Passed, passed_of, first_of, Applies, first_applies, first-is}
use Rattle.kernel.specs.Calls.{shape_table, tower_row, tower_table, tower_number, check_tower}

-- N and the degrees are in range
pub record DegreesIn (n : ℤ) (e : List ℤ) : Type 0 where
  pub levels : Between 0 4 n
  pub degrees : (k : ℕ) → k < 4 → DegreeIn (num n) k (get_or e k (pos 0))
  pub few : size (degrees_of e) (num n) ≤ 2048

-- p, N and the degrees are in range; modulus_range says what the test of p is
pub record InRange (p n : ℤ) (e : List ℤ) : Type 0 where
  pub modulus : T (p_ok p)
  pub shape : DegreesIn n e

-- the towers that p, N and the degrees allow, and their words
abbrev pub TowerOf : ℤ → ℤ → List ℤ → Type 0
TowerOf p n e = Tower (num p) (degrees_of e) (num n)

abbrev pub words_of : (p n : ℤ) (e : List ℤ) → T (p_ok p) → TowerOf p n e → List ℤ
words_of p n e h = tower_words (num p) (p_positive p h) (degrees_of e) (num n)

-- ---- the tests of N and the degrees
module _ (n : ℤ) (e : List ℤ) where
  -- they are passed
  pub shape_in : T (levels_ok n) → T (degrees_ok (num n) e) → T (size_ok (degrees_of e) (num n)) → DegreesIn n e
  shape_in a b c = record { levels = (levels_range n).0 a; degrees = (degrees_range (num n) e).0 b; few = size_few (degrees_of e) (num n) c }

  pub shape_tests : DegreesIn n e → Passed (shape_table n e)
  shape_tests r = ((levels_range n).1 r.levels, ((degrees_range (num n) e).1 r.degrees, (few_size (degrees_of e) (num n) r.few, tt)))

  -- the degrees in use are at least 2
  pub degrees-two : DegreesIn n e → (k : ℕ) → k < num n → 2 ≤ get_or (degrees_of e) k 0
  degrees-two r zero l = ((r.degrees 0 (omega arith)).0 l).1
  degrees-two r (suc zero) l = ((r.degrees 1 (omega arith)).0 l).1
  degrees-two r (suc (suc zero)) l = ((r.degrees 2 (omega arith)).0 l).1
  degrees-two r (suc (suc (suc zero))) l = ((r.degrees 3 (omega arith)).0 l).1
  degrees-two r (suc (suc (suc (suc k)))) l = absurd (lt_irrefl 0 (omega (arith, r.levels.2)))

-- ---- 1 and 0 differ in every tower that is in range
module _ (p n : ℤ) (e : List ℤ) (r : InRange p n e) where
  pub ones : Ones (num p) (p_positive p r.modulus) (degrees_of e) (num n)
  ones = record { p_two = p_two p r.modulus; degrees = λ k l. (let h = degrees-two n e r.shape k l in omega arith) }

  form-held : (t : List ℤ) → T (tower_form (num p) (degrees_of e) (num n) t) ↔ Exactly (words_of p n e r.modulus) t
  form-held t = tower_iff (num p) (p_positive p r.modulus) (degrees_of e) (num n) ones t

  form-words : (τ : TowerOf p n e) → T (tower_form (num p) (degrees_of e) (num n) (words_of p n e r.modulus τ))
  form-words τ = tower_good (num p) (p_positive p r.modulus) (degrees_of e) (num n) ones τ

-- ---- what each number says of a tower
-- 0: in range, and the words of exactly one tower
pub record TowerHeld (p n : ℤ) (e t : List ℤ) : Type 0 where
  pub range : InRange p n e
  pub held : Exactly (words_of p n e range.modulus) t

-- 2: p is in range, but N or the degrees are not
pub record DegreesOut (p n : ℤ) (e : List ℤ) : Type 0 where
  pub modulus : T (p_ok p)
  pub out : ¬ DegreesIn n e

-- 3: all is in range, and no tower has these words
pub record NoTower (p n : ℤ) (e t : List ℤ) : Type 0 where
  pub range : InRange p n e
  pub none : (τ : TowerOf p n e) → ¬ (words_of p n e range.modulus τ ≡ t)

abbrev pub TowerMeans : ℤ → ℤ → List ℤ → List ℤ → ℕ → Type 0
TowerMeans p n e t zero = TowerHeld p n e t
TowerMeans p n e t (suc zero) = ¬ Between 2 2147483647 p
TowerMeans p n e t (suc (suc zero)) = DegreesOut p n e
TowerMeans p n e t (suc (suc (suc zero))) = NoTower p n e t
TowerMeans p n e t (suc (suc (suc (suc k)))) = ⊥

-- N or the degrees: the first of the three tests that does not pass
pub shape-out : (n : ℤ) (e : List ℤ) (rows : Table) → ¬ DegreesIn n e → Applies (shape_table n e ++ rows) 2
shape-out n e rows h =
    branch (levels_ok n)
    (λ a. branch (degrees_ok (num n) e)
    (λ b. branch (size_ok (degrees_of e) (num n))
    (λ c. absurd (h (shape_in n e a b c)))
    (λ c. inr (a, inr (b, inl (c, refl)))))
    (λ b. inr (a, inl (b, refl))))
    (λ a. inl (a, refl))

module _ (p n : ℤ) (e t : List ℤ) where
  pub tower_numbered : Numbered (tower_table p n e t)
  tower_numbered = (omega arith, (omega arith, (omega arith, (omega arith, (omega arith, tt)))))

  no_tower : (r : InRange p n e) → T (not (tower_form (num p) (degrees_of e) (num n) t)) → (τ : TowerOf p n e) → ¬ (words_of p n e r.modulus τ ≡ t)
  no_tower r h τ q = T_not (tower_form (num p) (degrees_of e) (num n) t) h (subst (λ w. T (tower_form (num p) (degrees_of e) (num n) w)) q (form-words p n e r τ))

  applied : (k : ℕ) → Applies (tower_table p n e t) k → TowerMeans p n e t k
  applied k (inl h) = subst (TowerMeans p n e t) h.1 (λ r. T_not (p_ok p) h.0 ((modulus_range p).1 r))
  applied k (inr (a, inl h)) = subst (TowerMeans p n e t) h.1 (record { modulus = a; out = λ r. T_not (levels_ok n) h.0 (shape_tests n e r).0 })
  applied k (inr (a, inr (b, inl h))) = subst (TowerMeans p n e t) h.1 (record { modulus = a; out = λ r. T_not (degrees_ok (num n) e) h.0 (shape_tests n e r).1.0 })
  applied k (inr (a, inr (b, inr (c, inl h)))) =
      subst (TowerMeans p n e t) h.1 (record { modulus = a; out = λ r. T_not (size_ok (degrees_of e) (num n)) h.0 (shape_tests n e r).1.1.0 })
  applied k (inr (a, inr (b, inr (c, inr (d, inl h))))) =
      let r : InRange p n e = record { modulus = a; shape = shape_in n e b c d } in
      subst (TowerMeans p n e t) h.1 (record { range = r; none = no_tower r h.0 })
  applied k (inr (a, inr (b, inr (c, inr (d, inr (f, none)))))) = absurd none

  -- a number that is given comes under its condition, and 0 only where every test passes
  pub tower-says : (k : ℕ) → tower_number p n e t ≡ k → TowerMeans p n e t k
  unfolding tower_number
  tower-says zero h =
      let a = passed_of (tower_table p n e t) tower_numbered h in
      let r : InRange p n e = record { modulus = a.0; shape = shape_in n e a.1.0 a.1.1.0 a.1.1.1.0 } in
      record { range = r; held = (form-held p n e r t).0 a.1.1.1.1.0 }
  tower-says (suc k) h = applied (suc k) (first_applies (tower_table p n e t) k h)

  out_of : DegreesOut p n e → Applies (tower_table p n e t) 2
  out_of h = inr (h.modulus, shape-out n e (tower_row p n e t ∷ []) h.out)

  -- under its condition a number is given
  pub tower_given : (k : ℕ) → TowerMeans p n e t k → tower_number p n e t ≡ k
  unfolding tower_number
  tower_given zero h =
      let r = h.range in
      let s = shape_tests n e r.shape in
      first_of (tower_table p n e t) (r.modulus, (s.0, (s.1.0, (s.1.1.0, ((form-held p n e r t).1 h.held, tt)))))
  tower_given (suc zero) h = first-is (tower_table p n e t) 1 (inl (not_T (p_ok p) (λ m. h ((modulus_range p).0 m)), refl))
  tower_given (suc (suc zero)) h = first-is (tower_table p n e t) 2 (out_of h)
  tower_given (suc (suc (suc zero))) h =
      let r = h.range in
      let s = shape_tests n e r.shape in
      let bad = not_T (tower_form (num p) (degrees_of e) (num n) t) (λ f. (let x = (form-held p n e r t).0 f in h.none x.this x.holds)) in
      first-is (tower_table p n e t) 3 (inr (r.modulus, inr (s.0, inr (s.1.0, inr (s.1.1.0, inl (bad, refl))))))
  tower_given (suc (suc (suc (suc _)))) h = elim h [ ]

  -- the same of what the call says
  pub tower-answers : (k : ℕ) → (check_tower p n e t ≡ refusal k) ↔ TowerMeans p n e t k
  tower-answers k = (λ h. tower-says k (refusal_inj (tower_number p n e t) k h), λ m. ap refusal (tower_given k m))

  -- ---- other tests behind those of a tower
  module _ (rows : Table) where
    pub tower_behind : first (tower_table p n e t ++ rows) ≡ and_then (tower_number p n e t) (first rows)
    unfolding tower_number
    tower_behind = first-append (tower_table p n e t) rows tower_numbered

    -- the number comes under its condition M, if 1 to 3 say what they say of a tower, and M holds of what the other tests give over a tower
    pub then_says : (M : ℕ → Type 0)
        → (TowerMeans p n e t 1 → M 1) → (TowerMeans p n e t 2 → M 2) → (TowerMeans p n e t 3 → M 3) → (TowerHeld p n e t → M (first rows))
        → M (first (tower_table p n e t ++ rows))
    then_says M one two three rest = subst M (sym tower_behind) (go (tower_number p n e t) (tower-says (tower_number p n e t) refl))
      where
        go : (x : ℕ) → TowerMeans p n e t x → M (and_then x (first rows))
        go zero h = rest h
        go (suc zero) h = one h
        go (suc (suc zero)) h = two h
        go (suc (suc (suc zero))) h = three h
        go (suc (suc (suc (suc _)))) h = elim h [ ]

    pub then_given : (j : ℕ) → TowerMeans p n e t j → first (tower_table p n e t ++ rows) ≡ and_then j (first rows)
    then_given j h = tower_behind ∙ ap (λ x. and_then x (first rows)) (tower_given j h)

-- the words of every tower in range get no number
pub tower-passes : (p n : ℤ) (e : List ℤ) (r : InRange p n e) (τ : TowerOf p n e) → tower_number p n e (words_of p n e r.modulus τ) ≡ 0
tower-passes p n e r τ = tower_given p n e _ 0 (record { range = r; held = (form-held p n e r (words_of p n e r.modulus τ)).0 (form-words p n e r τ) })

-- no other number is given
pub tower_numbers : (p n : ℤ) (e t : List ℤ) → tower_number p n e t ≤ 3
unfolding tower_number
tower_numbers p n e t = first-up_to 3 (tower_table p n e t) tt

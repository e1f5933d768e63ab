-- The kinds of answer, document 01's refusal numbers by name, and the ordered table: a call's tests stand in it in the order of their numbers, and the first
-- that does not pass gives the number.
--
-- Said, done, factor, refused == "Done, a shown factor with its level, and a refusal are three kinds of answer."
-- Table, first                == rows of a number and a test; the first number whose test does not pass, 0 where all pass
-- refusal, refusal_inj        == the answer that a number is, and that it tells the number
-- ordered                     == the rows stand in the order of their numbers;  ordered_numbered == from 1 on, so none of them is 0
-- first-append                == two tables, one behind the other
-- up_to, first-up_to          == no number of the table is above m;  then none above m is given
-- zero-unless                 == no number is given where a test passes and the rest gives none;  passed_of, first_of == exactly where every test passes
-- first_applies               == a number that is given is the first that applies, and comes only under its condition;  first-is == the first that applies is given
use Rattle.std.specs.Prelude.{ℕ, zero, suc, ◌≤◌, ◌≡◌, refl, Bool, true, false, not, ◌&&◌, List, [], ◌∷◌, ◌++◌, ◌⊎◌, T, leb}
use Rattle.std.proofs.Common.{not-suc-le-zero, lt_irrefl, arith, ap, sym, ◌∙◌, inl, inr, leb→le}
use Rattle.algebra.specs.Test.{both_l, both_r}

pub data Said : Type 0 where
  done : Said
  factor : ℕ → Said
  refused : ℕ → Said

-- "p out of range"
abbrev pub bad_modulus : ℕ
bad_modulus = 1

-- "N or the degrees out of range, or S_N above 2,048"
abbrev pub bad_degrees : ℕ
bad_degrees = 2

-- "tower words: wrong length or form, or not monic"
abbrev pub bad_tower : ℕ
bad_tower = 3

-- "a slot, element or factor buffer of a length not allowed"
abbrev pub bad_length : ℕ
bad_length = 4

-- "an input slot or element not in form; for work sizes, a degree outside -1 to 255"
abbrev pub bad_form : ℕ
bad_form = 5

-- "answer slot too small"
abbrev pub small_answer : ℕ
small_answer = 6

-- "work store shorter than needed"
abbrev pub small_work : ℕ
small_work = 7

-- "divisor not monic, or zero"
abbrev pub not_monic : ℕ
not_monic = 8

-- "inverse of zero"
abbrev pub of_zero : ℕ
of_zero = 9

-- "fraction without residue"
abbrev pub no_residue : ℕ
no_residue = 10

-- "more than D + 2 remainders taken in one sequence, D the larger degree at its start"
abbrev pub too_long : ℕ
too_long = 11

-- the number where the test fails, or else the rest
abbrev pub unless : Bool → ℕ → ℕ → ℕ
unless true k r = r
unless false k r = k

-- a number, and the test that keeps it away; the test is looked at only when all before it have passed
abbrev pub Table : Type 0
Table = List (ℕ × (Unit {0} → Bool))

abbrev pub first : Table → ℕ
first [] = 0
first (row ∷ rows) = let rest : ℕ = first rows in unless (row.1 tt) row.0 rest

-- the numbers of the table do not fall
abbrev pub ordered : ℕ → Table → Bool
ordered k [] = true
ordered k (row ∷ rows) = leb k row.0 && ordered row.0 rows

-- no number is no refusal
abbrev pub refusal : ℕ → Said
refusal zero = done
refusal (suc k) = refused (suc k)

-- and back: an answer's number
abbrev number_of : Said → ℕ
number_of done = 0
number_of (factor level) = 0
number_of (refused k) = k

refusal-number : (k : ℕ) → number_of (refusal k) ≡ k
refusal-number zero = refl
refusal-number (suc k) = refl

pub refusal_inj : (j k : ℕ) → refusal j ≡ refusal k → j ≡ k
refusal_inj j k h = sym (refusal-number j) ∙ ap number_of h ∙ refusal-number k

-- ---- two tables, one behind the other
abbrev pub and_then : ℕ → ℕ → ℕ
and_then zero r = r
and_then (suc k) r = suc k

-- every number of the table is one
abbrev pub Numbered : Table → Type 0
Numbered [] = Unit {0}
Numbered (row ∷ rows) = (1 ≤ row.0) × Numbered rows

-- so it is where they stand in order and the first is one
pub ordered_numbered : (k : ℕ) (t : Table) → 1 ≤ k → T (ordered k t) → Numbered t
ordered_numbered k [] l h = tt
ordered_numbered k (row ∷ rows) l h =
    let one : 1 ≤ row.0 = omega (arith, leb→le k row.0 (both_l (leb k row.0) _ h)) in
    (one, ordered_numbered row.0 rows one (both_r (leb k row.0) _ h))

-- no number of the table is above m
abbrev pub up_to : ℕ → Table → Bool
up_to m [] = true
up_to m (row ∷ rows) = leb row.0 m && up_to m rows

unless_most : (b : Bool) (k r m : ℕ) → k ≤ m → r ≤ m → unless b k r ≤ m
unless_most true k r m h l = l
unless_most false k r m h l = h

-- so none above m is given
pub first-up_to : (m : ℕ) (t : Table) → T (up_to m t) → first t ≤ m
first-up_to m [] h = omega arith
first-up_to m (row ∷ rows) h =
    unless_most (row.1 tt) row.0 (first rows) m (leb→le row.0 m (both_l (leb row.0 m) _ h)) (first-up_to m rows (both_r (leb row.0 m) _ h))

unless_then : (b : Bool) (k r s : ℕ) → 1 ≤ k → unless b k (and_then r s) ≡ and_then (unless b k r) s
unless_then true k r s h = refl
unless_then false zero r s h = absurd (not-suc-le-zero h)
unless_then false (suc k) r s h = refl

pub first-append : (a b : Table) → Numbered a → first (a ++ b) ≡ and_then (first a) (first b)
first-append [] b h = refl
first-append (row ∷ rows) b h = ap (unless (row.1 tt) row.0) (first-append rows b h.1) ∙ unless_then (row.1 tt) row.0 (first rows) (first b) h.0

-- ---- where no number is given every test has passed
abbrev pub Passed : Table → Type 0
Passed [] = Unit {0}
Passed (row ∷ rows) = T (row.1 tt) × Passed rows

pub zero-unless : (b : Bool) (k r : ℕ) → 1 ≤ k → unless b k r ≡ 0 → T b × (r ≡ 0)
zero-unless true k r l h = (tt, h)
zero-unless false k r l h = absurd (lt_irrefl 0 (omega arith))

pub passed_of : (t : Table) → Numbered t → first t ≡ 0 → Passed t
passed_of [] n h = tt
passed_of (row ∷ rows) n h =
    let z = zero-unless (row.1 tt) row.0 (first rows) n.0 h in
    (z.0, passed_of rows n.1 z.1)

unless-passed : (b : Bool) (k r : ℕ) → T b → r ≡ 0 → unless b k r ≡ 0
unless-passed true k r t h = h
unless-passed false k r t h = elim t [ ]

pub first_of : (t : Table) → Passed t → first t ≡ 0
first_of [] h = refl
first_of (row ∷ rows) h = unless-passed (row.1 tt) row.0 (first rows) h.0 (first_of rows h.1)

-- ---- a number given is the first that applies, and comes only under its condition
abbrev pub Applies : Table → ℕ → Type 0
Applies [] k = ⊥
Applies (row ∷ rows) k = (T (not (row.1 tt)) × (row.0 ≡ k)) ⊎ (T (row.1 tt) × Applies rows k)

pub first_applies : (t : Table) (k : ℕ) → first t ≡ suc k → Applies t (suc k)
first_applies [] k h = lt_irrefl 0 (omega arith)
first_applies (row ∷ rows) k h = which (row.1 tt) (first_applies rows k) h
  where
    which : (b : Bool) → (first rows ≡ suc k → Applies rows (suc k)) → unless b row.0 (first rows) ≡ suc k → (T (not b) × (row.0 ≡ suc k)) ⊎ (T b × Applies rows (suc k))
    which true later h = inr (tt, later h)
    which false later h = inl (tt, h)

-- the first that applies is given
pub first-is : (t : Table) (k : ℕ) → Applies t k → first t ≡ k
first-is (row ∷ rows) k (inl h) = here (row.1 tt) h.0 ∙ h.1
  where
    here : (b : Bool) → T (not b) → unless b row.0 (first rows) ≡ row.0
    here false h = refl
    here true h = elim h [ ]
first-is (row ∷ rows) k (inr h) = later (row.1 tt) h.0 ∙ first-is rows k h.1
  where
    later : (b : Bool) → T b → unless b row.0 (first rows) ≡ first rows
    later true h = refl
    later false h = elim h [ ]
first-is [] k x' = elim x' [ ]

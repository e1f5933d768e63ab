-- What the calls on polynomials share: what a slot holds, the tests of several slots and of the work store, and what a call leaves of the words lent to it.
--
-- degree_count                   == one more than the degree of what a slot holds, by its degree word: passed on from tower/specs/Writing.antt
-- polynomial_of, coefficients_in == the polynomial that a slot holds, and its coefficient function
-- forms_row                      == the test of the form of two slots
-- product_room, quotient_room    == the coefficients that the answer's slot needs;  room_needed == of a division or else of a product
-- slots_table, slots_number      == the tests of product and division up to number 7, and the number that they give
-- top_ring                       == R_N, the ring that the polynomials are over
-- filled                         == the words of a slot that holds given coefficients;  cleared == those of a work store after Done
-- Changed, changed_by            == an answer, and the words that the call may change as they are afterwards
use Rattle.std.specs.Prelude.{ℕ, zero, suc, ◌+◌, ◌-◌, Bool, true, false, ◌&&◌, List, [], ◌∷◌, ◌++◌, ℤ, pos, T, leb, length, drop}
use Rattle.algebra.specs.Ring.{CRing}
use Rattle.algebra.specs.Vec.{Vec, coef, trunc}
use Rattle.residue.specs.Word.{num}
use Rattle.tower.specs.Form.{copies}
use Rattle.tower.specs.Levels.{El, group, ring}
use Rattle.tower.specs.Limits.{p_ok, p_positive, degrees_of}
use Rattle.tower.specs.Work.{product_work}
use Rattle.tower.specs.Writing.{slot, unslot, tower_of}
pub use Rattle.tower.specs.Writing.{degree_count}
use Rattle.kernel.specs.Refusals.{Said, done, refused, bad_length, bad_form, small_answer, small_work, Table, first}
use Rattle.kernel.specs.Calls.{coefficients_of, length_ok, form_ok, tower_table}

-- the polynomial that a slot of k coefficients holds
abbrev pub polynomial_of : (p n : ℤ) (e : List ℤ) → T (p_ok p) → (k : ℕ) → List ℤ → Vec (El (num p) (degrees_of e) (num n)) k
polynomial_of p n e h k a = unslot (num p) (p_positive p h) (degrees_of e) (num n) k a

-- its coefficients, 0 above them
abbrev pub coefficients_in : (p n : ℤ) (e : List ℤ) → T (p_ok p) → List ℤ → ℕ → El (num p) (degrees_of e) (num n)
coefficients_in p n e h a =
    coef (group (num p) (p_positive p h) (degrees_of e) (num n)).𝟘 (coefficients_of n e a) (polynomial_of p n e h (coefficients_of n e a) a)

-- ---- tests
-- the form of two slots
abbrev pub forms_row : ℤ → ℤ → List ℤ → List ℤ → List ℤ → ℕ × (Unit {0} → Bool)
forms_row p n e a b = (bad_form, λ _. form_ok p n e a && form_ok p n e b)

-- "product, deg a + deg b + 1 even where the leading product vanishes, and 1 if either is zero", from one more than the two degrees
abbrev pub product_room : ℕ → ℕ → ℕ
product_room zero l = 1
product_room (suc k) zero = 1
product_room (suc k) (suc l) = k + l + 1

-- "quotient, deg a - deg b + 1 and at least 1", from one more than the two degrees; where b is zero these are deg a + 2
abbrev pub quotient_room : ℕ → ℕ → ℕ
quotient_room k l = suc (k - l)

abbrev pub room_needed : Bool → ℕ → ℕ → ℕ
room_needed false k l = product_room k l
room_needed true k l = quotient_room k l

-- a tower, the slots a and b over it, a slot c of at least r coefficients for an answer, and a work store v
abbrev pub slots_table : (p n : ℤ) (e t a b c v : List ℤ) → ℕ → Table
slots_table p n e t a b c v r =
    tower_table p n e t
    ++ ((bad_length, λ _. length_ok n e a && (length_ok n e b && length_ok n e c))
    ∷ forms_row p n e a b
    ∷ (small_answer, λ _. leb r (coefficients_of n e c))
    ∷ (small_work, λ _. leb (product_work (degrees_of e) (num n)) (length v))
    ∷ [])

-- the number that they give, of a division or else of a product
unfoldable pub slots_number : Bool → (p n : ℤ) (e t a b c v : List ℤ) → ℕ
slots_number divides p n e t a b c v = first (slots_table p n e t a b c v (room_needed divides (degree_count a) (degree_count b)))

-- ---- what is computed with, and what is left
-- the ring of the tower whose words are t
abbrev pub top_ring : (p n : ℤ) (e : List ℤ) → List ℤ → T (p_ok p) → CRing
top_ring p n e t h = ring (num p) (p_positive p h) (degrees_of e) (num n) (tower_of (num p) (p_positive p h) (degrees_of e) (num n) t)

-- the words of a's slot when it holds the coefficients f, as many of them as it has
abbrev pub filled : (p n : ℤ) (e a : List ℤ) → (ℕ → El (num p) (degrees_of e) (num n)) → List ℤ
filled p n e a f = slot (num p) (degrees_of e) (num n) (coefficients_of n e a) (trunc (coefficients_of n e a) f)

-- "After Done .. the needed work words are 0 and those beyond are as before."
abbrev pub cleared : ℕ → List ℤ → List ℤ
cleared m v = copies m (pos 0 ∷ []) ++ drop m v

-- an answer, and the words that may have changed as they are afterwards
pub record Changed (A : Type 0) : Type 0 where
  pub said : Said
  pub words : A

-- "Numbers 1 to 10 leave every lent word as found."
abbrev pub changed_by : {A : Type 0} → ℕ → A → A → Changed A
changed_by zero new old = record { said = done; words = new }
changed_by (suc k) new old = record { said = refused (suc k); words = old }

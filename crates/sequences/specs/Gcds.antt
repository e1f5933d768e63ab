-- What the GCD in the store asks for and leaves.
--
-- Placed            == a polynomial in the store: its coefficients, and a place for the inverse of its leading one
-- Sited             == two such polynomials, apart, with a modulus, sizes, and room above top for an inverse
-- Upwards           == only words from the lowest of their places up to the end of that room have changed
-- greatest, Finds   == a place and a count; what the answer comes to
-- GcdReady, GcdDone == the GCD of two polynomials
-- Inverted, GcdLedReady, GcdLedDone == the same where the inverse of the first one's leading coefficient stands
-- LeadReady, LeadDone  == the inverse of a leading coefficient, where there is one
-- MonicReady, MonicDone, TurnReady, TurnDone == a polynomial made monic, where it is not zero; one remainder
-- LedStands == a polynomial of the sequence stands, with the inverse of its leading coefficient
-- Sought    == what the sequence on two polynomials, the second of which may be zero, comes to
-- TurnsReady, TurnsDone == the sequence
use Rattle.std.specs.Prelude.{ℕ, suc, ◌+◌, ◌-◌, ◌*◌, ◌^◌, ◌<◌, ◌≤◌, ◌≡◌, Bool, true, ◌⊎◌, List, [], ℤ, length, Result, Ok, Err}
use Rattle.algebra.specs.UnitDivide.{scaleᵛ}
use Rattle.algebra.specs.Vec.{coef, trunc}
use Rattle.residue.specs.Number.{Modulus}
use Rattle.tower.specs.Levels.{El, Tower, group, ring}
use Rattle.tower.specs.Ready.{Sized, Positive}
use Rattle.tower.specs.Stands.{Stands}
use Rattle.tower.specs.Store.{Kept}
use Rattle.tower.specs.Work.{inverse_work}
use Rattle.tower.specs.Writing.{size, tower_size}
use Rattle.arithmetic.specs.Walk.{pick}
use Rattle.products.specs.Product.{TowerStands, Elements, Inside, Outside}
use Rattle.euclid.specs.Answer.{Answer, done, shown, long, map}
use Rattle.euclid.specs.Gcd.{Made, made, made_count, made_coefficients, gcd, nothing, wrap}
use Rattle.euclid.specs.Lazy.{Led, whole, UnitLed, lazy}
use Rattle.euclid.specs.Towers.{Shown, shown_level, inv, level}
use Rattle.sequences.specs.declared.Stop.{Stop}
use Rattle.sequences.specs.declared.Stop.TheVariants.{Factor, Long}
use Rattle.sequences.specs.declared.Greatest.{Greatest}
use Rattle.sequences.specs.Outcomes.{FactorStands, InvertReady, InvertDone, FollowReady, FollowDone}
use Rattle.sequences.specs.Rows.{Between, ScaleRowReady, ScaleRowDone, DivideReady, DivideDone}

-- n coefficients of level i at row, a word before them, and the place of an inverse at unit: below top, and none of the tower's words
pub record Placed (i : ℕ) (d : List ℕ) (e-in : Bool) (ea row unit n top : ℕ) : Type 0 where
  pub behind : 0 < row
  pub row_below : row + n * size d i ≤ top
  pub unit_below : unit + size d i ≤ top
  pub few : n * size d i ≤ 2 ^ 31
  pub e_row : Outside e-in ea (tower_size d i) row (n * size d i)
  pub e_unit : Outside e-in ea (tower_size d i) unit (size d i)
  pub apart : Between unit (size d i) row (n * size d i)

-- f has m coefficients at f-row, g has n at g-row
pub record Sited (i : ℕ) (d z : List ℕ) (p : ℕ) (e : List ℤ) (e-in : Bool) (ea f-row f-unit m g-row g-unit n : ℕ) (w : List ℤ) (top : ℕ) : Type 0 where
  pub modulus : Modulus p
  pub two : 1 < p
  pub low : i ≤ 4
  pub sized : Sized d z
  pub positive : Positive i d
  pub small : size d i ≤ 2 ^ 30
  pub e_inside : Inside e-in (pick e-in w e) ea (tower_size d i) top
  pub room : top + inverse_work d i ≤ length w
  pub first : Placed i d e-in ea f-row f-unit m top
  pub second : Placed i d e-in ea g-row g-unit n top
  pub rows : Between f-row (m * size d i) g-row (n * size d i)
  pub units : Between f-unit (size d i) g-unit (size d i)
  pub f_away : Between f-unit (size d i) g-row (n * size d i)
  pub g_away : Between g-unit (size d i) f-row (m * size d i)

-- no word before the lowest of the places has changed, and none behind the work words
abbrev pub Upwards : ℕ → List ℕ → (f-row f-unit g-row g-unit : ℕ) → List ℤ → List ℤ → ℕ → Type 0
Upwards i d f-row f-unit g-row g-unit w w' top =
    (base : ℕ) → base ≤ f-row → base ≤ f-unit → base ≤ g-row → base ≤ g-unit → base ≤ top → Kept base (top + inverse_work d i - base) w w'

abbrev pub greatest : (at count : ℕ) → Greatest
greatest at count = record { at = at; count = count }

-- the answer's coefficients stand at a place below top; or the words of a factor do
abbrev pub Finds : (p : ℕ) (p_pos : 0 < p) (d : List ℕ) (i : ℕ) (t : Tower p d i) → Answer (Shown p d i) (Made (El p d i) (Unit {0})) → Result Greatest Stop → List ℤ → ℕ → Type 0
Finds p p_pos d i t (done m) r w top =
    (at : ℕ) × (r ≡ Ok (greatest at (made_count m))) × (at + made_count m * size d i ≤ top) × Elements p d i (made_count m) (made_coefficients (ring p p_pos d i t) m) w at
Finds p p_pos d i t (shown f) r w top =
    (at : ℕ) × (r ≡ Err (Factor (shown_level p d i f) at)) × (at + size d (shown_level p d i f) ≤ top) × FactorStands p p_pos d i t f w at
Finds p p_pos d i t long r w top = r ≡ Err Long

-- ---- the GCD
-- the coefficients a of a polynomial, its highest not zero
pub record Polynomial (p : ℕ) (p_pos : 0 < p) (d : List ℕ) (i n : ℕ) (a : ℕ → El p d i) (w : List ℤ) (row : ℕ) : Type 0 where
  pub stands : Elements p d i n a w row
  pub leads : 0 < n → ¬ (a (n - 1) ≡ (group p p_pos d i).𝟘)

pub record GcdReady (i : ℕ) (d z : List ℕ) (p : ℕ) (e : List ℤ) (e-in : Bool) (ea f-row f-unit m g-row g-unit n : ℕ) (w : List ℤ) (top : ℕ) : Type 0 where
  pub sited : Sited i d z p e e-in ea f-row f-unit m g-row g-unit n w top
  pub p_pos : 0 < p
  pub t : Tower p d i
  pub a : ℕ → El p d i
  pub b : ℕ → El p d i
  pub tower : TowerStands p p_pos d i t (pick e-in w e) ea
  pub left : Polynomial p p_pos d i m a w f-row
  pub right : Polynomial p p_pos d i n b w g-row

pub record GcdDone (i : ℕ) (d : List ℕ) (p : ℕ) (e : List ℤ) (e-in : Bool) (ea f-row f-unit m g-row g-unit n : ℕ) (w w' : List ℤ) (top : ℕ) (r : Result Greatest Stop) : Type 0 where
  pub frame : Upwards i d f-row f-unit g-row g-unit w w' top
  pub done : (p_pos : 0 < p) (t : Tower p d i) (a b : ℕ → El p d i) → TowerStands p p_pos d i t (pick e-in w e) ea
      → Polynomial p p_pos d i m a w f-row → Polynomial p p_pos d i n b w g-row
      → Finds p p_pos d i t (gcd (level p p_pos d i t) m (trunc m a) n (trunc n b)) r w' top

-- ---- the GCD where the inverse of f's leading coefficient is known
-- if there is a last coefficient, its inverse is given and stands
pub record Inverted (p : ℕ) (p_pos : 0 < p) (d : List ℕ) (i : ℕ) (t : Tower p d i) (n : ℕ) (a : ℕ → El p d i) (w : List ℤ) (unit : ℕ) : Type 0 where
  pub given : 0 < n → (u : El p d i) × (inv p p_pos d i t (a (n - 1)) ≡ done u) × Stands p d i u w unit

pub record GcdLedReady (i : ℕ) (d z : List ℕ) (p : ℕ) (e : List ℤ) (e-in : Bool) (ea f-row f-unit m g-row g-unit n : ℕ) (w : List ℤ) (top : ℕ) : Type 0 where
  pub ready : GcdReady i d z p e e-in ea f-row f-unit m g-row g-unit n w top
  pub inverted : Inverted p ready.p_pos d i ready.t m ready.a w f-unit

pub record GcdLedDone (i : ℕ) (d : List ℕ) (p : ℕ) (e : List ℤ) (e-in : Bool) (ea f-row f-unit m g-row g-unit n : ℕ) (w w' : List ℤ) (top : ℕ) (r : Result Greatest Stop) : Type 0 where
  pub frame : Upwards i d f-row f-unit g-row g-unit w w' top
  pub done : (p_pos : 0 < p) (t : Tower p d i) (a b : ℕ → El p d i) → TowerStands p p_pos d i t (pick e-in w e) ea
      → Polynomial p p_pos d i m a w f-row → Polynomial p p_pos d i n b w g-row → Inverted p p_pos d i t m a w f-unit
      → Finds p p_pos d i t (gcd (level p p_pos d i t) m (trunc m a) n (trunc n b)) r w' top

-- ---- the steps, as they ask for what they call
-- the inverse of the last of n coefficients, at unit
pub record LeadReady (i : ℕ) (d z : List ℕ) (p : ℕ) (e : List ℤ) (e-in : Bool) (ea row unit n : ℕ) (w : List ℤ) (top : ℕ) : Type 0 where
  pub low : i ≤ 4
  pub sized : Sized d z
  pub row_below : row + n * size d i ≤ length w
  pub some : 0 < n → InvertReady i d z p e e-in ea [] true (row + (n - 1) * size d i) w unit top

pub record LeadDone (i : ℕ) (d : List ℕ) (p : ℕ) (e : List ℤ) (e-in : Bool) (ea row unit n : ℕ) (w w' : List ℤ) (top : ℕ) (r : Result (Unit {0}) Stop) : Type 0 where
  pub none : n ≡ 0 → (r ≡ Ok tt) × (w' ≡ w)
  pub some : 0 < n → InvertDone i d p e e-in ea [] true (row + (n - 1) * size d i) w w' unit top r

-- each of n coefficients is multiplied by the inverse at unit
pub record MonicReady (i : ℕ) (d z : List ℕ) (p : ℕ) (e : List ℤ) (e-in : Bool) (ea row unit n : ℕ) (w : List ℤ) (top : ℕ) : Type 0 where
  pub some : 0 < n → ScaleRowReady i n d z p e e-in ea unit w row top

pub record MonicDone (i : ℕ) (d : List ℕ) (p : ℕ) (e : List ℤ) (e-in : Bool) (ea row unit n : ℕ) (w w' : List ℤ) (top : ℕ) (r : Greatest) : Type 0 where
  pub here : r ≡ greatest row n
  pub none : n ≡ 0 → w' ≡ w
  pub some : 0 < n → ScaleRowDone i n d p e e-in ea unit w w' row top

-- f of m coefficients has fewer than g, of n, and is its own remainder; or it is divided, and the remainder follows g
pub record TurnReady (i : ℕ) (d z : List ℕ) (p : ℕ) (e : List ℤ) (e-in : Bool) (ea f-row f-unit m g-row g-unit n : ℕ) (w : List ℤ) (top : ℕ) : Type 0 where
  pub divide : n ≤ m → (0 < n) × DivideReady i d z p e e-in ea g-row (n - 1) g-unit w f-row m top
  pub follow : n ≤ m → (w' : List ℤ) → DivideDone i d p e e-in ea g-row (n - 1) g-unit w w' f-row m top → FollowReady i d z p e e-in ea f-row (n - 1) f-unit w' top

-- v is the store between the two
pub record TurnedBy (i : ℕ) (d : List ℕ) (p : ℕ) (e : List ℤ) (e-in : Bool) (ea f-row f-unit m g-row g-unit n : ℕ) (w w' : List ℤ) (top : ℕ) (r : Result ℕ Stop) : Type 0 where
  pub v : List ℤ
  pub divided : DivideDone i d p e e-in ea g-row (n - 1) g-unit w v f-row m top
  pub followed : FollowDone i d p e e-in ea f-row (n - 1) f-unit v w' top r

pub record TurnDone (i : ℕ) (d : List ℕ) (p : ℕ) (e : List ℤ) (e-in : Bool) (ea f-row f-unit m g-row g-unit n : ℕ) (w w' : List ℤ) (top : ℕ) (r : Result ℕ Stop) : Type 0 where
  pub lower : m < n → (r ≡ Ok m) × (w' ≡ w)
  pub turned : n ≤ m → TurnedBy i d p e e-in ea f-row f-unit m g-row g-unit n w w' top r

-- ---- the sequence
-- f's n coefficients at row, and the inverse of its leading one at unit
pub record LedStands (p : ℕ) (p_pos : 0 < p) (d : List ℕ) (i : ℕ) (t : Tower p d i) (f : Led (El p d i) (Unit {0})) (row unit n : ℕ) (w : List ℤ) : Type 0 where
  pub count : n ≡ suc f.degree
  pub coefficients : Elements p d i (suc f.degree) (coef (group p p_pos d i).𝟘 (suc f.degree) (whole f)) w row
  pub inverse : Stands p d i f.unit w unit
  pub led : UnitLed (ring p p_pos d i t) f

-- f is the last: the answer is f made monic
pub record Last (p : ℕ) (p_pos : 0 < p) (d : List ℕ) (i : ℕ) (t : Tower p d i) (answer : Answer (Shown p d i) (Made (El p d i) (Unit {0})))
    (f : Led (El p d i) (Unit {0})) (n : ℕ) : Type 0 where
  pub none : n ≡ 0
  pub comes : answer ≡ done (made f.degree (scaleᵛ (ring p p_pos d i t) f.degree f.unit f.low) tt)

-- k follows f: the answer is that of the sequence on the two
pub record Onward (p : ℕ) (p_pos : 0 < p) (d : List ℕ) (i : ℕ) (t : Tower p d i) (answer : Answer (Shown p d i) (Made (El p d i) (Unit {0})))
    (f : Led (El p d i) (Unit {0})) (row unit n : ℕ) (w : List ℤ) : Type 0 where
  pub k : Led (El p d i) (Unit {0})
  pub stands : LedStands p p_pos d i t k row unit n w
  pub comes : answer ≡ map wrap (lazy (level p p_pos d i t) (nothing (El p d i)) (suc k.degree) f k)

pub record Sought (p : ℕ) (p_pos : 0 < p) (d : List ℕ) (i : ℕ) (t : Tower p d i) (answer : Answer (Shown p d i) (Made (El p d i) (Unit {0})))
    (f-row f-unit m g-row g-unit n : ℕ) (w : List ℤ) : Type 0 where
  pub f : Led (El p d i) (Unit {0})
  pub stands : LedStands p p_pos d i t f f-row f-unit m w
  pub then : Last p p_pos d i t answer f n ⊎ Onward p p_pos d i t answer f g-row g-unit n w

pub record TurnsReady (i : ℕ) (d z : List ℕ) (p : ℕ) (e : List ℤ) (e-in : Bool) (ea f-row f-unit m g-row g-unit n : ℕ) (w : List ℤ) (top : ℕ) : Type 0 where
  pub sited : Sited i d z p e e-in ea f-row f-unit m g-row g-unit n w top
  pub p_pos : 0 < p
  pub t : Tower p d i
  pub answer : Answer (Shown p d i) (Made (El p d i) (Unit {0}))
  pub tower : TowerStands p p_pos d i t (pick e-in w e) ea
  pub sought : Sought p p_pos d i t answer f-row f-unit m g-row g-unit n w

pub record TurnsDone (i : ℕ) (d : List ℕ) (p : ℕ) (e : List ℤ) (e-in : Bool) (ea f-row f-unit m g-row g-unit n : ℕ) (w w' : List ℤ) (top : ℕ) (r : Result Greatest Stop) : Type 0 where
  pub frame : Upwards i d f-row f-unit g-row g-unit w w' top
  pub done : (p_pos : 0 < p) (t : Tower p d i) (answer : Answer (Shown p d i) (Made (El p d i) (Unit {0}))) → TowerStands p p_pos d i t (pick e-in w e) ea
      → Sought p p_pos d i t answer f-row f-unit m g-row g-unit n w → Finds p p_pos d i t answer r w' top

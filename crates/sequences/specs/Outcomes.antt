-- What the inverse in the store asks for and leaves.
--
-- Came                    == what the result and the words at c say of the sequence's answer
-- InvertReady, InvertDone == the inverse of an element, its answer at c
-- Reached                 == the same where the place of the answer is told
-- RunReady, RunDone       == the inverse at a level above 0, its answer in the words above top
-- Away, Besides           == a place outside a run of words; what a turn's end may change
-- Followed                == what the end of a turn comes to
-- FollowReady, FollowDone == the end of a turn: the remainder's leading coefficient is inverted
use Rattle.std.specs.Prelude.{ℕ, suc, ◌+◌, ◌*◌, ◌^◌, ◌<◌, ◌≤◌, ◌≡◌, Bool, ◌⊎◌, List, ℤ, pos, length, get_or, Result, Ok, Err}
use Rattle.algebra.specs.Shape.{Shape, null, lead, strip}
use Rattle.algebra.specs.Vec.{trunc}
use Rattle.residue.specs.Number.{Modulus}
use Rattle.tower.specs.Form.{seg}
use Rattle.tower.specs.Levels.{El, is_zero, Tower, group, ring}
use Rattle.tower.specs.Ready.{Sized, Positive}
use Rattle.tower.specs.Stands.{Stands}
use Rattle.tower.specs.Store.{Kept}
use Rattle.tower.specs.Work.{inverse_work}
use Rattle.tower.specs.Writing.{size, tower_size}
use Rattle.arithmetic.specs.Walk.{pick}
use Rattle.products.specs.Product.{Worked, TowerStands, Elements, Inside, Outside}
use Rattle.euclid.specs.Answer.{Answer, done, shown, long}
use Rattle.euclid.specs.Shown.{shown_words}
use Rattle.euclid.specs.Towers.{Shown, shown_level, inv}
use Rattle.sequences.specs.declared.Stop.{Stop}
use Rattle.sequences.specs.declared.Stop.TheVariants.{Factor, Long}
use Rattle.sequences.specs.Rows.{Between}

-- the words of a shown factor stand at a
abbrev pub FactorStands : (p : ℕ) (p_pos : 0 < p) (d : List ℕ) (i : ℕ) → Tower p d i → Shown p d i → List ℤ → ℕ → Type 0
FactorStands p p_pos d i t f w a = seg a (size d (shown_level p d i f)) w ≡ shown_words p p_pos d i t f

-- ---- the inverse, its answer at c
abbrev pub Came : (p : ℕ) (p_pos : 0 < p) (d : List ℕ) (i : ℕ) → Tower p d i → Answer (Shown p d i) (El p d i) → Result (Unit {0}) Stop → List ℤ → ℕ → Type 0
Came p p_pos d i t (done u) r w c = (r ≡ Ok tt) × Stands p d i u w c
Came p p_pos d i t (shown f) r w c = (r ≡ Err (Factor (shown_level p d i f) c)) × FactorStands p p_pos d i t f w c
Came p p_pos d i t long r w c = r ≡ Err Long

-- a modulus, sizes, the tower, an element that is not zero, and room for the inverse above top
pub record RunReady (i : ℕ) (d z : List ℕ) (p : ℕ) (e : List ℤ) (e-in : Bool) (ea : ℕ) (x : List ℤ) (x_in : Bool) (a : ℕ) (w : List ℤ) (top : ℕ) : Type 0 where
  pub modulus : Modulus p
  pub two : 1 < p
  pub low : i ≤ 4
  pub sized : Sized d z
  pub positive : Positive i d
  pub small : size d i ≤ 2 ^ 30
  pub e_inside : Inside e-in (pick e-in w e) ea (tower_size d i) top
  pub x_inside : Inside x_in (pick x_in w x) a (size d i) top
  pub room : top + inverse_work d i ≤ length w
  pub p_pos : 0 < p
  pub t : Tower p d i
  pub v : El p d i
  pub tower : TowerStands p p_pos d i t (pick e-in w e) ea
  pub element : Stands p d i v (pick x_in w x) a
  pub some : ¬ (v ≡ (group p p_pos d i).𝟘)

pub record InvertReady (i : ℕ) (d z : List ℕ) (p : ℕ) (e : List ℤ) (e-in : Bool) (ea : ℕ) (x : List ℤ) (x_in : Bool) (a : ℕ) (w : List ℤ) (c top : ℕ) : Type 0 where
  pub run : RunReady i d z p e e-in ea x x_in a w top
  pub c_below : c + size d i ≤ top

pub record InvertDone (i : ℕ) (d : List ℕ) (p : ℕ) (e : List ℤ) (e-in : Bool) (ea : ℕ) (x : List ℤ) (x_in : Bool) (a : ℕ) (w w' : List ℤ) (c top : ℕ) (r : Result (Unit {0}) Stop) : Type 0 where
  pub frame : Worked c (size d i) top (inverse_work d i) w w'
  pub done : (p_pos : 0 < p) (t : Tower p d i) (v : El p d i) → TowerStands p p_pos d i t (pick e-in w e) ea → Stands p d i v (pick x_in w x) a
      → ¬ (v ≡ (group p p_pos d i).𝟘) → Came p p_pos d i t (inv p p_pos d i t v) r w' c

-- ---- the inverse at a level above 0: n words of the answer stand at a place among the words above top
pub record Above (d : List ℕ) (i n at top : ℕ) : Type 0 where
  pub low : top ≤ at
  pub high : at + n ≤ top + inverse_work d i

abbrev pub Reached : (p : ℕ) (p_pos : 0 < p) (d : List ℕ) (i : ℕ) → Tower p d i → Answer (Shown p d i) (El p d i) → Result ℕ Stop → List ℤ → ℕ → Type 0
Reached p p_pos d i t (done u) r w top = (at : ℕ) × (r ≡ Ok at) × Above d i (size d i) at top × Stands p d i u w at
Reached p p_pos d i t (shown f) r w top =
    (at : ℕ) × (r ≡ Err (Factor (shown_level p d i f) at)) × Above d i (size d (shown_level p d i f)) at top × FactorStands p p_pos d i t f w at
Reached p p_pos d i t long r w top = r ≡ Err Long

pub record RunDone (i : ℕ) (d : List ℕ) (p : ℕ) (e : List ℤ) (e-in : Bool) (ea : ℕ) (x : List ℤ) (x_in : Bool) (a : ℕ) (w w' : List ℤ) (top : ℕ) (r : Result ℕ Stop) : Type 0 where
  pub frame : Kept top (inverse_work d i) w w'
  pub done : (p_pos : 0 < p) (t : Tower p d i) (v : El p d i) → TowerStands p p_pos d i t (pick e-in w e) ea → Stands p d i v (pick x_in w x) a
      → ¬ (v ≡ (group p p_pos d i).𝟘) → Reached p p_pos d i t (inv p p_pos d i t v) r w' top

-- ---- the end of a turn: the n coefficients of a remainder stand at row, with a free coefficient above them, and the dividend's inverse at unit
pub record FollowReady (i : ℕ) (d z : List ℕ) (p : ℕ) (e : List ℤ) (e-in : Bool) (ea row n unit : ℕ) (w : List ℤ) (top : ℕ) : Type 0 where
  pub modulus : Modulus p
  pub two : 1 < p
  pub low : i ≤ 4
  pub sized : Sized d z
  pub positive : Positive i d
  pub small : size d i ≤ 2 ^ 30
  pub e_inside : Inside e-in (pick e-in w e) ea (tower_size d i) top
  pub e_row : Outside e-in ea (tower_size d i) row ((n + 1) * size d i)
  pub e_unit : Outside e-in ea (tower_size d i) unit (size d i)
  pub behind : 0 < row
  pub row_below : row + (n + 1) * size d i ≤ top
  pub unit_below : unit + size d i ≤ top
  pub apart : Between unit (size d i) row ((n + 1) * size d i)
  pub room : top + inverse_work d i ≤ length w
  pub p_pos : 0 < p
  pub t : Tower p d i
  pub f : ℕ → El p d i
  pub u : El p d i
  pub back : El p d i
  pub tower : TowerStands p p_pos d i t (pick e-in w e) ea
  pub rest : Elements p d i n f w row
  pub inverse : Stands p d i u w unit
  pub is_unit : (ring p p_pos d i t).◌⊗◌ u back ≡ (ring p p_pos d i t).𝟙

-- a place that is none of the n from a on
abbrev pub Away : ℕ → ℕ → ℕ → Type 0
Away k a n = (k < a) ⊎ (a + n ≤ k)

-- all words but n from a on, n from b on, and m from top on are as before
pub record Besides (a b n top m : ℕ) (w w' : List ℤ) : Type 0 where
  pub long : length w' ≡ length w
  pub others : (k : ℕ) → Away k a n → Away k b n → Away k top m → get_or w' k (pos 0) ≡ get_or w k (pos 0)

-- the inverse of u times the leading coefficient c, of degree g: it replaces u's words as its product with u; or it shows a factor, at free
abbrev pub Follows : (p : ℕ) (p_pos : 0 < p) (d : List ℕ) (i : ℕ) → Tower p d i → El p d i → ℕ → Answer (Shown p d i) (El p d i) → Result ℕ Stop → List ℤ → ℕ → ℕ → Type 0
Follows p p_pos d i t u g (done j) r w free unit = (r ≡ Ok (suc g)) × Stands p d i ((ring p p_pos d i t).◌⊗◌ j u) w unit
Follows p p_pos d i t u g (shown f) r w free unit = (r ≡ Err (Factor (shown_level p d i f) free)) × FactorStands p p_pos d i t f w free
Follows p p_pos d i t u g long r w free unit = r ≡ Err Long

-- the remainder is zero, and nothing has changed; or it has a leading coefficient
abbrev pub Followed : (p : ℕ) (p_pos : 0 < p) (d : List ℕ) (i : ℕ) → Tower p d i → El p d i → Shape (El p d i) → Result ℕ Stop → List ℤ → List ℤ → ℕ → ℕ → Type 0
Followed p p_pos d i t u null r w w' free unit = (r ≡ Ok 0) × (w' ≡ w)
Followed p p_pos d i t u (lead g l c) r w w' free unit = Follows p p_pos d i t u g (inv p p_pos d i t ((ring p p_pos d i t).◌⊗◌ u c)) r w' free unit

pub record FollowDone (i : ℕ) (d : List ℕ) (p : ℕ) (e : List ℤ) (e-in : Bool) (ea row n unit : ℕ) (w w' : List ℤ) (top : ℕ) (r : Result ℕ Stop) : Type 0 where
  pub frame : Besides (row + n * size d i) unit (size d i) top (inverse_work d i) w w'
  pub done : (p_pos : 0 < p) (t : Tower p d i) (f : ℕ → El p d i) (u back : El p d i) → TowerStands p p_pos d i t (pick e-in w e) ea
      → Elements p d i n f w row → Stands p d i u w unit → (ring p p_pos d i t).◌⊗◌ u back ≡ (ring p p_pos d i t).𝟙
      → Followed p p_pos d i t u (strip (is_zero p d i) n (trunc n f)) r w w' (row + n * size d i) unit

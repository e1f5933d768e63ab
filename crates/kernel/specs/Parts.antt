-- What the parts of a call ask for and give behind its tests: at level 0, and once a remainder sequence has run.
--
-- NumberReady, NumberGiven == the inverse at level 0
-- StopReady, StopGiven     == the answer where a sequence stopped: a shown factor's words stand in the work store, and the factor buffer has room for them
-- EndedReady, EndedGiven   == the answer of an inverse above level 0, whose words stand in the work store
-- NeededReady              == the slots and the shape of which the GCD's work words are counted
-- SoughtReady, SoughtDone  == the sequence of a GCD
-- FoundReady, FoundGiven   == the answer of a GCD, whose words stand in the work store;  GreatestFits, GreatestGiven == where it is a polynomial
use Rattle.std.specs.Prelude.{ℕ, ◌+◌, ◌-◌, ◌*◌, ◌^◌, ◌<◌, ◌≤◌, ◌≡◌, List, ℤ, T, length, get_or, Result, Ok, Err}
use Rattle.residue.specs.Word.{num}
use Rattle.tower.specs.Form.{seg}
use Rattle.tower.specs.Limits.{p_ok, p_positive, degrees_of, slot_count}
use Rattle.tower.specs.Ready.{Degrees}
use Rattle.tower.specs.Store.{Kept, Put}
use Rattle.euclid.specs.Gcd.{gcd as gcd-of}
use Rattle.polynomials.specs.Slots.{Finished}
use Rattle.sequences.specs.Gcds.{Finds}
use Rattle.sequences.specs.declared.Greatest.{Greatest}
use Rattle.sequences.specs.declared.Stop.{Stop}
use Rattle.sequences.specs.declared.Stop.TheVariants.{Factor as FactorOf, Long}
use Rattle.kernel.specs.declared.Answer.{Answer}
use Rattle.kernel.specs.declared.Answer.TheVariants.{Done, Factor, Refused}
use Rattle.kernel.specs.declared.shape.Shape.{Shape}
use Rattle.kernel.specs.Answered.{factor_buffer, tower_in, level_of}
use Rattle.kernel.specs.Calls.{coefficients_of}
use Rattle.kernel.specs.Gcds.{gcd_needed, gcd_number}
use Rattle.kernel.specs.Inverses.{inverse_number}
use Rattle.kernel.specs.Promises.{InverseGiven}
use Rattle.kernel.specs.Refusals.{too_long}
use Rattle.kernel.specs.Shape.{Known}
use Rattle.kernel.specs.Slots.{degree_count, polynomial_of}

-- ---- the inverse at level 0, which no work store is lent: with one no number applies, and what is given is the same with each such store
pub record NumberReady (p n : ℤ) (e t c r f : List ℤ) : Type 0 where
  pub level : num n ≡ 0
  pub v : List ℤ
  pub passed : inverse_number p n e t c r f v ≡ 0

pub record NumberGiven (p n : ℤ) (e t c r f : List ℤ) (k : Answer) (r' f' : List ℤ) : Type 0 where
  pub given : (v : List ℤ) → inverse_number p n e t c r f v ≡ 0 → InverseGiven p n e t c r f v k r' f' v

-- ---- where a sequence stopped
-- a factor of the level l has its words at a place of the store v, and there is room for them
abbrev pub StopReady : Stop → Shape → (v f : List ℤ) → Type 0
StopReady (FactorOf l at) s v f = (l < 5) × (at + get_or s.sizes l 0 ≤ length v) × (get_or s.sizes l 0 ≤ length f)
StopReady Long s v f = Unit {0}

-- the answer k, and f behind it
abbrev pub StopGiven : Stop → Shape → (v f : List ℤ) → Answer → (f' : List ℤ) → Type 0
StopGiven (FactorOf l at) s v f k f' = (k ≡ Factor l) × (f' ≡ factor_buffer f (seg at (get_or s.sizes l 0) v))
StopGiven Long s v f k f' = (k ≡ Refused too_long) × (f' ≡ f)

-- ---- the answer of an inverse: its s.size words, or those of a factor, stand at a place of the store v, and there is room for them
abbrev pub EndedReady : Result ℕ Stop → Shape → (v r f : List ℤ) → Type 0
EndedReady (Ok at) s v r f = (at + s.size ≤ length v) × (s.size ≤ length r)
EndedReady (Err stop) s v r f = StopReady stop s v f

-- the answer k, and r and f behind it
abbrev pub EndedGiven : Result ℕ Stop → Shape → (v r f : List ℤ) → Answer → (r' f' : List ℤ) → Type 0
EndedGiven (Ok at) s v r f k r' f' = (k ≡ Done) × Put 0 (seg at s.size v) r r' × (f' ≡ f)
EndedGiven (Err stop) s v r f k r' f' = (r' ≡ r) × StopGiven stop s v f k f'

-- ---- the work words of a GCD
pub record NeededReady (i : ℕ) (d : List ℕ) (s : ℕ) (a b : List ℤ) : Type 0 where
  pub degrees : Degrees i d
  pub few : s < 2 ^ 40
  pub some_a : 0 < length a
  pub some_b : 0 < length b
  pub few_a : degree_count a ≤ 256
  pub few_b : degree_count b ≤ 256

-- ---- the sequence of a GCD: with a slot g and a factor buffer f no number applies
pub record SoughtReady (p n : ℤ) (e t a b v : List ℤ) : Type 0 where
  pub g : List ℤ
  pub f : List ℤ
  pub passed : gcd_number p n e t a b g f v ≡ 0

-- it found o, whose words stand below top, and has changed no word behind those that it needs
pub record SoughtDone (p n : ℤ) (e t a b v w : List ℤ) (o : Result Greatest Stop) : Type 0 where
  pub top : ℕ
  pub inside : top ≤ length w
  pub kept : Kept 0 (gcd_needed n e a b) v w
  pub modulus : T (p_ok p)
  pub finds : Finds (num p) (p_positive p modulus) (degrees_of e) (num n) (tower_in p n e t modulus)
      (gcd-of (level_of p n e t modulus) (coefficients_of n e a) (polynomial_of p n e modulus (coefficients_of n e a) a)
      (coefficients_of n e b) (polynomial_of p n e modulus (coefficients_of n e b) b)) o w top

-- ---- the answer of a GCD: k coefficients stand at a place of the store v, and the slot g has room for them
pub record GreatestFits (at k : ℕ) (s : Shape) (v g : List ℤ) : Type 0 where
  pub known : Known s
  pub inside : at + k * s.size ≤ length v
  pub few : k ≤ slot_count s.size (length g)
  pub long : 1 + slot_count s.size (length g) * s.size ≡ length g
  pub short : length g ≤ 65536

-- they are copied into g, and the slot ended behind them
pub record GreatestGiven (at k : ℕ) (s : Shape) (v g g' : List ℤ) : Type 0 where
  pub copied : List ℤ
  pub put : Put 1 (seg at (k * s.size) v) g copied
  pub ended : Finished s.levels (slot_count s.size (length g)) k (slot_count s.size (length g) - k) s.degrees copied g'

abbrev pub FoundReady : Result Greatest Stop → Shape → (v g f : List ℤ) → Type 0
FoundReady (Ok m) s v g f = GreatestFits m.at m.count s v g
FoundReady (Err stop) s v g f = StopReady stop s v f

-- the answer r, and g and f behind it
abbrev pub FoundGiven : Result Greatest Stop → Shape → (v g f : List ℤ) → Answer → (g' f' : List ℤ) → Type 0
FoundGiven (Ok m) s v g f r g' f' = (r ≡ Done) × GreatestGiven m.at m.count s v g g' × (f' ≡ f)
FoundGiven (Err stop) s v g f r g' f' = (g' ≡ g) × StopGiven stop s v f r f'

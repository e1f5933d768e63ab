-- Product and division of slots: three lent lists and a store to work in.
--
-- product_count ca cb == how many coefficients a product of polynomials with ca and cb has, none where one is zero
-- slot_product        == the product on the coefficients of a slot
-- low_of              == the g lowest coefficients;  slot_remainder, slot_quotient == of a division by the monic polynomial that they make, each on a slot
-- MultiplyReady, Multiplied, DivideReady, Parted and those of their steps == what the code asks for and leaves
use Rattle.std.specs.Prelude.{ℕ, zero, suc, ◌+◌, ◌-◌, ◌*◌, ◌^◌, ◌<◌, ◌≤◌, ◌≡◌, ◌⊎◌, List, ℤ, length}
use Rattle.algebra.specs.Ring.{CRing}
use Rattle.algebra.specs.Vec.{Vec, coef, trunc}
use Rattle.algebra.specs.Series.{◌*ˢ◌}
use Rattle.algebra.specs.Divide.{quotient, remainder}
use Rattle.algebra.specs.Divided.{row}
use Rattle.residue.specs.Number.{Modulus}
use Rattle.tower.specs.Levels.{El, group, Tower, ring}
use Rattle.tower.specs.Writing.{size, tower_size, slot, degree_count}
use Rattle.tower.specs.Form.{seg}
use Rattle.tower.specs.Ready.{Sized, Positive}
use Rattle.tower.specs.Store.{Kept, Put}
use Rattle.tower.specs.Stands.{Stands, SlotStands}
use Rattle.products.specs.Product.{work, TowerStands, Elements}

abbrev pub product_count : ℕ → ℕ → ℕ
product_count zero cb = 0
product_count (suc ca) zero = 0
product_count (suc ca) (suc cb) = suc (ca + cb)

abbrev pub slot_product : (R : CRing) (k ka kb : ℕ) → Vec R.Car ka → Vec R.Car kb → Vec R.Car k
slot_product R k ka kb u v = trunc k (◌*ˢ◌ R (coef R.𝟘 ka u) (coef R.𝟘 kb v))

abbrev pub low_of : (R : CRing) (g k : ℕ) → Vec R.Car k → Vec R.Car g
low_of R g k v = trunc g (coef R.𝟘 k v)

-- of the polynomial f with ka coefficients, by the monic one of degree g with the coefficients l under its 1: on the dividend's slot
abbrev pub slot_remainder : (R : CRing) (g : ℕ) → Vec R.Car g → (ka : ℕ) → Vec R.Car ka → Vec R.Car ka
slot_remainder R g l ka f = trunc ka (coef R.𝟘 g (remainder R g l ka f))

-- on a slot of k coefficients
abbrev pub slot_quotient : (R : CRing) (g : ℕ) → Vec R.Car g → (k ka : ℕ) → Vec R.Car ka → Vec R.Car k
slot_quotient R g l k ka f = trunc k (coef R.𝟘 ka (quotient R g l ka f))

-- ---- what is the same in both: the modulus, the sizes, a tower, a slot b to read, and room in the store
pub record SlotsReady (i : ℕ) (d z : List ℕ) (p : ℕ) (t b w : List ℤ) : Type 0 where
  pub modulus : Modulus p
  pub low : i ≤ 4
  pub sized : Sized d z
  pub positive : Positive i d
  pub small : size d i ≤ 2 ^ 30
  pub tower_inside : tower_size d i ≤ length t
  pub room : size d i + work d i ≤ length w
  pub p_pos : 0 < p
  pub tower : Tower p d i
  pub tower_stands : TowerStands p p_pos d i tower t 0
  pub kb : ℕ
  pub v : Vec (El p d i) kb
  pub b_stands : SlotStands p d i kb v b 0
  pub b_inside : 1 + kb * size d i ≤ length b

-- ---- the end of an answer's slot of k coefficients: zeros for n of them, and the degree word
pub record FinishReady (i k from n : ℕ) (d z : List ℕ) (w : List ℤ) : Type 0 where
  pub low : i ≤ 4
  pub sized : Sized d z
  pub fits : from + n ≤ k
  pub inside : 1 + k * size d i ≤ length w

-- whatever stood in the other places, and is zero in these, is written
pub record Finished (i k from n : ℕ) (d : List ℕ) (w w' : List ℤ) : Type 0 where
  pub frame : Kept 0 (1 + k * size d i) w w'
  pub done : (p : ℕ) (p_pos : 0 < p) (v : Vec (El p d i) k)
      → ((j : ℕ) → j < k → (j < from) ⊎ (from + n ≤ j) → Stands p d i (coef (group p p_pos d i).𝟘 k v j) w (1 + j * size d i))
      → ((j : ℕ) → from ≤ j → j < from + n → coef (group p p_pos d i).𝟘 k v j ≡ (group p p_pos d i).𝟘)
      → Put 0 (slot p d i k v) w w'

-- ---- product: into a slot of k coefficients
pub record MultiplyReady (i k : ℕ) (d z : List ℕ) (p : ℕ) (t a b c w : List ℤ) : Type 0 where
  pub slots : SlotsReady i d z p t b w
  pub ka : ℕ
  pub u : Vec (El p d i) ka
  pub a_stands : SlotStands p d i ka u a 0
  pub a_inside : 1 + ka * size d i ≤ length a
  pub few : degree_count a * size d i ≤ 2 ^ 31
  pub fits : product_count (degree_count a) (degree_count b) ≤ k
  pub c_inside : 1 + k * size d i ≤ length c

pub record Multiplied (i k : ℕ) (d : List ℕ) (p : ℕ) (t a b c c' w w' : List ℤ) : Type 0 where
  pub frame : Kept 0 (size d i + work d i) w w'
  pub done : (p_pos : 0 < p) (tt : Tower p d i) (ka : ℕ) (u : Vec (El p d i) ka) (kb : ℕ) (v : Vec (El p d i) kb)
      → TowerStands p p_pos d i tt t 0 → SlotStands p d i ka u a 0 → SlotStands p d i kb v b 0
      → Put 0 (slot p d i k (slot_product (ring p p_pos d i tt) k ka kb u v)) c c'

-- one coefficient of it: the counts are those of the degree words
pub record MultiplyAtReady (j i : ℕ) (d z : List ℕ) (p : ℕ) (t a : List ℤ) (ca : ℕ) (b : List ℤ) (cb : ℕ) (c w : List ℤ) : Type 0 where
  pub slots : SlotsReady i d z p t b w
  pub ka : ℕ
  pub u : Vec (El p d i) ka
  pub a_stands : SlotStands p d i ka u a 0
  pub a_inside : 1 + ka * size d i ≤ length a
  pub few : degree_count a * size d i ≤ 2 ^ 31
  pub a_count : ca ≡ degree_count a
  pub b_count : cb ≡ degree_count b
  pub reached : j < product_count ca cb
  pub c_inside : 1 + j * size d i + size d i ≤ length c

pub record MultipliedAt (j i : ℕ) (d : List ℕ) (p : ℕ) (t a : List ℤ) (ca : ℕ) (b : List ℤ) (cb : ℕ) (c c' w w' : List ℤ) : Type 0 where
  pub frame : Kept 0 (size d i + work d i) w w'
  pub c_frame : Kept (1 + j * size d i) (size d i) c c'
  pub done : (p_pos : 0 < p) (tt : Tower p d i) (ka : ℕ) (u : Vec (El p d i) ka) (kb : ℕ) (v : Vec (El p d i) kb)
      → TowerStands p p_pos d i tt t 0 → SlotStands p d i ka u a 0 → SlotStands p d i kb v b 0
      → Stands p d i (◌*ˢ◌ (ring p p_pos d i tt) (coef (group p p_pos d i).𝟘 ka u) (coef (group p p_pos d i).𝟘 kb v) j) c' (1 + j * size d i)

-- ---- division by the polynomial of degree g whose coefficients under its leading 1 stand in b: the dividend's slot a has ka coefficients, the
-- quotient's slot q has kq
pub record DivideReady (i ka kq : ℕ) (d z : List ℕ) (p : ℕ) (t a b q w : List ℤ) : Type 0 where
  pub slots : SlotsReady i d z p t b w
  pub f : Vec (El p d i) ka
  pub a_stands : SlotStands p d i ka f a 0
  pub a_inside : 1 + ka * size d i ≤ length a
  pub some : 0 < degree_count b
  pub few : degree_count b * size d i ≤ 2 ^ 31
  pub fits : degree_count a - (degree_count b - 1) ≤ kq
  pub q_inside : 1 + kq * size d i ≤ length q

-- the remainder replaces the dividend, the quotient stands in q
pub record Parted (i ka kq : ℕ) (d : List ℕ) (p : ℕ) (t a a' b q q' w w' : List ℤ) : Type 0 where
  pub frame : Kept 0 (size d i + work d i) w w'
  pub left : (p_pos : 0 < p) (tt : Tower p d i) (f : Vec (El p d i) ka) (kb : ℕ) (v : Vec (El p d i) kb)
      → TowerStands p p_pos d i tt t 0 → SlotStands p d i ka f a 0 → SlotStands p d i kb v b 0
      → Put 0 (slot p d i ka (slot_remainder (ring p p_pos d i tt) (degree_count b - 1) (low_of (ring p p_pos d i tt) (degree_count b - 1) kb v) ka f)) a a'
  pub quotient : (p_pos : 0 < p) (tt : Tower p d i) (f : Vec (El p d i) ka) (kb : ℕ) (v : Vec (El p d i) kb)
      → TowerStands p p_pos d i tt t 0 → SlotStands p d i ka f a 0 → SlotStands p d i kb v b 0
      → Put 0 (slot p d i kq (slot_quotient (ring p p_pos d i tt) (degree_count b - 1) (low_of (ring p p_pos d i tt) (degree_count b - 1) kb v) kq ka f)) q q'

-- the row of the dividend's cap coefficients divided: below g in a, from g on in q
pub record DivideRowReady (i : ℕ) (d z : List ℕ) (p : ℕ) (t a b : List ℤ) (g cap : ℕ) (q w : List ℤ) : Type 0 where
  pub slots : SlotsReady i d z p t b w
  pub ka : ℕ
  pub f : Vec (El p d i) ka
  pub a_stands : SlotStands p d i ka f a 0
  pub a_inside : 1 + ka * size d i ≤ length a
  pub some : g < cap
  pub dividend : (p_pos : 0 < p) (ka : ℕ) (f : Vec (El p d i) ka) → SlotStands p d i ka f a 0 → cap ≤ ka
  pub divisor : (p_pos : 0 < p) (kb : ℕ) (v : Vec (El p d i) kb) → SlotStands p d i kb v b 0 → g ≤ kb
  pub few : g * size d i ≤ 2 ^ 31
  pub q_inside : 1 + (cap - g) * size d i ≤ length q

pub record DividedRow (i : ℕ) (d : List ℕ) (p : ℕ) (t a a' b : List ℤ) (g cap : ℕ) (q q' w w' : List ℤ) : Type 0 where
  pub frame : Kept 0 (size d i + work d i) w w'
  pub a_frame : Kept 1 (g * size d i) a a'
  pub q_frame : Kept 1 ((cap - g) * size d i) q q'
  pub low : (p_pos : 0 < p) (tt : Tower p d i) (ka : ℕ) (f : Vec (El p d i) ka) (kb : ℕ) (v : Vec (El p d i) kb)
      → TowerStands p p_pos d i tt t 0 → SlotStands p d i ka f a 0 → SlotStands p d i kb v b 0
      → Elements p d i g (row (ring p p_pos d i tt) g (low_of (ring p p_pos d i tt) g kb v) cap (coef (group p p_pos d i).𝟘 ka f)) a' 1
  pub high : (p_pos : 0 < p) (tt : Tower p d i) (ka : ℕ) (f : Vec (El p d i) ka) (kb : ℕ) (v : Vec (El p d i) kb)
      → TowerStands p p_pos d i tt t 0 → SlotStands p d i ka f a 0 → SlotStands p d i kb v b 0
      → Elements p d i (cap - g) (λ n. row (ring p p_pos d i tt) g (low_of (ring p p_pos d i tt) g kb v) cap (coef (group p p_pos d i).𝟘 ka f) (g + n)) q' 1

-- the s words at the front of the store become the k-th coefficient of a row of which those below g stand in a and the others in q
pub record PlaceReady (k g s : ℕ) (w a q : List ℤ) : Type 0 where
  pub inside : s ≤ length w
  pub a_inside : k < g → 1 + k * s + s ≤ length a
  pub q_inside : g ≤ k → 1 + (k - g) * s + s ≤ length q

pub record Placed (k g s : ℕ) (w a a' q q' : List ℤ) : Type 0 where
  pub low : k < g → Put (1 + k * s) (seg 0 s w) a a'
  pub low_rest : k < g → q' ≡ q
  pub high : g ≤ k → Put (1 + (k - g) * s) (seg 0 s w) q q'
  pub high_rest : g ≤ k → a' ≡ a

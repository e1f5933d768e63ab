-- What the two lowest levels of a product ask for and leave.
--
-- old_number keep v          == the number v where it is kept, and else 0
-- SingleReady, single_number == a sum of products of residues at one place: what it asks for, and the number that it leaves
-- PairsAtReady, SummedAt     == the pairs of one coefficient of level 1, and that their sum is made
-- DividedReady, divided_number == the residue of that sum and of what the quotient's coefficients above it take away
-- WriteReady, written_number == the word that is written for it
-- SumsReady                  == the sums of all coefficients of level 1 are made
-- LowestDone                 == all coefficients of level 1, divided by the lowest polynomial of the tower
-- LeaveReady, Left           == g elements from top on become the slot at c
use Rattle.std.specs.Prelude.{ℕ, suc, ◌+◌, ◌-◌, ◌*◌, ◌%◌, ◌^◌, ◌<◌, ◌≤◌, ◌≡◌, Bool, true, false, List, ℤ, length, set}
use Rattle.algebra.specs.Vec.{Vec}
use Rattle.algebra.specs.Windows.{first, span}
use Rattle.residue.specs.declared.Accumulator.{Accumulator}
use Rattle.residue.specs.Number.{Modulus, Room, Added}
use Rattle.residue.specs.Word.{at}
use Rattle.tower.specs.Levels.{degree, El, group, Tower}
use Rattle.tower.specs.Writing.{size}
use Rattle.tower.specs.Store.{Kept}
use Rattle.tower.specs.Stands.{SlotStands}
use Rattle.arithmetic.specs.Places.{keeps_at, loses_at, wide}
use Rattle.arithmetic.specs.Rows.{RunStands}
use Rattle.arithmetic.specs.Sum.{gained, gained_number}
use Rattle.arithmetic.specs.Walk.{pick, dot_at, run_at, Readable, PairsReady}
use Rattle.arithmetic.specs.Line.{AllSums}
use Rattle.products.specs.Product.{Two, left, right, TowerStands, Given, Pairs}

abbrev pub old_number : Bool → ℕ → ℕ
old_number true v = v
old_number false v = 0

-- a residue at c where it is kept
abbrev pub OldReady : ℕ → Bool → List ℤ → ℕ → Type 0
OldReady p keep w c = keep ≡ true → Readable w c × (at w c < p)

-- ---- level 0
pub record SingleReady (d z : List ℕ) (p : ℕ) (m : List ℕ) (o : Two) (keep : Bool) (w : List ℤ) (c : ℕ) : Type 0 where
  pub modulus : Modulus p
  pub pairs : PairsReady d z m o.i (left o w) o.a (right o w) o.b o.n
  pub few : o.n * size d o.i < 2 ^ 32
  pub inside : c < length w
  pub old : OldReady p keep w c

-- what the pairs come to at the places m, as a number
abbrev pub pairs_number : (d m : List ℕ) → Two → List ℤ → ℕ
pairs_number d m o w = run_at d m (left o w) (right o w) o.i o.n (size d o.i) o.a o.b

abbrev pub single_number : (d : List ℕ) (p : ℕ) (m : List ℕ) (o : Two) (neg keep : Bool) (w : List ℤ) (c : ℕ) → ℕ
single_number d p m o neg keep w c = gained_number neg p (old_number keep (at w c)) (pairs_number d m o w % p)

-- ---- one coefficient of level 1
-- the pairs that meet at the place k of level 1, and at the places m above
pub record PairsAtReady (g : ℕ) (d z m : List ℕ) (o : Two) (w : List ℤ) (k : ℕ) : Type 0 where
  pub lowest : g ≡ degree d 0
  pub places : length m ≡ 4
  pub pairs : PairsReady d z (set m 0 k) o.i (left o w) o.a (right o w) o.b o.n

abbrev pub SummedAt : (d m : List ℕ) (o : Two) (w : List ℤ) (k lo hi : ℕ) → Type 0
SummedAt d m o w k lo hi = Added (o.n * size d o.i) (pairs_number d (set m 0 k) o w) 0 0 lo hi

-- the tower's coefficients stand behind ea, the quotient's above the k-th negated from top + g on; lo and hi have room for all of them
pub record DividedReady (g p : ℕ) (e : List ℤ) (ea : ℕ) (w : List ℤ) (top k lo hi : ℕ) : Type 0 where
  pub modulus : Modulus p
  pub some : 0 < g
  pub reached : k < wide g
  pub low : (u : ℕ) → u < g → Readable e (ea + 1 + u)
  pub above : (u : ℕ) → k < u → u < wide g → Readable w (top + u)
  pub inside : top + wide g ≤ length w
  pub room : Room (suc g) lo hi

-- the sum t, and what the quotient takes away
abbrev pub divided_number : (g p : ℕ) (e : List ℤ) (ea : ℕ) (w : List ℤ) (top k t : ℕ) → ℕ
divided_number g p e ea w top k t = (t + dot_at e w (span g (g - 1) k) 1 (ea + 1 + first (g - 1) k) (top + g + first g k)) % p

-- the old content's coefficients stand behind c
pub record WriteReady (g p : ℕ) (e : List ℤ) (ea : ℕ) (keep : Bool) (w : List ℤ) (c top k lo hi : ℕ) : Type 0 where
  pub divided : DividedReady g p e ea w top k lo hi
  pub old : OldReady p (keeps_at keep k g) w (c + 1 + k)
  pub c_inside : c + 1 + k < length w

abbrev pub written_number : (g p : ℕ) (e : List ℤ) (ea : ℕ) (neg keep : Bool) (w : List ℤ) (c top k t : ℕ) → ℕ
written_number g p e ea neg keep w c top k t =
    gained_number (loses_at neg k g) p (old_number (keeps_at keep k g) (at w (c + 1 + k))) (divided_number g p e ea w top k t)

-- ---- level 1
-- the sums of all places of elements of level 1 with g coefficients
pub record SumsReady (places g : ℕ) (d : List ℕ) (o : Two) (w : List ℤ) (s : List Accumulator) : Type 0 where
  pub level : o.i ≡ 1
  pub lowest : g ≡ degree d 0
  pub all : places ≡ wide g
  pub sums : AllSums g (left o w) (right o w) o.n o.a o.b s

pub record LowestDone (d : List ℕ) (p : ℕ) (m : List ℕ) (e : List ℤ) (e-in : Bool) (ea : ℕ) (o : Two) (neg keep : Bool) (w w' : List ℤ) (c top : ℕ) : Type 0 where
  pub frame : Kept top (wide (degree d 0)) w w'
  pub done : (p_pos : 0 < p) (t : Tower p d 1) (u v : ℕ → El p d o.i) (old : El p d 1)
      → TowerStands p p_pos d 1 t (pick e-in w e) ea → Given p p_pos d o u v 1 old keep w c
      → RunStands p d 0 (degree d 0) (gained (group p p_pos d 1) neg old (Pairs p p_pos d 1 t o u v m)) w' top

-- ---- the answer
pub record LeaveReady (g s : ℕ) (w : List ℤ) (c top : ℕ) : Type 0 where
  pub some : 1 ≤ s
  pub below : c + 1 + g * s ≤ top
  pub inside : top + g * s ≤ length w

pub record Left (i g s : ℕ) (w w' : List ℤ) (c top : ℕ) : Type 0 where
  pub frame : Kept c (g * s + 1) w w'
  pub slot : (p : ℕ) (d : List ℕ) (v : Vec (El p d i) g) → 0 < p → s ≡ size d i → RunStands p d i g v w top → SlotStands p d i g v w' c

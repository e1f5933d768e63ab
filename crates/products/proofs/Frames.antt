-- Laws of what a product may have changed in the store: its answer's words and words from top on.
--
-- worked_trans, worked-answer, worked-above, worked-wide == two after another; only the answer's words; only those from top on; a part of the answer
-- Same b l w w'      == the l words from b on are as before;  kept_same, worked_same == those outside a frame are
-- SameIn, picked_seg == the same of an operand, where it is in the store;  elements_picked, inside_kept, operating_kept == so it is as it was
-- zeros_stand        == zeros written stand there
-- tower-kept, lefts_kept, rights_kept, given_kept == what stands below top stays while words from top on change
use Prim.Native.Nat.{ℕ, ◌+◌, ◌*◌, ◌<◌, ◌≤◌}
use native.Mathlib.Nat.{mul-le-mul_right, add-mul}
use native.Mathlib.Omega.{arith}
use mathlib.Core.Path.{◌≡◌, refl, ap, sym, ◌∙◌}
use mathlib.Core.Bool.{Bool, true, false}
use mathlib.Core.Logic.{◌⊎◌, inl, inr}
use mathlib.Core.List.{List}
use lib.IntN.{ℤ, pos}
use lib.ListN.{length, get_or}
use Rattle.algebra.specs.Vec.{coef-zero, zeroᵛ}
use Rattle.tower.specs.Levels.{El, group, zero_test, Tower}
use Rattle.tower.specs.Writing.{size, tower_size, write}
use Rattle.tower.specs.Form.{seg, copies, zero_words, is_in_form}
use Rattle.tower.specs.Lists.{copies_long}
use Rattle.tower.specs.Coding.{writes-zero}
use Rattle.tower.specs.Store.{Kept, Put, seg-kept, put-seg}
use Rattle.tower.specs.Stands.{Stands, zero_long}
use Rattle.tower.specs.Unique.{coding}
use Rattle.arithmetic.specs.Rows.{block_inside, run_block}
use Rattle.arithmetic.specs.Walk.{pick}
use Rattle.products.specs.Product.{Worked, TowerStands, Elements, Two, left, right, Inside, Given, Operating}

-- ---- places
pub parts_fit : (a b c s : ℕ) → a + b ≤ c → a * s + b * s ≤ c * s
parts_fit a b c s h = omega (arith, add-mul a b s, mul-le-mul_right s h)

-- a place that the code has computed
pub part-is : (r a k s : ℕ) {k' s' : ℕ} → r ≡ a + k * s → k ≡ k' → s ≡ s' → r ≡ a + k' * s'
part-is r a k s {k'} e f h = e ∙ ap (λ (x : ℕ). a + x * s) f ∙ ap (λ (x : ℕ). a + k' * x) h

-- ---- frames
pub worked_trans : {c n top m : ℕ} {u v w : List ℤ} → Worked c n top m u v → Worked c n top m v w → Worked c n top m u w
worked_trans f g = record {
  long = g.long ∙ f.long;
  below = λ k h. g.below k h ∙ f.below k h;
  between = λ k h l. g.between k h l ∙ f.between k h l;
  beyond = λ k h. g.beyond k h ∙ f.beyond k h;
}

pub worked-answer : {c n top m : ℕ} {w w' : List ℤ} → c + n ≤ top → Kept c n w w' → Worked c n top m w w'
worked-answer h f = record {
  long = f.long;
  below = λ k l. f.below k l;
  between = λ k l q. f.above k l;
  beyond = λ k l. f.above k (omega arith);
}

pub worked-above : {c n top m : ℕ} {w w' : List ℤ} → c + n ≤ top → Kept top m w w' → Worked c n top m w w'
worked-above h f = record {
  long = f.long;
  below = λ k l. f.below k (omega arith);
  between = λ k l q. f.below k q;
  beyond = λ k l. f.above k l;
}

-- a part of the answer
pub worked-wide : {b l c n top m : ℕ} {w w' : List ℤ} → c ≤ b → b + l ≤ c + n → Worked b l top m w w' → Worked c n top m w w'
worked-wide h q f = record {
  long = f.long;
  below = λ k r. f.below k (omega arith);
  between = λ k r s. f.between k (omega arith) s;
  beyond = λ k r. f.beyond k r;
}

-- all of it lies above a lower top
pub worked_kept : {b l top m low n : ℕ} {w w' : List ℤ} → low ≤ b → b + l ≤ top → top + m ≤ low + n → Worked b l top m w w' → Kept low n w w'
worked_kept h q r f = record { long = f.long; below = λ k s. f.below k (omega arith); above = λ k s. f.beyond k (omega arith) }

-- ---- words that are as before
pub record Same (b l : ℕ) (w w' : List ℤ) : Type 0 where
  pub long : length w' ≡ length w
  pub here : (k : ℕ) → b ≤ k → k < b + l → get_or w' k (pos 0) ≡ get_or w k (pos 0)

pub same-seg : {b l : ℕ} {w w' : List ℤ} → Same b l w w' → seg b l w' ≡ seg b l w
same-seg {b} {l} {w} {w'} s = seg-kept b l w w' s.long s.here

pub same-part : {b l a n : ℕ} {w w' : List ℤ} → b ≤ a → a + n ≤ b + l → Same b l w w' → Same a n w w'
same-part h q s = record { long = s.long; here = λ k r t. s.here k (omega arith) (omega arith) }

pub kept_same : {a n : ℕ} {w w' : List ℤ} (b l : ℕ) → (b + l ≤ a) ⊎ (a + n ≤ b) → Kept a n w w' → Same b l w w'
kept_same b l (inl h) f = record { long = f.long; here = λ k r t. f.below k (omega arith) }
kept_same b l (inr h) f = record { long = f.long; here = λ k r t. f.above k (omega arith) }

pub worked_same : {c n top m : ℕ} {w w' : List ℤ} (b l : ℕ) → (b + l ≤ c) ⊎ ((c + n ≤ b) × (b + l ≤ top)) → Worked c n top m w w' → Same b l w w'
worked_same b l (inl h) f = record { long = f.long; here = λ k r t. f.below k (omega arith) }
worked_same b l (inr h) f = record { long = f.long; here = λ k r t. f.between k (omega (arith, h.0)) (omega (arith, h.1)) }

-- ---- operands
abbrev pub SameIn : Bool → ℕ → ℕ → List ℤ → List ℤ → Type 0
SameIn within b l w w' = within ≡ true → Same b l w w'

pub picked_seg : (within : Bool) (b l : ℕ) (w w' x : List ℤ) → SameIn within b l w w' → seg b l (pick within w' x) ≡ seg b l (pick within w x)
picked_seg true b l w w' x s = same-seg (s refl)
picked_seg false b l w w' x s = refl

pub picked_long : (within : Bool) (w w' x : List ℤ) → length w' ≡ length w → length (pick within w' x) ≡ length (pick within w x)
picked_long true w w' x e = e
picked_long false w w' x e = refl

pub inside_kept : (within : Bool) (w w' x : List ℤ) {a n top top' : ℕ} → length w' ≡ length w → top ≤ top'
    → Inside within (pick within w x) a n top → Inside within (pick within w' x) a n top'
inside_kept within w w' x e h s = record { inside = omega (arith, s.inside, picked_long within w w' x e); below = λ q. omega (arith, s.below q) }

pub operating_kept : {d z : List ℕ} {p : ℕ} {o : Two} {w w' : List ℤ} {top top' : ℕ} → length w' ≡ length w → top ≤ top'
    → Operating d z p o w top → Operating d z p o w' top'
operating_kept {o = o} {w = w} {w' = w'} e h s = record {
  modulus = s.modulus;
  low = s.low;
  sized = s.sized;
  x_inside = inside_kept o.x_in w w' o.x e h s.x_inside;
  y_inside = inside_kept o.y_in w w' o.y e h s.y_inside;
  few = s.few;
}

pub elements_picked : (p : ℕ) (d : List ℕ) (i n : ℕ) (u : ℕ → El p d i) (within : Bool) (w w' x : List ℤ) (a : ℕ)
    → SameIn within a (n * size d i) w w' → Elements p d i n u (pick within w x) a → Elements p d i n u (pick within w' x) a
elements_picked p d i n u within w w' x a s h k l =
    let q = block_inside k n (size d i) l in
    picked_seg within (a + k * size d i) (size d i) w w' x (λ e. same-part (omega arith) (omega arith) (s e)) ∙ h k l

-- what lies below top is as before where only words from top on were changed
pub below_same : {within : Bool} {x : List ℤ} {a n top m : ℕ} {w w' : List ℤ} → Inside within x a n top → Kept top m w w' → SameIn within a n w w'
below_same {a = a} {n = n} s f e = kept_same a n (inl (s.below e)) f

-- so the tower's words, the pairs and the old content stand as they did
pub tower-kept : (p : ℕ) (p_pos : 0 < p) (d : List ℕ) (j : ℕ) (t : Tower p d j) (within : Bool) (w w' x : List ℤ) {a top m : ℕ}
    → Inside within (pick within w x) a (tower_size d j) top → Kept top m w w' → TowerStands p p_pos d j t (pick within w x) a
    → TowerStands p p_pos d j t (pick within w' x) a
tower-kept p p_pos d j t within w w' x {a} s f h = picked_seg within a (tower_size d j) w w' x (below_same s f) ∙ h

module _ {d z : List ℕ} {p : ℕ} {o : Two} {w w' : List ℤ} {top m : ℕ} (r : Operating d z p o w top) (f : Kept top m w w') where
  pub lefts_kept : (u : ℕ → El p d o.i) → Elements p d o.i o.n u (left o w) o.a → Elements p d o.i o.n u (left o w') o.a
  lefts_kept u h = elements_picked p d o.i o.n u o.x_in w w' o.x o.a (below_same r.x_inside f) h

  pub rights_kept : (v : ℕ → El p d o.i) → Elements p d o.i o.n v (right o w) o.b → Elements p d o.i o.n v (right o w') o.b
  rights_kept v h = elements_picked p d o.i o.n v o.y_in w w' o.y o.b (below_same r.y_inside f) h

  pub given_kept : {p_pos : 0 < p} {u v : ℕ → El p d o.i} {j : ℕ} {old : El p d j} {keep : Bool} {c : ℕ} → c + size d j ≤ top
      → Given p p_pos d o u v j old keep w c → Given p p_pos d o u v j old keep w' c
  given_kept {u = u} {v = v} {j = j} {c = c} l h = record {
    lefts = lefts_kept u h.lefts;
    rights = rights_kept v h.rights;
    kept = λ e. same-seg (kept_same c (size d j) (inl l) f) ∙ h.kept e;
    fresh = h.fresh;
  }

-- ---- zeros that were written
pub zeros_stand : (p : ℕ) (p_pos : 0 < p) (d : List ℕ) (i n : ℕ) (w w' : List ℤ) (a : ℕ) → Put a (copies n (zero_words d i)) w w'
    → (k : ℕ) → k < n → Stands p d i (group p p_pos d i).𝟘 w' (a + k * size d i)
zeros_stand p p_pos d i n w w' a h k l =
    run_block p p_pos d i n (zeroᵛ (group p p_pos d i).𝟘 n) w' a
    (put-seg (n * size d i) (copies_long n (size d i) (zero_words d i) (zero_long d i)) h
    ∙ sym (writes-zero (zero_test p p_pos d i) (size d i) (zero_words d i) (is_in_form p d i) (coding p p_pos d i) n))
    k l
    ∙ ap (write p d i) (coef-zero (group p p_pos d i).𝟘 n k)

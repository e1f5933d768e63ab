-- Sums of products of words over boxes. A way through two lists is a number of pairs and how many words apart they stand, upwards in the one and downwards
-- in the other (walk::Way); a box is a list of ways, the outermost first.
--
-- way n s           == n pairs, s words apart
-- box_at x y L a b  == what the pairs of a box come to, from a in x and down to b in y;  box_at-none, box_at-way == of no way, and of one more
-- BoxOf L x a       == the words that it reads are numbers below 2^32;                   box_of_none, box_of_way
-- volume L          == how many pairs there are;                                         volume-none, volume-way
-- BoxReady          == what the code asks for: some pairs, their words, and room for their sum
-- window_at d m i l == the window of level l + 1 in elements of level i;                 window_below, window-above == of a level below i, and of another
-- five_ways         == a run, three windows, and c residues one behind the other
use Rattle.std.specs.Prelude.{◌≡◌, Bool, true, false, List, [], ◌∷◌, ◌↔◌, ℕ, ◌+◌, ◌-◌, ◌*◌, ◌<◌, ◌≤◌, ltb, ℤ}
use Rattle.std.proofs.Math.Path.{refl}
use Rattle.std.proofs.Common.{lt-ltb, le-ltb}
use Rattle.residue.specs.Number.{Room}
use Rattle.residue.specs.Word.{at}
use Rattle.tower.specs.Writing.{size}
use Rattle.arithmetic.specs.declared.walk.Way.{Way}
use Rattle.arithmetic.specs.declared.walk.Window.{Window}
use Rattle.arithmetic.specs.Walk.{total, first_of, span_of, Readable}

-- ---- boxes
abbrev pub way : ℕ → ℕ → Way
way n s = record { count = n; step = s }

module _ (x y : List ℤ) where
  unfoldable pub box_at : List Way → ℕ → ℕ → ℕ
  box_at [] a b = at x a * at y b
  box_at (v ∷ L) a b = total v.count (λ u. box_at L (a + u * v.step) (b + (v.count - 1 - u) * v.step))

  pub box_at-none : (a b : ℕ) → box_at [] a b ≡ at x a * at y b
  unfolding box_at
  box_at-none a b = refl

  pub box_at-way : (v : Way) (L : List Way) (a b : ℕ)
      → box_at (v ∷ L) a b ≡ total v.count (λ u. box_at L (a + u * v.step) (b + (v.count - 1 - u) * v.step))
  unfolding box_at
  box_at-way v L a b = refl

unfoldable pub BoxOf : List Way → List ℤ → ℕ → Type 0
BoxOf [] x a = Readable x a
BoxOf (v ∷ L) x a = (u : ℕ) → u < v.count → BoxOf L x (a + u * v.step)

pub box_of_none : (x : List ℤ) (a : ℕ) → BoxOf [] x a ↔ Readable x a
unfolding BoxOf
box_of_none x a = (λ r. r, λ r. r)

pub box_of_way : (v : Way) (L : List Way) (x : List ℤ) (a : ℕ) → BoxOf (v ∷ L) x a ↔ ((u : ℕ) → u < v.count → BoxOf L x (a + u * v.step))
unfolding BoxOf
box_of_way v L x a = (λ r. r, λ r. r)

unfoldable pub volume : List Way → ℕ
volume [] = 1
volume (v ∷ L) = v.count * volume L

pub volume-none : volume [] ≡ 1
unfolding volume
volume-none = refl

pub volume-way : (v : Way) (L : List Way) → volume (v ∷ L) ≡ v.count * volume L
unfolding volume
volume-way v L = refl

pub record BoxReady (x : List ℤ) (a : ℕ) (y : List ℤ) (b : ℕ) (L : List Way) (lo hi : ℕ) : Type 0 where
  pub some : 0 < volume L
  pub left : BoxOf L x a
  pub right : BoxOf L y b
  pub room : Room (volume L) lo hi

-- ---- the windows of the levels
pick_window : Bool → Window → Window → Window
pick_window true v w = v
pick_window false v w = w

-- where its first coefficients stand, and the way through the pairs that meet; a level that is not below i has one pair, at 0
pub window_at : (d m : List ℕ) (i l : ℕ) → Window
window_at d m i l =
    pick_window (ltb l i) (record { at = 1 + first_of d m l * size d l; way = way (span_of d m l) (size d l) }) (record { at = 0; way = way 1 0 })

pub window_below : (d m : List ℕ) (i l : ℕ) → l < i → window_at d m i l ≡ record { at = 1 + first_of d m l * size d l; way = way (span_of d m l) (size d l) }
unfolding window_at pick_window
window_below d m i l s = rw (lt-ltb l i s)

pub window-above : (d m : List ℕ) (i l : ℕ) → i ≤ l → window_at d m i l ≡ record { at = 0; way = way 1 0 }
unfolding window_at pick_window
window-above d m i l s = rw (le-ltb l i s)

abbrev pub five_ways : (run h t l : Way) (c : ℕ) → List Way
five_ways run h t l c = run ∷ h ∷ t ∷ l ∷ way c 1 ∷ []

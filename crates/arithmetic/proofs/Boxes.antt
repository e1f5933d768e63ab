-- Laws of boxes: of one loop over a way, of the order of the ways, and that pairs of elements are boxes over the windows of their levels. Assumes nothing.
--
-- box_inside                       == the first word of a box is inside
-- Turns                            == k of n turns of a loop over the outermost way are added
-- box_place, box_turn, box_end     == where a turn starts is inside; what it asks for; all of them are the box
-- pair_ready, pair_sum             == a box of one pair
-- dot-none, dot-ready, dot_end     == a box of one way: no pairs; what it asks for; what its sum is
-- two-words, two_ways, two-sum     == a box of two ways in plain words
-- Alike                            == two boxes over the same pairs
-- alike_swap, _inside, _then, _one == neighbours exchanged; below a way; one after the other; a way of one pair
-- alike_ready, alike_sum           == the code may take the one for the other
-- rows_below, rows_across, columns_below == the orders of the five ways
-- Laid                            == an element of level i is a box, f words on
-- laid_zero, laid_up, laid_as     == a residue; one level more; a box like it
-- run_box                         == n pairs of elements are a box
-- levels, offsets, laid_levels    == the windows of the levels up to k + 1, and that an element of a level up to there is laid out so
-- pairs-ready, pairs-sum          == what their box asks for, and what its sum is
-- pairs-place                     == where it starts is inside
-- size_grows                      == an element of a higher level has more words
-- window-place, -start, window-is == the place and the start of a window do not wrap, and the code's window is the level's
use mathlib.Core.Path.{◌≡◌, refl, sym, ap, ap₂, subst, ◌∙◌, fun_ext}
use mathlib.Core.List.{List, [], ◌∷◌}
use mathlib.Core.Logic.{◌⊎◌, inl, inr}
use Prim.Native.Nat.{ℕ, zero, suc, ◌+◌, ◌-◌, ◌*◌, ◌^◌, ◌<◌, ◌≤◌}
use native.Mathlib.Nat.{add_right_comm, mul-one, mul-pos, mul_left_comm, mul-le-mul_left, mul-le-mul_right, le-mul_of_pos_right}
use native.Mathlib.Omega.{arith}
use lib.IntN.{ℤ}
use lib.ListN.{length, get_or}
use Rattle.algebra.specs.Test.{le_or_lt}
use Rattle.algebra.specs.Windows.{first, span}
use Rattle.residue.specs.Number.{Added}
use Rattle.residue.specs.Word.{at}
use Rattle.residue.proofs.Laws.{room-start, room-less, added_none, added_more}
use Rattle.tower.specs.Levels.{degree}
use Rattle.tower.specs.Writing.{size, size-zero, size_suc, size-pos}
use Rattle.arithmetic.specs.declared.walk.Way.{Way}
use Rattle.arithmetic.specs.declared.walk.Window.{Window}
use Rattle.arithmetic.specs.Walk.{total, total-zero, total_suc, place_of, first_of, span_of, dot_at, dots_at, pair_at, pair_at-zero, pair_at_suc, run_at}
use Rattle.arithmetic.specs.Walk.{Readable, Residues, Places, Many, DotReady, PairsReady}
use Rattle.arithmetic.specs.Box.{box_at, box_at-none, box_at-way, BoxOf, box_of_none, box_of_way, volume, volume-none, volume-way, BoxReady}
use Rattle.arithmetic.specs.Box.{way, window_at, window_below, window-above, five_ways}
use Rattle.arithmetic.proofs.Walks.{grid_swap, Folded, folded_room, folded_end, residues_zero, residues_suc}

-- ---- the words of a box
some_left : (n v : ℕ) → 0 < n * v → 0 < n
some_left zero v h = omega arith
some_left (suc n) v h = omega arith

some_right : (n v : ℕ) → 0 < n * v → 0 < v
some_right n zero h = omega arith
some_right n (suc v) h = omega arith

pub box_inside : (L : List Way) (x : List ℤ) (a : ℕ) → 0 < volume L → BoxOf L x a → a < length x
box_inside [] x a h r = ((box_of_none x a).0 r).inside
box_inside (v ∷ L) x a h r =
    let g : 0 < v.count * volume L = rw (volume-way v L) at h in
    omega (arith, box_inside L x (a + 0 * v.step) (some_right v.count (volume L) g) ((box_of_way v L x a).0 r 0 (some_left v.count (volume L) g)))

-- ---- a loop over the outermost way
abbrev pub Turns : (x y : List ℤ) (a b n s : ℕ) (L : List Way) (lo hi k l t : ℕ) → Type 0
Turns x y a b n s L lo hi k l t = Folded n (volume L) (λ u. box_at x y L (a + u * s) (b + (n - 1 - u) * s)) lo hi k l t

module _ {x : List ℤ} {a : ℕ} {y : List ℤ} {b : ℕ} {v : Way} {L : List Way} {lo hi : ℕ} (p : BoxReady x a y b (v ∷ L) lo hi) where
  some_below : 0 < volume L
  some_below = some_right v.count (volume L) (rw (volume-way v L) at p.some)

  module _ (k : ℕ) (c : k < v.count) where
    left_below : BoxOf L x (a + k * v.step)
    left_below = (box_of_way v L x a).0 p.left k c

    right_below : BoxOf L y (b + (v.count - 1 - k) * v.step)
    right_below = (box_of_way v L y b).0 p.right (v.count - 1 - k) (omega arith)

    pub box_place : (a + k * v.step < length x) × (b + (v.count - 1 - k) * v.step < length y)
    box_place = (box_inside L x _ some_below left_below, box_inside L y _ some_below right_below)

    pub box_turn : {l t : ℕ} → Turns x y a b v.count v.step L lo hi k l t → BoxReady x (a + k * v.step) y (b + (v.count - 1 - k) * v.step) L l t
    box_turn f = record { some = some_below; left = left_below; right = right_below; room = folded_room f c (rw (volume-way v L) at p.room) }

  pub box_end : {k l t : ℕ} → Turns x y a b v.count v.step L lo hi k l t → v.count ≤ k → Added (volume (v ∷ L)) (box_at x y (v ∷ L) a b) lo hi l t
  box_end f h = rw (volume-way v L, box_at-way x y v L a b) (folded_end f h)

-- ---- one pair
pub pair_ready : {x : List ℤ} {a : ℕ} {y : List ℤ} {b lo hi : ℕ} → BoxReady x a y b [] lo hi → Readable x a × Readable y b
pair_ready {x} {a} {y} {b} p = ((box_of_none x a).0 p.left, (box_of_none y b).0 p.right)

pub pair_sum : (x : List ℤ) (a : ℕ) (y : List ℤ) (b : ℕ) {u lo hi l t : ℕ} → u ≡ at x a * at y b → Added 1 u lo hi l t
    → Added (volume []) (box_at x y [] a b) lo hi l t
pair_sum x a y b e r = rw (volume-none, box_at-none x y a b) (rw e at r)

-- ---- one way
one_way : (v : Way) → volume (v ∷ []) ≡ v.count
one_way v = volume-way v [] ∙ ap (λ n. v.count * n) volume-none ∙ mul-one v.count

module _ (x : List ℤ) (a : ℕ) (y : List ℤ) (b n s : ℕ) {lo hi : ℕ} where
  pub dot-none : n ≡ 0 → Added n (dot_at x y n s a b) lo hi lo hi
  dot-none e =
      let z = total-zero (λ u. at x (a + u * s) * at y (b + (0 - 1 - u) * s)) in
      rw (e, z) (added_none lo hi)

  pub dot-ready : DotReady x a y b n s lo hi → 0 < n → BoxReady x a y b (way n s ∷ []) lo hi
  dot-ready p h = record {
    some = rw (one_way (way n s)) h;
    left = (box_of_way (way n s) [] x a).1 (λ u c. (box_of_none x (a + u * s)).1 (p.left u c));
    right = (box_of_way (way n s) [] y b).1 (λ u c. (box_of_none y (b + u * s)).1 (p.right u c));
    room = rw (one_way (way n s)) p.room;
  }

  pub dot_end : {l t : ℕ} → Added (volume (way n s ∷ [])) (box_at x y (way n s ∷ []) a b) lo hi l t → Added n (dot_at x y n s a b) lo hi l t
  unfolding box_at
  dot_end r = rw (one_way (way n s)) at r

-- ---- two ways
pub two-words : (v w : Way) (x : List ℤ) (a : ℕ) → ((o : ℕ) → o < v.count → (u : ℕ) → u < w.count → Readable x (a + o * v.step + u * w.step))
    → BoxOf (v ∷ w ∷ []) x a
unfolding BoxOf
two-words v w x a r = r

pub two_ways : (v w : Way) → volume (v ∷ w ∷ []) ≡ v.count * w.count
two_ways v w = volume-way v (w ∷ []) ∙ ap (λ n. v.count * n) (one_way w)

pub two-sum : (x y : List ℤ) (v w : Way) (a b : ℕ) → box_at x y (v ∷ w ∷ []) a b ≡ dots_at x y v.count v.step w.count w.step a b
unfolding box_at
two-sum x y v w a b = refl

-- ---- the order of the ways
pub record Alike (K L : List Way) : Type 0 where
  pub sum : (x y : List ℤ) (a b : ℕ) → box_at x y K a b ≡ box_at x y L a b
  pub words : (x : List ℤ) (a : ℕ) → BoxOf K x a → BoxOf L x a
  pub count : volume K ≡ volume L

pub alike_swap : (v w : Way) (L : List Way) → Alike (v ∷ w ∷ L) (w ∷ v ∷ L)
unfolding box_at BoxOf volume
alike_swap v w L = record {
  sum = λ x y a b. grid_swap (box_at x y L) v.count v.step w.count w.step a b;
  words = λ x a r o h u k. subst (BoxOf L x) (add_right_comm a (u * v.step) (o * w.step)) (r u k o h);
  count = mul_left_comm v.count w.count (volume L);
}

pub alike_inside : (v : Way) {K L : List Way} → Alike K L → Alike (v ∷ K) (v ∷ L)
unfolding box_at BoxOf volume
alike_inside v r = record {
  sum = λ x y a b. ap (total v.count) (fun_ext (λ u. r.sum x y (a + u * v.step) (b + (v.count - 1 - u) * v.step)));
  words = λ x a q u k. r.words x (a + u * v.step) (q u k);
  count = ap (λ n. v.count * n) r.count;
}

pub alike_then : {K L M : List Way} → Alike K L → Alike L M → Alike K M
alike_then r q = record {
  sum = λ x y a b. r.sum x y a b ∙ q.sum x y a b;
  words = λ x a h. q.words x a (r.words x a h);
  count = r.count ∙ q.count;
}

pub alike_one : (s : ℕ) (L : List Way) → Alike L (way 1 s ∷ L)
alike_one s L = record {
  sum = λ x y a b.
      let h : ℕ → ℕ = λ u. box_at x y L (a + u * s) (b + (1 - 1 - u) * s) in
      let e : h 0 ≡ box_at x y L a b = ap₂ (box_at x y L) (omega arith) (omega arith) in
      omega (arith, box_at-way x y (way 1 s) L a b, total_suc 0 h, total-zero h, e);
  words = λ x a r. (box_of_way (way 1 s) L x a).1 (λ u k.
      let e : u ≡ 0 = omega arith in
      rw e (subst (BoxOf L x) (omega arith) r));
  count = omega (arith, volume-way (way 1 s) L);
}

module _ {K L : List Way} (r : Alike K L) {x : List ℤ} {a : ℕ} {y : List ℤ} {b lo hi : ℕ} (p : BoxReady x a y b K lo hi) where
  pub alike_ready : BoxReady x a y b L lo hi
  alike_ready = record {
    some = rw r.count at p.some;
    left = r.words x a p.left;
    right = r.words y b p.right;
    room = rw r.count at p.room;
  }

  pub alike_sum : {l t : ℕ} → Added (volume L) (box_at x y L a b) lo hi l t → Added (volume K) (box_at x y K a b) lo hi l t
  alike_sum q = rw (r.count, r.sum x y a b) q

-- five ways: the first below the next two, then across the last two
module _ (run h t l g : Way) where
  pub rows_below : Alike (run ∷ h ∷ t ∷ l ∷ g ∷ []) (h ∷ t ∷ run ∷ l ∷ g ∷ [])
  rows_below = alike_then (alike_swap run h _) (alike_inside h (alike_swap run t _))

  pub rows_across : Alike (run ∷ h ∷ t ∷ l ∷ g ∷ []) (h ∷ t ∷ run ∷ g ∷ l ∷ [])
  rows_across = alike_then rows_below (alike_inside h (alike_inside t (alike_inside run (alike_swap l g []))))

  pub columns_below : Alike (run ∷ h ∷ t ∷ l ∷ g ∷ []) (h ∷ t ∷ l ∷ g ∷ run ∷ [])
  columns_below =
      alike_then rows_below (alike_inside h (alike_inside t (alike_then (alike_swap run l _) (alike_inside l (alike_swap run g [])))))

-- ---- elements as boxes
pub record Laid (d m : List ℕ) (i : ℕ) (L : List Way) (f : ℕ) : Type 0 where
  pub sum : (x y : List ℤ) (a b : ℕ) → pair_at d m x y i a b ≡ box_at x y L (a + f) (b + f)
  pub words : (x : List ℤ) (a : ℕ) → Residues d i x a → BoxOf L x (a + f)
  pub few : volume L ≤ size d i
  pub some : 0 < volume L

pub laid_zero : (d m : List ℕ) → Laid d m 0 [] 0
laid_zero d m = record {
  sum = λ x y a b. pair_at-zero d m x y a b ∙ ap₂ (λ a b. at x a * at y b) (omega arith) (omega arith) ∙ sym (box_at-none x y (a + 0) (b + 0));
  words = λ x a r. (box_of_none x (a + 0)).1 (subst (Readable x) (omega arith) ((residues_zero d x a).0 r));
  few = omega (arith, volume-none, size-zero d);
  some = omega (arith, volume-none);
}

address : (a f u s o : ℕ) → a + 1 + (f + u) * s + o ≡ a + (1 + f * s + o) + u * s
address a f u s o = omega arith

-- a coefficient of the window is one of the element's
in_window : (g k u : ℕ) → u < span g g k → first g k + u < g
in_window g k u s = omega arith

module _ {d m : List ℕ} {k : ℕ} {L : List Way} {f : ℕ} (r : place_of m k + 1 < degree d k + degree d k) (q : Laid d m k L f) where
  pub laid_up : Laid d m (suc k) (way (span_of d m k) (size d k) ∷ L) (1 + first_of d m k * size d k + f)
  laid_up = record {
    sum = λ x y a b.
        pair_at_suc d m x y k a b
        ∙ ap (total (span_of d m k)) (fun_ext (λ u.
        q.sum x y _ _
        ∙ ap₂ (box_at x y L) (address a (first_of d m k) u (size d k) f) (address b (first_of d m k) (span_of d m k - 1 - u) (size d k) f)))
        ∙ sym (box_at-way x y (way (span_of d m k) (size d k)) L (a + (1 + first_of d m k * size d k + f)) (b + (1 + first_of d m k * size d k + f)));
    words = λ x a h. (box_of_way (way (span_of d m k) (size d k)) L x (a + (1 + first_of d m k * size d k + f))).1 (λ u s.
        subst (BoxOf L x) (address a (first_of d m k) u (size d k) f)
        (q.words x _ ((residues_suc d k x a).0 h (first_of d m k + u) (in_window (degree d k) (place_of m k) u s))));
    few =
        let most : span_of d m k ≤ degree d k = omega arith in
        omega (
          arith,
          volume-way (way (span_of d m k) (size d k)) L,
          size_suc d k,
          mul-le-mul_left (span_of d m k) q.few,
          mul-le-mul_right (size d k) most,
        );
    some =
        let s : 0 < span_of d m k = omega arith in
        rw (volume-way (way (span_of d m k) (size d k)) L) (mul-pos s q.some);
  }

pub laid_as : {d m : List ℕ} {i : ℕ} {K L : List Way} {f : ℕ} → Alike K L → Laid d m i K f → Laid d m i L f
laid_as {f = f} r q = record {
  sum = λ x y a b. q.sum x y a b ∙ r.sum x y (a + f) (b + f);
  words = λ x a h. r.words x (a + f) (q.words x a h);
  few = rw r.count at q.few;
  some = rw r.count at q.some;
}

-- n elements, `step` words apart
past : (a u s f : ℕ) → a + u * s + f ≡ a + f + u * s
past a u s f = omega arith

module _ {d m : List ℕ} {i : ℕ} {L : List Way} {f : ℕ} (q : Laid d m i L f) (n step : ℕ) where
  pub run_box : (x y : List ℤ) (a b : ℕ) → run_at d m x y i n step a b ≡ box_at x y (way n step ∷ L) (a + f) (b + f)
  run_box x y a b =
      ap (total n) (fun_ext (λ u.
      q.sum x y (a + u * step) (b + (n - 1 - u) * step) ∙ ap₂ (box_at x y L) (past a u step f) (past b (n - 1 - u) step f)))
      ∙ sym (box_at-way x y (way n step) L (a + f) (b + f))

  run-words : (x : List ℤ) (a : ℕ) → Many d i n step x a → BoxOf (way n step ∷ L) x (a + f)
  run-words x a h = (box_of_way (way n step) L x (a + f)).1 (λ u s. subst (BoxOf L x) (past a u step f) (q.words x (a + u * step) (h u s)))

  run_few : volume (way n step ∷ L) ≤ n * size d i
  run_few = rw (volume-way (way n step) L) (mul-le-mul_left n q.few)

-- ---- the windows of the levels up to k + 1, the highest first; residues stand one behind the other
levels : (d m : List ℕ) (i k : ℕ) → List Way
levels d m i zero = way (window_at d m i 0).way.count 1 ∷ []
levels d m i (suc k) = (window_at d m i (suc k)).way ∷ levels d m i k

offsets : (d m : List ℕ) (i k : ℕ) → ℕ
offsets d m i zero = (window_at d m i 0).at
offsets d m i (suc k) = (window_at d m i (suc k)).at + offsets d m i k

module _ {d z m : List ℕ} {i : ℕ} (p : Places d z m i) where
  -- the levels below i: the element of level k + 1
  laid_below : (k : ℕ) → k < i → Laid d m (suc k) (levels d m i k) (offsets d m i k)
  unfolding levels offsets
  laid_below zero s =
      let e : 1 + first_of d m 0 * size d 0 + 0 ≡ 1 + first_of d m 0 * size d 0 = omega arith in
      subst (λ w. Laid d m 1 (way w.way.count 1 ∷ []) w.at) (sym (window_below d m i 0 s))
      (subst (λ o. Laid d m 1 (way (span_of d m 0) o ∷ []) (1 + first_of d m 0 * size d 0)) (size-zero d)
      (subst (Laid d m 1 (way (span_of d m 0) (size d 0) ∷ [])) e (laid_up (p.reached 0 s) (laid_zero d m))))
  laid_below (suc k) s =
      subst (λ w. Laid d m (suc (suc k)) (w.way ∷ levels d m i k) (w.at + offsets d m i k)) (sym (window_below d m i (suc k) s))
      (laid_up (p.reached (suc k) s) (laid_below k (omega arith)))

  -- all of them, and levels that have one pair
  laid_levels : (k : ℕ) → i ≤ suc k → Laid d m i (levels d m i k) (offsets d m i k)
  unfolding levels offsets
  laid_levels zero s = which (le_or_lt i 0)
    where
      which : (i ≤ 0) ⊎ (0 < i) → Laid d m i (levels d m i 0) (offsets d m i 0)
      which (inl le) =
          let e : 0 ≡ i = omega arith in
          subst (λ w. Laid d m i (way w.way.count 1 ∷ []) w.at) (sym (window-above d m i 0 le))
          (laid_as (alike_one 1 []) (subst (λ j. Laid d m j [] 0) e (laid_zero d m)))
      which (inr lt) =
          let e : 1 ≡ i = omega arith in
          subst (λ j. Laid d m j (levels d m i 0) (offsets d m i 0)) e (laid_below 0 lt)
  laid_levels (suc k) s = which (laid_levels k) (le_or_lt i (suc k))
    where
      which : (i ≤ suc k → Laid d m i (levels d m i k) (offsets d m i k)) → (i ≤ suc k) ⊎ (suc k < i) → Laid d m i (levels d m i (suc k)) (offsets d m i (suc k))
      which lower (inl le) =
          let e : offsets d m i k ≡ 0 + offsets d m i k = omega arith in
          subst (λ w. Laid d m i (w.way ∷ levels d m i k) (w.at + offsets d m i k)) (sym (window-above d m i (suc k) le))
          (subst (Laid d m i (way 1 0 ∷ levels d m i k)) e (laid_as (alike_one 0 (levels d m i k)) (lower le)))
      which lower (inr lt) =
          let e : suc (suc k) ≡ i = omega arith in
          subst (λ j. Laid d m j (levels d m i (suc k)) (offsets d m i (suc k))) e (laid_below (suc k) lt)

  -- four levels
  pub laid_windows : (h t l g : Window) → h ≡ window_at d m i 3 → t ≡ window_at d m i 2 → l ≡ window_at d m i 1 → g ≡ window_at d m i 0
      → Laid d m i (h.way ∷ t.way ∷ l.way ∷ way g.way.count 1 ∷ []) (h.at + t.at + l.at + g.at)
  unfolding levels offsets
  laid_windows h t l g eh et el eg =
      rw (eh, et, el, eg) (subst (Laid d m i _) (omega arith) (laid_levels 3 p.low))

-- ---- pairs of elements, in the code's numbers
module _ {d z m : List ℕ} {i : ℕ} {x : List ℤ} {a : ℕ} {y : List ℤ} {b n : ℕ} (p : PairsReady d z m i x a y b n) {u : ℕ} {h t l g : Window}
    (eu : u ≡ get_or z i 0) (eh : h ≡ window_at d m i 3) (et : t ≡ window_at d m i 2) (el : l ≡ window_at d m i 1) (eg : g ≡ window_at d m i 0) where
  step-at : u ≡ size d i
  step-at = eu ∙ p.places.sized.at i p.places.low

  laid : Laid d m i (h.way ∷ t.way ∷ l.way ∷ way g.way.count 1 ∷ []) (h.at + t.at + l.at + g.at)
  laid = laid_windows p.places h t l g eh et el eg

  pub pairs-ready : 0 < n → BoxReady x (a + (h.at + t.at + l.at + g.at)) y (b + (h.at + t.at + l.at + g.at)) (five_ways (way n u) h.way t.way l.way g.way.count) 0 0
  pairs-ready s = rw step-at (record {
    some = rw (volume-way (way n (size d i)) _) (mul-pos s laid.some);
    left = run-words laid n (size d i) x a p.left;
    right = run-words laid n (size d i) y b p.right;
    room = room-less _ (n * size d i) 0 0 (run_few laid n (size d i)) (room-start (n * size d i) p.few);
  })

  -- where it starts is inside
  pub pairs-place : 0 < n → (a + (h.at + t.at + l.at + g.at) < length x) × (b + (h.at + t.at + l.at + g.at) < length y)
  pairs-place s =
      let r = pairs-ready s in
      (box_inside _ x _ r.some r.left, box_inside _ y _ r.some r.right)

  pub pairs-sum : {q o : ℕ} → Added (volume (five_ways (way n u) h.way t.way l.way g.way.count))
      (box_at x y (five_ways (way n u) h.way t.way l.way g.way.count) (a + (h.at + t.at + l.at + g.at)) (b + (h.at + t.at + l.at + g.at))) 0 0 q o
      → Added (n * size d i) (run_at d m x y i n (size d i) a b) 0 0 q o
  pairs-sum {q} {o} r =
      rw (run_box laid n (size d i) x y a b)
      (added_more _ (n * size d i) _ 0 0 q o (run_few laid n (size d i)) (rw step-at at r))

-- ---- the numbers of a window
-- where every degree is positive, sizes grow
pub size_grows : (d : List ℕ) (k i : ℕ) → k ≤ i → ((l : ℕ) → k ≤ l → l < i → 0 < degree d l) → size d k ≤ size d i
size_grows d k zero h f =
    let e : k ≡ 0 = omega arith in
    rw e (omega arith)
size_grows d k (suc i) h f = which (size_grows d k i) (le_or_lt k i)
  where
    which : (k ≤ i → ((l : ℕ) → k ≤ l → l < i → 0 < degree d l) → size d k ≤ size d i) → (k ≤ i) ⊎ (i < k) → size d k ≤ size d (suc i)
    which lower (inl le) =
        let more : 1 * size d i ≤ degree d i * size d i = mul-le-mul_right (size d i) (f i le (omega arith)) in
        omega (arith, lower le (λ l q s. f l q (omega arith)), size_suc d i)
    which lower (inr lt) =
        let e : k ≡ suc i = omega arith in
        rw e (omega arith)

module _ {d z m : List ℕ} {i : ℕ} (p : Places d z m i) (small : size d i ≤ 2 ^ 32) {l : ℕ} (s : l < i) {g k u : ℕ}
    (eg : g ≡ degree d l) (ek : k ≡ place_of m l) (eu : u ≡ get_or z l 0) where
  size_known : u ≡ size d l
  size_known = eu ∙ p.sized.at l (omega (arith, p.low))

  reached : k + 1 < g + g
  reached = rw (eg, ek) (p.reached l s)

  -- the element of the level above has its words
  words_few : g * u < 2 ^ 32
  words_few =
      let grows = size_grows d (suc l) i s (λ j q t. (let r = p.reached j t in omega arith)) in
      rw (eg, size_known) (omega (arith, size_suc d l))

  pub window-place : (k + 1 ≤ g + g) × (k + 1 < 2 ^ 64)
  window-place =
      let most : g ≤ g * u = le-mul_of_pos_right g (rw size_known (size-pos d l)) in
      (omega (arith, reached), omega (arith, reached, words_few))

  module _ {f : ℕ} (ef : f ≡ first g k) where
    pub window-start : f * u < 2 ^ 32
    window-start =
        let most : f ≤ g = omega (arith, reached) in
        omega (arith, mul-le-mul_right u most, words_few)

    pub window-is : {c : ℕ} → c ≡ span g g k → record { at = 1 + f * u; way = way c u } ≡ window_at d m i l
    window-is ec = rw (ec, ef, eg, ek, size_known) (sym (window_below d m i l s))

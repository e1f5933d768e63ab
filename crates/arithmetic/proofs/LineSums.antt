-- Laws of the sums over pairs of elements of level 1, and that they are what n pairs of any level come to. Assumes nothing.
--
-- line_inside                          == the window's first coefficients are inside
-- line-rows, line_columns              == what the rows of a window ask for, by either way through it
-- rows-line, columns_line, none-line   == and what their sum is; no pairs
-- line-run                             == what n pairs come to is `run_at` at level 1
-- line-ready, line_reached, line_few   == what is known of pairs of elements of level 1, in numbers alone
use mathlib.Core.Path.{◌≡◌, sym, ap, ap₂, subst, ◌∙◌, fun_ext}
use mathlib.Core.List.{List, [], ◌∷◌}
use Prim.Native.Nat.{ℕ, suc, ◌+◌, ◌-◌, ◌*◌, ◌<◌, ◌≤◌}
use native.Mathlib.Nat.{zero-mul, mul-pos, mul-le-mul_left}
use native.Mathlib.Numerals.{add-one}
use native.Mathlib.Omega.{arith}
use lib.IntN.{ℤ}
use lib.ListN.{length}
use Rattle.algebra.specs.Windows.{first, span}
use Rattle.residue.specs.Number.{Added}
use Rattle.residue.specs.Word.{at}
use Rattle.residue.proofs.Laws.{room-start, room-less, added_none, added_more}
use Rattle.tower.specs.Levels.{degree}
use Rattle.tower.specs.Writing.{size, size-zero, size_suc}
use Rattle.arithmetic.specs.Walk.{total, total-zero, place_of, first_of, span_of, dot_at, pair_at-zero, pair_at_suc, run_at, Readable, Many, PairsReady}
use Rattle.arithmetic.specs.Box.{way, box_at, BoxOf, volume, BoxReady}
use Rattle.arithmetic.specs.Line.{line_at, PlaceReached, LineOf, LineReady}
use Rattle.arithmetic.proofs.Boxes.{two-words, two_ways, two-sum, alike_swap, alike_ready, alike_sum}
use Rattle.arithmetic.proofs.Walks.{residues_zero, residues_suc}

-- ---- the window at a place, as rows or as columns
module _ (g k n : ℕ) (x : List ℤ) (a : ℕ) (p : LineOf g n x a) {f c : ℕ} (ef : f ≡ first g k) (ec : c ≡ span g g k) where
  in_rows : BoxOf (way n (g + 1) ∷ way c 1 ∷ []) x (a + 1 + f)
  in_rows = two-words (way n (g + 1)) (way c 1) x (a + 1 + f) (λ o s u t.
      let e : a + o * suc g + 1 + (f + u) ≡ a + 1 + f + o * (g + 1) + u * 1 = omega arith in
      subst (Readable x) e (p o s (f + u) (omega arith)))

pub none-line : (x y : List ℤ) (g k n a b : ℕ) → n ≡ 0 → Added (n * suc g) (line_at x y g k n a b) 0 0 0 0
none-line x y g k n a b e =
    let z = total-zero (λ o. dot_at x y (span g g k) 1 (a + 1 + first g k + o * suc g) (b + 1 + first g k + (0 - 1 - o) * suc g)) in
    rw (e, zero-mul (suc g), z) (added_none 0 0)

module _ {g : ℕ} {x : List ℤ} {a : ℕ} {y : List ℤ} {b n : ℕ} (p : LineReady g x a y b n) (k : ℕ) (r : PlaceReached g k) where
  pub line_inside : {f : ℕ} → 0 < n → f ≡ first g k → (a + 1 + f < length x) × (b + 1 + f < length y)
  line_inside {f} s ef = (omega (arith, (p.left 0 s f (omega arith)).inside), omega (arith, (p.right 0 s f (omega arith)).inside))

  module _ {f c : ℕ} (ef : f ≡ first g k) (ec : c ≡ span g g k) where
    -- the window takes no more words than the elements
    few : n * c ≤ n * suc g
    few =
        let most : c ≤ suc g = omega arith in
        mul-le-mul_left n most

    pub line-rows : 0 < n → BoxReady x (a + 1 + f) y (b + 1 + f) (way n (g + 1) ∷ way c 1 ∷ []) 0 0
    line-rows s =
        let t : 0 < c = omega arith in
        record {
          some = rw (two_ways (way n (g + 1)) (way c 1)) (mul-pos s t);
          left = in_rows g k n x a p.left ef ec;
          right = in_rows g k n y b p.right ef ec;
          room = rw (two_ways (way n (g + 1)) (way c 1)) (room-less _ (n * suc g) 0 0 few (room-start (n * suc g) p.few));
        }

    pub line_columns : 0 < n → BoxReady x (a + 1 + f) y (b + 1 + f) (way c 1 ∷ way n (g + 1) ∷ []) 0 0
    line_columns s = alike_ready (alike_swap (way n (g + 1)) (way c 1) []) (line-rows s)

    pub rows-line : {l t : ℕ} → Added (volume (way n (g + 1) ∷ way c 1 ∷ [])) (box_at x y (way n (g + 1) ∷ way c 1 ∷ []) (a + 1 + f) (b + 1 + f)) 0 0 l t
        → Added (n * suc g) (line_at x y g k n a b) 0 0 l t
    rows-line {l} {t} w =
        let e : box_at x y (way n (g + 1) ∷ way c 1 ∷ []) (a + 1 + f) (b + 1 + f) ≡ line_at x y g k n a b =
        two-sum x y (way n (g + 1)) (way c 1) (a + 1 + f) (b + 1 + f) ∙ rw (ef, ec, add-one g) in
        added_more (n * c) (n * suc g) _ 0 0 l t few (rw (two_ways (way n (g + 1)) (way c 1), e) at w)

    pub columns_line : {l t : ℕ} → 0 < n → Added (volume (way c 1 ∷ way n (g + 1) ∷ [])) (box_at x y (way c 1 ∷ way n (g + 1) ∷ []) (a + 1 + f) (b + 1 + f)) 0 0 l t
        → Added (n * suc g) (line_at x y g k n a b) 0 0 l t
    columns_line s w = rows-line (alike_sum (alike_swap (way n (g + 1)) (way c 1) []) (line-rows s) w)

-- ---- as pairs of elements of any level
level-one : (d : List ℕ) → size d 1 ≡ suc (degree d 0)
level-one d = omega (arith, size_suc d 0, ap (λ s. degree d 0 * s) (size-zero d))

pub line_few : (d : List ℕ) (g n : ℕ) → g ≡ degree d 0 → n * suc g ≡ n * size d 1
line_few d g n eg = rw (level-one d, eg)

place_of_lem : (a v s f u o g : ℕ) → s ≡ suc g → o ≡ 1 → a + v * s + 1 + (f + u) * o ≡ a + 1 + f + v * suc g + u * 1
place_of_lem a v s f u o g es eo = rw (es, eo) (omega arith)

pub line-run : (d m : List ℕ) (x y : List ℤ) (n a b g k : ℕ) → g ≡ degree d 0 → k ≡ place_of m 0 → line_at x y g k n a b ≡ run_at d m x y 1 n (size d 1) a b
line-run d m x y n a b g k eg ek =
    let place : (a v u : ℕ) → a + v * size d 1 + 1 + (first_of d m 0 + u) * size d 0 ≡ a + 1 + first_of d m 0 + v * suc (degree d 0) + u * 1
    = λ a v u. place_of_lem a v (size d 1) (first_of d m 0) u (size d 0) (degree d 0) (level-one d) (size-zero d) in
    rw (eg, ek) (sym (ap (total n) (fun_ext (λ v.
    pair_at_suc d m x y 0 (a + v * size d 1) (b + (n - 1 - v) * size d 1)
    ∙ ap (total (span_of d m 0)) (fun_ext (λ u.
    pair_at-zero d m x y _ _ ∙ ap₂ (λ i j. at x i * at y j) (place a v u) (place b (n - 1 - v) (span_of d m 0 - 1 - u))))))))

line_of : (d : List ℕ) (g n : ℕ) (x : List ℤ) (a : ℕ) → g ≡ degree d 0 → Many d 1 n (size d 1) x a → LineOf g n x a
line_of d g n x a eg p u s v t =
    let e : a + u * size d 1 + 1 + v * size d 0 ≡ a + u * suc g + 1 + v = rw (level-one d, size-zero d, eg) (omega arith) in
    subst (Readable x) e
    ((residues_zero d x (a + u * size d 1 + 1 + v * size d 0)).0
    ((residues_suc d 0 x (a + u * size d 1)).0 (p u s) v (omega arith)))

module _ {d z m : List ℕ} {x : List ℤ} {a : ℕ} {y : List ℤ} {b n : ℕ} (p : PairsReady d z m 1 x a y b n) {g : ℕ} (eg : g ≡ degree d 0) where
  pub line-ready : LineReady g x a y b n
  line-ready = record {
    left = line_of d g n x a eg p.left;
    right = line_of d g n y b eg p.right;
    few = rw (line_few d g n eg) p.few;
  }

  pub line_reached : {k : ℕ} → k ≡ place_of m 0 → PlaceReached g k
  line_reached ek = rw (eg, ek) (p.places.reached 0 (omega arith))

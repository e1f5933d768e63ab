-- The operands of a product, as words and as elements.
--
-- pairs-number   == the numbers of the pairs' words are those of the elements that stand there
-- operands-ready == and may be summed
-- line_asks, line_summed == pairs of elements of level 1, in numbers alone
use Prim.Native.Nat.{ℕ, suc, ◌+◌, ◌-◌, ◌*◌, ◌<◌}
use native.Mathlib.Omega.{arith}
use mathlib.Core.Path.{◌≡◌, sym, subst}
use mathlib.Core.List.{List}
use lib.IntN.{ℤ}
use lib.ListN.{length, set}
use lib.Seq.{get_or-set_same}
use Rattle.residue.specs.Number.{Added}
use Rattle.tower.specs.Levels.{degree, El}
use Rattle.tower.specs.Writing.{size}
use Rattle.arithmetic.specs.Rows.{block_inside}
use Rattle.arithmetic.specs.Walk.{place_of, total_cong, run_at, PairsReady}
use Rattle.arithmetic.specs.Line.{line_at, PlaceReached, LineReady}
use Rattle.arithmetic.proofs.LineSums.{line_few, line-run, line-ready, line_reached}
use Rattle.products.specs.Value.{pairs, pair-at, residues_of}
use Rattle.products.specs.Product.{Elements, Two, left, right, Operating}
use Rattle.products.specs.Lowest.{pairs_number, SummedAt}

module _ (p : ℕ) (p_pos : 0 < p) (d : List ℕ) (o : Two) (u v : ℕ → El p d o.i) (w : List ℤ) (lefts : Elements p d o.i o.n u (left o w) o.a)
    (rights : Elements p d o.i o.n v (right o w) o.b) where
  -- their number
  pub pairs-number : (m : List ℕ) → pairs_number d m o w ≡ pairs p p_pos d o.i o.n u (λ k. v (o.n - 1 - k)) m
  pairs-number m =
      total_cong o.n _ _ (λ k q. pair-at p p_pos d o.i m (u k) (v (o.n - 1 - k)) (left o w) _ (right o w) _ (lefts k q) (rights (o.n - 1 - k) (omega arith)))

  -- that it may be summed up
  pub operands-ready : (z m : List ℕ) (top : ℕ) → Operating d z p o w top → ((l : ℕ) → l < o.i → place_of m l + 1 < degree d l + degree d l)
      → PairsReady d z m o.i (left o w) o.a (right o w) o.b o.n
  operands-ready z m top r reached = record {
    places = record { low = r.low; sized = r.sized; reached = reached };
    left = λ k q.
        residues_of p p_pos d o.i (u k) (left o w) (o.a + k * size d o.i) r.modulus (lefts k q)
        (omega (arith, r.x_inside.inside, block_inside k o.n (size d o.i) q));
    right = λ k q.
        residues_of p p_pos d o.i (v k) (right o w) (o.b + k * size d o.i) r.modulus (rights k q)
        (omega (arith, r.y_inside.inside, block_inside k o.n (size d o.i) q));
    few = omega (arith, r.few);
  }

-- ---- elements of level 1
module _ (d m : List ℕ) (o : Two) (w : List ℤ) {g : ℕ} (k : ℕ) (level : o.i ≡ 1) (lowest : g ≡ degree d 0) (places : length m ≡ 4) where
  place : k ≡ place_of (set m 0 k) 0
  place = sym (get_or-set_same m 0 k 0 (omega (arith, places)))

  pub line_asks : {z : List ℕ} → PairsReady d z (set m 0 k) o.i (left o w) o.a (right o w) o.b o.n
      → PlaceReached g k × LineReady g (left o w) o.a (right o w) o.b o.n
  line_asks {z} h =
      let p = subst (λ i. PairsReady d z (set m 0 k) i (left o w) o.a (right o w) o.b o.n) level h in
      (line_reached p lowest place, line-ready p lowest)

  pub line_summed : {lo hi : ℕ} → Added (o.n * suc g) (line_at (left o w) (right o w) g k o.n o.a o.b) 0 0 lo hi → SummedAt d m o w k lo hi
  line_summed {lo} {hi} sum =
      subst (λ i. Added (o.n * size d i) (run_at d (set m 0 k) (left o w) (right o w) i o.n (size d i) o.a o.b) 0 0 lo hi) (sym level)
      (rw (← line-run d (set m 0 k) (left o w) (right o w) o.n o.a o.b g k lowest place, ← line_few d g o.n lowest) sum)

-- Laws of the sums of products: of `total`, of what a loop has added, and of residues by levels. Assumes nothing.
--
-- total-add                         == of sums of two terms
-- grid_swap                         == rows and columns of a sum over two places exchanged
-- Folded                            == k of n terms are added, each by w folds
-- folded_start, _room, _next, _end  == none is; room for the next; one more; all of them
-- residues_zero, residues_suc       == what `Residues` says at level 0, and above
-- pairs-none                        == no pairs
use mathlib.Core.Path.{◌≡◌, sym, ap, ap₂, subst, ◌∙◌, fun_ext}
use mathlib.Core.List.{List}
use mathlib.Core.Logic.{◌↔◌}
use Prim.Native.Nat.{ℕ, zero, suc, ◌+◌, ◌-◌, ◌*◌, ◌<◌, ◌≤◌}
use native.Mathlib.Nat.{add_right_comm, zero-mul, suc-mul, mul-le-mul_right}
use native.Mathlib.Numerals.{add-one}
use native.Mathlib.Omega.{arith}
use lib.IntN.{ℤ}
use Rattle.residue.specs.Number.{Room, Added}
use Rattle.residue.proofs.Laws.{room_after, added_none, added_then}
use Rattle.tower.specs.Levels.{degree}
use Rattle.tower.specs.Writing.{size}
use Rattle.arithmetic.specs.Walk.{total, total-zero, total_suc, pair_at, run_at}
use Rattle.arithmetic.specs.Walk.{Readable, Residues}

-- ---- sums
total-none : (n : ℕ) → total n (λ u. 0) ≡ 0
total-none zero = total-zero (λ u. 0)
total-none (suc n) = omega (arith, total_suc n (λ u. 0), total-none n)

pub total-add : (n : ℕ) (g h : ℕ → ℕ) → total n (λ u. g u + h u) ≡ total n g + total n h
total-add zero g h = omega (arith, total-zero (λ u. g u + h u), total-zero g, total-zero h)
total-add (suc n) g h = omega (arith, total_suc n (λ u. g u + h u), total_suc n g, total_suc n h, total-add n g h)

total_swap : (m n : ℕ) (h : ℕ → ℕ → ℕ) → total m (λ u. total n (h u)) ≡ total n (λ v. total m (λ u. h u v))
total_swap zero n h = total-zero (λ u. total n (h u)) ∙ sym (ap (total n) (fun_ext (λ v. total-zero (λ u. h u v))) ∙ total-none n)
total_swap (suc m) n h =
    total_suc m (λ u. total n (h u)) ∙ ap (λ t. t + total n (h m)) (total_swap m n h) ∙ sym (total-add n (λ v. total m (λ u. h u v)) (h m))
    ∙ sym (ap (total n) (fun_ext (λ v. total_suc m (λ u. h u v))))

-- of terms that look at two places: rows and columns exchanged
pub grid_swap : (h : ℕ → ℕ → ℕ) (rows apart n step a b : ℕ)
    → total rows (λ o. total n (λ u. h (a + o * apart + u * step) (b + (rows - 1 - o) * apart + (n - 1 - u) * step)))
    ≡ total n (λ u. total rows (λ o. h (a + u * step + o * apart) (b + (n - 1 - u) * step + (rows - 1 - o) * apart)))
grid_swap h rows apart n step a b =
    total_swap rows n (λ o u. h (a + o * apart + u * step) (b + (rows - 1 - o) * apart + (n - 1 - u) * step))
    ∙ ap (total n) (fun_ext (λ u. ap (total rows) (fun_ext (λ o.
    ap₂ h (add_right_comm a (o * apart) (u * step)) (add_right_comm b ((rows - 1 - o) * apart) ((n - 1 - u) * step))))))

-- ---- the loops: k of n terms are added, each by w folds
pub record Folded (n w : ℕ) (h : ℕ → ℕ) (lo hi k l t : ℕ) : Type 0 where
  pub most : k ≤ n
  pub sum : Added (k * w) (total k h) lo hi l t

module _ {n w : ℕ} {h : ℕ → ℕ} {lo hi : ℕ} where
  pub folded_start : Folded n w h lo hi 0 lo hi
  folded_start = record { most = omega arith; sum = rw (zero-mul w, total-zero h) (added_none lo hi) }

  module _ {k l t : ℕ} (f : Folded n w h lo hi k l t) where
    pub folded_room : k < n → Room (n * w) lo hi → Room w l t
    folded_room s r =
        room_after (k * w) w (n * w) (total k h) lo hi l t (omega (arith, suc-mul k w, mul-le-mul_right w s)) r f.sum

    pub folded_next : {v l' t' : ℕ} → k < n → v ≡ h k → Added w v l t l' t' → Folded n w h lo hi (k + 1) l' t'
    folded_next {v} {l'} {t'} s e r =
        let g : total (k + 1) h ≡ total k h + v = ap (λ j. total j h) (add-one k) ∙ total_suc k h ∙ ap (λ j. total k h + j) (sym e) in
        let c : (k + 1) * w ≡ k * w + w = omega arith in
        record { most = omega arith; sum = rw (g, c) (added_then (k * w) w (total k h) v lo hi l t l' t' f.sum r) }

    pub folded_end : n ≤ k → Added (n * w) (total n h) lo hi l t
    folded_end s =
        let e : k ≡ n = omega (arith, f.most) in
        subst (λ j. Added (j * w) (total j h) lo hi l t) e f.sum

-- ---- residues by levels
pub residues_zero : (d : List ℕ) (x : List ℤ) (a : ℕ) → Residues d 0 x a ↔ Readable x a
unfolding Residues
residues_zero d x a = (λ r. r, λ r. r)

pub residues_suc : (d : List ℕ) (i : ℕ) (x : List ℤ) (a : ℕ)
    → Residues d (suc i) x a ↔ ((k : ℕ) → k < degree d i → Residues d i x (a + 1 + k * size d i))
unfolding Residues
residues_suc d i x a = (λ r. r, λ r. r)

-- ---- no pairs
pub pairs-none : (d m : List ℕ) (i : ℕ) (x y : List ℤ) (n step a b : ℕ) → n ≡ 0 → Added (n * size d i) (run_at d m x y i n step a b) 0 0 0 0
pairs-none d m i x y n step a b e =
    let f = total-zero (λ u. pair_at d m x y i (a + u * step) (b + (0 - 1 - u) * step)) in
    rw (e, zero-mul (size d i), f) (added_none 0 0)

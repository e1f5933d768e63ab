-- Laws of tiles, and of the sums of elements of two and of four coefficients that are made of them. Assumes nothing.
--
-- Tiled                         == k of n pairs are added to the three sums
-- tile-start, tile-next         == none is; one more
-- dots-one, dots_split          == windows of one pair are pairs; a window in two parts
-- Held, held_low, held-ready, held_next == what three sums hold, where they begin, what a tile asks of them, and what it makes of them
-- sums-none                     == no pairs
-- three-ready, three-sums       == one tile is the three sums of two coefficients
-- seven-first, _half, _second, _third, seven-sums == four tiles are the seven sums of four
use mathlib.Core.Path.{◌≡◌, sym, ap, ap₂, subst, ◌∙◌, fun_ext}
use mathlib.Core.List.{List, [], ◌∷◌}
use Prim.Native.Nat.{ℕ, zero, suc, ◌+◌, ◌-◌, ◌*◌, ◌^◌, ◌<◌, ◌≤◌}
use native.Mathlib.Nat.{add-zero, add-suc, add_assoc, add_right_comm, lt_irrefl}
use native.Mathlib.Omega.{arith}
use lib.IntN.{ℤ}
use lib.ListN.{replicate}
use Rattle.std.proofs.lemmas.List.{get_or-replicate}
use Rattle.residue.specs.declared.Accumulator.{Accumulator}
use Rattle.residue.specs.Number.{Added}
use Rattle.residue.specs.Word.{at}
use Rattle.residue.proofs.Laws.{room-start, room_after, added_none, added_more, added_then}
use Rattle.arithmetic.specs.Places.{wide}
use Rattle.arithmetic.specs.Walk.{total, total-zero, total_suc, total_cong, dot_at, dots_at, Readable}
use Rattle.arithmetic.specs.Line.{LineOf, LineReady, AllSums, TileOf, TileReady, TileSums, none, sum_at}
use Rattle.arithmetic.proofs.Walks.{total-add, Folded, folded_start, folded_next}
use Rattle.arithmetic.proofs.LineSums.{none-line}

-- ---- windows in parts
total_split : (p q : ℕ) (h : ℕ → ℕ) → total (p + q) h ≡ total p h + total q (λ u. h (p + u))
total_split p zero h = omega (arith, ap (λ j. total j h) (add-zero p), total-zero (λ u. h (p + u)))
total_split p (suc q) h =
    omega (arith, ap (λ j. total j h) (add-suc p q), total_suc (p + q) h, total_suc q (λ u. h (p + u)), total_split p q h)

module _ (x y : List ℤ) where
  one_product : (a b : ℕ) → dot_at x y 1 1 a b ≡ at x a * at y b
  one_product a b =
      let h : ℕ → ℕ = λ u. at x (a + u * 1) * at y (b + (1 - 1 - u) * 1) in
      let e : h 0 ≡ at x a * at y b = ap₂ (λ i j. at x i * at y j) (omega arith) (omega arith) in
      omega (arith, total_suc 0 h, total-zero h, e)

  pub dots-one : (n s a b : ℕ) → dots_at x y n s 1 1 a b ≡ dot_at x y n s a b
  dots-one n s a b = ap (total n) (fun_ext (λ u. one_product (a + u * s) (b + (n - 1 - u) * s)))

  dot_split : (p q a b : ℕ) → dot_at x y (p + q) 1 a b ≡ dot_at x y p 1 a (b + q) + dot_at x y q 1 (a + p) b
  dot_split p q a b =
      let h : ℕ → ℕ = λ u. at x (a + u * 1) * at y (b + (p + q - 1 - u) * 1) in
      let e : total p h ≡ dot_at x y p 1 a (b + q) =
      total_cong p h (λ u. at x (a + u * 1) * at y (b + q + (p - 1 - u) * 1)) (λ u s. ap (λ j. at x (a + u * 1) * at y j) (omega arith)) in
      let f : total q (λ u. h (p + u)) ≡ dot_at x y q 1 (a + p) b =
      ap (total q) (fun_ext (λ u. ap₂ (λ i j. at x i * at y j) (omega arith) (omega arith))) in
      total_split p q h ∙ ap₂ ◌+◌ e f

  two_products : (a b : ℕ) → dot_at x y 2 1 a b ≡ at x a * at y (b + 1) + at x (a + 1) * at y b
  two_products a b = dot_split 1 1 a b ∙ ap₂ ◌+◌ (one_product a (b + 1)) (one_product (a + 1) b)

  pub dots_split : (n s p q a b : ℕ) → dots_at x y n s (p + q) 1 a b ≡ dots_at x y n s p 1 a (b + q) + dots_at x y n s q 1 (a + p) b
  dots_split n s p q a b =
      ap (total n) (fun_ext (λ o.
      dot_split p q (a + o * s) (b + (n - 1 - o) * s)
      ∙ ap₂ (λ i j. dot_at x y p 1 (a + o * s) i + dot_at x y q 1 j (b + (n - 1 - o) * s))
      (add_right_comm b ((n - 1 - o) * s) q) (add_right_comm a (o * s) p)))
      ∙ total-add n (λ o. dot_at x y p 1 (a + o * s) (b + q + (n - 1 - o) * s)) (λ o. dot_at x y q 1 (a + p + o * s) (b + (n - 1 - o) * s))

-- ---- one tile
-- k of n pairs are added
pub record Tiled (x y : List ℤ) (n step a b : ℕ) (t : List Accumulator) (k : ℕ) (low middle high : Accumulator) : Type 0 where
  pub lows : Folded n 1 (λ u. at x (a + u * step) * at y (b + (n - 1 - u) * step)) (sum_at t 0).lo (sum_at t 0).hi k low.lo low.hi
  pub middles : Folded n 2 (λ u. dot_at x y 2 1 (a + u * step) (b + (n - 1 - u) * step)) (sum_at t 1).lo (sum_at t 1).hi k middle.lo middle.hi
  pub highs : Folded n 1 (λ u. at x (a + 1 + u * step) * at y (b + 1 + (n - 1 - u) * step)) (sum_at t 2).lo (sum_at t 2).hi k high.lo high.hi

pub tile-start : (x y : List ℤ) (n step a b : ℕ) (t : List Accumulator) → Tiled x y n step a b t 0 (sum_at t 0) (sum_at t 1) (sum_at t 2)
tile-start x y n step a b t = record { lows = folded_start; middles = folded_start; highs = folded_start }

module _ {x y : List ℤ} {n step a b : ℕ} {t : List Accumulator} {k : ℕ} {low middle high : Accumulator} (f : Tiled x y n step a b t k low middle high) where
  -- the four products of a pair
  module _ {u v : ℕ} (s : k < n) (eu : u ≡ a + k * step) (ev : v ≡ b + (n - 1 - k) * step) {o q r w : ℕ}
      (eo : o ≡ at x u * at y v) (eq : q ≡ at x u * at y (v + 1)) (er : r ≡ at x (u + 1) * at y v) (ew : w ≡ at x (u + 1) * at y (v + 1)) where
    low_term : o ≡ at x (a + k * step) * at y (b + (n - 1 - k) * step)
    low_term = eo ∙ ap₂ (λ i j. at x i * at y j) eu ev

    middle_term : q + r ≡ dot_at x y 2 1 (a + k * step) (b + (n - 1 - k) * step)
    middle_term = ap₂ ◌+◌ eq er ∙ sym (two_products x y u v) ∙ ap₂ (dot_at x y 2 1) eu ev

    high_term : w ≡ at x (a + 1 + k * step) * at y (b + 1 + (n - 1 - k) * step)
    high_term =
        let eu' : u + 1 ≡ a + 1 + k * step = rw eu (add_right_comm a (k * step) 1) in
        let ev' : v + 1 ≡ b + 1 + (n - 1 - k) * step = rw ev (add_right_comm b ((n - 1 - k) * step) 1) in
        ew ∙ ap₂ (λ i j. at x i * at y j) eu' ev'

    pub tile-next : {low' middle' middle'' high' : Accumulator} → Added 1 o low.lo low.hi low'.lo low'.hi
        → Added 1 q middle.lo middle.hi middle'.lo middle'.hi → Added 1 r middle'.lo middle'.hi middle''.lo middle''.hi
        → Added 1 w high.lo high.hi high'.lo high'.hi → Tiled x y n step a b t (k + 1) low' middle'' high'
    tile-next add_low add-middle add-middle' add-high = record {
      lows = folded_next f.lows s low_term add_low;
      middles = folded_next f.middles s middle_term (added_then 1 1 q r _ _ _ _ _ _ add-middle add-middle');
      highs = folded_next f.highs s high_term add-high;
    }

-- ---- what three sums hold
-- so many folds have added these numbers, from zero
pub record Held (t : List Accumulator) (nl nm nh vl vm vh : ℕ) : Type 0 where
  pub low : Added nl vl 0 0 (sum_at t 0).lo (sum_at t 0).hi
  pub middle : Added nm vm 0 0 (sum_at t 1).lo (sum_at t 1).hi
  pub high : Added nh vh 0 0 (sum_at t 2).lo (sum_at t 2).hi

-- the low one begun, the others not
abbrev begun : Accumulator → List Accumulator
begun s = s ∷ none ∷ none ∷ []

held_low : (n v : ℕ) (s : Accumulator) → Added n v 0 0 s.lo s.hi → Held (begun s) n 0 0 v 0 0
held_low n v s h = record { low = h; middle = added_none 0 0; high = added_none 0 0 }

module _ {t : List Accumulator} {nl nm nh vl vm vh : ℕ} (h : Held t nl nm nh vl vm vh) {x : List ℤ} {a : ℕ} {y : List ℤ} {b n step : ℕ} where
  held-ready : TileOf n step x a → TileOf n step y b → nl + n ≤ 2 ^ 32 → nm + n * 2 ≤ 2 ^ 32 → nh + n ≤ 2 ^ 32 → TileReady x a y b n step t
  held-ready left right fl fm fh = record {
    left = left;
    right = right;
    low = room_after nl n (nl + n) vl 0 0 _ _ (omega arith) (room-start (nl + n) fl) h.low;
    middle = room_after nm (n * 2) (nm + n * 2) vm 0 0 _ _ (omega arith) (room-start (nm + n * 2) fm) h.middle;
    high = room_after nh n (nh + n) vh 0 0 _ _ (omega arith) (room-start (nh + n) fh) h.high;
  }

-- two neighbours among the residues of n elements
line-tile : (g n : ℕ) (x : List ℤ) (a : ℕ) → LineOf g n x a → (v : ℕ) → v + 1 < g → TileOf n (suc g) x (a + (1 + v))
line-tile g n x a p v t k s =
    let e : a + k * suc g + 1 + v ≡ a + (1 + v) + k * suc g = omega arith in
    let f : a + k * suc g + 1 + (v + 1) ≡ a + (1 + v) + k * suc g + 1 = omega arith in
    (subst (Readable x) e (p k s v (omega arith)), subst (Readable x) f (p k s (v + 1) t))

-- ---- sums over elements of g coefficients, with places counted from a and b
module _ (x y : List ℤ) (n s a b : ℕ) where
  abbrev pair : (i j : ℕ) → ℕ
  pair i j = dot_at x y n s (a + i) (b + j)

  abbrev window : (c i j : ℕ) → ℕ
  window c i j = dots_at x y n s c 1 (a + i) (b + j)

  one : (i j : ℕ) → window 1 i j ≡ pair i j
  one i j = dots-one x y n s (a + i) (b + j)

  split : (c e i j : ℕ) → window (c + e) i j ≡ window c i (j + e) + window e (i + c) j
  split c e i j =
      dots_split x y n s c e (a + i) (b + j)
      ∙ ap₂ (λ u v. dots_at x y n s c 1 (a + i) u + dots_at x y n s e 1 v (b + j)) (add_assoc b j e) (add_assoc a i c)

  counted : (c f : ℕ) → dots_at x y n s c 1 (a + 1 + f) (b + 1 + f) ≡ window c (1 + f) (1 + f)
  counted c f = ap₂ (dots_at x y n s c 1) (add_assoc a 1 f) (add_assoc b 1 f)

  -- a tile at the places i and j
  held_next : {t r : List Accumulator} {nl nm nh vl vm vh : ℕ} (i j : ℕ) → Held t nl nm nh vl vm vh → TileSums x y n s (a + i) (b + j) t r
      → Held r (nl + n) (nm + n * 2) (nh + n) (vl + pair i j) (vm + window 2 i j) (vh + pair (i + 1) (j + 1))
  held_next {nl = nl} {nm} {nh} {vl} {vm} {vh} i j h r = record {
    low = added_then nl n vl (pair i j) 0 0 _ _ _ _ h.low r.low;
    middle = added_then nm (n * 2) vm (window 2 i j) 0 0 _ _ _ _ h.middle r.middle;
    high = rw (ap₂ (dot_at x y n s) (add_assoc a i 1) (add_assoc b j 1)) at (added_then nh n vh (dot_at x y n s (a + i + 1) (b + j + 1)) 0 0 _ _ _ _ h.high r.high);
  }

-- the sum of more folds, under another name
as_line : (m n v v' : ℕ) (s : Accumulator) → m ≤ n → v ≡ v' → Added m v 0 0 s.lo s.hi → Added n v' 0 0 s.lo s.hi
as_line m n v v' s h e r = added_more m n v' 0 0 s.lo s.hi h (subst (λ u. Added m u 0 0 s.lo s.hi) e r)

-- ---- no pairs
nothing : Held (begun none) 0 0 0 0 0 0
nothing = held_low 0 0 none (added_none 0 0)

-- the sums of all places are none
pub sums-none : (g : ℕ) (x y : List ℤ) (n a b : ℕ) → n ≡ 0 → AllSums g x y n a b (replicate (wide g) none)
sums-none g x y n a b e k l = rw (get_or-replicate (wide g) k none none l) (none-line x y g k n a b e)

-- ---- two coefficients: one tile
module _ {x : List ℤ} {a : ℕ} {y : List ℤ} {b n : ℕ} (p : LineReady 2 x a y b n) where
  pub three-ready : TileReady x (a + 1) y (b + 1) n 3 (begun none)
  three-ready =
      let few : n * 3 ≤ 2 ^ 32 = p.few in
      held-ready nothing (line-tile 2 n x a p.left 0 (omega arith)) (line-tile 2 n y b p.right 0 (omega arith))
      (omega arith) (omega arith) (omega arith)

  pub three-sums : {r : List Accumulator} → TileSums x y n 3 (a + 1) (b + 1) (begun none) r → AllSums 2 x y n a b r
  three-sums {r} t = each
    where
      h : Held r (0 + n) (0 + n * 2) (0 + n) (0 + pair x y n 3 a b 1 1) (0 + window x y n 3 a b 2 1 1) (0 + pair x y n 3 a b 2 2)
      h = held_next x y n 3 a b 1 1 nothing t

      each : AllSums 2 x y n a b r
      each zero l = as_line _ (n * 3) _ _ _ (omega arith) (omega (arith, counted x y n 3 a b 1 0, one x y n 3 a b 1 1)) h.low
      each (suc zero) l = as_line _ (n * 3) _ _ _ (omega arith) (omega (arith, counted x y n 3 a b 2 0)) h.middle
      each (suc (suc zero)) l = as_line _ (n * 3) _ _ _ (omega arith) (omega (arith, counted x y n 3 a b 1 1, one x y n 3 a b 2 2)) h.high
      each (suc (suc (suc k))) l = absurd (lt_irrefl 0 (omega arith))

-- ---- four coefficients: four tiles
module _ {x : List ℤ} {a : ℕ} {y : List ℤ} {b n : ℕ} (p : LineReady 4 x a y b n) where
  few : n * 5 ≤ 2 ^ 32
  few = p.few

  left-low : TileOf n 5 x (a + 1)
  left-low = line-tile 4 n x a p.left 0 (omega arith)

  left_high : TileOf n 5 x (a + 3)
  left_high = line-tile 4 n x a p.left 2 (omega arith)

  right-low : TileOf n 5 y (b + 1)
  right-low = line-tile 4 n y b p.right 0 (omega arith)

  right_high : TileOf n 5 y (b + 3)
  right_high = line-tile 4 n y b p.right 2 (omega arith)

  pub seven-first : TileReady x (a + 1) y (b + 1) n 5 (begun none)
  seven-first = held-ready nothing left-low right-low (omega (arith, few)) (omega (arith, few)) (omega (arith, few))

  module _ {first : List Accumulator} (t₁ : TileSums x y n 5 (a + 1) (b + 1) (begun none) first) where
    h₁ : Held first (0 + n) (0 + n * 2) (0 + n) (0 + pair x y n 5 a b 1 1) (0 + window x y n 5 a b 2 1 1) (0 + pair x y n 5 a b 2 2)
    h₁ = held_next x y n 5 a b 1 1 nothing t₁

    lower : Held (begun (sum_at first 2)) (0 + n) 0 0 (0 + pair x y n 5 a b 2 2) 0 0
    lower = held_low (0 + n) (0 + pair x y n 5 a b 2 2) (sum_at first 2) h₁.high

    pub seven_half : TileReady x (a + 1) y (b + 3) n 5 (begun (sum_at first 2))
    seven_half = held-ready lower left-low right_high (omega (arith, few)) (omega (arith, few)) (omega (arith, few))

    module _ {half : List Accumulator} (t₂ : TileSums x y n 5 (a + 1) (b + 3) (begun (sum_at first 2)) half) where
      h₂ : Held half (0 + n + n) (0 + n * 2) (0 + n)
          (0 + pair x y n 5 a b 2 2 + pair x y n 5 a b 1 3) (0 + window x y n 5 a b 2 1 3) (0 + pair x y n 5 a b 2 4)
      h₂ = held_next x y n 5 a b 1 3 lower t₂

      pub seven_second : TileReady x (a + 3) y (b + 1) n 5 half
      seven_second = held-ready h₂ left_high right-low (omega (arith, few)) (omega (arith, few)) (omega (arith, few))

      module _ {second : List Accumulator} (t₃ : TileSums x y n 5 (a + 3) (b + 1) half second) where
        h₃ : Held second (0 + n + n + n) (0 + n * 2 + n * 2) (0 + n + n)
            (0 + pair x y n 5 a b 2 2 + pair x y n 5 a b 1 3 + pair x y n 5 a b 3 1) (0 + window x y n 5 a b 2 1 3 + window x y n 5 a b 2 3 1)
            (0 + pair x y n 5 a b 2 4 + pair x y n 5 a b 4 2)
        h₃ = held_next x y n 5 a b 3 1 h₂ t₃

        upper : Held (begun (sum_at second 2)) (0 + n + n) 0 0 (0 + pair x y n 5 a b 2 4 + pair x y n 5 a b 4 2) 0 0
        upper = held_low (0 + n + n) (0 + pair x y n 5 a b 2 4 + pair x y n 5 a b 4 2) (sum_at second 2) h₃.high

        pub seven_third : TileReady x (a + 3) y (b + 3) n 5 (begun (sum_at second 2))
        seven_third = held-ready upper left_high right_high (omega (arith, few)) (omega (arith, few)) (omega (arith, few))

        pub seven-sums : {third : List Accumulator} → TileSums x y n 5 (a + 3) (b + 3) (begun (sum_at second 2)) third
            → AllSums 4 x y n a b (sum_at first 0 ∷ sum_at first 1 ∷ sum_at second 0 ∷ sum_at second 1 ∷ sum_at third 0 ∷ sum_at third 1 ∷ sum_at third 2 ∷ [])
        seven-sums {third} t₄ = each
          where
            h₄ : Held third (0 + n + n + n) (0 + n * 2) (0 + n) (0 + pair x y n 5 a b 2 4 + pair x y n 5 a b 4 2 + pair x y n 5 a b 3 3)
                (0 + window x y n 5 a b 2 3 3) (0 + pair x y n 5 a b 4 4)
            h₄ = held_next x y n 5 a b 3 3 upper t₄

            each : AllSums 4 x y n a b
                (sum_at first 0 ∷ sum_at first 1 ∷ sum_at second 0 ∷ sum_at second 1 ∷ sum_at third 0 ∷ sum_at third 1 ∷ sum_at third 2 ∷ [])
            each zero l = as_line _ (n * 5) _ _ _ (omega arith) (omega (arith, counted x y n 5 a b 1 0, one x y n 5 a b 1 1)) h₁.low
            each (suc zero) l = as_line _ (n * 5) _ _ _ (omega arith) (omega (arith, counted x y n 5 a b 2 0)) h₁.middle
            each (suc (suc zero)) l =
                as_line _ (n * 5) _ _ _ (omega arith)
                (omega (
                  arith,
                  counted x y n 5 a b 3 0,
                  split x y n 5 a b 1 2 1 1,
                  one x y n 5 a b 1 3,
                  split x y n 5 a b 1 1 2 1,
                  one x y n 5 a b 2 2,
                  one x y n 5 a b 3 1,
                )) h₃.low
            each (suc (suc (suc zero))) l =
                as_line _ (n * 5) _ _ _ (omega arith) (omega (arith, counted x y n 5 a b 4 0, split x y n 5 a b 2 2 1 1)) h₃.middle
            each (suc (suc (suc (suc zero)))) l =
                as_line _ (n * 5) _ _ _ (omega arith)
                (omega (
                  arith,
                  counted x y n 5 a b 3 1,
                  split x y n 5 a b 1 2 2 2,
                  one x y n 5 a b 2 4,
                  split x y n 5 a b 1 1 3 2,
                  one x y n 5 a b 3 3,
                  one x y n 5 a b 4 2,
                )) h₄.low
            each (suc (suc (suc (suc (suc zero))))) l =
                as_line _ (n * 5) _ _ _ (omega arith) (omega (arith, counted x y n 5 a b 2 2)) h₄.middle
            each (suc (suc (suc (suc (suc (suc zero)))))) l =
                as_line _ (n * 5) _ _ _ (omega arith) (omega (arith, counted x y n 5 a b 1 3, one x y n 5 a b 4 4)) h₄.high
            each (suc (suc (suc (suc (suc (suc (suc k))))))) l = absurd (lt_irrefl 0 (omega arith))

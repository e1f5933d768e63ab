-- Laws of one coefficient of level 1 of a product: its own sum, and the window of the tower's coefficients with the negated ones above it.
--
-- row_number == the number that the words give is the coefficient of the row divided in place
-- at_places, at-dot, at_room, at-number == where its words are, that its sums have room, and the number that the code makes
use Prim.Native.Nat.{ℕ, zero, suc, ◌+◌, ◌-◌, ◌*◌, ◌%◌, ◌^◌, ◌<◌, ◌≤◌}
use native.Mathlib.Omega.{arith}
use mathlib.Core.Path.{◌≡◌, refl, sym, ap, ap₂, ◌∙◌, subst}
use mathlib.Core.List.{List}
use lib.IntN.{ℤ}
use lib.ListN.{length}
use Rattle.algebra.specs.Ring.{CRing}
use Rattle.algebra.specs.Vec.{Vec, coef}
use Rattle.algebra.specs.Windows.{first, span, sum, sum-zero, sum_suc, sum_cong, window, window-neg}
use Rattle.algebra.specs.Divided.{row}
use Rattle.algebra.proofs.Divided.{row-each}
use Rattle.algebra.specs.Zmod.{Residue, to_z, z_group, Zmod, to_z-⊕, to_z-⊗, to_z_own}
use Rattle.residue.specs.Number.{Modulus, Below, sum_of, Room, Added}
use Rattle.residue.specs.Word.{at}
use Rattle.arithmetic.specs.Places.{wide}
use Rattle.arithmetic.specs.Walk.{total, total-zero, total_suc, dot_at, Readable, DotReady}
use Rattle.products.specs.Lowest.{DividedReady, divided_number}

-- the residue of a sum is the sum of the residues
to_z-total : (p : ℕ) (p_pos : 0 < p) (n : ℕ) (h : ℕ → ℕ) → to_z p p_pos (total n h) ≡ sum (Zmod p p_pos) n (λ u. to_z p p_pos (h u))
to_z-total p p_pos zero h = ap (to_z p p_pos) (total-zero h) ∙ sym (sum-zero (Zmod p p_pos) _)
to_z-total p p_pos (suc n) h =
    ap (to_z p p_pos) (total_suc n h)
    ∙ to_z-⊕ p p_pos (total n h) (h n)
    ∙ ap (λ x. (Zmod p p_pos).◌⊕◌ x (to_z p p_pos (h n))) (to_z-total p p_pos n h)
    ∙ sym (sum_suc (Zmod p p_pos) n _)

-- where the two partners of a window stand
partners : (g h a b s v k u : ℕ) → g ≡ suc h → a ≡ k + 1 - h → b ≡ k + 1 - g → s + (a + b) ≡ k + 1 → v + (u + 1) ≡ s
    → (a + u < g) × (k < g + (b + v)) × (g + (b + v) < g + h)
partners g h a b s v k u eg ea eb es ev = (omega arith, omega arith, omega arith)

-- and that they lie inside
window-place : (g k u : ℕ) → 0 < g → u < span g (g - 1) k
    → (first (g - 1) k + u < g) × (k < g + (first g k + (span g (g - 1) k - 1 - u))) × (g + (first g k + (span g (g - 1) k - 1 - u)) < wide g)
window-place g k u some l =
    let a = first (g - 1) k in
    let b = first g k in
    let s : ℕ = span g (g - 1) k in
    let e : s + (a + b) ≡ k + 1 = left_over a b k u l in
    let t = partners g (g - 1) a b s (s - 1 - u) k u (one_more g some) refl refl e (others s u l) in
    (t.0, t.1, all g (g + (b + (s - 1 - u))) some t.2)
  where
    left_over : (a b k u : ℕ) → u < k + 1 - a - b → k + 1 - a - b + (a + b) ≡ k + 1
    left_over a b k u l = omega arith

    others : (s u : ℕ) → u < s → s - 1 - u + (u + 1) ≡ s
    others s u l = omega arith

    one_more : (g : ℕ) → 0 < g → g ≡ suc (g - 1)
    one_more g h = omega arith

    all : (g n : ℕ) → 0 < g → n < g + (g - 1) → n < wide g
    all g n h l = omega arith

-- the same counted from the other end
both_places : (g k u : ℕ) → 0 < g → u < span g (g - 1) k → (first (g - 1) k + u < g) × (k < g + (first g k + u)) × (g + (first g k + u) < wide g)
both_places g k u some l =
    let s : ℕ = span g (g - 1) k in
    let t = window-place g k (s - 1 - u) some (turned s u l).0 in
    ((window-place g k u some l).0, rw (turned s u l).1 at t.1, rw (turned s u l).1 at t.2)
  where
    turned : (s u : ℕ) → u < s → (s - 1 - u < s) × (s - 1 - (s - 1 - u) ≡ u)
    turned s u l = (omega arith, omega arith)

-- the coefficient at k of a row divided in place, from the words of the divisor and of the negated coefficients above k
module _ (p : ℕ) (p_pos : 0 < p) (g : ℕ) (l : Vec (Residue p) g) (f : ℕ → Residue p) (some : 0 < g) (e w : List ℤ) (ea top k : ℕ) (few : k < wide g)
    (low : (n : ℕ) → n < g → at e (ea + 1 + n) ≡ (coef (z_group p p_pos).𝟘 g l n).0)
    (above : (n : ℕ) → k < n → g ≤ n → n < wide g → at w (top + n) ≡ ((z_group p p_pos).⊖◌ (row (Zmod p p_pos) g l (wide g) f n)).0) where
  abbrev R : CRing
  R = Zmod p p_pos

  abbrev quotients : ℕ → Residue p
  quotients n = row R g l (wide g) f (g + n)

  -- the dot product of the words takes the window away
  dot-is : to_z p p_pos (dot_at e w (span g (g - 1) k) 1 (ea + 1 + first (g - 1) k) (top + g + first g k)) ≡ R.⊖◌ (window R g (wide g - g) (coef R.𝟘 g l) quotients k)
  dot-is =
      to_z-total p p_pos (span g (g - 1) k) _
      ∙ sum_cong R (span g (g - 1) k) _ _ (λ u s. to_z-⊗ p p_pos _ _ ∙ ap₂ R.◌⊗◌ (lower u s) (upper u s))
      ∙ window-neg R g (g - 1) (coef R.𝟘 g l) quotients k
      ∙ ap (λ n. R.⊖◌ (window R g n (coef R.𝟘 g l) quotients k)) (omega (arith, some))
    where
      lower : (u : ℕ) → u < span g (g - 1) k → to_z p p_pos (at e (ea + 1 + first (g - 1) k + u * 1)) ≡ coef R.𝟘 g l (first (g - 1) k + u)
      lower u s =
          let n = first (g - 1) k + u in
          let a : ea + 1 + first (g - 1) k + u * 1 ≡ ea + 1 + n = omega arith in
          ap (λ b. to_z p p_pos (at e b)) a ∙ ap (to_z p p_pos) (low n (window-place g k u some s).0) ∙ to_z_own p p_pos _

      upper : (u : ℕ) → u < span g (g - 1) k
          → to_z p p_pos (at w (top + g + first g k + (span g (g - 1) k - 1 - u) * 1)) ≡ R.⊖◌ (quotients (first g k + (span g (g - 1) k - 1 - u)))
      upper u s =
          let b = first g k + (span g (g - 1) k - 1 - u) in
          let a : top + g + first g k + (span g (g - 1) k - 1 - u) * 1 ≡ top + (g + b) = omega arith in
          let t = window-place g k u some s in
          ap (λ n. to_z p p_pos (at w n)) a ∙ ap (to_z p p_pos) (above (g + b) t.1 (omega arith) t.2) ∙ to_z_own p p_pos _

  -- n is the number of the pairs
  pub row_number : (n : ℕ) → to_z p p_pos n ≡ f k
      → (n + dot_at e w (span g (g - 1) k) 1 (ea + 1 + first (g - 1) k) (top + g + first g k)) % p ≡ (row R g l (wide g) f k).0
  row_number n h =
      ap (λ (x : Residue p). x.0)
      (to_z-⊕ p p_pos n _ ∙ ap₂ R.◌⊕◌ h dot-is ∙ sym (row-each R g l (wide g) (omega (arith, some)) f k few))

-- what one coefficient asks for, in the code's numbers; e' is the tower's list
module _ {g p : ℕ} {e : List ℤ} {ea : ℕ} {w : List ℤ} {top k lo hi : ℕ} (h : DividedReady g p e ea w top k lo hi) where
  -- nothing wraps
  pub at_places : (k + 1 ≤ g + (g - 1)) × (ea + 1 + first (g - 1) k ≤ length e) × (top + g + first g k ≤ length w) × (g < 2 ^ 32)
  at_places =
      let last = (h.low (g - 1) (omega (arith, h.some))).inside in
      (omega (arith, h.some, h.reached), omega (arith, h.reached), omega (arith, h.reached, h.inside), omega (arith, h.room.hi_room))

  module _ {f q c : ℕ} {e' : List ℤ} (ef : f ≡ ea + 1 + first (g - 1) k) (eq : q ≡ top + g + first g k) (ec : c ≡ span g (g - 1) k) (same : e ≡ e') where
    least : c ≤ g
    least = omega (arith, h.some)

    -- the dot product may be added
    pub at-dot : DotReady e' f w q c 1 lo hi
    at-dot = subst (λ x. DotReady x f w q c 1 lo hi) same (record {
      left = λ u s. subst (Readable e) (sym (left_at u)) (h.low (first (g - 1) k + u) (places u s).0);
      right = λ u s. subst (Readable w) (sym (right-at u)) (h.above (g + (first g k + u)) (places u s).1 (places u s).2);
      room = record { lo_room = omega (arith, h.room.lo_room, least); hi_room = omega (arith, h.room.hi_room, least) };
    })
      where
        left_at : (u : ℕ) → f + u * 1 ≡ ea + 1 + (first (g - 1) k + u)
        left_at u = ap (λ n. n + u * 1) ef ∙ omega arith

        right-at : (u : ℕ) → q + u * 1 ≡ top + (g + (first g k + u))
        right-at u = ap (λ n. n + u * 1) eq ∙ omega arith

        places : (u : ℕ) → u < c → (first (g - 1) k + u < g) × (k < g + (first g k + u)) × (g + (first g k + u) < wide g)
        places u s = both_places g k u h.some (subst (λ n. u < n) ec s)

    module _ {lo' hi' : ℕ} (dot : Added c (dot_at e' w c 1 f q) lo hi lo' hi') where
      -- the sum may be reduced
      pub at_room : Modulus p × Room 1 lo' hi'
      at_room = (
        h.modulus,
        record { lo_room = omega (arith, h.room.lo_room, dot.lo_most, least); hi_room = omega (arith, h.room.hi_room, dot.hi_most, least) },
      )

      -- and this is the number
      pub at-number : {r : ℕ} → Below p (sum_of lo' hi' % p) r → Below p (divided_number g p e ea w top k (sum_of lo hi)) r
      at-number b = record { value = b.value ∙ ap (λ n. n % p) (dot.value ∙ ap (λ n. sum_of lo hi + n) dot-is); small = b.small }
        where
          dot-is : dot_at e' w c 1 f q ≡ dot_at e w (span g (g - 1) k) 1 (ea + 1 + first (g - 1) k) (top + g + first g k)
          dot-is = ap (λ x. dot_at x w c 1 f q) (sym same) ∙ ap (λ n. dot_at e w n 1 f q) ec ∙ ap₂ (dot_at e w (span g (g - 1) k) 1) ef eq

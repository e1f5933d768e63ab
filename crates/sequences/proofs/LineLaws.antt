-- Laws of a row of numbers that loses two multiples at once.
--
-- row-start, _next, _end    == the loop that makes it;  row_words, _old, _inside == what it reads, and where
-- row-product, _room, -lost == the code's numbers
-- row_rise, _fall           == the row is made number by number, from the lowest up and from the highest down
use Prim.Native.Nat.{ℕ, zero, suc, ◌+◌, ◌-◌, ◌*◌, ◌%◌, ◌^◌, ◌<◌, ◌≤◌}
use native.Mathlib.Nat.{lt_irrefl, zero-add, mul-le-mul}
use native.Mathlib.Omega.{arith}
use mathlib.Core.Path.{◌≡◌, refl, ap, ap₂, sym, ◌∙◌, subst}
use mathlib.Core.Logic.{◌⊎◌, inl, inr}
use mathlib.Core.List.{List}
use lib.IntN.{ℤ, pos}
use lib.ListN.{length, get_or, set, length-set}
use lib.Seq.{get_or-set_same, get_or-set_other, ext_get_or}
use Rattle.algebra.specs.Test.{le_or_lt}
use Rattle.residue.specs.Number.{Below, Room, Added, sum_of}
use Rattle.residue.specs.Word.{num, at}
use Rattle.tower.specs.Store.{kept_refl, kept_trans, kept-wide, kept_set}
use Rattle.arithmetic.specs.Walk.{Readable}
use Rattle.sequences.specs.Rows.{Between}
use Rattle.sequences.specs.Numbers.{Held, LoseRowReady, lost_pair, LoseRowDone}
use Rattle.sequences.proofs.NumberLaws.{readable_kept, held_kept}

-- the same words make the same number
pair_same : (p q r b c k : ℕ) (u v : List ℤ) → get_or u (c + k) (pos 0) ≡ get_or v (c + k) (pos 0)
    → get_or u (b + 1 + k) (pos 0) ≡ get_or v (b + 1 + k) (pos 0) → get_or u (b + k) (pos 0) ≡ get_or v (b + k) (pos 0)
    → lost_pair p q r b u c k ≡ lost_pair p q r b v c k
pair_same p q r b c k u v e f g =
    ap₂ (λ (x y : ℕ). (x + (p - y)) % p) (ap num e) (ap₂ (λ (x y : ℕ). (q * x + r * y) % p) (ap num f) (ap num g))

pub row-start : (p q r b : ℕ) (w : List ℤ) (c : ℕ) → LoseRowDone p q r b 0 w w c
row-start p q r b w c = record { frame = kept_refl c 0 w; lost = λ k l. absurd (lt_irrefl 0 (omega arith)) }

-- only one store is the row's end
row_unique : {p q r b n : ℕ} {w u v : List ℤ} {c : ℕ} → LoseRowDone p q r b n w u c → LoseRowDone p q r b n w v c → u ≡ v
row_unique {n = n} {w = w} {u = u} {v = v} {c = c} s t =
    ext_get_or (pos 0) u v (s.frame.long ∙ sym t.frame.long) (λ k l. each k (le_or_lt c k) (le_or_lt (c + n) k))
  where
    each : (k : ℕ) → (c ≤ k) ⊎ (k < c) → (c + n ≤ k) ⊎ (k < c + n) → get_or u k (pos 0) ≡ get_or v k (pos 0)
    each k (inr x) y = s.frame.below k x ∙ sym (t.frame.below k x)
    each k (inl x) (inl y) = s.frame.above k y ∙ sym (t.frame.above k y)
    each k (inl x) (inr y) =
        let e : c + (k - c) ≡ k = omega arith in
        subst (λ j. get_or u j (pos 0) ≡ get_or v j (pos 0)) e (s.lost (k - c) (omega arith) ∙ sym (t.lost (k - c) (omega arith)))

pub row_end : {p q r b n k : ℕ} {w w' : List ℤ} {c : ℕ} → k ≤ n → n ≤ k → LoseRowDone p q r b k w w' c → LoseRowDone p q r b n w w' c
row_end {p} {q} {r} {b} {n} {k} {w} {w'} {c} l m s =
    let e : k ≡ n = omega arith in
    subst (λ j. LoseRowDone p q r b j w w' c) e s

-- a multiple of a word fits, and so does the sum of two
pub row-product : {w : List ℤ} {q x j : ℕ} → q < 2 ^ 32 → Readable w j → x ≡ at w j → q * x < 2 ^ 64
row-product {q = q} {x = x} l h e =
    let s : q ≤ 2 ^ 32 - 1 = omega arith in
    let t : x ≤ 2 ^ 32 - 1 = omega (arith, e, h.narrow.small) in
    omega (arith, mul-le-mul s t)

pub row_room : {x y lo hi lo' hi' : ℕ} → Added 1 x 0 0 lo hi → Added 1 y lo hi lo' hi' → Room 1 lo' hi'
row_room f g = record { lo_room = omega (arith, f.lo_most, g.lo_most); hi_room = omega (arith, f.hi_most, g.hi_most) }

-- ---- the k-th number, where those below are made
module _ {p q r b n : ℕ} {w₀ : List ℤ} {c : ℕ} (apart : Between b (n + 1) c n) {k : ℕ} {w : List ℤ} (here : k < n) (s : LoseRowDone p q r b k w₀ w c) where
  row_word : (j : ℕ) → b ≤ j → j ≤ b + n → get_or w j (pos 0) ≡ get_or w₀ j (pos 0)
  row_word j l m = go apart
    where
      go : Between b (n + 1) c n → get_or w j (pos 0) ≡ get_or w₀ j (pos 0)
      go (inl x) = s.frame.below j (omega arith)
      go (inr x) = s.frame.above j (omega arith)

  row_ahead : get_or w (c + k) (pos 0) ≡ get_or w₀ (c + k) (pos 0)
  row_ahead = s.frame.above (c + k) (omega arith)

  -- the number is the one of the store before
  row_number : lost_pair p q r b w c k ≡ lost_pair p q r b w₀ c k
  row_number = pair_same p q r b c k w w₀ row_ahead (row_word (b + 1 + k) (omega arith) (omega arith)) (row_word (b + k) (omega arith) (omega arith))

  pub row_next : {k' : ℕ} {w' : List ℤ} → c + k < length w₀ → k' ≡ k + 1 → w' ≡ set w (c + k) (pos (lost_pair p q r b w c k)) → LoseRowDone p q r b k' w₀ w' c
  row_next {k'} {w'} inside ek ew = subst (λ v. LoseRowDone p q r b k' w₀ v c) (sym ew) (record {
    frame = kept_trans (kept-wide (omega arith) (omega arith) s.frame) (kept-wide (omega arith) (omega arith) (kept_set w (c + k) x));
    lost = λ j l. made j (le_or_lt k j) l;
  })
    where
      x : ℤ
      x = pos (lost_pair p q r b w c k)

      made : (j : ℕ) → (k ≤ j) ⊎ (j < k) → j < k' → get_or (set w (c + k) x) (c + j) (pos 0) ≡ pos (lost_pair p q r b w₀ c j)
      made j (inr m) l = get_or-set_other w (c + k) (c + j) x (pos 0) (λ e. lt_irrefl k (omega arith)) ∙ s.lost j m
      made j (inl m) l =
          let ej : k ≡ j = omega arith in
          subst (λ i. get_or (set w (c + k) x) (c + i) (pos 0) ≡ pos (lost_pair p q r b w₀ c i)) ej
          (get_or-set_same w (c + k) x (pos 0) (omega (arith, s.frame.long)) ∙ ap pos row_number)

module _ {p q r b n : ℕ} {w₀ : List ℤ} {c : ℕ} (h : LoseRowReady p q r b n w₀ c) {k : ℕ} {w : List ℤ} (here : k < n) (s : LoseRowDone p q r b k w₀ w c) where
  -- the words that are read, and their places
  pub row_words : Readable w (b + 1 + k) × Readable w (b + k)
  row_words = (word (b + 1 + k) (omega arith) (omega arith), word (b + k) (omega arith) (omega arith))
    where
      word : (j : ℕ) → b ≤ j → j ≤ b + n → Readable w j
      word j l m = readable_kept s.frame.long (row_word h.apart here s j l m) (h.words j l m)

  pub row_old : Held p w (c + k)
  row_old = held_kept s.frame.long (row_ahead h.apart here s) (h.old k here)

  pub row_inside : (b + 1 + k < length w₀) × (c + k < length w₀)
  row_inside = (omega (arith, row_words.0.inside, s.frame.long), (h.old k here).0.inside)

-- the code's numbers
module _ {p q r b k : ℕ} {w₀ w : List ℤ} {c : ℕ} (s : LoseRowDone p q r b k w₀ w c) {x y lo hi lo' hi' : ℕ} (ex : x ≡ at w (b + 1 + k))
    (ey : y ≡ at w (b + k)) (f : Added 1 (q * x) 0 0 lo hi) (g : Added 1 (r * y) lo hi lo' hi') where
  pub row-lost : {u v t : ℕ} {w' : List ℤ} → Below p (sum_of lo' hi' % p) v → u ≡ at w (c + k) → Below p ((u + (p - v)) % p) t → w' ≡ set w (c + k) (pos t)
      → w' ≡ set w (c + k) (pos (lost_pair p q r b w c k))
  row-lost ev eu et ew =
      ew
      ∙ ap (λ (i : ℕ). set w (c + k) (pos i))
      (et.value ∙ ap₂ (λ (i j : ℕ). (i + (p - j)) % p) eu (ev.value ∙ ap (λ (i : ℕ). i % p) sum))
    where
      sum : sum_of lo' hi' ≡ q * at w (b + 1 + k) + r * at w (b + k)
      sum = g.value ∙ ap (λ (i : ℕ). i + r * y) (f.value ∙ zero-add (q * x)) ∙ ap₂ (λ (i j : ℕ). q * i + r * j) ex ey

-- ---- number by number
-- from the lowest up
module _ {p q r b n : ℕ} {w₀ w' : List ℤ} {c : ℕ} (apart : Between b (n + 1) c n) (inside : c + n ≤ length w₀) (s : LoseRowDone p q r b n w₀ w' c)
    (P : ℕ → List ℤ → Type 0) (step : (k : ℕ) (u : List ℤ) → k < n → P k u → P (suc k) (set u (c + k) (pos (lost_pair p q r b u c k)))) where
  risen : ℕ → List ℤ
  risen zero = w₀
  risen (suc k) = set (risen k) (c + k) (pos (lost_pair p q r b (risen k) c k))

  risen_row : (k : ℕ) → k ≤ n → LoseRowDone p q r b k w₀ (risen k) c
  unfolding risen
  risen_row zero l = row-start p q r b w₀ c
  risen_row (suc k) l = row_next apart l (risen_row k (omega arith)) (omega (arith, inside)) (omega arith) refl

  risen_has : P 0 w₀ → (k : ℕ) → k ≤ n → P k (risen k)
  unfolding risen
  risen_has h zero l = h
  risen_has h (suc k) l = step k (risen k) l (risen_has h k (omega arith))

  pub row_rise : P 0 w₀ → P n w'
  row_rise h = subst (P n) (row_unique (risen_row n (omega arith)) s) (risen_has h n (omega arith))

-- from the highest down: that one is made first
module _ {p q r b : ℕ} {w' : List ℤ} {c : ℕ} where
  row-less : (n : ℕ) (w : List ℤ) → Between b (suc n + 1) c (suc n) → c + suc n ≤ length w → LoseRowDone p q r b (suc n) w w' c
      → LoseRowDone p q r b n (set w (c + n) (pos (lost_pair p q r b w c n))) w' c
  row-less n w apart inside s = record {
    frame = record {
      long = s.frame.long ∙ sym (length-set w (c + n) x);
      below = λ j l. s.frame.below j l ∙ sym (other j (λ e. lt_irrefl j (omega arith)));
      above = λ j l. above j (le_or_lt (c + suc n) j) l;
    };
    lost = λ k l.
        s.lost k (omega arith)
        ∙ ap pos
        (sym (pair_same p q r b c k (set w (c + n) x) w (other (c + k) (λ e. lt_irrefl k (omega arith)))
        (other (b + 1 + k) (far k l (b + 1 + k) (omega arith) (omega arith) apart)) (other (b + k) (far k l (b + k) (omega arith) (omega arith) apart))));
  }
    where
      x : ℤ
      x = pos (lost_pair p q r b w c n)

      other : (j : ℕ) → ¬ (j ≡ c + n) → get_or (set w (c + n) x) j (pos 0) ≡ get_or w j (pos 0)
      other j f = get_or-set_other w (c + n) j x (pos 0) f

      far : (k : ℕ) → k < n → (j : ℕ) → b ≤ j → j ≤ b + 1 + k → Between b (suc n + 1) c (suc n) → ¬ (j ≡ c + n)
      far k l j m o (inl y) e = lt_irrefl 0 (omega arith)
      far k l j m o (inr y) e = lt_irrefl 0 (omega arith)

      above : (j : ℕ) → (c + suc n ≤ j) ⊎ (j < c + suc n) → c + n ≤ j → get_or w' j (pos 0) ≡ get_or (set w (c + n) x) j (pos 0)
      above j (inl m) l = s.frame.above j m ∙ sym (other j (λ e. lt_irrefl j (omega arith)))
      above j (inr m) l =
          let ej : c + n ≡ j = omega arith in
          subst (λ i. get_or w' i (pos 0) ≡ get_or (set w (c + n) x) i (pos 0)) ej
          (s.lost n (omega arith) ∙ sym (get_or-set_same w (c + n) x (pos 0) (omega (arith, inside))))

  pub row_fall : (P : ℕ → List ℤ → Type 0) (n : ℕ) (w : List ℤ) → Between b (n + 1) c n → c + n ≤ length w → LoseRowDone p q r b n w w' c
      → ((k : ℕ) (u : List ℤ) → k < n → P (suc k) u → P k (set u (c + k) (pos (lost_pair p q r b u c k)))) → P n w → P 0 w'
  row_fall P zero w apart inside s step h = subst (P 0) (row_unique (row-start p q r b w c) s) h
  row_fall P (suc n) w apart inside s step h =
      row_fall P n (set w (c + n) x) (narrower apart) (omega (arith, inside, length-set w (c + n) x)) (row-less n w apart inside s) (λ k u l. step k u (omega arith))
      (step n w (omega arith) h)
    where
      x : ℤ
      x = pos (lost_pair p q r b w c n)

      narrower : Between b (suc n + 1) c (suc n) → Between b (n + 1) c n
      narrower (inl x) = inl (omega arith)
      narrower (inr x) = inr (omega arith)

-- The store: one list of words in which the core works by places. What a function may have changed in it, and what it wrote.
--
-- Kept a n w w' == w' is w but for the n words from a on
-- Put a l w w'  == w' is w with the words l from a on;  put_unique == so w' is settled
-- Apart a b n   == n words from a on and n words from b on have no place in common
--
-- Laws of frames: kept_refl, kept_trans, kept-wide (a frame of a part), kept_join (two neighbours), kept-seg (a part outside), kept_set (one word).
-- Laws of what is written: put_nil, put-set, put-append, put-kept, put-seg; seg-kept == a part is told by its words.
use Rattle.std.specs.Prelude.{ℕ, ◌+◌, ◌-◌, ◌<◌, ◌≤◌, ◌≡◌, refl, ◌⊎◌, List, [], ◌∷◌, ◌++◌, ℤ, pos, length, get_or, set, take, drop}
use Rattle.std.proofs.Common.{sym, ap, ap₂, ◌∙◌, subst, inl, inr, lt_irrefl, arith, length-set, length-append, length-take, length-drop, drop-cons, drop-drop, take-add, get_or-set_same, get_or-set_other, ext_get_or}
use Rattle.algebra.specs.Test.{le_or_lt}
use Rattle.tower.specs.Form.{seg}
use Rattle.tower.specs.Lists.{seg-at}

-- only the n words from a on may differ
pub record Kept (a n : ℕ) (w w' : List ℤ) : Type 0 where
  pub long : length w' ≡ length w
  pub below : (k : ℕ) → k < a → get_or w' k (pos 0) ≡ get_or w k (pos 0)
  pub above : (k : ℕ) → a + n ≤ k → get_or w' k (pos 0) ≡ get_or w k (pos 0)

-- and these now are l
pub record Put (a : ℕ) (l w w' : List ℤ) : Type 0 where
  pub kept : Kept a (length l) w w'
  pub here : seg a (length l) w' ≡ l

abbrev pub Apart : ℕ → ℕ → ℕ → Type 0
Apart a b n = (a + n ≤ b) ⊎ (b + n ≤ a)

-- ---- frames
pub kept_refl : (a n : ℕ) (w : List ℤ) → Kept a n w w
kept_refl a n w = record { long = refl; below = λ k h. refl; above = λ k h. refl }

pub kept_trans : {a n : ℕ} {u v w : List ℤ} → Kept a n u v → Kept a n v w → Kept a n u w
kept_trans f g = record {
  long = g.long ∙ f.long;
  below = λ k h. g.below k h ∙ f.below k h;
  above = λ k h. g.above k h ∙ f.above k h;
}

-- a frame of a part is a frame of a whole that contains it
pub kept-wide : {a n b m : ℕ} {w w' : List ℤ} → b ≤ a → a + n ≤ b + m → Kept a n w w' → Kept b m w w'
kept-wide h l f = record {
  long = f.long;
  below = λ k q. f.below k (omega arith);
  above = λ k q. f.above k (omega arith);
}

-- two neighbours
pub kept_join : {a n b m : ℕ} {u v w : List ℤ} → b ≡ a + n → Kept a n u v → Kept b m v w → Kept a (n + m) u w
kept_join e f g = kept_trans (kept-wide (omega arith) (omega arith) f) (kept-wide (omega arith) (omega arith) g)

-- two lists that are as long, and equal at n places from a on, have the same n words there
pub seg-kept : (a n : ℕ) (w w' : List ℤ) → length w' ≡ length w → ((k : ℕ) → a ≤ k → k < a + n → get_or w' k (pos 0) ≡ get_or w k (pos 0))
    → seg a n w' ≡ seg a n w
seg-kept a n w w' e h = ext_get_or (pos 0) (seg a n w') (seg a n w) long (λ k l. each k (few k l))
  where
    long : length (seg a n w') ≡ length (seg a n w)
    long = simp (length-take, length-drop) (rw e refl)

    few : (k : ℕ) → k < length (seg a n w') → k < n
    few k l = omega (arith, length-take n (drop a w'))

    each : (k : ℕ) → k < n → get_or (seg a n w') k (pos 0) ≡ get_or (seg a n w) k (pos 0)
    each k l = seg-at a n k w' l ∙ h (a + k) (omega arith) (omega arith) ∙ sym (seg-at a n k w l)

-- a part outside the frame is as before
pub kept-seg : {a n : ℕ} {w w' : List ℤ} (b m : ℕ) → (b + m ≤ a) ⊎ (a + n ≤ b) → Kept a n w w' → seg b m w' ≡ seg b m w
kept-seg {w} {w'} b m (inl h) f = seg-kept b m w w' f.long (λ k l q. f.below k (omega arith))
kept-seg {w} {w'} b m (inr h) f = seg-kept b m w w' f.long (λ k l q. f.above k (omega arith))

pub kept_set : (w : List ℤ) (a : ℕ) (g : ℤ) → Kept a 1 w (set w a g)
kept_set w a g = record {
  long = length-set w a g;
  below = λ k h. get_or-set_other w a k g (pos 0) (λ e. lt_irrefl k (omega arith));
  above = λ k h. get_or-set_other w a k g (pos 0) (λ e. lt_irrefl k (omega arith));
}

-- ---- what is written
pub put-kept : {a : ℕ} {l w w' : List ℤ} (n : ℕ) → length l ≡ n → Put a l w w' → Kept a n w w'
put-kept {a} {l} {w} {w'} n e p = subst (λ m. Kept a m w w') e p.kept

pub put-seg : {a : ℕ} {l w w' : List ℤ} (n : ℕ) → length l ≡ n → Put a l w w' → seg a n w' ≡ l
put-seg {a} {l} {w} {w'} n e p = ap (λ m. seg a m w') (sym e) ∙ p.here

pub put_nil : (a : ℕ) (w : List ℤ) → Put a [] w w
put_nil a w = record { kept = kept_refl a 0 w; here = refl }

pub put-set : (w : List ℤ) (a : ℕ) (g : ℤ) → a < length w → Put a (g ∷ []) w (set w a g)
put-set w a g h = record {
  kept = kept_set w a g;
  here = ap (take 1) (drop-cons (set w a g) a (pos 0) (omega (arith, length-set w a g))) ∙ ap (λ x. x ∷ []) (get_or-set_same w a g (pos 0) h);
}

-- words behind those written before
pub put-append : {a b : ℕ} {l m u v w : List ℤ} → b ≡ a + length l → Put a l u v → Put b m v w → Put a (l ++ m) u w
put-append {a} {b} {l} {m} {u} {v} {w} e p q = record {
  kept = subst (λ n. Kept a n u w) (sym (length-append l m)) (kept_join e p.kept q.kept);
  here =
      ap (λ n. seg a n w) (length-append l m)
      ∙ take-add (length l) (length m) (drop a w)
      ∙ ap₂ ◌++◌ first (ap (take (length m)) (drop-drop (length l) a w) ∙ ap (λ n. seg n (length m) w) (sym e) ∙ q.here);
}
  where
    first : seg a (length l) w ≡ l
    first = kept-seg a (length l) (inl (omega arith)) q.kept ∙ p.here

-- two stores with the same words written into the same store are equal
pub put_unique : {a : ℕ} {l w u v : List ℤ} → Put a l w u → Put a l w v → u ≡ v
put_unique {a} {l} {w} {u} {v} p q = ext_get_or (pos 0) u v (p.kept.long ∙ sym q.kept.long) (λ k h. place k (le_or_lt a k) (le_or_lt (a + length l) k))
  where
    at : (x : List ℤ) → Put a l w x → (k : ℕ) → a ≤ k → k < a + length l → get_or x k (pos 0) ≡ get_or l (k - a) (pos 0)
    at x r k h t =
        let e : a + (k - a) ≡ k = omega arith in
        ap (λ n. get_or x n (pos 0)) (sym e) ∙ sym (seg-at a (length l) (k - a) x (omega arith)) ∙ ap (λ y. get_or y (k - a) (pos 0)) r.here

    place : (k : ℕ) → (a ≤ k) ⊎ (k < a) → (a + length l ≤ k) ⊎ (k < a + length l) → get_or u k (pos 0) ≡ get_or v k (pos 0)
    place k (inr h) t = p.kept.below k h ∙ sym (q.kept.below k h)
    place k (inl h) (inl t) = p.kept.above k t ∙ sym (q.kept.above k t)
    place k (inl h) (inr t) = at u p k h t ∙ sym (at v q k h t)

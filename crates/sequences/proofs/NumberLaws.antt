-- Laws of numbers: level 0 as words.
--
-- held_of                     == an element of level 0 that stands is a residue;  readable_kept, held_kept == a word that is as before
-- times_numbers, times-number == what a product of numbers asks for, and that it is a product of elements;  times-single == of one pair
-- lose_dot, lost-word         == what the loss of a sum asks for, and that it is a product in place
-- dot-room, dot-lost, times_written == the code's numbers
-- divide-at_lose, -rest, -times, divided-low, divided_high == one number of a division
use Prim.Native.Nat.{ℕ, ◌+◌, ◌-◌, ◌*◌, ◌%◌, ◌<◌, ◌≤◌}
use native.Mathlib.Nat.{lt_irrefl, mod-lt, mod-mod, add-zero, zero-add}
use native.Mathlib.Omega.{arith}
use mathlib.Core.Path.{◌≡◌, refl, ap, ap₂, sym, ◌∙◌, subst}
use mathlib.Core.Bool.{Bool, true, false}
use mathlib.Core.List.{List, [], ◌∷◌}
use lib.IntN.{ℤ, pos}
use lib.ListN.{length, get_or, set, length-set}
use lib.Seq.{get_or-set_same, get_or-set_other}
use Rattle.algebra.specs.Windows.{first, span}
use Rattle.residue.specs.Number.{Modulus, Below, Room, Added, sum_of}
use Rattle.residue.specs.Word.{num, at, Narrow}
use Rattle.tower.specs.Levels.{El}
use Rattle.tower.specs.Writing.{size, size-zero}
use Rattle.tower.specs.Stands.{Stands}
use Rattle.arithmetic.specs.Walk.{total-zero, total_suc, total_cong, dot_at, run_at, pair_at-zero, Readable, Residues}
use Rattle.products.specs.Product.{two, ProductReady, ProductDone}
use Rattle.products.specs.Lowest.{SingleReady, single_number, pairs_number}
use Rattle.products.proofs.Lowests.{small, readable, single-ready, single_done}
use Rattle.sequences.specs.Rows.{TimesReady, TimesDone}
use Rattle.sequences.specs.Numbers.{Held, TimesNumbersReady, times_number, LoseDotReady, lost_number, DivideAtReady, rested, DividedAt}
use Rattle.sequences.proofs.RowLaws.{times_asks, times_done}

-- ---- words
pub held_of : (p : ℕ) (d : List ℕ) (u : El p d 0) (w : List ℤ) (b : ℕ) → Modulus p → b < length w → Stands p d 0 u w b → Held p w b
held_of p d u w b h l s = (readable p d u w b s h l, small p d u w b s)

-- a word that is as before
pub readable_kept : {w w' : List ℤ} {a : ℕ} → length w' ≡ length w → get_or w' a (pos 0) ≡ get_or w a (pos 0) → Readable w a → Readable w' a
readable_kept l e h = record { inside = omega (arith, h.inside); narrow = subst Narrow (sym e) h.narrow }

pub held_kept : {p : ℕ} {w w' : List ℤ} {a : ℕ} → length w' ≡ length w → get_or w' a (pos 0) ≡ get_or w a (pos 0) → Held p w a → Held p w' a
held_kept l e h = (readable_kept l e h.0, omega (arith, h.1, ap num e))

-- the pairs of level 0 are those of the words
run-dot : (d m : List ℕ) (x y : List ℤ) (n a b : ℕ) → run_at d m x y 0 n (size d 0) a b ≡ dot_at x y n 1 a b
run-dot d m x y n a b =
    ap (λ s. run_at d m x y 0 n s a b) (size-zero d) ∙ total_cong n _ _ (λ u l. pair_at-zero d m x y (a + u * 1) (b + (n - 1 - u) * 1))

-- ---- a product
module _ {i : ℕ} {d z : List ℕ} {p : ℕ} {e : List ℤ} {e-in : Bool} {ea a b : ℕ} {w : List ℤ} {c top : ℕ} where
  pub times_numbers : i ≡ 0 → TimesReady i d z p e e-in ea a b w c top → TimesNumbersReady p a b w c
  times_numbers ei r = go (subst (λ n. TimesReady n d z p e e-in ea a b w c top) ei r)
    where
      go : TimesReady 0 d z p e e-in ea a b w c top → TimesNumbersReady p a b w c
      go r =
          let one = size-zero d in
          let room = r.acting.room in
          record {
            modulus = r.acting.modulus;
            left = held_of p d r.x w a r.acting.modulus (omega (arith, r.a_below)) r.left;
            right = held_of p d r.y w b r.acting.modulus (omega (arith, r.b_below)) r.right;
            inside = omega (arith, r.c_below);
          }

-- the product of one pair, without old content
pub times-single : (d m : List ℕ) (p : ℕ) (x y : List ℤ) (a b : ℕ) (w : List ℤ) (c : ℕ)
    → times_number p a b w ≡ single_number d p m (two 0 x true a y true b 1) false false w c
times-single d m p x y a b w c = sym (ap (λ n. (0 + n % p) % p) only ∙ ap (λ n. n % p) (zero-add _) ∙ mod-mod (at w a * at w b) p)
  where
    only : pairs_number d m (two 0 x true a y true b 1) w ≡ at w a * at w b
    only =
        run-dot d m w w 1 a b
        ∙ total_suc 0 (λ u. at w (a + u * 1) * at w (b + (1 - 1 - u) * 1))
        ∙ ap₂ ◌+◌ (total-zero (λ u. at w (a + u * 1) * at w (b + (1 - 1 - u) * 1))) (ap₂ (λ u v. at w u * at w v) (add-zero a) (add-zero b))
        ∙ zero-add _

module _ {i : ℕ} {d z : List ℕ} {p : ℕ} {e : List ℤ} {e-in : Bool} {ea a b : ℕ} {w : List ℤ} {c top : ℕ} where
  pub times-number : {w' : List ℤ} → i ≡ 0 → TimesReady i d z p e e-in ea a b w c top → w' ≡ set w c (pos (times_number p a b w))
      → TimesDone i d p e e-in ea a b w w' c top
  times-number {w'} ei r h = subst (λ n. TimesDone n d p e e-in ea a b w w' c top) (sym ei) (go (subst (λ n. TimesReady n d z p e e-in ea a b w c top) ei r))
    where
      m : List ℕ
      m = 0 ∷ 0 ∷ 0 ∷ 0 ∷ []

      go : TimesReady 0 d z p e e-in ea a b w c top → TimesDone 0 d p e e-in ea a b w w' c top
      go r = times_done r {m = m} refl (single_done refl (times_asks r {m = m} refl) (h ∙ ap (λ n. set w c (pos n)) (times-single d m p [] [] a b w c)))

-- ---- the loss of a sum
module _ {d z : List ℕ} {p : ℕ} {m : List ℕ} {e : List ℤ} {e-in : Bool} {ea : ℕ} {x : List ℤ} {a : ℕ} {y : List ℤ} {b n : ℕ} {w : List ℤ} {c top : ℕ}
    (r : ProductReady 0 d z p m e e-in ea (two 0 x true a y true b n) true w c top) where
  pub lose_dot : LoseDotReady p a b n w c
  unfolding Residues
  lose_dot = record {
    modulus = s.modulus;
    few = omega (arith, s.few, ap (λ (k : ℕ). n * k) (size-zero d));
    left = λ u l. word a s.pairs.left u l;
    right = λ u l. word b s.pairs.right u l;
    old = s.old refl;
  }
    where
      s : SingleReady d z p m (two 0 x true a y true b n) true w c
      s = single-ready refl r

      word : (f : ℕ) → ((u : ℕ) → u < n → Residues d 0 w (f + u * size d 0)) → (u : ℕ) → u < n → Readable w (f + u * 1)
      word f h u l = subst (λ k. Readable w (f + u * k)) (size-zero d) (h u l)

  pub lost-word : {w' : List ℤ} → w' ≡ set w c (pos (lost_number p a b n w c))
      → ProductDone 0 d p m e e-in ea (two 0 x true a y true b n) true true w w' c top
  lost-word h = single_done refl r (h ∙ ap (λ k. set w c (pos ((at w c + (p - k % p)) % p))) (sym (run-dot d m w w n a b)))

-- the code's numbers
module _ {p a b n : ℕ} {w : List ℤ} {c : ℕ} (r : LoseDotReady p a b n w c) where
  module _ {lo hi : ℕ} (h : Added n (dot_at w w n 1 a b) 0 0 lo hi) where
    pub dot-room : Room 1 lo hi
    dot-room = record { lo_room = omega (arith, h.lo_most, r.few); hi_room = omega (arith, h.hi_most, r.few) }

    pub dot-lost : {u v q : ℕ} {w' : List ℤ} → u ≡ at w c → Below p (sum_of lo hi % p) v → Below p ((u + (p - v)) % p) q → w' ≡ set w c (pos q)
        → w' ≡ set w c (pos (lost_number p a b n w c))
    dot-lost eu ev eq ew =
        ew
        ∙ ap (λ k. set w c (pos k))
        (eq.value ∙ ap₂ (λ x y. (x + (p - y)) % p) eu (ev.value ∙ ap (λ k. k % p) (h.value ∙ zero-add (dot_at w w n 1 a b))))

-- ---- a product of numbers, in the code's numbers
pub times_written : {p a b : ℕ} {w : List ℤ} {c u v q : ℕ} {w' : List ℤ} → TimesNumbersReady p a b w c → u ≡ at w a → v ≡ at w b → Below p ((u * v) % p) q
    → w' ≡ set w c (pos q) → w' ≡ set w c (pos (times_number p a b w))
times_written {p} {w = w} {c = c} r eu ev eq ew = ew ∙ ap (λ k. set w c (pos k)) (eq.value ∙ ap₂ (λ x y. (x * y) % p) eu ev)

-- ---- one number of a division
-- at the place of a residue stands one after it is written; another one stays
held_same : (p : ℕ) (w : List ℤ) (c n : ℕ) → Modulus p → c < length w → n < p → Held p (set w c (pos n)) c
held_same p w c n h l q =
    let e = get_or-set_same w c (pos n) (pos 0) l in
    let f : at (set w c (pos n)) c ≡ n = ap num e in (
      record { inside = omega (arith, length-set w c (pos n)); narrow = record { value = e ∙ ap pos (sym f); small = omega (arith, f, q, h.narrow) } },
      omega (arith, f),
    )

held_other : (p : ℕ) (w : List ℤ) (c n a : ℕ) → ¬ (a ≡ c) → Held p w a → Held p (set w c (pos n)) a
held_other p w c n a far h = held_kept (length-set w c (pos n)) (get_or-set_other w c a (pos n) (pos 0) far) h

module _ {k p b g u : ℕ} {w : List ℤ} {a cap : ℕ} (r : DivideAtReady k p b g u w a cap) where
  -- the code's places
  pub divide-at_lose : {x y n : ℕ} → x ≡ first (cap - g) k → y ≡ first g k → n ≡ span g (cap - g) k → LoseDotReady p (b + x) (a + g + y) n w (a + k)
  divide-at_lose ex ey en = rw (ex, ey, en) r.lose

  pub divide-at-rest : {x y n : ℕ} {w' : List ℤ} → x ≡ first (cap - g) k → y ≡ first g k → n ≡ span g (cap - g) k
      → w' ≡ set w (a + k) (pos (lost_number p (b + x) (a + g + y) n w (a + k))) → w' ≡ rested k p b g w a cap
  divide-at-rest ex ey en h = rw (ex, ey, en) at h

  pub divide-at-times : {w' : List ℤ} → w' ≡ rested k p b g w a cap → TimesNumbersReady p u (a + k) w' (a + k)
  divide-at-times h = rw h (record {
    modulus = r.lose.modulus;
    left = held_other p w (a + k) _ u r.apart r.unit;
    right = held_same p w (a + k) _ r.lose.modulus r.lose.old.0.inside (mod-lt _ r.lose.modulus.positive);
    inside = omega (arith, length-set w (a + k) (pos (lost_number p (b + first (cap - g) k) (a + g + first g k) (span g (cap - g) k) w (a + k))), r.lose.old.0.inside);
  })

  pub divided-low : {w' : List ℤ} → k < g → w' ≡ rested k p b g w a cap → DividedAt k p b g u w w' a cap
  divided-low l h = record { low = λ q. h; high = λ q. absurd (lt_irrefl 0 (omega arith)) }

  pub divided_high : {w₁ w' : List ℤ} → g ≤ k → w₁ ≡ rested k p b g w a cap → w' ≡ set w₁ (a + k) (pos (times_number p u (a + k) w₁))
      → DividedAt k p b g u w w' a cap
  divided_high l e h = record { low = λ q. absurd (lt_irrefl 0 (omega arith)); high = λ q. rw e at h }

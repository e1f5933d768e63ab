-- Places in the store: runs of words that have no place in common, and what stands in them while others change.
--
-- clear_up, clear_down         == two runs of words have no place in common: one is before the other
-- clear_swap, clear_in, apart_in == the other way round; parts of two runs
-- worked_apart, besides_apart  == a run outside a frame is as before;  besides_kept == a turn's end changes only words from low on
-- besides_refl, besides_trans, besides_left, besides_right == nothing changed; one change after another; only one of two runs changed
-- same_trans            == one change after another;  stands_same, elements_same == what stands in such a run stands there still
-- work≤inverse          == an inverse has room for a product
-- laid_start, laid_swap == the six places of two neighbours in the sequence: at the start, and the other way round
use Prim.Native.Nat.{ℕ, zero, suc, ◌+◌, ◌*◌, ◌<◌, ◌≤◌}
use native.Mathlib.Nat.{mul-le-mul_right}
use native.Mathlib.Omega.{arith}
use mathlib.Core.Path.{◌≡◌, refl, ◌∙◌}
use mathlib.Core.Bool.{true}
use mathlib.Core.Logic.{inl, inr}
use mathlib.Core.List.{List}
use lib.IntN.{ℤ, pos}
use lib.ListN.{get_or}
use Rattle.tower.specs.Levels.{degree, El}
use Rattle.tower.specs.Writing.{size}
use Rattle.tower.specs.Stands.{Stands}
use Rattle.tower.specs.Store.{Kept}
use Rattle.tower.specs.Work.{inverse_work, inverse_work_suc}
use Rattle.arithmetic.specs.Places.{wide}
use Rattle.products.specs.Product.{Worked, work, work-zero, work_suc, Elements}
use Rattle.products.proofs.Frames.{Same, same-seg, elements_picked}
use Rattle.sequences.specs.Rows.{Between}
use Rattle.sequences.specs.Outcomes.{Away, Besides}
use Rattle.sequences.specs.Passes.{Clear, Laid}
use Rattle.sequences.proofs.RowLaws.{between_same}

-- ---- two runs
pub clear_swap : {a n b m : ℕ} → Clear a n b m → Clear b m a n
clear_swap {a} {n} {b} {m} c = record { apart = go c.apart }
  where
    go : Between a n b m → Between b m a n
    go (inl h) = inr h
    go (inr h) = inl h

-- parts of them
pub clear_in : {a n b m a' n' b' m' : ℕ} → a ≤ a' → a' + n' ≤ a + n → b ≤ b' → b' + m' ≤ b + m → Clear a n b m → Clear a' n' b' m'
clear_in {a} {n} {b} {m} {a'} {n'} {b'} {m'} ha hn hb hm c = record { apart = go c.apart }
  where
    go : Between a n b m → Between a' n' b' m'
    go (inl h) = inl (omega (arith, ha, hn, hb, hm))
    go (inr h) = inr (omega (arith, ha, hn, hb, hm))

pub apart_in : {a n b m : ℕ} (a' n' b' m' : ℕ) → Clear a n b m → a ≤ a' → a' + n' ≤ a + n → b ≤ b' → b' + m' ≤ b + m → Between a' n' b' m'
apart_in a' n' b' m' c ha hn hb hm = let q : Clear a' n' b' m' = clear_in ha hn hb hm c in q.apart

pub clear_up : {a n b m : ℕ} → a + n ≤ b → Clear a n b m
clear_up h = record { apart = inl h }

pub clear_down : {a n b m : ℕ} → b + m ≤ a → Clear a n b m
clear_down h = record { apart = inr h }

-- ---- a run outside a frame
pub worked_apart : {b l c n top m : ℕ} {w w' : List ℤ} → Clear b l c n → b + l ≤ top → Worked c n top m w w' → Same b l w w'
worked_apart {b} {l} k q f = between_same b l k.apart q f

away : {b l c n k : ℕ} → Clear b l c n → b ≤ k → k < b + l → Away k c n
away {b} {l} {c} {n} {k} s q r = go s.apart
  where
    go : Between b l c n → Away k c n
    go (inl h) = inl (omega (arith, q, r))
    go (inr h) = inr (omega (arith, q, r))

pub besides_apart : {b l c a n top m : ℕ} {w w' : List ℤ} → Clear b l c n → Clear b l a n → b + l ≤ top → Besides c a n top m w w' → Same b l w w'
besides_apart h q t f = record { long = f.long; here = λ k r s. f.others k (away h r s) (away q r s) (inl (omega arith)) }

pub besides_refl : {a b n top m : ℕ} {w : List ℤ} → Besides a b n top m w w
besides_refl = record { long = refl; others = λ k h q t. refl }

pub besides_trans : {a b n top m : ℕ} {u v w : List ℤ} → Besides a b n top m u v → Besides a b n top m v w → Besides a b n top m u w
besides_trans f g = record { long = g.long ∙ f.long; others = λ k h q t. g.others k h q t ∙ f.others k h q t }

-- only one of the two runs has changed
worked_others : {a n top l m : ℕ} {w w' : List ℤ} → l ≤ m → Worked a n top l w w' → (k : ℕ) → Away k a n → Away k top m → get_or w' k (pos 0) ≡ get_or w k (pos 0)
worked_others h f k (inl q) t = f.below k q
worked_others h f k (inr q) (inl t) = f.between k q t
worked_others h f k (inr q) (inr t) = f.beyond k (omega arith)

pub besides_left : {a b n top l m : ℕ} {w w' : List ℤ} → l ≤ m → Worked a n top l w w' → Besides a b n top m w w'
besides_left h f = record { long = f.long; others = λ k x y t. worked_others h f k x t }

pub besides_right : {a b n top l m : ℕ} {w w' : List ℤ} → l ≤ m → Worked b n top l w w' → Besides a b n top m w w'
besides_right h f = record { long = f.long; others = λ k x y t. worked_others h f k y t }

pub besides_kept : {c a n top m low k : ℕ} {w w' : List ℤ} → low ≤ c → c + n ≤ top → low ≤ a → a + n ≤ top → top + m ≤ low + k → Besides c a n top m w w' → Kept low k w w'
besides_kept hc qc ha qa ht f = record {
  long = f.long;
  below = λ j l. f.others j (inl (omega arith)) (inl (omega arith)) (inl (omega arith));
  above = λ j l. f.others j (inr (omega arith)) (inr (omega arith)) (inr (omega arith));
}

pub same_trans : {b l : ℕ} {u v w : List ℤ} → Same b l u v → Same b l v w → Same b l u w
same_trans f q = record { long = q.long ∙ f.long; here = λ k r s. q.here k r s ∙ f.here k r s }

-- ---- what stands there
module _ (p : ℕ) (d : List ℕ) (i : ℕ) {w w' : List ℤ} {a : ℕ} where
  pub stands_same : (x : El p d i) → Same a (size d i) w w' → Stands p d i x w a → Stands p d i x w' a
  stands_same x s h = same-seg s ∙ h

  pub elements_same : (n : ℕ) (f : ℕ → El p d i) → Same a (n * size d i) w w' → Elements p d i n f w a → Elements p d i n f w' a
  elements_same n f s h = elements_picked p d i n f true w w' w a (λ _. s) h

-- ---- room
pub work≤inverse : (d : List ℕ) (i : ℕ) → work d i ≤ inverse_work d i
work≤inverse d zero = omega (arith, work-zero d)
work≤inverse d (suc i) =
    omega (arith, work_suc d i, inverse_work_suc d i, work≤inverse d i, mul-le-mul_right (size d i) (wide_few (degree d i)))
  where
    wide_few : (g : ℕ) → wide g ≤ 5 * (g + 1)
    wide_few g = omega arith

-- ---- the places of two neighbours
pub laid_swap : {top next n s fr fc fu kr kc ku : ℕ} → Laid top next n s fr fc fu kr kc ku → Laid top next n s kr kc ku fr fc fu
laid_swap l = record {
  fr_low = l.kr_low;
  fr_high = l.kr_high;
  fc_low = l.kc_low;
  fc_high = l.kc_high;
  fu_low = l.ku_low;
  fu_high = l.ku_high;
  kr_low = l.fr_low;
  kr_high = l.fr_high;
  kc_low = l.fc_low;
  kc_high = l.fc_high;
  ku_low = l.fu_low;
  ku_high = l.fu_high;
  fr_fc = l.kr_kc;
  fr_fu = l.kr_ku;
  fr_kr = clear_swap l.fr_kr;
  fr_kc = clear_swap l.fc_kr;
  fr_ku = clear_swap l.fu_kr;
  fc_fu = l.kc_ku;
  fc_kr = clear_swap l.fr_kc;
  fc_kc = clear_swap l.fc_kc;
  fc_ku = clear_swap l.fu_kc;
  fu_kr = clear_swap l.fr_ku;
  fu_kc = clear_swap l.fc_ku;
  fu_ku = clear_swap l.fu_ku;
  kr_kc = l.fr_fc;
  kr_ku = l.fr_fu;
  kc_ku = l.fc_fu;
}

-- five slots of n words and one more
pub laid_start : (top n s : ℕ) → s + s ≤ n
    → Laid top (top + 5 * (n + 1)) n s (top + 1) (top + 2 * (n + 1) + 1) (top + 4 * (n + 1)) (top + (n + 1) + 1) (top + 3 * (n + 1) + 1) (top + 4 * (n + 1) + s)
laid_start top n s h = record {
  fr_low = omega arith;
  fr_high = omega arith;
  fc_low = omega arith;
  fc_high = omega arith;
  fu_low = omega arith;
  fu_high = omega arith;
  kr_low = omega arith;
  kr_high = omega arith;
  kc_low = omega arith;
  kc_high = omega arith;
  ku_low = omega arith;
  ku_high = omega arith;
  fr_fc = clear_up (omega arith);
  fr_fu = clear_up (omega arith);
  fr_kr = clear_up (omega arith);
  fr_kc = clear_up (omega arith);
  fr_ku = clear_up (omega arith);
  fc_fu = clear_up (omega arith);
  fc_kr = clear_down (omega arith);
  fc_kc = clear_up (omega arith);
  fc_ku = clear_up (omega arith);
  fu_kr = clear_down (omega arith);
  fu_kc = clear_down (omega arith);
  fu_ku = clear_up (omega arith);
  kr_kc = clear_up (omega arith);
  kr_ku = clear_up (omega arith);
  kc_ku = clear_up (omega arith);
}

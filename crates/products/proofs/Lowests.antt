-- Laws of level 0 of a product, of the word of one coefficient of level 1, and of how an answer is left.
--
-- left_here                 == g elements from top on, copied behind c and given their degree word, are the slot at c
-- small, readable           == a word that holds a residue;  residue_stands == one that was written;  old-number == old content, which is 0 where it is not kept
-- gain-operands             == the numbers of the code's last step;  single_written == the word at level 0
-- write-old, write_written  == the old content and the word of a coefficient of level 1
-- single-ready, single_done == what the sum of products of residues asks for is there, and it ends the product
use Prim.Native.Nat.{ℕ, ◌+◌, ◌-◌, ◌*◌, ◌%◌, ◌<◌}
use native.Mathlib.Nat.{mod-eq_of_lt, zero-add}
use native.Mathlib.Omega.{arith}
use mathlib.Core.Path.{◌≡◌, refl, sym, ap, ap₂, ◌∙◌, subst}
use mathlib.Core.Bool.{Bool, true, false}
use mathlib.Core.List.{List, [], ◌∷◌}
use lib.IntN.{ℤ, pos}
use lib.Dec.{ltb→lt}
use lib.ListN.{length, set}
use Rattle.algebra.specs.Vec.{Vec}
use Rattle.algebra.specs.Zmod.{Residue}
use Rattle.residue.specs.Number.{Modulus, Operands, Below, sum_of, Added}
use Rattle.residue.specs.Word.{num, at}
use Rattle.tower.specs.Levels.{El, group, Tower}
use Rattle.tower.specs.Writing.{size, size-zero, size-pos, write-zero, slot_long}
use Rattle.tower.specs.Form.{seg}
use Rattle.tower.specs.Lists.{seg_long}
use Rattle.tower.specs.Store.{Kept, Put, kept_trans, kept-wide, kept_set, put-kept, put-seg, put-set}
use Rattle.tower.specs.Stands.{Stands, SlotStands}
use Rattle.arithmetic.specs.Places.{keeps_at, loses_at}
use Rattle.arithmetic.specs.Rows.{RunStands, Settled, word_of, narrow_by}
use Rattle.arithmetic.specs.Sum.{gained, gained_number}
use Rattle.arithmetic.specs.Walk.{pick, Readable}
use Rattle.products.specs.Value.{value-zero, pairs}
use Rattle.products.specs.Product.{Two, Given, Pairs, TowerStands, Worked, work, ProductReady, ProductDone}
use Rattle.products.specs.Lowest.{old_number, OldReady, SingleReady, single_number, pairs_number, divided_number}
use Rattle.products.specs.Lowest.{WriteReady, written_number, LeaveReady, Left}
use Rattle.arithmetic.proofs.Gains.{gained-number}
use Rattle.products.proofs.Pairings.{pairs-number, operands-ready}

-- ---- the answer is left
module _ {i g s : ℕ} {w w₁ w' : List ℤ} {c top : ℕ} (h : LeaveReady g s w c top) (copied : Put (c + 1) (seg top (g * s) w) w w₁) (settled : Settled i g s c w₁ w') where
  -- the slot stands at c, and nothing else has changed
  pub left_here : Left i g s w w' c top
  left_here = record { frame = frame; slot = slots }
    where
      long : length (seg top (g * s) w) ≡ g * s
      long = seg_long top (g * s) w h.inside

      frame : Kept c (g * s + 1) w w'
      frame = kept_trans (kept-wide (omega arith) (omega arith) (put-kept (g * s) long copied)) (kept-wide (omega arith) (omega arith) settled.0)

      slots : (p : ℕ) (d : List ℕ) (v : Vec (El p d i) g) → 0 < p → s ≡ size d i → RunStands p d i g v w top → SlotStands p d i g v w' c
      slots p d v p_pos es r =
          let n : g * size d i ≡ g * s = ap (λ m. g * m) (sym es) in
          let run : RunStands p d i g v w₁ (c + 1) =
          ap (λ m. seg (c + 1) m w₁) n ∙ put-seg (g * s) long copied ∙ ap (λ m. seg top m w) (sym n) ∙ r in
          put-seg (g * size d i + 1) (omega (arith, slot_long p d i g v)) (settled.1 p d v p_pos es run)

-- ---- words that hold residues
module _ (p : ℕ) (d : List ℕ) (u : El p d 0) (w : List ℤ) (b : ℕ) (stands : Stands p d 0 u w b) where
  -- the word is below p, and may be read
  pub small : at w b < p
  small = let l : u.0 < p = ltb→lt u.0 p u.1 in omega (arith, ap num (word_of p d u w b stands))

  pub readable : Modulus p → b < length w → Readable w b
  readable h l = record { inside = l; narrow = narrow_by p h _ u (word_of p d u w b stands) }

-- a written residue stands
pub residue_stands : (p : ℕ) (d : List ℕ) (u : El p d 0) (w : List ℤ) (b n : ℕ) → b < length w → n ≡ u.0 → Stands p d 0 u (set w b (pos n)) b
residue_stands p d u w b n l e =
    put-seg (size d 0) (sym (size-zero d)) (put-set w b (pos n) l) ∙ ap (λ m. pos m ∷ []) e ∙ sym (write-zero p d u)

-- zero is the word 0
zero_number : (p : ℕ) (p_pos : 0 < p) (d : List ℕ) (u : El p d 0) → u ≡ (group p p_pos d 0).𝟘 → u.0 ≡ 0
zero_number p p_pos d u e = ap (λ (x : Residue p). x.0) e ∙ mod-eq_of_lt p_pos

-- old content, which is 0 where it is not kept
pub old-number : (p : ℕ) (p_pos : 0 < p) (d : List ℕ) (keep : Bool) (u : El p d 0) (w : List ℤ) (b : ℕ) → (keep ≡ true → Stands p d 0 u w b)
    → (keep ≡ false → u ≡ (group p p_pos d 0).𝟘) → old_number keep (at w b) ≡ u.0
old-number p p_pos d true u w b kept fresh = ap num (word_of p d u w b (kept refl))
old-number p p_pos d false u w b kept fresh = sym (zero_number p p_pos d u (fresh refl))

-- ---- the last step
-- old content is below p
old_small : (p : ℕ) (keep : Bool) (w : List ℤ) (c : ℕ) → 0 < p → OldReady p keep w c → old_number keep (at w c) < p
old_small p true w c h f = (f refl).1
old_small p false w c h f = h

-- what the last step takes
pub gain-operands : {p : ℕ} {keep : Bool} {w : List ℤ} {c u n v : ℕ} → Modulus p → OldReady p keep w c → u ≡ old_number keep (at w c) → Below p n v
    → Operands p u v
gain-operands {p} {keep} {w} {c} h old eu b = record {
  narrow = h.narrow;
  left = omega (arith, eu, old_small p keep w c h.positive old);
  right = b.small;
}

module _ {d z : List ℕ} {p : ℕ} {m : List ℕ} {o : Two} {keep : Bool} {w : List ℤ} {c u : ℕ} (h : SingleReady d z p m o keep w c)
    (eu : u ≡ old_number keep (at w c)) where
  -- the word that is written
  pub single_written : (neg : Bool) {lo hi v r : ℕ} {w' : List ℤ} → Added (o.n * size d o.i) (pairs_number d m o w) 0 0 lo hi → Below p (sum_of lo hi % p) v
      → r ≡ gained_number neg p u v → w' ≡ set w c (pos r) → w' ≡ set w c (pos (single_number d p m o neg keep w c))
  single_written neg sum b er ew =
      ew
      ∙ ap (λ n. set w c (pos n)) (er ∙ ap₂ (gained_number neg p) eu (b.value ∙ ap (λ n. n % p) (sum.value ∙ zero-add (pairs_number d m o w))))

-- ---- one coefficient of level 1
module _ {g p : ℕ} {e : List ℤ} {ea : ℕ} {keep : Bool} {w : List ℤ} {c top k lo hi : ℕ} (h : WriteReady g p e ea keep w c top k lo hi) {kp : Bool}
    (ek : kp ≡ keeps_at keep k g) where
  -- the old content at its place
  pub write-old : OldReady p kp w (c + 1 + k)
  write-old = subst (λ b. OldReady p b w (c + 1 + k)) (sym ek) h.old

  -- the word that is written
  pub write_written : (neg : Bool) {ls : Bool} {u v r : ℕ} {w' : List ℤ} → u ≡ old_number kp (at w (c + 1 + k))
      → Below p (divided_number g p e ea w top k (sum_of lo hi)) v
      → ls ≡ loses_at neg k g → r ≡ gained_number ls p u v → w' ≡ set w (top + k) (pos r)
      → w' ≡ set w (top + k) (pos (written_number g p e ea neg keep w c top k (sum_of lo hi)))
  write_written neg {ls} {u} {v} eu b el er ew =
      ew
      ∙ ap (λ n. set w (top + k) (pos n))
      (er ∙ ap (λ (f : Bool). gained_number f p u v) el
      ∙ ap₂ (gained_number (loses_at neg k g) p) (eu ∙ ap (λ (f : Bool). old_number f (at w (c + 1 + k))) ek) b.value)

-- ---- level 0
module _ {j : ℕ} {d z : List ℕ} {p : ℕ} {m : List ℕ} {e : List ℤ} {e-in : Bool} {ea : ℕ} {o : Two} {keep : Bool} {w : List ℤ} {c top : ℕ} (level : j ≡ 0)
    (h : ProductReady j d z p m e e-in ea o keep w c top) where
  -- the answer's word
  inside : c < length w
  inside =
      let f : size d j ≡ 1 = ap (size d) level ∙ size-zero d in
      omega (arith, h.c_below, h.room)

  -- the sum may be made
  pub single-ready : SingleReady d z p m o keep w c
  single-ready = record {
    modulus = h.operating.modulus;
    pairs =
        operands-ready p h.p_pos d o h.u h.v w h.given.lefts h.given.rights z m top h.operating (λ l q. h.reached l (omega (arith, level)) q);
    few = omega (arith, h.operating.few, size-pos d o.i);
    inside = inside;
    old = old (subst (λ k. ProductReady k d z p m e e-in ea o keep w c top) level h);
  }
    where
      old : ProductReady 0 d z p m e e-in ea o keep w c top → OldReady p keep w c
      old h k = (readable p d h.old w c (h.given.kept k) h.operating.modulus inside, small p d h.old w c (h.given.kept k))

  -- and it ends the product
  pub single_done : {neg : Bool} {w' : List ℤ} → w' ≡ set w c (pos (single_number d p m o neg keep w c)) → ProductDone j d p m e e-in ea o neg keep w w' c top
  single_done {neg} {w'} written =
      subst (λ k. ProductDone k d p m e e-in ea o neg keep w w' c top) (sym level)
      (subst (λ x. ProductDone 0 d p m e e-in ea o neg keep w x c top) (sym written) (record { frame = frame; done = done }))
    where
      r : ℕ
      r = single_number d p m o neg keep w c

      frame : Worked c (size d 0) top (work d 0) w (set w c (pos r))
      frame =
          let f = kept_set w c (pos r) in
          record {
            long = f.long;
            below = f.below;
            between = λ k q l. f.above k (omega (arith, size-zero d));
            beyond = λ k q. f.above k (omega (arith, h.c_below, size-pos d j));
          }

      done : (p_pos : 0 < p) (t : Tower p d 0) (u v : ℕ → El p d o.i) (old : El p d 0) → TowerStands p p_pos d 0 t (pick e-in w e) ea
          → Given p p_pos d o u v 0 old keep w c → Stands p d 0 (gained (group p p_pos d 0) neg old (Pairs p p_pos d 0 t o u v m)) (set w c (pos r)) c
      done p_pos t u v old st g =
          residue_stands p d _ w c r inside
          (ap₂ (gained_number neg p) (old-number p p_pos d keep old w c g.kept g.fresh)
          (ap (λ n. n % p) (pairs-number p p_pos d o u v w g.lefts g.rights m)
          ∙ sym (ap (λ (x : Residue p). x.0) (value-zero p p_pos d t (pairs p p_pos d o.i o.n u (λ k. v (o.n - 1 - k))) m)))
          ∙ gained-number p p_pos neg old (Pairs p p_pos d 0 t o u v m))

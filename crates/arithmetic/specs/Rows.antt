-- Elements of one level that stand one after the other, and the degree word before them.
--
-- RunStands p d i k v w a == the words of the k elements v stand from a on in w;  run_block == each of them stands at its place;  run_of == and back
-- behind                  == the coefficients of a slot stand behind its degree word
-- word_of, narrow_by      == an element of level 0 is the word that holds its number;  a word that holds a residue is narrow
-- block_inside            == the j-th of k blocks of s words ends inside
-- Top, Settled            == what the search for the highest coefficient gives, and what the degree word's writing leaves
-- Degreed                 == a degree word written
use Rattle.std.specs.Prelude.{ℕ, suc, ◌+◌, ◌*◌, ◌<◌, ◌≤◌, ◌≡◌, List, ℤ, pos, T, length, get_or, take, drop, ◌⊎◌}
use Rattle.std.proofs.Common.{mul-le-mul_right, suc-mul, add-zero, arith, sym, ap, ◌∙◌, subst, ltb→lt, take_all, inl, inr}
use Rattle.algebra.specs.Vec.{Vec, coef, coef_inj, coef_below}
use Rattle.algebra.specs.Shape.{strip, count}
use Rattle.algebra.specs.Zmod.{Residue}
use Rattle.algebra.specs.Test.{le_or_lt}
use Rattle.residue.specs.Number.{Modulus}
use Rattle.residue.specs.Word.{num, Narrow}
use Rattle.tower.specs.Levels.{El, is_zero, group, zero_test}
use Rattle.tower.specs.Writing.{size, size-zero, write, write-zero, write_long, read, writes, writes_long, reads, slot}
use Rattle.tower.specs.Form.{seg, is_in_form, zero_words}
use Rattle.tower.specs.Lists.{seg-seg, seg-at, seg_long}
use Rattle.tower.specs.Coding.{Coding, block_up, coef-reads, writes_reads}
use Rattle.tower.specs.Unique.{coding, laws}
use Rattle.tower.specs.Store.{Kept, Put}
use Rattle.tower.specs.Stands.{Stands, SlotStands}

abbrev pub RunStands : (p : ℕ) (d : List ℕ) (i k : ℕ) → Vec (El p d i) k → List ℤ → ℕ → Type 0
RunStands p d i k v w a = seg a (k * size d i) w ≡ writes (write p d i) k v

-- r counts up to the highest of the k elements of level i and s words from a on that is not zero, whatever the modulus and the degrees
abbrev pub Top : (i k s : ℕ) → List ℤ → ℕ → ℕ → Type 0
Top i k s w a r =
    (p : ℕ) (d : List ℕ) (v : Vec (El p d i) k) → 0 < p → s ≡ size d i → RunStands p d i k v w a → count (strip (is_zero p d i) k v) ≡ r

-- the one word at a was written, and it is the degree word of the k elements behind it
abbrev pub Settled : (i k s : ℕ) → ℕ → List ℤ → List ℤ → Type 0
Settled i k s a w w' =
    Kept a 1 w w'
    × ((p : ℕ) (d : List ℕ) (v : Vec (El p d i) k) → 0 < p → s ≡ size d i → RunStands p d i k v w (a + 1) → Put a (slot p d i k v) w w')

-- the coefficients of a slot stand behind its degree word
pub behind : (p : ℕ) (d : List ℕ) (i k : ℕ) (v : Vec (El p d i) k) (w : List ℤ) (a : ℕ) → SlotStands p d i k v w a → RunStands p d i k v w (a + 1)
behind p d i k v w a h = sym (seg-seg a (k * size d i + 1) 1 (k * size d i) w (omega arith)) ∙ ap (seg 1 (k * size d i)) h ∙ whole
  where
    whole : seg 1 (k * size d i) (slot p d i k v) ≡ writes (write p d i) k v
    whole = take_all (k * size d i) (writes (write p d i) k v) (omega (arith, writes_long (write p d i) (size d i) (write_long p d i) k v))

-- an element of level 0 is one word
pub word_of : (p : ℕ) (d : List ℕ) (u : El p d 0) (w : List ℤ) (b : ℕ) → Stands p d 0 u w b → get_or w b (pos 0) ≡ pos u.0
word_of p d u w b h =
    ap (λ k. get_or w k (pos 0)) (sym (add-zero b)) ∙ sym (seg-at b (size d 0) 0 w (omega (arith, size-zero d))) ∙ ap (λ l. get_or l 0 (pos 0)) (h ∙ write-zero p d u)

-- a word that holds a residue is narrow
pub narrow_by : (p : ℕ) → Modulus p → (g : ℤ) (u : Residue p) → g ≡ pos u.0 → Narrow g
narrow_by p h g u e =
    let l : u.0 < p = ltb→lt u.0 p u.1 in
    let n : num g ≡ u.0 = ap num e in
    record { value = e ∙ ap pos (sym n); small = omega (arith, n, l, h.narrow) }

-- the j-th of k blocks of s words ends inside
pub block_inside : (j k s : ℕ) → j < k → j * s + s ≤ k * s
block_inside j k s h = let h' : suc j * s ≤ k * s = mul-le-mul_right s h in omega (arith, h', suc-mul j s)

module _ (p : ℕ) (p_pos : 0 < p) (d : List ℕ) (i k : ℕ) (v : Vec (El p d i) k) (w : List ℤ) (a : ℕ) where
  abbrev o : El p d i
  o = (group p p_pos d i).𝟘

  abbrev C : Coding (El p d i) o (size d i) (zero_words d i) (is_in_form p d i)
  C = coding p p_pos d i

  abbrev l : List ℤ
  l = seg a (k * size d i) w

  -- the place of the j-th
  abbrev pub place : ℕ → ℕ
  place j = a + j * size d i

  pub run_block : RunStands p d i k v w a → (j : ℕ) → j < k → Stands p d i (coef (group p p_pos d i).𝟘 k v j) w (place j)
  run_block h j l =
      sym (seg-seg a (k * size d i) (j * size d i) (size d i) w (block_inside j k (size d i) l))
      ∙ ap (seg (j * size d i) (size d i)) h
      ∙ block_up (zero_test p p_pos d i) (size d i) (zero_words d i) (is_in_form p d i) (coding p p_pos d i) k v j l

  pub run_of : a + k * size d i ≤ length w → ((j : ℕ) → j < k → Stands p d i (coef (group p p_pos d i).𝟘 k v j) w (place j)) → RunStands p d i k v w a
  run_of inside h = sym (writes_reads (zero_test p p_pos d i) (size d i) (zero_words d i) (is_in_form p d i) C k l (seg_long a (k * size d i) w inside) good) ∙ ap (writes (write p d i) k) same
    where
      block : (j : ℕ) → j < k → take (size d i) (drop (j * size d i) l) ≡ write p d i (coef o k v j)
      block j q = seg-seg a (k * size d i) (j * size d i) (size d i) w (block_inside j k (size d i) q) ∙ h j q

      good : (j : ℕ) → j < k → T (is_in_form p d i (take (size d i) (drop (j * size d i) l)))
      good j q = subst (λ t. T (is_in_form p d i t)) (sym (block j q)) ((laws p p_pos d i).good_write (coef o k v j))

      at : (j : ℕ) → (k ≤ j) ⊎ (j < k) → coef o k (reads (read p p_pos d i) (size d i) k l) j ≡ coef o k v j
      at j (inl q) = coef_below o k _ j q ∙ sym (coef_below o k v j q)
      at j (inr q) = coef-reads (zero_test p p_pos d i) (size d i) (zero_words d i) (is_in_form p d i) C k l j q ∙ ap (read p p_pos d i) (block j q) ∙ (laws p p_pos d i).read_write (coef o k v j)

      same : reads (read p p_pos d i) (size d i) k l ≡ v
      same = coef_inj o k _ _ (λ j. at j (le_or_lt k j))

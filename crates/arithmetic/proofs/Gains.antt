-- Laws of sum and difference in the store.
use Prim.Native.Nat.{ℕ, suc, ◌+◌, ◌-◌, ◌*◌, ◌<◌, ◌≤◌}
use native.Mathlib.Nat.{mul-le-mul_right, suc-mul, add-mod-mod}
use native.Mathlib.Omega.{arith}
use mathlib.Core.Path.{◌≡◌, refl, sym, ap, ◌∙◌, subst}
use mathlib.Core.Logic.{◌⊎◌, inl, inr}
use mathlib.Core.Bool.{Bool, true, false}
use mathlib.Core.List.{List, [], ◌∷◌}
use lib.IntN.{ℤ, pos}
use lib.ListN.{length, get_or}
use Rattle.algebra.specs.Test.{le_or_lt}
use Rattle.algebra.specs.Vec.{Vec, coef}
use Rattle.algebra.specs.Zmod.{Residue, z_group}
use Rattle.tower.specs.Levels.{degree, El, group}
use Rattle.tower.specs.Writing.{size, size-zero, size_suc, write, write-zero, write_suc, write_long, slot, slot_long, count_of, size-pos}
use Rattle.tower.specs.Store.{Put, Kept, kept_trans, kept-wide, kept_join, kept-seg, put-kept, put-seg}
use Rattle.tower.specs.Stands.{Stands, SlotStands, slot_of, degree_told, count_few}
use Rattle.arithmetic.specs.Rows.{block_inside, RunStands, behind, word_of, run_block, run_of, Settled}
use Rattle.arithmetic.specs.Sum.{gained, gained-zero, slot_gained, gained_places, gained-at, gained_number, WordGained, Gained, RowGained, WordTerms, Terms, RowTerms}

-- ---- the loop over the coefficients
-- k of them have gained theirs; w₀ is the store before
pub record Gaining (p : ℕ) (d : List ℕ) (i n : ℕ) (neg : Bool) (x : List ℤ) (a : ℕ) (w₀ : List ℤ) (b k : ℕ) (w : List ℤ) : Type 0 where
  pub kept : Kept (b + 1) (k * size d i) w₀ w
  pub so_far : (p_pos : 0 < p) (u : Vec (El p d i) n) (l : ℕ) (v : Vec (El p d i) l) → SlotStands p d i n u w₀ b → SlotStands p d i l v x a
      → (j : ℕ) → j < k → Stands p d i (gained (group p p_pos d i) neg (coef (group p p_pos d i).𝟘 n u j) (coef (group p p_pos d i).𝟘 l v j)) w (b + 1 + j * size d i)

module _ {p : ℕ} {d z : List ℕ} {i n : ℕ} {x : List ℤ} {a : ℕ} {w₀ : List ℤ} {b : ℕ} (t : RowTerms p d z i n x a b w₀) where
  -- as many coefficients as the degree word counts are there
  pub count_inside : count_of (get_or x a (pos 0)) ≤ t.coefficients
  count_inside = count_few p t.modulus.positive d i x a t.coefficients t.right t.right_stands

  module _ {neg : Bool} {k : ℕ} {w : List ℤ} (g : Gaining p d i n neg x a w₀ b k w) where
    left_block : (p_pos : 0 < p) (u : Vec (El p d i) n) → SlotStands p d i n u w₀ b → (j : ℕ) → j < n → k ≤ j → Stands p d i (coef (group p p_pos d i).𝟘 n u j) w (b + 1 + j * size d i)
    left_block p_pos u h j l q =
        let m : k * size d i ≤ j * size d i = mul-le-mul_right (size d i) q in
        kept-seg (b + 1 + j * size d i) (size d i) (inr (omega arith)) g.kept ∙ run_block p p_pos d i n u w₀ (b + 1) (behind p d i n u w₀ b h) j l

    right_block : (p_pos : 0 < p) (l : ℕ) (v : Vec (El p d i) l) → SlotStands p d i l v x a → (j : ℕ) → j < l → Stands p d i (coef (group p p_pos d i).𝟘 l v j) x (a + 1 + j * size d i)
    right_block p_pos l v h j q = run_block p p_pos d i l v x (a + 1) (behind p d i l v x a h) j q

    pub gaining_settles : {s : ℕ} → s ≡ size d i → (1 ≤ s) × (b + 1 + n * s ≤ length w)
    gaining_settles {s} es =
        let m : n * s ≡ n * size d i = ap (λ (y : ℕ). n * y) es in
        (omega (arith, size-pos d i), omega (arith, t.left_inside, g.kept.long))

    -- the terms of the next one
    pub gaining_terms : k < count_of (get_or x a (pos 0)) → {a' b' : ℕ} → a' ≡ a + 1 + k * size d i → b' ≡ b + 1 + k * size d i → Terms p d z i x a' b' w
    gaining_terms q ea eb =
        let p_pos = t.modulus.positive in
        let few = t.few in
        let ends = block_inside k n (size d i) (omega arith) in
        let more = block_inside k t.coefficients (size d i) (omega (arith, count_inside)) in
        record {
          modulus = t.modulus;
          low = t.low;
          sized = t.sized;
          left = coef (group p p_pos d i).𝟘 n t.left k;
          left_stands = subst (Stands p d i _ w) (sym eb) (left_block p_pos t.left t.left_stands k (omega arith) (omega arith));
          left_inside = omega (arith, t.left_inside, g.kept.long);
          right = coef (group p p_pos d i).𝟘 t.coefficients t.right k;
          right_stands = subst (Stands p d i _ x) (sym ea) (right_block p_pos t.coefficients t.right t.right_stands k (omega (arith, count_inside)));
          right_inside = omega (arith, t.right_inside);
        }

    -- and what it leaves
    pub gaining_next : k < count_of (get_or x a (pos 0)) → {a' b' : ℕ} (w' : List ℤ) → a' ≡ a + 1 + k * size d i → b' ≡ b + 1 + k * size d i
        → Gained p d i neg x a' b' w w' → Gaining p d i n neg x a w₀ b (k + 1) w'
    gaining_next q {a'} {b'} w' ea eb h = subst (λ m. Gaining p d i n neg x a w₀ b m w') (omega arith) (record { kept = wider; so_far = so_far })
      where
        put : (p_pos : 0 < p) (u : Vec (El p d i) n) (l : ℕ) (v : Vec (El p d i) l) → SlotStands p d i n u w₀ b → SlotStands p d i l v x a
            → Put b' (write p d i (gained (group p p_pos d i) neg (coef (group p p_pos d i).𝟘 n u k) (coef (group p p_pos d i).𝟘 l v k))) w w'
        put p_pos u l v hu hv =
            h
            p_pos
            (coef (group p p_pos d i).𝟘 n u k)
            (coef (group p p_pos d i).𝟘 l v k)
            (subst (Stands p d i _ w) (sym eb) (left_block p_pos u hu k (omega (arith, t.few)) (omega arith)))
            (subst (Stands p d i _ x) (sym ea) (right_block p_pos l v hv k (omega (arith, count_few p p_pos d i x a l v hv))))

        here : Kept b' (size d i) w w'
        here = put-kept (size d i) (write_long p d i _) (put t.modulus.positive t.left t.coefficients t.right t.left_stands t.right_stands)

        wider : Kept (b + 1) (suc k * size d i) w₀ w'
        wider = subst (λ m. Kept (b + 1) m w₀ w') (omega (arith, suc-mul k (size d i))) (kept_join eb g.kept here)

        so_far : (p_pos : 0 < p) (u : Vec (El p d i) n) (l : ℕ) (v : Vec (El p d i) l) → SlotStands p d i n u w₀ b → SlotStands p d i l v x a
            → (j : ℕ) → j < suc k
            → Stands p d i (gained (group p p_pos d i) neg (coef (group p p_pos d i).𝟘 n u j) (coef (group p p_pos d i).𝟘 l v j)) w' (b + 1 + j * size d i)
        so_far p_pos u l v hu hv j r = which (le_or_lt k j)
          where
            which : (k ≤ j) ⊎ (j < k)
                → Stands p d i (gained (group p p_pos d i) neg (coef (group p p_pos d i).𝟘 n u j) (coef (group p p_pos d i).𝟘 l v j)) w' (b + 1 + j * size d i)
            which (inr lt) =
                let ends = block_inside j k (size d i) lt in
                kept-seg (b + 1 + j * size d i) (size d i) (inl (omega arith)) here ∙ g.so_far p_pos u l v hu hv j lt
            which (inl ge) =
                let e : k ≡ j = omega arith in
                let last : Stands p d i (gained (group p p_pos d i) neg (coef (group p p_pos d i).𝟘 n u k) (coef (group p p_pos d i).𝟘 l v k)) w' (b + 1 + k * size d i) =
                subst (Stands p d i _ w') eb (put-seg (size d i) (write_long p d i _) (put p_pos u l v hu hv)) in
                subst (λ m. Stands p d i (gained (group p p_pos d i) neg (coef (group p p_pos d i).𝟘 n u m) (coef (group p p_pos d i).𝟘 l v m)) w' (b + 1 + m * size d i)) e last

    pub gaining_end : k ≡ count_of (get_or x a (pos 0)) → {s : ℕ} → s ≡ size d i → (w' : List ℤ) → Settled i n s b w w' → RowGained p d i n neg x a b w₀ w'
    gaining_end e {s} es w' h p_pos u l v hu hv = record { kept = kept_trans (kept-wide (omega arith) far g.kept) done.kept; here = done.here }
      where
        r : Vec (El p d i) n
        r = slot_gained (group p p_pos d i) neg n l u v

        block : (j : ℕ) → (k ≤ j) ⊎ (j < k) → j < n
            → Stands p d i (gained (group p p_pos d i) neg (coef (group p p_pos d i).𝟘 n u j) (coef (group p p_pos d i).𝟘 l v j)) w (b + 1 + j * size d i)
        block j (inr lt) q = g.so_far p_pos u l v hu hv j lt
        block j (inl ge) q =
            let none : coef (group p p_pos d i).𝟘 l v j ≡ (group p p_pos d i).𝟘 = (degree_told p p_pos d i x a l v hv).rest j (omega (arith, e)) in
            left_block p_pos u hu j q ge
            ∙ ap (write p d i) (sym (ap (gained (group p p_pos d i) neg (coef (group p p_pos d i).𝟘 n u j)) none ∙ gained-zero (group p p_pos d i) neg _))

        stands : RunStands p d i n r w (b + 1)
        stands =
            run_of p p_pos d i n r w (b + 1) (omega (arith, t.left_inside, g.kept.long))
            (λ j q. block j (le_or_lt k j) q ∙ ap (write p d i) (sym (gained-at (group p p_pos d i) neg n l u v j q)))

        done : Put b (slot p d i n r) w w'
        done = h.1 p d r p_pos es stands

        far : b + 1 + k * size d i ≤ b + length (slot p d i n r)
        far =
            let m : k * size d i ≤ n * size d i = mul-le-mul_right (size d i) (omega (arith, e, t.few)) in
            omega (arith, slot_long p d i n r)

-- ---- one word
pub word_terms : (p : ℕ) (d z : List ℕ) (i : ℕ) (x : List ℤ) (a b : ℕ) (w : List ℤ) → i ≡ 0 → Terms p d z i x a b w → WordTerms p x a b w
word_terms p d z i x a b w e t = go (subst (λ m. Terms p d z m x a b w) e t)
  where
    go : Terms p d z 0 x a b w → WordTerms p x a b w
    go t = record {
      modulus = t.modulus;
      left = t.left;
      left_is = word_of p d t.left w b t.left_stands;
      left_inside = omega (arith, t.left_inside, size-zero d);
      right = t.right;
      right_is = word_of p d t.right x a t.right_stands;
      right_inside = omega (arith, t.right_inside, size-zero d);
    }

pub gained-number : (p : ℕ) (p_pos : 0 < p) (neg : Bool) (u v : Residue p) → gained_number neg p u.0 v.0 ≡ (gained (z_group p p_pos) neg u v).0
gained-number p p_pos false u v = refl
gained-number p p_pos true u v = sym (add-mod-mod u.0 (p - v.0) p)

pub word-up : (p : ℕ) (d : List ℕ) (i : ℕ) (neg : Bool) (x : List ℤ) (a b : ℕ) (w w' : List ℤ) → i ≡ 0 → WordGained p neg x a b w w' → Gained p d i neg x a b w w'
word-up p d i neg x a b w w' e h = subst (λ m. Gained p d m neg x a b w w') (sym e) go
  where
    go : Gained p d 0 neg x a b w w'
    go p_pos u v hu hv =
        subst (λ l. Put b l w w') (ap (λ m. pos m ∷ []) (gained-number p p_pos neg u v) ∙ sym (write-zero p d (gained (group p p_pos d 0) neg u v)))
        (h u.0 v.0 (word_of p d u w b hu) (word_of p d v x a hv))

-- ---- an element above level 0 is a slot
module _ (p : ℕ) (d z : List ℕ) (i h n : ℕ) (neg : Bool) (x : List ℤ) (a b : ℕ) (w : List ℤ) (e : i ≡ suc h) (en : n ≡ degree d h) where
  pub terms_up : Terms p d z i x a b w → RowTerms p d z h n x a b w
  terms_up t = subst (λ m. RowTerms p d z h m x a b w) (sym en) (go (subst (λ m. Terms p d z m x a b w) e t))
    where
      go : Terms p d z (suc h) x a b w → RowTerms p d z h (degree d h) x a b w
      go t =
          let right = slot_of p t.modulus.positive d h x a t.right t.right_stands in
          record {
            modulus = t.modulus;
            low = omega (arith, t.low);
            sized = t.sized;
            left = t.left;
            left_stands = slot_of p t.modulus.positive d h w b t.left t.left_stands;
            left_inside = omega (arith, t.left_inside, size_suc d h);
            coefficients = degree d h;
            right = t.right;
            right_stands = right;
            right_inside = omega (arith, t.right_inside, size_suc d h);
            few = count_few p t.modulus.positive d h x a (degree d h) t.right right;
          }

  pub gained-up : (w' : List ℤ) → RowGained p d h n neg x a b w w' → Gained p d i neg x a b w w'
  gained-up w' r = subst (λ m. Gained p d m neg x a b w w') (sym e) (go (subst (λ m. RowGained p d h m neg x a b w w') en r))
    where
      go : RowGained p d h (degree d h) neg x a b w w' → Gained p d (suc h) neg x a b w w'
      go r p_pos u v hu hv =
          subst (λ l. Put b l w w') (ap (slot p d h (degree d h)) (sym (gained_places (group p p_pos d h) neg (degree d h) u v)) ∙ sym (write_suc p d h _))
          (r p_pos u (degree d h) v (slot_of p p_pos d h w b u hu) (slot_of p p_pos d h x a v hv))

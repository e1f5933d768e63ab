-- Laws of the product of slots: each coefficient is a sum of products made in the store and copied out.
--
-- part_of_slot              == the coefficients of a slot stand behind its degree word
-- below_count, slots_kept   == a polynomial is zero from its count on;  a store as long serves as well
-- times, placed, words_many == multiples of a size; places; n elements have at least n words
-- count_left, count-both    == how many coefficients a product has
-- finish_places, finished   == the zeros and the degree word at the end of a slot
-- multiply_places, -product, -at == what a coefficient's product asks for, and what is left when it is copied out
-- multiply_counts              == the counts are less than the lists' lengths
-- Multiplying; multiplying_start, _at, _less, _next, _finish, _end == the loop over the coefficients, and its end
use Prim.Native.Nat.{ℕ, zero, suc, ◌+◌, ◌-◌, ◌*◌, ◌<◌, ◌≤◌}
use native.Mathlib.Nat.{mul-le-mul_left, mul-le-mul_right, add-mul, lt_irrefl}
use native.Mathlib.Omega.{arith}
use mathlib.Core.Path.{◌≡◌, refl, ap, ap₂, sym, ◌∙◌, subst}
use mathlib.Core.Bool.{true, false}
use mathlib.Core.Logic.{◌⊎◌, inl, inr}
use mathlib.Core.List.{List}
use lib.Dec.{T}
use lib.IntN.{ℤ}
use lib.ListN.{length}
use Rattle.algebra.specs.Test.{le_or_lt}
use Rattle.algebra.specs.Ring.{CRing, zero-⊕}
use Rattle.algebra.specs.Series.{◌*ˢ◌}
use Rattle.algebra.specs.Vec.{Vec, Below, coef, trunc-at}
use Rattle.algebra.specs.Windows.{first, span, span_left, span_right, sum-zero, sum, product_at}
use Rattle.tower.specs.Levels.{El, group, Tower, ring}
use Rattle.tower.specs.Writing.{size, size-pos, write, slot_long, degree_count}
use Rattle.tower.specs.Form.{seg, copies, zero_words}
use Rattle.tower.specs.Lists.{seg_long, copies_long}
use Rattle.tower.specs.Store.{Kept, Put, kept_refl, kept_trans, kept-wide, kept_join, kept-seg, put-kept, put-seg}
use Rattle.tower.specs.Stands.{Stands, SlotStands, zero_long, count_few, degree_told}
use Rattle.arithmetic.specs.Rows.{block_inside, behind, run_block, run_of, Settled}
use Rattle.arithmetic.specs.Sum.{gained}
use Rattle.products.specs.Value.{value-pairs}
use Rattle.products.specs.Product.{work, TowerStands, Two, two, Given, Pairs, ProductReady, ProductDone}
use Rattle.products.proofs.Frames.{parts_fit, worked_kept, zeros_stand}
use Rattle.polynomials.specs.Slots.{product_count, slot_product, SlotsReady, FinishReady, Finished, MultiplyReady, Multiplied, MultiplyAtReady, MultipliedAt}

-- ---- slots
pub part_of_slot : (p : ℕ) (p_pos : 0 < p) (d : List ℕ) (i k : ℕ) (v : Vec (El p d i) k) (x : List ℤ) → SlotStands p d i k v x 0
    → (n : ℕ) → n < k → Stands p d i (coef (group p p_pos d i).𝟘 k v n) x (1 + n * size d i)
part_of_slot p p_pos d i k v x s n h = run_block p p_pos d i k v x 1 (behind p d i k v x 0 s) n h

-- a polynomial is zero from its count on
pub below_count : (p : ℕ) (p_pos : 0 < p) (d : List ℕ) (i k : ℕ) (v : Vec (El p d i) k) (x : List ℤ) (c : ℕ) → c ≡ degree_count x → SlotStands p d i k v x 0
    → Below (group p p_pos d i).𝟘 c (coef (group p p_pos d i).𝟘 k v)
below_count p p_pos d i k v x c e s n h = (degree_told p p_pos d i x 0 k v s).rest n (omega (arith, e))

-- a store as long serves as well
pub slots_kept : {i : ℕ} {d z : List ℕ} {p : ℕ} {t b w w' : List ℤ} → length w' ≡ length w → SlotsReady i d z p t b w → SlotsReady i d z p t b w'
slots_kept e r = record {
  modulus = r.modulus;
  low = r.low;
  sized = r.sized;
  positive = r.positive;
  small = r.small;
  tower_inside = r.tower_inside;
  room = omega (arith, r.room, e);
  p_pos = r.p_pos;
  tower = r.tower;
  tower_stands = r.tower_stands;
  kb = r.kb;
  v = r.v;
  b_stands = r.b_stands;
  b_inside = r.b_inside;
}

-- a multiple of the size, and a coefficient's place, as they are reckoned
pub times : {s t : ℕ} → s ≡ t → (u : ℕ) → u * s ≡ u * t
times e u = ap (λ (x : ℕ). u * x) e

pub placed : {x u v : ℕ} (s : ℕ) → x ≡ 0 + 1 + u * s → u ≡ v → x ≡ 0 + 1 + v * s
placed s e eu = e ∙ ap (λ (o : ℕ). 0 + 1 + o * s) eu

-- how many coefficients a product has
pub count_left : (ca cb : ℕ) → cb ≡ 0 → 0 ≡ product_count ca cb
count_left zero cb e = refl
count_left (suc ca) zero e = refl
count_left (suc ca) (suc cb) e = absurd (lt_irrefl 0 (omega arith))

pub count-both : (ca cb : ℕ) → 0 < ca → 0 < cb → ca + cb - 1 ≡ product_count ca cb
count-both zero cb ha hb = absurd (lt_irrefl 0 (omega arith))
count-both (suc ca) zero ha hb = absurd (lt_irrefl 0 (omega arith))
count-both (suc ca) (suc cb) ha hb = omega arith

-- n elements have no fewer words
pub words_many : (d : List ℕ) (i n : ℕ) → n ≤ n * size d i
words_many d i n = let h : n * 1 ≤ n * size d i = mul-le-mul_left n (size-pos d i) in omega arith

sum_empty : (R : CRing) (n : ℕ) (f : ℕ → R.Car) → n ≡ 0 → sum R n f ≡ R.𝟘
sum_empty R n f e = ap (λ (x : ℕ). sum R x f) e ∙ sum-zero R f

reached_of : (ca cb j : ℕ) → j < product_count ca cb → j + 1 ≤ ca + cb
reached_of zero cb j h = absurd (lt_irrefl 0 (omega arith))
reached_of (suc ca) zero j h = absurd (lt_irrefl 0 (omega arith))
reached_of (suc ca) (suc cb) j h = omega arith

pub no : {A : Type 0} → false ≡ true → A
no h = absurd (subst T (sym h) tt)

-- ---- the end of a slot
pub finish_places : {i k from n : ℕ} {d z : List ℕ} {w : List ℤ} {s : ℕ} → FinishReady i k from n d z w → s ≡ size d i
    → (0 + 1 + from * s + n * size d i ≤ length w) × (1 ≤ s) × (0 + 1 + k * s ≤ length w)
finish_places {i} {k} {from} {n} {d} {z} {w} {s} r es =
    let most : from * size d i + n * size d i ≤ k * size d i = parts_fit from n k (size d i) r.fits in
    (omega (arith, times es from, r.inside), omega (arith, size-pos d i), omega (arith, times es k, r.inside))

pub finished : (i k from n : ℕ) (d z : List ℕ) (w w₁ w₂ : List ℤ) (at s : ℕ) → FinishReady i k from n d z w → at ≡ 0 + 1 + from * size d i → s ≡ size d i
    → Put at (copies n (zero_words d i)) w w₁ → Settled i k s 0 w₁ w₂ → Finished i k from n d w w₂
finished i k from n d z w w₁ w₂ at s r ea es h q = record {
  frame = whole;
  done = λ p p_pos v there none.
      let all = run_of p p_pos d i k v w₁ 1 (omega (arith, r.inside, h.kept.long)) (λ j l. each p p_pos v there none j l (le_or_lt from j) (le_or_lt (from + n) j)) in
      let done = q.1 p d v p_pos es all in
      record { kept = subst (λ y. Kept 0 y w w₂) (sym (slot_long p d i k v)) whole; here = done.here };
}
  where
    long : length (copies n (zero_words d i)) ≡ n * size d i
    long = copies_long n (size d i) (zero_words d i) (zero_long d i)

    most : from * size d i + n * size d i ≤ k * size d i
    most = parts_fit from n k (size d i) r.fits

    whole : Kept 0 (1 + k * size d i) w w₂
    whole = kept_trans (kept-wide (omega arith) (omega (arith, most)) (put-kept (n * size d i) long h)) (kept-wide (omega arith) (omega arith) q.0)

    each : (p : ℕ) (p_pos : 0 < p) (v : Vec (El p d i) k)
        → ((j : ℕ) → j < k → (j < from) ⊎ (from + n ≤ j) → Stands p d i (coef (group p p_pos d i).𝟘 k v j) w (1 + j * size d i))
        → ((j : ℕ) → from ≤ j → j < from + n → coef (group p p_pos d i).𝟘 k v j ≡ (group p p_pos d i).𝟘)
        → (j : ℕ) → j < k → (from ≤ j) ⊎ (j < from) → (from + n ≤ j) ⊎ (j < from + n) → Stands p d i (coef (group p p_pos d i).𝟘 k v j) w₁ (1 + j * size d i)
    each p p_pos v there none j l (inr a) b =
        let fits = block_inside j from (size d i) a in
        kept-seg (1 + j * size d i) (size d i) (inl (omega arith)) h.kept ∙ there j l (inl a)
    each p p_pos v there none j l (inl a) (inl b) =
        let above : (from + n) * size d i ≤ j * size d i = mul-le-mul_right (size d i) b in
        kept-seg (1 + j * size d i) (size d i) (inr (omega (arith, long, add-mul from n (size d i)))) h.kept ∙ there j l (inr b)
    each p p_pos v there none j l (inl a) (inr b) =
        let back : from + (j - from) ≡ j = omega arith in
        let place : at + (j - from) * size d i ≡ 1 + j * size d i = omega (arith, add-mul from (j - from) (size d i), ap (λ (x : ℕ). x * size d i) back) in
        subst (Stands p d i _ w₁) place (zeros_stand p p_pos d i n w w₁ at h (j - from) (omega arith)) ∙ ap (write p d i) (sym (none j a b))

-- ---- one coefficient
module _ {j i : ℕ} {d z : List ℕ} {p : ℕ} {t a : List ℤ} {ca : ℕ} {b : List ℤ} {cb : ℕ} {c w : List ℤ}
    (r : MultiplyAtReady j i d z p t a ca b cb c w) where
  abbrev S : ℕ
  S = size d i

  abbrev n : ℕ
  n = span ca cb j

  -- the operands: a's coefficients upwards, b's downwards
  abbrev pairs : (x y l : ℕ) → Two
  pairs x y l = two i a false x b false y l

  reached : j + 1 ≤ ca + cb
  reached = reached_of ca cb j r.reached

  left_fits : first cb j * S + n * S ≤ ca * S
  left_fits = parts_fit (first cb j) n ca S (span_left ca cb j reached)

  right_fits : first ca j * S + n * S ≤ cb * S
  right_fits = parts_fit (first ca j) n cb S (span_right ca cb j reached)

  -- the counts are no more than the slots' coefficients
  a_few : (p_pos : 0 < p) (ka : ℕ) (u : Vec (El p d i) ka) → SlotStands p d i ka u a 0 → ca ≤ ka
  a_few p_pos ka u s = omega (arith, r.a_count, count_few p p_pos d i a 0 ka u s)

  b_few : (p_pos : 0 < p) (kb : ℕ) (v : Vec (El p d i) kb) → SlotStands p d i kb v b 0 → cb ≤ kb
  b_few p_pos kb v s = omega (arith, r.b_count, count_few p p_pos d i b 0 kb v s)

  -- the slots' words
  a_fits : ca * S ≤ r.ka * S
  a_fits = mul-le-mul_right S (a_few r.slots.p_pos r.ka r.u r.a_stands)

  b_fits : cb * S ≤ r.slots.kb * S
  b_fits = mul-le-mul_right S (b_few r.slots.p_pos r.slots.kb r.slots.v r.slots.b_stands)

  pub multiply_places : {s : ℕ} → s ≡ S
      → (0 + 1 + first cb j * s ≤ length a) × (0 + 1 + first ca j * s ≤ length b) × (j + 1 ≤ ca + cb)
      × (0 + 1 + j * s + s ≤ length c) × (0 + s ≤ length w) × (j + 1 ≤ length c)
  multiply_places es = (
    omega (arith, times es (first cb j), left_fits, a_fits, r.a_inside),
    omega (arith, times es (first ca j), right_fits, b_fits, r.slots.b_inside),
    reached,
    omega (arith, es, times es j, r.c_inside),
    omega (arith, es, r.slots.room),
    omega (arith, r.c_inside, words_many d i j),
  )

  module _ {s x y l : ℕ} (es : s ≡ S) (ex : x ≡ 0 + 1 + first cb j * s) (ey : y ≡ 0 + 1 + first ca j * s) (el : l ≡ n) where
    given : (p_pos : 0 < p) (ka : ℕ) (u : Vec (El p d i) ka) (kb : ℕ) (v : Vec (El p d i) kb) → SlotStands p d i ka u a 0 → SlotStands p d i kb v b 0
        → Given p p_pos d (pairs x y n) (λ l. coef (group p p_pos d i).𝟘 ka u (first cb j + l)) (λ l. coef (group p p_pos d i).𝟘 kb v (first ca j + l)) i
        (group p p_pos d i).𝟘 false w 0
    given p_pos ka u kb v su sv = record {
      lefts = λ l q.
          let at : 1 + (first cb j + l) * S ≡ x + l * S = omega (arith, add-mul (first cb j) l S, times es (first cb j)) in
          subst (Stands p d i _ a) at
          (part_of_slot p p_pos d i ka u a su (first cb j + l) (omega (arith, span_left ca cb j reached, a_few p_pos ka u su)));
      rights = λ l q.
          let at : 1 + (first ca j + l) * S ≡ y + l * S = omega (arith, add-mul (first ca j) l S, times es (first ca j)) in
          subst (Stands p d i _ b) at
          (part_of_slot p p_pos d i kb v b sv (first ca j + l) (omega (arith, span_right ca cb j reached, b_few p_pos kb v sv)));
      kept = λ h. no h;
      fresh = λ h. refl;
    }

    pub multiply-product : {m : List ℕ} → length m ≡ 4 → ProductReady i d z p m t false 0 (pairs x y l) false w 0 s
    multiply-product {m} em = let q = r.slots in subst (λ u. ProductReady i d z p m t false 0 (pairs x y u) false w 0 s) (sym el) (record {
      operating = record {
        modulus = q.modulus;
        low = q.low;
        sized = q.sized;
        x_inside = record { inside = omega (arith, times es (first cb j), left_fits, a_fits, r.a_inside); below = λ h. no h };
        y_inside = record { inside = omega (arith, times es (first ca j), right_fits, b_fits, q.b_inside); below = λ h. no h };
        few = omega (arith, left_fits, r.few, ap (λ (x : ℕ). x * S) r.a_count);
      };
      level = omega arith;
      positive = q.positive;
      places = em;
      reached = λ l h v. absurd (lt_irrefl 0 (omega arith));
      e_inside = record { inside = omega (arith, q.tower_inside); below = λ h. no h };
      c_below = omega (arith, es);
      room = omega (arith, es, q.room);
      small = q.small;
      p_pos = q.p_pos;
      t = q.tower;
      u = _;
      v = _;
      old = _;
      tower = q.tower_stands;
      given = given q.p_pos r.ka r.u q.kb q.v r.a_stands q.b_stands;
    })

    pub multiply-at : {m : List ℕ} → length m ≡ 4 → {w' : List ℤ} → ProductDone i d p m t false 0 (pairs x y l) false false w w' 0 s
        → {at : ℕ} → at ≡ 0 + 1 + j * s → {c' : List ℤ} → Put at (seg 0 s w') c c' → MultipliedAt j i d p t a ca b cb c c' w w'
    multiply-at {m} em {w'} h {at} ea {c'} k = record {
      frame = worked_kept (omega arith) (omega (arith, es)) (omega (arith, es)) h.frame;
      c_frame = subst (λ l. Kept l S c c') to (put-kept S long k);
      done = λ p_pos tt ka u kb v st su sv.
          let R = ring p p_pos d i tt in
          let f = coef R.𝟘 ka u in
          let g = coef R.𝟘 kb v in
          let below-a = below_count p p_pos d i ka u a ca r.a_count su in
          let below-b = below_count p p_pos d i kb v b cb r.b_count sv in
          let value : gained (group p p_pos d i) false R.𝟘 (Pairs p p_pos d i tt (pairs x y n) (λ l. f (first cb j + l)) (λ l. g (first ca j + l)) m) ≡ ◌*ˢ◌ R f g j =
          zero-⊕ R _ ∙ value-pairs p p_pos d i tt n _ _ m (omega (arith, r.slots.low)) ∙ sym (product_at R ca cb f g below-a below-b j) in
          let done = subst (λ u. ProductDone i d p m t false 0 (pairs x y u) false false w w' 0 s) el h in
          subst (Stands p d i (◌*ˢ◌ R f g j) c') to
          (put-seg S long k ∙ ap (λ u. seg 0 u w') es ∙ done.done p_pos tt _ _ R.𝟘 st (given p_pos ka u kb v su sv) ∙ ap (write p d i) value);
    }
      where
        to : at ≡ 1 + j * S
        to = omega (arith, times es j)

        long : length (seg 0 s w') ≡ S
        long = seg_long 0 s w' (omega (arith, es, r.slots.room, h.frame.long)) ∙ es

-- ---- the loop: j coefficients are made; c₀ and w₀ are the lists before
pub record Multiplying (i : ℕ) (d : List ℕ) (p : ℕ) (t a b c₀ w₀ : List ℤ) (j : ℕ) (c w : List ℤ) : Type 0 where
  pub most : j ≤ product_count (degree_count a) (degree_count b)
  pub frame : Kept 0 (size d i + work d i) w₀ w
  pub c_frame : Kept 1 (j * size d i) c₀ c
  pub made : (p_pos : 0 < p) (tt : Tower p d i) (ka : ℕ) (u : Vec (El p d i) ka) (kb : ℕ) (v : Vec (El p d i) kb)
      → TowerStands p p_pos d i tt t 0 → SlotStands p d i ka u a 0 → SlotStands p d i kb v b 0
      → (n : ℕ) → n < j
      → Stands p d i (◌*ˢ◌ (ring p p_pos d i tt) (coef (group p p_pos d i).𝟘 ka u) (coef (group p p_pos d i).𝟘 kb v) n) c (1 + n * size d i)

module _ {i k : ℕ} {d z : List ℕ} {p : ℕ} {t a b c₀ w₀ : List ℤ} (r : MultiplyReady i k d z p t a b c₀ w₀) where
  abbrev s : ℕ
  s = size d i

  -- how many there are to make
  abbrev h : ℕ
  h = product_count (degree_count a) (degree_count b)

  -- the counts are small
  pub multiply_counts : (degree_count a < length a) × (degree_count b < length b)
  multiply_counts =
      let q = r.slots in (
        omega (arith, r.a_inside, words_many d i r.ka, count_few p q.p_pos d i a 0 r.ka r.u r.a_stands),
        omega (arith, q.b_inside, words_many d i q.kb, count_few p q.p_pos d i b 0 q.kb q.v q.b_stands),
      )

  pub multiplying_start : Multiplying i d p t a b c₀ w₀ 0 c₀ w₀
  multiplying_start = record {
    most = omega arith;
    frame = kept_refl 0 (s + work d i) w₀;
    c_frame = kept_refl 1 (0 * s) c₀;
    made = λ p_pos tt ka u kb v st su sv n q. absurd (lt_irrefl 0 (omega arith));
  }

  -- the counts, as they are read
  module _ {ca cb l : ℕ} (ea : ca ≡ degree_count a) (eb : cb ≡ degree_count b) (el : l ≡ product_count ca cb) where
    all : l ≡ h
    all = el ∙ ap₂ product_count ea eb

    module _ {j : ℕ} {c w : List ℤ} (q : j < l) (f : Multiplying i d p t a b c₀ w₀ j c w) where
      -- the next one's place
      pub multiplying_at : MultiplyAtReady j i d z p t a ca b cb c w
      multiplying_at = record {
        slots = slots_kept f.frame.long r.slots;
        ka = r.ka;
        u = r.u;
        a_stands = r.a_stands;
        a_inside = r.a_inside;
        few = r.few;
        a_count = ea;
        b_count = eb;
        reached = omega (arith, el);
        c_inside = omega (arith, r.c_inside, f.c_frame.long, block_inside j k s (omega (arith, all, r.fits)));
      }

      pub multiplying_less : j < k
      multiplying_less = omega (arith, all, r.fits)

      pub multiplying_next : {c' w' : List ℤ} → MultipliedAt j i d p t a ca b cb c c' w w' → Multiplying i d p t a b c₀ w₀ (j + 1) c' w'
      multiplying_next {c'} {w'} m = record {
        most = omega (arith, all);
        frame = kept_trans f.frame m.frame;
        c_frame = subst (λ n. Kept 1 n c₀ c') (omega (arith, add-mul j 1 s)) (kept_join (omega arith) f.c_frame m.c_frame);
        made = λ p_pos tt ka u kb v st su sv n l. which p_pos tt ka u kb v st su sv n l (le_or_lt j n);
      }
        where
          which : (p_pos : 0 < p) (tt : Tower p d i) (ka : ℕ) (u : Vec (El p d i) ka) (kb : ℕ) (v : Vec (El p d i) kb)
              → TowerStands p p_pos d i tt t 0 → SlotStands p d i ka u a 0 → SlotStands p d i kb v b 0
              → (n : ℕ) → n < j + 1 → (j ≤ n) ⊎ (n < j)
              → Stands p d i (◌*ˢ◌ (ring p p_pos d i tt) (coef (group p p_pos d i).𝟘 ka u) (coef (group p p_pos d i).𝟘 kb v) n) c' (1 + n * s)
          which p_pos tt ka u kb v st su sv n l (inr o) =
              let fits = block_inside n j s o in
              kept-seg (1 + n * s) s (inl (omega arith)) m.c_frame ∙ f.made p_pos tt ka u kb v st su sv n o
          which p_pos tt ka u kb v st su sv n l (inl o) =
              let en : j ≡ n = omega arith in
              subst (λ x. Stands p d i (◌*ˢ◌ (ring p p_pos d i tt) (coef (group p p_pos d i).𝟘 ka u) (coef (group p p_pos d i).𝟘 kb v) x) c' (1 + x * s)) en
              (m.done p_pos tt ka u kb v st su sv)

  -- beyond those that are made the product is zero
  none : (ca cb n : ℕ) → product_count ca cb ≤ n → span ca cb n ≡ 0
  none zero cb n q = omega arith
  none (suc ca) zero n q = omega arith
  none (suc ca) (suc cb) n q = omega arith

  rest : (p_pos : 0 < p) (tt : Tower p d i) (ka : ℕ) (u : Vec (El p d i) ka) (kb : ℕ) (v : Vec (El p d i) kb) → SlotStands p d i ka u a 0 → SlotStands p d i kb v b 0
      → (n : ℕ) → h ≤ n → ◌*ˢ◌ (ring p p_pos d i tt) (coef (group p p_pos d i).𝟘 ka u) (coef (group p p_pos d i).𝟘 kb v) n ≡ (group p p_pos d i).𝟘
  rest p_pos tt ka u kb v su sv n q =
      let R = ring p p_pos d i tt in
      let e = none (degree_count a) (degree_count b) n q in
      product_at R (degree_count a) (degree_count b) _ _ (below_count p p_pos d i ka u a _ refl su) (below_count p p_pos d i kb v b _ refl sv) n
      ∙ sum_empty R _ _ e

  module _ {ca cb l : ℕ} (ea : ca ≡ degree_count a) (eb : cb ≡ degree_count b) (el : l ≡ product_count ca cb) where
    fits : l ≤ k
    fits = omega (arith, all ea eb el, r.fits)

    -- zeros in the rest of the slot, and the degree word
    module _ {j : ℕ} {c w : List ℤ} (end : l ≤ j) (f : Multiplying i d p t a b c₀ w₀ j c w) where
      pub multiplying_finish : (l ≤ k) × FinishReady i k l (k - l) d z c
      multiplying_finish = (
        fits,
        record {
          low = r.slots.low;
          sized = r.slots.sized;
          fits = omega (arith, fits);
          inside = omega (arith, r.c_inside, f.c_frame.long);
        },
      )

      pub multiplying_end : {c' : List ℤ} → Finished i k l (k - l) d c c' → Multiplied i k d p t a b c₀ c' w₀ w
      multiplying_end {c'} q = record {
        frame = f.frame;
        done = λ p_pos tt ka u kb v st su sv.
            let x = slot_product (ring p p_pos d i tt) k ka kb u v in
            let done = q.done p p_pos x
            (λ o b g. f.made p_pos tt ka u kb v st su sv o (which o b g) ∙ ap (write p d i) (sym (trunc-at _ k _ o b)))
            (λ o b g. trunc-at _ k _ o (omega (arith, fits)) ∙ rest p_pos tt ka u kb v su sv o (omega (arith, all ea eb el))) in
            record { kept = subst (λ y. Kept 0 y c₀ c') (sym (slot_long p d i k x)) whole; here = done.here };
      }
        where
          which : (o : ℕ) → o < k → (o < l) ⊎ (l + (k - l) ≤ o) → o < j
          which o b (inl g) = omega arith
          which o b (inr g) = absurd (lt_irrefl 0 (omega (arith, fits)))

          whole : Kept 0 (1 + k * s) c₀ c'
          whole =
              let most : j * s ≤ k * s = mul-le-mul_right s (omega (arith, f.most, all ea eb el, r.fits)) in
              kept_trans (kept-wide (omega arith) (omega arith) f.c_frame) q.frame

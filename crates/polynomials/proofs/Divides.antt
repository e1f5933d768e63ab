-- Laws of the division of slots: the row is divided from the top down, each coefficient made in the store and copied out.
--
-- Descending              == the row is divided from k on, its coefficients below g in a and the others in q, and below k a is as it was
-- divide-kept             == a list for the quotient that is as long serves as well
-- placed_low, placed_high == a coefficient is copied into a, or into q
-- descending_top, _start  == the top coefficient's places, and what its copying leaves
-- descending_below, _places, _product, _place, _next == one lower: places; what the product and its copying out ask for, and what they leave
-- descending_end                          == the bottom
use Prim.Native.Nat.{ℕ, suc, ◌+◌, ◌-◌, ◌*◌, ◌<◌, ◌≤◌}
use native.Mathlib.Nat.{mul-le-mul_right, suc-mul, add-mul, lt_irrefl}
use native.Mathlib.Omega.{arith}
use mathlib.Core.Path.{◌≡◌, refl, ap, sym, ◌∙◌, subst}
use mathlib.Core.Bool.{true, false}
use mathlib.Core.Logic.{◌⊎◌, inl, inr}
use mathlib.Core.List.{List}
use lib.IntN.{ℤ}
use lib.ListN.{length}
use Rattle.algebra.specs.Test.{le_or_lt}
use Rattle.algebra.specs.Vec.{Vec, coef, trunc-at}
use Rattle.algebra.specs.Windows.{first, span, span_left, span_right}
use Rattle.algebra.specs.Divided.{row}
use Rattle.algebra.proofs.Divided.{row-each, row-top}
use Rattle.tower.specs.Levels.{El, group, Tower, ring}
use Rattle.tower.specs.Writing.{size, write}
use Rattle.tower.specs.Form.{seg}
use Rattle.tower.specs.Lists.{seg_long}
use Rattle.tower.specs.Store.{Kept, Put, kept_refl, kept_trans, kept-wide, kept-seg, put-kept, put-seg}
use Rattle.tower.specs.Stands.{Stands, SlotStands}
use Rattle.arithmetic.specs.Rows.{block_inside}
use Rattle.arithmetic.specs.Sum.{gained}
use Rattle.products.specs.Value.{value-pairs}
use Rattle.products.specs.Product.{work, TowerStands, Two, two, Given, ProductReady, ProductDone}
use Rattle.polynomials.specs.Slots.{low_of, DivideRowReady, DividedRow, PlaceReady, Placed}
use Rattle.products.proofs.Frames.{parts_fit, worked_kept}
use Rattle.polynomials.proofs.Multiplies.{part_of_slot, times, words_many, no}

-- the divided row of the dividend f by the divisor v
abbrev pub row_of : (p : ℕ) (p_pos : 0 < p) (d : List ℕ) (i : ℕ) (tt : Tower p d i) (g cap ka : ℕ) → Vec (El p d i) ka → (kb : ℕ) → Vec (El p d i) kb → ℕ → El p d i
row_of p p_pos d i tt g cap ka f kb v = row (ring p p_pos d i tt) g (low_of (ring p p_pos d i tt) g kb v) cap (coef (group p p_pos d i).𝟘 ka f)

-- a₀ and w₀ are the lists before, q₀ has the top coefficient
pub record Descending (i : ℕ) (d : List ℕ) (p : ℕ) (t b : List ℤ) (g cap : ℕ) (a₀ q₀ w₀ : List ℤ) (k : ℕ) (a q w : List ℤ) : Type 0 where
  pub most : k < cap
  pub frame : Kept 0 (size d i + work d i) w₀ w
  pub a_frame : Kept 1 (g * size d i) a₀ a
  pub q_frame : Kept 1 ((cap - g) * size d i) q₀ q
  pub low : (p_pos : 0 < p) (tt : Tower p d i) (ka : ℕ) (f : Vec (El p d i) ka) (kb : ℕ) (v : Vec (El p d i) kb)
      → TowerStands p p_pos d i tt t 0 → SlotStands p d i ka f a₀ 0 → SlotStands p d i kb v b 0
      → (n : ℕ) → k ≤ n → n < g → Stands p d i (row_of p p_pos d i tt g cap ka f kb v n) a (1 + n * size d i)
  pub high : (p_pos : 0 < p) (tt : Tower p d i) (ka : ℕ) (f : Vec (El p d i) ka) (kb : ℕ) (v : Vec (El p d i) kb)
      → TowerStands p p_pos d i tt t 0 → SlotStands p d i ka f a₀ 0 → SlotStands p d i kb v b 0
      → (n : ℕ) → k ≤ g + n → n < cap - g → Stands p d i (row_of p p_pos d i tt g cap ka f kb v (g + n)) q (1 + n * size d i)
  pub old : (p_pos : 0 < p) (ka : ℕ) (f : Vec (El p d i) ka) → SlotStands p d i ka f a₀ 0
      → (n : ℕ) → n < k → Stands p d i (coef (group p p_pos d i).𝟘 ka f n) a (1 + n * size d i)

-- ---- one coefficient's words
pub placed_low : {k g s at : ℕ} {w a a' q : List ℤ} → k < g → at ≡ 0 + 1 + k * s → Put at (seg 0 s w) a a' → Placed k g s w a a' q q
placed_low {s = s} {w = w} {a = a} {a' = a'} h e f = record {
  low = λ l. subst (λ x. Put x (seg 0 s w) a a') e f;
  low_rest = λ l. refl;
  high = λ l. absurd (lt_irrefl 0 (omega arith));
  high_rest = λ l. absurd (lt_irrefl 0 (omega arith));
}

pub placed_high : {k g s at : ℕ} {w a q q' : List ℤ} → g ≤ k → at ≡ 0 + 1 + (k - g) * s → Put at (seg 0 s w) q q' → Placed k g s w a a q q'
placed_high {s = s} {w = w} {q = q} {q' = q'} h e f = record {
  low = λ l. absurd (lt_irrefl 0 (omega arith));
  low_rest = λ l. absurd (lt_irrefl 0 (omega arith));
  high = λ l. subst (λ x. Put x (seg 0 s w) q q') e f;
  high_rest = λ l. refl;
}

-- a list for the quotient that is as long serves as well
pub divide-kept : {i : ℕ} {d z : List ℕ} {p : ℕ} {t a b : List ℤ} {g cap : ℕ} {q q' w : List ℤ} → length q' ≡ length q
    → DivideRowReady i d z p t a b g cap q w → DivideRowReady i d z p t a b g cap q' w
divide-kept e r = record {
  slots = r.slots;
  ka = r.ka;
  f = r.f;
  a_stands = r.a_stands;
  a_inside = r.a_inside;
  some = r.some;
  dividend = r.dividend;
  divisor = r.divisor;
  few = r.few;
  q_inside = omega (arith, r.q_inside, e);
}

module _ {i : ℕ} {d z : List ℕ} {p : ℕ} {t b : List ℤ} {g cap : ℕ} {a₀ q₀ w₀ : List ℤ} (r : DivideRowReady i d z p t a₀ b g cap q₀ w₀) where
  abbrev S : ℕ
  S = size d i

  -- how many coefficients the quotient has
  abbrev c : ℕ
  c = cap - g

  -- the places of the coefficients
  a_place : (k : ℕ) → k < cap → 1 + k * S + S ≤ length a₀
  a_place k l =
      let all : cap * S ≤ r.ka * S = mul-le-mul_right S (r.dividend r.slots.p_pos r.ka r.f r.a_stands) in
      omega (arith, r.a_inside, block_inside k cap S l)

  q-place : (k : ℕ) → k < c → 1 + k * S + S ≤ length q₀
  q-place k l = omega (arith, r.q_inside, block_inside k c S l)

  -- ---- the top coefficient is the quotient's
  module _ {k s : ℕ} (es : s ≡ S) (ek : k ≡ cap - 1) where
    some : g < cap
    some = r.some

    pub descending_top : (0 + 1 + k * s + s ≤ length a₀) × (0 + 1 + (k - g) * s + s ≤ length q₀) × (g ≤ k)
    descending_top =
        (omega (arith, es, times es k, a_place k (omega (arith, some))), omega (arith, es, times es (k - g), q-place (k - g) (omega (arith, some))), omega (arith, some))

    module _ {at to : ℕ} (ea : at ≡ 0 + 1 + k * s) (et : to ≡ 0 + 1 + (k - g) * s) {q : List ℤ} (h : Put to (seg at s a₀) q₀ q) where
      top_long : length (seg at s a₀) ≡ S
      top_long = seg_long at s a₀ (omega (arith, descending_top.0)) ∙ es

      pub descending_start : Descending i d p t b g cap a₀ q w₀ k a₀ q w₀
      descending_start = record {
        most = omega (arith, some);
        frame = kept_refl 0 (S + work d i) w₀;
        a_frame = kept_refl 1 (g * S) a₀;
        q_frame = kept_refl 1 (c * S) q;
        low = λ p_pos tt ka f kb v st sf sv n l m. absurd (lt_irrefl 0 (omega (arith, some)));
        high = λ p_pos tt ka f kb v st sf sv n l m. high p_pos tt ka f kb v sf n (omega (arith, some));
        old = λ p_pos ka f sf n l. part_of_slot p p_pos d i ka f a₀ sf n (omega (arith, r.dividend p_pos ka f sf, some));
      }
        where
          high : (p_pos : 0 < p) (tt : Tower p d i) (ka : ℕ) (f : Vec (El p d i) ka) (kb : ℕ) (v : Vec (El p d i) kb) → SlotStands p d i ka f a₀ 0
              → (n : ℕ) → g + n ≡ k → Stands p d i (row_of p p_pos d i tt g cap ka f kb v (g + n)) q (1 + n * S)
          high p_pos tt ka f kb v sf n e =
              let R = ring p p_pos d i tt in
              let top = row-top R g (low_of R g kb v) cap (omega (arith, some)) (coef R.𝟘 ka f) (g + n) (omega (arith, some)) in
              let from : at ≡ 1 + (g + n) * S = omega (arith, times es k, ap (λ (x : ℕ). x * S) e) in
              let en : k - g ≡ n = omega arith in
              let goal : to ≡ 1 + n * S = omega (arith, times es (k - g), ap (λ (x : ℕ). x * S) en) in
              subst (Stands p d i _ q) goal
              (put-seg S top_long h
              ∙ ap (λ x. seg at x a₀) es
              ∙ ap (λ x. seg x S a₀) from
              ∙ part_of_slot p p_pos d i ka f a₀ sf (g + n) (omega (arith, some, r.dividend p_pos ka f sf))
              ∙ ap (write p d i) (sym top))

      -- the bottom
      pub descending_end : {o : ℕ} {a q' w : List ℤ} → o ≡ 0 → Descending i d p t b g cap a₀ q w₀ o a q' w → DividedRow i d p t a₀ a b g cap q₀ q' w₀ w
      descending_end eo f = record {
        frame = f.frame;
        a_frame = f.a_frame;
        q_frame =
            kept_trans (kept-wide (omega arith) (omega (arith, times es (k - g), block_inside (k - g) c S (omega (arith, some)))) (put-kept S top_long h)) f.q_frame;
        low = λ p_pos tt ka u kb v st su sv n l. f.low p_pos tt ka u kb v st su sv n (omega arith) l;
        high = λ p_pos tt ka u kb v st su sv n l. f.high p_pos tt ka u kb v st su sv n (omega arith) l;
      }

  -- ---- one coefficient
  pub descending_below : {k : ℕ} {a q w : List ℤ} → 0 < k → Descending i d p t b g cap a₀ q₀ w₀ k a q w → Descending i d p t b g cap a₀ q₀ w₀ (suc (k - 1)) a q w
  descending_below {k} {a} {q} {w} h f = subst (λ n. Descending i d p t b g cap a₀ q₀ w₀ n a q w) (omega arith) f

  module _ {k : ℕ} {a q w : List ℤ} (f : Descending i d p t b g cap a₀ q₀ w₀ (suc k) a q w) {s : ℕ} (es : s ≡ S) where
    abbrev n : ℕ
    n = span g c k

    -- the places of the k-th coefficient's pairs
    reach : k + 1 ≤ g + c
    reach = omega (arith, f.most, r.some)

    left_most : first c k + n ≤ g
    left_most = span_left g c k reach

    right_most : first g k + n ≤ c
    right_most = span_right g c k reach

    left_fits : first c k * S + n * S ≤ g * S
    left_fits = parts_fit (first c k) n g S left_most

    right_fits : first g k * S + n * S ≤ c * S
    right_fits = parts_fit (first g k) n c S right_most

    divisor_fits : g * S ≤ r.slots.kb * S
    divisor_fits = mul-le-mul_right S (r.divisor r.slots.p_pos r.slots.kb r.slots.v r.slots.b_stands)

    here_a : 1 + k * S + S ≤ length a
    here_a = omega (arith, a_place k (omega (arith, f.most)), f.a_frame.long)

    here_q : g ≤ k → 1 + (k - g) * S + S ≤ length q
    here_q l = omega (arith, q-place (k - g) (omega (arith, f.most)), f.q_frame.long)

    pub descending_places : (0 + 1 + first c k * s ≤ length b) × (0 + 1 + first g k * s ≤ length q) × (0 + 1 + k * s + s ≤ length a)
        × (0 + s ≤ length w) × (k + 1 ≤ g + c) × (k + 1 ≤ length a₀)
    descending_places = (
      omega (arith, times es (first c k), left_fits, divisor_fits, r.slots.b_inside),
      omega (arith, times es (first g k), right_fits, r.q_inside, f.q_frame.long),
      omega (arith, es, times es k, here_a),
      omega (arith, es, r.slots.room, f.frame.long),
      reach,
      omega (arith, a_place k (omega (arith, f.most)), words_many d i k),
    )

    module _ {x y at l : ℕ} (ex : x ≡ 0 + 1 + first c k * s) (ey : y ≡ 0 + 1 + first g k * s) (el : l ≡ n) (ea : at ≡ 0 + 1 + k * s)
        {w₁ : List ℤ} (h : Put 0 (seg at s a) w w₁) where
      -- the operands: the divisor's coefficients and the quotient's
      abbrev pairs : ℕ → Two
      pairs o = two i b false x q false y o

      long : length (seg at s a) ≡ S
      long = seg_long at s a (omega (arith, descending_places.2)) ∙ es

      given : (p_pos : 0 < p) (tt : Tower p d i) (ka : ℕ) (u : Vec (El p d i) ka) (kb : ℕ) (v : Vec (El p d i) kb)
          → TowerStands p p_pos d i tt t 0 → SlotStands p d i ka u a₀ 0 → SlotStands p d i kb v b 0
          → Given p p_pos d (pairs n) (λ o. coef (group p p_pos d i).𝟘 g (low_of (ring p p_pos d i tt) g kb v) (first c k + o))
          (λ o. row_of p p_pos d i tt g cap ka u kb v (g + (first g k + o))) i (coef (group p p_pos d i).𝟘 ka u k) true w₁ 0
      given p_pos tt ka u kb v st su sv = record {
        lefts = λ o e.
            let to : 1 + (first c k + o) * S ≡ x + o * S = omega (arith, add-mul (first c k) o S, times es (first c k)) in
            let low : first c k + o < g = omega (arith, left_most) in
            subst (Stands p d i _ b) to
            (part_of_slot p p_pos d i kb v b sv (first c k + o) (omega (arith, r.divisor p_pos kb v sv)) ∙ ap (write p d i) (sym (trunc-at _ g _ (first c k + o) low)));
        rights = λ o e.
            let to : 1 + (first g k + o) * S ≡ y + o * S = omega (arith, add-mul (first g k) o S, times es (first g k)) in
            subst (Stands p d i _ q) to (f.high p_pos tt ka u kb v st su sv (first g k + o) (omega arith) (omega (arith, right_most)));
        kept = λ e.
            let from : at ≡ 1 + k * S = omega (arith, times es k) in
            put-seg S long h ∙ ap (λ o. seg at o a) es ∙ ap (λ o. seg o S a) from ∙ f.old p_pos ka u su k (omega arith);
        fresh = λ e. no (sym e);
      }

      pub descending_product : {m : List ℕ} → length m ≡ 4 → ProductReady i d z p m t false 0 (pairs l) true w₁ 0 s
      descending_product {m} em = let e = r.slots in subst (λ o. ProductReady i d z p m t false 0 (pairs o) true w₁ 0 s) (sym el) (record {
        operating = record {
          modulus = e.modulus;
          low = e.low;
          sized = e.sized;
          x_inside = record { inside = omega (arith, times es (first c k), left_fits, divisor_fits, e.b_inside); below = λ o. no o };
          y_inside = record { inside = omega (arith, times es (first g k), right_fits, r.q_inside, f.q_frame.long); below = λ o. no o };
          few = omega (arith, left_fits, r.few);
        };
        level = omega arith;
        positive = e.positive;
        places = em;
        reached = λ o b v. absurd (lt_irrefl 0 (omega arith));
        e_inside = record { inside = omega (arith, e.tower_inside); below = λ o. no o };
        c_below = omega (arith, es);
        room = omega (arith, es, e.room, f.frame.long, h.kept.long);
        small = e.small;
        p_pos = e.p_pos;
        t = e.tower;
        u = _;
        v = _;
        old = _;
        tower = e.tower_stands;
        given = given e.p_pos e.tower r.ka r.f e.kb e.v e.tower_stands r.a_stands e.b_stands;
      })

      module _ {m : List ℕ} (em : length m ≡ 4) {w₂ : List ℤ} (made : ProductDone i d p m t false 0 (pairs l) true true w₁ w₂ 0 s) where
        frame : Kept 0 (S + work d i) w₀ w₂
        frame =
            kept_trans f.frame
            (kept_trans (kept-wide (omega arith) (omega arith) (put-kept S long h)) (worked_kept (omega arith) (omega (arith, es)) (omega (arith, es)) made.frame))

        -- what the product leaves is the row's coefficient
        row_here : (p_pos : 0 < p) (tt : Tower p d i) (ka : ℕ) (u : Vec (El p d i) ka) (kb : ℕ) (v : Vec (El p d i) kb)
            → TowerStands p p_pos d i tt t 0 → SlotStands p d i ka u a₀ 0 → SlotStands p d i kb v b 0 → Stands p d i (row_of p p_pos d i tt g cap ka u kb v k) w₂ 0
        row_here p_pos tt ka u kb v st su sv =
            let R = ring p p_pos d i tt in
            let made' = subst (λ o. ProductDone i d p m t false 0 (pairs o) true true w₁ w₂ 0 s) el made in
            made'.done p_pos tt _ _ (coef R.𝟘 ka u k) st (given p_pos tt ka u kb v st su sv)
            ∙ ap (λ o. write p d i (gained (group p p_pos d i) true (coef R.𝟘 ka u k) o)) (value-pairs p p_pos d i tt n _ _ m (omega (arith, r.slots.low)))
            ∙ ap (write p d i) (sym (row-each R g (low_of R g kb v) cap (omega (arith, r.some)) (coef R.𝟘 ka u) k (omega (arith, f.most))))

        pub descending_place : PlaceReady k g s w₂ a q
        descending_place = record {
          inside = omega (arith, es, r.slots.room, frame.long);
          a_inside = λ e. omega (arith, es, times es k, here_a);
          q_inside = λ e. omega (arith, es, times es (k - g), here_q e);
        }

        module _ {a' q' : List ℤ} (e : Placed k g s w₂ a a' q q') where
          copied : length (seg 0 s w₂) ≡ S
          copied = seg_long 0 s w₂ (omega (arith, descending_place.inside)) ∙ es

          low-kept : k < g → Kept (1 + k * S) S a a'
          low-kept o = subst (λ u. Kept u S a a') (omega (arith, times es k)) (put-kept S copied (e.low o))

          high_kept : g ≤ k → Kept (1 + (k - g) * S) S q q'
          high_kept o = subst (λ u. Kept u S q q') (omega (arith, times es (k - g))) (put-kept S copied (e.high o))

          -- what may have changed
          a_kept : (g ≤ k) ⊎ (k < g) → Kept 1 (g * S) a a'
          a_kept (inl o) = subst (Kept 1 (g * S) a) (sym (e.high_rest o)) (kept_refl 1 (g * S) a)
          a_kept (inr o) = kept-wide (omega arith) (omega (arith, block_inside k g S o)) (low-kept o)

          q-kept : (g ≤ k) ⊎ (k < g) → Kept 1 (c * S) q q'
          q-kept (inl o) = kept-wide (omega arith) (omega (arith, block_inside (k - g) c S (omega (arith, f.most)))) (high_kept o)
          q-kept (inr o) = subst (Kept 1 (c * S) q) (sym (e.low_rest o)) (kept_refl 1 (c * S) q)

          -- the other coefficients stand as before
          a_same : (u : ℕ) (v : El p d i) → (g ≤ k) ⊎ (k < g) → (suc k ≤ u) ⊎ (u < k) → Stands p d i v a (1 + u * S) → Stands p d i v a' (1 + u * S)
          a_same u v (inl o) o' st = subst (λ y. Stands p d i v y (1 + u * S)) (sym (e.high_rest o)) st
          a_same u v (inr o) (inl o') st =
              let above : suc k * S ≤ u * S = mul-le-mul_right S o' in
              kept-seg (1 + u * S) S (inr (omega (arith, suc-mul k S))) (low-kept o) ∙ st
          a_same u v (inr o) (inr o') st =
              let below = block_inside u k S o' in
              kept-seg (1 + u * S) S (inl (omega arith)) (low-kept o) ∙ st

          q-same : (u : ℕ) (v : El p d i) → (g ≤ k) ⊎ (k < g) → suc k ≤ g + u → Stands p d i v q (1 + u * S) → Stands p d i v q' (1 + u * S)
          q-same u v (inl o) o' st =
              let over : suc (k - g) ≤ u = omega arith in
              let above : suc (k - g) * S ≤ u * S = mul-le-mul_right S over in
              kept-seg (1 + u * S) S (inr (omega (arith, suc-mul (k - g) S))) (high_kept o) ∙ st
          q-same u v (inr o) o' st = subst (λ y. Stands p d i v y (1 + u * S)) (sym (e.low_rest o)) st

          pub descending_next : Descending i d p t b g cap a₀ q₀ w₀ k a' q' w₂
          descending_next = record {
            most = omega (arith, f.most);
            frame = frame;
            a_frame = kept_trans f.a_frame (a_kept (le_or_lt g k));
            q_frame = kept_trans f.q_frame (q-kept (le_or_lt g k));
            low = λ p_pos tt ka u kb v st su sv o o₁ o₂. low p_pos tt ka u kb v st su sv o o₁ o₂ (le_or_lt (suc k) o);
            high = λ p_pos tt ka u kb v st su sv o o₁ o₂. high p_pos tt ka u kb v st su sv o o₁ o₂ (le_or_lt (suc k) (g + o));
            old = λ p_pos ka u su o o₁. a_same o _ (le_or_lt g k) (inr o₁) (f.old p_pos ka u su o (omega arith));
          }
            where
              low : (p_pos : 0 < p) (tt : Tower p d i) (ka : ℕ) (u : Vec (El p d i) ka) (kb : ℕ) (v : Vec (El p d i) kb)
                  → TowerStands p p_pos d i tt t 0 → SlotStands p d i ka u a₀ 0 → SlotStands p d i kb v b 0
                  → (o : ℕ) → k ≤ o → o < g → (suc k ≤ o) ⊎ (o < suc k) → Stands p d i (row_of p p_pos d i tt g cap ka u kb v o) a' (1 + o * S)
              low p_pos tt ka u kb v st su sv o o₁ o₂ (inl o₃) = a_same o _ (le_or_lt g k) (inl o₃) (f.low p_pos tt ka u kb v st su sv o o₃ o₂)
              low p_pos tt ka u kb v st su sv o o₁ o₂ (inr o₃) =
                  let eo : k ≡ o = omega arith in
                  let to : 1 + k * s ≡ 1 + o * S = omega (arith, times es k, ap (λ (x : ℕ). x * S) eo) in
                  subst (Stands p d i _ a') to
                  (put-seg S copied (e.low (omega arith))
                  ∙ ap (λ x. seg 0 x w₂) es
                  ∙ row_here p_pos tt ka u kb v st su sv
                  ∙ ap (λ x. write p d i (row_of p p_pos d i tt g cap ka u kb v x)) eo)

              high : (p_pos : 0 < p) (tt : Tower p d i) (ka : ℕ) (u : Vec (El p d i) ka) (kb : ℕ) (v : Vec (El p d i) kb)
                  → TowerStands p p_pos d i tt t 0 → SlotStands p d i ka u a₀ 0 → SlotStands p d i kb v b 0
                  → (o : ℕ) → k ≤ g + o → o < c → (suc k ≤ g + o) ⊎ (g + o < suc k) → Stands p d i (row_of p p_pos d i tt g cap ka u kb v (g + o)) q' (1 + o * S)
              high p_pos tt ka u kb v st su sv o o₁ o₂ (inl o₃) = q-same o _ (le_or_lt g k) o₃ (f.high p_pos tt ka u kb v st su sv o o₃ o₂)
              high p_pos tt ka u kb v st su sv o o₁ o₂ (inr o₃) =
                  let eo : k ≡ g + o = omega arith in
                  let en : k - g ≡ o = omega arith in
                  let to : 1 + (k - g) * s ≡ 1 + o * S = omega (arith, times es (k - g), ap (λ (x : ℕ). x * S) en) in
                  subst (Stands p d i _ q') to
                  (put-seg S copied (e.high (omega arith))
                  ∙ ap (λ x. seg 0 x w₂) es
                  ∙ row_here p_pos tt ka u kb v st su sv
                  ∙ ap (λ x. write p d i (row_of p p_pos d i tt g cap ka u kb v x)) eo)

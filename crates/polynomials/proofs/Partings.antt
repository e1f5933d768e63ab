-- Laws of the division of slots: the row is divided, and both slots are ended.
--
-- divide-row, -left, -quotient, _end == what the division's steps ask for, and what they leave
-- divide_short                       == what is left where the divisor has the higher degree
use Prim.Native.Nat.{ℕ, ◌+◌, ◌-◌, ◌*◌, ◌<◌, ◌≤◌}
use native.Mathlib.Nat.{mul-le-mul_right, lt_irrefl}
use native.Mathlib.Omega.{arith}
use mathlib.Core.Path.{◌≡◌, ap, sym, ◌∙◌, subst, fun_ext}
use mathlib.Core.Logic.{◌⊎◌, inl, inr}
use mathlib.Core.List.{List}
use lib.IntN.{ℤ}
use lib.ListN.{length}
use Rattle.algebra.specs.Vec.{Vec, Below, coef, coef_below, trunc, trunc-at, trunc-coef}
use Rattle.algebra.proofs.Divide.{quotient_below, remainder_small}
use Rattle.algebra.specs.Divided.{row_low, row_high}
use Rattle.algebra.proofs.Divided.{remainder_cut, quotient_cut}
use Rattle.tower.specs.Levels.{El, group, Tower, ring}
use Rattle.tower.specs.Writing.{size, write, slot, slot_long, degree_count}
use Rattle.tower.specs.Form.{seg}
use Rattle.tower.specs.Store.{Kept, Put, kept_refl, kept_trans, kept-wide, kept-seg}
use Rattle.tower.specs.Stands.{Stands, SlotStands, count_few}
use Rattle.products.specs.Product.{work, TowerStands}
use Rattle.polynomials.specs.Slots.{low_of, slot_remainder, slot_quotient, FinishReady, Finished, DivideReady, Parted, DivideRowReady, DividedRow}
use Rattle.polynomials.proofs.Multiplies.{part_of_slot, below_count}

-- cap coefficients by a divisor of degree g
module _ {i ka kq : ℕ} {d z : List ℕ} {p : ℕ} {t a b q w : List ℤ} (r : DivideReady i ka kq d z p t a b q w) {cap g : ℕ} (ec : cap ≡ degree_count a) (eg : g ≡ degree_count b - 1) where
  abbrev S : ℕ
  S = size d i

  abbrev c : ℕ
  c = cap - g

  -- the counts are no more than the slots' coefficients
  a_few : (p_pos : 0 < p) (k : ℕ) (f : Vec (El p d i) k) → SlotStands p d i k f a 0 → cap ≤ k
  a_few p_pos k f s = omega (arith, ec, count_few p p_pos d i a 0 k f s)

  few : cap ≤ ka
  few = a_few r.slots.p_pos ka r.f r.a_stands

  q_few : c ≤ kq
  q_few = omega (arith, ec, eg, r.fits)

  pub divide-row : g < cap → DivideRowReady i d z p t a b g cap q w
  divide-row h = record {
    slots = r.slots;
    ka = ka;
    f = r.f;
    a_stands = r.a_stands;
    a_inside = r.a_inside;
    some = h;
    dividend = a_few;
    divisor = λ p_pos kb v s. omega (arith, eg, count_few p p_pos d i b 0 kb v s);
    few =
        let fewer : g ≤ degree_count b = omega arith in
        let most : g * S ≤ degree_count b * S = mul-le-mul_right S fewer in
        omega (arith, r.few);
    q_inside =
        let most : c * S ≤ kq * S = mul-le-mul_right S q_few in
        omega (arith, r.q_inside);
  }

  -- where the divisor has the higher degree
  module _ (short : cap ≤ g) {q' : List ℤ} (h : Finished i kq 0 kq d q q') where
    pub divide_short : Parted i ka kq d p t a a b q q' w w
    divide_short = record {
      frame = kept_refl 0 (S + work d i) w;
      left = λ p_pos tt f kb v st sf sv.
          let R = ring p p_pos d i tt in
          let n : length (slot p d i ka f) ≡ ka * S + 1 = omega (arith, slot_long p d i ka f) in
          subst (λ e. Put 0 (slot p d i ka (slot_remainder R e (low_of R e kb v) ka f)) a a) eg
          (subst (λ u. Put 0 (slot p d i ka u) a a) (sym (same p_pos tt f kb v sf))
          (record { kept = kept_refl 0 (length (slot p d i ka f)) a; here = ap (λ o. seg 0 o a) n ∙ sf }));
      quotient = λ p_pos tt f kb v st sf sv.
          let R = ring p p_pos d i tt in
          subst (λ e. Put 0 (slot p d i kq (slot_quotient R e (low_of R e kb v) kq ka f)) q q') eg
          (h.done p p_pos (slot_quotient R g (low_of R g kb v) kq ka f) (λ j l o. absurd (which j l o))
          (λ j l o. trunc-at _ kq _ j (omega arith) ∙ quotient_below R g (low_of R g kb v) 0 ka f (below p_pos f sf 0) j l));
    }
      where
        below : (p_pos : 0 < p) (f : Vec (El p d i) ka) → SlotStands p d i ka f a 0 → (n : ℕ) → Below (group p p_pos d i).𝟘 (n + g) (coef (group p p_pos d i).𝟘 ka f)
        below p_pos f sf n o l = below_count p p_pos d i ka f a cap ec sf o (omega arith)

        same : (p_pos : 0 < p) (tt : Tower p d i) (f : Vec (El p d i) ka) (kb : ℕ) (v : Vec (El p d i) kb) → SlotStands p d i ka f a 0
            → slot_remainder (ring p p_pos d i tt) g (low_of (ring p p_pos d i tt) g kb v) ka f ≡ f
        same p_pos tt f kb v sf =
            let R = ring p p_pos d i tt in
            ap (trunc ka) (fun_ext (remainder_small R g (low_of R g kb v) ka f (λ o l. below p_pos f sf 0 o (omega arith)))) ∙ trunc-coef _ ka f

        which : (j : ℕ) → j < kq → (j < 0) ⊎ (0 + kq ≤ j) → ⊥
        which j l (inl o) = lt_irrefl 0 (omega arith)
        which j l (inr o) = lt_irrefl 0 (omega arith)

  -- where it is divided
  module _ (long : g < cap) {a₁ q₁ w₁ : List ℤ} (h : DividedRow i d p t a a₁ b g cap q q₁ w w₁) where
    pub divide-left : FinishReady i ka g c d z a₁
    divide-left = record {
      low = r.slots.low;
      sized = r.slots.sized;
      fits = omega (arith, few);
      inside = omega (arith, r.a_inside, h.a_frame.long);
    }

    pub divide-quotient : FinishReady i kq c (kq - c) d z q₁
    divide-quotient = record {
      low = r.slots.low;
      sized = r.slots.sized;
      fits = omega (arith, q_few);
      inside = omega (arith, r.q_inside, h.q_frame.long);
    }

    module _ {a₂ q₂ : List ℤ} (ha : Finished i ka g c d a₁ a₂) (hq : Finished i kq c (kq - c) d q₁ q₂) where
      pub divide_end : Parted i ka kq d p t a a₂ b q q₂ w w₁
      divide_end = record {
        frame = h.frame;
        left = λ p_pos tt f kb v st sf sv.
            let R = ring p p_pos d i tt in
            let x = slot_remainder R g (low_of R g kb v) ka f in
            let done = ha.done p p_pos x (left p_pos tt f kb v st sf sv)
            (λ j l o. trunc-at _ ka _ j (omega (arith, few)) ∙ coef_below _ g _ j l) in
            subst (λ e. Put 0 (slot p d i ka (slot_remainder R e (low_of R e kb v) ka f)) a a₂) eg
            (record { kept = subst (λ y. Kept 0 y a a₂) (sym (slot_long p d i ka x)) a_whole; here = done.here });
        quotient = λ p_pos tt f kb v st sf sv.
            let R = ring p p_pos d i tt in
            let x = slot_quotient R g (low_of R g kb v) kq ka f in
            let done = hq.done p p_pos x (right p_pos tt f kb v st sf sv)
            (λ j l o. trunc-at _ kq _ j (omega (arith, q_few)) ∙ quotient_below R g (low_of R g kb v) c ka f (λ n e. below p_pos f sf n (omega arith)) j l) in
            subst (λ e. Put 0 (slot p d i kq (slot_quotient R e (low_of R e kb v) kq ka f)) q q₂) eg
            (record { kept = subst (λ y. Kept 0 y q q₂) (sym (slot_long p d i kq x)) q-whole; here = done.here });
      }
        where
          below : (p_pos : 0 < p) (f : Vec (El p d i) ka) → SlotStands p d i ka f a 0 → Below (group p p_pos d i).𝟘 cap (coef (group p p_pos d i).𝟘 ka f)
          below p_pos f sf = below_count p p_pos d i ka f a cap ec sf

          a_whole : Kept 0 (1 + ka * S) a a₂
          a_whole =
              let fewer : g ≤ ka = omega (arith, few) in
              let most : g * S ≤ ka * S = mul-le-mul_right S fewer in
              kept_trans (kept-wide (omega arith) (omega arith) h.a_frame) ha.frame

          q-whole : Kept 0 (1 + kq * S) q q₂
          q-whole =
              let most : c * S ≤ kq * S = mul-le-mul_right S q_few in
              kept_trans (kept-wide (omega arith) (omega arith) h.q_frame) hq.frame

          -- the remainder's coefficients below g, and zeros from cap on
          left : (p_pos : 0 < p) (tt : Tower p d i) (f : Vec (El p d i) ka) (kb : ℕ) (v : Vec (El p d i) kb)
              → TowerStands p p_pos d i tt t 0 → SlotStands p d i ka f a 0 → SlotStands p d i kb v b 0
              → (j : ℕ) → j < ka → (j < g) ⊎ (g + c ≤ j)
              → Stands p d i (coef (group p p_pos d i).𝟘 ka (slot_remainder (ring p p_pos d i tt) g (low_of (ring p p_pos d i tt) g kb v) ka f) j) a₁ (1 + j * S)
          left p_pos tt f kb v st sf sv j l (inl o) =
              let R = ring p p_pos d i tt in
              h.low p_pos tt ka f kb v st sf sv j o
              ∙ ap (write p d i)
              (row_low R g (low_of R g kb v) cap (coef R.𝟘 ka f) j o
              ∙ ap (λ u. coef R.𝟘 g u j) (remainder_cut R g (low_of R g kb v) cap ka f (below p_pos f sf))
              ∙ sym (trunc-at _ ka _ j l))
          left p_pos tt f kb v st sf sv j l (inr o) =
              let over : g ≤ j = omega arith in
              let above : g * S ≤ j * S = mul-le-mul_right S over in
              kept-seg (1 + j * S) S (inr (omega arith)) h.a_frame
              ∙ part_of_slot p p_pos d i ka f a sf j l
              ∙ ap (write p d i) (below p_pos f sf j (omega arith) ∙ sym (trunc-at _ ka _ j l ∙ coef_below _ g _ j over))

          right : (p_pos : 0 < p) (tt : Tower p d i) (f : Vec (El p d i) ka) (kb : ℕ) (v : Vec (El p d i) kb)
              → TowerStands p p_pos d i tt t 0 → SlotStands p d i ka f a 0 → SlotStands p d i kb v b 0
              → (j : ℕ) → j < kq → (j < c) ⊎ (c + (kq - c) ≤ j)
              → Stands p d i (coef (group p p_pos d i).𝟘 kq (slot_quotient (ring p p_pos d i tt) g (low_of (ring p p_pos d i tt) g kb v) kq ka f) j) q₁ (1 + j * S)
          right p_pos tt f kb v st sf sv j l (inl o) =
              let R = ring p p_pos d i tt in
              h.high p_pos tt ka f kb v st sf sv j o
              ∙ ap (write p d i)
              (row_high R g (low_of R g kb v) cap (coef R.𝟘 ka f) j
              ∙ ap (λ u. u j) (quotient_cut R g (low_of R g kb v) cap ka f (below p_pos f sf))
              ∙ sym (trunc-at _ kq _ j l))
          right p_pos tt f kb v st sf sv j l (inr o) = absurd (lt_irrefl 0 (omega (arith, q_few)))

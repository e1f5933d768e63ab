-- Laws of the products with two numbers, and of the division whose quotient has two: what `lose_row` makes of words, as elements.
--
-- line_asks, _done             == a product whose first factor has two numbers, as one of any
-- line_places                  == where its rows end
-- line-low_asks, _low          == the lowest number loses its pair;  line-left, _row, _middle == those between;  line_high_asks, _end == the highest
-- quotient_asks, _done, -count == a division whose quotient has two numbers, as one of any
-- quotient_places, -start, _end == where its rows end; nothing is divided yet; all is
-- quotient-at, -next, -both    == one number, and the quotient's two;  quotient-left, -row, _middle == those between the lowest and the quotient
use Prim.Native.Nat.{ℕ, suc, ◌+◌, ◌-◌, ◌*◌, ◌%◌, ◌<◌, ◌≤◌}
use native.Mathlib.Nat.{add-zero, zero-add, add_comm, mul_comm}
use native.Mathlib.Omega.{arith}
use mathlib.Core.Path.{◌≡◌, refl, ap, ap₂, sym, ◌∙◌, subst}
use mathlib.Core.Bool.{true}
use mathlib.Core.Logic.{inl, inr}
use mathlib.Core.List.{List, []}
use lib.IntN.{ℤ, pos}
use lib.ListN.{length, get_or, set}
use Rattle.algebra.specs.UnitDivided.{rowᵘ}
use Rattle.residue.specs.Number.{Modulus}
use Rattle.residue.specs.Word.{num, at}
use Rattle.tower.specs.Levels.{El, ring}
use Rattle.tower.specs.Writing.{size, size-zero}
use Rattle.tower.specs.Stands.{Stands}
use Rattle.arithmetic.specs.Rows.{word_of}
use Rattle.arithmetic.specs.Walk.{total-zero, total_suc, dot_at}
use Rattle.products.specs.Product.{Elements}
use Rattle.products.specs.Unit.{UnitReady}
use Rattle.products.proofs.Remainders.{outside_same}
use Rattle.products.proofs.Units.{UnitFalling, unit_stood, unit_start, unit_end}
use Rattle.sequences.specs.Rows.{Between}
use Rattle.sequences.specs.Numbers.{ones, Held, LoseDotReady, lost_number, LoseRowReady, lost_pair, LoseRowDone, DivideAtReady, rested, DividedAt}
use Rattle.sequences.specs.Numbers.{LoseNumbersReady, LoseNumbersDone, DivideNumbersReady, DivideNumbersDone}
use Rattle.sequences.proofs.RowLaws.{between_same, rising_whole}
use Rattle.sequences.proofs.RowLoops.{Met, losing_start, losing_end, divide_asks, divide_done}
use Rattle.sequences.proofs.NumberLaws.{held_of, held_kept, divided-low}
use Rattle.sequences.proofs.NumberRows.{in_words, met-words, LosingNumbers, losing_dot, losing_word, dividing_asks, dividing_next}
use Rattle.sequences.proofs.LineLaws.{row_rise, row_fall}

-- ---- words
-- the sum of two pairs
dot-two : (x y : List ℤ) (a b : ℕ) → dot_at x y 2 1 a b ≡ at x a * at y (b + 1) + at x (a + 1) * at y b
dot-two x y a b =
    total_suc 1 each
    ∙ ap₂ ◌+◌ (total_suc 0 each ∙ ap₂ ◌+◌ (total-zero each) (ap (λ i. at x i * at y (b + 1)) (add-zero a)) ∙ zero-add _) (ap (λ i. at x (a + 1) * at y i) (add-zero b))
  where
    each : ℕ → ℕ
    each u = at x (a + u * 1) * at y (b + (2 - 1 - u) * 1)

-- places that are counted in two ways
lost-at : (p : ℕ) (w : List ℤ) {x x' y y' n n' c c' : ℕ} → x ≡ x' → y ≡ y' → n ≡ n' → c ≡ c'
    → set w c (pos (lost_number p x y n w c)) ≡ set w c' (pos (lost_number p x' y' n' w c'))
lost-at p w ex ey en ec = rw (ex, ey, en, ec)

-- a number of a row of numbers, at the place j
row-held : (p n : ℕ) (f : ℕ → El p [] 0) (w : List ℤ) (a : ℕ) → Modulus p → a + n ≤ length w → Elements p [] 0 n f w a → (j : ℕ) → a ≤ j → j < a + n → Held p w j
row-held p n f w a h inside s j l m =
    let e : a + (j - a) ≡ j = omega arith in
    held_of p [] (f (j - a)) w j h (omega arith) (subst (Stands p [] 0 (f (j - a)) w) (sym (in_words [] a (j - a)) ∙ e) (s (j - a) (omega arith)))

-- ---- a product whose first factor has two numbers
pub line_asks : {p a m b n : ℕ} {w : List ℤ} {c : ℕ} → m ≡ 2 → LoseNumbersReady p a m b n w c → LoseNumbersReady p a 2 b n w c
line_asks {p} {a} {m} {b} {n} {w} {c} e r = subst (λ k. LoseNumbersReady p a k b n w c) e r

pub line_done : {p a m b n : ℕ} {w w' : List ℤ} {c : ℕ} → m ≡ 2 → LoseNumbersDone p a 2 b n w w' c → LoseNumbersDone p a m b n w w' c
line_done {p} {a} {m} {b} {n} {w} {w'} {c} e h = subst (λ k. LoseNumbersDone p a k b n w w' c) (sym e) h

module _ {p a b n : ℕ} {w₀ : List ℤ} {c : ℕ} (r : LoseNumbersReady p a 2 b n w₀ c) where
  abbrev Lost : ℕ → List ℤ → Type 0
  Lost k w = LosingNumbers p a 2 b n w₀ c k w

  pub line_places : (0 < n) × (a + 2 ≤ length w₀) × (b + n ≤ length w₀) × (c + n + 1 ≤ length w₀)
  line_places = (
    r.some_n,
    omega (arith, r.a_below, size-zero []),
    omega (arith, r.b_below, ap (λ (s : ℕ). n * s) (size-zero [])),
    omega (arith, r.c_below, r.some_n, ap (λ (s : ℕ). (2 + n - 1) * s) (size-zero [])),
  )

  line-start : Lost 0 w₀
  line-start = losing_start r refl

  -- the lowest number
  low-met : Met [] 0 a 2 b n c 0 a b 1 c
  low-met = met-words [] (omega (arith, r.some_n)) (omega arith) (omega (arith, r.some_n)) (omega arith)

  pub line-low_asks : LoseDotReady p a b 1 w₀ c
  line-low_asks = losing_dot r line-start (omega (arith, r.some_n)) low-met

  pub line_low : {w : List ℤ} → w ≡ set w₀ c (pos (lost_number p a b 1 w₀ c)) → Lost 1 w
  line_low h = losing_word r line-start (omega (arith, r.some_n)) low-met (omega arith) h

  -- the highest
  high_met : Met [] 0 a 2 b n c n (a + 1) (b + (n - 1)) 1 (c + n)
  high_met = met-words [] (omega arith) (omega (arith, r.some_n)) (omega (arith, r.some_n)) (omega arith)

  pub line_high_asks : {w : List ℤ} → Lost n w → LoseDotReady p (a + 1) (b + (n - 1)) 1 w (c + n)
  line_high_asks s = losing_dot r s (omega (arith, r.some_n)) high_met

  pub line_end : {w w' : List ℤ} → Lost n w → w' ≡ set w (c + n) (pos (lost_number p (a + 1) (b + (n - 1)) 1 w (c + n))) → LoseNumbersDone p a 2 b n w₀ w' c
  line_end s h = losing_end r (omega arith) (losing_word r s (omega (arith, r.some_n)) high_met refl h)

  -- the factors stay
  module _ {k : ℕ} {w : List ℤ} (s : Lost k w) where
    left-same : (j : ℕ) → a ≤ j → j < a + 2 → get_or w j (pos 0) ≡ get_or w₀ j (pos 0)
    left-same j l m = (between_same a (2 * size [] 0) r.a_outside r.a_below (rising_whole s)).here j l (omega (arith, size-zero []))

    right-same : (j : ℕ) → b ≤ j → j < b + n → get_or w j (pos 0) ≡ get_or w₀ j (pos 0)
    right-same j l m =
        (between_same b (n * size [] 0) r.b_outside r.b_below (rising_whole s)).here j l (omega (arith, ap (λ (s : ℕ). n * s) (size-zero [])))

    pub line-left : (j : ℕ) → a ≤ j → j < a + 2 → Held p w j
    line-left j l m =
        held_kept s.frame.long (left-same j l m) (row-held p 2 r.f w₀ a r.acting.modulus line_places.1 r.left j l m)

  -- those between, where the multiples are the first factor's two numbers
  middle_met : (k : ℕ) → k < n - 1 → Met [] 0 a 2 b n c (k + 1) a (b + k) 2 (c + 1 + k)
  middle_met k l = met-words [] (omega arith) (omega arith) (omega arith) (omega arith)

  module _ {w : List ℤ} (s : Lost 1 w) {x y : ℕ} (ex : x ≡ at w a) (ey : y ≡ at w (a + 1)) where
    pub line_row : LoseRowReady p x y b (n - 1) w (c + 1)
    line_row = record {
      modulus = r.acting.modulus;
      q_narrow = omega (arith, ex, (line-left s a (omega arith) (omega arith)).0.narrow.small);
      r_narrow = omega (arith, ey, (line-left s (a + 1) (omega arith) (omega arith)).0.narrow.small);
      words = λ j l m.
          (let q : j < b + n = omega (arith, r.some_n) in
          (held_kept s.frame.long (right-same s j l q) (row-held p n r.g w₀ b r.acting.modulus line_places.2 r.right j l q)).0);
      old = λ k l.
          held_kept s.frame.long (s.frame.between (c + 1 + k) (omega (arith, size-zero [])) (omega (arith, line_places.3)))
          (row-held p (2 + n - 1) r.h w₀ c r.acting.modulus (omega (arith, line_places.3)) r.old (c + 1 + k) (omega arith) (omega arith));
      apart = apart (subst (λ z. Between b (n * z) c ((2 + n - 1) * z)) (size-zero []) r.b_outside);
    }
      where
        apart : Between b (n * 1) c ((2 + n - 1) * 1) → Between b (n - 1 + 1) (c + 1) (n - 1)
        apart (inl h) = inl (omega (arith, r.some_n))
        apart (inr h) = inr (omega (arith, r.some_n))

    pub line_middle : {w' : List ℤ} → LoseRowDone p x y b (n - 1) w w' (c + 1) → Lost n w'
    line_middle {w'} h =
        let e : n - 1 + 1 ≡ n = omega (arith, r.some_n) in
        subst (λ k. Lost k w') e
        (row_rise line_row.apart (omega (arith, line_places.3, s.frame.long)) h (λ k u. Lost (k + 1) u)
        (λ k u l t. losing_word r t (omega arith) (middle_met k l) (omega arith) (ap (λ (i : ℕ). set u (c + 1 + k) (pos i)) (made k u t))) s)
      where
        made : (k : ℕ) (u : List ℤ) → Lost (k + 1) u → lost_pair p x y b u (c + 1) k ≡ lost_number p a (b + k) 2 u (c + 1 + k)
        made k u t =
            ap (λ (i : ℕ). (at u (c + 1 + k) + (p - i % p)) % p)
            (ap₂ ◌+◌ (ap₂ ◌*◌ (ex ∙ same a (omega arith) (omega arith)) (ap (at u) (omega arith)))
            (ap (λ (i : ℕ). i * at u (b + k)) (ey ∙ same (a + 1) (omega arith) (omega arith)))
            ∙ sym (dot-two u u a (b + k)))
          where
            same : (j : ℕ) → a ≤ j → j < a + 2 → at w j ≡ at u j
            same j l m = ap num (left-same s j l m ∙ sym (left-same t j l m))

-- ---- a division whose quotient has two numbers
pub quotient-count : {p b g u : ℕ} {w : List ℤ} {a cap : ℕ} → DivideNumbersReady p b g u w a cap → g ≤ length w
quotient-count {cap = cap} r = omega (arith, r.fits, r.a_below, ap (λ (s : ℕ). cap * s) (size-zero []))

pub quotient_asks : {p b g u : ℕ} {w : List ℤ} {a cap : ℕ} → cap ≡ g + 2 → DivideNumbersReady p b g u w a cap → DivideNumbersReady p b g u w a (g + 2)
quotient_asks {p} {b} {g} {u} {w} {a} e r = subst (λ k. DivideNumbersReady p b g u w a k) e r

pub quotient_done : {p b g u : ℕ} {w w' : List ℤ} {a cap : ℕ} → cap ≡ g + 2 → DivideNumbersDone p b g u w w' a (g + 2) → DivideNumbersDone p b g u w w' a cap
quotient_done {p} {b} {g} {u} {w} {w'} {a} e h = subst (λ k. DivideNumbersDone p b g u w w' a k) (sym e) h

module _ {p b g u : ℕ} {w₀ : List ℤ} {a : ℕ} (r : DivideNumbersReady p b g u w₀ a (g + 2)) where
  abbrev Divided : ℕ → List ℤ → Type 0
  Divided k w = UnitFalling 0 [] p [] true 0 [] true b g [] true u w₀ a (g + 2) (length w₀) k w

  ready : UnitReady 0 [] ones p [] true 0 [] true b g [] true u w₀ a (g + 2) (length w₀)
  ready = divide_asks r

  pub quotient_places : (a + g + 2 ≤ length w₀) × (b + g ≤ length w₀)
  quotient_places = (omega (arith, r.a_below, ap (λ (s : ℕ). (g + 2) * s) (size-zero [])), omega (arith, r.b_below, ap (λ (s : ℕ). g * s) (size-zero [])))

  pub quotient-start : Divided (g + 2) w₀
  quotient-start = unit_start ready

  pub quotient_end : {k : ℕ} {w : List ℤ} → k ≡ 0 → Divided k w → DivideNumbersDone p b g u w₀ w a (g + 2)
  quotient_end ek s = divide_done (unit_end ready ek s)

  module _ {k k₁ : ℕ} {w : List ℤ} (ek : k₁ ≡ k + 1) (s : Divided k₁ w) where
    less : k₁ - 1 ≡ k
    less = omega arith

    pub quotient-at : DivideAtReady k p b g u w a (g + 2)
    quotient-at = subst (λ j. DivideAtReady j p b g u w a (g + 2)) less (dividing_asks ready (omega arith) s)

    pub quotient-next : {w' : List ℤ} → DividedAt k p b g u w w' a (g + 2) → Divided k w'
    quotient-next {w'} h =
        subst (λ j. Divided j w') less (dividing_next ready (omega arith) s (subst (λ j. DividedAt j p b g u w w' a (g + 2)) (sym less) h))

  -- both numbers of the quotient
  pub quotient-both : {w₁ w₂ : List ℤ} → DividedAt (g + 1) p b g u w₀ w₁ a (g + 2) → DividedAt g p b g u w₁ w₂ a (g + 2) → Divided g w₂
  quotient-both h₁ h₂ = quotient-next refl (quotient-next (omega arith) quotient-start h₁) h₂

  -- they stay
  abbrev out : ℕ → El p [] 0
  out =
      let c = unit_stood ready in
      rowᵘ (ring p c.stood.p_pos [] 0 c.stood.t) g c.stood.l c.v (g + 2) c.stood.f

  module _ {k : ℕ} {w : List ℤ} (s : Divided k w) (low : k ≤ g) (j : ℕ) (l : a + g ≤ j) (m : j < a + g + 2) where
    stands : Stands p [] 0 (out (j - a)) w j
    stands =
        let e : a + (j - a) ≡ j = omega arith in
        subst (Stands p [] 0 (out (j - a)) w) (sym (in_words [] a (j - a)) ∙ e) (s.high (unit_stood ready) (j - a) (omega arith) (omega arith))

    pub quotient-left : Held p w j
    quotient-left = held_of p [] (out (j - a)) w j r.acting.modulus (omega (arith, s.frame.long, quotient_places.0)) stands

  -- those between, where the multiples are the quotient's numbers
  module _ {w : List ℤ} (some : 0 < g) (s : Divided g w) {x y : ℕ} (ex : x ≡ at w (a + g)) (ey : y ≡ at w (a + g + 1)) where
    pub quotient-row : LoseRowReady p x y b (g - 1) w (a + 1)
    quotient-row = record {
      modulus = r.acting.modulus;
      q_narrow = omega (arith, ex, (quotient-left s (omega arith) (a + g) (omega arith) (omega arith)).0.narrow.small);
      r_narrow = omega (arith, ey, (quotient-left s (omega arith) (a + g + 1) (omega arith) (omega arith)).0.narrow.small);
      words = λ j l m.
          (let q : j < b + g = omega (arith, some) in
          let same = outside_same ready.dividing.y_inside ready.dividing.y_outside s.frame refl in
          (held_kept s.frame.long (same.here j l (omega (arith, ap (λ (z : ℕ). g * z) (size-zero []))))
          (row-held p g _ w₀ b r.acting.modulus quotient_places.1 r.divisor j l q)).0);
      old = λ k l.
          (let e : a + (k + 1) ≡ a + 1 + k = omega arith in
          let f = (unit_stood ready).stood.f (k + 1) in
          held_of p [] f w (a + 1 + k) r.acting.modulus (omega (arith, s.frame.long, quotient_places.0))
          (subst (Stands p [] 0 f w) (sym (in_words [] a (k + 1)) ∙ e) (s.low (unit_stood ready) (k + 1) (omega arith))));
      apart = apart (subst (λ z. Between b (g * z) a ((g + 2) * z)) (size-zero []) r.b_outside);
    }
      where
        apart : Between b (g * 1) a ((g + 2) * 1) → Between b (g - 1 + 1) (a + 1) (g - 1)
        apart (inl h) = inl (omega (arith, some))
        apart (inr h) = inr (omega (arith, some))

    pub quotient_middle : {w' : List ℤ} → LoseRowDone p x y b (g - 1) w w' (a + 1) → Divided 1 w'
    quotient_middle h =
        row_fall (λ k v. Divided (k + 1) v) (g - 1) w quotient-row.apart (omega (arith, s.frame.long, quotient_places.0)) h
        (λ k v l t. quotient-next (omega arith) t (divided-low (quotient-at (omega arith) t) (omega arith) (made k v l t)))
        (subst (λ k. Divided k w) (omega (arith, some)) s)
      where
        made : (k : ℕ) (v : List ℤ) → k < g - 1 → Divided (suc k + 1) v
            → set v (a + 1 + k) (pos (lost_pair p x y b v (a + 1) k)) ≡ rested (k + 1) p b g v a (g + 2)
        made k v l t =
            ap (λ (i : ℕ). set v (a + 1 + k) (pos ((at v (a + 1 + k) + (p - i % p)) % p))) (sum ∙ sym (dot-two v v (b + k) (a + g)))
            ∙ lost-at p v (omega arith) (omega arith) (omega arith) (omega arith)
          where
            same : (j : ℕ) → a + g ≤ j → j < a + g + 2 → at w j ≡ at v j
            same j n m =
                ap num (word_of p [] (out (j - a)) w j (stands s (omega arith) j n m) ∙ sym (word_of p [] (out (j - a)) v j (stands t (omega arith) j n m)))

            sum : x * at v (b + 1 + k) + y * at v (b + k) ≡ at v (b + k) * at v (a + g + 1) + at v (b + k + 1) * at v (a + g)
            sum =
                ap₂ ◌+◌ (mul_comm x (at v (b + 1 + k)) ∙ ap₂ ◌*◌ (ap (at v) (omega arith)) (ex ∙ same (a + g) (omega arith) (omega arith)))
                (mul_comm y (at v (b + k)) ∙ ap (λ (i : ℕ). at v (b + k) * i) (ey ∙ same (a + g + 1) (omega arith) (omega arith)))
                ∙ add_comm _ _

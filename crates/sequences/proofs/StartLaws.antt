-- Laws of how an inverse begins and ends: copies, the inverse of a number, and the answer as an element.
--
-- bring-store, bring-lent, brought   == words of an operand copied
-- unit_put, unit_done, factor_put, factor_done == the inverse of a number
-- next-put, next_done, shows_put, shows_done   == that of the last of a row's numbers
-- number_asks, number_done           == it is the inverse at level 0
-- finish-place, -zeros, -settle, finished == zeros and a degree word;  finish_frame, finish-element == where that is an element
use Prim.Native.Nat.{ℕ, zero, suc, ◌+◌, ◌-◌, ◌*◌, ◌%◌, ◌^◌, ◌<◌, ◌≤◌}
use native.Mathlib.Nat.{mod-eq_of_lt, dvd_refl, le_of_dvd, lt_irrefl, add-mul}
use native.Mathlib.Omega.{arith}
use mathlib.Core.Path.{◌≡◌, refl, ap, sym, ◌∙◌, subst}
use mathlib.Core.Bool.{Bool, true, false}
use mathlib.Core.Logic.{◌⊎◌, inl, inr}
use mathlib.Core.List.{List}
use lib.Dec.{lt→ltb}
use lib.IntN.{ℤ, pos}
use lib.ListN.{length, set}
use Rattle.algebra.specs.Test.{le_or_lt}
use Rattle.algebra.specs.Vec.{Vec, coef, coef_below, trunc, trunc-at}
use Rattle.algebra.specs.Zmod.{Residue, to_z, residue_path}
use Rattle.residue.specs.Number.{Modulus, UnitOf, FactorOf, Inverted}
use Rattle.residue.specs.Word.{num, at}
use Rattle.residue.specs.declared.Shared.{Shared}
use Rattle.tower.specs.Form.{seg, copies, zero_words}
use Rattle.tower.specs.Levels.{degree, El, group, Tower}
use Rattle.tower.specs.Lists.{copies_long}
use Rattle.tower.specs.Ready.{Run}
use Rattle.tower.specs.Stands.{Stands, SlotStands, zero_long}
use Rattle.tower.specs.Store.{Kept, Put, Apart, kept_trans, kept-wide, kept_set, kept-seg, put-kept, put-seg, put-set}
use Rattle.tower.specs.Writing.{size, size-zero, size-pos, size_suc, write, write_suc, writes, slot_long}
use Rattle.arithmetic.specs.Rows.{block_inside, run_of, word_of, Settled}
use Rattle.arithmetic.specs.Walk.{pick}
use Rattle.products.specs.Product.{Elements}
use Rattle.products.proofs.Frames.{worked-answer, zeros_stand}
use Rattle.products.proofs.Lowests.{residue_stands}
use Rattle.euclid.specs.Answer.{Answer, done, shown, long}
use Rattle.euclid.specs.Shown.{shown_words}
use Rattle.euclid.specs.Number.{inverse₀, done₀, shown₀}
use Rattle.std.specs.Prelude.{Result, Ok, Err}
use Rattle.sequences.specs.declared.Stop.{Stop}
use Rattle.sequences.specs.declared.Stop.TheVariants.{Factor}
use Rattle.sequences.specs.Outcomes.{Came, InvertReady, InvertDone}
use Rattle.sequences.proofs.NumberLaws.{held_of}
use Rattle.sequences.specs.Starts.{BringReady, NumberReady, Came₀, NumberDone, FollowNumberReady, Follows₀, FollowNumberDone, FinishReady, FinishDone}

-- ---- copies
module _ {x : List ℤ} {x_in : Bool} {a : ℕ} {w : List ℤ} {c n : ℕ} (r : BringReady x x_in a w c n) where
  pub bring-store : x_in ≡ true → ((c + n ≤ length w) × (a + n ≤ length w)) × Apart c a n
  bring-store h = ((r.c_inside, subst (λ y. a + n ≤ length (pick y w x)) h r.x_inside), turn (r.apart h))
    where
      turn : (a + n ≤ c) ⊎ (c + n ≤ a) → Apart c a n
      turn (inl q) = inr q
      turn (inr q) = inl q

  pub bring-lent : x_in ≡ false → (a + n ≤ length x) × (c + n ≤ length w)
  bring-lent h = (subst (λ y. a + n ≤ length (pick y w x)) h r.x_inside, r.c_inside)

  pub brought : {y w' : List ℤ} → pick x_in w x ≡ y → Put c (seg a n y) w w' → Put c (seg a n (pick x_in w x)) w w'
  brought e h = rw e h

-- ---- what the code's inverse of n says of the residue of n
module _ {p : ℕ} (modulus : Modulus p) {n u : ℕ} where
  module _ (h : UnitOf p n u) where
    unit_fits : u < 2 ^ 63
    unit_fits = omega (arith, h.small, modulus.narrow)

    is_done : 1 < p → (p_pos : 0 < p) (v : Residue p) → n ≡ v.0 → ¬ (v ≡ to_z p p_pos 0) → inverse₀ p p_pos v ≡ done (u, lt→ltb u p h.small)
    is_done two p_pos v ev some =
        done₀ p p_pos v (u, lt→ltb u p h.small) (λ k d q. h.coprime k d (rw ev q))
        (residue_path p _ _ (ap (λ m. (u * m) % p) (sym ev) ∙ h.inverse ∙ sym (mod-eq_of_lt two))) some

  module _ (h : FactorOf p n u) where
    factor_fits : u < 2 ^ 63
    factor_fits = omega (arith, le_of_dvd modulus.positive ((h.common u).0 (dvd_refl u)).0, modulus.narrow)

    is_shown : (p_pos : 0 < p) (v : Residue p) → n ≡ v.0 → inverse₀ p p_pos v ≡ shown u
    is_shown p_pos v ev = shown₀ p p_pos v u (rw ev at h.common) h.above

-- one word has changed
set-kept : {w w' : List ℤ} (c u : ℕ) → w' ≡ set w c (pos u) → Kept c 1 w w'
set-kept {w} c u ew = subst (Kept c 1 w) (sym ew) (kept_set w c (pos u))

-- ---- the inverse of a number
module _ {p : ℕ} {x : List ℤ} {x_in : Bool} {a : ℕ} {w : List ℤ} {c : ℕ} (r : NumberReady p x x_in a w c) {n : ℕ} (en : n ≡ at (pick x_in w x) a) {i : Result ℕ Shared}
    (h : Inverted p n i) where
  module _ {u : ℕ} (ei : i ≡ Ok u) where
    unit : UnitOf p n u
    unit = subst (Inverted p n) ei h

    pub unit_put : (c < length w) × (u < 2 ^ 63)
    unit_put = (r.c_inside, unit_fits r.modulus unit)

    pub unit_done : {w' : List ℤ} → w' ≡ set w c (pos u) → NumberDone p x x_in a w w' c (Ok tt)
    unit_done {w'} ew = record {
      frame = set-kept c u ew;
      done = λ p_pos v ev some.
          subst (λ s. Came₀ p s (Ok tt) w w' c) (sym (is_done r.modulus unit r.two p_pos v (en ∙ ev) some)) (refl, ew);
    }

  module _ {s : Shared} (ei : i ≡ Err s) where
    factor : FactorOf p n s.divisor
    factor = subst (Inverted p n) ei h

    pub factor_put : (c < length w) × (s.divisor < 2 ^ 63)
    factor_put = (r.c_inside, factor_fits r.modulus factor)

    pub factor_done : {w' : List ℤ} → w' ≡ set w c (pos s.divisor) → NumberDone p x x_in a w w' c (Err (Factor 0 c))
    factor_done {w'} ew = record {
      frame = set-kept c s.divisor ew;
      done = λ p_pos v ev some.
          subst (λ q. Came₀ p q (Err (Factor 0 c)) w w' c) (sym (is_shown r.modulus factor p_pos v (en ∙ ev))) (refl, ew);
    }

-- ---- the inverse of the last of a row's numbers
module _ {p row n k unit : ℕ} {w : List ℤ} (r : FollowNumberReady p row n k unit w) {c : ℕ} (ec : c ≡ at w (row + (k - 1))) {i : Result ℕ Shared}
    (h : Inverted p c i) where
  module _ {u : ℕ} (ei : i ≡ Ok u) where
    found : UnitOf p c u
    found = subst (Inverted p c) ei h

    pub next-put : (unit < length w) × (u < 2 ^ 63)
    next-put = (r.unit_inside, unit_fits r.modulus found)

    pub next_done : {w' : List ℤ} → w' ≡ set w unit (pos u) → FollowNumberDone p row n k unit w w' (Ok k)
    next_done {w'} ew = record {
      frame = inl (set-kept unit u ew);
      done = λ p_pos v ev some.
          subst (λ s. Follows₀ p s k (row + n) unit (Ok k) w w') (sym (is_done r.modulus found r.two p_pos v (ec ∙ ev) some)) (refl, ew);
    }

  module _ {s : Shared} (ei : i ≡ Err s) where
    shared : FactorOf p c s.divisor
    shared = subst (Inverted p c) ei h

    pub shows_put : (row + n < length w) × (s.divisor < 2 ^ 63)
    shows_put = (r.free_inside, factor_fits r.modulus shared)

    pub shows_done : {w' : List ℤ} → w' ≡ set w (row + n) (pos s.divisor) → FollowNumberDone p row n k unit w w' (Err (Factor 0 (row + n)))
    shows_done {w'} ew = record {
      frame = inr (set-kept (row + n) s.divisor ew);
      done = λ p_pos v ev some.
          subst (λ q. Follows₀ p q k (row + n) unit (Err (Factor 0 (row + n))) w w') (sym (is_shown r.modulus shared p_pos v (ec ∙ ev))) (refl, ew);
    }

-- level 0 of the inverse
came_up : (p : ℕ) (p_pos : 0 < p) (d : List ℕ) (t : Tower p d 0) (s : Answer ℕ (Residue p)) (r : Result (Unit {0}) Stop) (w w' : List ℤ) (c : ℕ) → c < length w
    → Came₀ p s r w w' c → Came p p_pos d 0 t s r w' c
unfolding shown_words
came_up p p_pos d t (done u) r w w' c l h = (h.0, subst (λ y. Stands p d 0 u y c) (sym h.1) (residue_stands p d u w c u.0 l refl))
came_up p p_pos d t (shown f) r w w' c l h = (h.0, ap (seg c (size d 0)) h.1 ∙ put-seg (size d 0) (sym (size-zero d)) (put-set w c (pos f) l))
came_up p p_pos d t long r w w' c l h = absurd h

module _ {d z : List ℕ} {p : ℕ} {e : List ℤ} {e-in : Bool} {ea : ℕ} {x : List ℤ} {x_in : Bool} {a : ℕ} {w : List ℤ} {c top : ℕ} where
  pub number_asks : {i : ℕ} → i ≡ 0 → InvertReady i d z p e e-in ea x x_in a w c top → NumberReady p x x_in a w c
  number_asks {i = suc i} ei r = absurd (lt_irrefl 0 (omega arith))
  number_asks {i = zero} ei r = record {
    modulus = r.run.modulus;
    two = r.run.two;
    number = held_of p d r.run.v (pick x_in w x) a r.run.modulus (omega (arith, size-zero d, r.run.x_inside.inside)) r.run.element;
    c_inside = omega (arith, size-zero d, r.c_below, r.run.room);
  }

  pub number_done : {i : ℕ} {w' : List ℤ} {o : Result (Unit {0}) Stop} → i ≡ 0 → InvertReady i d z p e e-in ea x x_in a w c top → NumberDone p x x_in a w w' c o
      → InvertDone i d p e e-in ea x x_in a w w' c top o
  number_done {i = suc i} ei r h = absurd (lt_irrefl 0 (omega arith))
  number_done {i = zero} {w' = w'} {o = o} ei r h = record {
    frame = worked-answer r.c_below (subst (λ n. Kept c n w w') (sym (size-zero d)) h.frame);
    done = λ p_pos t v tower element some.
        came_up p p_pos d t (inverse₀ p p_pos v) o w w' c (omega (arith, size-zero d, r.c_below, r.run.room))
        (h.done p_pos v (ap num (word_of p d v (pick x_in w x) a element)) some);
  }

-- ---- zeros, and the degree word
module _ {h n g s : ℕ} {d z : List ℕ} {w : List ℤ} {row : ℕ} (r : FinishReady h n g s d z w row) where
  -- the zeros follow the n elements
  filled : n * size d h + (g - n) * size d h ≡ g * size d h
  filled =
      let all : n + (g - n) ≡ g = omega (arith, r.few) in
      sym (add-mul n (g - n) (size d h)) ∙ ap (λ (y : ℕ). y * size d h) all

  pub finish-place : row + n * s ≤ length w
  finish-place = omega (arith, ap (λ (y : ℕ). n * y) r.size_is, filled, r.inside)

  pub finish-settle : {l : ℕ} → l ≡ length w → (1 ≤ s) × (row - 1 + 1 + g * s ≤ l)
  finish-settle e = (omega (arith, r.size_is, size-pos d h), omega (arith, ap (λ (y : ℕ). g * y) r.size_is, r.inside, r.behind))

  module _ {at : ℕ} (ea : at ≡ row + n * s) where
    here : at ≡ row + n * size d h
    here = ea ∙ ap (λ (y : ℕ). row + n * y) r.size_is

    pub finish-zeros : Run h (g - n) d z w at
    finish-zeros = record { low = r.low; sized = r.sized; inside = omega (arith, here, filled, r.inside) }

    pub finished : {w₁ w₂ : List ℤ} → Put at (copies (g - n) (zero_words d h)) w w₁ → Settled h g s (row - 1) w₁ w₂ → FinishDone h n g d w w₂ row
    finished {w₁} {w₂} put settled = record { frame = frame; done = slots }
      where
        k : Kept at ((g - n) * size d h) w w₁
        k = put-kept ((g - n) * size d h) (copies_long (g - n) (size d h) (zero_words d h) (zero_long d h)) put

        frame : Kept (row - 1) (g * size d h + 1) w w₂
        frame =
            kept_trans (kept-wide (omega (arith, here)) (omega (arith, here, filled, r.behind)) k) (kept-wide (omega arith) (omega arith) settled.0)

        back : row - 1 + 1 ≡ row
        back = omega (arith, r.behind)

        slots : (p : ℕ) (p_pos : 0 < p) (f : ℕ → El p d h) → Elements p d h n f w row
            → SlotStands p d h g (trunc g (coef (group p p_pos d h).𝟘 n (trunc n f))) w₂ (row - 1)
        slots p p_pos f low =
            put-seg (g * size d h + 1) (omega (arith, slot_long p d h g v))
            (settled.1 p d v p_pos r.size_is
            (subst (λ y. seg y (g * size d h) w₁ ≡ writes (write p d h) g v) (sym back)
            (run_of p p_pos d h g v w₁ row (omega (arith, r.inside, k.long)) (λ j l. each j l (le_or_lt n j)))))
          where
            o : El p d h
            o = (group p p_pos d h).𝟘

            v : Vec (El p d h) g
            v = trunc g (coef o n (trunc n f))

            each : (j : ℕ) → j < g → (n ≤ j) ⊎ (j < n) → Stands p d h (coef o g v j) w₁ (row + j * size d h)
            each j l (inr q) =
                kept-seg (row + j * size d h) (size d h) (inl (omega (arith, here, block_inside j n (size d h) q))) k
                ∙ low j q ∙ ap (write p d h) (sym (trunc-at o g (coef o n (trunc n f)) j l ∙ trunc-at o n f j q))
            each j l (inl q) =
                let on : n + (j - n) ≡ j = omega arith in
                let place : at + (j - n) * size d h ≡ row + j * size d h = omega (arith, here, add-mul n (j - n) (size d h), ap (λ (y : ℕ). y * size d h) on) in
                subst (Stands p d h _ w₁) place (zeros_stand p p_pos d h (g - n) w w₁ at put (j - n) (omega arith))
                ∙ ap (write p d h) (sym (trunc-at o g (coef o n (trunc n f)) j l ∙ coef_below o n (trunc n f) j q))

-- where g is the degree of a level, the slot is an element of it
module _ {h n : ℕ} {d : List ℕ} {w w' : List ℤ} {row : ℕ} (r : FinishDone h n (degree d h) d w w' row) where
  pub finish_frame : Kept (row - 1) (size d (suc h)) w w'
  finish_frame = subst (λ m. Kept (row - 1) m w w') (sym (size_suc d h)) r.frame

  pub finish-element : (p : ℕ) (p_pos : 0 < p) (f : ℕ → El p d h) → Elements p d h n f w row
      → Stands p d (suc h) (trunc (degree d h) (coef (group p p_pos d h).𝟘 n (trunc n f))) w' (row - 1)
  finish-element p p_pos f s = ap (λ m. seg (row - 1) m w') (size_suc d h) ∙ r.done p p_pos f s ∙ sym (write_suc p d h _)

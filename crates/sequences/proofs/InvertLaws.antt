-- Laws of an inverse whose answer is brought to c.
--
-- CopyReady                     == what a copy asks for
-- copies-inverse, gives_inverse == the inverse's words are copied
-- invert-level, copies_divisor, gives_divisor == those of a factor
-- invert_endless                      == number 11
use Prim.Native.Nat.{ℕ, ◌+◌, ◌<◌, ◌≤◌}
use native.Mathlib.Omega.{arith}
use mathlib.Core.Path.{◌≡◌, refl, ap, sym, ◌∙◌, subst}
use mathlib.Core.Bool.{Bool}
use mathlib.Core.Logic.{inl}
use mathlib.Core.List.{List}
use lib.IntN.{ℤ}
use lib.ListN.{length, get_or}
use Rattle.tower.specs.Form.{seg}
use Rattle.tower.specs.Levels.{Ones}
use Rattle.tower.specs.Lists.{seg_long}
use Rattle.tower.specs.Store.{Put, Apart, kept-wide, put-kept, put-seg}
use Rattle.tower.specs.Work.{inverse_work}
use Rattle.tower.specs.Writing.{size}
use Rattle.products.specs.Product.{Worked}
use Rattle.products.proofs.Frames.{worked_trans, worked-answer, worked-above}
use Rattle.euclid.specs.Shown.{shown_fits}
use Rattle.euclid.specs.Towers.{shown_level, inv}
use Rattle.std.specs.Prelude.{Result, Ok, Err}
use Rattle.sequences.specs.declared.Stop.{Stop}
use Rattle.sequences.specs.declared.Stop.TheVariants.{Factor, Long}
use Rattle.sequences.specs.Outcomes.{Above, Came, Reached, InvertReady, InvertDone, RunDone}
use Rattle.sequences.proofs.AnswerLaws.{level-low, reached_inverse, reached_divisor, reached_endless}

-- n words are copied from a place at or above top to c, below it
pub record CopyReady (w : List ℤ) (c at n : ℕ) : Type 0 where
  pub to : c + n ≤ length w
  pub from : at + n ≤ length w
  pub apart : Apart c at n

module _ {i : ℕ} {d z : List ℕ} {p : ℕ} {e : List ℤ} {e-in : Bool} {ea : ℕ} {x : List ℤ} {x_in : Bool} {a : ℕ} {w₀ : List ℤ} {c top : ℕ}
    (r : InvertReady i d z p e e-in ea x x_in a w₀ c top) {w₁ : List ℤ} {o : Result ℕ Stop} (ran : RunDone i d p e e-in ea x x_in a w₀ w₁ top o) where
  -- what was reached, of the elements that the contract shows
  reached : Reached p r.run.p_pos d i r.run.t (inv p r.run.p_pos d i r.run.t r.run.v) o w₁ top
  reached = ran.done r.run.p_pos r.run.t r.run.v r.run.tower r.run.element r.run.some

  ones : (p_pos : 0 < p) → Ones p p_pos d i
  ones p_pos = record { p_two = r.run.two; degrees = r.run.positive.some }

  frame₁ : Worked c (size d i) top (inverse_work d i) w₀ w₁
  frame₁ = worked-above r.c_below ran.frame

  copy_from : {n at : ℕ} → n ≤ size d i → Above d i n at top → CopyReady w₁ c at n
  copy_from l q = record {
    to = omega (arith, r.c_below, r.run.room, ran.frame.long);
    from = omega (arith, q.high, r.run.room, ran.frame.long);
    apart = inl (omega (arith, r.c_below, q.low));
  }

  -- a copy changes the answer's words only
  copied : {n at : ℕ} {w₂ : List ℤ} → n ≤ size d i → Above d i n at top → Put c (seg at n w₁) w₁ w₂
      → (Worked c (size d i) top (inverse_work d i) w₀ w₂) × (seg c n w₂ ≡ seg at n w₁)
  copied {n} {at} {w₂} l q b = (
    worked_trans frame₁ (worked-answer r.c_below (kept-wide (omega arith) (omega arith) (put-kept n long b))),
    put-seg n long b,
  )
    where
      long : length (seg at n w₁) ≡ n
      long = seg_long at n w₁ (copy_from l q).from

  -- ---- the inverse
  module _ {at : ℕ} (eo : o ≡ Ok at) where
    inverse-above : Above d i (size d i) at top
    inverse-above =
        let k = reached_inverse p r.run.p_pos d i r.run.t w₁ top o at eo (inv p r.run.p_pos d i r.run.t r.run.v) reached in
        subst (λ y. Above d i (size d i) y top) (sym k.3) k.4

    invert-inverse_asks : CopyReady w₁ c at (size d i)
    invert-inverse_asks = copy_from (omega arith) inverse-above

    invert-inverse : {w₂ : List ℤ} → Put c (seg at (size d i) w₁) w₁ w₂ → InvertDone i d p e e-in ea x x_in a w₀ w₂ c top (Ok tt)
    invert-inverse {w₂} b = record {
      frame = (copied (omega arith) inverse-above b).0;
      done = λ p_pos t v ts vs nz.
          let k = reached_inverse p p_pos d i t w₁ top o at eo (inv p p_pos d i t v) (ran.done p_pos t v ts vs nz) in
          subst (λ y. Came p p_pos d i t y (Ok tt) w₂ c) (sym k.1)
          (refl, (copied (omega arith) inverse-above b).1 ∙ ap (λ y. seg y (size d i) w₁) k.3 ∙ k.5);
    }

  -- ---- a factor
  module _ {l at : ℕ} (eo : o ≡ Err (Factor l at)) where
    -- its level, and where it stands
    divisor_above : (l ≤ i) × (size d l ≤ size d i) × Above d i (size d l) at top
    divisor_above =
        let k = reached_divisor p r.run.p_pos d i r.run.t w₁ top o l at eo (inv p r.run.p_pos d i r.run.t r.run.v) reached in (
          omega (arith, k.2, level-low p d i k.0),
          omega (arith, ap (size d) k.2, shown_fits p r.run.p_pos d i (ones r.run.p_pos) k.0),
          subst (λ y. Above d i (size d y) at top) (sym k.2) (subst (λ y. Above d i (size d (shown_level p d i k.0)) y top) (sym k.4) k.5),
        )

    pub invert-level : l ≤ 4
    invert-level = omega (arith, divisor_above.0, r.run.low)

    invert_divisor_asks : CopyReady w₁ c at (size d l)
    invert_divisor_asks = copy_from divisor_above.1 divisor_above.2

    invert_divisor : {w₂ : List ℤ} → Put c (seg at (size d l) w₁) w₁ w₂ → InvertDone i d p e e-in ea x x_in a w₀ w₂ c top (Err (Factor l c))
    invert_divisor {w₂} b = record {
      frame = (copied divisor_above.1 divisor_above.2 b).0;
      done = λ p_pos t v ts vs nz.
          let k = reached_divisor p p_pos d i t w₁ top o l at eo (inv p p_pos d i t v) (ran.done p_pos t v ts vs nz) in
          let here : seg c (size d l) w₂ ≡ seg at (size d l) w₁ = (copied divisor_above.1 divisor_above.2 b).1 in
          subst (λ y. Came p p_pos d i t y (Err (Factor l c)) w₂ c) (sym k.1) (
            ap (λ y. Err (Factor y c)) k.2,
            ap (λ y. seg c (size d y) w₂) (sym k.2) ∙ here ∙ ap (λ y. seg at (size d y) w₁) k.2
                ∙ ap (λ y. seg y (size d (shown_level p d i k.0)) w₁) k.4 ∙ k.6,
          );
    }

  -- ---- number 11
  pub invert_endless : o ≡ Err Long → InvertDone i d p e e-in ea x x_in a w₀ w₁ c top (Err Long)
  invert_endless eo = record {
    frame = frame₁;
    done = λ p_pos t v ts vs nz.
        subst (λ y. Came p p_pos d i t y (Err Long) w₁ c) (sym (reached_endless p p_pos d i t w₁ top o eo (inv p p_pos d i t v) (ran.done p_pos t v ts vs nz))) refl;
  }

-- ---- in the words of the code, where the size is read
module _ {i : ℕ} {d z : List ℕ} {p : ℕ} {e : List ℤ} {e-in : Bool} {ea : ℕ} {x : List ℤ} {x_in : Bool} {a : ℕ} {w₀ : List ℤ} {c top : ℕ}
    (r : InvertReady i d z p e e-in ea x x_in a w₀ c top) {w₁ : List ℤ} {o : Result ℕ Stop} (ran : RunDone i d p e e-in ea x x_in a w₀ w₁ top o) {s : ℕ} where
  pub copies-inverse : {at : ℕ} → o ≡ Ok at → s ≡ get_or z i 0 → CopyReady w₁ c at s
  copies-inverse eo es = rw (es ∙ r.run.sized.at i r.run.low) (invert-inverse_asks r ran eo)

  pub gives_inverse : {at : ℕ} → o ≡ Ok at → s ≡ get_or z i 0 → {w₂ : List ℤ} → Put c (seg at s w₁) w₁ w₂ → InvertDone i d p e e-in ea x x_in a w₀ w₂ c top (Ok tt)
  gives_inverse eo es b = invert-inverse r ran eo (rw (es ∙ r.run.sized.at i r.run.low) at b)

  pub copies_divisor : {l at : ℕ} → o ≡ Err (Factor l at) → s ≡ get_or z l 0 → CopyReady w₁ c at s
  copies_divisor {l} eo es = rw (es ∙ r.run.sized.at l (invert-level r ran eo)) (invert_divisor_asks r ran eo)

  pub gives_divisor : {l at : ℕ} → o ≡ Err (Factor l at) → s ≡ get_or z l 0 → {w₂ : List ℤ} → Put c (seg at s w₁) w₁ w₂
      → InvertDone i d p e e-in ea x x_in a w₀ w₂ c top (Err (Factor l c))
  gives_divisor {l} eo es b = invert_divisor r ran eo (rw (es ∙ r.run.sized.at l (invert-level r ran eo)) at b)

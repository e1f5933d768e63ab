-- Laws of the numbers of fields, as they are read from a line into a store, one field a turn.
--
-- split_fields                  == the library's `split` at the tabs gives the fields
-- Gathered                      == the first words of a store are the numbers of the fields passed
-- none_gathered, one_gathered   == how reading goes on
-- no_number, too_many, all_read == how it ends
use mathlib.Core.Path.{◌≡◌, refl, sym, ap, ◌∙◌}
use mathlib.Core.Bool.{cond}
use mathlib.Core.List.{List, [], ◌∷◌}
use Prim.Native.Nat.{ℕ, ◌+◌, ◌<◌, ◌≤◌}
use native.Mathlib.Numerals.{add-one}
use native.Mathlib.Omega.{arith}
use borrow.Author.Tests.{lt-ltb, le-ltb}
use denote.Ref.{Bor}
use lib.Dec.{eqb}
use lib.IntN.{ℤ}
use lib.ListN.{length, take, set}
use lib.Seq.{take-suc-set, length-take-le}
use Rattle.std.proofs.lemmas.Iterator.{YieldsList}
use Rattle.std.proofs.lemmas.List.Splits.{length-slice_split}
use Rattle.std.specs.Iterator.{AlwaysYields}
use Rattle.std.specs.List.{slice_split, onto_first}
use Rattle.std.specs.Prelude.{Option, Some, None}
use Rattle.text.specs.Fields.{before, fields_of, most_words, most_digits, word_then, words_from, words_of, FirstWords}
use Rattle.text.specs.Text.{tab, number_of}
use Rattle.text.specs.Written.{words_nil, words-cons}

-- ---- the parts that the library's `split` gives
first_before : (b : ℕ) (fs : List (List ℕ)) → onto_first b fs ≡ before b fs
first_before b [] = refl
first_before b (f ∷ fs) = refl

-- parted at the tabs a text gives its fields
split_fields : (s : List ℕ) → slice_split (λ b. eqb b tab) s ≡ fields_of s
unfolding fields_of
split_fields [] = refl
split_fields (b ∷ s) =
    ap (λ (fs : List (List ℕ)). cond (eqb b tab) ([] ∷ fs) (onto_first b fs)) (split_fields s)
    ∙ ap (cond (eqb b tab) ([] ∷ fields_of s)) (first_before b (fields_of s))

-- ---- turn by turn
module _ {S : Type 0} (steps : S → Option (Bor (List ℕ)) → S → Type 0) where
  -- the numbers of the fields that have come are the first n words of w; those in `left` are to come
  pub record Gathered (at : S) (fs : List (List ℕ)) (w : List ℤ) (n : ℕ) : Type 0 where
    pub left : List (List ℕ)
    pub to_come : YieldsList steps (λ x. x.now) at left
    pub begun : left ≡ [] → 0 < n
    pub few : n ≤ most_words
    pub rest : words_of fs ≡ words_from (take n w) left

  pub none_gathered : {at : S} {w : List ℤ} (s : List ℕ) → YieldsList steps (λ x. x.now) at (slice_split (λ b. eqb b tab) s) → Gathered at (fields_of s) w 0
  none_gathered s e =
      record {
        left = slice_split (λ b. eqb b tab) s;
        to_come = e;
        begun = λ q. absurd (omega (arith, ap length q, length-slice_split (λ b. eqb b tab) s));
        few = omega arith;
        rest = ap words_of (sym (split_fields s));
      }

module _ {S : Type 0} {steps : S → Option (Bor (List ℕ)) → S → Type 0} {at : S} {fs : List (List ℕ)} {w : List ℤ} {n : ℕ} (g : Gathered steps at fs w n) where
  -- where no field comes, none is left
  none_left : {j : S} → steps at None j → (l : List (List ℕ)) → AlwaysYields steps (λ x. x.now) at l → l ≡ []
  none_left m [] a = refl
  none_left m (f ∷ l) a = absurd (a.0 _ m)

  pub all_read : {j : S} → steps at None j → most_words ≤ length w → FirstWords w n fs
  all_read m k =
      let none : g.left ≡ [] = none_left m g.left g.to_come.runs in
      let e : take n w ≡ words_of fs = sym (g.rest ∙ ap (words_from (take n w)) none ∙ words_nil (take n w)) in
      record {
        some = g.begun none;
        few = g.few;
        words = e;
        count = sym (ap length (sym e) ∙ length-take-le n w (omega (arith, g.few)));
      }

  module _ (f : Bor (List ℕ)) (j : S) (m : steps at (Some f) j) where
    -- the field that comes is the first of those that are left
    others : (l : List (List ℕ)) → AlwaysYields steps (λ x. x.now) at l → (r : List (List ℕ)) × (l ≡ f.now ∷ r) × AlwaysYields steps (λ x. x.now) j r
    others [] a = absurd (a f j m)
    others (h ∷ r) a = let t = a.1 f j m in (r, ap (λ y. y ∷ r) (sym t.0), t.1)

    more : (r : List (List ℕ)) × (g.left ≡ f.now ∷ r) × AlwaysYields steps (λ x. x.now) j r
    more = others g.left g.to_come.runs

    module _ {x : Option ℤ} (read : x ≡ number_of most_digits f.now) where
      next : words_of fs ≡ word_then x (take n w) (λ y. words_from y more.0)
      next =
          g.rest
          ∙ ap (words_from (take n w)) more.1
          ∙ words-cons (take n w) f.now more.0
          ∙ ap (λ (y : Option ℤ). word_then y (take n w) (λ z. words_from z more.0)) (sym read)

      pub no_number : x ≡ None → words_of fs ≡ []
      no_number q = next ∙ rw q

      pub too_many : {z : ℤ} → x ≡ Some z → most_words ≤ n → most_words ≤ length w → words_of fs ≡ []
      too_many {z} q h k =
          let held : length (take n w) ≡ n = length-take-le n w (omega (arith, g.few)) in
          next ∙ rw (q, held, le-ltb n most_words h)

      pub one_gathered : {z : ℤ} → x ≡ Some z → n < most_words → most_words ≤ length w → Gathered steps j fs (set w n z) (n + 1)
      one_gathered {z} q h k =
          let held : length (take n w) ≡ n = length-take-le n w (omega (arith, g.few)) in
          record {
            left = more.0;
            to_come = record { runs = more.2 };
            begun = λ e. omega arith;
            few = omega arith;
            rest =
                next
                ∙ rw (q, held, lt-ltb n most_words h)
                (ap (λ (l : List ℤ). words_from l more.0) (sym (take-suc-set w n z (omega arith))) ∙ rw (add-one n));
          }

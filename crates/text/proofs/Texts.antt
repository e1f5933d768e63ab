-- Laws of texts that are the same, and of the fields of a text as they are met from the front.
--
-- same_true               == two texts that same_text tells the same are equal
-- part, part_end          == a part of a text; up to its end
-- Passed                  == there is no tab from a place up to another
-- none_passed, one-passed == how a search for a tab goes on
-- at-tab, at_end          == where the field ends that begins at a place
-- one_field, two_fields   == a text is its fields with tabs between them
use mathlib.Core.Path.{◌≡◌, refl, sym, ap, ◌∙◌}
use mathlib.Core.Bool.{Bool, true, false, cond, ◌&&◌}
use mathlib.Core.List.{List, [], ◌∷◌, ◌++◌, append_assoc, append-nil}
use Prim.Native.Nat.{ℕ, suc, ◌+◌, ◌-◌, ◌<◌, ◌≤◌}
use native.Mathlib.Numerals.{add-one}
use native.Mathlib.Omega.{arith}
use borrow.Author.Tests.{eq-eqb, ne_eqb, eqb-true}
use lib.Dec.{eqb}
use lib.ListN.{length, get_or, take, drop, length-drop}
use lib.Seq.{drop-cons, drop-length, take-suc, take_all, get_or-drop}
use Rattle.text.specs.Fields.{before, fields_of, fields_at, Ends}
use Rattle.text.specs.Text.{tab, same_text}
use Rattle.text.specs.Written.{fields_nil}

-- ---- the same text
both_true : (x y : Bool) → (x && y) ≡ true → (x ≡ true) × (y ≡ true)
both_true true y e = (refl, e)
both_true false y e = (e, cc)

pub same_true : (a b : List ℕ) → same_text a b ≡ true → a ≡ b
same_true [] [] e = refl
same_true [] (b ∷ s) e = cc
same_true (a ∷ r) [] e = cc
same_true (a ∷ r) (b ∷ s) e =
    let h : (eqb a b ≡ true) × (same_text r s ≡ true) = both_true (eqb a b) (same_text r s) e in
    cc (eqb-true a b h.0, same_true r s h.1)

-- ---- fields, byte by byte
fields_tab : (b : ℕ) (s : List ℕ) → b ≡ tab → fields_of (b ∷ s) ≡ [] ∷ fields_of s
unfolding fields_of
fields_tab b s e = simp (eq-eqb b tab e)

fields_byte : (b : ℕ) (s : List ℕ) → (b ≡ tab → ⊥) → fields_of (b ∷ s) ≡ before b (fields_of s)
unfolding fields_of
fields_byte b s h = simp (ne_eqb b tab h)

-- there is a first field
abbrev first_of : List (List ℕ) → List ℕ
first_of [] = []
first_of (f ∷ fs) = f

abbrev others_of : List (List ℕ) → List (List ℕ)
others_of [] = []
others_of (f ∷ fs) = fs

either_some : (t : Bool) (b : ℕ) (fs : List (List ℕ)) →
    cond t ([] ∷ fs) (before b fs) ≡ first_of (cond t ([] ∷ fs) (before b fs)) ∷ others_of (cond t ([] ∷ fs) (before b fs))
either_some true b fs = refl
either_some false b [] = refl
either_some false b (f ∷ fs) = refl

fields_some : (s : List ℕ) → fields_of s ≡ first_of (fields_of s) ∷ others_of (fields_of s)
unfolding fields_of
fields_some [] = refl
fields_some (b ∷ s) = either_some (eqb b tab) b (fields_of s)

-- bytes in front of the first field
abbrev before_all : List ℕ → List (List ℕ) → List (List ℕ)
before_all p [] = p ∷ []
before_all p (f ∷ fs) = (p ++ f) ∷ fs

before-one : (p : List ℕ) (b : ℕ) (fs : List (List ℕ)) → before_all p (before b fs) ≡ before_all (p ++ (b ∷ [])) fs
before-one p b [] = refl
before-one p b (f ∷ fs) = ap (λ (l : List ℕ). l ∷ fs) (sym (append_assoc p (b ∷ []) f))

before-none : (s : List ℕ) → before_all [] (fields_of s) ≡ fields_of s
before-none s = ap (before_all []) (fields_some s) ∙ sym (fields_some s)

-- the text from `from` up to i
abbrev pub part : List ℕ → ℕ → ℕ → List ℕ
part s from i = take (i - from) (drop from s)

part_suc : (s : List ℕ) (from i : ℕ) → from ≤ i → i < length s → part s from (suc i) ≡ part s from i ++ (get_or s i 0 ∷ [])
part_suc s from i h k =
    let grown : suc i - from ≡ suc (i - from) = omega arith in
    let place : from + (i - from) ≡ i = omega arith in
    let within : i - from < length (drop from s) = simp length-drop (omega arith) in
    rw (grown, take-suc (drop from s) (i - from) 0 within, get_or-drop, place)

pub part_end : (s : List ℕ) (from : ℕ) → part s from (length s) ≡ drop from s
part_end s from = take_all (length s - from) (drop from s) (omega (arith, length-drop from s))

-- from `from` up to i no byte is a tab
pub record Passed (s : List ℕ) (from i : ℕ) : Type 0 where
  pub low : from ≤ i
  pub high : i ≤ length s
  pub rest : fields_at s from ≡ before_all (part s from i) (fields_at s i)

pub none_passed : (s : List ℕ) (from : ℕ) → from ≤ length s → Passed s from from
none_passed s from h =
    let z : from - from ≡ 0 = omega arith in
    record { low = omega arith; high = h; rest = rw z (sym (before-none (drop from s))) }

module _ {s : List ℕ} {from i : ℕ} (p : Passed s from i) where
  pub one-passed : i < length s → (get_or s i 0 ≡ tab → ⊥) → Passed s from (i + 1)
  one-passed h n =
      let grown : part s from (suc i) ≡ part s from i ++ (get_or s i 0 ∷ []) = part_suc s from i p.low h in
      record {
        low = omega (arith, p.low);
        high = omega arith;
        rest =
            p.rest
            ∙ ap (λ (t : List ℕ). before_all (part s from i) (fields_of t)) (drop-cons s i 0 h)
            ∙ ap (before_all (part s from i)) (fields_byte (get_or s i 0) (drop (suc i) s) n)
            ∙ before-one (part s from i) (get_or s i 0) (fields_at s (suc i))
            ∙ ap (λ (t : List ℕ). before_all t (fields_at s (suc i))) (sym grown)
            ∙ ap (λ (n : ℕ). before_all (part s from n) (fields_at s n)) (sym (add-one i));
      }

  pub at-tab : i < length s → get_or s i 0 ≡ tab → Ends s from i
  at-tab h e =
      record {
        low = p.low;
        high = p.high;
        last = λ q. absurd (omega arith);
        more =
            λ q.
            p.rest
            ∙ ap (λ (t : List ℕ). before_all (part s from i) (fields_of t)) (drop-cons s i 0 h)
            ∙ ap (before_all (part s from i)) (fields_tab (get_or s i 0) (drop (suc i) s) e)
            ∙ ap (λ (t : List ℕ). t ∷ fields_at s (suc i)) (append-nil (part s from i));
      }

  pub at_end : length s ≤ i → Ends s from i
  at_end h =
      let e : i ≡ length s = omega (arith, p.high) in
      record {
        low = p.low;
        high = p.high;
        last =
            λ q.
            p.rest
            ∙ ap (λ (n : ℕ). before_all (part s from n) (fields_at s n)) e
            ∙ ap (λ (t : List ℕ). before_all (part s from (length s)) (fields_of t)) (drop-length s)
            ∙ ap (before_all (part s from (length s))) fields_nil
            ∙ ap (λ (t : List ℕ). t ∷ []) (append-nil (part s from (length s)) ∙ part_end s from);
        more = λ q. absurd (omega arith);
      }

-- ---- a text from its fields
-- fields with tabs between them
abbrev text_of : List (List ℕ) → List ℕ
text_of [] = []
text_of (f ∷ []) = f
text_of (f ∷ (g ∷ fs)) = f ++ (tab ∷ text_of (g ∷ fs))

text-before : (b : ℕ) (fs : List (List ℕ)) → text_of (before b fs) ≡ b ∷ text_of fs
text-before b [] = refl
text-before b (f ∷ []) = refl
text-before b (f ∷ (g ∷ fs)) = refl

text-tab : (s : List ℕ) → text_of ([] ∷ fields_of s) ≡ tab ∷ text_of (fields_of s)
text-tab s =
    ap (λ (fs : List (List ℕ)). text_of ([] ∷ fs)) (fields_some s)
    ∙ ap (λ (fs : List (List ℕ)). tab ∷ text_of fs) (sym (fields_some s))

text_either : (t : Bool) (b : ℕ) (s : List ℕ) → eqb b tab ≡ t → text_of (cond t ([] ∷ fields_of s) (before b (fields_of s))) ≡ b ∷ text_of (fields_of s)
text_either true b s e = text-tab s ∙ ap (λ (n : ℕ). n ∷ text_of (fields_of s)) (sym (eqb-true b tab e))
text_either false b s e = text-before b (fields_of s)

text_of_fields : (s : List ℕ) → text_of (fields_of s) ≡ s
unfolding fields_of
text_of_fields [] = refl
text_of_fields (b ∷ s) = text_either (eqb b tab) b s refl ∙ ap (λ (l : List ℕ). b ∷ l) (text_of_fields s)

pub one_field : (s f : List ℕ) → fields_of s ≡ f ∷ [] → s ≡ f
one_field s f e = sym (text_of_fields s) ∙ ap text_of e

pub two_fields : (s f g : List ℕ) → fields_of s ≡ f ∷ (g ∷ []) → s ≡ f ++ (tab ∷ g)
two_fields s f g e = sym (text_of_fields s) ∙ ap text_of e

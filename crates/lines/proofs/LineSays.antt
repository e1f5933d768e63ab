-- Laws of what a line says, case by case as the program's functions meet them.
--
-- poly_alone           == `poly` of one field
-- neither_said         == an operation whose operands are neither a nor a and b
-- inv-said, one_unsaid == an operation with a, by its name
-- gcd-said, div-said, mul-said, two_unsaid == an operation with a and b
-- too_long, name_alone            == a line of too many bytes; of one field
-- after_field, after_ext, after-poly, after_operation == any other line, by its name
use mathlib.Core.Path.{◌≡◌, refl, sym, ap, ◌∙◌}
use Rattle.std.proofs.Common.{Option, Some, None}
use mathlib.Core.Bool.{Bool, true, false, cond}
use mathlib.Core.List.{List, [], ◌∷◌, ◌++◌}
use Prim.Native.Nat.{ℕ, ◌+◌, ◌-◌, ◌<◌, ◌≤◌}
use native.Mathlib.Numerals.{add-one}
use native.Mathlib.Omega.{arith}
use borrow.Author.Tests.{lt-leb}
use lib.IntN.{ℤ}
use lib.ListN.{length, take}
use Rattle.text.specs.Fields.{fields_of, fields_at, words_from, words_of, most_bytes, Ends}
use Rattle.text.specs.Text.{tab, same_text}
use Rattle.text.specs.Written.{words_nil}
use Rattle.text.proofs.Texts.{part, part_end, same_true, one_field, two_fields}
use Rattle.lines.specs.declared.Line.{Line}
use Rattle.lines.specs.declared.Line.TheVariants.{Gcd, Div, Mul, Inv}
use Rattle.lines.specs.Names.{name_field, name_ext, name_poly, name_a, name_b, name_gcd, name_div, name_mul, name_inv}
use Rattle.lines.specs.Reading.{Meaning, unreadable}
use Rattle.lines.specs.Reading.{field_says, ext_says, poly_says, operation_says, with_one, with_two, fields_say, meaning_of}
use Rattle.lines.specs.Reading.{Says, OperationSaid}
use Rattle.lines.specs.Written.{short_line}

unread : {w : List ℤ} {m : Meaning} → m ≡ unreadable → Says None w m
unread e = record { carried = tt; means = sym e }

-- ---- poly
module _ {s : List ℕ} {from end : ℕ} (e : Ends s from end) where
  pub poly_alone : (w : List ℤ) → end ≡ length s → Says None w (poly_says (fields_at s from))
  poly_alone w h = unread (ap poly_says (e.last h) ∙ rw (words_nil []) refl)

-- ---- an operation
-- "with a and b in that order"
abbrev pub a_and_b : List ℕ
a_and_b = name_a ++ (tab ∷ name_b)

not_both : (t u : Bool) (m : Meaning) → (t ≡ true → u ≡ true → ⊥) → cond t (cond u m unreadable) unreadable ≡ unreadable
not_both false u m h = refl
not_both true false m h = refl
not_both true true m h = absurd (h refl refl)

false_true : {t : Bool} → t ≡ false → t ≡ true → ⊥
false_true e q = let z : ◌≡◌ {A = ℕ} 0 1 = cc in omega arith

neither : (name s : List ℕ) (fs : List (List ℕ)) → fields_of s ≡ fs → same_text s name_a ≡ false → same_text s a_and_b ≡ false
    → operation_says name fs ≡ unreadable
neither name s [] e p q = refl
neither name s (f ∷ []) e p q = rw (ap (λ (t : List ℕ). same_text t name_a) (sym (one_field s f e)) ∙ p)
neither name s (f ∷ (g ∷ [])) e p q =
    not_both (same_text f name_a) (same_text g name_b) (with_two name)
    (λ t u. false_true q (rw (two_fields s f g e, same_true f name_a t, same_true g name_b u)))
neither name s (f ∷ (g ∷ (h ∷ fs))) e p q = refl

module _ (name s : List ℕ) where
  says-one : same_text s name_a ≡ true → operation_says name (fields_of s) ≡ with_one name
  unfolding fields_of
  says-one p = ap (λ (t : List ℕ). operation_says name (fields_of t)) (same_true s name_a p)

  says_two : same_text s a_and_b ≡ true → operation_says name (fields_of s) ≡ with_two name
  unfolding fields_of
  says_two p = ap (λ (t : List ℕ). operation_says name (fields_of t)) (same_true s a_and_b p)

  pub neither_said : same_text s name_a ≡ false → same_text s a_and_b ≡ false → OperationSaid None name (fields_of s)
  neither_said p q = record { says = λ w. unread (neither name s (fields_of s) refl p q) }

  module _ (one : same_text s name_a ≡ true) where
    pub inv-said : same_text name name_inv ≡ true → OperationSaid (Some Inv) name (fields_of s)
    inv-said p = record { says = λ w. record { carried = tt; means = sym (says-one one ∙ rw p) } }

    pub one_unsaid : same_text name name_inv ≡ false → OperationSaid None name (fields_of s)
    one_unsaid p = record { says = λ w. unread (says-one one ∙ rw p) }

  module _ (two : same_text s a_and_b ≡ true) where
    pub gcd-said : same_text name name_gcd ≡ true → OperationSaid (Some Gcd) name (fields_of s)
    gcd-said p = record { says = λ w. record { carried = tt; means = sym (says_two two ∙ rw p) } }

    module _ (no-gcd : same_text name name_gcd ≡ false) where
      pub div-said : same_text name name_div ≡ true → OperationSaid (Some Div) name (fields_of s)
      div-said p = record { says = λ w. record { carried = tt; means = sym (says_two two ∙ rw (no-gcd, p)) } }

      module _ (no-div : same_text name name_div ≡ false) where
        pub mul-said : same_text name name_mul ≡ true → OperationSaid (Some Mul) name (fields_of s)
        mul-said p = record { says = λ w. record { carried = tt; means = sym (says_two two ∙ rw (no-gcd, no-div, p)) } }

        pub two_unsaid : same_text name name_mul ≡ false → OperationSaid None name (fields_of s)
        two_unsaid p = record { says = λ w. unread (says_two two ∙ rw (no-gcd, no-div, p)) }

-- ---- a line
pub too_long : (s : List ℕ) (w : List ℤ) → most_bytes < length s → Says None w (meaning_of s)
unfolding meaning_of
too_long s w h = unread (rw (lt-leb (length s) most_bytes h))

all_same : (t u v : Bool) (m : Meaning) → cond t m (cond u m (cond v m m)) ≡ m
all_same true u v m = refl
all_same false true v m = refl
all_same false false true m = refl
all_same false false false m = refl

alone : (name : List ℕ) → fields_say (name ∷ []) ≡ unreadable
unfolding words_from
alone name = all_same (same_text name name_field) (same_text name name_ext) (same_text name name_poly) unreadable

module _ {s : List ℕ} {end : ℕ} (e : Ends s 0 end) (few : length s ≤ most_bytes) where
  pub name_alone : (w : List ℤ) → end ≡ length s → Says None w (meaning_of s)
  name_alone w h = unread (short_line s few ∙ ap fields_say (e.last h) ∙ alone s)

  module _ (inside : end < length s) where
    begun : meaning_of s ≡ fields_say (take end s ∷ fields_at s (end + 1))
    begun = let whole : end - 0 ≡ end = omega arith in short_line s few ∙ ap fields_say (e.more inside) ∙ rw (whole, add-one end)

    module _ {line : Option Line} {w : List ℤ} where
      pub after_field : same_text (take end s) name_field ≡ true → Says line w (field_says (words_of (fields_at s (end + 1)))) → Says line w (meaning_of s)
      after_field p said = record { carried = said.carried; means = said.means ∙ sym (begun ∙ rw p) }

      module _ (no_field : same_text (take end s) name_field ≡ false) where
        pub after_ext : same_text (take end s) name_ext ≡ true → Says line w (ext_says (words_of (fields_at s (end + 1)))) → Says line w (meaning_of s)
        after_ext p said = record { carried = said.carried; means = said.means ∙ sym (begun ∙ rw (no_field, p)) }

        module _ (no-ext : same_text (take end s) name_ext ≡ false) where
          pub after-poly : same_text (take end s) name_poly ≡ true → Says line w (poly_says (fields_at s (end + 1))) → Says line w (meaning_of s)
          after-poly p said = record { carried = said.carried; means = said.means ∙ sym (begun ∙ rw (no_field, no-ext, p)) }

          pub after_operation : same_text (take end s) name_poly ≡ false
              → OperationSaid line (take end s) (fields_of (part s (end + 1) (length s))) → Says line w (meaning_of s)
          after_operation p said =
              record {
                carried = (said.says w).carried;
                means = (said.says w).means ∙ sym (begun ∙ rw (no_field, no-ext, p, part_end s (end + 1)));
              }

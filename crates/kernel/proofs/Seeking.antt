-- Laws of the numbers of a GCD.
--
-- gcd-first .. gcd_end == the number, test by test, with the values that the calls gave;  gcd_counts == the degree words that are read count few
-- gcd-number-is        == the tests behind those of the tower;  needed-found, needed-ready == the work words, and that they can be counted
use Rattle.kernel.proofs.Order.{then_first, then_next}
use Rattle.kernel.proofs.Shapes.{size-found, length-found}
use Rattle.kernel.specs.Answers.{number_of}
use Rattle.kernel.proofs.Slotting.{three-allowed, count_low}
use Rattle.kernel.proofs.Viewing.{and_split, forms-found}
use Rattle.kernel.specs.Calls.{size_of, coefficients_of, length_ok, form_ok, tower_number}
use Rattle.kernel.specs.Gcds.{gcd_room, gcd_needed, gcd_number}
use Rattle.kernel.specs.Inverses.{element_length}
use Rattle.kernel.specs.Meaning.{tower_behind, tower-says}
use Rattle.kernel.specs.Refusals.{unless, and_then}
use Rattle.kernel.specs.Parts.{NeededReady}
use Rattle.kernel.specs.Shape.{Known, ShapeOf}
use Rattle.kernel.specs.Slots.{degree_count}
use Rattle.kernel.specs.declared.refusals.Refusal.{Refusal}
use Rattle.kernel.specs.declared.shape.Shape.{Shape}
use Rattle.residue.specs.Word.{num}
use Rattle.tower.proofs.Working.{gcd-is}
use Rattle.tower.specs.Form.{slot_form}
use Rattle.tower.specs.Limits.{degrees_of, slot_length, slot_count}
use Rattle.tower.specs.Lists.{of_true}
use Rattle.tower.specs.Work.{inverse_work}
use borrow.Author.Tests.{eq-eqb, ne_eqb, le-leb, lt-leb}
use mathlib.Core.Path.{◌≡◌, refl, sym, ap, ap₂, ◌∙◌}
use mathlib.Core.Bool.{Bool, true, false, ◌&&◌}
use mathlib.Core.List.{List, [], ◌∷◌}
use Prim.Native.Nat.{ℕ, ◌+◌, ◌*◌, ◌<◌, ◌≤◌}
use lib.IntN.{ℤ}
use lib.Dec.{eqb, leb}
use lib.ListN.{length}

-- ---- the numbers
last_apart : (x y z w : Bool) → (x && (y && (z && w))) ≡ ((x && (y && z)) && w)
last_apart true true z w = refl
last_apart true false z w = refl
last_apart false y z w = refl

-- the work words, with the values that the calls gave
pub needed-found : {n : ℤ} {e : List ℤ} {s : Shape} (is : ShapeOf n e s) (a b : List ℤ)
    → (w : ℕ) → w ≡ degree_count a * s.size + 1 + (degree_count b * s.size + 1) + 2 * s.size + inverse_work s.degrees s.levels → w ≡ gcd_needed n e a b
needed-found {n = n} {e = e} {s = s} is a b w ew =
    gcd-is (degrees_of e) (num n) (degree_count a) (degree_count b) s.size (inverse_work s.degrees s.levels) w
    (size-found is) (ap₂ inverse_work is.degrees is.levels) ew

-- they can be counted
pub needed-ready : (s : Shape) → Known s → (a b : List ℤ) → (0 < length a) × (0 < length b) → (degree_count a ≤ 256) × (degree_count b ≤ 256)
    → NeededReady s.levels s.degrees s.size a b
needed-ready s k a b some few = record {
  degrees = record { low = k.low; small = k.small; some = k.some };
  few = k.few;
  some_a = some.0;
  some_b = some.1;
  few_a = few.0;
  few_b = few.1;
}

module _ (p n : ℤ) (e t a b g f v : List ℤ) where
  abbrev lengths : Bool
  lengths = length_ok n e a && (length_ok n e b && (length_ok n e g && element_length n e f))

  abbrev forms : Bool
  forms = form_ok p n e a && form_ok p n e b

  abbrev room : Bool
  room = leb (gcd_room (degree_count a) (degree_count b)) (coefficients_of n e g)

  abbrev store : Bool
  store = leb (gcd_needed n e a b) (length v)

  abbrev rest : Bool → Bool → Bool → Bool → ℕ
  rest x y z w = unless x 4 (unless y 5 (unless z 6 (unless w 7 0)))

  -- the tests behind those of the tower
  pub gcd-number-is : gcd_number p n e t a b g f v ≡ and_then (tower_number p n e t) (rest lengths forms room store)
  unfolding gcd_number
  gcd-number-is = tower_behind p n e t ((4, λ _. lengths) ∷ (5, λ _. forms) ∷ (6, λ _. room) ∷ (7, λ _. store) ∷ [])

  -- test by test, with the values that the calls gave
  pub gcd-first : (r : Refusal) → tower_number p n e t ≡ number_of r → gcd_number p n e t a b g f v ≡ number_of r
  gcd-first r h = gcd-number-is ∙ then_first _ _ r h

  module _ (h : tower_number p n e t ≡ 0) where
    gcd-rest : (x y z w : Bool) → lengths ≡ x → forms ≡ y → room ≡ z → store ≡ w → gcd_number p n e t a b g f v ≡ rest x y z w
    gcd-rest x y z w i j k l = gcd-number-is ∙ then_next _ _ _ h (λ u. rest (i u) (j u) (k u) (l u))

    module _ (s : Shape) (is : ShapeOf n e s) where
      slots_told : (x : Bool) → x ≡ (slot_length s.size (length a) && (slot_length s.size (length b) && slot_length s.size (length g)))
          → (length_ok n e a && (length_ok n e b && length_ok n e g)) ≡ x
      slots_told x ex = (λ i. length-found is a _ refl i && (length-found is b _ refl i && length-found is g _ refl i)) ∙ sym ex

      lengths_told : (x : Bool) → x ≡ (slot_length s.size (length a) && (slot_length s.size (length b) && slot_length s.size (length g)))
          → lengths ≡ (x && eqb (length f) s.size)
      lengths_told x ex =
          last_apart (length_ok n e a) (length_ok n e b) (length_ok n e g) (element_length n e f)
          ∙ ap₂ (λ y m. y && eqb (length f) m) (slots_told x ex) (sym (size-found is))

      pub gcd_short : false ≡ (slot_length s.size (length a) && (slot_length s.size (length b) && slot_length s.size (length g))) → gcd_number p n e t a b g f v ≡ 4
      gcd_short q = gcd-rest false _ _ _ (lengths_told false q) refl refl refl

      module _ (fx : true ≡ (slot_length s.size (length a) && (slot_length s.size (length b) && slot_length s.size (length g)))) where
        buffer_told : (y : Bool) → eqb (length f) s.size ≡ y → lengths ≡ y
        buffer_told y q = lengths_told true fx ∙ q

        pub gcd_odd : (length f ≡ s.size → ⊥) → gcd_number p n e t a b g f v ≡ 4
        gcd_odd q = gcd-rest false _ _ _ (buffer_told false (ne_eqb (length f) s.size q)) refl refl refl

        module _ (ef : length f ≡ s.size) (q : ℕ) (eq : q ≡ num p) where
          lengths_fine : lengths ≡ true
          lengths_fine = buffer_told true (eq-eqb (length f) s.size ef)

          pub gcd_bad : false ≡ (slot_form q s.degrees s.levels (slot_count s.size (length a)) a && slot_form q s.degrees s.levels (slot_count s.size (length b)) b)
              → gcd_number p n e t a b g f v ≡ 5
          gcd_bad k = gcd-rest true false _ _ lengths_fine (forms-found is p q eq a b false k) refl refl

          module _ (fy : true ≡ (slot_form q s.degrees s.levels (slot_count s.size (length a)) a && slot_form q s.degrees s.levels (slot_count s.size (length b)) b)) where
            forms_told : forms ≡ true
            forms_told = forms-found is p q eq a b true fy

            pub gcd_counts : (degree_count a ≤ 256) × (degree_count b ≤ 256)
            gcd_counts =
                let m = (tower-says p n e t 0 h).range.modulus in
                let l = three-allowed (size_of n e) (length a) (length b) (length g) (sym (slots_told true fx)) in
                let o = and_split (form_ok p n e a) (form_ok p n e b) forms_told in
                (count_low p n e a m (of_true _ l.0) (of_true _ o.0), count_low p n e b m (of_true _ l.1) (of_true _ o.1))

            module _ (j k : ℕ) (ej : j ≡ degree_count a) (ek : k ≡ degree_count b) (m : ℕ) (em : m ≡ slot_count s.size (length g)) (o : ℕ) (eo : o ≡ gcd_room j k) where
              room_told : room ≡ leb o m
              room_told = sym (ap₂ leb (eo ∙ ap₂ gcd_room ej ek) (em ∙ ap (λ u. slot_count u (length g)) (size-found is)))

              pub gcd_small : m < o → gcd_number p n e t a b g f v ≡ 6
              gcd_small l = gcd-rest true true false _ lengths_fine forms_told (room_told ∙ lt-leb o m l) refl

              module _ (l : o ≤ m) (w : ℕ)
                  (ew : w ≡ degree_count a * s.size + 1 + (degree_count b * s.size + 1) + 2 * s.size + inverse_work s.degrees s.levels) where
                gcd-last : (z : Bool) → leb w (length v) ≡ z → gcd_number p n e t a b g f v ≡ unless z 7 0
                gcd-last z q =
                    gcd-rest true true true z lengths_fine forms_told (room_told ∙ le-leb o m l)
                    (ap (λ u. leb u (length v)) (sym (needed-found is a b w ew)) ∙ q)

                pub gcd_few : length v < w → gcd_number p n e t a b g f v ≡ 7
                gcd_few q = gcd-last false (lt-leb w (length v) q)

                pub gcd_end : w ≤ length v → gcd_number p n e t a b g f v ≡ 0
                gcd_end q = gcd-last true (le-leb w (length v) q)

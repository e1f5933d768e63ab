-- What the kernel's calls leave may be printed.
--
-- Left, ElementLeft   == x' is a slot, or an element, that was written over x, over a tower in range;  slot_few == the words of the shortest slot
-- mul-ready, div-ready, gcd-ready, inv-ready == the answer of each call may be printed: after Done what was written, and with a factor its words
use Prim.Native.Nat.{ℕ, zero, suc, ◌+◌, ◌*◌, ◌≤◌, max}
use native.Mathlib.Nat.{mul-le-mul_right}
use native.Mathlib.Omega.{arith}
use mathlib.Core.List.{List, []}
use mathlib.Core.Path.{◌≡◌, sym, ap, ◌∙◌, subst}
use lib.IntN.{ℤ}
use lib.ListN.{length}
use Rattle.residue.specs.Word.{num}
use Rattle.tower.specs.Limits.{degrees_of, slot_count, p_positive}
use Rattle.tower.specs.Writing.{size, size-pos, degree_count, write_long}
use Rattle.euclid.specs.Shown.{shown_fits}
use Rattle.euclid.specs.Towers.{Shown, shown_level}
use Rattle.sequences.proofs.AnswerLaws.{level-low}
use Rattle.kernel.proofs.Shapes.{shape_small, shape-low}
use Rattle.kernel.specs.Answers.{said}
use Rattle.kernel.specs.Calls.{size_of, shape_table, shape_number}
use Rattle.kernel.specs.DivisionAnswers.{division-says}
use Rattle.kernel.specs.DivisionMeaning.{division-tower, quotient_written, remainder_written}
use Rattle.kernel.specs.Divisions.{division_number}
use Rattle.kernel.specs.GcdMeaning.{gcd-passed, gcd_done, gcd_factor, gcd-left as gcd-leaves, gcd_shown}
use Rattle.kernel.specs.Gcds.{gcd_number, gcd_words}
use Rattle.kernel.specs.InverseAnswers.{ElementLong}
use Rattle.kernel.specs.InverseMeaning.{inverse-held, inverse_done, inverse_factor, inverse_left as inverse-leaves, inverse_shown}
use Rattle.kernel.specs.Inverses.{inverse_number, inverse_words}
use Rattle.kernel.specs.Meaning.{DegreesIn, InRange, shape_tests, ones}
use Rattle.kernel.specs.ProductAnswers.{product-says}
use Rattle.kernel.specs.ProductMeaning.{product-tower, product_written}
use Rattle.kernel.specs.Products.{product_number}
use Rattle.kernel.specs.Promises.{ProductGiven, DivisionGiven, InverseGiven, GcdGiven}
use Rattle.kernel.specs.Refusals.{refused, first_of}
use Rattle.kernel.specs.SequenceLaws.{done_factor, done_refused, factor_refused, answered-passed}
use Rattle.kernel.specs.SlotAnswers.{SlotLong}
use Rattle.kernel.specs.SlotLaws.{Written, held_few, changed_zero}
use Rattle.kernel.specs.SlotMeaning.{room-count}
use Rattle.kernel.specs.Slots.{changed_by}
use Rattle.kernel.specs.declared.Answer.{Answer}
use Rattle.kernel.specs.declared.Answer.TheVariants.{Done, Factor}
use Rattle.text.specs.Fields.{most_words}
use Rattle.lines.specs.Answers.{SlotReady, SlotEnds, QuotientReady, ElementReady, AnswerReady, LineReady}
use Rattle.lines.specs.Printing.{shortest}
use Rattle.lines.specs.Steps.{answer_words, most_element}

-- N and the degrees in range get no number
shape-none : (n : ℤ) (e : List ℤ) → DegreesIn n e → 0 ≡ shape_number n e
unfolding shape_number
shape-none n e r = sym (first_of (shape_table n e) (shape_tests n e r))

-- ---- slots
-- the slot x' was written over x, over a tower in range
pub record Left (p n : ℤ) (e x x' : List ℤ) : Type 0 where
  pub range : InRange p n e
  pub room : SlotLong n e x
  pub written : Written p n e x x'

module _ {p n : ℤ} {e x x' : List ℤ} (s : Left p n e x x') where
  -- its coefficients up to the degree are there
  slot_inside : shortest (degrees_of e) (num n) x' ≤ length x
  slot_inside =
      let k = max 1 (degree_count x') in
      let few = held_few p n e s.range.modulus x' s.written.1 in
      let same = ap (slot_count (size_of n e)) s.written.0 ∙ room-count (size_of n e) (length x) (size-pos (degrees_of e) (num n)) s.room in
      let most : k ≤ s.room.count = omega (arith, few, same, s.room.some) in
      omega (arith, mul-le-mul_right (size_of n e) most, s.room.long)

  module _ {i : ℕ} (level : i ≡ num n) where
    pub slot_few : shortest (degrees_of e) i x' ≤ length x
    slot_few = rw level slot_inside

    slot-ready : {held : ℕ} {out : List ℕ} → held + 21 * length x ≤ length out → SlotReady held i e x' out
    slot-ready l =
        let shape = shape-none n e s.range.shape in
        record {
          low = omega (arith, level, shape-low n e shape);
          small = shape_small n e shape;
          some = omega (arith, s.room.long, s.written.0);
          inside = omega (arith, slot_few, s.written.0);
          room = omega (arith, slot_few);
        }

    slot_ends : (held : ℕ) {out : List ℕ} → held + 1 + 22 * length x ≤ length out → SlotEnds held i e x' out
    slot_ends held l = slot-ready (omega (arith, slot_few))

-- ---- a shown factor, in a buffer of S_N words
module _ (p n : ℤ) (e : List ℤ) (r : InRange p n e) (x : Shown (num p) (degrees_of e) (num n)) where
  factor_ready : (l : ℕ) → shown_level (num p) (degrees_of e) (num n) x ≡ l → (f f' : List ℤ) → ElementLong n e f → length f' ≡ length f
      → (held : ℕ) (out : List ℕ) → held + 22 * length f ≤ length out → ElementReady held l e f' out
  factor_ready l level f f' long same held out room =
      let shape = shape-none n e r.shape in
      let fits = shown_fits (num p) (p_positive p r.modulus) (degrees_of e) (num n) (ones p n e r) x in
      let size_is = ap (size (degrees_of e)) level in
      record {
        low = omega (arith, level-low (num p) (degrees_of e) (num n) x, level, shape-low n e shape);
        small = shape_small n e shape;
        inside = omega (arith, fits, size_is, long, same);
        room = omega (arith, fits, size_is, long, room);
      }

-- ---- elements
-- the element x' was written over x, over a tower in range
pub record ElementLeft (n : ℤ) (e x x' : List ℤ) : Type 0 where
  pub range : DegreesIn n e
  pub before : length x ≡ size_of n e
  pub after : length x' ≡ size_of n e

element-ready : {n : ℤ} {e x x' : List ℤ} → ElementLeft n e x x' → {i : ℕ} → i ≡ num n → {held : ℕ} {out : List ℕ} → held + 22 * length x ≤ length out
    → ElementReady held i e x' out
element-ready {n} {e} s level l =
    let shape = shape-none n e s.range in
    let same = ap (size (degrees_of e)) level in
    record {
      low = omega (arith, level, shape-low n e shape);
      small = shape_small n e shape;
      inside = omega (arith, same, s.after);
      room = omega (arith, same, s.before);
    }

-- a call that only gives or refuses shows no factor
never_factor : {A : Type 0} (number : ℕ) (new old : A) {r : Answer} {l : ℕ} → said r ≡ (changed_by number new old).said → r ≡ Factor l → ⊥
never_factor zero new old {r} {l} is q = done_factor l (sym is ∙ ap said q)
never_factor (suc j) new old {r} {l} is q = factor_refused l (suc j) (ap said (sym q) ∙ is)

-- ---- product
module _ {p n : ℤ} {e t a b c v : List ℤ} {r : Answer} {c' v' : List ℤ} (G : ProductGiven p n e t a b c v r c' v') (q : r ≡ Done) where
  product-none : product_number p n e t a b c v ≡ 0
  product-none = changed_zero (product_number p n e t a b c v) _ _ (sym G.answer ∙ ap said q)

  product-left : Left p n e c c'
  product-left = record {
    range = (product-tower p n e t a b c v product-none).range;
    room = (product-says p n e t a b c v 0 product-none).slots.long.1.1;
    written = subst (Written p n e c) (sym G.words) (product_written p n e t a b c v product-none);
  }

module _ {p n : ℤ} {e t a b c v : List ℤ} {r : Answer} {c' v' : List ℤ} (G : ProductGiven p n e t a b c v r c' v') {i : ℕ} (level : i ≡ num n) where
  pub mul-ready : {out : List ℕ} → LineReady answer_words c out → AnswerReady r (SlotEnds 6 i e c' out) e [] out
  mul-ready l = record {
    given = λ q. slot_ends (product-left G q) level 6 (omega (arith, l.few, l.room));
    shown = λ j q. absurd (never_factor (product_number p n e t a b c v) _ _ G.answer q);
    room = omega (arith, l.room);
  }

-- ---- division
module _ {p n : ℤ} {e t a b c v : List ℤ} {r : Answer} {a' c' v' : List ℤ} (G : DivisionGiven p n e t a b c v r a' c' v') (q : r ≡ Done) where
  division-none : division_number p n e t a b c v ≡ 0
  division-none = changed_zero (division_number p n e t a b c v) _ _ (sym G.answer ∙ ap said q)

  quotient-left : Left p n e c c'
  quotient-left = record {
    range = (division-tower p n e t a b c v division-none).range;
    room = (division-says p n e t a b c v 0 division-none).slots.long.1.1;
    written = subst (Written p n e c) (sym G.quotient) (quotient_written p n e t a b c v division-none);
  }

  remainder-left : Left p n e a a'
  remainder-left = record {
    range = (division-tower p n e t a b c v division-none).range;
    room = (division-says p n e t a b c v 0 division-none).slots.long.0;
    written = subst (Written p n e a) (sym G.remainder) (remainder_written p n e t a b c v division-none);
  }

module _ {p n : ℤ} {e t a b c v : List ℤ} {r : Answer} {a' c' v' : List ℤ} (G : DivisionGiven p n e t a b c v r a' c' v') {i : ℕ} (level : i ≡ num n) where
  pub div-ready : {out : List ℕ} → LineReady answer_words c out → LineReady most_words a out → AnswerReady r (QuotientReady i e c' a' out) e [] out
  div-ready l m = record {
    given = λ q. record {
      quotient = slot-ready (quotient-left G q) level (omega (arith, l.few, l.room));
      remainder = slot_ends (remainder-left G q) level (10 + 22 * shortest (degrees_of e) i c') (omega (arith, slot_few (quotient-left G q) level, l.few, m.few, l.room));
    };
    shown = λ j q. absurd (never_factor (division_number p n e t a b c v) _ _ G.answer q);
    room = omega (arith, l.room);
  }

-- ---- GCD
module _ {p n : ℤ} {e t a b g f v : List ℤ} {r : Answer} {g' f' v' : List ℤ} (G : GcdGiven p n e t a b g f v r g' f' v') where
  gcd-none : ((j : ℕ) → ¬ (said r ≡ refused j)) → gcd_number p n e t a b g f v ≡ 0
  gcd-none none =
      answered-passed (gcd_words p n e t a b g f v) (record { gcd = g; factor = f; work = v }) (gcd_number p n e t a b g f v) (λ j x. none j (G.answer ∙ x))

  gcd-left : r ≡ Done → Left p n e g g'
  gcd-left q =
      let z = gcd-none (λ j x. done_refused j (ap said (sym q) ∙ x)) in
      let m = (gcd_done p n e t a b g f v z).0 (sym G.answer ∙ ap said q) in
      let passed = gcd-passed p n e t a b g f v z in
      record {
        range = passed.slots.tower.range;
        room = passed.slots.long.1.1.0;
        written = subst (Written p n e g) (sym G.words) (gcd-leaves p n e t a b g f v z m.0 m.1).written;
      }

  gcd_shows : {l : ℕ} → r ≡ Factor l → {held : ℕ} {out : List ℕ} → held + 22 * length f ≤ length out → ElementReady held l e f' out
  gcd_shows {l} q {held} {out} room =
      let z = gcd-none (λ j x. factor_refused l j (ap said (sym q) ∙ x)) in
      let m = (gcd_factor p n e t a b g f v z l).0 (sym G.answer ∙ ap said q) in
      let passed = gcd-passed p n e t a b g f v z in
      let long = ap length G.factor ∙ (gcd_shown p n e t a b g f v z m.0 m.1).lies.long in
      factor_ready p n e passed.slots.tower.range m.0 l m.2 f f' passed.slots.long.1.1.1 long held out room

  pub gcd-ready : {i : ℕ} → i ≡ num n → {out : List ℕ} → LineReady answer_words g out → LineReady most_element f out
      → AnswerReady r (SlotEnds 6 i e g' out) e f' out
  gcd-ready level l m = record {
    given = λ q. slot_ends (gcd-left q) level 6 (omega (arith, l.few, l.room));
    shown = λ j q. gcd_shows q (omega (arith, m.few, m.room));
    room = omega (arith, l.room);
  }

-- ---- inverse
module _ {p n : ℤ} {e t c u f v : List ℤ} {r : Answer} {u' f' v' : List ℤ} (G : InverseGiven p n e t c u f v r u' f' v') where
  inverse-none : ((j : ℕ) → ¬ (said r ≡ refused j)) → inverse_number p n e t c u f v ≡ 0
  inverse-none none =
      answered-passed (inverse_words p n e t c u f v) (record { inverse = u; factor = f; work = v }) (inverse_number p n e t c u f v) (λ j x. none j (G.answer ∙ x))

  inverse_left : r ≡ Done → ElementLeft n e u u'
  inverse_left q =
      let z = inverse-none (λ j x. done_refused j (ap said (sym q) ∙ x)) in
      let m = (inverse_done p n e t c u f v z).0 (sym G.answer ∙ ap said q) in
      let element = (inverse-held p n e t c u f v z).element in
      let words = (inverse-leaves p n e t c u f v z m.0 m.1).words in
      record {
        range = element.tower.range.shape;
        before = element.long.1.0;
        after = ap length (G.words ∙ words) ∙ write_long (num p) (degrees_of e) (num n) m.0;
      }

  inverse_shows : {l : ℕ} → r ≡ Factor l → {held : ℕ} {out : List ℕ} → held + 22 * length f ≤ length out → ElementReady held l e f' out
  inverse_shows {l} q {held} {out} room =
      let z = inverse-none (λ j x. factor_refused l j (ap said (sym q) ∙ x)) in
      let m = (inverse_factor p n e t c u f v z l).0 (sym G.answer ∙ ap said q) in
      let element = (inverse-held p n e t c u f v z).element in
      let long = ap length G.factor ∙ (inverse_shown p n e t c u f v z m.0 m.1).lies.long in
      factor_ready p n e element.tower.range m.0 l m.2 f f' element.long.1.1 long held out room

  pub inv-ready : {i : ℕ} → i ≡ num n → {out : List ℕ} → LineReady most_element u out → LineReady most_element f out
      → AnswerReady r (ElementReady 7 i e u' out) e f' out
  inv-ready level l m = record {
    given = λ q. element-ready (inverse_left q) level (omega (arith, l.few, l.room));
    shown = λ j q. inverse_shows q (omega (arith, m.few, m.room));
    room = omega (arith, l.room);
  }

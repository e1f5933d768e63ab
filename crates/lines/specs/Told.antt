-- What is printed of an answer is the shortest slot that holds it: after Done the slot that an operation has written is one in form.
--
-- Told         == all that is printed of a slot are words that hold what it holds, and no slot that does has fewer
-- written_told == so it is of a slot that was written over one of an allowed length
-- gcd_told, mul_told, quotient_told, remainder_told == so it is of the answers of `gcd`, `mul` and `div`
use Rattle.std.specs.Prelude.{ℕ, suc, ◌≡◌, List, ℤ, T, length, take}
use Rattle.std.proofs.Common.{sym, ◌∙◌, subst}
use Rattle.residue.specs.Word.{num}
use Rattle.tower.specs.Limits.{p_ok, degrees_of, slot_length}
use Rattle.kernel.specs.Calls.{size_of}
use Rattle.kernel.specs.DivisionAnswers.{division-says}
use Rattle.kernel.specs.DivisionMeaning.{division_modulus, quotient_written, remainder_written}
use Rattle.kernel.specs.Divisions.{division_number, division}
use Rattle.kernel.specs.GcdMeaning.{gcd-passed, gcd_modulus, gcd_done, gcd-left}
use Rattle.kernel.specs.Gcds.{gcd_number, gcd}
use Rattle.kernel.specs.ProductAnswers.{product-says}
use Rattle.kernel.specs.ProductMeaning.{product_modulus, product_written}
use Rattle.kernel.specs.Products.{product_number, product}
use Rattle.kernel.specs.Refusals.{done}
use Rattle.kernel.specs.SequenceLaws.{done_refused, answered-passed}
use Rattle.kernel.specs.SlotAnswers.{SlotLong}
use Rattle.kernel.specs.SlotLaws.{Written, changed_zero}
use Rattle.kernel.specs.SlotMeaning.{length_iff}
use Rattle.lines.specs.Printing.{form_text, shortest, slot_text}
use Rattle.lines.specs.Shortest.{SlotIn, Least, shortest-slot, shortest_inside, slot-printed}

pub record Told (p n : ℤ) (e x : List ℤ) : Type 0 where
  pub modulus : T (p_ok p)
  pub words : List ℤ
  pub least : Least p n e modulus x words
  pub text : slot_text (degrees_of e) (num n) x ≡ form_text (degrees_of e) (suc (num n)) words (length words)

-- a slot in form that is as long as x, whose length is allowed
pub written_told : (p n : ℤ) (e x y : List ℤ) → T (p_ok p) → SlotLong n e x → Written p n e x y → Told p n e y
written_told p n e x y h long written =
    let s : SlotIn p n e y = record {
      long = subst (λ (l : ℕ). T (slot_length (size_of n e) l)) (sym written.0) ((length_iff n e x).1 long);
      form = written.1;
    } in
    record {
      modulus = h;
      words = take (shortest (degrees_of e) (num n) y) y;
      least = shortest-slot p n e h y s;
      text = slot-printed (degrees_of e) (num n) y (shortest_inside p n e h y s);
    }

module _ (p n : ℤ) (e t a b : List ℤ) where
  -- `gcd`: g's slot afterwards
  pub gcd_told : (g f v : List ℤ) → (gcd p n e t a b g f v).said ≡ done → Told p n e (gcd p n e t a b g f v).words.gcd
  gcd_told g f v d =
      let z = answered-passed _ _ (gcd_number p n e t a b g f v) (λ j q. done_refused j (sym d ∙ q)) in
      let given = (gcd_done p n e t a b g f v z).0 d in
      written_told p n e g _ (gcd_modulus p n e t a b g f v z) (gcd-passed p n e t a b g f v z).slots.long.1.1.0
      (gcd-left p n e t a b g f v z given.0 given.1).written

  -- `mul`: c's slot afterwards
  pub mul_told : (c v : List ℤ) → (product p n e t a b c v).said ≡ done → Told p n e (product p n e t a b c v).words.product
  mul_told c v d =
      let z = changed_zero (product_number p n e t a b c v) _ _ d in
      written_told p n e c _ (product_modulus p n e t a b c v z) (product-says p n e t a b c v 0 z).slots.long.1.1
      (product_written p n e t a b c v z)

  -- `div`: q's slot afterwards, and a's
  module _ (q v : List ℤ) (d : (division p n e t a b q v).said ≡ done) where
    no_number : division_number p n e t a b q v ≡ 0
    no_number = changed_zero (division_number p n e t a b q v) _ _ d

    pub quotient_told : Told p n e (division p n e t a b q v).words.quotient
    quotient_told =
        written_told p n e q _ (division_modulus p n e t a b q v no_number) (division-says p n e t a b q v 0 no_number).slots.long.1.1
        (quotient_written p n e t a b q v no_number)

    pub remainder_told : Told p n e (division p n e t a b q v).words.remainder
    remainder_told =
        written_told p n e a _ (division_modulus p n e t a b q v no_number) (division-says p n e t a b q v 0 no_number).slots.long.0
        (remainder_written p n e t a b q v no_number)

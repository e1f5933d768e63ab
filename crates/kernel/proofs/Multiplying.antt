-- Laws of product.
--
-- product_refused, product_done == what the call gives with a number, and with none
-- product_tested, product-some == what is known where no number is given
-- multiply-ready == the core may multiply;  multiply-whole == what it leaves in c is the whole of the product's slot
use Rattle.kernel.proofs.Shapes.{size-found}
use Rattle.kernel.proofs.Slotting.{slots_passed, slots_plain, shape_sized, shape-low, shape-work}
use Rattle.kernel.proofs.Slotting.{tower_holds, a_holds, b_holds, a_long, c_long, count-words, put_whole}
use Rattle.kernel.proofs.Summing.{refused_by, done_by}
use Rattle.kernel.specs.Calls.{size_of, coefficients_of}
use Rattle.kernel.specs.Products.{ProductWords, product_number, product_of, product_words}
use Rattle.kernel.specs.Promises.{ProductGiven}
use Rattle.kernel.specs.Shape.{ShapeOf}
use Rattle.kernel.specs.SlotLaws.{Tested}
use Rattle.kernel.specs.Slots.{product_room, degree_count, polynomial_of, slots_number, filled, cleared}
use Rattle.kernel.specs.Answers.{number_of}
use Rattle.kernel.specs.declared.Answer.{Answer}
use Rattle.kernel.specs.declared.Answer.TheVariants.{Done, Refused}
use Rattle.kernel.specs.declared.refusals.Refusal.{Refusal}
use Rattle.kernel.specs.declared.shape.Shape.{Shape}
use Rattle.algebra.specs.Test.{branch_yes}
use Rattle.polynomials.specs.Slots.{product_count, MultiplyReady, Multiplied}
use Rattle.products.specs.Product.{work}
use Rattle.residue.specs.Word.{num}
use Rattle.tower.specs.Limits.{p_ok, p_positive, degrees_of, slot_count}
use Rattle.tower.specs.Ready.{Sized}
use Rattle.tower.specs.Work.{product_work}
use Rattle.tower.specs.Writing.{size, tower_of, slot_long}
use mir.Syntax.{w64}
use mir.Val.{SFits, to_z, of_z}
use mir.ValLaws.{to_z-of_z}
use mathlib.Core.Path.{◌≡◌, refl, sym, ap, ◌∙◌, subst, subst₃, subst₂}
use mathlib.Core.Bool.{false}
use mathlib.Core.List.{List, []}
use Prim.Native.Nat.{ℕ, zero, suc, ◌+◌, ◌*◌, ◌^◌, ◌<◌, ◌≤◌}
use native.Mathlib.Omega.{arith}
use lib.IntN.{ℤ}
use lib.ListN.{length}

-- a product has no more coefficients than its answer needs
count_fits : (k l m : ℕ) → product_room k l ≤ m → product_count k l ≤ m
count_fits zero l m h = omega arith
count_fits (suc k) zero m h = omega arith
count_fits (suc k) (suc l) m h = omega arith

module _ (p n : ℤ) (e t a b c v : List ℤ) where
  -- the number of a product is that of the tests that it shares with a division
  number_is : product_number p n e t a b c v ≡ slots_number false p n e t a b c v
  unfolding slots_number product_number
  number_is = refl

  -- the words after Done, and as they were found
  abbrev after : ProductWords
  after = record { product = product_words p n e t a b c; work = cleared (product_work (degrees_of e) (num n)) v }

  abbrev found : ProductWords
  found = record { product = c; work = v }

  pub product_refused : (r : Refusal) → slots_number false p n e t a b c v ≡ number_of r → ProductGiven p n e t a b c v (Refused (number_of r)) c v
  product_refused r h =
      let q = refused_by (product_number p n e t a b c v) r after found (number_is ∙ h) in
      record { answer = q.0; words = ap (λ w. w.product) q.1; work = ap (λ w. w.work) q.1 }

  module _ (h : slots_number false p n e t a b c v ≡ 0) where
    pub product_done : (c' v' : List ℤ) → c' ≡ product_words p n e t a b c → v' ≡ cleared (product_work (degrees_of e) (num n)) v → ProductGiven p n e t a b c v Done c' v'
    product_done c' v' ec ev =
        let q = done_by (product_number p n e t a b c v) after found (number_is ∙ h) in
        record { answer = q.0; words = ec ∙ ap (λ w. w.product) q.1; work = ev ∙ ap (λ w. w.work) q.1 }

    pub product_tested : Tested p n e t a b c v (product_room (degree_count a) (degree_count b)) []
    product_tested = slots_passed false p n e t a b c v h

    pub product-some : 0 < length c
    product-some = omega (arith, c_long p n e t a b c v _ [] product_tested)

    -- the first operand has few words
    a_few : degree_count a * size_of n e ≤ 2 ^ 31
    a_few = let g = product_tested in count-words p n e a g.tower.range.modulus g.long_a g.form_a g.tower.range.shape.few

    -- what the core asks for, and what it leaves
    ready-plain : (z : List ℕ) (w : List ℤ) → Sized (degrees_of e) z → num n ≤ 4 → size (degrees_of e) (num n) + work (degrees_of e) (num n) ≤ length w
        → MultiplyReady (num n) (coefficients_of n e c) (degrees_of e) z (num p) t a b c w
    ready-plain z w sized low room =
        let g = product_tested in record {
          slots = slots_plain p n e t a b c v _ [] g z w sized low room;
          ka = coefficients_of n e a;
          u = polynomial_of p n e g.tower.range.modulus (coefficients_of n e a) a;
          a_stands = a_holds p n e t a b c v _ [] g;
          a_inside = omega (arith, a_long p n e t a b c v _ [] g);
          few = a_few;
          fits = count_fits (degree_count a) (degree_count b) (coefficients_of n e c) g.room;
          c_inside = omega (arith, c_long p n e t a b c v _ [] g);
        }

    whole_plain : (c' w w' : List ℤ) → Multiplied (num n) (coefficients_of n e c) (degrees_of e) (num p) t a b c c' w w' → c' ≡ product_words p n e t a b c
    unfolding product_words
    whole_plain c' w w' m =
        let g = product_tested in
        let k = coefficients_of n e c in
        put_whole (filled p n e c (product_of p n e t a b g.tower.range.modulus)) c c'
        (sym (c_long p n e t a b c v _ [] g) ∙ sym (slot_long (num p) (degrees_of e) (num n) k _))
        (m.done (p_positive p g.tower.range.modulus) (tower_of (num p) (p_positive p g.tower.range.modulus) (degrees_of e) (num n) t) _ _ _ _
        (tower_holds p n e t a b c v _ [] g) (a_holds p n e t a b c v _ [] g) (b_holds p n e t a b c v _ [] g))
        ∙ sym (branch_yes (p_ok p) (λ h. filled p n e c (product_of p n e t a b h)) (λ _. c) g.tower.range.modulus)

    -- with the values that the calls gave, at the level i
    module _ (s : Shape) (is : ShapeOf n e s) (q : ℕ) (eq : q ≡ num p) (k : ℕ) (ek : k ≡ slot_count s.size (length c)) (i : ℕ) (ei : i ≡ num n) where
      count-is : k ≡ coefficients_of n e c
      count-is = ek ∙ ap (λ m. slot_count m (length c)) (size-found is)

      pub multiply-ready : (w : List ℤ) → size s.degrees i + work s.degrees i ≤ length w → MultiplyReady i k s.degrees s.sizes q t a b c w
      multiply-ready w room =
          let g = product_tested in
          subst (λ m. MultiplyReady i m s.degrees s.sizes q t a b c w) (sym count-is)
          (subst₃ (λ j x y. MultiplyReady j (coefficients_of n e c) x s.sizes y t a b c w) (sym ei) (sym is.degrees) (sym eq)
          (ready-plain s.sizes w (shape_sized p n e t a b c v _ [] g s is) (shape-low p n e t a b c v _ [] g s is) (shape-work p n e t a b c v _ [] g s is i ei w room)))

      pub multiply-whole : (c' w w' : List ℤ) → Multiplied i k s.degrees q t a b c c' w w' → c' ≡ product_words p n e t a b c
      multiply-whole c' w w' m =
          whole_plain c' w w'
          (subst₃ (λ j x y. Multiplied j (coefficients_of n e c) x y t a b c c' w w') ei is.degrees eq
          (subst (λ l. Multiplied i l s.degrees q t a b c c' w w') count-is m))

pub product-plain : {p n : ℤ} (e t a b c v : List ℤ) (r : Answer) (c' v' : List ℤ) → SFits w64 p → SFits w64 n
    → ProductGiven (to_z w64 (of_z w64 p)) (to_z w64 (of_z w64 n)) e t a b c v r c' v' → ProductGiven p n e t a b c v r c' v'
product-plain {p} {n} e t a b c v r c' v' fp fn h = subst₂ (λ x y. ProductGiven x y e t a b c v r c' v') (to_z-of_z w64 p fp) (to_z-of_z w64 n fn) h

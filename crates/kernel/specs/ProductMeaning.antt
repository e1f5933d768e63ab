-- What a product leaves where no number is given: the whole of the product in c's slot, and a work store that is cleared as far as it was needed.
--
-- product_blind        == "Contents of answer slots .. and work store are not tested.";  product_numbers == no number above 7 is given
-- product-tower        == where no number is given t is the words of exactly one tower, and p is in range;  product-ring == its topmost ring is computed in
-- product-words        == c's slot afterwards is filled with the product;  product_written == the whole of it, in form
-- product-coefficients == the coefficient that it holds at every place is that of a times b
-- product-work         == the work store afterwards
-- ProductSame          == what two runs share whose c and work stores have the same lengths;  product-two_runs == that they do
use Rattle.std.specs.Prelude.{ℕ, zero, suc, ◌≤◌, ◌<◌, ◌≡◌, ℤ, pos, T, length, get_or}
use Rattle.std.proofs.Common.{arith, sym, ap, ◌∙◌}
use mathlib.Core.List.{List, []}
use Rattle.algebra.specs.Poly.{below_all, *_below}
use Rattle.algebra.specs.Ring.{CRing}
use Rattle.algebra.specs.Series.{Series, ◌*ˢ◌, *ˢ_comm, 0ˢ-*}
use Rattle.algebra.specs.Test.{branch_yes}
use Rattle.algebra.specs.Vec.{Below, below_mono}
use Rattle.residue.specs.Word.{num}
use Rattle.tower.specs.Levels.{ring}
use Rattle.tower.specs.Limits.{p_ok, p_positive, degrees_of}
use Rattle.tower.specs.Work.{product_work}
use Rattle.kernel.specs.Calls.{coefficients_of}
use Rattle.kernel.specs.Meaning.{TowerHeld}
use Rattle.kernel.specs.Refusals.{done, refusal, passed_of, ordered_numbered, first-up_to}
use Rattle.kernel.specs.SlotLaws.{Tested, tested, ring-held, Written, held_below, slot_written, filled_holds, Cleared, cleared-words, changed_said}
use Rattle.kernel.specs.SlotLaws.{changed_zero, changed_same, filled-same}
use Rattle.kernel.specs.Slots.{product_room, degree_count, coefficients_in, filled, top_ring, Changed}
use Rattle.kernel.specs.Products.{product_table, product_number, product_of, product_words, ProductWords, product}

-- a product fits the room: also that of a zero polynomial
product-low : (R : CRing) (k l : ℕ) (f g : Series R) → Below R.𝟘 k f → Below R.𝟘 l g → Below R.𝟘 (product_room k l) (◌*ˢ◌ R f g)
product-low R zero l f g p q j h = rw (below_all R f p) (0ˢ-* R g j)
product-low R (suc k) zero f g p q j h = *ˢ_comm R f g j ∙ rw (below_all R g q) (0ˢ-* R f j)
product-low R (suc k) (suc l) f g p q j h = *_below R (suc k) (suc l) j f g p q (omega arith)

-- the number looks at the lengths of c and v only
pub product_blind : (p n : ℤ) (e t a b c c' v v' : List ℤ) → length c ≡ length c' → length v ≡ length v'
    → product_number p n e t a b c v ≡ product_number p n e t a b c' v'
unfolding product_number
product_blind p n e t a b c c' v v' h k = rw (h, k)

-- no number above 7 is given
pub product_numbers : (p n : ℤ) (e t a b c v : List ℤ) → product_number p n e t a b c v ≤ 7
unfolding product_number
product_numbers p n e t a b c v = first-up_to 7 (product_table p n e t a b c v) tt

module _ (p n : ℤ) (e t a b c v : List ℤ) (h : product_number p n e t a b c v ≡ 0) where
  tests : Tested p n e t a b c v (product_room (degree_count a) (degree_count b)) []
  unfolding product_number
  tests = tested p n e t a b c v _ [] (passed_of (product_table p n e t a b c v) (ordered_numbered 1 (product_table p n e t a b c v) (omega arith) tt) h)

  -- t is the words of exactly one tower, and p is in range
  pub product-tower : TowerHeld p n e t
  product-tower = tests.tower

  abbrev pub product_modulus : T (p_ok p)
  product_modulus = product-tower.range.modulus

  -- R_N
  abbrev pub product_ring : CRing
  product_ring = top_ring p n e t product_modulus

  pub product-ring : product_ring ≡ ring (num p) (p_positive p product_modulus) (degrees_of e) (num n) product-tower.held.this
  product-ring = ring-held p n e t product-tower

  -- the words of c's slot afterwards
  pub product-words : (product p n e t a b c v).words.product ≡ filled p n e c (product_of p n e t a b product_modulus)
  unfolding product_words
  product-words = rw h (branch_yes (p_ok p) (λ m. filled p n e c (product_of p n e t a b m)) (λ _. c) product_modulus)

  fits : Below product_ring.𝟘 (coefficients_of n e c) (product_of p n e t a b product_modulus)
  fits =
      below_mono product_ring.𝟘 _ tests.room
      (product-low product_ring (degree_count a) (degree_count b) _ _
      (held_below p n e product_modulus a tests.form_a) (held_below p n e product_modulus b tests.form_b))

  pub product_written : Written p n e c (product p n e t a b c v).words.product
  product_written = rw product-words (slot_written p n e product_modulus c _ tests.long_c)

  pub product-coefficients : (j : ℕ)
      → coefficients_in p n e product_modulus (product p n e t a b c v).words.product j
      ≡ ◌*ˢ◌ product_ring (coefficients_in p n e product_modulus a) (coefficients_in p n e product_modulus b) j
  product-coefficients j =
      ap (λ w. coefficients_in p n e product_modulus w j) product-words ∙ filled_holds p n e product_modulus c (product_of p n e t a b product_modulus) fits j

  pub product-work : Cleared (product_work (degrees_of e) (num n)) v (product p n e t a b c v).words.work
  product-work = rw h (cleared-words (product_work (degrees_of e) (num n)) v tests.work)

-- ---- "The entry contents of the work store change no answer and no other word."; nor do those of c: two runs, with c and c', v and v' of the same lengths
module _ (p n : ℤ) (e t a b c c' v v' : List ℤ) where
  abbrev pub run : Changed ProductWords
  run = product p n e t a b c v

  abbrev pub run' : Changed ProductWords
  run' = product p n e t a b c' v'

  pub record ProductSame : Type 0 where
    -- the answer
    pub answer : run.said ≡ run'.said
    -- the words of the answer's slot after Done, whatever c and c' were
    pub words : run.said ≡ done → run.words.product ≡ run'.words.product
    -- and where c and c' were the same, with a number too
    pub kept : c ≡ c' → run.words.product ≡ run'.words.product
    -- the work words that are needed, after Done
    pub work : run.said ≡ done → (k : ℕ) → k < product_work (degrees_of e) (num n) → get_or run.words.work k (pos 0) ≡ get_or run'.words.work k (pos 0)

  pub product-two_runs : length c ≡ length c' → length v ≡ length v' → ProductSame
  product-two_runs h k = record {
    answer = changed_said (product_number p n e t a b c v) _ _ ∙ ap refusal number ∙ sym (changed_said (product_number p n e t a b c' v') _ _);
    words = λ d.
        product-words p n e t a b c v (zero_of d)
        ∙ filled-same p n e c c' (product_of p n e t a b) _ _ h
        ∙ sym (product-words p n e t a b c' v' (sym number ∙ zero_of d));
    kept = λ q. changed_same (λ (w : ProductWords). w.product) _ _ _ _ _ _ number (ap (product_words p n e t a b) q) q;
    work = λ d i l. (product-work p n e t a b c v (zero_of d)).below i l ∙ sym ((product-work p n e t a b c' v' (sym number ∙ zero_of d)).below i l);
  }
    where
      number : product_number p n e t a b c v ≡ product_number p n e t a b c' v'
      number = product_blind p n e t a b c c' v v' h k

      zero_of : run.said ≡ done → product_number p n e t a b c v ≡ 0
      zero_of = changed_zero (product_number p n e t a b c v) _ _

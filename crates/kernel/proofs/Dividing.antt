-- Laws of division by a monic polynomial.
--
-- monic-one                        == the test of the leading coefficient, by the words that it begins with
-- monic-some, lead_few, lead_inside == the divisor's words: there is one for the degree, and the leading coefficient stands in them
-- monic-ready                    == what is known when the tests of `slots` have given no number
-- division-first, division_end   == the number, from the one of those tests and from the monic test
-- some_a, some-q                 == what is known when the division has got no number either
-- divide-ready                   == what `divide` asks for;  store_serves, word_serves == the store to work in is long enough, at level 0 one word
-- clear_fits, work-cleared       == the work store is cleared;  work_untouched == at level 0 there is nothing to clear
-- division_refused, parted_done  == the promise;  division-plain == of numbers that went through a call
use Rattle.kernel.proofs.Order.{then_first, then_next}
use Rattle.kernel.proofs.Shapes.{size-found, length-found, form-found, slot-words}
use Rattle.kernel.proofs.Summing.{refused_by, done_by}
use Rattle.kernel.proofs.Slotting.{slots_passed, count-words, tower_holds, a_holds, b_holds, a_long, c_long, slots_ready, work_fits, work_none, store_fits}
use Rattle.kernel.proofs.Slotting.{put_whole, cleared-none, cleared_by}
use Rattle.kernel.specs.Answers.{number_of}
use Rattle.kernel.specs.Calls.{size_of, coefficients_of}
use Rattle.kernel.specs.Divisions.{divisor_degree, monic_words, monic_row, division_table, division_number}
use Rattle.kernel.specs.Divisions.{remainder_of, quotient_of, remainder_words, quotient_words, DivisionWords}
use Rattle.kernel.specs.DivisionMeaning.{top-lead}
use Rattle.kernel.specs.Promises.{DivisionGiven}
use Rattle.kernel.specs.Refusals.{unless, and_then, first-append, passed_of, ordered_numbered}
use Rattle.kernel.specs.Shape.{Known, ShapeOf}
use Rattle.kernel.specs.SlotLaws.{Tested, tested}
use Rattle.kernel.specs.SlotMeaning.{room_iff}
use Rattle.kernel.specs.Slots.{degree_count, polynomial_of, filled, slots_table, slots_number, quotient_room, cleared}
use Rattle.kernel.specs.declared.shape.Shape.{Shape}
use Rattle.kernel.specs.declared.Answer.{Answer}
use Rattle.kernel.specs.declared.Answer.TheVariants.{Done, Refused}
use Rattle.kernel.specs.declared.refusals.Refusal.{Refusal}
use Rattle.polynomials.specs.Slots.{DivideReady, Parted}
use Rattle.products.specs.Product.{work}
use Rattle.residue.specs.Word.{num}
use Rattle.algebra.specs.Test.{both_l, both_r, all_to_use, branch_yes}
use Rattle.tower.proofs.Laws.{and_true_l}
use Rattle.tower.specs.Form.{seg, copies, same, zero_words, one_words, degree_ok, coefficient_ok, form_over, is_in_form, slot_form}
use Rattle.tower.specs.Heads.{one_head, one_head_lem}
use Rattle.tower.specs.Levels.{degree, Tower}
use Rattle.tower.specs.Limits.{p_ok, p_positive, degrees_of, slot_length, slot_count}
use Rattle.tower.specs.Lists.{of_true, to_true, degree-low}
use Rattle.tower.specs.Stands.{slot_stands}
use Rattle.tower.specs.Store.{Kept, Put}
use Rattle.tower.specs.Work.{product_work}
use Rattle.tower.specs.Writing.{size, size-pos, size-zero, size_suc, tower_of, slot_long, unslot}
use borrow.Author.Tests.{le-leb}
use mir.Syntax.{w64}
use mir.Val.{SFits, to_z, of_z}
use mir.ValLaws.{to_z-of_z}
use mathlib.Core.Path.{◌≡◌, refl, sym, ap, ap₂, ◌∙◌, subst₂, subst₃, subst}
use mathlib.Core.Bool.{Bool, true}
use mathlib.Core.List.{List, [], ◌∷◌}
use Prim.Native.Nat.{ℕ, zero, suc, ◌+◌, ◌-◌, ◌*◌, ◌^◌, ◌<◌, ◌≤◌}
use native.Mathlib.Nat.{suc-mul, mul-le-mul_right}
use native.Mathlib.Omega.{arith}
use lib.IntN.{ℤ, pos}
use lib.Dec.{T, leb, leb→le, eqb}
use lib.ListN.{length, get_or, drop, take-append-drop}

-- ---- the monic test
-- an element of level i has more than i words
level-words : (d : List ℕ) (i : ℕ) → ((k : ℕ) → k < i → 1 ≤ degree d k) → i < size d i
level-words d zero h = omega (arith, size-zero d)
level-words d (suc i) h =
    omega (arith, size_suc d i, level-words d i (λ k l. h k (omega arith)), mul-le-mul_right (size d i) (h i (omega arith)))

module _ (p : ℕ) (d : List ℕ) (i k : ℕ) (w : List ℤ) (h : T (slot_form p d i k w)) where
  -- the degree word counts at most k coefficients
  form-count : degree_count w ≤ k
  unfolding form_over
  form-count = degree-low k (get_or w 0 (pos 0)) (both_l (degree_ok k (get_or w 0 (pos 0))) _ (both_r (eqb (length w) (k * size d i + 1)) _ h))

  -- each coefficient of a slot in form is in form
  form-at : (j : ℕ) → j < k → T (is_in_form p d i (seg (suc (j * size d i)) (size d i) w))
  unfolding form_over
  form-at j l =
      both_l (is_in_form p d i (seg (suc (j * size d i)) (size d i) w)) _
      (all_to_use k (λ n. coefficient_ok (is_in_form p d i) (zero_words d i) (get_or w 0 (pos 0)) n (seg (suc (n * size d i)) (size d i) w))
      (both_r (degree_ok k (get_or w 0 (pos 0))) _ (both_r (eqb (length w) (k * size d i + 1)) _ h)) j l)

  -- the words that the leading coefficient begins with tell whether it is 1
  lead_head : 1 ≤ degree_count w → one_head i (drop (suc (divisor_degree w * size d i)) w) ≡ monic_words d i (size d i) w
  lead_head some =
      let place = suc (divisor_degree w * size d i) in
      ap (one_head i) (sym (take-append-drop (size d i) (drop place w)))
      ∙ sym (one_head_lem p d i (seg place (size d i) w) (drop (size d i) (drop place w)) (form-at (divisor_degree w) (omega (arith, form-count))))
      ∙ ap (λ x. same x (one_words d i)) (sym (top-lead (size d i) w some))
      ∙ and_true_l (leb 1 (degree_count w)) _ (le-leb 1 (degree_count w) some)

module _ (s : Shape) (p : ℕ) (b : List ℤ) (known : Known s) (allowed : slot_length s.size (length b) ≡ true)
    (form : slot_form p s.degrees s.levels (slot_count s.size (length b)) b ≡ true) where
  -- the coefficients of the slot
  abbrev k : ℕ
  k = slot_count s.size (length b)

  -- its words
  long : length b ≡ k * s.size + 1
  long = slot-words s (length b) allowed

  -- it has a degree word
  pub monic-some : 0 < length b
  monic-some = omega (arith, long)

  -- it is short, so that no place in it overflows
  short : length b ≤ 65536
  short = ((room_iff s.size (length b) (omega (arith, known.is-size, size-pos s.degrees s.levels))).0 (of_true _ allowed)).short

  module _ (c : ℕ) (ec : c ≡ degree_count b) where
    module _ (some : c ≡ 0 → ⊥) where
      -- there is a leading coefficient
      positive : 1 ≤ c
      positive = omega (arith, some)

      -- the leading coefficient and all below it stand in the slot
      ends : (c - 1) * s.size + s.size ≤ k * s.size
      ends =
          let one : suc (c - 1) ≡ c = omega (arith, positive) in
          let few : c ≤ k = omega (arith, form-count p s.degrees s.levels k b (of_true _ form)) in
          omega (arith, suc-mul (c - 1) s.size, ap (λ m. m * s.size) one, mul-le-mul_right s.size few)

      -- its place is a number of the machine
      pub lead_few : 0 + 1 + (c - 1) * s.size < 2 ^ 64
      lead_few = omega (arith, ends, long, short)

      module _ (place : ℕ) (ep : place ≡ 0 + 1 + (c - 1) * s.size) where
        -- the words that it begins with stand in the slot
        pub lead_inside : place + s.levels < length b
        lead_inside = omega (arith, ends, long, known.is-size, level-words s.degrees s.levels known.some)

        -- and tell whether it is 1
        pub monic-one : (r : Bool) → r ≡ one_head s.levels (drop place b) → r ≡ monic_words s.degrees s.levels s.size b
        monic-one r er =
            let z = known.is-size in
            let at : place ≡ suc (divisor_degree b * size s.degrees s.levels) = ep ∙ ap₂ (λ m w. 0 + 1 + (m - 1) * w) ec z ∙ omega arith in
            er
            ∙ ap (λ m. one_head s.levels (drop m b)) at
            ∙ lead_head p s.degrees s.levels k b (of_true _ form) (omega (arith, positive))
            ∙ ap (λ m. monic_words s.degrees s.levels m b) (sym z)

-- ---- the number
module _ (p n : ℤ) (e t a b q v : List ℤ) where
  -- the test that is added to those of `slots`
  abbrev monic : Bool
  monic = monic_words (degrees_of e) (num n) (size_of n e) b

  -- the coefficients that the quotient needs
  abbrev needed : ℕ
  needed = quotient_room (degree_count a) (degree_count b)

  -- the number, from the one of the tests of `slots` and from the monic test
  division-is : division_number p n e t a b q v ≡ and_then (slots_number true p n e t a b q v) (unless monic 8 0)
  unfolding division_number slots_number
  division-is =
      first-append (slots_table p n e t a b q v needed) (monic_row n e b ∷ [])
      (ordered_numbered 1 (slots_table p n e t a b q v needed) (omega arith) tt)

  -- where no number is given every test has passed
  division_tested : division_number p n e t a b q v ≡ 0 → Tested p n e t a b q v needed (monic_row n e b ∷ [])
  unfolding division_number
  division_tested h =
      tested p n e t a b q v needed (monic_row n e b ∷ [])
      (passed_of (division_table p n e t a b q v) (ordered_numbered 1 (division_table p n e t a b q v) (omega arith) tt) h)

  -- a number of the tests of `slots` stays
  pub division-first : (r : Refusal) → slots_number true p n e t a b q v ≡ number_of r → division_number p n e t a b q v ≡ number_of r
  division-first r h = division-is ∙ then_first _ _ r h

  module _ (h : slots_number true p n e t a b q v ≡ 0) (s : Shape) (is : ShapeOf n e s) where
    -- the divisor is a slot in form
    pub monic-ready : (m : ℕ) → m ≡ num p → Known s × (slot_length s.size (length b) ≡ true)
        × (slot_form m s.degrees s.levels (slot_count s.size (length b)) b ≡ true)
    monic-ready m em =
        let g = slots_passed true p n e t a b q v h in (
          is.known,
          sym (length-found is b _ refl) ∙ to_true _ g.long_b,
          sym (form-found is p m em b _ refl) ∙ to_true _ g.form_b,
        )

    -- the number is that of the monic test
    pub division_end : (x : Bool) → x ≡ monic_words s.degrees s.levels s.size b → division_number p n e t a b q v ≡ unless x 8 0
    division_end x ex =
        let same : x ≡ monic = ex ∙ λ i. monic_words (is.degrees i) (is.levels i) (size-found is i) b in
        division-is ∙ then_next _ _ _ h (ap (λ y. unless y 8 0) (sym same))

-- ---- the promise
module _ (p n : ℤ) (e t a b q v : List ℤ) where
  -- the words as found
  abbrev old : DivisionWords
  old = record { remainder = a; quotient = q; work = v }

  -- the words after Done
  abbrev new : DivisionWords
  new = record {
    remainder = remainder_words p n e t a b;
    quotient = quotient_words p n e t a b q;
    work = cleared (product_work (degrees_of e) (num n)) v;
  }

  -- the promise, when refused
  pub division_refused : (r : Refusal) → division_number p n e t a b q v ≡ number_of r → DivisionGiven p n e t a b q v (Refused (number_of r)) a q v
  division_refused r h =
      let c = refused_by (division_number p n e t a b q v) r new old h in
      record { answer = c.0; remainder = ap (λ w. w.remainder) c.1; quotient = ap (λ w. w.quotient) c.1; work = ap (λ w. w.work) c.1 }

  -- the promise, after Done
  division_done : division_number p n e t a b q v ≡ 0 → (a' q' v' : List ℤ) → a' ≡ remainder_words p n e t a b → q' ≡ quotient_words p n e t a b q
      → v' ≡ cleared (product_work (degrees_of e) (num n)) v → DivisionGiven p n e t a b q v Done a' q' v'
  division_done h a' q' v' ea eq ev =
      let c = done_by (division_number p n e t a b q v) new old h in
      record {
        answer = c.0;
        remainder = ea ∙ ap (λ w. w.remainder) c.1;
        quotient = eq ∙ ap (λ w. w.quotient) c.1;
        work = ev ∙ ap (λ w. w.work) c.1;
      }

-- ---- what `divide` asks for and leaves, where every test has passed
module _ (p n : ℤ) (e t a b q v : List ℤ) (g : Tested p n e t a b q v (quotient_room (degree_count a) (degree_count b)) (monic_row n e b ∷ [])) where
  -- p is in range
  abbrev modulus : T (p_ok p)
  modulus = g.tower.range.modulus

  -- the coefficients of the three slots
  abbrev ka : ℕ
  ka = coefficients_of n e a

  abbrev kb : ℕ
  kb = coefficients_of n e b

  abbrev kq : ℕ
  kq = coefficients_of n e q

  -- the tower that t holds
  abbrev τ : Tower (num p) (degrees_of e) (num n)
  τ = tower_of (num p) (p_positive p modulus) (degrees_of e) (num n) t

  -- the divisor is not zero
  not_zero : 1 ≤ degree_count b
  not_zero = leb→le 1 (degree_count b) (both_l (leb 1 (degree_count b)) _ g.rest.0)

  -- it has few words
  few_words : degree_count b * size_of n e ≤ 2 ^ 31
  few_words = count-words p n e b modulus g.long_b g.form_b g.tower.range.shape.few

  module _ (a' q' w w' : List ℤ) (P : Parted (num n) ka kq (degrees_of e) (num p) t a a' b q q' w w') where
    -- the remainder is written over a's slot, the quotient over q's
    put_a : Put 0 (filled p n e a (remainder_of p n e t a b modulus)) a a'
    put_a =
        P.left (p_positive p modulus) τ (polynomial_of p n e modulus ka a) kb (polynomial_of p n e modulus kb b) (tower_holds p n e t a b q v _ _ g)
        (a_holds p n e t a b q v _ _ g) (b_holds p n e t a b q v _ _ g)

    put-q : Put 0 (filled p n e q (quotient_of p n e t a b modulus)) q q'
    put-q =
        P.quotient (p_positive p modulus) τ (polynomial_of p n e modulus ka a) kb (polynomial_of p n e modulus kb b) (tower_holds p n e t a b q v _ _ g)
        (a_holds p n e t a b q v _ _ g) (b_holds p n e t a b q v _ _ g)

    -- these are the words that the specification names
    left_is : a' ≡ remainder_words p n e t a b
    unfolding remainder_words
    left_is =
        put_whole (filled p n e a (remainder_of p n e t a b modulus)) a a' (sym (slot_long (num p) (degrees_of e) (num n) ka _ ∙ a_long p n e t a b q v _ _ g)) put_a
        ∙ sym (branch_yes (p_ok p) (λ m. filled p n e a (remainder_of p n e t a b m)) (λ _. a) modulus)

    quotient_is : q' ≡ quotient_words p n e t a b q
    unfolding quotient_words
    quotient_is =
        put_whole (filled p n e q (quotient_of p n e t a b modulus)) q q' (sym (slot_long (num p) (degrees_of e) (num n) kq _ ∙ c_long p n e t a b q v _ _ g)) put-q
        ∙ sym (branch_yes (p_ok p) (λ m. filled p n e q (quotient_of p n e t a b m)) (λ _. q) modulus)

-- ---- the same with the values that the calls gave
module _ (p n : ℤ) (e t a b q v : List ℤ) (h : division_number p n e t a b q v ≡ 0) where
  -- every test has passed
  tests : Tested p n e t a b q v (quotient_room (degree_count a) (degree_count b)) (monic_row n e b ∷ [])
  tests = division_tested p n e t a b q v h

  -- the two slots have degree words
  pub some_a : 0 < length a
  some_a = omega (arith, a_long p n e t a b q v _ _ tests)

  pub some-q : 0 < length q
  some-q = omega (arith, c_long p n e t a b q v _ _ tests)

  module _ (s : Shape) (is : ShapeOf n e s) where
    -- the work words that are needed
    works : product_work s.degrees s.levels ≡ product_work (degrees_of e) (num n)
    works = ap₂ product_work is.degrees is.levels

    -- from level 1 on the lent store serves
    pub store_serves : (s.levels ≡ 0 → ⊥) → size s.degrees s.levels + work s.degrees s.levels ≤ length v
    store_serves some = store_fits p n e t a b q v _ _ tests s is (omega (arith, some))

    module _ (x : ℕ) (ex : x ≡ product_work s.degrees s.levels) where
      -- they stand in the store after `divide`
      pub clear_fits : (u : List ℤ) → Kept 0 (size s.degrees s.levels + work s.degrees s.levels) v u → 0 + x ≤ length u
      clear_fits u f = omega (arith, f.long, works, tests.work)

      -- and are cleared
      pub work-cleared : (s.levels ≡ 0 → ⊥) → (u w : List ℤ) → Kept 0 (size s.degrees s.levels + work s.degrees s.levels) v u
          → Put 0 (copies x (pos 0 ∷ [])) u w → w ≡ cleared (product_work (degrees_of e) (num n)) v
      work-cleared some u w f c =
          let fits = work_fits s.degrees s.levels (omega (arith, some)) is.known.some in
          cleared_by (size s.degrees s.levels + work s.degrees s.levels) x v u w (omega arith) (omega (arith, works, tests.work)) f c
          ∙ ap (λ m. cleared m v) (ex ∙ works)

    -- at level 0 it is untouched
    pub work_untouched : s.levels ≡ 0 → v ≡ cleared (product_work (degrees_of e) (num n)) v
    work_untouched z = cleared-none (degrees_of e) (num n) v (sym is.levels ∙ z)

    module _ (i : ℕ) (ei : i ≡ s.levels) (m : ℕ) (em : m ≡ num p) (k l : ℕ) (ek : k ≡ slot_count s.size (length a))
        (el : l ≡ slot_count s.size (length q)) where
      -- the values are those of the specification
      count_a : k ≡ coefficients_of n e a
      count_a = ek ∙ ap (λ x. slot_count x (length a)) (size-found is)

      count-q : l ≡ coefficients_of n e q
      count-q = el ∙ ap (λ x. slot_count x (length q)) (size-found is)

      level-is : i ≡ num n
      level-is = ei ∙ is.levels

      width : size s.degrees i ≡ size_of n e
      width = ap₂ size is.degrees level-is

      -- `divide` may run
      pub divide-ready : (w : List ℤ) → size s.degrees i + work s.degrees i ≤ length w → DivideReady i k l s.degrees s.sizes m t a b q w
      divide-ready w room =
          let ready = slots_ready p n e t a b q v _ _ tests s is i level-is m em w room in
          record {
            slots = ready;
            f = unslot m ready.p_pos s.degrees i k a;
            a_stands = slot_stands m ready.p_pos s.degrees i k a
                (of_true _ ((λ j. slot_form (em j) (is.degrees j) (level-is j) (count_a j) a) ∙ to_true _ tests.form_a));
            a_inside = omega (arith, a_long p n e t a b q v _ _ tests, ap₂ (λ x y. x * y) count_a width);
            some = not_zero p n e t a b q v tests;
            few = omega (arith, few_words p n e t a b q v tests, ap (λ x. degree_count b * x) width);
            fits = omega (arith, tests.room, not_zero p n e t a b q v tests, count-q);
            q_inside = omega (arith, c_long p n e t a b q v _ _ tests, ap₂ (λ x y. x * y) count-q width);
          }

      module _ (a' q' w w' : List ℤ) (P : Parted i k l s.degrees m t a a' b q q' w w') where
        -- what it leaves, with the values of the specification
        plain : Parted (num n) (coefficients_of n e a) (coefficients_of n e q) (degrees_of e) (num p) t a a' b q q' w w'
        plain =
            subst₃ (λ j x y. Parted j (coefficients_of n e a) (coefficients_of n e q) x y t a a' b q q' w w') level-is is.degrees em
            (subst₂ (λ x y. Parted i x y s.degrees m t a a' b q q' w w') count_a count-q P)

        -- the promise
        pub parted_done : (v' : List ℤ) → v' ≡ cleared (product_work (degrees_of e) (num n)) v → DivisionGiven p n e t a b q v Done a' q' v'
        parted_done v' ev =
            division_done p n e t a b q v h a' q' v'
            (left_is p n e t a b q v tests a' q' w w' plain)
            (quotient_is p n e t a b q v tests a' q' w w' plain)
            ev

-- at level 0 one word serves
pub word_serves : (d : List ℕ) → size d 0 + work d 0 ≤ length (pos 0 ∷ [])
word_serves d = omega (arith, work_none d)

-- the promise for numbers that went through a call
pub division-plain : {p n : ℤ} (e t a b q v : List ℤ) (r : Answer) (a' q' v' : List ℤ) → SFits w64 p → SFits w64 n
    → DivisionGiven (to_z w64 (of_z w64 p)) (to_z w64 (of_z w64 n)) e t a b q v r a' q' v' → DivisionGiven p n e t a b q v r a' q' v'
division-plain {p} {n} e t a b q v r a' q' v' fp fn h =
    subst (λ x. DivisionGiven x n e t a b q v r a' q' v') (to_z-of_z w64 p fp)
    (subst (λ y. DivisionGiven (to_z w64 (of_z w64 p)) y e t a b q v r a' q' v') (to_z-of_z w64 n fn) h)

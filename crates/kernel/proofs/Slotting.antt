-- Laws of the tests that product and division share, and of what is known where none of them gives a number.
--
-- slots_first .. slots_end  == the number, test by test, with the values that the calls gave;  slots_counts == the degree words that are read count few
-- three-allowed, three-some == three slots of allowed lengths, and that they have words
-- slots_passed              == no number: everything is tested
-- slots_plain, slots_ready  == the core may work: with the numbers as they were handed over, and with the values that the calls gave
-- held_stands, held-length, held-modulus, held-positive == a tower that is held: its words stand and are all, its modulus and its degrees
-- tower_holds, a_holds, b_holds == the tower and the two polynomials stand;  a_long, b_long, c_long == the lengths of the slots;
-- allowed_long, count_low, count-words == a slot of an allowed length: its words, few coefficients, few words of those that its degree word counts
-- work_fits, work_none, store_fits == an element and the words that a product uses fit the work store;  at level 0 they are one word
-- put_whole                    == a slot that is written as a whole
-- cleared-nothing, cleared-none, cleared_by == the work store after Done: nothing needed, at level 0, and else
-- clear_room, store_cleared == with the values that the calls gave
use Rattle.kernel.proofs.Order.{then_first, then_next, seg_all}
use Rattle.kernel.proofs.Shapes.{size-found, length-found}
use Rattle.kernel.proofs.Viewing.{and_split, forms-found}
use Rattle.kernel.specs.Answers.{number_of}
use Rattle.kernel.specs.Calls.{size_of, coefficients_of, length_ok, form_ok, tower_number}
use Rattle.kernel.specs.Meaning.{TowerHeld, tower_behind, tower-says, ones}
use Rattle.kernel.specs.Refusals.{Table, unless, and_then, passed_of, ordered_numbered}
use Rattle.kernel.specs.Shape.{ShapeOf}
use Rattle.kernel.specs.SlotLaws.{Tested, tested, tower-is, held_few, cleared-words}
use Rattle.kernel.specs.SlotMeaning.{room_iff, room-count}
use Rattle.kernel.specs.Slots.{degree_count, polynomial_of, room_needed, slots_table, slots_number, cleared}
use Rattle.kernel.specs.declared.refusals.Refusal.{Refusal}
use Rattle.kernel.specs.declared.shape.Shape.{Shape}
use Rattle.polynomials.specs.Slots.{SlotsReady}
use Rattle.products.specs.Product.{work, work-zero, work_suc, TowerStands}
use Rattle.arithmetic.specs.Places.{wide}
use Rattle.residue.specs.Number.{Modulus}
use Rattle.residue.specs.Word.{num}
use Rattle.tower.proofs.Lengths.{length-is}
use Rattle.tower.specs.Form.{slot_form, copies}
use Rattle.tower.specs.Levels.{degree}
use Rattle.tower.specs.Limits.{p_ok, p_positive, p_narrow, degrees_of, slot_length, slot_count}
use Rattle.tower.specs.Lists.{of_true, to_true, copies_long}
use Rattle.tower.specs.Ready.{Sized, Positive}
use Rattle.tower.specs.Stands.{SlotStands, slot_stands}
use Rattle.tower.specs.Store.{Kept, Put, kept_trans, kept-wide, put_unique}
use Rattle.tower.specs.Work.{product_work, product_work_suc}
use Rattle.tower.specs.Writing.{size, size-pos, size-zero, size_suc, tower_size, tower_words, tower_of, tower_long}
use borrow.Author.Tests.{le-leb, lt-leb}
use mathlib.Core.Path.{◌≡◌, refl, sym, ap, ap₂, ◌∙◌, subst, subst₃}
use mathlib.Core.Bool.{Bool, true, false, ◌&&◌}
use mathlib.Core.List.{List, [], ◌∷◌}
use Prim.Native.Nat.{ℕ, zero, suc, ◌+◌, ◌-◌, ◌*◌, ◌^◌, ◌<◌, ◌≤◌}
use native.Mathlib.Nat.{mul-le-mul_right}
use native.Mathlib.Omega.{arith}
use lib.IntN.{ℤ, pos}
use lib.Dec.{T, leb}
use lib.ListN.{length, drop}
use lib.Seq.{take-append_seam}

-- ---- three slots of allowed lengths
module _ (s j k l : ℕ) (h : true ≡ (slot_length s j && (slot_length s k && slot_length s l))) where
  pub three-allowed : (slot_length s j ≡ true) × (slot_length s k ≡ true) × (slot_length s l ≡ true)
  three-allowed =
      let f = and_split (slot_length s j) (slot_length s k && slot_length s l) (sym h) in
      let g = and_split (slot_length s k) (slot_length s l) f.1 in
      (f.0, g.0, g.1)

  pub three-some : (0 < j) × (0 < k) × (0 < l)
  three-some =
      let f = three-allowed in
      (omega (arith, length-is s j f.0), omega (arith, length-is s k f.1), omega (arith, length-is s l f.2))

-- a slot of an allowed length has a degree word and its coefficients
pub allowed_long : (n : ℤ) (e x : List ℤ) → T (length_ok n e x) → 1 + coefficients_of n e x * size_of n e ≡ length x
allowed_long n e x l = sym (length-is (size_of n e) (length x) (to_true _ l) ∙ omega arith)

-- a slot of an allowed length has few coefficients, and its degree word counts no more
module _ (p n : ℤ) (e x : List ℤ) (h : T (p_ok p)) (l : T (length_ok n e x)) (f : T (form_ok p n e x)) where
  pub count_low : degree_count x ≤ 256
  count_low =
      let r = (room_iff (size_of n e) (length x) (size-pos (degrees_of e) (num n))).0 l in
      omega (arith, held_few p n e h x f, room-count (size_of n e) (length x) (size-pos (degrees_of e) (num n)) r, r.few)

  pub count-words : size_of n e ≤ 2048 → degree_count x * size_of n e ≤ 2 ^ 31
  count-words small = omega (arith, mul-le-mul_right (size_of n e) count_low)

-- ---- the numbers
module _ (divides : Bool) (p n : ℤ) (e t a b c v : List ℤ) where
  abbrev lengths : Bool
  lengths = length_ok n e a && (length_ok n e b && length_ok n e c)

  abbrev forms : Bool
  forms = form_ok p n e a && form_ok p n e b

  abbrev room : Bool
  room = leb (room_needed divides (degree_count a) (degree_count b)) (coefficients_of n e c)

  abbrev store : Bool
  store = leb (product_work (degrees_of e) (num n)) (length v)

  abbrev rest : Bool → Bool → Bool → Bool → ℕ
  rest x y z w = unless x 4 (unless y 5 (unless z 6 (unless w 7 0)))

  -- the tests behind those of the tower
  slots_is : slots_number divides p n e t a b c v ≡ and_then (tower_number p n e t) (rest lengths forms room store)
  unfolding slots_number
  slots_is = tower_behind p n e t ((4, λ _. lengths) ∷ (5, λ _. forms) ∷ (6, λ _. room) ∷ (7, λ _. store) ∷ [])

  -- everything is tested where no number is given
  pub slots_passed : slots_number divides p n e t a b c v ≡ 0 → Tested p n e t a b c v (room_needed divides (degree_count a) (degree_count b)) []
  unfolding slots_number
  slots_passed h =
      let table = slots_table p n e t a b c v (room_needed divides (degree_count a) (degree_count b)) in
      tested p n e t a b c v _ [] (passed_of table (ordered_numbered 1 table (omega arith) tt) h)

  -- test by test, with the values that the calls gave
  pub slots_first : (r : Refusal) → tower_number p n e t ≡ number_of r → slots_number divides p n e t a b c v ≡ number_of r
  slots_first r h = slots_is ∙ then_first _ _ r h

  module _ (h : tower_number p n e t ≡ 0) where
    slots_rest : (x y z w : Bool) → lengths ≡ x → forms ≡ y → room ≡ z → store ≡ w → slots_number divides p n e t a b c v ≡ rest x y z w
    slots_rest x y z w i j k l = slots_is ∙ then_next _ _ _ h (λ u. rest (i u) (j u) (k u) (l u))

    module _ (s : Shape) (is : ShapeOf n e s) where
      lengths_told : (x : Bool) → x ≡ (slot_length s.size (length a) && (slot_length s.size (length b) && slot_length s.size (length c))) → lengths ≡ x
      lengths_told x ex =
          (λ i. length-found is a _ refl i && (length-found is b _ refl i && length-found is c _ refl i)) ∙ sym ex

      pub slots_short : false ≡ (slot_length s.size (length a) && (slot_length s.size (length b) && slot_length s.size (length c)))
          → slots_number divides p n e t a b c v ≡ 4
      slots_short f = slots_rest false _ _ _ (lengths_told false f) refl refl refl

      module _ (fx : true ≡ (slot_length s.size (length a) && (slot_length s.size (length b) && slot_length s.size (length c)))) (q : ℕ) (eq : q ≡ num p) where
        pub slots_bad : false ≡ (slot_form q s.degrees s.levels (slot_count s.size (length a)) a && slot_form q s.degrees s.levels (slot_count s.size (length b)) b)
            → slots_number divides p n e t a b c v ≡ 5
        slots_bad f = slots_rest true false _ _ (lengths_told true fx) (forms-found is p q eq a b false f) refl refl

        module _ (fy : true ≡ (slot_form q s.degrees s.levels (slot_count s.size (length a)) a && slot_form q s.degrees s.levels (slot_count s.size (length b)) b)) where
          forms_told : forms ≡ true
          forms_told = forms-found is p q eq a b true fy

          pub slots_counts : (degree_count a ≤ 256) × (degree_count b ≤ 256)
          slots_counts =
              let m = (tower-says p n e t 0 h).range.modulus in
              let l = three-allowed (size_of n e) (length a) (length b) (length c) (sym (lengths_told true fx)) in
              let f = and_split (form_ok p n e a) (form_ok p n e b) forms_told in
              (count_low p n e a m (of_true _ l.0) (of_true _ f.0), count_low p n e b m (of_true _ l.1) (of_true _ f.1))

          module _ (k : ℕ) (ek : k ≡ slot_count s.size (length c)) (g : ℕ) (eg : g ≡ room_needed divides (degree_count a) (degree_count b)) where
            room_told : room ≡ leb g k
            room_told = sym (ap₂ leb eg (ek ∙ ap (λ m. slot_count m (length c)) (size-found is)))

            pub slots_small : k < g → slots_number divides p n e t a b c v ≡ 6
            slots_small l = slots_rest true true false _ (lengths_told true fx) forms_told (room_told ∙ lt-leb g k l) refl

            module _ (l : g ≤ k) (m : ℕ) (em : m ≡ product_work s.degrees s.levels) where
              slots_last : (w : Bool) → leb m (length v) ≡ w → slots_number divides p n e t a b c v ≡ unless w 7 0
              slots_last w f =
                  slots_rest true true true w (lengths_told true fx) forms_told (room_told ∙ le-leb g k l)
                  (sym (ap (λ u. leb u (length v)) (em ∙ ap₂ product_work is.degrees is.levels)) ∙ f)

              pub slots_few : length v < m → slots_number divides p n e t a b c v ≡ 7
              slots_few f = slots_last false (lt-leb m (length v) f)

              pub slots_end : m ≤ length v → slots_number divides p n e t a b c v ≡ 0
              slots_end f = slots_last true (le-leb m (length v) f)

-- ---- the words that a product uses
-- 2·d - 1 coefficients, twice, have room for the d of an element and for the 2·d - 1 of a product
step : (g s w m : ℕ) → 1 ≤ g → w ≤ m → g * s + 1 + (wide g * s + w) ≤ 2 * ((2 * g - 2 + 1) * s + 1) + m
step g s w m h l =
    let e : 2 * g - 2 + 1 ≡ wide g = omega arith in
    let same : (2 * g - 2 + 1) * s ≡ wide g * s = ap (λ x. x * s) e in
    let less : g * s ≤ wide g * s = mul-le-mul_right s (omega arith) in
    omega arith

-- a level above one whose work words are enough
work-next : (d : List ℕ) (i : ℕ) → 1 ≤ degree d i → work d i ≤ product_work d i → size d (suc i) + work d (suc i) ≤ product_work d (suc i)
work-next d i h l = omega (arith, size_suc d i, work_suc d i, product_work_suc d i, step (degree d i) (size d i) (work d i) (product_work d i) h l)

work-low : (d : List ℕ) (n : ℕ) → ((k : ℕ) → k < n → 1 ≤ degree d k) → work d n ≤ product_work d n
work-low d zero h = omega (arith, work-zero d)
work-low d (suc i) h = omega (arith, work-next d i (h i (omega arith)) (work-low d i (λ k l. h k (omega arith))))

-- from level 1 on the work words have room for an element and for the words that a product uses
pub work_fits : (d : List ℕ) (n : ℕ) → 1 ≤ n → ((k : ℕ) → k < n → 1 ≤ degree d k) → size d n + work d n ≤ product_work d n
work_fits d zero l h = absurd (omega arith)
work_fits d (suc i) l h = work-next d i (h i (omega arith)) (work-low d i (λ k l. h k (omega arith)))

-- at level 0 these are one word
pub work_none : (d : List ℕ) → size d 0 + work d 0 ≡ 1
work_none d = omega (arith, size-zero d, work-zero d)

-- ---- what is left
-- a slot that is written as a whole
pub put_whole : (l x x' : List ℤ) → length x ≡ length l → Put 0 l x x' → x' ≡ l
put_whole l x x' e h = sym (seg_all (length l) x' (h.kept.long ∙ e)) ∙ h.here

-- the work store where nothing of it is needed, as at level 0
pub cleared-nothing : (m : ℕ) (v : List ℤ) → m ≡ 0 → v ≡ cleared m v
cleared-nothing m v e = rw e refl

pub cleared-none : (d : List ℕ) (i : ℕ) (v : List ℤ) → i ≡ 0 → v ≡ cleared (product_work d i) v
unfolding product_work
cleared-none d i v e = cleared-nothing (product_work d i) v (rw e refl)

-- and else: k of its words may have changed, and then m of them were cleared
pub cleared_by : (k m : ℕ) (v v₁ v₂ : List ℤ) → k ≤ m → m ≤ length v → Kept 0 k v v₁ → Put 0 (copies m (pos 0 ∷ [])) v₁ v₂ → v₂ ≡ cleared m v
cleared_by k m v v₁ v₂ h l f g = put_unique now then
  where
    many : length (copies m (pos 0 ∷ [])) ≡ m
    many = omega (arith, copies_long m 1 (pos 0 ∷ []) refl)

    now : Put 0 (copies m (pos 0 ∷ [])) v v₂
    now = record { kept = kept_trans (kept-wide (omega arith) (omega (arith, many)) f) g.kept; here = g.here }

    then : Put 0 (copies m (pos 0 ∷ [])) v (cleared m v)
    then =
        let w = cleared-words m v l in record {
          kept = record { long = w.long; below = λ j q. absurd (omega arith); above = λ j q. w.above j (omega (arith, many)) };
          here = take-append_seam (copies m (pos 0 ∷ [])) (drop m v);
        }

-- ---- a tower is held
module _ (p n : ℤ) (e t : List ℤ) (τ : TowerHeld p n e t) where
  abbrev positive : 0 < num p
  positive = p_positive p τ.range.modulus

  -- the words are those of the tower that is read from them
  tower-words : tower_words (num p) positive (degrees_of e) (num n) (tower_of (num p) positive (degrees_of e) (num n) t) ≡ t
  tower-words = ap (tower_words (num p) positive (degrees_of e) (num n)) (tower-is p n e t τ) ∙ τ.held.holds

  pub held-length : length t ≡ tower_size (degrees_of e) (num n)
  held-length = ap length (sym tower-words) ∙ tower_long (num p) positive (degrees_of e) (num n) _

  pub held_stands : TowerStands (num p) positive (degrees_of e) (num n) (tower_of (num p) positive (degrees_of e) (num n) t) t 0
  held_stands = seg_all (tower_size (degrees_of e) (num n)) t held-length ∙ sym tower-words

  -- the machine has room for its modulus, and its degrees are at least 1
  pub held-modulus : Modulus (num p)
  held-modulus = record { positive = positive; narrow = omega (arith, p_narrow p τ.range.modulus) }

  pub held-positive : Positive (num n) (degrees_of e)
  held-positive = record { some = (ones p n e τ.range).degrees }

-- ---- what is known where no number is given
module _ (p n : ℤ) (e t a b c v : List ℤ) (r : ℕ) (more : Table) (g : Tested p n e t a b c v r more) where
  abbrev d : List ℕ
  d = degrees_of e

  abbrev h : T (p_ok p)
  h = g.tower.range.modulus

  -- the lengths of the slots
  pub a_long : 1 + coefficients_of n e a * size_of n e ≡ length a
  a_long = allowed_long n e a g.long_a

  pub b_long : 1 + coefficients_of n e b * size_of n e ≡ length b
  b_long = allowed_long n e b g.long_b

  pub c_long : 1 + coefficients_of n e c * size_of n e ≡ length c
  c_long = allowed_long n e c g.long_c

  -- the polynomials and the tower stand
  pub a_holds : SlotStands (num p) d (num n) (coefficients_of n e a) (polynomial_of p n e h (coefficients_of n e a) a) a 0
  a_holds = slot_stands (num p) (p_positive p h) d (num n) (coefficients_of n e a) a g.form_a

  pub b_holds : SlotStands (num p) d (num n) (coefficients_of n e b) (polynomial_of p n e h (coefficients_of n e b) b) b 0
  b_holds = slot_stands (num p) (p_positive p h) d (num n) (coefficients_of n e b) b g.form_b

  pub tower_holds : TowerStands (num p) (p_positive p h) d (num n) (tower_of (num p) (p_positive p h) d (num n) t) t 0
  tower_holds = held_stands p n e t g.tower

  -- the core may work on them
  pub slots_plain : (z : List ℕ) (w : List ℤ) → Sized d z → num n ≤ 4 → size d (num n) + work d (num n) ≤ length w → SlotsReady (num n) d z (num p) t b w
  slots_plain z w sized low room = record {
    modulus = held-modulus p n e t g.tower;
    low = low;
    sized = sized;
    positive = held-positive p n e t g.tower;
    small = omega (arith, g.tower.range.shape.few);
    tower_inside = omega (arith, held-length p n e t g.tower);
    room = room;
    p_pos = p_positive p h;
    tower = tower_of (num p) (p_positive p h) d (num n) t;
    tower_stands = tower_holds;
    kb = coefficients_of n e b;
    v = polynomial_of p n e h (coefficients_of n e b) b;
    b_stands = b_holds;
    b_inside = omega (arith, b_long);
  }

  -- the same with the values that the calls gave
  module _ (s : Shape) (is : ShapeOf n e s) where
    pub shape_sized : Sized d s.sizes
    shape_sized = subst (λ x. Sized x s.sizes) is.degrees is.known.sized

    pub shape-low : num n ≤ 4
    shape-low = omega (arith, is.levels, is.known.low)

    pub shape-work : (i : ℕ) → i ≡ num n → (w : List ℤ) → size s.degrees i + work s.degrees i ≤ length w → size d (num n) + work d (num n) ≤ length w
    shape-work i ei w = subst (λ m. m ≤ length w) (λ j. size (is.degrees j) (ei j) + work (is.degrees j) (ei j))

    pub slots_ready : (i : ℕ) → i ≡ num n → (q : ℕ) → q ≡ num p → (w : List ℤ) → size s.degrees i + work s.degrees i ≤ length w
        → SlotsReady i s.degrees s.sizes q t b w
    slots_ready i ei q eq w room =
        subst₃ (λ j x y. SlotsReady j x s.sizes y t b w) (sym ei) (sym is.degrees) (sym eq)
        (slots_plain s.sizes w shape_sized shape-low (shape-work i ei w room))

    -- the work store that was lent serves from level 1 on
    pub store_fits : 1 ≤ s.levels → size s.degrees s.levels + work s.degrees s.levels ≤ length v
    store_fits l =
        omega (arith, work_fits s.degrees s.levels l is.known.some, ap₂ product_work is.degrees is.levels, g.work)

    -- it may be cleared as far as it is needed, and is left so
    module _ (m : ℕ) (em : m ≡ product_work s.degrees s.levels) where
      needed : m ≡ product_work d (num n)
      needed = em ∙ ap₂ product_work is.degrees is.levels

      pub clear_room : (k : ℕ) (v₁ : List ℤ) → Kept 0 k v v₁ → 0 + m ≤ length v₁
      clear_room k v₁ f = omega (arith, needed, g.work, f.long)

      pub store_cleared : 1 ≤ s.levels → (v₁ v₂ : List ℤ) → Kept 0 (size s.degrees s.levels + work s.degrees s.levels) v v₁
          → Put 0 (copies m (pos 0 ∷ [])) v₁ v₂ → v₂ ≡ cleared (product_work d (num n)) v
      store_cleared l v₁ v₂ f h =
          cleared_by _ m v v₁ v₂ (omega (arith, em, work_fits s.degrees s.levels l is.known.some)) (omega (arith, needed, g.work)) f h
          ∙ ap (λ u. cleared u v) needed

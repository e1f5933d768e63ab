-- Laws of the inverse of an element.
--
-- inverse-first .. inverse_end == the number, test by test, with the values that the calls gave;  element_inside == the words of c are an element's
-- A, inverse_done, inverse_shown, inverse_endless == the sequence's answer, and the call by it, once its words are copied out
-- run-ready, store-room, lent-some == with none: the sequence may run, in the work store, and r and f have words;  work-nothing == level 0 needs no work words
-- number_done, number_shown, number_long == what the call gives at level 0;  Worked, worked == what the sequence came to above it
use Rattle.kernel.proofs.Order.{then_first, then_next, seg_all}
use Rattle.kernel.proofs.Showing.{Inverts, Shows, shows_buffer, shows_level, came_done, came_shown, came_long}
use Rattle.kernel.proofs.Shapes.{size-found, level-size}
use Rattle.kernel.proofs.Slotting.{put_whole, cleared_by, held-length, held_stands, held-modulus, held-positive, cleared-nothing}
use Rattle.kernel.proofs.Viewing.{and_split}
use Rattle.kernel.specs.Answered.{factor_buffer, tower_in}
use Rattle.kernel.specs.Answers.{said, number_of}
use Rattle.kernel.specs.Calls.{size_of, tower_number}
use Rattle.kernel.specs.InverseAnswers.{InverseHeld, inverse-says, inverse_answer, inverse_sequence, inverse_not_zero, element-is}
use Rattle.kernel.specs.Inverses.{element_length, inverse_number, element_of, InverseWords, inverse_by}
use Rattle.kernel.specs.Meaning.{TowerHeld, tower_behind}
use Rattle.kernel.specs.Promises.{InverseGiven}
use Rattle.kernel.specs.Refusals.{factor, unless, and_then}
use Rattle.kernel.specs.Shape.{ShapeOf}
use Rattle.kernel.specs.Slots.{cleared, Changed}
use Rattle.kernel.specs.declared.Answer.{Answer as CallAnswer}
use Rattle.kernel.specs.declared.Answer.TheVariants.{Done, Factor, Refused}
use Rattle.kernel.specs.declared.refusals.Refusal.{Refusal}
use Rattle.kernel.specs.declared.shape.Shape.{Shape}
use Rattle.euclid.specs.Answer.{Answer, done as done-with, shown, long}
use Rattle.euclid.specs.Towers.{Shown}
use Rattle.sequences.specs.Outcomes.{Came, Reached, RunReady, RunDone, InvertDone}
use Rattle.sequences.specs.declared.Stop.{Stop}
use Rattle.sequences.specs.declared.Stop.TheVariants.{Factor as FactorOf, Long}
use Rattle.std.specs.Prelude.{Result, Ok, Err}
use Rattle.residue.specs.Word.{num}
use Rattle.tower.specs.Form.{eq_z, same, seg, copies, is_in_form, zero_words}
use Rattle.tower.specs.Heads.{head_of, zero_head}
use Rattle.tower.specs.Levels.{El, Tower}
use Rattle.tower.specs.Limits.{p_ok, p_two, p_positive, degrees_of}
use Rattle.tower.specs.Lists.{of_true}
use Rattle.tower.specs.Ready.{Sized}
use Rattle.tower.specs.Stands.{Stands}
use Rattle.tower.specs.Store.{Put}
use Rattle.tower.specs.Work.{inverse_work}
use Rattle.tower.specs.Writing.{size, size-pos, write, write_long, size-zero}
use borrow.Author.Tests.{eqb-true, le-leb, lt-leb}
use mir.Syntax.{w64}
use mir.Val.{SFits, to_z, of_z}
use mir.ValLaws.{to_z-of_z}
use mathlib.Core.Path.{◌≡◌, refl, sym, ap, ap₂, ◌∙◌, subst, subst₂, subst₃}
use mathlib.Core.Bool.{Bool, true, false, not, ◌&&◌}
use mathlib.Core.List.{List, [], ◌∷◌}
use Prim.Native.Nat.{ℕ, ◌+◌, ◌<◌, ◌≤◌}
use native.Mathlib.Omega.{arith}
use lib.IntN.{ℤ, pos}
use lib.Dec.{T, eqb, leb}
use lib.ListN.{length, get_or}

-- ---- the numbers
module _ (p n : ℤ) (e t c r f v : List ℤ) where
  abbrev lengths : Bool
  lengths = element_length n e c && (element_length n e r && element_length n e f)

  abbrev form : Bool
  form = is_in_form (num p) (degrees_of e) (num n) c

  abbrev store : Bool
  store = leb (inverse_work (degrees_of e) (num n)) (length v)

  abbrev some : Bool
  some = not (same c (zero_words (degrees_of e) (num n)))

  abbrev rest : Bool → Bool → Bool → Bool → ℕ
  rest x y z w = unless x 4 (unless y 5 (unless z 7 (unless w 9 0)))

  -- the tests behind those of the tower
  inverse-is : inverse_number p n e t c r f v ≡ and_then (tower_number p n e t) (rest lengths form store some)
  unfolding inverse_number
  inverse-is = tower_behind p n e t ((4, λ _. lengths) ∷ (5, λ _. form) ∷ (7, λ _. store) ∷ (9, λ _. some) ∷ [])

  -- test by test, with the values that the calls gave
  pub inverse-first : (k : Refusal) → tower_number p n e t ≡ number_of k → inverse_number p n e t c r f v ≡ number_of k
  inverse-first k h = inverse-is ∙ then_first _ _ k h

  module _ (h : tower_number p n e t ≡ 0) where
    inverse-rest : (x y z w : Bool) → lengths ≡ x → form ≡ y → store ≡ z → some ≡ w → inverse_number p n e t c r f v ≡ rest x y z w
    inverse-rest x y z w i j k l = inverse-is ∙ then_next _ _ _ h (λ u. rest (i u) (j u) (k u) (l u))

    module _ (s : Shape) (is : ShapeOf n e s) where
      lengths_told : (x : Bool) → x ≡ (eqb (length c) s.size && (eqb (length r) s.size && eqb (length f) s.size)) → lengths ≡ x
      lengths_told x ex = sym (ex ∙ ap (λ k. eqb (length c) k && (eqb (length r) k && eqb (length f) k)) (size-found is))

      pub inverse_short : false ≡ (eqb (length c) s.size && (eqb (length r) s.size && eqb (length f) s.size)) → inverse_number p n e t c r f v ≡ 4
      inverse_short g = inverse-rest false _ _ _ (lengths_told false g) refl refl refl

      module _ (fx : true ≡ (eqb (length c) s.size && (eqb (length r) s.size && eqb (length f) s.size))) where
        c_long : length c ≡ s.size
        c_long = eqb-true (length c) s.size (and_split (eqb (length c) s.size) _ (sym fx)).0

        pub element_inside : size s.degrees s.levels ≡ length c
        element_inside = sym (c_long ∙ is.known.is-size)

        module _ (q : ℕ) (eq : q ≡ num p) where
          form_told : (y : Bool) → y ≡ is_in_form q s.degrees s.levels (seg 0 (size s.degrees s.levels) c) → form ≡ y
          form_told y ey =
              sym (ey
              ∙ ap (is_in_form q s.degrees s.levels) (seg_all (size s.degrees s.levels) c (sym element_inside))
              ∙ λ i. is_in_form (eq i) (is.degrees i) (is.levels i) c)

          pub inverse_bad : false ≡ is_in_form q s.degrees s.levels (seg 0 (size s.degrees s.levels) c) → inverse_number p n e t c r f v ≡ 5
          inverse_bad g = inverse-rest true false _ _ (lengths_told true fx) (form_told false g) refl refl

          module _ (fy : true ≡ is_in_form q s.degrees s.levels (seg 0 (size s.degrees s.levels) c)) (k : ℕ) (ek : k ≡ inverse_work s.degrees s.levels) where
            store_told : store ≡ leb k (length v)
            store_told = sym (ap (λ u. leb u (length v)) (ek ∙ ap₂ inverse_work is.degrees is.levels))

            pub inverse_few : length v < k → inverse_number p n e t c r f v ≡ 7
            inverse_few l = inverse-rest true true false _ (lengths_told true fx) (form_told true fy) (store_told ∙ lt-leb k (length v) l) refl

            -- the first word tells whether c is zero
            pub inverse_end : k ≤ length v → (b : Bool) → b ≡ eq_z (get_or c 0 (pos 0)) (head_of s.levels) → inverse_number p n e t c r f v ≡ unless (not b) 9 0
            inverse_end l b eb =
                inverse-rest true true true (not b) (lengths_told true fx) (form_told true fy) (store_told ∙ le-leb k (length v) l)
                (ap not
                (zero_head (num p) (degrees_of e) (num n) c (of_true _ (form_told true fy)) ∙ ap (λ i. eq_z (get_or c 0 (pos 0)) (head_of i)) (sym is.levels) ∙ sym eb))

-- at level 0 an inverse needs no work words
pub work-nothing : (d : List ℕ) (i : ℕ) → i ≡ 0 → inverse_work d i ≡ 0
unfolding inverse_work
work-nothing d i z = rw z refl

-- ---- with none
module _ (p n : ℤ) (e t c r f v : List ℤ) (passed : inverse_number p n e t c r f v ≡ 0) where
  abbrev d : List ℕ
  d = degrees_of e

  pub held : InverseHeld p n e t c r f v
  held = inverse-says p n e t c r f v 0 passed

  abbrev pub τ : TowerHeld p n e t
  τ = held.element.tower

  abbrev pub M : T (p_ok p)
  M = τ.range.modulus

  abbrev p_pos : 0 < num p
  p_pos = p_positive p M

  abbrev θ : Tower (num p) d (num n)
  θ = tower_in p n e t M

  -- the lengths
  c-length : length c ≡ size_of n e
  c-length = held.element.long.0

  pub r-length : length r ≡ size_of n e
  r-length = held.element.long.1.0

  pub f-length : length f ≡ size_of n e
  f-length = held.element.long.1.1

  -- what the sequence gives, and the call by it
  abbrev pub A : Answer (Shown (num p) d (num n)) (El (num p) d (num n))
  A = inverse_answer p n e t c r f v M

  abbrev by : Answer (Shown (num p) d (num n)) (El (num p) d (num n)) → Changed InverseWords
  by = inverse_by p n e t r f v M

  given : (X : Answer (Shown (num p) d (num n)) (El (num p) d (num n))) → A ≡ X → (a : CallAnswer) (r' f' v' : List ℤ)
      → said a ≡ (by X).said → r' ≡ (by X).words.inverse → f' ≡ (by X).words.factor → v' ≡ (by X).words.work → InverseGiven p n e t c r f v a r' f' v'
  given X q a r' f' v' ea er ef ev =
      let is = inverse_sequence p n e t c r f v passed M ∙ ap by q in record {
        answer = ea ∙ sym (ap (λ x. x.said) is);
        words = er ∙ sym (ap (λ x. x.words.inverse) is);
        factor = ef ∙ sym (ap (λ x. x.words.factor) is);
        work = ev ∙ sym (ap (λ x. x.words.work) is);
      }

  -- the words of the inverse are copied into r, those of a factor shown in f
  module _ (w v' : List ℤ) (ev : v' ≡ cleared (inverse_work d (num n)) v) where
    pub inverse_done : (at k : ℕ) → Inverts (num p) p_pos d (num n) θ w A at → k ≡ size_of n e → (r' : List ℤ) → Put 0 (seg at k w) r r'
        → InverseGiven p n e t c r f v Done r' f v'
    inverse_done at k I ek r' put =
        let here : seg at k w ≡ write (num p) d (num n) I.u = ap (λ j. seg at j w) ek ∙ I.stands in
        given (done-with I.u) I.is Done r' f v' refl
        (put_whole (write (num p) d (num n) I.u) r r' (r-length ∙ sym (write_long (num p) d (num n) I.u)) (subst (λ l. Put 0 l r r') here put)) refl ev

    pub inverse_shown : (l at k : ℕ) → Shows (num p) p_pos d (num n) θ w A l at → k ≡ size d l → (f' : List ℤ) → f' ≡ factor_buffer f (seg at k w)
        → InverseGiven p n e t c r f v (Factor l) r f' v'
    inverse_shown l at k S ek f' ef =
        given (shown S.factor) S.is (Factor l) r f' v' (ap factor S.level-is) refl (shows_buffer (num p) p_pos d (num n) θ w l at S k ek f f' ef) ev

    pub inverse_endless : A ≡ long → InverseGiven p n e t c r f v (Refused 11) r f v'
    inverse_endless q = given long q (Refused 11) r f v' refl refl refl ev

  -- the element stands in c
  element_stands : Stands (num p) d (num n) (element_of p n e c M) c 0
  element_stands =
      let x = held.element.held in
      seg_all (size d (num n)) c c-length ∙ sym x.holds ∙ ap (write (num p) d (num n)) (sym (element-is p n e c M x.this x.holds))

  ready-plain : (z : List ℕ) (w : List ℤ) (top : ℕ) → Sized d z → num n ≤ 4 → top + inverse_work d (num n) ≤ length w → RunReady (num n) d z (num p) t false 0 c false 0 w top
  ready-plain z w top sized low room = record {
    modulus = held-modulus p n e t τ;
    two = omega (arith, p_two p M);
    low = low;
    sized = sized;
    positive = held-positive p n e t τ;
    small = omega (arith, τ.range.shape.few);
    e_inside = record { inside = omega (arith, held-length p n e t τ); below = λ q. absurd (of_true false q) };
    x_inside = record { inside = omega (arith, c-length); below = λ q. absurd (of_true false q) };
    room = room;
    p_pos = p_pos;
    t = θ;
    v = element_of p n e c M;
    tower = held_stands p n e t τ;
    element = element_stands;
    some = inverse_not_zero p n e t c r f v held;
  }

  -- ---- with the values that the calls gave
  -- a level above has run: w are the work store's words, k of which are to be cleared
  pub record Worked : Type 0 where
    pub s : Shape
    pub is : ShapeOf n e s
    pub w : List ℤ
    pub o : Result ℕ Stop
    pub k : ℕ
    pub reached : Reached (num p) p_pos d (num n) θ A o w 0
    pub inside : inverse_work d (num n) ≤ length w
    pub clears : (k ≤ length w) × ((v' : List ℤ) → Put 0 (copies k (pos 0 ∷ [])) w v' → v' ≡ cleared (inverse_work d (num n)) v)

  module _ (s : Shape) (is : ShapeOf n e s) (q : ℕ) (eq : q ≡ num p) where
    size_of_lem : s.size ≡ size_of n e
    size_of_lem = size-found is

    pub run-ready : (i : ℕ) → i ≡ num n → (w : List ℤ) (top : ℕ) → top + inverse_work s.degrees i ≤ length w
        → RunReady i s.degrees s.sizes q t false 0 c false 0 w top
    run-ready i ei w top room =
        subst₃ (λ j x y. RunReady j x s.sizes y t false 0 c false 0 w top) (sym ei) (sym is.degrees) (sym eq)
        (ready-plain s.sizes w top (subst (λ x. Sized x s.sizes) is.degrees is.known.sized) (omega (arith, is.levels, is.known.low))
        (subst₂ (λ x j. top + inverse_work x j ≤ length w) is.degrees ei room))

    -- the work store that was lent serves, and r and f have words
    pub store-room : 0 + inverse_work s.degrees s.levels ≤ length v
    store-room = omega (arith, ap₂ inverse_work is.degrees is.levels, held.work)

    pub lent-some : (0 < length r) × (0 < length f)
    lent-some = (omega (arith, r-length, size-pos d (num n)), omega (arith, f-length, size-pos d (num n)))

    -- level 0: the answer is one word of its own, and no work words are needed
    module _ (z : s.levels ≡ 0) (w w' : List ℤ) (o : Result (Unit {0}) Stop) (g : InvertDone 0 s.degrees q t false 0 c false 0 w w' 0 1 o) where
      level-none : 0 ≡ num n
      level-none = sym z ∙ is.levels

      came : Came (num p) p_pos d (num n) θ A o w' 0
      came =
          (subst₃ (λ j x y. InvertDone j x y t false 0 c false 0 w w' 0 1 o) level-none is.degrees eq g).done
          p_pos θ (element_of p n e c M) (held_stands p n e t τ) element_stands (inverse_not_zero p n e t c r f v held)

      work-kept : v ≡ cleared (inverse_work d (num n)) v
      work-kept = cleared-nothing (inverse_work d (num n)) v (work-nothing d (num n) (sym level-none))

      pub number_done : o ≡ Ok tt → (r' : List ℤ) → Put 0 (seg 0 1 w') r r' → InverseGiven p n e t c r f v Done r' f v
      number_done u r' put =
          inverse_done w' v work-kept 0 1 (came_done (num p) p_pos d (num n) θ w' A o 0 came u) (sym (size-zero d) ∙ ap (size d) level-none) r' put

      -- a factor is a number: it has the level 0, and is the store's word
      module _ (l at : ℕ) (u : o ≡ Err (FactorOf l at)) where
        number_factor : Shows (num p) p_pos d (num n) θ w' A l at × (at ≡ 0)
        number_factor = came_shown (num p) p_pos d (num n) θ w' A o 0 l at came u

        pub number_level : l ≡ 0
        number_level = omega (arith, shows_level (num p) p_pos d (num n) θ w' l at number_factor.0, level-none)

        pub number_word : (at ≡ 0) × (get_or s.sizes l 0 ≡ 1)
        number_word = (number_factor.1, level-size is l (omega (arith, number_level)) _ refl ∙ ap (size d) number_level ∙ size-zero d)

        pub number_shown : (f' : List ℤ) → f' ≡ factor_buffer f (seg at (get_or s.sizes l 0) w') → InverseGiven p n e t c r f v (Factor l) r f' v
        number_shown f' ef = inverse_shown w' v work-kept l at _ number_factor.0 (level-size is l (omega (arith, number_level)) _ refl) f' ef

      pub number_long : o ≡ Err Long → InverseGiven p n e t c r f v (Refused 11) r f v
      number_long u = inverse_endless w' v work-kept (came_long (num p) p_pos d (num n) θ w' A o 0 came u)

    -- a level above has run: w are the store's words, o what came of it
    module _ (k : ℕ) (ek : k ≡ inverse_work s.degrees s.levels) (w : List ℤ) (o : Result ℕ Stop) (g : RunDone s.levels s.degrees q t false 0 c false 0 v w 0 o) where
      work-is : k ≡ inverse_work d (num n)
      work-is = ek ∙ ap₂ inverse_work is.degrees is.levels

      pub is_reached : Reached (num p) p_pos d (num n) θ A o w 0
      is_reached =
          (subst₃ (λ j x y. RunDone j x y t false 0 c false 0 v w 0 o) is.levels is.degrees eq g).done
          p_pos θ (element_of p n e c M) (held_stands p n e t τ) element_stands (inverse_not_zero p n e t c r f v held)

      pub is_inside : inverse_work d (num n) ≤ length w
      is_inside = omega (arith, held.work, g.frame.long)

      pub is-cleared : (k ≤ length w) × ((v' : List ℤ) → Put 0 (copies k (pos 0 ∷ [])) w v' → v' ≡ cleared (inverse_work d (num n)) v)
      is-cleared = (
        omega (arith, work-is, is_inside),
        λ v' put. cleared_by (inverse_work s.degrees s.levels) k v w v' (omega arith) (omega (arith, work-is, held.work)) g.frame put ∙ ap (λ j. cleared j v) work-is,
      )

      abbrev pub worked : Worked
      worked = record { s = s; is = is; w = w; o = o; k = k; reached = is_reached; inside = is_inside; clears = is-cleared }

pub inverse-plain : {p n : ℤ} {e t c r f v : List ℤ} {a : CallAnswer} {r' f' v' : List ℤ} → SFits w64 p → SFits w64 n
    → InverseGiven (to_z w64 (of_z w64 p)) (to_z w64 (of_z w64 n)) e t c r f v a r' f' v' → InverseGiven p n e t c r f v a r' f' v'
inverse-plain {p} {n} {e} {t} {c} {r} {f} {v} {a} {r'} {f'} {v'} fp fn h =
    subst₂ (λ x y. InverseGiven x y e t c r f v a r' f' v') (to_z-of_z w64 p fp) (to_z-of_z w64 n fn) h

-- Laws of the GCD of two polynomials.
--
-- elements_copied == elements that are copied
-- gcd_refused     == the call with a number
-- slots_some, few_counts == with none the slots have words, and the degree words count few
-- g-length, f-length == the lengths of the slots and of the factor buffer
-- A, by, given       == the sequence's answer, and the call by it
-- few_words, a_inside, b_inside == the words that are copied into the work store;  find_ready == then the sequence may run
-- sought_done            == what it leaves;  Sought, sought == what it came to
-- gcd-plain              == the same of the numbers before they went through a call
use Rattle.kernel.proofs.Order.{number_some}
use Rattle.kernel.proofs.Seeking.{needed-found}
use Rattle.kernel.proofs.Shapes.{size-found}
use Rattle.kernel.proofs.Slotting.{cleared_by, allowed_long, count_low, count-words, held-length, held_stands, held-modulus, held-positive}
use Rattle.kernel.specs.Answered.{tower_in, level_of}
use Rattle.kernel.specs.Answers.{said, number_of}
use Rattle.kernel.specs.Calls.{size_of, coefficients_of, length_ok, form_ok}
use Rattle.kernel.specs.GcdAnswers.{GcdMeans, gcd_answer, gcd_sequence}
use Rattle.kernel.specs.GcdMeaning.{gcd-passed, gcd_refused as refused-words}
use Rattle.kernel.specs.Gcds.{gcd_needed, gcd_number, GcdWords, gcd_by}
use Rattle.kernel.specs.Meaning.{TowerHeld}
use Rattle.kernel.specs.Parts.{SoughtDone}
use Rattle.kernel.specs.Shape.{ShapeOf}
use Rattle.kernel.specs.declared.refusals.Refusal.{Refusal}
use Rattle.kernel.specs.declared.shape.Shape.{Shape}
use Rattle.kernel.specs.Promises.{GcdGiven}
use Rattle.kernel.specs.Refusals.{refused}
use Rattle.kernel.specs.SlotLaws.{held_below, held-top, held_few, held-words}
use Rattle.kernel.specs.SlotMeaning.{length_iff, form_iff}
use Rattle.kernel.specs.Slots.{degree_count, coefficients_in, polynomial_of, Changed, cleared}
use Rattle.kernel.specs.declared.Answer.{Answer as CallAnswer}
use Rattle.kernel.specs.declared.Answer.TheVariants.{Refused}
use Rattle.euclid.specs.Answer.{Answer}
use Rattle.euclid.specs.Gcd.{Made, nothing, gcd as gcd-of}
use Rattle.euclid.specs.Steps.{gcd-same}
use Rattle.euclid.specs.Towers.{Shown}
use Rattle.sequences.specs.Gcds.{Sited, Polynomial, GcdReady, GcdDone, Finds}
use Rattle.sequences.specs.declared.Greatest.{Greatest}
use Rattle.sequences.specs.declared.Stop.{Stop}
use Rattle.std.specs.Prelude.{Result}
use Rattle.products.specs.Product.{Elements}
use Rattle.arithmetic.specs.Rows.{block_inside}
use Rattle.algebra.specs.Vec.{coef-trunc, trunc}
use Rattle.residue.specs.Word.{num}
use Rattle.tower.proofs.Working.{gcd-is}
use Rattle.tower.specs.Form.{seg, copies}
use Rattle.tower.specs.Levels.{El, Tower, group}
use Rattle.tower.specs.Limits.{p_ok, p_two, p_positive, degrees_of}
use Rattle.tower.specs.Lists.{of_true, seg-seg, seg_long}
use Rattle.tower.specs.Ready.{Sized}
use Rattle.tower.specs.Store.{Kept, Put, put-kept, put-seg, kept-seg, kept_trans, kept-wide}
use Rattle.tower.specs.Work.{inverse_work}
use Rattle.tower.specs.Writing.{size}
use mir.Syntax.{w64}
use mir.Val.{SFits, to_z, of_z}
use mir.ValLaws.{to_z-of_z}
use mathlib.Core.Path.{◌≡◌, refl, sym, ap, ◌∙◌, subst, ap₂, subst₃, subst₂}
use mathlib.Core.Bool.{false}
use mathlib.Core.List.{List, [], ◌∷◌}
use mathlib.Core.Logic.{inl, inr}
use Prim.Native.Nat.{ℕ, suc, ◌+◌, ◌-◌, ◌*◌, ◌^◌, ◌<◌, ◌≤◌}
use native.Mathlib.Nat.{mul-le-mul_right}
use native.Mathlib.Omega.{arith}
use lib.IntN.{ℤ, pos}
use lib.Dec.{T, T_prop}
use lib.ListN.{length}

-- ---- elements that are copied
pub elements_copied : (p : ℕ) (d : List ℕ) (i n : ℕ) (u : ℕ → El p d i) (x y y' : List ℤ) (a b : ℕ) → a + n * size d i ≤ length x
    → Elements p d i n u x a → Put b (seg a (n * size d i) x) y y' → Elements p d i n u y' b
elements_copied p d i n u x y y' a b inside h put k l =
    let fits = block_inside k n (size d i) l in
    sym (seg-seg b (n * size d i) (k * size d i) (size d i) y' fits)
    ∙ ap (seg (k * size d i) (size d i)) (put-seg (n * size d i) (seg_long a (n * size d i) x inside) put)
    ∙ seg-seg a (n * size d i) (k * size d i) (size d i) x fits
    ∙ h k l

-- ---- with a number
pub gcd_refused : (p n : ℤ) (e t a b g f v : List ℤ) (r : Refusal) → gcd_number p n e t a b g f v ≡ number_of r
    → GcdGiven p n e t a b g f v (Refused (number_of r)) g f v
gcd_refused p n e t a b g f v r h =
    let one : number_of r ≡ suc (number_of r - 1) = omega (arith, number_some r) in
    let is = refused-words p n e t a b g f v (number_of r - 1) (h ∙ one) in record {
      answer = ap refused one ∙ sym (ap (λ x. x.said) is);
      words = sym (ap (λ x. x.words.gcd) is);
      factor = sym (ap (λ x. x.words.factor) is);
      work = sym (ap (λ x. x.words.work) is);
    }

-- ---- with none
module _ (p n : ℤ) (e t a b g f v : List ℤ) (passed : gcd_number p n e t a b g f v ≡ 0) where
  abbrev d : List ℕ
  d = degrees_of e

  abbrev S : ℕ
  S = size_of n e

  abbrev pub held : GcdMeans p n e t a b g f v 0
  held = gcd-passed p n e t a b g f v passed

  abbrev pub τ : TowerHeld p n e t
  τ = held.slots.tower

  abbrev pub M : T (p_ok p)
  M = τ.range.modulus

  abbrev p_pos : 0 < num p
  p_pos = p_positive p M

  abbrev θ : Tower (num p) (degrees_of e) (num n)
  θ = tower_in p n e t M

  -- the slots and the factor buffer
  long_a : T (length_ok n e a)
  long_a = (length_iff n e a).1 held.slots.long.0

  long_b : T (length_ok n e b)
  long_b = (length_iff n e b).1 held.slots.long.1.0

  form_a : T (form_ok p n e a)
  form_a = (form_iff p n e M a).1 held.slots.held_a

  form_b : T (form_ok p n e b)
  form_b = (form_iff p n e M b).1 held.slots.held_b

  pub g-length : 1 + coefficients_of n e g * S ≡ length g
  g-length = allowed_long n e g ((length_iff n e g).1 held.slots.long.1.1.0)

  pub f-length : length f ≡ S
  f-length = held.slots.long.1.1.1

  pub slots_some : (0 < length a) × (0 < length b) × (0 < length g)
  slots_some = (omega (arith, allowed_long n e a long_a), omega (arith, allowed_long n e b long_b), omega (arith, g-length))

  pub few_counts : (degree_count a ≤ 256) × (degree_count b ≤ 256)
  few_counts = (count_low p n e a M long_a form_a, count_low p n e b M long_b form_b)

  -- the coefficients that a degree word counts stand in its slot
  counted : (x : List ℤ) → T (length_ok n e x) → T (form_ok p n e x) → 1 + degree_count x * S ≤ length x
  counted x l k = omega (arith, mul-le-mul_right S (held_few p n e M x k), allowed_long n e x l)

  a_counted : 1 + degree_count a * S ≤ length a
  a_counted = counted a long_a form_a

  b_counted : 1 + degree_count b * S ≤ length b
  b_counted = counted b long_b form_b

  coefficients_stand : (x : List ℤ) → T (form_ok p n e x) → Elements (num p) d (num n) (degree_count x) (coefficients_in p n e M x) x 1
  coefficients_stand x k j l =
      let one : 1 + j * S ≡ suc (j * S) = omega arith in
      ap (λ i. seg i S x) one ∙ held-words p n e M x k j (omega (arith, held_few p n e M x k))

  leading : (x : List ℤ) → T (form_ok p n e x) → 0 < degree_count x → ¬ (coefficients_in p n e M x (degree_count x - 1) ≡ (group (num p) p_pos d (num n)).𝟘)
  leading x k l = held-top p n e M x k (degree_count x - 1) (omega arith)

  -- what the sequence gives, and the call by it
  abbrev pub A : Answer (Shown (num p) d (num n)) (Made (El (num p) d (num n)) (Unit {0}))
  A = gcd_answer p n e t a b g f v M

  abbrev pub by : Answer (Shown (num p) d (num n)) (Made (El (num p) d (num n)) (Unit {0})) → Changed GcdWords
  by = gcd_by p n e t a b g f v M

  pub given : (X : Answer (Shown (num p) d (num n)) (Made (El (num p) d (num n)) (Unit {0}))) → A ≡ X → (r : CallAnswer) (g' f' v' : List ℤ)
      → said r ≡ (by X).said → g' ≡ (by X).words.gcd → f' ≡ (by X).words.factor → v' ≡ (by X).words.work → GcdGiven p n e t a b g f v r g' f' v'
  given X q r g' f' v' er eg ef ev =
      let is = gcd_sequence p n e t a b g f v passed M ∙ ap by q in record {
        answer = er ∙ sym (ap (λ x. x.said) is);
        words = eg ∙ sym (ap (λ x. x.words.gcd) is);
        factor = ef ∙ sym (ap (λ x. x.words.factor) is);
        work = ev ∙ sym (ap (λ x. x.words.work) is);
      }

  -- it starts from the coefficients that the degree words count
  started :
      gcd-of (level_of p n e t M) (degree_count a) (trunc (degree_count a) (coefficients_in p n e M a)) (degree_count b) (trunc (degree_count b) (coefficients_in p n e M b)) ≡ A
  started =
      gcd-same (level_of p n e t M) (nothing (El (num p) d (num n))) (degree_count a) _ (coefficients_of n e a) (polynomial_of p n e M (coefficients_of n e a) a) tt
      (degree_count b) _ (coefficients_of n e b) (polynomial_of p n e M (coefficients_of n e b) b) tt
      (coef-trunc (group (num p) p_pos d (num n)).𝟘 (degree_count a) (coefficients_in p n e M a) (held_below p n e M a form_a))
      (coef-trunc (group (num p) p_pos d (num n)).𝟘 (degree_count b) (coefficients_in p n e M b) (held_below p n e M b form_b))

  -- ---- the work store: a copy of a behind its first word, a copy of b from row on, two inverses from unit on, and the words of an inverse
  module _ (row unit : ℕ) (er : row ≡ degree_count a * S + 2) (eu : unit ≡ row + degree_count b * S) where
    needed-is : unit + 2 * S + inverse_work d (num n) ≡ gcd_needed n e a b
    needed-is = omega (arith, gcd-is d (num n) (degree_count a) (degree_count b) S (inverse_work d (num n)) _ refl refl refl)

    sited : (z : List ℕ) → Sized d z → num n ≤ 4 → (w : List ℤ) → length w ≡ length v
        → Sited (num n) d z (num p) t false 0 1 unit (degree_count a) row (unit + S) (degree_count b) w (unit + 2 * S)
    sited z sized low w same = record {
      modulus = held-modulus p n e t τ;
      two = omega (arith, p_two p M);
      low = low;
      sized = sized;
      positive = held-positive p n e t τ;
      small = omega (arith, τ.range.shape.few);
      e_inside = record { inside = omega (arith, held-length p n e t τ); below = λ q. absurd (of_true false q) };
      room = omega (arith, needed-is, held.more);
      first = record {
        behind = omega arith;
        row_below = omega arith;
        unit_below = omega arith;
        few = count-words p n e a M long_a form_a τ.range.shape.few;
        e_row = λ q. absurd (of_true false q);
        e_unit = λ q. absurd (of_true false q);
        apart = inr (omega arith);
      };
      second = record {
        behind = omega arith;
        row_below = omega arith;
        unit_below = omega arith;
        few = count-words p n e b M long_b form_b τ.range.shape.few;
        e_row = λ q. absurd (of_true false q);
        e_unit = λ q. absurd (of_true false q);
        apart = inr (omega arith);
      };
      rows = inl (omega arith);
      units = inl (omega arith);
      f_away = inr (omega arith);
      g_away = inr (omega arith);
    }

    module _ (v₁ v₂ : List ℤ) (put_a : Put 1 (seg 1 (degree_count a * S) a) v v₁) (put_b : Put row (seg 1 (degree_count b * S) b) v₁ v₂) where
      kept_a : Kept 1 (degree_count a * S) v v₁
      kept_a = put-kept (degree_count a * S) (seg_long 1 (degree_count a * S) a a_counted) put_a

      kept_b : Kept row (degree_count b * S) v₁ v₂
      kept_b = put-kept (degree_count b * S) (seg_long 1 (degree_count b * S) b b_counted) put_b

      left : Polynomial (num p) p_pos d (num n) (degree_count a) (coefficients_in p n e M a) v₂ 1
      left = record {
        stands = λ j l.
            kept-seg (1 + j * S) S (inl (omega (arith, block_inside j (degree_count a) S l))) kept_b
            ∙ elements_copied (num p) d (num n) (degree_count a) (coefficients_in p n e M a) a v v₁ 1 1 a_counted (coefficients_stand a form_a) put_a j l;
        leads = leading a form_a;
      }

      right : Polynomial (num p) p_pos d (num n) (degree_count b) (coefficients_in p n e M b) v₂ row
      right = record {
        stands = elements_copied (num p) d (num n) (degree_count b) (coefficients_in p n e M b) b v₁ v₂ 1 row b_counted (coefficients_stand b form_b) put_b;
        leads = leading b form_b;
      }

      ready-plain : (z : List ℕ) → Sized d z → num n ≤ 4 → GcdReady (num n) d z (num p) t false 0 1 unit (degree_count a) row (unit + S) (degree_count b) v₂ (unit + 2 * S)
      ready-plain z sized low = record {
        sited = sited z sized low v₂ (kept_b.long ∙ kept_a.long);
        p_pos = p_pos;
        t = θ;
        a = coefficients_in p n e M a;
        b = coefficients_in p n e M b;
        tower = held_stands p n e t τ;
        left = left;
        right = right;
      }

      module _ (w : List ℤ) (o : Result Greatest Stop) (D : GcdDone (num n) d (num p) t false 0 1 unit (degree_count a) row (unit + S) (degree_count b) v₂ w (unit + 2 * S) o) where
        found_plain : Finds (num p) p_pos d (num n) θ A o w (unit + 2 * S)
        found_plain =
            subst (λ X. Finds (num p) p_pos d (num n) θ X o w (unit + 2 * S)) started
            (D.done p_pos θ (coefficients_in p n e M a) (coefficients_in p n e M b) (held_stands p n e t τ) left right)

        work-kept : Kept 0 (gcd_needed n e a b) v w
        work-kept =
            kept_trans (kept-wide (omega arith) (omega (arith, needed-is)) kept_a)
            (kept_trans (kept-wide (omega arith) (omega (arith, needed-is)) kept_b)
            (kept-wide (omega arith) (omega (arith, needed-is)) (D.frame 0 (omega arith) (omega arith) (omega arith) (omega arith) (omega arith))))

  -- ---- with the values that the calls gave
  -- the sequence has run: w are the store's words, o what it found, whose words stand below top, and c of the store's words are to be cleared
  pub record Sought : Type 0 where
    pub s : Shape
    pub is : ShapeOf n e s
    pub w : List ℤ
    pub o : Result Greatest Stop
    pub top : ℕ
    pub c : ℕ
    pub found : Finds (num p) p_pos d (num n) θ A o w top
    pub inside : top ≤ length w
    pub clears : (c ≤ length w) × ((v' : List ℤ) → Put 0 (copies c (pos 0 ∷ [])) w v' → v' ≡ cleared (gcd_needed n e a b) v)

  -- few words of a and b are copied
  pub few_words : (s : Shape) → ShapeOf n e s → (j k : ℕ) → j ≡ degree_count a → k ≡ degree_count b → (j * s.size ≤ 2 ^ 31) × (k * s.size ≤ 2 ^ 31)
  few_words s is j k ej ek =
      let size_of_lem = size-found is in (
        omega (arith, ap₂ ◌*◌ ej size_of_lem, count-words p n e a M long_a form_a τ.range.shape.few),
        omega (arith, ap₂ ◌*◌ ek size_of_lem, count-words p n e b M long_b form_b τ.range.shape.few),
      )

  -- `first` is the place behind the copy of a, and `unit` that of the two inverses
  module _ (s : Shape) (is : ShapeOf n e s) (j k : ℕ) (ej : j ≡ degree_count a) (ek : k ≡ degree_count b)
      (first : ℕ) (e-first : first ≡ 0 + 1 + j * s.size) (unit : ℕ) (e_unit : unit ≡ first + 1 - 1 + 1 + k * s.size) where
    size_of_lem : s.size ≡ S
    size_of_lem = size-found is

    a_words : j * s.size ≡ degree_count a * S
    a_words = ap₂ ◌*◌ ej size_of_lem

    b_words : k * s.size ≡ degree_count b * S
    b_words = ap₂ ◌*◌ ek size_of_lem

    row_is : first + 1 ≡ degree_count a * S + 2
    row_is = omega (arith, e-first, a_words)

    unit_is : unit ≡ first + 1 + degree_count b * S
    unit_is = omega (arith, e_unit, b_words)

    fits : unit + 2 * S + inverse_work d (num n) ≤ length v
    fits = omega (arith, needed-is (first + 1) unit row_is unit_is, held.more)

    pub a_inside : (1 + j * s.size ≤ length a) × (1 + j * s.size ≤ length v)
    a_inside = (omega (arith, a_words, a_counted), omega (arith, e-first, e_unit, fits))

    module _ (v₁ : List ℤ) (put_a : Put 1 (seg 1 (j * s.size) a) v v₁) where
      copied_a : Put 1 (seg 1 (degree_count a * S) a) v v₁
      copied_a = subst (λ l. Put 1 (seg 1 l a) v v₁) a_words put_a

      pub b_inside : (1 + k * s.size ≤ length b) × (first + 1 + k * s.size ≤ length v₁)
      b_inside = (omega (arith, b_words, b_counted), omega (arith, e_unit, fits, put_a.kept.long))

      module _ (v₂ : List ℤ) (put_b : Put (first + 1) (seg 1 (k * s.size) b) v₁ v₂) where
        copied_b : Put (first + 1) (seg 1 (degree_count b * S) b) v₁ v₂
        copied_b = subst (λ l. Put (first + 1) (seg 1 l b) v₁ v₂) b_words put_b

        pub find_ready : (q : ℕ) → q ≡ num p → GcdReady s.levels s.degrees s.sizes q t false 0 1 unit j (first + 1) (unit + s.size) k v₂ (unit + 2 * s.size)
        find_ready q eq =
            subst₃ (λ i x y. GcdReady i x s.sizes y t false 0 1 unit j (first + 1) (unit + s.size) k v₂ (unit + 2 * s.size))
            (sym is.levels) (sym is.degrees) (sym eq)
            (subst₃ (λ x y l. GcdReady (num n) d s.sizes (num p) t false 0 1 unit x (first + 1) (unit + l) y v₂ (unit + 2 * l)) (sym ej) (sym ek) (sym size_of_lem)
            (ready-plain (first + 1) unit row_is unit_is v₁ v₂ copied_a copied_b s.sizes
            (subst (λ x. Sized x s.sizes) is.degrees is.known.sized) (omega (arith, is.levels, is.known.low))))

        -- the sequence has run
        module _ (q : ℕ) (eq : q ≡ num p) (w : List ℤ) (o : Result Greatest Stop)
            (D : GcdDone s.levels s.degrees q t false 0 1 unit j (first + 1) (unit + s.size) k v₂ w (unit + 2 * s.size) o) where
          done_plain : GcdDone (num n) d (num p) t false 0 1 unit (degree_count a) (first + 1) (unit + S) (degree_count b) v₂ w (unit + 2 * S) o
          done_plain =
              subst₃ (λ x y l. GcdDone (num n) d (num p) t false 0 1 unit x (first + 1) (unit + l) y v₂ w (unit + 2 * l) o) ej ek size_of_lem
              (subst₃ (λ i x y. GcdDone i x y t false 0 1 unit j (first + 1) (unit + s.size) k v₂ w (unit + 2 * s.size) o) is.levels is.degrees eq D)

          is-kept : Kept 0 (gcd_needed n e a b) v w
          is-kept = work-kept (first + 1) unit row_is unit_is v₁ v₂ copied_a copied_b w o done_plain

          pub sought_done : SoughtDone p n e t a b v w o
          sought_done = record {
            top = unit + 2 * S;
            inside = omega (arith, fits, is-kept.long);
            kept = is-kept;
            modulus = M;
            finds = found_plain (first + 1) unit row_is unit_is v₁ v₂ copied_a copied_b w o done_plain;
          }

  -- it has run, and c work words are to be cleared
  module _ (s : Shape) (is : ShapeOf n e s) (w : List ℤ) (o : Result Greatest Stop) (D : SoughtDone p n e t a b v w o)
      (c : ℕ) (ec : c ≡ degree_count a * s.size + 1 + (degree_count b * s.size + 1) + 2 * s.size + inverse_work s.degrees s.levels) where
    pub is_found : Finds (num p) p_pos d (num n) θ A o w D.top
    is_found =
        subst (λ m. Finds (num p) (p_positive p m) d (num n) (tower_in p n e t m) (gcd_answer p n e t a b g f v m) o w D.top)
        (T_prop (p_ok p) D.modulus M) D.finds

    pub is-cleared : (c ≤ length w) × ((v' : List ℤ) → Put 0 (copies c (pos 0 ∷ [])) w v' → v' ≡ cleared (gcd_needed n e a b) v)
    is-cleared =
        let needs = needed-found is a b c ec in
        let more = held.more in (
          omega (arith, needs, more, D.kept.long),
          λ v' put. cleared_by (gcd_needed n e a b) c v w v' (omega (arith, needs)) (omega (arith, needs, more)) D.kept put ∙ ap (λ x. cleared x v) needs,
        )

    abbrev pub sought : Sought
    sought = record { s = s; is = is; w = w; o = o; top = D.top; c = c; found = is_found; inside = D.inside; clears = is-cleared }

pub gcd-plain : {p n : ℤ} {e t a b g f v : List ℤ} {r : CallAnswer} {g' f' v' : List ℤ} → SFits w64 p → SFits w64 n
    → GcdGiven (to_z w64 (of_z w64 p)) (to_z w64 (of_z w64 n)) e t a b g f v r g' f' v' → GcdGiven p n e t a b g f v r g' f' v'
gcd-plain {p} {n} {e} {t} {a} {b} {g} {f} {v} {r} {g'} {f'} {v'} fp fn h =
    subst₂ (λ x y. GcdGiven x y e t a b g f v r g' f' v') (to_z-of_z w64 p fp) (to_z-of_z w64 n fn) h

-- Laws of the shape of a tower whose N and degrees are in range.
use Prim.Native.Nat.{ℕ, ◌+◌, ◌*◌, ◌<◌, ◌≤◌}
use mathlib.Core.Path.{◌≡◌, refl, sym, ap, ap₂, ◌∙◌, subst}
use mathlib.Core.Bool.{Bool, true, false}
use mathlib.Core.List.{List}
use Rattle.std.specs.Prelude.{Result}
use native.Mathlib.Omega.{arith}
use lib.IntN.{ℤ}
use lib.ListN.{length, get_or}
use Rattle.kernel.specs.declared.refusals.Refusal.{Refusal}
use Rattle.kernel.specs.declared.shape.Shape.{Shape}
use Rattle.kernel.proofs.Order.{tower-rest, slot-rest, seg_all, shape-passed, passed_small, passed-low, passed_few}
use Rattle.kernel.proofs.Range.{base_shape}
use Rattle.kernel.proofs.Working.{passed_big}
use Rattle.kernel.specs.Calls.{size_of, length_ok, form_ok, shape_number, base_number, tower_number, slot_number}
use Rattle.kernel.specs.Refusals.{unless}
use Rattle.kernel.specs.Shape.{Known, ShapeOf, Checked}
use Rattle.residue.specs.Word.{num}
use Rattle.tower.proofs.Lengths.{length-is}
use Rattle.tower.specs.Form.{seg, slot_form, tower_form}
use Rattle.tower.specs.Levels.{degree}
use Rattle.tower.specs.Limits.{p_ok, degrees_of, slot_length, slot_count}
use Rattle.tower.specs.Ready.{Sized, Small, Row}
use Rattle.tower.specs.Writing.{size, size-pos}

module _ (n : ℤ) (e : List ℤ) (h : 0 ≡ shape_number n e) where
  pub shape_small : Small (degrees_of e)
  shape_small = passed_small n e (shape-passed n e (sym h))

  pub shape-low : num n ≤ 4
  shape-low = passed-low n e (shape-passed n e (sym h))

  shape_known : (m : ℕ) (d z : List ℕ) (s : ℕ) → num n ≡ m → degrees_of e ≡ d → Sized d z → s ≡ get_or z m 0 → Known (record { levels = m; degrees = d; sizes = z; size = s })
  shape_known m d z s em ed sz es =
      let low : m ≤ 4 = omega (arith, shape-low) in
      let is : s ≡ size d m = es ∙ sz.at m low in
      record {
        low = low;
        sized = sz;
        small = subst Small ed shape_small;
        some = λ k l. subst (λ x. 1 ≤ degree x k) ed (let q = passed_big n e (shape-passed n e (sym h)) k (omega arith) in omega arith);
        is-size = is;
        few = omega (arith, is, ap₂ size ed em, passed_few n e (shape-passed n e (sym h)));
      }

  pub shape-made : (m : ℕ) (d z : List ℕ) (s : ℕ) → m ≡ num n → d ≡ degrees_of e → Sized d z → s ≡ get_or z m 0 → ShapeOf n e (record { levels = m; degrees = d; sizes = z; size = s })
  shape-made m d z s em ed sz es = record { levels = em; degrees = ed; known = shape_known m d z s (sym em) (sym ed) sz es }

-- ---- a slot of a length that is allowed
module _ (s : Shape) (l : ℕ) (h : slot_length s.size l ≡ true) where
  pub slot-words : l ≡ slot_count s.size l * s.size + 1
  slot-words = length-is s.size l h

module _ (s : Shape) (a : List ℤ) (k : Known s) (h : slot_length s.size (length a) ≡ true) where
  long : length a ≡ slot_count s.size (length a) * size s.degrees s.levels + 1
  long = slot-words s (length a) h ∙ ap (λ x. slot_count s.size (length a) * x + 1) k.is-size

  pub slot_row : Row s.levels (slot_count s.size (length a)) s.degrees s.sizes a 0
  slot_row = record { low = k.low; sized = k.sized; inside = omega (arith, long) }

  pub slot_whole : (p : ℕ) → slot_form p s.degrees s.levels (slot_count s.size (length a)) (seg 0 (slot_count s.size (length a) * size s.degrees s.levels + 1) a)
      ≡ slot_form p s.degrees s.levels (slot_count s.size (length a)) a
  slot_whole p = ap (slot_form p s.degrees s.levels (slot_count s.size (length a))) (seg_all _ a long)

  pub size-positive : 0 < s.size
  size-positive = omega (arith, k.is-size, size-pos s.degrees s.levels)

-- ---- what a call learns from the tests of its callees
-- where p is in range, what the shape's tests come to
pub base-checked : (p n : ℤ) (e : List ℤ) (r : Result Shape Refusal) → p_ok p ≡ true → Checked (shape_number n e) n e r → Checked (base_number p n e) n e r
base-checked p n e r h k = subst (λ m. Checked m n e r) (base_shape n e p _ h refl) k

module _ {n : ℤ} {e : List ℤ} {s : Shape} (is : ShapeOf n e s) where
  -- the size of a coefficient
  pub size-found : s.size ≡ size_of n e
  size-found = is.known.is-size ∙ ap₂ size is.degrees is.levels

  -- and of a level
  pub level-size : (l : ℕ) → l ≤ 4 → (k : ℕ) → k ≡ get_or s.sizes l 0 → k ≡ size (degrees_of e) l
  level-size l h k ek = ek ∙ is.known.sized.at l h ∙ ap (λ d. size d l) is.degrees

  pub length-found : (a : List ℤ) (b : Bool) → b ≡ slot_length s.size (length a) → length_ok n e a ≡ b
  length-found a b eb = sym (eb ∙ ap (λ m. slot_length m (length a)) size-found)

  module _ (p : ℤ) (q : ℕ) (eq : q ≡ num p) where
    pub form-found : (a : List ℤ) (b : Bool) → b ≡ slot_form q s.degrees s.levels (slot_count s.size (length a)) a → form_ok p n e a ≡ b
    form-found a b eb = sym (eb ∙ λ i. slot_form (eq i) (is.degrees i) (is.levels i) (slot_count (size-found i) (length a)) a)

    module _ (t : List ℤ) where
      -- the number that the last test of a call comes to
      pub tower-answered : base_number p n e ≡ 0 → (b : Bool) → b ≡ tower_form q s.degrees s.levels t → tower_number p n e t ≡ unless b 3 0
      tower-answered h b eb = tower-rest p n e t h b (sym (eb ∙ λ i. tower_form (eq i) (is.degrees i) (is.levels i) t))

      pub slot-answered : (a : List ℤ) → tower_number p n e t ≡ 0 → true ≡ slot_length s.size (length a)
          → (b : Bool) → b ≡ slot_form q s.degrees s.levels (slot_count s.size (length a)) a → slot_number p n e t a ≡ unless b 5 0
      slot-answered a h k b eb = slot-rest p n e t a h true b (length-found a true k) (form-found a b eb)

  pub slot_unfit : (p : ℤ) (t a : List ℤ) → tower_number p n e t ≡ 0 → false ≡ slot_length s.size (length a) → slot_number p n e t a ≡ 4
  slot_unfit p t a h k = slot-rest p n e t a h false _ (length-found a false k) refl

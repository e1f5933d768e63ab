-- Laws of the answers to operations: what the call for the lists that are lent prints is what the definition prints.
--
-- part_long                              == the parts of stores that are lent
-- part-ready, element_few, slot_few      == there is room for them
-- gcd_told, div_told, mul_told, inv_told == the answers where no operand is missing
use Prim.Native.Nat.{ℕ, zero, suc, ◌<◌, ◌≤◌}
use mathlib.Core.Bool.{Bool, true, cond, ◌&&◌}
use mathlib.Core.List.{List}
use mathlib.Core.Path.{◌≡◌, refl, sym, ap, ap₂, ◌∙◌}
use native.Mathlib.Omega.{arith}
use borrow.Author.Tests.{lt-ltb}
use lib.Dec.{ltb}
use lib.IntN.{ℤ, pos}
use lib.ListN.{length, take, length-take}
use lib.Seq.{length-take-le}
use Rattle.kernel.specs.SlotLaws.{zeros_long}
use Rattle.text.specs.Fields.{most_words}
use Rattle.lines.specs.declared.Kept.{Kept}
use Rattle.lines.specs.declared.Ring.{Ring}
use Rattle.lines.specs.Answers.{gcd_text, div_text, mul_text, inv_text, out_bytes, LineReady}
use Rattle.lines.specs.Kept.{state_of, Sound, RingKept, WordStore, AnswerStore, FactorStore, WorkStore}
use Rattle.lines.specs.Reading.{gcd, div, mul, inv}
use Rattle.lines.specs.Steps.{lent_element, answer_words, slot_words, most_element, lent, work_words, there, printed}
use Rattle.lines.proofs.Lending.{gcd-same, div_same, mul-same, inv-same}
use Rattle.lines.proofs.Lent.{element-lent, slot_lent}

-- ---- the lists that are lent
-- a part of a store has as many words as it is asked to have
pub part_long : (n : ℕ) (x : List ℤ) (m : ℕ) → length x ≡ m → n ≤ m → n ≡ length (take n x)
part_long n x m h l = sym (length-take-le n x (omega arith))

-- a part has as many words as the list that the definition lends
lent_long : (n : ℕ) (x : List ℤ) (m : ℕ) → n ≡ m → n ≤ length x → length (take n x) ≡ length (lent m)
lent_long n x m q h = length-take-le n x h ∙ q ∙ sym (zeros_long m)

-- it may be printed
pub part-ready : (n : ℕ) (x : List ℤ) (most : ℕ) (out : List ℕ) → n ≤ most → out_bytes ≤ length out → LineReady most (take n x) out
part-ready n x most out h room = record { few = omega (arith, length-take n x); room = room }

module _ (n : ℤ) (e : List ℤ) {s : ℕ} (es : s ≡ lent_element n e) where
  pub element_few : (0 < s) × (s ≤ most_element)
  element_few = (omega (arith, (element-lent n e).0), omega (arith, (element-lent n e).1))

  pub slot_few : {l : ℕ} → l ≡ slot_words s → l ≤ answer_words
  slot_few el = omega (arith, slot_lent s)

-- ---- what is printed
-- where no operand is missing
telling : (t : Bool) (told lack text : List ℕ) → t ≡ true → text ≡ told → text ≡ cond t told lack
telling t told lack text q e = e ∙ ap (λ x. cond x told lack) (sym q)

positive : (n : ℕ) → (n ≡ 0 → ⊥) → ltb 0 n ≡ true
positive zero h = absurd (h refl)
positive (suc n) h = lt-ltb 0 (suc n) (omega arith)

-- an operand is there precisely where it has words
there-is : (n : ℕ) (x : List ℤ) → WordStore x → n ≤ most_words → there (take n x) ≡ ltb 0 n
there-is n x h l = ap (ltb 0) (sym (part_long n x most_words h l))

-- over the tower that is kept, the lists lent being parts of stores
module _ {k : Kept} {tower : List ℤ} {r : Ring} (ring : RingKept k tower r) {s : ℕ} (es : s ≡ lent_element r.n r.e) where
  few : s ≤ most_element
  few = (element_few r.n r.e es).1

  element-same : s ≡ lent_element (pos k.levels) k.degrees
  element-same = es ∙ ap₂ lent_element ring.n_is ring.e_is

  part-same : (x : List ℤ) → most_element ≤ length x → length (take s x) ≡ length (lent (lent_element (pos k.levels) k.degrees))
  part-same x h = lent_long s x _ element-same (omega (arith, few))

  work-same : (v : List ℤ) → WorkStore v → length v ≡ length (lent work_words)
  work-same v h = h ∙ sym (zeros_long work_words)

  -- ---- `gcd`, `div` and `mul`, with a and b
  module _ (sound : Sound k) (a b : List ℤ) (a_long : WordStore a) (b_long : WordStore b) (both : true ≡ (ltb 0 k.a && ltb 0 k.b)) {l : ℕ} (el : l ≡ slot_words s) where
    has : (there (take k.a a) && there (take k.b b)) ≡ true
    has = ap₂ ◌&&◌ (there-is k.a a a_long sound.a_inside) (there-is k.b b b_long sound.b_inside) ∙ sym both

    slot_same : (g : List ℤ) → AnswerStore g → length (take l g) ≡ length (lent (slot_words (lent_element (pos k.levels) k.degrees)))
    slot_same g h = lent_long l g _ (el ∙ ap slot_words element-same) (omega (arith, slot_few r.n r.e es el))

    pub gcd_told : (g f v : List ℤ) → AnswerStore g → FactorStore f → WorkStore v
        → gcd_text r.p r.n r.e r.t.now (take k.a a) (take k.b b) (take l g) (take s f) v ≡ printed (state_of k tower a b) 0 gcd
    gcd_told g f v g_long f_long v_long =
        telling _ _ _ _ has
        (rw (ring.p_is, ring.n_is, ring.e_is, ring.t_is)
        (gcd-same _ _ _ _ _ _ _ _ _ _ _ _ (slot_same g g_long) (part-same f (omega (arith, f_long))) (work-same v v_long)))

    pub div_told : (g v : List ℤ) → AnswerStore g → WorkStore v
        → div_text r.p r.n r.e r.t.now (take k.a a) (take k.b b) (take l g) v ≡ printed (state_of k tower a b) 0 div
    div_told g v g_long v_long =
        telling _ _ _ _ has
        (rw (ring.p_is, ring.n_is, ring.e_is, ring.t_is) (div_same _ _ _ _ _ _ _ _ _ _ (slot_same g g_long) (work-same v v_long)))

    pub mul_told : (g v : List ℤ) → AnswerStore g → WorkStore v
        → mul_text r.p r.n r.e r.t.now (take k.a a) (take k.b b) (take l g) v ≡ printed (state_of k tower a b) 0 mul
    mul_told g v g_long v_long =
        telling _ _ _ _ has
        (rw (ring.p_is, ring.n_is, ring.e_is, ring.t_is) (mul-same _ _ _ _ _ _ _ _ _ _ (slot_same g g_long) (work-same v v_long)))

  -- ---- `inv`, with a alone
  pub inv_told : Sound k → (a b : List ℤ) → WordStore a → (k.a ≡ 0 → ⊥) → (g f v : List ℤ) → AnswerStore g → FactorStore f → WorkStore v
      → inv_text r.p r.n r.e r.t.now (take k.a a) (take s g) (take s f) v ≡ printed (state_of k tower a b) 0 inv
  inv_told sound a b a_long some g f v g_long f_long v_long =
      telling _ _ _ _ (there-is k.a a a_long sound.a_inside ∙ positive k.a some)
      (rw (ring.p_is, ring.n_is, ring.e_is, ring.t_is)
      (inv-same _ _ _ _ _ _ _ _ _ _ _ (part-same g (omega (arith, g_long))) (part-same f (omega (arith, f_long))) (work-same v v_long)))

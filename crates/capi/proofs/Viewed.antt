-- Laws of the call for C of the leading view. w is what the kernel's call shows, and s how many words it has.
--
-- view-none      == none: the empty part
-- view-ready     == some: a and b have degree words
-- view_b == where b has the higher degree, its leading coefficient stands in its slot, and is the part;  view_a == and else a's
use Rattle.capi.specs.ViewCodes.{part_code, ViewCoded}
use Rattle.kernel.specs.Calls.{size_of}
use Rattle.kernel.specs.Promises.{LeadingShown}
use Rattle.kernel.specs.Slots.{degree_count}
use Rattle.kernel.specs.ViewMeaning.{Viewed, viewed, part_a, part_b, view-some, view_long}
use Rattle.kernel.specs.Views.{view_number, Part, top_start, top_count, top_part, higher_part, part_by, leading_part}
use Rattle.kernel.proofs.Viewing.{top_ready}
use Rattle.tower.specs.Limits.{degrees_of}
use Rattle.tower.specs.Writing.{size-pos}
use Rattle.residue.specs.Word.{num}
use Prim.Native.Nat.{ℕ, zero, suc, ◌+◌, ◌-◌, ◌*◌, ◌^◌, ◌<◌, ◌≤◌}
use native.Mathlib.Nat.{suc-mul}
use native.Mathlib.Omega.{arith}
use mathlib.Core.Path.{◌≡◌, refl, sym, ap, ◌∙◌}
use mathlib.Core.Bool.{Bool, true, false}
use mathlib.Core.List.{List}
use lib.IntN.{ℤ}
use lib.Dec.{ltb}
use lib.ListN.{length}

-- a part of no words starts at 0
top_empty : (size k : ℕ) → 0 < size → top_count size k ≡ 0 → top_start size k ≡ 0
top_empty size zero h q = refl
top_empty size (suc k) h q = absurd (omega arith)

higher_empty : (second : Bool) (size k l : ℕ) → 0 < size → (higher_part second size k l).count ≡ 0 → (higher_part second size k l).start ≡ 0
higher_empty true size k l h q = top_empty size l h q
higher_empty false size k l h q = top_empty size k h q

by_empty : (j : ℕ) (second : Bool) (size k l : ℕ) → 0 < size → (part_by j (higher_part second size k l)).count ≡ 0 → (part_by j (higher_part second size k l)).start ≡ 0
by_empty zero second size k l h q = higher_empty second size k l h q
by_empty (suc j) second size k l h q = refl

-- and has the code 0
code_empty : (w : Part) → w.count ≡ 0 → 0 ≡ part_code w
code_empty w q = sym (go w.second w.count q)
  where
    go : (second : Bool) (k : ℕ) → k ≡ 0 → part_code (record { second = second; start = 0; count = k }) ≡ 0
    go second zero q = refl
    go second (suc k) q = absurd (omega arith)

-- the leading coefficient's words
top-some : (size k : ℕ) → (top_count size k ≡ 0 → ⊥) → (0 < k) × (top_count size k ≡ size) × (top_start size k ≡ 0 + 1 + (k - 1) * size)
top-some size zero some = absurd (some refl)
top-some size (suc k) some =
    let one : suc k - 1 ≡ k = omega arith in
    (omega arith, refl, omega (arith, ap (λ j. j * size) one))

code-some : (second : Bool) (start count : ℕ) → (count ≡ 0 → ⊥) → (k : ℕ) → k ≡ part_code (record { second = second; start = start; count = 1 })
    → k ≡ part_code (record { second = second; start = start; count = count })
code-some second start zero some k q = absurd (some refl)
code-some false start (suc count) some k q = q
code-some true start (suc count) some k q = q

module _ {p n : ℤ} {e t a b w : List ℤ} (shown : LeadingShown p n e t a b w) where
  abbrev s : ℕ
  s = length w

  is-count : s ≡ (leading_part p n e t a b).count
  is-count = ap length shown.words ∙ view_long p n e t a b

  pub view-none : s ≡ 0 → ViewCoded p n e t a b 0 0 s
  view-none z =
      let none = sym is-count ∙ z in
      record {
        answer = code_empty (leading_part p n e t a b) none;
        start = sym (by_empty (view_number p n e t a b) (ltb (degree_count a) (degree_count b)) (size_of n e) _ _ (size-pos (degrees_of e) (num n)) none);
        count = is-count;
      }

  module _ (some : s ≡ 0 → ⊥) where
    passed : view_number p n e t a b ≡ 0
    passed = view-some p n e t a b (λ q. some (ap length (shown.words ∙ q)))

    tests : Viewed p n e t a b
    tests = viewed p n e t a b passed

    ready_a : (0 < length a) × (degree_count a * size_of n e < length a) × (length a ≤ 65536)
    ready_a = top_ready p n e a tests.tower.range.modulus tests.long_a tests.form_a (size_of n e) refl

    ready_b : (0 < length b) × (degree_count b * size_of n e < length b) × (length b ≤ 65536)
    ready_b = top_ready p n e b tests.tower.range.modulus tests.long_b tests.form_b (size_of n e) refl

    pub view-ready : (0 < length a) × (0 < length b)
    view-ready = (ready_a.0, ready_b.0)

    -- the part is the leading coefficient of a slot whose degree word counts k coefficients
    module _ (second : Bool) (k : ℕ) (is : leading_part p n e t a b ≡ top_part second (size_of n e) k) where
      counts : top_count (size_of n e) k ≡ 0 → ⊥
      counts q = some (is-count ∙ ap (λ w. w.count) is ∙ q)

      top : (0 < k) × (top_count (size_of n e) k ≡ size_of n e) × (top_start (size_of n e) k ≡ 0 + 1 + (k - 1) * size_of n e)
      top = top-some (size_of n e) k counts

      size_is : s ≡ size_of n e
      size_is = is-count ∙ ap (λ w. w.count) is ∙ top.1

      start_is : 0 + 1 + (k - 1) * s ≡ (leading_part p n e t a b).start
      start_is = ap (λ m. 0 + 1 + (k - 1) * m) size_is ∙ sym top.2 ∙ sym (ap (λ w. w.start) is)

      fits : k * size_of n e < 65536 → 0 + 1 + (k - 1) * s < 2 ^ 64
      fits few =
          let one : suc (k - 1) ≡ k = omega (arith, top.0) in
          omega (arith, few, ap (λ m. (k - 1) * m) size_is, suc-mul (k - 1) (size_of n e), ap (λ j. j * size_of n e) one)

      coded : (r : ℕ) → r ≡ part_code (record { second = second; start = 0; count = 1 }) → (i : ℕ) → i ≡ 0 + 1 + (k - 1) * s → ViewCoded p n e t a b r i s
      coded r q i ei = record {
        answer = code-some second (top_start (size_of n e) k) (top_count (size_of n e) k) counts r q ∙ sym (ap part_code is);
        start = ei ∙ start_is;
        count = is-count;
      }

    -- with the counts that the calls gave
    module _ (k l : ℕ) (ek : k ≡ degree_count a) (el : l ≡ degree_count b) where
      is_b : k < l → leading_part p n e t a b ≡ top_part true (size_of n e) l
      is_b q = part_b p n e t a b passed (omega arith) ∙ ap (top_part true (size_of n e)) (sym el)

      is_a : l ≤ k → leading_part p n e t a b ≡ top_part false (size_of n e) k
      is_a q = part_a p n e t a b passed (omega arith) ∙ ap (top_part false (size_of n e)) (sym ek)

      pub view_b : k < l → (i : ℕ) → i ≡ 0 + 1 + (l - 1) * s → ViewCoded p n e t a b 2 i s
      view_b q = coded true l (is_b q) 2 refl

      pub view_a : l ≤ k → (i : ℕ) → i ≡ 0 + 1 + (k - 1) * s → ViewCoded p n e t a b 1 i s
      view_a q = coded false k (is_a q) 1 refl

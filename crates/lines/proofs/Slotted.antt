-- Laws of slots and factors that are printed, from what the program's functions know of their degrees and sizes. Assumes nothing.
--
-- opened-at              == the end of a name and what is said of it
-- slot_moved, element_moved == there is room also behind fewer bytes
-- factor_some, factor_room  == a factor has a word, and there is room for it
-- name_three                == the name of an operation has three letters
-- slot_most, element_most, factor_most == these texts have at most 22 bytes a word
use mathlib.Core.Path.{◌≡◌, refl}
use mathlib.Core.Bool.{true}
use mathlib.Core.List.{List, ◌++◌}
use Prim.Native.Nat.{ℕ, zero, suc, ◌+◌, ◌*◌, ◌<◌, ◌≤◌}
use native.Mathlib.Omega.{arith}
use lib.IntN.{ℤ, pos}
use lib.ListN.{length, get_or, length-append}
use Rattle.tower.specs.Limits.{degrees_of}
use Rattle.tower.specs.Writing.{size, size-pos}
use Rattle.text.specs.Appending.{Appended}
use Rattle.lines.specs.declared.Given.{Given}
use Rattle.lines.specs.declared.Given.TheVariants.{Gcd, Div, Mul, Inv}
use Rattle.lines.specs.Answers.{name_of, SlotReady, ElementReady}
use Rattle.lines.specs.Printing.{element_text, shortest, slot_text, factor_text}
use Rattle.lines.proofs.Places.{place_most, form_most}

-- where the name of an operation and what is said of it end
pub opened-at : (name said : List ℕ) {out out' : List ℕ} {r : ℕ} → Appended 0 (name ++ said) out out' r → r ≡ length name + length said
opened-at name said a = omega (arith, a.end, length-append name said)

-- ---- slots
module _ {held i : ℕ} {e x : List ℤ} {out : List ℕ} (r : SlotReady held i e x out) where
  pub slot_moved : {before : ℕ} {out' : List ℕ} → before ≤ held → length out' ≡ length out → SlotReady before i e x out'
  slot_moved h long = record { low = r.low; small = r.small; some = r.some; inside = r.inside; room = omega (arith, r.room) }

pub slot_most : (d : List ℕ) (i : ℕ) (x : List ℤ) → length (slot_text d i x) ≤ 22 * shortest d i x
slot_most d i x = form_most d (suc i) x (shortest d i x)

-- ---- elements and factors
module _ {held level : ℕ} {e f : List ℤ} {out : List ℕ} (r : ElementReady held level e f out) where
  pub factor_some : 0 < length f
  factor_some = omega (arith, r.inside, size-pos (degrees_of e) level)

  pub factor_room : held + 21 ≤ length out
  factor_room = omega (arith, r.room, size-pos (degrees_of e) level)

  pub element_moved : {before : ℕ} {out' : List ℕ} → before ≤ held → length out' ≡ length out → ElementReady before level e f out'
  element_moved h long = record { low = r.low; small = r.small; inside = r.inside; room = omega (arith, r.room) }

-- every name has three letters
pub name_three : (g : Given) → length (name_of g) ≡ 3
name_three (Gcd g) = refl
name_three (Div q r) = refl
name_three (Mul c) = refl
name_three (Inv u) = refl

pub element_most : (d : List ℕ) (i : ℕ) (x : List ℤ) → length (element_text d i x) ≤ 22 * size d i
element_most d i x = form_most d i x (size d i)

pub factor_most : (d : List ℕ) (level : ℕ) (f : List ℤ) → length (factor_text d level f) ≤ 22 * size d level
factor_most d zero f = omega (arith, place_most true (get_or f 0 (pos 0)), size-pos d 0)
factor_most d (suc level) f = element_most d (suc level) f

-- Laws of texts put behind the bytes of a store. Assumes nothing.
--
-- nothing == the empty text
-- then    == a text behind a text; right-nested, `then a (then b c)` is of the text s ++ (t ++ u)
-- retold  == another name for the text
use mathlib.Core.Path.{◌≡◌, refl, sym, ap, ◌∙◌}
use mathlib.Core.List.{List, [], ◌++◌, append_assoc, append-nil}
use Prim.Native.Nat.{ℕ}
use native.Mathlib.Omega.{arith}
use lib.ListN.{take, length-append}
use Rattle.text.specs.Appending.{Appended}

pub nothing : (held : ℕ) (out : List ℕ) → Appended held [] out out held
nothing held out = record { long = refl; end = omega arith; stands = sym (append-nil (take held out)) }

pub then : {held r r' : ℕ} {s t out out' out'' : List ℕ} → Appended held s out out' r → Appended r t out' out'' r'
    → Appended held (s ++ t) out out'' r'
then {held} {r} {r'} {s} {t} {out} {out'} {out''} a b =
    record {
      long = b.long ∙ a.long;
      end = omega (arith, a.end, b.end, length-append s t);
      stands = b.stands ∙ ap (λ (l : List ℕ). l ++ t) a.stands ∙ append_assoc (take held out) s t;
    }

pub retold : {held r : ℕ} {s t out out' : List ℕ} → s ≡ t → Appended held s out out' r → Appended held t out out' r
retold e a = rw e at a

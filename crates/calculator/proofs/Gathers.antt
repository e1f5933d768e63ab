-- Laws of the bytes that are gathered.
--
-- full_stays == a full store holds the first bytes of the longer line;  byte_behind == a byte set behind those gathered
use Rattle.std.proofs.Common.{◌≡◌, ℕ, ◌+◌, ◌<◌, ◌≤◌, List, [], ◌∷◌, ◌++◌, length, take, set, sym, ◌∙◌, add-one, arith, length-append, length-take-le, take_all, take-suc-set, take_at}
use Rattle.calculator.specs.Gathering.{line_bytes}

pub full_stays : (n : ℕ) (text : List ℕ) (byte : ℕ) → line_bytes ≤ n → n ≤ line_bytes → length text ≡ line_bytes
    → take n text ≡ take line_bytes (take n text ++ (byte ∷ []))
full_stays n text byte h k l = sym (take_at (take n text) (byte ∷ []) line_bytes (omega (arith, length-take-le n text (omega (arith, k, l)), h, k)))

pub byte_behind : (n : ℕ) (text : List ℕ) (byte : ℕ) → n < line_bytes → length text ≡ line_bytes
    → take (n + 1) (set text n byte) ≡ take line_bytes (take n text ++ (byte ∷ []))
byte_behind n text byte h l =
    let inside : n < length text = omega (arith, h, l) in
    let long = length-append (take n text) (byte ∷ []) in
    rw (add-one n) (take-suc-set text n byte inside)
    ∙ sym (take_all line_bytes (take n text ++ (byte ∷ [])) (omega (arith, long, length-take-le n text (omega (arith, inside)), h)))

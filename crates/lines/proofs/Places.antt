-- Laws of words printed by form. Assumes nothing.
--
-- Down; down_further              == the k-th word of an element is the at-th of one of a lower level
-- own_word, no_degree, some_size == an element's own degree word; a residue is none; a size is not 0
-- place_few, place_most, form_most == a word takes at most 21 bytes; n whole numbers of any size take at most 22 times n
-- Put; put-none, put_more          == the first k words are printed
use mathlib.Core.Path.{◌≡◌, refl, sym, ap, ◌∙◌}
use mathlib.Core.Bool.{Bool, true, false}
use mathlib.Core.List.{List}
use Prim.Native.Nat.{ℕ, zero, suc, ◌+◌, ◌-◌, ◌*◌, ◌%◌, ◌<◌, ◌≤◌}
use native.Mathlib.Numerals.{add-one}
use native.Mathlib.Omega.{arith}
use lib.IntN.{ℤ, pos, negsuc}
use lib.ListN.{length, get_or, take, length-append}
use lib.Seq.{get_or-take}
use mir.Syntax.{w64}
use mir.Val.{SFits, to_z, of_z}
use mir.ValLaws.{to_z-of_z}
use Rattle.tower.specs.Ready.{Sized}
use Rattle.tower.specs.Writing.{size, size-pos}
use Rattle.text.specs.Appending.{Appended}
use Rattle.text.specs.Text.{word_text}
use Rattle.text.specs.Written.{few_digits, twenty_digits}
use Rattle.text.proofs.Appends.{nothing, then, retold}
use Rattle.lines.specs.Printing.{degree_at, place_text, form_text, DegreeTold, FormReady}
use Rattle.lines.specs.Written.{form-none, form_more}

-- ---- which words are degree words
degree_own : (d : List ℕ) (i : ℕ) → degree_at d (suc i) 0 ≡ true
unfolding degree_at
degree_own d i = refl

degree-none : (d : List ℕ) (k : ℕ) → degree_at d 0 k ≡ false
unfolding degree_at
degree-none d k = refl

degree-lower : (d : List ℕ) (i k : ℕ) → degree_at d (suc i) (suc k) ≡ degree_at d i (k % size d i)
unfolding degree_at
degree-lower d i k = refl

-- the k-th word of an element of level i is the at-th of an element of a level that is not higher
pub record Down (i k : ℕ) (z : List ℕ) (level at : ℕ) : Type 0 where
  pub low : level ≤ i
  pub same : (d : List ℕ) → Sized d z → degree_at d i k ≡ degree_at d level at

module _ {i k : ℕ} {z : List ℕ} where
  pub down_further : (level at : ℕ) → Down i k z level at → i ≤ 5 → 0 < level → (at ≡ 0 → ⊥) → (s : ℕ) → s ≡ get_or z (level - 1) 0
      → Down i k z (level - 1) ((at - 1) % s)
  down_further zero at w h l a s e = absurd (omega arith)
  down_further (suc level) zero w h l a s e = absurd (a refl)
  down_further (suc level) (suc at) w h l a s e =
      let p : suc level - 1 ≡ level = omega arith in
      let q : suc at - 1 ≡ at = omega arith in
      rw (p, q)
      (record {
        low = omega (arith, w.low);
        same = λ d z-is.
            w.same d z-is
            ∙ degree-lower d level at
            ∙ ap (λ (t : ℕ). degree_at d level (at % t)) (sym (e ∙ ap (λ (t : ℕ). get_or z t 0) p ∙ z-is.at level (omega (arith, h, w.low))));
      })

  -- a size is not 0
  pub some_size : (d : List ℕ) → Sized d z → (level at : ℕ) → Down i k z level at → i ≤ 5 → 0 < level → (s : ℕ) → s ≡ get_or z (level - 1) 0
      → 0 < s
  some_size d z-is level at w h l s e = omega (arith, e, z-is.at (level - 1) (omega (arith, h, w.low)), size-pos d (level - 1))

  pub own_word : (level at : ℕ) → Down i k z level at → 0 < level → at ≡ 0 → DegreeTold z i k true
  own_word zero at w l e = absurd (omega arith)
  own_word (suc level) at w l e = record { is = λ d s. sym (w.same d s ∙ ap (degree_at d (suc level)) e ∙ degree_own d level) }

  pub no_degree : (level at : ℕ) → Down i k z level at → level ≤ 0 → DegreeTold z i k false
  no_degree level at w l =
      let e : level ≡ 0 = omega arith in
      record { is = λ d s. sym (w.same d s ∙ ap (λ (n : ℕ). degree_at d n at) e ∙ degree-none d at) }

-- ---- one word
word_few : (w : ℤ) → SFits w64 w → length (word_text w) ≤ 20
word_few (pos n) f = omega (arith, few_digits 18 n (omega (arith, f.sfits)))
word_few (negsuc n) f = omega (arith, few_digits 18 (suc n) (omega (arith, f.sfits)))

pub place_few : (t : Bool) (w : ℤ) → SFits w64 w → length (place_text t w) ≤ 21
place_few true w f = omega (arith, word_few w f)
place_few false w f = omega (arith, word_few w f)

-- ---- the words of a form
-- whole numbers of any size take at most 22 bytes
pub place_most : (t : Bool) (w : ℤ) → length (place_text t w) ≤ 22
place_most true (pos n) = omega (arith, twenty_digits n)
place_most true (negsuc n) = omega (arith, twenty_digits (suc n))
place_most false (pos n) = omega (arith, twenty_digits n)
place_most false (negsuc n) = omega (arith, twenty_digits (suc n))

pub form_most : (d : List ℕ) (i : ℕ) (x : List ℤ) (n : ℕ) → length (form_text d i x n) ≤ 22 * n
form_most d i x zero = rw (form-none d i x) (omega arith)
form_most d i x (suc n) =
    let t = degree_at d i n in
    let w = get_or x n (pos 0) in
    rw (form_more d i x n) (omega (arith, length-append (form_text d i x n) (place_text t w), form_most d i x n, place_most t w))

-- the first k of n words are printed, and there is room for the others
pub record Put (i n held : ℕ) (z : List ℕ) (x : List ℤ) (was out : List ℕ) (told k : ℕ) : Type 0 where
  pub passed : k ≤ n
  pub long : length out ≡ length was
  pub room : told + 21 * (n - k) ≤ length out
  pub puts : (d : List ℕ) → Sized d z → Appended held (form_text d i x k) was out told

pub put-none : {i n held : ℕ} {z : List ℕ} {x : List ℤ} {out : List ℕ} → FormReady i n held z x out → Put i n held z x out out held 0
put-none {i} {n} {held} {z} {x} {out} r = record {
  passed = omega arith;
  long = refl;
  room = omega (arith, r.room);
  puts = λ d s. retold (sym (form-none d i x)) (nothing held out);
}

module _ {i n held : ℕ} {z : List ℕ} {x : List ℤ} {was out : List ℕ} {told k : ℕ} (p : Put i n held z x was out told k) where
  pub put_more : {t : Bool} {w : ℤ} {out' : List ℕ} {r : ℕ} → k < n → DegreeTold z i k t → w ≡ get_or (take n x) k (pos 0) → SFits w64 w
      → Appended told (place_text t (to_z w64 (of_z w64 w))) out out' r → Put i n held z x was out' r (k + 1)
  put_more {t} {w} {out'} {r} h b e f a =
      let word : w ≡ get_or x k (pos 0) = e ∙ get_or-take n x k (pos 0) h in
      let a : Appended told (place_text t w) out out' r = retold (ap (place_text t) (to_z-of_z w64 w f)) a in
      record {
        passed = omega arith;
        long = a.long ∙ p.long;
        room = omega (arith, p.room, a.end, a.long, place_few t w f);
        puts = λ d s. rw (add-one k) (retold (sym (form_more d i x k ∙ rw (sym (b.is d s), sym word))) (then (p.puts d s) a));
      }

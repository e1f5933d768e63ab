-- What is printed, read again: a word is the number that was written, and no tab stands in it; words behind tabs are the fields of a line.
--
-- digit_alone, digit_behind == the digits of a number, by its size
-- few_digits, twenty_digits == a number below 10^k takes at most k digits, and no text has more than 20
-- word_bytes, no_tab        == a printed word is made of digits and a minus, so there is no tab in it
-- all_of, without_sign      == a text of digits as a number
-- Short, short_text         == a number of at most 10 digits, whose text has at most 11 bytes;  read_again == what is read is the number written
-- parted, one_field         == a tab parts the fields; without one there is one field
-- digits_nil, fields_nil, words_nil, words-cons == the first steps of the definitions
-- AllShort, words_again       == the numbers of the texts of words are the words
use Rattle.std.specs.Prelude.{◌≡◌, refl, Bool, true, false, cond, ◌⊎◌, ℕ, zero, suc, ◌+◌, ◌-◌, ◌*◌, ◌/◌, ◌%◌, ◌^◌, ◌<◌, ◌≤◌, eqb, ℤ, pos, negsuc, nat_abs, length, get_or, Option, Some}
use Rattle.std.proofs.Common.{sym, ap, ◌∙◌, inl, inr, ⊎_elim, pow-suc, mod-lt, div-add-mod', div-lt_iff_lt-mul, arith, lt-ltb, le-ltb, le-leb, ne_eqb, lit<, length-append}
use mathlib.Core.List.Memᴰ
use mathlib.Core.List.{List, [], ◌∷◌, ◌++◌, map, append_assoc, append-nil, Memᴰ}
use Rattle.std.proofs.Math.Nat.{pow-zero}
use Rattle.algebra.specs.Test.{le_or_lt}
use Rattle.text.specs.Fields.{before, fields_of, most_words, most_digits, word_then, words_from, words_of}
use Rattle.text.specs.Text.{tab, digits_of, magnitude_of, plain_of, negated_of, number_of, decimal_by, decimal, word_text}

-- ---- the digits of a number
pub digit_alone : (k n : ℕ) → n < 10 → decimal_by (suc k) n ≡ (48 + n) ∷ []
unfolding decimal_by
digit_alone k n h = simp (lt-ltb n 10 h)

pub digit_behind : (k n : ℕ) → 10 ≤ n → decimal_by (suc k) n ≡ decimal_by k (n / 10) ++ ((48 + n % 10) ∷ [])
unfolding decimal_by
digit_behind k n h = simp (le-ltb n 10 h)

none : (n : ℕ) → decimal_by 0 n ≡ []
unfolding decimal_by
none n = refl

-- by one digit and by more, for anything that is to be said of the digits of n
by_digits : (P : List ℕ → Type 0) (k n : ℕ) → (n < 10 → P ((48 + n) ∷ [])) → (10 ≤ n → P (decimal_by k (n / 10) ++ ((48 + n % 10) ∷ [])))
    → P (decimal_by (suc k) n)
by_digits P k n one more = ⊎_elim (λ h. rw (digit_behind k n h) (more h)) (λ h. rw (digit_alone k n h) (one h)) (le_or_lt 10 n)

fewer : (j n : ℕ) → n < 10 ^ suc j → n / 10 < 10 ^ j
fewer j n h = (div-lt_iff_lt-mul (lit< tt)).1 (omega (arith, h, pow-suc 10 j))

few_by : (k j n : ℕ) → n < 10 ^ suc j → length (decimal_by k n) ≤ suc j
few_by zero j n h = rw (none n) (omega arith)
few_by (suc k) zero n h = rw (digit_alone k n (omega (arith, pow-suc 10 0))) (omega arith)
few_by (suc k) (suc j) n h =
    by_digits (λ s. length s ≤ suc (suc j)) k n (λ l. omega arith)
    (λ l. omega (arith, length-append (decimal_by k (n / 10)) ((48 + n % 10) ∷ []), few_by k j (n / 10) (fewer (suc j) n h)))

pub few_digits : (j n : ℕ) → n < 10 ^ suc j → length (decimal n) ≤ suc j
few_digits j n h = few_by 20 j n h

twenty_by : (k n : ℕ) → length (decimal_by k n) ≤ k
twenty_by zero n = rw (none n) (omega arith)
twenty_by (suc k) n =
    by_digits (λ s. length s ≤ suc k) k n (λ l. omega arith)
    (λ l. omega (arith, length-append (decimal_by k (n / 10)) ((48 + n % 10) ∷ []), twenty_by k (n / 10)))

pub twenty_digits : (n : ℕ) → length (decimal n) ≤ 20
twenty_digits n = twenty_by 20 n

some_digit : (n : ℕ) → 0 < length (decimal n)
some_digit n =
    by_digits (λ s. 0 < length s) 19 n (λ l. omega arith) (λ l. omega (arith, length-append (decimal_by 19 (n / 10)) ((48 + n % 10) ∷ [])))

-- ---- the bytes of a printed word
digit_byte : (k n b : ℕ) → Memᴰ b (decimal_by k n) → (48 ≤ b) × (b ≤ 57)
digit_byte zero n b m = absurd (Memᴰ.not-nil (rw (none n) at m))
digit_byte (suc k) n b mem =
    by_digits (λ s. Memᴰ b s → (48 ≤ b) × (b ≤ 57)) k n
    (λ l m. let e = Memᴰ.eq_of_singleton m in (omega arith, omega arith))
    (λ l m.
    ⊎_elim (λ front. digit_byte k (n / 10) b front)
    (λ last. let e = Memᴰ.eq_of_singleton last in (omega arith, omega (arith, mod-lt n {m = 10} (lit< tt))))
    (Memᴰ.append_cases (decimal_by k (n / 10)) m))
    mem

-- the minus and the digits
pub word_bytes : (w : ℤ) (b : ℕ) → Memᴰ b (word_text w) → (b ≡ 45) ⊎ ((48 ≤ b) × (b ≤ 57))
word_bytes (pos n) b m = inr (digit_byte 20 n b m)
word_bytes (negsuc n) b m = ⊎_elim inl (λ r. inr (digit_byte 20 (suc n) b r)) (Memᴰ.cases_cons m)

pub no_tab : (w : ℤ) → Memᴰ tab (word_text w) → ⊥
no_tab w m = ⊎_elim (λ e. omega arith) (λ h. omega arith) (word_bytes w tab m)

-- ---- a number read is the number written
pub all_of : (most : ℕ) (s : List ℕ) → 0 < length s → length s ≤ most → magnitude_of most s ≡ digits_of 0 s
unfolding magnitude_of
all_of most s h k = simp (lt-ltb 0 (length s) h, le-leb (length s) most k)

pub without_sign : (most : ℕ) (s : List ℕ) → 0 < length s → (get_or s 0 0 ≡ 45 → ⊥) → plain_of (magnitude_of most s) ≡ number_of most s
unfolding number_of
without_sign most [] h e = absurd (omega arith)
without_sign most (b ∷ s) h e = simp (ne_eqb b 45 e)

behind_sign : (most : ℕ) (s : List ℕ) → number_of most (45 ∷ s) ≡ negated_of (magnitude_of most s)
unfolding number_of
behind_sign most s = refl

pub digits_nil : (m : ℕ) → digits_of m [] ≡ Some m
unfolding digits_of
digits_nil m = refl

one_digit : (m b : ℕ) (s : List ℕ) → b < 10 → digits_of m ((48 + b) ∷ s) ≡ digits_of (m * 10 + b) s
unfolding digits_of
one_digit m b s h =
    let e : 48 + b - 48 ≡ b = omega arith in
    simp (le-leb 48 (48 + b) (omega arith), le-leb (48 + b) 57 (omega arith), e)

digits_again : (k n : ℕ) (s : List ℕ) → n < 10 ^ k → digits_of 0 (decimal_by k n ++ s) ≡ digits_of n s
digits_again zero n s h = let e : n ≡ 0 = omega (arith, pow-zero 10) in rw (none n, e)
digits_again (suc k) n s h =
    by_digits (λ t. digits_of 0 (t ++ s) ≡ digits_of n s) k n
    (λ l. let e : 0 * 10 + n ≡ n = omega arith in one_digit 0 n s l ∙ ap (λ (m : ℕ). digits_of m s) e)
    (λ l.
    ap (digits_of 0) (append_assoc (decimal_by k (n / 10)) ((48 + n % 10) ∷ []) s)
    ∙ digits_again k (n / 10) ((48 + n % 10) ∷ s) (fewer k n h)
    ∙ one_digit (n / 10) (n % 10) s (mod-lt n (lit< tt))
    ∙ ap (λ (m : ℕ). digits_of m s) (div-add-mod' n 10))

first_byte : (s : List ℕ) → 0 < length s → Memᴰ (get_or s 0 0) s
first_byte [] h = absurd (omega arith)
first_byte (b ∷ s) h = Memᴰ.head refl

magnitude_again : (j n : ℕ) → n < 10 ^ suc j → n < 2 ^ 64 → magnitude_of (suc j) (decimal n) ≡ Some n
magnitude_again j n h l =
    all_of (suc j) (decimal n) (some_digit n) (few_digits j n h)
    ∙ ap (digits_of 0) (sym (append-nil (decimal n)))
    ∙ digits_again 20 n [] (omega arith)
    ∙ digits_nil n

no_minus : (n : ℕ) → get_or (decimal n) 0 0 ≡ 45 → ⊥
no_minus n e = omega (arith, digit_byte 20 n (get_or (decimal n) 0 0) (first_byte (decimal n) (some_digit n)))

-- read with room for at least as many digits as are needed
read_by : (j : ℕ) (w : ℤ) → nat_abs w < 10 ^ suc j → nat_abs w < 2 ^ 63 → number_of (suc j) (word_text w) ≡ Some w
read_by j (pos n) h l =
    sym (without_sign (suc j) (decimal n) (some_digit n) (no_minus n))
    ∙ ap plain_of (magnitude_again j n h (omega arith))
    ∙ simp (lt-ltb n (2 ^ 63) l)
read_by j (negsuc n) h l =
    behind_sign (suc j) (decimal (suc n))
    ∙ ap negated_of (magnitude_again j (suc n) h (omega arith))
    ∙ simp (le-leb (suc n) (2 ^ 63) (omega arith))

-- "1 to 10 digits"
abbrev pub Short : ℤ → Type 0
Short w = nat_abs w < 10 ^ most_digits

-- its text: a minus and the digits
pub short_text : (w : ℤ) → Short w → length (word_text w) ≤ 11
short_text (pos n) h = omega (arith, few_digits 9 n h)
short_text (negsuc n) h = omega (arith, few_digits 9 (suc n) h)

pub read_again : (w : ℤ) → Short w → number_of most_digits (word_text w) ≡ Some w
read_again w h = read_by 9 w h (omega arith)

-- ---- the fields of a line
pub fields_nil : fields_of [] ≡ [] ∷ []
unfolding fields_of
fields_nil = refl

field_more : (b : ℕ) (s : List ℕ) → fields_of (b ∷ s) ≡ cond (eqb b tab) ([] ∷ fields_of s) (before b (fields_of s))
unfolding fields_of
field_more b s = refl

in_front_some : (t : Bool) (b : ℕ) (l : List (List ℕ)) → 0 < length (cond t ([] ∷ l) (before b l))
in_front_some true b l = omega arith
in_front_some false b [] = omega arith
in_front_some false b (f ∷ l) = omega arith

some_field : (s : List ℕ) → 0 < length (fields_of s)
some_field [] = rw fields_nil (omega arith)
some_field (b ∷ s) = rw (field_more b s) (in_front_some (eqb b tab) b (fields_of s))

in_front : (t : Bool) (b : ℕ) (l m : List (List ℕ)) → 0 < length l → cond t ([] ∷ (l ++ m)) (before b (l ++ m)) ≡ cond t ([] ∷ l) (before b l) ++ m
in_front true b l m h = refl
in_front false b [] m h = absurd (omega arith)
in_front false b (f ∷ l) m h = refl

-- a tab parts what stands before it from what stands behind it
pub parted : (s t : List ℕ) → fields_of (s ++ (tab ∷ t)) ≡ fields_of s ++ fields_of t
parted [] t = field_more tab t ∙ rw fields_nil
parted (b ∷ s) t =
    field_more b (s ++ (tab ∷ t))
    ∙ ap (λ (l : List (List ℕ)). cond (eqb b tab) ([] ∷ l) (before b l)) (parted s t)
    ∙ in_front (eqb b tab) b (fields_of s) (fields_of t) (some_field s)
    ∙ ap (λ (l : List (List ℕ)). l ++ fields_of t) (sym (field_more b s))

-- without a tab there is one field
pub one_field : (s : List ℕ) → (Memᴰ tab s → ⊥) → fields_of s ≡ s ∷ []
one_field [] h = fields_nil
one_field (b ∷ s) h =
    field_more b s ∙ rw (ne_eqb b tab (λ e. h (Memᴰ.head (sym e))), one_field s (λ m. h (Memᴰ.tail m)))

-- ---- words read again
abbrev pub AllShort : List ℤ → Type 0
AllShort [] = Unit {0}
AllShort (w ∷ l) = Short w × AllShort l

pub words_nil : (w : List ℤ) → words_from w [] ≡ w
unfolding words_from
words_nil w = refl

pub words-cons : (w : List ℤ) (f : List ℕ) (fs : List (List ℕ)) → words_from w (f ∷ fs) ≡ word_then (number_of most_digits f) w (λ more. words_from more fs)
unfolding words_from
words-cons w f fs = refl

words_behind : (w l : List ℤ) → AllShort l → length w + length l ≤ most_words → words_from w (map word_text l) ≡ w ++ l
words_behind w [] h k = words_nil w ∙ sym (append-nil w)
words_behind w (a ∷ l) h k =
    words-cons w (word_text a) (map word_text l)
    ∙ ap (λ (r : Option ℤ). word_then r w (λ more. words_from more (map word_text l))) (read_again a h.0)
    ∙ rw (lt-ltb (length w) most_words (omega arith))
    (words_behind (w ++ (a ∷ [])) l h.1 (omega (arith, length-append w (a ∷ []))) ∙ append_assoc w (a ∷ []) l)

pub words_again : (l : List ℤ) → AllShort l → length l ≤ most_words → words_of (map word_text l) ≡ l
words_again l h k = words_behind [] l h (omega arith)

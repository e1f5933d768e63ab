-- The answer line of an operation, from what the kernel's call gives.
--
-- answer_text                  == Done with its words, a factor, or a refusal
-- gcd_text, div_text, mul_text, inv_text == the lines, of the lists that are lent
-- name_of, given_text          == the name of an operation and what stands behind `ok`, from what it gives
-- SlotReady .. AnswerReady, LineReady == what the program's functions ask for
use Rattle.std.specs.Prelude.{ℕ, ◌+◌, ◌*◌, ◌<◌, ◌≤◌, List, [], ◌∷◌, ◌++◌, ◌≡◌, ℤ, length}
use Rattle.residue.specs.Word.{num}
use Rattle.tower.specs.Limits.{degrees_of}
use Rattle.tower.specs.Ready.{Small}
use Rattle.tower.specs.Writing.{size}
use Rattle.kernel.specs.declared.Answer.{Answer}
use Rattle.kernel.specs.declared.Answer.TheVariants.{Done, Factor}
use Rattle.kernel.specs.Refusals.{Said, done, factor, refused}
use Rattle.kernel.specs.Products.{product}
use Rattle.kernel.specs.Divisions.{division}
use Rattle.kernel.specs.Inverses.{inverse}
use Rattle.kernel.specs.Gcds.{gcd}
use Rattle.text.specs.Text.{tab, decimal}
use Rattle.lines.specs.declared.Given.{Given}
use Rattle.lines.specs.declared.Given.TheVariants.{Gcd, Div, Mul, Inv}
use Rattle.lines.specs.Names.{line_end, name_gcd, name_div, name_mul, name_inv, said_ok, said_rem, said_factor, said_refused}
use Rattle.lines.specs.Printing.{element_text, shortest, slot_text, factor_text}

-- "`ok` and the shortest slot that holds the answer ..., or `factor`, level and its words, or `refused` and the number"
abbrev pub answer_text : List ℕ → (d : List ℕ) → Said → List ℕ → List ℤ → List ℕ
answer_text name d done words f = name ++ (said_ok ++ (words ++ (line_end ∷ [])))
answer_text name d (factor level) words f = name ++ (said_factor ++ ((tab ∷ decimal level) ++ (factor_text d level f ++ (line_end ∷ []))))
answer_text name d (refused number) words f = name ++ (said_refused ++ ((tab ∷ decimal number) ++ (line_end ∷ [])))

-- "div: quotient, `rem`, remainder"
abbrev pub divided : (d : List ℕ) (i : ℕ) (q r : List ℤ) → List ℕ
divided d i q r = slot_text d i q ++ (said_rem ++ slot_text d i r)

module _ (p n : ℤ) (e t : List ℤ) where
  abbrev pub gcd_text : (a b g f v : List ℤ) → List ℕ
  gcd_text a b g f v =
      let r = gcd p n e t a b g f v in
      answer_text name_gcd (degrees_of e) r.said (slot_text (degrees_of e) (num n) r.words.gcd) r.words.factor

  abbrev pub div_text : (a b q v : List ℤ) → List ℕ
  div_text a b q v =
      let r = division p n e t a b q v in
      answer_text name_div (degrees_of e) r.said (divided (degrees_of e) (num n) r.words.quotient r.words.remainder) []

  abbrev pub mul_text : (a b c v : List ℤ) → List ℕ
  mul_text a b c v =
      let r = product p n e t a b c v in
      answer_text name_mul (degrees_of e) r.said (slot_text (degrees_of e) (num n) r.words.product) []

  -- "inv: the element"
  abbrev pub inv_text : (a u f v : List ℤ) → List ℕ
  inv_text a u f v =
      let r = inverse p n e t a u f v in
      answer_text name_inv (degrees_of e) r.said (element_text (degrees_of e) (num n) r.words.inverse) r.words.factor

-- ---- what an operation gives
abbrev pub name_of : Given → List ℕ
name_of (Gcd g) = name_gcd
name_of (Div q r) = name_div
name_of (Mul c) = name_mul
name_of (Inv u) = name_inv

abbrev pub given_text : (d : List ℕ) (i : ℕ) → Given → List ℕ
given_text d i (Gcd g) = slot_text d i g.now
given_text d i (Div q r) = divided d i q.now r.now
given_text d i (Mul c) = slot_text d i c.now
given_text d i (Inv u) = element_text d i u.now

-- ---- the parts of the program: a word takes at most 21 bytes
-- a slot whose coefficients up to its degree are there
pub record SlotReady (held i : ℕ) (e x : List ℤ) (out : List ℕ) : Type 0 where
  pub low : i ≤ 4
  pub small : Small (degrees_of e)
  pub some : 0 < length x
  pub inside : shortest (degrees_of e) i x ≤ length x
  pub room : held + 21 * shortest (degrees_of e) i x ≤ length out

-- a slot and a line end behind it: text of whole numbers of any size has at most 22 bytes a word
abbrev pub SlotEnds : (held i : ℕ) (e x : List ℤ) (out : List ℕ) → Type 0
SlotEnds held i e x out = SlotReady (held + (1 + shortest (degrees_of e) i x)) i e x out

-- `div`, `ok`, a quotient, `rem`, a remainder and a line end
pub record QuotientReady (i : ℕ) (e q r : List ℤ) (out : List ℕ) : Type 0 where
  pub quotient : SlotReady 6 i e q out
  pub remainder : SlotEnds (10 + 22 * shortest (degrees_of e) i q) i e r out

-- an element or a factor, and what stands behind it
pub record ElementReady (held i : ℕ) (e x : List ℤ) (out : List ℕ) : Type 0 where
  pub low : i ≤ 4
  pub small : Small (degrees_of e)
  pub inside : size (degrees_of e) i ≤ length x
  pub room : held + 22 * size (degrees_of e) i ≤ length out

abbrev pub GivenReady : (i : ℕ) (e : List ℤ) → Given → List ℕ → Type 0
GivenReady i e (Gcd g) out = SlotEnds 6 i e g.now out
GivenReady i e (Div q r) out = QuotientReady i e q.now r.now out
GivenReady i e (Mul c) out = SlotEnds 6 i e c.now out
GivenReady i e (Inv u) out = ElementReady 7 i e u.now out

-- an answer: after Done this is ready to be printed, and with a factor its words are
pub record AnswerReady (r : Answer) (Ready : Type 0) (e f : List ℤ) (out : List ℕ) : Type 0 where
  pub given : r ≡ Done → Ready
  pub shown : (level : ℕ) → r ≡ Factor level → ElementReady 43 level e f out
  pub room : 43 ≤ length out

-- the bytes of a store for the longest answer
abbrev pub out_bytes : ℕ
out_bytes = 196608

-- a list of at most `most` words may be printed
pub record LineReady (most : ℕ) (x : List ℤ) (out : List ℕ) : Type 0 where
  pub few : length x ≤ most
  pub room : out_bytes ≤ length out

-- Laws of what the calls that run a remainder sequence share, inverse and GCD.
--
-- done_factor, done_refused, factor_refused == the three kinds of answer differ
-- answered-new, answered-old == where no number is given what the sequence leaves; beside a number the words as found;  answered-kept, answered-passed == the same
--                     of what is said, where the sequence refuses nothing
-- ByAnswer         == a call says Done with what the sequence gives, and the level of what it shows;  said_never, said_done, said_factor, said-kind == what it says
--                     where the sequence is not too long
-- refused_means == what a call refuses tells the number, where the sequence refuses nothing
-- RunsSame      == what two runs share;  AnswerSame == what they leave by one answer of the sequence
-- answer-same, runs_same == from the latter the former
-- level-four == the level of what is shown is at most 4
-- FactorLies == a factor of the tower lies in the factor buffer;  factor_lies == so does what is rightly shown;
--                     buffer_same == of the buffer before only the length matters
use Rattle.std.specs.Prelude.{ℕ, zero, suc, ◌-◌, ◌+◌, ◌<◌, ◌≤◌, ◌≡◌, refl, ◌⊎◌, ◌↔◌, List, [], ◌∷◌, ◌++◌, ℤ, pos, T, length, get_or, take}
use Rattle.std.proofs.Common.{lt_irrefl, arith, sym, ap, ◌∙◌, subst, inl, inr, ⊎_elim, length-append, take_at, get_or-append-add}
use Rattle.residue.specs.Word.{num}
use Rattle.tower.specs.Form.{copies}
use Rattle.tower.specs.Limits.{p_ok, p_positive, degrees_of}
use Rattle.tower.specs.Writing.{size}
use Rattle.euclid.specs.Answer.{Answer, done as done-with, shown, long}
use Rattle.euclid.specs.Shown.{shown_words, shown_long, shown_low, shown_fits, ValueHeld, shown_held}
use Rattle.euclid.specs.Towers.{Shown, Value, value_of, value_level, shown_level, Right}
use Rattle.kernel.specs.Answered.{answered, factor_buffer, tower_in}
use Rattle.kernel.specs.Calls.{size_of}
use Rattle.kernel.specs.Meaning.{InRange, ones}
use Rattle.kernel.specs.Refusals.{Said, done, factor, refused, refusal_inj}
use Rattle.kernel.specs.SlotAnswers.{Means}
use Rattle.kernel.specs.SlotLaws.{zeros_long, zeros-at}
use Rattle.kernel.specs.Slots.{Changed}

-- ---- "Done, a shown factor with its level, and a refusal are three kinds of answer."
abbrev kind : Said → ℕ
kind done = 0
kind (factor level) = 1
kind (refused k) = 2

pub done_factor : (l : ℕ) → ¬ (done ≡ factor l)
done_factor l q = let z : ◌≡◌ {A = ℕ} 0 1 = ap kind q in lt_irrefl 0 (omega arith)

pub done_refused : (k : ℕ) → ¬ (done ≡ refused k)
done_refused k q = let z : ◌≡◌ {A = ℕ} 0 2 = ap kind q in lt_irrefl 0 (omega arith)

pub factor_refused : (l k : ℕ) → ¬ (factor l ≡ refused k)
factor_refused l k q = let z : ◌≡◌ {A = ℕ} 1 2 = ap kind q in lt_irrefl 0 (omega arith)

abbrev level_in : Said → ℕ
level_in done = 0
level_in (factor level) = level
level_in (refused k) = 0

-- ---- what a call gives by the sequence's answer: Done, or a factor with its level
pub record ByAnswer {F A W : Type 0} (by : Answer F A → Changed W) (level : F → ℕ) : Type 0 where
  pub on_done : (a : A) → (by (done-with a)).said ≡ done
  pub on_shown : (x : F) → (by (shown x)).said ≡ factor (level x)

module _ {F A W : Type 0} (by : Answer F A → Changed W) (level : F → ℕ) (B : ByAnswer by level) where
  -- it refuses nothing
  pub said_never : (m : Answer F A) → ¬ (m ≡ long) → (j : ℕ) → ¬ ((by m).said ≡ refused j)
  said_never (done-with a) n j q = done_refused j (sym (B.on_done a) ∙ q)
  said_never (shown x) n j q = factor_refused (level x) j (sym (B.on_shown x) ∙ q)
  said_never long n j q = n refl

  -- it says Done precisely where the sequence gives something
  pub said_done : (m : Answer F A) → ¬ (m ≡ long) → ((by m).said ≡ done) ↔ ((a : A) × (m ≡ done-with a))
  said_done m n = (forth m n, λ y. ap (λ x. (by x).said) y.1 ∙ B.on_done y.0)
    where
      forth : (m : Answer F A) → ¬ (m ≡ long) → (by m).said ≡ done → (a : A) × (m ≡ done-with a)
      forth (done-with a) n q = (a, refl)
      forth (shown x) n q = absurd (done_factor (level x) (sym q ∙ B.on_shown x))
      forth long n q = absurd (n refl)

  -- and a level precisely where it shows something of that level
  pub said_factor : (m : Answer F A) → ¬ (m ≡ long) → (l : ℕ) → ((by m).said ≡ factor l) ↔ ((x : F) × (m ≡ shown x) × (level x ≡ l))
  said_factor m n l = (forth m n, λ y. ap (λ x. (by x).said) y.1 ∙ B.on_shown y.0 ∙ ap factor y.2)
    where
      forth : (m : Answer F A) → ¬ (m ≡ long) → (by m).said ≡ factor l → (x : F) × (m ≡ shown x) × (level x ≡ l)
      forth (done-with a) n q = absurd (done_factor l (sym (B.on_done a) ∙ q))
      forth (shown x) n q = (x, refl, ap level_in (sym (B.on_shown x) ∙ q))
      forth long n q = absurd (n refl)

  -- one of the two
  pub said-kind : (m : Answer F A) → ¬ (m ≡ long) → ((by m).said ≡ done) ⊎ ((l : ℕ) × ((by m).said ≡ factor l))
  said-kind (done-with a) n = inl (B.on_done a)
  said-kind (shown x) n = inr (level x, B.on_shown x)
  said-kind long n = absurd (n refl)

-- ---- the number, and what is left
module _ {A : Type 0} (new : Changed A) (old : A) where
  pub answered-new : (k : ℕ) → k ≡ 0 → answered k new old ≡ new
  answered-new k h = ap (λ j. answered j new old) h

  pub answered-old : (k j : ℕ) → k ≡ suc j → answered k new old ≡ record { said = refused (suc j); words = old }
  answered-old k j h = ap (λ i. answered i new old) h

  -- the sequence refuses nothing: so with a number the words are as found
  pub answered-kept : (k : ℕ) → (k ≡ 0 → (j : ℕ) → ¬ (new.said ≡ refused j)) → (j : ℕ) → (answered k new old).said ≡ refused j → (answered k new old).words ≡ old
  answered-kept zero never j h = absurd (never refl j h)
  answered-kept (suc k) never j h = refl

  -- and without a refusal no number is given
  pub answered-passed : (k : ℕ) → ((j : ℕ) → ¬ ((answered k new old).said ≡ refused j)) → k ≡ 0
  answered-passed zero none = refl
  answered-passed (suc k) none = absurd (none (suc k) refl)

  pub refused_means : {M : ℕ → Type 0} (k : ℕ) → Means k M → (k ≡ 0 → (j : ℕ) → ¬ (new.said ≡ refused j)) → (j : ℕ)
      → ((answered k new old).said ≡ refused (suc j)) ↔ M (suc j)
  refused_means {M} k m never j = (says k m.says never, λ x. ap (λ c. c.said) (answered-old k j (m.only (suc j) x)))
    where
      says : (k : ℕ) → M k → (k ≡ 0 → (j : ℕ) → ¬ (new.said ≡ refused j)) → (answered k new old).said ≡ refused (suc j) → M (suc j)
      says zero x never h = absurd (never refl (suc j) h)
      says (suc k) x never h = subst M (refusal_inj (suc k) (suc j) h) x

-- ---- two runs of a call, whose answer's words were r and r' and whose factor buffers f and f'; of the work store `needed` words are needed
module _ {W : Type 0} (answer_in bufferIn workIn : W → List ℤ) (needed : ℕ) (r r' f f' : List ℤ) where
  -- the work words that are needed
  abbrev pub WorkSame : Changed W → Changed W → Type 0
  WorkSame run run' = (k : ℕ) → k < needed → get_or (workIn run.words) k (pos 0) ≡ get_or (workIn run'.words) k (pos 0)

  pub record RunsSame (run run' : Changed W) : Type 0 where
    -- the answer
    pub answer : run.said ≡ run'.said
    -- the answer's words after Done, whatever they were
    pub words : run.said ≡ done → answer_in run.words ≡ answer_in run'.words
    -- and where they were the same, with a factor or a number too
    pub kept : r ≡ r' → answer_in run.words ≡ answer_in run'.words
    -- the factor buffer with a factor, whatever it was
    pub buffer : (l : ℕ) → run.said ≡ factor l → bufferIn run.words ≡ bufferIn run'.words
    -- and where it was the same, after Done or with a number too
    pub buffer_kept : f ≡ f' → bufferIn run.words ≡ bufferIn run'.words
    -- the work words that are needed, after Done or a factor
    pub work : (run.said ≡ done) ⊎ ((l : ℕ) × (run.said ≡ factor l)) → WorkSame run run'

  -- what two runs leave by one answer of the sequence
  pub record AnswerSame {F A : Type 0} (by by' : Answer F A → Changed W) : Type 0 where
    pub words : (a : A) → answer_in (by (done-with a)).words ≡ answer_in (by' (done-with a)).words
    pub kept : (x : F) → r ≡ r' → answer_in (by (shown x)).words ≡ answer_in (by' (shown x)).words
    pub buffer : (x : F) → bufferIn (by (shown x)).words ≡ bufferIn (by' (shown x)).words
    pub buffer_kept : (a : A) → f ≡ f' → bufferIn (by (done-with a)).words ≡ bufferIn (by' (done-with a)).words
    pub work_done : (a : A) → WorkSame (by (done-with a)) (by' (done-with a))
    pub work_shown : (x : F) → WorkSame (by (shown x)) (by' (shown x))

  pub answer-same : {F A : Type 0} (by by' : Answer F A → Changed W) (level : F → ℕ) → ByAnswer by level → ByAnswer by' level → AnswerSame by by'
      → (m : Answer F A) → ¬ (m ≡ long) → RunsSame (by m) (by' m)
  answer-same by by' level B B' S (done-with a) n = record {
    answer = B.on_done a ∙ sym (B'.on_done a);
    words = λ d. S.words a;
    kept = λ q. S.words a;
    buffer = λ l d. absurd (done_factor l (sym (B.on_done a) ∙ d));
    buffer_kept = S.buffer_kept a;
    work = λ d. S.work_done a;
  }
  answer-same by by' level B B' S (shown x) n = record {
    answer = B.on_shown x ∙ sym (B'.on_shown x);
    words = λ d. absurd (done_factor (level x) (sym d ∙ B.on_shown x));
    kept = S.kept x;
    buffer = λ l d. S.buffer x;
    buffer_kept = λ q. S.buffer x;
    work = λ d. S.work_shown x;
  }
  answer-same by by' level B B' S long n = absurd (n refl)

  -- so it is of two runs that give one number, if it is of what the sequence leaves
  pub runs_same : (k k' : ℕ) (new new' : Changed W) (old old' : W) → k ≡ k' → (k ≡ 0 → RunsSame new new')
      → (r ≡ r' → answer_in old ≡ answer_in old') → (f ≡ f' → bufferIn old ≡ bufferIn old') → RunsSame (answered k new old) (answered k' new' old')
  runs_same k k' new new' old old' q after words buffer = subst (λ j. RunsSame (answered k new old) (answered j new' old')) q (go k after)
    where
      go : (k : ℕ) → (k ≡ 0 → RunsSame new new') → RunsSame (answered k new old) (answered k new' old')
      go zero after = after refl
      go (suc k) after = record {
        answer = refl;
        words = λ d. absurd (done_refused (suc k) (sym d));
        kept = words;
        buffer = λ l d. absurd (factor_refused l (suc k) (sym d));
        buffer_kept = buffer;
        work = λ d. absurd (⊎_elim (λ x. done_refused (suc k) (sym x)) (λ x. factor_refused x.0 (suc k) (sym x.1)) d);
      }

-- the level of what is shown is one of a tower's, and a tower has at most 4
pub level-four : (p n : ℤ) (e : List ℤ) (r : InRange p n e) (x : Shown (num p) (degrees_of e) (num n)) → shown_level (num p) (degrees_of e) (num n) x ≤ 4
level-four p n e r x = omega (arith, shown_low (num p) (p_positive p r.modulus) (degrees_of e) (num n) x, r.shape.levels.2)

-- ---- "A shown factor at level j lies in the first S_j words of the factor buffer, written as an element of R_j (level 0: one word); its other words are 0."
module _ (p n : ℤ) (e t : List ℤ) (h : T (p_ok p)) where
  pub record FactorLies (x : Value (num p) (degrees_of e)) (f f' : List ℤ) : Type 0 where
    pub long : length f' ≡ length f
    -- demand 3's factor, and these words hold it
    pub held : ValueHeld (num p) (p_positive p h) (degrees_of e) (num n) (tower_in p n e t h) x (take (size (degrees_of e) (value_level (num p) (degrees_of e) x)) f')
    pub rest : (k : ℕ) → size (degrees_of e) (value_level (num p) (degrees_of e) x) ≤ k → get_or f' k (pos 0) ≡ pos 0

-- what it holds depends on its length alone
pub buffer_same : (f f' w : List ℤ) → length f ≡ length f' → factor_buffer f w ≡ factor_buffer f' w
buffer_same f f' w q = ap (λ l. w ++ copies (l - length w) (pos 0 ∷ [])) q

pub factor_lies : (p n : ℤ) (e t : List ℤ) (r : InRange p n e) (x : Shown (num p) (degrees_of e) (num n))
    → Right (num p) (p_positive p r.modulus) (degrees_of e) (num n) (tower_in p n e t r.modulus) x → (f : List ℤ) → length f ≡ size_of n e
    → FactorLies p n e t r.modulus (value_of (num p) (degrees_of e) (num n) x) f
    (factor_buffer f (shown_words (num p) (p_positive p r.modulus) (degrees_of e) (num n) (tower_in p n e t r.modulus) x))
factor_lies p n e t r x right f l =
    let d = degrees_of e in
    let p_pos = p_positive p r.modulus in
    let s = tower_in p n e t r.modulus in
    let w = shown_words (num p) p_pos d (num n) s x in
    let zeros = copies (length f - length w) (pos 0 ∷ []) in
    let many = shown_long (num p) p_pos d (num n) s x in
    let fits = shown_fits (num p) p_pos d (num n) (ones p n e r) x in
    record {
      long = omega (arith, length-append w zeros, zeros_long (length f - length w), many, fits, l);
      held = rw (take_at w zeros _ many) (shown_held (num p) p_pos d (num n) s x right);
      rest = λ k q. (let at : k ≡ length w + (k - length w) = omega (arith, many) in
          ap (λ i. get_or (factor_buffer f w) i (pos 0)) at ∙ get_or-append-add w zeros (k - length w) (pos 0) ∙ zeros-at (length f - length w) (k - length w));
    }

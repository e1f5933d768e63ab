-- What an inverse leaves where no number is given: the inverse in r, or a factor in the factor buffer, and a work store that is cleared as far as it was needed.
-- C is the element that c holds.
--
-- inverse_blind   == "Contents of answer slots, factor buffer and work store are not tested.";  inverse_numbers == no test gives a number above 9
-- inverse_tower   == where no number is given t is the words of exactly one tower, and p is in range;  inverse-ring == its topmost ring is computed in
-- inverse-element == c is the words of C, which is not zero
-- inverse-kind    == Done or a factor is said;  inverse_done, inverse_factor == each precisely where the sequence gives an inverse, shows a factor;
--                         inverse-level == its level is at most 4
-- InverseLeft, inverse_left   == what is left with an inverse: u · C = 1;  InverseShown, inverse_shown == what is left with a factor: demand 3's
-- inverse_refused == with a number every lent word is as found
-- inverse-free    == a modulus and tower without factors get the inverse of every element that is not zero
-- InverseSame     == what two runs share whose r, factor buffers and work stores have the same lengths;  inverse-two_runs == that they do
use Rattle.std.specs.Prelude.{ℕ, suc, ◌<◌, ◌≤◌, ◌≡◌, refl, ◌⊎◌, ◌↔◌, List, ℤ, pos, T, length, get_or}
use Rattle.std.proofs.Common.{sym, ap, ◌∙◌, subst}
use Rattle.algebra.specs.Ring.{CRing}
use Rattle.residue.specs.Word.{num}
use Rattle.tower.specs.Levels.{ring}
use Rattle.tower.specs.Limits.{p_ok, p_positive, degrees_of}
use Rattle.tower.specs.Work.{inverse_work}
use Rattle.euclid.specs.Answer.{Answer, done as done-with, shown, long}
use Rattle.euclid.specs.Demand.{inv_done, inv_shown}
use Rattle.euclid.specs.Level.{Good}
use Rattle.euclid.specs.Shown.{shown_words}
use Rattle.euclid.specs.Towers.{Shown, Value, value_of, shown_level, Free}
use Rattle.euclid.proofs.Towers.{good, inverse_of_free}
use Rattle.kernel.specs.Answered.{tower_in, level_of}
use Rattle.kernel.specs.InverseAnswers.{ElementOf, element_words, element-is, InverseHeld, inverse-says, inverse_answer, inverse_sequence}
use Rattle.kernel.specs.InverseAnswers.{inverse-words, inverse_not_zero, inverse_ends, inverse-by}
use Rattle.kernel.specs.Inverses.{element_of, inverse_table, inverse_number, InverseWords, inverse_by, inverse}
use Rattle.kernel.specs.Meaning.{TowerHeld}
use Rattle.kernel.specs.Refusals.{done, factor, refused, first-up_to}
use Rattle.kernel.specs.SequenceLaws.{said_done, said_factor, said-kind, answered-old, RunsSame, answer-same, runs_same}
use Rattle.kernel.specs.SequenceLaws.{level-four, FactorLies, factor_lies, buffer_same}
use Rattle.kernel.specs.SlotLaws.{tower-is, ring-held, Cleared, cleared-words, cleared-same}
use Rattle.kernel.specs.Slots.{top_ring, cleared, Changed}

-- the number looks at the lengths of r, f and v only
pub inverse_blind : (p n : ℤ) (e t c r r' f f' v v' : List ℤ) → length r ≡ length r' → length f ≡ length f' → length v ≡ length v'
    → inverse_number p n e t c r f v ≡ inverse_number p n e t c r' f' v'
unfolding inverse_number
inverse_blind p n e t c r r' f f' v v' h k l = rw (h, k, l)

-- no test gives a number above 9
pub inverse_numbers : (p n : ℤ) (e t c r f v : List ℤ) → inverse_number p n e t c r f v ≤ 9
unfolding inverse_number
inverse_numbers p n e t c r f v = first-up_to 9 (inverse_table p n e t c r f v) tt

-- "Numbers 1 to 10 leave every lent word as found."
pub inverse_refused : (p n : ℤ) (e t c r f v : List ℤ) (j : ℕ) → inverse_number p n e t c r f v ≡ suc j
    → inverse p n e t c r f v ≡ record { said = refused (suc j); words = record { inverse = r; factor = f; work = v } }
inverse_refused p n e t c r f v j h = answered-old _ _ (inverse_number p n e t c r f v) j h

module _ (p n : ℤ) (e t c r f v : List ℤ) (h : inverse_number p n e t c r f v ≡ 0) where
  pub inverse-held : InverseHeld p n e t c r f v
  inverse-held = inverse-says p n e t c r f v 0 h

  -- t is the words of exactly one tower, and p is in range
  abbrev pub inverse_tower : TowerHeld p n e t
  inverse_tower = inverse-held.element.tower

  abbrev pub inverse_modulus : T (p_ok p)
  inverse_modulus = inverse_tower.range.modulus

  -- R_N
  abbrev pub inverse_ring : CRing
  inverse_ring = top_ring p n e t inverse_modulus

  pub inverse-ring : inverse_ring ≡ ring (num p) (p_positive p inverse_modulus) (degrees_of e) (num n) inverse_tower.held.this
  inverse-ring = ring-held p n e t inverse_tower

  -- what c holds
  abbrev pub C : ElementOf p n e
  C = element_of p n e c inverse_modulus

  pub inverse-element : (element_words p n e C ≡ c) × (¬ (C ≡ inverse_ring.𝟘))
  inverse-element = (
    ap (element_words p n e) (element-is p n e c inverse_modulus inverse-held.element.held.this inverse-held.element.held.holds) ∙ inverse-held.element.held.holds,
    inverse_not_zero p n e t c r f v inverse-held,
  )

  -- what the sequence on C gives
  abbrev pub found : Answer (Shown (num p) (degrees_of e) (num n)) (ElementOf p n e)
  found = inverse_answer p n e t c r f v inverse_modulus

  abbrev run : Changed InverseWords
  run = inverse p n e t c r f v

  abbrev by : Answer (Shown (num p) (degrees_of e) (num n)) (ElementOf p n e) → Changed InverseWords
  by = inverse_by p n e t r f v inverse_modulus

  run_is : run ≡ by found
  run_is = inverse_sequence p n e t c r f v h inverse_modulus

  ends : ¬ (found ≡ long)
  ends = inverse_ends p n e t c r f v inverse-held

  -- ---- what is said
  pub inverse-kind : ((inverse p n e t c r f v).said ≡ done) ⊎ ((l : ℕ) × ((inverse p n e t c r f v).said ≡ factor l))
  inverse-kind = rw run_is (said-kind by _ (inverse-by p n e t c r f v inverse_modulus) found ends)

  pub inverse_done : ((inverse p n e t c r f v).said ≡ done) ↔ ((u : ElementOf p n e) × (found ≡ done-with u))
  inverse_done = rw run_is (said_done by _ (inverse-by p n e t c r f v inverse_modulus) found ends)

  pub inverse_factor : (l : ℕ)
      → ((inverse p n e t c r f v).said ≡ factor l) ↔ ((x : Shown (num p) (degrees_of e) (num n)) × (found ≡ shown x) × (shown_level (num p) (degrees_of e) (num n) x ≡ l))
  inverse_factor = rw run_is (said_factor by _ (inverse-by p n e t c r f v inverse_modulus) found ends)

  -- its level is at most 4
  pub inverse-level : (l : ℕ) → (inverse p n e t c r f v).said ≡ factor l → l ≤ 4
  inverse-level l q = let x = (inverse_factor l).0 q in subst (λ k. k ≤ 4) x.2 (level-four p n e inverse_tower.range x.0)

  -- ---- what is left
  keeps : Good (level_of p n e t inverse_modulus)
  keeps = good (num p) (p_positive p inverse_modulus) (degrees_of e) (num n) (tower_in p n e t inverse_modulus)

  -- u is the inverse
  pub record InverseLeft (u : ElementOf p n e) : Type 0 where
    pub unit : inverse_ring.◌⊗◌ u C ≡ inverse_ring.𝟙
    -- r is its writing, and read back it is u
    pub words : (inverse p n e t c r f v).words.inverse ≡ element_words p n e u
    pub reads : element_of p n e (inverse p n e t c r f v).words.inverse inverse_modulus ≡ u
    pub factor : (inverse p n e t c r f v).words.factor ≡ f
    pub work : Cleared (inverse_work (degrees_of e) (num n)) v (inverse p n e t c r f v).words.work

  pub inverse_left : (u : ElementOf p n e) → found ≡ done-with u → InverseLeft u
  inverse_left u q =
      let is = run_is ∙ ap by q in
      record {
        unit = inv_done (level_of p n e t inverse_modulus) keeps C inverse-element.1 u q;
        words = ap (λ x. x.words.inverse) is;
        reads = element-is p n e _ inverse_modulus u (sym (ap (λ x. x.words.inverse) is));
        factor = ap (λ x. x.words.factor) is;
        work = rw is (cleared-words (inverse_work (degrees_of e) (num n)) v inverse-held.work);
      }

  -- the factor x is shown
  pub record InverseShown (x : Value (num p) (degrees_of e)) : Type 0 where
    pub words : (inverse p n e t c r f v).words.inverse ≡ r
    pub lies : FactorLies p n e t inverse_modulus x f (inverse p n e t c r f v).words.factor
    pub work : Cleared (inverse_work (degrees_of e) (num n)) v (inverse p n e t c r f v).words.work

  pub inverse_shown : (x : Shown (num p) (degrees_of e) (num n)) → found ≡ shown x → InverseShown (value_of (num p) (degrees_of e) (num n) x)
  inverse_shown x q =
      let is = run_is ∙ ap by q in
      let right = inv_shown (level_of p n e t inverse_modulus) keeps C inverse-element.1 x q in
      record {
        words = ap (λ y. y.words.inverse) is;
        lies = rw is (factor_lies p n e t inverse_tower.range x right f inverse-held.element.long.1.1);
        work = rw is (cleared-words (inverse_work (degrees_of e) (num n)) v inverse-held.work);
      }

  -- ---- "a modulus and tower without such factors"
  pub inverse-free : Free (num p) (p_positive p inverse_modulus) (degrees_of e) (num n) inverse_tower.held.this → (inverse p n e t c r f v).said ≡ done
  inverse-free free =
      let here : Free (num p) (p_positive p inverse_modulus) (degrees_of e) (num n) (tower_in p n e t inverse_modulus) = rw (tower-is p n e t inverse_tower) free in
      let given = inverse_of_free (num p) (p_positive p inverse_modulus) (degrees_of e) (num n) (tower_in p n e t inverse_modulus) here C inverse-element.1 in
      inverse_done.1 (given.0, given.1)

-- ---- "The entry contents of the work store change no answer and no other word."; nor do those of r and f: two runs, with words of the same lengths
module _ (p n : ℤ) (e t c r r' f f' v v' : List ℤ) where
  abbrev pub InverseSame : Type 0
  InverseSame =
      RunsSame (λ (w : InverseWords). w.inverse) (λ w. w.factor) (λ w. w.work) (inverse_work (degrees_of e) (num n)) r r' f f'
      (inverse p n e t c r f v) (inverse p n e t c r' f' v')

  pub inverse-two_runs : length r ≡ length r' → length f ≡ length f' → length v ≡ length v' → InverseSame
  inverse-two_runs h k l =
      runs_same _ _ _ _ _ _ _ _ (inverse_number p n e t c r f v) (inverse_number p n e t c r' f' v') _ _ _ _ number
      (λ z. (let held = inverse-says p n e t c r f v 0 z in
      let m = held.element.tower.range.modulus in
      rw (inverse-words p n e t c r f v m, inverse-words p n e t c r' f' v' m)
      (answer-same _ _ _ _ _ _ _ _ _ _ _ (inverse-by p n e t c r f v m) (inverse-by p n e t c r' f' v' m) (record {
        words = λ u. refl;
        kept = λ x q. q;
        buffer = λ x. buffer_same f f' (shown_words (num p) (p_positive p m) (degrees_of e) (num n) (tower_in p n e t m) x) k;
        buffer_kept = λ u q. q;
        work_done = λ u. zeros z;
        work_shown = λ x. zeros z;
      }) (inverse_answer p n e t c r f v m) (inverse_ends p n e t c r f v held)))) (λ q. q) (λ q. q)
    where
      number : inverse_number p n e t c r f v ≡ inverse_number p n e t c r' f' v'
      number = inverse_blind p n e t c r r' f f' v v' h k l

      zeros : inverse_number p n e t c r f v ≡ 0 → (i : ℕ) → i < inverse_work (degrees_of e) (num n)
          → get_or (cleared (inverse_work (degrees_of e) (num n)) v) i (pos 0) ≡ get_or (cleared (inverse_work (degrees_of e) (num n)) v') i (pos 0)
      zeros z =
          cleared-same (inverse_work (degrees_of e) (num n)) v v' (inverse-says p n e t c r f v 0 z).work (inverse-says p n e t c r' f' v' 0 (sym number ∙ z)).work

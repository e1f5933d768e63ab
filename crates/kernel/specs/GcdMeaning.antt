-- What a GCD leaves where no number is given: the whole of the GCD in g's slot, or a factor in the factor buffer, and a work store that is cleared as far as it was
-- needed. A and B are the polynomials that a and b hold, G the one that g holds afterwards.
--
-- polynomial_in == the polynomial that a slot holds, over the ring of the tower
-- gcd_blind     == "Contents of answer slots, factor buffer and work store are not tested.";  gcd_numbers == no test gives a number above 7
-- gcd_tower     == where no number is given t is the words of exactly one tower, and p is in range;  gcd-ring == its topmost ring is computed in
-- gcd-kind      == Done or a factor is said;  gcd_done, gcd_factor == each precisely where the sequence gives a GCD, shows a factor;
--                      gcd-level == its level is at most 4
-- made_below, gcd_fits == the coefficients that a GCD counts are all, and the answer's slot has room for them
-- GcdHeld           == demand 3's description of a GCD
-- GcdLeft, gcd-left == what is left with a GCD;  gcd-held == what g holds then is so described;  gcd_only == nothing else is
-- GcdShown, gcd_shown == what is left with a factor: demand 3's
-- gcd_refused == with a number every lent word is as found
-- gcd-free    == a modulus and tower without factors get their GCD
-- GcdSame     == what two runs share whose g, factor buffers and work stores have the same lengths;  gcd-two_runs == that they do
use Rattle.std.specs.Prelude.{ℕ, suc, ◌-◌, ◌<◌, ◌≤◌, ◌≡◌, refl, ◌⊎◌, ◌↔◌, List, ℤ, pos, T, length, get_or}
use Rattle.std.proofs.Common.{arith, sym, ap, ◌∙◌, subst}
use Rattle.algebra.specs.Divisor.{Dvd}
use Rattle.algebra.specs.PolyRing.{P, P-path, PolyRing, pol}
use Rattle.algebra.specs.Ring.{CRing}
use Rattle.algebra.specs.Vec.{Below, topped, below_mono, coef_below, topped-top}
use Rattle.residue.specs.Word.{num}
use Rattle.tower.specs.Levels.{ring, one_not_zero}
use Rattle.tower.specs.Limits.{p_ok, p_positive, degrees_of}
use Rattle.euclid.specs.Answer.{Answer, done as done-with, shown, long, Holds}
use Rattle.euclid.specs.Demand.{gcd-zero, gcd_unique}
use Rattle.euclid.proofs.Demand.{gcd_done as given_is, gcd_shown as shown-is}
use Rattle.euclid.specs.Gcd.{Made, nil, made, made_count, made_coefficients, val, Gcd, nothing}
use Rattle.euclid.specs.Level.{Good}
use Rattle.euclid.specs.Shown.{shown_words}
use Rattle.euclid.specs.Steps.{Low}
use Rattle.euclid.proofs.Steps.{gcd-low}
use Rattle.euclid.specs.Towers.{Shown, Value, value_of, shown_level, Free}
use Rattle.euclid.proofs.Towers.{good, gcd_of_free}
use Rattle.kernel.specs.Answered.{tower_in, level_of}
use Rattle.kernel.specs.Calls.{coefficients_of, form_ok}
use Rattle.kernel.specs.DivisionAnswers.{Monic}
use Rattle.kernel.specs.GcdAnswers.{GcdMeans, gcd-says, gcd_answer, gcd-words, gcd_sequence, gcd_ends, gcd-by}
use Rattle.kernel.specs.Gcds.{gcd_room, gcd_needed, gcd_table, gcd_number, GcdWords, gcd_by, gcd}
use Rattle.kernel.specs.InverseAnswers.{ElementOf}
use Rattle.kernel.specs.Meaning.{TowerHeld, ones}
use Rattle.kernel.specs.Refusals.{done, factor, refused, first-up_to}
use Rattle.kernel.specs.SequenceLaws.{said_done, said_factor, said-kind, answered-old, RunsSame, answer-same, runs_same}
use Rattle.kernel.specs.SequenceLaws.{level-four, FactorLies, factor_lies, buffer_same}
use Rattle.kernel.specs.SlotLaws.{tower-is, ring-held, Written, held_below, slot_written, filled_holds, Cleared, cleared-words, cleared-same, filled-same}
use Rattle.kernel.specs.SlotMeaning.{length_iff, form_iff}
use Rattle.kernel.specs.Slots.{degree_count, polynomial_of, coefficients_in, top_ring, filled, cleared, Changed}

-- the polynomial that a slot holds, as an element of R_N[x]; its coefficients are coefficients_in
abbrev pub polynomial_in : (p n : ℤ) (e t : List ℤ) (h : T (p_ok p)) → List ℤ → P (top_ring p n e t h)
polynomial_in p n e t h x = pol (top_ring p n e t h) (coefficients_of n e x) (polynomial_of p n e h (coefficients_of n e x) x)

-- the number looks at the lengths of g, f and v only
pub gcd_blind : (p n : ℤ) (e t a b g g' f f' v v' : List ℤ) → length g ≡ length g' → length f ≡ length f' → length v ≡ length v'
    → gcd_number p n e t a b g f v ≡ gcd_number p n e t a b g' f' v'
unfolding gcd_number
gcd_blind p n e t a b g g' f f' v v' h k l = rw (h, k, l)

-- no test gives a number above 7
pub gcd_numbers : (p n : ℤ) (e t a b g f v : List ℤ) → gcd_number p n e t a b g f v ≤ 7
unfolding gcd_number
gcd_numbers p n e t a b g f v = first-up_to 7 (gcd_table p n e t a b g f v) tt

-- "Numbers 1 to 10 leave every lent word as found."
pub gcd_refused : (p n : ℤ) (e t a b g f v : List ℤ) (j : ℕ) → gcd_number p n e t a b g f v ≡ suc j
    → gcd p n e t a b g f v ≡ record { said = refused (suc j); words = record { gcd = g; factor = f; work = v } }
gcd_refused p n e t a b g f v j h = answered-old _ _ (gcd_number p n e t a b g f v) j h

-- ---- G is a GCD of A and B, by demand 3
pub record GcdHeld (R : CRing) (A B G : P R) : Type 0 where
  -- "its leading coefficient is 1 unless a and b are both zero, and then it is zero"
  pub leading : ¬ ((A ≡ (PolyRing R).𝟘) × (B ≡ (PolyRing R).𝟘)) → Monic R G.0
  pub is_zero : (G ≡ (PolyRing R).𝟘) ↔ ((A ≡ (PolyRing R).𝟘) × (B ≡ (PolyRing R).𝟘))
  -- "a polynomial over that tower divides it precisely when it divides both a and b"
  pub divisors : (q : P R) → Dvd (PolyRing R) q G ↔ (Dvd (PolyRing R) q A × Dvd (PolyRing R) q B)

-- ---- zero, or a monic polynomial
module _ (R : CRing) where
  -- its coefficients
  made-is : (m : Made R.Car (Unit {0})) (j : ℕ) → made_coefficients R m j ≡ (val R m).0 j
  made-is (nil x) j = refl
  made-is (made d w x) j = refl

  -- it has no more than it counts
  pub made_below : (m : Made R.Car (Unit {0})) → Below R.𝟘 (made_count m) (made_coefficients R m)
  made_below (nil x) j q = refl
  made_below (made d w x) j q = coef_below R.𝟘 (suc d) (topped d w R.𝟙) j q

  -- where it is not zero it is monic
  made-monic : (a b : P R) (m : Made R.Car (Unit {0})) → Gcd R a b m → ¬ ((a ≡ (PolyRing R).𝟘) × (b ≡ (PolyRing R).𝟘)) → Monic R (val R m).0
  made-monic a b (nil x) G n = absurd (n G.leading)
  made-monic a b (made d w x) G n = record {
    degree = d;
    lead = topped-top R.𝟘 d w R.𝟙;
    below = coef_below R.𝟘 (suc d) (topped d w R.𝟙);
  }

module _ (p n : ℤ) (e t a b g f v : List ℤ) (h : gcd_number p n e t a b g f v ≡ 0) where
  pub gcd-passed : GcdMeans p n e t a b g f v 0
  gcd-passed = gcd-says p n e t a b g f v 0 h

  -- t is the words of exactly one tower, and p is in range
  abbrev pub gcd_tower : TowerHeld p n e t
  gcd_tower = gcd-passed.slots.tower

  abbrev pub gcd_modulus : T (p_ok p)
  gcd_modulus = gcd_tower.range.modulus

  -- R_N
  abbrev pub gcd_ring : CRing
  gcd_ring = top_ring p n e t gcd_modulus

  pub gcd-ring : gcd_ring ≡ ring (num p) (p_positive p gcd_modulus) (degrees_of e) (num n) gcd_tower.held.this
  gcd-ring = ring-held p n e t gcd_tower

  -- what a and b hold, and g afterwards
  abbrev pub A : P gcd_ring
  A = polynomial_in p n e t gcd_modulus a

  abbrev pub B : P gcd_ring
  B = polynomial_in p n e t gcd_modulus b

  abbrev pub G : P gcd_ring
  G = polynomial_in p n e t gcd_modulus (gcd p n e t a b g f v).words.gcd

  -- what the sequence on A and B gives
  abbrev pub found : Answer (Shown (num p) (degrees_of e) (num n)) (Made (ElementOf p n e) (Unit {0}))
  found = gcd_answer p n e t a b g f v gcd_modulus

  abbrev by : Answer (Shown (num p) (degrees_of e) (num n)) (Made (ElementOf p n e) (Unit {0})) → Changed GcdWords
  by = gcd_by p n e t a b g f v gcd_modulus

  run_is : gcd p n e t a b g f v ≡ by found
  run_is = gcd_sequence p n e t a b g f v h gcd_modulus

  ends : ¬ (found ≡ long)
  ends = gcd_ends p n e t a b g f v gcd_modulus

  -- ---- what is said
  pub gcd-kind : ((gcd p n e t a b g f v).said ≡ done) ⊎ ((l : ℕ) × ((gcd p n e t a b g f v).said ≡ factor l))
  gcd-kind = rw run_is (said-kind by _ (gcd-by p n e t a b g f v gcd_modulus) found ends)

  pub gcd_done : ((gcd p n e t a b g f v).said ≡ done) ↔ ((m : Made (ElementOf p n e) (Unit {0})) × (found ≡ done-with m))
  gcd_done = rw run_is (said_done by _ (gcd-by p n e t a b g f v gcd_modulus) found ends)

  pub gcd_factor : (l : ℕ)
      → ((gcd p n e t a b g f v).said ≡ factor l) ↔ ((x : Shown (num p) (degrees_of e) (num n)) × (found ≡ shown x) × (shown_level (num p) (degrees_of e) (num n) x ≡ l))
  gcd_factor = rw run_is (said_factor by _ (gcd-by p n e t a b g f v gcd_modulus) found ends)

  -- its level is at most 4
  pub gcd-level : (l : ℕ) → (gcd p n e t a b g f v).said ≡ factor l → l ≤ 4
  gcd-level l q = let x = (gcd_factor l).0 q in subst (λ k. k ≤ 4) x.2 (level-four p n e gcd_tower.range x.0)

  -- ---- what is left
  keeps : Good (level_of p n e t gcd_modulus)
  keeps = good (num p) (p_positive p gcd_modulus) (degrees_of e) (num n) (tower_in p n e t gcd_modulus)

  -- nothing is cut off: the GCD's degree is not above those of a and b
  abbrev D : ℕ
  D = gcd_room (degree_count a) (degree_count b) - 1

  low : (x : List ℤ) → T (form_ok p n e x) → degree_count x ≤ suc D → Below gcd_ring.𝟘 (suc D) (coefficients_in p n e gcd_modulus x)
  low x form few = below_mono gcd_ring.𝟘 _ few (held_below p n e gcd_modulus x form)

  lows : Holds (level_of p n e t gcd_modulus).Right (Low (level_of p n e t gcd_modulus) (nothing (ElementOf p n e)) keeps D) found
  lows =
      gcd-low (level_of p n e t gcd_modulus) (nothing (ElementOf p n e)) keeps D (coefficients_of n e a) _ tt (coefficients_of n e b) _ tt
      (low a ((form_iff p n e gcd_modulus a).1 gcd-passed.slots.held_a) (omega arith))
      (low b ((form_iff p n e gcd_modulus b).1 gcd-passed.slots.held_b) (omega arith))

  few : (m : Made (ElementOf p n e) (Unit {0})) → Low (level_of p n e t gcd_modulus) (nothing (ElementOf p n e)) keeps D m → made_count m ≤ coefficients_of n e g
  few (nil x) l = omega arith
  few (made d w x) l = omega (arith, gcd-passed.slots.room)

  pub gcd_fits : (m : Made (ElementOf p n e) (Unit {0})) → found ≡ done-with m → made_count m ≤ coefficients_of n e g
  gcd_fits m q = few m (subst (Holds (level_of p n e t gcd_modulus).Right (Low (level_of p n e t gcd_modulus) (nothing (ElementOf p n e)) keeps D)) q lows)

  -- m is the GCD
  pub record GcdLeft (m : Made (ElementOf p n e) (Unit {0})) : Type 0 where
    pub is_gcd : Gcd gcd_ring A B m
    -- the whole of g's slot, in form, holds it
    pub written : Written p n e g (gcd p n e t a b g f v).words.gcd
    pub holds : G ≡ val gcd_ring m
    pub factor : (gcd p n e t a b g f v).words.factor ≡ f
    pub work : Cleared (gcd_needed n e a b) v (gcd p n e t a b g f v).words.work

  pub gcd-left : (m : Made (ElementOf p n e) (Unit {0})) → found ≡ done-with m → GcdLeft m
  gcd-left m q =
      let is = run_is ∙ ap by q in
      let words : (gcd p n e t a b g f v).words.gcd ≡ filled p n e g (made_coefficients gcd_ring m) = ap (λ x. x.words.gcd) is in
      let long-g = (length_iff n e g).1 gcd-passed.slots.long.1.1.0 in
      record {
        is_gcd = given_is (level_of p n e t gcd_modulus) keeps (coefficients_of n e a) _ (coefficients_of n e b) _ (nothing (ElementOf p n e)) tt tt m q;
        written = rw words (slot_written p n e gcd_modulus g _ long-g);
        holds = P-path gcd_ring _ _ (λ j.
            ap (λ w. coefficients_in p n e gcd_modulus w j) words
            ∙ filled_holds p n e gcd_modulus g (made_coefficients gcd_ring m) (below_mono gcd_ring.𝟘 _ (gcd_fits m q) (made_below gcd_ring m)) j
            ∙ made-is gcd_ring m j);
        factor = ap (λ x. x.words.factor) is;
        work = rw is (cleared-words (gcd_needed n e a b) v gcd-passed.more);
      }

  -- ---- demand 3 of the polynomial that g holds
  pub gcd-held : (gcd p n e t a b g f v).said ≡ done → GcdHeld gcd_ring A B G
  gcd-held d =
      let m = (gcd_done.0 d).0 in
      let left = gcd-left m (gcd_done.0 d).1 in
      let back = sym left.holds in
      let one = one_not_zero (num p) (p_positive p gcd_modulus) (degrees_of e) (num n) _ (ones p n e gcd_tower.range) in
      record {
        leading = λ some. subst (λ x. Monic gcd_ring x.0) back (made-monic gcd_ring A B m left.is_gcd some);
        is_zero = subst (λ x. (x ≡ (PolyRing gcd_ring).𝟘) ↔ ((A ≡ (PolyRing gcd_ring).𝟘) × (B ≡ (PolyRing gcd_ring).𝟘))) back (gcd-zero gcd_ring one A B m left.is_gcd);
        divisors = λ q. subst (λ x. Dvd (PolyRing gcd_ring) q x ↔ (Dvd (PolyRing gcd_ring) q A × Dvd (PolyRing gcd_ring) q B)) back (left.is_gcd.divisors q);
      }

  -- no other polynomial, zero or monic, is so described
  pub gcd_only : (gcd p n e t a b g f v).said ≡ done → {X : Type 0} (m : Made (ElementOf p n e) X) → Gcd gcd_ring A B m → val gcd_ring m ≡ G
  gcd_only d m x =
      let left = gcd-left (gcd_done.0 d).0 (gcd_done.0 d).1 in
      gcd_unique gcd_ring A B m (gcd_done.0 d).0 x left.is_gcd ∙ sym left.holds

  -- ---- the factor x is shown
  pub record GcdShown (x : Value (num p) (degrees_of e)) : Type 0 where
    pub words : (gcd p n e t a b g f v).words.gcd ≡ g
    pub lies : FactorLies p n e t gcd_modulus x f (gcd p n e t a b g f v).words.factor
    pub work : Cleared (gcd_needed n e a b) v (gcd p n e t a b g f v).words.work

  pub gcd_shown : (x : Shown (num p) (degrees_of e) (num n)) → found ≡ shown x → GcdShown (value_of (num p) (degrees_of e) (num n) x)
  gcd_shown x q =
      let is = run_is ∙ ap by q in
      let right = shown-is (level_of p n e t gcd_modulus) keeps (coefficients_of n e a) _ (coefficients_of n e b) _ (nothing (ElementOf p n e)) tt tt x q in
      record {
        words = ap (λ y. y.words.gcd) is;
        lies = rw is (factor_lies p n e t gcd_tower.range x right f gcd-passed.slots.long.1.1.1);
        work = rw is (cleared-words (gcd_needed n e a b) v gcd-passed.more);
      }

  -- ---- "a modulus and tower without such factors always get their GCD"
  pub gcd-free : Free (num p) (p_positive p gcd_modulus) (degrees_of e) (num n) gcd_tower.held.this → (gcd p n e t a b g f v).said ≡ done
  gcd-free free =
      let given =
      gcd_of_free (num p) (p_positive p gcd_modulus) (degrees_of e) (num n) (tower_in p n e t gcd_modulus) (rw (tower-is p n e t gcd_tower) free)
      (coefficients_of n e a) (polynomial_of p n e gcd_modulus (coefficients_of n e a) a) (coefficients_of n e b) (polynomial_of p n e gcd_modulus (coefficients_of n e b) b) in
      gcd_done.1 (given.0, given.1)

-- ---- "The entry contents of the work store change no answer and no other word."; nor do those of g and f: two runs, with words of the same lengths
module _ (p n : ℤ) (e t a b g g' f f' v v' : List ℤ) where
  abbrev pub GcdSame : Type 0
  GcdSame =
      RunsSame (λ (w : GcdWords). w.gcd) (λ w. w.factor) (λ w. w.work) (gcd_needed n e a b) g g' f f'
      (gcd p n e t a b g f v) (gcd p n e t a b g' f' v')

  pub gcd-two_runs : length g ≡ length g' → length f ≡ length f' → length v ≡ length v' → GcdSame
  gcd-two_runs h k l =
      runs_same _ _ _ _ _ _ _ _ (gcd_number p n e t a b g f v) (gcd_number p n e t a b g' f' v') _ _ _ _ number
      (λ z. (let m = (gcd-says p n e t a b g f v 0 z).slots.tower.range.modulus in
      rw (gcd-words p n e t a b g f v m, gcd-words p n e t a b g' f' v' m)
      (answer-same _ _ _ _ _ _ _ _ _ _ _ (gcd-by p n e t a b g f v m) (gcd-by p n e t a b g' f' v' m) (record {
        words = λ u. filled-same p n e g g' (λ m. made_coefficients (top_ring p n e t m) u) m m h;
        kept = λ x q. q;
        buffer = λ x. buffer_same f f' (shown_words (num p) (p_positive p m) (degrees_of e) (num n) (tower_in p n e t m) x) k;
        buffer_kept = λ u q. q;
        work_done = λ u. zeros z;
        work_shown = λ x. zeros z;
      }) (gcd_answer p n e t a b g f v m) (gcd_ends p n e t a b g f v m)))) (λ q. q) (λ q. q)
    where
      number : gcd_number p n e t a b g f v ≡ gcd_number p n e t a b g' f' v'
      number = gcd_blind p n e t a b g g' f f' v v' h k l

      zeros : gcd_number p n e t a b g f v ≡ 0 → (i : ℕ) → i < gcd_needed n e a b
          → get_or (cleared (gcd_needed n e a b) v) i (pos 0) ≡ get_or (cleared (gcd_needed n e a b) v') i (pos 0)
      zeros z = cleared-same (gcd_needed n e a b) v v' (gcd-says p n e t a b g f v 0 z).more (gcd-says p n e t a b g' f' v' 0 (sym number ∙ z)).more

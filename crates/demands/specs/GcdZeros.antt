-- C10 for every input: "Both zero: the zero slot. One zero: the other made monic, or the factor its leading coefficient shows."
--
-- zero_slot_of       == the zero slot, as long as another slot
-- MadeMonic, ShowsIt == that the call leaves x made monic; that it leaves the factor which the leading coefficient of x shows
-- gcd-both-zero      == both zero;  gcd_a_zero, gcd_b_zero == one zero: one of the two, of the other polynomial
use Rattle.std.specs.Prelude.{ℕ, suc, ◌≡◌, refl, ◌⊎◌, List, ◌∷◌, ℤ, negsuc, T}
use Rattle.std.proofs.Common.{arith, sym, ◌∙◌, inl, inr}
use Rattle.std.proofs.Math.Path.{ap, fun_ext}
use Rattle.algebra.specs.Shape.{Shape, null, lead, strip, strip_null, strip-lead}
use Rattle.algebra.specs.UnitDivide.{scaleᵛ, made-monic}
use Rattle.algebra.specs.Vec.{Vec, coef, trunc, zeroᵛ, topped, init, last, coef-trunc, coef_inj, coef-zero, topped-top, topped_split}
use Rattle.residue.specs.Word.{num}
use Rattle.tower.specs.Form.{copies, zero_words}
use Rattle.tower.specs.Levels.{El, group}
use Rattle.tower.specs.Limits.{p_ok, p_positive, degrees_of}
use Rattle.tower.specs.Unique.{slot_coding}
use Rattle.tower.specs.Writing.{slot}
use Rattle.euclid.specs.Answer.{Answer, done as done-with, shown, bind, Holds, long}
use Rattle.euclid.specs.Gcd.{Made, made, make, make_from, gcd-right-zero, nothing}
use Rattle.euclid.proofs.Gcd.{gcd-left-zero}
use Rattle.euclid.specs.Level.{Level}
use Rattle.euclid.specs.Sequence.{Carry}
use Rattle.euclid.specs.Shown.{shown_words}
use Rattle.euclid.specs.Towers.{Shown, Right, shown_level}
use Rattle.euclid.proofs.Towers.{good}
use Rattle.kernel.specs.Answered.{factor_buffer, tower_in, level_of}
use Rattle.kernel.specs.Calls.{coefficients_of, form_ok}
use Rattle.kernel.specs.GcdAnswers.{gcd_answer, gcd_sequence}
use Rattle.kernel.specs.GcdMeaning.{gcd-passed, gcd_modulus}
use Rattle.kernel.specs.Gcds.{gcd_number, gcd_needed, gcd_by, gcd}
use Rattle.kernel.specs.InverseAnswers.{inverted}
use Rattle.kernel.specs.Refusals.{done, factor}
use Rattle.kernel.specs.SlotLaws.{held_below, held-top}
use Rattle.kernel.specs.SlotMeaning.{form_iff}
use Rattle.kernel.specs.Slots.{degree_count, polynomial_of, coefficients_in, top_ring, filled, cleared}

-- the zero slot, as long as g
abbrev pub zero_slot_of : (n : ℤ) (e g : List ℤ) → List ℤ
zero_slot_of n e g = negsuc 0 ∷ copies (coefficients_of n e g) (zero_words (degrees_of e) (num n))

-- x, which is a or b, of degree d
module _ (p n : ℤ) (e t a b g f v x : List ℤ) (d : ℕ) where
  -- "the other made monic": its coefficients times the inverse of the leading one
  pub record MadeMonic : Type 0 where
    pub modulus : T (p_ok p)
    pub scale : El (num p) (degrees_of e) (num n)
    pub is_inverse : inverted p n e t modulus (coefficients_in p n e modulus x d) ≡ done-with scale
    pub leading_one : (top_ring p n e t modulus).◌⊗◌ scale (coefficients_in p n e modulus x d) ≡ (top_ring p n e t modulus).𝟙
    pub leaves : gcd p n e t a b g f v ≡ record {
      said = done;
      words = record {
        gcd = filled p n e g (λ j. (top_ring p n e t modulus).◌⊗◌ scale (coefficients_in p n e modulus x j));
        factor = f;
        work = cleared (gcd_needed n e a b) v;
      };
    }

  -- "or the factor its leading coefficient shows"
  pub record ShowsIt : Type 0 where
    pub modulus : T (p_ok p)
    pub what : Shown (num p) (degrees_of e) (num n)
    pub is_shown : inverted p n e t modulus (coefficients_in p n e modulus x d) ≡ shown what
    pub right : Right (num p) (p_positive p modulus) (degrees_of e) (num n) (tower_in p n e t modulus) what
    pub leaves : gcd p n e t a b g f v ≡ record {
      said = factor (shown_level (num p) (degrees_of e) (num n) what);
      words = record {
        gcd = g;
        factor = factor_buffer f (shown_words (num p) (p_positive p modulus) (degrees_of e) (num n) (tower_in p n e t modulus) what);
        work = cleared (gcd_needed n e a b) v;
      };
    }

-- the zero polynomial fills a slot with the zero slot
filled_zero : (p n : ℤ) (e g : List ℤ) (h : T (p_ok p)) → filled p n e g (λ j. (group (num p) (p_positive p h) (degrees_of e) (num n)).𝟘) ≡ zero_slot_of n e g
filled_zero p n e g h =
    let k = coefficients_of n e g in
    let o = (group (num p) (p_positive p h) (degrees_of e) (num n)).𝟘 in
    ap (slot (num p) (degrees_of e) (num n) k) (coef_inj o k _ (zeroᵛ o k) (λ j. coef-trunc o k (λ j. o) (λ j l. refl) j ∙ sym (coef-zero o k j)))
    ∙ (slot_coding (num p) (p_positive p h) (degrees_of e) (num n) k).write-zero

-- ---- where no number is given
module _ (p n : ℤ) (e t a b g f v : List ℤ) (passes : gcd_number p n e t a b g f v ≡ 0) where
  abbrev m : T (p_ok p)
  m = gcd_modulus p n e t a b g f v passes

  form_a : T (form_ok p n e a)
  form_a = (form_iff p n e m a).1 (gcd-passed p n e t a b g f v passes).slots.held_a

  form_b : T (form_ok p n e b)
  form_b = (form_iff p n e m b).1 (gcd-passed p n e t a b g f v passes).slots.held_b

  abbrev L : Level
  L = level_of p n e t m

  abbrev C : Carry (El (num p) (degrees_of e) (num n))
  C = nothing (El (num p) (degrees_of e) (num n))

  abbrev o : El (num p) (degrees_of e) (num n)
  o = (group (num p) (p_positive p m) (degrees_of e) (num n)).𝟘

  abbrev held : (x : List ℤ) → Vec (El (num p) (degrees_of e) (num n)) (coefficients_of n e x)
  held x = polynomial_of p n e m (coefficients_of n e x) x

  abbrev shape : List ℤ → Shape (El (num p) (degrees_of e) (num n))
  shape x = strip L.is_zero (coefficients_of n e x) (held x)

  abbrev Sequence : Type 0
  Sequence = Answer (Shown (num p) (degrees_of e) (num n)) (Made (El (num p) (degrees_of e) (num n)) (Unit {0}))

  -- ---- a polynomial that is zero
  no_shape : (x : List ℤ) → T (form_ok p n e x) → degree_count x ≡ 0 → shape x ≡ null
  no_shape x form none = strip_null L.zero_test (coefficients_of n e x) (held x) (λ j. held_below p n e m x form j (omega (arith, none)))

  pub gcd-both-zero : degree_count a ≡ 0 → degree_count b ≡ 0
      → gcd p n e t a b g f v ≡ record { said = done; words = record { gcd = zero_slot_of n e g; factor = f; work = cleared (gcd_needed n e a b) v } }
  unfolding make
  gcd-both-zero none-a none-b =
      gcd_sequence p n e t a b g f v passes m
      ∙ ap (gcd_by p n e t a b g f v m)
      (gcd-right-zero L C (coefficients_of n e a) (held a) tt (coefficients_of n e b) (held b) tt (no_shape b form_b none-b)
      ∙ ap (make_from L C tt) (no_shape a form_a none-a))
      ∙ ap (λ w. record { said = done; words = record { gcd = w; factor = f; work = cleared (gcd_needed n e a b) v } }) (filled_zero p n e g m)

  -- ---- a polynomial x that is not zero, of degree d
  module _ (x : List ℤ) (form : T (form_ok p n e x)) (d : ℕ) (degree : degree_count x ≡ suc d) where
    abbrev all : ℕ → El (num p) (degrees_of e) (num n)
    all = coefficients_in p n e m x

    abbrev under : Vec (El (num p) (degrees_of e) (num n)) d
    under = init d (trunc (suc d) all)

    spread : (j : ℕ) → coef o (suc d) (topped d under (all d)) j ≡ all j
    spread j = ap (λ c. coef o (suc d) (topped d under c) j) (sym top) ∙ split j
      where
        split : (j : ℕ) → coef o (suc d) (topped d under (last d (trunc (suc d) all))) j ≡ all j
        split j =
            ap (λ w. coef o (suc d) w j) (topped_split d (trunc (suc d) all))
            ∙ coef-trunc o (suc d) all (λ i l. held_below p n e m x form i (omega (arith, degree))) j

        top : last d (trunc (suc d) all) ≡ all d
        top = sym (topped-top o d under (last d (trunc (suc d) all))) ∙ split d

    not_zero : ¬ (all d ≡ o)
    not_zero = held-top p n e m x form d (sym degree)

    shape_of : shape x ≡ lead d under (all d)
    shape_of = strip-lead L.zero_test (coefficients_of n e x) (held x) d under (all d) not_zero (λ j. sym (spread j))

    made_of : make L C (coefficients_of n e x) (held x) tt ≡ bind (L.inv (all d)) (λ i. done-with (made d (scaleᵛ L.ring d i under) tt))
    unfolding make
    made_of = ap (make_from L C tt) shape_of

    -- where the sequence does nothing but make x monic
    by-make : gcd_answer p n e t a b g f v m ≡ make L C (coefficients_of n e x) (held x) tt → MadeMonic p n e t a b g f v x d ⊎ ShowsIt p n e t a b g f v x d
    by-make only =
        go (L.inv (all d)) refl (good (num p) (p_positive p m) (degrees_of e) (num n) (tower_in p n e t m) (all d) not_zero)
      where
        monic : Answer L.Shown L.ring.Car → Sequence
        monic r = bind r (λ i. done-with (made d (scaleᵛ L.ring d i under) tt))

        leaves : (r : Answer L.Shown L.ring.Car) → L.inv (all d) ≡ r → gcd p n e t a b g f v ≡ gcd_by p n e t a b g f v m (monic r)
        leaves r q = gcd_sequence p n e t a b g f v passes m ∙ ap (gcd_by p n e t a b g f v m) (only ∙ made_of ∙ ap monic q)

        go : (r : Answer L.Shown L.ring.Car) → L.inv (all d) ≡ r → Holds L.Right (λ i. L.ring.◌⊗◌ i (all d) ≡ L.ring.𝟙) r
            → MadeMonic p n e t a b g f v x d ⊎ ShowsIt p n e t a b g f v x d
        go (done-with i) q unit = inl (record {
          modulus = m;
          scale = i;
          is_inverse = q;
          leading_one = unit;
          leaves =
              leaves (done-with i) q
              ∙ ap (λ w. record { said = done; words = record { gcd = filled p n e g w; factor = f; work = cleared (gcd_needed n e a b) v } })
              (fun_ext (λ j. made-monic L.ring d under (all d) i unit j ∙ ap (λ c. L.ring.◌⊗◌ i c) (spread j)));
        })
        go (shown s) q right = inr (record { modulus = m; what = s; is_shown = q; right = right; leaves = leaves (shown s) q })
        go long q unit = elim unit [ ]

  pub gcd_a_zero : (d : ℕ) → degree_count a ≡ 0 → degree_count b ≡ suc d
      → MadeMonic p n e t a b g f v b d ⊎ ShowsIt p n e t a b g f v b d
  gcd_a_zero d none degree =
      by-make b form_b d degree
      (gcd-left-zero L C (coefficients_of n e a) (held a) tt (coefficients_of n e b) (held b) tt d _ _ (no_shape a form_a none)
      (shape_of b form_b d degree))

  pub gcd_b_zero : (d : ℕ) → degree_count a ≡ suc d → degree_count b ≡ 0
      → MadeMonic p n e t a b g f v a d ⊎ ShowsIt p n e t a b g f v a d
  gcd_b_zero d degree none =
      by-make a form_a d degree
      (gcd-right-zero L C (coefficients_of n e a) (held a) tt (coefficients_of n e b) (held b) tt (no_shape b form_b none))

-- Laws of what a GCD gives, from what the sequence came to.
--
-- slot_some == where a GCD was found there are a coefficient and a slot g
-- found-ready, found_given == the answer's words may be copied out, and what the call gives then;  work-room == the words to be cleared
use Rattle.kernel.proofs.Finding.{elements_copied, τ, M, held, A, given, g-length, f-length, Sought}
use Rattle.kernel.proofs.Shapes.{size-found, level-size}
use Rattle.kernel.proofs.Showing.{Shows, Gives, shows_level, shows_few, shows_buffer, finds_greatest, finds_divides, finds_never}
use Rattle.kernel.proofs.Slotting.{put_whole}
use Rattle.kernel.proofs.Viewing.{shape-some}
use Rattle.kernel.specs.Answered.{factor_buffer, tower_in}
use Rattle.kernel.specs.Calls.{size_of, coefficients_of}
use Rattle.kernel.specs.GcdMeaning.{gcd_fits, made_below}
use Rattle.kernel.specs.Gcds.{gcd_number}
use Rattle.kernel.specs.Meaning.{ones}
use Rattle.kernel.specs.Parts.{FoundReady, FoundGiven}
use Rattle.kernel.specs.Promises.{GcdGiven}
use Rattle.kernel.specs.Refusals.{factor}
use Rattle.kernel.specs.Shape.{ShapeOf}
use Rattle.kernel.specs.Slots.{top_ring}
use Rattle.kernel.specs.declared.Answer.{Answer as CallAnswer}
use Rattle.kernel.specs.declared.Answer.TheVariants.{Done, Factor, Refused}
use Rattle.kernel.specs.declared.shape.Shape.{Shape}
use Rattle.euclid.specs.Answer.{Answer, done as done-with, shown, long}
use Rattle.euclid.specs.Gcd.{Made, made_coefficients}
use Rattle.euclid.specs.Towers.{Shown}
use Rattle.sequences.specs.Gcds.{greatest}
use Rattle.sequences.specs.declared.Greatest.{Greatest}
use Rattle.sequences.specs.declared.Stop.{Stop}
use Rattle.sequences.specs.declared.Stop.TheVariants.{Factor as FactorOf, Long}
use Rattle.std.specs.Prelude.{Result, Ok, Err}
use Rattle.polynomials.specs.Slots.{Finished}
use Rattle.products.specs.Product.{Elements}
use Rattle.algebra.specs.Vec.{Below, below_mono, coef, coef-trunc, trunc}
use Rattle.residue.specs.Word.{num}
use Rattle.tower.specs.Form.{seg, copies}
use Rattle.tower.specs.Levels.{El, Tower, group}
use Rattle.tower.specs.Limits.{p_ok, p_positive, degrees_of, slot_count}
use Rattle.tower.specs.Stands.{Stands}
use Rattle.tower.specs.Store.{Put}
use Rattle.tower.specs.Writing.{size, write, slot, slot_long}
use mathlib.Core.Path.{◌≡◌, refl, sym, ap, ◌∙◌, subst, subst₂, subst₃}
use mathlib.Core.List.{List, [], ◌∷◌}
use mathlib.Core.Logic.{◌⊎◌, inl, inr}
use Prim.Native.Nat.{ℕ, ◌+◌, ◌-◌, ◌*◌, ◌<◌, ◌≤◌}
use native.Mathlib.Omega.{arith}
use lib.IntN.{ℤ, pos}
use lib.Dec.{T}
use lib.ListN.{length, get_or}

-- ---- the answer's words copied out
pub slot_some : (o : Result Greatest Stop) (s : Shape) (v g f : List ℤ) (m : Greatest) → o ≡ Ok m → FoundReady o s v g f → (0 < s.size) × (0 < length g)
slot_some o s v g f m u h =
    let F = subst (λ x. FoundReady x s v g f) u h in
    (shape-some s F.known, omega (arith, F.long))

-- ---- what the call gives
module _ {p n : ℤ} {e t a b g f v : List ℤ} {passed : gcd_number p n e t a b g f v ≡ 0} (R : Sought p n e t a b g f v passed) where
  abbrev d : List ℕ
  d = degrees_of e

  abbrev S : ℕ
  S = size_of n e

  abbrev m : T (p_ok p)
  m = M p n e t a b g f v passed

  abbrev p_pos : 0 < num p
  p_pos = p_positive p m

  abbrev θ : Tower (num p) d (num n)
  θ = tower_in p n e t m

  abbrev X : Answer (Shown (num p) d (num n)) (Made (El (num p) d (num n)) (Unit {0}))
  X = A p n e t a b g f v passed

  abbrev s : Shape
  s = R.s

  abbrev is : ShapeOf n e s
  is = R.is

  abbrev w : List ℤ
  w = R.w

  size_of_lem : s.size ≡ S
  size_of_lem = size-found is

  -- the words that are cleared are there
  pub work-room : R.c ≤ length w
  work-room = R.clears.0

  -- a GCD of l coefficients at the place `at`; g's slot has `many`
  module _ (at l : ℕ) (u : R.o ≡ Ok (greatest at l)) where
    gives : Gives (num p) p_pos d (num n) θ w X at l × (at + l * S ≤ R.top)
    gives = finds_greatest (num p) p_pos d (num n) θ w R.top X R.o at l R.found u

    count_fits : l ≤ coefficients_of n e g
    count_fits = omega (arith, gives.0.count, gcd_fits p n e t a b g f v passed gives.0.m gives.0.is)

    greatest_inside : at + l * s.size ≤ length w
    greatest_inside = omega (arith, ap (λ x. l * x) size_of_lem, gives.1, R.inside)

    module _ (many : ℕ) (e-many : many ≡ slot_count s.size (length g)) where
      many_is : many ≡ coefficients_of n e g
      many_is = e-many ∙ ap (λ x. slot_count x (length g)) size_of_lem

      greatest_few : l ≤ many
      greatest_few = omega (arith, many_is, count_fits)

      module _ (g₁ : List ℤ) (put : Put 1 (seg at (l * s.size) w) g g₁) where
        abbrev coefficients : ℕ → El (num p) d (num n)
        coefficients = made_coefficients (top_ring p n e t m) gives.0.m

        -- zero from its l coefficients on, it has no more than g's slot
        low : Below (top_ring p n e t m).𝟘 many coefficients
        low = below_mono (top_ring p n e t m).𝟘 _ (omega (arith, greatest_few, gives.0.count)) (made_below (top_ring p n e t m) gives.0.m)

        stand : Elements (num p) d (num n) l coefficients g₁ 1
        stand =
            elements_copied (num p) d (num n) l coefficients w g g₁ at 1 (omega (arith, gives.1, R.inside))
            (λ i q. gives.0.stands i (omega (arith, gives.0.count))) (subst (λ x. Put 1 (seg at (l * x) w) g g₁) size_of_lem put)

        greatest_given : (g₂ : List ℤ) → Finished s.levels many l (many - l) s.degrees g₁ g₂ → (v' : List ℤ) → Put 0 (copies R.c (pos 0 ∷ [])) w v'
            → GcdGiven p n e t a b g f v Done g₂ f v'
        greatest_given g₂ F v' put-v =
            given p n e t a b g f v passed (done-with gives.0.m) gives.0.is Done g₂ f v' refl
            (whole ∙ ap (λ x. slot (num p) d (num n) x (trunc x coefficients)) many_is) refl
            (R.clears.1 v' put-v)
          where
            o₀ : El (num p) d (num n)
            o₀ = (group (num p) p_pos d (num n)).𝟘

            is-there : (i : ℕ) → coef o₀ many (trunc many coefficients) i ≡ coefficients i
            is-there i = coef-trunc o₀ many coefficients low i

            plain : Finished (num n) many l (many - l) d g₁ g₂
            plain = subst₂ (λ i x. Finished i many l (many - l) x g₁ g₂) is.levels is.degrees F

            put-g : Put 0 (slot (num p) d (num n) many (trunc many coefficients)) g₁ g₂
            put-g = plain.done (num p) p_pos (trunc many coefficients) here none
              where
                here : (i : ℕ) → i < many → (i < l) ⊎ (l + (many - l) ≤ i) → Stands (num p) d (num n) (coef o₀ many (trunc many coefficients) i) g₁ (1 + i * S)
                here i q (inl r) = stand i r ∙ ap (write (num p) d (num n)) (sym (is-there i))
                here i q (inr r) = absurd (omega (arith, greatest_few))

                none : (i : ℕ) → l ≤ i → i < l + (many - l) → coef o₀ many (trunc many coefficients) i ≡ o₀
                none i q r = is-there i ∙ made_below (top_ring p n e t m) gives.0.m i (omega (arith, gives.0.count))

            whole : g₂ ≡ slot (num p) d (num n) many (trunc many coefficients)
            whole =
                put_whole (slot (num p) d (num n) many (trunc many coefficients)) g₁ g₂
                (put.kept.long ∙ sym (g-length p n e t a b g f v passed) ∙ ap (λ x. 1 + x * S) (sym many_is)
                ∙ sym (slot_long (num p) d (num n) many (trunc many coefficients))) put-g

  -- a factor of the level l at the place `at`
  module _ (l at : ℕ) (u : R.o ≡ Err (FactorOf l at)) where
    shows : Shows (num p) p_pos d (num n) θ w X l at × (at + size d l ≤ R.top)
    shows = finds_divides (num p) p_pos d (num n) θ w R.top X R.o l at R.found u

    divides_level : l < 5
    divides_level = omega (arith, shows_level (num p) p_pos d (num n) θ w l at shows.0, is.levels, is.known.low)

    module _ (x : ℕ) (ex : x ≡ get_or s.sizes l 0) where
      words_are : x ≡ size d l
      words_are = level-size is l (omega (arith, divides_level)) x ex

      divides_room : (at + x ≤ length w) × (x ≤ length f)
      divides_room = (
        omega (arith, shows.1, words_are, R.inside),
        omega (
          arith,
          words_are,
          shows_few (num p) p_pos d (num n) θ w l at shows.0 (ones p n e (τ p n e t a b g f v passed).range),
          f-length p n e t a b g f v passed,
        ),
      )

      divides_given : (f' : List ℤ) → f' ≡ factor_buffer f (seg at x w) → (v' : List ℤ) → Put 0 (copies R.c (pos 0 ∷ [])) w v'
          → GcdGiven p n e t a b g f v (Factor l) g f' v'
      divides_given f' ef v' put =
          given p n e t a b g f v passed (shown shows.0.factor) shows.0.is (Factor l) g f' v' (ap factor shows.0.level-is) refl
          (shows_buffer (num p) p_pos d (num n) θ w l at shows.0 x words_are f f' ef) (R.clears.1 v' put)

  never_given : R.o ≡ Err Long → (v' : List ℤ) → Put 0 (copies R.c (pos 0 ∷ [])) w v' → GcdGiven p n e t a b g f v (Refused 11) g f v'
  never_given u v' put =
      given p n e t a b g f v passed long (finds_never (num p) p_pos d (num n) θ w R.top X R.o R.found u) (Refused 11) g f v' refl refl refl (R.clears.1 v' put)

  -- by what was found: its words may be copied out, and what the call gives then
  ready_by : (x : Result Greatest Stop) → R.o ≡ x → FoundReady x s w g f
  ready_by (Ok m) u = record {
    known = is.known;
    inside = greatest_inside m.at m.count u;
    few = greatest_few m.at m.count u (slot_count s.size (length g)) refl;
    long = subst (λ x. 1 + slot_count x (length g) * x ≡ length g) (sym size_of_lem) (g-length p n e t a b g f v passed);
    short = (held p n e t a b g f v passed).slots.long.1.1.0.short;
  }
  ready_by (Err (FactorOf l at)) u = let room = divides_room l at u (get_or s.sizes l 0) refl in (divides_level l at u, room.0, room.1)
  ready_by (Err Long) u = tt

  given_by : (x : Result Greatest Stop) → R.o ≡ x → (r : CallAnswer) (g' f' : List ℤ) → FoundGiven x s w g f r g' f'
      → (v' : List ℤ) → Put 0 (copies R.c (pos 0 ∷ [])) w v' → GcdGiven p n e t a b g f v r g' f' v'
  given_by (Ok m) u r g' f' (er, G, ef) v' clear =
      subst₂ (λ x y. GcdGiven p n e t a b g f v x g' y v') (sym er) (sym ef)
      (greatest_given m.at m.count u (slot_count s.size (length g)) refl G.copied G.put g' G.ended v' clear)
  given_by (Err (FactorOf l at)) u r g' f' (eg, (er, ef)) v' clear =
      subst₂ (λ x y. GcdGiven p n e t a b g f v x y f' v') (sym er) (sym eg) (divides_given l at u (get_or s.sizes l 0) refl f' ef v' clear)
  given_by (Err Long) u r g' f' (eg, (er, ef)) v' clear = subst₃ (λ x y z. GcdGiven p n e t a b g f v x y z v') (sym er) (sym eg) (sym ef) (never_given u v' clear)

  pub found-ready : FoundReady R.o s w g f
  found-ready = ready_by R.o refl

  pub found_given : (r : CallAnswer) (g' f' : List ℤ) → FoundGiven R.o s w g f r g' f'
      → (v' : List ℤ) → Put 0 (copies R.c (pos 0 ∷ [])) w v' → GcdGiven p n e t a b g f v r g' f' v'
  found_given = given_by R.o refl

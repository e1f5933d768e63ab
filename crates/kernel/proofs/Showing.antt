-- Laws of what a remainder sequence in the store came to, by its result, and of a factor that is shown.
--
-- shown_buffer          == the factor buffer once it is cleared and a factor's words are copied into it
-- Inverts, Shows, Gives == an inverse is given, a factor is shown, a GCD is given, and its words stand at a place
-- shows_level, shows_few, shows_buffer == the level of a factor is one of the tower's, it has few words, and they are those that the factor buffer shows
-- came_done .. came_long    == the three results of an inverse;  reached_inverse .. reached_endless == those with a place
-- finds_greatest .. finds_never == the three results of a GCD
use Rattle.kernel.proofs.Slotting.{put_whole}
use Rattle.kernel.specs.Answered.{factor_buffer}
use Rattle.kernel.specs.SlotLaws.{zeros_long, zeros-at}
use Rattle.euclid.specs.Answer.{Answer, done as done-with, shown, long}
use Rattle.euclid.specs.Gcd.{Made, made_count, made_coefficients}
use Rattle.euclid.specs.Shown.{shown_words, shown_fits}
use Rattle.euclid.specs.Towers.{Shown, shown_level}
use Rattle.products.specs.Product.{Elements}
use Rattle.sequences.specs.Gcds.{Finds, greatest}
use Rattle.sequences.specs.Outcomes.{FactorStands, Came, Above, Reached}
use Rattle.sequences.specs.declared.Greatest.{Greatest}
use Rattle.sequences.specs.declared.Stop.{Stop}
use Rattle.sequences.specs.declared.Stop.TheVariants.{Factor, Long}
use Rattle.std.specs.Prelude.{Result, Ok, Err}
use Rattle.tower.specs.Form.{seg, copies}
use Rattle.tower.specs.Levels.{El, Tower, ring, Ones}
use Rattle.tower.specs.Stands.{Stands}
use Rattle.tower.specs.Store.{Put, put_unique}
use Rattle.tower.specs.Writing.{size}
use mathlib.Core.Path.{◌≡◌, refl, sym, ap, ◌∙◌, subst, subst₂}
use mathlib.Core.List.{List, [], ◌∷◌}
use mathlib.Core.Logic.{inl, inr}
use Prim.Native.Nat.{ℕ, zero, suc, ◌+◌, ◌-◌, ◌*◌, ◌<◌, ◌≤◌}
use native.Mathlib.Omega.{arith}
use lib.IntN.{ℤ, pos}
use lib.ListN.{length, get_or, length-append}
use lib.Seq.{take-append_seam, get_or-append-add}

-- ---- a shown factor
-- the factor buffer once it is cleared and the words w stand at its beginning
pub shown_buffer : (w f f₁ f₂ : List ℤ) → length w ≤ length f → Put 0 (copies (length f) (pos 0 ∷ [])) f f₁ → Put 0 w f₁ f₂ → f₂ ≡ factor_buffer f w
shown_buffer w f f₁ f₂ l g h = put_unique h (record {
  kept = record {
    long = omega (arith, length-append w (copies (length f - length w) (pos 0 ∷ [])), zeros_long (length f - length w), g.kept.long);
    below = λ k q. absurd (omega arith);
    above = λ k q. zero-above k q ∙ sym (zero-before k);
  };
  here = take-append_seam w (copies (length f - length w) (pos 0 ∷ []));
})
  where
    cleared : f₁ ≡ copies (length f) (pos 0 ∷ [])
    cleared = put_whole (copies (length f) (pos 0 ∷ [])) f f₁ (sym (zeros_long (length f))) g

    zero-before : (k : ℕ) → get_or f₁ k (pos 0) ≡ pos 0
    zero-before k = ap (λ x. get_or x k (pos 0)) cleared ∙ zeros-at (length f) k

    zero-above : (k : ℕ) → 0 + length w ≤ k → get_or (factor_buffer f w) k (pos 0) ≡ pos 0
    zero-above k q =
        let e : k ≡ length w + (k - length w) = omega arith in
        ap (λ i. get_or (factor_buffer f w) i (pos 0)) e
        ∙ get_or-append-add w (copies (length f - length w) (pos 0 ∷ [])) (k - length w) (pos 0)
        ∙ zeros-at (length f - length w) (k - length w)

-- the words of a factor have a level that the tower has
level-low : (p : ℕ) (d : List ℕ) (i : ℕ) (x : Shown p d i) → shown_level p d i x ≤ i
level-low p d zero x = omega arith
level-low p d (suc i) (inl x) = omega (arith, level-low p d i x)
level-low p d (suc i) (inr x) = omega arith

-- ---- what the sequence came to, by its result
module _ (p : ℕ) (p_pos : 0 < p) (d : List ℕ) (i : ℕ) (t : Tower p d i) (w : List ℤ) where
  -- an inverse is given, and its words stand at a place
  pub record Inverts (A : Answer (Shown p d i) (El p d i)) (at : ℕ) : Type 0 where
    pub u : El p d i
    pub is : A ≡ done-with u
    pub stands : Stands p d i u w at

  -- a factor of a level is shown, and its words stand at a place
  pub record Shows {X : Type 0} (A : Answer (Shown p d i) X) (level at : ℕ) : Type 0 where
    pub factor : Shown p d i
    pub is : A ≡ shown factor
    pub level-is : level ≡ shown_level p d i factor
    pub stands : FactorStands p p_pos d i t factor w at

  -- its level is one of the tower's, it has no more words than an element, and the factor buffer that was shown them is that of the factor
  module _ {X : Type 0} {A : Answer (Shown p d i) X} (l at : ℕ) (S : Shows A l at) where
    pub shows_level : l ≤ i
    shows_level = omega (arith, S.level-is, level-low p d i S.factor)

    pub shows_few : Ones p p_pos d i → size d l ≤ size d i
    shows_few o = omega (arith, ap (size d) S.level-is, shown_fits p p_pos d i o S.factor)

    pub shows_buffer : (k : ℕ) → k ≡ size d l → (f f' : List ℤ) → f' ≡ factor_buffer f (seg at k w) → f' ≡ factor_buffer f (shown_words p p_pos d i t S.factor)
    shows_buffer k ek f f' ef = ef ∙ ap (factor_buffer f) (ap (λ j. seg at j w) (ek ∙ ap (size d) S.level-is) ∙ S.stands)

  -- a GCD of k coefficients is given, and these stand at a place
  pub record Gives (A : Answer (Shown p d i) (Made (El p d i) (Unit {0}))) (at k : ℕ) : Type 0 where
    pub m : Made (El p d i) (Unit {0})
    pub is : A ≡ done-with m
    pub count : k ≡ made_count m
    pub stands : Elements p d i (made_count m) (made_coefficients (ring p p_pos d i t) m) w at

  pub came_done : (A : Answer (Shown p d i) (El p d i)) (o : Result (Unit {0}) Stop) (c : ℕ) → Came p p_pos d i t A o w c → o ≡ Ok tt → Inverts A c
  came_done (done-with u) o c (e, s) q = record { u = u; is = refl; stands = s }
  came_done (shown x) o c (e, s) q = absurd (let z : ◌≡◌ {A = ℕ} 0 1 = cc in omega arith)
  came_done long o c e q = absurd (let z : ◌≡◌ {A = ℕ} 0 1 = cc in omega arith)

  pub came_shown : (A : Answer (Shown p d i) (El p d i)) (o : Result (Unit {0}) Stop) (c l at : ℕ) → Came p p_pos d i t A o w c → o ≡ Err (Factor l at)
      → Shows A l at × (at ≡ c)
  came_shown (done-with u) o c l at (e, s) q = absurd (let z : ◌≡◌ {A = ℕ} 0 1 = cc in omega arith)
  came_shown (shown x) o c l at (e, s) q =
      let same : c ≡ at = cc in
      (record { factor = x; is = refl; level-is = cc; stands = subst (λ y. FactorStands p p_pos d i t x w y) same s }, sym same)
  came_shown long o c l at e q = absurd (let z : ◌≡◌ {A = ℕ} 0 1 = cc in omega arith)

  pub came_long : (A : Answer (Shown p d i) (El p d i)) (o : Result (Unit {0}) Stop) (c : ℕ) → Came p p_pos d i t A o w c → o ≡ Err Long → A ≡ long
  came_long (done-with u) o c (e, s) q = absurd (let z : ◌≡◌ {A = ℕ} 0 1 = cc in omega arith)
  came_long (shown x) o c (e, s) q = absurd (let z : ◌≡◌ {A = ℕ} 0 1 = cc in omega arith)
  came_long long o c e q = refl

  -- above level 0 the place is among the words above top
  module _ (top : ℕ) where
    pub reached_inverse : (A : Answer (Shown p d i) (El p d i)) (o : Result ℕ Stop) (at : ℕ) → Reached p p_pos d i t A o w top → o ≡ Ok at
        → Inverts A at × Above d i (size d i) at top
    reached_inverse (done-with u) o at (b, e, h, s) q =
        let same : b ≡ at = cc in
        (record { u = u; is = refl; stands = subst (λ x. Stands p d i u w x) same s }, subst (λ x. Above d i (size d i) x top) same h)
    reached_inverse (shown x) o at (b, e, h, s) q = absurd (let z : ◌≡◌ {A = ℕ} 0 1 = cc in omega arith)
    reached_inverse long o at e q = absurd (let z : ◌≡◌ {A = ℕ} 0 1 = cc in omega arith)

    pub reached_divisor : (A : Answer (Shown p d i) (El p d i)) (o : Result ℕ Stop) (l at : ℕ) → Reached p p_pos d i t A o w top → o ≡ Err (Factor l at)
        → Shows A l at × Above d i (size d l) at top
    reached_divisor (done-with u) o l at (b, e, h, s) q = absurd (let z : ◌≡◌ {A = ℕ} 0 1 = cc in omega arith)
    reached_divisor (shown x) o l at (b, e, h, s) q =
        let same : b ≡ at = cc in
        let level : l ≡ shown_level p d i x = cc in (
          record { factor = x; is = refl; level-is = level; stands = subst (λ y. FactorStands p p_pos d i t x w y) same s },
          subst₂ (λ k y. Above d i (size d k) y top) (sym level) same h,
        )
    reached_divisor long o l at e q = absurd (let z : ◌≡◌ {A = ℕ} 0 1 = cc in omega arith)

    pub reached_endless : (A : Answer (Shown p d i) (El p d i)) (o : Result ℕ Stop) → Reached p p_pos d i t A o w top → o ≡ Err Long → A ≡ long
    reached_endless (done-with u) o (b, e, h, s) q = absurd (let z : ◌≡◌ {A = ℕ} 0 1 = cc in omega arith)
    reached_endless (shown x) o (b, e, h, s) q = absurd (let z : ◌≡◌ {A = ℕ} 0 1 = cc in omega arith)
    reached_endless long o e q = refl

    -- a GCD: its k coefficients stand at a place below top
    pub finds_greatest : (A : Answer (Shown p d i) (Made (El p d i) (Unit {0}))) (o : Result Greatest Stop) (at k : ℕ) → Finds p p_pos d i t A o w top → o ≡ Ok (greatest at k)
        → Gives A at k × (at + k * size d i ≤ top)
    finds_greatest (done-with m) o at k (b, e, h, s) q =
        let both : greatest b (made_count m) ≡ greatest at k = cc in
        let same : b ≡ at = ap (λ x. x.at) both in
        let count : made_count m ≡ k = ap (λ x. x.count) both in (
          record { m = m; is = refl; count = sym count; stands = subst (λ x. Elements p d i (made_count m) (made_coefficients (ring p p_pos d i t) m) w x) same s },
          subst₂ (λ x j. x + j * size d i ≤ top) same count h,
        )
    finds_greatest (shown x) o at k (b, e, h, s) q = absurd (let z : ◌≡◌ {A = ℕ} 0 1 = cc in omega arith)
    finds_greatest long o at k e q = absurd (let z : ◌≡◌ {A = ℕ} 0 1 = cc in omega arith)

    pub finds_divides : (A : Answer (Shown p d i) (Made (El p d i) (Unit {0}))) (o : Result Greatest Stop) (l at : ℕ) → Finds p p_pos d i t A o w top → o ≡ Err (Factor l at)
        → Shows A l at × (at + size d l ≤ top)
    finds_divides (done-with m) o l at (b, e, h, s) q = absurd (let z : ◌≡◌ {A = ℕ} 0 1 = cc in omega arith)
    finds_divides (shown x) o l at (b, e, h, s) q =
        let same : b ≡ at = cc in
        let level : l ≡ shown_level p d i x = cc in (
          record { factor = x; is = refl; level-is = level; stands = subst (λ y. FactorStands p p_pos d i t x w y) same s },
          subst₂ (λ k y. y + size d k ≤ top) (sym level) same h,
        )
    finds_divides long o l at e q = absurd (let z : ◌≡◌ {A = ℕ} 0 1 = cc in omega arith)

    pub finds_never : (A : Answer (Shown p d i) (Made (El p d i) (Unit {0}))) (o : Result Greatest Stop) → Finds p p_pos d i t A o w top → o ≡ Err Long → A ≡ long
    finds_never (done-with m) o (b, e, h, s) q = absurd (let z : ◌≡◌ {A = ℕ} 0 1 = cc in omega arith)
    finds_never (shown x) o (b, e, h, s) q = absurd (let z : ◌≡◌ {A = ℕ} 0 1 = cc in omega arith)
    finds_never long o e q = refl

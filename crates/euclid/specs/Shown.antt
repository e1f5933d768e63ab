-- The words of a shown factor: "A shown factor at level j lies in the first S_j words of the factor buffer, written as an element of R_j (level 0: one word)".
--
-- factor_element   == a monic polynomial of a degree below d as an element of the level above
-- shown_words n t f == the words of what is shown at level n of the tower t;  shown_long == they are S_j, j its level;  shown_low == which is not above n;
--                    shown_fits == nor are they above S_n
-- ValueHeld       == words hold a factor of the tower: the number at level 0, above it a polynomial in form;  shown_held == so do those of what is rightly shown
use Prim.Native.Nat.{ℕ, zero, suc, ◌*◌, ◌<◌, ◌≤◌}
use Rattle.std.proofs.Common.{mul-le-mul_right, arith, ◌∙◌, inl, inr}
use Rattle.std.specs.Prelude.{◌≡◌, refl, List, [], ◌∷◌, ℤ, pos, T, length}
use Rattle.std.proofs.Math.Path.{sym, ap}
use Rattle.algebra.specs.PolyRing.{mon}
use Rattle.algebra.specs.Vec.{coef, topped, trunc, below_mono, coef_below, coef-trunc}
use Rattle.tower.specs.Form.{is_in_form}
use Rattle.tower.specs.Levels.{degree, El, Tower, group, ring, Ones, fewer}
use Rattle.tower.specs.Unique.{laws}
use Rattle.tower.specs.Writing.{size, size-zero, size_suc, write, read, write_long}
use Rattle.euclid.specs.Level.{Mon, Factor₀}
use Rattle.euclid.specs.Towers.{Shown, Value, value_of, shown_level, Right, FactorOf, whole, lower}

module _ (p : ℕ) (p_pos : 0 < p) (d : List ℕ) where
  -- its coefficients, with the leading 1, as many as an element has
  abbrev pub factor_element : (n : ℕ) (t : Tower p d n) → Mon (El p d n) → El p d (suc n)
  factor_element n t f =
      let R = ring p p_pos d n t in
      trunc (degree d n) (coef R.𝟘 (suc f.0) (topped f.0 f.1 R.𝟙))

  unfoldable pub shown_words : (n : ℕ) (t : Tower p d n) → Shown p d n → List ℤ
  shown_words zero t h = pos h ∷ []
  shown_words (suc n) t (inl f) = shown_words n t.0 f
  shown_words (suc n) t (inr f) = write p d (suc n) (factor_element n t.0 f)

  pub shown_long : (n : ℕ) (t : Tower p d n) (f : Shown p d n) → length (shown_words n t f) ≡ size d (shown_level p d n f)
  unfolding shown_words
  shown_long zero t h = sym (size-zero d)
  shown_long (suc n) t (inl f) = shown_long n t.0 f
  shown_long (suc n) t (inr f) = write_long p d (suc n) (factor_element n t.0 f)

  -- what is shown at level n has a level of at most n
  pub shown_low : (n : ℕ) (f : Shown p d n) → shown_level p d n f ≤ n
  shown_low zero h = omega arith
  shown_low (suc n) (inl f) = omega (arith, shown_low n f)
  shown_low (suc n) (inr f) = omega arith

  -- where degrees are at least 1 the words of a level are not more than those of a higher one
  pub shown_fits : (n : ℕ) → Ones p p_pos d n → (f : Shown p d n) → size d (shown_level p d n f) ≤ size d n
  shown_fits zero o h = omega arith
  shown_fits (suc n) o (inl f) =
      let more : 1 * size d n ≤ degree d n * size d n = mul-le-mul_right (size d n) (o.degrees n (omega arith)) in
      omega (arith, shown_fits n (fewer p p_pos d n o) f, size_suc d n)
  shown_fits (suc n) o (inr f) = omega arith

  -- ---- what words hold
  -- the words w of level j + 1 hold the factor g of m_(j+1): in form, and every coefficient is that of the monic polynomial g
  pub record FactorHeld (n : ℕ) (t : Tower p d n) (j : ℕ) (g : Mon (El p d j)) (w : List ℤ) : Type 0 where
    pub of : FactorOf p p_pos d n t j g
    pub in_form : T (is_in_form p d (suc j) w)
    pub coefficients : (i : ℕ) → coef (group p p_pos d j).𝟘 (degree d j) (read p p_pos d (suc j) w) i ≡ (mon (ring p p_pos d j of.levels.0) g.0 g.1).0 i

  abbrev pub ValueHeld : (n : ℕ) → Tower p d n → Value p d → List ℤ → Type 0
  ValueHeld n t (inl h) w = Factor₀ p h × (w ≡ pos h ∷ [])
  ValueHeld n t (inr v) w = FactorHeld n t v.0 v.1 w

  lift-held : (n : ℕ) (t : Tower p d (suc n)) (v : Value p d) (w : List ℤ) → ValueHeld n t.0 v w → ValueHeld (suc n) t v w
  lift-held n t (inl h) w x = x
  lift-held n t (inr v) w x = record {
    of = record { levels = x.of.levels; first = lower x.of.first; factor = x.of.factor };
    in_form = x.in_form;
    coefficients = x.coefficients;
  }

  -- nothing is cut off: the degree is below that of the tower's polynomial
  pub shown_held : (n : ℕ) (t : Tower p d n) (f : Shown p d n) → Right p p_pos d n t f → ValueHeld n t (value_of p d n f) (shown_words n t f)
  unfolding shown_words
  shown_held zero t h r = (r, refl)
  shown_held (suc n) t (inl f) r = lift-held n t (value_of p d n f) (shown_words n t.0 f) (shown_held n t.0 f r)
  shown_held (suc n) t (inr f) r =
      let o = (group p p_pos d n).𝟘 in
      let full = topped f.0 f.1 (ring p p_pos d n t.0).𝟙 in
      let L = laws p p_pos d (suc n) in
      let x = factor_element n t.0 f in
      record {
        of = record { levels = t; first = whole; factor = r };
        in_form = L.good_write x;
        coefficients = λ i.
            ap (λ v. coef o (degree d n) v i) (L.read_write x)
            ∙ coef-trunc o (degree d n) (coef o (suc f.0) full) (below_mono o _ r.below (coef_below o (suc f.0) full)) i;
      }

-- Document 01's figures, shown of the definitions that the contracts cite: one table under one statement. Where other words of an input do not matter the row
-- says so for all of them. All is closed by computing, but for the long slots of C3, which are in form by a law, and for C10 of every input.
--
-- Figures == the table;  figures == that it holds
use Rattle.std.specs.Prelude.{ℕ, suc, ◌+◌, ◌*◌, ◌≡◌, refl, ◌⊎◌, List, [], ◌∷◌, ◌++◌, ℤ, pos, negsuc, length}
use Rattle.std.proofs.Common.{ap, ◌∙◌, subst, lt_irrefl, arith, lit<, lit≤}
use Rattle.algebra.specs.Divide.{divide}
use Rattle.algebra.specs.Quotient.{mulᵛ, oneᵛ, residue as residueᵛ}
use Rattle.algebra.specs.Series.{◌*ˢ◌}
use Rattle.algebra.specs.Vec.{zeroᵛ}
use Rattle.euclid.specs.Gcd.{make, start, gcd_with}
use Rattle.euclid.specs.Inverse.{inverse as inverse-of}
use Rattle.euclid.specs.Number.{rows, inverse₀}
use Rattle.euclid.specs.Sequence.{seq}
use Rattle.euclid.specs.Shown.{shown_words}
use Rattle.tower.specs.Levels.{group}
use Rattle.tower.specs.Writing.{size, read, reads, write, writes, tower_of, slot_long}
use Rattle.tower.specs.Form.{zero_words, form_over, is_in_form, one_words, modulus_over, tower_form}
use Rattle.tower.specs.Limits.{slot_length}
use Rattle.tower.specs.Unique.{slot_coding}
use Rattle.tower.specs.Work.{product_work, inverse_work, gcd_work}
use Rattle.kernel.specs.Refusals.{done, refused, refusal}
use Rattle.kernel.specs.Calls.{size_of, tower_number, check_tower, fraction_number, fraction_residue, fraction}
use Rattle.kernel.specs.Slots.{degree_count, cleared}
use Rattle.kernel.specs.Products.{product_number, product_words}
use Rattle.kernel.specs.Inverses.{inverse_number, inverse_words}
use Rattle.kernel.specs.Gcds.{gcd_number, gcd_needed, gcd_words, gcd}
use Rattle.demands.specs.GcdZeros.{zero_slot_of, MadeMonic, ShowsIt, gcd-both-zero, gcd_a_zero, gcd_b_zero}
use Rattle.kernel.specs.Meaning.{tower-says}
use Rattle.kernel.specs.SlotMeaning.{PolynomialOf, slot-passes, slot_given}
use Rattle.demands.specs.FigureWords.{degrees, plain, words, left, met, kept, residue, no_residue, c_work, r_f_work, g_f_work}
use Rattle.demands.specs.FigureWords.{d64, powers, zero_slot, check64, slot64, times5, inverse6, gcd7, none_t7, x_t7, z+3_t7, z+6_t7, inverse_t7, gcd_t7}
use Rattle.demands.specs.FigureWords.{inverse_t4, times_t4}
use Rattle.demands.specs.FigureChecks.{Checks, checks as checks-hold}
use Rattle.demands.specs.FigurePolynomials.{Polynomials, polynomials as polynomials-hold}
use Rattle.demands.specs.FigureSequences.{Sequences, sequences as sequences-hold}

pub record Figures : Type 0 where
  -- C1 "p = 1 gives 1; 2 and 2,147,483,647 pass; 2,147,483,648 gives 1."
  pub c1_one : (n : ℤ) (e t : List ℤ) → check_tower (pos 1) n e t ≡ refused 1
  pub c1_two : check_tower (pos 2) (pos 0) (degrees 0 0) [] ≡ done
  pub c1_most : check_tower (pos 2147483647) (pos 0) (degrees 0 0) [] ≡ done
  pub c1_more : (n : ℤ) (e t : List ℤ) → check_tower (pos 2147483648) n e t ≡ refused 1
  -- C2 "d = (64, 31) has S_2 = 2,016 and passes; (64, 32) has 2,081 and gives 2; a degree of 1 or 65 gives 2."
  pub c2_size : size_of (pos 2) (degrees 64 31) ≡ 2016
  pub c2_pass : check_tower (pos 7) (pos 2) (degrees 64 31) powers ≡ done
  pub c2_size_more : size_of (pos 2) (degrees 64 32) ≡ 2081
  pub c2_more : (t : List ℤ) → check_tower (pos 7) (pos 2) (degrees 64 32) t ≡ refused 2
  pub c2_one : (t : List ℤ) → check_tower (pos 7) (pos 2) (degrees 2 1) t ≡ refused 2
  pub c2_65 : (t : List ℤ) → check_tower (pos 7) (pos 1) (degrees 65 0) t ≡ refused 2
  -- C3 "With S = 2,016, 32 coefficients pass (64,513 words); 33 give 4.": the zero, and every polynomial
  pub c3_words : length (zero_slot 32) ≡ 64513
  pub c3_pass : check64 (zero_slot 32) ≡ done
  pub c3_more : check64 (zero_slot 33) ≡ refused 4
  pub c3_all_words : (v : PolynomialOf (pos 7) (pos 2) (degrees 64 31) 32) → length (slot64 32 v) ≡ 64513
  pub c3_all_pass : (v : PolynomialOf (pos 7) (pos 2) (degrees 64 31) 32) → check64 (slot64 32 v) ≡ done
  pub c3_all_more : (v : PolynomialOf (pos 7) (pos 2) (degrees 64 31) 33) → check64 (slot64 33 v) ≡ refused 4
  -- C4 "d = (3, 2), 37 work words: product gives 7; 38 pass.": y² is -z·y - z² - 2 and z³ is -z - 1, so the product is (3y + 4z² + 4z)x + z²·y + 3
  pub c4_short : times5 (words 19 4) (words 37 1) ≡ kept 7 (c_work (words 19 4) (words 37 1))
  pub c4_pass : times5 (words 19 4) (words 38 1)
      ≡ left (c_work (plain (1 ∷ 1 ∷ 0 ∷ 3 ∷ 0 ∷ 0 ∷ 2 ∷ 0 ∷ 0 ∷ 1 ∷ 1 ∷ 2 ∷ 0 ∷ 4 ∷ 4 ∷ 0 ∷ 3 ∷ 0 ∷ 0 ∷ [])) (words 38 0))
  -- C5 "p = 6, N = 0: inverse of 5 is 5; of 4, factor 2 at level 0; of 0, refused 9.": no work word is needed or cleared
  pub c5_five : inverse6 (words 1 5) (words 1 9) (words 1 8) (words 2 7) ≡ left (r_f_work (words 1 5) (words 1 8) (words 2 7))
  pub c5_four : inverse6 (words 1 4) (words 1 9) (words 1 8) (words 2 7) ≡ met 0 (r_f_work (words 1 9) (words 1 2) (words 2 7))
  pub c5_zero : inverse6 (words 1 0) (words 1 9) (words 1 8) (words 2 7) ≡ kept 9 (r_f_work (words 1 9) (words 1 8) (words 2 7))
  -- C6 "T7: inverse of 1 6 1 (z + 6) is 1 1 1 (z + 1).": I(1) = 20 of 22 work words are cleared
  pub c6 : inverse_t7 (plain (1 ∷ 6 ∷ 1 ∷ [])) (words 3 9) (words 3 8) (words 22 7)
      ≡ left (r_f_work (plain (1 ∷ 1 ∷ 1 ∷ [])) (words 3 8) (words 20 0 ++ words 2 7))
  -- C7 "T7: z + 3 shows factor 1 3 1 at level 1."
  pub c7 : inverse_t7 (plain (1 ∷ 3 ∷ 1 ∷ [])) (words 3 9) (words 3 8) (words 22 7)
      ≡ met 1 (r_f_work (words 3 9) (plain (1 ∷ 3 ∷ 1 ∷ [])) (words 20 0 ++ words 2 7))
  -- C8 "p = 7, N = 0: GCD of 2 6 0 1 and 2 1 2 1 into three coefficients is 1 1 1 0.": 4 + 4 + 2 of 12 work words are cleared
  pub c8 : gcd7 (plain (2 ∷ 6 ∷ 0 ∷ 1 ∷ [])) (plain (2 ∷ 1 ∷ 2 ∷ 1 ∷ [])) (words 4 9) (words 1 8) (words 12 7)
      ≡ left (g_f_work (plain (1 ∷ 1 ∷ 1 ∷ 0 ∷ [])) (words 1 8) (words 10 0 ++ words 2 7))
  -- C9 "T7: a = (z + 3)x + 1, b = x: factor 1 3 1 at level 1, answer slot untouched.": 7 + 7 + 6 + 20 of 42 work words are cleared
  pub c9 : gcd_t7 z+3_t7 x_t7 (words 7 9) (words 3 8) (words 42 7) ≡ met 1 (g_f_work (words 7 9) (plain (1 ∷ 3 ∷ 1 ∷ [])) (words 40 0 ++ words 2 7))
  -- C10 "Both zero: the zero slot. One zero: the other made monic, or the factor its leading coefficient shows.": for every input
  pub c10_both_zero : (p n : ℤ) (e t a b g f v : List ℤ) → gcd_number p n e t a b g f v ≡ 0 → degree_count a ≡ 0 → degree_count b ≡ 0
      → gcd p n e t a b g f v ≡ left (g_f_work (zero_slot_of n e g) f (cleared (gcd_needed n e a b) v))
  pub c10_a_zero : (p n : ℤ) (e t a b g f v : List ℤ) → gcd_number p n e t a b g f v ≡ 0 → (d : ℕ) → degree_count a ≡ 0 → degree_count b ≡ suc d
      → MadeMonic p n e t a b g f v b d ⊎ ShowsIt p n e t a b g f v b d
  pub c10_b_zero : (p n : ℤ) (e t a b g f v : List ℤ) → gcd_number p n e t a b g f v ≡ 0 → (d : ℕ) → degree_count a ≡ suc d → degree_count b ≡ 0
      → MadeMonic p n e t a b g f v a d ⊎ ShowsIt p n e t a b g f v a d
  -- and over T7: zero and zero; zero and (z + 6)x + 1 either way round, x + z + 1; zero and (z + 3)x + 1 either way round
  pub c10_none : gcd_t7 none_t7 none_t7 (words 7 9) (words 3 8) (words 29 7)
      ≡ left (g_f_work (negsuc 0 ∷ negsuc 0 ∷ pos 0 ∷ pos 0 ∷ negsuc 0 ∷ pos 0 ∷ pos 0 ∷ []) (words 3 8) (words 28 0 ++ words 1 7))
  pub c10_right : gcd_t7 none_t7 z+6_t7 (words 7 9) (words 3 8) (words 35 7)
      ≡ left (g_f_work (plain (1 ∷ 1 ∷ 1 ∷ 1 ∷ 0 ∷ 1 ∷ 0 ∷ [])) (words 3 8) (words 34 0 ++ words 1 7))
  pub c10_left : gcd_t7 z+6_t7 none_t7 (words 7 9) (words 3 8) (words 35 7)
      ≡ left (g_f_work (plain (1 ∷ 1 ∷ 1 ∷ 1 ∷ 0 ∷ 1 ∷ 0 ∷ [])) (words 3 8) (words 34 0 ++ words 1 7))
  pub c10_right_factor : gcd_t7 none_t7 z+3_t7 (words 7 9) (words 3 8) (words 35 7)
      ≡ met 1 (g_f_work (words 7 9) (plain (1 ∷ 3 ∷ 1 ∷ [])) (words 34 0 ++ words 1 7))
  pub c10_left_factor : gcd_t7 z+3_t7 none_t7 (words 7 9) (words 3 8) (words 35 7)
      ≡ met 1 (g_f_work (words 7 9) (plain (1 ∷ 3 ∷ 1 ∷ [])) (words 34 0 ++ words 1 7))
  -- C11 "p = 17: -1/5 has residue 10; p = 7: 1/7 gives 10 as refusal."
  pub c11_residue : fraction (pos 17) (negsuc 0) (pos 5) ≡ residue 10
  pub c11_none : fraction (pos 7) (pos 1) (pos 7) ≡ no_residue 10
  -- C12 "p = 4: the 2z + 1 above.": it "is its own inverse, yet its leading coefficient 2 is shown at level 0"
  pub c12 : inverse_t4 (plain (1 ∷ 1 ∷ 2 ∷ [])) (words 3 9) (words 3 8) (words 22 7)
      ≡ met 0 (r_f_work (words 3 9) (plain (2 ∷ 0 ∷ 0 ∷ [])) (words 20 0 ++ words 2 7))
  pub c12_own : times_t4 (plain (0 ∷ 1 ∷ 1 ∷ 2 ∷ [])) (plain (0 ∷ 1 ∷ 1 ∷ 2 ∷ [])) (words 4 9) (words 8 7)
      ≡ left (c_work (plain (0 ∷ 0 ∷ 1 ∷ 0 ∷ [])) (words 8 0))
  -- the other figures, and what each call does at its limits
  pub checks : Checks
  pub polynomials : Polynomials
  pub sequences : Sequences

tower_computes : tower_number (pos 7) (pos 2) (degrees 64 31) powers ≡ 0
unfolding size zero_words form_over is_in_form one_words modulus_over tower_form tower_number
tower_computes = refl

size_computes : size_of (pos 2) (degrees 64 31) ≡ 2016
unfolding size
size_computes = refl

long64 : (k : ℕ) (v : PolynomialOf (pos 7) (pos 2) (degrees 64 31) k) → length (slot64 k v) ≡ 1 + k * 2016
long64 k v = slot_long 7 d64 2 k v ∙ ap (λ s. 1 + k * s) size_computes

passes : (v : PolynomialOf (pos 7) (pos 2) (degrees 64 31) 32) → check64 (slot64 32 v) ≡ done
passes v = ap refusal (slot-passes (pos 7) (pos 2) (degrees 64 31) powers tower_computes 32 (lit≤ tt) (lit≤ tt) (omega (arith, size_computes)) v)

too_long : (v : PolynomialOf (pos 7) (pos 2) (degrees 64 31) 33) → check64 (slot64 33 v) ≡ refused 4
too_long v =
    let τ = tower-says (pos 7) (pos 2) (degrees 64 31) powers 0 tower_computes in
    ap refusal (slot_given (pos 7) (pos 2) (degrees 64 31) powers (slot64 33 v) 4 (record { tower = τ; out = λ r. lt_irrefl 0 (omega (arith, r.short, long64 33 v)) }))

-- the zero is one of them
zeros : (k : ℕ) → PolynomialOf (pos 7) (pos 2) (degrees 64 31) k
zeros k = zeroᵛ (group 7 (lit< tt) d64 2).𝟘 k

zero-slot : (k : ℕ) → slot64 k (zeros k) ≡ zero_slot k
unfolding zeros
zero-slot k = (slot_coding 7 (lit< tt) d64 2 k).write-zero

pub figures : Figures
unfolding size zero_words form_over is_in_form one_words modulus_over tower_form slot_length product_work inverse_work gcd_work read reads write writes tower_of
    tower_number fraction_number fraction_residue product_number product_words inverse_number inverse_words gcd_number gcd_words shown_words
    gcd_with make start inverse-of inverse₀ rows seq divide mulᵛ oneᵛ residueᵛ ◌*ˢ◌
figures = record {
  c1_one = λ n e t. refl;
  c1_two = refl;
  c1_most = refl;
  c1_more = λ n e t. refl;
  c2_size = refl;
  c2_pass = ap refusal tower_computes;
  c2_size_more = refl;
  c2_more = λ t. refl;
  c2_one = λ t. refl;
  c2_65 = λ t. refl;
  c3_words = subst (λ w. length w ≡ 64513) (zero-slot 32) (long64 32 (zeros 32));
  c3_pass = subst (λ w. check64 w ≡ done) (zero-slot 32) (passes (zeros 32));
  c3_more = subst (λ w. check64 w ≡ refused 4) (zero-slot 33) (too_long (zeros 33));
  c3_all_words = long64 32;
  c3_all_pass = passes;
  c3_all_more = too_long;
  c4_short = refl;
  c4_pass = refl;
  c5_five = refl;
  c5_four = refl;
  c5_zero = refl;
  c6 = refl;
  c7 = refl;
  c8 = refl;
  c9 = refl;
  c10_both_zero = gcd-both-zero;
  c10_a_zero = gcd_a_zero;
  c10_b_zero = gcd_b_zero;
  c10_none = refl;
  c10_right = refl;
  c10_left = refl;
  c10_right_factor = refl;
  c10_left_factor = refl;
  c11_residue = refl;
  c11_none = refl;
  c12 = refl;
  c12_own = refl;
  checks = checks-hold;
  polynomials = polynomials-hold;
  sequences = sequences-hold;
}

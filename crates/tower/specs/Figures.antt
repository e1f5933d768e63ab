-- How words hold it, held against the papers' own words: the zero of R_1 for d_1 = 3, C6's element, T7's tower, and 001's Example 2, p = 17, d = (3, 2),
-- m_1 = z_1³ + 3, m_2 = z_2² + 5 z_1 z_2 + 4 z_2 + 7 z_1² + 3 z_1 + 6, f = 3 + 4 z_1 + (5 + 6 z_1) z_2 + (7 + 8 z_1 + 9 z_1² + (10 z_1 + 11 z_1²) z_2) x + 12 x².
-- One table under one statement, by computing.
use Rattle.std.specs.Prelude.{◌≡◌, refl, List, [], ◌∷◌, ℕ, ℤ, pos, negsuc}
use Rattle.std.proofs.Common.{lit<}
use Rattle.algebra.specs.Zmod.{Residue, to_z}
use Rattle.algebra.specs.Quotient.{oneᵛ, residue}
use Rattle.algebra.specs.Divide.{divide}
use Rattle.tower.specs.Levels.{El, Tower}
use Rattle.tower.specs.Writing.{writes, write, slot, tower_words}

abbrev seven : ℕ → Residue 7
seven = to_z 7 (lit< tt)

-- Example 2: c is an element of R_1, e one of R_2
abbrev c : ℕ → ℕ → ℕ → El 17 (3 ∷ 2 ∷ []) 1
c x y z = (to_z 17 (lit< tt) x, (to_z 17 (lit< tt) y, (to_z 17 (lit< tt) z, tt)))

abbrev e : El 17 (3 ∷ 2 ∷ []) 1 → El 17 (3 ∷ 2 ∷ []) 1 → El 17 (3 ∷ 2 ∷ []) 2
e x y = (x, (y, tt))

abbrev example : Tower 17 (3 ∷ 2 ∷ []) 2
example = ((tt, c 3 0 0), (c 6 3 7, (c 4 5 0, tt)))

-- words that are not negative
abbrev plain : List ℕ → List ℤ
plain [] = []
plain (n ∷ l) = pos n ∷ plain l

pub record Figures : Type 0 where
  pub zero_1 : write 7 (3 ∷ []) 1 (seven 0, (seven 0, (seven 0, tt))) ≡ negsuc 0 ∷ pos 0 ∷ pos 0 ∷ pos 0 ∷ []
  pub c6 : write 7 (2 ∷ []) 1 (seven 6, (seven 1, tt)) ≡ plain (1 ∷ 6 ∷ 1 ∷ [])
  pub t7 : tower_words 7 (lit< tt) (2 ∷ []) 1 (tt, (seven 5, (seven 0, tt))) ≡ plain (2 ∷ 5 ∷ 0 ∷ 1 ∷ [])
  pub example_tower : tower_words 17 (lit< tt) (3 ∷ 2 ∷ []) 2 example ≡ plain (2 ∷ 2 ∷ 6 ∷ 3 ∷ 7 ∷ 1 ∷ 4 ∷ 5 ∷ 0 ∷ 0 ∷ 1 ∷ 0 ∷ 0 ∷ 3 ∷ 3 ∷ 0 ∷ 0 ∷ 1 ∷ [])
  pub example_slot : slot 17 (3 ∷ 2 ∷ []) 2 3 (e (c 3 4 0) (c 5 6 0), (e (c 7 8 9) (c 0 10 11), (e (c 12 0 0) (c 0 0 0), tt)))
      ≡ pos 2 ∷ pos 1 ∷ pos 1 ∷ pos 3 ∷ pos 4 ∷ pos 0 ∷ pos 1 ∷ pos 5 ∷ pos 6 ∷ pos 0 ∷ pos 1 ∷ pos 2 ∷ pos 7 ∷ pos 8 ∷ pos 9 ∷ pos 2 ∷ pos 0 ∷ pos 10 ∷ pos 11
      ∷ pos 0 ∷ pos 0 ∷ pos 12 ∷ pos 0 ∷ pos 0 ∷ negsuc 0 ∷ pos 0 ∷ pos 0 ∷ pos 0 ∷ []

pub figures : Figures
unfolding write writes tower_words oneᵛ residue divide
figures = record {
  zero_1 = refl;
  c6 = refl;
  t7 = refl;
  example_tower = refl;
  example_slot = refl;
}

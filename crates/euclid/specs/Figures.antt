-- The mathematical part of document 01's figures C5 to C10 and C12 and of the calculator's case: one table under one statement, which proofs/Figures.antt
-- computes on the definitions. (The calls themselves, with their words and refusals, are held against the figures in demands/specs/Figures.antt.)
--
-- Figures  == the table
-- Misled   == a factor does not mean "not invertible"
use Rattle.std.specs.Prelude.{◌≡◌, [], ◌∷◌, ℕ}
use Rattle.std.proofs.Common.{inl, inr, lit<}
use Rattle.algebra.specs.Divide.{quotient, remainder}
use Rattle.algebra.specs.Zmod.{Residue, to_z}
use Rattle.euclid.specs.Answer.{Answer, done, shown}
use Rattle.euclid.specs.Level.{Level}
use Rattle.euclid.specs.Gcd.{nil, made, gcd}
use Rattle.euclid.specs.Towers.{level, shown_level}
use Rattle.algebra.specs.Vec.{Vec}

abbrev pub six : ℕ → Residue 6
six = to_z 6 (lit< tt)

abbrev pub seven : ℕ → Residue 7
seven = to_z 7 (lit< tt)

abbrev pub four : ℕ → Residue 4
four = to_z 4 (lit< tt)

-- p = 6 and p = 7, no level
abbrev pub Z6 : Level
Z6 = level 6 (lit< tt) [] 0 tt

abbrev pub Z7 : Level
Z7 = level 7 (lit< tt) [] 0 tt

-- T7: p = 7, m_1 = z² + 5;  a + b z in it
abbrev pub T7 : Level
T7 = level 7 (lit< tt) (2 ∷ []) 1 (tt, (seven 5, (seven 0, tt)))

abbrev pub q : ℕ → ℕ → T7.ring.Car
q a b = (seven a, (seven b, tt))

-- p = 4, m_1 = z² + z + 1;  2 z + 1 in it
abbrev pub T4 : Level
T4 = level 4 (lit< tt) (2 ∷ []) 1 (tt, (four 1, (four 1, tt)))

abbrev pub 2z+1 : T4.ring.Car
2z+1 = (four 1, (four 2, tt))

-- two levels: p = 7, m_1 = z² + 1, m_2 = y³ - (1 + z) y + 2, and an element
abbrev pub T72 : Level
T72 = level 7 (lit< tt) (2 ∷ 3 ∷ []) 2 ((tt, (seven 1, (seven 0, tt))), (q 2 0, (q 6 6, (q 0 0, tt))))

abbrev pub dense : T72.ring.Car
dense = (q 1 2, (q 3 4, (q 5 6, tt)))

-- two levels that fall apart: p = 6, m_1 = z², m_2 = y²: a + b y, a and b of level 1
abbrev pub T62 : Level
T62 = level 6 (lit< tt) (2 ∷ 2 ∷ []) 2 ((tt, (six 0, (six 0, tt))), ((six 0, (six 0, tt)), ((six 0, (six 0, tt)), tt)))

abbrev pub low : ℕ → ℕ → Vec (Residue 6) 2
low a b = (six a, (six b, tt))

abbrev pub at62 : Answer T62.Shown T62.ring.Car → ℕ
at62 (done u) = 100
at62 (shown f) = shown_level 6 (2 ∷ 2 ∷ []) 2 f
at62 Answer.long = 101

pub record Figures : Type 0 where
  pub c5_five : Z6.inv (six 5) ≡ done (six 5)
  pub c5_four : Z6.inv (six 4) ≡ shown 2
  pub c6 : T7.inv (q 6 1) ≡ done (q 1 1)
  pub c7 : T7.inv (q 3 1) ≡ shown (inr (1, (seven 3, tt)))
  -- x² + 6 and x² + 2x + 1: x + 1
  pub c8 : gcd Z7 3 (seven 6, (seven 0, (seven 1, tt))) 3 (seven 1, (seven 2, (seven 1, tt))) ≡ done (made 1 (seven 1, tt) tt)
  -- (z + 3)x + 1 and x
  pub c9 : gcd T7 2 (q 1 0, (q 3 1, tt)) 2 (q 0 0, (q 1 0, tt)) ≡ shown (inr (1, (seven 3, tt)))
  -- order: both leading coefficients show, and a's is the one shown, even where deg a < deg b
  pub a_first : gcd T7 2 (q 0 0, (q 3 1, tt)) 3 (q 0 0, (q 0 0, (q 4 1, tt))) ≡ shown (inr (1, (seven 3, tt)))
  pub b_first : gcd T7 3 (q 0 0, (q 0 0, (q 4 1, tt))) 2 (q 0 0, (q 3 1, tt)) ≡ shown (inr (1, (seven 4, tt)))
  pub c10_both : gcd T7 2 (q 0 0, (q 0 0, tt)) 1 (q 0 0, tt) ≡ done (nil tt)
  -- 0 and (z + 6)x + 1, either way round: x + z + 1
  pub c10_a_zero : gcd T7 1 (q 0 0, tt) 2 (q 1 0, (q 6 1, tt)) ≡ done (made 1 (q 1 1, tt) tt)
  pub c10_b_zero : gcd T7 2 (q 1 0, (q 6 1, tt)) 1 (q 0 0, tt) ≡ done (made 1 (q 1 1, tt) tt)
  -- 0 and (z + 3)x + 1
  pub c10_factor : gcd T7 1 (q 0 0, tt) 2 (q 1 0, (q 3 1, tt)) ≡ shown (inr (1, (seven 3, tt)))
  pub c12 : T4.inv 2z+1 ≡ shown (inl 2)
  pub c12_own : T4.ring.◌⊗◌ 2z+1 2z+1 ≡ T4.ring.𝟙
  -- the calculator: x² + 5 and x + 6 z
  pub calculator_gcd : gcd T7 3 (q 5 0, (q 0 0, (q 1 0, tt))) 2 (q 0 6, (q 1 0, tt)) ≡ done (made 1 (q 0 6, tt) tt)
  pub calculator_quotient : quotient T7.ring 1 (q 0 6, tt) 3 (q 5 0, (q 0 0, (q 1 0, tt))) ≡ (q 0 1, (q 1 0, (q 0 0, tt)))
  pub calculator_remainder : remainder T7.ring 1 (q 0 6, tt) 3 (q 5 0, (q 0 0, (q 1 0, tt))) ≡ (q 0 0, tt)
  -- an inverse over two levels, and factors at levels 2, 1 and 0: of y, of z y + 1 and of 2 y + 1
  pub two_levels : T72.inv dense ≡ done (q 3 5, (q 1 3, (q 0 3, tt)))
  pub at_two : at62 (T62.inv (low 0 0, (low 1 0, tt))) ≡ 2
  pub at_one : at62 (T62.inv (low 1 0, (low 0 1, tt))) ≡ 1
  pub at_zero : at62 (T62.inv (low 1 0, (low 2 0, tt))) ≡ 0

-- A factor does not mean "not invertible": modulo 4 and z² + z + 1, 2 z + 1 is its own inverse, and yet its inverse shows 2 at level 0, which is right.
pub record Misled : Type 0 where
  pub own_inverse : T4.ring.◌⊗◌ 2z+1 2z+1 ≡ T4.ring.𝟙
  pub yet_shown : T4.inv 2z+1 ≡ shown (inl 2)
  pub at_level : shown_level 4 (2 ∷ []) 1 (inl 2) ≡ 0
  pub is_right : T4.Right (inl 2)

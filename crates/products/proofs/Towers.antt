-- The words of a tower: its topmost polynomial's coefficients, and the tower below it.
--
-- topped-low == under the leading coefficient a coefficient is as before
-- tower-each == the coefficients of the topmost polynomial stand behind its degree word;  tower-low == those under the leading 1
-- tower-rest == the tower below stands behind the topmost polynomial
use Prim.Native.Nat.{ℕ, zero, suc, ◌+◌, ◌*◌, ◌<◌}
use native.Mathlib.Nat.{suc-mul, lt_irrefl}
use native.Mathlib.Omega.{arith}
use mathlib.Core.Path.{◌≡◌, refl, sym, ap, ◌∙◌}
use mathlib.Core.List.{List, ◌∷◌, ◌++◌}
use lib.IntN.{ℤ, pos}
use lib.ListN.{length, take}
use lib.Seq.{drop_at, take_all}
use Rattle.algebra.specs.Vec.{Vec, coef, topped}
use Rattle.tower.specs.Levels.{degree, El, group, zero_test, Tower, ring}
use Rattle.tower.specs.Writing.{size, size_suc, modulus_size, tower_size, tower_size_suc, write, write_long, writes, writes_long, tower_words, tower_long}
use Rattle.tower.specs.Form.{seg, is_in_form, zero_words}
use Rattle.tower.specs.Lists.{seg-seg}
use Rattle.tower.specs.Coding.{block_writes}
use Rattle.tower.specs.Unique.{coding}
use Rattle.tower.specs.Stands.{Stands}
use Rattle.arithmetic.specs.Rows.{block_inside}
use Rattle.products.specs.Product.{TowerStands}

-- below the top a coefficient is as before
pub topped-low : {A : Type 0} (o : A) (g : ℕ) (w : Vec A g) (c : A) (n : ℕ) → n < g → coef o (suc g) (topped g w c) n ≡ coef o g w n
topped-low o zero w c n l = absurd (lt_irrefl 0 (omega arith))
topped-low o (suc g) w c zero l = refl
topped-low o (suc g) w c (suc n) l = topped-low o g w.1 c n (omega arith)

module _ (p : ℕ) (p_pos : 0 < p) (d : List ℕ) (j : ℕ) (t : Tower p d (suc j)) (x : List ℤ) (a : ℕ) where
  -- the topmost polynomial's coefficients, and its words
  abbrev top : Vec (El p d j) (suc (degree d j))
  top = topped (degree d j) t.1 (ring p p_pos d j t.0).𝟙

  abbrev words : List ℤ
  words = pos (degree d j) ∷ writes (write p d j) (suc (degree d j)) top

  words_long : length words ≡ modulus_size d j
  words_long =
      omega (arith, writes_long (write p d j) (size d j) (write_long p d j) (suc (degree d j)) top, suc-mul (degree d j) (size d j), size_suc d j)

  tower-words : tower_words p p_pos d (suc j) t ≡ words ++ tower_words p p_pos d j t.0
  unfolding tower_words
  tower-words = refl

  -- its coefficients
  pub tower-each : TowerStands p p_pos d (suc j) t x a → (n : ℕ) → n < suc (degree d j)
      → Stands p d j (coef (group p p_pos d j).𝟘 (suc (degree d j)) top n) x (a + 1 + n * size d j)
  tower-each h n l =
      let e : a + 1 + n * size d j ≡ a + suc (n * size d j) = omega arith in
      let ends = block_inside n (suc (degree d j)) (size d j) l in
      ap (λ k. seg k (size d j) x) e
      ∙ sym (seg-seg a (tower_size d (suc j)) (suc (n * size d j)) (size d j) x (omega (arith, tower_size_suc d j, size_suc d j)))
      ∙ ap (seg (suc (n * size d j)) (size d j)) (h ∙ tower-words)
      ∙ block_writes (zero_test p p_pos d j) (size d j) (zero_words d j) (is_in_form p d j) (coding p p_pos d j) (suc (degree d j)) top n
      (tower_words p p_pos d j t.0) l

  -- those under the leading 1
  pub tower-low : TowerStands p p_pos d (suc j) t x a → (n : ℕ) → n < degree d j
      → Stands p d j (coef (group p p_pos d j).𝟘 (degree d j) t.1 n) x (a + 1 + n * size d j)
  tower-low h n l = tower-each h n (omega arith) ∙ ap (write p d j) (topped-low (group p p_pos d j).𝟘 (degree d j) t.1 _ n l)

  -- the tower below
  pub tower-rest : TowerStands p p_pos d (suc j) t x a → TowerStands p p_pos d j t.0 x (a + modulus_size d j)
  tower-rest h =
      sym (seg-seg a (tower_size d (suc j)) (modulus_size d j) (tower_size d j) x (omega (arith, tower_size_suc d j)))
      ∙ ap (seg (modulus_size d j) (tower_size d j)) (h ∙ tower-words)
      ∙ ap (take (tower_size d j)) (drop_at words (tower_words p p_pos d j t.0) (modulus_size d j) words_long)
      ∙ take_all (tower_size d j) (tower_words p p_pos d j t.0) (omega (arith, tower_long p p_pos d j t.0))

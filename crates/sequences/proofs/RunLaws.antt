-- Laws of an inverse at level h + 1: what holds from its beginning to its end.
--
-- run-some, run_few, run_small, run_room == the numbers
-- run_acting      == what every function on rows asks for, while only words from top on have changed
-- run-tower, run_inside, run_stands == the words of the tower below lie before any of these, and stand there
-- run_done        == it is enough to know what the elements that the contract shows come to;  shown_above == a factor of a level below is the answer
use Prim.Native.Nat.{ℕ, suc, ◌+◌, ◌*◌, ◌^◌, ◌<◌, ◌≤◌}
use native.Mathlib.Bridge.{le_prop}
use native.Mathlib.Nat.{mul-le-mul_right}
use native.Mathlib.Omega.{arith}
use mathlib.Core.Path.{◌≡◌, ap, sym, ◌∙◌, subst}
use mathlib.Core.Bool.{Bool, true}
use mathlib.Core.Logic.{inl}
use mathlib.Core.List.{List}
use lib.IntN.{ℤ}
use Rattle.tower.specs.Levels.{degree, El, Tower, Ones, fewer}
use Rattle.tower.specs.Writing.{size, size_suc, tower_size, tower_size_suc, read, tower_of}
use Rattle.tower.specs.Stands.{Stands}
use Rattle.tower.specs.Store.{Kept}
use Rattle.tower.specs.Work.{inverse_work, inverse_work_suc}
use Rattle.tower.specs.TowerUnique.{tower_of-words}
use Rattle.tower.specs.Unique.{laws}
use Rattle.arithmetic.specs.Walk.{pick}
use Rattle.products.specs.Product.{TowerStands, Inside}
use Rattle.products.proofs.Frames.{inside_kept, tower-kept}
use Rattle.products.proofs.Towers.{tower-rest}
use Rattle.euclid.specs.Answer.{shown}
use Rattle.euclid.specs.Shown.{shown_words, shown_fits}
use Rattle.euclid.specs.Towers.{Shown, shown_level, inv}
use Rattle.std.specs.Prelude.{Result, Err}
use Rattle.sequences.specs.declared.Stop.{Stop}
use Rattle.sequences.specs.declared.Stop.TheVariants.{Factor}
use Rattle.sequences.specs.Rows.{Acting}
use Rattle.sequences.specs.Outcomes.{FactorStands, RunReady, RunDone, Reached}
use Rattle.sequences.specs.Passes.{under_of, next_of}
use Rattle.sequences.proofs.PlaceLaws.{work≤inverse}

module _ {h : ℕ} {d z : List ℕ} {p : ℕ} {e : List ℤ} {e-in : Bool} {ea : ℕ} {x : List ℤ} {x_in : Bool} {a : ℕ} {w₀ : List ℤ} {top : ℕ}
    (r : RunReady (suc h) d z p e e-in ea x x_in a w₀ top) where
  run-ones : Ones p r.p_pos d (suc h)
  run-ones = record { p_two = r.two; degrees = r.positive.some }

  -- ---- numbers
  pub run-some : 1 ≤ degree d h
  run-some = r.positive.some h (omega arith)

  pub run_few : degree d h * size d h ≤ 2 ^ 30
  run_few = omega (arith, r.small, size_suc d h)

  pub run_small : size d h ≤ 2 ^ 30
  run_small = omega (arith, run_few, mul-le-mul_right (size d h) run-some)

  pub run_room : next_of d h top + inverse_work d h ≡ top + inverse_work d (suc h)
  run_room = omega (arith, inverse_work_suc d h)

  -- ---- the tower of the level below
  under_inside : (y : List ℤ) (t : ℕ) → Inside e-in y ea (tower_size d (suc h)) t → Inside e-in y (under_of d h ea) (tower_size d h) t
  under_inside y t s = record { inside = omega (arith, s.inside, tower_size_suc d h); below = λ q. omega (arith, s.below q, tower_size_suc d h) }

  pub run-tower : e-in ≡ true → under_of d h ea + tower_size d h ≤ top
  run-tower q = (under_inside _ _ r.e_inside).below q

  module _ {w : List ℤ} (f : Kept top (inverse_work d (suc h)) w₀ w) where
    pub run_inside : Inside e-in (pick e-in w e) (under_of d h ea) (tower_size d h) (next_of d h top)
    run_inside = inside_kept e-in w₀ w e f.long (omega arith) (under_inside _ _ r.e_inside)

    pub run_stands : TowerStands p r.p_pos d h r.t.0 (pick e-in w e) (under_of d h ea)
    run_stands = tower-rest p r.p_pos d h r.t _ ea (tower-kept p r.p_pos d (suc h) r.t e-in w₀ w e r.e_inside f r.tower)

    unfoldable pub run_acting : Acting h d z p e e-in (under_of d h ea) w (next_of d h top)
    run_acting = record {
      modulus = r.modulus;
      low = omega (arith, r.low);
      sized = r.sized;
      positive = record { some = λ l q. r.positive.some l (omega arith) };
      small = run_small;
      e_inside = run_inside;
      room = omega (arith, r.room, f.long, run_room, work≤inverse d h);
      p_pos = r.p_pos;
      t = r.t.0;
      tower = run_stands;
    }

  -- ---- the end: words hold one tower and one element
  module _ {w : List ℤ} (f : Kept top (inverse_work d (suc h)) w₀ w) (o : Result ℕ Stop)
      (k : Reached p r.p_pos d (suc h) r.t (inv p r.p_pos d (suc h) r.t r.v) o w top) where
    one-tower : (t : Tower p d (suc h)) → TowerStands p r.p_pos d (suc h) t (pick e-in w₀ e) ea → r.t ≡ t
    one-tower t s =
        sym (tower_of-words p r.p_pos d (suc h) run-ones r.t) ∙ ap (tower_of p r.p_pos d (suc h)) (sym r.tower ∙ s)
        ∙ tower_of-words p r.p_pos d (suc h) run-ones t

    one-element : (v : El p d (suc h)) → Stands p d (suc h) v (pick x_in w₀ x) a → r.v ≡ v
    one-element v s =
        let back = (laws p r.p_pos d (suc h)).read_write in
        sym (back r.v) ∙ ap (read p r.p_pos d (suc h)) (sym r.element ∙ s) ∙ back v

    abbrev Told : (0 < p) → Type 0
    Told q =
        (t : Tower p d (suc h)) (v : El p d (suc h)) → TowerStands p q d (suc h) t (pick e-in w₀ e) ea → Stands p d (suc h) v (pick x_in w₀ x) a
        → Reached p q d (suc h) t (inv p q d (suc h) t v) o w top

    told : Told r.p_pos
    told t v ts vs =
        subst (λ y. Reached p r.p_pos d (suc h) t (inv p r.p_pos d (suc h) t y) o w top) (one-element v vs)
        (subst (λ y. Reached p r.p_pos d (suc h) y (inv p r.p_pos d (suc h) y r.v) o w top) (one-tower t ts) k)

    pub run_done : RunDone (suc h) d p e e-in ea x x_in a w₀ w top o
    run_done = record { frame = f; done = λ q t v ts vs nz. subst Told (le_prop r.p_pos q) told t v ts vs }

  -- a factor of a level below, in one coefficient's words between top and the words above the slots
  pub shown_above : (w : List ℤ) (o : Result ℕ Stop) (at : ℕ) (x : Shown p d h) → o ≡ Err (Factor (shown_level p d h x) at) → top ≤ at → at + size d h ≤ next_of d h top
      → FactorStands p r.p_pos d h r.t.0 x w at → Reached p r.p_pos d (suc h) r.t (shown (inl x)) o w top
  unfolding shown_words
  shown_above w o at x e l q s = (
    at,
    e,
    record { low = l; high = omega (arith, q, run_room, shown_fits p r.p_pos d h (fewer p r.p_pos d h run-ones) x) },
    s,
  )

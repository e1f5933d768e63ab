-- Laws of level 1 of a product: each coefficient is made of those above it, from the top down.
--
-- undivided, divided, out_at, Lowering == the row, the same divided in place, what the loop leaves; the coefficients from k on are there
-- lowest-some, lowest_few, lowest-room == the lowest degree, and the words from top on
-- lowering_start, _ready, _summed, _writes, _next, _end == how the loop starts, goes on and ends
-- level-one, lowest_leaves, lowest_done == what it leaves becomes the answer
use Prim.Native.Nat.{ℕ, zero, suc, ◌+◌, ◌-◌, ◌*◌, ◌^◌, ◌<◌, ◌≤◌}
use native.Mathlib.Nat.{zero-add, mul-one, lt_irrefl}
use native.Mathlib.Omega.{arith}
use mathlib.Core.Path.{◌≡◌, refl, sym, ap, ap₂, ◌∙◌, subst}
use mathlib.Core.Bool.{Bool, true, false}
use mathlib.Core.Logic.{◌⊎◌, inl, inr}
use mathlib.Core.List.{List}
use lib.IntN.{ℤ, pos}
use lib.Dec.{T}
use lib.ListN.{length, set}
use lib.Seq.{get_or-set_same, get_or-set_other}
use borrow.Author.Tests.{ltb-true, ltb-false, lt-ltb, le-ltb}
use Rattle.algebra.specs.Ring.{zero-⊕}
use Rattle.algebra.specs.Test.{le_or_lt}
use Rattle.algebra.specs.Vec.{coef, coef_below, coef-zero}
use Rattle.algebra.specs.Divided.{row, row_low}
use Rattle.algebra.specs.Zmod.{Residue, to_z, Zmod}
use Rattle.residue.specs.Number.{sum_of, Added}
use Rattle.residue.specs.Word.{num, at}
use Rattle.tower.specs.Levels.{degree, El, group, Tower, ring}
use Rattle.tower.specs.Writing.{size, size-zero, size_suc, tower_size, tower_size_suc, write, write_suc}
use Rattle.tower.specs.Form.{seg, implies}
use Rattle.tower.specs.Store.{Kept, kept_refl, kept_trans, kept-wide, kept-seg, kept_set}
use Rattle.tower.specs.Stands.{Stands}
use Rattle.arithmetic.specs.Places.{keeps_at, loses_at, wide}
use Rattle.arithmetic.specs.Rows.{RunStands, word_of, run_of}
use Rattle.arithmetic.specs.Sum.{gained, gained-coef, gained_number}
use Rattle.arithmetic.specs.Walk.{pick, place_of}
use Rattle.products.specs.Value.{part, value-zero, value_suc, pairs, part_stands}
use Rattle.products.specs.Product.{Inside, Two, Given, Pairs, TowerStands, Worked, work, work_suc, ProductReady, ProductDone}
use Rattle.products.specs.Lowest.{old_number, OldReady, pairs_number, PairsAtReady, SummedAt, DividedReady, divided_number}
use Rattle.products.specs.Lowest.{WriteReady, written_number, LowestDone, LeaveReady, Left}
use Rattle.arithmetic.proofs.Boxes.{size_grows}
use Rattle.arithmetic.proofs.Gains.{gained-number}
use Rattle.products.proofs.Towers.{tower-low}
use Rattle.products.proofs.Frames.{inside_kept, operating_kept, tower-kept, given_kept}
use Rattle.products.proofs.Pairings.{pairs-number, operands-ready}
use Rattle.products.proofs.Lowests.{small, readable, residue_stands, old-number}
use Rattle.products.proofs.Dots.{row_number}

-- elements of level 0 have one word
ones : (d : List ℕ) (n : ℕ) → n * size d 0 ≡ n
ones d n = ap (λ s. n * s) (size-zero d) ∙ mul-one n

-- ---- the loop
module _ (p : ℕ) (p_pos : 0 < p) (d : List ℕ) (t : Tower p d 1) (o : Two) (u v : ℕ → El p d o.i) (m : List ℕ) where
  -- the coefficients of the sum, and the same divided in place
  abbrev pub undivided : ℕ → El p d 0
  undivided n = Pairs p p_pos d 0 t.0 o u v (set m 0 n)

  abbrev pub divided : ℕ → El p d 0
  divided n = row (ring p p_pos d 0 t.0) (degree d 0) t.1 (wide (degree d 0)) undivided n

  -- what the loop leaves: below g what the product comes to, from g on the negated quotient
  module _ (neg : Bool) (old : El p d 1) where
    abbrev pub out_at : ℕ → El p d 0
    out_at n = gained (group p p_pos d 0) (loses_at neg n (degree d 0)) (part p p_pos d 0 old n) (divided n)

    -- below g
    out-low : (n : ℕ) → n < degree d 0 → out_at n ≡ coef (group p p_pos d 0).𝟘 (degree d 0) (gained (group p p_pos d 1) neg old (Pairs p p_pos d 1 t o u v m)) n
    out-low n l =
        ap (λ b. gained (group p p_pos d 0) (implies b neg) (part p p_pos d 0 old n) (divided n)) (lt-ltb n (degree d 0) l)
        ∙ ap (gained (group p p_pos d 0) neg (part p p_pos d 0 old n))
        (row_low (ring p p_pos d 0 t.0) (degree d 0) t.1 (wide (degree d 0)) undivided n l
        ∙ ap (λ x. part p p_pos d 0 x n) (sym (value_suc p p_pos d 0 t (pairs p p_pos d o.i o.n u (λ k. v (o.n - 1 - k))) m)))
        ∙ sym (gained-coef (group p p_pos d 0) neg (degree d 0) old (Pairs p p_pos d 1 t o u v m) n)

    -- from g on
    out_high : (n : ℕ) → degree d 0 ≤ n → out_at n ≡ (group p p_pos d 0).⊖◌ (divided n)
    out_high n l =
        ap (λ b. gained (group p p_pos d 0) (implies b neg) (part p p_pos d 0 old n) (divided n)) (le-ltb n (degree d 0) l)
        ∙ ap (λ x. (group p p_pos d 0).◌⊕◌ x ((group p p_pos d 0).⊖◌ (divided n))) (coef_below (group p p_pos d 0).𝟘 (degree d 0) old n l)
        ∙ zero-⊕ (Zmod p p_pos) ((group p p_pos d 0).⊖◌ (divided n))

-- the k-th part of old content of level 1: it stands where it is kept, and is zero where it is not
module _ (p : ℕ) (p_pos : 0 < p) (d : List ℕ) (old : El p d 1) (w : List ℤ) (c n : ℕ) where
  part-kept : (keep : Bool) → (keep ≡ true → Stands p d 1 old w c) → keeps_at keep n (degree d 0) ≡ true → Stands p d 0 (part p p_pos d 0 old n) w (c + 1 + n)
  part-kept true kept e =
      subst (λ a. Stands p d 0 (part p p_pos d 0 old n) w (c + 1 + a)) (ones d n) (part_stands p p_pos d 0 old w c (kept refl) n (ltb-true n (degree d 0) e))
  part-kept false kept e = absurd (subst T (sym e) tt)

  part-fresh : (keep : Bool) → (keep ≡ false → old ≡ (group p p_pos d 1).𝟘) → keeps_at keep n (degree d 0) ≡ false → part p p_pos d 0 old n ≡ (group p p_pos d 0).𝟘
  part-fresh true fresh e = coef_below (group p p_pos d 0).𝟘 (degree d 0) old n (ltb-false n (degree d 0) e)
  part-fresh false fresh e = ap (λ v. part p p_pos d 0 v n) (fresh refl) ∙ coef-zero (group p p_pos d 0).𝟘 (degree d 0) n

-- the coefficients from k on are there; w₀ is the store before
pub record Lowering (d : List ℕ) (p : ℕ) (m : List ℕ) (e : List ℤ) (e-in : Bool) (ea : ℕ) (o : Two) (neg keep : Bool) (w₀ : List ℤ) (c top k : ℕ) (w : List ℤ) : Type 0 where
  pub kept : Kept top (wide (degree d 0)) w₀ w
  pub few : k ≤ wide (degree d 0)
  pub so_far : (p_pos : 0 < p) (t : Tower p d 1) (u v : ℕ → El p d o.i) (old : El p d 1) → TowerStands p p_pos d 1 t (pick e-in w₀ e) ea
      → Given p p_pos d o u v 1 old keep w₀ c → (n : ℕ) → k ≤ n → n < wide (degree d 0) → Stands p d 0 (out_at p p_pos d t o u v m neg old n) w (top + n)

module _ {d z : List ℕ} {p : ℕ} {m : List ℕ} {e : List ℤ} {e-in : Bool} {ea : ℕ} {o : Two} {keep : Bool} {w₀ : List ℤ} {c top : ℕ}
    (h : ProductReady 1 d z p m e e-in ea o keep w₀ c top) where
  -- the lowest degree: at least 1, and small beside the pairs
  pub lowest-some : 0 < degree d 0
  lowest-some = h.positive.some 0 (omega arith)

  pub lowest_few : o.n * size d o.i + degree d 0 < 2 ^ 32
  lowest_few =
      let up = size_grows d 1 o.i h.level (λ l q s. (let r = h.reached l q s in omega arith)) in
      omega (arith, h.operating.few, size_suc d 0, ones d (degree d 0))

  -- the words from top on
  pub lowest-room : top + wide (degree d 0) ≤ length w₀
  lowest-room = omega (arith, h.room, work_suc d 0, ones d (wide (degree d 0)))

  -- before the loop, and behind it
  pub lowering_start : {neg : Bool} {k g : ℕ} → k ≡ wide g → g ≡ degree d 0 → Lowering d p m e e-in ea o neg keep w₀ c top k w₀
  lowering_start ek eg = record {
    kept = kept_refl top (wide (degree d 0)) w₀;
    few = omega (arith, ek, ap wide eg);
    so_far = λ p_pos t u v old st g n q l. absurd (lt_irrefl 0 (omega (arith, ek, ap wide eg)));
  }

  pub lowering_end : {neg : Bool} {k : ℕ} {w : List ℤ} → k ≡ 0 → Lowering d p m e e-in ea o neg keep w₀ c top k w → LowestDone d p m e e-in ea o neg keep w₀ w c top
  lowering_end {neg} {k} {w} ek lo = record { frame = lo.kept; done = done }
    where
      done : (p_pos : 0 < p) (t : Tower p d 1) (u v : ℕ → El p d o.i) (old : El p d 1) → TowerStands p p_pos d 1 t (pick e-in w₀ e) ea
          → Given p p_pos d o u v 1 old keep w₀ c → RunStands p d 0 (degree d 0) (gained (group p p_pos d 1) neg old (Pairs p p_pos d 1 t o u v m)) w top
      done p_pos t u v old st g =
          run_of p p_pos d 0 (degree d 0) _ w top
          (omega (arith, lowest-room, lo.kept.long, lowest-some, ones d (degree d 0)))
          (λ n q.
          ap (λ a. seg (top + a) (size d 0) w) (ones d n)
          ∙ lo.so_far p_pos t u v old st g n (omega arith) (omega arith)
          ∙ ap (write p d 0) (out-low p p_pos d t o u v m neg old n q))

  module _ {neg : Bool} {k : ℕ} {w : List ℤ} (more : 0 < k) (lo : Lowering d p m e e-in ea o neg keep w₀ c top k w) where
    -- the next one
    abbrev n : ℕ
    n = k - 1

    -- what stood before stands still
    now-tower : (p_pos : 0 < p) (t : Tower p d 1) → TowerStands p p_pos d 1 t (pick e-in w₀ e) ea → TowerStands p p_pos d 1 t (pick e-in w e) ea
    now-tower p_pos t = tower-kept p p_pos d 1 t e-in w₀ w e h.e_inside lo.kept

    now_given : (p_pos : 0 < p) (u v : ℕ → El p d o.i) (old : El p d 1) → Given p p_pos d o u v 1 old keep w₀ c → Given p p_pos d o u v 1 old keep w c
    now_given p_pos u v old = given_kept h.operating lo.kept h.c_below

    -- the tower's lowest coefficients
    low_stands : (p_pos : 0 < p) (t : Tower p d 1) → TowerStands p p_pos d 1 t (pick e-in w₀ e) ea → (l : ℕ) → l < degree d 0
        → Stands p d 0 (coef (group p p_pos d 0).𝟘 (degree d 0) t.1 l) (pick e-in w e) (ea + 1 + l)
    low_stands p_pos t st l q =
        ap (λ a. seg (ea + 1 + a) (size d 0) (pick e-in w e)) (sym (ones d l)) ∙ tower-low p p_pos d 0 t (pick e-in w e) ea (now-tower p_pos t st) l q

    -- its places
    reached_at : (l : ℕ) → l < o.i → place_of (set m 0 n) l + 1 < degree d l + degree d l
    reached_at zero q =
        let place : place_of (set m 0 n) 0 ≡ n = get_or-set_same m 0 n 0 (omega (arith, h.places)) in
        omega (arith, lo.few)
    reached_at (suc l) q =
        let place : place_of (set m 0 n) (suc l) ≡ place_of m (suc l) = get_or-set_other m 0 (suc l) n 0 (λ r. lt_irrefl 0 (omega arith)) in
        omega (arith, h.reached (suc l) (omega arith) q)

    -- what its pairs ask for
    pub lowering_ready : {g : ℕ} → g ≡ degree d 0 → PairsAtReady g d z m o w n
    lowering_ready eg =
        let now = now_given h.p_pos h.u h.v h.old h.given in
        record {
          lowest = eg;
          places = h.places;
          pairs =
              operands-ready p h.p_pos d o h.u h.v w now.lefts now.rights z (set m 0 n) top
              (operating_kept lo.kept.long (omega arith) h.operating) reached_at;
        }

    -- the pairs stand where they stood, so their sum is the same
    pub lowering_summed : {l t : ℕ} → SummedAt d m o w n l t → SummedAt d m o w₀ n l t
    lowering_summed {l} {t} sum =
        let now = now_given h.p_pos h.u h.v h.old h.given in
        subst (λ v. Added (o.n * size d o.i) v 0 0 l t)
        (pairs-number p h.p_pos d o h.u h.v w now.lefts now.rights (set m 0 n)
        ∙ sym (pairs-number p h.p_pos d o h.u h.v w₀ h.given.lefts h.given.rights (set m 0 n)))
        sum

    -- the two numbers that make it are the part of the old content, and the coefficient of the divided row
    old-is : (p_pos : 0 < p) (u v : ℕ → El p d o.i) (old : El p d 1) → Given p p_pos d o u v 1 old keep w₀ c
        → old_number (keeps_at keep n (degree d 0)) (at w (c + 1 + n)) ≡ (part p p_pos d 0 old n).0
    old-is p_pos u v old g₀ =
        let now = now_given p_pos u v old g₀ in
        old-number p p_pos d (keeps_at keep n (degree d 0)) (part p p_pos d 0 old n) w (c + 1 + n) (part-kept p p_pos d old w c n keep now.kept)
        (part-fresh p p_pos d old w c n keep now.fresh)

    row_is : (p_pos : 0 < p) (t : Tower p d 1) (u v : ℕ → El p d o.i) (old : El p d 1) → TowerStands p p_pos d 1 t (pick e-in w₀ e) ea
        → Given p p_pos d o u v 1 old keep w₀ c
        → divided_number (degree d 0) p (pick e-in w e) ea w top n (pairs_number d (set m 0 n) o w₀) ≡ (divided p p_pos d t o u v m n).0
    row_is p_pos t u v old st g₀ =
        row_number p p_pos (degree d 0) t.1 (undivided p p_pos d t o u v m) lowest-some (pick e-in w e) w ea top n (omega (arith, lo.few))
        (λ l q. ap num (word_of p d _ (pick e-in w e) (ea + 1 + l) (low_stands p_pos t st l q)))
        (λ l q s r.
        ap num (word_of p d _ w (top + l) (lo.so_far p_pos t u v old st g₀ l (omega arith) r))
        ∙ ap (λ (x : Residue p). x.0) (out_high p p_pos d t o u v m neg old l s))
        (pairs_number d (set m 0 n) o w₀)
        (ap (to_z p p_pos) (pairs-number p p_pos d o u v w₀ g₀.lefts g₀.rights (set m 0 n)) ∙ sym (value-zero p p_pos d t.0 _ (set m 0 n)))

    -- from the sum of its pairs, as they stood before
    module _ {g l t : ℕ} (eg : g ≡ degree d 0) (sum : SummedAt d m o w₀ n l t) where
      -- what the coefficient asks for
      pub lowering_writes : WriteReady g p (pick e-in w e) ea keep w c top n l t
      lowering_writes =
          subst (λ i. WriteReady i p (pick e-in w e) ea keep w c top n l t) (sym eg) (record { divided = dividing; old = old; c_inside = c_inside })
        where
          now_inside : Inside e-in (pick e-in w e) ea (tower_size d 1) top
          now_inside = inside_kept e-in w₀ w e lo.kept.long (omega arith) h.e_inside

          low_inside : (l : ℕ) → l < degree d 0 → ea + 1 + l < length (pick e-in w e)
          low_inside l q = omega (arith, now_inside.inside, tower_size_suc d 0, size_suc d 0, ones d (degree d 0))

          dividing : DividedReady (degree d 0) p (pick e-in w e) ea w top n l t
          dividing = record {
            modulus = h.operating.modulus;
            some = lowest-some;
            reached = omega (arith, lo.few);
            low = λ l q. readable p d _ (pick e-in w e) (ea + 1 + l) (low_stands h.p_pos h.t h.tower l q) h.operating.modulus (low_inside l q);
            above = λ l q s.
                readable p d _ w (top + l) (lo.so_far h.p_pos h.t h.u h.v h.old h.tower h.given l (omega arith) s) h.operating.modulus
                (omega (arith, lowest-room, lo.kept.long));
            inside = omega (arith, lowest-room, lo.kept.long);
            room = record { lo_room = omega (arith, sum.lo_most, lowest_few); hi_room = omega (arith, sum.hi_most, lowest_few) };
          }

          c_inside : c + 1 + n < length w
          c_inside = omega (arith, lowest-room, lo.few, lo.kept.long, h.c_below, size_suc d 0)

          old : OldReady p (keeps_at keep n (degree d 0)) w (c + 1 + n)
          old f =
              let now = now_given h.p_pos h.u h.v h.old h.given in
              let stands = part-kept p h.p_pos d h.old w c n keep now.kept f in
              (readable p d _ w (c + 1 + n) stands h.operating.modulus c_inside, small p d _ w (c + 1 + n) stands)

      -- and the coefficient that is written
      pub lowering_next : {w' : List ℤ} → w' ≡ set w (top + n) (pos (written_number g p (pick e-in w e) ea neg keep w c top n (sum_of l t)))
          → Lowering d p m e e-in ea o neg keep w₀ c top n w'
      lowering_next ew =
          subst (Lowering d p m e e-in ea o neg keep w₀ c top n) (sym ew) (record { kept = kept; few = omega (arith, lo.few); so_far = so_far })
        where
          r : ℕ
          r = written_number g p (pick e-in w e) ea neg keep w c top n (sum_of l t)

          kept : Kept top (wide (degree d 0)) w₀ (set w (top + n) (pos r))
          kept = kept_trans lo.kept (kept-wide (omega arith) (omega (arith, lo.few)) (kept_set w (top + n) (pos r)))

          so_far : (p_pos : 0 < p) (t : Tower p d 1) (u v : ℕ → El p d o.i) (old : El p d 1) → TowerStands p p_pos d 1 t (pick e-in w₀ e) ea
              → Given p p_pos d o u v 1 old keep w₀ c → (i : ℕ) → n ≤ i → i < wide (degree d 0)
              → Stands p d 0 (out_at p p_pos d t o u v m neg old i) (set w (top + n) (pos r)) (top + i)
          so_far p_pos t u v old st g₀ i q s = which (le_or_lt (suc n) i)
            where
              here : r ≡ (out_at p p_pos d t o u v m neg old n).0
              here =
                  ap₂ (λ i v. written_number i p (pick e-in w e) ea neg keep w c top n v) eg (sum.value ∙ zero-add (pairs_number d (set m 0 n) o w₀))
                  ∙ ap₂ (gained_number (loses_at neg n (degree d 0)) p) (old-is p_pos u v old g₀) (row_is p_pos t u v old st g₀)
                  ∙ gained-number p p_pos (loses_at neg n (degree d 0)) (part p p_pos d 0 old n) (divided p p_pos d t o u v m n)

              which : (suc n ≤ i) ⊎ (i < suc n) → Stands p d 0 (out_at p p_pos d t o u v m neg old i) (set w (top + n) (pos r)) (top + i)
              which (inl f) =
                  kept-seg (top + i) (size d 0) (inr (omega arith)) (kept_set w (top + n) (pos r)) ∙ lo.so_far p_pos t u v old st g₀ i (omega arith) s
              which (inr f) =
                  let same : n ≡ i = omega arith in
                  let room : top + n < length w = omega (arith, lowest-room, lo.few, lo.kept.long) in
                  subst (λ i. Stands p d 0 (out_at p p_pos d t o u v m neg old i) (set w (top + n) (pos r)) (top + i)) same
                  (residue_stands p d _ w (top + n) r room here)

-- ---- the answer
-- below level 2, what is not level 0 is level 1
pub level-one : (j : ℕ) → j < 2 → (j ≡ 0 → ⊥) → j ≡ 1
level-one zero l h = absurd (h refl)
level-one (suc j) l h = omega (arith, l)

module _ {j : ℕ} {d z : List ℕ} {p : ℕ} {m : List ℕ} {e : List ℤ} {e-in : Bool} {ea : ℕ} {o : Two} {neg keep : Bool} {w w₁ : List ℤ} {c top g : ℕ}
    (level : j ≡ 1) (h : ProductReady j d z p m e e-in ea o keep w c top) (eg : g ≡ degree d 0) (lowest : LowestDone d p m e e-in ea o neg keep w w₁ c top) where
  -- the level is 1
  first-level : ProductReady 1 d z p m e e-in ea o keep w c top
  first-level = subst (λ k. ProductReady k d z p m e e-in ea o keep w c top) level h

  all_words : size d 1 ≡ degree d 0 + 1
  all_words = omega (arith, size_suc d 0, ones d (degree d 0))

  -- the coefficients may become the answer
  pub lowest_leaves : LeaveReady g 1 w₁ c top
  lowest_leaves = record {
    some = omega arith;
    below = omega (arith, first-level.c_below, all_words, eg);
    inside =
        omega (
          arith,
          eg,
          lowest.frame.long,
          lowest-room first-level,
          lowest-some first-level,
        );
  }

  -- and end the product
  pub lowest_done : {w' : List ℤ} → Left 0 g 1 w₁ w' c top → ProductDone j d p m e e-in ea o neg keep w w' c top
  lowest_done {w'} left =
      subst (λ k. ProductDone k d p m e e-in ea o neg keep w w' c top) (sym level) (go (subst (λ n. Left 0 n 1 w₁ w' c top) eg left))
    where
      go : Left 0 (degree d 0) 1 w₁ w' c top → ProductDone 1 d p m e e-in ea o neg keep w w' c top
      go left = record { frame = frame; done = done }
        where
          frame : Worked c (size d 1) top (work d 1) w w'
          frame = record {
            long = left.frame.long ∙ lowest.frame.long;
            below = λ k q. left.frame.below k q ∙ lowest.frame.below k (omega (arith, first-level.c_below));
            between = λ k q s. left.frame.above k (omega (arith, all_words)) ∙ lowest.frame.below k s;
            beyond = λ k q.
                left.frame.above k (omega (arith, first-level.c_below, all_words))
                ∙ lowest.frame.above k
                (omega (arith, work_suc d 0, ones d (wide (degree d 0))));
          }

          done : (p_pos : 0 < p) (t : Tower p d 1) (u v : ℕ → El p d o.i) (old : El p d 1) → TowerStands p p_pos d 1 t (pick e-in w e) ea
              → Given p p_pos d o u v 1 old keep w c → Stands p d 1 (gained (group p p_pos d 1) neg old (Pairs p p_pos d 1 t o u v m)) w' c
          done p_pos t u v old st given =
              ap (λ n. seg c n w') (size_suc d 0)
              ∙ left.slot p d _ p_pos (sym (size-zero d)) (lowest.done p_pos t u v old st given)
              ∙ sym (write_suc p d 0 _)

-- Laws of the loop that makes the coefficients of a product, before they are divided.
--
-- Filling                           == k coefficients are made, and the words of those to come are as before
-- filling_start, _asks, _next, _end == at the beginning; what the next product asks for; what it leaves; at the end
use Prim.Native.Nat.{ℕ, suc, ◌+◌, ◌*◌, ◌^◌, ◌<◌, ◌≤◌}
use native.Mathlib.Nat.{mul-le-mul_left, mul-le-mul_right, suc-mul, lt_irrefl}
use native.Mathlib.Omega.{arith}
use mathlib.Core.Path.{◌≡◌, refl, ap, sym, ◌∙◌, subst}
use mathlib.Core.Bool.{Bool, true, false}
use mathlib.Core.Logic.{◌⊎◌, inl, inr}
use mathlib.Core.List.{List}
use lib.Dec.{T, ltb→lt, lt→ltb}
use lib.IntN.{ℤ}
use lib.ListN.{length, set, length-set}
use lib.Seq.{get_or-set_same, get_or-set_other}
use Rattle.algebra.specs.Test.{le_or_lt}
use Rattle.algebra.specs.Vec.{coef_below, coef-zero}
use Rattle.tower.specs.Levels.{degree, El, group, Tower}
use Rattle.tower.specs.Writing.{size, size_suc, size-pos}
use Rattle.tower.specs.Form.{seg}
use Rattle.tower.specs.Store.{Kept, kept_refl, kept_trans}
use Rattle.tower.specs.Stands.{Stands}
use Rattle.arithmetic.specs.Places.{keeps_at, wide}
use Rattle.arithmetic.specs.Rows.{block_inside}
use Rattle.arithmetic.specs.Sum.{gained}
use Rattle.arithmetic.specs.Walk.{pick, place_of}
use Rattle.products.specs.Value.{part}
use Rattle.products.specs.Product.{work, work_suc, TowerStands, Two, Given, Spread, Pairs, ProductReady, ProductDone, CoefficientsReady, CoefficientsDone}
use Rattle.products.proofs.Frames.{worked_kept, same-seg, worked_same, inside_kept, operating_kept, tower-kept, lefts_kept, rights_kept}

-- ---- which coefficients keep old content
keeps_true : (keep : Bool) (k g : ℕ) → keeps_at keep k g ≡ true → (keep ≡ true) × (k < g)
keeps_true true k g h = (refl, ltb→lt k g (subst T (sym h) tt))
keeps_true false k g h = absurd (subst T (sym h) tt)

keeps_false : (keep : Bool) (k g : ℕ) → keeps_at keep k g ≡ false → (keep ≡ false) ⊎ (g ≤ k)
keeps_false false k g h = inl refl
keeps_false true k g h = inr (which (le_or_lt g k))
  where
    which : (g ≤ k) ⊎ (k < g) → g ≤ k
    which (inl l) = l
    which (inr l) = absurd (subst T h (lt→ltb k g l))

-- w₀ is the store before
pub record Filling (j : ℕ) (d : List ℕ) (p : ℕ) (m : List ℕ) (e : List ℤ) (e-in : Bool) (ea : ℕ) (o : Two) (neg keep : Bool) (w₀ : List ℤ) (top k : ℕ)
    (w : List ℤ) : Type 0 where
  pub most : k ≤ wide (degree d j)
  pub kept : Kept top (work d (suc j)) w₀ w
  pub made : (p_pos : 0 < p) (t : Tower p d j) (u v : ℕ → El p d o.i) (old : El p d (suc j))
      → TowerStands p p_pos d j t (pick e-in w₀ e) ea → Spread p p_pos d o u v j old keep w₀ top
      → (n : ℕ) → n < k → Stands p d j (gained (group p p_pos d j) neg (part p p_pos d j old n) (Pairs p p_pos d j t o u v (set m j n))) w (top + n * size d j)
  pub ahead : (n : ℕ) → k ≤ n → n < degree d j → seg (top + n * size d j) (size d j) w ≡ seg (top + n * size d j) (size d j) w₀

module _ {j : ℕ} {d z : List ℕ} {p : ℕ} {m : List ℕ} {e : List ℤ} {e-in : Bool} {ea : ℕ} {o : Two} {keep : Bool} {w₀ : List ℤ} {top : ℕ}
    (r : CoefficientsReady j d z p m e e-in ea o keep w₀ top) where
  abbrev g : ℕ
  g = degree d j

  abbrev s : ℕ
  s = size d j

  abbrev next : ℕ
  next = top + wide g * s

  some : 1 ≤ g
  some = r.positive.some j (omega arith)

  -- what the code computes
  pub filling_places : (1 ≤ g) × (g + g < 2 ^ 32) × (next ≤ length w₀) × (j < 4)
  filling_places =
      let one = mul-le-mul_left g (size-pos d j) in
      (some, omega (arith, r.small, size_suc d j, one), omega (arith, r.room, work_suc d j), omega (arith, r.level, r.operating.low))

  pub filling_start : {neg : Bool} → Filling j d p m e e-in ea o neg keep w₀ top 0 w₀
  filling_start = record {
    most = omega arith;
    kept = kept_refl top (work d (suc j)) w₀;
    made = λ p_pos t u v old ts gs n q. absurd (lt_irrefl 0 (omega arith));
    ahead = λ n q l. refl;
  }

  module _ {neg : Bool} {k : ℕ} {w : List ℤ} (f : Filling j d p m e e-in ea o neg keep w₀ top k w) (here : k < wide g) where
    place : top + k * s + s ≤ next
    place = omega (arith, block_inside k (wide g) s here)

    tower-now : (p_pos : 0 < p) (t : Tower p d j) → TowerStands p p_pos d j t (pick e-in w₀ e) ea → TowerStands p p_pos d j t (pick e-in w e) ea
    tower-now p_pos t h = tower-kept p p_pos d j t e-in w₀ w e r.e_inside f.kept h

    given_now : (p_pos : 0 < p) (u v : ℕ → El p d o.i) (old : El p d (suc j)) → Spread p p_pos d o u v j old keep w₀ top
        → Given p p_pos d o u v j (part p p_pos d j old k) (keeps_at keep k g) w (top + k * s)
    given_now p_pos u v old h = record {
      lefts = lefts_kept r.operating f.kept u h.lefts;
      rights = rights_kept r.operating f.kept v h.rights;
      kept = λ q.
          let both = keeps_true keep k g q in
          f.ahead k (omega arith) both.1 ∙ h.kept both.0 k both.1;
      fresh = λ q. none (keeps_false keep k g q);
    }
      where
        o₀ : El p d j
        o₀ = (group p p_pos d j).𝟘

        none : (keep ≡ false) ⊎ (g ≤ k) → part p p_pos d j old k ≡ o₀
        none (inl q) = ap (λ v. part p p_pos d j v k) (h.fresh q) ∙ coef-zero o₀ g k
        none (inr q) = coef_below o₀ g old k q

    places : (l : ℕ) → j ≤ l → l < o.i → place_of (set m j k) l + 1 < degree d l + degree d l
    places l q v = which (le_or_lt (suc j) l)
      where
        which : (suc j ≤ l) ⊎ (l < suc j) → place_of (set m j k) l + 1 < degree d l + degree d l
        which (inl h) =
            let same : place_of (set m j k) l ≡ place_of m l = get_or-set_other m j l k 0 (λ e. lt_irrefl l (omega arith)) in
            omega (arith, r.reached l h v)
        which (inr h) =
            let el : j ≡ l = omega arith in
            let there : place_of (set m j k) j ≡ k = get_or-set_same m j k 0 (omega (arith, r.places, r.level, r.operating.low)) in
            subst (λ n. place_of (set m j k) n + 1 < degree d n + degree d n) el (omega (arith, here))

    pub filling_product : ProductReady j d z p (set m j k) e e-in ea o (keeps_at keep k g) w (top + k * s) next
    filling_product = record {
      operating = operating_kept f.kept.long (omega arith) r.operating;
      level = omega (arith, r.level);
      positive = record { some = λ l q. r.positive.some l (omega arith) };
      places = length-set m j k ∙ r.places;
      reached = places;
      e_inside = inside_kept e-in w₀ w e f.kept.long (omega arith) r.e_inside;
      c_below = place;
      room = omega (arith, r.room, work_suc d j, f.kept.long);
      small = omega (arith, r.small, size_suc d j, mul-le-mul_right s some);
      p_pos = r.p_pos;
      t = r.t;
      u = r.u;
      v = r.v;
      old = part p r.p_pos d j r.old k;
      tower = tower-now r.p_pos r.t r.tower;
      given = given_now r.p_pos r.u r.v r.old r.given;
    }

    pub filling_at : top + k * s ≤ length w₀
    filling_at = omega (arith, place, r.room, work_suc d j)

    -- in the words of the code
    pub filling_asks : {m' : List ℕ} {kp : Bool} {at nx : ℕ} → m' ≡ set m j k → kp ≡ keeps_at keep k g → at ≡ top + k * s → nx ≡ next
        → ProductReady j d z p m' e e-in ea o kp w at nx
    filling_asks em ek ea en = rw (em, ek, ea, en) filling_product

    module _ {w' : List ℤ} (h : ProductDone j d p (set m j k) e e-in ea o neg (keeps_at keep k g) w w' (top + k * s) next) where
      elsewhere : (n : ℕ) → (n < k) ⊎ ((suc k ≤ n) × (n < wide g)) → seg (top + n * s) s w' ≡ seg (top + n * s) s w
      elsewhere n (inl q) =
          let fits = block_inside n k s q in
          same-seg (worked_same (top + n * s) s (inl (omega arith)) h.frame)
      elsewhere n (inr q) =
          let above : suc k * s ≤ n * s = mul-le-mul_right s q.0 in
          let fits = block_inside n (wide g) s q.1 in
          same-seg (worked_same (top + n * s) s (inr (omega (arith, suc-mul k s), omega arith)) h.frame)

      filling_step : (k' : ℕ) → k' ≡ suc k → Filling j d p m e e-in ea o neg keep w₀ top k' w'
      filling_step k' ek = subst (λ n. Filling j d p m e e-in ea o neg keep w₀ top n w') (sym ek) (record {
        most = here;
        kept = kept_trans f.kept (worked_kept (omega arith) place (omega (arith, work_suc d j)) h.frame);
        made = λ p_pos t u v old ts gs n q. made p_pos t u v old ts gs n (le_or_lt k n) q;
        ahead = λ n q l. elsewhere n (inr (q, omega (arith, some))) ∙ f.ahead n (omega arith) l;
      })
        where
          made : (p_pos : 0 < p) (t : Tower p d j) (u v : ℕ → El p d o.i) (old : El p d (suc j))
              → TowerStands p p_pos d j t (pick e-in w₀ e) ea → Spread p p_pos d o u v j old keep w₀ top
              → (n : ℕ) → (k ≤ n) ⊎ (n < k) → n < suc k
              → Stands p d j (gained (group p p_pos d j) neg (part p p_pos d j old n) (Pairs p p_pos d j t o u v (set m j n))) w' (top + n * s)
          made p_pos t u v old ts gs n (inr q) l = elsewhere n (inl q) ∙ f.made p_pos t u v old ts gs n q
          made p_pos t u v old ts gs n (inl q) l =
              let en : k ≡ n = omega arith in
              subst (λ i. Stands p d j (gained (group p p_pos d j) neg (part p p_pos d j old i) (Pairs p p_pos d j t o u v (set m j i))) w' (top + i * s)) en
              (h.done p_pos t u v (part p p_pos d j old k) (tower-now p_pos t ts) (given_now p_pos u v old gs))

    pub filling_next : {m' : List ℕ} {kp : Bool} {at nx : ℕ} {w' : List ℤ} → m' ≡ set m j k → kp ≡ keeps_at keep k g → at ≡ top + k * s → nx ≡ next
        → ProductDone j d p m' e e-in ea o neg kp w w' at nx → (k' : ℕ) → k' ≡ suc k → Filling j d p m e e-in ea o neg keep w₀ top k' w'
    filling_next em ek ea en h = filling_step (rw (em, ek, ea, en) at h)

  pub filling_end : {neg : Bool} {k : ℕ} {w : List ℤ} → wide g ≤ k → Filling j d p m e e-in ea o neg keep w₀ top k w
      → CoefficientsDone j d p m e e-in ea o neg keep w₀ w top
  filling_end h f = record { frame = f.kept; done = λ p_pos t u v old ts gs n q. f.made p_pos t u v old ts gs n (omega arith) }

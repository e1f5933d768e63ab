-- Laws of one turn in the store: the row of f is divided by k's, what f carries loses the quotient times what k carries, and the remainder follows.
--
-- turn-divide, turn_lose, turn-follow == what the three steps ask for
-- turn_frame     == what has changed;  turn_followed == what the remainder comes to
-- turn-keeps, turn_stands == k stands as before, and what follows it at f's old places
use Prim.Native.Nat.{ℕ, suc, ◌+◌, ◌-◌, ◌*◌, ◌^◌, ◌<◌, ◌≤◌}
use native.Mathlib.Nat.{mul-le-mul_right, add-mul}
use native.Mathlib.Omega.{arith}
use mathlib.Core.Path.{◌≡◌, ap, sym, ◌∙◌, subst}
use mathlib.Core.Bool.{Bool}
use mathlib.Core.Logic.{◌⊎◌, inl, inr}
use mathlib.Core.List.{List}
use lib.IntN.{ℤ}
use Rattle.algebra.specs.Ring.{CRing}
use Rattle.algebra.specs.Test.{le_or_lt}
use Rattle.algebra.specs.Vec.{Vec, coef, trunc-coef}
use Rattle.algebra.specs.Shape.{lead, strip, Stripped}
use Rattle.algebra.specs.UnitDivide.{quotientᵘ, remainderᵘ}
use Rattle.algebra.specs.UnitDivided.{rowᵘ, rowᵘ-low, rowᵘ_high}
use Rattle.algebra.specs.Windows.{product_at}
use Rattle.tower.specs.Levels.{degree, El, is_zero, group, ring}
use Rattle.tower.specs.Writing.{size, write}
use Rattle.tower.specs.Stands.{Stands}
use Rattle.tower.specs.Store.{Kept, kept_trans}
use Rattle.tower.specs.Work.{inverse_work}
use Rattle.arithmetic.specs.Rows.{block_inside}
use Rattle.products.specs.Product.{Worked, work, Elements}
use Rattle.products.proofs.Frames.{Same, same-part, worked_kept, parts_fit}
use Rattle.products.proofs.Towers.{topped-low}
use Rattle.euclid.specs.Level.{Level}
use Rattle.euclid.specs.Lazy.{Led, led, whole, rest, quot}
use Rattle.std.specs.Prelude.{Result}
use Rattle.sequences.specs.declared.Stop.{Stop}
use Rattle.sequences.specs.Rows.{DivideReady, DivideDone, LoseReady, LoseDone}
use Rattle.sequences.specs.Outcomes.{RunReady, FollowReady, FollowDone, Followed}
use Rattle.sequences.specs.Passes.{under_of, next_of, level_of, Clear, Laid, Turning, Stood}
use Rattle.sequences.proofs.PlaceLaws.{clear_swap, clear_in, apart_in, clear_up, clear_down, worked_apart, besides_apart, besides_kept}
use Rattle.sequences.proofs.PlaceLaws.{same_trans, stands_same, elements_same, work≤inverse}
use Rattle.sequences.proofs.TurnLaws.{quot-low, lost, lost-low, lost_high}
use Rattle.sequences.proofs.RunLaws.{run_few, run_room, run-tower, run_stands, run_acting}

module _ {h : ℕ} {d z : List ℕ} {p : ℕ} {e : List ℤ} {e-in : Bool} {ea : ℕ} {x : List ℤ} {x_in : Bool} {a : ℕ} {w₀ : List ℤ} {top : ℕ}
    (r : RunReady (suc h) d z p e e-in ea x x_in a w₀ top) {f k : Led (El p d h) (Vec (El p d h) (degree d h))}
    (t : Turning (level_of r) (degree d h) r.t.1 r.v f k) (some : 1 ≤ k.degree) {fr fc fu kr kc ku : ℕ}
    (l : Laid top (next_of d h top) ((degree d h + 1) * size d h) (size d h) fr fc fu kr kc ku)
    {w : List ℤ} (fra : Kept top (inverse_work d (suc h)) w₀ w)
    (sf : Stood p r.p_pos d h f fr fc fu w) (sk : Stood p r.p_pos d h k kr kc ku w) where
  abbrev g : ℕ
  g = degree d h

  abbrev s : ℕ
  s = size d h

  abbrev o : El p d h
  o = (group p r.p_pos d h).𝟘

  abbrev R : CRing
  R = ring p r.p_pos d h r.t.0

  abbrev L : Level
  L = level_of r

  abbrev m : Vec (El p d h) (degree d h)
  m = r.t.1

  abbrev v : Vec (El p d h) (degree d h)
  v = r.v

  -- the coefficients of the quotient, and those of what k carries
  abbrev quots : ℕ
  quots = suc f.degree - k.degree

  abbrev lows : ℕ
  lows = suc g - f.degree

  -- a part of a row
  part : (n : ℕ) → n ≤ g + 1 → n * s ≤ (g + 1) * s
  part n q = mul-le-mul_right s q

  few : (n : ℕ) → n ≤ g → n * s ≤ 2 ^ 31
  few n q = omega (arith, mul-le-mul_right s q, run_few r)

  f_few : suc f.degree ≤ g + 1
  f_few = omega (arith, t.most)

  k_few : k.degree ≤ g
  k_few = omega (arith, t.most, t.falls)

  low_stands : Elements p d h k.degree (coef o k.degree k.low) w kr
  low_stands n q = sk.coefficients n (omega arith) ∙ ap (write p d h) (topped-low o k.degree k.low k.top n q)

  -- ---- the division
  pub turn-divide : DivideReady h d z p e e-in (under_of d h ea) kr k.degree ku w fr (suc f.degree) (next_of d h top)
  unfolding run_acting
  turn-divide = record {
    acting = run_acting r fra;
    fits = omega (arith, t.falls);
    some = omega arith;
    few = few k.degree k_few;
    a_below = omega (arith, part (suc f.degree) f_few, l.fr_high);
    b_below = omega (arith, part k.degree (omega (arith, k_few)), l.kr_high);
    u_below = l.ku_high;
    e_outside = λ q. inl (omega (arith, run-tower r q, l.fr_low));
    b_outside =
        apart_in kr (k.degree * s) fr (suc f.degree * s) (clear_swap l.fr_kr) (omega arith) (omega (arith, part k.degree (omega (arith, k_few))))
        (omega arith) (omega (arith, part (suc f.degree) f_few));
    u_outside = apart_in ku s fr (suc f.degree * s) (clear_swap l.fr_ku) (omega arith) (omega arith) (omega arith) (omega (arith, part (suc f.degree) f_few));
    f = coef o (suc f.degree) (whole f);
    l = k.low;
    v = k.unit;
    dividend = sf.coefficients;
    divisor = low_stands;
    unit = sk.inverse;
  }

  -- a run that a step leaves alone
  worked_on : {b n : ℕ} {u v : List ℤ} → top ≤ b → b + n ≤ next_of d h top → Worked b n (next_of d h top) (work d h) u v → Kept top (inverse_work d (suc h)) u v
  worked_on q m v = worked_kept q m (omega (arith, run_room r, work≤inverse d h)) v

  module _ {w₁ : List ℤ} (divided : DivideDone h d p e e-in (under_of d h ea) kr k.degree ku w w₁ fr (suc f.degree) (next_of d h top)) where
    fra₁ : Kept top (inverse_work d (suc h)) w₀ w₁
    fra₁ = kept_trans fra (worked_on (omega (arith, l.fr_low)) turn-divide.a_below divided.frame)

    -- the row that the division leaves
    row₁ : Elements p d h (suc f.degree) (rowᵘ R k.degree k.low k.unit (suc f.degree) (coef o (suc f.degree) (whole f))) w₁ fr
    row₁ = divided.done r.p_pos r.t.0 _ k.low k.unit (run_stands r fra) sf.coefficients low_stands sk.inverse

    rest₁ : Elements p d h k.degree (coef o k.degree (rest R f k)) w₁ fr
    rest₁ n q =
        row₁ n (omega (arith, t.falls))
        ∙ ap (write p d h) (rowᵘ-low R k.degree k.low k.unit (suc f.degree) _ n q
        ∙ ap (λ y. coef o k.degree (remainderᵘ R k.degree k.low k.unit (suc f.degree) y) n) (trunc-coef o (suc f.degree) (whole f)))

    quot₁ : Elements p d h quots (coef o (suc f.degree) (quot R f k)) w₁ (fr + k.degree * s)
    quot₁ n q =
        let place : fr + k.degree * s + n * s ≡ fr + (k.degree + n) * s = omega (arith, add-mul k.degree n s) in
        subst (λ y. Stands p d h (rowᵘ R k.degree k.low k.unit (suc f.degree) (coef o (suc f.degree) (whole f)) (k.degree + n)) w₁ y) (sym place)
        (row₁ (k.degree + n) (omega arith))
        ∙ ap (write p d h) (rowᵘ_high R k.degree k.low k.unit (suc f.degree) _ n
        ∙ ap (λ y. coef o (suc f.degree) (quotientᵘ R k.degree k.low k.unit (suc f.degree) y) n) (trunc-coef o (suc f.degree) (whole f)))

    -- the others stand as before
    same₁ : {b n : ℕ} → Clear fr ((g + 1) * s) b n → b + n ≤ next_of d h top → Same b n w w₁
    same₁ c q = worked_apart (clear_in (omega arith) (omega arith) (omega arith) (omega (arith, part (suc f.degree) f_few)) (clear_swap c)) q divided.frame

    carried_same : {u v : List ℤ} {b : ℕ} → Same b ((g + 1) * s) u v → Same b (g * s) u v
    carried_same y = same-part (omega arith) (omega (arith, part g (omega arith))) y

    fc₁ : Elements p d h g (coef o g f.carried) w₁ fc
    fc₁ = elements_same p d h g _ (carried_same (same₁ l.fr_fc l.fc_high)) sf.carries

    kc₁ : Elements p d h g (coef o g k.carried) w₁ kc
    kc₁ = elements_same p d h g _ (carried_same (same₁ l.fr_kc l.kc_high)) sk.carries

    -- ---- the loss
    -- how many coefficients lose
    all-is : quots + lows - 1 ≡ suc g - k.degree
    all-is = omega (arith, t.falls, t.most)

    all_few : quots + lows - 1 ≤ g
    all_few = omega (arith, all-is)

    quot-part : k.degree * s + quots * s ≤ (g + 1) * s
    quot-part = parts_fit k.degree quots (g + 1) s (omega (arith, t.falls, t.most))

    pub turn_lose : LoseReady h d z p e e-in (under_of d h ea) (fr + k.degree * s) quots kc lows w₁ fc (next_of d h top)
    turn_lose = record {
      acting = run_acting r fra₁;
      some_m = omega (arith, t.falls);
      some_n = omega (arith, t.most);
      few = few quots (omega (arith, t.falls, t.most));
      a_below = omega (arith, quot-part, l.fr_high);
      b_below = omega (arith, part lows (omega arith), l.kc_high);
      c_below = omega (arith, part (quots + lows - 1) (omega (arith, all_few)), l.fc_high);
      e_outside = λ q. inl (omega (arith, run-tower r q, l.fc_low));
      a_outside =
          apart_in (fr + k.degree * s) (quots * s) fc ((quots + lows - 1) * s) l.fr_fc (omega arith) (omega (arith, quot-part)) (omega arith)
          (omega (arith, part (quots + lows - 1) (omega (arith, all_few))));
      b_outside =
          apart_in kc (lows * s) fc ((quots + lows - 1) * s) (clear_swap l.fc_kc) (omega arith) (omega (arith, part lows (omega arith))) (omega arith)
          (omega (arith, part (quots + lows - 1) (omega (arith, all_few))));
      f = coef o (suc f.degree) (quot R f k);
      g = coef o g k.carried;
      h = coef o g f.carried;
      left = quot₁;
      right = λ n q. kc₁ n (omega (arith, t.falls));
      old = λ n q. fc₁ n (omega (arith, all_few));
    }

    module _ {w₂ : List ℤ} (lose : LoseDone h d p e e-in (under_of d h ea) (fr + k.degree * s) quots kc lows w₁ w₂ fc (next_of d h top)) where
      fra₂ : Kept top (inverse_work d (suc h)) w₀ w₂
      fra₂ = kept_trans fra₁ (worked_on (omega (arith, l.fc_low)) turn_lose.c_below lose.frame)

      same₂ : {b n : ℕ} → Clear fc ((g + 1) * s) b n → b + n ≤ next_of d h top → Same b n w₁ w₂
      same₂ c q =
          worked_apart (clear_in (omega arith) (omega arith) (omega arith) (omega (arith, part (quots + lows - 1) (omega (arith, all_few)))) (clear_swap c)) q
          lose.frame

      -- what is carried next: below it is the loss, above nothing is lost and nothing was there
      lost₂ : Elements p d h g (coef o g (lost L g m v t)) w₂ fc
      lost₂ n q = go (le_or_lt (quots + lows - 1) n)
        where
          new : Vec (El p d h) g
          new = lost L g m v t

          go : (quots + lows - 1 ≤ n) ⊎ (n < quots + lows - 1) → Stands p d h (coef o g new n) w₂ (fc + n * s)
          go (inl y) =
              let after : Clear (fc + n * s) s fc ((quots + lows - 1) * s) = clear_down (omega (arith, mul-le-mul_right s y)) in
              stands_same p d h _ (worked_apart after (omega (arith, block_inside n g s q, part g (omega arith), l.fc_high)) lose.frame) (fc₁ n q)
              ∙ ap (write p d h) (t.carried_f n (omega arith) ∙ sym (lost_high L g m v t some n (omega arith)))
          go (inr y) =
              lose.done r.p_pos r.t.0 _ _ _ (run_stands r fra₁) quot₁ (λ n q. kc₁ n (omega (arith, t.falls))) (λ n q. fc₁ n (omega (arith, all_few))) n y
              ∙ ap (write p d h)
              (ap (λ y. R.◌⊕◌ (coef o g f.carried n) (R.⊖◌ y))
              (sym (product_at R quots lows _ _ (quot-low L g m v t) t.carried_k n))
              ∙ sym (lost-low L g m v t some n))

      -- ---- the remainder follows
      rest₂ : Elements p d h k.degree (coef o k.degree (rest R f k)) w₂ fr
      rest₂ =
          elements_same p d h k.degree _
          (same-part (omega arith) (omega (arith, part k.degree (omega (arith, k_few)))) (same₂ (clear_swap l.fr_fc) l.fr_high)) rest₁

      fu₂ : Stands p d h f.unit w₂ fu
      fu₂ = stands_same p d h _ (same₂ l.fc_fu l.fu_high) (stands_same p d h _ (same₁ l.fr_fu l.fu_high) sf.inverse)

      -- the remainder's coefficients, and one more
      free_part : k.degree * s + s ≤ (g + 1) * s
      free_part = omega (arith, part (k.degree + 1) (omega (arith, k_few)), add-mul k.degree 1 s)

      row-part : (k.degree + 1) * s ≤ (g + 1) * s
      row-part = part (k.degree + 1) (omega (arith, k_few))

      pub turn-follow : FollowReady h d z p e e-in (under_of d h ea) fr k.degree fu w₂ (next_of d h top)
      turn-follow =
          let q = run_acting r fra₂ in
          record {
            modulus = q.modulus;
            two = r.two;
            low = q.low;
            sized = q.sized;
            positive = q.positive;
            small = q.small;
            e_inside = q.e_inside;
            e_row = λ y. inl (omega (arith, run-tower r y, l.fr_low));
            e_unit = λ y. inl (omega (arith, run-tower r y, l.fu_low));
            behind = omega (arith, l.fr_low);
            row_below = omega (arith, row-part, l.fr_high);
            unit_below = l.fu_high;
            apart = apart_in fu s fr ((k.degree + 1) * s) (clear_swap l.fr_fu) (omega arith) (omega arith) (omega arith) (omega (arith, row-part));
            room = omega (arith, r.room, fra₂.long, run_room r);
            p_pos = r.p_pos;
            t = r.t.0;
            f = coef o k.degree (rest R f k);
            u = f.unit;
            back = f.top;
            tower = run_stands r fra₂;
            rest = rest₂;
            inverse = fu₂;
            is_unit = t.unit_f;
          }

      module _ {w₃ : List ℤ} (c : Result ℕ Stop) (follow : FollowDone h d p e e-in (under_of d h ea) fr k.degree fu w₂ w₃ (next_of d h top) c) where
        pub turn_frame : Kept top (inverse_work d (suc h)) w₀ w₃
        turn_frame =
            kept_trans fra₂ (besides_kept (omega (arith, l.fr_low)) (omega (arith, free_part, l.fr_high)) l.fu_low l.fu_high (omega (arith, run_room r)) follow.frame)

        pub turn_followed : Followed p r.p_pos d h r.t.0 f.unit (strip (is_zero p d h) k.degree (rest R f k)) c w₂ w₃ (fr + k.degree * s) fu
        turn_followed =
            subst (λ y. Followed p r.p_pos d h r.t.0 f.unit (strip (is_zero p d h) k.degree y) c w₂ w₃ (fr + k.degree * s) fu)
            (trunc-coef o k.degree (rest R f k))
            (follow.done r.p_pos r.t.0 _ f.unit f.top (run_stands r fra₂) rest₂ fu₂ t.unit_f)

        same₃ : {b n : ℕ} → Clear fr ((g + 1) * s) b n → Clear fu s b n → b + n ≤ next_of d h top → Same b n w₂ w₃
        same₃ y q i =
            besides_apart (clear_in (omega arith) (omega arith) (omega arith) (omega (arith, free_part)) (clear_swap y)) (clear_swap q) i follow.frame

        -- k has not been touched
        all_same : {b n : ℕ} → Clear fr ((g + 1) * s) b n → Clear fc ((g + 1) * s) b n → Clear fu s b n → b + n ≤ next_of d h top → Same b n w w₃
        all_same y q i j = same_trans (same₁ y j) (same_trans (same₂ q j) (same₃ y i j))

        pub turn-keeps : Stood p r.p_pos d h k kr kc ku w₃
        turn-keeps = record {
          coefficients =
              elements_same p d h (suc k.degree) _
              (same-part (omega arith) (omega (arith, part (suc k.degree) (omega (arith, k_few)))) (all_same l.fr_kr l.fc_kr l.fu_kr l.kr_high))
              sk.coefficients;
          carries = elements_same p d h g _ (carried_same (all_same l.fr_kc l.fc_kc l.fu_kc l.kc_high)) sk.carries;
          inverse = stands_same p d h _ (all_same l.fr_ku l.fc_ku l.fu_ku l.ku_high) sk.inverse;
        }

        rest₃ : Elements p d h k.degree (coef o k.degree (rest R f k)) w₃ fr
        rest₃ =
            elements_same p d h k.degree _
            (besides_apart (clear_up (omega arith)) (clear_in (omega arith) (omega (arith, part k.degree (omega (arith, k_few)))) (omega arith) (omega arith) l.fr_fu)
            (omega (arith, part k.degree (omega (arith, k_few)), l.fr_high)) follow.frame)
            rest₂

        -- what follows stands at f's old places
        pub turn_stands : (n : ℕ) (u : Vec (El p d h) n) (y i : El p d h) → Stripped o k.degree (rest R f k) (lead n u y) → Stands p d h (R.◌⊗◌ i f.unit) w₃ fu
            → Stood p r.p_pos d h (led n u y (R.◌⊗◌ i f.unit) (lost L g m v t)) fr fc fu w₃
        turn_stands n u y i st q = record {
          coefficients = λ j b. rest₃ j (omega (arith, st.0)) ∙ ap (write p d h) (st.2 j);
          carries = elements_same p d h g _ (carried_same (same₃ l.fr_fc (clear_swap l.fc_fu) l.fc_high)) lost₂;
          inverse = q;
        }

-- Laws of the end of an inverse at level h + 1: the factor or the inverse is scaled, and made an element.
--
-- end_factor_asks, end_factor_finish, end_factor == the remainder was zero, and f is the factor
-- end_inverse_asks, end_inverse-finish, end_inverse          == k is a constant, and carries the inverse
use Prim.Native.Nat.{ℕ, suc, ◌+◌, ◌-◌, ◌*◌, ◌<◌, ◌≤◌}
use native.Mathlib.Nat.{mul-le-mul_right, lt_irrefl}
use native.Mathlib.Omega.{arith}
use mathlib.Core.Path.{◌≡◌, refl, ap, sym, ◌∙◌, subst, fun_ext}
use mathlib.Core.Bool.{Bool}
use mathlib.Core.Logic.{◌⊎◌, inl, inr}
use mathlib.Core.List.{List}
use lib.IntN.{ℤ}
use Rattle.algebra.specs.Ring.{CRing}
use Rattle.algebra.specs.Vec.{Vec, coef, trunc, trunc-coef}
use Rattle.algebra.specs.UnitDivide.{scaleᵛ, coef-scale, made-monic}
use Rattle.tower.specs.Levels.{degree, El, group, ring}
use Rattle.tower.specs.Writing.{size, size_suc, write}
use Rattle.tower.specs.Store.{Kept, kept_trans, kept-wide}
use Rattle.tower.specs.Work.{inverse_work}
use Rattle.products.specs.Product.{Elements}
use Rattle.products.proofs.Frames.{worked_kept}
use Rattle.euclid.specs.Shown.{shown_words, factor_element}
use Rattle.euclid.specs.Lazy.{whole}
use Rattle.std.specs.Prelude.{Ok, Err}
use Rattle.sequences.specs.declared.Stop.TheVariants.{Factor}
use Rattle.sequences.specs.Rows.{ScaleRowReady, ScaleRowDone}
use Rattle.sequences.specs.Starts.{FinishReady, FinishDone}
use Rattle.sequences.specs.Outcomes.{RunReady, RunDone, Above, Reached}
use Rattle.sequences.specs.Passes.{under_of, next_of, level_of, Going, Zero, Looping}
use Rattle.sequences.proofs.PlaceLaws.{clear_swap, apart_in, work≤inverse}
use Rattle.sequences.proofs.StartLaws.{finish_frame, finish-element}
use Rattle.sequences.proofs.TurnLaws.{turn_done}
use Rattle.sequences.proofs.RunLaws.{run_room, run-tower, run_stands, run_acting, run_done}

-- each coefficient times a constant
module _ (R : CRing) where
  scaled_at : (n : ℕ) (u : R.Car) (y : Vec R.Car n) → trunc n (λ j. R.◌⊗◌ u (coef R.𝟘 n y j)) ≡ scaleᵛ R n u y
  scaled_at n u y = ap (trunc n) (fun_ext (λ j. sym (coef-scale R n u y j))) ∙ trunc-coef R.𝟘 n (scaleᵛ R n u y)

module _ {h : ℕ} {d z : List ℕ} {p : ℕ} {e : List ℤ} {e-in : Bool} {ea : ℕ} {x : List ℤ} {x_in : Bool} {a : ℕ} {w₀ : List ℤ} {top : ℕ}
    {fr fc fu fn kr kc ku kn : ℕ} {w : List ℤ} (s : Looping h d z p e e-in ea x x_in a w₀ top fr fc fu fn kr kc ku kn w) where
  abbrev r : RunReady (suc h) d z p e e-in ea x x_in a w₀ top
  r = s.ready

  abbrev R : CRing
  R = ring p r.p_pos d h r.t.0

  abbrev o : El p d h
  o = (group p r.p_pos d h).𝟘

  abbrev g : ℕ
  g = degree d h

  part : (n : ℕ) → n ≤ g + 1 → n * size d h ≤ (g + 1) * size d h
  part n q = mul-le-mul_right (size d h) q

  -- the frame of the last two steps
  ended_frame : {row : ℕ} {w₁ w₂ : List ℤ} → top < row → row + (g + 1) * size d h ≤ next_of d h top → Kept top (inverse_work d (suc h)) w w₁
      → Kept (row - 1) (size d (suc h)) w₁ w₂ → Kept top (inverse_work d (suc h)) w₀ w₂
  ended_frame l q f k =
      kept_trans s.frame
      (kept_trans f (kept-wide (omega arith) (omega (arith, size_suc d h, part g (omega arith), run_room r)) k))

  -- what the finish of a row asks for, once it is scaled
  finish-ready : {n row : ℕ} {w₁ : List ℤ} → n ≤ g → top < row → row + (g + 1) * size d h ≤ next_of d h top → Kept top (inverse_work d (suc h)) w w₁
      → FinishReady h n g (size d h) d z w₁ row
  finish-ready l q m f = record {
    low = omega (arith, r.low);
    sized = r.sized;
    size_is = refl;
    few = l;
    behind = omega arith;
    inside = omega (arith, part g (omega arith), r.room, s.frame.long, f.long, run_room r);
  }

  above_of : {row : ℕ} → top < row → row + (g + 1) * size d h ≤ next_of d h top → Above d (suc h) (size d (suc h)) (row - 1) top
  above_of l q = record { low = omega arith; high = omega (arith, size_suc d h, part g (omega arith), run_room r) }

  -- ---- the factor
  module _ (none : kn ≡ 0) where
    zeroed : Zero r fr fc fu fn kn w
    zeroed = open_up s.state
      where
        open_up : Going r fr fc fu fn kr kc ku kn w ⊎ Zero r fr fc fu fn kn w → Zero r fr fc fu fn kn w
        open_up (inl y) = absurd (lt_irrefl 0 (omega (arith, y.k_count)))
        open_up (inr y) = y

    end_counts : fn ≤ degree d h
    end_counts = omega (arith, zeroed.f_count, zeroed.below)

    row_stands : Elements p d h fn (coef o (suc zeroed.f.degree) (whole zeroed.f)) w fr
    row_stands n q = zeroed.f_stands.coefficients n (omega (arith, zeroed.f_count))

    pub end_factor_asks : ScaleRowReady h fn d z p e e-in (under_of d h ea) fu w fr (next_of d h top)
    end_factor_asks = record {
      acting = run_acting r s.frame;
      u_below = s.laid.fu_high;
      c_below = omega (arith, part fn (omega (arith, end_counts)), s.laid.fr_high);
      e_outside = λ q. inl (omega (arith, run-tower r q, s.laid.fr_low));
      u_outside =
          apart_in fu (size d h) fr (fn * size d h) (clear_swap s.laid.fr_fu) (omega arith) (omega arith) (omega arith) (omega (arith, part fn (omega (arith, end_counts))));
      v = zeroed.f.unit;
      f = coef o (suc zeroed.f.degree) (whole zeroed.f);
      unit = zeroed.f_stands.inverse;
      row = row_stands;
    }

    module _ {w₁ : List ℤ} (scaled : ScaleRowDone h fn d p e e-in (under_of d h ea) fu w w₁ fr (next_of d h top)) where
      scaled_frame : Kept top (inverse_work d (suc h)) w w₁
      scaled_frame = worked_kept (omega (arith, s.laid.fr_low)) end_factor_asks.c_below (omega (arith, run_room r, work≤inverse d h)) scaled.frame

      pub end_factor_finish : FinishReady h fn g (size d h) d z w₁ fr
      end_factor_finish = finish-ready end_counts s.laid.fr_low s.laid.fr_high scaled_frame

      -- unit times f is monic
      factor_is : trunc g (coef o fn (trunc fn (λ j. R.◌⊗◌ zeroed.f.unit (coef o (suc zeroed.f.degree) (whole zeroed.f) j))))
          ≡ factor_element p r.p_pos d h r.t.0 (zeroed.f.degree, scaleᵛ R zeroed.f.degree zeroed.f.unit zeroed.f.low)
      factor_is =
          let f = zeroed.f in
          ap (λ n. trunc g (coef o n (trunc n (λ j. R.◌⊗◌ f.unit (coef o (suc f.degree) (whole f) j))))) zeroed.f_count
          ∙ ap (λ y. trunc g (coef o (suc f.degree) y)) (scaled_at R (suc f.degree) f.unit (whole f))
          ∙ ap (trunc g) (fun_ext (λ j. coef-scale R (suc f.degree) f.unit (whole f) j ∙ sym (made-monic R f.degree f.low f.top f.unit zeroed.unit_f j)))

      pub end_factor : {w₂ : List ℤ} → FinishDone h fn g d w₁ w₂ fr → RunDone (suc h) d p e e-in ea x x_in a w₀ w₂ top (Err (Factor (suc h) (fr - 1)))
      unfolding shown_words
      end_factor {w₂} fin =
          run_done r (ended_frame s.laid.fr_low s.laid.fr_high scaled_frame (finish_frame fin)) (Err (Factor (suc h) (fr - 1)))
          (subst (λ y. Reached p r.p_pos d (suc h) r.t y (Err (Factor (suc h) (fr - 1))) w₂ top) (sym zeroed.comes) (
            fr - 1,
            refl,
            above_of s.laid.fr_low s.laid.fr_high,
            finish-element fin p r.p_pos _ (scaled.done r.p_pos r.t.0 _ _ (run_stands r s.frame) zeroed.f_stands.inverse row_stands)
                ∙ ap (write p d (suc h)) factor_is,
          ))

  -- ---- the inverse
  module _ (some : ¬ (kn ≡ 0)) (last : kn ≤ 1) where
    going : Going r fr fc fu fn kr kc ku kn w
    going = open_up s.state
      where
        open_up : Going r fr fc fu fn kr kc ku kn w ⊎ Zero r fr fc fu fn kn w → Going r fr fc fu fn kr kc ku kn w
        open_up (inl y) = y
        open_up (inr y) = absurd (some y.none)

    pub end_inverse_asks : ScaleRowReady h g d z p e e-in (under_of d h ea) ku w kc (next_of d h top)
    end_inverse_asks = record {
      acting = run_acting r s.frame;
      u_below = s.laid.ku_high;
      c_below = omega (arith, part g (omega arith), s.laid.kc_high);
      e_outside = λ q. inl (omega (arith, run-tower r q, s.laid.kc_low));
      u_outside = apart_in ku (size d h) kc (g * size d h) (clear_swap s.laid.kc_ku) (omega arith) (omega arith) (omega arith) (omega (arith, part g (omega arith)));
      v = going.k.unit;
      f = coef o g going.k.carried;
      unit = going.k_stands.inverse;
      row = going.k_stands.carries;
    }

    module _ {w₁ : List ℤ} (scaled : ScaleRowDone h g d p e e-in (under_of d h ea) ku w w₁ kc (next_of d h top)) where
      carried_frame : Kept top (inverse_work d (suc h)) w w₁
      carried_frame = worked_kept (omega (arith, s.laid.kc_low)) end_inverse_asks.c_below (omega (arith, run_room r, work≤inverse d h)) scaled.frame

      pub end_inverse-finish : FinishReady h g g (size d h) d z w₁ kc
      end_inverse-finish = finish-ready (omega arith) s.laid.kc_low s.laid.kc_high carried_frame

      inverse-is : trunc g (coef o g (trunc g (λ j. R.◌⊗◌ going.k.unit (coef o g going.k.carried j)))) ≡ scaleᵛ R g going.k.unit going.k.carried
      inverse-is = trunc-coef o g _ ∙ scaled_at R g going.k.unit going.k.carried

      pub end_inverse : {w₂ : List ℤ} → FinishDone h g g d w₁ w₂ kc → RunDone (suc h) d p e e-in ea x x_in a w₀ w₂ top (Ok (kc - 1))
      end_inverse {w₂} fin =
          run_done r (ended_frame s.laid.kc_low s.laid.kc_high carried_frame (finish_frame fin)) (Ok (kc - 1))
          (subst (λ y. Reached p r.p_pos d (suc h) r.t y (Ok (kc - 1)) w₂ top)
          (sym (turn_done (level_of r) g r.t.1 r.v going.turning (omega (arith, going.k_count)))) (
            kc - 1,
            refl,
            above_of s.laid.kc_low s.laid.kc_high,
            finish-element fin p r.p_pos _ (scaled.done r.p_pos r.t.0 _ _ (run_stands r s.frame) going.k_stands.inverse going.k_stands.carries)
                ∙ ap (write p d (suc h)) inverse-is,
          ))

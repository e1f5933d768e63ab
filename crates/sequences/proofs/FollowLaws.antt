-- Laws of a turn's end: the remainder's leading coefficient times the dividend's inverse is inverted.
--
-- Before, now                 == what stood before;  Leading, leading, at_stands == the remainder's leading coefficient, at its place;  answer == its inverse's
-- followed                    == what a turn's end leaves, by the remainder's shape
-- searches, follows_zero      == the search for the leading coefficient; the remainder is zero
-- found, some                 == what was found, in the sizes of the tower
-- follows_fit                 == the places that the code computes
-- multiplies, inverts, scales == what the three steps ask for
-- goes_on, stops              == what they leave
use Prim.Native.Nat.{ℕ, suc, ◌+◌, ◌-◌, ◌*◌, ◌<◌, ◌≤◌}
use native.Mathlib.Nat.{add-mul, lt_irrefl}
use native.Mathlib.Omega.{arith}
use mathlib.Core.Path.{◌≡◌, refl, ap, sym, ◌∙◌, subst}
use mathlib.Core.Bool.{Bool, true}
use mathlib.Core.Logic.{◌⊎◌, inl, inr}
use mathlib.Core.List.{List, []}
use lib.IntN.{ℤ}
use lib.ListN.{length, get_or}
use Rattle.algebra.specs.Vec.{Vec, coef, trunc, trunc-at, topped-top}
use Rattle.algebra.specs.Shape.{Shape, null, lead, count, strip, Stripped, strip_ok}
use Rattle.tower.specs.Levels.{El, is_zero, Tower, group, zero_test, ring}
use Rattle.tower.specs.Writing.{size, size-pos, write, tower_size}
use Rattle.tower.specs.Stands.{Stands}
use Rattle.tower.specs.Work.{inverse_work}
use Rattle.arithmetic.specs.Rows.{Top, block_inside, run_of}
use Rattle.arithmetic.specs.Walk.{pick}
use Rattle.products.specs.Product.{Worked, TowerStands, Elements}
use Rattle.products.proofs.Frames.{picked_seg, inside_kept}
use Rattle.euclid.specs.Answer.{Answer, done}
use Rattle.euclid.specs.Lazy.{led, unit_times}
use Rattle.euclid.specs.Towers.{Shown, inv}
use Rattle.std.specs.Prelude.{Result, Ok, Err}
use Rattle.sequences.specs.declared.Stop.{Stop}
use Rattle.sequences.specs.Rows.{Acting, Between, TimesReady, TimesDone}
use Rattle.sequences.specs.Outcomes.{InvertReady, InvertDone, Came, FollowReady, FollowDone, Followed, Follows, Besides}
use Rattle.sequences.specs.Passes.{Clear}
use Rattle.sequences.proofs.AnswerLaws.{came_done, came_stops}
use Rattle.sequences.proofs.PlaceLaws.{worked_apart, stands_same, work≤inverse, besides_refl, besides_left, besides_right, besides_trans}

module _ {i : ℕ} {d z : List ℕ} {p : ℕ} {e : List ℤ} {e-in : Bool} {ea row n unit : ℕ} {w₀ : List ℤ} {top : ℕ}
    (r : FollowReady i d z p e e-in ea row n unit w₀ top) where
  abbrev s : ℕ
  s = size d i

  abbrev free : ℕ
  free = row + n * s

  -- the free coefficient's words
  free_ends : n * s + s ≡ (n + 1) * s
  free_ends = omega (arith, add-mul n 1 s)

  follow-top : row - 1 + 1 + n * s ≤ length w₀
  follow-top = omega (arith, r.behind, r.row_below, r.room, free_ends)

  -- what stood before
  pub record Before : Type 0 where
    pub p_pos : 0 < p
    pub t : Tower p d i
    pub f : ℕ → El p d i
    pub u : El p d i
    pub back : El p d i
    pub tower : TowerStands p p_pos d i t (pick e-in w₀ e) ea
    pub rest : Elements p d i n f w₀ row
    pub inverse : Stands p d i u w₀ unit
    pub is_unit : (ring p p_pos d i t).◌⊗◌ u back ≡ (ring p p_pos d i t).𝟙

  abbrev pub now : Before
  now = record { p_pos = r.p_pos; t = r.t; f = r.f; u = r.u; back = r.back; tower = r.tower; rest = r.rest; inverse = r.inverse; is_unit = r.is_unit }

  module _ {k : ℕ} (told : Top i n s w₀ (row - 1 + 1) k) where
    -- the count is that of the remainder's shape
    counted : (b : Before) → count (strip (is_zero p d i) n (trunc n b.f)) ≡ k
    counted b =
        told p d (trunc n b.f) b.p_pos refl
        (run_of p b.p_pos d i n (trunc n b.f) w₀ (row - 1 + 1) follow-top
        (λ j l. subst (λ y. Stands p d i (coef (group p b.p_pos d i).𝟘 n (trunc n b.f) j) w₀ (y + j * s)) behind
        (b.rest j l ∙ ap (write p d i) (sym (trunc-at (group p b.p_pos d i).𝟘 n b.f j l)))))
      where
        behind : row ≡ row - 1 + 1
        behind = omega (arith, r.behind)

    follow-zero : k ≡ 0 → FollowDone i d p e e-in ea row n unit w₀ w₀ top (Ok 0)
    follow-zero ek = record {
      frame = besides_refl;
      done = λ p_pos t f u back ts fs us ub.
          let b : Before = record { p_pos = p_pos; t = t; f = f; u = u; back = back; tower = ts; rest = fs; inverse = us; is_unit = ub } in
          go b (strip (is_zero p d i) n (trunc n f)) (counted b);
    }
      where
        go : (b : Before) (y : Shape (El p d i)) → count y ≡ k → Followed p b.p_pos d i b.t b.u y (Ok 0) w₀ w₀ free unit
        go b null q = (refl, refl)
        go b (lead m l c) q = absurd (lt_irrefl 0 (omega (arith, q, ek)))

    module _ (some : ¬ (k ≡ 0)) (few : k ≤ n) where
      -- a leading coefficient, at its place
      pub record Leading (b : Before) : Type 0 where
        pub m : ℕ
        pub l : Vec (El p d i) m
        pub c : El p d i
        pub shape : strip (is_zero p d i) n (trunc n b.f) ≡ lead m l c
        pub counts : k ≡ suc m
        pub here : b.f (k - 1) ≡ c
        pub some_c : ¬ (c ≡ (group p b.p_pos d i).𝟘)
        pub not_zero : ¬ ((ring p b.p_pos d i b.t).◌⊗◌ b.u c ≡ (group p b.p_pos d i).𝟘)

      pub leading : (b : Before) → Leading b
      leading b = go (strip (is_zero p d i) n (trunc n b.f)) refl (strip_ok (zero_test p b.p_pos d i) n (trunc n b.f)) (counted b)
        where
          go : (y : Shape (El p d i)) → strip (is_zero p d i) n (trunc n b.f) ≡ y → Stripped (group p b.p_pos d i).𝟘 n (trunc n b.f) y → count y ≡ k → Leading b
          go null ey st q = absurd (some (sym q))
          go (lead m l c) ey st q =
              let last : k - 1 ≡ m = omega (arith, q) in
              let O = (group p b.p_pos d i).𝟘 in
              record {
                m = m;
                l = l;
                c = c;
                shape = ey;
                counts = sym q;
                here = ap b.f last ∙ sym (trunc-at O n b.f m st.0) ∙ st.2 m ∙ topped-top O m l c;
                some_c = st.1;
                not_zero = unit_times (ring p b.p_pos d i b.t) (led 0 tt b.back b.u b.u) b.is_unit c st.1;
              }

      -- the inverse of its product with u
      abbrev pub answer : Before → Answer (Shown p d i) (El p d i)
      answer b = inv p b.p_pos d i b.t ((ring p b.p_pos d i b.t).◌⊗◌ b.u (leading b).c)

      -- by the remainder's shape
      pub followed : {v : List ℤ} (o : Result ℕ Stop) → ((b : Before) → Follows p b.p_pos d i b.t b.u (leading b).m (answer b) o v free unit)
          → Besides free unit s top (inverse_work d i) w₀ v → FollowDone i d p e e-in ea row n unit w₀ v top o
      followed {v} o h f = record {
        frame = f;
        done = λ p_pos t f u back ts fs us ub.
            let b : Before = record { p_pos = p_pos; t = t; f = f; u = u; back = back; tower = ts; rest = fs; inverse = us; is_unit = ub } in
            subst (λ y. Followed p p_pos d i t u y o w₀ v free unit) (sym (leading b).shape) (h b);
      }

      -- ---- the product of the leading coefficient and the dividend's inverse
      acting : Acting i d z p e e-in ea w₀ top
      acting = record {
        modulus = r.modulus;
        low = r.low;
        sized = r.sized;
        positive = r.positive;
        small = r.small;
        e_inside = r.e_inside;
        room = omega (arith, r.room, work≤inverse d i);
        p_pos = r.p_pos;
        t = r.t;
        tower = r.tower;
      }

      pub at_stands : (b : Before) → Stands p d i (leading b).c w₀ (row + (k - 1) * s)
      at_stands b = b.rest (k - 1) (omega (arith, some-k)) ∙ ap (write p d i) (leading b).here
        where
          some-k : k ≡ suc (leading b).m
          some-k = (leading b).counts

      follow-place : row + (k - 1) * s + s ≤ top
      follow-place = omega (arith, block_inside (k - 1) (n + 1) s (omega (arith, few)), r.row_below)

      follow-free : free + s ≤ top
      follow-free = omega (arith, free_ends, r.row_below)

      follow-times : TimesReady i d z p e e-in ea unit (row + (k - 1) * s) w₀ free top
      follow-times = record {
        acting = acting;
        a_below = r.unit_below;
        b_below = follow-place;
        c_below = follow-free;
        x = r.u;
        y = (leading now).c;
        left = r.inverse;
        right = at_stands now;
      }

      module _ {w₁ : List ℤ} (times : TimesDone i d p e e-in ea unit (row + (k - 1) * s) w₀ w₁ free top) where
        product₁ : (b : Before) → Stands p d i ((ring p b.p_pos d i b.t).◌⊗◌ b.u (leading b).c) w₁ free
        product₁ b = times.done b.p_pos b.t b.u (leading b).c b.tower b.inverse (at_stands b)

        -- the tower's words lie outside the row and the inverse's
        tower₁ : {m : ℕ} {u v : List ℤ} (b : Before) → Worked free s top m u v → TowerStands p b.p_pos d i b.t (pick e-in u e) ea
            → TowerStands p b.p_pos d i b.t (pick e-in v e) ea
        tower₁ {m} {u} {v} b f h = picked_seg e-in ea (tower_size d i) u v e (λ q. worked_apart (go (r.e_row q)) (r.e_inside.below q) f) ∙ h
          where
            go : (ea + tower_size d i ≤ row) ⊎ (row + (n + 1) * s ≤ ea) → Clear ea (tower_size d i) free s
            go (inl y) = record { apart = inl (omega arith) }
            go (inr y) = record { apart = inr (omega (arith, free_ends)) }

        follow-invert : InvertReady i d z p e e-in ea [] true free w₁ free top
        follow-invert = record {
          run = record {
            modulus = r.modulus;
            two = r.two;
            low = r.low;
            sized = r.sized;
            positive = r.positive;
            small = r.small;
            e_inside = inside_kept e-in w₀ w₁ e times.frame.long (omega arith) r.e_inside;
            x_inside = record { inside = omega (arith, follow-free, r.room, times.frame.long); below = λ _. follow-free };
            room = omega (arith, r.room, times.frame.long);
            p_pos = r.p_pos;
            t = r.t;
            v = (ring p r.p_pos d i r.t).◌⊗◌ r.u (leading now).c;
            tower = tower₁ now times.frame r.tower;
            element = product₁ now;
            some = (leading now).not_zero;
          };
          c_below = follow-free;
        }

        module _ {w₂ : List ℤ} (c : Result (Unit {0}) Stop) (inverted : InvertDone i d p e e-in ea [] true free w₁ w₂ free top c) where
          -- what the inverse comes to
          came : (b : Before) → Came p b.p_pos d i b.t (answer b) c w₂ free
          came b = inverted.done b.p_pos b.t _ (tower₁ b times.frame b.tower) (product₁ b) (leading b).not_zero

          frame₂ : Besides free unit s top (inverse_work d i) w₀ w₂
          frame₂ = besides_trans (besides_left (work≤inverse d i) times.frame) (besides_left (omega arith) inverted.frame)

          unit_clear : Clear unit s free s
          unit_clear = go r.apart
            where
              go : Between unit s row ((n + 1) * s) → Clear unit s free s
              go (inl y) = record { apart = inl (omega arith) }
              go (inr y) = record { apart = inr (omega (arith, free_ends)) }

          unit₂ : (b : Before) → Stands p d i b.u w₂ unit
          unit₂ b =
              stands_same p d i _ (worked_apart unit_clear r.unit_below inverted.frame)
              (stands_same p d i _ (worked_apart unit_clear r.unit_below times.frame) b.inverse)

          tower₂ : (b : Before) → TowerStands p b.p_pos d i b.t (pick e-in w₂ e) ea
          tower₂ b = tower₁ b inverted.frame (tower₁ b times.frame b.tower)

          long₂ : length w₂ ≡ length w₀
          long₂ = inverted.frame.long ∙ times.frame.long

          -- it is given
          module _ (ec : c ≡ Ok tt) where
            given : (b : Before) → (j : El p d i)
                × (answer b ≡ done j) × Stands p d i j w₂ free
            given b = came_done p b.p_pos d i b.t w₂ free c ec (answer b) (came b)

            follow-scale : TimesReady i d z p e e-in ea free unit w₂ unit top
            follow-scale = record {
              acting = record {
                modulus = r.modulus;
                low = r.low;
                sized = r.sized;
                positive = r.positive;
                small = r.small;
                e_inside = inside_kept e-in w₀ w₂ e long₂ (omega arith) r.e_inside;
                room = omega (arith, r.room, work≤inverse d i, long₂);
                p_pos = r.p_pos;
                t = r.t;
                tower = tower₂ now;
              };
              a_below = follow-free;
              b_below = r.unit_below;
              c_below = r.unit_below;
              x = (given now).0;
              y = r.u;
              left = (given now).2;
              right = unit₂ now;
            }

            follow-next : {w₃ : List ℤ} → TimesDone i d p e e-in ea free unit w₂ w₃ unit top → FollowDone i d p e e-in ea row n unit w₀ w₃ top (Ok k)
            follow-next {w₃} scaled =
                followed (Ok k)
                (λ b.
                subst (λ y. Follows p b.p_pos d i b.t b.u (leading b).m y (Ok k) w₃ free unit) (sym (given b).1)
                (ap Ok (leading b).counts, scaled.done b.p_pos b.t (given b).0 b.u (tower₂ b) (given b).2 (unit₂ b)))
                (besides_trans frame₂ (besides_right (work≤inverse d i) scaled.frame))

          -- a factor is shown, or there are too many remainders
          follow_stops : (x : Stop) → c ≡ Err x → FollowDone i d p e e-in ea row n unit w₀ w₂ top (Err x)
          follow_stops x ec =
              followed (Err x)
              (λ b.
              came_stops p b.p_pos d i b.t w₂ b.u (leading b).m free unit x (answer b)
              (subst (λ y. Came p b.p_pos d i b.t (answer b) y w₂ free) ec (came b)))
              frame₂

-- ---- in the words of the code
module _ {i : ℕ} {d z : List ℕ} {p : ℕ} {e : List ℤ} {e-in : Bool} {ea row n unit : ℕ} {w₀ : List ℤ} {top : ℕ}
    (r : FollowReady i d z p e e-in ea row n unit w₀ top) {s : ℕ} (es : s ≡ get_or z i 0) where
  one_size : s ≡ size d i
  one_size = es ∙ r.sized.at i r.low

  pub searches : (1 ≤ s) × (row - 1 + 1 + n * s ≤ length w₀)
  searches = rw one_size (size-pos d i, follow-top r)

  module _ {k : ℕ} (told : Top i n s w₀ (row - 1 + 1) k × (k ≤ n)) where
    pub found : Top i n (size d i) w₀ (row - 1 + 1) k
    found = subst (λ y. Top i n y w₀ (row - 1 + 1) k) one_size told.0

    pub follows_zero : k ≡ 0 → FollowDone i d p e e-in ea row n unit w₀ w₀ top (Ok 0)
    follows_zero = follow-zero r found

    module _ (more : 0 < k) where
      pub some : ¬ (k ≡ 0)
      some q = lt_irrefl 0 (omega (arith, q))

      -- the places computed fit
      pub follows_fit : (row + n * s ≤ length w₀) × (row + (k - 1) * s ≤ length w₀)
      follows_fit = rw one_size (omega (arith, follow-free r found some told.1, r.room), omega (arith, follow-place r found some told.1, r.room))

      module _ {free at : ℕ} (ef : free ≡ row + n * s) (ep : at ≡ row + (k - 1) * s) where
        pub multiplies : TimesReady i d z p e e-in ea unit at w₀ free top
        multiplies = rw (ef, ep, one_size) (follow-times r found some told.1)

        module _ {w₁ : List ℤ} (times : TimesDone i d p e e-in ea unit at w₀ w₁ free top) where
          times' : TimesDone i d p e e-in ea unit (row + (k - 1) * size d i) w₀ w₁ (row + n * size d i) top
          times' = rw (ef, ep, one_size) at times

          pub inverts : InvertReady i d z p e e-in ea [] true free w₁ free top
          inverts = rw (ef, one_size) (follow-invert r found some told.1 times')

          module _ {w₂ : List ℤ} {c : Result (Unit {0}) Stop} (inverted : InvertDone i d p e e-in ea [] true free w₁ w₂ free top c) where
            inverted' : InvertDone i d p e e-in ea [] true (row + n * size d i) w₁ w₂ (row + n * size d i) top c
            inverted' = rw (ef, one_size) at inverted

            pub scales : c ≡ Ok tt → TimesReady i d z p e e-in ea free unit w₂ unit top
            scales ec = rw (ef, one_size) (follow-scale r found some told.1 times' c inverted' ec)

            pub goes_on : c ≡ Ok tt → {w₃ : List ℤ} → TimesDone i d p e e-in ea free unit w₂ w₃ unit top → FollowDone i d p e e-in ea row n unit w₀ w₃ top (Ok k)
            goes_on ec scaled = follow-next r found some told.1 times' c inverted' ec (rw (ef, one_size) at scaled)

            pub stops : (x : Stop) → c ≡ Err x → FollowDone i d p e e-in ea row n unit w₀ w₂ top (Err x)
            stops x ec = follow_stops r found some told.1 times' c inverted' x ec

-- Laws of the GCD as a whole: both leading coefficients are inverted, the first one's first, and the sequence on the two comes to the GCD.
--
-- gcd-first, gcd_second == what the two inverses ask for
-- gcd_factor            == the first shows a factor;  gcd_factor_2 == the second does
-- gcd_leads, gcd-after  == where the first is inverted: what the rest asks for, and that what it leaves is the GCD
-- gcd-turns, gcd-sought == where f is not zero: what the sequence asks for, and that what it leaves is the GCD
-- gcd-monic, gcd_end    == where f is zero: what making g monic asks for, and that it is the GCD
use Prim.Native.Nat.{ℕ, suc, ◌+◌, ◌-◌, ◌<◌, ◌≤◌}
use native.Mathlib.Nat.{lt_irrefl}
use native.Mathlib.Omega.{arith}
use mathlib.Core.Path.{◌≡◌, ap, sym, ◌∙◌, subst}
use mathlib.Core.Bool.{Bool}
use mathlib.Core.Logic.{◌⊎◌, inl, inr}
use mathlib.Core.List.{List}
use lib.IntN.{ℤ}
use Rattle.algebra.specs.Test.{le_or_lt}
use Rattle.algebra.specs.Vec.{trunc}
use Rattle.tower.specs.Levels.{El, Tower}
use Rattle.tower.specs.Writing.{size}
use Rattle.euclid.specs.Answer.{Answer, done, shown}
use Rattle.euclid.specs.Gcd.{Made, nil, make, gcd, gcd-right-zero, nothing}
use Rattle.euclid.proofs.Gcd.{gcd-left-zero}
use Rattle.euclid.proofs.Lazy.{gcd-lazy}
use Rattle.euclid.specs.Shown.{shown_fits}
use Rattle.euclid.specs.Steps.{make_null, gcd-first as first-shows, gcd_second as second-shows}
use Rattle.euclid.specs.Towers.{Shown, shown_level, inv, level}
use Rattle.euclid.proofs.Towers.{good}
use Rattle.std.specs.Prelude.{Result, Ok, Err}
use Rattle.sequences.specs.declared.Stop.{Stop}
use Rattle.sequences.specs.declared.Stop.TheVariants.{Factor, Long}
use Rattle.sequences.specs.declared.Greatest.{Greatest}
use Rattle.sequences.specs.Gcds.{greatest}
use Rattle.sequences.specs.Outcomes.{FactorStands}
use Rattle.sequences.specs.Gcds.{Sited, Upwards, Finds, Inverted, GcdLedReady, GcdLedDone, GcdReady, GcdDone, LeadReady, LeadDone, MonicReady, MonicDone, Sought, TurnsReady, TurnsDone}
use Rattle.sequences.proofs.GcdPlaces.{sited_swap, up_refl, up_trans, up_swap}
use Rattle.sequences.proofs.GcdLaws.{turns-monic, turns_end}
use Rattle.sequences.proofs.GcdLeads.{led_of, made_none, stripped_of, shape_of, made_of, made_shown, led_of_lem, Held, held_swap}
use Rattle.sequences.proofs.GcdLeads.{lead_asks, lead_sited, lead_up, lead-held, lead-inverse, lead_given, lead_shown, lead_over}

-- ---- the GCD of two whose leading coefficients are inverted
module _ {p : ℕ} {p_pos : 0 < p} {d : List ℕ} {i : ℕ} {t : Tower p d i} {e : List ℤ} {e-in : Bool} {ea fr m gr n : ℕ} {a b : ℕ → El p d i} {w : List ℤ}
    (q : Held p p_pos d i t e e-in ea fr m gr n a b w) where
  -- the answer
  abbrev answer : Answer (Shown p d i) (Made (El p d i) (Unit {0}))
  answer = gcd (level p p_pos d i t) m (trunc m a) n (trunc n b)

  -- f is not zero
  seek_turns : {fu gu : ℕ} → Inverted p p_pos d i t m a w fu → Inverted p p_pos d i t n b w gu → 0 < m → Sought p p_pos d i t answer fr fu m gr gu n w
  seek_turns {fu} {gu} u v some = go (le_or_lt n 0)
    where
      x : El p d i
      x = (u.given some).0

      go : (n ≤ 0) ⊎ (0 < n) → Sought p p_pos d i t answer fr fu m gr gu n w
      go (inl h) =
          let none : n ≡ 0 = omega (arith, h) in
          record {
            f = led_of p p_pos d i t m a x;
            stands = led_of_lem some q.left u;
            then = inl (record {
              none = none;
              comes =
                  gcd-right-zero (level p p_pos d i t) (nothing (El p d i)) m (trunc m a) tt n (trunc n b) tt (made_none p p_pos d i t n b none)
                  ∙ made_of p p_pos d i t m a some (q.left.leads some) x (u.given some).1;
            });
          }
      go (inr h) = record {
        f = led_of p p_pos d i t m a x;
        stands = led_of_lem some q.left u;
        then = inr (record {
          k = led_of p p_pos d i t n b (v.given h).0;
          stands = led_of_lem h q.right v;
          comes =
              gcd-lazy (level p p_pos d i t) (nothing (El p d i)) (good p p_pos d i t) m (trunc m a) tt n (trunc n b) tt
              (m - 1) _ _ (stripped_of p p_pos d i t m a some (q.left.leads some)) (n - 1) _ _ (stripped_of p p_pos d i t n b h (q.right.leads h))
              x (u.given some).1 (v.given h).0 (v.given h).1 (suc (n - 1)) (omega arith);
        });
      }

  -- f is zero, and g is not
  seek_other : {fu gu : ℕ} → Inverted p p_pos d i t n b w gu → m ≡ 0 → 0 < n → Sought p p_pos d i t answer gr gu n fr fu m w
  seek_other v none some = record {
    f = led_of p p_pos d i t n b (v.given some).0;
    stands = led_of_lem some q.right v;
    then = inl (record {
      none = none;
      comes =
          gcd-left-zero (level p p_pos d i t) (nothing (El p d i)) m (trunc m a) tt n (trunc n b) tt (n - 1) _ _ (made_none p p_pos d i t m a none)
          (shape_of p p_pos d i t n b some (q.right.leads some))
          ∙ made_of p p_pos d i t n b some (q.right.leads some) (v.given some).0 (v.given some).1;
    });
  }

  -- both are
  seek_none : m ≡ 0 → n ≡ 0 → answer ≡ done (nil tt)
  seek_none em en =
      gcd-right-zero (level p p_pos d i t) (nothing (El p d i)) m (trunc m a) tt n (trunc n b) tt (made_none p p_pos d i t n b en)
      ∙ make_null (level p p_pos d i t) (nothing (El p d i)) m (trunc m a) tt (made_none p p_pos d i t m a em)

  -- a factor of f's, before all; of g's, where f's is inverted
  seek_first : 0 < m → (x : Shown p d i) → inv p p_pos d i t (a (m - 1)) ≡ shown x → answer ≡ shown x
  seek_first some x h =
      first-shows (level p p_pos d i t) (nothing (El p d i)) m (trunc m a) tt n (trunc n b) tt x (made_shown p p_pos d i t m a some (q.left.leads some) x h)

  seek_second : {fu : ℕ} → Inverted p p_pos d i t m a w fu → 0 < n → (x : Shown p d i) → inv p p_pos d i t (b (n - 1)) ≡ shown x → answer ≡ shown x
  seek_second u some x h = go (le_or_lt m 0)
    where
      by : (A : Made (El p d i) (Unit {0})) → make (level p p_pos d i t) (nothing (El p d i)) m (trunc m a) tt ≡ done A → answer ≡ shown x
      by A made-it =
          second-shows (level p p_pos d i t) (nothing (El p d i)) m (trunc m a) tt n (trunc n b) tt A made-it x
          (made_shown p p_pos d i t n b some (q.right.leads some) x h)

      go : (m ≤ 0) ⊎ (0 < m) → answer ≡ shown x
      go (inl l) = by _ (make_null (level p p_pos d i t) (nothing (El p d i)) m (trunc m a) tt (made_none p p_pos d i t m a (omega (arith, l))))
      go (inr l) = by _ (made_of p p_pos d i t m a l (q.left.leads l) (u.given l).0 (u.given l).1)

-- a factor whose words stand at a place of an inverse
shows : {i : ℕ} {d z : List ℕ} {p : ℕ} {e : List ℤ} {e-in : Bool} {ea fr fu m gr gu n : ℕ} {w : List ℤ} {top : ℕ} → Sited i d z p e e-in ea fr fu m gr gu n w top
    → (p_pos : 0 < p) (t : Tower p d i) (v : List ℤ) (l at : ℕ) (x : Shown p d i) (y : Answer (Shown p d i) (Made (El p d i) (Unit {0}))) → y ≡ shown x
    → l ≡ shown_level p d i x → at + size d i ≤ top → FactorStands p p_pos d i t x v at → Finds p p_pos d i t y (Err (Factor l at)) v top
shows {i} {d} {p = p} {top = top} s p_pos t v l at x y ey el h q =
    subst (λ y. Finds p p_pos d i t y (Err (Factor l at)) v top) (sym ey)
    (at, ap (λ k. Err (Factor k at)) el, omega (arith, h, shown_fits p p_pos d i (record { p_two = s.two; degrees = s.positive.some }) x), q)

-- ---- the second's leading coefficient, and what follows
module _ {i : ℕ} {d z : List ℕ} {p : ℕ} {e : List ℤ} {e-in : Bool} {ea fr fu m gr gu n : ℕ} {w : List ℤ} {top : ℕ}
    (r : GcdLedReady i d z p e e-in ea fr fu m gr gu n w top) where
  abbrev Before : (p_pos : 0 < p) → Tower p d i → (a b : ℕ → El p d i) → Type 0
  Before p_pos t a b = Held p p_pos d i t e e-in ea fr m gr n a b w

  held : Before r.ready.p_pos r.ready.t r.ready.a r.ready.b
  held = record { tower = r.ready.tower; left = r.ready.left; right = r.ready.right }

  -- whatever stands there comes to what was found
  close : {v : List ℤ} (o : Result Greatest Stop) → Upwards i d fr fu gr gu w v top
      → ((p_pos : 0 < p) (t : Tower p d i) (a b : ℕ → El p d i) → Before p_pos t a b → Inverted p p_pos d i t m a w fu
      → Finds p p_pos d i t (gcd (level p p_pos d i t) m (trunc m a) n (trunc n b)) o v top)
      → GcdLedDone i d p e e-in ea fr fu m gr gu n w v top o
  close o f h = record { frame = f; done = λ p_pos t a b tower left right. h p_pos t a b (record { tower = tower; left = left; right = right }) }

  sited₁ : Sited i d z p e e-in ea gr gu n fr fu m w top
  sited₁ = sited_swap r.ready.sited

  pub gcd_second : LeadReady i d z p e e-in ea gr gu n w top
  gcd_second = lead_asks sited₁ (held_swap held)

  module _ {w₂ : List ℤ} (c : Result (Unit {0}) Stop) (y : LeadDone i d p e e-in ea gr gu n w w₂ top c) where
    up₂ : Upwards i d fr fu gr gu w w₂ top
    up₂ = up_swap i d gr gu fr fu top w w₂ (lead_up sited₁ (held_swap held) c y)

    pub gcd_factor_2 : (l at : ℕ) → c ≡ Err (Factor l at) → GcdLedDone i d p e e-in ea fr fu m gr gu n w w₂ top (Err (Factor l at))
    gcd_factor_2 l at ec =
        close (Err (Factor l at)) up₂ (λ p_pos t a b h q.
        let x = lead_shown sited₁ (held_swap h) c y l at ec in
        shows r.ready.sited p_pos t w₂ l at x.1.0 _ (seek_second h q x.0 x.1.0 x.1.1) x.1.2 (omega (arith, x.1.3, r.ready.sited.second.unit_below))
        (subst (FactorStands p p_pos d i t x.1.0 w₂) (sym x.1.3) x.1.4))

    pub gcd_stops_2 : (x : Stop) → c ≡ Err x → GcdLedDone i d p e e-in ea fr fu m gr gu n w w₂ top (Err x)
    gcd_stops_2 (Factor l at) ec = gcd_factor_2 l at ec
    gcd_stops_2 Long ec = absurd (lead_over sited₁ (held_swap held) c y ec)

    module _ (ec : c ≡ Ok tt) where
      sited₂ : Sited i d z p e e-in ea fr fu m gr gu n w₂ top
      sited₂ = sited_swap (lead_sited sited₁ (held_swap held) c y)

      module _ {p_pos : 0 < p} {t : Tower p d i} {a b : ℕ → El p d i} (h : Before p_pos t a b) where
        held₂ : Held p p_pos d i t e e-in ea fr m gr n a b w₂
        held₂ = held_swap (lead-held sited₁ (held_swap h) c y)

        first₂ : Inverted p p_pos d i t m a w fu → Inverted p p_pos d i t m a w₂ fu
        first₂ q = lead-inverse sited₁ (held_swap h) c y q

        second₂ : Inverted p p_pos d i t n b w₂ gu
        second₂ = lead_given sited₁ (held_swap h) c y ec

      -- ---- f is not zero
      module _ (some : 0 < m) where
        pub gcd-turns : TurnsReady i d z p e e-in ea fr fu m gr gu n w₂ top
        gcd-turns = record {
          sited = sited₂;
          p_pos = r.ready.p_pos;
          t = r.ready.t;
          answer = _;
          tower = (held₂ held).tower;
          sought = seek_turns (held₂ held) (first₂ held r.inverted) (second₂ held) some;
        }

        pub gcd-sought : {v : List ℤ} (o : Result Greatest Stop) → TurnsDone i d p e e-in ea fr fu m gr gu n w₂ v top o → GcdLedDone i d p e e-in ea fr fu m gr gu n w v top o
        gcd-sought {v} o l =
            close o (up_trans i d fr fu gr gu top w w₂ v up₂ l.frame) (λ p_pos t a b h q.
            l.done p_pos t _ (held₂ h).tower (seek_turns (held₂ h) (first₂ h q) (second₂ h) some))

      -- ---- f is zero
      module _ (none : m ≡ 0) where
        other : 0 < n → TurnsReady i d z p e e-in ea gr gu n fr fu m w₂ top
        other some = record {
          sited = sited_swap sited₂;
          p_pos = r.ready.p_pos;
          t = r.ready.t;
          answer = _;
          tower = (held₂ held).tower;
          sought = seek_other (held₂ held) (second₂ held) none some;
        }

        pub gcd-monic : MonicReady i d z p e e-in ea gr gu n w₂ top
        gcd-monic = record { some = λ l. (turns-monic (other l) none).some l }

        pub gcd_end : {v : List ℤ} (o : Greatest) → MonicDone i d p e e-in ea gr gu n w₂ v top o → GcdLedDone i d p e e-in ea fr fu m gr gu n w v top (Ok o)
        gcd_end {v} o l = go (le_or_lt n 0)
          where
            go : (n ≤ 0) ⊎ (0 < n) → GcdLedDone i d p e e-in ea fr fu m gr gu n w v top (Ok o)
            go (inl h) =
                let en : n ≡ 0 = omega (arith, h) in
                close (Ok o) (up_trans i d fr fu gr gu top w w₂ v up₂ (up_refl i d fr fu gr gu top w₂ v (l.none en))) (λ p_pos t a b x q.
                subst (λ y. Finds p p_pos d i t y (Ok o) v top) (sym (seek_none (held₂ x) none en))
                (gr, ap Ok (l.here ∙ ap (greatest gr) en), omega (arith, r.ready.sited.second.row_below), λ j b. absurd (lt_irrefl 0 (omega (arith, b)))))
            go (inr h) =
                let ended = turns_end (other h) none o l in
                close (Ok o) (up_trans i d fr fu gr gu top w w₂ v up₂ (up_swap i d gr gu fr fu top w₂ v ended.frame)) (λ p_pos t a b x q.
                ended.done p_pos t _ (held₂ x).tower (seek_other (held₂ x) (second₂ x) none h))

-- ---- the first's leading coefficient, and what follows
module _ {i : ℕ} {d z : List ℕ} {p : ℕ} {e : List ℤ} {e-in : Bool} {ea fr fu m gr gu n : ℕ} {w : List ℤ} {top : ℕ}
    (r : GcdReady i d z p e e-in ea fr fu m gr gu n w top) where
  given : Held p r.p_pos d i r.t e e-in ea fr m gr n r.a r.b w
  given = record { tower = r.tower; left = r.left; right = r.right }

  pub gcd-first : LeadReady i d z p e e-in ea fr fu m w top
  gcd-first = lead_asks r.sited given

  module _ {w₁ : List ℤ} (c : Result (Unit {0}) Stop) (y : LeadDone i d p e e-in ea fr fu m w w₁ top c) where
    pub gcd_factor : (l at : ℕ) → c ≡ Err (Factor l at) → GcdDone i d p e e-in ea fr fu m gr gu n w w₁ top (Err (Factor l at))
    gcd_factor l at ec = record {
      frame = lead_up r.sited given c y;
      done = λ p_pos t a b tower left right.
          let h : Held p p_pos d i t e e-in ea fr m gr n a b w = record { tower = tower; left = left; right = right } in
          let x = lead_shown r.sited h c y l at ec in
          shows r.sited p_pos t w₁ l at x.1.0 _ (seek_first h x.0 x.1.0 x.1.1) x.1.2 (omega (arith, x.1.3, r.sited.first.unit_below))
          (subst (FactorStands p p_pos d i t x.1.0 w₁) (sym x.1.3) x.1.4);
    }

    pub gcd_stops : (x : Stop) → c ≡ Err x → GcdDone i d p e e-in ea fr fu m gr gu n w w₁ top (Err x)
    gcd_stops (Factor l at) ec = gcd_factor l at ec
    gcd_stops Long ec = absurd (lead_over r.sited given c y ec)

    module _ (ec : c ≡ Ok tt) where
      pub gcd_leads : GcdLedReady i d z p e e-in ea fr fu m gr gu n w₁ top
      gcd_leads =
          let h = lead-held r.sited given c y in
          record {
            ready = record {
              sited = lead_sited r.sited given c y;
              p_pos = r.p_pos;
              t = r.t;
              a = r.a;
              b = r.b;
              tower = h.tower;
              left = h.left;
              right = h.right;
            };
            inverted = lead_given r.sited given c y ec;
          }

      pub gcd-after : {v : List ℤ} (o : Result Greatest Stop) → GcdLedDone i d p e e-in ea fr fu m gr gu n w₁ v top o → GcdDone i d p e e-in ea fr fu m gr gu n w v top o
      gcd-after {v} o l = record {
        frame = up_trans i d fr fu gr gu top w w₁ v (lead_up r.sited given c y) l.frame;
        done = λ p_pos t a b tower left right.
            let q : Held p p_pos d i t e e-in ea fr m gr n a b w = record { tower = tower; left = left; right = right } in
            let h = lead-held r.sited q c y in
            l.done p_pos t a b h.tower h.left h.right (lead_given r.sited q c y ec);
      }

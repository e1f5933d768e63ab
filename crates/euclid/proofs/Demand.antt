-- Demand 3 over any level: what a given GCD and a factor shown in its place are; number 11 is never given.
--
-- gcd_done, gcd_comb, gcd_shown, gcd_never_long == the three kinds of answer of the GCD, whatever is carried
-- gcd_given    == where nothing can be shown, the GCD is given
-- start_any_count, start_any_count_nil, inverse_any_count == how many remainders are allowed changes no answer
use Rattle.std.specs.Prelude.{◌≡◌, ℕ, suc, ◌<◌, max}
use Rattle.std.proofs.Math.Path.{ap}
use Rattle.std.proofs.Common.{arith}
use Rattle.algebra.specs.Vec.{Vec, zeroᵛ, topped}
use Rattle.algebra.specs.PolyRing.{pol}
use Rattle.euclid.specs.Answer.{done, shown, long, map, Holds, holds_done}
use Rattle.euclid.specs.Level.{Level, Good, beneath}
use Rattle.euclid.specs.Inverse.{elements, on_modulus}
use Rattle.euclid.specs.Sequence.{Carry, seq}
use Rattle.euclid.proofs.Sequence.{seq_fuel}
use Rattle.euclid.specs.Gcd.{Made, nil, made, wrap, val, Gcd, start, gcd_with}
use Rattle.euclid.proofs.Gcd.{gcd_with_ok}
use Rattle.euclid.specs.Turn.{Comb}
use Rattle.euclid.specs.Demand.{of_done, of_shown, of_long}

module _ (L : Level) (G : Good L) where
  module _ (k : ℕ) (a : Vec L.ring.Car k) (l : ℕ) (b : Vec L.ring.Car l) where
    abbrev IsGcd : {X : Type 0} → Made L.ring.Car X → Type 0
    IsGcd g = Gcd L.ring (pol L.ring k a) (pol L.ring l b) g

    abbrev IsComb : {X : Type 0} → Made L.ring.Car X → Type 0
    IsComb g = Comb L.ring (pol L.ring k a) (pol L.ring l b) (val L.ring g)

    -- whatever is carried
    module _ (C : Carry L.ring.Car) (x y : C.X) where
      both : Holds L.Right (λ g. IsGcd g × IsComb g) (gcd_with L C k a x l b y)
      both = gcd_with_ok L C G k a x l b y

      pub gcd_done : (g : Made L.ring.Car C.X) → gcd_with L C k a x l b y ≡ done g → IsGcd g
      gcd_done g e = (of_done L.Right (λ g. IsGcd g × IsComb g) both g e).0

      pub gcd_comb : (g : Made L.ring.Car C.X) → gcd_with L C k a x l b y ≡ done g → IsComb g
      gcd_comb g e = (of_done L.Right (λ g. IsGcd g × IsComb g) both g e).1

      pub gcd_shown : (f : L.Shown) → gcd_with L C k a x l b y ≡ shown f → L.Right f
      gcd_shown = of_shown L.Right (λ g. IsGcd g × IsComb g) both

      pub gcd_never_long : ¬ (gcd_with L C k a x l b y ≡ long)
      gcd_never_long = of_long L.Right (λ g. IsGcd g × IsComb g) both

      pub gcd_given : ((f : L.Shown) → ¬ (L.Right f)) → (g : Made L.ring.Car C.X) × (gcd_with L C k a x l b y ≡ done g) × IsGcd g
      gcd_given free =
          let t = holds_done L.Right (λ g. IsGcd g × IsComb g) (gcd_with L C k a x l b y) both free in
          (t.0, t.1, t.2.0)

-- ---- the definition's count of remainders changes no answer
module _ (L : Level) (C : Carry L.ring.Car) where
  pub start_any_count : (k n : ℕ) (v : Vec L.ring.Car n) (x : C.X) (d : ℕ) (w : Vec L.ring.Car d) (y : C.X) → d < k
      → start L C (made n v x) (made d w y) ≡ map wrap (seq L C k (suc n) (topped n v L.ring.𝟙) x d w y)
  unfolding start
  start_any_count k n v x d w y l =
      ap (map wrap) (seq_fuel L C (suc (suc (max n d))) k (suc n) (topped n v L.ring.𝟙) x d w y (omega arith) l)

-- and zero before a monic polynomial takes one
pub start_any_count_nil : (L : Level) (C : Carry L.ring.Car) (k : ℕ) (x : C.X) (d : ℕ) (w : Vec L.ring.Car d) (y : C.X) → d < k
    → start L C (nil x) (made d w y) ≡ map wrap (seq L C k 0 tt x d w y)
unfolding start
start_any_count_nil L C k x d w y l = ap (map wrap) (seq_fuel L C (suc (suc d)) k 0 tt x d w y (omega arith) l)

pub inverse_any_count : (L : Level) (d : ℕ) (m : Vec L.ring.Car d) (k e : ℕ) (w : Vec L.ring.Car e) (y : Vec L.ring.Car d) → e < d → e < k
    → on_modulus L d m e w y ≡ seq (beneath L d m) (elements L d m) k (suc d) (topped d m L.ring.𝟙) (zeroᵛ L.ring.𝟘 d) e w y
inverse_any_count L d m k e w y small l =
    seq_fuel (beneath L d m) (elements L d m) (suc (suc d)) k (suc d) (topped d m L.ring.𝟙) (zeroᵛ L.ring.𝟘 d) e w y (omega arith) l

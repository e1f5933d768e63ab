-- What the first demand is there for: "the work store still holds the last problem, warm, and the next call takes it for cold. The new kernel may not care what it
-- finds there." Two runs of a call that differ in what the work store, the answer's slot and the factor buffer held agree in the answer and in every word that
-- the call writes.
--
-- TwoRuns == of each call that is lent a work store;  two_runs == that they do. Sum and difference have neither store nor answer slot of their own
use Rattle.std.specs.Prelude.{List, ◌≡◌, ℤ, length}
use Rattle.kernel.specs.ProductMeaning.{ProductSame, product-two_runs}
use Rattle.kernel.specs.DivisionMeaning.{DivisionSame, division-two_runs}
use Rattle.kernel.specs.InverseMeaning.{InverseSame, inverse-two_runs}
use Rattle.kernel.specs.GcdMeaning.{GcdSame, gcd-two_runs}

pub record TwoRuns : Type 0 where
  pub product : (p n : ℤ) (e t a b c c' v v' : List ℤ) → length c ≡ length c' → length v ≡ length v' → ProductSame p n e t a b c c' v v'
  pub division : (p n : ℤ) (e t a b q q' v v' : List ℤ) → length q ≡ length q' → length v ≡ length v' → DivisionSame p n e t a b q q' v v'
  pub inverse : (p n : ℤ) (e t c r r' f f' v v' : List ℤ) → length r ≡ length r' → length f ≡ length f' → length v ≡ length v'
      → InverseSame p n e t c r r' f f' v v'
  pub gcd : (p n : ℤ) (e t a b g g' f f' v v' : List ℤ) → length g ≡ length g' → length f ≡ length f' → length v ≡ length v'
      → GcdSame p n e t a b g g' f f' v v'

pub two_runs : TwoRuns
two_runs = record { product = product-two_runs; division = division-two_runs; inverse = inverse-two_runs; gcd = gcd-two_runs }

-- Places in the row of coefficients of a product.
--
-- wide g             == how many coefficients a product of two polynomials of g coefficients has
-- keeps_at, loses_at == whether the k-th of them keeps old content, which g have; whether it is subtracted, as all from g on are
use Rattle.std.specs.Prelude.{ℕ, ◌+◌, ◌-◌, Bool, ◌&&◌, ltb}
use Rattle.tower.specs.Form.{implies}

abbrev pub wide : ℕ → ℕ
wide g = g + g - 1

abbrev pub keeps_at : Bool → ℕ → ℕ → Bool
keeps_at keep k g = keep && ltb k g

abbrev pub loses_at : Bool → ℕ → ℕ → Bool
loses_at neg k g = implies (ltb k g) neg

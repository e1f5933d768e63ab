-- `polynomials::slots::finish` meets its contract. Assumes nothing.
use Prim.Native.Nat.{ℕ, ◌+◌, ◌*◌}
use Rattle.polynomials.proofs.Multiplies.{finish_places, finished}
use Rattle.tower.specs.Writing.{size}
use mathlib.Core.Path.{◌≡◌, ap, ◌∙◌}
use native.Mathlib.Omega.{arith}
use Rattle.polynomials.proofs.slots.finish.Goals as goal

pub zeros-requires : goal.zeros-requires
zeros-requires c =
    let size-at = c.size_at-s in
    let es : size-at.result ≡ size c.args.d c.args.i = size-at.ensures ∙ c.requires.sized.at c.args.i c.requires.low in
    let coefficient-at = c.coefficient_at in
    record { low = c.requires.low; sized = c.requires.sized; inside = omega (arith, coefficient-at.ensures, (finish_places c.requires es).0) }

pub settle-requires : goal.settle-requires
settle-requires c =
    let size-at = c.size_at-s in
    let es : size-at.result ≡ size c.args.d c.args.i = size-at.ensures ∙ c.requires.sized.at c.args.i c.requires.low in
    let zeros = c.zeros in
    ((finish_places c.requires es).1, omega (arith, (finish_places c.requires es).2, zeros.ensures.kept.long))

pub returns : goal.returns
returns c =
    let size-at = c.size_at-s in
    let es : size-at.result ≡ size c.args.d c.args.i = size-at.ensures ∙ c.requires.sized.at c.args.i c.requires.low in
    let coefficient-at = c.coefficient_at in
    let zeros = c.zeros in
    let settle = c.settle in
    finished _ _ _ _ _ _ _ _ _ _ _ c.requires (coefficient-at.ensures ∙ ap (λ (x : ℕ). 0 + 1 + c.args.from * x) es) es zeros.ensures settle.ensures

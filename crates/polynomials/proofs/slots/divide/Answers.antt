-- `polynomials::slots::divide` meets its contract. Assumes nothing.
use Prim.Native.Nat.{ℕ, ◌-◌}
use Rattle.polynomials.proofs.Partings.{divide-row, divide-left, divide_end, divide_short}
use mathlib.Core.Path.{ap}
use native.Mathlib.Omega.{arith}
use Rattle.polynomials.proofs.slots.divide.Goals as goal

pub returns-then-cap-g : goal.returns-then-cap-g
returns-then-cap-g c =
    let count_at = c.count_at-cap in
    let count-at2 = c.count_at-g in
    let if1 = c.if-cap-g in
    let finish = c.finish in
    divide_short c.requires count_at.ensures (ap (λ (x : ℕ). x - 1) count-at2.ensures) (omega (arith, if1.true)) finish.ensures

pub divide_row-requires : goal.divide_row-requires
divide_row-requires c =
    let count_at = c.count_at-cap in
    let count-at2 = c.count_at-g in
    let if1 = c.if-cap-g in
    divide-row c.requires count_at.ensures (ap (λ (x : ℕ). x - 1) count-at2.ensures) (omega (arith, if1.false))

pub finish-requires-else-cap-g : goal.finish-requires-else-cap-g
finish-requires-else-cap-g c =
    let count_at = c.count_at-cap in
    let count-at2 = c.count_at-g in
    let if1 = c.if-cap-g in
    let row = c.divide_row in
    divide-left c.requires count_at.ensures (ap (λ (x : ℕ). x - 1) count-at2.ensures) (omega (arith, if1.false)) row.ensures

pub returns-else-cap-g : goal.returns-else-cap-g
returns-else-cap-g c =
    let count_at = c.count_at-cap in
    let count-at2 = c.count_at-g in
    let if1 = c.if-cap-g in
    let row = c.divide_row in
    let finish2 = c.finish-else-cap-g in
    let finish3 = c.finish-else-cap-g-2 in
    divide_end c.requires count_at.ensures (ap (λ (x : ℕ). x - 1) count-at2.ensures) (omega (arith, if1.false)) row.ensures finish2.ensures finish3.ensures

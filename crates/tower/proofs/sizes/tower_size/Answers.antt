use Rattle.std.proofs.Common.{rules, ◌≡◌, ◌<◌, ◌≤◌, ◌^◌, sym, ◌+◌, ◌*◌, get_or}
use native.Mathlib.Omega.{arith}
use Rattle.tower.proofs.Moduli.{tower-none, size_bound}
use Rattle.tower.specs.Writing.{size, size_suc, tower_size, tower_size_suc}
use Rattle.tower.proofs.sizes.tower_size.Goals as goal

pub over_levels-requires-clause-callable : goal.over_levels-requires-clause-callable
over_levels-requires-clause-callable c = λ i l.
    let w = c.requires in
    let m : get_or c.args.d i 0 ≤ 64 = w.small.each i (omega (arith, w.low)) in
    let b : size c.args.d i < 2 ^ 32 = size_bound c.args.d w.small i (omega (arith, w.low)) in
    search rules

pub over_levels-requires-clause-few : goal.over_levels-requires-clause-few
over_levels-requires-clause-few c = λ i r l h.
    let w = c.requires in
    let m : get_or c.args.d i 0 ≤ 64 = w.small.each i (omega (arith, w.low)) in
    let b : size c.args.d i < 2 ^ 32 = size_bound c.args.d w.small i (omega (arith, w.low)) in
    search rules

pub returns : goal.returns
returns c =
    c.over_levels.ensures.sum (tower_size c.args.d) (record {
      none = sym (tower-none c.args.d);
      more =
          λ i r l h.
          let given : r ≡ (get_or c.args.d i 0 + 1) * size c.args.d i + 1 = search rules in
          omega (arith, tower_size_suc c.args.d i, size_suc c.args.d i);
    })

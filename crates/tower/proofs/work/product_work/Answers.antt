-- `work::product_work` meets its contract: it adds up two slots a level.
use Rattle.std.proofs.Common.{rules, ◌≡◌, ◌<◌, ◌≤◌, ◌^◌, ◌*◌, ◌+◌, ◌-◌, get_or, sym, arith}
use Rattle.tower.proofs.Moduli.{size_bound}
use Rattle.tower.proofs.Working.{product-none}
use Rattle.tower.specs.Work.{room, product_work, product_work_suc}
use Rattle.tower.specs.Writing.{size}
use Rattle.tower.proofs.work.product_work.Goals as goal

pub over_levels-requires-clause-callable : goal.over_levels-requires-clause-callable
over_levels-requires-clause-callable c = λ i l.
    let w = c.requires in
    let low : 1 ≤ get_or c.args.d i 0 = w.some i l in
    let high : get_or c.args.d i 0 ≤ 64 = w.small.each i (omega (arith, w.low)) in
    let few : size c.args.d i < 2 ^ 32 = size_bound c.args.d w.small i (omega (arith, w.low)) in
    search rules

pub over_levels-requires-clause-few : goal.over_levels-requires-clause-few
over_levels-requires-clause-few c = λ i r l h.
    let w = c.requires in
    let low : 1 ≤ get_or c.args.d i 0 = w.some i l in
    let high : get_or c.args.d i 0 ≤ 64 = w.small.each i (omega (arith, w.low)) in
    let few : size c.args.d i < 2 ^ 32 = size_bound c.args.d w.small i (omega (arith, w.low)) in
    search rules

pub returns : goal.returns
returns c = c.over_levels.ensures.sum (product_work c.args.d) (record {
  none = sym (product-none c.args.d);
  more =
      λ i r l h.
      let given : r ≡ 2 * room c.args.d i (2 * get_or c.args.d i 0 - 2 + 1) = search rules in
      omega (arith, product_work_suc c.args.d i);
})

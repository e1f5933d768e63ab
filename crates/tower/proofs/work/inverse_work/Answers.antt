-- `work::inverse_work` meets its contract: it adds up five slots a level.
use Rattle.std.proofs.Common.{rules, ◌≡◌, ◌<◌, ◌≤◌, ◌^◌, ◌*◌, ◌+◌, get_or, sym, arith}
use Rattle.tower.proofs.Moduli.{size_bound}
use Rattle.tower.proofs.Working.{inverse-none}
use Rattle.tower.specs.Work.{room, inverse_work, inverse_work_suc}
use Rattle.tower.specs.Writing.{size}
use Rattle.tower.proofs.work.inverse_work.Goals as goal

pub over_levels-requires-clause-callable : goal.over_levels-requires-clause-callable
over_levels-requires-clause-callable c = λ i l.
    let w = c.requires in
    let low : 1 ≤ get_or c.args.d i 0 = w.some i l in
    let high : get_or c.args.d i 0 ≤ 64 = w.small.each i (omega (arith, w.low)) in
    let few : size c.args.d i < 2 ^ 32 = size_bound c.args.d w.small i (omega (arith, w.low)) in
    search rules

pub over_levels-requires-clause-few : goal.over_levels-requires-clause-few
over_levels-requires-clause-few c = λ i r l h.
    let w = c.requires in
    let low : 1 ≤ get_or c.args.d i 0 = w.some i l in
    let high : get_or c.args.d i 0 ≤ 64 = w.small.each i (omega (arith, w.low)) in
    let few : size c.args.d i < 2 ^ 32 = size_bound c.args.d w.small i (omega (arith, w.low)) in
    search rules

pub returns : goal.returns
returns c = (
  c.over_levels.ensures.sum (inverse_work c.args.d) (record {
    none = sym (inverse-none c.args.d);
    more =
        λ i r l h.
        let given : r ≡ 5 * room c.args.d i (get_or c.args.d i 0 + 1) = search rules in
        omega (arith, inverse_work_suc c.args.d i);
  }),
  omega (arith, c.over_levels.ensures.few, c.requires.low),
)

-- `arithmetic::walk::window_at` meets its contract. Assumes nothing.
use Rattle.std.proofs.Common.{sym, arith}
use Rattle.arithmetic.specs.Box.{window-above}
use Rattle.arithmetic.proofs.Boxes.{window-place, window-start, window-is}
use Rattle.arithmetic.proofs.walk.window_at.Goals as goal

pub returns-then-i-l : goal.returns-then-i-l
returns-then-i-l c = sym (window-above c.args.d c.args.m c.args.i c.args.l c.if-i-l.true)

pub first_of-f-requires : goal.first_of-f-requires
first_of-f-requires c =
    (window-place c.requires.1 c.requires.2 (omega (arith, c.if-i-l.false)) c.degree_at-g.ensures c.place_at-k.ensures c.size_at-u.ensures).1

pub span_of-c-requires : goal.span_of-c-requires
span_of-c-requires c =
    window-place c.requires.1 c.requires.2 (omega (arith, c.if-i-l.false)) c.degree_at-g.ensures c.place_at-k.ensures c.size_at-u.ensures

pub overflow_mul-result : goal.overflow_mul-result
overflow_mul-result c =
    let start = window-start c.requires.1 c.requires.2 (omega (arith, c.if-i-l.false)) c.degree_at-g.ensures c.place_at-k.ensures c.size_at-u.ensures
    c.first_of-f.ensures in
    omega (arith, start)

pub overflow_add-result : goal.overflow_add-result
overflow_add-result c =
    let start = window-start c.requires.1 c.requires.2 (omega (arith, c.if-i-l.false)) c.degree_at-g.ensures c.place_at-k.ensures c.size_at-u.ensures
    c.first_of-f.ensures in
    omega (arith, start)

pub returns : goal.returns
returns c =
    window-is c.requires.1 c.requires.2 (omega (arith, c.if-i-l.false)) c.degree_at-g.ensures c.place_at-k.ensures c.size_at-u.ensures
    c.first_of-f.ensures c.span_of-c.ensures

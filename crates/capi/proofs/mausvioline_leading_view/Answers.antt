use Rattle.capi.proofs.Viewed.{view-none, view-ready, view_b, view_a}
use Rattle.kernel.proofs.Viewing.{leading-plain}
use Rattle.capi.proofs.mausvioline_leading_view.Goals as goal

pub returns-then-s-eq0 : goal.returns-then-s-eq0
returns-then-s-eq0 c =
    let x = c.args in
    let shown = leading-plain x.degrees.now x.tower.now x.a.now x.b.now _ c.ranges.p c.ranges.n c.leading_view-view.ensures.shown in
    record {
      coded = view-none shown c.if-s-eq0.true;
    }

pub count_at-k-requires : goal.count_at-k-requires
count_at-k-requires c =
    let x = c.args in
    let shown = leading-plain x.degrees.now x.tower.now x.a.now x.b.now _ c.ranges.p c.ranges.n c.leading_view-view.ensures.shown in
    (view-ready shown c.if-s-eq0.false).0

pub count_at-l-requires : goal.count_at-l-requires
count_at-l-requires c =
    let x = c.args in
    let shown = leading-plain x.degrees.now x.tower.now x.a.now x.b.now _ c.ranges.p c.ranges.n c.leading_view-view.ensures.shown in
    (view-ready shown c.if-s-eq0.false).1

pub returns-then-k-l : goal.returns-then-k-l
returns-then-k-l c =
    let x = c.args in
    let shown = leading-plain x.degrees.now x.tower.now x.a.now x.b.now _ c.ranges.p c.ranges.n c.leading_view-view.ensures.shown in
    record {
      coded = view_b shown c.if-s-eq0.false
          c.count_at-k.result c.count_at-l.result c.count_at-k.ensures c.count_at-l.ensures c.if-k-l.true _ c.coefficient_at.ensures;
    }

pub returns : goal.returns
returns c =
    let x = c.args in
    let shown = leading-plain x.degrees.now x.tower.now x.a.now x.b.now _ c.ranges.p c.ranges.n c.leading_view-view.ensures.shown in
    record {
      coded = view_a shown c.if-s-eq0.false
          c.count_at-k.result c.count_at-l.result c.count_at-k.ensures c.count_at-l.ensures c.if-k-l.false _ c.coefficient_at-2.ensures;
    }

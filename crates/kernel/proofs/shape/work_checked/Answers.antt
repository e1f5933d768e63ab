use Rattle.kernel.proofs.Told.{back, handed_on, told}
use Rattle.kernel.proofs.Working.{work-first, work_bad_a, work_bad_b, work_fine}
use Rattle.kernel.specs.Answers.{number_of}
use Rattle.kernel.specs.Calls.{shape_number}
use Rattle.kernel.specs.Shape.{ShapeOf}
use Rattle.tower.specs.Limits.{work_degree}
use mathlib.Core.Path.{◌≡◌}
use Rattle.kernel.proofs.shape.work_checked.Goals as goal
use Rattle.kernel.proofs.shape.work_checked.Goals.{then-not-work_degree-via-then-not-work_degree, then-not-work_degree-via-else-not-work_degree+then-not-work_degree-2}

pub returns-in_err-s : goal.returns-in_err-s
returns-in_err-s c =
    let x = c.args in
    handed_on _ _ _ _ _ c.from_residual.ensures.1 (work-first x.n x.e x.a x.b _ (back (λ n. shape_number n x.e ≡ number_of c.in_err-s.field-0.0) c.ranges.n c.in_err-s.ensures))

pub returns-then-not-work_degree : goal.returns-then-not-work_degree
returns-then-not-work_degree c =
    let x = c.args in
    let h : shape_number x.n x.e ≡ 0 = back (λ n. shape_number n x.e ≡ 0) c.ranges.n c.in_ok-s.ensures.0 in
    elim c.then-not-work_degree.branch [
      | then-not-work_degree-via-then-not-work_degree w ↦ work_bad_a x.n x.e x.a x.b h (told work_degree c.ranges.a c.work_degree.ensures w.if-not-work_degree.true)
      | then-not-work_degree-via-else-not-work_degree+then-not-work_degree-2 w ↦
          work_bad_b x.n x.e x.a x.b h (told work_degree c.ranges.b w.work_degree-else-not-work_degree.ensures w.if-not-work_degree-2.true)
    ]

pub returns : goal.returns
returns c =
    let x = c.args in
    let ok : (shape_number x.n x.e ≡ 0) × ShapeOf x.n x.e c.in_ok-s.s = back (λ n. (shape_number n x.e ≡ 0) × ShapeOf n x.e c.in_ok-s.s) c.ranges.n c.in_ok-s.ensures in (
      work_fine x.n x.e x.a x.b ok.0 (told work_degree c.ranges.a c.work_degree.ensures c.if-not-work_degree.false)
          (told work_degree c.ranges.b c.work_degree-else-not-work_degree.ensures c.if-not-work_degree-2.false),
      ok.1,
    )

use Prim.Native.Nat.{◌+◌, ◌-◌, ◌*◌, ℕ}
use Rattle.tower.proofs.Laws.{row as row_fits}
use Rattle.tower.proofs.Rows.{bad_degree, finish, bad_element, bad_place, next, element-low, element-up, size_down}
use Rattle.tower.specs.Writing.{size, size-pos}
use lib.ListN.{get_or}
use mathlib.Core.Path.{◌≡◌, sym, ap, ◌∙◌}
use native.Mathlib.Omega.{arith}
use Rattle.tower.proofs.form.+element_row.Goals as goal

pub element-residue-requires : goal.element-residue-requires
element-residue-requires t c = let h = c.requires in omega (arith, h.inside, size-pos c.args.d c.args.i)

pub element-returns-then-i-eq0 : goal.element-returns-then-i-eq0
element-returns-then-i-eq0 t c =
    let if1 = c.if-i-eq0 in
    let residue = c.residue in
    let h = c.requires in
    element-low c.args.p c.args.d c.args.x.now c.args.a c.args.i if1.true h.inside residue.result residue.ensures

pub element-row-requires : goal.element-row-requires
element-row-requires t c =
    let if1 = c.if-i-eq0 in
    let degree-at = c.degree_at in
    let h = c.requires in
    let e = size_down c.args.d c.args.i if1.false in
    let m : degree-at.result * size c.args.d (c.args.i - 1) ≡ get_or c.args.d (c.args.i - 1) 0 * size c.args.d (c.args.i - 1) = ap (λ (x : ℕ). x * size c.args.d (c.args.i - 1)) degree-at.ensures in
    (omega (arith, c.decreases), record { low = omega (arith, h.low); sized = h.sized; inside = omega (arith, h.inside, e, m) })

pub element-returns-else-i-eq0 : goal.element-returns-else-i-eq0
element-returns-else-i-eq0 t c =
    let if1 = c.if-i-eq0 in
    let degree-at = c.degree_at in
    let row = c.row in
    let h = c.requires in
    element-up c.args.p c.args.d c.args.x.now c.args.a c.args.i if1.false degree-at.result degree-at.ensures
    row.result row.ensures

pub row-returns-then-not-degree_ok : goal.row-returns-then-not-degree_ok
row-returns-then-not-degree_ok t c =
    let degree-ok = c.degree_ok in
    let if1 = c.if-not-degree_ok in
    let h = c.requires in
    bad_degree c.args.p c.args.d c.args.i c.args.n c.args.x.now c.args.a h.inside (sym degree-ok.ensures ∙ if1.true)

pub row-returns-then-not-element : goal.row-returns-then-not-element
row-returns-then-not-element t c =
    let degree-ok = c.degree_ok in
    let if1 = c.if-not-degree_ok in
    let count_at = c.count_at-c in
    let size-at = c.size_at-s in
    let loop = c.loop-k in
    let loop-test = c.loop-k-test in
    let coefficient-at = c.coefficient_at-b in
    let element = c.element in
    let if2 = c.if-not-element in
    let h = c.requires in
    let es : size-at.result ≡ size c.args.d c.args.i = size-at.ensures ∙ h.sized.at c.args.i h.low in
    let k = loop.k in
    let q = row_fits k c.args.n (size c.args.d c.args.i) loop-test.true in
    let ek : k * size-at.result ≡ k * size c.args.d c.args.i = ap (λ (m : ℕ). k * m) es in
    bad_element c.args.p c.args.d c.args.i c.args.n c.args.x.now c.args.a h.inside
    (sym degree-ok.ensures ∙ if1.false) k coefficient-at.result count_at.result loop-test.true
    (coefficient-at.ensures ∙ ap (λ (m : ℕ). c.args.a + 1 + m) ek) count_at.ensures element.result element.ensures if2.true

pub row-is_zero-requires : goal.row-is_zero-requires
row-is_zero-requires t c =
    let size-at = c.size_at-s in
    let loop = c.loop-k in
    let loop-test = c.loop-k-test in
    let coefficient-at = c.coefficient_at-b in
    let h = c.requires in
    let es : size-at.result ≡ size c.args.d c.args.i = size-at.ensures ∙ h.sized.at c.args.i h.low in
    let k = loop.k in
    let q = row_fits k c.args.n (size c.args.d c.args.i) loop-test.true in
    let ek : k * size-at.result ≡ k * size c.args.d c.args.i = ap (λ (m : ℕ). k * m) es in
    omega (arith, h.inside, q, ek, coefficient-at.ensures, size-pos c.args.d c.args.i)

pub row-returns-then-not-fits_degree : goal.row-returns-then-not-fits_degree
row-returns-then-not-fits_degree t c =
    let degree-ok = c.degree_ok in
    let if1 = c.if-not-degree_ok in
    let count_at = c.count_at-c in
    let size-at = c.size_at-s in
    let loop = c.loop-k in
    let loop-test = c.loop-k-test in
    let coefficient-at = c.coefficient_at-b in
    let is_zero = c.is_zero in
    let fits-degree = c.fits_degree in
    let if3 = c.if-not-fits_degree in
    let h = c.requires in
    let es : size-at.result ≡ size c.args.d c.args.i = size-at.ensures ∙ h.sized.at c.args.i h.low in
    let k = loop.k in
    let q = row_fits k c.args.n (size c.args.d c.args.i) loop-test.true in
    let ek : k * size-at.result ≡ k * size c.args.d c.args.i = ap (λ (m : ℕ). k * m) es in
    bad_place c.args.p c.args.d c.args.i c.args.n c.args.x.now c.args.a h.inside
    (sym degree-ok.ensures ∙ if1.false) k coefficient-at.result count_at.result loop-test.true
    (coefficient-at.ensures ∙ ap (λ (m : ℕ). c.args.a + 1 + m) ek) count_at.ensures (size-pos c.args.d c.args.i) is_zero.result
    is_zero.ensures fits-degree.result fits-degree.ensures if3.true

pub row-loop-k-preserved : goal.row-loop-k-preserved
row-loop-k-preserved t c =
    let degree-ok = c.degree_ok in
    let if1 = c.if-not-degree_ok in
    let count_at = c.count_at-c in
    let size-at = c.size_at-s in
    let loop = c.loop-k in
    let loop-test = c.loop-k-test in
    let coefficient-at = c.coefficient_at-b in
    let element = c.element in
    let if2 = c.if-not-element in
    let is_zero = c.is_zero in
    let fits-degree = c.fits_degree in
    let if3 = c.if-not-fits_degree in
    let h = c.requires in
    let es : size-at.result ≡ size c.args.d c.args.i = size-at.ensures ∙ h.sized.at c.args.i h.low in
    let k = loop.k in
    let q = row_fits k c.args.n (size c.args.d c.args.i) loop-test.true in
    let ek : k * size-at.result ≡ k * size c.args.d c.args.i = ap (λ (m : ℕ). k * m) es in
    next
    c.args.p
    c.args.d
    c.args.i
    c.args.n
    c.args.x.now
    c.args.a
    h.inside
    (sym degree-ok.ensures ∙ if1.false)
    k
    coefficient-at.result
    count_at.result
    loop-test.true
    (coefficient-at.ensures ∙ ap (λ (m : ℕ). c.args.a + 1 + m) ek)
    count_at.ensures
    (size-pos c.args.d c.args.i)
    is_zero.result
    is_zero.ensures
    element.result
    fits-degree.result
    element.ensures
    if2.false
    fits-degree.ensures
    if3.false
    loop.invariant

pub row-returns : goal.row-returns
row-returns t c =
    let degree-ok = c.degree_ok in
    let if1 = c.if-not-degree_ok in
    let loop = c.loop-k in
    let h = c.requires in
    let e : loop.k ≡ c.args.n = omega arith in
    finish c.args.p c.args.d c.args.i c.args.n c.args.x.now c.args.a h.inside
    (sym degree-ok.ensures ∙ if1.false) (rw e at loop.invariant)

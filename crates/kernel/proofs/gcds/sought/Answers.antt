use Rattle.kernel.proofs.Finding.{slots_some, few_words, a_inside, b_inside, find_ready, sought_done}
use native.Mathlib.Omega.{arith}
use Rattle.kernel.proofs.gcds.sought.Goals as goal

pub count_at-ca-requires : goal.count_at-ca-requires
count_at-ca-requires c = (slots_some _ _ _ _ _ _ _ _ _ c.requires.1.passed).0

pub count_at-cb-requires : goal.count_at-cb-requires
count_at-cb-requires c = (slots_some _ _ _ _ _ _ _ _ _ c.requires.1.passed).1

pub coefficient_at-row-requires : goal.coefficient_at-row-requires
coefficient_at-row-requires c =
    let few = few_words _ _ _ _ _ _ _ _ _ c.requires.1.passed _ c.requires.0 _ _ c.count_at-ca.ensures c.count_at-cb.ensures in
    omega (arith, few.0)

pub overflow_add-row : goal.overflow_add-row
overflow_add-row c =
    let few = few_words _ _ _ _ _ _ _ _ _ c.requires.1.passed _ c.requires.0 _ _ c.count_at-ca.ensures c.count_at-cb.ensures in
    omega (arith, few.0, c.coefficient_at-row.ensures)

pub coefficient_at-unit-requires : goal.coefficient_at-unit-requires
coefficient_at-unit-requires c =
    let few = few_words _ _ _ _ _ _ _ _ _ c.requires.1.passed _ c.requires.0 _ _ c.count_at-ca.ensures c.count_at-cb.ensures in
    omega (arith, few.0, few.1, c.coefficient_at-row.ensures)

pub copy_in-requires : goal.copy_in-requires
copy_in-requires c =
    a_inside _ _ _ _ _ _ _ _ _ c.requires.1.passed _ c.requires.0 _ _ c.count_at-ca.ensures c.count_at-cb.ensures
    _ c.coefficient_at-row.ensures _ c.coefficient_at-unit.ensures

pub copy_in-requires-2 : goal.copy_in-requires-2
copy_in-requires-2 c =
    b_inside _ _ _ _ _ _ _ _ _ c.requires.1.passed _ c.requires.0 _ _ c.count_at-ca.ensures c.count_at-cb.ensures
    _ c.coefficient_at-row.ensures _ c.coefficient_at-unit.ensures _ c.copy_in.ensures

pub overflow_add-y : goal.overflow_add-y
overflow_add-y c =
    let few = few_words _ _ _ _ _ _ _ _ _ c.requires.1.passed _ c.requires.0 _ _ c.count_at-ca.ensures c.count_at-cb.ensures in
    omega (arith, few.0, few.1, c.coefficient_at-row.ensures, c.coefficient_at-unit.ensures, c.requires.0.known.few)

pub overflow_add-top : goal.overflow_add-top
overflow_add-top c =
    let few = few_words _ _ _ _ _ _ _ _ _ c.requires.1.passed _ c.requires.0 _ _ c.count_at-ca.ensures c.count_at-cb.ensures in
    omega (arith, few.0, few.1, c.coefficient_at-row.ensures, c.coefficient_at-unit.ensures, c.requires.0.known.few)

pub gcd-requires : goal.gcd-requires
gcd-requires c =
    find_ready _ _ _ _ _ _ _ _ _ c.requires.1.passed _ c.requires.0 _ _ c.count_at-ca.ensures c.count_at-cb.ensures
    _ c.coefficient_at-row.ensures _ c.coefficient_at-unit.ensures _ c.copy_in.ensures _ c.copy_in-2.ensures _ c.modulus-p.ensures

pub returns : goal.returns
returns c =
    sought_done _ _ _ _ _ _ _ _ _ c.requires.1.passed _ c.requires.0 _ _ c.count_at-ca.ensures c.count_at-cb.ensures
    _ c.coefficient_at-row.ensures _ c.coefficient_at-unit.ensures _ c.copy_in.ensures _ c.copy_in-2.ensures _ c.modulus-p.ensures _ c.gcd.result c.gcd.ensures

use Rattle.text.proofs.Numerals.{too_few_or_many, none_read, other, under, one_more, all_read}
use borrow.Author.Rules.{rules}
use native.Mathlib.Omega.{arith}
use Rattle.text.proofs.numbers.value.Goals as goal
use Rattle.text.proofs.numbers.value.Goals.{then-is_empty-via-then-is_empty, then-is_empty-via-else-is_empty+then-most-digits}
use mathlib.Core.Logic.{inl, inr}

pub returns-then-is_empty : goal.returns-then-is_empty
returns-then-is_empty c =
    elim c.then-is_empty.branch [
      | then-is_empty-via-then-is_empty w ↦ too_few_or_many _ _ (inl (search rules))
      | then-is_empty-via-else-is_empty+then-most-digits w ↦ too_few_or_many _ _ (inr (search rules))
    ]

pub loop-b-init : goal.loop-b-init
loop-b-init c = none_read _ _ (λ e. search rules) (search rules)

pub returns-then-not-is_ascii_digit : goal.returns-then-not-is_ascii_digit
returns-then-not-is_ascii_digit c = other c.loop-b.invariant (search rules) (search rules)

pub overflow_mul-sum : goal.overflow_mul-sum
overflow_mul-sum c = record { fits = omega (arith, under (search rules) c.loop-b.invariant (search rules)) }

pub overflow_add-sum : goal.overflow_add-sum
overflow_add-sum c = record { fits = omega (arith, under (search rules) c.loop-b.invariant (search rules)) }

pub loop-b-preserved : goal.loop-b-preserved
loop-b-preserved c = one_more _ c.loop-b.invariant (search rules) (search rules) (search rules) (search rules)

pub returns : goal.returns
returns c = all_read c.loop-b.invariant (search rules)

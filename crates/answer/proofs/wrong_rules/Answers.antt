use Rattle.std.proofs.Common.{arith}
use Rattle.answer.proofs.Tells.{rules_within}
use Rattle.answer.proofs.wrong_rules.Goals as goal

pub overflow_add-result : goal.overflow_add-result
overflow_add-result c = omega (arith, c.head_size.ensures 2, rules_within c.args.bytes.now c.in_ok-rules.rules.now c.in_ok-rules.ensures.0)

pub overflow_add-result-in-Err-Wrong : goal.overflow_add-result-in-Err-Wrong
overflow_add-result-in-Err-Wrong c =
    let told = rw c.in-Err-Wrong.field-0-is at c.in-Err-Wrong.ensures in
    let p = told.1.0.within in
    omega (arith, c.head_size.ensures 2, rules_within c.args.bytes.now c.in_ok-rules.rules.now c.in_ok-rules.ensures.0)

pub returns-in-Err-Wrong : goal.returns-in-Err-Wrong
returns-in-Err-Wrong c =
    let told = rw c.in-Err-Wrong.field-0-is at c.in-Err-Wrong.ensures in
    (c.in_ok-rules.rules.now, c.in_ok-rules.ensures.0, (c.in-Err-Wrong.place, told.1, omega (arith, c.head_size.ensures 2)))

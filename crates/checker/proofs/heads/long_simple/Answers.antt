use Rattle.std.proofs.Common.{◌+◌, inl, inr, arith}
use Rattle.checker.proofs.Steps.{typed}
use Rattle.checker.proofs.Openings.{simple_cut, simple_wrong, simple_told}
use Rattle.checker.proofs.heads.long_simple.Goals as goal
use Rattle.checker.proofs.heads.long_simple.Goals.{then-value-lt32-via-then-value-lt32, then-value-lt32-via-else-value-lt32+then-from-demand}

pub returns-in_default-clause-told : goal.returns-in_default-clause-told
returns-in_default-clause-told c = λ d may. simple_cut c.args.bytes.now c.args.at d c.args.demand (typed c.args.bytes.now c.type_inv.bytes) c.requires.at_in_bounds c.requires.at_value may c.in_default.ensures.lookup.3

pub returns-then-value-lt32-clause-told : goal.returns-then-value-lt32-clause-told
returns-then-value-lt32-clause-told c = λ d may.
    let (inside, byte) = c.in-Some.ensures.lookup.3 in
    let is = byte 0 in
    simple_wrong c.args.bytes.now c.args.at d c.args.demand (typed c.args.bytes.now c.type_inv.bytes) c.requires.at_in_bounds c.requires.at_value may inside
    (elim c.then-value-lt32.branch [
      | then-value-lt32-via-then-value-lt32 w ↦ inl (let z = w.if-value-lt32.true in omega arith)
      | then-value-lt32-via-else-value-lt32+then-from-demand w ↦ inr (let z = w.from.ensures in let y = w.if-from-demand.true in omega arith)
    ])

pub returns-clause-told : goal.returns-clause-told
returns-clause-told c = λ d may.
    let (inside, byte) = c.in-Some.ensures.lookup.3 in
    let is = byte 0 in
    simple_told c.args.bytes.now c.args.at d c.args.demand (typed c.args.bytes.now c.type_inv.bytes) c.requires.at_in_bounds c.requires.at_value may inside c.from-2.result (omega arith) (omega (arith, c.type_inv.bytes (c.args.at + 1))) (omega arith) (omega arith)

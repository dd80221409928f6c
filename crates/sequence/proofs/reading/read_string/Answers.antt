use Rattle.std.proofs.Common.{arith}
use Rattle.std.proofs.lemmas.Result.{err_from_is_err_and}
use Rattle.cbor.proofs.Numbers.{bytes_typed}
use Rattle.sequence.proofs.Tokens.{no_string, cut_string, string_there}
use Rattle.sequence.proofs.reading.read_string.Goals as goal

pub returns-in_err-head : goal.returns-in_err-head
returns-in_err-head c =
    let p = err_from_is_err_and c.from_residual.result c.from_residual.ensures.1 in
    let s = c.in_err-head.field-0.0 in
    rw (p.1, p.2) (no_string c.args.bytes.now c.args.at s.place s.least c.in_err-head.ensures)

pub returns-in_default : goal.returns-in_default
returns-in_default c = cut_string c.args.bytes.now c.args.at c.in_ok-head.head.next c.in_ok-head.head.argument c.saturating_add.result (bytes_typed c.args.bytes.now (λ i. omega (arith, c.type_inv.bytes i))) c.in_ok-head.ensures.0 c.in_default.ensures (omega (arith, c.saturating_add.ensures))

pub returns : goal.returns
returns c = string_there c.args.bytes.now c.args.at c.in_ok-head.head.next c.in_ok-head.head.argument c.in-Some.next (bytes_typed c.args.bytes.now (λ i. omega (arith, c.type_inv.bytes i))) c.in_ok-head.ensures.0 c.in_ok-head.ensures.1 c.in-Some.ensures.0 c.in-Some.ensures.1

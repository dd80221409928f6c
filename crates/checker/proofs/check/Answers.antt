use Rattle.std.proofs.Common.{◌≡◌, length, arith}
use Rattle.checker.proofs.Steps.{typed}
use Rattle.checker.proofs.Verdicts.{is_item, is_past, is_stop}
use Rattle.checker.proofs.check.Goals as goal

pub invariant_of-input-clause-below_256 : goal.invariant_of-input-clause-below_256
invariant_of-input-clause-below_256 c = typed c.args.bytes.now c.type_inv.bytes

pub returns-in-Ok : goal.returns-in-Ok
returns-in-Ok c =
    let deep : 32 ≡ length c.as_chunks_mut-frames.result.0.now = omega (arith, c.as_chunks_mut-frames.ensures.front_len, c.in-Some.ensures.lookup) in
    (omega (arith, c.in-Some.ensures.lookup), omega arith, is_past c.args.bytes.now (typed c.args.bytes.now c.type_inv.bytes) (omega arith) c.in-Ok.end (rw deep c.in-Ok.ensures) (omega arith))

pub returns-in-Ok-2 : goal.returns-in-Ok-2
returns-in-Ok-2 c =
    let e : c.in-Ok.end ≡ c.in-Ok-2.field-0 = (let p = c.in-Ok.is in let q = c.in-Ok-2.is in cc) in
    let deep : 32 ≡ length c.as_chunks_mut-frames.result.0.now = omega (arith, c.as_chunks_mut-frames.ensures.front_len, c.in-Some.ensures.lookup) in
    (omega (arith, c.in-Some.ensures.lookup), omega arith, is_item c.args.bytes.now (typed c.args.bytes.now c.type_inv.bytes) (omega arith) c.in-Ok-2.field-0 (rw deep c.in-Ok-2.ensures) (omega arith))

pub returns-in-Err : goal.returns-in-Err
returns-in-Err c =
    let deep : 32 ≡ length c.as_chunks_mut-frames.result.0.now = omega (arith, c.as_chunks_mut-frames.ensures.front_len, c.in-Some.ensures.lookup) in
    (omega (arith, c.in-Some.ensures.lookup), omega arith, rw c.into.ensures (is_stop c.args.bytes.now (typed c.args.bytes.now c.type_inv.bytes) (omega arith) c.in-Err.stop (rw deep c.in-Err.ensures)))

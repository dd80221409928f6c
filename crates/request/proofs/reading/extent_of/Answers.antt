use Rattle.std.proofs.Common.{◌≡◌, ◌-◌, length, take, sym, ap, ◌∙◌, arith}
use Rattle.cbor.proofs.Places.{part_length}
use Rattle.request.specs.Asked.{write}
use Rattle.request.proofs.Places.{request_some}
use Rattle.request.proofs.reading.extent_of.Goals as goal

pub returns-in-Ok : goal.returns-in-Ok
returns-in-Ok c =
    let (a, m, (e, w), l) = c.in-Ok.ensures.right in
    let n = c.in-Ok.request.next in
    let k : n - 0 ≡ n = omega arith in
    let z : n ≡ length (write a) = sym k ∙ sym (part_length c.args.bytes.now 0 n (omega arith) l) ∙ ap (λ j. length (take j c.args.bytes.now)) k ∙ ap length e in
    (omega (arith, request_some a), l, (a, (e, w)))

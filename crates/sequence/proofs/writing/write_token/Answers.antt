use Rattle.std.proofs.Common.{length, sym, ap, subst, arith}
use Rattle.cbor.specs.Encoding.{head}
use Rattle.cbor.specs.Writing.{Writes}
use Rattle.cbor.proofs.Writes.{writes_then}
use Rattle.sequence.specs.Token.{token_bytes}
use Rattle.sequence.specs.Writing.{token_of}
use Rattle.sequence.proofs.writing.write_token.Goals as goal

pub returns-in_ok-next-in-Bytes : goal.returns-in_ok-next-in-Bytes
returns-in_ok-next-in-Bytes c =
    let bs = c.in-Bytes.content.now in
    let e = ap (λ t. length (token_bytes (token_of t))) c.in-Bytes.is in
    subst (λ t. Writes c.args.out.now c.args.at (token_bytes (token_of t)) c.write_bytes.new.out c.write_bytes.result) (sym c.in-Bytes.is)
    (writes_then c.args.out.now c.write_head-in-Bytes.new.out c.write_bytes.new.out (head 2 (length bs)) bs c.args.at c.in_ok-next-in-Bytes.next c.write_bytes.result (omega (arith, c.in_ok-size-in-Bytes.ensures, e)) c.in_ok-next-in-Bytes.ensures c.write_bytes.ensures)

use Rattle.std.proofs.Common.{length, sym, arith}
use Rattle.std.proofs.lemmas.Bool.{ltb-false}
use Rattle.sequence.proofs.Tokens.{no_opcode}
use Rattle.sequence.proofs.reading.read_opcode.Goals as goal

pub returns-in_default : goal.returns-in_default
returns-in_default c = no_opcode c.args.last c.args.bytes.now c.args.at (λ h k l. omega (arith, c.in-Some.ensures.lookup.3.1 0))

pub returns-in_default-2 : goal.returns-in_default-2
returns-in_default-2 c =
    let n = rw c.in_default.is at c.get.ensures.lookup.0 in
    no_opcode c.args.last c.args.bytes.now c.args.at (λ h k l. omega (arith, ltb-false c.args.at (length c.args.bytes.now) (sym n)))

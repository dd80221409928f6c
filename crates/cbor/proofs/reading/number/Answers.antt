use Rattle.std.proofs.Common.{◌∙◌, arith}
use Rattle.cbor.proofs.Numbers.{number_in_1, number_in_2, number_in_4, number_in_8}
use Rattle.cbor.proofs.reading.number.Goals as goal

pub returns-in-1 : goal.returns-in-1
returns-in-1 c = c.from.ensures ∙ number_in_1 c.args.bytes.now (omega arith)

pub returns-in-2 : goal.returns-in-2
returns-in-2 c = c.from-in-2.ensures ∙ c.from_be_bytes.ensures ∙ number_in_2 c.args.bytes.now (omega arith)

pub returns-in-4 : goal.returns-in-4
returns-in-4 c = c.from-in-4.ensures ∙ c.from_be_bytes-in-4.ensures ∙ number_in_4 c.args.bytes.now (omega arith)

pub returns-in_default : goal.returns-in_default
returns-in_default c = c.from_be_bytes-in_default.ensures ∙ number_in_8 c.args.bytes.now (omega arith)

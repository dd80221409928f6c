use Rattle.sequence.proofs.Tokens.{number_from}
use Rattle.sequence.proofs.reading.read_number.Goals as goal

pub returns : goal.returns
returns c = number_from c.args.bytes.now c.args.at c.read_head.result c.read_head.ensures

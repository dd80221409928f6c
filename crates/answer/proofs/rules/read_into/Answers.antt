use Rattle.std.proofs.Common.{arith}
use Rattle.schema.proofs.Progresses.{told_at}
use Rattle.answer.proofs.rules.read_into.Goals as goal

pub returns : goal.returns
returns c = (c.read_rules.new.table, told_at _ c.args.rules.now c.read_rules.new.table c.read_rules.result (omega arith, omega arith) c.read_rules.ensures.told)

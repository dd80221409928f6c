use Rattle.std.proofs.Common.{sym, arith}
use Rattle.reach.proofs.Parts.{no_head_up, head_up}
use Rattle.reach.proofs.head_reach.Goals as goal

pub returns-in_default : goal.returns-in_default
returns-in_default c = (sym (no_head_up _ c.in_default.ensures.cases), omega arith)

pub returns : goal.returns
returns c = head_up _ _ _ _ _ _ c.in-Some.ensures.cases.0 c.from.ensures c.last_up.ensures c.join.ensures

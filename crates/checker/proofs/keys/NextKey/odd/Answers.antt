use Rattle.checker.proofs.Entries.{odd_with_none, odd_with_some}
use Rattle.checker.proofs.keys.NextKey.odd.Goals as goal

pub returns-in_err-index : goal.returns-in_err-index
returns-in_err-index c = rw c.from_residual-in_err-index.ensures (odd_with_none c.args.self.bytes.now c.args.self.depth c.args.self.last c.args.self.at c.in_ok-start.field-0 c.in_ok-start.was c.in_ok-reach.field-0 c.in_ok-reach.ensures c.in_err-index.ensures)

pub returns : goal.returns
returns c = odd_with_some c.args.self.bytes.now c.args.self.depth c.args.self.last c.args.self.at c.in_ok-start.field-0 c.in_ok-start.was c.in_ok-reach.field-0 c.in_ok-reach.ensures c.in_ok-index.index c.in_ok-index.ensures

use Rattle.std.proofs.Common.{Some, None, arith}
use Rattle.checker.proofs.Entries.{misplaced_by}
use Rattle.checker.proofs.keys.NextKey.misplaced.Goals as goal

pub returns-in-Some : goal.returns-in-Some
returns-in-Some c = misplaced_by c.args.self.bytes.now c.args.self.depth c.args.self.last c.args.self.at (Some c.in-Some.odd) _ (omega arith) c.in-Some.ensures

pub returns-in-None : goal.returns-in-None
returns-in-None c = misplaced_by c.args.self.bytes.now c.args.self.depth c.args.self.last c.args.self.at None _ (omega arith) c.in-None.ensures

use Rattle.std.proofs.Common.{◌≡◌, ◌≤◌}
use Rattle.schema.specs.Stacks.{pending}
use Rattle.schema.proofs.stack.Stack.pop.Given as goal

abbrev pub invariant-loop-top : goal.invariant-loop-top
invariant-loop-top l = record {
  runs : l.self.runs.now ≡ l.fn.self.runs.now;
  depth : l.self.depth ≤ l.fn.self.depth;
  same : pending l.self.runs.now l.self.depth ≡ pending l.fn.self.runs.now l.fn.self.depth;
}

abbrev pub decreases-loop-top : goal.decreases-loop-top
decreases-loop-top l = l.self.depth

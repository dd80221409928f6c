use Rattle.std.proofs.Common.{◌≡◌, ◌+◌, ◌-◌, ◌≤◌, length}
use Rattle.schema.specs.Stacks.{pending}
use Rattle.schema.specs.Verdict.{Stands}
use Rattle.schema.proofs.reading.read_all.Given as goal

abbrev pub invariant-loop-sort : goal.invariant-loop-sort
invariant-loop-sort l = record {
  stands : Stands l.reader (pending l.stack.runs.now l.stack.depth);
  deep : l.stack.depth ≤ l.reader.parts + 1;
  room : length l.reader.table.now ≡ 32768;
  bytes : l.reader.bytes.now ≡ l.bytes;
  table : l.reader.table.ghost_name ≡ l.initial.reader.table.ghost_name;
}

abbrev pub decreases-loop-sort : goal.decreases-loop-sort
decreases-loop-sort l = length l.bytes - l.reader.at

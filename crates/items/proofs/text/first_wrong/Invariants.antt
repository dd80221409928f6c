use Rattle.std.proofs.Common.{◌-◌, ◌≤◌, []}
use Rattle.items.specs.Text.{Runs, part}
use Rattle.items.proofs.text.first_wrong.Given as goal

abbrev pub invariant-loop-at : goal.invariant-loop-at
invariant-loop-at l = (l.at ≤ l.end) × Runs [] (part l.bytes 0 l.at) []

abbrev pub decreases-loop-at : goal.decreases-loop-at
decreases-loop-at l = l.end - l.at

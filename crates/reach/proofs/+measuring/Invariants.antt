use Rattle.std.proofs.Common.{◌+◌, ◌-◌, ◌*◌}
use Rattle.prefixes.specs.Walks.{walk}
use Rattle.reach.proofs.Rows.{ManyLeft, PairsLeft}
use Rattle.reach.proofs.+measuring.Given as goal

abbrev pub decreases-measure : goal.decreases-measure
decreases-measure l = 3 * l.depth + 2

abbrev pub decreases-measure_body : goal.decreases-measure_body
decreases-measure_body l = 3 * l.depth + 1

abbrev pub decreases-measure_elements : goal.decreases-measure_elements
decreases-measure_elements l = 3 * l.depth

abbrev pub decreases-measure_entries : goal.decreases-measure_entries
decreases-measure_entries l = 3 * l.depth

abbrev pub decreases-measure_tag : goal.decreases-measure_tag
decreases-measure_tag l = 3 * l.depth

abbrev pub invariant-measure_elements-loop : goal.invariant-measure_elements-loop
invariant-measure_elements-loop l = ManyLeft (walk l.inner 0) l.bytes l.at l.count l.end (l.count - l.counter) l.reach

abbrev pub invariant-measure_entries-loop-left : goal.invariant-measure_entries-loop-left
invariant-measure_entries-loop-left l = PairsLeft (walk l.inner) l.bytes l.at l.count l.end l.left l.reach

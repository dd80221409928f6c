use Rattle.reach.proofs.Texts.{TextLeft}
use Rattle.reach.proofs.measure_text.Given as goal

abbrev pub invariant-loop-left : goal.invariant-loop-left
invariant-loop-left l = TextLeft l.bytes l.at l.size l.end l.left l.reach

abbrev pub decreases-loop-left : goal.decreases-loop-left
decreases-loop-left l = l.left

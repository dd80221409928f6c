use Rattle.std.proofs.Common.{length}
use Rattle.deckorange.specs.Tail.{Tail}
use Rattle.deckorange.proofs.responder.Responder.answer_held.Given as goal

abbrev pub invariant-loop-n : goal.invariant-loop-n
invariant-loop-n l = Tail l.initial.self.window l.self.window

abbrev pub decreases-loop-n : goal.decreases-loop-n
decreases-loop-n l = length l.self.window

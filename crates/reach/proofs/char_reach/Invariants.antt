use Rattle.std.proofs.Common.{◌+◌}
use Rattle.reach.proofs.Texts.{CharSo}
use Rattle.reach.proofs.char_reach.Given as goal

-- what is left gives the whole
abbrev pub invariant-loop-index : goal.invariant-loop-index
invariant-loop-index l = CharSo l.bytes l.at l.end l.left (l.at + 1 + l.index) (l.range.low, l.range.high) l.reach

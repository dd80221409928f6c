use Rattle.std.proofs.Common.{◌≡◌, length, take}
use Rattle.sequence.specs.Token.{spell}
use Rattle.sequence.specs.Writing.{tokens_of}
use Rattle.sequence.proofs.writing.tokens_size.Given as goal

abbrev pub invariant-loop-token : goal.invariant-loop-token
invariant-loop-token l = l.size ≡ length (spell (tokens_of (take l.token-index l.tokens)))

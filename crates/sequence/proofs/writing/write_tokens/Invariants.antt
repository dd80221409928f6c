use Rattle.std.proofs.Common.{take, Some}
use Rattle.cbor.specs.Writing.{Writes}
use Rattle.sequence.specs.Token.{spell}
use Rattle.sequence.specs.Writing.{tokens_of}
use Rattle.sequence.proofs.writing.write_tokens.Given as goal

abbrev pub invariant-loop-token : goal.invariant-loop-token
invariant-loop-token l = Writes l.initial.out l.at (spell (tokens_of (take l.token-index l.tokens))) l.out (Some l.next)

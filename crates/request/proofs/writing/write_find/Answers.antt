use Rattle.std.proofs.Common.{arith}
use Rattle.sequence.specs.Token.{num, str, token_bytes}
use Rattle.request.proofs.Writes.{four_written}
use Rattle.request.proofs.writing.write_find.Goals as goal

pub returns : goal.returns
returns c = four_written c.args.out.now c.write_token.new.out c.write_token-2.new.out c.write_bytes.new.out c.write_token-3.new.out (token_bytes (num 1)) (token_bytes (num c.args.path.count)) c.args.path.steps.now (token_bytes (str c.args.item.now)) c.args.at c.in_ok-count.count c.in_ok-steps.steps c.in_ok-rest.rest c.write_token-3.result (omega (arith, c.in_ok-size.ensures)) c.in_ok-count.ensures c.in_ok-steps.ensures c.in_ok-rest.ensures c.write_token-3.ensures

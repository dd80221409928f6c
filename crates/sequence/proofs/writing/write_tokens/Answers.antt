use Rattle.std.proofs.Common.{get_or, take, Some, sym, subst, arith}
use Rattle.cbor.specs.Writing.{Writes}
use Rattle.cbor.proofs.Writes.{writes_then, room_more}
use Rattle.sequence.specs.declared.writing.Token.TheVariants.{Number}
use Rattle.sequence.specs.Token.{token_bytes, spell}
use Rattle.sequence.specs.Writing.{token_of, tokens_of}
use Rattle.sequence.proofs.Sizes.{spelled_more, spelled_part, writes_none}
use Rattle.sequence.proofs.writing.write_tokens.Goals as goal

pub loop-token-init : goal.loop-token-init
loop-token-init c = writes_none c.args.tokens.now c.args.out.now c.args.at (omega arith)

pub returns-in_err-next : goal.returns-in_err-next
returns-in_err-next c =
    let ts = c.args.tokens.now in
    let i = c.loop-token.token-index in
    let old = c.args.out.now in
    absurd (room_more old c.loop-token.out c.write_token.new.out (spell (tokens_of (take i ts))) (token_bytes (token_of (get_or ts i (Number 0)))) c.args.at c.loop-token.next (omega (arith, c.in_ok-size.ensures, spelled_part ts i (omega arith))) c.loop-token.invariant c.in_err-next.ensures)

pub loop-token-preserved : goal.loop-token-preserved
loop-token-preserved c =
    let ts = c.args.tokens.now in
    let i = c.loop-token.token-index in
    let old = c.args.out.now in
    subst (λ w. Writes old c.args.at w c.write_token.new.out (Some c.in_ok-next.next)) (sym (spelled_more ts i (omega arith)))
    (writes_then old c.loop-token.out c.write_token.new.out (spell (tokens_of (take i ts))) (token_bytes (token_of (get_or ts i (Number 0)))) c.args.at c.loop-token.next (Some c.in_ok-next.next) (omega (arith, c.in_ok-size.ensures, spelled_part ts i (omega arith))) c.loop-token.invariant c.in_ok-next.ensures)

use Rattle.std.proofs.Common.{◌+◌, length, get_or, take, refl, ap, inl, inr, arith, length-append}
use Rattle.std.proofs.lemmas.Bool.{cases_lt}
use Rattle.sequence.specs.declared.writing.Token.TheVariants.{Number}
use Rattle.sequence.specs.Token.{token_bytes, spell}
use Rattle.sequence.specs.Writing.{token_of, tokens_of}
use Rattle.sequence.proofs.Sizes.{spelled_more, spelled_part}
use Rattle.sequence.proofs.writing.tokens_size.Goals as goal

pub loop-token-init : goal.loop-token-init
unfolding spell
loop-token-init c = refl

pub returns-in_err-token_size : goal.returns-in_err-token_size
returns-in_err-token_size c =
    let ts = c.args.tokens.now in
    let i = c.loop-token.token-index in
    rw c.from_residual.ensures (omega (arith, c.in_err-token_size.ensures, spelled_part ts i (omega arith), length-append (spell (tokens_of (take i ts))) (token_bytes (token_of (get_or ts i (Number 0))))))

pub returns-in_err-size : goal.returns-in_err-size
returns-in_err-size c =
    let ts = c.args.tokens.now in
    let i = c.loop-token.token-index in
    rw c.from_residual-in_err-size.ensures (elim (cases_lt (c.loop-token.size + c.in_ok-token_size.field-0) 18446744073709551616) [
      | inl h ↦ absurd (c.in_err-size.ensures h)
      | inr h ↦ omega (arith, c.loop-token.invariant, c.in_ok-token_size.ensures, spelled_part ts i (omega arith), length-append (spell (tokens_of (take i ts))) (token_bytes (token_of (get_or ts i (Number 0)))))
    ])

pub loop-token-preserved : goal.loop-token-preserved
loop-token-preserved c =
    let ts = c.args.tokens.now in
    let i = c.loop-token.token-index in
    omega (arith, c.loop-token.invariant, c.in_ok-size.ensures, c.in_ok-token_size.ensures, ap length (spelled_more ts i (omega arith)), length-append (spell (tokens_of (take i ts))) (token_bytes (token_of (get_or ts i (Number 0)))))

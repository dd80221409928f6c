use Rattle.std.proofs.Common.{length, sym, refl, ap, ◌∙◌, subst}
use Rattle.cbor.specs.Encoding.{head}
use Rattle.sequence.specs.Token.{token_bytes}
use Rattle.sequence.specs.Writing.{SizeOf, token_of}
use Rattle.sequence.proofs.Sizes.{sum_size}
use Rattle.sequence.proofs.writing.token_size.Goals as goal

pub returns-in-Number : goal.returns-in-Number
returns-in-Number c = c.head_size.ensures 0 ∙ ap (λ t. length (token_bytes (token_of t))) (sym c.in-Number.is)

pub returns-in-Bytes : goal.returns-in-Bytes
returns-in-Bytes c =
    let bs = c.in-Bytes.content.now in
    subst (λ t. SizeOf (token_bytes (token_of t)) c.checked_add.result) (sym c.in-Bytes.is) (sum_size (head 2 (length bs)) bs c.head_size-in-Bytes.result (length bs) c.checked_add.result (c.head_size-in-Bytes.ensures 2) refl c.checked_add.ensures)

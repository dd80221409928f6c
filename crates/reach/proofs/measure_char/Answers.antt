use Rattle.reach.proofs.Texts.{char_past, char_short, char_over}
use Rattle.reach.proofs.measure_char.Goals as goal

pub returns-in_err-get : goal.returns-in_err-get
returns-in_err-get c = rw c.from_residual.ensures (char_past _ _ _ c.in_err-get.ensures.lookup)

pub returns-then-size-left : goal.returns-then-size-left
returns-then-size-left c = char_over _ _ _ _ c.in_ok-get.field-0 c.in_ok-get.ensures.lookup c.char_size-size.ensures c.if-size-left.true

pub returns-in_err-end : goal.returns-in_err-end
returns-in_err-end c =
    rw c.from_residual-in_err-end.ensures
    (char_short _ _ _ _ c.in_ok-get.field-0 c.in_ok-get.ensures.lookup c.char_size-size.ensures c.in_err-end.ensures)

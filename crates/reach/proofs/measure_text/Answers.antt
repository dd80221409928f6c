use Rattle.std.proofs.Common.{arith}
use Rattle.reach.proofs.Texts.{text_start, text_more, text_cut, text_end}
use Rattle.reach.proofs.measure_text.Goals as goal

pub loop-left-init : goal.loop-left-init
loop-left-init c = text_start _ _ _ c.requires

pub returns-in_err-char : goal.returns-in_err-char
returns-in_err-char c =
    rw c.from_residual.ensures (text_cut _ _ _ _ _ _ (omega arith) c.loop-left.invariant c.in_err-char.ensures)

pub loop-left-preserved : goal.loop-left-preserved
loop-left-preserved c =
    text_more _ _ _ _ _ _ (omega arith) c.loop-left.invariant
    c.in_ok-char.char _ c.in_ok-char.ensures c.join-reach.ensures

pub returns : goal.returns
returns c = text_end _ _ _ _ _ _ (omega arith) c.loop-left.invariant

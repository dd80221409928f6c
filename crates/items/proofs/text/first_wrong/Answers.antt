use Rattle.std.proofs.Common.{arith}
use Rattle.items.proofs.Texts.{chars_more, char_stop, chars_whole}
use Rattle.items.proofs.text.first_wrong.Goals as goal

pub loop-at-preserved : goal.loop-at-preserved
loop-at-preserved c =
    let (a, b, d, e) = c.in-Ok.ensures in
    let (f, g, h) = c.plain_end-at-in-Ok.ensures in
    (g, chars_more c.args.size _ c.loop-at.at c.loop-at.invariant.1 _ _ (omega arith) f e h)

pub returns-in-Err : goal.returns-in-Err
returns-in-Err c = char_stop _ _ c.loop-at.at c.loop-at.invariant.1 _ _ (omega arith) c.in-Err.ensures c.then_some.ensures

pub returns : goal.returns
returns c = chars_whole _ _ c.loop-at.at c.loop-at.invariant.1 (omega arith)

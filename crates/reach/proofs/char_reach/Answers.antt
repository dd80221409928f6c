use Rattle.std.proofs.Common.{◌≡◌, ltb, get_or, subst, arith}
use Rattle.std.specs.Int.{from_bool}
use Rattle.reach.proofs.Texts.{char_first, char_next, char_last}
use Rattle.reach.proofs.char_reach.Goals as goal

pub loop-index-init : goal.loop-index-init
loop-index-init c =
    let e = subst (λ n. c.from-reach.result ≡ from_bool (ltb (get_or c.args.bytes.now c.args.at 0) n)) c.first_top.ensures c.from-reach.ensures in
    char_first _ _ _ _ _ _ (omega arith) c.requires.end_value c.second_of-range.ensures e

pub loop-index-preserved : goal.loop-index-preserved
loop-index-preserved c =
    char_next _ _ _ _ _ _ _ _ (c.loop-index.range.low, c.loop-index.range.high) (omega arith) c.requires.at_in_bounds.1 c.loop-index-test.true
    c.loop-index.invariant c.from.ensures c.join-reach.ensures

pub returns : goal.returns
returns c = char_last _ _ _ _ _ _ (c.loop-index.range.low, c.loop-index.range.high) (omega arith) c.requires.at_in_bounds.1 c.loop-index-test.false c.loop-index.auto.index-end c.loop-index.invariant

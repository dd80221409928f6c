use Rattle.std.proofs.Common.{rules}
use Rattle.checker.proofs.Odds.{odd_larger, odd_by_after, odd_by_tie, ties_before, ties_same}
use Rattle.checker.proofs.keys.odd_place.Goals as goal

pub returns-in-Before : goal.returns-in-Before
returns-in-Before c = odd_larger c.in-Before.index _ c.args.reached.now c.args.key.now c.if-index-reached.true c.if-index-reached.true c.in-Before.ensures.0

pub returns-in-After : goal.returns-in-After
returns-in-After c = rw c.then_some.ensures (odd_by_after c.in-After.index c.args.reached.now c.args.key.now c.in-After.ensures.0)

pub returns-in-Before-2 : goal.returns-in-Before-2
returns-in-Before-2 c = odd_by_tie c.args.reached.now c.args.key.now c.checked_sub.result (search (rules, ties_before, ties_same)) c.checked_sub.ensures

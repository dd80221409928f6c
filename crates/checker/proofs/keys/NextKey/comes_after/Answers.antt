use Rattle.checker.proofs.Entries.{not_before}
use Rattle.checker.proofs.keys.NextKey.comes_after.Goals as goal

pub returns-in_default-matches : goal.returns-in_default-matches
returns-in_default-matches c = rw c.in-Some.is (not_before _ _ c.compare-order.result c.compare-order.ensures c.in_default-matches.not-Before)

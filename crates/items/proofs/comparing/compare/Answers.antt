use Rattle.std.proofs.Common.{sym}
use Rattle.items.proofs.Comparisons.{item_decides, no_item_decides, turned}
use Rattle.items.proofs.comparing.compare.Goals as goal

pub returns-in-Less : goal.returns-in-Less
returns-in-Less c =
    let s = c.same_count-index.ensures in
    item_decides _ _ _ s.in_left s.in_right s.before _ _ c.get.ensures.lookup c.get-2.ensures.lookup c.in-Less.ensures

pub returns-in-Equal : goal.returns-in-Equal
returns-in-Equal c =
    let s = c.same_count-index.ensures in
    no_item_decides _ _ _ s.in_left s.in_right s.before _ _ c.get.ensures.lookup c.get-2.ensures.lookup c.in-Equal.ensures s.there

pub returns-in-Greater : goal.returns-in-Greater
returns-in-Greater c =
    let s = c.same_count-index.ensures in
    item_decides _ _ _ s.in_right s.in_left (λ k h. sym (s.before k h)) _ _ c.get-2.ensures.lookup c.get.ensures.lookup
    (turned c.get.result c.get-2.result c.in-Greater.ensures)

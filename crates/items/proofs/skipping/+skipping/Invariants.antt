use Rattle.std.proofs.Common.{ℕ, ◌+◌, ◌-◌, ◌*◌, ◌≤◌, length, Option}
use Rattle.items.specs.Skipping.{SkipsItems}
use Rattle.items.proofs.skipping.+skipping.Given as goal

abbrev pub decreases-skip : goal.decreases-skip
decreases-skip l = 2 * l.depth + 1

abbrev pub decreases-skip_items : goal.decreases-skip_items
decreases-skip_items l = 2 * l.depth

-- what is left gives the whole
abbrev pub invariant-skip_items-loop : goal.invariant-skip_items-loop
invariant-skip_items-loop l = (l.next ≤ length l.bytes) × ((r : Option ℕ) → SkipsItems l.depth (l.count - l.counter) l.bytes l.next r → SkipsItems l.depth l.count l.bytes l.at r)

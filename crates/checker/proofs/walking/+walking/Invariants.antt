use Rattle.std.proofs.Common.{◌≡◌, ℕ, ◌+◌, ◌-◌, ◌*◌, ◌≤◌, length, drop, Result}
use Rattle.prefixes.specs.Walks.{walk, walk_many}
use Rattle.checker.specs.declared.Stop.{Stop}
use Rattle.checker.specs.Ends.{Ends}
use Rattle.checker.proofs.Entries.{GoesOn}
use Rattle.checker.proofs.walking.+walking.Given as goal

abbrev pub decreases-walk : goal.decreases-walk
decreases-walk l = 2 * length l.frames.now

abbrev pub decreases-walk_items : goal.decreases-walk_items
decreases-walk_items l = 2 * length l.frames.now + 1

-- what is left gives the whole
abbrev pub invariant-walk_items-loop : goal.invariant-walk_items-loop
invariant-walk_items-loop l =
    (l.next ≤ length l.input.bytes.now) × (length l.fn.frames ≡ length l.frames)
    × ((r : Result ℕ Stop) → Ends l.input.bytes.now l.next r (walk_many (walk (length l.frames) 0) (l.count - l.counter) (drop l.next l.input.bytes.now)) → Ends l.input.bytes.now l.at r (walk_many (walk (length l.frames) 0) l.count (drop l.at l.input.bytes.now)))

abbrev pub decreases-walk_entries : goal.decreases-walk_entries
decreases-walk_entries l = 2 * length l.frames.now - 1

abbrev pub invariant-walk_entries-loop-left : goal.invariant-walk_entries-loop-left
invariant-walk_entries-loop-left l =
    (l.next ≤ length l.input.bytes.now) × (length l.fn.frames - 1 ≡ length l.inner) × GoesOn l.input.bytes.now (length l.inner) l.own l.next l.left l.at l.count

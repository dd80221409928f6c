-- What code tells of lent bytes from a place on, held to what the walk tells of the bytes that are left there.
use Rattle.std.specs.Prelude.{◌≡◌, ℕ, ◌-◌, ◌≤◌, cond, List, Ok, Err, Result, nat_lt}
use Rattle.cbor.specs.declared.Major.{Major}
use Rattle.items.specs.declared.skipping.ItemHead.{ItemHead}
use Rattle.prefixes.specs.Walks.{Told, cut, wrong}
use Rattle.reach.specs.Measured.{Ended}
use Rattle.checker.specs.declared.Stop.{Stop}
use Rattle.checker.specs.declared.Verdict.{Verdict}
use Rattle.checker.specs.declared.Verdict.TheVariants as Verdicts
use Rattle.checker.specs.declared.Stop.TheVariants.{Cut, Wrong}

-- what a stop says of all of the bytes
abbrev pub verdict_of : Stop → Verdict
verdict_of Cut = Verdicts.Prefix
verdict_of (Wrong p) = Verdicts.Wrong p

-- a reader's stop at a place, of so many bytes
abbrev pub stop_within : ℕ → ℕ → Stop
stop_within n p = cond (nat_lt p n) (Wrong p) Cut

abbrev pub Stops : {I : Type 0} → ℕ → Stop → Told I → Type 0
Stops at Cut t = t ≡ cut
Stops at (Wrong p) t = (at ≤ p) × (t ≡ wrong (p - at))

-- only where it ends, whatever it says
abbrev pub Ends : {I : Type 0} → List ℕ → ℕ → Result ℕ Stop → Told I → Type 0
Ends {I} bs at (Ok end) t = (i : I) × Ended bs at end i t
Ends bs at (Err s) t = Stops at s t

abbrev pub Headed : List ℕ → ℕ → Result ItemHead Stop → Told (Major × ℕ) → Type 0
Headed bs at (Ok h) t = Ended bs at h.next (h.major, h.argument) t
Headed bs at (Err s) t = Stops at s t

-- What writing into lent bytes leaves.
use Rattle.std.specs.Prelude.{◌≡◌, ℕ, ◌+◌, ◌<◌, ◌≤◌, List, ◌++◌, length, take, drop, Some, None, Option}

-- a string stands at a place up to the next one, and all else is as it was; or there was no room, and nothing has changed
abbrev pub Writes : List ℕ → ℕ → List ℕ → List ℕ → Option ℕ → Type 0
Writes old at w new (Some next) = (next ≡ at + length w) × (next ≤ length old) × (new ≡ take at old ++ (w ++ drop next old))
Writes old at w new None = (length old < at + length w) × (new ≡ old)

-- What filling a window comes to: xs was unread before, and ys is after.
use Rattle.std.specs.Prelude.{◌≡◌, ℕ, ◌<◌, ◌≤◌, ◌⊎◌, List, length}
use Rattle.input.specs.declared.Filled.{Filled}
use Rattle.input.specs.declared.Filled.TheVariants.{Enough, Ended, NoRoom}
use Rattle.input.specs.Size.{most}

-- so many bytes fit into the buffer, and it is not full
abbrev pub Room : ℕ → List ℕ → Type 0
Room least xs = (least ≤ most) × (length xs < most)

abbrev pub Fills : ℕ → List ℕ → List ℕ → Filled → Type 0
Fills least xs ys Enough = Room least xs × (least ≤ length ys)
Fills least xs ys Ended = Room least xs × (length xs < least → length ys < least)
Fills least xs ys NoRoom = ((most < least) ⊎ (length xs ≡ most)) × (ys ≡ xs)

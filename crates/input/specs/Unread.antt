-- What a window holds.
use Rattle.std.specs.Prelude.{◌≡◌, ℕ, ◌≤◌, List, ◌++◌, take, drop, vec_items, vec_len, vec_capacity}
use Rattle.input.specs.declared.Window.TheInside.{Inside}
use Rattle.input.specs.Size.{most}

-- the bytes that are read and not yet taken, in their order
abbrev pub unread : Inside → List ℕ
unread w = drop w.start (take w.end (vec_items w.bytes))

-- what is unread lies in the bytes that are ready, and the memory for all of them is there
pub record IsWithin (w : Inside) : Type 0 where
  pub ordered : w.start ≤ w.end
  pub within : w.end ≤ vec_len w.bytes
  pub bounded : vec_len w.bytes ≤ most
  pub reserved : most ≤ vec_capacity w.bytes

-- ys is xs, with more behind it or nothing
abbrev pub Grown : List ℕ → List ℕ → Type 0
Grown xs ys = (more : List ℕ) × (ys ≡ xs ++ more)

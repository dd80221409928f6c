-- What is left of a list.
use Rattle.std.specs.Prelude.{◌≡◌, ℕ, List, drop}

-- ys is what stands behind some of the first elements of xs
abbrev pub Tail : List ℕ → List ℕ → Type 0
Tail xs ys = (n : ℕ) × (ys ≡ drop n xs)

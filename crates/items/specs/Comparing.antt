-- What comparing two byte strings tells.
use Rattle.std.specs.Prelude.{◌≡◌, ℕ, ◌<◌, true, List, [], ◌∷◌, take, drop}
use Rattle.cbor.specs.Order.{before}
use Rattle.items.specs.declared.comparing.Comparison.{Comparison}
use Rattle.items.specs.declared.comparing.Comparison.TheVariants.{Before, Same, After}

-- the first byte decides, or that there is none
abbrev pub FirstBefore : List ℕ → List ℕ → Type 0
FirstBefore [] [] = ⊥
FirstBefore [] (y ∷ ys) = Unit {0}
FirstBefore (x ∷ xs) [] = ⊥
FirstBefore (x ∷ xs) (y ∷ ys) = x < y

abbrev pub SameSoFar : ℕ → List ℕ → List ℕ → Type 0
SameSoFar i xs ys = take i xs ≡ take i ys

-- the same up to an index, which decides
abbrev pub DecidedAt : ℕ → List ℕ → List ℕ → Type 0
DecidedAt i xs ys = SameSoFar i xs ys × FirstBefore (drop i xs) (drop i ys)

abbrev pub Compared : List ℕ → List ℕ → Comparison → Type 0
Compared xs ys (Before i) = DecidedAt i xs ys × (before xs ys ≡ true)
Compared xs ys Same = xs ≡ ys
Compared xs ys (After i) = DecidedAt i ys xs × (before ys xs ≡ true)

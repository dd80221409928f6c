-- Sets of byte strings, called words: which come after which, how far one can be raised, and how many come after one.
use Rattle.std.specs.Prelude.{◌≡◌, ℕ, zero, suc, ◌+◌, ◌<◌, ◌≤◌, true, cond, List, [], ◌∷◌, ◌++◌, length, ◌≢◌, nat_lt}
use Rattle.cbor.specs.Order.{before}
use Rattle.cbor.specs.Prefix.{Begins}

-- two strings are the same for so many bytes, and then the first has the smaller one
unfoldable pub Apart : ℕ → List ℕ → List ℕ → Type 0
Apart j [] ks = ⊥
Apart j (l ∷ ls) [] = ⊥
Apart zero (l ∷ ls) (k ∷ ks) = l < k
Apart (suc j) (l ∷ ls) (k ∷ ks) = (l ≡ k) × Apart j ls ks

-- a word that says itself
abbrev pub Word : (List ℕ → Type 0) → List ℕ → List ℕ → Type 0
Word W u w = (w ≡ u) × W w

-- bytes that go wrong at a place
abbrev pub WrongAt : (List ℕ → Type 0) → List ℕ → ℕ → Type 0
WrongAt W q p = (u : List ℕ) × (b : ℕ) × (v : List ℕ) × (length u ≡ p) × (q ≡ u ++ b ∷ v) × Begins W u × (Begins W (u ++ b ∷ []) → ⊥)

-- no word stands at the beginning of them
abbrev pub Unread : (List ℕ → Type 0) → List ℕ → Type 0
Unread W q = (u rest : List ℕ) → W u → q ≢ u ++ rest

-- REACH: how far a word can be raised

-- words after one differ from it within its first n bytes, and one of them in the last of these
abbrev pub Within : (List ℕ → Type 0) → List ℕ → ℕ → Type 0
Within W w n = (v : List ℕ) → W v → before w v ≡ true → (i : ℕ) × (i < n) × Apart i w v

abbrev pub Up : (List ℕ → Type 0) → List ℕ → ℕ → Type 0
Up W w zero = Unit {0}
Up W w (suc j) = (v : List ℕ) × W v × Apart j w v

abbrev pub Reach : (List ℕ → Type 0) → List ℕ → ℕ → Type 0
Reach W w n = Within W w n × Up W w n

-- the reach of two words by the reach of each: the later place wins
abbrev pub joined : ℕ → ℕ → ℕ → ℕ
joined n len zero = n
joined n len (suc m) = suc (len + m)

-- the reach of bytes among all that are as long: up to and with the last that isn't 255
unfoldable pub last_up : List ℕ → ℕ
last_up [] = 0
last_up (b ∷ bs) = joined (cond (nat_lt b 255) 1 0) 1 (last_up bs)

-- the reach of a head
unfoldable pub reach_of_head : List ℕ → ℕ
reach_of_head [] = 0
reach_of_head (b ∷ bs) = joined (cond (nat_lt b 248) 1 0) 1 (last_up bs)

-- ROOM: how many words come after one

-- so many words come one after another after some bytes
unfoldable pub Room : (List ℕ → Type 0) → List ℕ → ℕ → Type 0
Room W k zero = Unit {0}
Room W k (suc r) = (v : List ℕ) × W v × (before k v ≡ true) × Room W v r

-- words after which there is room
abbrev pub Keyed : (List ℕ → Type 0) → ℕ → List ℕ → Type 0
Keyed W r v = W v × Room W v r

-- such a word after another
abbrev pub Next : (List ℕ → Type 0) → List ℕ → ℕ → List ℕ → Type 0
Next W k r v = (W v × Room W v r) × (before k v ≡ true)

-- how many words come after one: a number that says it for all up to 2^64
abbrev pub After : (List ℕ → Type 0) → List ℕ → ℕ → Type 0
After W k a = (r : ℕ) → r < 18446744073709551616 → (r ≤ a → Room W k r) × (Room W k r → r ≤ a)

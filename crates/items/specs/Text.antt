-- What is told of the bytes of a text.
use Rattle.std.specs.Prelude.{◌≡◌, ℕ, suc, ◌+◌, ◌-◌, ◌<◌, ◌≤◌, Bool, true, false, List, [], ◌∷◌, length, take, Some, None, Ok, Err, Option, Result, slice_index, slice_range}
use Rattle.cbor.specs.Prefix.{Begins}
use Rattle.cbor.specs.Utf8.{Range, leads, tails, first_in, TextOf}

-- the first byte, of those that are there, with which no text of this length goes on
abbrev pub FirstWrong : ℕ → List ℕ → Option ℕ → Type 0
FirstWrong n bs (Some p) = (p < n) × (p < length bs) × Begins (TextOf n) (take p bs) × (Begins (TextOf n) (take (suc p) bs) → ⊥)
FirstWrong n bs None = Begins (TextOf n) (take n bs)

-- CHARACTER BY CHARACTER

-- bytes that take what is pending of a character to what is then pending
unfoldable pub Runs : List Range → List ℕ → List Range → Type 0
Runs rs [] end = rs ≡ end
Runs [] (a ∷ bs) end = (leads a ≡ true) × Runs (tails a) bs end
Runs (r ∷ rs) (b ∷ bs) end = (r.0 ≤ b) × (b ≤ r.1) × Runs rs bs end

abbrev pub part : List ℕ → ℕ → ℕ → List ℕ
part bs at end = slice_range bs at end

abbrev pub Within : List ℕ → ℕ → ℕ → Type 0
Within bs at end = (at ≤ end) × (end ≤ length bs)

-- whether a byte in a range stands there
abbrev pub ByteIn : Range → List ℕ → ℕ → Bool → Type 0
ByteIn r bs at true = (at < length bs) × (r.0 ≤ slice_index bs at) × (slice_index bs at ≤ r.1)
ByteIn r bs at false = at < length bs → r.0 ≤ slice_index bs at → slice_index bs at ≤ r.1 → ⊥

-- the place after that byte, or its own
abbrev pub ByteTold : Range → List ℕ → ℕ → Result ℕ ℕ → Type 0
ByteTold r bs at (Ok end) = (end ≡ at + 1) × ByteIn r bs at true
ByteTold r bs at (Err p) = (p ≡ at) × ByteIn r bs at false

-- a byte in each of some ranges, or the place of the first that is missing or not in its range
abbrev pub TailsTold : List Range → List ℕ → ℕ → Result ℕ ℕ → Type 0
TailsTold rs bs at (Ok end) = (end ≡ at + length rs) × (end ≤ length bs) × Runs rs (part bs at end) []
TailsTold rs bs at (Err p) = Within bs at p × ((r : Range) × (later : List Range) × Runs rs (part bs at p) (r ∷ later) × (p + suc (length later) ≡ at + length rs) × (p < length bs → r.0 ≤ slice_index bs p → slice_index bs p ≤ r.1 → ⊥))

-- no byte goes on so, with so many left
abbrev pub Blocks : ℕ → List Range → ℕ → Type 0
Blocks left [] b = first_in left b ≡ true → ⊥
Blocks left (r ∷ rs) b = r.0 ≤ b → b ≤ r.1 → ⊥

-- a character that ends, or the place from which on none does, with so many bytes left
abbrev pub CharTold : ℕ → List ℕ → ℕ → Result ℕ ℕ → Type 0
CharTold left bs at (Ok end) = (at < end) × (end ≤ length bs) × (end - at ≤ left) × Runs [] (part bs at end) []
CharTold left bs at (Err p) = Within bs at p × ((rs : List Range) × Runs [] (part bs at p) rs × (p - at + length rs ≤ left) × (0 < left → p - at < left) × (p < length bs → Blocks (left - (p - at)) rs (slice_index bs p)))

-- bytes below 128, each a character
abbrev pub PlainTo : List ℕ → ℕ → ℕ → ℕ → Type 0
PlainTo bs from to end = (from ≤ end) × (end ≤ to) × Runs [] (part bs from end) []

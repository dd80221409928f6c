-- What is promised of checking: an item, a prefix of one, or the first byte with which the bytes are no prefix any more.
use Rattle.std.specs.Prelude.{◌≡◌, ℕ, suc, ◌<◌, true, List, [], ◌∷◌, length, take}
use Rattle.cbor.specs.Item.{Entries, how_many_entries}
use Rattle.cbor.specs.Encoding.{all_bytes}
use Rattle.cbor.specs.Prefix.{Begins, Any}
use Rattle.cbor.specs.Valid.{ItemOf, first_key_after, valid_entries}
use Rattle.prefixes.specs.Words.{Keyed, Room}
use Rattle.prefixes.specs.Shapes.{ItemAt}
use Rattle.prefixes.specs.Walks.{Told, done, cut, wrong, Holds, Says, walk}

-- the bytes of a valid item
abbrev pub IsItem : List ℕ → Type 0
IsItem bs = Any (ItemOf 32) bs

-- what some valid item's bytes begin with
abbrev pub IsPrefix : List ℕ → Type 0
IsPrefix bs = Begins (Any (ItemOf 32)) bs

pub data Verdict : Type 0 where
  whole : Verdict
  short : Verdict
  wrong_at : ℕ → Verdict

abbrev pub verdict : Told (ℕ × ℕ) → Verdict
verdict (done i u []) = whole
verdict (done i u (b ∷ rest)) = wrong_at (length u)
verdict cut = short
verdict (wrong p) = wrong_at p

abbrev pub check : List ℕ → Verdict
check bs = verdict (walk 32 0 bs)

abbrev pub RightVerdict : List ℕ → Verdict → Type 0
RightVerdict bs whole = IsItem bs
RightVerdict bs short = IsPrefix bs × (IsItem bs → ⊥)
RightVerdict bs (wrong_at p) = (p < length bs) × IsPrefix (take p bs) × (IsPrefix (take (suc p) bs) → ⊥)

-- bytes, fewer than 2^60: the verdict is right
abbrev pub CheckIsRight : Type 0
CheckIsRight = (bs : List ℕ) → all_bytes bs ≡ true → length bs < 1152921504606846976 → RightVerdict bs (check bs)

-- and no other one is
abbrev pub OneVerdict : Type 0
OneVerdict = (bs : List ℕ) (v w : Verdict) → RightVerdict bs v → RightVerdict bs w → v ≡ w

-- the walk, at any depth and with any demand: a word with room, its reach and how many come after it; a prefix; wrong at a byte
abbrev pub WalkIsRight : Type 0
WalkIsRight =
    (d r : ℕ) (q : List ℕ) → r < 18446744073709551616 → (all_bytes q ≡ true) × (length q < 1152921504606846976) → Holds (Keyed (ItemAt d) r) (Says (ItemAt d)) q (walk d r q)

-- what begins a word that is an item is a prefix, and nothing else is
abbrev pub BeginsIsPrefix : Type 0
BeginsIsPrefix = (bs : List ℕ) → (IsPrefix bs → Begins (ItemAt 32) bs) × (Begins (ItemAt 32) bs → IsPrefix bs)

-- room is so many entries, each key after the last
abbrev pub RoomIsEntries : Type 0
RoomIsEntries = (d r : ℕ) (k : List ℕ) → Room (ItemAt d) k r → (es : Entries) × (how_many_entries es ≡ r) × (valid_entries d es ≡ true) × (first_key_after k es ≡ true)

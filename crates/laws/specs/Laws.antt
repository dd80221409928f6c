-- What is promised of items and their encoding. Each is a statement, proved where a function's contract cites it.
use Rattle.std.specs.Prelude.{◌≡◌, ℕ, ◌<◌, ◌≤◌, true, false, ◌⊎◌, List, ◌++◌, length, Some, IsUtf8}
use Rattle.cbor.specs.Item.{Item, unsigned, negative, byte_string, text_string, array, map, tag, simple, Items, Entries, how_many, how_many_entries}
use Rattle.cbor.specs.Encoding.{all_bytes, encode}
use Rattle.cbor.specs.Order.{same}
use Rattle.cbor.specs.Utf8.{utf8}
use Rattle.cbor.specs.Valid.{valid_at, valid_entries, valid, ItemOf}
use Rattle.cbor.specs.Decoding.{decode}
use Rattle.cbor.specs.Access.{value_at}
use Rattle.cbor.specs.Prefix.{PrefixFree}
use Rattle.laws.specs.Parts.{Inside, Ascending}

-- what is encoded is decoded, whatever comes after
abbrev pub EncodedIsDecoded : Type 0
EncodedIsDecoded = (d : ℕ) (i : Item) (rest : List ℕ) → valid_at d i ≡ true → decode d (encode i ++ rest) ≡ Some (i, rest)

-- what is decoded is, encoded, the bytes that were taken, and valid
abbrev pub DecodedIsEncoded : Type 0
DecodedIsEncoded = (d : ℕ) (bs : List ℕ) (i : Item) (rest : List ℕ) → all_bytes bs ≡ true → decode d bs ≡ Some (i, rest) → (bs ≡ encode i ++ rest) × (valid_at d i ≡ true)

-- decoding depends only on the bytes that it takes
abbrev pub TakesNoMore : Type 0
TakesNoMore =
    (d : ℕ) (bs : List ℕ) (i : Item) (rest other : List ℕ) → all_bytes bs ≡ true → decode d bs ≡ Some (i, rest) → (u : List ℕ) × (bs ≡ u ++ rest) × (decode d (u ++ other) ≡ Some (i, other))

-- no two valid items have the same bytes, and none's begin with another's
abbrev pub OneWay : Type 0
OneWay = (d : ℕ) → PrefixFree (ItemOf d)

-- equality of bytes decides equality of items
abbrev pub SameBytes : Type 0
SameBytes = (d : ℕ) (i j : Item) → valid_at d i ≡ true → valid_at d j ≡ true → (same (encode i) (encode j) ≡ true → i ≡ j) × (i ≡ j → same (encode i) (encode j) ≡ true)

-- two valid maps with the same value at every key are equal
abbrev pub MapsByValues : Type 0
MapsByValues =
    (d : ℕ) (es fs : Entries) → valid_entries d es ≡ true → valid_entries d fs ≡ true → ((k : Item) → valid_at d k ≡ true → value_at k es ≡ value_at k fs) → es ≡ fs

-- the keys of a valid map are in the order of their bytes, at whatever depth it stands
abbrev pub KeysInOrder : Type 0
KeysInOrder = (i : Item) (es : Entries) → valid i ≡ true → (map es ≡ i) ⊎ Inside (map es) i → Ascending es

-- an encoding is bytes, and some; what stands in an item has fewer
abbrev pub EncodedIsBytes : Type 0
EncodedIsBytes = (d : ℕ) (i : Item) → valid_at d i ≡ true → (all_bytes (encode i) ≡ true) × (0 < length (encode i))

abbrev pub InsideIsShorter : Type 0
InsideIsShorter = (i j : Item) → Inside j i → length (encode j) < length (encode i)

-- the table of ranges is UTF-8: bytes pass just if they are the encoding of some list of Unicode scalar values, as the standard library has it
abbrev pub Utf8ByCharacters : Type 0
Utf8ByCharacters = (bs : List ℕ) → (utf8 bs ≡ true → IsUtf8 bs) × (IsUtf8 bs → utf8 bs ≡ true)

-- there are items at every limit
pub record AtTheLimits : Type 0 where
  pub numbers : (n : ℕ) → n < 18446744073709551616 → (valid_at 0 (unsigned n) ≡ true) × (valid_at 0 (negative n) ≡ true) × (valid_at 1 (tag n (unsigned n)) ≡ true)
  pub simples : (n : ℕ) → (n < 24) ⊎ ((32 ≤ n) × (n < 256)) → valid_at 0 (simple n) ≡ true
  pub byte_strings : (n : ℕ) → n < 18446744073709551616 → (bs : List ℕ) × (length bs ≡ n) × (valid_at 0 (byte_string bs) ≡ true)
  pub texts : (n : ℕ) → n < 18446744073709551616 → (bs : List ℕ) × (length bs ≡ n) × (valid_at 0 (text_string bs) ≡ true)
  pub arrays : (n : ℕ) → n < 18446744073709551616 → (is : Items) × (how_many is ≡ n) × (valid_at 1 (array is) ≡ true)
  pub maps : (n : ℕ) → n < 18446744073709551616 → (es : Entries) × (how_many_entries es ≡ n) × (valid_at 1 (map es) ≡ true)
  pub deepest : (i : Item) × (valid_at 32 i ≡ true) × (valid_at 31 i ≡ false)

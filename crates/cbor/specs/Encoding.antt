-- How items are written (RFC 8949, section 3), with heads in their shortest form only (section 4.2.1). A byte is a number below 256.
use Rattle.std.specs.Prelude.{ℕ, zero, suc, ◌+◌, ◌*◌, ◌/◌, ◌%◌, Bool, true, cond, ◌&&◌, List, [], ◌∷◌, ◌++◌, length, nat_lt}
use Rattle.cbor.specs.declared.Major.{Major}
use Rattle.cbor.specs.declared.Major.TheVariants.{Unsigned, Negative, Bytes, Text, Array, Map, Tag, Simple}
use Rattle.cbor.specs.Item.{Item, unsigned, negative, byte_string, text_string, array, map, tag, simple, Items, no_item, more_items, Entries, no_entry, more_entries, how_many, how_many_entries}

unfoldable pub all_bytes : List ℕ → Bool
all_bytes [] = true
all_bytes (b ∷ bs) = nat_lt b 256 && all_bytes bs

-- a number in so many bytes, the most significant one first
unfoldable pub to_bytes : ℕ → ℕ → List ℕ
to_bytes zero n = []
to_bytes (suc k) n = to_bytes k (n / 256) ++ (n % 256 ∷ [])

-- and back, after what was read before
unfoldable pub number : ℕ → List ℕ → ℕ
number a [] = a
number a (b ∷ bs) = number (a * 256 + b) bs

abbrev pub of_bytes : List ℕ → ℕ
of_bytes bs = number 0 bs

abbrev pub major_number : Major → ℕ
major_number Unsigned = 0
major_number Negative = 1
major_number Bytes = 2
major_number Text = 3
major_number Array = 4
major_number Map = 5
major_number Tag = 6
major_number Simple = 7

-- a head: the major type in the high three bits, and its argument in as few bytes as it takes
abbrev pub head : ℕ → ℕ → List ℕ
head m n =
    cond (nat_lt n 24) ((32 * m + n) ∷ [])
    (cond (nat_lt n 256) ((32 * m + 24) ∷ to_bytes 1 n)
    (cond (nat_lt n 65536) ((32 * m + 25) ∷ to_bytes 2 n)
    (cond (nat_lt n 4294967296) ((32 * m + 26) ∷ to_bytes 4 n) ((32 * m + 27) ∷ to_bytes 8 n))))

unfoldable mutual
  pub encode : Item → List ℕ
  encode (unsigned n) = head 0 n
  encode (negative n) = head 1 n
  encode (byte_string bs) = head 2 (length bs) ++ bs
  encode (text_string bs) = head 3 (length bs) ++ bs
  encode (array is) = head 4 (how_many is) ++ encode_items is
  encode (map es) = head 5 (how_many_entries es) ++ encode_entries es
  encode (tag n i) = head 6 n ++ encode i
  encode (simple n) = head 7 n

  pub encode_items : Items → List ℕ
  encode_items no_item = []
  encode_items (more_items i is) = encode i ++ encode_items is

  pub encode_entries : Entries → List ℕ
  encode_entries no_entry = []
  encode_entries (more_entries k v es) = encode k ++ (encode v ++ encode_entries es)

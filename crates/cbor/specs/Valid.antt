-- Items that can be encoded (RFC 8949, sections 3 and 5.3.1): arguments of eight bytes, texts in UTF-8, simple values that there are, keys each once
-- and in the order of their encodings (section 4.2.1); and not nested deeper than a limit.
use Rattle.std.specs.Prelude.{◌≡◌, ℕ, ◌-◌, Bool, true, ◌&&◌, ◌||◌, List, length, nat_le, nat_lt}
use Rattle.cbor.specs.Item.{Item, unsigned, negative, byte_string, text_string, array, map, tag, simple, Items, no_item, more_items, Entries, no_entry, more_entries, how_many, how_many_entries}
use Rattle.cbor.specs.Encoding.{all_bytes, encode}
use Rattle.cbor.specs.Order.{before}
use Rattle.cbor.specs.Utf8.{utf8}

abbrev pub word : ℕ → Bool
word n = nat_lt n 18446744073709551616

abbrev pub is_simple : ℕ → Bool
is_simple n = nat_lt n 24 || (nat_le 32 n && nat_lt n 256)

unfoldable pub first_key_after : List ℕ → Entries → Bool
first_key_after k no_entry = true
first_key_after k (more_entries j v es) = before k (encode j)

-- with at most so many arrays, maps and tags in one another
unfoldable mutual
  pub valid_at : ℕ → Item → Bool
  valid_at d (unsigned n) = word n
  valid_at d (negative n) = word n
  valid_at d (byte_string bs) = word (length bs) && all_bytes bs
  valid_at d (text_string bs) = word (length bs) && utf8 bs
  valid_at d (array is) = nat_lt 0 d && (word (how_many is) && valid_items (d - 1) is)
  valid_at d (map es) = nat_lt 0 d && (word (how_many_entries es) && valid_entries (d - 1) es)
  valid_at d (tag n i) = nat_lt 0 d && (word n && valid_at (d - 1) i)
  valid_at d (simple n) = is_simple n

  pub valid_items : ℕ → Items → Bool
  valid_items d no_item = true
  valid_items d (more_items i is) = valid_at d i && valid_items d is

  pub valid_entries : ℕ → Entries → Bool
  valid_entries d no_entry = true
  valid_entries d (more_entries k v es) = (valid_at d k && valid_at d v) && (first_key_after (encode k) es && valid_entries d es)

abbrev pub valid : Item → Bool
valid i = valid_at 32 i

-- the bytes of a valid item
abbrev pub ItemOf : ℕ → Item → List ℕ → Type 0
ItemOf d i w = (w ≡ encode i) × (valid_at d i ≡ true)

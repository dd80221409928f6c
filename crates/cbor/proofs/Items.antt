-- The encoding of an item: it is bytes, and some.
use Rattle.std.proofs.Common.{◌≡◌, ℕ, ◌-◌, ◌<◌, true, List, ◌++◌, length, refl, arith, length-append}
use Rattle.std.proofs.lemmas.Bool.{ltb-true, and_parts}
use Rattle.cbor.specs.Item.{Item, unsigned, negative, byte_string, text_string, array, map, tag, simple, Items, no_item, more_items, Entries, no_entry, more_entries, how_many, how_many_entries}
use Rattle.cbor.specs.Encoding.{all_bytes, head, encode, encode_items, encode_entries}
use Rattle.cbor.specs.Utf8.{utf8}
use Rattle.cbor.specs.Valid.{word, valid_at, valid_items, valid_entries}
use Rattle.cbor.proofs.Numbers.{bytes_append}
use Rattle.cbor.proofs.Heads.{head_not_empty, head_bytes}
use Rattle.cbor.proofs.Valid.{simple_word, nested_parts, entry_parts}
use Rattle.cbor.proofs.Utf8.{utf8_bytes}

pub after_head : (m n : ℕ) (bs : List ℕ) → length bs < length (head m n ++ bs)
after_head m n bs = omega (arith, head_not_empty m n, length-append (head m n) bs)

pub encode_not_empty : (i : Item) → 0 < length (encode i)
unfolding encode
encode_not_empty (unsigned n) = head_not_empty 0 n
encode_not_empty (negative n) = head_not_empty 1 n
encode_not_empty (byte_string bs) = omega (arith, after_head 2 (length bs) bs)
encode_not_empty (text_string bs) = omega (arith, after_head 3 (length bs) bs)
encode_not_empty (array is) = omega (arith, after_head 4 (how_many is) (encode_items is))
encode_not_empty (map es) = omega (arith, after_head 5 (how_many_entries es) (encode_entries es))
encode_not_empty (tag n i) = omega (arith, after_head 6 n (encode i))
encode_not_empty (simple n) = head_not_empty 7 n

-- BYTES

head_all : (m n : ℕ) → m < 8 → word n ≡ true → all_bytes (head m n) ≡ true
head_all m n h w = head_bytes m n h (ltb-true n 18446744073709551616 w)

front_all : (m n : ℕ) (bs : List ℕ) → m < 8 → word n ≡ true → all_bytes bs ≡ true → all_bytes (head m n ++ bs) ≡ true
front_all m n bs h w a = bytes_append (head m n) bs (head_all m n h w) a

mutual
  unfolding encode valid_at all_bytes

  pub item_bytes : (i : Item) (d : ℕ) → valid_at d i ≡ true → all_bytes (encode i) ≡ true
  item_bytes (unsigned n) d h = head_all 0 n (omega arith) h
  item_bytes (negative n) d h = head_all 1 n (omega arith) h
  item_bytes (byte_string bs) d h = let p = and_parts (word (length bs)) (all_bytes bs) h in front_all 2 (length bs) bs (omega arith) p.0 p.1
  item_bytes (text_string bs) d h = let p = and_parts (word (length bs)) (utf8 bs) h in front_all 3 (length bs) bs (omega arith) p.0 (utf8_bytes bs p.1)
  item_bytes (array is) d h =
      let p = nested_parts d (how_many is) (valid_items (d - 1) is) h in
      front_all 4 (how_many is) (encode_items is) (omega arith) p.1 (items_bytes is (d - 1) p.2)
  item_bytes (map es) d h =
      let p = nested_parts d (how_many_entries es) (valid_entries (d - 1) es) h in
      front_all 5 (how_many_entries es) (encode_entries es) (omega arith) p.1 (entries_bytes es (d - 1) p.2)
  item_bytes (tag n i) d h =
      let p = nested_parts d n (valid_at (d - 1) i) h in
      front_all 6 n (encode i) (omega arith) p.1 (item_bytes i (d - 1) p.2)
  item_bytes (simple n) d h = head_all 7 n (omega arith) (simple_word n h)

  pub items_bytes : (is : Items) (d : ℕ) → valid_items d is ≡ true → all_bytes (encode_items is) ≡ true
  items_bytes no_item d h = refl
  items_bytes (more_items i is) d h =
      let p = and_parts (valid_at d i) (valid_items d is) h in
      bytes_append (encode i) (encode_items is) (item_bytes i d p.0) (items_bytes is d p.1)

  pub entries_bytes : (es : Entries) (d : ℕ) → valid_entries d es ≡ true → all_bytes (encode_entries es) ≡ true
  entries_bytes no_entry d h = refl
  entries_bytes (more_entries k v es) d h =
      let p = entry_parts d k v es h in
      bytes_append (encode k) (encode v ++ encode_entries es) (item_bytes k d p.key)
      (bytes_append (encode v) (encode_entries es) (item_bytes v d p.value) (entries_bytes es d p.rest))

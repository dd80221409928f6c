-- An encoding is bytes, and some; what stands in an item has fewer.
use Rattle.std.proofs.Common.{◌≡◌, ◌<◌, ◌≤◌, ◌++◌, length, ap, inl, inr, arith, length-append}
use Rattle.cbor.specs.Item.{Item, unsigned, negative, byte_string, text_string, array, map, tag, simple, Items, no_item, more_items, Entries, no_entry, more_entries, how_many, how_many_entries}
use Rattle.cbor.specs.Encoding.{encode, encode_items, encode_entries}
use Rattle.cbor.proofs.Items.{after_head, encode_not_empty, item_bytes}
use Rattle.laws.specs.Parts.{Inside, Among, AmongEntries}
use Rattle.laws.specs.Laws.{EncodedIsBytes, InsideIsShorter}

pub encoded_is_bytes : EncodedIsBytes
encoded_is_bytes d i h = (item_bytes i d h, encode_not_empty i)

-- FEWER INSIDE

same_length : (i j : Item) → j ≡ i → length (encode j) ≡ length (encode i)
same_length i j e = ap (λ k. length (encode k)) e

mutual
  unfolding encode Inside

  pub inside_shorter : (i j : Item) → Inside j i → length (encode j) < length (encode i)
  inside_shorter (unsigned n) j h = absurd h
  inside_shorter (negative n) j h = absurd h
  inside_shorter (byte_string bs) j h = absurd h
  inside_shorter (text_string bs) j h = absurd h
  inside_shorter (array is) j h = omega (arith, after_head 4 (how_many is) (encode_items is), among_shorter is j h)
  inside_shorter (map es) j h = omega (arith, after_head 5 (how_many_entries es) (encode_entries es), among_entries_shorter es j h)
  inside_shorter (tag n i) j (inl e) = omega (arith, after_head 6 n (encode i), same_length i j e)
  inside_shorter (tag n i) j (inr h) = omega (arith, after_head 6 n (encode i), inside_shorter i j h)
  inside_shorter (simple n) j h = absurd h

  pub among_shorter : (is : Items) (j : Item) → Among j is → length (encode j) ≤ length (encode_items is)
  among_shorter no_item j h = absurd h
  among_shorter (more_items i is) j (inl e) = omega (arith, length-append (encode i) (encode_items is), same_length i j e)
  among_shorter (more_items i is) j (inr (inl h)) = omega (arith, length-append (encode i) (encode_items is), inside_shorter i j h)
  among_shorter (more_items i is) j (inr (inr h)) = omega (arith, length-append (encode i) (encode_items is), among_shorter is j h)

  pub among_entries_shorter : (es : Entries) (j : Item) → AmongEntries j es → length (encode j) ≤ length (encode_entries es)
  among_entries_shorter no_entry j h = absurd h
  among_entries_shorter (more_entries k v es) j h =
      let a = length-append (encode k) (encode v ++ encode_entries es) in
      let b = length-append (encode v) (encode_entries es) in
      elim h [
        | inl e ↦ omega (arith, same_length k j e)
        | inr (inl x) ↦ omega (arith, inside_shorter k j x)
        | inr (inr (inl e)) ↦ omega (arith, same_length v j e)
        | inr (inr (inr (inl x))) ↦ omega (arith, inside_shorter v j x)
        | inr (inr (inr (inr x))) ↦ omega (arith, among_entries_shorter es j x)
      ]

pub inside_is_shorter : InsideIsShorter
inside_is_shorter i j h = inside_shorter i j h

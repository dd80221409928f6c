-- What is encoded is decoded, whatever comes after.
use Rattle.std.proofs.Common.{◌≡◌, ℕ, zero, suc, ◌-◌, ◌≤◌, Bool, true, false, ltb, List, ◌++◌, length, Some, None, Option, refl, ◌∙◌, append_assoc, arith, length-append}
use Rattle.std.proofs.lemmas.List.{take_at, drop_at}
use Rattle.std.proofs.lemmas.Bool.{le-leb, ltb-true, and_parts}
use Rattle.cbor.specs.Item.{Item, unsigned, negative, byte_string, text_string, array, map, tag, simple, Items, no_item, more_items, Entries, no_entry, more_entries, how_many, how_many_entries}
use Rattle.cbor.specs.Encoding.{all_bytes, head, encode, encode_items, encode_entries}
use Rattle.cbor.specs.Utf8.{utf8}
use Rattle.cbor.specs.Valid.{word, first_key_after, valid_at, valid_items, valid_entries}
use Rattle.cbor.specs.Decoding.{after_last, decode_items, decode_entries, decode_body, decode}
use Rattle.laws.specs.Laws.{EncodedIsDecoded}
use Rattle.cbor.proofs.Valid.{simple_word, nested_parts, entry_parts}
use Rattle.laws.proofs.Heads.{head_decoded}

-- what a head begins that has nothing in it, whether or not more may be nested
flat : (d m n : ℕ) (r : List ℕ) (x : Option (Item × List ℕ)) → word n ≡ true
    → ((nests : Bool) (one : List ℕ → Option (Item × List ℕ)) → decode_body nests one (m, n, r) ≡ x) → decode d (head m n ++ r) ≡ x
unfolding decode
flat zero m n r x h f = rw (head_decoded m n r (ltb-true n 18446744073709551616 h)) (f false (λ rest. None))
flat (suc d) m n r x h f = rw (head_decoded m n r (ltb-true n 18446744073709551616 h)) (f true (decode d))

-- and one that has, one level down
nested : (d m n : ℕ) (r : List ℕ) → ltb 0 d ≡ true → word n ≡ true → decode d (head m n ++ r) ≡ decode_body true (decode (d - 1)) (m, n, r)
unfolding decode
nested zero m n r g h = absurd (omega (arith, ltb-true 0 0 g))
nested (suc d) m n r g h = rw (head_decoded m n r (ltb-true n 18446744073709551616 h), let z : suc d - 1 ≡ d = omega arith in z)

-- keys that may come next
abbrev pub After : Option (List ℕ) → Entries → Type 0
After None es = Unit {0}
After (Some j) es = first_key_after j es ≡ true

after_one : (last : Option (List ℕ)) (k v : Item) (es : Entries) → After last (more_entries k v es) → after_last last (encode k) ≡ true
unfolding first_key_after
after_one None k v es h = refl
after_one (Some j) k v es h = h

mutual
  unfolding encode valid_at decode_body decode_items decode_entries how_many how_many_entries

  pub item_decoded : (i : Item) (d : ℕ) (rest : List ℕ) → valid_at d i ≡ true → decode d (encode i ++ rest) ≡ Some (i, rest)
  item_decoded (unsigned n) d rest h = flat d 0 n rest (Some (unsigned n, rest)) h (λ nests one. refl)
  item_decoded (negative n) d rest h = flat d 1 n rest (Some (negative n, rest)) h (λ nests one. refl)
  item_decoded (byte_string bs) d rest h =
      let p = and_parts (word (length bs)) (all_bytes bs) h in
      let l : length bs ≤ length (bs ++ rest) = rw (length-append bs rest) (omega arith) in
      rw (append_assoc (head 2 (length bs)) bs rest)
      (flat d 2 (length bs) (bs ++ rest) (Some (byte_string bs, rest)) p.0 (λ nests one.
      rw (le-leb (length bs) (length (bs ++ rest)) l, take_at bs rest (length bs) refl, drop_at bs rest (length bs) refl)))
  item_decoded (text_string bs) d rest h =
      let p = and_parts (word (length bs)) (utf8 bs) h in
      let l : length bs ≤ length (bs ++ rest) = rw (length-append bs rest) (omega arith) in
      rw (append_assoc (head 3 (length bs)) bs rest)
      (flat d 3 (length bs) (bs ++ rest) (Some (text_string bs, rest)) p.0 (λ nests one.
      rw (le-leb (length bs) (length (bs ++ rest)) l, take_at bs rest (length bs) refl, drop_at bs rest (length bs) refl, p.1)))
  item_decoded (array is) d rest h =
      let p = nested_parts d (how_many is) (valid_items (d - 1) is) h in
      rw (append_assoc (head 4 (how_many is)) (encode_items is) rest)
      (nested d 4 (how_many is) (encode_items is ++ rest) p.0 p.1 ∙ rw (items_decoded is (d - 1) rest p.2))
  item_decoded (map es) d rest h =
      let p = nested_parts d (how_many_entries es) (valid_entries (d - 1) es) h in
      rw (append_assoc (head 5 (how_many_entries es)) (encode_entries es) rest)
      (nested d 5 (how_many_entries es) (encode_entries es ++ rest) p.0 p.1 ∙ rw (entries_decoded es (d - 1) None rest p.2 tt))
  item_decoded (tag n i) d rest h =
      let p = nested_parts d n (valid_at (d - 1) i) h in
      rw (append_assoc (head 6 n) (encode i) rest) (nested d 6 n (encode i ++ rest) p.0 p.1 ∙ rw (item_decoded i (d - 1) rest p.2))
  item_decoded (simple n) d rest h = flat d 7 n rest (Some (simple n, rest)) (simple_word n h) (λ nests one. rw h)

  pub items_decoded : (is : Items) (d : ℕ) (rest : List ℕ) → valid_items d is ≡ true → decode_items (decode d) (how_many is) (encode_items is ++ rest) ≡ Some (is, rest)
  items_decoded no_item d rest h = refl
  items_decoded (more_items i is) d rest h =
      let p = and_parts (valid_at d i) (valid_items d is) h in
      rw (append_assoc (encode i) (encode_items is) rest, item_decoded i d (encode_items is ++ rest) p.0, items_decoded is d rest p.1)

  pub entries_decoded : (es : Entries) (d : ℕ) (last : Option (List ℕ)) (rest : List ℕ) → valid_entries d es ≡ true → After last es
      → decode_entries (decode d) (how_many_entries es) last (encode_entries es ++ rest) ≡ Some (es, rest)
  entries_decoded no_entry d last rest h a = refl
  entries_decoded (more_entries k v es) d last rest h a =
      let p = entry_parts d k v es h in
      rw (
        append_assoc (encode k) (encode v ++ encode_entries es) rest,
        item_decoded k d ((encode v ++ encode_entries es) ++ rest) p.key,
        after_one last k v es a,
        append_assoc (encode v) (encode_entries es) rest,
        item_decoded v d (encode_entries es ++ rest) p.value,
        entries_decoded es d (Some (encode k)) rest p.rest p.next,
      )

pub encoded_is_decoded : EncodedIsDecoded
encoded_is_decoded d i rest h = item_decoded i d rest h

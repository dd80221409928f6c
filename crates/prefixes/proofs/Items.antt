-- The bytes of valid items are the words that are items, and room is entries.
use Rattle.std.proofs.Common.{◌≡◌, ℕ, zero, suc, ◌-◌, ◌<◌, true, false, ◌&&◌, ltb, leb, List, [], ◌∷◌, ◌++◌, length, sym, refl, ap, ◌∙◌, subst, inl, inr, arith}
use Rattle.std.proofs.lemmas.List.{append-nil}
use Rattle.std.proofs.lemmas.Bool.{lt-ltb, le-leb, ltb-true, leb-true, both_ways, and_from, and_parts, or_cases, or_right}
use Rattle.cbor.specs.declared.Major.{Major}
use Rattle.cbor.specs.declared.Major.TheVariants.{Unsigned, Negative, Bytes, Text, Array, Map, Tag, Simple}
use Rattle.cbor.specs.Item.{Item, unsigned, negative, byte_string, text_string, array, map, tag, simple, Items, no_item, more_items, Entries, no_entry, more_entries, how_many, how_many_entries}
use Rattle.cbor.specs.Encoding.{all_bytes, major_number, head, encode, encode_items, encode_entries}
use Rattle.cbor.specs.Order.{before}
use Rattle.cbor.specs.Utf8.{utf8, TextOf}
use Rattle.cbor.specs.Valid.{word, is_simple, first_key_after, valid_at, valid_items, valid_entries, ItemOf}
use Rattle.cbor.specs.Prefix.{Any}
use Rattle.cbor.proofs.Valid.{nested_parts, nested_from, entry_parts, entry_from}
use Rattle.prefixes.specs.Words.{Room, Keyed}
use Rattle.prefixes.specs.Shapes.{SimpleFits, HeadFits, Key, Many, Pairs, BytesOf, BodyOf, Body, ItemAt, Below}

pub item_made : (d : ℕ) (i : Major × ℕ) (v : List ℕ) → HeadFits d i.0 i.1 → Body (Below d) i v → ItemAt d (head (major_number i.0) i.1 ++ v)
unfolding ItemAt
item_made zero i v f b = (i, head (major_number i.0) i.1, v, (refl, f), b, refl)
item_made (suc d) i v f b = (i, head (major_number i.0) i.1, v, (refl, f), b, refl)

pub down_one : (d : ℕ) → suc d - 1 ≡ d
down_one d = omega arith

abbrev big : ℕ
big = 18446744073709551616

fits_word : (n : ℕ) → word n ≡ true → n < big
fits_word n h = ltb-true n big h

word_fits : (n : ℕ) → n < big → word n ≡ true
word_fits n h = lt-ltb n big h

simple_fits : (n : ℕ) → is_simple n ≡ true → SimpleFits n
simple_fits n h = elim (or_cases (ltb n 24) (leb 32 n && ltb n 256) h) [
  | inl a ↦ inl (ltb-true n 24 a)
  | inr a ↦ (let p = and_parts (leb 32 n) (ltb n 256) a in inr (leb-true 32 n p.0, ltb-true n 256 p.1))
]

fits_simple : (n : ℕ) → SimpleFits n → is_simple n ≡ true
fits_simple n (inl a) = rw (lt-ltb n 24 a)
fits_simple n (inr (a, b)) = or_right (ltb n 24) (leb 32 n && ltb n 256) (and_from (leb 32 n) (ltb n 256) (le-leb 32 n a) (lt-ltb n 256 b))

-- entries whose first key comes after the last one, if there is one
abbrev GoOn : List (List ℕ) → Entries → Type 0
GoOn [] es = Unit {0}
GoOn (j ∷ js) es = first_key_after j es ≡ true

go_on_none : (last : List (List ℕ)) → GoOn last no_entry
unfolding first_key_after
go_on_none [] = tt
go_on_none (j ∷ js) = refl

key_of : (W : List ℕ → Type 0) (last : List (List ℕ)) (r : ℕ) (k v : Item) (es : Entries) → GoOn last (more_entries k v es) → Keyed W r (encode k) → Key W last r (encode k)
unfolding first_key_after
key_of W [] r k v es a h = h
key_of W (j ∷ js) r k v es a h = (h, a)

-- FROM ITEMS TO WORDS

mutual
  unfolding encode valid_at first_key_after how_many how_many_entries Many Pairs Room

  pub item_word : (d : ℕ) (x : Item) → valid_at d x ≡ true → ItemAt d (encode x)
  item_word d (unsigned n) g = subst (λ w. ItemAt d w) (append-nil (head 0 n)) (item_made d (Unsigned, n) [] (fits_word n g) refl)
  item_word d (negative n) g = subst (λ w. ItemAt d w) (append-nil (head 1 n)) (item_made d (Negative, n) [] (fits_word n g) refl)
  item_word d (byte_string bs) g = let p = and_parts (word (length bs)) (all_bytes bs) g in item_made d (Bytes, length bs) bs (fits_word (length bs) p.0) (refl, p.1)
  item_word d (text_string bs) g = let p = and_parts (word (length bs)) (utf8 bs) g in item_made d (Text, length bs) bs (fits_word (length bs) p.0) (refl, p.1)
  item_word zero (array is) g = absurd (both_ways false refl g)
  item_word (suc d) (array is) g =
      let p = nested_parts (suc d) (how_many is) (valid_items (suc d - 1) is) g in
      item_made (suc d) (Array, how_many is) (encode_items is) (fits_word (how_many is) p.1, omega arith) (many_words d is (ap (λ e. valid_items e is) (sym (down_one d)) ∙ p.2))
  item_word zero (map es) g = absurd (both_ways false refl g)
  item_word (suc d) (map es) g =
      let p = nested_parts (suc d) (how_many_entries es) (valid_entries (suc d - 1) es) g in
      item_made (suc d) (Map, how_many_entries es) (encode_entries es) (fits_word (how_many_entries es) p.1, omega arith)
      (pairs_words d [] es tt (ap (λ e. valid_entries e es) (sym (down_one d)) ∙ p.2))
  item_word zero (tag n x) g = absurd (both_ways false refl g)
  item_word (suc d) (tag n x) g =
      let p = nested_parts (suc d) n (valid_at (suc d - 1) x) g in
      item_made (suc d) (Tag, n) (encode x) (fits_word n p.1, omega arith) (item_word d x (ap (λ e. valid_at e x) (sym (down_one d)) ∙ p.2))
  item_word d (simple n) g = subst (λ w. ItemAt d w) (append-nil (head 7 n)) (item_made d (Simple, n) [] (simple_fits n g) refl)

  pub many_words : (d : ℕ) (is : Items) → valid_items d is ≡ true → Many (ItemAt d) (how_many is) (encode_items is)
  many_words d no_item g = refl
  many_words d (more_items x is) g =
      let p = and_parts (valid_at d x) (valid_items d is) g in
      (encode x, encode x, encode_items is, (refl, item_word d x p.0), many_words d is p.1, refl)

  -- entries are keys and values, and after what comes before them they are room
  pub pairs_words : (d : ℕ) (last : List (List ℕ)) (es : Entries) → GoOn last es → valid_entries d es ≡ true → Pairs (ItemAt d) (how_many_entries es) last (encode_entries es)
  pairs_words d last no_entry a g = refl
  pairs_words d last (more_entries k v es) a g =
      let p = entry_parts d k v es g in (
        encode k,
        encode k,
        encode v ++ encode_entries es,
        (refl, key_of (ItemAt d) last (how_many_entries es) k v es a (item_word d k p.key, room_words d (encode k) es p.next p.rest)),
        (encode v, encode v, encode_entries es, (refl, item_word d v p.value), pairs_words d (encode k ∷ []) es p.next p.rest, refl),
        refl,
      )

  pub room_words : (d : ℕ) (k : List ℕ) (es : Entries) → first_key_after k es ≡ true → valid_entries d es ≡ true → Room (ItemAt d) k (how_many_entries es)
  room_words d k no_entry a g = tt
  room_words d k (more_entries j v es) a g =
      let p = entry_parts d j v es g in
      (encode j, item_word d j p.key, a, room_words d (encode j) es p.next p.rest)

-- AND BACK

abbrev Made : ℕ → List ℕ → Type 0
Made d w = Any (ItemOf d) w

abbrev InnerMade : ℕ → Type 0
InnerMade d = (v : List ℕ) → ItemAt d v → Made d v

many_made : (d n : ℕ) (w : List ℕ) → InnerMade d → Many (ItemAt d) n w → (is : Items) × (how_many is ≡ n) × (valid_items d is ≡ true) × (w ≡ encode_items is)
unfolding Many encode_items how_many valid_items
many_made d zero w f h = (no_item, refl, refl, h)
many_made d (suc n) w f (i, u, v, (e, a), b, s) =
    let (x, (p, g)) = f u a in
    let (is, m, h, q) = many_made d n v f b in
    (more_items x is, ap suc m, and_from (valid_at d x) (valid_items d is) g h, (let z : w ≡ encode x ++ encode_items is = cc in z))

room_made : (d r : ℕ) (k : List ℕ) → InnerMade d → Room (ItemAt d) k r → (es : Entries) × (how_many_entries es ≡ r) × (valid_entries d es ≡ true) × (first_key_after k es ≡ true)
unfolding Room valid_at first_key_after how_many_entries
room_made d zero k f h = (no_entry, refl, refl, refl)
room_made d (suc r) k f (v, w, l, h) =
    let (x, (p, g)) = f v w in
    let (es, m, e, a) = room_made d r v f h in
    (more_entries x (unsigned 0) es, ap suc m, entry_from d x (unsigned 0) es (record { key = g; value = refl; next = ap (λ b. first_key_after b es) (sym p) ∙ a; rest = e }), ap (λ b. before k b) (sym p) ∙ l)

-- a key after the last, as a Boolean
key_after : (W : List ℕ → Type 0) (last : List (List ℕ)) (r : ℕ) (k v : Item) (es : Entries) → Key W last r (encode k) → GoOn last (more_entries k v es)
unfolding first_key_after
key_after W [] r k v es h = tt
key_after W (j ∷ js) r k v es h = h.1

pub key_word : (W : List ℕ → Type 0) (last : List (List ℕ)) (r : ℕ) (u : List ℕ) → Key W last r u → W u × Room W u r
key_word W [] r u h = h
key_word W (j ∷ js) r u h = h.0

pairs_made : (d n : ℕ) (last : List (List ℕ)) (w : List ℕ) → InnerMade d → Pairs (ItemAt d) n last w
    → (es : Entries) × (how_many_entries es ≡ n) × (valid_entries d es ≡ true) × GoOn last es × (w ≡ encode_entries es)
unfolding Pairs encode_entries how_many_entries valid_entries
pairs_made d zero last w f h = (no_entry, refl, refl, go_on_none last, h)
pairs_made d (suc n) last w f (i, u, v, (e, a), (j, s, t, (e', b), c, q), z) =
    let (k, (pk, gk)) = f u (key_word (ItemAt d) last n u a).0 in
    let (x, (px, gx)) = f s b in
    let (es, m, ge, ae, pe) = pairs_made d n (i ∷ []) t f c in
    let fk : first_key_after (encode k) es ≡ true = ap (λ b. first_key_after b es) (sym pk ∙ e) ∙ ae in
    let y : w ≡ encode k ++ (encode x ++ encode_entries es) = cc in
    let o = key_after (ItemAt d) last n k x es (subst (λ b. Key (ItemAt d) last n b) pk a) in
    (more_entries k x es, ap suc m, entry_from d k x es (record { key = gk; value = gx; next = fk; rest = ge }), o, y)

head_alone : (d : ℕ) (x : Item) (k n : ℕ) (u v w : List ℕ) → valid_at d x ≡ true → encode x ≡ head k n → u ≡ head k n → v ≡ [] → w ≡ u ++ v → Made d w
head_alone d x k n u v w g b p q e = (x, (e ∙ ap (λ y. y ++ v) p ∙ ap (λ y. head k n ++ y) q ∙ append-nil (head k n) ∙ sym b, g))

bytes_made : (d n : ℕ) (u v w : List ℕ) → u ≡ head 2 n → n < big → BytesOf n v → w ≡ u ++ v → Made d w
unfolding valid_at encode
bytes_made d n u v w p f (l, a) e =
    (byte_string v, (e ∙ ap (λ y. y ++ v) p ∙ ap (λ m. head 2 m ++ v) (sym l), and_from (word (length v)) (all_bytes v) (word_fits (length v) (omega arith)) a))

text_made : (d n : ℕ) (u v w : List ℕ) → u ≡ head 3 n → n < big → TextOf n v → w ≡ u ++ v → Made d w
unfolding valid_at encode
text_made d n u v w p f (l, t) e = (text_string v, (e ∙ ap (λ y. y ++ v) p ∙ ap (λ m. head 3 m ++ v) (sym l), and_from (word (length v)) (utf8 v) (word_fits (length v) (omega arith)) t))

deeper : (d : ℕ) → ltb 0 (suc d) ≡ true
deeper d = lt-ltb 0 (suc d) (omega arith)

array_made : (d n : ℕ) (u v w : List ℕ) → InnerMade d → u ≡ head 4 n → n < big → Many (ItemAt d) n v → w ≡ u ++ v → Made (suc d) w
unfolding valid_at encode
array_made d n u v w f p h m e =
    let (is, l, g, b) = many_made d n v f m in
    let y = e ∙ ap (λ z. z ++ v) p ∙ ap (λ z. head 4 n ++ z) b ∙ ap (λ z. head 4 z ++ encode_items is) (sym l) in
    (array is, (y, nested_from (suc d) (how_many is) (valid_items (suc d - 1) is) (deeper d) (word_fits (how_many is) (omega arith)) (ap (λ z. valid_items z is) (down_one d) ∙ g)))

map_made : (d n : ℕ) (u v w : List ℕ) → InnerMade d → u ≡ head 5 n → n < big → Pairs (ItemAt d) n [] v → w ≡ u ++ v → Made (suc d) w
unfolding valid_at encode
map_made d n u v w f p h m e =
    let (es, l, g, _, b) = pairs_made d n [] v f m in
    let y = e ∙ ap (λ z. z ++ v) p ∙ ap (λ z. head 5 n ++ z) b ∙ ap (λ z. head 5 z ++ encode_entries es) (sym l) in
    (map es, (y, nested_from (suc d) (how_many_entries es) (valid_entries (suc d - 1) es) (deeper d) (word_fits (how_many_entries es) (omega arith)) (ap (λ z. valid_entries z es) (down_one d) ∙ g)))

tag_made : (d n : ℕ) (u v w : List ℕ) → Made d v → u ≡ head 6 n → n < big → w ≡ u ++ v → Made (suc d) w
unfolding valid_at encode
tag_made d n u v w (x, (b, g)) p h e =
    (tag n x, (e ∙ ap (λ z. z ++ v) p ∙ ap (λ z. head 6 n ++ z) b, nested_from (suc d) n (valid_at (suc d - 1) x) (deeper d) (word_fits n h) (ap (λ z. valid_at z x) (down_one d) ∙ g)))

-- by the major type, from what is known one level down
major_made : (d : ℕ) (k : Major) (n : ℕ) (u v w : List ℕ) → ((x : List ℕ) → Below d x → Made (d - 1) x) → u ≡ head (major_number k) n → HeadFits d k n
    → BodyOf (Below d) k n v → w ≡ u ++ v → Made d w
unfolding valid_at encode
major_made d Unsigned n u v w f p h b e = head_alone d (unsigned n) 0 n u v w (word_fits n h) refl p b e
major_made d Negative n u v w f p h b e = head_alone d (negative n) 1 n u v w (word_fits n h) refl p b e
major_made d Bytes n u v w f p h b e = bytes_made d n u v w p h b e
major_made d Text n u v w f p h b e = text_made d n u v w p h b e
major_made zero Array n u v w f p h b e = absurd (omega arith)
major_made (suc d) Array n u v w f p h b e = array_made d n u v w (λ x y. subst (λ z. Made z x) (down_one d) (f x y)) p h.0 b e
major_made zero Map n u v w f p h b e = absurd (omega arith)
major_made (suc d) Map n u v w f p h b e = map_made d n u v w (λ x y. subst (λ z. Made z x) (down_one d) (f x y)) p h.0 b e
major_made zero Tag n u v w f p h b e = absurd (omega arith)
major_made (suc d) Tag n u v w f p h b e = tag_made d n u v w (subst (λ z. Made z v) (down_one d) (f v b)) p h.0 e
major_made d Simple n u v w f p h b e = head_alone d (simple n) 7 n u v w (fits_simple n h) refl p b e

pub item_from_word : (d : ℕ) (w : List ℕ) → ItemAt d w → Any (ItemOf d) w
unfolding ItemAt
item_from_word zero w (i, u, v, (p, h), b, e) = major_made 0 i.0 i.1 u v w (λ x y. absurd y) p h b e
item_from_word (suc d) w (i, u, v, (p, h), b, e) = major_made (suc d) i.0 i.1 u v w (λ x y. subst (λ z. Made z x) (sym (down_one d)) (item_from_word d x y)) p h b e

pub word_from_item : (d : ℕ) (w : List ℕ) → Any (ItemOf d) w → ItemAt d w
word_from_item d w (x, (e, g)) = subst (λ v. ItemAt d v) (sym e) (item_word d x g)

-- room as entries: so many keys, each after the last
pub entries_from_room : (d r : ℕ) (k : List ℕ) → Room (ItemAt d) k r → (es : Entries) × (how_many_entries es ≡ r) × (valid_entries d es ≡ true) × (first_key_after k es ≡ true)
entries_from_room d r k h = room_made d r k (λ v w. item_from_word d v w) h

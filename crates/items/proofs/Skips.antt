-- Items passed over: by the head that stands there, and what is in them.
use Rattle.std.proofs.Common.{◌≡◌, ℕ, suc, ◌+◌, ◌-◌, ◌*◌, ◌/◌, ◌<◌, ◌≤◌, min, true, cond, eqb, ◌&&◌, ◌||◌, ◌⊎◌, List, [], ◌∷◌, ◌++◌, length, get_or, take, drop, Some, None, Option, Ok, Err, Result, Bor, inl, inr, sym, refl, ap, ◌∙◌, subst, arith, length-append}
use Rattle.std.specs.Result.{result_ok}
use Rattle.std.specs.Slice.{IsItemAt}
use Rattle.std.specs.Bool.{MatchBool}
use Rattle.std.proofs.lemmas.List.{append-nil}
use Rattle.std.proofs.lemmas.Bool.{ltb-true, and_parts, and_from}
use Rattle.cbor.specs.Item.{Item, unsigned, negative, byte_string, text_string, array, map, tag, simple, Items, no_item, more_items, Entries, no_entry, more_entries, how_many, how_many_entries}
use Rattle.cbor.specs.declared.Major.{Major}
use Rattle.cbor.specs.declared.Major.TheVariants.{Unsigned, Negative, Bytes, Text, Simple}
use Rattle.cbor.specs.Encoding.{major_number, to_bytes, head, encode, encode_items, encode_entries}
use Rattle.cbor.specs.Valid.{word, valid_at, valid_items, valid_entries, ItemOf}
use Rattle.cbor.specs.Prefix.{StandsAt}
use Rattle.cbor.specs.Reading.{HeadOf, HeadAt, BytesEnd}
use Rattle.cbor.specs.declared.reading.Head.{Head}
use Rattle.cbor.specs.declared.reading.Stop.{Stop}
use Rattle.cbor.proofs.Heads.{head_shape, head_free}
use Rattle.cbor.proofs.Words.{free_two}
use Rattle.cbor.proofs.Places.{part_rest, part_length, part_split, at_first}
use Rattle.cbor.proofs.Valid.{simple_word, nested_parts, entry_parts}
use Rattle.cbor.proofs.Items.{encode_not_empty}
use Rattle.items.specs.declared.skipping.ItemHead.{ItemHead}
use Rattle.items.specs.Skipping.{HeadTold, EndsWithin, Skips, InnerOf, SkipsItems}

-- HEADS

-- the first byte of a head says its major type
pub head_major : (m n : ℕ) (bs : List ℕ) (at end : ℕ) → StandsAt (HeadOf m n) bs at end → (at < length bs) × (get_or bs at 0 / 32 ≡ m)
head_major m n bs at end (h, k, (e, l)) =
    let (s, w, p, z) = head_shape m n l in
    let c = part_length bs at end h k in
    let d = ap length (e ∙ p) in
    let i : at < length bs = omega arith in
    let f : get_or bs at 0 ∷ drop (at + 1) bs ≡ take (end - at) (drop at bs) ++ drop end bs = sym (at_first bs at i) ∙ part_rest bs at end h in
    let g : get_or bs at 0 ∷ drop (at + 1) bs ≡ (32 * m + s) ∷ (to_bytes w n ++ drop end bs) = f ∙ ap (λ v. v ++ drop end bs) (e ∙ p) in
    let b : get_or bs at 0 ≡ 32 * m + s = cc in
    (i, omega arith)

-- what is lent of a place is what stands there
pub lent_is : (bs : List ℕ) (at : ℕ) (x : Bor ℕ) → IsItemAt bs at (Some x) → x.now ≡ get_or bs at 0
lent_is bs at x (a, b, c, d, e) = e (omega arith) 0

-- where no head of the first byte's major type was read there is none
pub no_head_there : (m : ℕ) (bs : List ℕ) (at : ℕ) (r : Result Head Stop) → HeadAt m bs at r → result_ok r ≡ None → (x : Bor ℕ) → IsItemAt bs at (Some x) → m ≡ x.now / 32 → HeadTold bs at None
no_head_there m bs at (Ok h) told e x there f = cc
no_head_there m bs at (Err s) (h, stops) e x there f = λ k n end l (a, b, w).
    let g : k ≡ m = omega (arith, (head_major k n bs at end (a, b, w)).1, lent_is bs at x there) in
    stops.unread (take (end - at) (drop at bs)) (drop end bs) (n, subst (λ j. HeadOf j n (take (end - at) (drop at bs))) g w) (part_rest bs at end a)

-- two heads at one place are one
pub head_once : (m n k : ℕ) (bs : List ℕ) (at end mid : ℕ) → StandsAt (HeadOf m n) bs at end → StandsAt (HeadOf m k) bs at mid → (n ≡ k) × (end ≡ mid)
head_once m n k bs at end mid (a, b, u) (c, d, v) =
    let (e, f, g) = free_two (HeadOf m) (head_free m) n k (take (end - at) (drop at bs)) (take (mid - at) (drop at bs)) (drop end bs) (drop mid bs) u v (sym (part_rest bs at end a) ∙ part_rest bs at mid c) in
    let x = part_length bs at end a b in
    let y = part_length bs at mid c d in
    (e, (let z = ap length f in omega arith))

-- AN ITEM'S HEAD AND BODY

abbrev major_in : Item → ℕ
major_in (unsigned n) = 0
major_in (negative n) = 1
major_in (byte_string bs) = 2
major_in (text_string bs) = 3
major_in (array is) = 4
major_in (map es) = 5
major_in (tag n i) = 6
major_in (simple n) = 7

abbrev argument_in : Item → ℕ
argument_in (unsigned n) = n
argument_in (negative n) = n
argument_in (byte_string bs) = length bs
argument_in (text_string bs) = length bs
argument_in (array is) = how_many is
argument_in (map es) = how_many_entries es
argument_in (tag n i) = n
argument_in (simple n) = n

abbrev body_in : Item → List ℕ
body_in (unsigned n) = []
body_in (negative n) = []
body_in (byte_string bs) = bs
body_in (text_string bs) = bs
body_in (array is) = encode_items is
body_in (map es) = encode_entries es
body_in (tag n i) = encode i
body_in (simple n) = []

encode_parts : (i : Item) → encode i ≡ head (major_in i) (argument_in i) ++ body_in i
unfolding encode
encode_parts (unsigned n) = sym (append-nil (head 0 n))
encode_parts (negative n) = sym (append-nil (head 1 n))
encode_parts (byte_string bs) = refl
encode_parts (text_string bs) = refl
encode_parts (array is) = refl
encode_parts (map es) = refl
encode_parts (tag n i) = refl
encode_parts (simple n) = sym (append-nil (head 7 n))

major_below : (i : Item) → major_in i < 8
major_below (unsigned n) = omega arith
major_below (negative n) = omega arith
major_below (byte_string bs) = omega arith
major_below (text_string bs) = omega arith
major_below (array is) = omega arith
major_below (map es) = omega arith
major_below (tag n i) = omega arith
major_below (simple n) = omega arith

argument_word : (d : ℕ) (i : Item) → valid_at d i ≡ true → word (argument_in i) ≡ true
unfolding valid_at
argument_word d (unsigned n) h = h
argument_word d (negative n) h = h
argument_word d (byte_string bs) h = (and_parts (word (length bs)) _ h).0
argument_word d (text_string bs) h = (and_parts (word (length bs)) _ h).0
argument_word d (array is) h = (nested_parts d (how_many is) _ h).1
argument_word d (map es) h = (nested_parts d (how_many_entries es) _ h).1
argument_word d (tag n i) h = (nested_parts d n _ h).1
argument_word d (simple n) h = simple_word n h

-- the head of an item there, and its body after that
abbrev Opened : Item → List ℕ → ℕ → ℕ → ℕ → Type 0
Opened i bs at mid end = StandsAt (HeadOf (major_in i) (argument_in i)) bs at mid × StandsAt (λ w. w ≡ body_in i) bs mid end

opened : (d : ℕ) (i : Item) (bs : List ℕ) (at end : ℕ) → StandsAt (ItemOf d i) bs at end → (mid : ℕ) × Opened i bs at mid end
opened d i bs at end (h, k, (e, v)) =
    let u = head (major_in i) (argument_in i) in
    let (m, a, b) = part_split bs u (body_in i) at end h k (e ∙ encode_parts i) in
    (at + length u, ((omega arith, omega arith, (a, ltb-true (argument_in i) 18446744073709551616 (argument_word d i v))), (m, k, b)))

-- no head there, so no item
pub skips_none : (d : ℕ) (bs : List ℕ) (at : ℕ) → HeadTold bs at None → Skips d bs at None
skips_none d bs at none = record {
  ends = λ i end st. let (mid, (a, b)) = opened d i bs at end st in absurd (none (major_in i) (argument_in i) mid (major_below i) a);
  within = tt;
}

-- keys and values as items one after the other
flat : Entries → Items
flat no_entry = no_item
flat (more_entries k v es) = more_items k (more_items v (flat es))

flat_encoded : (es : Entries) → encode_entries es ≡ encode_items (flat es)
unfolding encode_entries encode_items flat
flat_encoded no_entry = refl
flat_encoded (more_entries k v es) = ap (λ w. encode k ++ (encode v ++ w)) (flat_encoded es)

flat_count : (es : Entries) → how_many (flat es) ≡ 2 * how_many_entries es
unfolding how_many how_many_entries flat
flat_count no_entry = refl
flat_count (more_entries k v es) = (let z = flat_count es in omega arith)

flat_valid : (d : ℕ) (es : Entries) → valid_entries d es ≡ true → valid_items d (flat es) ≡ true
unfolding valid_items valid_entries flat
flat_valid d no_entry h = refl
flat_valid d (more_entries k v es) h =
    let e = entry_parts d k v es h in
    and_from (valid_at d k) (valid_at d v && valid_items d (flat es)) e.key (and_from (valid_at d v) (valid_items d (flat es)) e.value (flat_valid d es e.rest))

-- what a head says of the bytes after it
abbrev Inner : ℕ → ℕ → List ℕ → Type 0
Inner d k w = (is : Items) × (how_many is ≡ k) × InnerOf d is w

abbrev BodyOf : ℕ → ℕ → ℕ → List ℕ → Type 0
BodyOf d m n w = MatchBool (eqb m 4) (Inner d n w) (MatchBool (eqb m 5) (Inner d (2 * n) w) (MatchBool (eqb m 6) (Inner d 1 w) (length w ≡ cond (eqb m 2 || eqb m 3) n 0)))

body_of : (d : ℕ) (i : Item) → valid_at d i ≡ true → BodyOf d (major_in i) (argument_in i) (body_in i)
unfolding valid_at valid_items encode_items how_many
body_of d (unsigned n) v = refl
body_of d (negative n) v = refl
body_of d (byte_string bs) v = refl
body_of d (text_string bs) v = refl
body_of d (array is) v = let p = nested_parts d (how_many is) (valid_items (d - 1) is) v in (is, refl, (refl, ltb-true 0 d p.0, p.2))
body_of d (map es) v = let p = nested_parts d (how_many_entries es) (valid_entries (d - 1) es) v in (flat es, flat_count es, (flat_encoded es, ltb-true 0 d p.0, flat_valid (d - 1) es p.2))
body_of d (tag n i) v =
    let p = nested_parts d n (valid_at (d - 1) i) v in
    (more_items i no_item, refl, (sym (append-nil (encode i)), ltb-true 0 d p.0, and_from (valid_at (d - 1) i) true p.2 refl))
body_of d (simple n) v = refl

-- a result by the head there: what it says of every body that such a head has
pub skips_by : (d : ℕ) (bs : List ℕ) (at : ℕ) (h : ItemHead) (r : Option ℕ) → HeadTold bs at (Some h) → EndsWithin bs h.next r
    → ((w : List ℕ) (end : ℕ) → BodyOf d (major_number h.major) h.argument w → StandsAt (λ v. v ≡ w) bs h.next end → r ≡ Some end) → Skips d bs at r
skips_by d bs at h r (st, l) within by = record {
  ends = λ i end item.
      let (mid, (a, b)) = opened d i bs at end item in
      let p = (head_major (major_number h.major) h.argument bs at h.next st).1 in
      let q = (head_major (major_in i) (argument_in i) bs at mid a).1 in
      let e : major_in i ≡ major_number h.major = sym q ∙ p in
      let a' = subst (λ m. StandsAt (HeadOf m (argument_in i)) bs at mid) e a in
      let (n, m) = head_once (major_number h.major) (argument_in i) h.argument bs at mid h.next a' st in
      by (body_in i) end (rw (← e, ← n) (body_of d i item.2.1)) (subst (λ x. StandsAt (λ w. w ≡ body_in i) bs x end) m b);
  within = later r within;
}
  where
    later : (r : Option ℕ) → EndsWithin bs h.next r → EndsWithin bs at r
    later (Some end) (a, b) = (omega arith, b)
    later None w = tt

-- BY MAJOR TYPE

ends_at : (bs : List ℕ) (at end n : ℕ) (w : List ℕ) → StandsAt (λ v. v ≡ w) bs at end → length w ≡ n → end ≡ at + n
ends_at bs at end n w (h, k, e) l = (let z = part_length bs at end h k in let y = ap length e in omega arith)

module _ (d : ℕ) (bs : List ℕ) (at : ℕ) (h : ItemHead) (there : HeadTold bs at (Some h)) where
  pub skips_plain : (h.major ≡ Unsigned) ⊎ ((h.major ≡ Negative) ⊎ (h.major ≡ Simple)) → Skips d bs at (Some h.next)
  skips_plain m = skips_by d bs at h (Some h.next) there (omega arith, there.0.1) (λ w end b st. ap Some (omega (arith, ends_at bs h.next end 0 w st (size w b m))))
    where
      size : (w : List ℕ) → BodyOf d (major_number h.major) h.argument w → (h.major ≡ Unsigned) ⊎ ((h.major ≡ Negative) ⊎ (h.major ≡ Simple)) → length w ≡ 0
      size w b (inl e) = rw e at b
      size w b (inr (inl e)) = rw e at b
      size w b (inr (inr e)) = rw e at b

  pub skips_string : (r : Option ℕ) → (h.major ≡ Bytes) ⊎ (h.major ≡ Text) → BytesEnd h.argument bs h.next r → Skips d bs at r
  skips_string r m l = skips_by d bs at h r there (within r l) (λ w end b st. ends r l end (ends_at bs h.next end h.argument w st (size w b m)) st.1)
    where
      size : (w : List ℕ) → BodyOf d (major_number h.major) h.argument w → (h.major ≡ Bytes) ⊎ (h.major ≡ Text) → length w ≡ h.argument
      size w b (inl e) = rw e at b
      size w b (inr e) = rw e at b

      within : (r : Option ℕ) → BytesEnd h.argument bs h.next r → EndsWithin bs h.next r
      within (Some end) (e, l) = (omega arith, l)
      within None l = tt

      ends : (r : Option ℕ) → BytesEnd h.argument bs h.next r → (end : ℕ) → end ≡ h.next + h.argument → end ≤ length bs → r ≡ Some end
      ends (Some stop) (e, l) end f k = ap Some (omega arith)
      ends None l end f k = absurd (omega arith)

  pub skips_inner : (m : Major) (k : ℕ) (r : Option ℕ) → h.major ≡ m → ((w : List ℕ) → BodyOf d (major_number m) h.argument w → Inner d k w) → SkipsItems d k bs h.next r → Skips d bs at r
  skips_inner m k r e inner s =
      skips_by d bs at h r there s.within (λ w end b st.
      let (is, c, v) = inner w (rw e at b) in
      s.ends is end c (st.0, st.1, rw st.2 v))

-- each item takes a byte
items_long : (is : Items) → how_many is ≤ length (encode_items is)
unfolding how_many encode_items
items_long no_item = omega arith
items_long (more_items i is) = omega (arith, items_long is, encode_not_empty i, length-append (encode i) (encode_items is))

-- twice the entries, or more than there can be
pub doubled : (d n k : ℕ) (bs : List ℕ) (at : ℕ) (r : Option ℕ) → length bs < 18446744073709551616 → k ≡ min (n * 2) 18446744073709551615 → SkipsItems d k bs at r → SkipsItems d (2 * n) bs at r
doubled d n k bs at r l e s = record {
  ends = λ is end c st.
      let x = part_length bs at end st.0 st.1 in
      let y = ap length st.2.0 in
      let z = items_long is in
      s.ends is end (omega arith) st;
  within = s.within;
}

-- THE LOOP

no_items_end : (d : ℕ) (bs : List ℕ) (at : ℕ) (is : Items) (end : ℕ) → how_many is ≡ 0 → StandsAt (InnerOf d is) bs at end → at ≡ end
unfolding how_many encode_items
no_items_end d bs at no_item end c (h, k, (e, l, v)) = (let z = part_length bs at end h k in let y = ap length e in omega arith)
no_items_end d bs at (more_items i is) end c st = absurd (omega arith)

pub items_none : (d n : ℕ) (bs : List ℕ) (at : ℕ) → n ≡ 0 → at ≤ length bs → SkipsItems d n bs at (Some at)
items_none d n bs at e l = record { ends = λ is end c st. ap Some (no_items_end d bs at is end (c ∙ e) st); within = (omega arith, l) }

-- the first of some items, and those after it
abbrev Unfolds : ℕ → ℕ → List ℕ → ℕ → ℕ → ℕ → Type 0
Unfolds d inner bs at end n = (i : Item) × (is : Items) × (mid : ℕ) × StandsAt (ItemOf inner i) bs at mid × (suc (how_many is) ≡ n) × StandsAt (InnerOf d is) bs mid end

module _ (d inner n : ℕ) (bs : List ℕ) (at : ℕ) (less : inner ≡ d - 1) where
  items_open : (is : Items) (end : ℕ) → 0 < n → how_many is ≡ n → StandsAt (InnerOf d is) bs at end → Unfolds d inner bs at end n
  unfolding how_many encode_items valid_items
  items_open no_item end h c st = absurd (omega arith)
  items_open (more_items i is) end h c (a, b, (e, l, v)) =
      let p = and_parts (valid_at (d - 1) i) (valid_items (d - 1) is) v in
      let (m, x, y) = part_split bs (encode i) (encode_items is) at end a b e in
      (i, is, at + length (encode i), (omega arith, omega arith, (x, rw less p.0)), c, (m, b, (y, l, p.1)))

  pub items_stop : 0 < n → Skips inner bs at None → SkipsItems d n bs at None
  items_stop h s = record {
    ends = λ is end c st.
        let (i, later, mid, a, k, b) = items_open is end h c st in
        let z = s.ends i mid a in
        cc;
    within = tt;
  }

  pub items_more : (k mid : ℕ) (r : Option ℕ) → n ≡ suc k → Skips inner bs at (Some mid) → SkipsItems d k bs mid r → SkipsItems d n bs at r
  items_more k mid r h s t = record {
    ends = λ is end c st.
        let (i, later, stop, a, l, b) = items_open is end (omega arith) c st in
        let z = s.ends i stop a in
        let e : mid ≡ stop = cc in
        t.ends later end (omega arith) (subst (λ x. StandsAt (InnerOf d later) bs x end) (sym e) b);
    within = before r t.within;
  }
    where
      before : (r : Option ℕ) → EndsWithin bs mid r → EndsWithin bs at r
      before (Some end) (a, b) = (let z = s.within.0 in (omega arith, b))
      before None w = tt

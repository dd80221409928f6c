-- What is decoded is, encoded, the bytes that were taken, and valid. Forward, by what holds of a result if there is one: nothing is inverted.
use Rattle.std.proofs.Common.{◌≡◌, ℕ, zero, suc, ◌+◌, ◌-◌, ◌*◌, ◌/◌, ◌%◌, ◌^◌, ◌<◌, Bool, true, false, ◌&&◌, eqb, ltb, leb, List, [], ◌∷◌, ◌++◌, length, take, drop, Some, None, Option, sym, refl, ap, ◌∙◌, inl, inr, append_assoc, arith}
use Rattle.std.proofs.lemmas.List.{length-take-le, take-append-drop}
use Rattle.std.proofs.lemmas.Bool.{both_ways, lt-ltb, ltb-true, leb-true, eqb-true, and_parts, and_from, cond_both}
use Rattle.cbor.specs.Item.{Item, unsigned, negative, byte_string, text_string, array, map, tag, simple, Items, Entries, no_entry, more_entries, how_many, how_many_entries}
use Rattle.cbor.specs.Encoding.{all_bytes, to_bytes, of_bytes, head, encode, encode_items, encode_entries}
use Rattle.cbor.specs.Utf8.{utf8}
use Rattle.cbor.specs.Valid.{word, is_simple, first_key_after, valid_at, valid_items, valid_entries}
use Rattle.cbor.specs.Decoding.{Head, and_then, only_if, after_last, long_head, decode_head, decode_items, decode_entries, decode_body, decode}
use Rattle.cbor.proofs.Heads.{Sized, sized_head}
use Rattle.cbor.proofs.Numbers.{bytes_take, bytes_drop, number_below, to_of_bytes}
use Rattle.laws.specs.Laws.{DecodedIsEncoded, TakesNoMore}
use Rattle.cbor.proofs.Valid.{nested_from, entry_from}
use Rattle.laws.proofs.Heads.{Long, long_sized}
use Rattle.laws.proofs.Encoded.{After, encoded_is_decoded}

-- what holds of a result if there is one
abbrev EachSome : {A : Type 0} → (A → Type 0) → Option A → Type 0
EachSome P None = Unit {0}
EachSome P (Some x) = P x

if_some_then : {A B : Type 0} (P : A → Type 0) (Q : B → Type 0) (o : Option A) (f : A → Option B) → EachSome P o → ((x : A) → P x → EachSome Q (f x))
    → EachSome Q (and_then o f)
if_some_then P Q None f h k = tt
if_some_then P Q (Some x) f h k = k x h

if_some_only : {A : Type 0} (P : A → Type 0) (b : Bool) (o : Option A) → (b ≡ true → EachSome P o) → EachSome P (only_if b o)
if_some_only P true o k = k refl
if_some_only P false o k = tt

if_some_at : {A : Type 0} (P : A → Type 0) (o : Option A) (x : A) → o ≡ Some x → EachSome P o → P x
if_some_at P o x e h = rw e at h

-- one string, and then another
one_then : (bs u r v w : List ℕ) → bs ≡ u ++ r → r ≡ v ++ w → bs ≡ (u ++ v) ++ w
one_then bs u r v w e f = e ∙ ap (λ x. u ++ x) f ∙ sym (append_assoc u v w)

-- HEADS

abbrev GoodHead : List ℕ → Head → Type 0
GoodHead bs h = (bs ≡ head h.0 h.1 ++ h.2) × (word h.1 ≡ true) × (all_bytes h.2 ≡ true)

long_good : (b s w least : ℕ) (bs : List ℕ) → b % 32 ≡ s → all_bytes bs ≡ true → Long s w least → EachSome (GoodHead (b ∷ bs)) (long_head (b / 32) w least bs)
long_good b s w least bs e a form =
    if_some_only (GoodHead (b ∷ bs)) (leb w (length bs) && leb least (of_bytes (take w bs))) (Some (b / 32, of_bytes (take w bs), drop w bs)) (λ h.
    let p = and_parts (leb w (length bs)) (leb least (of_bytes (take w bs))) h in
    let n = of_bytes (take w bs) in
    let l : length (take w bs) ≡ w = length-take-le w bs (leb-true w (length bs) p.0) in
    let t = bytes_take w bs a in
    let below : n < 256 ^ w = rw l at (number_below (take w bs) t) in
    let z : Sized n s w = long_sized n s w least form (leb-true least n p.1) below in
    let digits : to_bytes w n ≡ take w bs = rw l at (to_of_bytes (take w bs) t) in
    let first : 32 * (b / 32) + s ≡ b = omega arith in
    (rw (sized_head (b / 32) n s w z, digits, take-append-drop w bs, first), lt-ltb n 18446744073709551616 (omega arith), bytes_drop w bs a))

pub head_good : (bs : List ℕ) → all_bytes bs ≡ true → EachSome (GoodHead bs) (decode_head bs)
unfolding decode_head all_bytes
head_good [] a = tt
head_good (b ∷ bs) a =
    let q = and_parts (ltb b 256) (all_bytes bs) a in
    let P = EachSome (GoodHead (b ∷ bs)) in
    cond_both (ltb (b % 32) 24) (Some (b / 32, b % 32, bs)) _ P
    (λ e.
    let first : 32 * (b / 32) + b % 32 ≡ b = omega arith in
    (rw (e, first), lt-ltb (b % 32) 18446744073709551616 (omega (arith, ltb-true (b % 32) 24 e)), q.1))
    (λ _. cond_both (eqb (b % 32) 24) (long_head (b / 32) 1 24 bs) _ P (λ e. long_good b 24 1 24 bs (eqb-true (b % 32) 24 e) q.1 (inl (refl, refl, refl)))
    (λ _. cond_both (eqb (b % 32) 25) (long_head (b / 32) 2 256 bs) _ P (λ e. long_good b 25 2 256 bs (eqb-true (b % 32) 25 e) q.1 (inr (inl (refl, refl, refl))))
    (λ _. cond_both (eqb (b % 32) 26) (long_head (b / 32) 4 65536 bs) _ P (λ e. long_good b 26 4 65536 bs (eqb-true (b % 32) 26 e) q.1 (inr (inr (inl (refl, refl, refl)))))
    (λ _. cond_both (eqb (b % 32) 27) (long_head (b / 32) 8 4294967296 bs) None P (λ e. long_good b 27 8 4294967296 bs (eqb-true (b % 32) 27 e) q.1 (inr (inr (inr (refl, refl, refl)))))
    (λ _. tt)))))

-- ITEMS

abbrev pub GoodItem : ℕ → List ℕ → Item × List ℕ → Type 0
GoodItem d bs g = (bs ≡ encode g.0 ++ g.1) × (valid_at d g.0 ≡ true) × (all_bytes g.1 ≡ true)

abbrev GoodItems : ℕ → ℕ → List ℕ → Items × List ℕ → Type 0
GoodItems d n bs g = (bs ≡ encode_items g.0 ++ g.1) × (valid_items d g.0 ≡ true) × (all_bytes g.1 ≡ true) × (how_many g.0 ≡ n)

abbrev GoodEntries : ℕ → ℕ → Option (List ℕ) → List ℕ → Entries × List ℕ → Type 0
GoodEntries d n last bs g =
    (bs ≡ encode_entries g.0 ++ g.1) × (valid_entries d g.0 ≡ true) × (all_bytes g.1 ≡ true) × (how_many_entries g.0 ≡ n) × After last g.0

after_none : (last : Option (List ℕ)) → After last no_entry
unfolding first_key_after
after_none None = tt
after_none (Some j) = refl

after_some : (last : Option (List ℕ)) (k v : Item) (es : Entries) → after_last last (encode k) ≡ true → After last (more_entries k v es)
unfolding first_key_after
after_some None k v es h = tt
after_some (Some j) k v es h = h

-- a decoder of which all results are good
abbrev Sound : ℕ → (List ℕ → Option (Item × List ℕ)) → Type 0
Sound d one = (bs : List ℕ) → all_bytes bs ≡ true → EachSome (GoodItem d bs) (one bs)

module _ (d : ℕ) (one : List ℕ → Option (Item × List ℕ)) (sound : Sound d one) where
  items_good : (n : ℕ) (bs : List ℕ) → all_bytes bs ≡ true → EachSome (GoodItems d n bs) (decode_items one n bs)
  unfolding decode_items encode valid_at how_many
  items_good zero bs a = (refl, refl, a, refl)
  items_good (suc n) bs a =
      if_some_then (GoodItem d bs) (GoodItems d (suc n) bs) (one bs) _ (sound bs a) (λ g (e, v, r).
      if_some_then (GoodItems d n g.1) (GoodItems d (suc n) bs) (decode_items one n g.1) _ (items_good n g.1 r) (λ gs (es, vs, rs, ns).
      (one_then bs (encode g.0) g.1 (encode_items gs.0) gs.1 e es, and_from (valid_at d g.0) (valid_items d gs.0) v vs, rs, ap suc ns)))

  entries_good : (n : ℕ) (last : Option (List ℕ)) (bs : List ℕ) → all_bytes bs ≡ true → EachSome (GoodEntries d n last bs) (decode_entries one n last bs)
  unfolding decode_entries encode valid_at how_many_entries
  entries_good zero last bs a = (refl, refl, a, refl, after_none last)
  entries_good (suc n) last bs a =
      let Q = GoodEntries d (suc n) last bs in
      if_some_then (GoodItem d bs) Q (one bs) _ (sound bs a) (λ k (ke, kv, kr).
      if_some_only Q (after_last last (encode k.0)) _ (λ y.
      if_some_then (GoodItem d k.1) Q (one k.1) _ (sound k.1 kr) (λ v (ve, vv, vr).
      let key = Some (encode k.0) in
      if_some_then (GoodEntries d n key v.1) Q (decode_entries one n key v.1) _ (entries_good n key v.1 vr) (λ es (e, h, r, m, o). (
        one_then bs (encode k.0) k.1 (encode v.0 ++ encode_entries es.0) es.1 ke (one_then k.1 (encode v.0) v.1 (encode_entries es.0) es.1 ve e),
        entry_from d k.0 v.0 es.0 (record { key = kv; value = vv; next = o; rest = h }),
        r,
        ap suc m,
        after_some last k.0 v.0 es.0 y,
      )))))

-- what a head begins, from what holds of what is in it
body_good : (d : ℕ) (nests : Bool) (one : List ℕ → Option (Item × List ℕ)) (bs : List ℕ) (h : Head)
    → (nests ≡ true → (ltb 0 d ≡ true) × Sound (d - 1) one) → GoodHead bs h → EachSome (GoodItem d bs) (decode_body nests one h)
unfolding decode_body encode valid_at
body_good d nests one bs (m, n, r) below (e, w, a) =
    let P = GoodItem d bs in
    let R = EachSome P in
    cond_both (eqb m 0) (Some (unsigned n, r)) _ R (λ z. (rw (eqb-true m 0 z) at e, w, a))
    (λ _. cond_both (eqb m 1) (Some (negative n, r)) _ R (λ z. (rw (eqb-true m 1 z) at e, w, a))
    (λ _. cond_both (eqb m 2) (only_if (leb n (length r)) (Some (byte_string (take n r), drop n r))) _ R (λ z. if_some_only P (leb n (length r)) _ (λ y.
    let l = length-take-le n r (leb-true n (length r) y) in
    (string_parts 2 (rw (eqb-true m 2 z) at e) l, and_from (word (length (take n r))) (all_bytes (take n r)) (rw l w) (bytes_take n r a), bytes_drop n r a)))
    (λ _. cond_both (eqb m 3) (only_if (leb n (length r) && utf8 (take n r)) (Some (text_string (take n r), drop n r))) _ R (λ z.
    if_some_only P (leb n (length r) && utf8 (take n r)) _ (λ y.
    let t = and_parts (leb n (length r)) (utf8 (take n r)) y in
    let l = length-take-le n r (leb-true n (length r) t.0) in
    (string_parts 3 (rw (eqb-true m 3 z) at e) l, and_from (word (length (take n r))) (utf8 (take n r)) (rw l w) t.1, bytes_drop n r a)))
    (λ _. cond_both (eqb m 4) (only_if nests (and_then (decode_items one n r) (λ g. Some (array g.0, g.1)))) _ R (λ z. if_some_only P nests _ (λ y.
    let (deep, sound) = below y in
    if_some_then (GoodItems (d - 1) n r) P (decode_items one n r) _ (items_good (d - 1) one sound n r a) (λ g (i, v, b, c). (
      then_parts 4 (how_many g.0) (encode_items g.0) g.1 c (rw (eqb-true m 4 z) at e) i,
      nested_from d (how_many g.0) (valid_items (d - 1) g.0) deep (rw c w) v,
      b,
    ))))
    (λ _. cond_both (eqb m 5) (only_if nests (and_then (decode_entries one n None r) (λ g. Some (map g.0, g.1)))) _ R (λ z. if_some_only P nests _ (λ y.
    let (deep, sound) = below y in
    if_some_then (GoodEntries (d - 1) n None r) P (decode_entries one n None r) _ (entries_good (d - 1) one sound n None r a) (λ g (i, v, b, c, o). (
      then_parts 5 (how_many_entries g.0) (encode_entries g.0) g.1 c (rw (eqb-true m 5 z) at e) i,
      nested_from d (how_many_entries g.0) (valid_entries (d - 1) g.0) deep (rw c w) v,
      b,
    ))))
    (λ _. cond_both (eqb m 6) (only_if nests (and_then (one r) (λ g. Some (tag n g.0, g.1)))) _ R (λ z. if_some_only P nests _ (λ y.
    let (deep, sound) = below y in
    if_some_then (GoodItem (d - 1) r) P (one r) _ (sound r a) (λ g (i, v, b). (
      then_parts 6 n (encode g.0) g.1 refl (rw (eqb-true m 6 z) at e) i,
      nested_from d n (valid_at (d - 1) g.0) deep w v,
      b,
    ))))
    (λ _. cond_both (eqb m 7) (only_if (is_simple n) (Some (simple n, r))) None R (λ z. if_some_only P (is_simple n) _ (λ y. (rw (eqb-true m 7 z) at e, y, a)))
    (λ _. tt))))))))
  where
    -- a head of this argument, and then what is in the item
    then_parts : (k j : ℕ) (u v : List ℕ) → j ≡ n → bs ≡ head k n ++ r → r ≡ u ++ v → bs ≡ (head k j ++ u) ++ v
    then_parts k j u v c x y = rw c (one_then bs (head k n) r u v x y)

    string_parts : (k : ℕ) → bs ≡ head k n ++ r → length (take n r) ≡ n → bs ≡ (head k (length (take n r)) ++ take n r) ++ drop n r
    string_parts k x l = then_parts k (length (take n r)) (take n r) (drop n r) l x (sym (take-append-drop n r))

pub decode_sound : (d : ℕ) → Sound d (decode d)
unfolding decode
decode_sound zero bs a =
    if_some_then (GoodHead bs) (GoodItem 0 bs) (decode_head bs) _ (head_good bs a) (λ h.
    body_good 0 false (λ rest. None) bs h (λ y. absurd (both_ways false refl y)))
decode_sound (suc d) bs a =
    let z : suc d - 1 ≡ d = omega arith in
    if_some_then (GoodHead bs) (GoodItem (suc d) bs) (decode_head bs) _ (head_good bs a) (λ h.
    body_good (suc d) true (decode d) bs h (λ y. (lt-ltb 0 (suc d) (omega arith), rw z (decode_sound d))))

pub decoded_is_encoded : DecodedIsEncoded
decoded_is_encoded d bs i rest a e = let p = if_some_at (GoodItem d bs) (decode d bs) (i, rest) e (decode_sound d bs a) in (p.0, p.1)

pub takes_no_more : TakesNoMore
takes_no_more d bs i rest other a e = let p = decoded_is_encoded d bs i rest a e in (encode i, p.0, encoded_is_decoded d i other p.1)

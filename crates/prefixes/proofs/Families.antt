-- Items without end after an item: tags on numbers, texts that count; and the few that come after the last tags.
use Rattle.std.proofs.Common.{◌≡◌, ℕ, zero, suc, ◌+◌, ◌/◌, ◌%◌, ◌^◌, ◌<◌, ◌≤◌, true, false, cond, ltb, List, [], ◌∷◌, ◌++◌, length, replicate, sym, refl, ap, ◌∙◌, inl, inr, pow-suc, arith, length-append}
use Rattle.std.proofs.lemmas.Nat.{div_below}
use Rattle.std.proofs.lemmas.List.{length-replicate}
use Rattle.std.proofs.lemmas.Bool.{lt-ltb, le-ltb, cases_lt}
use Rattle.std.proofs.lemmas.Bool.Decides.{nat_tests}
use Rattle.cbor.specs.declared.Major.TheVariants.{Unsigned, Text, Tag, Simple}
use Rattle.cbor.specs.Encoding.{head}
use Rattle.cbor.specs.Order.{before}
use Rattle.cbor.specs.Utf8.{utf8_after, utf8}
use Rattle.cbor.proofs.Heads.{head_shape}
use Rattle.cbor.proofs.Order.{before_first, before_after, before_front}
use Rattle.cbor.proofs.Utf8.{utf8_replicate}
use Rattle.prefixes.specs.Words.{Room}
use Rattle.prefixes.specs.Shapes.{SimpleFits, HeadFits, ItemAt, place_of}
use Rattle.prefixes.proofs.Order.{apart_more, apart_before, apart_not_before}
use Rattle.prefixes.proofs.Rooms.{room_before, room_run, room_map, room_map_on}
use Rattle.prefixes.proofs.Items.{item_made}
use Rattle.prefixes.proofs.Heads.{head_apart, majors_apart}
use Rattle.prefixes.proofs.Texts.{utf8_append}

-- items in order by their heads
pub before_majors : (k l m n : ℕ) (u v : List ℕ) → k < l → m < 18446744073709551616 → n < 18446744073709551616 → before (head k m ++ u) (head l n ++ v) ≡ true
before_majors k l m n u v h a b = apart_before 0 (head k m ++ u) (head l n ++ v) (apart_more 0 (head k m) (head l n) u v (majors_apart k l m n h a b))

pub before_arguments : (k m n : ℕ) (u v : List ℕ) → m < n → n < 18446744073709551616 → before (head k m ++ u) (head k n ++ v) ≡ true
before_arguments k m n u v h b = let (j, a) = head_apart k m n h b in apart_before j (head k m ++ u) (head k n ++ v) (apart_more j (head k m) (head k n) u v a)

pub not_before_majors : (k l m n : ℕ) (u v : List ℕ) → k < l → m < 18446744073709551616 → n < 18446744073709551616 → before (head l n ++ v) (head k m ++ u) ≡ false
not_before_majors k l m n u v h a b = apart_not_before 0 (head l n ++ v) (head k m ++ u) (apart_more 0 (head k m) (head l n) u v (majors_apart k l m n h a b))

pub not_before_arguments : (k m n : ℕ) (u v : List ℕ) → m < n → n < 18446744073709551616 → before (head k n ++ v) (head k m ++ u) ≡ false
not_before_arguments k m n u v h b = let (j, a) = head_apart k m n h b in apart_not_before j (head k n ++ v) (head k m ++ u) (apart_more j (head k m) (head k n) u v a)

-- the unsigned numbers
before_head : (k n : ℕ) (v : List ℕ) → n < 18446744073709551616 → before [] (head k n ++ v) ≡ true
unfolding before
before_head k n v h = let (s, w, e, z) = head_shape k n h in ap (λ x. before [] (x ++ v)) e

pub room_numbers : (d r : ℕ) → r ≤ 18446744073709551616 → Room (ItemAt d) [] r
room_numbers d r h =
    room_run (ItemAt d) (λ n. head 0 n ++ []) 18446744073709551616 [] 0 r (λ n l. item_made d (Unsigned, n) [] l refl)
    (λ n l. before_arguments 0 n (suc n) [] [] (omega arith) l) (omega arith) (λ z. before_head 0 0 [] (omega arith))

-- after what isn't a tag, at a depth: tags on numbers
tag_numbers : (d n r : ℕ) → n < 18446744073709551616 → r ≤ 18446744073709551616 → Room (ItemAt (suc d)) (head 6 n ++ []) r
tag_numbers d n r h l = room_map (ItemAt d) (ItemAt (suc d)) (head 6 n) [] r (λ v w. item_made (suc d) (Tag, n) v (h, omega arith) w) (room_numbers d r l)

pub room_below_tags : (d k n r : ℕ) (v : List ℕ) → k < 6 → n < 18446744073709551616 → r ≤ 18446744073709551616 → Room (ItemAt (suc d)) (head k n ++ v) r
room_below_tags d k n r v h a l = room_before (ItemAt (suc d)) (head 6 0 ++ []) (head k n ++ v) r (before_majors k 6 n 0 v [] h a (omega arith)) (tag_numbers d 0 r (omega arith) l)

pub room_tag : (d n r : ℕ) (v : List ℕ) → n < 18446744073709551615 → r ≤ 18446744073709551616 → Room (ItemAt (suc d)) (head 6 n ++ v) r
room_tag d n r v a l =
    room_before (ItemAt (suc d)) (head 6 (suc n) ++ []) (head 6 n ++ v) r (before_arguments 6 n (suc n) v [] (omega arith) (omega arith)) (tag_numbers d (suc n) r (omega arith) l)

-- texts that count
unfoldable pub low7 : ℕ → ℕ → List ℕ
low7 zero n = []
low7 (suc k) n = low7 k (n / 128) ++ (n % 128 ∷ [])

pub length_low7 : (k n : ℕ) → length (low7 k n) ≡ k
unfolding low7
length_low7 zero n = refl
length_low7 (suc k) n = length-append (low7 k (n / 128)) (n % 128 ∷ []) ∙ rw (length_low7 k (n / 128)) (omega arith)

low7_before : (w m n : ℕ) → m < n → n < 128 ^ w → before (low7 w m) (low7 w n) ≡ true
unfolding low7
low7_before zero m n l h = absurd (omega arith)
low7_before (suc w) m n l h = elim (cases_lt (m / 128) (n / 128)) [
  | inl a ↦
      let e = length_low7 w (m / 128) ∙ sym (length_low7 w (n / 128)) in
      before_front (low7 w (m / 128)) (low7 w (n / 128)) (m % 128 ∷ []) (n % 128 ∷ []) e
      (low7_before w (m / 128) (n / 128) a (div_below n 128 (128 ^ w) (omega arith) (rw (pow-suc 128 w) at h)))
  | inr a ↦
      let e : m / 128 ≡ n / 128 = omega arith in
      rw e (before_after (low7 w (n / 128)) (m % 128 ∷ []) (n % 128 ∷ []) (before_first (m % 128) (n % 128) [] [] (omega arith)))
]

low7_utf8 : (k n : ℕ) → utf8 (low7 k n) ≡ true
unfolding low7 utf8_after
low7_utf8 zero n = refl
low7_utf8 (suc k) n = utf8_append (low7 k (n / 128)) (n % 128 ∷ []) (low7_utf8 k (n / 128)) ∙ utf8_replicate 1 (n % 128) (omega arith)

-- a text of a beginning, and then ten bytes that count
abbrev pub counted : List ℕ → ℕ → List ℕ
counted c n = head 3 (length c + 10) ++ (c ++ low7 10 n)

pub counted_word : (d n : ℕ) (c : List ℕ) → utf8 c ≡ true → length c + 10 < 18446744073709551616 → ItemAt d (counted c n)
counted_word d n c t h =
    item_made d (Text, length c + 10) (c ++ low7 10 n) h (length-append c (low7 10 n) ∙ ap (λ k. length c + k) (length_low7 10 n), utf8_append c (low7 10 n) t ∙ low7_utf8 10 n)

counted_before : (m n : ℕ) (c : List ℕ) → m < n → n < 128 ^ 10 → before (counted c m) (counted c n) ≡ true
counted_before m n c h l = before_after (head 3 (length c + 10)) (c ++ low7 10 m) (c ++ low7 10 n) (before_after c (low7 10 m) (low7 10 n) (low7_before 10 m n h l))

pub room_counted : (d a r : ℕ) (k c : List ℕ) → utf8 c ≡ true → length c + 10 < 18446744073709551616 → a + r ≤ 128 ^ 10 → (0 < r → before k (counted c a) ≡ true) → Room (ItemAt d) k r
room_counted d a r k c t h l f =
    room_run (ItemAt d) (λ n. counted c n) (128 ^ 10) k a r (λ n z. counted_word d n c t h) (λ n z. counted_before n (suc n) c (omega arith) z) l f

-- after what isn't a text: texts of ten bytes
pub room_below_text : (d k n r : ℕ) (v : List ℕ) → k < 3 → n < 18446744073709551616 → r ≤ 18446744073709551616 → Room (ItemAt d) (head k n ++ v) r
unfolding utf8_after
room_below_text d k n r v h a l = room_counted d 0 r (head k n ++ v) [] refl (omega arith) (omega arith) (λ z. before_majors k 3 n 10 v (low7 10 0) h a (omega arith))

-- after a text: longer ones
pub room_text : (d n r : ℕ) (v : List ℕ) → n + 11 < 18446744073709551616 → r ≤ 18446744073709551616 → Room (ItemAt d) (head 3 n ++ v) r
room_text d n r v a l =
    let e = length-replicate {A = ℕ} n 0 in
    room_counted d 0 r (head 3 n ++ v) (replicate (suc n) 0) (utf8_replicate (suc n) 0 (omega arith)) (omega arith) (omega arith)
    (λ z. before_arguments 3 n (length (replicate (suc n) 0) + 10) v (replicate (suc n) 0 ++ low7 10 0) (omega arith) (omega arith))

-- or, where a text ends in ten zeros, those that count on
pub room_text_zeros : (d r : ℕ) (c : List ℕ) → utf8 c ≡ true → length c + 10 < 18446744073709551616 → r ≤ 18446744073709551616 → Room (ItemAt d) (counted c 0) r
room_text_zeros d r c t h l = room_counted d 1 r (counted c 0) c t h (omega arith) (λ z. counted_before 0 1 c (omega arith) (omega arith))

-- the simple values, in order
abbrev pub simple_at : ℕ → ℕ
simple_at n = cond (ltb n 24) n (n + 8)

simple_fits_at : (d n : ℕ) → n < 248 → HeadFits d Simple (simple_at n)
simple_fits_at d n h = elim (cases_lt n 24) [ inl a ↦ inl (rw (lt-ltb n 24 a) a) | inr a ↦ inr (rw (le-ltb n 24 a) (omega arith)) ]

simple_grows : (n : ℕ) → simple_at n < simple_at (suc n)
simple_grows n = grind (arith, nat_tests)

simple_low : (n : ℕ) → n < 248 → simple_at n < 256
simple_low n h = grind (arith, nat_tests)

pub room_from_simple : (d a r : ℕ) (k : List ℕ) → a + r ≤ 248 → (0 < r → before k (head 7 (simple_at a) ++ []) ≡ true) → Room (ItemAt d) k r
room_from_simple d a r k l f =
    room_run (ItemAt d) (λ n. head 7 (simple_at n) ++ []) 248 k a r (λ n z. item_made d (Simple, simple_at n) [] (simple_fits_at d n z) refl)
    (λ n z. before_arguments 7 (simple_at n) (simple_at (suc n)) [] [] (simple_grows n) (let y = simple_low (suc n) z in omega arith)) l f

-- after a simple value: the others
place_fits : (s : ℕ) → SimpleFits s → (place_of s < 248) × (s < simple_at (suc (place_of s)))
place_fits s h = grind (arith, nat_tests)

pub room_simple : (d s r : ℕ) (v : List ℕ) → SimpleFits s → r + place_of s ≤ 247 → Room (ItemAt d) (head 7 s ++ v) r
room_simple d s r v f h =
    let p = place_fits s f in
    room_from_simple d (suc (place_of s)) r (head 7 s ++ v) (omega arith)
    (λ z. let q = simple_low (suc (place_of s)) (omega arith) in before_arguments 7 s (simple_at (suc (place_of s))) v [] p.1 (omega arith))

-- after the last tag on something: it on what comes after that, and then all simple values
pub room_last_tag : (d r : ℕ) (v : List ℕ) → Room (ItemAt d) v r → Room (ItemAt (suc d)) (head 6 18446744073709551615 ++ v) (r + 248)
room_last_tag d r v h =
    room_map_on (ItemAt d) (ItemAt (suc d)) (head 6 18446744073709551615) v r 248 (λ w a. item_made (suc d) (Tag, 18446744073709551615) w (omega arith) a)
    (λ w. room_from_simple (suc d) 0 248 (head 6 18446744073709551615 ++ w) (omega arith) (λ z. before_majors 6 7 18446744073709551615 (simple_at 0) w [] (omega arith) (omega arith) (omega arith))) h

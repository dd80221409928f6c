-- There are items at every limit.
use Rattle.std.proofs.Common.{◌≡◌, ℕ, zero, suc, ◌+◌, ◌-◌, ◌*◌, ◌/◌, ◌%◌, ◌^◌, ◌<◌, ◌≤◌, true, false, [], ◌∷◌, replicate, sym, refl, ap, ◌∙◌, inl, inr, pow-suc, arith}
use Rattle.std.proofs.lemmas.Nat.{div_below}
use Rattle.std.proofs.lemmas.List.{length-replicate}
use Rattle.std.proofs.lemmas.Bool.{lt-ltb, and_from, cases_lt}
use Rattle.std.proofs.lemmas.Bool.Decides.{nat_tests}
use Rattle.cbor.specs.Item.{Item, unsigned, array, Items, no_item, more_items, Entries, no_entry, more_entries, how_many, how_many_entries}
use Rattle.cbor.specs.Encoding.{all_bytes, to_bytes, head, encode}
use Rattle.cbor.specs.Order.{before}
use Rattle.cbor.specs.Utf8.{utf8}
use Rattle.cbor.specs.Valid.{word, first_key_after, valid_at, valid_items, valid_entries}
use Rattle.cbor.proofs.Heads.{Sized, head_shape}
use Rattle.cbor.proofs.Numbers.{bytes_replicate, length_to_bytes}
use Rattle.laws.specs.Laws.{AtTheLimits}
use Rattle.cbor.proofs.Order.{before_first, before_later, before_after, before_front}
use Rattle.laws.proofs.Heads.{sized_long}
use Rattle.cbor.proofs.Utf8.{utf8_replicate}

-- NUMBERS IN THE ORDER OF THEIR BYTES

pub digits_before : (w a b : ℕ) → a < b → b < 256 ^ w → before (to_bytes w a) (to_bytes w b) ≡ true
unfolding to_bytes
digits_before zero a b h l = absurd (omega arith)
digits_before (suc w) a b h l =
    let k : b < 256 ^ w * 256 = rw (pow-suc 256 w) at l in
    elim (cases_lt (a / 256) (b / 256)) [
      | inl g ↦
          let e = length_to_bytes w (a / 256) ∙ sym (length_to_bytes w (b / 256)) in
          let r = digits_before w (a / 256) (b / 256) g (div_below b 256 (256 ^ w) (omega arith) k) in
          before_front (to_bytes w (a / 256)) (to_bytes w (b / 256)) (a % 256 ∷ []) (b % 256 ∷ []) e r
      | inr g ↦
          let e : a / 256 ≡ b / 256 = omega arith in
          rw e (before_after (to_bytes w (b / 256)) (a % 256 ∷ []) (b % 256 ∷ []) (before_first (a % 256) (b % 256) [] [] (omega arith)))
    ]

-- of two numbers the greater one has no shorter head
sized_order : (a b s w t x : ℕ) → Sized a s w → Sized b t x → a < b → t ≤ s → s ≡ t
sized_order a b s w t x z y h g = omega arith

sized_alike : (a b s w t x : ℕ) → Sized a s w → Sized b t x → s ≡ t → a < b → 24 ≤ b
sized_alike a b s w t x z y e h = omega arith

sized_width : (a b s w t x : ℕ) → Sized a s w → Sized b t x → s ≡ t → w ≡ x
sized_width a b s w t x z y e = omega arith

sized_before : (m a b s w t x : ℕ) → Sized a s w → Sized b t x → a < b → before ((32 * m + s) ∷ to_bytes w a) ((32 * m + t) ∷ to_bytes x b) ≡ true
sized_before m a b s w t x z y h = elim (cases_lt s t) [
  | inl g ↦ before_first (32 * m + s) (32 * m + t) (to_bytes w a) (to_bytes x b) (omega arith)
  | inr g ↦
      let e : s ≡ t = sized_order a b s w t x z y h g in
      let f : w ≡ x = sized_width a b s w t x z y e in
      let (least, form, lo, hi) = sized_long b t x y (sized_alike a b s w t x z y e h) in
      before_later (32 * m + s) (32 * m + t) (to_bytes w a) (to_bytes x b) (ap (λ k. 32 * m + k) e) (rw f (digits_before x a b h hi))
]

pub head_before : (m a b : ℕ) → a < b → b < 18446744073709551616 → before (head m a) (head m b) ≡ true
head_before m a b h l =
    let k : a < 18446744073709551616 = omega arith in
    let (s, w, p, z) = head_shape m a k in
    let (t, x, q, y) = head_shape m b l in
    ap (λ v. before v (head m b)) p ∙ ap (λ v. before ((32 * m + s) ∷ to_bytes w a) v) q ∙ sized_before m a b s w t x z y h

-- ITEMS OF EVERY SIZE

zeros : ℕ → Items
zeros zero = no_item
zeros (suc n) = more_items (unsigned 0) (zeros n)

zeros_many : (n : ℕ) → how_many (zeros n) ≡ n
unfolding zeros how_many
zeros_many zero = refl
zeros_many (suc n) = ap suc (zeros_many n)

zeros_valid : (n : ℕ) → valid_items 0 (zeros n) ≡ true
unfolding zeros valid_at
zeros_valid zero = refl
zeros_valid (suc n) = zeros_valid n

-- so many entries, with keys from a number on
numbered : ℕ → ℕ → Entries
numbered m zero = no_entry
numbered m (suc n) = more_entries (unsigned m) (unsigned 0) (numbered (suc m) n)

numbered_many : (m n : ℕ) → how_many_entries (numbered m n) ≡ n
unfolding numbered how_many_entries
numbered_many m zero = refl
numbered_many m (suc n) = ap suc (numbered_many (suc m) n)

numbered_after : (m n : ℕ) → m + n < 18446744073709551616 → first_key_after (head 0 m) (numbered (suc m) n) ≡ true
unfolding numbered first_key_after encode
numbered_after m zero h = refl
numbered_after m (suc n) h = head_before 0 m (suc m) (omega arith) (omega arith)

numbered_valid : (m n : ℕ) → m + n < 18446744073709551616 → valid_entries 0 (numbered m n) ≡ true
unfolding numbered valid_at encode
numbered_valid m zero h = refl
numbered_valid m (suc n) h =
    rw (lt-ltb m 18446744073709551616 (omega arith))
    (and_from (first_key_after (head 0 m) (numbered (suc m) n)) (valid_entries 0 (numbered (suc m) n)) (numbered_after m n (omega arith)) (numbered_valid (suc m) n (omega arith)))

-- so many arrays in one another
nested : ℕ → Item
nested zero = unsigned 0
nested (suc d) = array (more_items (nested d) no_item)

nested_valid : (d : ℕ) → valid_at d (nested d) ≡ true
unfolding nested valid_at how_many
nested_valid zero = refl
nested_valid (suc d) = let z : suc d - 1 ≡ d = omega arith in rw (lt-ltb 0 (suc d) (omega arith), z, nested_valid d)

nested_deeper : (d : ℕ) → valid_at d (nested (suc d)) ≡ false
unfolding nested valid_at how_many
nested_deeper zero = refl
nested_deeper (suc d) = let z : suc d - 1 ≡ d = omega arith in rw (lt-ltb 0 (suc d) (omega arith), z, nested_deeper d)

pub at_the_limits : AtTheLimits
unfolding valid_at
at_the_limits = record {
  numbers = λ n h. let w = lt-ltb n 18446744073709551616 h in (w, w, and_from (word n) (word n) w w);
  simples = λ n h. grind (arith, nat_tests);
  byte_strings = λ n h. (
    replicate n 0,
    length-replicate n 0,
    rw (length-replicate {A = ℕ} n 0) (and_from (word n) (all_bytes (replicate n 0)) (lt-ltb n 18446744073709551616 h) (bytes_replicate n 0 (omega arith))),
  );
  texts = λ n h. (
    replicate n 0,
    length-replicate n 0,
    rw (length-replicate {A = ℕ} n 0) (and_from (word n) (utf8 (replicate n 0)) (lt-ltb n 18446744073709551616 h) (utf8_replicate n 0 (omega arith))),
  );
  arrays = λ n h. (zeros n, zeros_many n, rw (zeros_many n) (and_from (word n) (valid_items 0 (zeros n)) (lt-ltb n 18446744073709551616 h) (zeros_valid n)));
  maps = λ n h. (
    numbered 0 n,
    numbered_many 0 n,
    rw (numbered_many 0 n) (and_from (word n) (valid_entries 0 (numbered 0 n)) (lt-ltb n 18446744073709551616 h) (numbered_valid 0 n (omega arith))),
  );
  deepest = (nested 32, nested_valid 32, nested_deeper 31);
}

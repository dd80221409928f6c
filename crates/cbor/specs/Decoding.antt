-- Decoding: the item with which bytes begin, if they begin with one, and what is left of them.
use Rattle.std.specs.Prelude.{ℕ, zero, suc, ◌/◌, ◌%◌, Bool, true, false, cond, ◌&&◌, List, [], ◌∷◌, length, take, drop, Some, None, Option, ◌==◌, nat_le, nat_lt}
use Rattle.cbor.specs.Item.{Item, unsigned, negative, byte_string, text_string, array, map, tag, simple, Items, no_item, more_items, Entries, no_entry, more_entries}
use Rattle.cbor.specs.Encoding.{of_bytes, encode}
use Rattle.cbor.specs.Order.{before}
use Rattle.cbor.specs.Utf8.{utf8}
use Rattle.cbor.specs.Valid.{is_simple}

abbrev pub and_then : {A B : Type 0} → Option A → (A → Option B) → Option B
and_then (Some x) f = f x
and_then None f = None

abbrev pub only_if : {A : Type 0} → Bool → Option A → Option A
only_if true x = x
only_if false x = None

-- a head: its major type, its argument, and what is left
abbrev pub Head : Type 0
Head = ℕ × ℕ × List ℕ

-- an argument in so many bytes, too large for a shorter form
abbrev pub long_head : ℕ → ℕ → ℕ → List ℕ → Option Head
long_head m width least bs = only_if (nat_le width (length bs) && nat_le least (of_bytes (take width bs))) (Some (m, of_bytes (take width bs), drop width bs))

unfoldable pub decode_head : List ℕ → Option Head
decode_head [] = None
decode_head (b ∷ bs) =
    cond (nat_lt (b % 32) 24) (Some (b / 32, b % 32, bs))
    (cond (b % 32 == 24) (long_head (b / 32) 1 24 bs)
    (cond (b % 32 == 25) (long_head (b / 32) 2 256 bs)
    (cond (b % 32 == 26) (long_head (b / 32) 4 65536 bs) (cond (b % 32 == 27) (long_head (b / 32) 8 4294967296 bs) None))))

-- so many items, each by a decoder
unfoldable pub decode_items : (List ℕ → Option (Item × List ℕ)) → ℕ → List ℕ → Option (Items × List ℕ)
decode_items one zero bs = Some (no_item, bs)
decode_items one (suc n) bs = and_then (one bs) (λ i. and_then (decode_items one n i.1) (λ is. Some (more_items i.0 is.0, is.1)))

-- a key that comes after the last one, if there was one
abbrev pub after_last : Option (List ℕ) → List ℕ → Bool
after_last None k = true
after_last (Some j) k = before j k

unfoldable pub decode_entries : (List ℕ → Option (Item × List ℕ)) → ℕ → Option (List ℕ) → List ℕ → Option (Entries × List ℕ)
decode_entries one zero last bs = Some (no_entry, bs)
decode_entries one (suc n) last bs =
    and_then (one bs) (λ k. only_if (after_last last (encode k.0)) (and_then (one k.1) (λ v.
    and_then (decode_entries one n (Some (encode k.0)) v.1) (λ es. Some (more_entries k.0 v.0 es.0, es.1)))))

-- what a head begins, with what is in it by a decoder; arrays, maps and tags only where they may be
unfoldable pub decode_body : Bool → (List ℕ → Option (Item × List ℕ)) → Head → Option (Item × List ℕ)
decode_body nests one (m, n, bs) =
    cond (m == 0) (Some (unsigned n, bs))
    (cond (m == 1) (Some (negative n, bs))
    (cond (m == 2) (only_if (nat_le n (length bs)) (Some (byte_string (take n bs), drop n bs)))
    (cond (m == 3) (only_if (nat_le n (length bs) && utf8 (take n bs)) (Some (text_string (take n bs), drop n bs)))
    (cond (m == 4) (only_if nests (and_then (decode_items one n bs) (λ g. Some (array g.0, g.1))))
    (cond (m == 5) (only_if nests (and_then (decode_entries one n None bs) (λ g. Some (map g.0, g.1))))
    (cond (m == 6) (only_if nests (and_then (one bs) (λ g. Some (tag n g.0, g.1))))
    (cond (m == 7) (only_if (is_simple n) (Some (simple n, bs))) None)))))))

-- with at most so many arrays, maps and tags in one another
unfoldable pub decode : ℕ → List ℕ → Option (Item × List ℕ)
decode zero bs = and_then (decode_head bs) (decode_body false (λ rest. None))
decode (suc d) bs = and_then (decode_head bs) (decode_body true (decode d))

-- A valid item in its parts, and made of them.
use Rattle.std.proofs.Common.{◌≡◌, ℕ, Bool, true, ◌&&◌, ltb, arith}
use Rattle.std.proofs.lemmas.Bool.{and_parts, and_from}
use Rattle.std.proofs.lemmas.Bool.Decides.{nat_tests}
use Rattle.cbor.specs.Item.{Item, Entries, more_entries}
use Rattle.cbor.specs.Encoding.{encode}
use Rattle.cbor.specs.Valid.{word, is_simple, first_key_after, valid_at, valid_entries}

pub simple_word : (n : ℕ) → is_simple n ≡ true → word n ≡ true
simple_word n h = grind (arith, nat_tests)

-- arrays, maps and tags: a depth, an argument, and what is in them
pub nested_parts : (d n : ℕ) (inner : Bool) → (ltb 0 d && (word n && inner)) ≡ true → (ltb 0 d ≡ true) × (word n ≡ true) × (inner ≡ true)
nested_parts d n inner h =
    let p = and_parts (ltb 0 d) (word n && inner) h in
    let q = and_parts (word n) inner p.1 in
    (p.0, q.0, q.1)

pub nested_from : (d n : ℕ) (inner : Bool) → ltb 0 d ≡ true → word n ≡ true → inner ≡ true → (ltb 0 d && (word n && inner)) ≡ true
nested_from d n inner h w i = and_from (ltb 0 d) (word n && inner) h (and_from (word n) inner w i)

-- an entry and those after it
pub record ValidEntry (d : ℕ) (k v : Item) (es : Entries) : Type 0 where
  pub key : valid_at d k ≡ true
  pub value : valid_at d v ≡ true
  pub next : first_key_after (encode k) es ≡ true
  pub rest : valid_entries d es ≡ true

pub entry_parts : (d : ℕ) (k v : Item) (es : Entries) → valid_entries d (more_entries k v es) ≡ true → ValidEntry d k v es
unfolding valid_entries
entry_parts d k v es h =
    let p = and_parts (valid_at d k && valid_at d v) (first_key_after (encode k) es && valid_entries d es) h in
    let q = and_parts (valid_at d k) (valid_at d v) p.0 in
    let r = and_parts (first_key_after (encode k) es) (valid_entries d es) p.1 in
    record { key = q.0; value = q.1; next = r.0; rest = r.1 }

pub entry_from : (d : ℕ) (k v : Item) (es : Entries) → ValidEntry d k v es → valid_entries d (more_entries k v es) ≡ true
unfolding valid_entries
entry_from d k v es e =
    and_from (valid_at d k && valid_at d v) (first_key_after (encode k) es && valid_entries d es)
    (and_from (valid_at d k) (valid_at d v) e.key e.value) (and_from (first_key_after (encode k) es) (valid_entries d es) e.next e.rest)

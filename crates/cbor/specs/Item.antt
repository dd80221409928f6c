-- Data items (RFC 8949, sections 2 and 3), as yet without floating-point numbers. A byte is a number below 256.
use Rattle.std.specs.Prelude.{ℕ, suc, List}

mutual
  pub data Item : Type 0 where
    unsigned : ℕ → Item
    negative : ℕ → Item  -- -1 less this number
    byte_string : List ℕ → Item
    text_string : List ℕ → Item  -- the bytes of its UTF-8
    array : Items → Item
    map : Entries → Item
    tag : ℕ → Item → Item
    simple : ℕ → Item  -- 20 is false, 21 true, 22 null

  pub data Items : Type 0 where
    no_item : Items
    more_items : Item → Items → Items

  pub data Entries : Type 0 where
    no_entry : Entries
    more_entries : Item → Item → Entries → Entries  -- a key and its value

unfoldable pub how_many : Items → ℕ
how_many no_item = 0
how_many (more_items i is) = suc (how_many is)

unfoldable pub how_many_entries : Entries → ℕ
how_many_entries no_entry = 0
how_many_entries (more_entries k v es) = suc (how_many_entries es)

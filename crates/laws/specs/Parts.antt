-- What stands in an item, and keys one after the other.
use Rattle.std.specs.Prelude.{◌≡◌, ℕ, true, ◌⊎◌, List}
use Rattle.cbor.specs.Item.{Item, unsigned, negative, byte_string, text_string, array, map, tag, simple, Items, no_item, more_items, Entries, no_entry, more_entries}
use Rattle.cbor.specs.Encoding.{encode}
use Rattle.cbor.specs.Order.{before}

-- an item in another, at whatever depth
unfoldable mutual
  pub Inside : Item → Item → Type 0
  Inside j (unsigned n) = ⊥
  Inside j (negative n) = ⊥
  Inside j (byte_string bs) = ⊥
  Inside j (text_string bs) = ⊥
  Inside j (array is) = Among j is
  Inside j (map es) = AmongEntries j es
  Inside j (tag n i) = (j ≡ i) ⊎ Inside j i
  Inside j (simple n) = ⊥

  pub Among : Item → Items → Type 0
  Among j no_item = ⊥
  Among j (more_items i is) = (j ≡ i) ⊎ (Inside j i ⊎ Among j is)

  pub AmongEntries : Item → Entries → Type 0
  AmongEntries j no_entry = ⊥
  AmongEntries j (more_entries k v es) = (j ≡ k) ⊎ (Inside j k ⊎ ((j ≡ v) ⊎ (Inside j v ⊎ AmongEntries j es)))

-- each key before all that come after it
unfoldable pub BeforeAll : List ℕ → Entries → Type 0
BeforeAll k no_entry = Unit {0}
BeforeAll k (more_entries j v es) = (before k (encode j) ≡ true) × BeforeAll k es

unfoldable pub Ascending : Entries → Type 0
Ascending no_entry = Unit {0}
Ascending (more_entries k v es) = BeforeAll (encode k) es × Ascending es

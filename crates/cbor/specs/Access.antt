-- Going into an item.
use Rattle.std.specs.Prelude.{cond, Some, None, Option}
use Rattle.cbor.specs.Item.{Item, Entries, no_entry, more_entries}
use Rattle.cbor.specs.Encoding.{encode}
use Rattle.cbor.specs.Order.{same}

-- the value at a key; keys are the same if their encodings are
unfoldable pub value_at : Item → Entries → Option Item
value_at k no_entry = None
value_at k (more_entries j v es) = cond (same (encode k) (encode j)) (Some v) (value_at k es)

-- The laws of requests and their bytes.
use Rattle.std.specs.Prelude.{◌≡◌, ℕ, true, List, ◌++◌}
use Rattle.cbor.specs.Encoding.{all_bytes}
use Rattle.request.specs.Asked.{Asked, write, Writable}

-- what is written is bytes
abbrev pub WrittenIsBytes : Type 0
WrittenIsBytes = (a : Asked) → Writable a → all_bytes (write a) ≡ true

-- no two requests have the same bytes, and none's begin with another's
abbrev pub OneWay : Type 0
OneWay = (a b : Asked) (u v : List ℕ) → Writable a → Writable b → write a ++ u ≡ write b ++ v → (a ≡ b) × (u ≡ v)

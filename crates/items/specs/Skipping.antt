-- What is told of heads and items that stand at a place.
use Rattle.std.specs.Prelude.{◌≡◌, ℕ, ◌-◌, ◌<◌, ◌≤◌, true, List, length, Some, None, Option}
use Rattle.std.specs.Borrow.{Bor}
use Rattle.cbor.specs.Item.{Item, Items, how_many}
use Rattle.cbor.specs.Encoding.{major_number, encode, encode_items}
use Rattle.cbor.specs.Valid.{valid_items, ItemOf}
use Rattle.cbor.specs.Prefix.{StandsAt}
use Rattle.cbor.specs.Reading.{HeadOf}
use Rattle.items.specs.declared.skipping.ItemHead.{ItemHead}

-- the head there, of whatever major type, or none
abbrev pub HeadTold : List ℕ → ℕ → Option ItemHead → Type 0
HeadTold bs at (Some h) = StandsAt (HeadOf (major_number h.major) h.argument) bs at h.next × (at < h.next)
HeadTold bs at None = (m n end : ℕ) → m < 8 → StandsAt (HeadOf m n) bs at end → ⊥

-- an end that is told is one of the bytes'
abbrev pub EndsWithin : List ℕ → ℕ → Option ℕ → Type 0
EndsWithin bs at (Some end) = (at ≤ end) × (end ≤ length bs)
EndsWithin bs at None = Unit {0}

-- where the valid item ends that stands there
pub record Skips (d : ℕ) (bs : List ℕ) (at : ℕ) (r : Option ℕ) : Type 0 where
  pub ends : (i : Item) (end : ℕ) → StandsAt (ItemOf d i) bs at end → r ≡ Some end
  pub within : EndsWithin bs at r

-- valid items one after the other, in an item at a depth
abbrev pub InnerOf : ℕ → Items → List ℕ → Type 0
InnerOf d is w = (w ≡ encode_items is) × (0 < d) × (valid_items (d - 1) is ≡ true)

-- where so many of them end
pub record SkipsItems (d n : ℕ) (bs : List ℕ) (at : ℕ) (r : Option ℕ) : Type 0 where
  pub ends : (is : Items) (end : ℕ) → how_many is ≡ n → StandsAt (InnerOf d is) bs at end → r ≡ Some end
  pub within : EndsWithin bs at r

-- the bytes of the valid item that stands there
abbrev pub PartTold : List ℕ → ℕ → Option (Bor (List ℕ)) → Type 0
PartTold bs at (Some part) = (i : Item) (end : ℕ) → StandsAt (ItemOf 32 i) bs at end → part.now ≡ encode i
PartTold bs at None = (i : Item) (end : ℕ) → StandsAt (ItemOf 32 i) bs at end → ⊥

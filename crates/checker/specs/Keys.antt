-- The keys of a map at places: the last one, whether the next comes after it, and where it is at odds with it.
use Rattle.std.specs.Prelude.{◌≡◌, ℕ, suc, ◌-◌, ◌<◌, ◌≤◌, Bool, true, false, List, [], ◌∷◌, length, drop, Some, None, IfSome, Ok, Err, Option, Result, slice_index, slice_range}
use Rattle.cbor.specs.Order.{before}
use Rattle.prefixes.specs.Words.{Reach, Room}
use Rattle.prefixes.specs.Shapes.{ItemAt}
use Rattle.prefixes.specs.Walks.{Told, odd_at, next_key, walk}
use Rattle.reach.specs.Measured.{Ended}
use Rattle.checker.specs.declared.Stop.{Stop}
use Rattle.checker.specs.declared.Stop.TheVariants.{Wrong}
use Rattle.checker.specs.declared.keys.KeySpan.{KeySpan}
use Rattle.checker.specs.Ends.{Stops}

-- as a map keeps it in two numbers
abbrev pub Kept : List ℕ → Option KeySpan → Type 0
Kept own (Some s) = (s.start ≡ slice_index own 0) × (s.end ≡ slice_index own 1) × (0 < s.end)
Kept own None = slice_index own 1 ≡ 0

abbrev pub KeyWithin : List ℕ → Option KeySpan → Type 0
KeyWithin bs last = IfSome last (λ s. (s.start ≤ s.end) × (s.end ≤ length bs))

-- whether the key from one place to another comes after it
abbrev pub AfterLast : List ℕ → Option KeySpan → ℕ → ℕ → Bool → Type 0
AfterLast bs (Some s) at end r = r ≡ before (slice_range bs s.start s.end) (slice_range bs at end)
AfterLast bs None at end r = r ≡ true

-- where a key is at odds with as much of the last one as it reaches
abbrev pub OddOf : List ℕ → List ℕ → Option ℕ → Type 0
OddOf l q (Some j) = (odd_at (length l) l q ≡ j ∷ []) × (j < length l)
OddOf l q None = odd_at (length l) l q ≡ []

-- the last key in places, and as the walk has it: an item with its reach, after which there is room
abbrev pub LastAt : List ℕ → ℕ → ℕ → Option KeySpan → List (List ℕ × ℕ) → Type 0
LastAt bs d n None [] = Unit {0}
LastAt bs d n None (k ∷ ks) = ⊥
LastAt bs d n (Some s) [] = ⊥
LastAt bs d n (Some s) (k ∷ ks) =
    (k.0 ≡ slice_range bs s.start s.end) × ItemAt d k.0 × Reach (ItemAt d) k.0 k.1 × Room (ItemAt d) k.0 n
    × ((r : ℕ) × (a : ℕ) × Ended bs s.start s.end (k.1, a) (walk d r (drop s.start bs)))

-- the place in a key at which it is at odds with the last one, if there is one
abbrev pub odds : List (List ℕ × ℕ) → List ℕ → List ℕ
odds [] q = []
odds (l ∷ ls) q = odd_at l.1 l.0 q

-- the same in places, of what stands at one
abbrev pub OddWith : List ℕ → ℕ → Option KeySpan → ℕ → Option ℕ → Type 0
OddWith bs d last at (Some p) = (at ≤ p) × ((n : ℕ) (ls : List (List ℕ × ℕ)) → LastAt bs d n last ls → odds ls (drop at bs) ≡ (p - at) ∷ [])
OddWith bs d last at None = (n : ℕ) (ls : List (List ℕ × ℕ)) → LastAt bs d n last ls → odds ls (drop at bs) ≡ []

-- a key that stops is refused where it stops, or where it is at odds with the last one before
abbrev pub Refused : List ℕ → ℕ → Option KeySpan → ℕ → Stop → Stop → Type 0
Refused bs d last at stop r = (n : ℕ) (ls : List (List ℕ × ℕ)) (t : Told (ℕ × ℕ)) → LastAt bs d n last ls → Stops at stop t → Stops at r (next_key ls (drop at bs) t)

-- a whole key that does not come after the last one is refused where it is at odds with it
abbrev pub Misplaced : List ℕ → ℕ → Option KeySpan → ℕ → ℕ → Type 0
Misplaced bs d last at p =
    (n end : ℕ) (i : ℕ × ℕ) (ls : List (List ℕ × ℕ)) (t : Told (ℕ × ℕ)) → LastAt bs d (suc n) last ls → ItemAt d (slice_range bs at end) → Ended bs at end i t → AfterLast bs last at end false
    → Stops at (Wrong p) (next_key ls (drop at bs) t)

-- a key that ends and comes after the last one, or is refused
abbrev pub KeyTold : List ℕ → ℕ → Option KeySpan → ℕ → Result ℕ Stop → Result ℕ Stop → Type 0
KeyTold bs d last at (Ok end) (Ok e) = (e ≡ end) × AfterLast bs last at end true
KeyTold bs d last at (Ok end) (Err r) = AfterLast bs last at end false × ((p : ℕ) × (r ≡ Wrong p) × Misplaced bs d last at p)
KeyTold bs d last at (Err stop) (Ok e) = ⊥
KeyTold bs d last at (Err stop) (Err r) = Refused bs d last at stop r

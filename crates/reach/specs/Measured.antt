-- What is measured of an item, held to what the walk says where it is done.
use Rattle.std.specs.Prelude.{◌≡◌, ℕ, ◌+◌, ◌-◌, ◌<◌, ◌≤◌, cond, List, length, take, drop, Some, None, Option, nat_lt}
use Rattle.cbor.specs.declared.Major.{Major}
use Rattle.cbor.specs.Encoding.{major_number}
use Rattle.cbor.specs.Utf8.{tails}
use Rattle.prefixes.specs.Words.{joined}
use Rattle.prefixes.specs.Texts.{first_in, top_of_first}
use Rattle.prefixes.specs.Walks.{Told, done, cut, wrong, on_told, carry, retold, walk_one, walk_ranges, walk_body, after_of, walk}
use Rattle.reach.specs.declared.Extent.{Extent}
use Rattle.reach.specs.declared.Measurement.{Measurement}

-- where a walk is done, it is so from a place to another, and says this
abbrev pub DoneSo : {I : Type 0} → List ℕ → ℕ → ℕ → I → Told I → Type 0
DoneSo bs at end i (done j u rest) = (j ≡ i) × (u ≡ take (end - at) (drop at bs)) × (rest ≡ drop end bs)
DoneSo bs at end i cut = Unit {0}
DoneSo bs at end i (wrong p) = Unit {0}

abbrev pub NeverDone : {I : Type 0} → Told I → Type 0
NeverDone (done i u rest) = ⊥
NeverDone cut = Unit {0}
NeverDone (wrong p) = Unit {0}

-- an end that is told is one of the bytes', and the reach is within it
abbrev pub Bounds : List ℕ → ℕ → ℕ → ℕ → Type 0
Bounds bs at end reach = (at + reach ≤ end) × (end ≤ length bs)

-- a part of an item, which says its reach
abbrev pub Extends : List ℕ → ℕ → Option Extent → Told ℕ → Type 0
Extends bs at (Some e) t = Bounds bs at e.end e.reach × DoneSo bs at e.end e.reach t
Extends bs at None t = NeverDone t

-- the same of parts in an item for which depth is left
abbrev pub ExtendsIn : ℕ → List ℕ → ℕ → Option Extent → Told ℕ → Type 0
ExtendsIn d bs at (Some e) t = Bounds bs at e.end e.reach × (0 < d → DoneSo bs at e.end e.reach t)
ExtendsIn d bs at None t = 0 < d → NeverDone t

-- a character of a text, with so many bytes of the text left
abbrev pub walk_char : ℕ → List ℕ → Told ℕ
walk_char n q = on_told (walk_one (first_in n) q) (λ a u rest. carry (λ m. joined (cond (nat_lt a (top_of_first n)) 1 0) 1 m) u (walk_ranges (tails a) rest))

abbrev pub CharExtends : List ℕ → ℕ → ℕ → Option Extent → Type 0
CharExtends bs at left (Some e) = (at < e.end) × (e.end ≤ at + left) × Extends bs at (Some e) (walk_char left (drop at bs))
CharExtends bs at left None = NeverDone (walk_char left (drop at bs))

-- arrays, maps and tags only where depth is left
abbrev pub Deep : ℕ → Major → Type 0
Deep d m = 4 ≤ major_number m → major_number m < 7 → 0 < d

-- what comes after a head: its reach, and how many items come after the whole
abbrev pub body : ℕ → ℕ → Major → ℕ → List ℕ → Told (ℕ × ℕ)
body d r m n q = retold (λ i. (i.0, after_of m n i.1)) (walk_body (walk (d - 1)) r m n q)

abbrev pub BodyMeasured : ℕ → List ℕ → Major → ℕ → ℕ → Option Measurement → Type 0
BodyMeasured d bs m n at (Some b) = Bounds bs at b.end b.reach × ((r : ℕ) → Deep d m → DoneSo bs at b.end (b.reach, b.after) (body d r m n (drop at bs)))
BodyMeasured d bs m n at None = (r : ℕ) → Deep d m → NeverDone (body d r m n (drop at bs))

-- an item of a kind of which more come after it than are counted
abbrev pub uncounted : Extent → Measurement
uncounted e = record { end = e.end; reach = e.reach; after = 18446744073709551615 }

-- whatever the demand: where the walk through an item is done, it is so up to this end, and with this reach and as many after it
abbrev pub Measured : ℕ → List ℕ → ℕ → Option Measurement → Type 0
Measured d bs at (Some m) = Bounds bs at m.end m.reach × ((r : ℕ) → DoneSo bs at m.end (m.reach, m.after) (walk d r (drop at bs)))
Measured d bs at None = (r : ℕ) → NeverDone (walk d r (drop at bs))

-- a part of the bytes from a place to another, and what it says
abbrev pub Ended : {I : Type 0} → List ℕ → ℕ → ℕ → I → Told I → Type 0
Ended bs at end i t = (at ≤ end) × (end ≤ length bs) × (t ≡ done i (take (end - at) (drop at bs)) (drop end bs))

-- the same for one who went through the item and came to its end
abbrev pub AsWalked : ℕ → List ℕ → ℕ → Option Measurement → Type 0
AsWalked d bs at (Some m) = (r end : ℕ) (i : ℕ × ℕ) → Ended bs at end i (walk d r (drop at bs)) → (m.end ≡ end) × (m.reach ≡ i.0) × (m.after ≡ i.1)
AsWalked d bs at None = (r end : ℕ) (i : ℕ × ℕ) → Ended bs at end i (walk d r (drop at bs)) → ⊥

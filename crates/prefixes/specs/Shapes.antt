-- The bytes of items as words: a head and what its major type says; arrays and maps as one word after another; with a demand for words after them.
use Rattle.std.specs.Prelude.{◌≡◌, ℕ, zero, suc, ◌+◌, ◌-◌, ◌<◌, ◌≤◌, true, cond, ◌⊎◌, List, [], ◌∷◌, length, nat_lt}
use Rattle.cbor.specs.declared.Major.{Major}
use Rattle.cbor.specs.declared.Major.TheVariants.{Unsigned, Negative, Bytes, Text, Array, Map, Tag, Simple}
use Rattle.cbor.specs.Encoding.{all_bytes, major_number, head}
use Rattle.cbor.specs.Prefix.{Then}
use Rattle.cbor.specs.Utf8.{TextOf}
use Rattle.prefixes.specs.Words.{Word, Room, Keyed, Next}

-- a major type by its number
abbrev pub major_of : ℕ → Major
major_of zero = Unsigned
major_of (suc zero) = Negative
major_of (suc (suc zero)) = Bytes
major_of (suc (suc (suc zero))) = Text
major_of (suc (suc (suc (suc zero)))) = Array
major_of (suc (suc (suc (suc (suc zero))))) = Map
major_of (suc (suc (suc (suc (suc (suc zero)))))) = Tag
major_of (suc (suc (suc (suc (suc (suc (suc n))))))) = Simple

-- the simple values that there are
abbrev pub SimpleFits : ℕ → Type 0
SimpleFits n = (n < 24) ⊎ ((32 ≤ n) × (n < 256))

-- what a head may say, so deep
abbrev pub HeadFits : ℕ → Major → ℕ → Type 0
HeadFits d Unsigned n = n < 18446744073709551616
HeadFits d Negative n = n < 18446744073709551616
HeadFits d Bytes n = n < 18446744073709551616
HeadFits d Text n = n < 18446744073709551616
HeadFits d Array n = (n < 18446744073709551616) × (0 < d)
HeadFits d Map n = (n < 18446744073709551616) × (0 < d)
HeadFits d Tag n = (n < 18446744073709551616) × (0 < d)
HeadFits d Simple n = SimpleFits n

abbrev pub HeadWord : ℕ → (Major × ℕ) → List ℕ → Type 0
HeadWord d i w = (w ≡ head (major_number i.0) i.1) × HeadFits d i.0 i.1

-- a key, after the last one if there is one, with room for so many more
abbrev pub Key : (List ℕ → Type 0) → List (List ℕ) → ℕ → List ℕ → Type 0
Key W [] r = Keyed W r
Key W (k ∷ ks) r = Next W k r

-- so many words
unfoldable pub Many : (List ℕ → Type 0) → ℕ → List ℕ → Type 0
Many W zero w = w ≡ []
Many W (suc n) w = Then (Word W) (λ _. Many W n) w

-- so many keys and values, each key after the last
unfoldable pub Pairs : (List ℕ → Type 0) → ℕ → List (List ℕ) → List ℕ → Type 0
Pairs W zero last w = w ≡ []
Pairs W (suc n) last w = Then (Word (Key W last n)) (λ k. Then (Word W) (λ _. Pairs W n (k ∷ []))) w

-- so many bytes
abbrev pub BytesOf : ℕ → List ℕ → Type 0
BytesOf n w = (length w ≡ n) × (all_bytes w ≡ true)

-- what comes after a head
abbrev pub BodyOf : (List ℕ → Type 0) → Major → ℕ → List ℕ → Type 0
BodyOf W Unsigned n w = w ≡ []
BodyOf W Negative n w = w ≡ []
BodyOf W Bytes n w = BytesOf n w
BodyOf W Text n w = TextOf n w
BodyOf W Array n w = Many W n w
BodyOf W Map n w = Pairs W n [] w
BodyOf W Tag n w = W w
BodyOf W Simple n w = w ≡ []

abbrev pub Body : (List ℕ → Type 0) → (Major × ℕ) → List ℕ → Type 0
Body W i w = BodyOf W i.0 i.1 w

-- words that are items, so deep
unfoldable pub ItemAt : ℕ → List ℕ → Type 0
ItemAt zero w = Then (HeadWord 0) (Body (λ _. ⊥)) w
ItemAt (suc d) w = Then (HeadWord (suc d)) (Body (ItemAt d)) w

-- WITH A DEMAND: words after which so many have to come

-- the place of a simple value among the 248 that there are
abbrev pub place_of : ℕ → ℕ
place_of s = cond (nat_lt s 24) s (s - 8)

abbrev pub DemandFits : ℕ → Major → ℕ → Type 0
DemandFits r Unsigned n = Unit {0}
DemandFits r Negative n = Unit {0}
DemandFits r Bytes n = Unit {0}
DemandFits r Text n = Unit {0}
DemandFits r Array n = Unit {0}
DemandFits r Map n = Unit {0}
DemandFits r Tag n = Unit {0}
DemandFits r Simple n = r + place_of n ≤ 247

abbrev pub HeadFor : ℕ → ℕ → (Major × ℕ) → List ℕ → Type 0
HeadFor d r i w = HeadWord d i w × DemandFits r i.0 i.1

-- the last tag hands the demand on, less the 248 that come after it
abbrev pub TagFits : (List ℕ → Type 0) → ℕ → Major → ℕ → List ℕ → Type 0
TagFits W r Unsigned n w = Unit {0}
TagFits W r Negative n w = Unit {0}
TagFits W r Bytes n w = Unit {0}
TagFits W r Text n w = Unit {0}
TagFits W r Array n w = Unit {0}
TagFits W r Map n w = Unit {0}
TagFits W r Tag n w = n ≡ 18446744073709551615 → Room W w (r - 248)
TagFits W r Simple n w = Unit {0}

abbrev pub BodyFor : (List ℕ → Type 0) → ℕ → (Major × ℕ) → List ℕ → Type 0
BodyFor W r i w = BodyOf W i.0 i.1 w × TagFits W r i.0 i.1 w

-- items one level down
abbrev pub Below : ℕ → List ℕ → Type 0
Below zero w = ⊥
Below (suc d) w = ItemAt d w

abbrev pub Demanded : ℕ → ℕ → List ℕ → Type 0
Demanded d r w = Then (HeadFor d r) (BodyFor (Below d) r) w

-- Sets of byte strings, called words: what begins one, one after the other, and where bytes cease to begin one.
use Rattle.std.specs.Prelude.{◌≡◌, ℕ, suc, ◌-◌, ◌<◌, ◌≤◌, List, [], ◌++◌, length, take, drop, ◌≢◌}

-- bytes that begin a word
abbrev pub Begins : (List ℕ → Type 0) → List ℕ → Type 0
Begins W q = (rest : List ℕ) × W (q ++ rest)

-- words that say something, whatever they say
abbrev pub Any : {I : Type 0} → (I → List ℕ → Type 0) → List ℕ → Type 0
Any {I} A w = (i : I) × A i w

-- no word begins with another, and none says two things
abbrev pub PrefixFree : {I : Type 0} → (I → List ℕ → Type 0) → Type 0
PrefixFree {I} A = (i j : I) (u r : List ℕ) → A i u → A j (u ++ r) → (i ≡ j) × (r ≡ [])

-- a word, and then one of a set that the first one says
abbrev pub Then : {I : Type 0} → (I → List ℕ → Type 0) → (I → List ℕ → Type 0) → List ℕ → Type 0
Then {I} A B w = (i : I) × (u : List ℕ) × (v : List ℕ) × A i u × B i v × (w ≡ u ++ v)

-- no word stands at the beginning of the bytes, and the place is the first byte with which they begin none, or how many there are if all of them
-- begin one; a word that begins with all of them has at least so many bytes
pub record Stops (W : List ℕ → Type 0) (q : List ℕ) (place least : ℕ) : Type 0 where
  pub unread : (u rest : List ℕ) → W u → q ≢ u ++ rest
  pub within : place ≤ length q
  pub begins : Begins W (take place q)
  pub ends : place < length q → Begins W (take (suc place) q) → ⊥
  pub longer : (rest : List ℕ) → W (q ++ rest) → least ≤ length (q ++ rest)

-- the same of bytes from a place on, in places of all of them
abbrev pub StopsAt : (List ℕ → Type 0) → List ℕ → ℕ → ℕ → ℕ → Type 0
StopsAt W bs at place least = (at ≤ place) × Stops W (drop at bs) (place - at) (least - at)

-- a word there, up to another place
abbrev pub StandsAt : (List ℕ → Type 0) → List ℕ → ℕ → ℕ → Type 0
StandsAt W bs at end = (at ≤ end) × (end ≤ length bs) × W (take (end - at) (drop at bs))

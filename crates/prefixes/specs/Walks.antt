-- Going through bytes: a word and what is left, bytes that begin one, or the first byte with which they begin none.
use Rattle.std.specs.Prelude.{◌≡◌, ℕ, zero, suc, ◌+◌, ◌-◌, ◌/◌, ◌%◌, ◌^◌, Bool, cond, ◌&&◌, ◌||◌, List, [], ◌∷◌, ◌++◌, length, take, drop, ◌==◌, nat_le, nat_lt}
use Rattle.cbor.specs.declared.Major.{Major}
use Rattle.cbor.specs.declared.Major.TheVariants.{Unsigned, Negative, Bytes, Text, Array, Map, Tag, Simple}
use Rattle.cbor.specs.Encoding.{of_bytes}
use Rattle.cbor.specs.Prefix.{Begins}
use Rattle.cbor.specs.Utf8.{Range, tails}
use Rattle.prefixes.specs.Words.{WrongAt, Unread, Reach, Room, After, joined, last_up, reach_of_head}
use Rattle.prefixes.specs.Shapes.{major_of, place_of}
use Rattle.prefixes.specs.Texts.{first_in, top_of_first}

-- what is told: what a word says, its bytes, what is left
pub data Told (I : Type 0) : Type 0 where
  done : I → List ℕ → List ℕ → Told I
  cut : Told I
  wrong : ℕ → Told I

-- it holds of a set of words, and of what they say
abbrev pub Holds : {I : Type 0} → (List ℕ → Type 0) → (I → List ℕ → Type 0) → List ℕ → Told I → Type 0
Holds W S q (done i u rest) = W u × S i u × (q ≡ u ++ rest)
Holds W S q cut = Begins W q × Unread W q
Holds W S q (wrong p) = WrongAt W q p × Unread W q

abbrev pub on_told : {I J : Type 0} → Told I → (I → List ℕ → List ℕ → Told J) → Told J
on_told (done i u rest) f = f i u rest
on_told cut f = cut
on_told (wrong p) f = wrong p

abbrev pub carry : {J K : Type 0} → (J → K) → List ℕ → Told J → Told K
carry g u (done j v rest) = done (g j) (u ++ v) rest
carry g u cut = cut
carry g u (wrong p) = wrong (length u + p)

abbrev pub odd_next : ℕ → List ℕ → List ℕ
odd_next zero js = 0 ∷ []
odd_next (suc m) [] = []
odd_next (suc m) (j ∷ js) = suc j ∷ []

-- the first place at which a key is at odds with the last one, within that one's reach
unfoldable pub odd_at : ℕ → List ℕ → List ℕ → List ℕ
odd_at zero l q = []
odd_at (suc m) [] q = []
odd_at (suc m) (x ∷ l) [] = []
odd_at (suc m) (x ∷ l) (b ∷ q) = cond (nat_lt b x) (0 ∷ []) (cond (nat_lt x b) [] (odd_next m (odd_at m l q)))

abbrev pub settle : {I : Type 0} → Told I → List ℕ → Told I
settle o [] = o
settle (done i u rest) (j ∷ js) = wrong j
settle cut (j ∷ js) = wrong j
settle (wrong p) (j ∷ js) = cond (nat_lt p j) (wrong p) (wrong j)

-- items one after another; what an item says is its reach, and how many come after it
unfoldable pub walk_many : (List ℕ → Told (ℕ × ℕ)) → ℕ → List ℕ → Told ℕ
walk_many walk zero q = done 0 [] q
walk_many walk (suc n) q = on_told (walk q) (λ i u rest. carry (λ m. joined i.0 (length u) m) u (walk_many walk n rest))

abbrev pub next_key : List (List ℕ × ℕ) → List ℕ → Told (ℕ × ℕ) → Told (ℕ × ℕ)
next_key [] q o = o
next_key (l ∷ ls) q o = settle o (odd_at l.1 l.0 q)

-- a key's reach counts only if one more can come after it
abbrev pub reach_of_key : ℕ → (ℕ × ℕ) → ℕ
reach_of_key n i = cond (nat_lt n i.1) i.0 0

unfoldable pub walk_pairs : (ℕ → List ℕ → Told (ℕ × ℕ)) → ℕ → List (List ℕ × ℕ) → List ℕ → Told ℕ
walk_pairs walk zero last q = done 0 [] q
walk_pairs walk (suc n) last q =
    on_told (next_key last q (walk n q)) (λ i k rest. carry (λ m. joined (reach_of_key n i) (length k) m) k
    (on_told (walk 0 rest) (λ j v rest. carry (λ m. joined j.0 (length v) m) v (walk_pairs walk n ((k, i.0) ∷ []) rest))))

-- what an item says: its reach, and how many come after it
abbrev pub Says : (List ℕ → Type 0) → (ℕ × ℕ) → List ℕ → Type 0
Says W i u = Reach W u i.0 × After W u i.1

-- the last key: a word with its reach, and room after it
abbrev pub Last : (List ℕ → Type 0) → List (List ℕ × ℕ) → ℕ → Type 0
Last W [] n = Unit {0}
Last W (l ∷ ls) n = W l.0 × Reach W l.0 l.1 × Room W l.0 n

abbrev pub lasts : List (List ℕ × ℕ) → List (List ℕ)
lasts [] = []
lasts (l ∷ ls) = l.0 ∷ []

-- one byte by a test
unfoldable pub walk_one : (ℕ → Bool) → List ℕ → Told ℕ
walk_one test [] = cut
walk_one test (b ∷ q) = cond (test b) (done b (b ∷ []) q) (wrong 0)

abbrev pub between : ℕ → ℕ → ℕ → Bool
between lo hi b = nat_le lo b && nat_le b hi

-- bytes each in a range
unfoldable pub walk_ranges : List Range → List ℕ → Told ℕ
walk_ranges [] q = done 0 [] q
walk_ranges (r ∷ rs) q = on_told (walk_one (between r.0 r.1) q) (λ b u rest. carry (λ m. joined (cond (nat_lt b r.1) 1 0) 1 m) u (walk_ranges rs rest))

-- so many bytes
abbrev pub walk_bytes : ℕ → List ℕ → Told ℕ
walk_bytes n q = cond (nat_le n (length q)) (done (last_up (take n q)) (take n q) (drop n q)) cut

-- a text of so many bytes, character by character
unfoldable pub walk_text : ℕ → ℕ → List ℕ → Told ℕ
walk_text f zero q = done 0 [] q
walk_text zero (suc n) q = cut
walk_text (suc f) (suc n) q =
    on_told (walk_one (first_in (suc n)) q) (λ a u rest. carry (λ m. joined (cond (nat_lt a (top_of_first (suc n))) 1 0) 1 m) u
    (on_told (walk_ranges (tails a) rest) (λ m t rest. carry (λ k. joined m (length t) k) t (walk_text f (n - length t) rest))))

-- HEADS

-- the first byte
abbrev pub first_for : ℕ → ℕ → ℕ → Bool
first_for d r b = (nat_le b 248 && nat_lt (b % 32) 28) && (((nat_lt b 128 || nat_le 224 b) || nat_lt 0 d) && (nat_lt b 224 || nat_le (r + (b - 224)) 247))

-- how many bytes after it settle that the form is the shortest, and how many more there are; from which number up to below which one the former are
abbrev pub fronts : ℕ → ℕ
fronts b = cond (nat_lt (b % 32) 24) 0 (cond (nat_lt (b % 32) 26) 1 (cond (nat_lt (b % 32) 27) 2 4))

abbrev pub backs : ℕ → ℕ
backs b = cond (nat_lt (b % 32) 25) 0 (cond (nat_lt (b % 32) 26) 1 (cond (nat_lt (b % 32) 27) 2 4))

abbrev pub low : ℕ → ℕ
low b = cond (nat_lt (b % 32) 24) 0 (cond (nat_le 224 b) 32 (cond (nat_lt (b % 32) 25) 24 1))

abbrev pub high : ℕ → ℕ → ℕ
high r b = cond (nat_lt (b % 32) 24) 1 (cond (nat_le 224 b) (256 - r) (256 ^ fronts b))

-- so many bytes that are a number from one up to below another
abbrev pub walk_high : ℕ → ℕ → ℕ → List ℕ → Told ℕ
walk_high h lo hi q = cond (nat_le h (length q)) (cond (nat_le lo (of_bytes (take h q)) && nat_lt (of_bytes (take h q)) hi) (done 0 (take h q) (drop h q)) (wrong (h - 1))) cut

abbrev pub head_says : List ℕ → Major × ℕ
head_says [] = (major_of 0, 0)
head_says (b ∷ t) = (major_of (b / 32), cond (nat_lt (b % 32) 24) (b % 32) (of_bytes t))

abbrev pub say : {I J : Type 0} → (List ℕ → J) → Told I → Told J
say f (done i u rest) = done (f u) u rest
say f cut = cut
say f (wrong p) = wrong p

unfoldable pub walk_head : ℕ → ℕ → List ℕ → Told (Major × ℕ)
walk_head d r q =
    say head_says (on_told (walk_one (first_for d r) q) (λ b u rest. carry (λ (m : ℕ). m) u
    (on_told (walk_high (fronts b) (low b) (high r b) rest) (λ m x rest. carry (λ (k : ℕ). k) x (walk_bytes (backs b) rest)))))

-- ITEMS

abbrev pub retold : {I J : Type 0} → (I → J) → Told I → Told J
retold f (done i u rest) = done (f i) u rest
retold f cut = cut
retold f (wrong p) = wrong p

abbrev pub walk_body : (ℕ → List ℕ → Told (ℕ × ℕ)) → ℕ → Major → ℕ → List ℕ → Told (ℕ × ℕ)
walk_body inner r Unsigned n q = done (0, 0) [] q
walk_body inner r Negative n q = done (0, 0) [] q
walk_body inner r Bytes n q = retold (λ m. (m, 0)) (walk_bytes n q)
walk_body inner r Text n q = retold (λ m. (m, 0)) (walk_text n n q)
walk_body inner r Array n q = retold (λ m. (m, 0)) (walk_many (inner 0) n q)
walk_body inner r Map n q = retold (λ m. (m, 0)) (walk_pairs inner n [] q)
walk_body inner r Tag n q = cond (n == 18446744073709551615) (inner (r - 248) q) (inner 0 q)
walk_body inner r Simple n q = done (0, 0) [] q

-- 248 more, up to 2^64 - 1
abbrev pub capped : ℕ → ℕ
capped a = cond (nat_lt a 18446744073709551368) (a + 248) 18446744073709551615

-- how many come after an item, from how many come after what a tag is on
abbrev pub after_of : Major → ℕ → ℕ → ℕ
after_of Unsigned n a = 18446744073709551615
after_of Negative n a = 18446744073709551615
after_of Bytes n a = 18446744073709551615
after_of Text n a = 18446744073709551615
after_of Array n a = 18446744073709551615
after_of Map n a = 18446744073709551615
after_of Tag n a = cond (n == 18446744073709551615) (capped a) 18446744073709551615
after_of Simple n a = 247 - place_of n

abbrev pub walk_item : (ℕ → List ℕ → Told (ℕ × ℕ)) → ℕ → ℕ → List ℕ → Told (ℕ × ℕ)
walk_item inner d r q =
    on_told (walk_head d r q) (λ i u rest. carry (λ m. (joined (reach_of_head u) (length u) m.0, after_of i.0 i.1 m.1)) u (walk_body inner r i.0 i.1 rest))

unfoldable pub walk : ℕ → ℕ → List ℕ → Told (ℕ × ℕ)
walk zero r q = walk_item (λ s x. cut) 0 r q
walk (suc d) r q = walk_item (walk d) (suc d) r q

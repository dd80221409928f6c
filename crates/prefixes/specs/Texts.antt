-- Texts byte by byte: a first byte of a character, bytes in ranges after it, and a text.
use Rattle.std.specs.Prelude.{◌≡◌, ℕ, suc, ◌-◌, ◌≤◌, true, cond, List, [], ◌∷◌, length, nat_le, nat_lt}
use Rattle.cbor.specs.Prefix.{Then}
use Rattle.cbor.specs.Utf8.{Range, leads, tails, TextOf}
use Rattle.prefixes.specs.Words.{Word, joined}
pub use Rattle.cbor.specs.Utf8.{first_in}

-- a byte that something holds of, as a word
abbrev pub One : (ℕ → Type 0) → ℕ → List ℕ → Type 0
One P b w = (w ≡ b ∷ []) × P b

abbrev pub Between : ℕ → ℕ → ℕ → Type 0
Between lo hi b = (lo ≤ b) × (b ≤ hi)

-- a byte in each of some ranges
unfoldable pub Ranges : List Range → List ℕ → Type 0
Ranges [] w = w ≡ []
Ranges (r ∷ rs) w = Then (One (Between r.0 r.1)) (λ _. Ranges rs) w

unfoldable pub ranges_reach : List Range → List ℕ → ℕ
ranges_reach [] t = 0
ranges_reach (r ∷ rs) [] = 0
ranges_reach (r ∷ rs) (b ∷ t) = joined (cond (nat_lt b r.1) 1 0) 1 (ranges_reach rs t)

-- the first byte of a character, if so many bytes are left
abbrev pub FirstIn : ℕ → ℕ → Type 0
FirstIn n a = (leads a ≡ true) × (suc (length (tails a)) ≤ n)

-- the largest first byte, if so many bytes are left
abbrev pub top_of_first : ℕ → ℕ
top_of_first n = cond (nat_le 4 n) 244 (cond (nat_le 3 n) 239 (cond (nat_le 2 n) 223 127))

-- a text as a first byte, the bytes after it, and a text
abbrev pub CharText : ℕ → List ℕ → Type 0
CharText n w = Then (One (FirstIn n)) (λ a. Then (Word (Ranges (tails a))) (λ t. TextOf (n - suc (length t)))) w

-- UTF-8 (RFC 3629, section 4): by the first byte of a character, from which number to which one each byte after it is.
use Rattle.std.specs.Prelude.{◌≡◌, ℕ, suc, Bool, true, false, cond, ◌&&◌, ◌||◌, List, [], ◌∷◌, length, ◌==◌, nat_le, nat_lt}

abbrev pub Range : Type 0
Range = ℕ × ℕ

abbrev pub tail : Range
tail = (128, 191)

-- no character in more bytes than it takes, no half of a surrogate pair, none beyond 10FFFF
abbrev pub second : ℕ → Range
second a = cond (a == 224) (160, 191) (cond (a == 237) (128, 159) (cond (a == 240) (144, 191) (cond (a == 244) (128, 143) tail)))

abbrev pub leads : ℕ → Bool
leads a = nat_lt a 128 || (nat_le 194 a && nat_le a 244)

abbrev pub tails : ℕ → List Range
tails a = cond (nat_lt a 128) [] (cond (nat_lt a 224) (tail ∷ []) (cond (nat_lt a 240) (second a ∷ tail ∷ []) (second a ∷ tail ∷ tail ∷ [])))

-- a first byte of a character that ends within so many bytes, this one counted
abbrev pub first_in : ℕ → ℕ → Bool
first_in n a = leads a && nat_le (suc (length (tails a))) n

-- bytes that end the character of which so much is pending, and then whole characters
unfoldable pub utf8_after : List Range → List ℕ → Bool
utf8_after [] [] = true
utf8_after (r ∷ rs) [] = false
utf8_after [] (a ∷ bs) = leads a && utf8_after (tails a) bs
utf8_after (r ∷ rs) (b ∷ bs) = (nat_le r.0 b && nat_le b r.1) && utf8_after rs bs

abbrev pub utf8 : List ℕ → Bool
utf8 bs = utf8_after [] bs

-- the texts of a length in bytes
abbrev pub TextOf : ℕ → List ℕ → Type 0
TextOf n w = (length w ≡ n) × (utf8 w ≡ true)

-- The tokens of a CBOR sequence (RFC 8742) of unsigned integers and byte strings.
use Rattle.std.specs.Prelude.{◌≡◌, ℕ, ◌<◌, ◌≤◌, true, List, [], ◌∷◌, ◌++◌, length}
use Rattle.cbor.specs.Encoding.{all_bytes, head}

pub data Token : Type 0 where
  num : ℕ → Token
  str : List ℕ → Token

abbrev pub token_bytes : Token → List ℕ
token_bytes (num n) = head 0 n
token_bytes (str bs) = head 2 (length bs) ++ bs

unfoldable pub spell : List Token → List ℕ
spell [] = []
spell (t ∷ ts) = token_bytes t ++ spell ts

-- numbers of eight bytes, strings of bytes
abbrev pub Word : ℕ → Type 0
Word n = n < 18446744073709551616

abbrev pub ByteString : List ℕ → Type 0
ByteString bs = (all_bytes bs ≡ true) × Word (length bs)

-- which tokens may come: numbers up to and with one, and of one byte; all numbers; byte strings
pub data Shape : Type 0 where
  opcode : ℕ → Shape
  number : Shape
  string : Shape

abbrev pub Suits : Shape → Token → Type 0
Suits (opcode last) (num n) = (n ≤ last) × (n < 24)
Suits (opcode last) (str bs) = ⊥
Suits number (num n) = Word n
Suits number (str bs) = ⊥
Suits string (num n) = ⊥
Suits string (str bs) = ByteString bs

-- as bytes
abbrev pub TokenOf : Shape → Token → List ℕ → Type 0
TokenOf s t w = (w ≡ token_bytes t) × Suits s t

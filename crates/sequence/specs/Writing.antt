-- Tokens as they are handed over to be written, and how many bytes they have.
use Rattle.std.specs.Prelude.{◌≡◌, ℕ, ◌≤◌, List, map, length, Some, None, Option}
use Rattle.sequence.specs.declared.writing.Token.{Token as LentToken}
use Rattle.sequence.specs.declared.writing.Token.TheVariants.{Number, Bytes}
use Rattle.sequence.specs.Token.{Token, num, str}

abbrev pub token_of : LentToken → Token
token_of (Number n) = num n
token_of (Bytes content) = str content.now

abbrev pub tokens_of : List LentToken → List Token
tokens_of ts = map token_of ts

-- as many bytes as a string has, or none if that is more than can be counted
abbrev pub SizeOf : List ℕ → Option ℕ → Type 0
SizeOf w (Some n) = n ≡ length w
SizeOf w None = 18446744073709551616 ≤ length w

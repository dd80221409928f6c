-- What can be asked, and its bytes: a CBOR sequence of unsigned integers and byte strings.
use Rattle.std.specs.Prelude.{◌≡◌, ℕ, List, [], ◌∷◌, ◌++◌, length}
use Rattle.sequence.specs.Token.{Token, num, str, spell, Word, ByteString}

-- a step into an item: to an array's element by its number from 0, to the value at the key that has these bytes, to what a tag is on
pub data Step : Type 0 where
  index : ℕ → Step
  key : List ℕ → Step
  content : Step

pub data Asked : Type 0 where
  check : List ℕ → Asked
  find : List Step → List ℕ → Asked
  fit : List ℕ → ℕ → List ℕ → Asked  -- rules as their bytes, which of them, the item

abbrev pub step_tokens : Step → List Token
step_tokens (index n) = num 0 ∷ num n ∷ []
step_tokens (key k) = num 1 ∷ str k ∷ []
step_tokens content = num 2 ∷ []

unfoldable pub path_tokens : List Step → List Token
path_tokens [] = []
path_tokens (p ∷ ps) = step_tokens p ++ path_tokens ps

abbrev pub tokens : Asked → List Token
tokens (check item) = num 0 ∷ str item ∷ []
tokens (find path item) = num 1 ∷ num (length path) ∷ (path_tokens path ++ str item ∷ [])
tokens (fit rules which item) = num 2 ∷ str rules ∷ num which ∷ str item ∷ []

abbrev pub write : Asked → List ℕ
write a = spell (tokens a)

-- what can be written: numbers of eight bytes, strings of bytes
abbrev pub WritableStep : Step → Type 0
WritableStep (index n) = Word n
WritableStep (key k) = ByteString k
WritableStep content = Unit {0}

unfoldable pub WritablePath : List Step → Type 0
WritablePath [] = Unit {0}
WritablePath (p ∷ ps) = WritableStep p × WritablePath ps

abbrev pub Writable : Asked → Type 0
Writable (check item) = ByteString item
Writable (find path item) = WritablePath path × Word (length path) × ByteString item
Writable (fit rules which item) = ByteString rules × Word which × ByteString item

-- bytes that are a request
abbrev pub IsRequest : Asked → List ℕ → Type 0
IsRequest a w = (w ≡ write a) × Writable a

-- The grammar of requests.
use Rattle.std.specs.Prelude.{ℕ, zero, suc, List, [], ◌∷◌}
use Rattle.sequence.specs.Token.{Shape, opcode, number, string}
use Rattle.sequence.specs.Grammar.{Grammar, many}

pub data Sort : Type 0 where
  a_request : Sort
  a_path : Sort
  a_step : Sort
  a_number : Sort
  a_string : Sort

abbrev pub shape : Sort → Shape
shape a_request = opcode 2
shape a_path = number
shape a_step = opcode 2
shape a_number = number
shape a_string = string

abbrev pub after_request : ℕ → List Sort
after_request zero = a_string ∷ []
after_request (suc zero) = a_path ∷ a_string ∷ []
after_request (suc (suc n)) = a_string ∷ a_number ∷ a_string ∷ []

abbrev pub after_step : ℕ → List Sort
after_step zero = a_number ∷ []
after_step (suc zero) = a_string ∷ []
after_step (suc (suc n)) = []

abbrev pub after : Sort → ℕ → List Sort
after a_request n = after_request n
after a_path n = many n a_step
after a_step n = after_step n
after a_number n = []
after a_string n = []

abbrev pub requests : Grammar Sort
requests = record { shape = shape; after = after }

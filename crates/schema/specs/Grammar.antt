-- The grammar of rules, and how many parts stand in tokens.
use Rattle.std.specs.Prelude.{ℕ, zero, suc, ◌+◌, List, [], ◌∷◌, ◌++◌, length}
use Rattle.sequence.specs.Token.{Token, num, str, Shape, opcode, number, string}
use Rattle.sequence.specs.Grammar.{Grammar, next, many}

-- a bound is followed by another number of its part; a last is the last of them
pub data Sort : Type 0 where
  the_rules : Sort
  a_rule : Sort
  a_schema : Sort
  a_group : Sort
  the_fields : Sort
  a_field : Sort
  a_bound : Sort
  a_last : Sort
  a_literal : Sort

abbrev pub shape : Sort → Shape
shape the_rules = number
shape a_rule = opcode 10
shape a_schema = opcode 10
shape a_group = opcode 4
shape the_fields = number
shape a_field = opcode 2
shape a_bound = number
shape a_last = number
shape a_literal = string

abbrev pub after_schema : ℕ → List Sort
after_schema zero = []
after_schema (suc zero) = a_bound ∷ a_last ∷ []
after_schema (suc (suc zero)) = a_bound ∷ a_last ∷ []
after_schema (suc (suc (suc zero))) = a_bound ∷ a_last ∷ []
after_schema (suc (suc (suc (suc zero)))) = a_bound ∷ a_last ∷ []
after_schema (suc (suc (suc (suc (suc zero))))) = a_literal ∷ []
after_schema (suc (suc (suc (suc (suc (suc zero)))))) = a_schema ∷ a_schema ∷ []
after_schema (suc (suc (suc (suc (suc (suc (suc zero))))))) = a_group ∷ []
after_schema (suc (suc (suc (suc (suc (suc (suc (suc zero)))))))) = the_fields ∷ []
after_schema (suc (suc (suc (suc (suc (suc (suc (suc (suc zero))))))))) = a_last ∷ a_schema ∷ []
after_schema (suc (suc (suc (suc (suc (suc (suc (suc (suc (suc n)))))))))) = a_last ∷ []

abbrev pub after_group : ℕ → List Sort
after_group zero = []
after_group (suc zero) = a_schema ∷ []
after_group (suc (suc zero)) = a_group ∷ a_group ∷ []
after_group (suc (suc (suc zero))) = a_group ∷ a_group ∷ []
after_group (suc (suc (suc (suc n)))) = a_bound ∷ a_last ∷ a_group ∷ []

abbrev pub after_field : ℕ → List Sort
after_field zero = a_literal ∷ a_schema ∷ []
after_field (suc zero) = a_literal ∷ a_schema ∷ []
after_field (suc (suc n)) = a_schema ∷ a_schema ∷ []

abbrev pub after : Sort → ℕ → List Sort
after the_rules n = many n a_rule
after a_rule n = after_schema n
after a_schema n = after_schema n
after a_group n = after_group n
after the_fields n = many n a_field
after a_field n = after_field n
after a_bound n = []
after a_last n = []
after a_literal n = []

abbrev pub grammar : Grammar Sort
grammar = record { shape = shape; after = after }

-- a part counts as soon as its own numbers and strings are complete, a rule as its schema begins
abbrev pub schema_weight : ℕ → ℕ
schema_weight zero = 1
schema_weight (suc zero) = 0
schema_weight (suc (suc zero)) = 0
schema_weight (suc (suc (suc zero))) = 0
schema_weight (suc (suc (suc (suc zero)))) = 0
schema_weight (suc (suc (suc (suc (suc zero))))) = 0
schema_weight (suc (suc (suc (suc (suc (suc zero)))))) = 1
schema_weight (suc (suc (suc (suc (suc (suc (suc zero))))))) = 1
schema_weight (suc (suc (suc (suc (suc (suc (suc (suc n)))))))) = 0

abbrev pub group_weight : ℕ → ℕ
group_weight zero = 1
group_weight (suc zero) = 1
group_weight (suc (suc zero)) = 1
group_weight (suc (suc (suc zero))) = 1
group_weight (suc (suc (suc (suc n)))) = 0

abbrev pub field_weight : ℕ → ℕ
field_weight zero = 0
field_weight (suc zero) = 0
field_weight (suc (suc n)) = 1

abbrev pub number_weight : Sort → ℕ → ℕ
number_weight the_rules n = 0
number_weight a_rule n = 1 + schema_weight n
number_weight a_schema n = schema_weight n
number_weight a_group n = group_weight n
number_weight the_fields n = 1
number_weight a_field n = field_weight n
number_weight a_bound n = 0
number_weight a_last n = 1
number_weight a_literal n = 0

abbrev pub weight : Sort → Token → ℕ
weight s (num n) = number_weight s n
weight s (str bs) = 1 + length bs

-- the parts that tokens complete, from what is pending on
unfoldable pub parts_in : List Sort → List Token → ℕ
parts_in ss [] = 0
parts_in [] (t ∷ ts) = 0
parts_in (s ∷ ss) (t ∷ ts) = weight s t + parts_in (next grammar s t ++ ss) ts

-- The stack of what is pending: two numbers for each run, a sort and how many of it, the top one last.
use Rattle.std.specs.Prelude.{◌≡◌, ℕ, zero, suc, List, [], ◌∷◌, ◌++◌, Some, None, Option, slice_index, slice_index_or}
use Rattle.schema.specs.declared.nodes.Sort.{Sort as NodeSort}
use Rattle.sequence.specs.Grammar.{many}
use Rattle.schema.specs.Grammar.{Sort, a_rule, a_schema, a_group, a_field}
use Rattle.schema.specs.Nodes.{sort_of}

abbrev pub number_sort : ℕ → Sort
number_sort zero = a_rule
number_sort (suc zero) = a_schema
number_sort (suc (suc zero)) = a_group
number_sort (suc (suc (suc n))) = a_field

abbrev pub in_run : List ℕ → List Sort
in_run run = many (slice_index run 1) (number_sort (slice_index run 0))

unfoldable pub pending : List (List ℕ) → ℕ → List Sort
pending runs zero = []
pending runs (suc k) = in_run (slice_index_or runs k []) ++ pending runs k

-- what is next is taken, or nothing is pending
abbrev pub Pops : List Sort → List Sort → Option NodeSort → Type 0
Pops old new (Some s) = old ≡ sort_of s ∷ new
Pops old new None = old ≡ []

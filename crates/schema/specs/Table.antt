-- The table of rules: a row of numbers for each node, in the order of their bytes, each parent before its children.
use Rattle.std.specs.Prelude.{◌≡◌, ℕ, zero, suc, ◌+◌, ◌*◌, ◌<◌, ◌⊎◌, List, [], ◌∷◌, ◌++◌, length, take, drop, Some, None, Option, ◌≢◌, slice_index}
use Rattle.sequence.specs.Token.{Token, num, str}
use Rattle.sequence.specs.Reading.{SpelledAt}
use Rattle.schema.specs.declared.nodes.Node.{Node}
use Rattle.schema.specs.declared.entries.Entry.{Entry}
use Rattle.schema.specs.Entries.{form_tokens}
use Rattle.schema.specs.Nodes.{own_tokens}

-- what a row says: an opcode, and by its form no number more, one, two, or a string by where it stands and how long it is
abbrev pub row_says : List ℕ → ℕ → ℕ → ℕ → ℕ → List Token
row_says bs opcode zero a b = num opcode ∷ []
row_says bs opcode (suc zero) a b = num opcode ∷ num a ∷ []
row_says bs opcode (suc (suc zero)) a b = num opcode ∷ num a ∷ num b ∷ []
row_says bs opcode (suc (suc (suc n))) a b = num opcode ∷ str (take b (drop a bs)) ∷ []

abbrev pub row_at : List ℕ → List ℕ → ℕ → List Token
row_at bs table i = row_says bs (slice_index table (4 * i)) (slice_index table (4 * i + 1)) (slice_index table (4 * i + 2)) (slice_index table (4 * i + 3))

unfoldable pub rows : List ℕ → List ℕ → ℕ → List Token
rows bs table zero = []
rows bs table (suc n) = rows bs table n ++ row_at bs table n

-- the row of an entry that ends at a place of the bytes
abbrev pub RowOf : Entry → ℕ → List ℕ → Type 0
RowOf e next row = (bs : List ℕ) (at : ℕ) → SpelledAt (form_tokens e.opcode e.form) bs at next → row_at bs row 0 ≡ form_tokens e.opcode e.form

-- one row more, and those before it as they were
abbrev pub RowWritten : List ℕ → ℕ → Node → ℕ → List ℕ → Type 0
RowWritten old i x next new = (bs : List ℕ) (at : ℕ) → SpelledAt (own_tokens x) bs at next → rows bs new (i + 1) ≡ rows bs old i ++ own_tokens x

abbrev pub EntryAt : List ℕ → List ℕ → ℕ → Option Entry → Type 0
EntryAt bs table i (Some e) = form_tokens e.opcode e.form ≡ row_at bs table i
EntryAt bs table i None = length table < 4 * i + 4

-- the node of a sort that a row is; or none, where the table ends before, or no node of that sort is written like that
abbrev pub Seen : {A : Type 0} → (A → Node) → List ℕ → List ℕ → ℕ → Option A → Type 0
Seen node bs table i (Some x) = own_tokens (node x) ≡ row_at bs table i
Seen {A} node bs table i None = (length table < 4 * i + 4) ⊎ ((x : A) → own_tokens (node x) ≢ row_at bs table i)

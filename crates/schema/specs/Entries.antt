-- Nodes as they are written: an opcode, and what stands after it.
use Rattle.std.specs.Prelude.{◌≡◌, ℕ, List, [], ◌∷◌, Some, None, Option}
use Rattle.sequence.specs.Token.{Token, num, str}
use Rattle.schema.specs.declared.nodes.Node.{Node}
use Rattle.schema.specs.declared.entries.Form.{Form}
use Rattle.schema.specs.declared.entries.Form.TheVariants.{Bare, Number, Numbers, String}
use Rattle.schema.specs.declared.entries.Entry.{Entry}
use Rattle.schema.specs.Nodes.{own_tokens}

abbrev pub form_tokens : ℕ → Form → List Token
form_tokens opcode Bare = num opcode ∷ []
form_tokens opcode (Number a) = num opcode ∷ num a ∷ []
form_tokens opcode (Numbers a b) = num opcode ∷ num a ∷ num b ∷ []
form_tokens opcode (String s) = num opcode ∷ str s.now ∷ []

abbrev pub EntryOf : Node → Entry → Type 0
EntryOf x e = form_tokens e.opcode e.form ≡ own_tokens x

-- the node of a kind that an entry is; or none, where no node of that kind is written like that
abbrev pub NodeOf : {A : Type 0} → (A → Node) → Entry → Option A → Type 0
NodeOf node e (Some x) = EntryOf (node x) e
NodeOf {A} node e None = (x : A) → EntryOf (node x) e → ⊥

-- What reading a node tells.
use Rattle.std.specs.Prelude.{◌≡◌, ℕ, ◌<◌, ◌⊎◌, List, [], ◌∷◌, ◌++◌, Ok, Err, Result}
use Rattle.cbor.specs.declared.reading.Stop.{Stop}
use Rattle.sequence.specs.Token.{Token, num, Word}
use Rattle.sequence.specs.Grammar.{Takes}
use Rattle.sequence.specs.declared.reading.Parsed.{Parsed}
use Rattle.sequence.specs.Reading.{SpelledAt, PendingStops}
use Rattle.schema.specs.declared.nodes.Node.{Node}
use Rattle.schema.specs.declared.nodes.Node.TheVariants.{OfSchema, OfGroup, OfField}
use Rattle.schema.specs.Grammar.{Sort, the_rules, a_rule, a_schema, a_group, the_fields, a_field, a_bound, a_last, a_literal, after, grammar}
use Rattle.schema.specs.Nodes.{own_tokens, inside}

-- what is pending begins with a node, and not inside one
abbrev pub Opens : Sort → Type 0
Opens the_rules = ⊥
Opens a_rule = Unit {0}
Opens a_schema = Unit {0}
Opens a_group = Unit {0}
Opens the_fields = ⊥
Opens a_field = Unit {0}
Opens a_bound = ⊥
Opens a_last = ⊥
Opens a_literal = ⊥

abbrev pub Whole : List Sort → Type 0
Whole [] = Unit {0}
Whole (s ∷ ss) = Opens s

-- no tokens that stand there are whole nodes
abbrev pub Stuck : List Sort → List ℕ → ℕ → Type 0
Stuck ss bs at = (vs : List Token) (rest : List Sort) (end : ℕ) → Takes grammar ss vs rest → SpelledAt vs bs at end → Whole rest → vs ≡ []

-- bytes cease to begin what is pending, before a node of it is whole
abbrev pub Ceases : List Sort → List ℕ → ℕ → Stop → Type 0
Ceases ss bs at stop = PendingStops grammar ss bs at stop × Stuck ss bs at

-- a node of a sort
abbrev pub OfSort : Sort → Node → Type 0
OfSort s (OfSchema x) = (s ≡ a_schema) ⊎ (s ≡ a_rule)
OfSort s (OfGroup x) = s ≡ a_group
OfSort s (OfField x) = s ≡ a_field

-- its own tokens stand there, and take the sort to what is in the node
abbrev pub NodeAt : Sort → List ℕ → ℕ → Result (Parsed Node) Stop → Type 0
NodeAt s bs at (Ok x) = OfSort s x.value × (at < x.next) × SpelledAt (own_tokens x.value) bs at x.next × ((ss : List Sort) → Takes grammar (s ∷ ss) (own_tokens x.value) (inside x.value ++ ss))
NodeAt s bs at (Err stop) = (ss : List Sort) → Ceases (s ∷ ss) bs at stop

-- the same after a node's opcode
abbrev pub RestAt : Sort → ℕ → List ℕ → ℕ → Result (Parsed Node) Stop → Type 0
RestAt s n bs at (Ok x) = OfSort s x.value × (ts : List Token) × (own_tokens x.value ≡ num n ∷ ts) × SpelledAt ts bs at x.next × ((ss : List Sort) → Takes grammar (after s n ++ ss) ts (inside x.value ++ ss))
RestAt s n bs at (Err stop) = (ss : List Sort) → Ceases (after s n ++ ss) bs at stop × (Whole (after s n ++ ss) → ⊥)

-- a schema, a group or a field, as its node
abbrev pub MadeAt : {T : Type 0} → (T → Node) → Sort → List ℕ → ℕ → Result (Parsed T) Stop → Type 0
MadeAt node_of s bs at (Ok x) = NodeAt s bs at (Ok (record { value = node_of x.value; next = x.next }))
MadeAt node_of s bs at (Err stop) = NodeAt s bs at (Err stop)

-- what is made of two numbers
abbrev pub RangedAt : {T : Type 0} → (ℕ → ℕ → T → Type 0) → List ℕ → ℕ → Result (Parsed T) Stop → Type 0
RangedAt made bs at (Ok x) = (lo : ℕ) × (hi : ℕ) × made lo hi x.value × Word lo × Word hi × SpelledAt (num lo ∷ num hi ∷ []) bs at x.next
RangedAt made bs at (Err stop) = (ss : List Sort) → Ceases (a_bound ∷ a_last ∷ ss) bs at stop

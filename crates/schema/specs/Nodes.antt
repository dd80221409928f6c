-- One schema, group or field as it is read: the tokens that are its own, what is pending for those in it, and the parts that it counts for.
use Rattle.std.specs.Prelude.{ℕ, List, [], ◌∷◌, length}
use Rattle.sequence.specs.Token.{Token, num, str}
use Rattle.schema.specs.declared.nodes.Schema.{Schema}
use Rattle.schema.specs.declared.nodes.Schema.TheVariants.{Any, Unsigned, Negative, ByteLength, TextLength, Literal, Choice, Array, Map, Tag, Rule}
use Rattle.schema.specs.declared.nodes.Group.{Group}
use Rattle.schema.specs.declared.nodes.Group.TheVariants.{Empty, One, Sequence, FirstOf, Repeat}
use Rattle.schema.specs.declared.nodes.Field.{Field}
use Rattle.schema.specs.declared.nodes.Field.TheVariants.{Required, Optional, Others}
use Rattle.schema.specs.declared.nodes.Node.{Node}
use Rattle.schema.specs.declared.nodes.Node.TheVariants.{OfSchema, OfGroup, OfField}
use Rattle.schema.specs.declared.nodes.Sort.{Sort as NodeSort}
use Rattle.schema.specs.declared.nodes.Sort.TheVariants.{ARule, ASchema, AGroup, AField}
use Rattle.schema.specs.declared.nodes.Run.{Run}
use Rattle.sequence.specs.Grammar.{many}
use Rattle.schema.specs.Grammar.{Sort, a_rule, a_schema, a_group, a_field}

abbrev pub schema_own : Schema → List Token
schema_own Any = num 0 ∷ []
schema_own (Unsigned lo hi) = num 1 ∷ num lo ∷ num hi ∷ []
schema_own (Negative lo hi) = num 2 ∷ num lo ∷ num hi ∷ []
schema_own (ByteLength lo hi) = num 3 ∷ num lo ∷ num hi ∷ []
schema_own (TextLength lo hi) = num 4 ∷ num lo ∷ num hi ∷ []
schema_own (Literal item) = num 5 ∷ str item.now ∷ []
schema_own Choice = num 6 ∷ []
schema_own Array = num 7 ∷ []
schema_own (Map count) = num 8 ∷ num count ∷ []
schema_own (Tag n) = num 9 ∷ num n ∷ []
schema_own (Rule n) = num 10 ∷ num n ∷ []

abbrev pub group_own : Group → List Token
group_own Empty = num 0 ∷ []
group_own One = num 1 ∷ []
group_own Sequence = num 2 ∷ []
group_own FirstOf = num 3 ∷ []
group_own (Repeat lo hi) = num 4 ∷ num lo ∷ num hi ∷ []

abbrev pub field_own : Field → List Token
field_own (Required key) = num 0 ∷ str key.now ∷ []
field_own (Optional key) = num 1 ∷ str key.now ∷ []
field_own Others = num 2 ∷ []

abbrev pub own_tokens : Node → List Token
own_tokens (OfSchema s) = schema_own s
own_tokens (OfGroup g) = group_own g
own_tokens (OfField f) = field_own f

abbrev pub sort_of : NodeSort → Sort
sort_of ARule = a_rule
sort_of ASchema = a_schema
sort_of AGroup = a_group
sort_of AField = a_field

-- how many, and of which sort
abbrev pub inner_of_schema : Schema → Sort × ℕ
inner_of_schema Any = (a_schema, 0)
inner_of_schema (Unsigned lo hi) = (a_schema, 0)
inner_of_schema (Negative lo hi) = (a_schema, 0)
inner_of_schema (ByteLength lo hi) = (a_schema, 0)
inner_of_schema (TextLength lo hi) = (a_schema, 0)
inner_of_schema (Literal item) = (a_schema, 0)
inner_of_schema Choice = (a_schema, 2)
inner_of_schema Array = (a_group, 1)
inner_of_schema (Map count) = (a_field, count)
inner_of_schema (Tag n) = (a_schema, 1)
inner_of_schema (Rule n) = (a_schema, 0)

abbrev pub inner_of_group : Group → Sort × ℕ
inner_of_group Empty = (a_schema, 0)
inner_of_group One = (a_schema, 1)
inner_of_group Sequence = (a_group, 2)
inner_of_group FirstOf = (a_group, 2)
inner_of_group (Repeat lo hi) = (a_group, 1)

abbrev pub inner_of_field : Field → Sort × ℕ
inner_of_field (Required key) = (a_schema, 1)
inner_of_field (Optional key) = (a_schema, 1)
inner_of_field Others = (a_schema, 2)

abbrev pub inner_of_node : Node → Sort × ℕ
inner_of_node (OfSchema s) = inner_of_schema s
inner_of_node (OfGroup g) = inner_of_group g
inner_of_node (OfField f) = inner_of_field f

abbrev pub inside : Node → List Sort
inside n = many (inner_of_node n).1 (inner_of_node n).0

abbrev pub run_of : Run → Sort × ℕ
run_of r = (sort_of r.sort, r.count)

-- the bytes of a literal or a key
abbrev pub string_in : Node → ℕ
string_in (OfSchema Any) = 0
string_in (OfSchema (Unsigned lo hi)) = 0
string_in (OfSchema (Negative lo hi)) = 0
string_in (OfSchema (ByteLength lo hi)) = 0
string_in (OfSchema (TextLength lo hi)) = 0
string_in (OfSchema (Literal item)) = length item.now
string_in (OfSchema Choice) = 0
string_in (OfSchema Array) = 0
string_in (OfSchema (Map count)) = 0
string_in (OfSchema (Tag n)) = 0
string_in (OfSchema (Rule n)) = 0
string_in (OfGroup g) = 0
string_in (OfField (Required key)) = length key.now
string_in (OfField (Optional key)) = length key.now
string_in (OfField Others) = 0

-- a rule is a part of its own
abbrev pub rule_part : NodeSort → ℕ
rule_part ARule = 1
rule_part ASchema = 0
rule_part AGroup = 0
rule_part AField = 0

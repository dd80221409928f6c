-- Rules, after CDDL (RFC 8610): their trees, and the tokens that they are written in, each parent before its children.
use Rattle.std.specs.Prelude.{◌≡◌, ℕ, suc, ◌+◌, List, [], ◌∷◌, length}
use Rattle.sequence.specs.Token.{Token, num, str, spell, Word, ByteString}

mutual
  pub data Schema : Type 0 where
    any : Schema
    unsigned : ℕ → ℕ → Schema  -- from one number up to and with another
    negative : ℕ → ℕ → Schema  -- the same, by how far below -1
    byte_length : ℕ → ℕ → Schema  -- byte strings and texts by their length in bytes
    text_length : ℕ → ℕ → Schema
    literal : List ℕ → Schema  -- the item with these bytes
    choice : Schema → Schema → Schema
    array : Group → Schema
    map : Fields → Schema
    tag : ℕ → Schema → Schema
    rule : ℕ → Schema  -- by its number

  -- elements of an array, one after the other
  pub data Group : Type 0 where
    empty : Group
    one : Schema → Group
    sequence : Group → Group → Group
    first_of : Group → Group → Group
    repeat : ℕ → ℕ → Group → Group

  pub data Field : Type 0 where
    required : List ℕ → Schema → Field
    optional : List ℕ → Schema → Field
    others : Schema → Schema → Field  -- entries whose key no field names

  pub data Fields : Type 0 where
    no_field : Fields
    more_fields : Field → Fields → Fields

unfoldable pub how_many : Fields → ℕ
how_many no_field = 0
how_many (more_fields f fs) = suc (how_many fs)

-- with the tokens that come after
unfoldable mutual
  pub schema_tokens : Schema → List Token → List Token
  schema_tokens any ts = num 0 ∷ ts
  schema_tokens (unsigned lo hi) ts = num 1 ∷ num lo ∷ num hi ∷ ts
  schema_tokens (negative lo hi) ts = num 2 ∷ num lo ∷ num hi ∷ ts
  schema_tokens (byte_length lo hi) ts = num 3 ∷ num lo ∷ num hi ∷ ts
  schema_tokens (text_length lo hi) ts = num 4 ∷ num lo ∷ num hi ∷ ts
  schema_tokens (literal bs) ts = num 5 ∷ str bs ∷ ts
  schema_tokens (choice a b) ts = num 6 ∷ schema_tokens a (schema_tokens b ts)
  schema_tokens (array g) ts = num 7 ∷ group_tokens g ts
  schema_tokens (map fs) ts = num 8 ∷ num (how_many fs) ∷ fields_tokens fs ts
  schema_tokens (tag n s) ts = num 9 ∷ num n ∷ schema_tokens s ts
  schema_tokens (rule n) ts = num 10 ∷ num n ∷ ts

  pub group_tokens : Group → List Token → List Token
  group_tokens empty ts = num 0 ∷ ts
  group_tokens (one s) ts = num 1 ∷ schema_tokens s ts
  group_tokens (sequence a b) ts = num 2 ∷ group_tokens a (group_tokens b ts)
  group_tokens (first_of a b) ts = num 3 ∷ group_tokens a (group_tokens b ts)
  group_tokens (repeat lo hi g) ts = num 4 ∷ num lo ∷ num hi ∷ group_tokens g ts

  pub field_tokens : Field → List Token → List Token
  field_tokens (required k s) ts = num 0 ∷ str k ∷ schema_tokens s ts
  field_tokens (optional k s) ts = num 1 ∷ str k ∷ schema_tokens s ts
  field_tokens (others a b) ts = num 2 ∷ schema_tokens a (schema_tokens b ts)

  pub fields_tokens : Fields → List Token → List Token
  fields_tokens no_field ts = ts
  fields_tokens (more_fields f fs) ts = field_tokens f (fields_tokens fs ts)

unfoldable pub schemas_tokens : List Schema → List Token → List Token
schemas_tokens [] ts = ts
schemas_tokens (s ∷ ss) ts = schema_tokens s (schemas_tokens ss ts)

abbrev pub tokens : List Schema → List Token
tokens ss = num (length ss) ∷ schemas_tokens ss []

abbrev pub write : List Schema → List ℕ
write ss = spell (tokens ss)

-- what can be written: numbers of eight bytes, strings of bytes
unfoldable mutual
  pub WritableSchema : Schema → Type 0
  WritableSchema any = Unit {0}
  WritableSchema (unsigned lo hi) = Word lo × Word hi
  WritableSchema (negative lo hi) = Word lo × Word hi
  WritableSchema (byte_length lo hi) = Word lo × Word hi
  WritableSchema (text_length lo hi) = Word lo × Word hi
  WritableSchema (literal bs) = ByteString bs
  WritableSchema (choice a b) = WritableSchema a × WritableSchema b
  WritableSchema (array g) = WritableGroup g
  WritableSchema (map fs) = Word (how_many fs) × WritableFields fs
  WritableSchema (tag n s) = Word n × WritableSchema s
  WritableSchema (rule n) = Word n

  pub WritableGroup : Group → Type 0
  WritableGroup empty = Unit {0}
  WritableGroup (one s) = WritableSchema s
  WritableGroup (sequence a b) = WritableGroup a × WritableGroup b
  WritableGroup (first_of a b) = WritableGroup a × WritableGroup b
  WritableGroup (repeat lo hi g) = Word lo × Word hi × WritableGroup g

  pub WritableField : Field → Type 0
  WritableField (required k s) = ByteString k × WritableSchema s
  WritableField (optional k s) = ByteString k × WritableSchema s
  WritableField (others a b) = WritableSchema a × WritableSchema b

  pub WritableFields : Fields → Type 0
  WritableFields no_field = Unit {0}
  WritableFields (more_fields f fs) = WritableField f × WritableFields fs

unfoldable pub WritableSchemas : List Schema → Type 0
WritableSchemas [] = Unit {0}
WritableSchemas (s ∷ ss) = WritableSchema s × WritableSchemas ss

abbrev pub Writable : List Schema → Type 0
Writable ss = Word (length ss) × WritableSchemas ss

-- bytes that are rules
abbrev pub AreRules : List Schema → List ℕ → Type 0
AreRules ss w = (w ≡ write ss) × Writable ss

-- how many parts they have: each rule, schema, group and field is one, and a literal or a key also its bytes
unfoldable mutual
  pub schema_parts : Schema → ℕ
  schema_parts any = 1
  schema_parts (unsigned lo hi) = 1
  schema_parts (negative lo hi) = 1
  schema_parts (byte_length lo hi) = 1
  schema_parts (text_length lo hi) = 1
  schema_parts (literal bs) = 1 + length bs
  schema_parts (choice a b) = 1 + (schema_parts a + schema_parts b)
  schema_parts (array g) = 1 + group_parts g
  schema_parts (map fs) = 1 + fields_parts fs
  schema_parts (tag n s) = 1 + schema_parts s
  schema_parts (rule n) = 1

  pub group_parts : Group → ℕ
  group_parts empty = 1
  group_parts (one s) = 1 + schema_parts s
  group_parts (sequence a b) = 1 + (group_parts a + group_parts b)
  group_parts (first_of a b) = 1 + (group_parts a + group_parts b)
  group_parts (repeat lo hi g) = 1 + group_parts g

  pub field_parts : Field → ℕ
  field_parts (required k s) = 1 + (length k + schema_parts s)
  field_parts (optional k s) = 1 + (length k + schema_parts s)
  field_parts (others a b) = 1 + (schema_parts a + schema_parts b)

  pub fields_parts : Fields → ℕ
  fields_parts no_field = 0
  fields_parts (more_fields f fs) = field_parts f + fields_parts fs

unfoldable pub parts : List Schema → ℕ
parts [] = 0
parts (s ∷ ss) = 1 + schema_parts s + parts ss

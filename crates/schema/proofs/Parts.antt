-- The parts of rules are those that their tokens complete.
use Rattle.std.proofs.Common.{◌≡◌, ℕ, ◌+◌, List, [], ◌∷◌, ◌++◌, length, refl, ap, ◌∙◌, inl, inr, arith}
use Rattle.sequence.specs.Token.{Token, num, str}
use Rattle.sequence.specs.Grammar.{next, Takes, many}
use Rattle.schema.specs.declared.nodes.Schema.{Schema as NodeSchema}
use Rattle.schema.specs.declared.nodes.Schema.TheVariants.{Any, Unsigned, Negative, ByteLength, TextLength, Literal, Choice, Array, Map, Tag, Rule}
use Rattle.schema.specs.declared.nodes.Group.{Group as NodeGroup}
use Rattle.schema.specs.declared.nodes.Group.TheVariants.{Empty, One, Sequence, FirstOf, Repeat}
use Rattle.schema.specs.declared.nodes.Field.{Field as NodeField}
use Rattle.schema.specs.declared.nodes.Field.TheVariants.{Required, Optional, Others}
use Rattle.schema.specs.declared.nodes.Node.{Node}
use Rattle.schema.specs.declared.nodes.Node.TheVariants.{OfSchema, OfGroup, OfField}
use Rattle.schema.specs.declared.nodes.Sort.{Sort as NodeSort}
use Rattle.schema.specs.declared.nodes.Sort.TheVariants.{ARule, ASchema, AGroup, AField}
use Rattle.schema.specs.Nodes.{schema_own, group_own, field_own, own_tokens, sort_of, string_in, rule_part}
use Rattle.schema.specs.Reading.{OfSort}
use Rattle.schema.specs.Grammar.{Sort, the_rules, a_rule, a_schema, a_group, a_field, grammar, weight, parts_in}
use Rattle.schema.specs.Rules.{Schema, any, unsigned, negative, byte_length, text_length, literal, choice, array, map, tag, rule, Group, empty, one, sequence, first_of, repeat, Field, required, optional, others, Fields, no_field, more_fields, how_many, schema_tokens, group_tokens, field_tokens, fields_tokens, schemas_tokens, tokens, schema_parts, group_parts, field_parts, fields_parts, parts}

-- along tokens that take what is pending on
pub parts_append : (ss mid : List Sort) (ts us : List Token) → Takes grammar ss ts mid → parts_in ss (ts ++ us) ≡ parts_in ss ts + parts_in mid us
unfolding Takes parts_in
parts_append ss mid [] us f = ap (λ x. parts_in x us) f ∙ (let z : parts_in mid us ≡ 0 + parts_in mid us = omega arith in z)
parts_append [] mid (t ∷ ts) us f = absurd f
parts_append (s ∷ ss) mid (t ∷ ts) us (a, f) = ap (λ n. weight s t + n) (parts_append (next grammar s t ++ ss) mid ts us f) ∙ (let z : weight s t + (parts_in (next grammar s t ++ ss) ts + parts_in mid us) ≡ weight s t + parts_in (next grammar s t ++ ss) ts + parts_in mid us = omega arith in z)

mutual
  unfolding parts_in many how_many schema_tokens schema_parts

  schema_counts : (s : Schema) (ss : List Sort) (ts : List Token) → parts_in (a_schema ∷ ss) (schema_tokens s ts) ≡ schema_parts s + parts_in ss ts
  schema_counts any ss ts = omega arith
  schema_counts (unsigned lo hi) ss ts = omega arith
  schema_counts (negative lo hi) ss ts = omega arith
  schema_counts (byte_length lo hi) ss ts = omega arith
  schema_counts (text_length lo hi) ss ts = omega arith
  schema_counts (literal bs) ss ts = omega arith
  schema_counts (choice a b) ss ts = omega (arith, schema_counts a (a_schema ∷ ss) (schema_tokens b ts), schema_counts b ss ts)
  schema_counts (array x) ss ts = omega (arith, group_counts x ss ts)
  schema_counts (map fs) ss ts = omega (arith, fields_count fs ss ts)
  schema_counts (tag n s) ss ts = omega (arith, schema_counts s ss ts)
  schema_counts (rule n) ss ts = omega arith

  group_counts : (x : Group) (ss : List Sort) (ts : List Token) → parts_in (a_group ∷ ss) (group_tokens x ts) ≡ group_parts x + parts_in ss ts
  group_counts empty ss ts = omega arith
  group_counts (one s) ss ts = omega (arith, schema_counts s ss ts)
  group_counts (sequence a b) ss ts = omega (arith, group_counts a (a_group ∷ ss) (group_tokens b ts), group_counts b ss ts)
  group_counts (first_of a b) ss ts = omega (arith, group_counts a (a_group ∷ ss) (group_tokens b ts), group_counts b ss ts)
  group_counts (repeat lo hi x) ss ts = omega (arith, group_counts x ss ts)

  field_counts : (x : Field) (ss : List Sort) (ts : List Token) → parts_in (a_field ∷ ss) (field_tokens x ts) ≡ field_parts x + parts_in ss ts
  field_counts (required k s) ss ts = omega (arith, schema_counts s ss ts)
  field_counts (optional k s) ss ts = omega (arith, schema_counts s ss ts)
  field_counts (others a b) ss ts = omega (arith, schema_counts a (a_schema ∷ ss) (schema_tokens b ts), schema_counts b ss ts)

  fields_count : (fs : Fields) (ss : List Sort) (ts : List Token) → parts_in (many (how_many fs) a_field ++ ss) (fields_tokens fs ts) ≡ fields_parts fs + parts_in ss ts
  fields_count no_field ss ts = omega arith
  fields_count (more_fields x fs) ss ts = omega (arith, field_counts x (many (how_many fs) a_field ++ ss) (fields_tokens fs ts), fields_count fs ss ts)

-- a schema begins with a number, and as a rule it counts one more
opens : (s : Schema) (ts : List Token) → (n : ℕ) × (us : List Token) × (schema_tokens s ts ≡ num n ∷ us)
unfolding schema_tokens
opens any ts = (0, ts, refl)
opens (unsigned lo hi) ts = (1, num lo ∷ num hi ∷ ts, refl)
opens (negative lo hi) ts = (2, num lo ∷ num hi ∷ ts, refl)
opens (byte_length lo hi) ts = (3, num lo ∷ num hi ∷ ts, refl)
opens (text_length lo hi) ts = (4, num lo ∷ num hi ∷ ts, refl)
opens (literal bs) ts = (5, str bs ∷ ts, refl)
opens (choice a b) ts = (6, schema_tokens a (schema_tokens b ts), refl)
opens (array g) ts = (7, group_tokens g ts, refl)
opens (map fs) ts = (8, num (how_many fs) ∷ fields_tokens fs ts, refl)
opens (tag n s) ts = (9, num n ∷ schema_tokens s ts, refl)
opens (rule n) ts = (10, num n ∷ ts, refl)

one_more : (n : ℕ) (ss : List Sort) (ts : List Token) → parts_in (a_rule ∷ ss) (num n ∷ ts) ≡ 1 + parts_in (a_schema ∷ ss) (num n ∷ ts)
unfolding parts_in
one_more n ss ts = omega arith

rule_counts : (s : Schema) (ss : List Sort) (ts : List Token) → parts_in (a_rule ∷ ss) (schema_tokens s ts) ≡ 1 + schema_parts s + parts_in ss ts
rule_counts s ss ts =
    let (n, us, e) = opens s ts in
    omega (arith, ap (parts_in (a_rule ∷ ss)) e, one_more n ss us, ap (parts_in (a_schema ∷ ss)) e, schema_counts s ss ts)

roots_count : (xs : List Schema) (ss : List Sort) (ts : List Token) → parts_in (many (length xs) a_rule ++ ss) (schemas_tokens xs ts) ≡ parts xs + parts_in ss ts
unfolding many schemas_tokens parts
roots_count [] ss ts = omega arith
roots_count (x ∷ xs) ss ts = omega (arith, rule_counts x (many (length xs) a_rule ++ ss) (schemas_tokens xs ts), roots_count xs ss ts)

pub rules_count : (xs : List Schema) → parts_in (the_rules ∷ []) (tokens xs) ≡ parts xs
unfolding parts_in
rules_count xs = omega (arith, roots_count xs [] [])

-- the own tokens of a node
schema_weighs : (x : NodeSchema) (ss : List Sort) → parts_in (a_schema ∷ ss) (schema_own x) ≡ 1 + string_in (OfSchema x)
unfolding parts_in
schema_weighs Any ss = omega arith
schema_weighs (Unsigned lo hi) ss = omega arith
schema_weighs (Negative lo hi) ss = omega arith
schema_weighs (ByteLength lo hi) ss = omega arith
schema_weighs (TextLength lo hi) ss = omega arith
schema_weighs (Literal item) ss = omega arith
schema_weighs Choice ss = omega arith
schema_weighs Array ss = omega arith
schema_weighs (Map count) ss = omega arith
schema_weighs (Tag n) ss = omega arith
schema_weighs (Rule n) ss = omega arith

begins_num : (x : NodeSchema) → (n : ℕ) × (us : List Token) × (schema_own x ≡ num n ∷ us)
begins_num Any = (0, [], refl)
begins_num (Unsigned lo hi) = (1, num lo ∷ num hi ∷ [], refl)
begins_num (Negative lo hi) = (2, num lo ∷ num hi ∷ [], refl)
begins_num (ByteLength lo hi) = (3, num lo ∷ num hi ∷ [], refl)
begins_num (TextLength lo hi) = (4, num lo ∷ num hi ∷ [], refl)
begins_num (Literal item) = (5, str item.now ∷ [], refl)
begins_num Choice = (6, [], refl)
begins_num Array = (7, [], refl)
begins_num (Map count) = (8, num count ∷ [], refl)
begins_num (Tag n) = (9, num n ∷ [], refl)
begins_num (Rule n) = (10, num n ∷ [], refl)

rule_weighs : (x : NodeSchema) (ss : List Sort) → parts_in (a_rule ∷ ss) (schema_own x) ≡ 1 + (1 + string_in (OfSchema x))
rule_weighs x ss =
    let (n, us, e) = begins_num x in
    omega (arith, ap (parts_in (a_rule ∷ ss)) e, one_more n ss us, ap (parts_in (a_schema ∷ ss)) e, schema_weighs x ss)

group_weighs : (x : NodeGroup) (ss : List Sort) → parts_in (a_group ∷ ss) (group_own x) ≡ 1
unfolding parts_in
group_weighs Empty ss = omega arith
group_weighs One ss = omega arith
group_weighs Sequence ss = omega arith
group_weighs FirstOf ss = omega arith
group_weighs (Repeat lo hi) ss = omega arith

field_weighs : (x : NodeField) (ss : List Sort) → parts_in (a_field ∷ ss) (field_own x) ≡ 1 + string_in (OfField x)
unfolding parts_in
field_weighs (Required key) ss = omega arith
field_weighs (Optional key) ss = omega arith
field_weighs Others ss = omega arith

pub node_weighs : (q : NodeSort) (x : Node) (ss : List Sort) → OfSort (sort_of q) x → parts_in (sort_of q ∷ ss) (own_tokens x) ≡ rule_part q + (1 + string_in x)
node_weighs ARule (OfSchema x) ss o = rule_weighs x ss
node_weighs ASchema (OfSchema x) ss o = omega (arith, schema_weighs x ss)
node_weighs AGroup (OfSchema x) ss (inl e) = cc
node_weighs AGroup (OfSchema x) ss (inr e) = cc
node_weighs AField (OfSchema x) ss (inl e) = cc
node_weighs AField (OfSchema x) ss (inr e) = cc
node_weighs ARule (OfGroup x) ss o = cc
node_weighs ASchema (OfGroup x) ss o = cc
node_weighs AGroup (OfGroup x) ss o = omega (arith, group_weighs x ss)
node_weighs AField (OfGroup x) ss o = cc
node_weighs ARule (OfField x) ss o = cc
node_weighs ASchema (OfField x) ss o = cc
node_weighs AGroup (OfField x) ss o = cc
node_weighs AField (OfField x) ss o = omega (arith, field_weighs x ss)

-- Rules are what completes pending rules.
use Rattle.std.proofs.Common.{◌≡◌, ℕ, zero, suc, ◌≤◌, List, [], ◌∷◌, ◌++◌, length, sym, refl, ap, ◌∙◌, arith}
use Rattle.cbor.specs.Encoding.{all_bytes}
use Rattle.cbor.specs.Prefix.{Any}
use Rattle.sequence.specs.Token.{Token, num, str, spell, Word, ByteString, Suits}
use Rattle.sequence.specs.Grammar.{next, Takes, Completes, Completable, many}
use Rattle.schema.specs.Grammar.{Sort, the_rules, a_rule, a_schema, a_group, the_fields, a_field, a_bound, a_last, a_literal, shape, grammar}
use Rattle.schema.specs.Rules.{Schema, any, unsigned, negative, byte_length, text_length, literal, choice, array, map, tag, rule, Group, empty, one, sequence, first_of, repeat, Field, required, optional, others, Fields, no_field, more_fields, how_many, schema_tokens, group_tokens, field_tokens, fields_tokens, schemas_tokens, tokens, WritableSchema, WritableGroup, WritableField, WritableFields, WritableSchemas, Writable, AreRules}

-- every sort can be completed
pub completable : Completable grammar
unfolding Takes many all_bytes
completable the_rules = (num 0 ∷ [], λ ss. (omega arith, refl))
completable a_rule = (num 0 ∷ [], λ ss. ((omega arith, omega arith), refl))
completable a_schema = (num 0 ∷ [], λ ss. ((omega arith, omega arith), refl))
completable a_group = (num 0 ∷ [], λ ss. ((omega arith, omega arith), refl))
completable the_fields = (num 0 ∷ [], λ ss. (omega arith, refl))
completable a_field = (num 2 ∷ num 0 ∷ num 0 ∷ [], λ ss. ((omega arith, omega arith), ((omega arith, omega arith), ((omega arith, omega arith), refl))))
completable a_bound = (num 0 ∷ [], λ ss. (omega arith, refl))
completable a_last = (num 0 ∷ [], λ ss. (omega arith, refl))
completable a_literal = (str [] ∷ [], λ ss. ((refl, omega arith), refl))

-- WHAT IS WRITTEN COMPLETES RULES

mutual
  unfolding Takes many how_many schema_tokens WritableSchema

  schema_takes : (s : Schema) (ss : List Sort) (ts : List Token) → WritableSchema s → Takes grammar ss ts [] → Takes grammar (a_schema ∷ ss) (schema_tokens s ts) []
  schema_takes any ss ts f g = ((omega arith, omega arith), g)
  schema_takes (unsigned lo hi) ss ts (a, b) g = ((omega arith, omega arith), (a, (b, g)))
  schema_takes (negative lo hi) ss ts (a, b) g = ((omega arith, omega arith), (a, (b, g)))
  schema_takes (byte_length lo hi) ss ts (a, b) g = ((omega arith, omega arith), (a, (b, g)))
  schema_takes (text_length lo hi) ss ts (a, b) g = ((omega arith, omega arith), (a, (b, g)))
  schema_takes (literal bs) ss ts f g = ((omega arith, omega arith), (f, g))
  schema_takes (choice a b) ss ts (f, h) g = ((omega arith, omega arith), schema_takes a (a_schema ∷ ss) (schema_tokens b ts) f (schema_takes b ss ts h g))
  schema_takes (array x) ss ts f g = ((omega arith, omega arith), group_takes x ss ts f g)
  schema_takes (map fs) ss ts (a, f) g = ((omega arith, omega arith), (a, fields_take fs ss ts f g))
  schema_takes (tag n s) ss ts (a, f) g = ((omega arith, omega arith), (a, schema_takes s ss ts f g))
  schema_takes (rule n) ss ts f g = ((omega arith, omega arith), (f, g))

  group_takes : (x : Group) (ss : List Sort) (ts : List Token) → WritableGroup x → Takes grammar ss ts [] → Takes grammar (a_group ∷ ss) (group_tokens x ts) []
  group_takes empty ss ts f g = ((omega arith, omega arith), g)
  group_takes (one s) ss ts f g = ((omega arith, omega arith), schema_takes s ss ts f g)
  group_takes (sequence a b) ss ts (f, h) g = ((omega arith, omega arith), group_takes a (a_group ∷ ss) (group_tokens b ts) f (group_takes b ss ts h g))
  group_takes (first_of a b) ss ts (f, h) g = ((omega arith, omega arith), group_takes a (a_group ∷ ss) (group_tokens b ts) f (group_takes b ss ts h g))
  group_takes (repeat lo hi x) ss ts (a, b, f) g = ((omega arith, omega arith), (a, (b, group_takes x ss ts f g)))

  field_takes : (x : Field) (ss : List Sort) (ts : List Token) → WritableField x → Takes grammar ss ts [] → Takes grammar (a_field ∷ ss) (field_tokens x ts) []
  field_takes (required k s) ss ts (a, f) g = ((omega arith, omega arith), (a, schema_takes s ss ts f g))
  field_takes (optional k s) ss ts (a, f) g = ((omega arith, omega arith), (a, schema_takes s ss ts f g))
  field_takes (others a b) ss ts (f, h) g = ((omega arith, omega arith), schema_takes a (a_schema ∷ ss) (schema_tokens b ts) f (schema_takes b ss ts h g))

  fields_take : (fs : Fields) (ss : List Sort) (ts : List Token) → WritableFields fs → Takes grammar ss ts [] → Takes grammar (many (how_many fs) a_field ++ ss) (fields_tokens fs ts) []
  fields_take no_field ss ts f g = g
  fields_take (more_fields x fs) ss ts (a, f) g = field_takes x (many (how_many fs) a_field ++ ss) (fields_tokens fs ts) a (fields_take fs ss ts f g)

-- a rule takes the tokens of a schema, and the other way round
pub as_rule : (ss rest : List Sort) (t : Token) (ts : List Token) → Takes grammar (a_schema ∷ ss) (t ∷ ts) rest → Takes grammar (a_rule ∷ ss) (t ∷ ts) rest
unfolding Takes
as_rule ss rest (num n) ts h = h
as_rule ss rest (str bs) ts h = h

pub as_schema : (ss rest : List Sort) (t : Token) (ts : List Token) → Takes grammar (a_rule ∷ ss) (t ∷ ts) rest → Takes grammar (a_schema ∷ ss) (t ∷ ts) rest
unfolding Takes
as_schema ss rest (num n) ts h = h
as_schema ss rest (str bs) ts h = h

root_takes : (ss : List Sort) (ts : List Token) → Takes grammar (a_schema ∷ ss) ts [] → Takes grammar (a_rule ∷ ss) ts []
unfolding Takes
root_takes ss [] h = absurd (let z : ◌≡◌ {A = ℕ} 0 1 = cc in omega arith)
root_takes ss (t ∷ ts) h = as_rule ss [] t ts h

roots_take : (xs : List Schema) (ss : List Sort) (ts : List Token) → WritableSchemas xs → Takes grammar ss ts [] → Takes grammar (many (length xs) a_rule ++ ss) (schemas_tokens xs ts) []
unfolding many schemas_tokens WritableSchemas
roots_take [] ss ts f g = g
roots_take (x ∷ xs) ss ts (a, f) g = root_takes (many (length xs) a_rule ++ ss) (schema_tokens x (schemas_tokens xs ts)) (schema_takes x (many (length xs) a_rule ++ ss) (schemas_tokens xs ts) a (roots_take xs ss ts f g))

pub rules_take : (xs : List Schema) → Writable xs → Takes grammar (the_rules ∷ []) (tokens xs) []
unfolding Takes
rules_take xs (a, f) = (a, roots_take xs [] [] f refl)

-- WHAT COMPLETES RULES IS WRITTEN

-- a thing of a sort, and then other tokens
abbrev Grows : Sort → List Token → List Token → Type 0
Grows the_rules ts us = (xs : List Schema) × Word (length xs) × WritableSchemas xs × (ts ≡ num (length xs) ∷ schemas_tokens xs us)
Grows a_rule ts us = (x : Schema) × WritableSchema x × (ts ≡ schema_tokens x us)
Grows a_schema ts us = (x : Schema) × WritableSchema x × (ts ≡ schema_tokens x us)
Grows a_group ts us = (x : Group) × WritableGroup x × (ts ≡ group_tokens x us)
Grows the_fields ts us = (fs : Fields) × Word (how_many fs) × WritableFields fs × (ts ≡ num (how_many fs) ∷ fields_tokens fs us)
Grows a_field ts us = (x : Field) × WritableField x × (ts ≡ field_tokens x us)
Grows a_bound ts us = (n : ℕ) × Word n × (ts ≡ num n ∷ us)
Grows a_last ts us = (n : ℕ) × Word n × (ts ≡ num n ∷ us)
Grows a_literal ts us = (bs : List ℕ) × ByteString bs × (ts ≡ str bs ∷ us)

unfoldable Grown : List Sort → List Token → Type 0
Grown [] ts = ts ≡ []
Grown (s ∷ ss) ts = (us : List Token) × Grows s ts us × Grown ss us

fields_grown : (n : ℕ) (ss : List Sort) (ts : List Token) → Grown (many n a_field ++ ss) ts → (us : List Token) × ((fs : Fields) × (how_many fs ≡ n) × WritableFields fs × (ts ≡ fields_tokens fs us)) × Grown ss us
unfolding Grown many how_many schema_tokens WritableSchema
fields_grown zero ss ts g = (ts, (no_field, refl, tt, refl), g)
fields_grown (suc n) ss ts (us, (x, f, e), g) =
    let (vs, (fs, m, h, d), k) = fields_grown n ss us g in
    (vs, (more_fields x fs, ap suc m, (f, h), e ∙ ap (field_tokens x) d), k)

roots_grown : (n : ℕ) (ss : List Sort) (ts : List Token) → Grown (many n a_rule ++ ss) ts → (us : List Token) × ((xs : List Schema) × (length xs ≡ n) × WritableSchemas xs × (ts ≡ schemas_tokens xs us)) × Grown ss us
unfolding Grown many schemas_tokens WritableSchemas
roots_grown zero ss ts g = (ts, ([], refl, tt, refl), g)
roots_grown (suc n) ss ts (us, (x, f, e), g) =
    let (vs, (fs, m, h, d), k) = roots_grown n ss us g in
    (vs, (x ∷ fs, ap suc m, (f, h), e ∙ ap (schema_tokens x) d), k)

two_numbers : (k lo hi : ℕ) (ts us vs : List Token) → ts ≡ num lo ∷ us → us ≡ num hi ∷ vs → num k ∷ ts ≡ num k ∷ num lo ∷ num hi ∷ vs
two_numbers k lo hi ts us vs e d = ap (λ z. num k ∷ z) (e ∙ ap (λ z. num lo ∷ z) d)

schema_grow : (n : ℕ) (ss : List Sort) (ts : List Token) → n ≤ 10 → Grown (next grammar a_schema (num n) ++ ss) ts → Grown (a_schema ∷ ss) (num n ∷ ts)
unfolding Grown how_many schema_tokens WritableSchema
schema_grow zero ss ts h g = (ts, (any, tt, refl), g)
schema_grow (suc zero) ss ts h (us, (lo, a, e), (vs, (hi, b, d), g)) = (vs, (unsigned lo hi, (a, b), two_numbers 1 lo hi ts us vs e d), g)
schema_grow (suc (suc zero)) ss ts h (us, (lo, a, e), (vs, (hi, b, d), g)) = (vs, (negative lo hi, (a, b), two_numbers 2 lo hi ts us vs e d), g)
schema_grow (suc (suc (suc zero))) ss ts h (us, (lo, a, e), (vs, (hi, b, d), g)) = (vs, (byte_length lo hi, (a, b), two_numbers 3 lo hi ts us vs e d), g)
schema_grow (suc (suc (suc (suc zero)))) ss ts h (us, (lo, a, e), (vs, (hi, b, d), g)) = (vs, (text_length lo hi, (a, b), two_numbers 4 lo hi ts us vs e d), g)
schema_grow (suc (suc (suc (suc (suc zero))))) ss ts h (us, (bs, a, e), g) = (us, (literal bs, a, ap (λ z. num 5 ∷ z) e), g)
schema_grow (suc (suc (suc (suc (suc (suc zero)))))) ss ts h (us, (x, a, e), (vs, (y, b, d), g)) = (vs, (choice x y, (a, b), ap (λ z. num 6 ∷ z) (e ∙ ap (schema_tokens x) d)), g)
schema_grow (suc (suc (suc (suc (suc (suc (suc zero))))))) ss ts h (us, (x, a, e), g) = (us, (array x, a, ap (λ z. num 7 ∷ z) e), g)
schema_grow (suc (suc (suc (suc (suc (suc (suc (suc zero)))))))) ss ts h (us, (fs, w, a, e), g) = (us, (map fs, (w, a), ap (λ z. num 8 ∷ z) e), g)
schema_grow (suc (suc (suc (suc (suc (suc (suc (suc (suc zero))))))))) ss ts h (us, (n, a, e), (vs, (x, b, d), g)) = (vs, (tag n x, (a, b), ap (λ z. num 9 ∷ z) (e ∙ ap (λ z. num n ∷ z) d)), g)
schema_grow (suc (suc (suc (suc (suc (suc (suc (suc (suc (suc m)))))))))) ss ts h (us, (n, a, e), g) =
    let z : 10 ≡ suc (suc (suc (suc (suc (suc (suc (suc (suc (suc m))))))))) = omega arith in
    (us, (rule n, a, (λ i. num (sym z i) ∷ e i)), g)

group_grow : (n : ℕ) (ss : List Sort) (ts : List Token) → n ≤ 4 → Grown (next grammar a_group (num n) ++ ss) ts → Grown (a_group ∷ ss) (num n ∷ ts)
unfolding Grown schema_tokens WritableSchema
group_grow zero ss ts h g = (ts, (empty, tt, refl), g)
group_grow (suc zero) ss ts h (us, (x, a, e), g) = (us, (one x, a, ap (λ z. num 1 ∷ z) e), g)
group_grow (suc (suc zero)) ss ts h (us, (x, a, e), (vs, (y, b, d), g)) = (vs, (sequence x y, (a, b), ap (λ z. num 2 ∷ z) (e ∙ ap (group_tokens x) d)), g)
group_grow (suc (suc (suc zero))) ss ts h (us, (x, a, e), (vs, (y, b, d), g)) = (vs, (first_of x y, (a, b), ap (λ z. num 3 ∷ z) (e ∙ ap (group_tokens x) d)), g)
group_grow (suc (suc (suc (suc m)))) ss ts h (us, (lo, a, e), (vs, (hi, b, d), (ws, (x, f, k), g))) =
    let z : 4 ≡ suc (suc (suc (suc m))) = omega arith in
    (ws, (repeat lo hi x, (a, b, f), (λ i. num (sym z i) ∷ (e ∙ ap (λ y. num lo ∷ y) (d ∙ ap (λ y. num hi ∷ y) k)) i)), g)

field_grow : (n : ℕ) (ss : List Sort) (ts : List Token) → n ≤ 2 → Grown (next grammar a_field (num n) ++ ss) ts → Grown (a_field ∷ ss) (num n ∷ ts)
unfolding Grown schema_tokens WritableSchema
field_grow zero ss ts h (us, (k, a, e), (vs, (x, b, d), g)) = (vs, (required k x, (a, b), ap (λ z. num 0 ∷ z) (e ∙ ap (λ z. str k ∷ z) d)), g)
field_grow (suc zero) ss ts h (us, (k, a, e), (vs, (x, b, d), g)) = (vs, (optional k x, (a, b), ap (λ z. num 1 ∷ z) (e ∙ ap (λ z. str k ∷ z) d)), g)
field_grow (suc (suc m)) ss ts h (us, (x, a, e), (vs, (y, b, d), g)) =
    let z : 2 ≡ suc (suc m) = omega arith in
    (vs, (others x y, (a, b), (λ i. num (sym z i) ∷ (e ∙ ap (schema_tokens x) d) i)), g)

grow_one : (s : Sort) (ss : List Sort) (t : Token) (ts : List Token) → Suits (shape s) t → Grown (next grammar s t ++ ss) ts → Grown (s ∷ ss) (t ∷ ts)
unfolding Grown
grow_one the_rules ss (num n) ts a g = let (us, (xs, m, f, e), h) = roots_grown n ss ts g in (us, (xs, omega arith, f, (λ i. num (sym m i) ∷ e i)), h)
grow_one the_rules ss (str bs) ts a g = absurd a
grow_one a_rule ss (num n) ts a g = schema_grow n ss ts a.0 g
grow_one a_rule ss (str bs) ts a g = absurd a
grow_one a_schema ss (num n) ts a g = schema_grow n ss ts a.0 g
grow_one a_schema ss (str bs) ts a g = absurd a
grow_one a_group ss (num n) ts a g = group_grow n ss ts a.0 g
grow_one a_group ss (str bs) ts a g = absurd a
grow_one the_fields ss (num n) ts a g = let (us, (xs, m, f, e), h) = fields_grown n ss ts g in (us, (xs, omega arith, f, (λ i. num (sym m i) ∷ e i)), h)
grow_one the_fields ss (str bs) ts a g = absurd a
grow_one a_field ss (num n) ts a g = field_grow n ss ts a.0 g
grow_one a_field ss (str bs) ts a g = absurd a
grow_one a_bound ss (num n) ts a g = (ts, (n, a, refl), g)
grow_one a_bound ss (str bs) ts a g = absurd a
grow_one a_last ss (num n) ts a g = (ts, (n, a, refl), g)
grow_one a_last ss (str bs) ts a g = absurd a
grow_one a_literal ss (num n) ts a g = absurd a
grow_one a_literal ss (str bs) ts a g = (ts, (bs, a, refl), g)

grow : (ss : List Sort) (ts : List Token) → Takes grammar ss ts [] → Grown ss ts
unfolding Grown Takes
grow [] [] f = refl
grow [] (t ∷ ts) f = absurd f
grow (s ∷ ss) [] f = absurd (let z : ◌≡◌ {A = ℕ} 0 1 = cc in omega arith)
grow (s ∷ ss) (t ∷ ts) (a, f) = grow_one s ss t ts a (grow (next grammar s t ++ ss) ts f)

pub rules_in : (ts : List Token) → Takes grammar (the_rules ∷ []) ts [] → (xs : List Schema) × Writable xs × (ts ≡ tokens xs)
unfolding Grown
rules_in ts f =
    let (us, (xs, w, g, e), n) = grow (the_rules ∷ []) ts f in
    (xs, (w, g), e ∙ ap (λ z. num (length xs) ∷ schemas_tokens xs z) n)

-- the same words
pub are_completes : (w : List ℕ) → Any AreRules w → Any (Completes grammar (the_rules ∷ [])) w
are_completes w (xs, (e, f)) = (tokens xs, (e, rules_take xs f))

pub completes_are : (w : List ℕ) → Any (Completes grammar (the_rules ∷ [])) w → Any AreRules w
completes_are w (ts, (e, f)) = let (xs, g, p) = rules_in ts f in (xs, (e ∙ ap spell p, g))

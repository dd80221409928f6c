use Rattle.std.proofs.Common.{[], ◌∷◌, refl, inl, arith}
use Rattle.sequence.specs.Token.{num, str}
use Rattle.sequence.specs.Grammar.{many}
use Rattle.sequence.proofs.Readers.{stopped}
use Rattle.schema.specs.declared.nodes.Node.TheVariants.{OfSchema}
use Rattle.schema.specs.declared.nodes.Schema.TheVariants.{Any, Literal, Choice, Array, Map, Tag, Rule}
use Rattle.schema.specs.Grammar.{the_fields, a_schema, a_last, a_literal}
use Rattle.schema.specs.Reading.{MadeAt}
use Rattle.schema.proofs.Places.{ceases_first, node_bare, node_ranged, token_there, token_stops}
use Rattle.schema.proofs.nodes.next_schema.Goals as goal

pub returns-in_err-opcode : goal.returns-in_err-opcode
returns-in_err-opcode c = stopped (MadeAt OfSchema a_schema) _ _ _ _ c.from_residual.ensures.1 (λ ss. ceases_first a_schema ss _ _ _ c.in_err-opcode.ensures.told)

pub returns-in-0 : goal.returns-in-0
unfolding many
returns-in-0 c = node_bare OfSchema a_schema _ 0 _ _ c.in-0.is c.in_ok-opcode.ensures.told Any (inl refl) refl refl

pub returns-in-1 : goal.returns-in-1
unfolding many
returns-in-1 c = node_ranged OfSchema a_schema _ 1 _ _ c.in-1.is c.in_ok-opcode.ensures.told [] _ _ _ c.read_ranged.ensures refl (λ lo hi u e. rw e (inl refl, refl, refl))

pub returns-in-2 : goal.returns-in-2
unfolding many
returns-in-2 c = node_ranged OfSchema a_schema _ 2 _ _ c.in-2.is c.in_ok-opcode.ensures.told [] _ _ _ c.read_ranged-in-2.ensures refl (λ lo hi u e. rw e (inl refl, refl, refl))

pub returns-in-3 : goal.returns-in-3
unfolding many
returns-in-3 c = node_ranged OfSchema a_schema _ 3 _ _ c.in-3.is c.in_ok-opcode.ensures.told [] _ _ _ c.read_ranged-in-3.ensures refl (λ lo hi u e. rw e (inl refl, refl, refl))

pub returns-in-4 : goal.returns-in-4
unfolding many
returns-in-4 c = node_ranged OfSchema a_schema _ 4 _ _ c.in-4.is c.in_ok-opcode.ensures.told [] _ _ _ c.read_ranged-in-4.ensures refl (λ lo hi u e. rw e (inl refl, refl, refl))

pub returns-in_err-string-in-5 : goal.returns-in_err-string-in-5
returns-in_err-string-in-5 c = token_stops OfSchema a_schema _ 5 _ _ c.in-5.is c.in_ok-opcode.ensures.told a_literal [] _ _ _ c.from_residual-in_err-string-in-5.ensures.1 c.in_err-string-in-5.ensures.told refl (λ w. w)

pub returns-in_ok-string-in-5 : goal.returns-in_ok-string-in-5
unfolding many
returns-in_ok-string-in-5 c = token_there OfSchema a_schema _ 5 _ _ c.in-5.is c.in_ok-opcode.ensures.told (str c.in_ok-string-in-5.field-0.now) a_literal [] _ (Literal c.in_ok-string-in-5.field-0) c.in_ok-string-in-5.ensures.told refl (inl refl) refl (λ ss. refl)

pub returns-in-6 : goal.returns-in-6
unfolding many
returns-in-6 c = node_bare OfSchema a_schema _ 6 _ _ c.in-6.is c.in_ok-opcode.ensures.told Choice (inl refl) refl refl

pub returns-in-7 : goal.returns-in-7
unfolding many
returns-in-7 c = node_bare OfSchema a_schema _ 7 _ _ c.in-7.is c.in_ok-opcode.ensures.told Array (inl refl) refl refl

pub returns-in_err-number-in-8 : goal.returns-in_err-number-in-8
returns-in_err-number-in-8 c = token_stops OfSchema a_schema _ 8 _ _ c.in-8.is c.in_ok-opcode.ensures.told the_fields [] _ _ _ c.from_residual-in_err-number-in-8.ensures.1 c.in_err-number-in-8.ensures.told refl (λ w. w)

pub returns-in_ok-number-in-8 : goal.returns-in_ok-number-in-8
unfolding many
returns-in_ok-number-in-8 c = token_there OfSchema a_schema _ 8 _ _ c.in-8.is c.in_ok-opcode.ensures.told (num c.in_ok-number-in-8.field-0) the_fields [] _ (Map c.in_ok-number-in-8.field-0) c.in_ok-number-in-8.ensures.told refl (inl refl) refl (λ ss. refl)

pub returns-in_err-number-in-9 : goal.returns-in_err-number-in-9
returns-in_err-number-in-9 c = token_stops OfSchema a_schema _ 9 _ _ c.in-9.is c.in_ok-opcode.ensures.told a_last (a_schema ∷ []) _ _ _ c.from_residual-in_err-number-in-9.ensures.1 c.in_err-number-in-9.ensures.told refl (λ w. w)

pub returns-in_ok-number-in-9 : goal.returns-in_ok-number-in-9
unfolding many
returns-in_ok-number-in-9 c = token_there OfSchema a_schema _ 9 _ _ c.in-9.is c.in_ok-opcode.ensures.told (num c.in_ok-number-in-9.field-0) a_last (a_schema ∷ []) _ (Tag c.in_ok-number-in-9.field-0) c.in_ok-number-in-9.ensures.told refl (inl refl) refl (λ ss. refl)

pub returns-in_err-number-in_default : goal.returns-in_err-number-in_default
returns-in_err-number-in_default c = token_stops OfSchema a_schema _ 10 _ _ (omega (arith, c.in_ok-opcode.ensures.told.1.0.2.1)) c.in_ok-opcode.ensures.told a_last [] _ _ _ c.from_residual-in_err-number-in_default.ensures.1 c.in_err-number-in_default.ensures.told refl (λ w. w)

pub returns-in_ok-number-in_default : goal.returns-in_ok-number-in_default
unfolding many
returns-in_ok-number-in_default c = token_there OfSchema a_schema _ 10 _ _ (omega (arith, c.in_ok-opcode.ensures.told.1.0.2.1)) c.in_ok-opcode.ensures.told (num c.in_ok-number-in_default.field-0) a_last [] _ (Rule c.in_ok-number-in_default.field-0) c.in_ok-number-in_default.ensures.told refl (inl refl) refl (λ ss. refl)

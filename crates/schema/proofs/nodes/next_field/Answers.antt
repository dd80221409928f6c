use Rattle.std.proofs.Common.{[], ◌∷◌, refl, arith}
use Rattle.sequence.specs.Token.{str}
use Rattle.sequence.specs.Grammar.{many}
use Rattle.sequence.proofs.Readers.{stopped}
use Rattle.schema.specs.declared.nodes.Node.TheVariants.{OfField}
use Rattle.schema.specs.declared.nodes.Field.TheVariants.{Required, Optional, Others}
use Rattle.schema.specs.Grammar.{a_schema, a_field, a_literal}
use Rattle.schema.specs.Reading.{MadeAt}
use Rattle.schema.proofs.Places.{ceases_first, node_bare, token_there, token_stops}
use Rattle.schema.proofs.nodes.next_field.Goals as goal

pub returns-in_err-opcode : goal.returns-in_err-opcode
returns-in_err-opcode c = stopped (MadeAt OfField a_field) _ _ _ _ c.from_residual.ensures.1 (λ ss. ceases_first a_field ss _ _ _ c.in_err-opcode.ensures.told)

pub returns-in_err-string-in-0 : goal.returns-in_err-string-in-0
returns-in_err-string-in-0 c = token_stops OfField a_field _ 0 _ _ c.in-0.is c.in_ok-opcode.ensures.told a_literal (a_schema ∷ []) _ _ _ c.from_residual-in_err-string-in-0.ensures.1 c.in_err-string-in-0.ensures.told refl (λ w. w)

pub returns-in_ok-string-in-0 : goal.returns-in_ok-string-in-0
unfolding many
returns-in_ok-string-in-0 c = token_there OfField a_field _ 0 _ _ c.in-0.is c.in_ok-opcode.ensures.told (str c.in_ok-string-in-0.field-0.now) a_literal (a_schema ∷ []) _ (Required c.in_ok-string-in-0.field-0) c.in_ok-string-in-0.ensures.told refl refl refl (λ ss. refl)

pub returns-in_err-string-in-1 : goal.returns-in_err-string-in-1
returns-in_err-string-in-1 c = token_stops OfField a_field _ 1 _ _ c.in-1.is c.in_ok-opcode.ensures.told a_literal (a_schema ∷ []) _ _ _ c.from_residual-in_err-string-in-1.ensures.1 c.in_err-string-in-1.ensures.told refl (λ w. w)

pub returns-in_ok-string-in-1 : goal.returns-in_ok-string-in-1
unfolding many
returns-in_ok-string-in-1 c = token_there OfField a_field _ 1 _ _ c.in-1.is c.in_ok-opcode.ensures.told (str c.in_ok-string-in-1.field-0.now) a_literal (a_schema ∷ []) _ (Optional c.in_ok-string-in-1.field-0) c.in_ok-string-in-1.ensures.told refl refl refl (λ ss. refl)

pub returns-in_default : goal.returns-in_default
unfolding many
returns-in_default c = node_bare OfField a_field _ 2 _ _ (omega (arith, c.in_ok-opcode.ensures.told.1.0.2.1)) c.in_ok-opcode.ensures.told Others refl refl refl

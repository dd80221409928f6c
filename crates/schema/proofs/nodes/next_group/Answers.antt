use Rattle.std.proofs.Common.{◌≡◌, [], ◌∷◌, Ok, Err, refl, arith}
use Rattle.sequence.specs.Token.{number}
use Rattle.sequence.specs.Grammar.{many}
use Rattle.sequence.proofs.Grammars.{spelled_two}
use Rattle.sequence.proofs.Readers.{stopped}
use Rattle.schema.specs.declared.nodes.Node.TheVariants.{OfGroup}
use Rattle.schema.specs.declared.nodes.Group.TheVariants.{Empty, One, Sequence, FirstOf, Repeat}
use Rattle.schema.specs.Grammar.{a_group, a_bound, a_last}
use Rattle.schema.specs.Reading.{MadeAt}
use Rattle.schema.proofs.Places.{ceases_first, node_bare, node_ranged, range_second}
use Rattle.schema.proofs.nodes.next_group.Goals as goal

pub returns-in_err-opcode : goal.returns-in_err-opcode
returns-in_err-opcode c = stopped (MadeAt OfGroup a_group) _ _ _ _ c.from_residual.ensures.1 (λ ss. ceases_first a_group ss _ _ _ c.in_err-opcode.ensures.told)

pub returns-in-0 : goal.returns-in-0
unfolding many
returns-in-0 c = node_bare OfGroup a_group _ 0 _ _ c.in-0.is c.in_ok-opcode.ensures.told Empty refl refl refl

pub returns-in-1 : goal.returns-in-1
unfolding many
returns-in-1 c = node_bare OfGroup a_group _ 1 _ _ c.in-1.is c.in_ok-opcode.ensures.told One refl refl refl

pub returns-in-2 : goal.returns-in-2
unfolding many
returns-in-2 c = node_bare OfGroup a_group _ 2 _ _ c.in-2.is c.in_ok-opcode.ensures.told Sequence refl refl refl

pub returns-in-3 : goal.returns-in-3
unfolding many
returns-in-3 c = node_bare OfGroup a_group _ 3 _ _ c.in-3.is c.in_ok-opcode.ensures.told FirstOf refl refl refl

pub returns-in_err-low-in_default : goal.returns-in_err-low-in_default
unfolding many
returns-in_err-low-in_default c = stopped (MadeAt OfGroup a_group) _ _ _ _ c.from_residual-in_err-low-in_default.ensures.1 (node_ranged OfGroup a_group _ 4 _ _ (omega (arith, c.in_ok-opcode.ensures.told.1.0.2.1)) c.in_ok-opcode.ensures.told (a_group ∷ []) (λ lo hi u. u ≡ Repeat lo hi) c.opcode.new.self (Err c.in_err-low-in_default.field-0.0) (λ ss. ceases_first a_bound (a_last ∷ ss) _ _ _ c.in_err-low-in_default.ensures.told) refl (λ lo hi u e. rw e (refl, refl, refl)))

pub returns-in_err-high-in_default : goal.returns-in_err-high-in_default
unfolding many
returns-in_err-high-in_default c =
    let (b, t) = c.in_ok-low-in_default.ensures.told in
    stopped (MadeAt OfGroup a_group) _ _ _ _ c.from_residual-in_err-high-in_default.ensures.1 (node_ranged OfGroup a_group _ 4 _ _ (omega (arith, c.in_ok-opcode.ensures.told.1.0.2.1)) c.in_ok-opcode.ensures.told (a_group ∷ []) (λ lo hi u. u ≡ Repeat lo hi) c.opcode.new.self (Err c.in_err-high-in_default.field-0.0) (range_second _ _ _ _ _ t (rw b at c.in_err-high-in_default.ensures.told)) refl (λ lo hi u e. rw e (refl, refl, refl)))

pub returns-in_ok-high-in_default : goal.returns-in_ok-high-in_default
unfolding many
returns-in_ok-high-in_default c =
    let (b, t) = c.in_ok-low-in_default.ensures.told in
    let (d, u) = rw b at c.in_ok-high-in_default.ensures.told in
    node_ranged OfGroup a_group _ 4 _ _ (omega (arith, c.in_ok-opcode.ensures.told.1.0.2.1)) c.in_ok-opcode.ensures.told (a_group ∷ []) (λ lo hi u. u ≡ Repeat lo hi) _ (Ok (Repeat c.in_ok-low-in_default.low c.in_ok-high-in_default.high)) (d, (c.in_ok-low-in_default.low, c.in_ok-high-in_default.high, refl, t.0.2.1, u.0.2.1, spelled_two number number _ _ _ _ _ _ t u)) refl (λ lo hi u e. rw e (refl, refl, refl))

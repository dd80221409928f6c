use Rattle.sequence.proofs.Readers.{handed_on}
use Rattle.schema.specs.Grammar.{a_field}
use Rattle.schema.specs.Reading.{NodeAt}
use Rattle.schema.proofs.nodes.read_field.Goals as goal

pub returns-in_err-next_field : goal.returns-in_err-next_field
returns-in_err-next_field c = handed_on (NodeAt a_field _ _) _ _ c.from_residual.ensures.1 c.in_err-next_field.ensures

use Rattle.sequence.proofs.Readers.{handed_on}
use Rattle.schema.specs.Grammar.{a_schema}
use Rattle.schema.specs.Reading.{NodeAt}
use Rattle.schema.proofs.nodes.read_schema.Goals as goal

pub returns-in_err-next_schema : goal.returns-in_err-next_schema
returns-in_err-next_schema c = handed_on (NodeAt a_schema _ _) _ _ c.from_residual.ensures.1 c.in_err-next_schema.ensures

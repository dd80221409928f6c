use Rattle.sequence.proofs.Readers.{handed_on}
use Rattle.schema.specs.Grammar.{a_group}
use Rattle.schema.specs.Reading.{NodeAt}
use Rattle.schema.proofs.nodes.read_group.Goals as goal

pub returns-in_err-next_group : goal.returns-in_err-next_group
returns-in_err-next_group c = handed_on (NodeAt a_group _ _) _ _ c.from_residual.ensures.1 c.in_err-next_group.ensures

use Rattle.sequence.proofs.Readers.{handed_on}
use Rattle.request.specs.Reading.{StepAt}
use Rattle.request.proofs.reading.read_step.Goals as goal

pub returns-in_err-value : goal.returns-in_err-value
returns-in_err-value c = handed_on (StepAt c.args.bytes.now c.args.at) _ _ c.from_residual.ensures.1 c.in_err-value.ensures

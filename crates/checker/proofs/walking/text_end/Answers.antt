use Rattle.checker.proofs.Verdicts.{text_wrong, text_goes_on}
use Rattle.checker.proofs.walking.text_end.Goals as goal

pub returns-in-Some : goal.returns-in-Some
returns-in-Some c = text_wrong c.args.bytes.now c.args.at c.args.size c.in-Some.index c.in-Some.ensures

pub returns-in-None : goal.returns-in-None
returns-in-None c = rw c.ok_or.ensures.value (text_goes_on c.args.bytes.now c.args.at c.args.size c.bytes_end.result c.requires c.in-None.ensures c.bytes_end.ensures)

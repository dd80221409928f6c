use Rattle.request.proofs.Writes.{find_meaning}
use Rattle.request.proofs.writing.write_request.Goals as goal

pub returns-in-Find-clause-meaning : goal.returns-in-Find-clause-meaning
returns-in-Find-clause-meaning c = rw c.in-Find.is (find_meaning c.in-Find.path c.in-Find.item)

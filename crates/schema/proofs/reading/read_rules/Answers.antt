use Rattle.schema.proofs.Progresses.{lengthened, told_from, read_back}
use Rattle.schema.proofs.reading.read_rules.Goals as goal

pub returns-clause-told : goal.returns-clause-told
returns-clause-told c = told_from _ _ _ _ (c.in-Some-Some.ensures.cases.enough, c.in-Some-Some.ensures'.cases.enough) (lengthened _ _ _ _ c.read_all.ensures.room c.read_all.ensures.rules)

pub returns-clause-back : goal.returns-clause-back
returns-clause-back c ss w e p enough = read_back _ _ _ (lengthened _ _ _ _ c.read_all.ensures.room c.read_all.ensures.rules) ss w e p

use Rattle.request.proofs.Requests.{written_is_bytes, one_way}
use Rattle.request.proofs.laws.theory_stands.Goals as goal

pub returns-clause-written_is_bytes : goal.returns-clause-written_is_bytes
returns-clause-written_is_bytes c = written_is_bytes

pub returns-clause-one_way : goal.returns-clause-one_way
returns-clause-one_way c = one_way

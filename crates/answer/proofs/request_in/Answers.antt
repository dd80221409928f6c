use Rattle.std.proofs.Common.{rules}
use Rattle.answer.proofs.Tells.{request_told}
use Rattle.answer.proofs.request_in.Goals as goal

pub returns-in-None : goal.returns-in-None
returns-in-None c = request_told c.args.bytes.now c.read_request.result c.map_err.result _ c.read_request.ensures.right c.in-None.ensures c.map_err.ensures.cases (λ s p h. search rules)

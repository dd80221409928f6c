use Rattle.std.proofs.Common.{sym, ◌∙◌, arith}
use Rattle.cbor.specs.Encoding.{major_number}
use Rattle.items.proofs.Skips.{no_head_there}
use Rattle.items.proofs.skipping.head_at.Goals as goal

pub returns-in_err-head : goal.returns-in_err-head
returns-in_err-head c = rw c.from_residual-in_err-head.ensures (no_head_there (major_number c.of_head-major.result) c.args.bytes.now c.args.at c.read_head.result c.read_head.ensures (sym c.ok.ensures.value ∙ c.in_err-head.was) c.in_ok-get.field-0 c.in_ok-get.ensures.lookup (omega arith))

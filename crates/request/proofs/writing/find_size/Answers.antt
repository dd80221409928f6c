use Rattle.request.proofs.Writes.{find_too_large, find_sum}
use Rattle.request.proofs.writing.find_size.Goals as goal

pub returns-in_err-tokens_size : goal.returns-in_err-tokens_size
returns-in_err-tokens_size c = rw c.from_residual.ensures (find_too_large c.args.path c.args.item.now c.in_err-tokens_size.ensures)

pub returns : goal.returns
returns c = find_sum c.args.path c.args.item.now c.in_ok-tokens_size.field-0 c.checked_add.result c.in_ok-tokens_size.ensures c.checked_add.ensures

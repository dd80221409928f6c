use Rattle.std.proofs.Common.{Ok, Err}
use Rattle.sequence.proofs.Readers.{handed_on}
use Rattle.request.specs.Reading.{RequestAt}
use Rattle.request.proofs.Places.{whole, reads_back}
use Rattle.request.proofs.reading.read_request.Goals as goal

pub returns-in_err-value : goal.returns-in_err-value
returns-in_err-value c =
    let h = handed_on (RequestAt c.args.bytes.now) _ _ c.from_residual.ensures.1 (whole _ (Err c.in_err-value.field-0.0) c.in_err-value.ensures) in
    record { right = h; back = reads_back _ _ h }

pub returns-clause-back : goal.returns-clause-back
returns-clause-back c = let r = Ok (record { value = c.in_ok-value.value; next = c.next_request.new.reader.at }) in reads_back _ r (whole _ r c.in_ok-value.ensures.1)

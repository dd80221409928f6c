-- Where reading stops.
use Rattle.std.proofs.Common.{◌≡◌, ℕ, List, Ok, Err, Result}
use Rattle.std.specs.Result.{IsErrAnd}
use Rattle.cbor.specs.declared.reading.Stop.{Stop}
use Rattle.sequence.specs.declared.reading.Parsed.{Parsed}
use Rattle.sequence.specs.declared.reading.Reader.{Reader}
use Rattle.sequence.specs.Reading.{Reads}

-- what is handed on where reading stops
pub handed_on : {T : Type 0} (P : Result T Stop → Type 0) (r : Result T Stop) (s : Stop) → IsErrAnd r (λ x. x ≡ s) → P (Err s) → P r
handed_on P (Ok x) s e h = absurd e
handed_on P (Err x) s e h = rw e h

pub stopped : {T : Type 0} (P : List ℕ → ℕ → Result (Parsed T) Stop → Type 0) (old new : Reader) (r : Result T Stop) (s : Stop) → IsErrAnd r (λ x. x ≡ s) → P old.bytes.now old.at (Err s) → Reads P old new r
stopped P old new r s e h = handed_on (λ r. Reads P old new r) r s e h

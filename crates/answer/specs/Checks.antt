-- What a check of a request tells: it hands the request on where its refusal doesn't apply to what is asked, and only there.
use Rattle.std.specs.Prelude.{◌≡◌, Bool, true, false, Some, None, Option}
use Rattle.request.specs.declared.reading.Request.{Request}
use Rattle.request.specs.Asked.{Asked}
use Rattle.request.specs.Reading.{Means}

abbrev pub Passes : (Asked → Type 0) → Request → Option Request → Type 0
Passes Refused q (Some r) = (r ≡ q) × ((a : Asked) → Means q a → Refused a → ⊥)
Passes Refused q None = (a : Asked) → Means q a → Refused a

abbrev pub Decides : Bool → Type 0 → Type 0
Decides true P = P
Decides false P = P → ⊥

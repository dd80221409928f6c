-- The bytes of a request as it is handed over to be written.
use Rattle.std.specs.Prelude.{ℕ, List, [], ◌∷◌, ◌++◌}
use Rattle.sequence.specs.Token.{num, str, token_bytes, spell}
use Rattle.request.specs.declared.reading.Path.{Path}
use Rattle.request.specs.declared.reading.Request.{Request}
use Rattle.request.specs.declared.reading.Request.TheVariants.{Check, Find, Fit}

abbrev pub find_bytes : Path → List ℕ → List ℕ
find_bytes path item = token_bytes (num 1) ++ (token_bytes (num path.count) ++ (path.steps.now ++ token_bytes (str item)))

abbrev pub request_bytes : Request → List ℕ
request_bytes (Check item) = spell (num 0 ∷ str item.now ∷ [])
request_bytes (Find path item) = find_bytes path item.now
request_bytes (Fit rules which item) = spell (num 2 ∷ str rules.now ∷ num which ∷ str item.now ∷ [])

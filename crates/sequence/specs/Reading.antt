-- What reading a token tells.
use Rattle.std.specs.Prelude.{◌≡◌, ℕ, ◌<◌, List, Ok, Err, Result}
use Rattle.std.specs.Borrow.{Bor}
use Rattle.cbor.specs.declared.reading.Head.{Head}
use Rattle.cbor.specs.declared.reading.Stop.{Stop}
use Rattle.cbor.specs.Prefix.{Any, StandsAt}
use Rattle.cbor.specs.Reading.{Stopped}
use Rattle.sequence.specs.declared.reading.Parsed.{Parsed}
use Rattle.sequence.specs.declared.reading.Reader.{Reader}
use Rattle.sequence.specs.Token.{Token, num, str, spell, Shape, string, TokenOf}
use Rattle.sequence.specs.Grammar.{Grammar, Completes}

-- a token up to a place
abbrev pub TokenAt : Shape → Token → List ℕ → ℕ → ℕ → Type 0
TokenAt s t bs at end = StandsAt (TokenOf s t) bs at end × (at < end)

-- a token as the value that it stands for
abbrev pub TokenRead : {T : Type 0} → Shape → (T → Token) → List ℕ → ℕ → Result (Parsed T) Stop → Type 0
TokenRead s token_of bs at (Ok x) = TokenAt s (token_of x.value) bs at x.next
TokenRead s token_of bs at (Err stop) = Stopped (Any (TokenOf s)) bs at stop

abbrev pub NumberAt : Shape → List ℕ → ℕ → Result Head Stop → Type 0
NumberAt s bs at (Ok h) = TokenAt s (num h.argument) bs at h.next
NumberAt s bs at (Err stop) = Stopped (Any (TokenOf s)) bs at stop

abbrev pub StringAt : List ℕ → ℕ → Result (Parsed (Bor (List ℕ))) Stop → Type 0
StringAt bs at r = TokenRead string (λ content. str content.now) bs at r

-- tokens up to a place
abbrev pub SpelledAt : List Token → List ℕ → ℕ → ℕ → Type 0
SpelledAt ts bs at end = StandsAt (λ w. w ≡ spell ts) bs at end

-- bytes cease to begin what is pending
abbrev pub PendingStops : {S : Type 0} → Grammar S → List S → List ℕ → ℕ → Stop → Type 0
PendingStops G ss bs at stop = Stopped (Any (Completes G ss)) bs at stop

-- what a reader reads where it is, and it is then behind that
abbrev pub Reads : {T : Type 0} → (List ℕ → ℕ → Result (Parsed T) Stop → Type 0) → Reader → Reader → Result T Stop → Type 0
Reads P old new (Ok x) = (new.bytes ≡ old.bytes) × P old.bytes.now old.at (Ok (record { value = x; next = new.at }))
Reads P old new (Err stop) = P old.bytes.now old.at (Err stop)

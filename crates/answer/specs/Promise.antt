-- THE PROMISE: every byte string is answered; what is no request is refused at the first byte with which it begins none, and a request by the first
-- refusal that applies, or else rightly.
use Rattle.std.specs.Prelude.{◌≡◌, ℕ, ◌+◌, ◌<◌, ◌≤◌, false, ◌⊎◌, List, ◌++◌, length, Some, None, Ok, Err, Option, Result}
use Rattle.cbor.specs.Encoding.{head}
use Rattle.cbor.specs.Prefix.{Any, Stops}
use Rattle.sequence.specs.declared.reading.Parsed.{Parsed}
use Rattle.schema.specs.Verdict.{Readable, Malformed}
use Rattle.request.specs.declared.reading.Request.{Request}
use Rattle.request.specs.declared.answers.Refusal.TheVariants.{NotARequest, TooLarge, Unsound, Circular, NotOneItem, NotOffered}
use Rattle.request.specs.declared.answers.Answer.{Answer}
use Rattle.request.specs.declared.answers.Answer.TheVariants.{Refused, Complete, Prefix, Wrong, Found, NotThere, Fits}
use Rattle.request.specs.Asked.{Asked, check, find, fit, write, Writable, IsRequest}
use Rattle.request.specs.Reading.{RulesThere, RequestAt}
use Rattle.answer.specs.declared.TooLittleLent.{TooLittleLent}
use Rattle.answer.specs.declared.refusals.Offered.{Offered}
use Rattle.answer.specs.Refusals.{FirstRefusal}

-- what is offered: no kind of request yet
abbrev pub offered : Offered
offered = record { check = false; find = false; fit = false }

-- the answer to a request: a refusal that is the first to apply; there is no other answer while nothing is offered
abbrev pub Answered : Asked → Answer → Type 0
Answered a (Refused refusal place) = FirstRefusal offered a (Some refusal) × (place ≡ 0)
Answered a Complete = ⊥
Answered a Prefix = ⊥
Answered a (Wrong place) = ⊥
Answered a (Found from size) = ⊥
Answered a NotThere = ⊥
Answered a (Fits fits) = ⊥

-- of a request to fit its rules have to be some, or too many to look at
abbrev pub RulesReadable : Asked → Type 0
RulesReadable (check item) = Unit {0}
RulesReadable (find path item) = Unit {0}
RulesReadable (fit rules which item) = Readable rules

-- bytes that begin with a request are answered as it is
abbrev pub RequestAnswered : List ℕ → Answer → Type 0
RequestAnswered bs r = (a : Asked) × (rest : List ℕ) × (bs ≡ write a ++ rest) × Writable a × RulesReadable a × Answered a r

-- what is no request: rules stand there whole and are wrong at a place, which is counted from the request's first byte; or rules that stand there whole are
-- readable, and the bytes begin with no request, and cease to begin one at the place
abbrev pub WrongRules : List ℕ → ℕ → Type 0
WrongRules bs place = (rules : List ℕ) × RulesThere bs rules × ((p : ℕ) × Malformed rules p × (place ≡ 1 + length (head 2 (length rules)) + p))

abbrev pub RulesToldOf : List ℕ → Option ℕ → Type 0
RulesToldOf bs (Some place) = WrongRules bs place
RulesToldOf bs None = (rules : List ℕ) → RulesThere bs rules → Readable rules

abbrev pub NoRequest : List ℕ → ℕ → Type 0
NoRequest bs place = WrongRules bs place ⊎ (((rules : List ℕ) → RulesThere bs rules → Readable rules) × Stops (Any IsRequest) bs place 0)

-- the request that the bytes begin with, of which rules that stand there whole are readable; or the place at which the bytes are no request
abbrev pub RequestIn : List ℕ → Result (Parsed Request) ℕ → Type 0
RequestIn bs (Ok x) = RequestAt bs (Ok x) × ((rules : List ℕ) → RulesThere bs rules → Readable rules)
RequestIn bs (Err place) = NoRequest bs place

abbrev pub Right : List ℕ → Answer → Type 0
Right bs (Refused NotARequest place) = NoRequest bs place
Right bs (Refused TooLarge place) = RequestAnswered bs (Refused TooLarge place)
Right bs (Refused Unsound place) = RequestAnswered bs (Refused Unsound place)
Right bs (Refused Circular place) = RequestAnswered bs (Refused Circular place)
Right bs (Refused NotOneItem place) = RequestAnswered bs (Refused NotOneItem place)
Right bs (Refused NotOffered place) = RequestAnswered bs (Refused NotOffered place)
Right bs Complete = RequestAnswered bs Complete
Right bs Prefix = RequestAnswered bs Prefix
Right bs (Wrong place) = RequestAnswered bs (Wrong place)
Right bs (Found from size) = RequestAnswered bs (Found from size)
Right bs NotThere = RequestAnswered bs NotThere
Right bs (Fits fits) = RequestAnswered bs (Fits fits)

-- with so much lent
abbrev pub Answers : ℕ → List ℕ → Result Answer TooLittleLent → Type 0
Answers lent bs (Ok r) = (49156 ≤ lent) × Right bs r
Answers lent bs (Err e) = lent < 49156

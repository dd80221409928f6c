-- What reading a request tells.
use Rattle.std.specs.Prelude.{◌≡◌, ℕ, ◌-◌, ◌<◌, ◌≤◌, List, [], ◌∷◌, ◌++◌, length, take, drop, Some, None, Ok, Err, Option, Result}
use Rattle.std.specs.Borrow.{Bor}
use Rattle.cbor.specs.declared.reading.Stop.{Stop}
use Rattle.cbor.specs.Prefix.{Any, Stops}
use Rattle.cbor.specs.Reading.{Stopped}
use Rattle.sequence.specs.Token.{num, str, spell, ByteString, opcode, number, TokenOf}
use Rattle.sequence.specs.Reading.{TokenAt, TokenRead, SpelledAt, PendingStops}
use Rattle.request.specs.declared.reading.Step.{Step as LentStep}
use Rattle.request.specs.declared.reading.Step.TheVariants.{Index, Key, Content}
use Rattle.request.specs.declared.reading.Path.{Path}
use Rattle.request.specs.declared.reading.Request.{Request}
use Rattle.request.specs.declared.reading.Request.TheVariants.{Check, Find, Fit}
use Rattle.sequence.specs.declared.reading.Parsed.{Parsed}
use Rattle.request.specs.declared.reading.StepKind.{StepKind}
use Rattle.request.specs.declared.reading.StepKind.TheVariants.{Index as KindIndex, Key as KindKey, Content as KindContent}
use Rattle.request.specs.declared.reading.Kind.{Kind}
use Rattle.request.specs.declared.reading.Kind.TheVariants.{Check as KindCheck, Find as KindFind, Fit as KindFit}
use Rattle.request.specs.declared.reading.Extent.{Extent}
use Rattle.request.specs.declared.reading.Extent.TheVariants.{Complete, Incomplete, Wrong}
use Rattle.request.specs.Asked.{Step, index, key, content, Asked, check, find, fit, step_tokens, path_tokens, tokens, write, WritableStep, WritablePath, Writable, IsRequest}
use Rattle.sequence.specs.Grammar.{many}
use Rattle.request.specs.Grammar.{Sort, a_request, a_path, a_step, requests}

-- the kinds of steps and of requests, by their numbers
abbrev pub step_number : StepKind → ℕ
step_number KindIndex = 0
step_number KindKey = 1
step_number KindContent = 2

abbrev pub kind_number : Kind → ℕ
kind_number KindCheck = 0
kind_number KindFind = 1
kind_number KindFit = 2

abbrev pub KindAt : {K : Type 0} → (K → ℕ) → List ℕ → ℕ → Result (Parsed K) Stop → Type 0
KindAt number_of bs at r = TokenRead (opcode 2) (λ k. num (number_of k)) bs at r

-- a step, a path and a request, as parts of the lent bytes, stand for what is asked
abbrev pub step_of : LentStep → Step
step_of (Index n) = index n
step_of (Key k) = key k.now
step_of Content = content

abbrev pub PathOf : Path → List Step → Type 0
PathOf p ps = (length ps ≡ p.count) × (p.steps.now ≡ spell (path_tokens ps))

abbrev pub Means : Request → Asked → Type 0
Means (Check item) a = a ≡ check item.now
Means (Find path item) a = (ps : List Step) × PathOf path ps × (a ≡ find ps item.now)
Means (Fit rules which item) a = a ≡ fit rules.now which item.now

abbrev pub StepAt : List ℕ → ℕ → Result (Parsed LentStep) Stop → Type 0
StepAt bs at (Ok x) = WritableStep (step_of x.value) × SpelledAt (step_tokens (step_of x.value)) bs at x.next
StepAt bs at (Err s) = (ss : List Sort) → PendingStops requests (a_step ∷ ss) bs at s

abbrev pub PathAt : List ℕ → ℕ → ℕ → Result ℕ Stop → Type 0
PathAt bs at n (Ok end) = (ps : List Step) × (length ps ≡ n) × WritablePath ps × SpelledAt (path_tokens ps) bs at end
PathAt bs at n (Err s) = (ss : List Sort) → PendingStops requests (many n a_step ++ ss) bs at s

-- how many steps, and so many steps
abbrev pub CountedPathAt : List ℕ → ℕ → Result (Parsed Path) Stop → Type 0
CountedPathAt bs at (Ok x) = (from : ℕ) × TokenAt number (num x.value.count) bs at from × PathAt bs from x.value.count (Ok x.next) × (x.value.steps.now ≡ take (x.next - from) (drop from bs))
CountedPathAt bs at (Err s) = (ss : List Sort) → PendingStops requests (a_path ∷ ss) bs at s

-- the request that stands at a place
abbrev pub RequestFrom : List ℕ → ℕ → Result (Parsed Request) Stop → Type 0
RequestFrom bs at (Ok x) = (a : Asked) × Means x.value a × Writable a × SpelledAt (tokens a) bs at x.next
RequestFrom bs at (Err s) = PendingStops requests (a_request ∷ []) bs at s

-- the request that stands at the beginning of the bytes, and how many of them it took; or no request stands there, and they cease to begin one at a place
abbrev pub RequestAt : List ℕ → Result (Parsed Request) Stop → Type 0
RequestAt bs (Ok x) = (a : Asked) × Means x.value a × IsRequest a (take x.next bs) × (x.next ≤ length bs)
RequestAt bs (Err s) = Stops (Any IsRequest) bs s.place s.least

-- a request that was written is read as itself, with how many bytes it took, whatever comes after
abbrev pub IsRead : Asked → ℕ → Result (Parsed Request) Stop → Type 0
IsRead a n (Ok x) = Means x.value a × (x.next ≡ n)
IsRead a n (Err s) = ⊥

abbrev pub ReadsBack : List ℕ → Result (Parsed Request) Stop → Type 0
ReadsBack bs r = (a : Asked) (rest : List ℕ) → Writable a → bs ≡ write a ++ rest → IsRead a (length (write a)) r

-- how far the first request reaches
abbrev pub Reaches : List ℕ → Extent → Type 0
Reaches bs (Complete n) = (0 < n) × (n ≤ length bs) × Any IsRequest (take n bs)
Reaches bs (Incomplete least) = Stops (Any IsRequest) bs (length bs) least
Reaches bs (Wrong place) = (place < length bs) × Stops (Any IsRequest) bs place 0

-- the rules that stand where those of a request to fit do, with what comes after them
abbrev pub RulesThere : List ℕ → List ℕ → Type 0
RulesThere bs rules = ByteString rules × ((rest : List ℕ) × (bs ≡ spell (num 2 ∷ str rules ∷ []) ++ rest))

abbrev pub RulesIn : List ℕ → Option (Bor (List ℕ)) → Type 0
RulesIn bs (Some rules) = RulesThere bs rules.now × ((other : List ℕ) → RulesThere bs other → other ≡ rules.now)
RulesIn bs None = (rules : List ℕ) → RulesThere bs rules → ⊥

-- Which refusals apply to a request, and which of them is told.
use Rattle.std.specs.Prelude.{◌≡◌, ◌<◌, ◌≤◌, Bool, false, ◌⊎◌, List, [], ◌∷◌, length, Some, None, Option}
use Rattle.request.specs.declared.answers.Refusal.{Refusal}
use Rattle.request.specs.declared.answers.Refusal.TheVariants.{NotARequest, TooLarge, Unsound, Circular, NotOneItem, NotOffered}
use Rattle.request.specs.Asked.{Asked, check, find, fit}
use Rattle.schema.specs.Verdict.{HasTooMany}
use Rattle.answer.specs.declared.refusals.Offered.{Offered}

abbrev pub offers : Offered → Asked → Bool
offers o (check item) = o.check
offers o (find path item) = o.find
offers o (fit rules which item) = o.fit

-- a path of more than 32 steps, rules of more than 8,192 parts, or 2^60 bytes or more
abbrev pub IsTooLarge : Asked → Type 0
IsTooLarge (check item) = 1152921504606846976 ≤ length item
IsTooLarge (find path item) = (32 < length path) ⊎ (1152921504606846976 ≤ length item)
IsTooLarge (fit rules which item) = HasTooMany rules ⊎ (1152921504606846976 ≤ length item)

-- the last three speak of items and of rules, of which no request asks yet
abbrev pub Applies : Offered → Refusal → Asked → Type 0
Applies o NotARequest a = ⊥
Applies o NotOffered a = offers o a ≡ false
Applies o TooLarge a = IsTooLarge a
Applies o Unsound a = ⊥
Applies o Circular a = ⊥
Applies o NotOneItem a = ⊥

-- THE ORDER
abbrev pub order : List Refusal
order = NotARequest ∷ NotOffered ∷ TooLarge ∷ Unsound ∷ Circular ∷ NotOneItem ∷ []

-- the first of a list that applies, if one does
abbrev pub First : Offered → List Refusal → Asked → Option Refusal → Type 0
First o [] a r = r ≡ None
First o (x ∷ xs) a r = (Applies o x a × (r ≡ Some x)) ⊎ ((Applies o x a → ⊥) × First o xs a r)

abbrev pub FirstRefusal : Offered → Asked → Option Refusal → Type 0
FirstRefusal o a r = First o order a r

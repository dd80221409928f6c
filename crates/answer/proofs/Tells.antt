-- The refusal of a request is the right answer.
use Rattle.std.proofs.Common.{◌≡◌, ℕ, ◌+◌, ◌≤◌, false, List, [], ◌∷◌, ◌++◌, length, take, drop, Some, None, Ok, Err, Result, sym, refl, ap, ◌∙◌, inl, inr, append_assoc, arith, length-append, take-append-drop}
use Rattle.sequence.specs.declared.reading.Parsed.{Parsed}
use Rattle.request.specs.declared.reading.Request.{Request}
use Rattle.request.specs.declared.answers.Refusal.{Refusal}
use Rattle.request.specs.declared.answers.Refusal.TheVariants.{NotARequest, TooLarge, Unsound, Circular, NotOneItem, NotOffered}
use Rattle.request.specs.declared.answers.Answer.TheVariants.{Refused}
use Rattle.std.specs.Result.{MatchResult, IsErrAnd}
use Rattle.std.proofs.lemmas.List.{append-nil}
use Rattle.cbor.specs.declared.reading.Stop.{Stop}
use Rattle.cbor.specs.Prefix.{Any}
use Rattle.cbor.proofs.Words.{stops_lower}
use Rattle.cbor.specs.Encoding.{head}
use Rattle.sequence.specs.Token.{num, str, token_bytes, spell}
use Rattle.schema.specs.Verdict.{Readable}
use Rattle.request.specs.Asked.{Asked, check, find, fit, write, Writable, IsRequest}
use Rattle.request.specs.Reading.{RequestAt, RulesThere}
use Rattle.answer.specs.declared.refusals.Offered.{Offered}
use Rattle.answer.specs.Refusals.{offers, Applies, order, First, FirstRefusal}
use Rattle.answer.specs.Promise.{offered, RulesReadable, RequestIn, Right}

-- what is first of a list applies
applies : (o : Offered) (xs : List Refusal) (a : Asked) (x : Refusal) → First o xs a (Some x) → Applies o x a
applies o [] a x e = absurd (let z : ◌≡◌ {A = ℕ} 0 1 = cc in omega arith)
applies o (y ∷ xs) a x (inl (h, e)) = let z : y ≡ x = cc in rw (sym z) h
applies o (y ∷ xs) a x (inr (h, f)) = applies o xs a x f

-- rules that a request has stand at its beginning
has_rules : (a : Asked) (bs rest : List ℕ) → bs ≡ write a ++ rest → Writable a → ((rules : List ℕ) → RulesThere bs rules → Readable rules) → RulesReadable a
unfolding spell
has_rules (check item) bs rest e w f = tt
has_rules (find path item) bs rest e w f = tt
has_rules (fit rules which item) bs rest e (b, c, d) f =
    let more = token_bytes (num which) ++ (token_bytes (str item) ++ []) in
    f rules (b, (more ++ rest, e ∙ (let z : (token_bytes (num 2) ++ (token_bytes (str rules) ++ more)) ++ rest ≡ (token_bytes (num 2) ++ (token_bytes (str rules) ++ [])) ++ (more ++ rest) = simp append_assoc in z)))

pub refused : (bs : List ℕ) (a : Asked) (n : ℕ) (x : Refusal) → n ≤ length bs → take n bs ≡ write a → Writable a → ((rules : List ℕ) → RulesThere bs rules → Readable rules) → FirstRefusal offered a (Some x) → Right bs (Refused x 0)
refused bs a n x l e w g f = by_refusal x f
  where
    whole : bs ≡ write a ++ drop n bs
    whole = sym (take-append-drop n bs) ∙ ap (λ u. u ++ drop n bs) e

    by_refusal : (x : Refusal) → FirstRefusal offered a (Some x) → Right bs (Refused x 0)
    by_refusal NotARequest f = absurd (applies offered order a NotARequest f)
    by_refusal TooLarge f = (a, drop n bs, whole, w, has_rules a bs (drop n bs) whole w g, (f, refl))
    by_refusal Unsound f = (a, drop n bs, whole, w, has_rules a bs (drop n bs) whole w g, (f, refl))
    by_refusal Circular f = (a, drop n bs, whole, w, has_rules a bs (drop n bs) whole w g, (f, refl))
    by_refusal NotOneItem f = (a, drop n bs, whole, w, has_rules a bs (drop n bs) whole w g, (f, refl))
    by_refusal NotOffered f = (a, drop n bs, whole, w, has_rules a bs (drop n bs) whole w g, (f, refl))

-- while nothing is offered, a refusal applies to whatever is asked
nothing_offered : (a : Asked) → offers offered a ≡ false
nothing_offered (check item) = refl
nothing_offered (find path item) = refl
nothing_offered (fit rules which item) = refl

pub some_refusal : (a : Asked) → FirstRefusal offered a None → ⊥
some_refusal a (inl (h, e)) = h
some_refusal a (inr (h, inl (f, e))) = absurd (cc)
some_refusal a (inr (h, inr (f, g))) = f (nothing_offered a)

-- rules lie within the bytes that they stand in
pub rules_within : (bs rules : List ℕ) → RulesThere bs rules → 1 + length (head 2 (length rules)) + length rules ≤ length bs
unfolding spell
rules_within bs rules (b, (rest, e)) =
    let h = head 2 (length rules) in
    omega (arith, ap length e, length-append (spell (num 2 ∷ str rules ∷ [])) rest, length-append (token_bytes (num 2)) (token_bytes (str rules) ++ []), ap length (append-nil (token_bytes (str rules))), length-append h rules)

-- what is read is told with the place alone
pub request_told : (bs : List ℕ) (q : Result (Parsed Request) Stop) (r : Result (Parsed Request) ℕ) (P : Stop → ℕ → Type 0) → RequestAt bs q → ((rules : List ℕ) → RulesThere bs rules → Readable rules) → MatchResult q (λ x. r ≡ Ok x) (λ s. IsErrAnd r (P s)) → ((s : Stop) (p : ℕ) → P s p → p ≡ s.place) → RequestIn bs r
request_told bs (Ok x) r P h g e f = rw e (h, g)
request_told bs (Err s) (Ok x) P h g e f = absurd e
request_told bs (Err s) (Err p) P h g e f = rw (f s p e) (inr (g, stops_lower (Any IsRequest) bs s.place s.least 0 (omega arith) h))

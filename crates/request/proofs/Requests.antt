-- Requests are what completes a pending request.
use Rattle.std.proofs.Common.{◌≡◌, ℕ, zero, suc, ◌≤◌, true, List, [], ◌∷◌, ◌++◌, length, sym, refl, ap, ◌∙◌, subst, append_assoc, arith}
use Rattle.cbor.specs.Encoding.{all_bytes}
use Rattle.cbor.specs.Prefix.{Any, Stops}
use Rattle.cbor.proofs.Words.{free_two, stops_same}
use Rattle.sequence.specs.Token.{Token, num, str, spell, Word, ByteString}
use Rattle.sequence.specs.Grammar.{Takes, Completes, Completable, many}
use Rattle.sequence.proofs.Grammars.{takes_append, completes_free, spell_bytes}
use Rattle.request.specs.Asked.{Step, index, key, content, Asked, check, find, fit, step_tokens, path_tokens, tokens, write, WritableStep, WritablePath, Writable, IsRequest}
use Rattle.request.specs.Grammar.{Sort, a_request, a_path, a_step, a_number, a_string, requests}

-- every sort can be completed
pub completable : Completable requests
unfolding Takes many all_bytes
completable a_request = (num 0 ∷ str [] ∷ [], λ ss. ((omega arith, omega arith), ((refl, omega arith), refl)))
completable a_path = (num 0 ∷ [], λ ss. (omega arith, refl))
completable a_step = (num 2 ∷ [], λ ss. ((omega arith, omega arith), refl))
completable a_number = (num 0 ∷ [], λ ss. (omega arith, refl))
completable a_string = (str [] ∷ [], λ ss. ((refl, omega arith), refl))

-- WHAT IS WRITTEN COMPLETES A REQUEST

pub step_takes : (p : Step) (ss : List Sort) → WritableStep p → Takes requests (a_step ∷ ss) (step_tokens p) ss
unfolding Takes
step_takes (index n) ss w = ((omega arith, omega arith), (w, refl))
step_takes (key k) ss w = ((omega arith, omega arith), (w, refl))
step_takes content ss w = ((omega arith, omega arith), refl)

pub path_takes : (ps : List Step) (ss : List Sort) → WritablePath ps → Takes requests (many (length ps) a_step ++ ss) (path_tokens ps) ss
unfolding Takes many path_tokens WritablePath
path_takes [] ss w = refl
path_takes (p ∷ ps) ss (v, w) = takes_append requests (a_step ∷ (many (length ps) a_step ++ ss)) (many (length ps) a_step ++ ss) ss (step_tokens p) (path_tokens ps) (step_takes p (many (length ps) a_step ++ ss) v) (path_takes ps ss w)

pub request_takes : (a : Asked) → Writable a → Takes requests (a_request ∷ []) (tokens a) []
unfolding Takes
request_takes (check item) w = ((omega arith, omega arith), (w, refl))
request_takes (fit rules which item) (a, b, c) = ((omega arith, omega arith), (a, (b, (c, refl))))
request_takes (find path item) (w, l, b) = ((omega arith, omega arith), (l, takes_append requests (many (length path) a_step ++ a_string ∷ []) (a_string ∷ []) [] (path_tokens path) (str item ∷ []) (path_takes path (a_string ∷ []) w) (b, refl)))

pub written_is_bytes : (a : Asked) → Writable a → all_bytes (write a) ≡ true
written_is_bytes a w = spell_bytes requests (a_request ∷ []) [] (tokens a) (request_takes a w)

-- WHAT COMPLETES A REQUEST IS WRITTEN

last_string : (ts : List Token) → Takes requests (a_string ∷ []) ts [] → (bs : List ℕ) × ByteString bs × (ts ≡ str bs ∷ [])
unfolding Takes
last_string [] f = absurd (let z : ◌≡◌ {A = ℕ} 0 1 = cc in omega arith)
last_string (num n ∷ ts) (a, f) = absurd a
last_string (str bs ∷ []) (a, f) = (bs, a, refl)
last_string (str bs ∷ (t ∷ ts)) (a, f) = absurd f

abbrev StepsIn : ℕ → List Sort → List Token → Type 0
StepsIn n ss ts = (ps : List Step) × (us : List Token) × (length ps ≡ n) × WritablePath ps × Takes requests ss us [] × (ts ≡ path_tokens ps ++ us)

with_step : (p : Step) (n : ℕ) (ss : List Sort) (ts : List Token) → WritableStep p → StepsIn n ss ts → StepsIn (suc n) ss (step_tokens p ++ ts)
unfolding path_tokens WritablePath
with_step p n ss ts w (ps, us, l, v, f, e) = (p ∷ ps, us, ap suc l, (w, v), f, ap (λ x. step_tokens p ++ x) e ∙ sym (append_assoc (step_tokens p) (path_tokens ps) us))

opcode_two : (z : ℕ) → suc (suc z) ≤ 2 → z ≡ 0
opcode_two z h = omega arith

steps_in : (n : ℕ) (ss : List Sort) (ts : List Token) → Takes requests (many n a_step ++ ss) ts [] → StepsIn n ss ts
unfolding Takes many path_tokens WritablePath
steps_in zero ss ts f = ([], ts, refl, tt, f, refl)
steps_in (suc n) ss [] f = absurd (let z : ◌≡◌ {A = ℕ} 0 1 = cc in omega arith)
steps_in (suc n) ss (str k ∷ ts) (a, f) = absurd a
steps_in (suc n) ss (num zero ∷ []) (a, f) = absurd (let z : ◌≡◌ {A = ℕ} 0 1 = cc in omega arith)
steps_in (suc n) ss (num zero ∷ (num i ∷ ts)) (a, (b, f)) = with_step (index i) n ss ts b (steps_in n ss ts f)
steps_in (suc n) ss (num zero ∷ (str k ∷ ts)) (a, (b, f)) = absurd b
steps_in (suc n) ss (num (suc zero) ∷ []) (a, f) = absurd (let z : ◌≡◌ {A = ℕ} 0 1 = cc in omega arith)
steps_in (suc n) ss (num (suc zero) ∷ (num i ∷ ts)) (a, (b, f)) = absurd b
steps_in (suc n) ss (num (suc zero) ∷ (str k ∷ ts)) (a, (b, f)) = with_step (key k) n ss ts b (steps_in n ss ts f)
steps_in (suc n) ss (num (suc (suc z)) ∷ ts) (a, f) = subst (λ x. StepsIn (suc n) ss (num (suc (suc x)) ∷ ts)) (sym (opcode_two z a.0)) (with_step content n ss ts tt (steps_in n ss ts f))

abbrev AskedIn : List Token → Type 0
AskedIn ts = (a : Asked) × Writable a × (ts ≡ tokens a)

find_in : (n : ℕ) (ts : List Token) → Word n → Takes requests (many n a_step ++ a_string ∷ []) ts [] → AskedIn (num 1 ∷ num n ∷ ts)
find_in n ts h f =
    let (ps, us, l, w, g, e) = steps_in n (a_string ∷ []) ts f in
    let (bs, b, p) = last_string us g in
    (find ps bs, (w, omega arith, b), (let z : num 1 ∷ num n ∷ ts ≡ num 1 ∷ num (length ps) ∷ (path_tokens ps ++ str bs ∷ []) = cc in z))

fit_in : (ts : List Token) → Takes requests (a_string ∷ a_number ∷ a_string ∷ []) ts [] → AskedIn (num 2 ∷ ts)
unfolding Takes
fit_in [] f = absurd (let z : ◌≡◌ {A = ℕ} 0 1 = cc in omega arith)
fit_in (num n ∷ ts) (a, f) = absurd a
fit_in (str r ∷ []) (a, f) = absurd (let z : ◌≡◌ {A = ℕ} 0 1 = cc in omega arith)
fit_in (str r ∷ (str n ∷ ts)) (a, (b, f)) = absurd b
fit_in (str r ∷ (num n ∷ ts)) (a, (b, f)) = let (bs, c, p) = last_string ts f in (fit r n bs, (a, b, c), ap (λ x. num 2 ∷ str r ∷ num n ∷ x) p)

asked_in : (ts : List Token) → Takes requests (a_request ∷ []) ts [] → AskedIn ts
unfolding Takes
asked_in [] f = absurd (let z : ◌≡◌ {A = ℕ} 0 1 = cc in omega arith)
asked_in (str bs ∷ ts) (a, f) = absurd a
asked_in (num zero ∷ ts) (a, f) = let (bs, b, p) = last_string ts f in (check bs, b, ap (λ x. num 0 ∷ x) p)
asked_in (num (suc zero) ∷ []) (a, f) = absurd (let z : ◌≡◌ {A = ℕ} 0 1 = cc in omega arith)
asked_in (num (suc zero) ∷ (str bs ∷ ts)) (a, (b, f)) = absurd b
asked_in (num (suc zero) ∷ (num n ∷ ts)) (a, (b, f)) = find_in n ts b f
asked_in (num (suc (suc z)) ∷ ts) (a, f) = subst (λ x. AskedIn (num (suc (suc x)) ∷ ts)) (sym (opcode_two z a.0)) (fit_in ts f)

-- the same words
is_completes : (w : List ℕ) → Any IsRequest w → Any (Completes requests (a_request ∷ [])) w
is_completes w (a, (e, f)) = (tokens a, (e, request_takes a f))

completes_is : (w : List ℕ) → Any (Completes requests (a_request ∷ [])) w → Any IsRequest w
completes_is w (ts, (e, f)) = let (a, g, p) = asked_in ts f in (a, (e ∙ ap spell p, g))

pub stops_request : (bs : List ℕ) (p n : ℕ) → Stops (Any (Completes requests (a_request ∷ []))) bs p n → Stops (Any IsRequest) bs p n
stops_request bs p n s = stops_same (Any (Completes requests (a_request ∷ []))) (Any IsRequest) completes_is is_completes bs p n s

-- IN ONE WAY

steps_same : (ps qs : List Step) (x y : List ℕ) → path_tokens ps ++ str x ∷ [] ≡ path_tokens qs ++ str y ∷ [] → (ps ≡ qs) × (x ≡ y)
unfolding path_tokens
steps_same [] [] x y e = (refl, cc)
steps_same [] (index m ∷ qs) x y e = (cc, cc)
steps_same [] (key m ∷ qs) x y e = (cc, cc)
steps_same [] (content ∷ qs) x y e = (cc, cc)
steps_same (index n ∷ ps) [] x y e = (cc, cc)
steps_same (key n ∷ ps) [] x y e = (cc, cc)
steps_same (content ∷ ps) [] x y e = (cc, cc)
steps_same (index n ∷ ps) (index m ∷ qs) x y e = let i : n ≡ m = cc in let r = steps_same ps qs x y cc in let a = r.0 in (cc, r.1)
steps_same (key n ∷ ps) (key m ∷ qs) x y e = let i : n ≡ m = cc in let r = steps_same ps qs x y cc in let a = r.0 in (cc, r.1)
steps_same (content ∷ ps) (content ∷ qs) x y e = let r = steps_same ps qs x y cc in let a = r.0 in (cc, r.1)
steps_same (index n ∷ ps) (key m ∷ qs) x y e = (cc, cc)
steps_same (index n ∷ ps) (content ∷ qs) x y e = (cc, cc)
steps_same (key n ∷ ps) (index m ∷ qs) x y e = (cc, cc)
steps_same (key n ∷ ps) (content ∷ qs) x y e = (cc, cc)
steps_same (content ∷ ps) (index m ∷ qs) x y e = (cc, cc)
steps_same (content ∷ ps) (key m ∷ qs) x y e = (cc, cc)

tokens_same : (a b : Asked) → tokens a ≡ tokens b → a ≡ b
tokens_same (check x) (check y) e = cc
tokens_same (find p x) (find q y) e = let r = steps_same p q x y cc in let a = r.0 in let b = r.1 in cc
tokens_same (fit r n x) (fit q m y) e = cc
tokens_same (check x) (fit q m y) e = cc
tokens_same (find p x) (fit q m y) e = cc
tokens_same (fit r n x) (check y) e = cc
tokens_same (fit r n x) (find q y) e = cc
tokens_same (check x) (find q y) e = cc
tokens_same (find p x) (check y) e = cc

pub one_way : (a b : Asked) (u v : List ℕ) → Writable a → Writable b → write a ++ u ≡ write b ++ v → (a ≡ b) × (u ≡ v)
one_way a b u v f g e =
    let z = free_two (Completes requests (a_request ∷ [])) (completes_free requests (a_request ∷ [])) (tokens a) (tokens b) (write a) (write b) u v (refl, request_takes a f) (refl, request_takes b g) e in
    (tokens_same a b z.0, z.2)

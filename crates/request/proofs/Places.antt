-- Steps, paths and requests at places of lent bytes.
use Rattle.std.proofs.Common.{◌≡◌, ℕ, suc, ◌+◌, ◌-◌, ◌<◌, ◌≤◌, ◌⊎◌, List, [], ◌∷◌, ◌++◌, length, take, drop, Some, None, Ok, Err, Result, sym, refl, ap, inl, inr, ◌∙◌, subst, arith, length-append, take-append-drop, Bor}
use Rattle.std.specs.Result.{IsErrAnd, result_ok}
use Rattle.cbor.specs.declared.reading.Stop.{Stop}
use Rattle.cbor.specs.Prefix.{Any, Stops}
use Rattle.cbor.specs.Reading.{Stopped}
use Rattle.cbor.proofs.Places.{part_length}
use Rattle.std.proofs.lemmas.List.{take_at}
use Rattle.sequence.specs.Token.{Token, num, str, spell, opcode, number, string, TokenOf}
use Rattle.sequence.specs.Grammar.{Completes, many}
use Rattle.sequence.specs.Reading.{TokenAt, SpelledAt, StringAt, PendingStops, Reads}
use Rattle.sequence.proofs.Grammars.{spelled_one, spelled_append, spelled_two, stop_first, stop_later, stop_after, none_stands, same_token}
use Rattle.request.specs.declared.reading.Path.{Path}
use Rattle.request.specs.declared.reading.Request.{Request}
use Rattle.request.specs.declared.reading.Request.TheVariants.{Check, Find, Fit}
use Rattle.request.specs.declared.reading.Kind.{Kind}
use Rattle.request.specs.declared.reading.Kind.TheVariants.{Check as KindCheck, Find as KindFind}
use Rattle.sequence.specs.declared.reading.Parsed.{Parsed}
use Rattle.sequence.specs.declared.reading.Reader.{Reader}
use Rattle.request.specs.Asked.{Step, Asked, check, find, fit, step_tokens, path_tokens, write, WritableStep, WritablePath}
use Rattle.request.specs.Grammar.{Sort, a_request, a_path, a_step, a_string, shape, after_request, after_step, requests}
use Rattle.request.specs.Reading.{kind_number, Means, StepAt, PathAt, CountedPathAt, RequestFrom, RequestAt, ReadsBack, RulesThere, RulesIn}
use Rattle.request.proofs.Requests.{completable, step_takes, path_takes, stops_request, one_way}

-- what is told of a result, by its `ok`
pub told_ok : {T : Type 0} (P : Result T Stop → Type 0) (r : Result T Stop) (x : T) → Some x ≡ result_ok r → P r → P (Ok x)
told_ok P (Ok y) x e h = let z : x ≡ y = cc in rw z h
told_ok P (Err s) x e h = absurd (cc)

pub told_none : {T : Type 0} (P : Result T Stop → Type 0) (r : Result T Stop) → None ≡ result_ok r → P r → (s : Stop) × P (Err s)
told_none P (Ok y) e h = absurd (cc)
told_none P (Err s) e h = (s, h)

-- STEPS

pub step_stops : (bs : List ℕ) (at mid n : ℕ) (s : Sort) (stop : Stop) → after_step n ≡ s ∷ [] → TokenAt (opcode 2) (num n) bs at mid → Stopped (Any (TokenOf (shape s))) bs mid stop → StepAt bs at (Err stop)
step_stops bs at mid n s stop e t h = λ ss. stop_later requests a_step ss (num n) bs at mid stop t.0 (rw e (stop_first requests completable s ss bs mid stop h))

-- PATHS

pub path_none : (bs : List ℕ) (at n : ℕ) → n ≡ 0 → at ≤ length bs → PathAt bs at n (Ok at)
unfolding spell path_tokens WritablePath
path_none bs at n e h = ([], sym e, tt, (omega arith, h, ap (λ n. take n (drop at bs)) (let z : at - at ≡ 0 = omega arith in z)))

one_more : (bs : List ℕ) (at mid n : ℕ) (p : Step) (r : Result ℕ Stop) → WritableStep p → SpelledAt (step_tokens p) bs at mid → PathAt bs mid n r → PathAt bs at (suc n) r
unfolding path_tokens WritablePath many
one_more bs at mid n p (Ok end) w s (ps, l, v, t) = (p ∷ ps, ap suc l, (w, v), spelled_append (step_tokens p) (path_tokens ps) bs at mid end s t)
one_more bs at mid n p (Err stop) w s f = λ ss. stop_after requests (a_step ∷ (many n a_step ++ ss)) (many n a_step ++ ss) (step_tokens p) bs at mid stop (step_takes p (many n a_step ++ ss) w) s (f ss)

-- after `k` of `count` steps, one more
pub path_more : (bs : List ℕ) (at mid count k : ℕ) (p : Step) (r : Result ℕ Stop) → k < count → WritableStep p → SpelledAt (step_tokens p) bs at mid → PathAt bs mid (count - (k + 1)) r → PathAt bs at (count - k) r
path_more bs at mid count k p r h w s f = subst (λ n. PathAt bs at n r) (let z : suc (count - (k + 1)) ≡ count - k = omega arith in z) (one_more bs at mid (count - (k + 1)) p r w s f)

pub path_stop : (bs : List ℕ) (at count k : ℕ) (stop : Stop) → k < count → ((ss : List Sort) → PendingStops requests (a_step ∷ ss) bs at stop) → PathAt bs at (count - k) (Err stop)
unfolding many
path_stop bs at count k stop h f = subst (λ n. PathAt bs at n (Err stop)) (let z : suc (count - (k + 1)) ≡ count - k = omega arith in z) (λ ss. f (many (count - (k + 1)) a_step ++ ss))

pub counted_path_stops : (bs : List ℕ) (at mid n : ℕ) (stop : Stop) → TokenAt number (num n) bs at mid → PathAt bs mid n (Err stop) → CountedPathAt bs at (Err stop)
counted_path_stops bs at mid n stop c h = λ ss. stop_later requests a_path ss (num n) bs at mid stop c.0 (h ss)

-- REQUESTS

pub check_there : (bs : List ℕ) (at mid end : ℕ) (item : Bor (List ℕ)) → TokenAt (opcode 2) (num 0) bs at mid → TokenAt string (str item.now) bs mid end → RequestFrom bs at (Ok (record { value = Check item; next = end }))
check_there bs at mid end item k t = (check item.now, refl, t.0.2.1, spelled_two (opcode 2) string (num 0) (str item.now) bs at mid end k t)

pub find_there : (bs : List ℕ) (at mid from end : ℕ) (path : Path) (item : Bor (List ℕ)) → TokenAt (opcode 2) (num 1) bs at mid → CountedPathAt bs mid (Ok (record { value = path; next = from })) → TokenAt string (str item.now) bs from end → RequestFrom bs at (Ok (record { value = Find path item; next = end }))
find_there bs at mid from end path item k (steps, c, (ps, l, w, p), e) t =
    let q = spelled_append (path_tokens ps) (str item.now ∷ []) bs steps from end p (spelled_one string (str item.now) bs from end t) in
    (find ps item.now, (ps, (l, e ∙ p.2), refl), (w, (let z = c.0.2.1 in omega arith), t.0.2.1), subst (λ n. SpelledAt (num 1 ∷ num n ∷ (path_tokens ps ++ str item.now ∷ [])) bs at end) (sym l) (spelled_append (num 1 ∷ num path.count ∷ []) (path_tokens ps ++ str item.now ∷ []) bs at steps end (spelled_two (opcode 2) number (num 1) (num path.count) bs at mid steps k c) q))

pub find_item_stops : (bs : List ℕ) (at mid : ℕ) (path : Path) (stop : Stop) → CountedPathAt bs at (Ok (record { value = path; next = mid })) → PendingStops requests (a_string ∷ []) bs mid stop → PendingStops requests (after_request 1) bs at stop
find_item_stops bs at mid path stop (from, c, (ps, l, w, p), e) s =
    stop_later requests a_path (a_string ∷ []) (num path.count) bs at from stop c.0
    (subst (λ k. PendingStops requests (many k a_step ++ a_string ∷ []) bs from stop) l (stop_after requests (many (length ps) a_step ++ a_string ∷ []) (a_string ∷ []) (path_tokens ps) bs from mid stop (path_takes ps (a_string ∷ []) w) p s))

pub fit_there : (bs : List ℕ) (at first mid from end n : ℕ) (rules item : Bor (List ℕ)) → TokenAt (opcode 2) (num 2) bs at first → TokenAt string (str rules.now) bs first mid → TokenAt number (num n) bs mid from → TokenAt string (str item.now) bs from end → RequestFrom bs at (Ok (record { value = Fit rules n item; next = end }))
fit_there bs at first mid from end n rules item k r c t =
    (fit rules.now n item.now, refl, (r.0.2.1, c.0.2.1, t.0.2.1), spelled_append (num 2 ∷ str rules.now ∷ []) (num n ∷ str item.now ∷ []) bs at mid end (spelled_two (opcode 2) string (num 2) (str rules.now) bs at first mid k r) (spelled_two number string (num n) (str item.now) bs mid from end c t))

-- RULES

abbrev opening : List ℕ → List Token
opening rules = num 2 ∷ str rules ∷ []

opened : (bs rules rest : List ℕ) → bs ≡ spell (opening rules) ++ rest → SpelledAt (opening rules) bs 0 (length (spell (opening rules)))
opened bs rules rest e =
    let n = length (spell (opening rules)) in
    (omega arith, (let z = ap length e in let y = length-append (spell (opening rules)) rest in omega arith), ap (λ k. take k bs) (let z : n - 0 ≡ n = omega arith in z) ∙ ap (take n) e ∙ take_at (spell (opening rules)) rest n refl)

-- no opcode there
pub none_without_opcode : (bs rules : List ℕ) (stop : Stop) → Stopped (Any (TokenOf (opcode 2))) bs 0 stop → RulesThere bs rules → ⊥
none_without_opcode bs rules stop h (b, (rest, e)) = none_stands (opcode 2) (num 2) (str rules ∷ []) bs 0 (length (spell (opening rules))) stop (omega arith, omega arith) (opened bs rules rest e) h

-- the opcode there, and the rules after it
after_opcode : (bs rules : List ℕ) (n mid : ℕ) → TokenAt (opcode 2) (num n) bs 0 mid → RulesThere bs rules → (n ≡ 2) × SpelledAt (str rules ∷ []) bs mid (length (spell (opening rules)))
after_opcode bs rules n mid t (b, (rest, e)) =
    let (f, p) = same_token (opcode 2) (num n) (num 2) (str rules ∷ []) bs 0 mid (length (spell (opening rules))) t.0 (omega arith, omega arith) (opened bs rules rest e) in
    (cc, p)

pub none_of_another : (bs rules : List ℕ) (k : Kind) (mid : ℕ) → TokenAt (opcode 2) (num (kind_number k)) bs 0 mid → (k ≡ KindCheck) ⊎ (k ≡ KindFind) → RulesThere bs rules → ⊥
none_of_another bs rules k mid t (inl e) h = let z = (after_opcode bs rules (kind_number k) mid t h).0 in let y : kind_number k ≡ 0 = ap kind_number e in omega arith
none_of_another bs rules k mid t (inr e) h = let z = (after_opcode bs rules (kind_number k) mid t h).0 in let y : kind_number k ≡ 1 = ap kind_number e in omega arith

pub none_without_string : (bs rules : List ℕ) (mid : ℕ) (stop : Stop) → TokenAt (opcode 2) (num 2) bs 0 mid → Stopped (Any (TokenOf string)) bs mid stop → RulesThere bs rules → ⊥
none_without_string bs rules mid stop t h r = none_stands string (str rules) [] bs mid (length (spell (opening rules))) stop r.0 (after_opcode bs rules 2 mid t r).1 h

pub rules_there : (bs rules : List ℕ) (mid end : ℕ) → TokenAt (opcode 2) (num 2) bs 0 mid → TokenAt string (str rules) bs mid end → RulesThere bs rules × ((other : List ℕ) → RulesThere bs other → other ≡ rules)
rules_there bs rules mid end t r =
    let p = spelled_two (opcode 2) string (num 2) (str rules) bs 0 mid end t r in
    let k : end - 0 ≡ end = omega arith in (
      (r.0.2.1, (drop end bs, sym (take-append-drop end bs) ∙ ap (λ u. u ++ drop end bs) (ap (λ j. take j bs) (sym k) ∙ p.2))),
      λ other h. let g = same_token string (str rules) (str other) [] bs mid end (length (spell (opening other))) r.0 h.0 (after_opcode bs other 2 mid t h).1 in let f = g.0 in cc,
    )

pub rules_told : (old new : Reader) (r : Result (Bor (List ℕ)) Stop) → TokenAt (opcode 2) (num 2) old.bytes.now 0 old.at → Reads StringAt old new r → RulesIn old.bytes.now (result_ok r)
rules_told old new (Ok rules) t (b, h) = rules_there old.bytes.now rules.now old.at new.at t h
rules_told old new (Err stop) t h = λ rules. none_without_string old.bytes.now rules old.at stop t h

-- from their first byte
from_start : (bs : List ℕ) (stop : Stop) → PendingStops requests (a_request ∷ []) bs 0 stop → RequestAt bs (Err stop)
from_start bs stop (h, s) = stops_request bs stop.place stop.least (let p : stop.place - 0 ≡ stop.place = omega arith in let n : stop.least - 0 ≡ stop.least = omega arith in subst (λ x. Stops (Any (Completes requests (a_request ∷ []))) bs x stop.least) p (subst (λ x. Stops (Any (Completes requests (a_request ∷ []))) bs (stop.place - 0) x) n s))

pub whole : (bs : List ℕ) (r : Result (Parsed Request) Stop) → RequestFrom bs 0 r → RequestAt bs r
whole bs (Ok x) (a, m, w, p) = (a, m, (ap (λ k. take k bs) (let z : x.next ≡ x.next - 0 = omega arith in z) ∙ p.2, w), p.1)
whole bs (Err stop) s = from_start bs stop s

-- READ BACK

pub reads_back : (bs : List ℕ) (r : Result (Parsed Request) Stop) → RequestAt bs r → ReadsBack bs r
reads_back bs (Ok x) (b, m, (e, w), l) a rest v f =
    let z = one_way b a (drop x.next bs) rest w v (ap (λ y. y ++ drop x.next bs) (sym e) ∙ take-append-drop x.next bs ∙ f) in
    let n : x.next ≡ length (write a) = (let y = part_length bs 0 x.next (omega arith) l in let k : x.next ≡ x.next - 0 = omega arith in k ∙ sym y ∙ ap (λ j. length (take j bs)) (sym k) ∙ ap length e ∙ ap (λ j. length (write j)) z.0) in
    (subst (λ j. Means x.value j) z.0 m, n)
reads_back bs (Err stop) s a rest v f = s.unread (write a) rest (a, (refl, v)) f

pub request_some : (a : Asked) → 0 < length (write a)
unfolding spell
request_some (check item) = omega arith
request_some (find path item) = omega arith
request_some (fit rules which item) = omega arith

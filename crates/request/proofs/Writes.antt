-- Requests written, part by part.
use Rattle.std.proofs.Common.{◌≡◌, ℕ, ◌+◌, ◌<◌, ◌≤◌, List, [], ◌∷◌, ◌++◌, length, Some, None, Option, sym, ap, ◌∙◌, subst, inl, inr, append_assoc, arith, length-append, Bor}
use Rattle.std.specs.Option.{SomeIff}
use Rattle.std.proofs.lemmas.List.{append-nil}
use Rattle.std.proofs.lemmas.Bool.{cases_lt}
use Rattle.cbor.specs.Writing.{Writes}
use Rattle.cbor.proofs.Writes.{writes_then}
use Rattle.sequence.specs.Token.{num, str, token_bytes, spell}
use Rattle.sequence.specs.Writing.{SizeOf}
use Rattle.sequence.proofs.Grammars.{spell_append}
use Rattle.request.specs.declared.reading.Path.{Path}
use Rattle.request.specs.declared.reading.Request.TheVariants.{Find}
use Rattle.request.specs.Asked.{Asked, path_tokens, write}
use Rattle.request.specs.Reading.{Means}
use Rattle.request.specs.Writing.{find_bytes, request_bytes}

heads_length : (p : Path) (item : List ℕ) → length (find_bytes p item) ≡ length (spell (num 1 ∷ num p.count ∷ str item ∷ [])) + length p.steps.now
unfolding spell
heads_length p item =
    let u = token_bytes (num 1) in
    let v = token_bytes (num p.count) in
    let w = p.steps.now in
    let x = token_bytes (str item) in
    omega (arith, length-append u (v ++ (w ++ x)), length-append v (w ++ x), length-append w x, length-append u (v ++ (x ++ [])), length-append v (x ++ []), ap length (append-nil x))

pub find_too_large : (p : Path) (item : List ℕ) → 18446744073709551616 ≤ length (spell (num 1 ∷ num p.count ∷ str item ∷ [])) → 18446744073709551616 ≤ length (find_bytes p item)
find_too_large p item h = omega (arith, heads_length p item)

pub find_sum : (p : Path) (item : List ℕ) (a : ℕ) (r : Option ℕ) → a ≡ length (spell (num 1 ∷ num p.count ∷ str item ∷ [])) → SomeIff r (a + length p.steps.now < 18446744073709551616) (a + length p.steps.now) → SizeOf (find_bytes p item) r
find_sum p item a (Some n) e (h, f) = omega (arith, heads_length p item)
find_sum p item a None e h = elim (cases_lt (a + length p.steps.now) 18446744073709551616) [ inl l ↦ absurd (h l) | inr l ↦ omega (arith, heads_length p item) ]

-- four strings, with room for all of them
pub four_written : (old o p q s u v w x : List ℕ) (at mid from end : ℕ) (r : Option ℕ) → at + length (u ++ (v ++ (w ++ x))) ≤ length old → Writes old at u o (Some mid) → Writes o mid v p (Some from) → Writes p from w q (Some end) → Writes q end x s r → Writes old at (u ++ (v ++ (w ++ x))) s r
four_written old o p q s u v w x at mid from end r room a b c d =
    let l = length-append u (v ++ (w ++ x)) in
    let m = length-append v (w ++ x) in
    let n = length-append w x in
    let i = length-append u v in
    let j = length-append (u ++ v) w in
    let k = length-append ((u ++ v) ++ w) x in
    let two = writes_then old o p u v at mid (Some from) (omega arith) a b in
    let three = writes_then old p q (u ++ v) w at from (Some end) (omega arith) two c in
    subst (λ y. Writes old at y s r) (append_assoc (u ++ v) w x ∙ append_assoc u v (w ++ x)) (writes_then old q s ((u ++ v) ++ w) x at end r (omega arith) three d)

-- a request to find has the bytes of what it means
pub find_meaning : (p : Path) (item : Bor (List ℕ)) (a : Asked) → Means (Find p item) a → request_bytes (Find p item) ≡ write a
unfolding spell
find_meaning p item a (ps, (l, e), f) =
    let x = token_bytes (str item.now) in
    let g : spell (path_tokens ps ++ str item.now ∷ []) ≡ p.steps.now ++ x = spell_append (path_tokens ps) (str item.now ∷ []) ∙ (λ i. sym e i ++ append-nil x i) in
    (λ i. token_bytes (num 1) ++ (token_bytes (num (sym l i)) ++ sym g i)) ∙ ap write (sym f)

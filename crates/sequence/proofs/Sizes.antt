-- Tokens added up, one by one.
use Rattle.std.proofs.Common.{◌≡◌, ℕ, ◌+◌, ◌<◌, ◌≤◌, List, [], ◌∷◌, ◌++◌, length, get_or, take, drop, Some, None, Option, sym, ap, ◌∙◌, inl, inr, arith, length-append, take-append-drop}
use Rattle.std.specs.Option.{SomeIff}
use Rattle.std.proofs.lemmas.List.{append-nil, map-append, take_more, take_all}
use Rattle.std.proofs.lemmas.Bool.{cases_lt}
use Rattle.cbor.specs.Writing.{Writes}
use Rattle.sequence.specs.declared.writing.Token.{Token as LentToken}
use Rattle.sequence.specs.declared.writing.Token.TheVariants.{Number}
use Rattle.sequence.specs.Token.{token_bytes, spell}
use Rattle.sequence.specs.Writing.{SizeOf, token_of, tokens_of}
use Rattle.sequence.proofs.Grammars.{spell_append}

-- by `checked_add`
pub sum_size : (u v : List ℕ) (a b : ℕ) (r : Option ℕ) → a ≡ length u → b ≡ length v → SomeIff r (a + b < 18446744073709551616) (a + b) → SizeOf (u ++ v) r
sum_size u v a b (Some n) p q (h, e) = omega (arith, length-append u v)
sum_size u v a b None p q h = elim (cases_lt (a + b) 18446744073709551616) [ inl l ↦ absurd (h l) | inr l ↦ omega (arith, length-append u v) ]

pub spelled_more : (ts : List LentToken) (i : ℕ) → i < length ts → spell (tokens_of (take (i + 1) ts)) ≡ spell (tokens_of (take i ts)) ++ token_bytes (token_of (get_or ts i (Number 0)))
unfolding spell
spelled_more ts i h =
    let t = get_or ts i (Number 0) in
    ap (λ x. spell (tokens_of x)) (take_more ts i (Number 0) h) ∙ ap spell (map-append token_of (take i ts) (t ∷ [])) ∙ spell_append (tokens_of (take i ts)) (token_of t ∷ []) ∙ ap (λ x. spell (tokens_of (take i ts)) ++ x) (append-nil (token_bytes (token_of t)))

-- with the next one they are no longer than all
pub spelled_part : (ts : List LentToken) (i : ℕ) → i < length ts → length (spell (tokens_of (take i ts)) ++ token_bytes (token_of (get_or ts i (Number 0)))) ≤ length (spell (tokens_of ts))
spelled_part ts i h =
    let e : spell (tokens_of ts) ≡ spell (tokens_of (take (i + 1) ts)) ++ spell (tokens_of (drop (i + 1) ts)) = ap (λ x. spell (tokens_of x)) (sym (take-append-drop (i + 1) ts)) ∙ ap spell (map-append token_of (take (i + 1) ts) (drop (i + 1) ts)) ∙ spell_append (tokens_of (take (i + 1) ts)) (tokens_of (drop (i + 1) ts)) in
    omega (arith, ap length e, length-append (spell (tokens_of (take (i + 1) ts))) (spell (tokens_of (drop (i + 1) ts))), ap length (spelled_more ts i h))

pub spelled_all : (ts : List LentToken) (i : ℕ) → length ts ≤ i → spell (tokens_of (take i ts)) ≡ spell (tokens_of ts)
spelled_all ts i h = ap (λ x. spell (tokens_of x)) (take_all i ts h)

-- none of them is written yet
pub writes_none : (ts : List LentToken) (old : List ℕ) (at : ℕ) → at ≤ length old → Writes old at (spell (tokens_of (take 0 ts))) old (Some at)
unfolding spell
writes_none ts old at h = (omega arith, h, sym (take-append-drop at old))

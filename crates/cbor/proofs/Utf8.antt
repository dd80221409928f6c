-- Texts by the first bytes of their characters; they are bytes, and bytes below 128 are a text.
use Rattle.std.proofs.Common.{◌≡◌, ℕ, zero, suc, ◌<◌, ◌≤◌, true, ◌&&◌, eqb, ltb, leb, ◌⊎◌, List, [], ◌∷◌, length, replicate, refl, inl, inr, arith}
use Rattle.std.proofs.lemmas.Bool.{lt-ltb, le-ltb, leb-true, and_parts, and_from, cases_lt, cases_Bool, cond_both}
use Rattle.std.proofs.lemmas.Bool.Decides.{nat_tests}
use Rattle.cbor.specs.Encoding.{all_bytes}
use Rattle.cbor.specs.Utf8.{Range, tail, second, leads, tails, first_in, utf8_after, utf8}

-- BY THE FIRST BYTE

pub leads_from : (a : ℕ) → (a < 128) ⊎ ((194 ≤ a) × (a ≤ 244)) → leads a ≡ true
leads_from a h = grind (arith, nat_tests)

pub leads_says : (a : ℕ) → leads a ≡ true → (a < 128) ⊎ ((194 ≤ a) × (a ≤ 244))
leads_says a h = grind (arith, nat_tests)

pub first_in_parts : (n a : ℕ) → first_in n a ≡ true → (leads a ≡ true) × (suc (length (tails a)) ≤ n)
first_in_parts n a h = let p = and_parts (leads a) (leb (suc (length (tails a))) n) h in (p.0, leb-true (suc (length (tails a))) n p.1)

pub tails_two : (a : ℕ) → 128 ≤ a → a < 224 → tails a ≡ tail ∷ []
tails_two a h l = rw (le-ltb a 128 h, lt-ltb a 224 l)

pub tails_three : (a : ℕ) → 224 ≤ a → a < 240 → tails a ≡ second a ∷ tail ∷ []
tails_three a h l = rw (le-ltb a 128 (omega arith), le-ltb a 224 h, lt-ltb a 240 l)

pub tails_four : (a : ℕ) → 240 ≤ a → tails a ≡ second a ∷ tail ∷ tail ∷ []
tails_four a h = rw (le-ltb a 128 (omega arith), le-ltb a 224 (omega arith), le-ltb a 240 h)

-- ranges that have a byte
abbrev pub Fair : List Range → Type 0
Fair [] = Unit {0}
Fair (r ∷ rs) = (r.0 ≤ r.1) × Fair rs

second_fair : (a : ℕ) → (second a).0 ≤ (second a).1
second_fair a = elim (cases_Bool (eqb a 224)) [
  | inl h ↦ rw h (omega arith)
  | inr h ↦ rw h (elim (cases_Bool (eqb a 237)) [
    | inl k ↦ rw k (omega arith)
    | inr k ↦ rw k (elim (cases_Bool (eqb a 240)) [ inl l ↦ rw l (omega arith) | inr l ↦ rw l (elim (cases_Bool (eqb a 244)) [ inl m ↦ rw m (omega arith) | inr m ↦ rw m (omega arith) ]) ])
  ])
]

pub tails_fair : (a : ℕ) → Fair (tails a)
tails_fair a = elim (cases_lt a 128) [
  | inl h ↦ rw (lt-ltb a 128 h) tt
  | inr h ↦ rw (le-ltb a 128 h)
      (elim (cases_lt a 224) [
        | inl l ↦ rw (lt-ltb a 224 l) (omega arith, tt)
        | inr l ↦ rw (le-ltb a 224 l) (elim (cases_lt a 240) [ inl m ↦ rw (lt-ltb a 240 m) (second_fair a, (omega arith, tt)) | inr m ↦ rw (le-ltb a 240 m) (second_fair a, (omega arith, (omega arith, tt))) ])
      ])
]

-- BYTES

-- ranges of bytes
abbrev ByteRanges : List Range → Type 0
ByteRanges [] = Unit {0}
ByteRanges (r ∷ rs) = (r.1 < 256) × ByteRanges rs

second_bytes : (a : ℕ) → (second a).1 < 256
second_bytes a =
    let P : Range → Type 0 = λ r. r.1 < 256 in
    cond_both (eqb a 224) (160, 191) _ P (λ _. omega arith)
    (λ _. cond_both (eqb a 237) (128, 159) _ P (λ _. omega arith)
    (λ _. cond_both (eqb a 240) (144, 191) _ P (λ _. omega arith) (λ _. cond_both (eqb a 244) (128, 143) tail P (λ _. omega arith) (λ _. omega arith))))

tails_bytes : (a : ℕ) → ByteRanges (tails a)
tails_bytes a =
    cond_both (ltb a 128) [] _ ByteRanges (λ _. tt)
    (λ _. cond_both (ltb a 224) (tail ∷ []) _ ByteRanges (λ _. (omega arith, tt))
    (λ _. cond_both (ltb a 240) (second a ∷ tail ∷ []) (second a ∷ tail ∷ tail ∷ []) ByteRanges
    (λ _. (second_bytes a, (omega arith, tt))) (λ _. (second_bytes a, (omega arith, (omega arith, tt))))))

leads_byte : (a : ℕ) → leads a ≡ true → ltb a 256 ≡ true
leads_byte a h = grind (arith, nat_tests)

utf8_after_bytes : (bs : List ℕ) (rs : List Range) → ByteRanges rs → utf8_after rs bs ≡ true → all_bytes bs ≡ true
unfolding utf8_after all_bytes
utf8_after_bytes [] rs r h = refl
utf8_after_bytes (a ∷ bs) [] r h =
    let p = and_parts (leads a) (utf8_after (tails a) bs) h in
    and_from (ltb a 256) (all_bytes bs) (leads_byte a p.0) (utf8_after_bytes bs (tails a) (tails_bytes a) p.1)
utf8_after_bytes (b ∷ bs) (q ∷ rs) r h =
    let p = and_parts (leb q.0 b && leb b q.1) (utf8_after rs bs) h in
    let l = leb-true b q.1 (and_parts (leb q.0 b) (leb b q.1) p.0).1 in
    and_from (ltb b 256) (all_bytes bs) (lt-ltb b 256 (omega arith)) (utf8_after_bytes bs rs r.1 p.1)

pub utf8_bytes : (bs : List ℕ) → utf8 bs ≡ true → all_bytes bs ≡ true
utf8_bytes bs h = utf8_after_bytes bs [] tt h

pub utf8_replicate : (n a : ℕ) → a < 128 → utf8 (replicate n a) ≡ true
unfolding utf8_after
utf8_replicate zero a h = refl
utf8_replicate (suc n) a h = rw (lt-ltb a 128 h) (utf8_replicate n a h)
